-- How far a call has come, with what it keeps, as plain data.
use Rattle.std.specs.Prelude.{ℕ, Bool, true, false}
use Rattle.gpt_descriptors.specs.declared.size.Size.{Size}
use Rattle.gpt_descriptors.specs.declared.size.Generations.{Generations}
use Rattle.gpt_descriptors.specs.Sizes.{generation_in, with_generation}
use Rattle.shatter.specs.Splitting.{SplittingData}
use Rattle.fuse.specs.Merging.{FuseData}
use Rattle.invalidate.specs.Barrier.{BarrierData}
use Rattle.history.specs.declared.call.Answer.{Answer}
use Rattle.history.specs.declared.call.Answer.TheVariants as answer
use Rattle.delegate_ops.specs.declared.stage.Change.{Change}
use Rattle.delegate_ops.specs.declared.stage.Line.{Line}
use Rattle.delegate_ops.specs.declared.stage.Kept.{Kept}
use Rattle.delegate_ops.specs.declared.stage.Ending.{Ending}
use Rattle.delegate_ops.specs.declared.stage.Ending.TheVariants as ending
use Rattle.delegate_ops.specs.declared.stage.Phase.{Phase}
use Rattle.delegate_ops.specs.declared.stage.Phase.TheVariants as phase
use Rattle.delegate_ops.specs.declared.progress.Progress.{Progress}

pub data Stage : Type 0 where
  Locking : Stage
  Looking : Stage
  Reading : Size → Kept → Stage
  Splitting : Size → SplittingData → Generations → Stage
  Preparing : Kept → Stage
  Changing : Change → Kept → Stage
  Raising : Change → Size → Kept → Stage
  Passing : Change → BarrierData → Kept → Stage
  Cleaning : Change → Line → Kept → Stage
  Merging : FuseData → Generations → Stage
  Releasing : Answer → Stage

-- with the generation of a size as it was loaded or stored
abbrev pub kept_read : Size → ℕ → Kept → Kept
kept_read z value k =
    record { word = k.word; generations = with_generation z value k.generations }

-- what a transition is answered that keeps these generations
abbrev pub answer_for : Ending → Generations → Answer
answer_for (ending.Refused found) k = answer.Perm found
answer_for (ending.Worn z) k = answer.Worn z (generation_in z k)
answer_for ending.Done k = answer.Done k

-- the stage of a phase, by what is kept
abbrev pub stage_at : Phase → Kept → SplittingData → BarrierData → FuseData → Stage
stage_at phase.Locking k d b f = Locking
stage_at phase.Waiting k d b f = Locking
stage_at phase.Looking k d b f = Looking
stage_at (phase.Reading z) k d b f = Reading z k
stage_at (phase.Splitting z) k d b f = Splitting z d k.generations
stage_at phase.Preparing k d b f = Preparing k
stage_at (phase.Changing c) k d b f = Changing c k
stage_at (phase.Raising c z) k d b f = Raising c z k
stage_at (phase.Passing c) k d b f = Passing c b k
stage_at (phase.Blocked c) k d b f = Passing c b k
stage_at (phase.Cleaning c l) k d b f = Cleaning c l k
stage_at phase.Merging k d b f = Merging f k.generations
stage_at (phase.Releasing e) k d b f = Releasing (answer_for e k.generations)

abbrev pub stage_of : Progress → Stage
stage_of p = stage_at p.phase p.kept p.splitting p.barrier p.merging

-- the last act was a lock that wasn't free, or a load of a duty word that wasn't 0
abbrev pub waits_in : Phase → Bool
waits_in phase.Waiting = true
waits_in (phase.Blocked c) = true
waits_in p = false
