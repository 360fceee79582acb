-- A transition by where its acts are made: places that are worked out once, when its call begins.
use Rattle.std.specs.Prelude.{◌≡◌, ℕ, ◌+◌, Bool, false, not, ◌==◌, true, ◌&&◌, List, Option, Some, None, IsTrue, is_some, if◌then◌else◌}
use Rattle.std.specs.Int.{bit_not, w64}
use Rattle.std.specs.Int.Bits.{bit_and}
use Rattle.gpi_values.specs.Values.{value_of}
use Rattle.gpt_descriptors.specs.declared.size.Size.{Size}
use Rattle.gpt_descriptors.specs.declared.size.Size.TheVariants as size
use Rattle.gpt_descriptors.specs.Sizes.{generation_in}
use Rattle.gpt_descriptors.specs.Entries.{l1_entry}
use Rattle.gpt_descriptors.specs.Fields.{with_field}
use Rattle.gpi_values.specs.declared.gpi.Space.{Space}
use Rattle.gpt_descriptors.specs.Places.{GeometryData, IsGeometry, l1_place_of, line_place_of, gen_place_of}
use Rattle.shared_words.specs.declared.act.Act.{Act}
use Rattle.shared_words.specs.declared.act.Act.TheVariants as act
use Rattle.shared_words.specs.Next.{old_by}
use Rattle.bit_locks.specs.Locks.{take_act, release_act}
use Rattle.invalidate.specs.Barrier.{next_load}
use Rattle.alias_clean.specs.Lines.{mask_of}
use Rattle.history.specs.declared.call.Task.{Task}
use Rattle.history.specs.declared.call.Task.TheVariants as task
use Rattle.history.specs.declared.call.Answer.{Answer}
use Rattle.delegate_ops.specs.declared.places.Places.{Places}
use Rattle.delegate_ops.specs.declared.stage.Change.{Change}
use Rattle.delegate_ops.specs.InnerStages.{Stage}
use Rattle.delegate_ops.specs.InnerStages as stage
use Rattle.shatter.specs.Splitting.{next_store}
use Rattle.fuse.specs.Merging as fuse
use Rattle.delegate_ops.specs.declared.progress.Progress.{Progress}
use Rattle.delegate_ops.specs.declared.progress.Turned.{Turned}
use Rattle.delegate_ops.specs.declared.progress.Turned.TheVariants as turned
use Rattle.delegate_ops.specs.InnerStages.{stage_of, waits_in}
use Rattle.delegate_ops.specs.Deciding.{address_of, granule_place, idle_answer}
use Rattle.delegate_ops.specs.Changing.{to_of, target_space, space_of_line}
use Rattle.delegate_ops.specs.Script.{lock_bit_of}
use Rattle.delegate_ops.specs.InnerAgents.{IsStage, number_of, stage_after}

-- ---- places

abbrev pub generation_place : Places → Size → ℕ
generation_place p size.Two = p.two
generation_place p size.ThirtyTwo = p.thirty_two
generation_place p size.FiveTwelve = p.five_twelve

-- the places of a task
abbrev pub places_of : GeometryData → Task → Places
places_of g t = record {
  lock = lock_bit_of g t;
  word = number_of (l1_place_of g (address_of t));
  field = granule_place g (address_of t);
  line = number_of (line_place_of g (address_of t));
  two = gen_place_of g size.Two (address_of t);
  thirty_two = gen_place_of g size.ThirtyTwo (address_of t);
  five_twelve = gen_place_of g size.FiveTwelve (address_of t);
}

-- ---- a transition, its next act, and where that leaves it

pub record TransitionData : Type 0 where
  pub task : Task
  pub places : Places
  pub stage : Stage
  pub waited : Bool

-- before its first act
abbrev pub begun : GeometryData → Task → TransitionData
begun g t = record { task = t; places = places_of g t; stage = stage.Locking; waited = false }

-- the L1 word after a change of its granule
abbrev pub word_after : Places → Task → Change → ℕ → ℕ
word_after p t c word = with_field word p.field (value_of (to_of t c))

-- the clean of the line of its granule and a space
abbrev pub clean_by : Places → Space → Act
clean_by p s = act.And p.line (bit_not w64 (mask_of p.field s))

abbrev pub act_by : GeometryData → Places → Stage → Task → Option Act
act_by g p stage.Locking t = Some (take_act p.lock)
act_by g p stage.Looking t = Some (act.Load p.word)
act_by g p (stage.Reading z k) t = Some (act.Load (generation_place p z))
act_by g p (stage.Splitting z d k) t = next_store d
act_by g p (stage.Preparing k) t = Some (clean_by p (target_space t))
act_by g p (stage.Changing c k) t = Some (act.Store p.word (word_after p t c k.word))
act_by g p (stage.Raising c z k) t =
    Some (act.Store (generation_place p z) (generation_in z k.generations + 1))
act_by g p (stage.Passing c d k) t = next_load g d
act_by g p (stage.Cleaning c l k) t = Some (clean_by p (space_of_line t c l))
act_by g p (stage.Merging f k) t = fuse.next_of f
act_by g p (stage.Releasing answer) t = Some (release_act p.lock)

abbrev pub next_by : GeometryData → TransitionData → Option Act
next_by g d = act_by g d.places d.stage d.task

-- the act was a lock that wasn't free, or a load of a duty word that wasn't 0
abbrev pub is_held_by : Places → Stage → ℕ → Bool
is_held_by p stage.Locking old = not (bit_and old p.lock.mask == 0)
is_held_by p (stage.Passing c d k) old = not (old == 0)
is_held_by p s old = false

-- the answer with which its next act, the release of its lock, ends it
abbrev pub answer_by : Stage → Option Answer
answer_by (stage.Releasing given) = Some given
answer_by s = None

abbrev pub waits_by : TransitionData → TransitionData
waits_by d = record { task = d.task; places = d.places; stage = d.stage; waited = true }

abbrev pub goes_by : TransitionData → Stage → TransitionData
goes_by d s = record { task = d.task; places = d.places; stage = s; waited = false }

abbrev pub unended : GeometryData → TransitionData → ℕ → Option Answer → TransitionData
unended g d old (Some answer) = d
unended g d old None =
    if is_held_by d.places d.stage old then waits_by d
    else goes_by d (stage_after g d.task d.stage old)

-- after an act that answered this word; one that is answered is left as it was
abbrev pub after_by : GeometryData → TransitionData → ℕ → TransitionData
after_by g d old = unended g d old (answer_by d.stage)

-- ---- which transitions there are

abbrev pub IsMove : Task → Type 0
IsMove (task.Delegate pa source) = Unit {0}
IsMove (task.Undelegate pa source) = Unit {0}
IsMove t = ⊥

-- the L1 word that it keeps while it loads the generations is a descriptor
abbrev pub KeepsDescriptor : Stage → Type 0
KeepsDescriptor (stage.Reading z k) = IsTrue (is_some (l1_entry k.word))
KeepsDescriptor s = Unit {0}

-- it is at the places of its task, which moves a granule and has acts
pub record IsTransition (g : GeometryData) (d : TransitionData) : Type 0 where
  pub geometry : IsGeometry g
  pub places : d.places ≡ places_of g d.task
  pub acts : idle_answer g d.task ≡ None
  pub moves : IsMove d.task
  pub stage : IsStage g d.stage (Some d.task)
  pub kept : KeepsDescriptor d.stage

-- ---- a transition by its progress

abbrev pub at_progress : Task → Places → Progress → TransitionData
at_progress t p q =
    record { task = t; places = p; stage = stage_of q; waited = waits_in q.phase }

-- its next act, and what that answers on these words
abbrev pub next_in : GeometryData → Task → Places → Progress → Option Act
next_in g t p q = next_by g (at_progress t p q)

abbrev pub old_in : GeometryData → Task → Places → Progress → List ℕ → ℕ
old_in g t p q words = old_by (next_in g t p q) words

-- it is at this stage, and doesn't wait
abbrev pub GoesTo : Progress → Stage → Type 0
GoesTo q s = (stage_of q ≡ s) × (waits_in q.phase ≡ false)

-- what a turn was whose act answered this word
abbrev pub turned_at : Option Answer → Bool → Turned
turned_at (Some given) again = turned.Ends
turned_at None true = turned.Still
turned_at None false = turned.Goes

abbrev pub turned_by : TransitionData → ℕ → Turned
turned_by d old =
    turned_at (answer_by d.stage) (d.waited && is_held_by d.places d.stage old)

-- ---- an agent's transition

abbrev pub stage_in : Option TransitionData → Stage
stage_in None = stage.Locking
stage_in (Some d) = d.stage

abbrev pub waited_in : Option TransitionData → Bool
waited_in None = false
waited_in (Some d) = d.waited

-- it is that of the task under way
abbrev pub IsUnderWay : GeometryData → Option Task → Option TransitionData → Type 0
IsUnderWay g None None = Unit {0}
IsUnderWay g (Some t) (Some d) = (d.task ≡ t) × IsTransition g d
IsUnderWay g o u = ⊥
