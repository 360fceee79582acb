-- An access under way: its next act, and where that leaves it.
use Rattle.std.specs.Prelude.{ℕ, Bool, true, false, List, ◌∷◌, [], ◌++◌, ◌==◌, Option, Some, None, if◌then◌else◌}
use Rattle.std.specs.Option.{option_map}
use Rattle.gpi_values.specs.declared.gpi.Gpi.{Gpi}
use Rattle.gpi_values.specs.declared.gpi.Space.{Space}
use Rattle.gpt_descriptors.specs.declared.size.Size.{Size}
use Rattle.gpt_descriptors.specs.declared.size.Size.TheVariants as size
use Rattle.gpt_descriptors.specs.declared.size.Generations.{Generations}
use Rattle.gpt_descriptors.specs.Sizes.{tag_size_of, with_generation}
use Rattle.gpt_descriptors.specs.Places.{GeometryData, l1_place_of}
use Rattle.shared_words.specs.declared.act.Act.{Act}
use Rattle.shared_words.specs.declared.act.Act.TheVariants as act
use Rattle.shared_words.specs.Next.{old_by}
use Rattle.invalidate.specs.Duty.{on_act, off_act}
use Rattle.invalidate.specs.Generations.{gen_load_of}
use Rattle.alias_clean.specs.Lines.{touch_of}
use Rattle.walk_cache.specs.declared.walk.Walk.{Walk}
use Rattle.walk_cache.specs.Rings.{RingData, newest_of, last_of}
use Rattle.history.specs.declared.call.Access.{Access}
use Rattle.history.specs.declared.call.OldWalk.{OldWalk}
use Rattle.history.specs.declared.call.Answer.{Answer}
use Rattle.history.specs.declared.call.Answer.TheVariants as answer
use Rattle.history.specs.declared.call.Via.{Via}
use Rattle.history.specs.declared.call.Via.TheVariants as via
use Rattle.history.specs.Stamps.{walked}
use Rattle.processor.specs.declared.progress.Phase.{Phase}
use Rattle.processor.specs.declared.progress.Phase.TheVariants as phase
use Rattle.processor.specs.declared.progress.Progress.{Progress}
use Rattle.processor.specs.Accesses.{walk_of, walk_gpi, table_access}

-- how far an access has come, with what it keeps: its next act sets the duty word; loads the
-- generation of the newest kept walk that covers its address; loads the generation of a size, those
-- of smaller sizes being loaded; loads the L1 word; loads the generation of the word's reach again,
-- since the word has decided; makes the line resident, since the access is allowed; or clears the
-- duty word, and ends the access, which is answered so. A kept walk that wasn't hit goes along.
pub data Stage : Type 0 where
  Starting : Stage
  Trying : Walk → Stage
  Loading : Size → Generations → Option OldWalk → Stage
  Walking : Generations → Option OldWalk → Stage
  Closing : Walk → Option OldWalk → Stage
  Touching : Access → Stage
  Leaving : Access → Stage

-- the next act of processor p, at an access to this address in this space that has come so far
abbrev pub act_at : GeometryData → ℕ → ℕ → Space → Stage → Option Act
act_at g p pa space Starting = Some (on_act g p)
act_at g p pa space (Trying w) = Some (gen_load_of g (tag_size_of w.reach) pa)
act_at g p pa space (Loading z k m) = Some (gen_load_of g z pa)
act_at g p pa space (Walking k m) = option_map act.Load (l1_place_of g pa)
act_at g p pa space (Closing w m) = Some (gen_load_of g (tag_size_of w.reach) pa)
act_at g p pa space (Touching a) = touch_of g pa space
act_at g p pa space (Leaving a) = Some (off_act g p)

-- no generation is loaded yet
abbrev pub no_generations : Generations
no_generations = record { two = 0; thirty_two = 0; five_twelve = 0 }

-- where an access goes on that has found this walk in its ring, or none
abbrev pub after_search : Option Walk → Stage
after_search None = Loading size.Two no_generations None
after_search (Some w) = Trying w

-- a walk that was found and isn't hit
abbrev pub old_walk : Walk → ℕ → OldWalk
old_walk w at = record { reach = w.reach; tag = w.tag; at = at }

-- where an access goes on that is decided: one that isn't allowed makes no line resident
abbrev pub decided_stage : Access → Stage
decided_stage access = if access.allowed then Touching access else Leaving access

-- where an access goes on that this GPI decides; a word that is no descriptor leaves it as it was
abbrev pub after_decision : Stage → Option Gpi → Space → Via → Stage
after_decision s None space v = s
after_decision s (Some gpi) space v = decided_stage (table_access space gpi v)

-- where it goes on that has loaded the generation of the found walk
abbrev pub after_try : GeometryData → ℕ → Space → Walk → ℕ → Stage
after_try g pa space w at =
    if at == w.tag then after_decision (Trying w) (walk_gpi g pa w) space (via.Hit w.reach w.tag)
    else Loading size.Two no_generations (Some (old_walk w at))

-- where it goes on that has loaded the generation of this size
abbrev pub after_load : Size → Generations → Option OldWalk → Stage
after_load size.Two k m = Loading size.ThirtyTwo k m
after_load size.ThirtyTwo k m = Loading size.FiveTwelve k m
after_load size.FiveTwelve k m = Walking k m

-- where it goes on that has loaded the L1 word; a word that is no descriptor leaves it as it was
abbrev pub after_word : Generations → Option OldWalk → Option Walk → Stage
after_word k m (Some w) = Closing w m
after_word k m None = Walking k m

-- where it goes on after its next act, which answered this word, if it doesn't end there; the
-- processor keeps these walks
abbrev pub after_at : GeometryData → List Walk → ℕ → Space → Stage → ℕ → Stage
after_at g kept pa space Starting old = after_search (newest_of kept pa)
after_at g kept pa space (Trying w) old = after_try g pa space w old
after_at g kept pa space (Loading z k m) old = after_load z (with_generation z old k) m
after_at g kept pa space (Walking k m) old = after_word k m (walk_of pa k old)
after_at g kept pa space (Closing w m) old =
    after_decision (Closing w m) (walk_gpi g pa w) space (walked m w.reach w.tag old)
after_at g kept pa space (Touching a) old = Leaving a
after_at g kept pa space (Leaving a) old = Leaving a

-- the ring after it: a walk that was made is kept
abbrev pub ring_after : Stage → RingData → RingData
ring_after (Closing w m) r =
    record { walks = last_of r.ring (r.walks ++ w ∷ []); ring = r.ring }
ring_after s r = r

-- the answer with which its next act, the clearing of the duty word, ends it
abbrev pub answer_at : Stage → Option Answer
answer_at (Leaving a) = Some (answer.Seen a)
answer_at s = None

-- its next act ends it
abbrev pub is_last : Stage → Bool
is_last (Leaving a) = true
is_last s = false

-- ---- as it is kept

abbrev pub stage_at : Phase → Progress → Stage
stage_at phase.Starting d = Starting
stage_at phase.Trying d = Trying d.walk
stage_at (phase.Loading z) d = Loading z d.generations d.missed
stage_at phase.Walking d = Walking d.generations d.missed
stage_at phase.Closing d = Closing d.walk d.missed
stage_at phase.Touching d = Touching d.access
stage_at phase.Leaving d = Leaving d.access

abbrev pub stage_of : Progress → Stage
stage_of d = stage_at d.phase d

-- its next act, and what that answers on these words
abbrev pub next_in : GeometryData → ℕ → ℕ → Space → Progress → Option Act
next_in g p pa space d = act_at g p pa space (stage_of d)

abbrev pub old_in : GeometryData → ℕ → ℕ → Space → Progress → List ℕ → ℕ
old_in g p pa space d words = old_by (next_in g p pa space d) words
