-- What a transition keeps that can't be worked out of its task and the geometry, as plain numbers,
-- and the transition that has these parts.
use Rattle.std.specs.Prelude.{◌≡◌, ℕ, ◌+◌, ◌-◌, Bool, true, false, not, ◌&&◌, nat_lt, ◌==◌, Option, Some, None, is_some, if◌then◌else◌}
use Rattle.gpi_values.specs.declared.gpi.Gpi.{Gpi}
use Rattle.gpt_descriptors.specs.declared.size.Size.{Size}
use Rattle.gpt_descriptors.specs.declared.size.Size.TheVariants as size
use Rattle.gpt_descriptors.specs.declared.size.Generations.{Generations}
use Rattle.gpt_descriptors.specs.Sizes.{words_of, generation_last}
use Rattle.gpt_descriptors.specs.Entries.{l1_entry}
use Rattle.gpt_descriptors.specs.Places.{GeometryData, l1_place_of, l1_index_of}
use Rattle.shatter.specs.Splitting.{SplittingData, started_at}
use Rattle.fuse.specs.Merging.{FuseData, fuse_at}
use Rattle.table_meaning.specs.declared.fusing.Fusing.{Fusing}
use Rattle.table_meaning.specs.declared.fusing.Fusing.TheVariants.{Testing, Storing, Ended}
use Rattle.table_meaning.specs.Fusing.{block_words, loads_of}
use Rattle.invalidate.specs.Barrier.{BarrierData, begun_at}
use Rattle.history.specs.declared.call.Task.{Task}
use Rattle.history.specs.declared.call.Task.TheVariants as task
use Rattle.delegate_ops.specs.declared.stage.Change.{Change}
use Rattle.delegate_ops.specs.declared.stage.Change.TheVariants as change
use Rattle.delegate_ops.specs.declared.stage.Line.{Line}
use Rattle.delegate_ops.specs.declared.stage.Line.TheVariants as line
use Rattle.delegate_ops.specs.declared.stage.Phase.{Phase}
use Rattle.delegate_ops.specs.declared.stage.Phase.TheVariants as phase
use Rattle.delegate_ops.specs.declared.parts.Parts.{Parts}
use Rattle.delegate_ops.specs.Deciding.{address_of, idle_answer}
use Rattle.delegate_ops.specs.Changing.{word_in_block, first_change}
use Rattle.delegate_ops.specs.InnerAgents.{number_of, raises_from, raises_after}
use Rattle.delegate_ops.specs.InnerStages.{stage_at, waits_in}
use Rattle.delegate_ops.specs.InnerTransition.{TransitionData, places_of}

-- ---- the transition of parts

-- the size of the block that is split; 2 MB where none is
abbrev pub split_size : Phase → Size
split_size (phase.Splitting z) = z
split_size p = size.Two

abbrev pub splitting_in : GeometryData → Parts → SplittingData
splitting_in g p =
    started_at (number_of (l1_place_of g (address_of p.task))
    - word_in_block g (address_of p.task) (split_size p.phase))
    (word_in_block g (address_of p.task) (split_size p.phase)) p.split_gpi
    (words_of g.setup (split_size p.phase)) (words_of g.setup size.Two) p.split_made

abbrev pub barrier_in : GeometryData → Parts → BarrierData
barrier_in g p = begun_at g.cpus p.passed

abbrev pub merging_in : GeometryData → Parts → FuseData
merging_in g p =
    fuse_at g (number_of (l1_index_of g (address_of p.task))) p.merge_gpi p.merge_step

abbrev pub transition_of : GeometryData → Parts → TransitionData
transition_of g p = record {
  task = p.task;
  places = places_of g p.task;
  stage = stage_at p.phase p.kept (splitting_in g p) (barrier_in g p) (merging_in g p);
  waited = waits_in p.phase;
}

-- ---- which parts are those of transitions

abbrev pub is_move : Task → Bool
is_move (task.Delegate pa source) = true
is_move (task.Undelegate pa source) = true
is_move t = false

abbrev pub is_change_of : Task → Change → Bool
is_change_of (task.Delegate pa source) change.Last = true
is_change_of (task.Undelegate pa source) c = true
is_change_of t c = false

abbrev pub is_prepared : Task → Bool
is_prepared (task.Delegate pa source) = true
is_prepared t = false

abbrev pub is_cleaned : Task → Change → Line → Bool
is_cleaned (task.Delegate pa source) change.Last line.Former = true
is_cleaned (task.Undelegate pa source) change.First l = true
is_cleaned t c l = false

-- a generation can be raised this often
abbrev pub can_rise : ℕ → ℕ → Bool
can_rise n k = not (nat_lt generation_last (k + n))

abbrev pub has_room : Generations → ℕ → ℕ → ℕ → Bool
has_room k l m n = can_rise l k.two && can_rise m k.thirty_two && can_rise n k.five_twelve

abbrev pub is_raising : Change → Size → Generations → Bool
is_raising c size.Two k = has_room k (raises_from c) (raises_from c) (raises_from c)
is_raising c size.ThirtyTwo k = has_room k (raises_after c) (raises_from c) (raises_from c)
is_raising c size.FiveTwelve k = has_room k (raises_after c) (raises_after c) (raises_from c)

abbrev pub has_next : ℕ → Fusing → Bool
has_next two (Testing z k) = nat_lt k (loads_of two z)
has_next two (Storing z k) = nat_lt k (block_words two z)
has_next two (Ended o) = false

abbrev pub is_phase : GeometryData → Parts → Phase → Bool
is_phase g p (phase.Reading z) = is_some (l1_entry p.kept.word)
is_phase g p (phase.Splitting z) =
    nat_lt p.split_made (words_of g.setup z)
    && is_change_of p.task (first_change p.task)
    && is_raising (first_change p.task) size.Two p.kept.generations
is_phase g p phase.Preparing =
    is_prepared p.task && is_raising change.Last size.Two p.kept.generations
is_phase g p (phase.Changing c) =
    is_change_of p.task c && is_raising c size.Two p.kept.generations
is_phase g p (phase.Raising c z) =
    is_change_of p.task c && is_raising c z p.kept.generations
is_phase g p (phase.Passing c) =
    is_change_of p.task c && nat_lt p.passed g.cpus
    && has_room p.kept.generations (raises_after c) (raises_after c) (raises_after c)
is_phase g p (phase.Blocked c) =
    is_change_of p.task c && nat_lt p.passed g.cpus
    && has_room p.kept.generations (raises_after c) (raises_after c) (raises_after c)
is_phase g p (phase.Cleaning c l) =
    is_cleaned p.task c l
    && has_room p.kept.generations (raises_after c) (raises_after c) (raises_after c)
is_phase g p phase.Merging = has_next (words_of g.setup size.Two) p.merge_step
is_phase g p o = true

abbrev pub is_sound : GeometryData → Parts → Bool
is_sound g p = is_move p.task && not (is_some (idle_answer g p.task)) && is_phase g p p.phase
