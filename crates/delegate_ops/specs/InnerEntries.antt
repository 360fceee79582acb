-- The entries that an agent's call makes, by its stage.
use Rattle.std.specs.Prelude.{ℕ, List, [], ◌∷◌, ◌++◌, Option, Some, None}
use Rattle.gpt_descriptors.specs.declared.size.Size.TheVariants as size
use Rattle.gpt_descriptors.specs.Places.{GeometryData}
use Rattle.history.specs.declared.call.Task.{Task}
use Rattle.history.specs.declared.call.Task.TheVariants as task
use Rattle.history.specs.declared.call.Answer.{Answer}
use Rattle.history.specs.declared.call.Answer.TheVariants as answer
use Rattle.history.specs.declared.entry.Entry.{Entry}
use Rattle.delegate_ops.specs.declared.stage.Change.{Change}
use Rattle.delegate_ops.specs.declared.stage.Change.TheVariants as change
use Rattle.delegate_ops.specs.InnerStages.{Stage}
use Rattle.delegate_ops.specs.InnerStages as stage
use Rattle.delegate_ops.specs.Deciding.{looked_answer, worn_answer}
use Rattle.delegate_ops.specs.Changing.{with_generation}
use Rattle.delegate_ops.specs.Script.{change_entry, completion, entries_of}

-- the entries of a call whose answer is known, if it is
abbrev pub known_entries : GeometryData → ℕ → ℕ → Task → Option Answer → List Entry
known_entries g c k t None = []
known_entries g c k t (Some answer) = entries_of g c k t answer

-- the entries that the next act of a task makes at a stage, where it answers this word
abbrev pub made_at : GeometryData → ℕ → ℕ → Stage → Option Task → ℕ → List Entry
made_at g c k stage.Looking (Some t) old = known_entries g c k t (looked_answer g t old)
made_at g c k (stage.Reading size.FiveTwelve kept) (Some t) old =
    known_entries g c k t
    (worn_answer (with_generation size.FiveTwelve old kept.generations))
made_at g c k (stage.Changing ch kept) (Some t) old = change_entry g c k t ch ∷ []
made_at g c k (stage.Raising ch size.FiveTwelve kept) (Some t) old = completion g c k t ∷ []
made_at g c k s t old = []

-- the entries of a call before a change: only the last change of an undelegate has some
abbrev pub entries_before : GeometryData → ℕ → ℕ → Task → Change → List Entry
entries_before g c k (task.Undelegate pa source) change.Last =
    change_entry g c k (task.Undelegate pa source) change.First
    ∷ completion g c k (task.Undelegate pa source) ∷ []
entries_before g c k t ch = []

-- and with that change completed
abbrev pub entries_after : GeometryData → ℕ → ℕ → Task → Change → List Entry
entries_after g c k t ch =
    entries_before g c k t ch ++ change_entry g c k t ch ∷ completion g c k t ∷ []

-- the entries that the call under way has made at a stage
abbrev pub entries_at : GeometryData → ℕ → ℕ → Stage → Option Task → List Entry
entries_at g c k (stage.Changing ch kept) (Some t) = entries_before g c k t ch
entries_at g c k (stage.Raising ch z kept) (Some t) =
    entries_before g c k t ch ++ change_entry g c k t ch ∷ []
entries_at g c k (stage.Passing ch d kept) (Some t) = entries_after g c k t ch
entries_at g c k (stage.Cleaning ch l kept) (Some t) = entries_after g c k t ch
entries_at g c k (stage.Merging f kept) (Some t) = entries_of g c k t (answer.Done kept)
entries_at g c k (stage.Releasing given) (Some t) = entries_of g c k t given
entries_at g c k s t = []
