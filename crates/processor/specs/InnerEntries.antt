-- The entries that a processor's call makes, by how far it has come.
use Rattle.std.specs.Prelude.{ℕ, List, [], ◌∷◌, ◌++◌, length, ◌==◌, Option, Some, None, if◌then◌else◌}
use Rattle.gpi_values.specs.declared.gpi.Gpi.{Gpi}
use Rattle.gpi_values.specs.declared.gpi.Space.{Space}
use Rattle.gpt_descriptors.specs.Sizes.{granule_bytes}
use Rattle.gpt_descriptors.specs.Places.{GeometryData}
use Rattle.history.specs.declared.call.Task.{Task}
use Rattle.history.specs.declared.call.Task.TheVariants as task
use Rattle.history.specs.declared.entry.Entry.{Entry}
use Rattle.history.specs.Calls.{answered_entries}
use Rattle.processor.specs.InnerProgress.{Stage}
use Rattle.processor.specs.InnerProgress as stage
use Rattle.walk_cache.specs.declared.walk.Walk.{Walk}
use Rattle.processor.specs.Accesses.{walk_of, walk_gpi, looked_entry}
use Rattle.processor.specs.InnerCpus.{CpuData, task_of}

-- the entry of an access that this GPI decides, if there is one
abbrev pub decided_entries : GeometryData → ℕ → ℕ → ℕ → Space → Option Gpi → List Entry
decided_entries g c n pa space None = []
decided_entries g c n pa space (Some gpi) = looked_entry g c n pa space gpi ∷ []

-- that of one that has made this walk, if it has
abbrev pub walk_entries : GeometryData → ℕ → ℕ → ℕ → Space → Option Walk → List Entry
walk_entries g c n pa space None = []
walk_entries g c n pa space (Some w) = decided_entries g c n pa space (walk_gpi g pa w)

-- the entries that the next act of a task makes, where it answers this word
abbrev pub made_at : GeometryData → ℕ → ℕ → Stage → Option Task → ℕ → List Entry
made_at g c n (stage.Trying w) (Some (task.Look pa space)) old =
    if old == w.tag then decided_entries g c n pa space (walk_gpi g pa w) else []
made_at g c n (stage.Walking k m) (Some (task.Look pa space)) old =
    walk_entries g c n pa space (walk_of pa k old)
made_at g c n s t old = []

-- the entries that the call under way has made
abbrev pub entries_at : GeometryData → ℕ → ℕ → Stage → Option Task → List Entry
entries_at g c n (stage.Closing w m) (Some (task.Look pa space)) =
    decided_entries g c n pa space (walk_gpi g pa w)
entries_at g c n (stage.Touching a) (Some (task.Look pa space)) =
    looked_entry g c n pa space a.gpi ∷ []
entries_at g c n (stage.Leaving a) (Some (task.Look pa space)) =
    looked_entry g c n pa space a.gpi ∷ []
entries_at g c n s t = []

-- all entries that a processor, caller c, has made
abbrev pub own_entries : ℕ → CpuData → List Entry
own_entries c q =
    answered_entries (granule_bytes q.geometry.setup) c 0 q.tasks q.answers
    ++ entries_at q.geometry c (length q.answers) q.stage (task_of q)
