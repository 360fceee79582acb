-- A processor as a caller: what each fact of the core reads of it.
use Rattle.std.specs.Prelude.{◌≡◌, ℕ, ◌-◌, ◌≤◌, ◌<◌, Bool, true, false, List, [], ◌∷◌, ◌++◌, length, slice_index, Option, Some, None, if◌then◌else◌}
use Rattle.gpi_values.specs.declared.gpi.Gpi.{Gpi}
use Rattle.gpt_descriptors.specs.declared.size.Size.{Size}
use Rattle.gpi_values.specs.declared.gpi.Space.{Space}
use Rattle.gpi_values.specs.Values.{permits_of}
use Rattle.gpt_descriptors.specs.Sizes.{granule_bytes, granule_number, tag_size_of, generation_in}
use Rattle.gpt_descriptors.specs.Places.{GeometryData, gen_place_of}
use Rattle.shared_words.specs.declared.act.Act.{Act}
use Rattle.table_meaning.specs.Equation.{Holder, Whole}
use Rattle.history.specs.declared.call.Task.{Task}
use Rattle.history.specs.declared.call.Task.TheVariants as task
use Rattle.history.specs.declared.call.Access.{Access}
use Rattle.history.specs.declared.call.Answer.{Answer}
use Rattle.history.specs.declared.entry.Entry.{Entry}
use Rattle.history.specs.Stamps.{IsStamped, AreStamped}
use Rattle.history.specs.InnerStamps.{IsDecided}
use Rattle.history.specs.declared.call.OldWalk.{OldWalk}
use Rattle.processor.specs.Accesses.{walk_gpi}
use Rattle.history.specs.Events.{CallEvent}
pub use Rattle.processor.specs.InnerCpus.{duty_at}
use Rattle.walk_cache.specs.declared.walk.Walk.{Walk}
use Rattle.processor.specs.InnerProgress.{Stage}
use Rattle.processor.specs.InnerProgress as stage
use Rattle.processor.specs.InnerCpus.{CpuData, IsCpu, IsReadable, task_of, fresh, next_of, took_of}
use Rattle.processor.specs.InnerEntries.{made_at, own_entries}
use Rattle.processor.specs.InnerScript.{HasWalked}
use Rattle.core_machine.specs.InnerAgentCaller.{comes_before}

-- ---- how it was made

-- with this geometry
abbrev pub IsCpuOf : GeometryData → CpuData → Type 0
IsCpuOf g q = (q.geometry ≡ g) × IsCpu q

-- and it has come to its stage by some events of its script
abbrev pub cpu_made : GeometryData → CpuData → Type 0
cpu_made g q =
    (q.geometry ≡ g) × IsCpu q × (c : ℕ) × (events : List CallEvent) × HasWalked c q events

-- it has made no act
abbrev pub cpu_fresh : GeometryData → CpuData → Type 0
cpu_fresh g q = (q ≡ fresh g q.number q.tasks) × IsCpu q

-- ---- acts

abbrev pub cpu_next : CpuData → Option Act
cpu_next q = next_of q

abbrev pub cpu_took : CpuData → ℕ → CpuData
cpu_took q old = took_of q old

abbrev pub cpu_may_take : CpuData → ℕ → Type 0
cpu_may_take q old = IsReadable q.stage old

-- ---- its duty word: 1 between the first and the last act of an access

abbrev pub cpu_duty : CpuData → ℕ
cpu_duty q = duty_at q.stage

-- ---- answers and entries

abbrev pub cpu_left : CpuData → ℕ
cpu_left q = length q.tasks - length q.answers

-- the answer of the access under way is known with its last act alone
abbrev pub cpu_known : CpuData → List Answer
cpu_known q = q.answers

-- the entries that its next act makes, and all that it has made
abbrev pub cpu_makes : ℕ → CpuData → ℕ → List Entry
cpu_makes c q old = made_at q.geometry c (length q.answers) q.stage (task_of q) old

abbrev pub cpu_own : ℕ → CpuData → List Entry
cpu_own c q = own_entries c q

-- ---- the generations that it has loaded, and the stamps of its accesses

-- a generation that was loaded is at least the first one, and at most what its word is now
abbrev pub IsLoaded : GeometryData → List ℕ → ℕ → Size → ℕ → Type 0
IsLoaded g words pa y value =
    (g.setup.first ≤ value) × (value ≤ slice_index words (gen_place_of g y pa))

-- so is that of a kept walk which wasn't hit, and it is above the walk's tag
abbrev pub IsOld : GeometryData → List ℕ → ℕ → Option OldWalk → Type 0
IsOld g words pa None = Unit {0}
IsOld g words pa (Some old) =
    (old.tag < old.at) × IsLoaded g words pa (tag_size_of old.reach) old.at

abbrev pub loads_at : GeometryData → List ℕ → ℕ → Stage → Type 0
loads_at g words pa (stage.Loading z k m) = IsOld g words pa m
    × ((y : Size) → comes_before y z ≡ true → IsLoaded g words pa y (generation_in y k))
loads_at g words pa (stage.Walking k m) = IsOld g words pa m
    × ((y : Size) → IsLoaded g words pa y (generation_in y k))
loads_at g words pa (stage.Closing w m) = IsLoaded g words pa (tag_size_of w.reach) w.tag
loads_at g words pa s = Unit {0}

abbrev pub loads_by : GeometryData → List ℕ → Stage → Option Task → Type 0
loads_by g words s (Some (task.Look pa space)) = loads_at g words pa s
loads_by g words s o = Unit {0}

abbrev pub cpu_loads : List ℕ → CpuData → Type 0
cpu_loads words q = loads_by q.geometry words q.stage (task_of q)

-- access k of caller c was decided by the map's GPI, which the walk that it made gives it, and has
-- its entry in the history
pub record DecidedBy (g : GeometryData) (map : List Gpi) (c k pa : ℕ) (space : Space) (w : Walk)
    (m : Option OldWalk) (h : List Entry) : Type 0 where
  pub gpi : Gpi
  pub gives : walk_gpi g pa w ≡ Some gpi
  pub decided : IsDecided map g.setup.first (granule_bytes g.setup) c k
      (granule_number g.setup pa) space gpi (permits_of gpi space) m w.reach w.tag h

-- its answer is known, with the stamps that it will have
abbrev pub StampedBy : GeometryData → List Gpi → ℕ → ℕ → ℕ → Space → Access → List Entry → Type 0
StampedBy g map c k pa space access h =
    IsStamped map g.setup.first (granule_bytes g.setup) c k (granule_number g.setup pa) space
    access h

abbrev pub stamps_at : GeometryData → List Gpi → ℕ → ℕ → ℕ → Space → Stage → List Entry → Type 0
stamps_at g map c k pa space (stage.Closing w m) h = DecidedBy g map c k pa space w m h
stamps_at g map c k pa space (stage.Touching access) h = StampedBy g map c k pa space access h
stamps_at g map c k pa space (stage.Leaving access) h = StampedBy g map c k pa space access h
stamps_at g map c k pa space s h = Unit {0}

abbrev pub stamps_by : GeometryData → List Gpi → ℕ → ℕ → Stage → Option Task → List Entry → Type 0
stamps_by g map c k s (Some (task.Look pa space)) h = stamps_at g map c k pa space s h
stamps_by g map c k s o h = Unit {0}

-- those of its answers, and of the access under way
abbrev pub cpu_stamps : List Gpi → List Entry → ℕ → CpuData → Type 0
cpu_stamps map h c q =
    AreStamped map q.geometry.setup.first (granule_bytes q.geometry.setup) c q.tasks q.answers h
    × stamps_by q.geometry map c (length q.answers) q.stage (task_of q) h

-- ---- the walks that it keeps

-- the one that an access under way has found or made
abbrev pub walk_at : Stage → List Walk
walk_at (stage.Trying w) = w ∷ []
walk_at (stage.Closing w m) = w ∷ []
walk_at s = []

abbrev pub cpu_walks : CpuData → List Walk
cpu_walks q = q.cache.walks ++ walk_at q.stage

-- ---- what it has decided, and the line that it is about to touch

-- an access that is decided and hasn't ended: its granule and space, and the GPI that decided it
pub record Decision : Type 0 where
  pub granule : ℕ
  pub space : Space
  pub gpi : Gpi

abbrev pub decision_of : GeometryData → ℕ → Space → Option Gpi → List Decision
decision_of g pa space None = []
decision_of g pa space (Some gpi) =
    record { granule = granule_number g.setup pa; space = space; gpi = gpi } ∷ []

abbrev pub decided_at : GeometryData → ℕ → Space → Stage → List Decision
decided_at g pa space (stage.Closing w m) = decision_of g pa space (walk_gpi g pa w)
decided_at g pa space (stage.Touching a) = decision_of g pa space (Some a.gpi)
decided_at g pa space (stage.Leaving a) = decision_of g pa space (Some a.gpi)
decided_at g pa space s = []

abbrev pub decided_under : GeometryData → Option Task → Stage → List Decision
decided_under g (Some (task.Look pa space)) s = decided_at g pa space s
decided_under g o s = []

abbrev pub cpu_decided : CpuData → List Decision
cpu_decided q = decided_under q.geometry (task_of q) q.stage

abbrev pub touch_by : GeometryData → ℕ → Space → Option Gpi → List (ℕ × Space)
touch_by g pa space None = []
touch_by g pa space (Some gpi) =
    if permits_of gpi space then (granule_number g.setup pa, space) ∷ [] else []

abbrev pub touching_at : GeometryData → ℕ → Space → Stage → List (ℕ × Space)
touching_at g pa space (stage.Closing w m) = touch_by g pa space (walk_gpi g pa w)
touching_at g pa space (stage.Touching a) = touch_by g pa space (Some a.gpi)
touching_at g pa space s = []

abbrev pub touching_under : GeometryData → Option Task → Stage → List (ℕ × Space)
touching_under g (Some (task.Look pa space)) s = touching_at g pa space s
touching_under g o s = []

abbrev pub cpu_touching : CpuData → List (ℕ × Space)
cpu_touching q = touching_under q.geometry (task_of q) q.stage

-- ---- it takes no lock and changes no granule

abbrev pub cpu_holds : ℕ → CpuData → Bool
cpu_holds n q = false

abbrev pub cpu_opens : CpuData → List (ℕ × Gpi)
cpu_opens q = []

abbrev pub cpu_unraised : Size → CpuData → List (ℕ × Gpi)
cpu_unraised y q = []

abbrev pub cpu_owes : Size → ℕ → CpuData → Bool
cpu_owes y region q = false

abbrev pub cpu_holder : CpuData → Holder
cpu_holder q = record { granule = 0; step = Whole }

-- what it keeps is no matter of the map
abbrev pub cpu_sees : (ℕ → Gpi) → List ℕ → CpuData → Type 0
cpu_sees m words q = Unit {0}
