-- The events of a processor by how far it has come: the machinery that shows that it follows its
-- script.
use Rattle.std.specs.Prelude.{◌≡◌, ℕ, true, List, [], ◌∷◌, ◌++◌, length, Option, Some}
use Rattle.gpi_values.specs.declared.gpi.Space.{Space}
use Rattle.gpt_descriptors.specs.declared.size.Size.{Size}
use Rattle.gpt_descriptors.specs.declared.size.Size.TheVariants as size
use Rattle.gpt_descriptors.specs.declared.size.Generations.{Generations}
use Rattle.gpt_descriptors.specs.Places.{GeometryData, l1_place_of}
use Rattle.invalidate.specs.Duty.{on_act}
use Rattle.invalidate.specs.Generations.{gen_load_of}
use Rattle.alias_clean.specs.Lines.{touch_of}
use Rattle.history.specs.declared.call.Task.{Task}
use Rattle.history.specs.declared.call.Task.TheVariants as task
use Rattle.history.specs.Events.{CallEvent, plain}
use Rattle.processor.specs.InnerProgress.{Stage}
use Rattle.processor.specs.InnerProgress as stage
use Rattle.walk_cache.specs.declared.walk.Walk.{Walk}
use Rattle.walk_cache.specs.Rings.{newest_of}
use Rattle.history.specs.declared.call.Access.{Access}
use Rattle.history.specs.declared.call.OldWalk.{OldWalk}
use Rattle.gpi_values.specs.declared.gpi.Gpi.{Gpi}
use Rattle.processor.specs.Accesses.{walk_of, walk_gpi}
use Rattle.processor.specs.Script.{IsMissed, tries, loads, deciding_load, Decides, touches, AreCallEvents}
use Rattle.processor.specs.InnerCpus.{CpuData, task_of}

-- the loads of generations before that of this size
abbrev pub loads_before : GeometryData → ℕ → Size → Generations → List CallEvent
loads_before g pa size.Two k = []
loads_before g pa size.ThirtyTwo k = plain (gen_load_of g size.Two pa) k.two ∷ []
loads_before g pa size.FiveTwelve k = plain (gen_load_of g size.Two pa) k.two
    ∷ plain (gen_load_of g size.ThirtyTwo pa) k.thirty_two ∷ []

-- the duty word is set, no kept walk is hit, and these loads are made
pub record HasLoaded (g : GeometryData) (p pa : ℕ) (kept : List Walk) (missed : Option OldWalk)
    (made events : List CallEvent) : Type 0 where
  pub set : ℕ
  pub newest : IsMissed (newest_of kept pa) missed
  pub parts : events ≡ plain (on_act g p) set ∷ tries g pa missed ++ made

-- the duty word is set, and this walk is found
pub record HasSearched (g : GeometryData) (p pa : ℕ) (kept : List Walk) (w : Walk)
    (events : List CallEvent) : Type 0 where
  pub set : ℕ
  pub newest : newest_of kept pa ≡ Some w
  pub parts : events ≡ plain (on_act g p) set ∷ []

-- the L1 word is loaded
pub record HasFound (g : GeometryData) (p c n pa : ℕ) (space : Space) (kept : List Walk) (w : Walk)
    (missed : Option OldWalk) (events : List CallEvent) : Type 0 where
  pub set : ℕ
  pub generations : Generations
  pub place : ℕ
  pub word : ℕ
  pub gpi : Gpi
  pub newest : IsMissed (newest_of kept pa) missed
  pub there : l1_place_of g pa ≡ Some place
  pub found : walk_of pa generations word ≡ Some w
  pub gives : walk_gpi g pa w ≡ Some gpi
  pub parts : events ≡ plain (on_act g p) set ∷ tries g pa missed ++ loads g pa generations
      ++ deciding_load g c n pa space place word gpi ∷ []

-- it is decided, and has made its line resident where it is allowed
pub record HasTouched (g : GeometryData) (p c n pa : ℕ) (space : Space) (kept now : List Walk)
    (a : Access) (events : List CallEvent) : Type 0 where
  pub deciding : List CallEvent
  pub touched : ℕ
  pub decided : Decides g p c n pa space kept a now deciding
  pub parts : events ≡ deciding ++ touches (touch_of g pa space) a.allowed touched

-- the events of an access under way that has come so far, with the walks that were kept when it
-- began, and those that are kept now
abbrev pub IsPartOf : GeometryData → ℕ → ℕ → ℕ → ℕ → Space → List Walk → List Walk → Stage
    → List CallEvent → Type 0
IsPartOf g p c n pa space kept now stage.Starting events = (now ≡ kept) × (events ≡ [])
IsPartOf g p c n pa space kept now (stage.Trying w) events =
    (now ≡ kept) × HasSearched g p pa kept w events
IsPartOf g p c n pa space kept now (stage.Loading z k m) events =
    (now ≡ kept) × HasLoaded g p pa kept m (loads_before g pa z k) events
IsPartOf g p c n pa space kept now (stage.Walking k m) events =
    (now ≡ kept) × HasLoaded g p pa kept m (loads g pa k) events
IsPartOf g p c n pa space kept now (stage.Closing w m) events =
    (now ≡ kept) × HasFound g p c n pa space kept w m events
IsPartOf g p c n pa space kept now (stage.Touching a) events =
    Decides g p c n pa space kept a now events × (a.allowed ≡ true)
IsPartOf g p c n pa space kept now (stage.Leaving a) events =
    HasTouched g p c n pa space kept now a events

-- the events of the call under way
abbrev pub IsPrefix : GeometryData → ℕ → ℕ → ℕ → List Walk → List Walk → Stage → Option Task
    → List CallEvent → Type 0
IsPrefix g p c n kept now s (Some (task.Look pa space)) events =
    IsPartOf g p c n pa space kept now s events
IsPrefix g p c n kept now s t events = (now ≡ kept) × (events ≡ [])

-- Caller c, a processor, has come so far by these events.
pub record HasWalked (c : ℕ) (q : CpuData) (events : List CallEvent) : Type 0 where
  pub calls : List CallEvent
  pub last : List CallEvent
  pub kept : List Walk
  pub parts : events ≡ calls ++ last
  pub answered : AreCallEvents q.geometry q.number c 0 q.tasks [] q.answers kept calls
  pub under_way :
      IsPrefix q.geometry q.number c (length q.answers) kept q.cache.walks q.stage (task_of q) last
