-- When a transition is done, nothing is left of its granule's former space.
use Rattle.std.specs.Prelude.{◌≡◌, ℕ, true, false, slice_get, Some}
use Rattle.std.specs.List.{list_any}
use Rattle.gpi_values.specs.declared.gpi.Gpi.{Gpi}
use Rattle.gpi_values.specs.declared.gpi.Space.{Space}
use Rattle.gpi_values.specs.Values.{permits_of}
use Rattle.gpt_descriptors.specs.declared.size.Generations.{Generations}
use Rattle.gpt_descriptors.specs.Sizes.{granule_number, place_in_word}
use Rattle.gpt_descriptors.specs.Entries.{word_gpi}
use Rattle.gpt_descriptors.specs.Places.{GeometryData}
use Rattle.shared_words.specs.declared.act.Act.{Act}
use Rattle.shared_words.specs.Acts.{after_act, answer_of}
use Rattle.alias_clean.specs.Lines.{has_line}
use Rattle.walk_cache.specs.declared.walk.Walk.{Walk}
use Rattle.walk_cache.specs.Rings.{covers}
use Rattle.history.specs.declared.call.Task.{Task}
use Rattle.history.specs.declared.call.Answer.TheVariants as answer
use Rattle.history.specs.Entries.{changes_granule}
use Rattle.delegate_ops.specs.InnerStages as stage
use Rattle.delegate_ops.specs.InnerAgents.{AgentData, task_of}
use Rattle.delegate_ops.specs.Script.{granule_of_task}
use Rattle.core_machine.specs.declared.caller.Caller.{Caller}
use Rattle.core_machine.specs.declared.caller.Caller.TheVariants as caller
use Rattle.core_machine.specs.InnerCpuCaller.{Decision}
use Rattle.core_machine.specs.InnerCallers.{caller_next, caller_took, decided_by, made_by, uncleaned_by, walks_by}
use Rattle.core_machine.specs.InnerScene.{Scene, map_in, scene_after}
use Rattle.core_machine.specs.InnerInvariant.{HoldsIn}
use Rattle.core_machine.specs.InnerWalks.{In, SomeHas, walk_generation}

-- Of a granule, no kept walk that could still hit gives it another GPI than the map's, no access
-- under way was decided by another, and no line that the map denies is resident.
pub record HasNothingLeft (g : GeometryData) (s : Scene) (granule : ℕ) : Type 0 where
  pub walks : (c pa : ℕ) (caller : Caller) (w : Walk) → slice_get s.callers c ≡ Some caller
      → In w (walks_by caller) → w.tag ≡ walk_generation g s.words w → covers w pa ≡ true
      → granule_number g.setup pa ≡ granule
      → word_gpi w.word (place_in_word g.setup pa) ≡ Some (map_in s granule)
  pub decisions : (c : ℕ) (caller : Caller) (d : Decision) → slice_get s.callers c ≡ Some caller
      → In d (decided_by caller) → d.granule ≡ granule → d.gpi ≡ map_in s granule
  pub lines : (space : Space) → has_line g s.words granule space ≡ true
      → permits_of (map_in s granule) space ≡ true

-- no caller has changed it and not cleaned it yet
abbrev pub IsCleaned : Scene → ℕ → Type 0
IsCleaned s granule = (former : Gpi) → SomeHas s.callers uncleaned_by (granule, former) → ⊥

-- where a transition is about to answer that it is done, its granule is cleaned
abbrev pub DoneIsCleaned : Type 0
DoneIsCleaned =
    (g : GeometryData) (s : Scene) (c : ℕ) (a : AgentData) (t : Task) (k : Generations)
    → HoldsIn g s → slice_get s.callers c ≡ Some (caller.Agent a)
    → a.stage ≡ stage.Releasing (answer.Done k) → task_of a ≡ Some t
    → IsCleaned s (granule_of_task g t)

-- a granule that is cleaned has nothing left
abbrev pub CleanedHasNothingLeft : Type 0
CleanedHasNothingLeft =
    (g : GeometryData) (s : Scene) (granule : ℕ) → HoldsIn g s → IsCleaned s granule
    → HasNothingLeft g s granule

-- and stays cleaned at each act, of whomever, that doesn't change it
abbrev pub CleanedStays : Type 0
CleanedStays =
    (s : Scene) (c granule : ℕ) (x : Caller) (t : Act) → slice_get s.callers c ≡ Some x
    → caller_next x ≡ Some t
    → list_any (changes_granule granule) (made_by c x (answer_of t s.words)) ≡ false
    → IsCleaned s granule
    → IsCleaned (scene_after s c (caller_took x (answer_of t s.words)) (after_act t s.words)
    (made_by c x (answer_of t s.words))) granule
