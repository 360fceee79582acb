-- On the shared words, too, nothing is left of a granule's former space when its transition is done.
use Rattle.std.specs.Prelude.{◌≡◌, ℕ, false, List, slice_get, Some}
use Rattle.std.specs.List.{list_any}
use mathlib.Core.Option.{some}
use lib.ListN.{get_elem?}
use Rattle.gpi_values.specs.declared.gpi.Gpi.{Gpi}
use Rattle.gpt_descriptors.specs.declared.size.Generations.{Generations}
use Rattle.shared_words.specs.declared.act.Act.{Act}
use Rattle.shared_words.specs.Acts.{after_act, answer_of}
use Rattle.history.specs.declared.call.Task.{Task}
use Rattle.history.specs.declared.call.Answer.TheVariants as answer
use Rattle.history.specs.Entries.{changes_granule}
use Rattle.delegate_ops.specs.InnerStages as stage
use Rattle.delegate_ops.specs.InnerAgents.{AgentData, task_of}
use Rattle.delegate_ops.specs.Script.{granule_of_task}
use Rattle.core_machine.specs.declared.caller.Caller.{Caller}
use Rattle.core_machine.specs.declared.caller.Caller.TheVariants as caller
use Rattle.core_machine.specs.InnerCallers.{caller_next, caller_took, made_by}
use Rattle.core_machine.specs.InnerOpening.{AreStarting}
use Rattle.core_machine.specs.InnerScene.{Scene, scene_after}
use Rattle.core_machine.specs.InnerNothingLeft.{HasNothingLeft, IsCleaned}
use Rattle.race_run.specs.declared.view.Opening.{Opening}
use Rattle.race_run.specs.declared.view.View.{View}
use Rattle.race_run.specs.InnerRule.{IsRunning}

-- where the callers of a running field stand, from this first map
abbrev pub scene_in : (o : Opening) (words : List ℕ) (views : List View)
    → IsRunning o words views → List Gpi → Scene
scene_in o words views rule first = record {
  first = first;
  words = words;
  callers = rule.callers;
  history = rule.history;
}

-- Where a transition is about to answer that it is done, its granule is cleaned, and has nothing
-- left: of no caller's walks, accesses under way and lines, whoever's pass they are with.
abbrev pub NothingIsLeftAtDone : Type 0
NothingIsLeftAtDone =
    (o : Opening) (words : List ℕ) (views : List View) (id p c : ℕ) (v : View) (a : AgentData)
    (t : Task) (k : Generations) (first : List Gpi) (rule : IsRunning o words views)
    → get_elem? views id ≡ some v → slice_get v.held p ≡ Some (c, caller.Agent a)
    → a.stage ≡ stage.Releasing (answer.Done k) → task_of a ≡ Some t
    → AreStarting o.geometry first o.words
    → IsCleaned (scene_in o words views rule first) (granule_of_task o.geometry t)
    × HasNothingLeft o.geometry (scene_in o words views rule first) (granule_of_task o.geometry t)

-- at any moment a granule that is cleaned has nothing left
abbrev pub CleanedIsNothingLeft : Type 0
CleanedIsNothingLeft =
    (o : Opening) (words : List ℕ) (views : List View) (granule : ℕ) (first : List Gpi)
    (rule : IsRunning o words views) → AreStarting o.geometry first o.words
    → IsCleaned (scene_in o words views rule first) granule
    → HasNothingLeft o.geometry (scene_in o words views rule first) granule

-- and it stays cleaned, and has nothing left, at each act, of whomever, that doesn't change it
abbrev pub NothingStaysLeft : Type 0
NothingStaysLeft =
    (o : Opening) (words : List ℕ) (views : List View) (id c granule : ℕ) (v : View) (x : Caller)
    (t : Act) (first : List Gpi) (rule : IsRunning o words views)
    → get_elem? views id ≡ some v → slice_get v.held 0 ≡ Some (c, x) → caller_next x ≡ Some t
    → list_any (changes_granule granule) (made_by c x (answer_of t words)) ≡ false
    → AreStarting o.geometry first o.words
    → IsCleaned (scene_in o words views rule first) granule
    → IsCleaned (scene_after (scene_in o words views rule first) c
    (caller_took x (answer_of t words)) (after_act t words) (made_by c x (answer_of t words)))
    granule
    × HasNothingLeft o.geometry (scene_after (scene_in o words views rule first) c
    (caller_took x (answer_of t words)) (after_act t words) (made_by c x (answer_of t words)))
    granule
