-- What the core says of a transition that is done, for the callers of a running field.
use Rattle.std.proofs.Common.{◌≡◌, ℕ, List, [], Some, ap, sym, ◌∙◌, inl, inr}
use Rattle.std.specs.Prelude.{slice_get}
use Rattle.core_machine.specs.declared.caller.Caller.{Caller}
use Rattle.core_machine.specs.declared.caller.Caller.TheVariants as caller
use Rattle.delegate_ops.specs.Script.{granule_of_task}
use Rattle.shared_words.specs.Acts.{after_act, answer_of}
use Rattle.core_machine.specs.InnerCallers.{caller_took, made_by}
use Rattle.core_machine.specs.InnerScene.{scene_after}
use Rattle.core_machine.proofs.LawLemmas.{one_act}
use Rattle.core_machine.proofs.NothingLeftLemmas.{cleaned_has_nothing_left, cleaned_stays, done_is_cleaned}
use mathlib.Core.Option.{some}
use lib.ListN.{get_elem?}
use Rattle.race_run.specs.declared.view.Opening.{Opening}
use Rattle.race_run.specs.declared.view.View.{View}
use Rattle.race_run.specs.InnerRule.{IsRunning}
use Rattle.race_run.specs.NothingLeft.{CleanedIsNothingLeft, NothingIsLeftAtDone, NothingStaysLeft, scene_in}

-- a caller that some pass holds is one of the callers
held_there : (o : Opening) (words : List ℕ) (views : List View) (id p c : ℕ) (v : View) (x : Caller) (rule : IsRunning o words views) → get_elem? views id ≡ some v → slice_get v.held p ≡ Some (c, x) → slice_get rule.callers c ≡ Some x
held_there o words views id p c v x rule at held =
    elim (rule.fits id v at) [
      | inl spent ↦ absurd (let gone : slice_get [] p ≡ Some (c, x) = ap (λ (l : List (ℕ × Caller)). slice_get l p) (sym spent.1) ∙ held in cc)
      | inr knows ↦ (knows.held p (c, x) held).0
    ]

pub nothing_is_left : NothingIsLeftAtDone
nothing_is_left o words views id p c v a t k first rule at held done task starting =
    let holds = rule.holds first starting in
    let there = held_there o words views id p c v (caller.Agent a) rule at held in
    let cleaned = done_is_cleaned o.geometry (scene_in o words views rule first) c a t k holds there done task in
    (cleaned, cleaned_has_nothing_left o.geometry (scene_in o words views rule first) (granule_of_task o.geometry t) holds cleaned)

pub nothing_stays : NothingStaysLeft
nothing_stays o words views id c granule v x t first rule at held next unchanged starting cleaned =
    let there = held_there o words views id 0 c v x rule at held in
    let after = one_act o.geometry (scene_in o words views rule first) c x t (rule.holds first starting) there next in
    let stays = cleaned_stays (scene_in o words views rule first) c granule x t there next unchanged cleaned in
    (stays, cleaned_has_nothing_left o.geometry (scene_after (scene_in o words views rule first) c (caller_took x (answer_of t words)) (after_act t words) (made_by c x (answer_of t words))) granule after.2 stays)

pub cleaned_is_nothing_left : CleanedIsNothingLeft
cleaned_is_nothing_left o words views granule first rule starting cleaned =
    cleaned_has_nothing_left o.geometry (scene_in o words views rule first) granule (rule.holds first starting) cleaned
