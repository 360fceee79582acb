-- Callers on a field: opening gives them, and a turn of one keeps them all.
use Rattle.std.proofs.Common.{◌≡◌, ℕ, ◌<◌, List, length, get_or, set, Some, arith, inl, inr, sym, ap, ◌∙◌, subst}
use Rattle.std.proofs.lemmas.List.{length-set}
use Rattle.std.proofs.lemmas.Option.{slice_get-get_or}
use Rattle.core_machine.specs.declared.caller.Caller.{Caller}
use Rattle.core_machine.proofs.ListLemmas.{get_set}
use Rattle.race_run.specs.Passes.{AreOn, AreOpened, FieldData, IsPassOf, PassData}

pub on_opening : (f : FieldData) (passes : List PassData) (callers : List Caller) → AreOpened f passes callers → AreOn f passes callers
on_opening f passes callers opened = record { many = opened.many; each = λ c p x at there. (opened.each c p x at there).0 }

pub still_on : (f : FieldData) (passes : List PassData) (callers : List Caller) (k : ℕ) (p : PassData) (x : Caller) → AreOn f passes callers → IsPassOf f p k x → AreOn f (set passes k p) (set callers k x)
still_on f passes callers k p x are own =
    record {
      many = length-set passes k p ∙ are.many ∙ sym (length-set callers k x);
      each = λ c q y at there.
          elim (get_set passes k c p q at) [
            | inl here ↦ elim (get_set callers k c x y there) [
              | inl also ↦ subst (λ (n : ℕ). IsPassOf f q n y) (sym here.0) (subst (λ (r : PassData). IsPassOf f r k y) here.1 (subst (IsPassOf f p k) also.1 own))
              | inr other ↦ absurd (other.0 here.0)
            ]
            | inr other ↦ elim (get_set callers k c x y there) [
              | inl here ↦ absurd (other.0 here.0)
              | inr also ↦ are.each c q y other.1 also.1
            ]
          ];
    }

pub own_at : (f : FieldData) (passes : List PassData) (callers : List Caller) (k : ℕ) (p : PassData) (x : Caller) → AreOn f passes callers → k < length callers → p ≡ get_or passes k p → x ≡ get_or callers k x → IsPassOf f p k x
own_at f passes callers k p x are low at there =
    are.each k p x (slice_get-get_or passes k p (omega (arith, low, are.many)) ∙ ap Some (sym at)) (slice_get-get_or callers k x low ∙ ap Some (sym there))
