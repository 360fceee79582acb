-- Callers that run beside each other: each place of the list keeps its pass and its caller.
use Rattle.std.proofs.Common.{◌≡◌, ℕ, ◌<◌, List, ◌++◌, length, take, drop, get_or, Some, append-nil, sym, ap, ◌∙◌, arith}
use Rattle.std.specs.Prelude.{slice_get}
use Rattle.std.proofs.lemmas.List.{drop_all, take_all}
use Rattle.std.proofs.lemmas.Option.{slice_get-get_or}

pub there_at : {X : Type 0} (xs items : List X) (i : ℕ) (x : X) → xs ≡ items → i < length xs → x ≡ get_or xs i x → slice_get items i ≡ Some x
there_at xs items i x same low at = ap (λ l. slice_get l i) (sym same) ∙ slice_get-get_or xs i x low ∙ ap Some (sym at)

-- what a slice of the whole leaves is the whole
pub whole_slice : {X : Type 0} (items new : List X) (n : ℕ) → length new ≡ n → length items ≡ n → take n (new ++ drop (length new) items) ≡ new
whole_slice items new n many all =
    ap (λ l. take n (new ++ l)) (drop_all (length new) items (omega (arith, many, all))) ∙ ap (take n) (append-nil new) ∙ take_all n new (omega (arith, many))
