-- The answers of callers, moved one caller after another into the room for them.
use Rattle.std.proofs.Common.{◌≡◌, ℕ, ◌+◌, ◌≤◌, ◌++◌, ◌∷◌, [], List, map, length, sym, ap, ◌∙◌, arith, append_assoc, length-append}
use Rattle.core_machine.proofs.Names.{Answer, Caller, caller_answers}

pub answers_move : (done next all : List (List Answer)) (x : Caller) (left rest : List Caller) (own : List Answer) → done ++ map caller_answers left ≡ all → left ≡ x ∷ rest
    → own ≡ caller_answers x → next ≡ done ++ own ∷ [] → next ++ map caller_answers rest ≡ all
answers_move done next all x left rest own so here given added =
    ap (λ (xs : List (List Answer)). xs ++ map caller_answers rest) (added ∙ ap (λ (o : List Answer). done ++ o ∷ []) given)
    ∙ append_assoc done (caller_answers x ∷ []) (map caller_answers rest) ∙ ap (λ (xs : List Caller). done ++ map caller_answers xs) (sym here) ∙ so

pub answers_fit_room : (done next : List (List Answer)) (x : Caller) (left rest : List Caller) (own : List Answer) (room kept : ℕ) → length done + length left ≤ room → left ≡ x ∷ rest
    → next ≡ done ++ own ∷ [] → kept ≡ room → length next + length rest ≤ kept
answers_fit_room done next x left rest own room kept fits here added same =
    let count : length left ≡ length (x ∷ rest) = ap (λ (xs : List Caller). length xs) here in
    let grown : length next ≡ length done + 1 = ap (λ (xs : List (List Answer)). length xs) added ∙ length-append done (own ∷ []) in
    omega (arith, fits, count, grown, same)
