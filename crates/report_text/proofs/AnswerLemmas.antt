-- The line of an answered call, part by part.
use Rattle.std.proofs.Common.{◌≡◌, ℕ, Bool, true, false, not, ◌&&◌, List, [], ◌∷◌, ◌++◌, codes, refl, sym, ap, ◌∙◌, append_assoc}
use Rattle.std.specs.List.{join_with_byte}
use Rattle.std.specs.Fmt.{signed_decimal}
use Rattle.std.proofs.lemmas.List.{append-nil}
use Rattle.history.specs.declared.call.Via.{Via}
use Rattle.history.specs.declared.call.Via.TheVariants as via
use Rattle.history.specs.declared.call.Answer.{Answer}
use Rattle.history.specs.declared.call.Answer.TheVariants as answer
use Rattle.history.specs.Legality.{is_seen}
use Rattle.rmm_calls.specs.Codes.{code_of}
use Rattle.report_text.specs.RunText.{via_fields, answer_fields, code_fields, call_name, call_line}
use Rattle.report_text.specs.RunParts.{code_text}

pub join_via : (field : List ℕ) (v : Via) → join_with_byte 32 (field ∷ via_fields v) ≡ field ++ 32 ∷ join_with_byte 32 (via_fields v)
join_via field via.Still = refl
join_via field (via.Hit reach at) = refl
join_via field (via.Cold reach lo hi) = refl
join_via field (via.Missed reach next tag at lo hi) = refl

join_answer : (field : List ℕ) (a : Answer) → join_with_byte 32 (field ∷ answer_fields a) ≡ field ++ 32 ∷ join_with_byte 32 (answer_fields a)
join_answer field answer.Inval = refl
join_answer field answer.Unknown = refl
join_answer field (answer.Perm found) = refl
join_answer field (answer.Worn size value) = refl
join_answer field (answer.Done generations) = refl
join_answer field (answer.Seen access) = refl

-- two fields more
join_more : (x : List ℕ) (ys : List (List ℕ)) (a b : List ℕ)
    → join_with_byte 32 (x ∷ (ys ++ a ∷ b ∷ [])) ≡ join_with_byte 32 (x ∷ ys) ++ 32 ∷ (a ++ 32 ∷ b)
join_more x [] a b = refl
join_more x (y ∷ ys) a b = ap (λ (text : List ℕ). x ++ 32 ∷ text) (join_more y ys a b) ∙ sym (append_assoc x (32 ∷ join_with_byte 32 (y ∷ ys)) (32 ∷ (a ++ 32 ∷ b)))

join_code : (x : List ℕ) (ys : List (List ℕ)) (smc : Bool) (a : Answer) (b : Bool) → b ≡ smc && not (is_seen a)
    → join_with_byte 32 (x ∷ (ys ++ code_fields smc a)) ≡ join_with_byte 32 (x ∷ ys) ++ code_text smc a
join_code x ys smc a true e = rw (← e) (join_more x ys (codes "code") (signed_decimal (code_of a)))
join_code x ys smc a false e =
    rw (← e) (ap (λ (fields : List (List ℕ)). join_with_byte 32 (x ∷ fields)) (append-nil ys) ∙ sym (append-nil (join_with_byte 32 (x ∷ ys))))

pub call_line_parts : (c k : ℕ) (smc : Bool) (a : Answer)
    → call_line c k smc a ≡ ((call_name c k ++ 32 ∷ join_with_byte 32 (answer_fields a)) ++ code_text smc a) ++ codes "\n"
call_line_parts c k smc a =
    ap (λ (text : List ℕ). text ++ codes "\n") (join_code (call_name c k) (answer_fields a) smc a (smc && not (is_seen a)) refl
    ∙ ap (λ (text : List ℕ). text ++ code_text smc a) (join_answer (call_name c k) a))
