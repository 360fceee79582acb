-- Where a list is cut the first time.
use Rattle.std.proofs.Common.{◌≡◌, ◌≢◌, ℕ, true, false, ap, subst, ◌∙◌, ◌+◌, ◌-◌, ◌<◌, ◌≤◌, Bool, ltb, List, [], ◌∷◌, length, get_or, take, drop, Some, None, refl, sym, inl, inr, arith}
use Rattle.std.specs.Prelude.{position, ◌==◌}
use Rattle.std.specs.List.{slice_split, position_or_len}
use Rattle.std.proofs.lemmas.Bool.{cases_Bool, cases_eq, ltb-true, ltb-false, lt-ltb, le-ltb, eq-eqb, ne_eqb}
use Rattle.std.proofs.lemmas.List.{take_rest, length-map, get_or-map}
use Rattle.std.proofs.lemmas.List.Splits.{slice_split_first}
use Rattle.std.proofs.lemmas.List.Sums.{position_or_len_is}
use Rattle.std.proofs.lemmas.Option.{same_Some}
use Rattle.std.specs.Str.{bytes_eq}
use denote.Ref.{Bor}
use Rattle.line_text.specs.Lines.{fields_in}
use Rattle.line_text.specs.InnerRows.{IsPast, IsPastNames, names_in}
use Rattle.line_text.proofs.Steps.{chosen}

uncut : {X : Type 0} (p : X → Bool) (xs : List X) → length xs ≤ position_or_len p xs → slice_split p xs ≡ xs ∷ []
uncut p [] le = refl
uncut p (x ∷ xs) le =
    elim (cases_Bool (p x)) [
      | inl t ↦ absurd (let le_zero = rw t at le in omega arith)
      | inr f ↦ let le_one = rw f at le in rw (f, uncut p xs (omega arith)) refl
    ]

pub cut_none : {X : Type 0} (p : X → Bool) (xs : List X) → position p xs ≡ None → slice_split p xs ≡ xs ∷ []
cut_none p xs e =
    elim (chosen (ltb (position_or_len p xs) (length xs)) (Some (position_or_len p xs)) None None e) [
      | inl t ↦ absurd (let wrong = t.1 in cc)
      | inr f ↦ uncut p xs (ltb-false _ _ f.0)
    ]

pub cut_some : (p : ℕ → Bool) (xs : List ℕ) (k : ℕ) → position p xs ≡ Some k → slice_split p xs ≡ take k xs ∷ slice_split p (take (length xs - (k + 1)) (drop (k + 1) xs))
cut_some p xs k e =
    elim (chosen (ltb (position_or_len p xs) (length xs)) (Some (position_or_len p xs)) None (Some k) e) [
      | inl t ↦
          let s : position_or_len p xs ≡ k = same_Some (position_or_len p xs) k t.1 in
          let first : slice_split p xs ≡ take (position_or_len p xs) xs ∷ slice_split p (drop (position_or_len p xs + 1) xs) = slice_split_first p xs 0 (ltb-true _ _ t.0) in
          rw (take_rest xs (k + 1), ← s) first
      | inr f ↦ absurd (let wrong = f.1 in cc)
    ]

-- a list has at least one part
pub some_part : {X : Type 0} (p : X → Bool) (xs : List X) → (part : List X) × ((parts : List (List X)) × (slice_split p xs ≡ part ∷ parts))
some_part p [] = ([], ([], refl))
some_part p (x ∷ xs) =
    let rest = some_part p xs in
    elim (cases_Bool (p x)) [
      | inl t ↦ ([], (slice_split p xs, rw t refl))
      | inr f ↦ (x ∷ rest.0, (rest.1.0, rw (f, rest.1.1) refl))
    ]

-- so bytes have at least one field
pub some_field : (text : List ℕ) → (length (fields_in text) == 0) ≡ false
some_field text = let some = some_part (λ c. c == 32) text in rw some.1.1 (ne_eqb _ 0 (λ e. omega arith))

-- ---- the first place of a byte

pub past_one : (at : ℕ) (text : List ℕ) (k : ℕ) → IsPast at text k → k < length text → get_or text k 0 ≢ at → IsPast at text (k + 1)
past_one at text k past lt ne = (
  omega arith,
  λ j less. elim (cases_eq j k) [
    | inl e ↦ ap (λ (n : ℕ). get_or text n 0 == at) e ∙ ne_eqb (get_or text k 0) at ne
    | inr other ↦ past.1 j (omega arith)
  ],
)

pub past_two : (at : ℕ) (text : List ℕ) (k : ℕ) → IsPast at text k → k + 1 < length text → get_or text k 0 ≢ at → get_or text (k + 1) 0 ≢ at → IsPast at text (k + 2)
past_two at text k past lt a b =
    subst (IsPast at text) {x = k + 1 + 1} {y = k + 2} (omega arith) (past_one at text (k + 1) (past_one at text k past (omega arith) a) (omega arith) b)

pub past_three : (at : ℕ) (text : List ℕ) (k : ℕ) → IsPast at text k → k + 2 < length text → get_or text k 0 ≢ at → get_or text (k + 1) 0 ≢ at → get_or text (k + 2) 0 ≢ at → IsPast at text (k + 3)
past_three at text k past lt a b d =
    subst (IsPast at text) {x = k + 2 + 1} {y = k + 3} (omega arith) (past_one at text (k + 2) (past_two at text k past (omega arith) a b) (omega arith) d)

-- the byte is at place k
pub is_first : (at : ℕ) (text : List ℕ) (k : ℕ) → IsPast at text k → k < length text → get_or text k 0 ≡ at → Some k ≡ position (λ c. c == at) text
is_first at text k past lt e =
    let place : position_or_len (λ c. c == at) text ≡ k = position_or_len_is (λ c. c == at) text k 0 (omega arith) past.1 (λ _. eq-eqb (get_or text k 0) at e) in
    rw (place, lt-ltb k (length text) lt) refl

-- it is nowhere
pub is_nowhere : (at : ℕ) (text : List ℕ) (k : ℕ) → IsPast at text k → length text ≤ k → None ≡ position (λ c. c == at) text
is_nowhere at text k past le =
    let place : position_or_len (λ c. c == at) text ≡ k = position_or_len_is (λ c. c == at) text k 0 past.0 past.1 (λ lt. absurd (omega arith)) in
    rw (place, le-ltb k (length text) le) refl

-- ---- the first place of a name

pub name_past : (field : List ℕ) (names : List (List ℕ)) (k : ℕ) → IsPastNames field names k → k < length names → bytes_eq field (get_or names k []) ≡ false → IsPastNames field names (k + 1)
name_past field names k past lt e = (
  omega arith,
  λ j less. elim (cases_eq j k) [
    | inl same ↦ ap (λ (n : ℕ). bytes_eq field (get_or names n [])) same ∙ e
    | inr other ↦ past.1 j (omega arith)
  ],
)

pub name_first : (field : List ℕ) (names : List (List ℕ)) (k : ℕ) → IsPastNames field names k → k < length names → bytes_eq field (get_or names k []) ≡ true → Some k ≡ position (bytes_eq field) names
name_first field names k past lt e =
    let place : position_or_len (bytes_eq field) names ≡ k = position_or_len_is (bytes_eq field) names k [] (omega arith) past.1 (λ _. e) in
    rw (place, lt-ltb k (length names) lt) refl

pub name_nowhere : (field : List ℕ) (names : List (List ℕ)) (k : ℕ) → IsPastNames field names k → length names ≤ k → None ≡ position (bytes_eq field) names
name_nowhere field names k past le =
    let place : position_or_len (bytes_eq field) names ≡ k = position_or_len_is (bytes_eq field) names k [] past.0 past.1 (λ lt. absurd (omega arith)) in
    rw (place, le-ltb k (length names) le) refl

-- a test of the name at place k in the code
pub name_tested : (names : List (Bor (List ℕ))) (d : Bor (List ℕ)) (field : List ℕ) (k : ℕ) (b : Bool) → k < length names → b ≡ bytes_eq field (get_or names k d).now → bytes_eq field (get_or (names_in names) k []) ≡ b
name_tested names d field k b lt e = ap (bytes_eq field) (get_or-map (λ name. name.now) names k d [] lt) ∙ sym e

pub names_count : (names : List (Bor (List ℕ))) → length (names_in names) ≡ length names
names_count names = length-map names (λ name. name.now)
