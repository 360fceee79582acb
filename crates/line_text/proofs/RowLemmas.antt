-- What is read of a row is spelled so and fits, what fits is read from its spelling, and a row's fault is the one
-- that reading meets. Each is an induction over the kinds.
use Rattle.std.proofs.Common.{◌≡◌, ℕ, zero, suc, ◌+◌, ◌-◌, ltb, ◌<◌, ◌≤◌, ◌^◌, Bool, true, false, cond, List, [], ◌∷◌, length, map, get_or, Option, Some, None, Result, Ok, Err, refl, sym, ap, subst, ◌∙◌, arith, inl, inr}
use Rattle.std.specs.Prelude.{◌==◌, ◌&&◌, not, nat_lt, nat_le, position, is_some, IfOk}
use Rattle.std.specs.Result.{result_err}
use Rattle.std.specs.List.{list_any, list_all, position_or_len, AllByRecursion}
use Rattle.std.specs.Option.{ok_or, option_or}
use Rattle.std.specs.Str.{bytes_eq}
use Rattle.std.proofs.lemmas.Bool.{cases_Bool, cases_eq, and_parts, and_from, eqb-true, eq-eqb, ne_eqb, ltb-true, leb-true, le-leb, lt-ltb, or_cases, not-true, eqb-false}
use Rattle.std.proofs.lemmas.Option.{same_Some}
use Rattle.std.proofs.lemmas.List.{get_or-map}
use Rattle.std.proofs.lemmas.List.Sums.{passes_at_first}
use Rattle.std.proofs.lemmas.Iterator.Adapters.{position_from-zero}
use Rattle.std.specs.List.{position_from}
use Rattle.std.proofs.lemmas.Slice.Eq.{bytes_eq-Decides}
use Rattle.line_text.specs.declared.kind.RowFault.{RowFault}
use Rattle.line_text.specs.declared.kind.RowFault.TheVariants as fault
use Rattle.line_text.specs.Lines.{count, address}
use Rattle.line_text.specs.Numerals.{count_in, address_in}
use Rattle.line_text.specs.Rows.{Range, Any, Between, Below, Among, is_in, FieldKind, Count, Address, Name, number_fault, field_fault, fields_fault, is_shaped, row_fault}
use Rattle.line_text.specs.InnerRows.{◌>>=◌, IsAmong, InRange, FieldFits, Fits, FitsPrefix, name_at, spell_field, spell, ranged, read_field, next_of, has_shape, has_fields, read_values, read_row, padded, ok_padded}
use Rattle.line_text.proofs.Steps.{chosen, bind_ok, ok_same, err_same}
use Rattle.line_text.proofs.NumeralLemmas.{IsPlain, count_read, count_again, count_plain, address_read, address_again, address_plain}

-- ---- ranges

among_is : (values : List ℕ) (n : ℕ) → list_any (λ v. n == v) values ≡ true → IsAmong values n
among_is [] n e = absurd cc
among_is (v ∷ []) n e = elim (or_cases (n == v) false e) [ inl x ↦ eqb-true n v x | inr x ↦ absurd cc ]
among_is (v ∷ w ∷ vs) n e = elim (or_cases (n == v) (list_any (λ v. n == v) (w ∷ vs)) e) [ inl x ↦ inl (eqb-true n v x) | inr x ↦ inr (among_is (w ∷ vs) n x) ]

is_among : (values : List ℕ) (n : ℕ) → IsAmong values n → list_any (λ v. n == v) values ≡ true
is_among [] n h = absurd h
is_among (v ∷ []) n e = rw (eq-eqb n v e) refl
is_among (v ∷ w ∷ vs) n (inl e) = rw (eq-eqb n v e) refl
is_among (v ∷ w ∷ vs) n (inr h) = elim (cases_Bool (n == v)) [ inl t ↦ rw t refl | inr f ↦ rw f (is_among (w ∷ vs) n h) ]

in_range : (r : Range) (n : ℕ) → is_in r n ≡ true → InRange r n
in_range Any n e = tt
in_range (Between low high) n e = let p = and_parts (nat_le low n) (nat_le n high) e in (leb-true low n p.0, leb-true n high p.1)
in_range (Below limit) n e = ltb-true n limit e
in_range (Among values) n e = among_is values n e

range_again : (r : Range) (n : ℕ) → InRange r n → is_in r n ≡ true
range_again Any n h = refl
range_again (Between low high) n h = and_from (nat_le low n) (nat_le n high) (le-leb low n h.0) (le-leb n high h.1)
range_again (Below limit) n h = lt-ltb n limit h
range_again (Among values) n h = is_among values n h

-- some numbers fit when each of them does
pub among_fits : (values : List ℕ) (n : ℕ) → list_all (λ v. nat_lt v (2 ^ 64)) values ≡ true → IsAmong values n → n < 2 ^ 64
among_fits [] n all h = absurd h
among_fits (v ∷ []) n all e = let lt = ltb-true v (2 ^ 64) (and_parts (nat_lt v (2 ^ 64)) true all).0 in omega arith
among_fits (v ∷ w ∷ vs) n all (inl e) = let lt = ltb-true v (2 ^ 64) (and_parts (nat_lt v (2 ^ 64)) (list_all (λ v. nat_lt v (2 ^ 64)) (w ∷ vs)) all).0 in omega arith
among_fits (v ∷ w ∷ vs) n all (inr h) = among_fits (w ∷ vs) n (and_parts (nat_lt v (2 ^ 64)) (list_all (λ v. nat_lt v (2 ^ 64)) (w ∷ vs)) all).1 h

-- ---- names

-- a name is found at its place, and there alone
abbrev place_is : ℕ → Option ℕ → Bool
place_is n None = false
place_is n (Some k) = k == n

abbrev pub each_below : (ℕ → Bool) → ℕ → Bool
each_below p zero = true
each_below p (suc n) = p n && each_below p n

abbrev plain_byte : ℕ → Bool
plain_byte c = not (c == 32) && not (c == 10)

abbrev pub are_names : List (List ℕ) → Bool
are_names names =
    each_below (λ n. place_is n (position (bytes_eq (name_at names n)) names) && (list_all plain_byte (name_at names n) && not (length (name_at names n) == 0))) (length names)

abbrev pub are_kinds : List FieldKind → Bool
are_kinds [] = true
are_kinds (Name names ∷ ks) = are_names names && are_kinds ks
are_kinds (k ∷ ks) = are_kinds ks

-- a field that is not empty and has neither separator
abbrev pub IsPlainField : List ℕ → Type 0
IsPlainField field = AllByRecursion IsPlain field × (0 < length field)

one_below : (p : ℕ → Bool) (n k : ℕ) → each_below p n ≡ true → k < n → p k ≡ true
one_below p zero k all lt = absurd (omega arith)
one_below p (suc n) k all lt =
    let parts = and_parts (p n) (each_below p n) all in
    elim (cases_eq k n) [ inl e ↦ ap p e ∙ parts.0 | inr ne ↦ one_below p n k parts.1 (omega arith) ]

place_found : (n : ℕ) (o : Option ℕ) → place_is n o ≡ true → o ≡ Some n
place_found n None e = absurd cc
place_found n (Some k) e = ap (λ (m : ℕ). Some m) (eqb-true k n e)

name_again : (names : List (List ℕ)) (n : ℕ) → are_names names ≡ true → n < length names → position (bytes_eq (name_at names n)) names ≡ Some n
name_again names n good lt =
    place_found n _ (and_parts _ _ (one_below (λ n. place_is n (position (bytes_eq (name_at names n)) names) && (list_all plain_byte (name_at names n) && not (length (name_at names n) == 0))) (length names) n good lt)).0

byte_plain : (c : ℕ) → plain_byte c ≡ true → IsPlain c
byte_plain c e =
    let parts = and_parts (not (c == 32)) (not (c == 10)) e in
    (eqb-false c 32 (not-true (c == 32) parts.0), eqb-false c 10 (not-true (c == 10) parts.1))

bytes_plain : (field : List ℕ) → list_all plain_byte field ≡ true → AllByRecursion IsPlain field
bytes_plain [] e = tt
bytes_plain (c ∷ cs) e = let parts = and_parts (plain_byte c) (list_all plain_byte cs) e in (byte_plain c parts.0, bytes_plain cs parts.1)

some_bytes : (field : List ℕ) → not (length field == 0) ≡ true → 0 < length field
some_bytes field e = let ne = eqb-false (length field) 0 (not-true _ e) in omega arith

pub plain_field : (field : List ℕ) → (list_all plain_byte field && not (length field == 0)) ≡ true → IsPlainField field
plain_field field e = let parts = and_parts _ _ e in (bytes_plain field parts.0, some_bytes field parts.1)

name_plain : (names : List (List ℕ)) (n : ℕ) → are_names names ≡ true → n < length names → IsPlainField (name_at names n)
name_plain names n good lt =
    plain_field (name_at names n) (and_parts _ _ (one_below (λ n. place_is n (position (bytes_eq (name_at names n)) names) && (list_all plain_byte (name_at names n) && not (length (name_at names n) == 0))) (length names) n good lt)).1

-- ---- one field

place_some : (p : List ℕ → Bool) (names : List (List ℕ)) (n : ℕ) → position p names ≡ Some n → (n < length names) × (p (name_at names n) ≡ true)
place_some p names n e =
    elim (chosen (ltb (position_or_len p names) (length names)) (Some (position_or_len p names)) None (Some n) e) [
      | inl t ↦
          let is : position_or_len p names ≡ n = same_Some (position_or_len p names) n t.1 in
          let lt = ltb-true (position_or_len p names) (length names) t.0 in
          subst (λ (k : ℕ). (k < length names) × (p (name_at names k) ≡ true)) is (lt, passes_at_first p names [] lt)
      | inr f ↦ absurd (let wrong = f.1 in cc)
    ]

from_any : (p : List ℕ → Bool) (n : ℕ) (names : List (List ℕ)) → is_some (position_from p n names) ≡ list_any p names
from_any p n [] = refl
from_any p n (x ∷ xs) = elim (cases_Bool (p x)) [ inl t ↦ rw t refl | inr f ↦ rw f (from_any p (n + 1) xs) ]

place_any : (p : List ℕ → Bool) (names : List (List ℕ)) → is_some (position p names) ≡ list_any p names
place_any p names = ap is_some (position_from-zero p names) ∙ from_any p 0 names

ranged_ok : (r : Range) (o : Option ℕ) (v : ℕ) → ranged r o ≡ Ok v → (o ≡ Some v) × (is_in r v ≡ true)
ranged_ok r None v e = absurd cc
ranged_ok r (Some n) v e =
    elim (chosen (is_in r n) (Ok n) (Err fault.Value) (Ok v) e) [
      | inl t ↦ let s : n ≡ v = ok_same {E = RowFault} n v t.1 in subst (λ (k : ℕ). (◌≡◌ {A = Option ℕ} (Some n) (Some k)) × (is_in r k ≡ true)) s (refl, t.0)
      | inr f ↦ absurd (let wrong = f.1 in cc)
    ]

ranged_again : (r : Range) (o : Option ℕ) (v : ℕ) → o ≡ Some v → InRange r v → ranged r o ≡ Ok v
ranged_again r o v e h = rw (e, range_again r v h) refl

named_ok : (o : Option ℕ) (v : ℕ) → ok_or o fault.Value ≡ Ok v → o ≡ Some v
named_ok None v e = absurd cc
named_ok (Some n) v e = ap (λ (m : ℕ). Some m) (ok_same {E = RowFault} n v e)

field_spelled : (k : FieldKind) (field : List ℕ) (v : ℕ) → read_field k field ≡ Ok v → (field ≡ spell_field k v) × FieldFits k v
field_spelled (Count r) field v e =
    let o = ranged_ok r (count_in field) v e in
    let n = count_read field v o.0 in
    (n.0, (in_range r v o.1, n.1))
field_spelled (Address r) field v e =
    let o = ranged_ok r (address_in field) v e in
    let n = address_read field v o.0 in
    (n.0, (in_range r v o.1, n.1))
field_spelled (Name names) field v e =
    let p = place_some (bytes_eq field) names v (named_ok (position (bytes_eq field) names) v e) in
    ((bytes_eq-Decides field (name_at names v)).0 p.1, p.0)

field_again : (k : FieldKind) (v : ℕ) → are_kinds (k ∷ []) ≡ true → FieldFits k v → read_field k (spell_field k v) ≡ Ok v
field_again (Count r) v good fits = ranged_again r (count_in (count v)) v (count_again v fits.1) fits.0
field_again (Address r) v good fits = ranged_again r (address_in (address v)) v (address_again v fits.1) fits.0
field_again (Name names) v good fits = ap (λ (o : Option ℕ). ok_or o fault.Value) (name_again names v (and_parts (are_names names) true good).0 fits)

field_plain : (k : FieldKind) (v : ℕ) → are_kinds (k ∷ []) ≡ true → FieldFits k v → IsPlainField (spell_field k v)
field_plain (Count r) v good fits = count_plain v fits.1
field_plain (Address r) v good fits = address_plain v fits.1
field_plain (Name names) v good fits = name_plain names v (and_parts (are_names names) true good).0 fits

ranged_reported : (r : Range) (o : Option ℕ) → result_err (ranged r o) ≡ number_fault r o
ranged_reported r None = refl
ranged_reported r (Some n) = elim (cases_Bool (is_in r n)) [ inl t ↦ rw t refl | inr f ↦ rw f refl ]

named_reported : (o : Option ℕ) → result_err (ok_or o fault.Value) ≡ cond (is_some o) None (Some fault.Value)
named_reported None = refl
named_reported (Some n) = refl

field_reported : (k : FieldKind) (field : List ℕ) → result_err (read_field k field) ≡ field_fault k field
field_reported (Count r) field = ranged_reported r (count_in field)
field_reported (Address r) field = ranged_reported r (address_in field)
field_reported (Name names) field =
    named_reported (position (bytes_eq field) names) ∙ ap (λ (b : Bool). cond b None (Some fault.Value)) (place_any (bytes_eq field) names)

-- ---- the shape

suc_eqb : (m n : ℕ) → (suc m == suc n) ≡ (m == n)
suc_eqb m n =
    elim (cases_eq m n) [
      | inl e ↦ eq-eqb (suc m) (suc n) (ap suc e) ∙ sym (eq-eqb m n e)
      | inr ne ↦ ne_eqb (suc m) (suc n) (λ e. ne (omega arith)) ∙ sym (ne_eqb m n ne)
    ]

swapped : (a b c : Bool) → (a && (b && c)) ≡ (b && (a && c))
swapped true b c = refl
swapped false true c = refl
swapped false false c = refl

pub shape_is : (ks : List FieldKind) (fs : List (List ℕ)) → has_shape ks fs ≡ is_shaped ks fs
unfolding has_shape
shape_is [] [] = refl
shape_is [] (f ∷ fs) = rw (ne_eqb (length (f ∷ fs)) 0 (λ e. omega arith)) refl
shape_is (k ∷ ks) [] = rw (ne_eqb 0 (length (k ∷ ks)) (λ e. omega arith)) refl
shape_is (k ∷ ks) (f ∷ fs) =
    ap (λ (b : Bool). not (length f == 0) && b) (shape_is ks fs)
    ∙ swapped (not (length f == 0)) (length fs == length ks) (list_all (λ f. not (length f == 0)) fs)
    ∙ ap (λ (b : Bool). b && (not (length f == 0) && list_all (λ f. not (length f == 0)) fs)) (sym (suc_eqb (length fs) (length ks)))

-- the shape depends on the number of kinds alone
pub shape_counts : (ks : List FieldKind) (fs : List (List ℕ)) → has_fields (length ks) fs ≡ has_shape ks fs
unfolding has_shape
shape_counts [] fs = refl
shape_counts (k ∷ ks) [] = refl
shape_counts (k ∷ ks) (f ∷ fs) = ap (λ (b : Bool). not (length f == 0) && b) (shape_counts ks fs)

pub no_more_fields : (n : ℕ) (fs : List (List ℕ)) (e : RowFault) → (n == 0) ≡ false → next_of fs ≡ Err e → false ≡ has_fields n fs
unfolding next_of
no_more_fields zero fs e some next = absurd cc
no_more_fields (suc n) [] e some next = refl
no_more_fields (suc n) (f ∷ fs) e some next =
    elim (cases_Bool (length f == 0)) [ inl t ↦ rw t refl | inr full ↦ absurd (let wrong = rw full at next in cc) ]

less_one : (n : ℕ) → suc n - 1 ≡ n
less_one n = omega arith

pub more_fields : (n : ℕ) (fs : List (List ℕ)) (f : List ℕ) (more : List (List ℕ)) → (n == 0) ≡ false → next_of fs ≡ Ok (f, more) → has_fields (n - 1) more ≡ has_fields n fs
unfolding next_of
more_fields zero fs f more some next = absurd cc
more_fields (suc n) [] f more some next = absurd cc
more_fields (suc n) (g ∷ gs) f more some next =
    elim (cases_Bool (length g == 0)) [
      | inl t ↦ absurd (let wrong = rw t at next in cc)
      | inr full ↦ let is = rw full at next in rw full (ap (λ (m : ℕ). has_fields m more) (less_one n) ∙ ap (has_fields n) (sym (ap (λ (x : List ℕ × List (List ℕ)). x.1) (ok_same {E = RowFault} (g, gs) (f, more) is))))
    ]

-- ---- the values

empty_bad : (k : FieldKind) (ks : List FieldKind) (f : List ℕ) (fs : List (List ℕ)) → (length f == 0) ≡ true → read_values (k ∷ ks) (f ∷ fs) ≡ Err fault.Fields
unfolding read_values next_of
empty_bad k ks f fs e = rw e refl

full_step : (k : FieldKind) (ks : List FieldKind) (f : List ℕ) (fs : List (List ℕ)) → (length f == 0) ≡ false
    → read_values (k ∷ ks) (f ∷ fs) ≡ (read_field k f >>= λ v. read_values ks fs >>= λ vs. Ok (v ∷ vs))
unfolding read_values next_of
full_step k ks f fs e = rw e refl

-- the first value and those after it
record Values (k : FieldKind) (ks : List FieldKind) (f : List ℕ) (fs : List (List ℕ)) (vs : List ℕ) : Type 0 where
  full : (length f == 0) ≡ false
  first : ℕ
  more : List ℕ
  first_read : read_field k f ≡ Ok first
  more_read : read_values ks fs ≡ Ok more
  are : first ∷ more ≡ vs

values_in : (k : FieldKind) (ks : List FieldKind) (f : List ℕ) (fs : List (List ℕ)) (vs : List ℕ) → read_values (k ∷ ks) (f ∷ fs) ≡ Ok vs → Values k ks f fs vs
values_in k ks f fs vs e =
    elim (cases_Bool (length f == 0)) [
      | inl t ↦ absurd (let wrong = sym (empty_bad k ks f fs t) ∙ e in cc)
      | inr full ↦
          let v = bind_ok (read_field k f) (λ v. read_values ks fs >>= λ vs. Ok (v ∷ vs)) vs (sym (full_step k ks f fs full) ∙ e) in
          let more = bind_ok (read_values ks fs) (λ vs. Ok (v.0 ∷ vs)) vs v.2 in
          record { full = full; first = v.0; more = more.0; first_read = v.1; more_read = more.1; are = ok_same {E = RowFault} (v.0 ∷ more.0) vs more.2 }
    ]

none_left : (k : FieldKind) (ks : List FieldKind) → read_values (k ∷ ks) [] ≡ Err fault.Fields
unfolding read_values next_of
none_left k ks = refl

no_kinds : (fs : List (List ℕ)) (vs : List ℕ) → read_values [] fs ≡ Ok vs → (fs ≡ []) × ([] ≡ vs)
unfolding read_values
no_kinds [] vs e = (refl, ok_same {E = RowFault} [] vs e)
no_kinds (f ∷ fs) vs e = absurd (let wrong = rw (ne_eqb (length (f ∷ fs)) 0 (λ e. omega arith)) at e in cc)

values_spelled : (ks : List FieldKind) (fs : List (List ℕ)) (vs : List ℕ) → read_values ks fs ≡ Ok vs → (fs ≡ spell ks vs) × Fits ks vs
values_spelled [] fs vs e = let n = no_kinds fs vs e in subst (λ (vs : List ℕ). (fs ≡ spell [] vs) × Fits [] vs) n.1 (n.0, tt)
values_spelled (k ∷ ks) [] vs e = absurd (let wrong = sym (none_left k ks) ∙ e in cc)
values_spelled (k ∷ ks) (f ∷ fs) vs e =
    let v = values_in k ks f fs vs e in
    let first = field_spelled k f v.first v.first_read in
    let more = values_spelled ks fs v.more v.more_read in
    subst (λ (vs : List ℕ). (f ∷ fs ≡ spell (k ∷ ks) vs) × Fits (k ∷ ks) vs) v.are ((λ i. first.0 i ∷ more.0 i), (first.1, more.1))

values_shaped : (ks : List FieldKind) (fs : List (List ℕ)) (vs : List ℕ) → read_values ks fs ≡ Ok vs → has_shape ks fs ≡ true
unfolding has_shape
values_shaped [] fs vs e = rw (no_kinds fs vs e).0 refl
values_shaped (k ∷ ks) [] vs e = absurd (let wrong = sym (none_left k ks) ∙ e in cc)
values_shaped (k ∷ ks) (f ∷ fs) vs e = let v = values_in k ks f fs vs e in rw (v.full, values_shaped ks fs v.more v.more_read) refl

kinds_parts : (k : FieldKind) (ks : List FieldKind) → are_kinds (k ∷ ks) ≡ true → (are_kinds (k ∷ []) ≡ true) × (are_kinds ks ≡ true)
kinds_parts (Count r) ks e = (refl, e)
kinds_parts (Address r) ks e = (refl, e)
kinds_parts (Name names) ks e = let p = and_parts (are_names names) (are_kinds ks) e in (and_from (are_names names) true p.0 refl, p.1)

pub row_plain : (ks : List FieldKind) (vs : List ℕ) → are_kinds ks ≡ true → Fits ks vs → AllByRecursion IsPlainField (spell ks vs)
row_plain [] [] good fits = tt
row_plain [] (v ∷ vs) good fits = absurd fits
row_plain (k ∷ ks) [] good fits = absurd fits
row_plain (k ∷ ks) (v ∷ vs) good fits = let p = kinds_parts k ks good in (field_plain k v p.0 fits.0, row_plain ks vs p.1 fits.1)

no_values : read_values [] [] ≡ Ok []
unfolding read_values
no_values = refl

values_again : (ks : List FieldKind) (vs : List ℕ) → are_kinds ks ≡ true → Fits ks vs → read_values ks (spell ks vs) ≡ Ok vs
values_again [] [] good fits = no_values
values_again [] (v ∷ vs) good fits = absurd fits
values_again (k ∷ ks) [] good fits = absurd fits
values_again (k ∷ ks) (v ∷ vs) good fits =
    let p = kinds_parts k ks good in
    let some = (field_plain k v p.0 fits.0).1 in
    full_step k ks (spell_field k v) (spell ks vs) (ne_eqb _ 0 (λ e. omega arith)) ∙ rw (field_again k v p.0 fits.0, values_again ks vs p.1 fits.1) refl

more_reported : (r : Result (List ℕ) RowFault) (v : ℕ) → result_err (r >>= λ vs. Ok (v ∷ vs)) ≡ result_err r
more_reported (Ok vs) v = refl
more_reported (Err f) v = refl

step_reported : (r : Result ℕ RowFault) (more : Result (List ℕ) RowFault) → result_err (r >>= λ v. more >>= λ vs. Ok (v ∷ vs)) ≡ option_or (result_err r) (result_err more)
step_reported (Ok v) more = more_reported more v
step_reported (Err f) more = refl

values_reported : (ks : List FieldKind) (fs : List (List ℕ)) → has_shape ks fs ≡ true → result_err (read_values ks fs) ≡ fields_fault ks fs
unfolding has_shape
values_reported [] [] e = ap result_err no_values
values_reported [] (f ∷ fs) e = absurd (let wrong = rw (ne_eqb (length (f ∷ fs)) 0 (λ e. omega arith)) at e in cc)
values_reported (k ∷ ks) [] e = absurd cc
values_reported (k ∷ ks) (f ∷ fs) e =
    let p = and_parts (not (length f == 0)) (has_shape ks fs) e in
    ap result_err (full_step k ks f fs (not-true _ p.0))
    ∙ step_reported (read_field k f) (read_values ks fs)
    ∙ (λ i. option_or (field_reported k f i) (values_reported ks fs p.1 i))

-- ---- rows

pub row_reported : (ks : List FieldKind) (fs : List (List ℕ)) → result_err (read_row ks fs) ≡ row_fault ks fs
unfolding read_row row_fault
row_reported ks fs =
    elim (cases_Bool (is_shaped ks fs)) [
      | inl t ↦ rw t (values_reported ks fs (shape_is ks fs ∙ t))
      | inr f ↦ rw f refl
    ]

row_values : (ks : List FieldKind) (fs : List (List ℕ)) (vs : List ℕ) → read_row ks fs ≡ Ok vs → read_values ks fs ≡ Ok vs
unfolding read_row
row_values ks fs vs e =
    elim (chosen (is_shaped ks fs) (read_values ks fs) (Err fault.Fields) (Ok vs) e) [ inl t ↦ t.1 | inr f ↦ absurd (let wrong = f.1 in cc) ]

values_row : (ks : List FieldKind) (fs : List (List ℕ)) (vs : List ℕ) → read_values ks fs ≡ Ok vs → read_row ks fs ≡ Ok vs
unfolding read_row
values_row ks fs vs e = rw (sym (shape_is ks fs) ∙ values_shaped ks fs vs e) e

pub row_spelled : (ks : List FieldKind) (fs : List (List ℕ)) (vs : List ℕ) → read_row ks fs ≡ Ok vs → (fs ≡ spell ks vs) × Fits ks vs
row_spelled ks fs vs e = values_spelled ks fs vs (row_values ks fs vs e)

pub row_again : (ks : List FieldKind) (vs : List ℕ) → are_kinds ks ≡ true → Fits ks vs → read_row ks (spell ks vs) ≡ Ok vs
row_again ks vs good fits = values_row ks (spell ks vs) vs (values_again ks vs good fits)

-- ---- a keyword's facts, as one function of its values

abbrev pub ForRow : List FieldKind → (List ℕ → Type 0) → Type 0
ForRow [] P = P []
ForRow (k ∷ ks) P = (v : ℕ) → FieldFits k v → ForRow ks (λ vs. P (v ∷ vs))

pub each_row : (ks : List FieldKind) (P : List ℕ → Type 0) → ForRow ks P → (vs : List ℕ) → Fits ks vs → P vs
each_row [] P h [] fits = h
each_row [] P h (v ∷ vs) fits = absurd fits
each_row (k ∷ ks) P h [] fits = absurd fits
each_row (k ∷ ks) P h (v ∷ vs) fits = each_row ks (λ vs. P (v ∷ vs)) (h v fits.0) vs fits.1

-- the name at a value's place is the name of the value at that place
pub name_of_place : {A : Type 0} (name : A → List ℕ) (all : List A) (n : ℕ) (d : A) → n < length all → name_at (map name all) n ≡ name (get_or all n d)
name_of_place name all n d lt = get_or-map name all n d [] lt

-- ---- values with zeros after them

pub padded_fits : (n : ℕ) (ks : List FieldKind) (vs : List ℕ) → length ks ≤ n → Fits ks vs → FitsPrefix ks (padded n vs)
padded_fits n [] vs le fits = tt
padded_fits n (k ∷ ks) [] le fits = absurd fits
padded_fits zero (k ∷ ks) (v ∷ vs) le fits = absurd (omega arith)
padded_fits (suc n) (k ∷ ks) (v ∷ vs) le fits = (fits.0, padded_fits n ks vs (omega arith) fits.1)

pub padded_spells : (n : ℕ) (ks : List FieldKind) (vs : List ℕ) → length ks ≤ n → Fits ks vs → spell ks vs ≡ spell ks (padded n vs)
padded_spells n [] vs le fits = refl
padded_spells n (k ∷ ks) [] le fits = absurd fits
padded_spells zero (k ∷ ks) (v ∷ vs) le fits = absurd (omega arith)
padded_spells (suc n) (k ∷ ks) (v ∷ vs) le fits = ap (λ (fs : List (List ℕ)). spell_field k v ∷ fs) (padded_spells n ks vs (omega arith) fits.1)

padded_ok : (r : Result (List ℕ) RowFault) (x : List ℕ) → Ok x ≡ ok_padded r → (vs : List ℕ) × (r ≡ Ok vs) × (x ≡ padded 4 vs)
padded_ok (Ok vs) x e = (vs, refl, ok_same {E = RowFault} x (padded 4 vs) e)
padded_ok (Err f) x e = absurd cc

padded_err : (r : Result (List ℕ) RowFault) (f : RowFault) → Err f ≡ ok_padded r → r ≡ Err f
padded_err (Ok vs) f e = absurd cc
padded_err (Err g) f e = sym (ap (λ (f : RowFault). Err f) (err_same {A = List ℕ} f g e))

-- ---- what the functions read

pub row_of_values : (ks : List FieldKind) (fs : List (List ℕ)) (x : List ℕ) → Ok x ≡ ok_padded (read_values ks fs) → Ok x ≡ ok_padded (read_row ks fs)
row_of_values ks fs x e =
    let vs = padded_ok (read_values ks fs) x e in
    rw (values_row ks fs vs.0 vs.1) (ap (λ (x : List ℕ). Ok x) vs.2)

pub row_of_fault : (ks : List FieldKind) (fs : List (List ℕ)) (f : RowFault) → Err f ≡ ok_padded (read_values ks fs) → has_shape ks fs ≡ true → Err f ≡ ok_padded (read_row ks fs)
unfolding read_row
row_of_fault ks fs f e shaped = rw (sym (shape_is ks fs) ∙ shaped, padded_err (read_values ks fs) f e) refl

pub row_of_bad : (ks : List FieldKind) (fs : List (List ℕ)) → has_shape ks fs ≡ false → Err fault.Fields ≡ ok_padded (read_row ks fs)
unfolding read_row
row_of_bad ks fs bad = rw (sym (shape_is ks fs) ∙ bad) refl

pub row_fits : (ks : List FieldKind) (fs : List (List ℕ)) (r : Result (List ℕ) RowFault) → length ks ≤ 4 → r ≡ ok_padded (read_row ks fs) → IfOk r (λ x. FitsPrefix ks x)
row_fits ks fs (Ok x) le e =
    let vs = padded_ok (read_row ks fs) x e in
    subst (λ (x : List ℕ). FitsPrefix ks x) (sym vs.2) (padded_fits 4 ks vs.0 le (row_spelled ks fs vs.0 vs.1).1)
row_fits ks fs (Err f) le e = tt

pub row_spelling : (ks : List FieldKind) (fs : List (List ℕ)) (r : Result (List ℕ) RowFault) → length ks ≤ 4 → r ≡ ok_padded (read_row ks fs) → IfOk r (λ x. fs ≡ spell ks x)
row_spelling ks fs (Ok x) le e =
    let vs = padded_ok (read_row ks fs) x e in
    let is = row_spelled ks fs vs.0 vs.1 in
    subst (λ (x : List ℕ). fs ≡ spell ks x) (sym vs.2) (is.0 ∙ padded_spells 4 ks vs.0 le is.1)
row_spelling ks fs (Err f) le e = tt

padded_fault : (r : Result (List ℕ) RowFault) → result_err (ok_padded r) ≡ result_err r
padded_fault (Ok vs) = refl
padded_fault (Err f) = refl

pub row_faulty : (ks : List FieldKind) (fs : List (List ℕ)) (r : Result (List ℕ) RowFault) → r ≡ ok_padded (read_row ks fs) → result_err r ≡ row_fault ks fs
row_faulty ks fs r e = ap result_err e ∙ padded_fault (read_row ks fs) ∙ row_reported ks fs
