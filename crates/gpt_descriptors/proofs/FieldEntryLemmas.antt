-- A granules word with one of its fields replaced: what its fields are, and that it is a granules word again.
use Rattle.std.proofs.Common.{◌≡◌, ◌≢◌, ℕ, ◌+◌, ◌-◌, ◌*◌, ◌/◌, ◌%◌, ◌^◌, ◌<◌, true, false, not, eqb, Option, Some, None, refl, sym, ap, ◌∙◌, subst, arith, inl, inr}
use Rattle.std.specs.Prelude.{IsSome, option_and_then}
use Rattle.std.specs.Option.{option_map}
use Rattle.std.proofs.Math.Nat.{div-div-eq-div-mul, mul-add-div_right, mul-add-mod_self_right}
use Rattle.std.proofs.lemmas.Nat.{pow_pos, pow-add, mod_below, div-add-mod', div-mul-add, mod-mul-add}
use Rattle.std.proofs.lemmas.Bool.{cases_Bool, cases_eq, cases_order}
use Rattle.gpi_values.specs.declared.gpi.Gpi.{Gpi}
use Rattle.gpi_values.specs.Values.{value_of, gpi_with}
use Rattle.gpi_values.proofs.ValueLemmas.{gpi_with-value_of, value_low}
use Rattle.gpt_descriptors.specs.declared.size.Size.{Size}
use Rattle.gpt_descriptors.specs.declared.entry.L1Entry.TheVariants as l1
use Rattle.gpt_descriptors.specs.Entries.{field, size_with, knows_all, entry_gpi, l1_entry, word_gpi}
use Rattle.gpt_descriptors.proofs.EntryLemmas.{knows_each, granules_entry}
use Rattle.gpt_descriptors.specs.Fields.{with_field, is_granules_entry, is_granules}

-- ---- fields, in plain numbers

-- the field at p
at_place : (x v p rest : ℕ) → v < 16 → rest < p → ((x * 16 + v) * p + rest) / p % 16 ≡ v
at_place x v p rest low below = ap (λ (n : ℕ). n % 16) (div-mul-add (x * 16 + v) p rest below) ∙ mod-mul-add x 16 v low

-- a field below p stays, whatever is from p on
below_place : (a p r q rest : ℕ) → 0 < r → p ≡ r * (16 * q) → (a * p + rest) / r % 16 ≡ rest / r % 16
below_place a p r q rest some e =
    let turned : a * p ≡ a * q * 16 * r = ap (λ (n : ℕ). a * n) e ∙ grind arith in
    ap (λ (n : ℕ). (n + rest) / r % 16) turned ∙ ap (λ (n : ℕ). n % 16) (mul-add-div_right some (a * q * 16) rest)
    ∙ mul-add-mod_self_right (a * q) 16 (rest / r)

-- a field above p stays
above_place : (x v p q rest : ℕ) → v < 16 → rest < p → ((x * 16 + v) * p + rest) / (p * (16 * q)) ≡ x / q
above_place x v p q rest low below =
    sym (div-div-eq-div-mul ((x * 16 + v) * p + rest) p (16 * q))
    ∙ ap (λ (n : ℕ). n / (16 * q)) (div-mul-add (x * 16 + v) p rest below)
    ∙ sym (div-div-eq-div-mul (x * 16 + v) 16 q) ∙ ap (λ (n : ℕ). n / q) (div-mul-add x 16 v low)

above_as_was : (word p q : ℕ) → word / (p * (16 * q)) ≡ word / p / 16 / q
above_as_was word p q = sym (div-div-eq-div-mul word p (16 * q)) ∙ sym (div-div-eq-div-mul (word / p) 16 q)

-- the place of a later field
later_place : (i j : ℕ) → i < j → 2 ^ (4 * j) ≡ 2 ^ (4 * i) * (16 * 2 ^ (4 * (j - i - 1)))
later_place i j lt =
    ap (λ (k : ℕ). 2 ^ k) (let e : 4 * j ≡ 4 * i + (4 + 4 * (j - i - 1)) = omega arith in e)
    ∙ pow-add 2 (4 * i) (4 + 4 * (j - i - 1)) ∙ ap (λ (n : ℕ). 2 ^ (4 * i) * n) (pow-add 2 4 (4 * (j - i - 1)))

-- ---- fields

pub field_same : (word i v : ℕ) → v < 16 → field (with_field word i v) i ≡ v
field_same word i v low =
    at_place (word / 2 ^ (4 * i) / 16) v (2 ^ (4 * i)) (word % 2 ^ (4 * i)) low (mod_below word (2 ^ (4 * i)) (pow_pos (4 * i)))

pub field_other : (word i j v : ℕ) → v < 16 → j ≢ i → field (with_field word i v) j ≡ field word j
field_other word i j v low other =
    let rest = mod_below word (2 ^ (4 * i)) (pow_pos (4 * i)) in
    elim (cases_order i j) [
      | inl same ↦ absurd (other (sym same))
      | inr (inl before) ↦
          let place = later_place i j before in
          ap (λ (n : ℕ). with_field word i v / n % 16) place
          ∙ ap (λ (n : ℕ). n % 16) (above_place (word / 2 ^ (4 * i) / 16) v (2 ^ (4 * i)) (2 ^ (4 * (j - i - 1))) (word % 2 ^ (4 * i)) low rest
          ∙ sym (above_as_was word (2 ^ (4 * i)) (2 ^ (4 * (j - i - 1)))))
          ∙ ap (λ (n : ℕ). word / n % 16) (sym place)
      | inr (inr after) ↦
          let place = later_place j i after in
          let some = pow_pos (4 * j) in
          below_place (word / 2 ^ (4 * i) / 16 * 16 + v) (2 ^ (4 * i)) (2 ^ (4 * j)) (2 ^ (4 * (i - j - 1))) (word % 2 ^ (4 * i)) some place
          ∙ sym (below_place (word / 2 ^ (4 * i)) (2 ^ (4 * i)) (2 ^ (4 * j)) (2 ^ (4 * (i - j - 1))) (word % 2 ^ (4 * i)) some place)
          ∙ ap (λ (n : ℕ). n / 2 ^ (4 * j) % 16) (div-add-mod' word (2 ^ (4 * i)))
    ]

-- ---- granules words

contiguous_not : (found : Option Gpi) (z : Option Size) → is_granules_entry (option_and_then (λ gpi. option_map (λ size. l1.Contig size gpi) z) found) ≡ false
contiguous_not None z = refl
contiguous_not (Some gpi) None = refl
contiguous_not (Some gpi) (Some z) = refl

granules_known : (word : ℕ) → is_granules word ≡ true → knows_all word ≡ true
granules_known word is =
    elim (cases_Bool (eqb (word % 16) 1)) [
      | inl contiguous ↦ absurd (let none = contiguous_not (gpi_with (word / 16 % 16)) (size_with (word / 256)) in let both = rw contiguous at is in cc)
      | inr apart ↦ elim (cases_Bool (knows_all word)) [
        | inl known ↦ known
        | inr unknown ↦ absurd (let both = rw (apart, unknown) at is in cc)
      ]
    ]

-- a descriptor is one of granules exactly where its lowest four bits aren't the type of contiguous ones
pub granules_type : (word : ℕ) → IsSome (l1_entry word) → not (eqb (word % 16) 1) ≡ is_granules word
granules_type word is =
    elim (cases_Bool (eqb (word % 16) 1)) [
      | inl contiguous ↦ rw contiguous (sym (contiguous_not (gpi_with (word / 16 % 16)) (size_with (word / 256))))
      | inr apart ↦ elim (cases_Bool (knows_all word)) [
        | inl known ↦ rw (apart, known) refl
        | inr unknown ↦ absurd (let both = rw (apart, unknown) at is in cc)
      ]
    ]

-- each field of a granules word is a GPI
pub granules_each : (word : ℕ) → is_granules word ≡ true → (i : ℕ) → i < 16 → IsSome (gpi_with (field word i))
granules_each word is = knows_each word (granules_known word is)

pub granules_word_entry : (word : ℕ) → is_granules word ≡ true → l1_entry word ≡ Some (l1.Granules word)
granules_word_entry word is = granules_entry word (granules_each word is)

-- ---- a granules word with one field replaced

with_each : (word i : ℕ) (to : Gpi) → is_granules word ≡ true → (j : ℕ) → j < 16 → IsSome (gpi_with (field (with_field word i (value_of to)) j))
with_each word i to is j within =
    elim (cases_eq j i) [
      | inl same ↦ subst (λ (k : ℕ). IsSome (gpi_with (field (with_field word i (value_of to)) k))) (sym same)
          (subst (λ (f : ℕ). IsSome (gpi_with f)) (sym (field_same word i (value_of to) (value_low to))) (subst (λ (o : Option Gpi). IsSome o) (sym (gpi_with-value_of to)) refl))
      | inr other ↦ subst (λ (f : ℕ). IsSome (gpi_with f)) (sym (field_other word i j (value_of to) (value_low to) other)) (granules_each word is j within)
    ]

-- it is a granules word again
pub with_entry : (word i : ℕ) (to : Gpi) → is_granules word ≡ true → i < 16
    → l1_entry (with_field word i (value_of to)) ≡ Some (l1.Granules (with_field word i (value_of to)))
with_entry word i to is within = granules_entry (with_field word i (value_of to)) (with_each word i to is)

pub with_granules : (word i : ℕ) (to : Gpi) → is_granules word ≡ true → i < 16 → is_granules (with_field word i (value_of to)) ≡ true
with_granules word i to is within = ap is_granules_entry (with_entry word i to is within)

-- the granule of the field has the new GPI
pub with_same : (word i : ℕ) (to : Gpi) → is_granules word ≡ true → i < 16 → word_gpi (with_field word i (value_of to)) i ≡ Some to
with_same word i to is within =
    rw (with_entry word i to is within) (ap gpi_with (field_same word i (value_of to) (value_low to)) ∙ gpi_with-value_of to)

-- and each other granule the one that it had
pub with_other : (word i j : ℕ) (to : Gpi) → is_granules word ≡ true → i < 16 → j < 16 → j ≢ i → word_gpi (with_field word i (value_of to)) j ≡ word_gpi word j
with_other word i j to is i_in j_in other =
    rw (with_entry word i to is i_in, granules_word_entry word is) (ap gpi_with (field_other word i j (value_of to) (value_low to) other))

-- ---- one field of a descriptor

-- that of a contiguous one is its GPI at every place
contiguous_gpi : (found : Option Gpi) (z : Option Size) (i : ℕ) → IsSome (option_and_then (λ gpi. option_map (λ size. l1.Contig size gpi) z) found)
    → (IsSome found) × (found ≡ option_and_then (λ entry. entry_gpi entry i) (option_and_then (λ gpi. option_map (λ size. l1.Contig size gpi) z) found))
contiguous_gpi None z i is = absurd cc
contiguous_gpi (Some gpi) None i is = absurd cc
contiguous_gpi (Some gpi) (Some z) i is = (refl, refl)

pub contiguous_field : (word i : ℕ) → IsSome (l1_entry word) → is_granules word ≡ false
    → (IsSome (gpi_with (word / 16 % 16))) × (gpi_with (word / 16 % 16) ≡ word_gpi word i)
contiguous_field word i is other =
    elim (cases_Bool (eqb (word % 16) 1)) [
      | inl contiguous ↦ rw contiguous (contiguous_gpi (gpi_with (word / 16 % 16)) (size_with (word / 256)) i (rw contiguous at is))
      | inr apart ↦ absurd (let both : true ≡ false = sym (ap not apart) ∙ granules_type word is ∙ other in cc)
    ]

pub granules_field : (word i : ℕ) → is_granules word ≡ true → gpi_with (field word i) ≡ word_gpi word i
granules_field word i is = rw (granules_word_entry word is) refl

-- a descriptor gives each of its granules a GPI
pub descriptor_gpi : (word i : ℕ) → IsSome (l1_entry word) → i < 16 → IsSome (word_gpi word i)
descriptor_gpi word i is within =
    elim (cases_Bool (is_granules word)) [
      | inl granules ↦ subst (λ (o : Option Gpi). IsSome o) (granules_field word i granules) (granules_each word granules i within)
      | inr other ↦ let both = contiguous_field word i is other in subst (λ (o : Option Gpi). IsSome o) both.1 both.0
    ]
