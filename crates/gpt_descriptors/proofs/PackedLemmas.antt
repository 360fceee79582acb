-- The words of granules: sixteen fields of four bits.
use Rattle.std.proofs.Common.{◌≡◌, ◌≢◌, ℕ, zero, suc, ◌+◌, ◌*◌, ◌/◌, ◌%◌, ◌^◌, ◌≤◌, ◌<◌, cond, eqb, Option, Some, None, refl, sym, ap, ◌∙◌, arith, inl, inr}
use Rattle.std.specs.Prelude.{option_and_then}
use Rattle.std.proofs.Math.Nat.{div-div-eq-div-mul}
use Rattle.std.proofs.Math.Pow.{pow_mono}
use Rattle.std.proofs.lemmas.Nat.{pow-add}
use Rattle.std.proofs.lemmas.Bool.{cases_Bool, cases_eq, eqb-true, eq-eqb}
use Rattle.gpi_values.specs.declared.gpi.Gpi.{Gpi}
use Rattle.gpi_values.specs.Values.{value_of, gpi_with}
use Rattle.gpi_values.proofs.ValueLemmas.{gpi_with-value_of, value_low, value_one}
use Rattle.gpt_descriptors.specs.Entries.{field, packed}
use Rattle.gpt_descriptors.specs.Fields.{with_field, granules_of, equal_gpi}
use Rattle.gpt_descriptors.proofs.FieldLemmas.{with_field_fits}
use Rattle.gpt_descriptors.proofs.FieldEntryLemmas.{field_same, field_other}

pub packed-zero : (m : ℕ → Gpi) (first : ℕ) → packed m first 0 ≡ 0
unfolding packed
packed-zero m first = refl

pub packed-suc : (m : ℕ → Gpi) (first n : ℕ) → packed m first (suc n) ≡ value_of (m first) + 16 * packed m (first + 1) n
unfolding packed
packed-suc m first n = refl

pub four_more : (n : ℕ) → 2 ^ (4 * suc n) ≡ 16 * 2 ^ (4 * n)
four_more n = ap (λ (k : ℕ). 2 ^ k) (let e : 4 * suc n ≡ 4 + 4 * n = omega arith in e) ∙ pow-add 2 4 (4 * n)

-- n fields are below 16 to the n
pub packed_below : (m : ℕ → Gpi) (first n : ℕ) → packed m first n < 2 ^ (4 * n)
unfolding packed
packed_below m first zero = omega arith
packed_below m first (suc n) = omega (arith, four_more n, packed_below m (first + 1) n, value_low (m first))

-- fifteen fields leave room for one more
pub packed_fits : (m : ℕ → Gpi) (first n : ℕ) → n < 16 → packed m first n < 2 ^ 60
packed_fits m first n lt =
    let room : 4 * n ≤ 60 = omega arith in
    omega (arith, packed_below m first n, pow_mono room)

-- ---- fields

-- field i is the value of the granule at place i
pub packed_field : (m : ℕ → Gpi) (first n i : ℕ) → i < n → field (packed m first n) i ≡ value_of (m (first + i))
packed_field m first zero i lt = absurd (omega arith)
packed_field m first (suc n) zero lt =
    rw packed-suc (let same : first + 0 ≡ first = omega arith in rw same (omega (arith, value_low (m first))))
packed_field m first (suc n) (suc i) lt =
    let more : 2 ^ (4 * suc i) ≡ 16 * 2 ^ (4 * i) = four_more i in
    let rest : (value_of (m first) + 16 * packed m (first + 1) n) / 16 ≡ packed m (first + 1) n = omega (arith, value_low (m first)) in
    let place : first + suc i ≡ first + 1 + i = omega arith in
    rw (packed-suc, more, ← div-div-eq-div-mul, rest, place) (packed_field m (first + 1) n i (omega arith))

-- a word of n fields, each the value of its granule's GPI
pub packed_by : (m : ℕ → Gpi) (first n word : ℕ) → word < 2 ^ (4 * n) → ((j : ℕ) → j < n → field word j ≡ value_of (m (first + j))) → word ≡ packed m first n
packed_by m first zero word fits each = omega (arith, fits, packed-zero m first)
packed_by m first (suc n) word fits each =
    let low : word % 16 ≡ value_of (m first) = omega (arith, each 0 (omega arith)) ∙ ap (λ (k : ℕ). value_of (m k)) (let same : first + 0 ≡ first = omega arith in same) in
    let rest : word / 16 ≡ packed m (first + 1) n =
    packed_by m (first + 1) n (word / 16) (omega (arith, fits, four_more n))
    (λ j lt. ap (λ (k : ℕ). k % 16) (div-div-eq-div-mul word 16 (2 ^ (4 * j)) ∙ ap (λ (k : ℕ). word / k) (sym (four_more j))) ∙ each (suc j) (omega (arith, lt))
    ∙ ap (λ (k : ℕ). value_of (m k)) (let same : first + suc j ≡ first + 1 + j = omega arith in same)) in
    omega (arith, low, rest, packed-suc m first n)

-- the same granules give the same word
pub packed_alike : (m l : ℕ → Gpi) (a b n : ℕ) → ((k : ℕ) → k < n → m (a + k) ≡ l (b + k)) → packed m a n ≡ packed l b n
packed_alike m l a b n same = packed_by l b n (packed m a n) (packed_below m a n) (λ j low. packed_field m a n j low ∙ ap value_of (same j low))

-- and the same word says the same granules
pub packed_one : (m l : ℕ → Gpi) (a b n k : ℕ) → packed m a n ≡ packed l b n → k < n → m (a + k) ≡ l (b + k)
packed_one m l a b n k same low =
    value_one (m (a + k)) (l (b + k)) (sym (packed_field m a n k low) ∙ ap (λ (word : ℕ). field word k) same ∙ packed_field l b n k low)

-- ---- words of sixteen granules of one GPI

pub lowest_field : (v : Gpi) → granules_of v % 16 ≡ value_of v
lowest_field v = let first = packed-suc (λ k. v) 0 15 in omega (arith, first, value_low v)

pub granules_gpi : (v w : Gpi) → granules_of v ≡ granules_of w → v ≡ w
granules_gpi v w same = value_one v w (sym (lowest_field v) ∙ ap (λ (n : ℕ). n % 16) same ∙ lowest_field w)

pub equal_of : (v : Gpi) → equal_gpi (granules_of v) ≡ Some v
equal_of v = rw (lowest_field v, gpi_with-value_of v, eq-eqb (granules_of v) (granules_of v) refl) refl

equal_by : (word : ℕ) (v : Gpi) (o : Option Gpi) → option_and_then (λ gpi. cond (eqb word (granules_of gpi)) (Some gpi) None) o ≡ Some v → word ≡ granules_of v
equal_by word v None e = absurd cc
equal_by word v (Some gpi) e =
    elim (cases_Bool (eqb word (granules_of gpi))) [
      | inl same ↦ let one : Some gpi ≡ Some v = rw same at e in eqb-true _ _ same ∙ (let gpis : gpi ≡ v = cc in ap granules_of gpis)
      | inr other ↦ absurd (let none : None ≡ Some v = rw other at e in cc)
    ]

pub equal_found : (word : ℕ) (v : Gpi) → equal_gpi word ≡ Some v → word ≡ granules_of v
equal_found word v e = equal_by word v (gpi_with (word % 16)) e

pub equal_none : (word : ℕ) → equal_gpi word ≡ None → (v : Gpi) → word ≢ granules_of v
equal_none word none v same = let found = ap equal_gpi same ∙ equal_of v in let both : None ≡ Some v = sym none ∙ found in absurd cc

-- a word of sixteen granules of one GPI says so of each
pub granules_one : (m : ℕ → Gpi) (first k : ℕ) (v : Gpi) → packed m first 16 ≡ granules_of v → k < 16 → m (first + k) ≡ v
granules_one m first k v same low = packed_one m (λ n. v) first 0 16 k same low

-- the word after one granule changed has its field replaced
pub packed_with : (m l : ℕ → Gpi) (first i : ℕ) → i < 16 → ((k : ℕ) → k ≢ first + i → m k ≡ l k)
    → packed l first 16 ≡ with_field (packed m first 16) i (value_of (l (first + i)))
packed_with m l first i low same =
    sym
    (packed_by l first 16 (with_field (packed m first 16) i (value_of (l (first + i))))
    (with_field_fits (packed m first 16) i (value_of (l (first + i))) (packed_below m first 16) low (value_low (l (first + i))))
    (λ j within. elim (cases_eq j i) [
      | inl one ↦
          ap (field (with_field (packed m first 16) i (value_of (l (first + i))))) one
          ∙ field_same (packed m first 16) i (value_of (l (first + i))) (value_low (l (first + i)))
          ∙ ap (λ (k : ℕ). value_of (l (first + k))) (sym one)
      | inr other ↦
          field_other (packed m first 16) i j (value_of (l (first + i))) (value_low (l (first + i))) other
          ∙ packed_field m first 16 j within ∙ ap value_of (same (first + j) (λ e. other (omega (arith, e))))
    ]))
