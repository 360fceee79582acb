-- Sixteen fields tested at once: the lowest bit of each says whether it is a GPI.
use Rattle.std.proofs.Common.{◌≡◌, ◌≢◌, ℕ, ◌+◌, ◌-◌, ◌*◌, ◌/◌, ◌%◌, ◌^◌, ◌<◌, Bool, true, false, not, cond, eqb, min, max, refl, sym, ap, ◌∙◌, subst, arith, inl, inr}
use Rattle.std.specs.Prelude.{is_some}
use Rattle.std.specs.Int.{bit_at, bit_not, w64}
use Rattle.std.specs.Int.Bits.{bit_and, bit_or}
use Rattle.std.proofs.Math.Nat.{div-div-eq-div-mul}
use Rattle.std.proofs.lemmas.Nat.{pow-add, mod_below, and_le_r}
use Rattle.std.proofs.lemmas.Nat.Bits.{bit_at_or, bit_at_and, bit_at_not, bit_at-zero, same_from_bits_below}
use Rattle.std.proofs.lemmas.Bool.{cases_Bool, cases_eq, eq-eqb, eqb-true, ne_eqb}
use Rattle.gpi_values.specs.Values.{gpi_with}
use Rattle.gpi_values.proofs.Numbers.{each_at}
use Rattle.gpt_descriptors.specs.Entries.{field, knows_all}
use Rattle.gpt_descriptors.proofs.EntryLemmas.{knows_each, knows_from}

-- the lowest bits of the sixteen fields
abbrev lowest_bits : ℕ
lowest_bits = 0x1111111111111111

-- one bit, of the four bits of a field
abbrev unknown_bit : ℕ → ℕ → ℕ → ℕ → ℕ
unknown_bit a b c d = max (min (max (max a b) c) (1 - d)) (min c (1 - min a b))

-- the same of all fields at once
abbrev planes : ℕ → ℕ
planes word =
    bit_and (bit_or (bit_and (bit_or (bit_or word (word / 2)) (word / 4)) (bit_not w64 (word / 8)))
    (bit_and (word / 4) (bit_not w64 (bit_and word (word / 2))))) lowest_bits

-- ---- one field

abbrev bit_of : ℕ → ℕ
bit_of f = unknown_bit (f % 2) (f / 2 % 2) (f / 4 % 2) (f / 8 % 2)

same_tests : (a b : Bool) → cond a b (not b) ≡ true → a ≡ b
same_tests true b e = sym e
same_tests false true e = absurd cc
same_tests false false e = refl

-- the bit is 0 exactly where the field is a GPI
bit_known : (f : ℕ) → f < 16 → eqb (bit_of f) 0 ≡ is_some (gpi_with f)
bit_known f low =
    same_tests _ _ (each_at (λ k. cond (eqb (bit_of k) 0) (is_some (gpi_with k)) (not (is_some (gpi_with k)))) 0 16 f refl (omega arith) low)

-- ---- all fields

shifted_bit : (word j i : ℕ) → bit_at (word / 2 ^ j) i ≡ bit_at word (j + i)
shifted_bit word j i =
    ap (λ (n : ℕ). n % 2) (div-div-eq-div-mul word (2 ^ j) (2 ^ i) ∙ ap (λ (n : ℕ). word / n) (sym (pow-add 2 j i)))

planes_bit : (word i : ℕ) → word < 2 ^ 64 → i < 64
    → bit_at (planes word) i ≡ min (unknown_bit (bit_at word i) (bit_at word (1 + i)) (bit_at word (2 + i)) (bit_at word (3 + i))) (bit_at lowest_bits i)
planes_bit word i fits low =
    let either : ℕ = bit_or (bit_or word (word / 2)) (word / 4) in
    let both : ℕ = bit_and word (word / 2) in
    let both_fits : both < 2 ^ 64 = omega (arith, fits, and_le_r word (word / 2)) in
    rw (
      bit_at_and (bit_or (bit_and either (bit_not w64 (word / 8))) (bit_and (word / 4) (bit_not w64 both))) lowest_bits i,
      bit_at_or (bit_and either (bit_not w64 (word / 8))) (bit_and (word / 4) (bit_not w64 both)) i,
      bit_at_and either (bit_not w64 (word / 8)) i,
      bit_at_and (word / 4) (bit_not w64 both) i,
      bit_at_or (bit_or word (word / 2)) (word / 4) i,
      bit_at_or word (word / 2) i,
      bit_at_not w64 (word / 8) i (omega arith) low,
      bit_at_not w64 both i both_fits low,
      bit_at_and word (word / 2) i,
      shifted_bit word 1 i,
      shifted_bit word 2 i,
      shifted_bit word 3 i,
    ) refl

-- the bits of a field
low_bits : (x : ℕ) → (x % 16 % 2 ≡ x % 2) × (x % 16 / 2 % 2 ≡ x / 2 % 2) × (x % 16 / 4 % 2 ≡ x / 4 % 2) × (x % 16 / 8 % 2 ≡ x / 8 % 2)
low_bits x = (omega arith, omega arith, omega arith, omega arith)

-- bit j above place p
bit_above : (word p j : ℕ) → bit_at word (j + p) ≡ word / 2 ^ p / 2 ^ j % 2
bit_above word p j = ap (bit_at word) (let e : j + p ≡ p + j = omega arith in e) ∙ sym (shifted_bit word p j)

lowest_set : (k : ℕ) → k < 16 → bit_at lowest_bits (4 * k) ≡ 1
lowest_set k low = eqb-true _ _ (each_at (λ n. eqb (bit_at lowest_bits (4 * n)) 1) 0 16 k refl (omega arith) low)

lowest_clear : (i : ℕ) → i < 64 → i % 4 ≢ 0 → bit_at lowest_bits i ≡ 0
lowest_clear i low other =
    let test = each_at (λ n. cond (eqb (n % 4) 0) true (eqb (bit_at lowest_bits n) 0)) 0 64 i refl (omega arith) low in
    eqb-true _ _ (rw (ne_eqb _ _ other) at test)

bit_one : (f : ℕ) → f < 16 → min (bit_of f) 1 ≡ bit_of f
bit_one f low = eqb-true _ _ (each_at (λ n. eqb (min (bit_of n) 1) (bit_of n)) 0 16 f refl (omega arith) low)

-- at the lowest bit of a field
field_bit : (word k : ℕ) → word < 2 ^ 64 → k < 16 → bit_at (planes word) (4 * k) ≡ bit_of (field word k)
field_bit word k fits low =
    let x : ℕ = word / 2 ^ (4 * k) in
    let bits = low_bits x in
    planes_bit word (4 * k) fits (omega (arith, low))
    ∙ rw (lowest_set k low, bit_above word (4 * k) 1, bit_above word (4 * k) 2, bit_above word (4 * k) 3, ← bits.0, ← bits.1, ← bits.2, ← bits.3)
    (bit_one (x % 16) (mod_below x 16 (omega arith)))

-- and at no other place
other_bit : (word i : ℕ) → word < 2 ^ 64 → i < 64 → i % 4 ≢ 0 → bit_at (planes word) i ≡ 0
other_bit word i fits low other = planes_bit word i fits low ∙ rw (lowest_clear i low other) (omega arith)

field_low : (word k : ℕ) → field word k < 16
field_low word k = mod_below (word / 2 ^ (4 * k)) 16 (omega arith)

known_bit : (word i : ℕ) → word < 2 ^ 64 → knows_all word ≡ true → i < 64 → bit_at (planes word) i ≡ 0
known_bit word i fits known low =
    elim (cases_eq (i % 4) 0) [
      | inl lowest ↦
          let at : 4 * (i / 4) ≡ i = omega (arith, lowest) in
          let gpi : is_some (gpi_with (field word (i / 4))) ≡ true = knows_each word known (i / 4) (omega (arith, low)) in
          subst (λ (n : ℕ). bit_at (planes word) n ≡ 0) at
          (field_bit word (i / 4) fits (omega (arith, low)) ∙ eqb-true _ _ (bit_known (field word (i / 4)) (field_low word (i / 4)) ∙ gpi))
      | inr other ↦ other_bit word i fits low other
    ]

known_field : (word k : ℕ) → word < 2 ^ 64 → planes word ≡ 0 → k < 16 → is_some (gpi_with (field word k)) ≡ true
known_field word k fits none low =
    let zero_bit : bit_of (field word k) ≡ 0 = sym (field_bit word k fits low) ∙ ap (λ (n : ℕ). bit_at n (4 * k)) none ∙ bit_at-zero (4 * k) in
    sym (bit_known (field word k) (field_low word k)) ∙ eq-eqb _ _ zero_bit

planes_fit : (word : ℕ) → planes word < 2 ^ 64
planes_fit word =
    let fields : ℕ =
    bit_or (bit_and (bit_or (bit_or word (word / 2)) (word / 4)) (bit_not w64 (word / 8)))
    (bit_and (word / 4) (bit_not w64 (bit_and word (word / 2)))) in
    omega (arith, and_le_r fields lowest_bits)

pub planes_known : (word : ℕ) → word < 2 ^ 64 → eqb (planes word) 0 ≡ knows_all word
planes_known word fits =
    elim (cases_Bool (knows_all word)) [
      | inl known ↦
          let none : planes word ≡ 0 =
          same_from_bits_below 64 (planes word) 0 (planes_fit word) (omega arith) (λ i low. known_bit word i fits known low ∙ sym (bit_at-zero i)) in
          eq-eqb _ _ none ∙ sym known
      | inr unknown ↦
          ne_eqb _ _ (λ none. absurd (let known = knows_from word (λ k low. known_field word k fits none low) in cc)) ∙ sym unknown
    ]
