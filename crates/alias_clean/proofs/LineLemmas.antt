-- One bit of a line word: what a touch and a clean change.
use Rattle.std.proofs.Common.{◌≡◌, ◌≢◌, ℕ, ◌+◌, ◌-◌, ◌*◌, ◌/◌, ◌%◌, ◌^◌, ◌<◌, true, false, Option, Some, None, refl, sym, ap, ◌∙◌, subst, arith, inl, inr}
use Rattle.std.specs.Prelude.{not, ◌||◌, ◌&&◌, ◌==◌}
use Rattle.std.specs.Option.{option_map}
use Rattle.std.specs.Int.{bit_at, bit_not, w64}
use Rattle.std.specs.Int.Bits.{bit_and, bit_or}
use Rattle.std.proofs.Math.Pow.{pow-lt}
use Rattle.std.proofs.lemmas.Nat.{mod_below, div-add-mod', shr-shr}
use Rattle.std.proofs.lemmas.Nat.Bits.{bit_at_or, bit_at_and, bit_at_not, bit_at-pow_same, bit_at-pow_other, bit_at-lt, bit_at_cat_low}
use Rattle.std.proofs.lemmas.Bool.{cases_eq, eq-eqb, ne_eqb}
use Rattle.gpi_values.specs.declared.gpi.Space.{Space}
use Rattle.gpi_values.specs.declared.gpi.Space.TheVariants as space
use Rattle.gpt_descriptors.specs.Sizes.{granule_number, place_in_word}
use Rattle.gpt_descriptors.specs.Places.{GeometryData, line_place_of}
use Rattle.shared_words.specs.declared.act.Act.{Act}
use Rattle.shared_words.specs.declared.act.Act.TheVariants as act
use Rattle.shared_words.specs.Acts.{written}
use Rattle.alias_clean.specs.Lines.{space_bit, bit_of, mask_of, is_resident, line_bits, is_line, line_mask, touch_of, clean_of}

-- ---- bits of lines

space_low : (s : Space) → space_bit s < 4
space_low space.Secure = omega arith
space_low space.NonSecure = omega arith
space_low space.Root = omega arith
space_low space.Realm = omega arith

bit_low : (place : ℕ) (s : Space) → place < 16 → bit_of place s < 64
bit_low place s low = omega (arith, low, space_low s)

-- two lines with one bit are one line
same_line : (place k : ℕ) (s t : Space) → bit_of k t ≡ bit_of place s → is_line place s k t ≡ true
same_line place k s t same =
    let row : k ≡ place = omega (arith, same, space_low s, space_low t) in
    let column : space_bit t ≡ space_bit s = omega (arith, same, space_low s, space_low t) in
    rw (eq-eqb _ _ row, eq-eqb _ _ column) refl

other_line : (place k : ℕ) (s t : Space) → bit_of k t ≢ bit_of place s → is_line place s k t ≡ false
other_line place k s t other =
    elim (cases_eq k place) [
      | inr row ↦ rw (ne_eqb _ _ row) refl
      | inl row ↦ elim (cases_eq (space_bit t) (space_bit s)) [
        | inr column ↦ rw (eq-eqb _ _ row, ne_eqb _ _ column) refl
        | inl column ↦ absurd (other (omega (arith, row, column)))
      ]
    ]

-- ---- a word with one bit set, and with one bit cleared

touched_word : (word place k : ℕ) (s t : Space) → is_resident (bit_or word (mask_of place s)) k t ≡ (is_line place s k t || is_resident word k t)
touched_word word place k s t =
    elim (cases_eq (bit_of k t) (bit_of place s)) [
      | inl same ↦
          let set : bit_at (bit_or word (mask_of place s)) (bit_of k t) ≡ 1 =
          rw same (omega (arith, bit_at_or word (mask_of place s) (bit_of place s), bit_at-pow_same (bit_of place s), bit_at-lt word (bit_of place s))) in
          rw (set, same_line place k s t same) refl
      | inr other ↦
          let still : bit_at (bit_or word (mask_of place s)) (bit_of k t) ≡ bit_at word (bit_of k t) =
          omega (arith, bit_at_or word (mask_of place s) (bit_of k t), bit_at-pow_other (bit_of place s) (bit_of k t) other) in
          rw (still, other_line place k s t other) refl
    ]

cleaned_word : (word place k : ℕ) (s t : Space) → place < 16 → k < 16
    → is_resident (bit_and word (bit_not w64 (mask_of place s))) k t ≡ (not (is_line place s k t) && is_resident word k t)
cleaned_word word place k s t low within =
    let inverse : bit_at (bit_not w64 (mask_of place s)) (bit_of k t) ≡ 1 - bit_at (mask_of place s) (bit_of k t) =
    bit_at_not w64 (mask_of place s) (bit_of k t) (pow-lt (bit_low place s low)) (bit_low k t within) in
    elim (cases_eq (bit_of k t) (bit_of place s)) [
      | inl same ↦
          let one : bit_at (mask_of place s) (bit_of k t) ≡ 1 = rw same (bit_at-pow_same (bit_of place s)) in
          let clear : bit_at (bit_and word (bit_not w64 (mask_of place s))) (bit_of k t) ≡ 0 =
          omega (arith, bit_at_and word (bit_not w64 (mask_of place s)) (bit_of k t), inverse, one, bit_at-lt word (bit_of k t)) in
          rw (clear, same_line place k s t same) refl
      | inr other ↦
          let still : bit_at (bit_and word (bit_not w64 (mask_of place s))) (bit_of k t) ≡ bit_at word (bit_of k t) =
          omega (arith, bit_at_and word (bit_not w64 (mask_of place s)) (bit_of k t), inverse, bit_at-pow_other (bit_of place s) (bit_of k t) other, bit_at-lt word (bit_of k t)) in
          rw (still, other_line place k s t other) refl
    ]

-- ---- the acts

place_low : (g : GeometryData) (pa : ℕ) → place_in_word g.setup pa < 16
place_low g pa = mod_below (granule_number g.setup pa) 16 (omega arith)

written_by : (f : ℕ → Act) (o : Option ℕ) (made : Act) → option_map f o ≡ Some made → (place : ℕ) × (f place ≡ made)
written_by f None made e = absurd cc
written_by f (Some place) made e = (place, cc)

pub touched_line : (g : GeometryData) (pa : ℕ) (s : Space) (touch : Act) (word k : ℕ) (t : Space) → k < 16 → touch_of g pa s ≡ Some touch
    → is_resident (written touch word) k t ≡ (is_line (place_in_word g.setup pa) s k t || is_resident word k t)
touched_line g pa s touch word k t low is =
    let made = written_by (λ place. act.Or place (line_mask g pa s)) (line_place_of g pa) touch is in
    subst (λ (a : Act). is_resident (written a word) k t ≡ (is_line (place_in_word g.setup pa) s k t || is_resident word k t)) made.1
    (touched_word word (place_in_word g.setup pa) k s t)

pub cleaned_line : (g : GeometryData) (pa : ℕ) (s : Space) (clean : Act) (word k : ℕ) (t : Space) → k < 16 → clean_of g pa s ≡ Some clean
    → is_resident (written clean word) k t ≡ (not (is_line (place_in_word g.setup pa) s k t) && is_resident word k t)
cleaned_line g pa s clean word k t low is =
    let made = written_by (λ place. act.And place (bit_not w64 (line_mask g pa s))) (line_place_of g pa) clean is in
    subst (λ (a : Act). is_resident (written a word) k t ≡ (not (is_line (place_in_word g.setup pa) s k t) && is_resident word k t)) made.1
    (cleaned_word word (place_in_word g.setup pa) k s t (place_low g pa) low)

pub shown_line : (word k : ℕ) (t : Space) → is_resident word k t ≡ (bit_at (line_bits word k) (space_bit t) == 1)
shown_line word k t =
    let high = word / 2 ^ (4 * k) in
    let low : bit_at (high / 16 * 2 ^ 4 + high % 16) (space_bit t) ≡ bit_at (high % 16) (space_bit t) = bit_at_cat_low (high / 16) 4 (high % 16) (space_bit t) (space_low t) in
    let whole : high / 16 * 16 + high % 16 ≡ high = div-add-mod' high 16 in
    let bit : bit_at high (space_bit t) ≡ bit_at word (bit_of k t) = ap (λ (n : ℕ). n % 2) (shr-shr word (4 * k) (space_bit t)) in
    ap (λ (n : ℕ). n == 1) (sym bit ∙ ap (λ (n : ℕ). bit_at n (space_bit t)) (sym whole) ∙ low)
