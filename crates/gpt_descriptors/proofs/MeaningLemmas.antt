-- What canonical words mean, and that contiguous ones cover equal granules.
use Rattle.std.proofs.Common.{◌≡◌, ℕ, ◌+◌, ◌*◌, ◌/◌, ◌%◌, ◌≤◌, ◌<◌, true, eqb, Option, Some, None, refl, sym, ap, ◌∙◌, subst, arith, inl, inr, mul_comm}
use Rattle.std.proofs.Math.Nat.{mod-add-div, mod-lt}
use Rattle.std.proofs.lemmas.Bool.{cases_Bool, and_parts, eq-eqb}
use Rattle.gpi_values.specs.declared.gpi.Gpi.{Gpi}
use Rattle.gpi_values.specs.Values.{value_of, gpi_with}
use Rattle.gpi_values.proofs.ValueLemmas.{gpi_with-value_of, value_low}
use Rattle.gpt_descriptors.specs.declared.size.Size.{Size}
use Rattle.gpt_descriptors.specs.declared.size.Size.TheVariants as size
use Rattle.gpt_descriptors.specs.declared.entry.L1Entry.{L1Entry}
use Rattle.gpt_descriptors.specs.declared.entry.L1Entry.TheVariants as l1
use Rattle.gpt_descriptors.specs.Sizes.{SetupData, words_of}
use Rattle.gpt_descriptors.specs.Entries.{field, size_code, size_with, l1_word, l1_entry, word_gpi, packed}
use Rattle.gpt_descriptors.specs.Canonical.{is_one_block, is_block_around, largest_block, canonical_with, canonical_word, CoversEqual}
use Rattle.gpt_descriptors.proofs.EntryLemmas.{granules_entry}
use Rattle.gpt_descriptors.proofs.PackedLemmas.{packed_field}
use Rattle.gpt_descriptors.proofs.CanonicalLemmas.{one_gpi_at, words_some}

-- ---- a contiguous entry is read as itself

size_with-size_code : (z : Size) → size_with (size_code z) ≡ Some z
size_with-size_code size.Two = refl
size_with-size_code size.ThirtyTwo = refl
size_with-size_code size.FiveTwelve = refl

pub contiguous_again : (z : Size) (g : Gpi) → l1_entry (l1_word (l1.Contig z g)) ≡ Some (l1.Contig z g)
contiguous_again z g =
    let low : eqb ((1 + 16 * value_of g + 256 * size_code z) % 16) 1 ≡ true = eq-eqb _ _ (omega arith) in
    let gpi : (1 + 16 * value_of g + 256 * size_code z) / 16 % 16 ≡ value_of g = omega (arith, value_low g) in
    let code : (1 + 16 * value_of g + 256 * size_code z) / 256 ≡ size_code z = omega (arith, value_low g) in
    rw (low, gpi, code, gpi_with-value_of g, size_with-size_code z) refl

-- ---- a word of granules is read as itself

packed_known : (m : ℕ → Gpi) (first i : ℕ) → i < 16 → gpi_with (field (packed m first 16) i) ≡ Some (m (first + i))
packed_known m first i lt = ap gpi_with (packed_field m first 16 i lt) ∙ gpi_with-value_of (m (first + i))

pub packed_entry : (m : ℕ → Gpi) (first : ℕ) → l1_entry (packed m first 16) ≡ Some (l1.Granules (packed m first 16))
packed_entry m first = granules_entry (packed m first 16) (λ i lt. let known = packed_known m first i lt in rw known refl)

-- ---- canonical words

-- the size that was chosen is one of a block of one GPI
abbrev Fits : SetupData → (ℕ → Gpi) → ℕ → Option Size → Type 0
Fits s m w None = Unit {0}
Fits s m w (Some z) = is_one_block s m z (w / words_of s z) ≡ true

fits_around : (s : SetupData) (m : ℕ → Gpi) (apart : Option ℕ) (w : ℕ) (z : Size) → is_block_around s m apart w z ≡ true → is_one_block s m z (w / words_of s z) ≡ true
unfolding is_block_around
fits_around s m apart w z around = (and_parts _ _ around).1

largest_fits : (s : SetupData) (m : ℕ → Gpi) (apart : Option ℕ) (w : ℕ) → Fits s m w (largest_block s m apart w)
largest_fits s m apart w =
    elim (cases_Bool (is_block_around s m apart w size.FiveTwelve)) [
      | inl largest ↦ rw largest (fits_around s m apart w size.FiveTwelve largest)
      | inr not_largest ↦ elim (cases_Bool (is_block_around s m apart w size.ThirtyTwo)) [
        | inl larger ↦ rw (not_largest, larger) (fits_around s m apart w size.ThirtyTwo larger)
        | inr not_larger ↦ elim (cases_Bool (is_block_around s m apart w size.Two)) [
          | inl two ↦ rw (not_largest, not_larger, two) (fits_around s m apart w size.Two two)
          | inr none ↦ rw (not_largest, not_larger, none) tt
        ]
      ]
    ]

-- the granules of the block around word w
in_block : (n a b : ℕ) → 0 < n → a / n ≡ b / n → (b / n * n ≤ a) × (a < b / n * n + n)
in_block n a b some same =
    let whole : a % n + n * (a / n) ≡ a = mod-add-div a n in
    let rest : a % n < n = mod-lt a some in
    let turned : n * (a / n) ≡ b / n * n = mul_comm n (a / n) ∙ ap (λ (q : ℕ). q * n) same in
    (omega (arith, whole, turned), omega (arith, whole, rest, turned))

block_one : (s : SetupData) (m : ℕ → Gpi) (w : ℕ) (z : Size) (g : ℕ) → is_one_block s m z (w / words_of s z) ≡ true → g / 16 / words_of s z ≡ w / words_of s z → m g ≡ m (16 * (w / words_of s z * words_of s z))
unfolding is_one_block
block_one s m w z g one same =
    one_gpi_at m (16 * (w / words_of s z * words_of s z)) (16 * words_of s z) g (and_parts _ _ one).1
    (let within = in_block (words_of s z) (g / 16) w (words_some s z) same in omega (arith, within.0))
    (let within = in_block (words_of s z) (g / 16) w (words_some s z) same in omega (arith, within.1))

with_meaning : (s : SetupData) (m : ℕ → Gpi) (w i : ℕ) (o : Option Size) → Fits s m w o → i < 16 → word_gpi (canonical_with m w o) i ≡ Some (m (16 * w + i))
with_meaning s m w i None fits lt = rw (packed_entry m (16 * w)) (packed_known m (16 * w) i lt)
with_meaning s m w i (Some z) fits lt =
    let own : (16 * w + i) / 16 ≡ w = omega arith in
    let start : 16 * w / 16 ≡ w = omega arith in
    rw (contiguous_again z (m (16 * w)))
    (ap Some (block_one s m w z (16 * w) fits (rw start refl) ∙ sym (block_one s m w z (16 * w + i) fits (rw own refl))))

with_covers : (s : SetupData) (m : ℕ → Gpi) (w : ℕ) (o : Option Size) (e : L1Entry) → Fits s m w o → l1_entry (canonical_with m w o) ≡ Some e → CoversEqual s m w e
with_covers s m w None e fits read =
    let same : l1.Granules (packed m (16 * w) 16) ≡ e = (let both = sym (packed_entry m (16 * w)) ∙ read in cc) in
    subst (CoversEqual s m w) same tt
with_covers s m w (Some z) e fits read =
    let same : l1.Contig z (m (16 * w)) ≡ e = (let both = sym (contiguous_again z (m (16 * w))) ∙ read in cc) in
    let start : 16 * w / 16 ≡ w = omega arith in
    subst (CoversEqual s m w) same (λ g around. block_one s m w z g fits around ∙ sym (block_one s m w z (16 * w) fits (rw start refl)))

pub canonical_meaning : (s : SetupData) (m : ℕ → Gpi) (apart : Option ℕ) (w i : ℕ) → i < 16 → word_gpi (canonical_word s m apart w) i ≡ Some (m (16 * w + i))
unfolding canonical_word
canonical_meaning s m apart w i lt = with_meaning s m w i (largest_block s m apart w) (largest_fits s m apart w) lt

pub canonical_covers : (s : SetupData) (m : ℕ → Gpi) (apart : Option ℕ) (w : ℕ) (e : L1Entry) → l1_entry (canonical_word s m apart w) ≡ Some e → CoversEqual s m w e
unfolding canonical_word
canonical_covers s m apart w e read = with_covers s m w (largest_block s m apart w) e (largest_fits s m apart w) read
