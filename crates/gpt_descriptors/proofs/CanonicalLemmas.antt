-- Granules of one GPI, and the canonical words of blocks.
use Rattle.std.proofs.Common.{◌≡◌, ◌≢◌, ℕ, ◌+◌, ◌*◌, ◌/◌, ◌≤◌, ◌<◌, true, false, cond, eqb, Some, None, refl, sym, ap, ◌∙◌, arith, inl, inr, mul_comm}
use Rattle.std.proofs.Math.Nat.{div-div-eq-div-mul}
use Rattle.std.proofs.lemmas.Nat.{div-mul-add}
use Rattle.std.proofs.lemmas.Bool.{eqb-true, eq-eqb, cases_Bool, and_parts}
use Rattle.gpi_values.specs.declared.gpi.Gpi.{Gpi}
use Rattle.gpi_values.specs.Values.{value_of}
use Rattle.gpi_values.proofs.Numbers.{each_at, each_from}
use Rattle.gpi_values.proofs.ValueLemmas.{value_one}
use Rattle.gpt_descriptors.specs.declared.size.Size.{Size}
use Rattle.gpt_descriptors.specs.declared.size.Size.TheVariants as size
use Rattle.gpt_descriptors.specs.declared.entry.L1Entry.TheVariants as l1
use Rattle.gpt_descriptors.specs.Sizes.{SetupData, words_of}
use Rattle.gpt_descriptors.specs.Entries.{l1_word, packed}
use Rattle.gpt_descriptors.specs.Canonical.{one_gpi, is_one_block, is_block_around, canonical_with, canonical_word}
use Rattle.gpt_descriptors.proofs.SizeLemmas.{two_low, thirty_two_is, five_twelve_is}

-- granules of one GPI have that of the first
pub one_gpi_at : (m : ℕ → Gpi) (first n k : ℕ) → one_gpi m first n ≡ true → first ≤ k → k < first + n → m k ≡ m first
unfolding one_gpi
one_gpi_at m first n k one low high =
    value_one (m k) (m first) (eqb-true _ _ (each_at (λ g. eqb (value_of (m g)) (value_of (m first))) first n k one low high))

pub one_gpi_from : (m : ℕ → Gpi) (first n : ℕ) → ((k : ℕ) → first ≤ k → k < first + n → value_of (m k) ≡ value_of (m first)) → one_gpi m first n ≡ true
unfolding one_gpi
one_gpi_from m first n each = each_from (λ g. eqb (value_of (m g)) (value_of (m first))) first n (λ k low high. eq-eqb _ _ (each k low high))

-- one granule of another GPI refuses them
pub one_gpi_not : (m : ℕ → Gpi) (first n k : ℕ) → first ≤ k → k < first + n → value_of (m k) ≢ value_of (m first) → one_gpi m first n ≡ false
one_gpi_not m first n k low high other =
    elim (cases_Bool (one_gpi m first n)) [ inl one ↦ absurd (other (let same = one_gpi_at m first n k one low high in cc)) | inr e ↦ e ]

-- ---- blocks within blocks

pub thirty_two_around : (s : SetupData) (w : ℕ) → w / words_of s size.ThirtyTwo ≡ w / words_of s size.Two / 16
thirty_two_around s w =
    ap (λ (n : ℕ). w / n) (thirty_two_is s ∙ mul_comm 16 (words_of s size.Two)) ∙ sym (div-div-eq-div-mul w (words_of s size.Two) 16)

pub five_twelve_around : (s : SetupData) (w : ℕ) → w / words_of s size.FiveTwelve ≡ w / words_of s size.ThirtyTwo / 16
five_twelve_around s w =
    ap (λ (n : ℕ). w / n) (five_twelve_is s ∙ mul_comm 16 (words_of s size.ThirtyTwo)) ∙ sym (div-div-eq-div-mul w (words_of s size.ThirtyTwo) 16)

-- every size has words
pub words_some : (s : SetupData) (z : Size) → 0 < words_of s z
words_some s size.Two = omega (arith, two_low s)
words_some s size.ThirtyTwo = omega (arith, two_low s, thirty_two_is s)
words_some s size.FiveTwelve = omega (arith, two_low s, thirty_two_is s, five_twelve_is s)

-- word j of block b
pub block_of_word : (s : SetupData) (z : Size) (b j : ℕ) → j < words_of s z → (b * words_of s z + j) / words_of s z ≡ b
block_of_word s z b j lt = div-mul-add b (words_of s z) j lt

-- ---- canonical words, the largest size first

pub canonical_choice : (s : SetupData) (m : ℕ → Gpi) (w : ℕ)
    → canonical_word s m None w ≡ canonical_with m w (cond (is_one_block s m size.FiveTwelve (w / words_of s size.FiveTwelve)) (Some size.FiveTwelve)
    (cond (is_one_block s m size.ThirtyTwo (w / words_of s size.ThirtyTwo)) (Some size.ThirtyTwo)
    (cond (is_one_block s m size.Two (w / words_of s size.Two)) (Some size.Two) None)))
unfolding canonical_word is_block_around
canonical_choice s m w = refl

-- the granules of a block of one GPI
pub block_gpi : (s : SetupData) (m : ℕ → Gpi) (z : Size) (b j : ℕ) → is_one_block s m z b ≡ true → j < words_of s z → m (16 * (b * words_of s z + j)) ≡ m (16 * (b * words_of s z))
unfolding is_one_block
block_gpi s m z b j one lt =
    one_gpi_at m (16 * (b * words_of s z)) (16 * words_of s z) (16 * (b * words_of s z + j)) (and_parts _ _ one).1 (omega arith) (omega arith)

pub five_twelve_word : (s : SetupData) (m : ℕ → Gpi) (b j : ℕ) → is_one_block s m size.FiveTwelve b ≡ true → j < words_of s size.FiveTwelve
    → canonical_word s m None (b * words_of s size.FiveTwelve + j) ≡ l1_word (l1.Contig size.FiveTwelve (m (16 * (b * words_of s size.FiveTwelve))))
five_twelve_word s m b j one lt =
    canonical_choice s m (b * words_of s size.FiveTwelve + j) ∙ rw (block_of_word s size.FiveTwelve b j lt, one, block_gpi s m size.FiveTwelve b j one lt) refl

pub thirty_two_word : (s : SetupData) (m : ℕ → Gpi) (b j : ℕ) → is_one_block s m size.FiveTwelve (b / 16) ≡ false → is_one_block s m size.ThirtyTwo b ≡ true → j < words_of s size.ThirtyTwo
    → canonical_word s m None (b * words_of s size.ThirtyTwo + j) ≡ l1_word (l1.Contig size.ThirtyTwo (m (16 * (b * words_of s size.ThirtyTwo))))
thirty_two_word s m b j larger one lt =
    canonical_choice s m (b * words_of s size.ThirtyTwo + j)
    ∙ rw (five_twelve_around s (b * words_of s size.ThirtyTwo + j), block_of_word s size.ThirtyTwo b j lt, larger, one, block_gpi s m size.ThirtyTwo b j one lt) refl

pub two_word : (s : SetupData) (m : ℕ → Gpi) (b j : ℕ) → is_one_block s m size.FiveTwelve (b / 16 / 16) ≡ false → is_one_block s m size.ThirtyTwo (b / 16) ≡ false
    → is_one_block s m size.Two b ≡ true → j < words_of s size.Two
    → canonical_word s m None (b * words_of s size.Two + j) ≡ l1_word (l1.Contig size.Two (m (16 * (b * words_of s size.Two))))
two_word s m b j largest larger one lt =
    canonical_choice s m (b * words_of s size.Two + j)
    ∙ rw (five_twelve_around s (b * words_of s size.Two + j), thirty_two_around s (b * words_of s size.Two + j), block_of_word s size.Two b j lt, largest, larger, one, block_gpi s m size.Two b j one lt) refl

pub granules_word : (s : SetupData) (m : ℕ → Gpi) (b j : ℕ) → is_one_block s m size.FiveTwelve (b / 16 / 16) ≡ false → is_one_block s m size.ThirtyTwo (b / 16) ≡ false
    → is_one_block s m size.Two b ≡ false → j < words_of s size.Two
    → canonical_word s m None (b * words_of s size.Two + j) ≡ packed m (16 * (b * words_of s size.Two + j)) 16
granules_word s m b j largest larger none lt =
    canonical_choice s m (b * words_of s size.Two + j)
    ∙ rw (five_twelve_around s (b * words_of s size.Two + j), thirty_two_around s (b * words_of s size.Two + j), block_of_word s size.Two b j lt, largest, larger, none) refl
