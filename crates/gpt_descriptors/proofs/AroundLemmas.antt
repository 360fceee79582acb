-- One L1 word: which blocks around it may be one entry, the largest of them, and the canonical word by it. What
-- is apart, if anything is, is a granule; all that is said of canonical words is said by these lemmas.
use Rattle.std.proofs.Common.{◌≡◌, ◌≢◌, ℕ, ◌+◌, ◌*◌, ◌/◌, ◌^◌, ◌<◌, Bool, true, false, cond, ◌&&◌, Option, Some, None, refl, sym, ap, ◌∙◌, subst, arith}
use Rattle.std.proofs.lemmas.Bool.{and_parts, eq-eqb, ne_eqb}
use Rattle.gpi_values.specs.declared.gpi.Gpi.{Gpi}
use Rattle.gpi_values.proofs.ValueLemmas.{value_low}
use Rattle.gpt_descriptors.specs.declared.size.Size.{Size}
use Rattle.gpt_descriptors.specs.declared.size.Size.TheVariants as size
use Rattle.gpt_descriptors.specs.declared.entry.L1Entry.{L1Entry}
use Rattle.gpt_descriptors.specs.declared.entry.L1Entry.TheVariants as l1
use Rattle.gpt_descriptors.specs.Sizes.{SetupData, words_of, is_permitted}
use Rattle.gpt_descriptors.specs.Entries.{size_code, l1_word, l1_entry, packed}
use Rattle.gpt_descriptors.specs.Canonical.{is_one_block, counts, is_block_around, largest_block, canonical_with, canonical_word, BlockIs}
use Rattle.gpt_descriptors.proofs.PackedLemmas.{packed_below, packed_alike}
use Rattle.gpt_descriptors.proofs.MeaningLemmas.{contiguous_again, packed_entry}
use Rattle.gpt_descriptors.proofs.BlockLemmas.{wider, widest, first_granule, permitted_of, block_is_at, one_block_alike}

-- ---- one size around one word

-- with no granule apart
pub around_none : (s : SetupData) (m : ℕ → Gpi) (w : ℕ) (z : Size) → is_block_around s m None w z ≡ is_one_block s m z (w / words_of s z)
unfolding is_block_around
around_none s m w z = refl

-- a block that holds the granule apart doesn't count
pub around_held : (s : SetupData) (m : ℕ → Gpi) (g w : ℕ) (z : Size) → g / 16 / words_of s z ≡ w / words_of s z → is_block_around s m (Some g) w z ≡ false
unfolding is_block_around
around_held s m g w z same = rw (eq-eqb _ _ same) refl

-- and every other one does
pub around_free : (s : SetupData) (m : ℕ → Gpi) (g w : ℕ) (z : Size) → g / 16 / words_of s z ≢ w / words_of s z → is_block_around s m (Some g) w z ≡ is_one_block s m z (w / words_of s z)
unfolding is_block_around
around_free s m g w z apart = rw (ne_eqb _ _ apart) refl

pub around_one : (s : SetupData) (m : ℕ → Gpi) (a : Option ℕ) (w : ℕ) (z : Size) → is_block_around s m a w z ≡ true → is_one_block s m z (w / words_of s z) ≡ true
unfolding is_block_around
around_one s m a w z around = (and_parts _ _ around).1

-- two maps that agree on the block
pub around_alike : (s : SetupData) (m l : ℕ → Gpi) (a : Option ℕ) (w : ℕ) (z : Size) → ((g : ℕ) → g / 16 / words_of s z ≡ w / words_of s z → m g ≡ l g)
    → is_block_around s m a w z ≡ is_block_around s l a w z
unfolding is_block_around
around_alike s m l a w z same = ap (λ (t : Bool). counts a (words_of s z) (w / words_of s z) && t) (one_block_alike s m l z (w / words_of s z) same)

-- ---- the largest size

abbrev chosen : Bool → Bool → Bool → Option Size
chosen five_twelve thirty_two two = cond five_twelve (Some size.FiveTwelve) (cond thirty_two (Some size.ThirtyTwo) (cond two (Some size.Two) None))

-- this size, and no larger one
abbrev Chooses : Bool → Bool → Bool → Size → Type 0
Chooses five_twelve thirty_two two size.FiveTwelve = five_twelve ≡ true
Chooses five_twelve thirty_two two size.ThirtyTwo = (five_twelve ≡ false) × (thirty_two ≡ true)
Chooses five_twelve thirty_two two size.Two = (five_twelve ≡ false) × (thirty_two ≡ false) × (two ≡ true)

chooses : (a b c : Bool) (z : Size) → chosen a b c ≡ Some z → Chooses a b c z
chooses true b c size.FiveTwelve e = refl
chooses true b c size.ThirtyTwo e = absurd cc
chooses true b c size.Two e = absurd cc
chooses false true c size.FiveTwelve e = absurd cc
chooses false true c size.ThirtyTwo e = (refl, refl)
chooses false true c size.Two e = absurd cc
chooses false false true size.FiveTwelve e = absurd cc
chooses false false true size.ThirtyTwo e = absurd cc
chooses false false true size.Two e = (refl, refl, refl)
chooses false false false z e = absurd cc

chosen_by : (a b c : Bool) (z : Size) → Chooses a b c z → chosen a b c ≡ Some z
chosen_by a b c size.FiveTwelve is = rw is refl
chosen_by a b c size.ThirtyTwo (larger, is) = rw (larger, is) refl
chosen_by a b c size.Two (largest, larger, is) = rw (largest, larger, is) refl

chosen_none : (a b c : Bool) → chosen a b c ≡ None → (a ≡ false) × (b ≡ false) × (c ≡ false)
chosen_none true b c e = absurd cc
chosen_none false true c e = absurd cc
chosen_none false false true e = absurd cc
chosen_none false false false e = (refl, refl, refl)

-- the largest size around a word is this one: no larger one is, and it is
abbrev pub Shows : SetupData → (ℕ → Gpi) → Option ℕ → ℕ → Size → Type 0
Shows s m a w z = Chooses (is_block_around s m a w size.FiveTwelve) (is_block_around s m a w size.ThirtyTwo) (is_block_around s m a w size.Two) z

pub largest_shows : (s : SetupData) (m : ℕ → Gpi) (a : Option ℕ) (w : ℕ) (z : Size) → largest_block s m a w ≡ Some z → Shows s m a w z
largest_shows s m a w z is = chooses (is_block_around s m a w size.FiveTwelve) (is_block_around s m a w size.ThirtyTwo) (is_block_around s m a w size.Two) z is

pub largest_from : (s : SetupData) (m : ℕ → Gpi) (a : Option ℕ) (w : ℕ) (z : Size) → Shows s m a w z → largest_block s m a w ≡ Some z
largest_from s m a w z shows = chosen_by (is_block_around s m a w size.FiveTwelve) (is_block_around s m a w size.ThirtyTwo) (is_block_around s m a w size.Two) z shows

shows_around : (s : SetupData) (m : ℕ → Gpi) (a : Option ℕ) (w : ℕ) (z : Size) → Shows s m a w z → is_block_around s m a w z ≡ true
shows_around s m a w size.FiveTwelve is = is
shows_around s m a w size.ThirtyTwo (larger, is) = is
shows_around s m a w size.Two (largest, larger, is) = is

pub largest_around : (s : SetupData) (m : ℕ → Gpi) (a : Option ℕ) (w : ℕ) (z : Size) → largest_block s m a w ≡ Some z → is_block_around s m a w z ≡ true
largest_around s m a w z is = shows_around s m a w z (largest_shows s m a w z is)

pub largest_none : (s : SetupData) (m : ℕ → Gpi) (a : Option ℕ) (w : ℕ) → largest_block s m a w ≡ None → (z : Size) → is_block_around s m a w z ≡ false
largest_none s m a w none size.FiveTwelve = (chosen_none (is_block_around s m a w size.FiveTwelve) (is_block_around s m a w size.ThirtyTwo) (is_block_around s m a w size.Two) none).0
largest_none s m a w none size.ThirtyTwo = (chosen_none (is_block_around s m a w size.FiveTwelve) (is_block_around s m a w size.ThirtyTwo) (is_block_around s m a w size.Two) none).1
largest_none s m a w none size.Two = (chosen_none (is_block_around s m a w size.FiveTwelve) (is_block_around s m a w size.ThirtyTwo) (is_block_around s m a w size.Two) none).2

pub none_largest : (s : SetupData) (m : ℕ → Gpi) (a : Option ℕ) (w : ℕ) → ((z : Size) → is_block_around s m a w z ≡ false) → largest_block s m a w ≡ None
none_largest s m a w none = rw (none size.FiveTwelve, none size.ThirtyTwo, none size.Two) refl

-- the largest size is permitted, and its block has the GPI of the word
pub largest_permitted : (s : SetupData) (m : ℕ → Gpi) (a : Option ℕ) (w : ℕ) (z : Size) → largest_block s m a w ≡ Some z → is_permitted s.max z ≡ true
largest_permitted s m a w z is = permitted_of s m z (w / words_of s z) (around_one s m a w z (largest_around s m a w z is))

pub largest_block_is : (s : SetupData) (m : ℕ → Gpi) (a : Option ℕ) (w : ℕ) (z : Size) → largest_block s m a w ≡ Some z → BlockIs s m z (w / words_of s z) (m (16 * w))
largest_block_is s m a w z is = block_is_at s m z (w / words_of s z) w refl (around_one s m a w z (largest_around s m a w z is))

-- ---- two words of one block

beside_around : (s : SetupData) (m : ℕ → Gpi) (v w : ℕ) (z : Size) → w / words_of s z ≡ v / words_of s z → is_block_around s m None w z ≡ is_block_around s m None v z
beside_around s m v w z same = around_none s m w z ∙ ap (is_one_block s m z) same ∙ sym (around_none s m v z)

shows_beside : (s : SetupData) (m : ℕ → Gpi) (v w : ℕ) (z : Size) → w / words_of s z ≡ v / words_of s z → Shows s m None v z → Shows s m None w z
shows_beside s m v w size.FiveTwelve same is = beside_around s m v w size.FiveTwelve same ∙ is
shows_beside s m v w size.ThirtyTwo same (larger, is) = (beside_around s m v w size.FiveTwelve (widest s w v same) ∙ larger, beside_around s m v w size.ThirtyTwo same ∙ is)
shows_beside s m v w size.Two same (largest, larger, is) = (
  beside_around s m v w size.FiveTwelve (widest s w v (wider s w v same)) ∙ largest,
  beside_around s m v w size.ThirtyTwo (wider s w v same) ∙ larger,
  beside_around s m v w size.Two same ∙ is,
)

-- the largest size around each word of the block is the same
pub largest_beside : (s : SetupData) (m : ℕ → Gpi) (v w : ℕ) (z : Size) → largest_block s m None v ≡ Some z → w / words_of s z ≡ v / words_of s z → largest_block s m None w ≡ Some z
largest_beside s m v w z is same = largest_from s m None w z (shows_beside s m v w z same (largest_shows s m None v z is))

-- ---- the canonical word

pub canonical_is : (s : SetupData) (m : ℕ → Gpi) (a : Option ℕ) (w : ℕ) (o : Option Size) → largest_block s m a w ≡ o → canonical_word s m a w ≡ canonical_with m w o
unfolding canonical_word
canonical_is s m a w o is = ap (canonical_with m w) is

pub largest_alike : (s : SetupData) (m l : ℕ → Gpi) (a b : Option ℕ) (w : ℕ) → ((z : Size) → is_block_around s m a w z ≡ is_block_around s l b w z) → largest_block s m a w ≡ largest_block s l b w
largest_alike s m l a b w same = rw (same size.FiveTwelve, same size.ThirtyTwo, same size.Two) refl

with_alike : (m l : ℕ → Gpi) (w : ℕ) (o : Option Size) → ((i : ℕ) → i < 16 → m (16 * w + i) ≡ l (16 * w + i)) → canonical_with m w o ≡ canonical_with l w o
with_alike m l w None same = packed_alike m l (16 * w) (16 * w) 16 same
with_alike m l w (Some z) same =
    let start : 16 * w + 0 ≡ 16 * w = omega arith in
    ap (λ (gpi : Gpi). l1_word (l1.Contig z gpi)) (subst (λ (k : ℕ). m k ≡ l k) start (same 0 (omega arith)))

-- Two maps, or two granules apart, give one word where each size counts alike and the word's granules are equal.
pub canonical_alike : (s : SetupData) (m l : ℕ → Gpi) (a b : Option ℕ) (w : ℕ) → ((z : Size) → is_block_around s m a w z ≡ is_block_around s l b w z)
    → ((i : ℕ) → i < 16 → m (16 * w + i) ≡ l (16 * w + i)) → canonical_word s m a w ≡ canonical_word s l b w
canonical_alike s m l a b w around same =
    canonical_is s m a w (largest_block s l b w) (largest_alike s m l a b w around)
    ∙ with_alike m l w (largest_block s l b w) same ∙ sym (canonical_is s l b w (largest_block s l b w) refl)

-- each word of the block of the largest size
pub contiguous_word : (s : SetupData) (m : ℕ → Gpi) (v w : ℕ) (z : Size) → largest_block s m None v ≡ Some z → w / words_of s z ≡ v / words_of s z
    → canonical_word s m None w ≡ l1_word (l1.Contig z (m (16 * v)))
contiguous_word s m v w z is same =
    canonical_is s m None w (Some z) (largest_beside s m v w z is same)
    ∙ ap (λ (gpi : Gpi). l1_word (l1.Contig z gpi)) (largest_block_is s m None v z is (16 * w) (ap (λ (n : ℕ). n / words_of s z) (first_granule w) ∙ same))

-- each word of the 2 MB of the granule apart is one of granules
pub near_word : (s : SetupData) (m : ℕ → Gpi) (g w : ℕ) → g / 16 / words_of s size.Two ≡ w / words_of s size.Two → canonical_word s m (Some g) w ≡ packed m (16 * w) 16
near_word s m g w same =
    canonical_is s m (Some g) w None
    (rw (
      around_held s m g w size.FiveTwelve (widest s (g / 16) w (wider s (g / 16) w same)),
      around_held s m g w size.ThirtyTwo (wider s (g / 16) w same),
      around_held s m g w size.Two same,
    ) refl)

pub own_word : (s : SetupData) (m : ℕ → Gpi) (g : ℕ) → canonical_word s m (Some g) (g / 16) ≡ packed m (16 * (g / 16)) 16
own_word s m g = near_word s m g (g / 16) refl

-- ---- the entry that it spells

abbrev pub entry_with : (ℕ → Gpi) → ℕ → Option Size → L1Entry
entry_with m w (Some z) = l1.Contig z (m (16 * w))
entry_with m w None = l1.Granules (packed m (16 * w) 16)

with_entry : (m : ℕ → Gpi) (w : ℕ) (o : Option Size) → l1_entry (canonical_with m w o) ≡ Some (entry_with m w o)
with_entry m w None = packed_entry m (16 * w)
with_entry m w (Some z) = contiguous_again z (m (16 * w))

pub canonical_entry : (s : SetupData) (m : ℕ → Gpi) (a : Option ℕ) (w : ℕ) (o : Option Size) → largest_block s m a w ≡ o → l1_entry (canonical_word s m a w) ≡ Some (entry_with m w o)
canonical_entry s m a w o is = ap l1_entry (canonical_is s m a w o is) ∙ with_entry m w o

contiguous_by : (m : ℕ → Gpi) (w : ℕ) (o : Option Size) (z : Size) (gpi : Gpi) → entry_with m w o ≡ l1.Contig z gpi → (o ≡ Some z) × (m (16 * w) ≡ gpi)
contiguous_by m w None z gpi e = absurd cc
contiguous_by m w (Some y) z gpi e = (let same : y ≡ z = cc in ap (λ (k : Size). Some k) same, cc)

granules_by : (m : ℕ → Gpi) (w : ℕ) (o : Option Size) (word : ℕ) → entry_with m w o ≡ l1.Granules word → o ≡ None
granules_by m w None word e = refl
granules_by m w (Some y) word e = absurd cc

-- a contiguous word says the largest size and the GPI
pub contiguous_found : (s : SetupData) (m : ℕ → Gpi) (a : Option ℕ) (w : ℕ) (z : Size) (gpi : Gpi) → l1_entry (canonical_word s m a w) ≡ Some (l1.Contig z gpi)
    → (largest_block s m a w ≡ Some z) × (m (16 * w) ≡ gpi)
contiguous_found s m a w z gpi read =
    contiguous_by m w (largest_block s m a w) z gpi (let both = sym (canonical_entry s m a w (largest_block s m a w) refl) ∙ read in cc)

-- and a granules word that there is none
pub granules_found : (s : SetupData) (m : ℕ → Gpi) (a : Option ℕ) (w word : ℕ) → l1_entry (canonical_word s m a w) ≡ Some (l1.Granules word) → largest_block s m a w ≡ None
granules_found s m a w word read =
    granules_by m w (largest_block s m a w) word (let both = sym (canonical_entry s m a w (largest_block s m a w) refl) ∙ read in cc)

-- ---- its 64 bits

code_low : (z : Size) → size_code z < 4
code_low size.Two = omega arith
code_low size.ThirtyTwo = omega arith
code_low size.FiveTwelve = omega arith

with_fits : (m : ℕ → Gpi) (w : ℕ) (o : Option Size) → canonical_with m w o < 2 ^ 64
with_fits m w None = packed_below m (16 * w) 16
with_fits m w (Some z) = omega (arith, value_low (m (16 * w)), code_low z)

pub canonical_fits : (s : SetupData) (m : ℕ → Gpi) (a : Option ℕ) (w : ℕ) → canonical_word s m a w < 2 ^ 64
canonical_fits s m a w = subst (λ (word : ℕ). word < 2 ^ 64) (sym (canonical_is s m a w (largest_block s m a w) refl)) (with_fits m w (largest_block s m a w))
