-- The tests of merging on tables that are canonical apart from a granule: what each says of the map where it passes,
-- that it passes where the map has the block, and that the size found is the largest block around the granule.
use Rattle.std.proofs.Common.{◌≡◌, ℕ, ◌+◌, ◌*◌, ◌/◌, ◌%◌, true, false, Option, Some, None, ◌⊎◌, refl, sym, ap, ◌∙◌, arith, inl, inr}
use Rattle.std.proofs.lemmas.Bool.{cases_Bool, cases_eq}
use Rattle.gpi_values.specs.declared.gpi.Gpi.{Gpi}
use Rattle.gpt_descriptors.specs.declared.size.Size.{Size}
use Rattle.gpt_descriptors.specs.declared.size.Size.TheVariants as size
use Rattle.gpt_descriptors.specs.declared.entry.L1Entry.TheVariants as l1
use Rattle.gpt_descriptors.specs.Sizes.{SetupData, words_of, is_permitted}
use Rattle.gpt_descriptors.specs.Entries.{l1_word, l1_entry, packed}
use Rattle.gpt_descriptors.specs.Fields.{granules_of}
use Rattle.gpt_descriptors.specs.Canonical.{is_block_around, largest_block, canonical_word, BlockIs}
use Rattle.gpt_descriptors.proofs.CanonicalLemmas.{words_some, thirty_two_around, five_twelve_around}
use Rattle.gpt_descriptors.proofs.MeaningLemmas.{contiguous_again}
use Rattle.gpt_descriptors.proofs.PackedLemmas.{granules_one}
use Rattle.gpt_descriptors.proofs.BlockLemmas.{first_granule, first_word, wider, widest, permits_two, permits_thirty_two, permitted_of, block_is_at, one_block_from}
use Rattle.gpt_descriptors.proofs.AroundLemmas.{around_none, around_one, largest_from, none_largest, largest_block_is, near_word, contiguous_found}
use Rattle.table_meaning.specs.Merging.{PassesTwo, PassesThirtyTwo, PassesFiveTwelve, StopsThirtyTwo, StopsFiveTwelve, Finds}
use Rattle.table_meaning.proofs.SplitLemmas.{packed_of, block_granule, beside_two, beside_thirty_two}

-- ---- the block of 2 MB

pub two_says : (s : SetupData) (m : ℕ → Gpi) (g : ℕ) (v : Gpi) → PassesTwo s (canonical_word s m (Some g)) (g / 16) v → BlockIs s m size.Two (g / 16 / words_of s size.Two) v
two_says s m g v passes = λ k inside.
    let whole : 16 * (k / 16) + k % 16 ≡ k = omega arith in
    let word : packed m (16 * (k / 16)) 16 ≡ granules_of v = sym (near_word s m g (k / 16) (sym inside)) ∙ passes (k / 16) inside in
    ap m (sym whole) ∙ granules_one m (16 * (k / 16)) (k % 16) v word (omega arith)

pub two_passes : (s : SetupData) (m : ℕ → Gpi) (g : ℕ) (v : Gpi) → BlockIs s m size.Two (g / 16 / words_of s size.Two) v → PassesTwo s (canonical_word s m (Some g)) (g / 16) v
two_passes s m g v is = λ w inside.
    near_word s m g w (sym inside) ∙ packed_of m w v (λ i low. block_granule s m size.Two (g / 16 / words_of s size.Two) w i v inside is low)

-- ---- the larger ones

-- the first word of a block, where it is contiguous of that size, says the GPI of the block
pub first_says : (s : SetupData) (m : ℕ → Gpi) (z : Size) (b : ℕ) (v : Gpi) (a : Option ℕ) → canonical_word s m a (b * words_of s z) ≡ l1_word (l1.Contig z v) → BlockIs s m z b v
first_says s m z b v a word = λ k inside.
    let start : b * words_of s z / words_of s z ≡ b = first_word (words_of s z) b (words_some s z) in
    let found = contiguous_found s m a (b * words_of s z) z v (ap l1_entry word ∙ contiguous_again z v) in
    largest_block_is s m a (b * words_of s z) z found.0 k (inside ∙ sym start) ∙ found.1

pub thirty_two_says : (s : SetupData) (m : ℕ → Gpi) (g : ℕ) (v : Gpi) → BlockIs s m size.Two (g / 16 / words_of s size.Two) v
    → PassesThirtyTwo s (canonical_word s m (Some g)) (g / 16) v → BlockIs s m size.ThirtyTwo (g / 16 / words_of s size.ThirtyTwo) v
thirty_two_says s m g v two passes = λ k inside.
    let q : ℕ = k / 16 / words_of s size.Two in
    elim (cases_eq q (g / 16 / words_of s size.Two)) [
      | inl own ↦ two k own
      | inr other ↦ first_says s m size.Two q v (Some g) (passes q (sym (thirty_two_around s (k / 16)) ∙ inside) other) k refl
    ]

pub five_twelve_says : (s : SetupData) (m : ℕ → Gpi) (g : ℕ) (v : Gpi) → BlockIs s m size.ThirtyTwo (g / 16 / words_of s size.ThirtyTwo) v
    → PassesFiveTwelve s (canonical_word s m (Some g)) (g / 16) v → BlockIs s m size.FiveTwelve (g / 16 / words_of s size.FiveTwelve) v
five_twelve_says s m g v thirty_two passes = λ k inside.
    let r : ℕ = k / 16 / words_of s size.ThirtyTwo in
    elim (cases_eq r (g / 16 / words_of s size.ThirtyTwo)) [
      | inl own ↦ thirty_two k own
      | inr other ↦ first_says s m size.ThirtyTwo r v (Some g) (passes r (sym (five_twelve_around s (k / 16)) ∙ inside) other) k refl
    ]

pub thirty_two_passes : (s : SetupData) (m : ℕ → Gpi) (g : ℕ) (v : Gpi) → is_permitted s.max size.Two ≡ true → BlockIs s m size.ThirtyTwo (g / 16 / words_of s size.ThirtyTwo) v
    → PassesThirtyTwo s (canonical_word s m (Some g)) (g / 16) v
thirty_two_passes s m g v permitted is = λ q near other.
    let n : ℕ = words_of s size.Two in
    let start : q * n / n ≡ q = first_word n q (words_some s size.Two) in
    let inside : q * n / words_of s size.ThirtyTwo ≡ g / 16 / words_of s size.ThirtyTwo = thirty_two_around s (q * n) ∙ ap (λ (k : ℕ). k / 16) start ∙ near in
    beside_two s m g (q * n) v permitted inside (λ e. other (sym start ∙ e)) (λ k at. is k (wider s (k / 16) (q * n) at ∙ inside))

pub five_twelve_passes : (s : SetupData) (m : ℕ → Gpi) (g : ℕ) (v : Gpi) → is_permitted s.max size.ThirtyTwo ≡ true → BlockIs s m size.FiveTwelve (g / 16 / words_of s size.FiveTwelve) v
    → PassesFiveTwelve s (canonical_word s m (Some g)) (g / 16) v
five_twelve_passes s m g v permitted is = λ r near other.
    let n : ℕ = words_of s size.ThirtyTwo in
    let start : r * n / n ≡ r = first_word n r (words_some s size.ThirtyTwo) in
    let inside : r * n / words_of s size.FiveTwelve ≡ g / 16 / words_of s size.FiveTwelve = five_twelve_around s (r * n) ∙ ap (λ (k : ℕ). k / 16) start ∙ near in
    beside_thirty_two s m g (r * n) v permitted inside (λ e. other (sym start ∙ e)) (λ k at. is k (widest s (k / 16) (r * n) at ∙ inside))

-- ---- blocks of one GPI around the granule

-- one larger block gives the smaller ones
pub smaller_is : (s : SetupData) (m : ℕ → Gpi) (x : ℕ) (v : Gpi) → BlockIs s m size.ThirtyTwo (x / words_of s size.ThirtyTwo) v → BlockIs s m size.Two (x / words_of s size.Two) v
smaller_is s m x v is = λ k inside. is k (wider s (k / 16) x inside)

pub small_is : (s : SetupData) (m : ℕ → Gpi) (x : ℕ) (v : Gpi) → BlockIs s m size.FiveTwelve (x / words_of s size.FiveTwelve) v → BlockIs s m size.ThirtyTwo (x / words_of s size.ThirtyTwo) v
small_is s m x v is = λ k inside. is k (widest s (k / 16) x inside)

-- a block that may be one entry has the GPI of each of its words
pub around_is : (s : SetupData) (m : ℕ → Gpi) (w : ℕ) (z : Size) → is_block_around s m None w z ≡ true → BlockIs s m z (w / words_of s z) (m (16 * w))
around_is s m w z around = block_is_at s m z (w / words_of s z) w refl (around_one s m None w z around)

pub around_permitted : (s : SetupData) (m : ℕ → Gpi) (w : ℕ) (z : Size) → is_block_around s m None w z ≡ true → is_permitted s.max z ≡ true
around_permitted s m w z around = permitted_of s m z (w / words_of s z) (around_one s m None w z around)

pub around_from : (s : SetupData) (m : ℕ → Gpi) (w : ℕ) (z : Size) (v : Gpi) → is_permitted s.max z ≡ true → BlockIs s m z (w / words_of s z) v → is_block_around s m None w z ≡ true
around_from s m w z v permitted is = around_none s m w z ∙ one_block_from s m z (w / words_of s z) v permitted is

-- each block that may be one entry gives the 2 MB
two_around : (s : SetupData) (m : ℕ → Gpi) (w : ℕ) (z : Size) → is_block_around s m None w z ≡ true → is_block_around s m None w size.Two ≡ true
two_around s m w size.Two around = around
two_around s m w size.ThirtyTwo around =
    around_from s m w size.Two (m (16 * w)) (permits_two s.max size.ThirtyTwo (around_permitted s m w size.ThirtyTwo around)) (smaller_is s m w (m (16 * w)) (around_is s m w size.ThirtyTwo around))
two_around s m w size.FiveTwelve around =
    around_from s m w size.Two (m (16 * w)) (permits_two s.max size.FiveTwelve (around_permitted s m w size.FiveTwelve around))
    (smaller_is s m w (m (16 * w)) (small_is s m w (m (16 * w)) (around_is s m w size.FiveTwelve around)))

thirty_two_inside : (s : SetupData) (m : ℕ → Gpi) (w : ℕ) → is_block_around s m None w size.FiveTwelve ≡ true → is_block_around s m None w size.ThirtyTwo ≡ true
thirty_two_inside s m w around =
    around_from s m w size.ThirtyTwo (m (16 * w)) (permits_thirty_two s.max (around_permitted s m w size.FiveTwelve around)) (small_is s m w (m (16 * w)) (around_is s m w size.FiveTwelve around))

-- the word of the granule of a block of one GPI
own_gpi : (s : SetupData) (m : ℕ → Gpi) (g : ℕ) (z : Size) (v : Gpi) → BlockIs s m z (g / 16 / words_of s z) v → m (16 * (g / 16)) ≡ v
own_gpi s m g z v is = is (16 * (g / 16)) (ap (λ (n : ℕ). n / words_of s z) (first_granule (g / 16)))

-- ---- what no test finds

not_around : (s : SetupData) (m : ℕ → Gpi) (w : ℕ) (z : Size) → (is_block_around s m None w z ≡ true → ⊥) → is_block_around s m None w z ≡ false
not_around s m w z never = elim (cases_Bool (is_block_around s m None w z)) [ inl around ↦ absurd (never around) | inr none ↦ none ]

no_two : (s : SetupData) (m : ℕ → Gpi) (g : ℕ) → Finds s (canonical_word s m (Some g)) (g / 16) None → is_block_around s m None (g / 16) size.Two ≡ true → ⊥
no_two s m g (inl refused) around = let permitted = around_permitted s m (g / 16) size.Two around in absurd cc
no_two s m g (inr (inl mixed)) around =
    let passes = two_passes s m g (m (16 * (g / 16))) (around_is s m (g / 16) size.Two around) in
    mixed (m (16 * (g / 16))) (passes (g / 16) refl)
no_two s m g (inr (inr (w, near, differs))) around =
    let passes = two_passes s m g (m (16 * (g / 16))) (around_is s m (g / 16) size.Two around) in
    differs (passes w near ∙ sym (passes (g / 16) refl))

no_thirty_two : (s : SetupData) (m : ℕ → Gpi) (g : ℕ) (v : Gpi) → BlockIs s m size.Two (g / 16 / words_of s size.Two) v
    → (is_permitted s.max size.ThirtyTwo ≡ false) ⊎ StopsThirtyTwo s (canonical_word s m (Some g)) (g / 16) v → is_block_around s m None (g / 16) size.ThirtyTwo ≡ true → ⊥
no_thirty_two s m g v two (inl refused) around = let permitted = around_permitted s m (g / 16) size.ThirtyTwo around in absurd cc
no_thirty_two s m g v two (inr (q, near, other, differs)) around =
    let one : m (16 * (g / 16)) ≡ v = own_gpi s m g size.Two v two in
    let is : BlockIs s m size.ThirtyTwo (g / 16 / words_of s size.ThirtyTwo) v = λ k inside. around_is s m (g / 16) size.ThirtyTwo around k inside ∙ one in
    differs (thirty_two_passes s m g v (permits_two s.max size.ThirtyTwo (around_permitted s m (g / 16) size.ThirtyTwo around)) is q near other)

no_five_twelve : (s : SetupData) (m : ℕ → Gpi) (g : ℕ) (v : Gpi) → BlockIs s m size.Two (g / 16 / words_of s size.Two) v
    → (is_permitted s.max size.FiveTwelve ≡ false) ⊎ StopsFiveTwelve s (canonical_word s m (Some g)) (g / 16) v → is_block_around s m None (g / 16) size.FiveTwelve ≡ true → ⊥
no_five_twelve s m g v two (inl refused) around = let permitted = around_permitted s m (g / 16) size.FiveTwelve around in absurd cc
no_five_twelve s m g v two (inr (r, near, other, differs)) around =
    let one : m (16 * (g / 16)) ≡ v = own_gpi s m g size.Two v two in
    let is : BlockIs s m size.FiveTwelve (g / 16 / words_of s size.FiveTwelve) v = λ k inside. around_is s m (g / 16) size.FiveTwelve around k inside ∙ one in
    differs (five_twelve_passes s m g v (permits_thirty_two s.max (around_permitted s m (g / 16) size.FiveTwelve around)) is r near other)

-- ---- the size that is found is that of the largest block

pub finds_largest : (s : SetupData) (m : ℕ → Gpi) (g : ℕ) (o : Option Size) → Finds s (canonical_word s m (Some g)) (g / 16) o → largest_block s m None (g / 16) ≡ o
finds_largest s m g None none =
    none_largest s m None (g / 16) (λ z. not_around s m (g / 16) z (λ around. no_two s m g none (two_around s m (g / 16) z around)))
finds_largest s m g (Some size.Two) (v, permitted, passes, stops) =
    let two = two_says s m g v passes in
    let no_larger : is_block_around s m None (g / 16) size.ThirtyTwo ≡ false = not_around s m (g / 16) size.ThirtyTwo (no_thirty_two s m g v two stops) in
    largest_from s m None (g / 16) size.Two (
      not_around s m (g / 16) size.FiveTwelve (λ around. no_thirty_two s m g v two stops (thirty_two_inside s m (g / 16) around)),
      no_larger,
      around_from s m (g / 16) size.Two v permitted two,
    )
finds_largest s m g (Some size.ThirtyTwo) (v, permitted, passes, larger, stops) =
    let two = two_says s m g v passes in
    largest_from s m None (g / 16) size.ThirtyTwo (
      not_around s m (g / 16) size.FiveTwelve (no_five_twelve s m g v two stops),
      around_from s m (g / 16) size.ThirtyTwo v permitted (thirty_two_says s m g v two larger),
    )
finds_largest s m g (Some size.FiveTwelve) (v, permitted, passes, larger, largest) =
    largest_from s m None (g / 16) size.FiveTwelve
    (around_from s m (g / 16) size.FiveTwelve v permitted (five_twelve_says s m g v (thirty_two_says s m g v (two_says s m g v passes) larger) largest))
