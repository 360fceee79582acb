-- Splitting on canonical tables: each stored word is the canonical one apart from the granule, so that the words
-- after any number of stores are canonical, apart from the granule or not.
use Rattle.std.proofs.Common.{◌≡◌, ◌≢◌, ℕ, ◌+◌, ◌*◌, ◌/◌, ◌≤◌, ◌<◌, true, cond, Some, None, refl, sym, ap, ◌∙◌, subst, arith, inl, inr}
use Rattle.std.proofs.lemmas.Bool.{cases_Bool, cases_eq, and_parts, and_from, eq-eqb, ne_eqb, ltb-true, lt-ltb, leb-true, le-leb}
use Rattle.gpi_values.specs.declared.gpi.Gpi.{Gpi}
use Rattle.gpt_descriptors.specs.declared.size.Size.{Size}
use Rattle.gpt_descriptors.specs.declared.size.Size.TheVariants as size
use Rattle.gpt_descriptors.specs.declared.entry.L1Entry.TheVariants as l1
use Rattle.gpt_descriptors.specs.Sizes.{SetupData, words_of, is_permitted}
use Rattle.gpt_descriptors.specs.Entries.{l1_word, l1_entry, packed}
use Rattle.gpt_descriptors.specs.Fields.{granules_of}
use Rattle.gpt_descriptors.specs.Canonical.{largest_block, canonical_word, BlockIs}
use Rattle.gpt_descriptors.proofs.CanonicalLemmas.{words_some}
use Rattle.gpt_descriptors.proofs.PackedLemmas.{packed_alike}
use Rattle.gpt_descriptors.proofs.BlockLemmas.{start_low, start_high, from_start, first_granule, first_word, word_granule, wider, widest, permits_two, permits_thirty_two, one_block_from}
use Rattle.gpt_descriptors.proofs.AroundLemmas.{around_held, around_free, largest_from, largest_permitted, largest_block_is, canonical_is, near_word, own_word, contiguous_found, contiguous_word}
use Rattle.table_meaning.specs.Splitting.{block_start, is_stored, split_around, split_at, merged_at}
use Rattle.table_meaning.proofs.ChangeLemmas.{elsewhere_same}

-- ---- contiguous words beside the granule

-- granules of one GPI
pub packed_of : (m : ℕ → Gpi) (w : ℕ) (v : Gpi) → ((i : ℕ) → i < 16 → m (16 * w + i) ≡ v) → packed m (16 * w) 16 ≡ granules_of v
packed_of m w v each = packed_alike m (λ k. v) (16 * w) 0 16 each

pub block_word : (s : SetupData) (m : ℕ → Gpi) (z : Size) (b w : ℕ) (v : Gpi) → w / words_of s z ≡ b → BlockIs s m z b v → m (16 * w) ≡ v
block_word s m z b w v at is = is (16 * w) (ap (λ (n : ℕ). n / words_of s z) (first_granule w) ∙ at)

pub block_granule : (s : SetupData) (m : ℕ → Gpi) (z : Size) (b w i : ℕ) (v : Gpi) → w / words_of s z ≡ b → BlockIs s m z b v → i < 16 → m (16 * w + i) ≡ v
block_granule s m z b w i v at is low = is (16 * w + i) (ap (λ (n : ℕ). n / words_of s z) (word_granule w i low) ∙ at)

-- in the 32 MB of the granule, another 2 MB
pub beside_two : (s : SetupData) (m : ℕ → Gpi) (g w : ℕ) (v : Gpi) → is_permitted s.max size.Two ≡ true → w / words_of s size.ThirtyTwo ≡ g / 16 / words_of s size.ThirtyTwo
    → w / words_of s size.Two ≢ g / 16 / words_of s size.Two → BlockIs s m size.Two (w / words_of s size.Two) v
    → canonical_word s m (Some g) w ≡ l1_word (l1.Contig size.Two v)
beside_two s m g w v permitted near apart is =
    let one = one_block_from s m size.Two (w / words_of s size.Two) v permitted is in
    canonical_is s m (Some g) w (Some size.Two)
    (largest_from s m (Some g) w size.Two (
      around_held s m g w size.FiveTwelve (widest s (g / 16) w (sym near)),
      around_held s m g w size.ThirtyTwo (sym near),
      around_free s m g w size.Two (λ e. apart (sym e)) ∙ one,
    ))
    ∙ ap (λ (gpi : Gpi). l1_word (l1.Contig size.Two gpi)) (block_word s m size.Two (w / words_of s size.Two) w v refl is)

-- in the 512 MB of the granule, another 32 MB
pub beside_thirty_two : (s : SetupData) (m : ℕ → Gpi) (g w : ℕ) (v : Gpi) → is_permitted s.max size.ThirtyTwo ≡ true
    → w / words_of s size.FiveTwelve ≡ g / 16 / words_of s size.FiveTwelve → w / words_of s size.ThirtyTwo ≢ g / 16 / words_of s size.ThirtyTwo
    → BlockIs s m size.ThirtyTwo (w / words_of s size.ThirtyTwo) v
    → canonical_word s m (Some g) w ≡ l1_word (l1.Contig size.ThirtyTwo v)
beside_thirty_two s m g w v permitted near apart is =
    let one = one_block_from s m size.ThirtyTwo (w / words_of s size.ThirtyTwo) v permitted is in
    canonical_is s m (Some g) w (Some size.ThirtyTwo)
    (largest_from s m (Some g) w size.ThirtyTwo
    (around_held s m g w size.FiveTwelve (sym near), around_free s m g w size.ThirtyTwo (λ e. apart (sym e)) ∙ one))
    ∙ ap (λ (gpi : Gpi). l1_word (l1.Contig size.ThirtyTwo gpi)) (block_word s m size.ThirtyTwo (w / words_of s size.ThirtyTwo) w v refl is)

-- ---- blocks in a block

-- the 2 MB of a word are in its block of any size
two_inside : (s : SetupData) (z : Size) (x w : ℕ) → x / words_of s size.Two ≡ w / words_of s size.Two → x / words_of s z ≡ w / words_of s z
two_inside s size.Two x w same = same
two_inside s size.ThirtyTwo x w same = wider s x w same
two_inside s size.FiveTwelve x w same = widest s x w (wider s x w same)

-- a block that reaches beyond the granule's 32 MB has 512 MB
beyond_thirty_two : (s : SetupData) (z : Size) (x w : ℕ) → x / words_of s z ≡ w / words_of s z → x / words_of s size.ThirtyTwo ≢ w / words_of s size.ThirtyTwo → z ≡ size.FiveTwelve
beyond_thirty_two s size.Two x w same apart = absurd (apart (wider s x w same))
beyond_thirty_two s size.ThirtyTwo x w same apart = absurd (apart same)
beyond_thirty_two s size.FiveTwelve x w same apart = refl

-- ---- each stored word

pub split_around_is : (s : SetupData) (m : ℕ → Gpi) (z : Size) (g w : ℕ) (v : Gpi) → is_permitted s.max z ≡ true → w / words_of s z ≡ g / 16 / words_of s z
    → BlockIs s m z (g / 16 / words_of s z) v → split_around s (g / 16) v w ≡ canonical_word s m (Some g) w
split_around_is s m z g w v permitted within is =
    elim (cases_eq (w / words_of s size.Two) (g / 16 / words_of s size.Two)) [
      | inl own ↦
          rw (eq-eqb _ _ own)
          (sym (near_word s m g w (sym own) ∙ packed_of m w v (λ i low. block_granule s m z (g / 16 / words_of s z) w i v within is low)))
      | inr apart ↦ elim (cases_eq (w / words_of s size.ThirtyTwo) (g / 16 / words_of s size.ThirtyTwo)) [
        | inl near ↦
            rw (ne_eqb _ _ apart, eq-eqb _ _ near)
            (sym (beside_two s m g w v (permits_two s.max z permitted) near apart
            (λ k inside. is k (two_inside s z (k / 16) w inside ∙ within))))
        | inr away ↦
            let widest_z : z ≡ size.FiveTwelve = beyond_thirty_two s z w (g / 16) within away in
            let all : is_permitted s.max size.FiveTwelve ≡ true = subst (λ (y : Size). is_permitted s.max y ≡ true) widest_z permitted in
            let inside_all : w / words_of s size.FiveTwelve ≡ g / 16 / words_of s size.FiveTwelve =
            subst (λ (y : Size). w / words_of s y ≡ g / 16 / words_of s y) widest_z within in
            let is_all : BlockIs s m size.FiveTwelve (g / 16 / words_of s size.FiveTwelve) v =
            subst (λ (y : Size). BlockIs s m y (g / 16 / words_of s y) v) widest_z is in
            rw (ne_eqb _ _ apart, ne_eqb _ _ away)
            (sym (beside_thirty_two s m g w v (permits_thirty_two s.max all) inside_all away
            (λ k inside. is_all k (widest s (k / 16) w inside ∙ inside_all))))
      ]
    ]

-- ---- what is stored

-- the tests of a stored word, in numbers
pub stored_low : (s : SetupData) (z : Size) (v k w : ℕ) → is_stored s z v k w ≡ true → block_start s z v ≤ w
stored_low s z v k w stored = leb-true _ _ (and_parts _ _ stored).0

pub stored_high : (s : SetupData) (z : Size) (v k w : ℕ) → is_stored s z v k w ≡ true → w < block_start s z v + k
stored_high s z v k w stored = ltb-true _ _ (and_parts _ _ stored).1

pub stored_from : (s : SetupData) (z : Size) (v k w : ℕ) → block_start s z v ≤ w → w < block_start s z v + k → is_stored s z v k w ≡ true
stored_from s z v k w low high = and_from _ _ (le-leb _ _ low) (lt-ltb _ _ high)

-- a stored word is in the block
pub stored_within : (s : SetupData) (z : Size) (v k w : ℕ) → k ≤ words_of s z → is_stored s z v k w ≡ true → w / words_of s z ≡ v / words_of s z
stored_within s z v k w some stored =
    from_start (words_of s z) (v / words_of s z) w (stored_low s z v k w stored) (omega (arith, stored_high s z v k w stored, some))

-- and each word of the block is stored in the end
pub all_stored : (s : SetupData) (z : Size) (v w : ℕ) → w / words_of s z ≡ v / words_of s z → is_stored s z v (words_of s z) w ≡ true
all_stored s z v w within =
    stored_from s z v (words_of s z) w (start_low (words_of s z) (v / words_of s z) w within) (start_high (words_of s z) (v / words_of s z) w (words_some s z) within)

-- ---- splitting

-- a loaded contiguous word says the largest block around the granule, and its GPI
pub loaded_says : (s : SetupData) (m : ℕ → Gpi) (z : Size) (g : ℕ) (gpi : Gpi) → l1_entry (canonical_word s m None (g / 16)) ≡ Some (l1.Contig z gpi)
    → (largest_block s m None (g / 16) ≡ Some z) × BlockIs s m z (g / 16 / words_of s z) gpi
loaded_says s m z g gpi read =
    let found = contiguous_found s m None (g / 16) z gpi read in
    (found.0, λ k inside. largest_block_is s m None (g / 16) z found.0 k inside ∙ found.1)

pub start_gpi : (s : SetupData) (m : ℕ → Gpi) (z : Size) (v : ℕ) → largest_block s m None v ≡ Some z → BlockIs s m z (v / words_of s z) (m (16 * block_start s z v))
start_gpi s m z v is = λ k inside.
    let all = largest_block_is s m None v z is in
    all k inside ∙ sym (all (16 * block_start s z v) (ap (λ (n : ℕ). n / words_of s z) (first_granule (block_start s z v)) ∙ first_word (words_of s z) (v / words_of s z) (words_some s z)))

-- after k stores each word is canonical, the stored ones apart from the granule
pub split_is : (s : SetupData) (m : ℕ → Gpi) (z : Size) (g k w : ℕ) → largest_block s m None (g / 16) ≡ Some z → k ≤ words_of s z
    → split_at s m z g k w ≡ canonical_word s m (cond (is_stored s z (g / 16) k w) (Some g) None) w
split_is s m z g k w is some =
    elim (cases_Bool (is_stored s z (g / 16) k w)) [
      | inl stored ↦
          rw stored
          (split_around_is s m z g w (m (16 * block_start s z (g / 16))) (largest_permitted s m None (g / 16) z is)
          (stored_within s z (g / 16) k w some stored) (start_gpi s m z (g / 16) is))
      | inr later ↦ rw later refl
    ]

-- after all of them each word is canonical apart from the granule
pub split_whole : (s : SetupData) (m : ℕ → Gpi) (z : Size) (g w : ℕ) → largest_block s m None (g / 16) ≡ Some z
    → canonical_word s m (cond (is_stored s z (g / 16) (words_of s z) w) (Some g) None) w ≡ canonical_word s m (Some g) w
split_whole s m z g w is =
    elim (cases_Bool (is_stored s z (g / 16) (words_of s z) w)) [
      | inl stored ↦ rw stored refl
      | inr outside ↦
          rw outside
          (elsewhere_same s m z g w is (λ within. absurd (let stored = all_stored s z (g / 16) w within in cc)))
    ]

-- the granule's own word after the splitting is one of granules of the GPI that was loaded
pub split_own : (s : SetupData) (m : ℕ → Gpi) (z : Size) (g : ℕ) (gpi : Gpi) → l1_entry (canonical_word s m None (g / 16)) ≡ Some (l1.Contig z gpi)
    → canonical_word s m (Some g) (g / 16) ≡ granules_of gpi
split_own s m z g gpi read =
    own_word s m g
    ∙ packed_of m (g / 16) gpi (λ i low. block_granule s m z (g / 16 / words_of s z) (g / 16) i gpi refl (loaded_says s m z g gpi read).1 low)

-- ---- merging stores

-- after k of them each word is canonical, the stored ones with no granule apart
pub merged_is : (s : SetupData) (m : ℕ → Gpi) (z : Size) (g k w : ℕ) → largest_block s m None (g / 16) ≡ Some z → k ≤ words_of s z
    → merged_at s m z g k w ≡ canonical_word s m (cond (is_stored s z (g / 16) k w) None (Some g)) w
merged_is s m z g k w is some =
    elim (cases_Bool (is_stored s z (g / 16) k w)) [
      | inl stored ↦ rw stored (sym (contiguous_word s m (g / 16) w z is (stored_within s z (g / 16) k w some stored)))
      | inr later ↦ rw later refl
    ]

-- after all of them each word is canonical
pub merged_whole : (s : SetupData) (m : ℕ → Gpi) (z : Size) (g w : ℕ) → largest_block s m None (g / 16) ≡ Some z
    → canonical_word s m (cond (is_stored s z (g / 16) (words_of s z) w) None (Some g)) w ≡ canonical_word s m None w
merged_whole s m z g w is =
    elim (cases_Bool (is_stored s z (g / 16) (words_of s z) w)) [
      | inl stored ↦ rw stored refl
      | inr outside ↦
          rw outside
          (sym (elsewhere_same s m z g w is (λ within. absurd (let stored = all_stored s z (g / 16) w within in cc))))
    ]
