-- The words of a split block, by their numbers in the block and in the protected space.
use Rattle.std.proofs.Common.{◌≡◌, ◌≢◌, ℕ, zero, suc, map, ◌+◌, ◌-◌, ◌*◌, ◌/◌, ◌≤◌, ◌<◌, Bool, true, false, ◌&&◌, cond, eqb, leb, ltb, Some, None, refl, sym, ap, ◌∙◌, subst, arith, inl, inr, mul_assoc}
use Rattle.std.proofs.Math.Nat.{mul-add-div_right}
use Rattle.std.specs.Prelude.{slice_get}
use Rattle.std.specs.List.{range_with_len}
use Rattle.std.proofs.lemmas.Nat.{div-mul-add}
use Rattle.std.proofs.lemmas.Bool.{cases_eq, cases_lt, eq-eqb, ne_eqb, lt-ltb, le-ltb, le-leb, lt-leb}
use Rattle.gpi_values.specs.declared.gpi.Gpi.{Gpi}
use Rattle.gpt_descriptors.specs.declared.size.Size.{Size}
use Rattle.gpt_descriptors.specs.declared.size.Size.TheVariants as size
use Rattle.gpt_descriptors.specs.declared.entry.L1Entry.{L1Entry}
use Rattle.gpt_descriptors.specs.declared.entry.L1Entry.TheVariants as l1
use Rattle.gpt_descriptors.specs.Sizes.{SetupData, words_of}
use Rattle.gpt_descriptors.specs.Entries.{l1_word, l1_entry, word_gpi}
use Rattle.gpt_descriptors.specs.Fields.{granules_of}
use Rattle.gpt_descriptors.specs.Canonical.{is_one_block, largest_block, canonical_word, CoversEqual}
use Rattle.gpt_descriptors.proofs.SizeLemmas.{thirty_two_is, five_twelve_is}
use Rattle.gpt_descriptors.proofs.CanonicalLemmas.{words_some}
use Rattle.gpt_descriptors.proofs.MeaningLemmas.{canonical_meaning, canonical_covers}
use Rattle.gpt_descriptors.proofs.BlockLemmas.{start_low, start_high, from_start, first_granule, wider, permitted_of, block_is_from}
use Rattle.shared_words.specs.declared.act.Act.{Act}
use Rattle.table_meaning.specs.Splitting.{split_around}
use Rattle.table_meaning.proofs.ChangeLemmas.{elsewhere_same}
use Rattle.table_meaning.proofs.SplitLemmas.{split_around_is}
use Rattle.shatter.specs.Splitting.{SplittingData, split_word, store_of, splitting_stores, next_store}

-- a word of the block of another one, by the block's start
pub in_block : (j start n own : ℕ) → 0 < n → start ≡ own / n * n → leb start j && ltb (j - start) n ≡ eqb (j / n) (own / n)
in_block j start n own some at =
    elim (cases_eq (j / n) (own / n)) [
      | inl same ↦
          let low : start ≤ j = subst (λ (k : ℕ). k ≤ j) (sym at) (start_low n (own / n) j same) in
          let high : j < start + n = subst (λ (k : ℕ). j < k + n) (sym at) (start_high n (own / n) j some same) in
          rw (le-leb start j low, lt-ltb (j - start) n (omega (arith, low, high)), eq-eqb _ _ same) refl
      | inr other ↦ elim (cases_lt j start) [
        | inl below ↦ rw (lt-leb start j below, ne_eqb _ _ other) refl
        | inr above ↦ elim (cases_lt (j - start) n) [
          | inl inside ↦
              absurd (other (from_start n (own / n) j (subst (λ (k : ℕ). k ≤ j) at above) (subst (λ (k : ℕ). j < k + n) at (omega (arith, above, inside)))))
          | inr beyond ↦ rw (le-leb start j above, le-ltb (j - start) n beyond, ne_eqb _ _ other) refl
        ]
      ]
    ]

pub block_above : (j start n own : ℕ) → 0 < n → start ≤ j → start ≡ own / n * n → ltb (j - start) n ≡ eqb (j / n) (own / n)
block_above j start n own some above at = ap (λ (b : Bool). b && ltb (j - start) n) (sym (le-leb start j above)) ∙ in_block j start n own some at

-- ---- tests in the block and in the space

-- two numbers with the same added
eqb_added : (a p q : ℕ) → eqb (a + p) (a + q) ≡ eqb p q
eqb_added a p q =
    elim (cases_eq p q) [
      | inl same ↦ rw (eq-eqb _ _ same, eq-eqb (a + p) (a + q) (omega (arith, same))) refl
      | inr other ↦ rw (ne_eqb _ _ other, ne_eqb (a + p) (a + q) (λ e. other (omega (arith, e)))) refl
    ]

row_of : (n c b x : ℕ) → 0 < n → (b * (c * n) + x) / n ≡ b * c + x / n
row_of n c b x some = ap (λ (k : ℕ). (k + x) / n) (sym (mul_assoc b c n)) ∙ mul-add-div_right some (b * c) x

-- words of one block of c rows of n words
rows_alike : (n c b p q : ℕ) → 0 < n → eqb (p / n) (q / n) ≡ eqb ((b * (c * n) + p) / n) ((b * (c * n) + q) / n)
rows_alike n c b p q some = rw (row_of n c b p some, row_of n c b q some) (sym (eqb_added (b * c) (p / n) (q / n)))

-- a block of any size has whole blocks of 2 MB
two_rows : (s : SetupData) (z : Size) → (c : ℕ) × (words_of s z ≡ c * words_of s size.Two)
two_rows s size.Two = (1, omega arith)
two_rows s size.ThirtyTwo = (16, thirty_two_is s)
two_rows s size.FiveTwelve = (256, omega (arith, five_twelve_is s, thirty_two_is s))

two_test : (s : SetupData) (z : Size) (b p q : ℕ)
    → eqb (p / words_of s size.Two) (q / words_of s size.Two) ≡ eqb ((b * words_of s z + p) / words_of s size.Two) ((b * words_of s z + q) / words_of s size.Two)
two_test s z b p q =
    let rows = two_rows s z in
    let n : ℕ = words_of s size.Two in
    subst (λ (k : ℕ). eqb (p / n) (q / n) ≡ eqb ((b * k + p) / n) ((b * k + q) / n)) (sym rows.1) (rows_alike n rows.0 b p q (words_some s size.Two))

small_row : (n x : ℕ) → x < n → x / n ≡ 0
small_row n x low = from_start n 0 x (omega arith) (omega (arith, low))

block_row : (s : SetupData) (z : Size) (b x : ℕ) → x < words_of s z → (b * words_of s z + x) / words_of s z ≡ b
block_row s z b x low = div-mul-add b (words_of s z) x low

thirty_two_test : (s : SetupData) (z : Size) (b p q : ℕ) → p < words_of s z → q < words_of s z
    → eqb (p / words_of s size.ThirtyTwo) (q / words_of s size.ThirtyTwo) ≡ eqb ((b * words_of s z + p) / words_of s size.ThirtyTwo) ((b * words_of s z + q) / words_of s size.ThirtyTwo)
thirty_two_test s size.Two b p q p_in q_in =
    let near : (b * words_of s size.Two + p) / words_of s size.ThirtyTwo ≡ (b * words_of s size.Two + q) / words_of s size.ThirtyTwo =
    wider s (b * words_of s size.Two + p) (b * words_of s size.Two + q) (block_row s size.Two b p p_in ∙ sym (block_row s size.Two b q q_in)) in
    let first : p / words_of s size.ThirtyTwo ≡ 0 = small_row (words_of s size.ThirtyTwo) p (omega (arith, p_in, thirty_two_is s)) in
    let other : q / words_of s size.ThirtyTwo ≡ 0 = small_row (words_of s size.ThirtyTwo) q (omega (arith, q_in, thirty_two_is s)) in
    eq-eqb _ _ (first ∙ sym other) ∙ sym (eq-eqb _ _ near)
thirty_two_test s size.ThirtyTwo b p q p_in q_in =
    eq-eqb _ _ (small_row (words_of s size.ThirtyTwo) p p_in ∙ sym (small_row (words_of s size.ThirtyTwo) q q_in))
    ∙ sym (eq-eqb _ _ (block_row s size.ThirtyTwo b p p_in ∙ sym (block_row s size.ThirtyTwo b q q_in)))
thirty_two_test s size.FiveTwelve b p q p_in q_in =
    let n : ℕ = words_of s size.ThirtyTwo in
    subst (λ (k : ℕ). eqb (p / n) (q / n) ≡ eqb ((b * k + p) / n) ((b * k + q) / n)) (sym (five_twelve_is s)) (rows_alike n 16 b p q (words_some s size.ThirtyTwo))

-- the word by two tests
by_tests : (a b : Bool) (x y z : L1Entry) → l1_word (cond a x (cond b y z)) ≡ cond a (l1_word x) (cond b (l1_word y) (l1_word z))
by_tests true b x y z = refl
by_tests false true x y z = refl
by_tests false false x y z = refl

-- the stored word, by the numbers in the space
pub split_word_is : (s : SetupData) (z : Size) (b own j : ℕ) (gpi : Gpi) → own < words_of s z → j < words_of s z
    → split_word (words_of s size.Two) own gpi j ≡ split_around s (b * words_of s z + own) gpi (b * words_of s z + j)
split_word_is s z b own j gpi own_in j_in =
    let larger : eqb (j / (16 * words_of s size.Two)) (own / (16 * words_of s size.Two))
    ≡ eqb ((b * words_of s z + j) / words_of s size.ThirtyTwo) ((b * words_of s z + own) / words_of s size.ThirtyTwo) =
    ap (λ (n : ℕ). eqb (j / n) (own / n)) (sym (thirty_two_is s)) ∙ thirty_two_test s z b j own j_in own_in in
    let w : ℕ = b * words_of s z + j in
    let v : ℕ = b * words_of s z + own in
    rw (two_test s z b j own, larger)
    (by_tests (eqb (w / words_of s size.Two) (v / words_of s size.Two)) (eqb (w / words_of s size.ThirtyTwo) (v / words_of s size.ThirtyTwo))
    (l1.Granules (granules_of gpi)) (l1.Contig size.Two gpi) (l1.Contig size.ThirtyTwo gpi))

-- ---- the law

pub split_is_canonical : (s : SetupData) (m : ℕ → Gpi) (z : Size) (b own j granule : ℕ) → is_one_block s m z b ≡ true → own < words_of s z → j < words_of s z → granule / 16 ≡ b * words_of s z + own
    → split_word (words_of s size.Two) own (m (16 * (b * words_of s z))) j ≡ canonical_word s m (Some granule) (b * words_of s z + j)
split_is_canonical s m z b own j granule one own_in j_in at =
    let w : ℕ = b * words_of s z + j in
    let block : granule / 16 / words_of s z ≡ b = ap (λ (n : ℕ). n / words_of s z) at ∙ block_row s z b own own_in in
    split_word_is s z b own j (m (16 * (b * words_of s z))) own_in j_in
    ∙ ap (λ (n : ℕ). split_around s n (m (16 * (b * words_of s z))) w) (sym at)
    ∙ split_around_is s m z granule w (m (16 * (b * words_of s z))) (permitted_of s m z b one) (block_row s z b j j_in ∙ sym block)
    (λ k inside. block_is_from s m z b one k (inside ∙ block))

pub split_means : (s : SetupData) (m : ℕ → Gpi) (z : Size) (b own j i : ℕ) → is_one_block s m z b ≡ true → own < words_of s z → j < words_of s z → i < 16
    → word_gpi (split_word (words_of s size.Two) own (m (16 * (b * words_of s z))) j) i ≡ Some (m (16 * (b * words_of s z + j) + i))
split_means s m z b own j i one own_in j_in i_in =
    let granule : ℕ = 16 * (b * words_of s z + own) in
    ap (λ (word : ℕ). word_gpi word i) (split_is_canonical s m z b own j granule one own_in j_in (first_granule (b * words_of s z + own)))
    ∙ canonical_meaning s m (Some granule) (b * words_of s z + j) i i_in

pub split_covers : (s : SetupData) (m : ℕ → Gpi) (z : Size) (b own j : ℕ) (e : L1Entry) → is_one_block s m z b ≡ true → own < words_of s z → j < words_of s z
    → l1_entry (split_word (words_of s size.Two) own (m (16 * (b * words_of s z))) j) ≡ Some e → CoversEqual s m (b * words_of s z + j) e
split_covers s m z b own j e one own_in j_in read =
    let granule : ℕ = 16 * (b * words_of s z + own) in
    canonical_covers s m (Some granule) (b * words_of s z + j) e
    (ap l1_entry (sym (split_is_canonical s m z b own j granule one own_in j_in (first_granule (b * words_of s z + own)))) ∙ read)

pub split_elsewhere : (s : SetupData) (m : ℕ → Gpi) (z : Size) (granule w : ℕ) → largest_block s m None (granule / 16) ≡ Some z → w / words_of s z ≢ granule / 16 / words_of s z
    → canonical_word s m (Some granule) w ≡ canonical_word s m None w
split_elsewhere s m z granule w is away = sym (elsewhere_same s m z granule w is away)

-- ---- the order of the stores

ltb_suc : (k n : ℕ) → ltb k n ≡ ltb (suc k) (suc n)
ltb_suc k n =
    elim (cases_lt k n) [
      | inl low ↦ lt-ltb k n low ∙ sym (lt-ltb (suc k) (suc n) (omega (arith, low)))
      | inr high ↦ le-ltb k n high ∙ sym (le-ltb (suc k) (suc n) (omega (arith, high)))
    ]

mapped_at : (f : ℕ → Act) (a n k : ℕ) → slice_get (map f (range_with_len a n)) k ≡ cond (ltb k n) (Some (f (a + k))) None
mapped_at f a zero k = rw (le-ltb k 0 (omega arith)) refl
mapped_at f a (suc n) zero = rw (lt-ltb 0 (suc n) (omega arith)) (ap (λ (j : ℕ). Some (f j)) (let same : a ≡ a + 0 = omega arith in same))
mapped_at f a (suc n) (suc k) =
    mapped_at f (a + 1) n k ∙ ap (λ (j : ℕ). cond (ltb k n) (Some (f j)) None) (let same : a + 1 + k ≡ a + suc k = omega arith in same)
    ∙ ap (λ (b : Bool). cond b (Some (f (a + suc k))) None) (ltb_suc k n)

pub next_in_order : (d : SplittingData) → next_store d ≡ slice_get (splitting_stores d) d.made
next_in_order d =
    ap (λ (j : ℕ). cond (ltb d.made d.words) (Some (store_of d j)) None) (let same : d.made ≡ 0 + d.made = omega arith in same)
    ∙ sym (mapped_at (store_of d) 0 d.words d.made)
