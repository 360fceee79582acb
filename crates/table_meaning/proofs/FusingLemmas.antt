-- The steps of merging keep what is known: after each load, by the word that it answered, and after each store.
use Rattle.std.proofs.Common.{◌≡◌, ◌≢◌, ℕ, ◌+◌, ◌-◌, ◌*◌, ◌/◌, ◌%◌, ◌≤◌, ◌<◌, true, Some, None, ◌⊎◌, refl, sym, ap, ◌∙◌, subst, arith, inl, inr, mul_comm}
use Rattle.std.proofs.Math.Nat.{div-div-eq-div-mul}
use Rattle.std.proofs.lemmas.Bool.{cases_Bool, cases_eq, cases_lt, eq-eqb, ne_eqb, lt-ltb, le-ltb}
use Rattle.gpi_values.specs.declared.gpi.Gpi.{Gpi}
use Rattle.gpt_descriptors.specs.declared.size.Size.{Size}
use Rattle.gpt_descriptors.specs.declared.size.Size.TheVariants as size
use Rattle.gpt_descriptors.specs.declared.entry.L1Entry.TheVariants as l1
use Rattle.gpt_descriptors.specs.Sizes.{SetupData, words_of, is_permitted}
use Rattle.gpt_descriptors.specs.Entries.{l1_word}
use Rattle.gpt_descriptors.specs.Fields.{granules_of}
use Rattle.gpt_descriptors.specs.Canonical.{largest_block, canonical_word, BlockIs}
use Rattle.gpt_descriptors.proofs.SizeLemmas.{thirty_two_is, five_twelve_is}
use Rattle.gpt_descriptors.proofs.CanonicalLemmas.{words_some}
use Rattle.gpt_descriptors.proofs.BlockLemmas.{start_low, start_high, from_start, permits_two, permits_thirty_two}
use Rattle.gpt_descriptors.proofs.AroundLemmas.{largest_from}
use Rattle.table_meaning.specs.Merging.{PassesTwo, PassesThirtyTwo, PassesFiveTwelve}
use Rattle.table_meaning.specs.declared.fusing.Fusing.TheVariants.{Testing, Storing}
use Rattle.table_meaning.specs.Fusing.{block_words, loads_of, beside, load_at, needed_word, passed, failed, loaded, stored, begun, ShownBefore, Knows}
use Rattle.table_meaning.proofs.TestLemmas.{two_says, two_passes, thirty_two_says, thirty_two_passes, five_twelve_says, smaller_is, around_from, finds_largest}

-- ---- sizes by the words of 2 MB

pub block_words_is : (s : SetupData) (z : Size) → words_of s z ≡ block_words (words_of s size.Two) z
block_words_is s size.Two = refl
block_words_is s size.ThirtyTwo = thirty_two_is s
block_words_is s size.FiveTwelve = five_twelve_is s ∙ ap (λ (n : ℕ). 16 * n) (thirty_two_is s)

pub loads_some : (s : SetupData) (z : Size) → 0 < loads_of (words_of s size.Two) z
loads_some s size.Two = words_some s size.Two
loads_some s size.ThirtyTwo = omega arith
loads_some s size.FiveTwelve = omega arith

-- ---- fifteen among sixteen

beside_cases : (j k : ℕ) → ((k < j) × (beside j k ≡ k)) ⊎ ((j ≤ k) × (beside j k ≡ k + 1))
beside_cases j k =
    elim (cases_lt k j) [
      | inl below ↦ inl (below, rw (lt-ltb k j below) refl)
      | inr above ↦ inr (above, rw (le-ltb k j above) refl)
    ]

-- the blocks beside block x among the sixteen that hold it
pub row_near : (x k : ℕ) → k < 15 → (x / 16 * 16 + beside (x % 16) k) / 16 ≡ x / 16
row_near x k low = elim (beside_cases (x % 16) k) [ inl (below, is) ↦ omega (arith, low, below, is) | inr (above, is) ↦ omega (arith, low, above, is) ]

pub row_other : (x k : ℕ) → k < 15 → x / 16 * 16 + beside (x % 16) k ≢ x
row_other x k low e = elim (beside_cases (x % 16) k) [ inl (below, is) ↦ omega (arith, low, below, is, e) | inr (above, is) ↦ omega (arith, low, above, is, e) ]

row_hits : (x q : ℕ) → q / 16 ≡ x / 16 → q ≢ x → (k : ℕ) × (k < 15) × (x / 16 * 16 + beside (x % 16) k ≡ q)
row_hits x q near other =
    elim (cases_lt (q % 16) (x % 16)) [
      | inl below ↦ (q % 16, omega (arith, below), rw (lt-ltb (q % 16) (x % 16) below) (omega (arith, near)))
      | inr above ↦
          let apart : x % 16 ≢ q % 16 = λ e. other (omega (arith, near, e)) in
          let later : x % 16 < q % 16 = omega (arith, above, apart) in
          let at : x % 16 ≤ q % 16 - 1 = omega (arith, later) in
          (q % 16 - 1, omega (arith, later), rw (le-ltb (q % 16 - 1) (x % 16) at) (omega (arith, near, later)))
    ]

sixteenth : (x n : ℕ) → x / (16 * n) ≡ x / n / 16
sixteenth x n = ap (λ (k : ℕ). x / k) (mul_comm 16 n) ∙ sym (div-div-eq-div-mul x n 16)

-- ---- the words of a test

pub two_loads : (s : SetupData) (table : ℕ → ℕ) (own : ℕ) (v : Gpi) → ((k : ℕ) → k < words_of s size.Two → table (load_at (words_of s size.Two) own size.Two k) ≡ granules_of v) → PassesTwo s table own v
two_loads s table own v each = λ w near.
    let n : ℕ = words_of s size.Two in
    let low : own / n * n ≤ w = start_low n (own / n) w near in
    let high : w < own / n * n + n = start_high n (own / n) w (words_some s size.Two) near in
    let at : own / n * n + (w - own / n * n) ≡ w = omega (arith, low) in
    subst (λ (k : ℕ). table k ≡ granules_of v) at (each (w - own / n * n) (omega (arith, low, high)))

pub two_load_near : (s : SetupData) (own k : ℕ) → k < words_of s size.Two → load_at (words_of s size.Two) own size.Two k / words_of s size.Two ≡ own / words_of s size.Two
two_load_near s own k low = from_start (words_of s size.Two) (own / words_of s size.Two) (own / words_of s size.Two * words_of s size.Two + k) (omega arith) (omega (arith, low))

-- the block of load k of the test of 32 MB
abbrev pub two_row : SetupData → ℕ → ℕ → ℕ
two_row s own k = own / (16 * words_of s size.Two) * 16 + beside (own / words_of s size.Two % 16) k

pub two_row_is : (s : SetupData) (own k : ℕ) → two_row s own k ≡ own / words_of s size.Two / 16 * 16 + beside (own / words_of s size.Two % 16) k
two_row_is s own k = ap (λ (n : ℕ). n * 16 + beside (own / words_of s size.Two % 16) k) (sixteenth own (words_of s size.Two))

pub thirty_two_row : (s : SetupData) (own : ℕ) → own / words_of s size.Two / 16 ≡ own / words_of s size.ThirtyTwo
thirty_two_row s own = sym (sixteenth own (words_of s size.Two)) ∙ ap (λ (n : ℕ). own / n) (sym (thirty_two_is s))

pub thirty_two_loads : (s : SetupData) (table : ℕ → ℕ) (own : ℕ) (v : Gpi)
    → ((k : ℕ) → k < 15 → table (load_at (words_of s size.Two) own size.ThirtyTwo k) ≡ l1_word (l1.Contig size.Two v)) → PassesThirtyTwo s table own v
thirty_two_loads s table own v each = λ q near other.
    let x : ℕ = own / words_of s size.Two in
    let hit = row_hits x q (near ∙ sym (thirty_two_row s own)) other in
    subst (λ (n : ℕ). table (n * words_of s size.Two) ≡ l1_word (l1.Contig size.Two v)) (two_row_is s own hit.0 ∙ hit.2) (each hit.0 hit.1)

-- the block of load k of the test of 512 MB
abbrev pub big_row : SetupData → ℕ → ℕ → ℕ
big_row s own k = own / (16 * (16 * words_of s size.Two)) * 16 + beside (own / (16 * words_of s size.Two) % 16) k

pub big_row_is : (s : SetupData) (own k : ℕ) → big_row s own k ≡ own / words_of s size.ThirtyTwo / 16 * 16 + beside (own / words_of s size.ThirtyTwo % 16) k
big_row_is s own k =
    ap (λ (n : ℕ). own / (16 * n) * 16 + beside (own / n % 16) k) (sym (thirty_two_is s))
    ∙ ap (λ (n : ℕ). n * 16 + beside (own / words_of s size.ThirtyTwo % 16) k) (sixteenth own (words_of s size.ThirtyTwo))

pub five_twelve_row : (s : SetupData) (own : ℕ) → own / words_of s size.ThirtyTwo / 16 ≡ own / words_of s size.FiveTwelve
five_twelve_row s own = sym (sixteenth own (words_of s size.ThirtyTwo)) ∙ ap (λ (n : ℕ). own / n) (sym (five_twelve_is s))

-- the word of that load
pub big_load : (s : SetupData) (own k : ℕ) → load_at (words_of s size.Two) own size.FiveTwelve k ≡ big_row s own k * words_of s size.ThirtyTwo
big_load s own k = ap (λ (n : ℕ). big_row s own k * n) (sym (thirty_two_is s))

pub five_twelve_loads : (s : SetupData) (table : ℕ → ℕ) (own : ℕ) (v : Gpi)
    → ((k : ℕ) → k < 15 → table (load_at (words_of s size.Two) own size.FiveTwelve k) ≡ l1_word (l1.Contig size.ThirtyTwo v)) → PassesFiveTwelve s table own v
five_twelve_loads s table own v each = λ r near other.
    let x : ℕ = own / words_of s size.ThirtyTwo in
    let hit = row_hits x r (near ∙ sym (five_twelve_row s own)) other in
    subst (λ (n : ℕ). table (n * words_of s size.ThirtyTwo) ≡ l1_word (l1.Contig size.ThirtyTwo v)) (big_row_is s own hit.0 ∙ hit.2)
    (ap table (sym (big_load s own hit.0)) ∙ each hit.0 hit.1)

-- ---- after the last load of a test

passed_two : (s : SetupData) (m : ℕ → Gpi) (g : ℕ) (v : Gpi) → is_permitted s.max size.Two ≡ true → BlockIs s m size.Two (g / 16 / words_of s size.Two) v → Knows s m g v (passed s.max size.Two)
passed_two s m g v permitted is =
    elim (cases_Bool (is_permitted s.max size.ThirtyTwo)) [
      | inl larger ↦ rw larger (larger, omega arith, is, λ j low. absurd (omega (arith, low)))
      | inr refused ↦ rw refused (finds_largest s m g (Some size.Two) (v, permitted, two_passes s m g v is, inl refused), omega arith)
    ]

passed_thirty_two : (s : SetupData) (m : ℕ → Gpi) (g : ℕ) (v : Gpi) → is_permitted s.max size.ThirtyTwo ≡ true → BlockIs s m size.ThirtyTwo (g / 16 / words_of s size.ThirtyTwo) v
    → Knows s m g v (passed s.max size.ThirtyTwo)
passed_thirty_two s m g v permitted is =
    elim (cases_Bool (is_permitted s.max size.FiveTwelve)) [
      | inl larger ↦ rw larger (larger, omega arith, is, λ j low. absurd (omega (arith, low)))
      | inr refused ↦
          rw refused (
            finds_largest s m g (Some size.ThirtyTwo)
                (v, permitted, two_passes s m g v (smaller_is s m (g / 16) v is), thirty_two_passes s m g v (permits_two s.max size.ThirtyTwo permitted) is, inl refused),
            omega arith,
          )
    ]

passed_five_twelve : (s : SetupData) (m : ℕ → Gpi) (g : ℕ) (v : Gpi) → is_permitted s.max size.FiveTwelve ≡ true → BlockIs s m size.FiveTwelve (g / 16 / words_of s size.FiveTwelve) v
    → Knows s m g v (passed s.max size.FiveTwelve)
passed_five_twelve s m g v permitted is = (largest_from s m None (g / 16) size.FiveTwelve (around_from s m (g / 16) size.FiveTwelve v permitted is), omega arith)

all_passed : (s : SetupData) (m : ℕ → Gpi) (g : ℕ) (v : Gpi) (z : Size) → is_permitted s.max z ≡ true → ShownBefore s m g v z
    → ((j : ℕ) → j < loads_of (words_of s size.Two) z → canonical_word s m (Some g) (load_at (words_of s size.Two) (g / 16) z j) ≡ needed_word v z) → Knows s m g v (passed s.max z)
all_passed s m g v size.Two permitted before each =
    passed_two s m g v permitted (two_says s m g v (two_loads s (canonical_word s m (Some g)) (g / 16) v each))
all_passed s m g v size.ThirtyTwo permitted before each =
    passed_thirty_two s m g v permitted (thirty_two_says s m g v before (thirty_two_loads s (canonical_word s m (Some g)) (g / 16) v each))
all_passed s m g v size.FiveTwelve permitted before each =
    passed_five_twelve s m g v permitted (five_twelve_says s m g v before (five_twelve_loads s (canonical_word s m (Some g)) (g / 16) v each))

-- ---- after a load that differs

one_failed : (s : SetupData) (m : ℕ → Gpi) (g : ℕ) (v : Gpi) (z : Size) (k : ℕ) → canonical_word s m (Some g) (g / 16) ≡ granules_of v → is_permitted s.max z ≡ true → ShownBefore s m g v z
    → k < loads_of (words_of s size.Two) z → canonical_word s m (Some g) (load_at (words_of s size.Two) (g / 16) z k) ≢ needed_word v z → Knows s m g v (failed z)
one_failed s m g v size.Two k own permitted before low differs =
    finds_largest s m g None
    (inr (inr (load_at (words_of s size.Two) (g / 16) size.Two k, two_load_near s (g / 16) k low, λ e. differs (e ∙ own))))
one_failed s m g v size.ThirtyTwo k own permitted before low differs =
    let x : ℕ = g / 16 / words_of s size.Two in
    let near : two_row s (g / 16) k / 16 ≡ g / 16 / words_of s size.ThirtyTwo = ap (λ (n : ℕ). n / 16) (two_row_is s (g / 16) k) ∙ row_near x k low ∙ thirty_two_row s (g / 16) in
    let other : two_row s (g / 16) k ≢ x = λ e. row_other x k low (sym (two_row_is s (g / 16) k) ∙ e) in (
      finds_largest s m g (Some size.Two)
          (v, permits_two s.max size.ThirtyTwo permitted, two_passes s m g v before, inr (two_row s (g / 16) k, near, other, differs)),
      omega arith,
    )
one_failed s m g v size.FiveTwelve k own permitted before low differs =
    let x : ℕ = g / 16 / words_of s size.ThirtyTwo in
    let near : big_row s (g / 16) k / 16 ≡ g / 16 / words_of s size.FiveTwelve = ap (λ (n : ℕ). n / 16) (big_row_is s (g / 16) k) ∙ row_near x k low ∙ five_twelve_row s (g / 16) in
    let other : big_row s (g / 16) k ≢ x = λ e. row_other x k low (sym (big_row_is s (g / 16) k) ∙ e) in
    let stops : canonical_word s m (Some g) (big_row s (g / 16) k * words_of s size.ThirtyTwo) ≢ l1_word (l1.Contig size.ThirtyTwo v) =
    λ e. differs (ap (canonical_word s m (Some g)) (big_load s (g / 16) k) ∙ e) in
    let thirty_two = permits_thirty_two s.max permitted in (
      finds_largest s m g (Some size.ThirtyTwo) (
        v,
        thirty_two,
        two_passes s m g v (smaller_is s m (g / 16) v before),
        thirty_two_passes s m g v (permits_two s.max size.ThirtyTwo thirty_two) before,
        inr (big_row s (g / 16) k, near, other, stops),
      ),
      omega arith,
    )

-- ---- the steps

-- A merging load, whatever it answers.
pub load_keeps : (s : SetupData) (m : ℕ → Gpi) (g : ℕ) (v : Gpi) (z : Size) (k word : ℕ) → canonical_word s m (Some g) (g / 16) ≡ granules_of v
    → word ≡ canonical_word s m (Some g) (load_at (words_of s size.Two) (g / 16) z k) → Knows s m g v (Testing z k) → Knows s m g v (loaded (words_of s size.Two) s.max v z k word)
load_keeps s m g v z k word own read (permitted, low, before, each) =
    elim (cases_eq word (needed_word v z)) [
      | inl same ↦
          let here : canonical_word s m (Some g) (load_at (words_of s size.Two) (g / 16) z k) ≡ needed_word v z = sym read ∙ same in
          let next : (j : ℕ) → j < k + 1 → canonical_word s m (Some g) (load_at (words_of s size.Two) (g / 16) z j) ≡ needed_word v z =
          λ j within. elim (cases_eq j k) [
            | inl last ↦ ap (λ (n : ℕ). canonical_word s m (Some g) (load_at (words_of s size.Two) (g / 16) z n)) last ∙ here
            | inr earlier ↦ each j (omega (arith, within, earlier))
          ] in
          elim (cases_eq (k + 1) (loads_of (words_of s size.Two) z)) [
            | inl all ↦
                rw (eq-eqb _ _ same, eq-eqb _ _ all)
                (all_passed s m g v z permitted before (λ j within. next j (subst (λ (n : ℕ). j < n) (sym all) within)))
            | inr more ↦
                rw (eq-eqb _ _ same, ne_eqb _ _ more)
                (permitted, omega (arith, low, more), before, next)
          ]
      | inr other ↦ rw (ne_eqb _ _ other) (one_failed s m g v z k own permitted before low (λ e. other (read ∙ e)))
    ]

-- A merging store.
pub store_keeps : (s : SetupData) (m : ℕ → Gpi) (g : ℕ) (v : Gpi) (z : Size) (k : ℕ) → k < words_of s z → Knows s m g v (Storing z k) → Knows s m g v (stored (words_of s size.Two) z k)
store_keeps s m g v z k low (largest, some) =
    elim (cases_eq (k + 1) (block_words (words_of s size.Two) z)) [
      | inl all ↦ rw (eq-eqb _ _ all) largest
      | inr more ↦ rw (ne_eqb _ _ more) (largest, omega (arith, low))
    ]

-- The start of merging, with the granule's own word.
pub begin_keeps : (s : SetupData) (m : ℕ → Gpi) (g : ℕ) (v : Gpi) → canonical_word s m (Some g) (g / 16) ≡ granules_of v → Knows s m g v (begun s.max (Some v))
begin_keeps s m g v own =
    elim (cases_Bool (is_permitted s.max size.Two)) [
      | inl permitted ↦ rw permitted (permitted, words_some s size.Two, tt, λ j low. absurd (omega (arith, low)))
      | inr refused ↦ rw refused (finds_largest s m g None (inl refused))
    ]

-- A word that isn't that of sixteen granules of one GPI: there is nothing to merge.
pub mixed_keeps : (s : SetupData) (m : ℕ → Gpi) (g : ℕ) → ((v : Gpi) → canonical_word s m (Some g) (g / 16) ≢ granules_of v) → largest_block s m None (g / 16) ≡ None
mixed_keeps s m g mixed = finds_largest s m g None (inr (inl mixed))
