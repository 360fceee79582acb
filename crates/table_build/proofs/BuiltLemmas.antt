-- The tables of a plan whose base is good.
use Rattle.std.proofs.Common.{◌≡◌, ℕ, zero, suc, ◌+◌, ◌*◌, ◌/◌, ◌%◌, ◌^◌, ◌≤◌, ◌<◌, Bool, true, false, not, cond, eqb, ltb, List, [], ◌∷◌, ◌++◌, length, map, None, refl, sym, ap, subst, ◌∙◌, add-one, inl, inr, arith, length-append}
use Rattle.std.specs.List.{flat_map, range_with_len, find}
use Rattle.std.proofs.lemmas.List.{append-nil}
use Rattle.std.proofs.lemmas.List.Sums.{sum_by-append}
use Rattle.std.proofs.lemmas.List.FromFn.{length-map-range_with_len, map-range_with_len_more}
use Rattle.std.proofs.Math.Nat.{add-mul-mod_self_right, div-add-mod'}
use Rattle.std.proofs.lemmas.Bool.{cases_lt, cases_Bool, eqb-true, eq-eqb, ltb-false, lt-ltb, le-leb, not-false, and_from, or_parts}
use Rattle.std.proofs.lemmas.Nat.{mul-le}
use Rattle.std.proofs.lemmas.List.Concat.{flat_map-append}
use Rattle.gpt_descriptors.specs.Sizes.{SetupData, table_words, table_bytes}
use Rattle.gpt_descriptors.specs.Level0.{is_table, is_entry_good, are_entries_good, is_l0_good, table_count}
use Rattle.gpt_descriptors.specs.Entries.{l0_entry, l0_word}
use Rattle.gpt_descriptors.specs.Canonical.{canonical_word}
use Rattle.gpt_descriptors.specs.declared.entry.L0Entry.TheVariants as l0
use Rattle.gpt_descriptors.proofs.SizeLemmas.{table_pages, table_bytes_low}
use Rattle.gpt_descriptors.proofs.EntryLemmas.{l0_again}
use Rattle.region_plan.specs.declared.region.Region.{Region}
use Rattle.region_plan.specs.Regions.{needs_table, tabled_below, tables_below, tables_needed, region_entry, region_l0, gpi_or_any, touches, region_map}
use Rattle.region_plan.proofs.PlanLemmas.{tabled_more, tables_more, tabled_none, accepted_tables}
use Rattle.region_plan.specs.Refusals.{refusal}
use Rattle.table_build.specs.TableData.{AreTables}
use Rattle.table_build.specs.Built.{table_of, region_l1, tables_of, is_bad_base}

-- ---- counting tables

one_more : (regions : List Region) (b : ℕ) → tables_below regions b ≤ tables_below regions (suc b)
one_more regions b = subst (λ (n : ℕ). tables_below regions b ≤ tables_below regions n) (add-one b) (omega (arith, tables_more regions b))

pub tables_rise : (regions : List Region) (a b : ℕ) → a ≤ b → tables_below regions a ≤ tables_below regions b
tables_rise regions a zero le = let same : a ≡ 0 = omega arith in rw same (omega arith)
tables_rise regions a (suc b) le =
    elim (cases_lt b a) [
      | inl top ↦ let same : a ≡ suc b = omega arith in rw same (omega arith)
      | inr below ↦ omega (arith, tables_rise regions a b below, one_more regions b)
    ]

-- ---- what a good base says

pub base_aligned : (s : SetupData) (regions : List Region) → is_bad_base s regions ≡ false → s.base % table_bytes s ≡ 0
unfolding is_bad_base
base_aligned s regions e = eqb-true (s.base % table_bytes s) 0 (not-false _ (or_parts (not (eqb (s.base % table_bytes s) 0)) (ltb (2 ^ 52) (s.base + tables_needed s regions * table_bytes s)) e).0)

pub base_room : (s : SetupData) (regions : List Region) → is_bad_base s regions ≡ false → s.base + tables_needed s regions * table_bytes s ≤ 2 ^ 52
unfolding is_bad_base
base_room s regions e = ltb-false (2 ^ 52) (s.base + tables_needed s regions * table_bytes s) (or_parts (not (eqb (s.base % table_bytes s) 0)) (ltb (2 ^ 52) (s.base + tables_needed s regions * table_bytes s)) e).1

-- a table that a gigabyte needs has room
pub table_counts : (s : SetupData) (regions : List Region) (q : ℕ) → q < s.gigabytes → needs_table regions q ≡ true → tables_below regions q + 1 ≤ tables_needed s regions
table_counts s regions q lt needs =
    let more : tables_below regions (q + 1) ≡ tables_below regions q + 1 = tables_more regions q ∙ ap (λ (b : Bool). tables_below regions q + cond b 1 0) needs in
    omega (arith, more, tables_rise regions (q + 1) s.gigabytes (omega arith))

pub table_room : (s : SetupData) (regions : List Region) (q : ℕ) → is_bad_base s regions ≡ false → q < s.gigabytes → needs_table regions q ≡ true
    → s.base + tables_below regions q * table_bytes s + table_bytes s ≤ 2 ^ 52
table_room s regions q good lt needs =
    omega (arith, base_room s regions good, mul-le (tables_below regions q + 1) (table_bytes s) (tables_needed s regions) (table_bytes s) (table_counts s regions q lt needs) (omega arith))

-- and stands at a multiple of its bytes, so of 4 KB
pub table_aligned : (s : SetupData) (regions : List Region) (k : ℕ) → is_bad_base s regions ≡ false → (s.base + k * table_bytes s) % table_bytes s ≡ 0
table_aligned s regions k good = add-mul-mod_self_right s.base k (table_bytes s) ∙ base_aligned s regions good

pages : (a n p : ℕ) → n ≡ 4096 * p → a % n ≡ 0 → a % 4096 ≡ 0
pages a n p is e =
    let whole : a ≡ 4096 * (a / n * p) = sym (div-add-mod' a n) ∙ rw e (ap (λ (m : ℕ). a / n * m + 0) is ∙ omega arith) in
    omega arith

pub table_page : (s : SetupData) (regions : List Region) (k : ℕ) → is_bad_base s regions ≡ false → (s.base + k * table_bytes s) % 4096 ≡ 0
table_page s regions k good = pages (s.base + k * table_bytes s) (table_bytes s) (table_pages s).0 (table_pages s).1 (table_aligned s regions k good)

-- ---- the level 0 words are good

pub entry_good : (s : SetupData) (regions : List Region) (q : ℕ) → is_bad_base s regions ≡ false → tables_needed s regions ≤ s.tables → q < s.gigabytes
    → (is_entry_good s (tables_below regions q) (l0_entry (l0_word (region_entry s regions q))) ≡ true) × (is_table (l0_word (region_entry s regions q)) ≡ needs_table regions q)
entry_good s regions q good few lt =
    elim (cases_Bool (needs_table regions q)) [
      | inl needs ↦
          let room = table_room s regions q good lt needs in
          let page = table_page s regions (tables_below regions q) good in
          let bytes = table_bytes_low s in
          let entry : region_entry s regions q ≡ l0.Table (s.base + tables_below regions q * table_bytes s) = rw needs refl in
          let again = l0_again (l0.Table (s.base + tables_below regions q * table_bytes s)) (page, omega arith) in
          rw (entry, again, needs) (
            and_from _ _ (and_from _ _ (and_from _ _ (lt-ltb (tables_below regions q) s.tables (omega (arith, table_counts s regions q lt needs, few))) (eq-eqb _ _ refl))
                (eq-eqb _ _ (table_aligned s regions (tables_below regions q) good))) (le-leb _ _ room),
            refl,
          )
      | inr none ↦
          let gpi = gpi_or_any (find (touches q) regions) in
          let entry : region_entry s regions q ≡ l0.Block gpi = rw none refl in
          rw (entry, l0_again (l0.Block gpi) tt, none) (refl, refl)
    ]

cond_count : (b : Bool) (k : ℕ) → cond b (k + 1) k ≡ k + cond b 1 0
cond_count true k = refl
cond_count false k = omega arith

-- the words of n gigabytes from a on
abbrev words_from : SetupData → List Region → ℕ → ℕ → List ℕ
words_from s regions a n = map (λ q. l0_word (region_entry s regions q)) (range_with_len a n)

entries_good : (s : SetupData) (regions : List Region) (a n : ℕ) → is_bad_base s regions ≡ false → tables_needed s regions ≤ s.tables → a + n ≤ s.gigabytes
    → are_entries_good s (tables_below regions a) (words_from s regions a n) ≡ true
entries_good s regions a zero good few le = refl
entries_good s regions a (suc n) good few le =
    let first = entry_good s regions a good few (omega arith) in
    let next : cond (is_table (l0_word (region_entry s regions a))) (tables_below regions a + 1) (tables_below regions a) ≡ tables_below regions (a + 1)
    = ap (λ (b : Bool). cond b (tables_below regions a + 1) (tables_below regions a)) first.1 ∙ cond_count (needs_table regions a) (tables_below regions a) ∙ sym (tables_more regions a) in
    let later = entries_good s regions (a + 1) n good few (omega arith) in
    and_from _ _ first.0 (subst (λ (k : ℕ). are_entries_good s k (words_from s regions (a + 1) n) ≡ true) (sym next) later)

pub l0_is_good : (s : SetupData) (regions : List Region) → is_bad_base s regions ≡ false → tables_needed s regions ≤ s.tables → is_l0_good s (region_l0 s regions) ≡ true
l0_is_good s regions good few =
    and_from _ _ (eq-eqb _ _ (length-map-range_with_len (λ q. l0_word (region_entry s regions q)) 0 s.gigabytes))
    (subst (λ (k : ℕ). are_entries_good s k (region_l0 s regions) ≡ true) (ap length (tabled_none regions)) (entries_good s regions 0 s.gigabytes good few (omega arith)))

-- ---- as many tables as gigabytes that need one

pub count_words : (s : SetupData) (regions : List Region) (n : ℕ) → is_bad_base s regions ≡ false → tables_needed s regions ≤ s.tables → n ≤ s.gigabytes
    → table_count (words_from s regions 0 n) ≡ tables_below regions n
count_words s regions zero good few le = sym (ap length (tabled_none regions))
count_words s regions (suc n) good few le =
    let f = λ (q : ℕ). l0_word (region_entry s regions q) in
    let more : words_from s regions 0 (suc n) ≡ words_from s regions 0 n ++ f n ∷ [] = ap (λ (k : ℕ). words_from s regions 0 k) (sym (add-one n)) ∙ map-range_with_len_more f 0 n n (omega arith) in
    let last = (entry_good s regions n good few (omega arith)).1 in
    let so_far = count_words s regions n good few (omega arith) in
    let below : tables_below regions (suc n) ≡ tables_below regions n + cond (needs_table regions n) 1 0 = ap (tables_below regions) (sym (add-one n)) ∙ tables_more regions n in
    ap table_count more ∙ sum_by-append (λ w. cond (is_table w) 1 0) (words_from s regions 0 n) (f n ∷ [])
    ∙ (let one = ap (λ (b : Bool). cond {A = ℕ} b 1 0) last in omega (arith, so_far, below, one))

pub l0_tables : (s : SetupData) (regions : List Region) → is_bad_base s regions ≡ false → tables_needed s regions ≤ s.tables → table_count (region_l0 s regions) ≡ tables_needed s regions
l0_tables s regions good few = count_words s regions s.gigabytes good few (omega arith)

-- ---- the words of the tables

pub length_each : (f : ℕ → List ℕ) (k : ℕ) (xs : List ℕ) → ((x : ℕ) → length (f x) ≡ k) → length (flat_map f xs) ≡ length xs * k
length_each f k [] each = omega arith
length_each f k (x ∷ xs) each = length-append (f x) (flat_map f xs) ∙ rw (each x, length_each f k xs each) (omega arith)

pub l1_words : (s : SetupData) (regions : List Region) → length (region_l1 s regions) ≡ tables_needed s regions * table_words s
l1_words s regions = length_each (table_of s regions) (table_words s) (tabled_below regions s.gigabytes)
    (λ q. length-map-range_with_len (canonical_word s (region_map s regions) None) (q * table_words s) (table_words s))

one_table : (s : SetupData) (regions : List Region) (q : ℕ) (b : Bool) → flat_map (table_of s regions) (cond b (q ∷ []) []) ≡ cond b (table_of s regions q) []
one_table s regions q true = append-nil (table_of s regions q)
one_table s regions q false = refl

-- one gigabyte more
pub tables_step : (s : SetupData) (regions : List Region) (q : ℕ)
    → flat_map (table_of s regions) (tabled_below regions (q + 1)) ≡ flat_map (table_of s regions) (tabled_below regions q) ++ cond (needs_table regions q) (table_of s regions q) []
tables_step s regions q =
    ap (flat_map (table_of s regions)) (tabled_more regions q) ∙ flat_map-append (table_of s regions) (tabled_below regions q) (cond (needs_table regions q) (q ∷ []) [])
    ∙ ap (λ (xs : List ℕ). flat_map (table_of s regions) (tabled_below regions q) ++ xs) (one_table s regions q (needs_table regions q))

-- the built tables fit each other
pub tables_fit : (s : SetupData) (regions : List Region) → is_bad_base s regions ≡ false → refusal s regions ≡ None → AreTables (tables_of s regions)
tables_fit s regions good accepted = record {
  good = l0_is_good s regions good (accepted_tables s regions accepted);
  words = l1_words s regions ∙ ap (λ (n : ℕ). n * table_words s) (sym (l0_tables s regions good (accepted_tables s regions accepted)));
}
