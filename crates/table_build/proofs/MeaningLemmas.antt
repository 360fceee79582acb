-- What built tables mean: the words of each table, the blocks beside the tables, and the blocks within them.
use Rattle.std.proofs.Common.{◌≡◌, ℕ, zero, suc, ◌+◌, ◌-◌, ◌*◌, ◌/◌, ◌%◌, ◌≤◌, ◌<◌, Bool, true, false, not, cond, eqb, ltb, leb, ◌&&◌, List, [], ◌∷◌, ◌++◌, length, get_or, take, Option, Some, None, slice_get, refl, sym, ap, subst, ◌∙◌, add-one, inl, inr, arith, mul_comm}
use Rattle.std.specs.List.{flat_map, find, AllByRecursion}
use Rattle.std.proofs.Math.Nat.{div-div-eq-div-mul, mul-add-div_right}
use Rattle.std.proofs.lemmas.Nat.{mul-le, div-add-mod', div-mul-add, mod-mul-add, mod_below, div_below}
use Rattle.std.proofs.lemmas.Bool.{cases_lt, cases_Bool, ltb-true, leb-true, lt-ltb, le-leb, eqb-true, not-false, and_parts, and_from, or_parts}
use Rattle.std.proofs.lemmas.Option.{cond_some, slice_get-get_or, slice_get_within}
use Rattle.std.proofs.lemmas.List.FromFn.{length-map-range_with_len, get_or-map-range_with_len, take-map-range_with_len}
use Rattle.gpi_values.specs.declared.gpi.Gpi.{Gpi}
use Rattle.gpt_descriptors.specs.declared.size.Size.{Size}
use Rattle.gpt_descriptors.specs.declared.size.Size.TheVariants as size
use Rattle.gpt_descriptors.specs.declared.entry.L1Entry.TheVariants as l1
use Rattle.gpt_descriptors.specs.declared.entry.L0Entry.TheVariants as l0
use Rattle.gpt_descriptors.specs.Sizes.{SetupData, words_of, table_words, granule_bytes, region_bytes, space_granules}
use Rattle.gpt_descriptors.specs.Entries.{l0_entry, l0_word, l1_entry, l1_word}
use Rattle.gpt_descriptors.specs.Canonical.{is_one_block, canonical_with, canonical_word}
use Rattle.gpt_descriptors.specs.Level0.{is_table, table_count, l1_index}
use Rattle.gpt_descriptors.specs.Places.{block_gpi_in}
use Rattle.gpt_descriptors.proofs.SizeLemmas.{granule_low, word_is, table_whole, table_words_low, thirty_two_is, five_twelve_is, table_is}
use Rattle.gpt_descriptors.proofs.CanonicalLemmas.{canonical_choice, five_twelve_around, thirty_two_around, words_some}
use Rattle.gpt_descriptors.proofs.MeaningLemmas.{contiguous_again, packed_entry, canonical_covers}
use Rattle.gpt_descriptors.proofs.EntryLemmas.{l0_again}
use Rattle.region_plan.specs.declared.region.Region.{Region}
use Rattle.region_plan.specs.Regions.{is_in, touches, is_granule_kind, needs_table, tabled_below, tables_below, region_entry, region_l0, region_map, gpi_or_any}
use Rattle.region_plan.specs.Refusals.{is_no_block, refusal}
use Rattle.region_plan.proofs.PlanLemmas.{tabled_none, tables_more, accepted_tables, accepted_blocks}
use Rattle.table_build.specs.Built.{table_of, region_l1, is_bad_base}
use Rattle.table_build.proofs.BuiltLemmas.{tables_rise, entry_good, count_words, length_each, tables_step}

-- ---- an element of two lists in a row

get_left : (xs ys : List ℕ) (i : ℕ) → i < length xs → slice_get (xs ++ ys) i ≡ slice_get xs i
get_left [] ys i lt = absurd (omega arith)
get_left (x ∷ xs) ys zero lt = refl
get_left (x ∷ xs) ys (suc i) lt = get_left xs ys i (omega arith)

get_right : (xs ys : List ℕ) (i j : ℕ) → j ≡ length xs + i → slice_get (xs ++ ys) j ≡ slice_get ys i
get_right [] ys i j e = ap (slice_get ys) (let same : j ≡ i = omega arith in same)
get_right (x ∷ xs) ys i zero e = absurd (omega arith)
get_right (x ∷ xs) ys i (suc j) e = get_right xs ys i j (omega arith)

-- ---- the words of the tables of the gigabytes below n

abbrev tables_to : SetupData → List Region → ℕ → List ℕ
tables_to s regions n = flat_map (table_of s regions) (tabled_below regions n)

table_length : (s : SetupData) (regions : List Region) (q : ℕ) → length (table_of s regions q) ≡ table_words s
table_length s regions q = length-map-range_with_len (canonical_word s (region_map s regions) None) (q * table_words s) (table_words s)

tables_length : (s : SetupData) (regions : List Region) (n : ℕ) → length (tables_to s regions n) ≡ tables_below regions n * table_words s
tables_length s regions n = length_each (table_of s regions) (table_words s) (tabled_below regions n) (table_length s regions)

tables_next : (s : SetupData) (regions : List Region) (n : ℕ) → tables_to s regions (suc n) ≡ tables_to s regions n ++ cond (needs_table regions n) (table_of s regions n) []
tables_next s regions n = ap (tables_to s regions) (sym (add-one n)) ∙ tables_step s regions n

table_word : (s : SetupData) (regions : List Region) (q r : ℕ) → r < table_words s
    → slice_get (table_of s regions q) r ≡ Some (canonical_word s (region_map s regions) None (q * table_words s + r))
table_word s regions q r lt =
    let within : r < length (table_of s regions q) = omega (arith, table_length s regions q) in
    slice_get-get_or (table_of s regions q) r 0 within
    ∙ ap Some (get_or-map-range_with_len (canonical_word s (region_map s regions) None) (q * table_words s) (table_words s) r (q * table_words s + r) 0 lt refl)

-- word r of the table of gigabyte q stands behind the tables below q
word_at : (s : SetupData) (regions : List Region) (q r n : ℕ) → needs_table regions q ≡ true → r < table_words s → q < n
    → slice_get (tables_to s regions n) (tables_below regions q * table_words s + r) ≡ Some (canonical_word s (region_map s regions) None (q * table_words s + r))
word_at s regions q r zero needs lt below = absurd (omega arith)
word_at s regions q r (suc n) needs lt below =
    ap (λ (xs : List ℕ). slice_get xs (tables_below regions q * table_words s + r)) (tables_next s regions n)
    ∙ elim (cases_lt q n) [
      | inl earlier ↦
          let one : tables_below regions (q + 1) ≡ tables_below regions q + 1 = tables_more regions q ∙ ap (λ (b : Bool). tables_below regions q + cond b 1 0) needs in
          let rise : tables_below regions (q + 1) ≤ tables_below regions n = tables_rise regions (q + 1) n (omega arith) in
          let room = mul-le (tables_below regions q + 1) (table_words s) (tables_below regions n) (table_words s) (omega arith) (omega arith) in
          get_left (tables_to s regions n) (cond (needs_table regions n) (table_of s regions n) []) (tables_below regions q * table_words s + r)
          (omega (arith, tables_length s regions n)) ∙ word_at s regions q r n needs lt earlier
      | inr last ↦
          let same : n ≡ q = omega arith in
          get_right (tables_to s regions n) (cond (needs_table regions n) (table_of s regions n) []) r (tables_below regions q * table_words s + r)
          (let from : tables_below regions q ≡ tables_below regions n = ap (tables_below regions) (sym same) in
          ap (λ (k : ℕ). k * table_words s + r) from ∙ ap (λ (k : ℕ). k + r) (sym (tables_length s regions n)))
          ∙ rw (same, needs) (table_word s regions q r lt)
    ]

-- the level 0 word of gigabyte q
l0_at : (s : SetupData) (regions : List Region) (q : ℕ) → q < s.gigabytes → get_or (region_l0 s regions) q 0 ≡ l0_word (region_entry s regions q)
l0_at s regions q lt = get_or-map-range_with_len (λ q. l0_word (region_entry s regions q)) 0 s.gigabytes q q 0 lt (omega arith)

-- it names a table exactly where the gigabyte needs one
table_there : (s : SetupData) (regions : List Region) (q : ℕ) → refusal s regions ≡ None → is_bad_base s regions ≡ false → q < s.gigabytes
    → is_table (get_or (region_l0 s regions) q 0) ≡ needs_table regions q
table_there s regions q accepted good lt = ap is_table (l0_at s regions q lt) ∙ (entry_good s regions q good (accepted_tables s regions accepted) lt).1

-- the gigabyte of a granule
gigabyte_of : (s : SetupData) (g : ℕ) → g < space_granules s → g / 16 / table_words s < s.gigabytes
gigabyte_of s g lt = div_below (g / 16) (table_words s) s.gigabytes (table_words_low s) (omega arith)

pub built_word : (s : SetupData) (regions : List Region) (granule i : ℕ) → refusal s regions ≡ None → is_bad_base s regions ≡ false → granule < space_granules s
    → l1_index s (region_l0 s regions) (granule / 16) ≡ Some i → slice_get (region_l1 s regions) i ≡ Some (canonical_word s (region_map s regions) None (granule / 16))
built_word s regions granule i accepted good lt e =
    let w : ℕ = granule / 16 in
    let q : ℕ = w / table_words s in
    let q_lt : q < s.gigabytes = gigabyte_of s granule lt in
    let parts = cond_some (is_table (get_or (region_l0 s regions) q 0)) (table_count (take q (region_l0 s regions)) * table_words s + w % table_words s) i e in
    let needs : needs_table regions q ≡ true = sym (table_there s regions q accepted good q_lt) ∙ parts.0 in
    let count : table_count (take q (region_l0 s regions)) ≡ tables_below regions q
    = ap table_count (take-map-range_with_len (λ q. l0_word (region_entry s regions q)) 0 s.gigabytes q (omega arith))
    ∙ count_words s regions q good (accepted_tables s regions accepted) (omega arith) in
    let index : tables_below regions q * table_words s + w % table_words s ≡ i = ap (λ (n : ℕ). n * table_words s + w % table_words s) (sym count) ∙ parts.1 in
    ap (slice_get (region_l1 s regions)) (sym index)
    ∙ word_at s regions q (w % table_words s) s.gigabytes needs (mod_below w (table_words s) (table_words_low s)) q_lt
    ∙ ap (λ (n : ℕ). Some (canonical_word s (region_map s regions) None n)) (div-add-mod' w (table_words s))

-- ---- a region has granules of a gigabyte exactly where it touches it

-- g is a granule of gigabyte q, of n granules of k bytes; a region from granule a on has b granules
granule_touches : (n k base size a b g q : ℕ) → a * k ≤ base → base < a * k + k → b * k ≤ size → q * n ≤ g → g < q * n + n
    → a ≤ g → g < a + b → (base < (q + 1) * (n * k)) × (q * (n * k) < base + size)
granule_touches n k base size a b g q from under fits low high in_low in_high =
    let up : (a + 1) * k ≤ (q * n + n) * k = mul-le (a + 1) k (q * n + n) k (omega arith) (omega arith) in
    let down : (q * n + 1) * k ≤ (a + b) * k = mul-le (q * n + 1) k (a + b) k (omega arith) (omega arith) in
    (omega arith, omega arith)

less_times : (a b n : ℕ) → a * n < b * n → a < b
less_times a b n lt = elim (cases_lt a b) [ inl less ↦ less | inr more ↦ absurd (omega (arith, mul-le b n a n more (omega arith))) ]

-- a region of b whole gigabytes from gigabyte a on
touches_granule : (n k a b g q : ℕ) → q * n ≤ g → g < q * n + n → a * (n * k) < (q + 1) * (n * k) → q * (n * k) < a * (n * k) + b * (n * k)
    → (a * n ≤ g) × (g < a * n + b * n)
touches_granule n k a b g q low high before behind =
    let start : a < q + 1 = less_times a (q + 1) (n * k) before in
    let end : q < a + b = less_times q (a + b) (n * k) (omega arith) in
    let up : a * n ≤ q * n = mul-le a n q n (omega arith) (omega arith) in
    let down : (q + 1) * n ≤ (a + b) * n = mul-le (q + 1) n (a + b) n (omega arith) (omega arith) in
    (omega arith, omega arith)

-- the quotient of whole gigabytes
whole_by : (x r n k : ℕ) → n * k ≡ r → 0 < k → x % r ≡ 0 → (x ≡ x / r * (n * k)) × (x / k ≡ x / r * n)
whole_by x r n k is some rest =
    let whole : x ≡ x / r * r = sym (div-add-mod' x r) ∙ (let none : x / r * r + x % r ≡ x / r * r = omega arith in none) in
    let here : x ≡ x / r * (n * k) = whole ∙ ap (λ (m : ℕ). x / r * m) (sym is) in
    let parts : x ≡ x / r * n * k + 0 = here ∙ omega arith in
    (here, ap (λ (m : ℕ). m / k) parts ∙ div-mul-add (x / r * n) k 0 some)

in_touches : (n k r base size g q : ℕ) → n * k ≡ r → 0 < k → q * n ≤ g → g < q * n + n
    → (leb (base / k) g && ltb g (base / k + size / k)) ≡ true → (ltb base ((q + 1) * r) && ltb (q * r) (base + size)) ≡ true
in_touches n k r base size g q is some low high inside =
    let parts = and_parts _ _ inside in
    let base_is : base / k * k + base % k ≡ base = div-add-mod' base k in
    let size_is : size / k * k + size % k ≡ size = div-add-mod' size k in
    let rest : base % k < k = mod_below base k some in
    let both = granule_touches n k base size (base / k) (size / k) g q (omega arith) (omega arith) (omega arith) low high (leb-true _ _ parts.0) (ltb-true _ _ parts.1) in
    subst (λ (m : ℕ). (ltb base ((q + 1) * m) && ltb (q * m) (base + size)) ≡ true) is (and_from _ _ (lt-ltb _ _ both.0) (lt-ltb _ _ both.1))

touches_in : (n k r base size g q : ℕ) → n * k ≡ r → 0 < k → q * n ≤ g → g < q * n + n → base % r ≡ 0 → size % r ≡ 0
    → (ltb base ((q + 1) * r) && ltb (q * r) (base + size)) ≡ true → (leb (base / k) g && ltb g (base / k + size / k)) ≡ true
touches_in n k r base size g q is some low high base_whole size_whole touched =
    let parts = and_parts _ _ touched in
    let start = whole_by base r n k is some base_whole in
    let bytes = whole_by size r n k is some size_whole in
    let before : base < (q + 1) * (n * k) = subst (λ (m : ℕ). base < (q + 1) * m) (sym is) (ltb-true _ _ parts.0) in
    let behind : q * (n * k) < base + size = subst (λ (m : ℕ). q * m < base + size) (sym is) (ltb-true _ _ parts.1) in
    let both = touches_granule n k (base / r) (size / r) g q low high (omega (arith, start.0, before)) (omega (arith, start.0, bytes.0, behind)) in
    let front : base / k ≤ g = omega (arith, start.1, both.0) in
    let end : g < base / k + size / k = omega (arith, start.1, bytes.1, both.1) in
    and_from _ _ (le-leb _ _ front) (lt-ltb _ _ end)

same_answer : (a b : Bool) → (a ≡ true → b ≡ true) → (b ≡ true → a ≡ true) → a ≡ b
same_answer true b there back = sym (there refl)
same_answer false true there back = back refl
same_answer false false there back = refl

-- the granules of a gigabyte
gigabyte_granules : (s : SetupData) → 16 * table_words s * granule_bytes s ≡ region_bytes
gigabyte_granules s =
    let turned : 16 * table_words s * granule_bytes s ≡ table_words s * (16 * granule_bytes s) = omega arith in
    turned ∙ ap (λ (n : ℕ). table_words s * n) (sym (word_is s)) ∙ table_whole s

around : (g n : ℕ) → 0 < n → (g / 16 / n * (16 * n) ≤ g) × (g < g / 16 / n * (16 * n) + 16 * n)
around g n some =
    let same : g / 16 / n ≡ g / (16 * n) = div-div-eq-div-mul g 16 n in
    let whole : g / (16 * n) * (16 * n) + g % (16 * n) ≡ g = div-add-mod' g (16 * n) in
    let rest : g % (16 * n) < 16 * n = mod_below g (16 * n) (omega arith) in
    rw same (omega arith, omega arith)

-- a region that is no misplaced block and brings no table to the gigabyte holds its granules all alike
held_alike : (s : SetupData) (g : ℕ) (r : Region) → is_no_block r ≡ false → (is_granule_kind r.kind && touches (g / 16 / table_words s) r) ≡ false
    → is_in s g r ≡ touches (g / 16 / table_words s) r
held_alike s g r placed beside =
    let bytes : 0 < granule_bytes s = omega (arith, granule_low s) in
    let near = around g (table_words s) (table_words_low s) in
    same_answer (is_in s g r) (touches (g / 16 / table_words s) r)
    (in_touches (16 * table_words s) (granule_bytes s) region_bytes r.base r.size g (g / 16 / table_words s) (gigabyte_granules s) bytes near.0 near.1)
    (λ touched. elim (cases_Bool (is_granule_kind r.kind)) [
      | inl granules ↦ absurd (let both = and_from _ _ granules touched in cc)
      | inr block ↦
          let whole = or_parts (not (eqb (r.base % region_bytes) 0)) (not (eqb (r.size % region_bytes) 0)) (let h = rw block at placed in h) in
          touches_in (16 * table_words s) (granule_bytes s) region_bytes r.base r.size g (g / 16 / table_words s) (gigabyte_granules s) bytes near.0 near.1
          (eqb-true _ _ (not-false _ whole.0)) (eqb-true _ _ (not-false _ whole.1)) touched
    ])

found_alike : (s : SetupData) (g : ℕ) (regions : List Region) → AllByRecursion (λ r. is_no_block r ≡ false) regions
    → needs_table regions (g / 16 / table_words s) ≡ false → find (is_in s g) regions ≡ find (touches (g / 16 / table_words s)) regions
found_alike s g [] placed none = refl
found_alike s g (r ∷ rs) placed none =
    let parts = or_parts _ _ none in
    ap (λ (b : Bool). cond b (Some r) (find (is_in s g) rs)) (held_alike s g r placed.0 parts.0)
    ∙ ap (λ (o : Option Region). cond (touches (g / 16 / table_words s) r) (Some r) o) (found_alike s g rs placed.1 parts.1)

map_there : (s : SetupData) (g : ℕ) (regions : List Region) → refusal s regions ≡ None → needs_table regions (g / 16 / table_words s) ≡ false
    → region_map s regions g ≡ gpi_or_any (find (touches (g / 16 / table_words s)) regions)
unfolding region_map
map_there s g regions accepted none = ap gpi_or_any (found_alike s g regions (accepted_blocks s regions accepted) none)

no_some : {A : Type 0} (b : Bool) (x : A) → cond b (Some x) None ≡ None → b ≡ false
no_some true x e = absurd cc
no_some false x e = refl

pub built_block : (s : SetupData) (regions : List Region) (granule : ℕ) → refusal s regions ≡ None → is_bad_base s regions ≡ false → granule < space_granules s
    → l1_index s (region_l0 s regions) (granule / 16) ≡ None → block_gpi_in (l0_entry (get_or (region_l0 s regions) (granule / 16 / table_words s) 0)) ≡ Some (region_map s regions granule)
built_block s regions granule accepted good lt e =
    let q : ℕ = granule / 16 / table_words s in
    let q_lt : q < s.gigabytes = gigabyte_of s granule lt in
    let none : needs_table regions q ≡ false = sym (table_there s regions q accepted good q_lt) ∙ no_some (is_table (get_or (region_l0 s regions) q 0)) _ e in
    let entry : region_entry s regions q ≡ l0.Block (gpi_or_any (find (touches q) regions)) = rw none refl in
    ap (λ w. block_gpi_in (l0_entry w)) (l0_at s regions q q_lt ∙ ap l0_word entry)
    ∙ ap block_gpi_in (l0_again (l0.Block (gpi_or_any (find (touches q) regions))) tt)
    ∙ ap Some (sym (map_there s granule regions accepted none))

-- ---- a contiguous word fills its block

-- the size of the largest aligned block around a word that may be one entry
abbrev choice : SetupData → (ℕ → Gpi) → ℕ → Option Size
choice s m w =
    cond (is_one_block s m size.FiveTwelve (w / words_of s size.FiveTwelve)) (Some size.FiveTwelve)
    (cond (is_one_block s m size.ThirtyTwo (w / words_of s size.ThirtyTwo)) (Some size.ThirtyTwo)
    (cond (is_one_block s m size.Two (w / words_of s size.Two)) (Some size.Two) None))

largest_stays : (a b c d e : Bool) → cond a (Some size.FiveTwelve) (cond b (Some size.ThirtyTwo) (cond c (Some size.Two) None)) ≡ Some size.FiveTwelve
    → cond a (Some size.FiveTwelve) (cond d (Some size.ThirtyTwo) (cond e (Some size.Two) None)) ≡ Some size.FiveTwelve
largest_stays true b c d e is = refl
largest_stays false true c d e is = absurd cc
largest_stays false false true d e is = absurd cc
largest_stays false false false d e is = absurd cc

larger_stays : (a b c e : Bool) → cond a (Some size.FiveTwelve) (cond b (Some size.ThirtyTwo) (cond c (Some size.Two) None)) ≡ Some size.ThirtyTwo
    → cond a (Some size.FiveTwelve) (cond b (Some size.ThirtyTwo) (cond e (Some size.Two) None)) ≡ Some size.ThirtyTwo
larger_stays true b c e is = absurd cc
larger_stays false true c e is = refl
larger_stays false false true e is = absurd cc
larger_stays false false false e is = absurd cc

-- a size that is chosen is chosen in all of its block
choice_stays : (s : SetupData) (m : ℕ → Gpi) (v w : ℕ) (z : Size) → v / words_of s z ≡ w / words_of s z → choice s m w ≡ Some z → choice s m v ≡ Some z
choice_stays s m v w size.FiveTwelve same is =
    rw same (largest_stays (is_one_block s m size.FiveTwelve (w / words_of s size.FiveTwelve)) (is_one_block s m size.ThirtyTwo (w / words_of s size.ThirtyTwo))
    (is_one_block s m size.Two (w / words_of s size.Two)) (is_one_block s m size.ThirtyTwo (v / words_of s size.ThirtyTwo)) (is_one_block s m size.Two (v / words_of s size.Two)) is)
choice_stays s m v w size.ThirtyTwo same is =
    let largest : v / words_of s size.FiveTwelve ≡ w / words_of s size.FiveTwelve = five_twelve_around s v ∙ ap (λ (n : ℕ). n / 16) same ∙ sym (five_twelve_around s w) in
    rw (largest, same) (larger_stays (is_one_block s m size.FiveTwelve (w / words_of s size.FiveTwelve)) (is_one_block s m size.ThirtyTwo (w / words_of s size.ThirtyTwo))
    (is_one_block s m size.Two (w / words_of s size.Two)) (is_one_block s m size.Two (v / words_of s size.Two)) is)
choice_stays s m v w size.Two same is =
    let larger : v / words_of s size.ThirtyTwo ≡ w / words_of s size.ThirtyTwo = thirty_two_around s v ∙ ap (λ (n : ℕ). n / 16) same ∙ sym (thirty_two_around s w) in
    let largest : v / words_of s size.FiveTwelve ≡ w / words_of s size.FiveTwelve = five_twelve_around s v ∙ ap (λ (n : ℕ). n / 16) larger ∙ sym (five_twelve_around s w) in
    rw (largest, larger, same) is

-- a contiguous word is read as the size that was chosen
size_read : (m : ℕ → Gpi) (w : ℕ) (o : Option Size) (z : Size) (gpi : Gpi) → l1_entry (canonical_with m w o) ≡ Some (l1.Contig z gpi) → o ≡ Some z
size_read m w None z gpi read = absurd (let both = sym (packed_entry m (16 * w)) ∙ read in cc)
size_read m w (Some y) z gpi read = let both = sym (contiguous_again y (m (16 * w))) ∙ read in cc

canonical_fills : (s : SetupData) (m : ℕ → Gpi) (v w : ℕ) (z : Size) (gpi : Gpi) → l1_entry (canonical_word s m None w) ≡ Some (l1.Contig z gpi)
    → v / words_of s z ≡ w / words_of s z → canonical_word s m None v ≡ canonical_word s m None w
canonical_fills s m v w z gpi read same =
    let chosen : choice s m w ≡ Some z = size_read m w (choice s m w) z gpi (ap l1_entry (sym (canonical_choice s m w)) ∙ read) in
    let there : choice s m v ≡ Some z = choice_stays s m v w z same chosen in
    let covers = canonical_covers s m None w (l1.Contig z gpi) read in
    let first : 16 * v / 16 ≡ v = omega arith in
    let second : 16 * w / 16 ≡ w = omega arith in
    let own : m (16 * w) ≡ gpi = covers (16 * w) (ap (λ (n : ℕ). n / words_of s z) second) in
    let other : m (16 * v) ≡ gpi = covers (16 * v) (ap (λ (n : ℕ). n / words_of s z) first ∙ same) in
    canonical_choice s m v ∙ ap (canonical_with m v) there ∙ ap (λ (x : Gpi). l1_word (l1.Contig z x)) (other ∙ sym own)
    ∙ ap (canonical_with m w) (sym chosen) ∙ sym (canonical_choice s m w)

-- ---- where a word of the tables stands

-- the gigabyte whose table has the word at i
record Within (s : SetupData) (regions : List Region) (n i word : ℕ) : Type 0 where
  gigabyte : ℕ
  below : gigabyte < n
  needs : needs_table regions gigabyte ≡ true
  before : tables_below regions gigabyte ≡ i / table_words s
  is : word ≡ canonical_word s (region_map s regions) None (gigabyte * table_words s + i % table_words s)

some_one : (x y : ℕ) → Some x ≡ Some y → x ≡ y
some_one x y e = cc

last_table : (s : SetupData) (regions : List Region) (n r i word : ℕ) (b : Bool) → needs_table regions n ≡ b → i ≡ tables_below regions n * table_words s + r
    → slice_get (cond b (table_of s regions n) []) r ≡ Some word → Within s regions (suc n) i word
last_table s regions n r i word false needs place e = absurd cc
last_table s regions n r i word true needs place e =
    let within : r < table_words s = omega (arith, slice_get_within (table_of s regions n) r word e, table_length s regions n) in
    let row : i / table_words s ≡ tables_below regions n = ap (λ (k : ℕ). k / table_words s) place ∙ div-mul-add (tables_below regions n) (table_words s) r within in
    let column : i % table_words s ≡ r = ap (λ (k : ℕ). k % table_words s) place ∙ mod-mul-add (tables_below regions n) (table_words s) r within in
    record {
      gigabyte = n;
      below = omega arith;
      needs = needs;
      before = sym row;
      is = some_one word _ (sym e ∙ table_word s regions n r within) ∙ ap (λ (k : ℕ). canonical_word s (region_map s regions) None (n * table_words s + k)) (sym column);
    }

table_with : (s : SetupData) (regions : List Region) (n i word : ℕ) → slice_get (tables_to s regions n) i ≡ Some word → Within s regions n i word
table_with s regions zero i word e =
    let none : tables_to s regions 0 ≡ [] = ap (flat_map (table_of s regions)) (tabled_none regions) in
    absurd (let never = sym (ap (λ (xs : List ℕ). slice_get xs i) none) ∙ e in cc)
table_with s regions (suc n) i word e =
    let more = ap (λ (xs : List ℕ). slice_get xs i) (sym (tables_next s regions n)) ∙ e in
    elim (cases_lt i (length (tables_to s regions n))) [
      | inl lt ↦
          let there = table_with s regions n i word (sym (get_left (tables_to s regions n) (cond (needs_table regions n) (table_of s regions n) []) i lt) ∙ more) in
          record { gigabyte = there.gigabyte; below = omega (arith, there.below); needs = there.needs; before = there.before; is = there.is }
      | inr le ↦
          let r : ℕ = i - length (tables_to s regions n) in
          let place : i ≡ length (tables_to s regions n) + r = omega arith in
          last_table s regions n r i word (needs_table regions n) refl (place ∙ ap (λ (k : ℕ). k + r) (tables_length s regions n))
          (sym (get_right (tables_to s regions n) (cond (needs_table regions n) (table_of s regions n) []) r i place) ∙ more)
    ]

-- blocks of every size divide a table
pub table_blocks : (s : SetupData) (z : Size) → (c : ℕ) × (table_words s ≡ c * words_of s z)
table_blocks s size.FiveTwelve = (2, table_is s)
table_blocks s size.ThirtyTwo = (32, omega (arith, table_is s, five_twelve_is s))
table_blocks s size.Two = (512, omega (arith, table_is s, five_twelve_is s, thirty_two_is s))

in_row : (a c n x : ℕ) → 0 < n → (a * (c * n) + x) / n ≡ a * c + x / n
in_row a c n x some = ap (λ (k : ℕ). (k + x) / n) (let turned : a * (c * n) ≡ a * c * n = omega arith in turned) ∙ mul-add-div_right some (a * c) x

-- words of one block of n words stand in one table of c blocks, and in one block of it wherever the table stands
pub one_block : (q c n i j : ℕ) → 0 < n → j / n ≡ i / n → (j / (c * n) ≡ i / (c * n)) × ((q * (c * n) + j % (c * n)) / n ≡ (q * (c * n) + i % (c * n)) / n)
one_block q c n i j some same =
    let turned : c * n ≡ n * c = mul_comm c n in
    let first : j / (c * n) ≡ j / n / c = ap (λ (k : ℕ). j / k) turned ∙ sym (div-div-eq-div-mul j n c) in
    let second : i / (c * n) ≡ i / n / c = ap (λ (k : ℕ). i / k) turned ∙ sym (div-div-eq-div-mul i n c) in
    let table : j / (c * n) ≡ i / (c * n) = first ∙ ap (λ (k : ℕ). k / c) same ∙ sym second in
    let rows : j / (c * n) * c ≡ i / (c * n) * c = ap (λ (k : ℕ). k * c) table in
    let here : j / n ≡ j / (c * n) * c + j % (c * n) / n = ap (λ (k : ℕ). k / n) (sym (div-add-mod' j (c * n))) ∙ in_row (j / (c * n)) c n (j % (c * n)) some in
    let there : i / n ≡ i / (c * n) * c + i % (c * n) / n = ap (λ (k : ℕ). k / n) (sym (div-add-mod' i (c * n))) ∙ in_row (i / (c * n)) c n (i % (c * n)) some in
    let rest : j % (c * n) / n ≡ i % (c * n) / n = omega arith in
    (table, in_row q c n (j % (c * n)) some ∙ ap (λ (k : ℕ). q * c + k) rest ∙ sym (in_row q c n (i % (c * n)) some))

block_in_table : (s : SetupData) (z : Size) (q i j : ℕ) → j / words_of s z ≡ i / words_of s z
    → (j / table_words s ≡ i / table_words s) × ((q * table_words s + j % table_words s) / words_of s z ≡ (q * table_words s + i % table_words s) / words_of s z)
block_in_table s z q i j same =
    let blocks = table_blocks s z in
    subst (λ (t : ℕ). (j / t ≡ i / t) × ((q * t + j % t) / words_of s z ≡ (q * t + i % t) / words_of s z)) (sym blocks.1) (one_block q blocks.0 (words_of s z) i j (words_some s z) same)

pub built_fills : (s : SetupData) (regions : List Region) (i j word : ℕ) (z : Size) (gpi : Gpi) → slice_get (region_l1 s regions) i ≡ Some word → l1_entry word ≡ Some (l1.Contig z gpi)
    → j / words_of s z ≡ i / words_of s z → slice_get (region_l1 s regions) j ≡ Some word
built_fills s regions i j word z gpi e read same =
    let m = region_map s regions in
    let own = table_with s regions s.gigabytes i word e in
    let q : ℕ = own.gigabyte in
    let both = block_in_table s z q i j same in
    let place : tables_below regions q * table_words s + j % table_words s ≡ j
    = ap (λ (k : ℕ). k * table_words s + j % table_words s) (own.before ∙ sym both.0) ∙ div-add-mod' j (table_words s) in
    let fills = canonical_fills s m (q * table_words s + j % table_words s) (q * table_words s + i % table_words s) z gpi (ap l1_entry (sym own.is) ∙ read) both.1 in
    ap (slice_get (region_l1 s regions)) (sym place)
    ∙ word_at s regions q (j % table_words s) s.gigabytes own.needs (mod_below j (table_words s) (table_words_low s)) own.below
    ∙ ap Some (fills ∙ sym own.is)
