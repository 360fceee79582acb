-- The lines of the shared words, part by part.
use Rattle.std.proofs.Common.{◌≡◌, ℕ, zero, suc, ◌+◌, ◌*◌, ◌/◌, ◌%◌, ◌<◌, ◌≤◌, Bool, true, false, cond, List, [], ◌∷◌, ◌++◌, length, get_or, take, Option, Some, None, refl, sym, ap, subst, ◌∙◌, append_assoc, add-zero, zero-add, mul_comm, arith}
use Rattle.std.specs.Prelude.{if◌then◌else◌, codes, slice_index}
use Rattle.std.specs.List.{flat_map, range_with_len}
use Rattle.std.specs.Option.{option_map}
use Rattle.std.proofs.lemmas.List.{append-nil}
use Rattle.std.proofs.lemmas.List.Concat.{flat_map-append}
use Rattle.std.proofs.Math.Nat.{div-div-eq-div-mul, mul_assoc, add-mul}
use Rattle.std.proofs.lemmas.Nat.{div-mul-add, mod-mul-add}
use Rattle.std.proofs.lemmas.Nat.Bits.{bit_at-zero}
use Rattle.gpi_values.specs.declared.gpi.Space.{Space}
use Rattle.gpi_values.specs.declared.gpi.Space.TheVariants as space
use Rattle.gpi_values.specs.Names.{space_name_of}
use Rattle.gpt_descriptors.specs.declared.size.Size.{Size}
use Rattle.gpt_descriptors.specs.declared.size.Size.TheVariants as size
use Rattle.gpt_descriptors.specs.Sizes.{SetupData, granule_bytes, word_bytes, table_words, region_bytes}
use Rattle.gpt_descriptors.specs.Level0.{is_table, table_count, l1_index}
use Rattle.gpt_descriptors.specs.Places.{GeometryData, IsGeometry, Generation, Line, place_of, word_count, l0_words, blocks_in_region, l1_index_of, line_place_of}
use Rattle.gpt_descriptors.proofs.SizeLemmas.{word_is, table_whole, table_words_low, word_bytes_low, granule_low}
use Rattle.gpt_descriptors.proofs.PlaceLemmas.{index_within, place_below}
use Rattle.alias_clean.specs.Lines.{bit_of, line_at}
use Rattle.line_text.specs.Lines.{address}
use Rattle.report_text.specs.TablesText.{line}
use Rattle.report_text.specs.RunText.{held_line, held_text, tables_part_text, generations_text, generation_line, lines_text, state_text, granule_lines}
use Rattle.report_text.specs.RunParts.{changed_line, set_line, set_lines, word_lines, granules_text, held_upto, generations_upto}

-- ---- texts of numbers in a row

range_append : (a n m : ℕ) → range_with_len a (n + m) ≡ range_with_len a n ++ range_with_len (a + n) m
range_append a zero m =
    let first : 0 + m ≡ m = omega arith in
    let later : a + 0 ≡ a = omega arith in
    rw (first, later) refl
range_append a (suc n) m =
    let first : suc n + m ≡ suc (n + m) = omega arith in
    let later : a + suc n ≡ a + 1 + n = omega arith in
    rw (first, later) (ap (λ (ks : List ℕ). a ∷ ks) (range_append (a + 1) n m))

flat_more : (f : ℕ → List ℕ) (a n m : ℕ) → flat_map f (range_with_len a (n + m)) ≡ flat_map f (range_with_len a n) ++ flat_map f (range_with_len (a + n) m)
flat_more f a n m = ap (flat_map f) (range_append a n m) ∙ flat_map-append f (range_with_len a n) (range_with_len (a + n) m)

pub flat_next : (f : ℕ → List ℕ) (n : ℕ) → flat_map f (range_with_len 0 (n + 1)) ≡ flat_map f (range_with_len 0 n) ++ f n
flat_next f n = flat_more f 0 n 1 ∙ ap (λ (t : List ℕ). flat_map f (range_with_len 0 n) ++ t) (append-nil (f (0 + n)) ∙ ap f (zero-add n))

flat_alike : (f g : ℕ → List ℕ) (a b n : ℕ) → ((k : ℕ) → k < n → f (a + k) ≡ g (b + k)) → flat_map f (range_with_len a n) ≡ flat_map g (range_with_len b n)
flat_alike f g a b zero each = refl
flat_alike f g a b (suc n) each =
    let first_a : a ≡ a + 0 = omega arith in
    let first_b : b + 0 ≡ b = omega arith in
    let first : f a ≡ g b = ap f first_a ∙ (each 0 (omega arith) ∙ ap g first_b) in
    ap (λ (t : List ℕ). t ++ flat_map f (range_with_len (a + 1) n)) first
    ∙ ap (λ (t : List ℕ). g b ++ t)
    (flat_alike f g (a + 1) (b + 1) n (λ k lt.
    let at_a : a + 1 + k ≡ a + (k + 1) = omega arith in
    let at_b : b + (k + 1) ≡ b + 1 + k = omega arith in
    ap f at_a ∙ (each (k + 1) (omega arith) ∙ ap g at_b)))

flat_none : (f : ℕ → List ℕ) (a n : ℕ) → ((k : ℕ) → k < n → f (a + k) ≡ []) → flat_map f (range_with_len a n) ≡ []
flat_none f a zero each = refl
flat_none f a (suc n) each =
    let first_a : a ≡ a + 0 = omega arith in
    let first : f a ≡ [] = ap f first_a ∙ each 0 (omega arith) in
    ap (λ (t : List ℕ). t ++ flat_map f (range_with_len (a + 1) n)) first
    ∙ flat_none f (a + 1) n (λ k lt. let at : a + 1 + k ≡ a + (k + 1) = omega arith in ap f at ∙ each (k + 1) (omega arith))

three_more : (a b c d : List ℕ) → a ++ (b ++ (c ++ (d ++ []))) ≡ ((a ++ b) ++ c) ++ d
three_more a b c d =
    ap (λ (t : List ℕ). a ++ (b ++ (c ++ t))) (append-nil d)
    ∙ (sym (append_assoc a b (c ++ d)) ∙ sym (append_assoc (a ++ b) c d))

-- ---- generations

pub generation_place : (g : GeometryData) (z : Size) (block : ℕ) → place_of g (Generation z block) ≡ place_of g (Generation z 0) + block
generation_place g size.Two block = omega arith
generation_place g size.ThirtyTwo block = omega arith
generation_place g size.FiveTwelve block = omega arith

pub generation_within : (g : GeometryData) (z : Size) (start count block : ℕ) (words : List ℕ) → length words ≡ word_count g
    → start ≡ place_of g (Generation z 0) → count ≡ blocks_in_region z * g.setup.gigabytes → block < count → start + block < length words
generation_within g z start count block words many es ec lt =
    let named : block < blocks_in_region z * g.setup.gigabytes = omega arith in
    let below = place_below g (Generation z block) named in
    omega (arith, generation_place g z block)

pub generation_line_is : (g : GeometryData) (words : List ℕ) (z : Size) (block start first : ℕ) → start ≡ place_of g (Generation z 0) → first ≡ g.setup.first
    → changed_line z block (slice_index words (start + block)) first ≡ generation_line g words z block
generation_line_is g words z block start first es ef =
    ap (changed_line z block (slice_index words (start + block))) ef
    ∙ ap (λ (p : ℕ). changed_line z block (slice_index words p) g.setup.first) (ap (λ (s : ℕ). s + block) es ∙ sym (generation_place g z block))

-- ---- the lines of a line word

pub set_lines_are : (pa word k : ℕ)
    → set_lines pa word k ≡ ((set_line pa word k space.Secure ++ set_line pa word k space.NonSecure) ++ set_line pa word k space.Root) ++ set_line pa word k space.Realm
unfolding set_lines
set_lines_are pa word k = three_more (set_line pa word k space.Secure) (set_line pa word k space.NonSecure) (set_line pa word k space.Root) (set_line pa word k space.Realm)

pub word_lines_none : (bytes word first : ℕ) → word_lines bytes word first 0 ≡ []
unfolding word_lines
word_lines_none bytes word first = refl

pub word_lines_more : (bytes word first k : ℕ) → word_lines bytes word first (k + 1) ≡ word_lines bytes word first k ++ set_lines ((first + k) * bytes) word k
unfolding word_lines
word_lines_more bytes word first k = flat_next (λ (j : ℕ). set_lines ((first + j) * bytes) word j) k

no_line : (pa k : ℕ) (s : Space) → set_line pa 0 k s ≡ []
no_line pa k s = rw (bit_at-zero (bit_of k s)) refl

no_set_lines : (pa k : ℕ) → set_lines pa 0 k ≡ []
unfolding set_lines
no_set_lines pa k = rw (no_line pa k space.Secure, no_line pa k space.NonSecure, no_line pa k space.Root, no_line pa k space.Realm) refl

pub no_word_lines : (bytes first n : ℕ) → word_lines bytes 0 first n ≡ []
unfolding word_lines
no_word_lines bytes first n = flat_none (λ (k : ℕ). set_lines ((first + k) * bytes) 0 k) 0 n (λ k lt. no_set_lines ((first + (0 + k)) * bytes) (0 + k))

-- ---- where the line word of a granule stands

index_of : (b : Bool) (before j : ℕ) → cond b (Some (before + j)) None ≡ option_map (λ (i : ℕ). i + j) (cond b (Some (before + 0)) None)
index_of true before j = let e : before + j ≡ before + 0 + j = omega arith in ap Some e
index_of false before j = refl

-- by the gigabyte and the word in it
row_at : (s : SetupData) (words : List ℕ) (r j : ℕ) → j < table_words s
    → l1_index s words (r * table_words s + j) ≡ cond (is_table (get_or words r 0)) (Some (table_count (take r words) * table_words s + j)) None
row_at s words r j lt =
    let w : ℕ = r * table_words s + j in
    ap (λ (q : ℕ). cond (is_table (get_or words q 0)) (Some (table_count (take q words) * table_words s + w % table_words s)) None) (div-mul-add r (table_words s) j lt)
    ∙ ap (λ (m : ℕ). cond (is_table (get_or words r 0)) (Some (table_count (take r words) * table_words s + m)) None) (mod-mul-add r (table_words s) j lt)

index_in_row : (s : SetupData) (words : List ℕ) (r j : ℕ) → j < table_words s
    → l1_index s words (r * table_words s + j) ≡ option_map (λ (i : ℕ). i + j) (l1_index s words (r * table_words s))
index_in_row s words r j lt =
    let first : l1_index s words (r * table_words s) ≡ cond (is_table (get_or words r 0)) (Some (table_count (take r words) * table_words s + 0)) None =
    ap (l1_index s words) (sym (add-zero (r * table_words s))) ∙ row_at s words r 0 (table_words_low s) in
    row_at s words r j lt ∙ (index_of (is_table (get_or words r 0)) (table_count (take r words) * table_words s) j ∙ ap (option_map (λ (i : ℕ). i + j)) (sym first))

exact : (x n : ℕ) → 0 < n → x * n / n ≡ x
exact x n low = ap (λ (y : ℕ). y / n) (sym (add-zero (x * n))) ∙ div-mul-add x n 0 low

-- the line word of a granule
word_of_granule : (s : SetupData) (n : ℕ) → n * granule_bytes s / word_bytes s ≡ n / 16
word_of_granule s n =
    ap (λ (m : ℕ). n * granule_bytes s / m) (word_is s ∙ mul_comm 16 (granule_bytes s))
    ∙ (sym (div-div-eq-div-mul (n * granule_bytes s) (granule_bytes s) 16)
    ∙ ap (λ (m : ℕ). m / 16) (exact n (granule_bytes s) (omega (arith, granule_low s))))

granule_word : (s : SetupData) (w k : ℕ) → k < 16 → (16 * w + k) * granule_bytes s / word_bytes s ≡ w
granule_word s w k lt = let last : (16 * w + k) / 16 ≡ w = omega arith in word_of_granule s (16 * w + k) ∙ last

-- the first word of a gigabyte
region_word : (s : SetupData) (r : ℕ) → r * region_bytes / word_bytes s ≡ r * table_words s
region_word s r =
    ap (λ (n : ℕ). n / word_bytes s) (ap (λ (n : ℕ). r * n) (sym (table_whole s)) ∙ sym (mul_assoc r (table_words s) (word_bytes s)))
    ∙ exact (r * table_words s) (word_bytes s) (word_bytes_low s)

line_moved : (g : GeometryData) (j : ℕ) (o : Option ℕ)
    → option_map (λ (i : ℕ). place_of g (Line i)) (option_map (λ (i : ℕ). i + j) o) ≡ option_map (λ (p : ℕ). p + j) (option_map (λ (i : ℕ). place_of g (Line i)) o)
line_moved g j None = refl
line_moved g j (Some i) = let e : place_of g (Line (i + j)) ≡ place_of g (Line i) + j = omega arith in ap Some e

-- granule 16 * (r * T + j) + k stands in line word j of the table of gigabyte r
place_in_row : (g : GeometryData) (r j k : ℕ) → j < table_words g.setup → k < 16
    → line_place_of g ((16 * (r * table_words g.setup + j) + k) * granule_bytes g.setup) ≡ option_map (λ (p : ℕ). p + j) (line_place_of g (r * region_bytes))
place_in_row g r j k lt_j lt_k =
    let at = λ (w : ℕ). option_map (λ (i : ℕ). place_of g (Line i)) (l1_index g.setup (l0_words g) w) in
    ap at (granule_word g.setup (r * table_words g.setup + j) k lt_k)
    ∙ (ap (option_map (λ (i : ℕ). place_of g (Line i))) (index_in_row g.setup (l0_words g) r j lt_j)
    ∙ (line_moved g j (l1_index g.setup (l0_words g) (r * table_words g.setup))
    ∙ ap (λ (w : ℕ). option_map (λ (p : ℕ). p + j) (at w)) (sym (region_word g.setup r))))

place_some : (g : GeometryData) (r j k start : ℕ) → j < table_words g.setup → k < 16 → line_place_of g (r * region_bytes) ≡ Some start
    → line_place_of g ((16 * (r * table_words g.setup + j) + k) * granule_bytes g.setup) ≡ Some (start + j)
place_some g r j k start lt_j lt_k e = place_in_row g r j k lt_j lt_k ∙ ap (option_map (λ (p : ℕ). p + j)) e

mapped : (g : GeometryData) (o : Option ℕ) (p : ℕ) → option_map (λ (i : ℕ). place_of g (Line i)) o ≡ Some p → (i : ℕ) × ((o ≡ Some i) × (place_of g (Line i) ≡ p))
mapped g None p e = absurd cc
mapped g (Some i) p e = (i, (refl, cc))

line_below : (g : GeometryData) (pa p : ℕ) → IsGeometry g → line_place_of g pa ≡ Some p → p < word_count g
line_below g pa p is e =
    let found = mapped g (l1_index_of g pa) p e in
    subst (λ (n : ℕ). n < word_count g) found.1.1 (place_below g (Line found.0) (index_within g pa found.0 is found.1.0))

pub line_within : (g : GeometryData) (r j start : ℕ) → IsGeometry g → j < table_words g.setup → line_place_of g (r * region_bytes) ≡ Some start → start + j < word_count g
line_within g r j start is lt e = line_below g _ (start + j) is (place_some g r j 0 start lt (omega arith) e)

-- ---- the lines of granules

abbrev lines_with : GeometryData → List ℕ → ℕ → Option ℕ → List ℕ
lines_with g words n o =
    flat_map (λ (s : Space). if line_at g words o n s then line (codes "line" ∷ address (n * granule_bytes g.setup) ∷ space_name_of s ∷ []) else [])
    (space.Secure ∷ space.NonSecure ∷ space.Root ∷ space.Realm ∷ [])

-- a granule's line place is that of its line word
place_of_granule : (g : GeometryData) (n : ℕ) (o : Option ℕ) → line_place_of g (n * granule_bytes g.setup) ≡ o → option_map (λ (i : ℕ). place_of g (Line i)) (l1_index g.setup (l0_words g) (n / 16)) ≡ o
place_of_granule g n o e =
    ap (λ (w : ℕ). option_map (λ (i : ℕ). place_of g (Line i)) (l1_index g.setup (l0_words g) w)) (sym (word_of_granule g.setup n)) ∙ e

granule_some : (g : GeometryData) (words : List ℕ) (w k p : ℕ) → k < 16 → line_place_of g ((16 * w + k) * granule_bytes g.setup) ≡ Some p
    → granule_lines g words (16 * w + k) ≡ set_lines ((16 * w + k) * granule_bytes g.setup) (slice_index words p) k
unfolding set_lines
granule_some g words w k p lt e =
    let n : ℕ = 16 * w + k in
    let rest : (16 * w + k) % 16 ≡ k = omega arith in
    let found = mapped g (l1_index g.setup (l0_words g) (n / 16)) p (place_of_granule g n (Some p) e) in
    ap (lines_with g words n) found.1.0
    ∙ (ap (λ (q : ℕ). set_lines (n * granule_bytes g.setup) (slice_index words q) (n % 16)) found.1.1
    ∙ ap (set_lines (n * granule_bytes g.setup) (slice_index words p)) rest)

unmapped : (g : GeometryData) (o : Option ℕ) → option_map (λ (i : ℕ). place_of g (Line i)) o ≡ None → o ≡ None
unmapped g None e = refl
unmapped g (Some i) e = absurd cc

granule_none : (g : GeometryData) (words : List ℕ) (n : ℕ) → line_place_of g (n * granule_bytes g.setup) ≡ None → granule_lines g words n ≡ []
granule_none g words n e =
    ap (lines_with g words n) (unmapped g (l1_index g.setup (l0_words g) (n / 16)) (place_of_granule g n None e))

-- a line word of a table
word_is_lines : (g : GeometryData) (words : List ℕ) (r j start n : ℕ) → n ≤ 16 → j < table_words g.setup → line_place_of g (r * region_bytes) ≡ Some start
    → granules_text g words (16 * (r * table_words g.setup + j)) n
    ≡ word_lines (granule_bytes g.setup) (slice_index words (start + j)) (16 * (r * table_words g.setup + j)) n
unfolding granules_text word_lines
word_is_lines g words r j start n le lt e =
    let first : ℕ = 16 * (r * table_words g.setup + j) in
    let each = λ (k : ℕ). set_lines ((first + k) * granule_bytes g.setup) (slice_index words (start + j)) k in
    flat_alike (granule_lines g words) each first 0 n
    (λ k below. granule_some g words (r * table_words g.setup + j) k (start + j) (omega arith) (place_some g r j k start lt (omega arith) e) ∙ ap each (sym (zero-add k)))

granules_more : (g : GeometryData) (words : List ℕ) (a n m : ℕ) → granules_text g words a (n + m) ≡ granules_text g words a n ++ granules_text g words (a + n) m
unfolding granules_text
granules_more g words a n m = flat_more (granule_lines g words) a n m

pub row_more : (g : GeometryData) (words : List ℕ) (r j start : ℕ) → j < table_words g.setup → line_place_of g (r * region_bytes) ≡ Some start
    → granules_text g words (16 * (r * table_words g.setup)) (16 * (j + 1))
    ≡ granules_text g words (16 * (r * table_words g.setup)) (16 * j)
    ++ word_lines (granule_bytes g.setup) (slice_index words (start + j)) (16 * (r * table_words g.setup + j)) 16
row_more g words r j start lt e =
    let count : 16 * (j + 1) ≡ 16 * j + 16 = omega arith in
    let here : 16 * (r * table_words g.setup) + 16 * j ≡ 16 * (r * table_words g.setup + j) = omega arith in
    ap (granules_text g words (16 * (r * table_words g.setup))) count
    ∙ (granules_more g words (16 * (r * table_words g.setup)) (16 * j) 16
    ∙ ap (λ (t : List ℕ). granules_text g words (16 * (r * table_words g.setup)) (16 * j) ++ t)
    (ap (λ (a : ℕ). granules_text g words a 16) here ∙ word_is_lines g words r j start 16 (omega arith) lt e))

pub row_none : (g : GeometryData) (words : List ℕ) (a : ℕ) → granules_text g words a 0 ≡ []
unfolding granules_text
row_none g words a = refl

-- a gigabyte with a block has no lines
pub no_table_lines : (g : GeometryData) (words : List ℕ) (r n : ℕ) → n ≤ 16 * table_words g.setup → line_place_of g (r * region_bytes) ≡ None
    → granules_text g words (16 * (r * table_words g.setup)) n ≡ []
unfolding granules_text
no_table_lines g words r n le e =
    flat_none (granule_lines g words) (16 * (r * table_words g.setup)) n
    (λ d lt.
    let split : 16 * (r * table_words g.setup) + d ≡ 16 * (r * table_words g.setup + d / 16) + d % 16 = omega arith in
    let none : line_place_of g ((16 * (r * table_words g.setup) + d) * granule_bytes g.setup) ≡ None =
    ap (λ (m : ℕ). line_place_of g (m * granule_bytes g.setup)) split
    ∙ (place_in_row g r (d / 16) (d % 16) (omega arith) (omega arith) ∙ ap (option_map (λ (p : ℕ). p + d / 16)) e) in
    granule_none g words (16 * (r * table_words g.setup) + d) none)

pub gigabyte_more : (g : GeometryData) (words : List ℕ) (r : ℕ)
    → granules_text g words 0 (16 * ((r + 1) * table_words g.setup))
    ≡ granules_text g words 0 (16 * (r * table_words g.setup)) ++ granules_text g words (16 * (r * table_words g.setup)) (16 * table_words g.setup)
gigabyte_more g words r =
    let count : 16 * ((r + 1) * table_words g.setup) ≡ 16 * (r * table_words g.setup) + 16 * table_words g.setup = omega (arith, add-mul r 1 (table_words g.setup)) in
    ap (granules_text g words 0) count
    ∙ (granules_more g words 0 (16 * (r * table_words g.setup)) (16 * table_words g.setup)
    ∙ ap (λ (a : ℕ). granules_text g words 0 (16 * (r * table_words g.setup)) ++ granules_text g words a (16 * table_words g.setup)) (zero-add (16 * (r * table_words g.setup))))

pub gigabytes_none : (g : GeometryData) (words : List ℕ) → granules_text g words 0 (16 * (0 * table_words g.setup)) ≡ []
gigabytes_none g words = let none : 16 * (0 * table_words g.setup) ≡ 0 = omega arith in ap (granules_text g words 0) none ∙ row_none g words 0

pub lines_are : (g : GeometryData) (words : List ℕ) → granules_text g words 0 (16 * (g.setup.gigabytes * table_words g.setup)) ≡ lines_text g words
unfolding granules_text
lines_are g words = refl

-- ---- the first locks and generations

pub held_none : (words : List ℕ) → held_upto words 0 ≡ []
unfolding held_upto
held_none words = refl

pub held_more : (words : List ℕ) (n : ℕ) → held_upto words (n + 1) ≡ held_upto words n ++ held_line words n
unfolding held_upto
held_more words n = flat_next (held_line words) n

pub generations_none : (g : GeometryData) (words : List ℕ) (z : Size) → generations_upto g words z 0 ≡ []
unfolding generations_upto
generations_none g words z = refl

pub generations_more : (g : GeometryData) (words : List ℕ) (z : Size) (n : ℕ) → generations_upto g words z (n + 1) ≡ generations_upto g words z n ++ generation_line g words z n
unfolding generations_upto
generations_more g words z n = flat_next (generation_line g words z) n

pub generations_are : (g : GeometryData) (words : List ℕ) (z : Size) → generations_upto g words z (blocks_in_region z * g.setup.gigabytes) ≡ generations_text g words z
unfolding generations_upto
generations_are g words z = refl

-- ---- one more part

pub pushed : (start so_far part all out next : List ℕ) → all ≡ so_far ++ part → out ≡ start ++ so_far → next ≡ out ++ part → next ≡ start ++ all
pushed start so_far part all out next more inv added =
    added ∙ (ap (λ (t : List ℕ). t ++ part) inv ∙ (append_assoc start so_far part ∙ ap (λ (t : List ℕ). start ++ t) (sym more)))

pub begins : (start none : List ℕ) → none ≡ [] → start ≡ start ++ none
begins start none e = sym (append-nil start) ∙ ap (λ (t : List ℕ). start ++ t) (sym e)

pub state_parts : (g : GeometryData) (words : List ℕ)
    → state_text g words
    ≡ ((((held_upto words 128 ++ tables_part_text g words) ++ generations_text g words size.Two) ++ generations_text g words size.ThirtyTwo) ++ generations_text g words size.FiveTwelve)
    ++ lines_text g words
unfolding held_upto
state_parts g words =
    ap (λ (t : List ℕ). t ++ lines_text g words)
    (three_more (held_text words ++ tables_part_text g words) (generations_text g words size.Two) (generations_text g words size.ThirtyTwo) (generations_text g words size.FiveTwelve))

pub four : (start a b c d all x1 x2 x3 x4 : List ℕ) → all ≡ ((a ++ b) ++ c) ++ d → x1 ≡ start ++ a → x2 ≡ x1 ++ b → x3 ≡ x2 ++ c → x4 ≡ x3 ++ d → x4 ≡ start ++ all
four start a b c d all x1 x2 x3 x4 more e1 e2 e3 e4 =
    pushed start ((a ++ b) ++ c) d all x3 x4 more (pushed start (a ++ b) c ((a ++ b) ++ c) x2 x3 refl (pushed start a b (a ++ b) x1 x2 refl e1 e2) e3) e4

pub six : (start a b c d e f all x1 x2 x3 x4 x5 x6 : List ℕ) → all ≡ ((((a ++ b) ++ c) ++ d) ++ e) ++ f
    → x1 ≡ start ++ a → x2 ≡ x1 ++ b → x3 ≡ x2 ++ c → x4 ≡ x3 ++ d → x5 ≡ x4 ++ e → x6 ≡ x5 ++ f → x6 ≡ start ++ all
six start a b c d e f all x1 x2 x3 x4 x5 x6 more e1 e2 e3 e4 e5 e6 =
    pushed start ((((a ++ b) ++ c) ++ d) ++ e) f all x5 x6 more
    (pushed start (((a ++ b) ++ c) ++ d) e ((((a ++ b) ++ c) ++ d) ++ e) x4 x5 refl (four start a b c d (((a ++ b) ++ c) ++ d) x1 x2 x3 x4 refl e1 e2 e3 e4) e5) e6
