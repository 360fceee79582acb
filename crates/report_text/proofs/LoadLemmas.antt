-- The counts of a load, one part at a time.
use Rattle.std.proofs.Common.{◌≡◌, ℕ, ◌+◌, ◌-◌, ◌<◌, ◌≤◌, cond, Option, Some, None, inl, inr, List, [], ◌∷◌, ◌++◌, length, take, drop, get_or, refl, ap, ◌∙◌, sym, zero-add, arith}
use Rattle.std.specs.Prelude.{sum_by, count_by, slice_index}
use native.Mathlib.Numerals.{unary_clauses}
use Rattle.std.specs.List.{flat_map, range_with_len}
use Rattle.std.proofs.lemmas.List.{take_more, take_all, append-nil, length-take-le}
use Rattle.std.proofs.lemmas.List.Concat.{flat_map-append}
use Rattle.std.proofs.lemmas.Bool.{cases_Bool}
use Rattle.std.proofs.lemmas.List.Sums.{sum_by_push, count_by_more_yes, count_by_more_no, count_by-le-length}
use Rattle.history.specs.declared.call.Answer.{Answer}
use Rattle.gpt_descriptors.specs.declared.size.Size.{Size}
use Rattle.gpt_descriptors.specs.declared.size.Size.TheVariants as size
use Rattle.gpt_descriptors.specs.declared.entry.L1Entry.{L1Entry}
use Rattle.gpt_descriptors.specs.declared.entry.L1Entry.TheVariants as l1
use Rattle.gpt_descriptors.specs.Entries.{l1_entry}
use Rattle.gpt_descriptors.specs.Places.{GeometryData, Generation, place_of, table_part, generation_word}
use Rattle.scenario_text.specs.declared.scenario.Script.{Script}
use Rattle.scenario_text.specs.Calls.{calls_of, AreAnswersOf}
use Rattle.report_text.specs.declared.load.Counted.{Counted}
use Rattle.report_text.specs.declared.load.Contiguous.{Contiguous}
use Rattle.report_text.specs.LoadText.{counted_name, count_in, left_in, count_line, is_contiguous, contiguous_in}
use Rattle.report_text.specs.InnerSizes.{size_in, counted_size, size_count, sizes_of}
use Rattle.report_text.proofs.TextLemmas.{range_more}
use Rattle.report_text.proofs.CallerLemmas.{answers_length, from_get_or}
use Rattle.report_text.proofs.StateLemmas.{generation_place, pushed, four}

sum_next : (f : ℕ → ℕ) (n : ℕ) → sum_by f (range_with_len 0 (n + 1)) ≡ sum_by f (range_with_len 0 n) + f n
sum_next f n =
    ap (sum_by f) (range_more 0 n)
    ∙ (sum_by_push f (range_with_len 0 n) (0 + n) ∙ ap (λ (k : ℕ). sum_by f (range_with_len 0 n) + f k) (zero-add n))

-- the sum of what each of n generations of 512 MB is above the first one
abbrev pub raises_upto : GeometryData → List ℕ → ℕ → ℕ
raises_upto g words n = sum_by (λ (block : ℕ). generation_word g words size.FiveTwelve block - g.setup.first) (range_with_len 0 n)

-- the sum after one more generation
pub raise_more : (g : GeometryData) (words : List ℕ) (block start first total : ℕ)
    → start ≡ place_of g (Generation size.FiveTwelve 0) → first ≡ g.setup.first → total ≡ raises_upto g words block
    → total + (slice_index words (start + block) - first) ≡ raises_upto g words (block + 1)
raise_more g words block start first total es ef e =
    ap (λ (n : ℕ). n + (slice_index words (start + block) - first)) e
    ∙ (ap (λ (n : ℕ). raises_upto g words block + (slice_index words (start + block) - n)) ef
    ∙ (ap (λ (p : ℕ). raises_upto g words block + (slice_index words p - g.setup.first)) (ap (λ (s : ℕ). s + block) es ∙ sym (generation_place g size.FiveTwelve block))
    ∙ sym (sum_next (λ (k : ℕ). generation_word g words size.FiveTwelve k - g.setup.first) block)))

-- the calls left so far and those of the rest, after one more caller
pub left_more : (k : ℕ) (scripts : List Script) (answers : List (List Answer)) (s : Script) (own : List Answer) (n total all : ℕ)
    → k < length scripts → s ≡ get_or scripts k s → AreAnswersOf scripts answers → own ≡ get_or answers k own → n ≡ calls_of s
    → total + left_in (drop k scripts) (drop k answers) ≡ all
    → total + (n - length own) + left_in (drop (k + 1) scripts) (drop (k + 1) answers) ≡ all
left_more k scripts answers s own n total all lt es are eo en e =
    let within : k < length answers = omega (arith, answers_length scripts answers are) in
    let here : left_in (drop k scripts) (drop k answers) ≡ (n - length own) + left_in (drop (k + 1) scripts) (drop (k + 1) answers) =
    ap (λ (rest : List Script). left_in rest (drop k answers)) (from_get_or scripts k s lt es)
    ∙ (ap (λ (rest : List (List Answer)). left_in (s ∷ drop (k + 1) scripts) rest) (from_get_or answers k own within eo)
    ∙ ap (λ (m : ℕ). m - length own + left_in (drop (k + 1) scripts) (drop (k + 1) answers)) (sym en)) in
    omega (arith, here, e)

-- the lines of these names
abbrev pub names_text : List (List Answer) → List Counted → List ℕ
names_text answers names = flat_map (λ (c : Counted). count_line (counted_name c) (count_in c answers)) names

-- the lines after one more name
pub name_more : (answers : List (List Answer)) (names : List Counted) (i : ℕ) (d : Counted) → i < length names
    → names_text answers (take (i + 1) names)
    ≡ names_text answers (take i names) ++ count_line (counted_name (get_or names i d)) (count_in (get_or names i d) answers)
name_more answers names i d lt =
    let f = λ (c : Counted). count_line (counted_name c) (count_in c answers) in
    ap (flat_map f) (take_more names i d lt) ∙ flat_map-append f (take i names) (get_or names i d ∷ [])
    ∙ ap (λ (text : List ℕ). names_text answers (take i names) ++ text) (append-nil (f (get_or names i d)))

pub line_added : (name out next : List ℕ) (n m : ℕ) → n ≡ m → next ≡ out ++ count_line name n → next ≡ out ++ count_line name m
line_added name out next n m en e = e ∙ ap (λ (k : ℕ). out ++ count_line name k) en

-- a text of five parts that begins as nothing
pub five : (a b c d e x0 x1 x2 x3 x4 x5 : List ℕ) → x0 ≡ [] → x1 ≡ x0 ++ a → x2 ≡ x1 ++ b → x3 ≡ x2 ++ c → x4 ≡ x3 ++ d → x5 ≡ x4 ++ e
    → x5 ≡ (((a ++ b) ++ c) ++ d) ++ e
five a b c d e x0 x1 x2 x3 x4 x5 none e1 e2 e3 e4 e5 =
    pushed x0 (((a ++ b) ++ c) ++ d) e ((((a ++ b) ++ c) ++ d) ++ e) x4 x5 refl (four x0 a b c d (((a ++ b) ++ c) ++ d) x1 x2 x3 x4 refl e1 e2 e3 e4) e5
    ∙ ap (λ (t : List ℕ). t ++ ((((a ++ b) ++ c) ++ d) ++ e)) none

-- ---- contiguous words

-- the words of a size, after one more word
size_more : (z : Size) (words : List ℕ) (k : ℕ) → k < length words
    → size_count z (take (k + 1) words) ≡ size_count z (take k words) + cond (is_contiguous z (l1_entry (get_or words k 0))) 1 0
unfolding size_count
size_more z words k lt =
    let p = λ (word : ℕ). is_contiguous z (l1_entry word) in
    elim (cases_Bool (p (get_or words k 0))) [
      | inl is ↦ rw is (count_by_more_yes p words k 0 lt is)
      | inr isnt ↦ rw isnt (let same = count_by_more_no p words k 0 lt isnt in omega (arith, same))
    ]

abbrev pub made : ℕ → ℕ → ℕ → Contiguous
made a b c = record { two = a; thirty_two = b; five_twelve = c }

-- the counts of one more entry, each by its own size
counted_each : (e : Option L1Entry) (c : Contiguous) → counted_size (size_in e) c
    ≡ made (c.two + cond (is_contiguous size.Two e) 1 0) (c.thirty_two + cond (is_contiguous size.ThirtyTwo e) 1 0)
    (c.five_twelve + cond (is_contiguous size.FiveTwelve e) 1 0)
counted_each None c = simp unary_clauses refl
counted_each (Some (l1.Granules word)) c = simp unary_clauses refl
counted_each (Some (l1.Contig size.Two gpi)) c = simp unary_clauses refl
counted_each (Some (l1.Contig size.ThirtyTwo gpi)) c = simp unary_clauses refl
counted_each (Some (l1.Contig size.FiveTwelve gpi)) c = simp unary_clauses refl

made_same : (a b c d e f : ℕ) → a ≡ d → b ≡ e → c ≡ f → made a b c ≡ made d e f
made_same a b c d e f one two three = rw (one, two, three) refl

-- the counts after one more word, of which the size is known
pub sizes_more : (words : List ℕ) (k word : ℕ) (z : Option Size) (c : Contiguous) → k < length words → word ≡ get_or words k 0 → z ≡ size_in (l1_entry word) → c ≡ sizes_of (take k words)
    → counted_size z c ≡ sizes_of (take (k + 1) words)
sizes_more words k word z c lt here known counted =
    ap (λ (s : Option Size). counted_size s c) (known ∙ ap (λ (w : ℕ). size_in (l1_entry w)) here)
    ∙ (ap (counted_size (size_in (l1_entry (get_or words k 0)))) counted
    ∙ (counted_each (l1_entry (get_or words k 0)) (sizes_of (take k words))
    ∙ made_same _ _ _ _ _ _ (sym (size_more size.Two words k lt)) (sym (size_more size.ThirtyTwo words k lt)) (sym (size_more size.FiveTwelve words k lt))))

pub no_sizes : (words : List ℕ) → made 0 0 0 ≡ sizes_of (take 0 words)
unfolding size_count
no_sizes words = refl

-- no more words are of a size than there are
pub size_below : (z : Size) (words : List ℕ) (k n : ℕ) → k < length words → n ≡ size_count z (take k words) → n ≤ k
unfolding size_count
size_below z words k n lt is =
    let most = count_by-le-length (λ (word : ℕ). is_contiguous z (l1_entry word)) (take k words) in
    let within : k ≤ length words = omega (arith, lt) in
    let short = length-take-le k words within in
    omega (arith, most, short, is)

-- all words are counted
pub all_sizes : (words : List ℕ) (k : ℕ) (c : Contiguous) → length words ≤ k → c ≡ sizes_of (take k words) → c ≡ sizes_of words
all_sizes words k c all counted = counted ∙ ap sizes_of (take_all k words all)

-- the words of all tables are those of their part
pub counted_in : (g : GeometryData) (words tables : List ℕ) (z : Size) (n : ℕ) → tables ≡ table_part g words → n ≡ size_count z tables → n ≡ contiguous_in g words z
unfolding size_count
counted_in g words tables z n are counted = counted ∙ ap (count_by (λ (word : ℕ). is_contiguous z (l1_entry word))) are
