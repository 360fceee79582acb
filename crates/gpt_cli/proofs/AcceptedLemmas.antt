-- Replies to accepted scenarios: which calls have no answer, and what is played fits its report.
use Rattle.std.proofs.Common.{◌≡◌, ℕ, zero, suc, ◌+◌, ◌*◌, ◌/◌, ◌%◌, ◌<◌, ◌≤◌, Bool, true, false, ltb, ◌||◌, List, [], ◌∷◌, length, drop, get_or, None, Some, refl, sym, ap, ◌∙◌, subst, arith, mul_comm}
use Rattle.std.specs.Prelude.{Result, Ok, Err, IfOk}
use Rattle.std.proofs.lemmas.Bool.{lt-ltb, le-ltb}
use Rattle.std.proofs.lemmas.Nat.{mul-add-lt, mod_below, div-add-mod'}
use Rattle.std.proofs.lemmas.Option.{cond_some, get_or_from_slice_get}
use Rattle.std.proofs.lemmas.List.FromFn.{length-map-range_with_len}
use Rattle.std.proofs.Math.ListN.{drop_of_length-le}
use Rattle.history.specs.declared.call.Answer.{Answer}
use Rattle.gpt_descriptors.specs.Sizes.{SetupData, table_words, space_granules}
use Rattle.gpt_descriptors.specs.Entries.{l0_word}
use Rattle.gpt_descriptors.specs.Level0.{is_table, l1_index}
use Rattle.gpt_descriptors.specs.Canonical.{canonical_word}
use Rattle.gpt_descriptors.proofs.SizeLemmas.{table_words_low}
use Rattle.region_plan.specs.declared.region.Region.{Region}
use Rattle.region_plan.specs.Regions.{region_map, region_l0, region_entry}
use Rattle.region_plan.specs.Refusals.{refusal}
use Rattle.table_meaning.specs.Meaning.{AreCanonical, TablesMean}
use Rattle.table_meaning.proofs.MeaningLemmas.{canonical_mean}
use Rattle.table_build.specs.Built.{region_l1, is_bad_base}
use Rattle.table_build.proofs.BuiltLemmas.{tables_fit}
use Rattle.table_build.proofs.MeaningLemmas.{built_word, built_block}
use Rattle.scenario_text.specs.declared.scenario.Scenario.{Scenario}
use Rattle.scenario_text.specs.declared.scenario.Script.{Script}
use Rattle.scenario_text.specs.Calls.{calls_of}
use Rattle.report_text.proofs.CallerLemmas.{from_get_or}
use Rattle.gpt_cli.specs.Replies.{has_left}
use Rattle.core_machine.specs.Scenarios.{IsAccepted}

-- ---- which calls have no answer

left_at : (k : ℕ) (scripts : List Script) (answers : List (List Answer)) (s : Script) (own : List Answer) → length answers ≡ length scripts → k < length scripts
    → s ≡ get_or scripts k s → own ≡ get_or answers k own
    → has_left (drop k scripts) (drop k answers) ≡ (ltb (length own) (calls_of s) || has_left (drop (k + 1) scripts) (drop (k + 1) answers))
left_at k scripts answers s own same within here_script here_own =
    rw (from_get_or scripts k s within here_script, from_get_or answers k own (omega (arith, same, within)) here_own) refl

pub left_found : (k : ℕ) (scripts : List Script) (answers : List (List Answer)) (s : Script) (own : List Answer) (n : ℕ) → length answers ≡ length scripts → k < length scripts
    → s ≡ get_or scripts k s → own ≡ get_or answers k own → n ≡ calls_of s → length own < n
    → has_left (drop k scripts) (drop k answers) ≡ has_left scripts answers → true ≡ has_left scripts answers
left_found k scripts answers s own n same within here_script here_own count few so =
    let test : ltb (length own) (calls_of s) ≡ true = lt-ltb (length own) (calls_of s) (omega (arith, count, few)) in
    sym (ap (λ (b : Bool). b || has_left (drop (k + 1) scripts) (drop (k + 1) answers)) test) ∙ sym (left_at k scripts answers s own same within here_script here_own) ∙ so

pub left_goes : (k : ℕ) (scripts : List Script) (answers : List (List Answer)) (s : Script) (own : List Answer) (n : ℕ) → length answers ≡ length scripts → k < length scripts
    → s ≡ get_or scripts k s → own ≡ get_or answers k own → n ≡ calls_of s → n ≤ length own
    → has_left (drop k scripts) (drop k answers) ≡ has_left scripts answers → has_left (drop (k + 1) scripts) (drop (k + 1) answers) ≡ has_left scripts answers
left_goes k scripts answers s own n same within here_script here_own count all so =
    let test : ltb (length own) (calls_of s) ≡ false = le-ltb (length own) (calls_of s) (omega (arith, count, all)) in
    sym (ap (λ (b : Bool). b || has_left (drop (k + 1) scripts) (drop (k + 1) answers)) test) ∙ sym (left_at k scripts answers s own same within here_script here_own) ∙ so

pub none_left : (k : ℕ) (scripts : List Script) (answers : List (List Answer)) → length scripts ≤ k → has_left (drop k scripts) (drop k answers) ≡ has_left scripts answers
    → false ≡ has_left scripts answers
none_left k scripts answers done so = sym (ap (λ (rest : List Script). has_left rest (drop k answers)) (drop_of_length-le scripts done)) ∙ so

-- ---- tables

-- the L0 word that names a table is one of the list
table_in : (words : List ℕ) (q : ℕ) → is_table (get_or words q 0) ≡ true → q < length words
table_in [] q table = absurd cc
table_in (word ∷ words) zero table = omega arith
table_in (word ∷ words) (suc q) table = let rest = table_in words q table in omega arith

-- a word that has a place among the L1 words is one of the protected space
word_in : (s : SetupData) (l0 : List ℕ) (w i : ℕ) → length l0 ≡ s.gigabytes → l1_index s l0 w ≡ Some i → 16 * w < space_granules s
word_in s l0 w i size at =
    let table = (cond_some (is_table (get_or l0 (w / table_words s) 0)) _ i at).0 in
    let row : w / table_words s < s.gigabytes = subst (λ (n : ℕ). w / table_words s < n) size (table_in l0 (w / table_words s) table) in
    let fits = mul-add-lt (w / table_words s) (table_words s) (w % table_words s) s.gigabytes row (mod_below w (table_words s) (table_words_low s)) in
    let whole : w / table_words s * table_words s + w % table_words s ≡ w = div-add-mod' w (table_words s) in
    let turned : table_words s * s.gigabytes ≡ s.gigabytes * table_words s = mul_comm (table_words s) s.gigabytes in
    omega (arith, fits, whole, turned)

-- the L1 words of accepted regions are canonical for their map
built_canonical : (s : SetupData) (regions : List Region) → refusal s regions ≡ None → is_bad_base s regions ≡ false
    → AreCanonical s (region_l0 s regions) (region_l1 s regions) (region_map s regions)
built_canonical s regions accepted good = λ w i at.
    let same : 16 * w / 16 ≡ w = omega arith in
    let size = length-map-range_with_len (λ q. l0_word (region_entry s regions q)) 0 s.gigabytes in
    let word = built_word s regions (16 * w) i accepted good (word_in s (region_l0 s regions) w i size at) (ap (l1_index s (region_l0 s regions)) same ∙ at) in
    get_or_from_slice_get (region_l1 s regions) i _ 0 word ∙ ap (canonical_word s (region_map s regions) None) same

-- the canonical tables of accepted regions mean their map
pub tables_mean : (s : Scenario) → IsAccepted s
    → TablesMean s.setup (region_l0 s.setup s.regions) (region_l1 s.setup s.regions) (region_map s.setup s.regions)
tables_mean s accepted =
    canonical_mean s.setup (region_l0 s.setup s.regions) (region_l1 s.setup s.regions) (region_map s.setup s.regions) (λ w. None)
    (tables_fit s.setup s.regions accepted.based accepted.planned).words
    (λ granule within at. built_block s.setup s.regions granule accepted.planned accepted.based within at)
    (built_canonical s.setup s.regions accepted.planned accepted.based)

-- what holds whatever was allocated
pub with_any : {A E : Type 0} {P : Type 0} (r : Result A E) → P → IfOk r (λ _. P)
with_any (Ok a) p = p
with_any (Err e) p = tt
