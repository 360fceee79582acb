-- Regions laid one after another in the order of their bases.
use Rattle.std.proofs.Common.{◌≡◌, ℕ, suc, ◌+◌, ◌*◌, ◌/◌, ◌%◌, ◌≤◌, ◌<◌, Bool, true, false, not, cond, eqb, leb, ltb, ◌||◌, List, [], ◌∷◌, ◌++◌, length, map, get_or, slice_get, Option, Some, None, Result, Ok, Err, refl, sym, ap, ◌∙◌, inl, inr, arith}
use Rattle.std.specs.Prelude.{IfOk, IfErr, ◌⊎◌}
use Rattle.std.specs.List.{find, position, position_or_len, AllByRecursion, All, range_with_len}
use Rattle.std.specs.List.Sorted.{IsPermutation}
use Rattle.std.specs.Option.{option_or}
use Rattle.std.proofs.lemmas.Bool.{cases_lt, cases_Bool, le-leb, lt-ltb, le-ltb, leb-true, ltb-true, ltb-false, eqb-true, not-false, and_parts, and_from, false_from_ne_true}
use Rattle.std.proofs.lemmas.Nat.{mul-le, div-add-mod', div_below}
use Rattle.std.proofs.lemmas.List.Folds.{find-append}
use Rattle.std.proofs.lemmas.List.Recursion.{is_sum_by}
use Rattle.std.proofs.lemmas.List.Sorted.{sum_by-IsPermutation, All-permutation}
use Rattle.std.proofs.lemmas.List.Elements.{All-from_recursion}
use Rattle.std.proofs.lemmas.List.FromFn.{length-map-range_with_len, get_or-map-range_with_len}
use Rattle.std.proofs.lemmas.Option.{get_or_from_slice_get}
use Rattle.gpi_values.specs.declared.gpi.Gpi.{Gpi}
use Rattle.gpi_values.specs.declared.gpi.Gpi.TheVariants as gpi
use Rattle.gpi_values.specs.Values.{value_of}
use Rattle.gpi_values.proofs.ValueLemmas.{value_one}
use Rattle.gpt_descriptors.specs.Sizes.{SetupData, granule_bytes, table_words, region_bytes, space_bytes, space_granules}
use Rattle.gpt_descriptors.proofs.SizeLemmas.{granule_low, word_is, table_whole}
use Rattle.region_plan.specs.declared.region.Region.{Region}
use Rattle.region_plan.specs.declared.run_map.Run.{Run}
use Rattle.region_plan.specs.declared.refusing.PlanError.TheVariants as refused
use Rattle.region_plan.specs.Regions.{tables_needed, first_granule, granule_count, is_in, gpi_or_any, region_map}
use Rattle.region_plan.specs.Refusals.{is_unaligned, is_outside, do_share, first_overlap, ArePlaced, refusal}
use Rattle.region_plan.specs.Runs.{runs_map}
use Rattle.region_plan.specs.InnerRuns.{Covers, then_one}
use Rattle.region_plan.proofs.PlanLemmas.{none_passes, cond_none}
use Rattle.region_plan.proofs.RunLemmas.{covered_map}

-- ---- how many regions hold a granule

-- a sum over the regions that hold granule g
abbrev pub weight : SetupData → ℕ → (Region → ℕ) → List Region → ℕ
weight s g f [] = 0
weight s g f (r ∷ rs) = cond (is_in s g r) (f r) 0 + weight s g f rs

abbrev pub holders : SetupData → ℕ → List Region → ℕ
holders s g regions = weight s g (λ _. 1) regions

weight_push : (s : SetupData) (g : ℕ) (f : Region → ℕ) (xs : List Region) (r : Region) → weight s g f (xs ++ r ∷ []) ≡ weight s g f xs + cond (is_in s g r) (f r) 0
weight_push s g f [] r = omega arith
weight_push s g f (x ∷ xs) r = omega (arith, weight_push s g f xs r)

weight_permuted : (s : SetupData) (g : ℕ) (f : Region → ℕ) (xs ys : List Region) → IsPermutation xs ys → weight s g f ys ≡ weight s g f xs
weight_permuted s g f xs ys moved =
    let w = λ (r : Region). cond (is_in s g r) (f r) 0 in
    is_sum_by (weight s g f) w refl (λ x rs. refl) ys ∙ sum_by-IsPermutation w xs ys moved ∙ sym (is_sum_by (weight s g f) w refl (λ x rs. refl) xs)

no_weight : (s : SetupData) (g : ℕ) (f : Region → ℕ) (xs : List Region) → holders s g xs ≡ 0 → weight s g f xs ≡ 0
no_weight s g f [] e = refl
no_weight s g f (r ∷ rs) e =
    elim (cases_Bool (is_in s g r)) [
      | inl inside ↦ absurd (let some = rw inside at e in omega arith)
      | inr beside ↦ rw beside (let rest = rw beside at e in omega (arith, no_weight s g f rs (omega arith)))
    ]

none_held : (s : SetupData) (g : ℕ) (xs : List Region) → holders s g xs ≡ 0 → find (is_in s g) xs ≡ None
none_held s g [] e = refl
none_held s g (r ∷ rs) e =
    elim (cases_Bool (is_in s g r)) [
      | inl inside ↦ absurd (let some = rw inside at e in omega arith)
      | inr beside ↦ rw beside (let rest = rw beside at e in none_held s g rs (omega arith))
    ]

-- a number for what a search finds
abbrev code : Option Region → ℕ
code None = 0
code (Some r) = suc (value_of r.gpi)

same_code : (a b : Option Region) → code a ≡ code b → gpi_or_any a ≡ gpi_or_any b
same_code None None e = refl
same_code None (Some y) e = absurd (omega (arith, e))
same_code (Some x) None e = absurd (omega (arith, e))
same_code (Some x) (Some y) e = value_one x.gpi y.gpi (omega (arith, e))

weighed : (s : SetupData) (g : ℕ) (xs : List Region) → holders s g xs ≤ 1 → weight s g (λ r. suc (value_of r.gpi)) xs ≡ code (find (is_in s g) xs)
weighed s g [] le = refl
weighed s g (r ∷ rs) le =
    elim (cases_Bool (is_in s g r)) [
      | inl inside ↦ rw inside (let one = rw inside at le in omega (arith, no_weight s g (λ r. suc (value_of r.gpi)) rs (omega arith)))
      | inr beside ↦ rw beside (let rest = rw beside at le in omega (arith, weighed s g rs (omega arith)))
    ]

-- the order of regions that share no granule doesn't matter
pub map_permuted : (s : SetupData) (g : ℕ) (xs ys : List Region) → IsPermutation xs ys → holders s g ys ≤ 1 → region_map s ys g ≡ region_map s xs g
unfolding region_map
map_permuted s g xs ys moved once =
    let f = λ (r : Region). suc (value_of r.gpi) in
    let same = weight_permuted s g (λ _. 1) xs ys moved in
    same_code (find (is_in s g) ys) (find (is_in s g) xs)
    (sym (weighed s g ys once) ∙ weight_permuted s g f xs ys moved ∙ weighed s g xs (omega arith))

-- ---- one more region

-- no granule is held twice, and none from at on
pub record Laid (s : SetupData) (at : ℕ) (xs : List Region) : Type 0 where
  pub once : (g : ℕ) → holders s g xs ≤ 1
  pub later : (g : ℕ) → at ≤ g → holders s g xs ≡ 0

pub laid_none : (s : SetupData) → Laid s 0 []
laid_none s = record { once = λ g. omega arith; later = λ g le. refl }

in_parts : (s : SetupData) (g : ℕ) (r : Region) → is_in s g r ≡ true → (first_granule s r ≤ g) × (g < first_granule s r + granule_count s r)
in_parts s g r e =
    let parts = and_parts (leb (first_granule s r) g) (ltb g (first_granule s r + granule_count s r)) e in
    (leb-true (first_granule s r) g parts.0, ltb-true g (first_granule s r + granule_count s r) parts.1)

outside_before : (s : SetupData) (g : ℕ) (r : Region) → g < first_granule s r → is_in s g r ≡ false
outside_before s g r lt = false_from_ne_true (is_in s g r) (λ e. let parts = in_parts s g r e in absurd (omega (arith, parts.0)))

outside_after : (s : SetupData) (g : ℕ) (r : Region) → first_granule s r + granule_count s r ≤ g → is_in s g r ≡ false
outside_after s g r le = false_from_ne_true (is_in s g r) (λ e. let parts = in_parts s g r e in absurd (omega (arith, parts.1)))

inside_both : (s : SetupData) (g : ℕ) (r : Region) → first_granule s r ≤ g → g < first_granule s r + granule_count s r → is_in s g r ≡ true
inside_both s g r low high = and_from _ _ (le-leb _ _ low) (lt-ltb _ _ high)

at_most_one : (b : Bool) → 0 + cond b 1 0 ≤ 1
at_most_one true = omega arith
at_most_one false = omega arith

pub laid_more : (s : SetupData) (at : ℕ) (xs : List Region) (r : Region) → at ≤ first_granule s r → Laid s at xs → Laid s (first_granule s r + granule_count s r) (xs ++ r ∷ [])
laid_more s at xs r le laid = record {
  once = λ g. elim (cases_lt g (first_granule s r)) [
    | inl before ↦ rw (weight_push s g (λ _. 1) xs r, outside_before s g r before) (omega (arith, laid.once g))
    | inr from ↦ rw (weight_push s g (λ _. 1) xs r, laid.later g (omega arith)) (at_most_one (is_in s g r))
  ];
  later = λ g after. rw (weight_push s g (λ _. 1) xs r, outside_after s g r after) (omega (arith, laid.later g (omega arith)));
}

or_last : {A : Type 0} (o : Option A) → option_or o None ≡ o
or_last None = refl
or_last (Some x) = refl

pub map_to : (s : SetupData) (at g : ℕ) (xs : List Region) → Laid s at xs → then_one at (region_map s xs) gpi.Any g ≡ region_map s xs g
unfolding region_map
map_to s at g xs laid =
    elim (cases_lt g at) [
      | inl below ↦ rw (lt-ltb g at below) refl
      | inr above ↦ rw (le-ltb g at above, none_held s g xs (laid.later g above)) refl
    ]

pub map_more : (s : SetupData) (at g : ℕ) (xs : List Region) (r : Region) → at ≤ first_granule s r → Laid s at xs → g < first_granule s r + granule_count s r
    → then_one (first_granule s r) (then_one at (region_map s xs) gpi.Any) r.gpi g ≡ region_map s (xs ++ r ∷ []) g
unfolding region_map
map_more s at g xs r le laid high =
    let last : region_map s (xs ++ r ∷ []) g ≡ gpi_or_any (option_or (find (is_in s g) xs) (cond (is_in s g r) (Some r) None)) = ap gpi_or_any (find-append (is_in s g) xs (r ∷ [])) in
    elim (cases_lt g (first_granule s r)) [
      | inl before ↦
          rw (lt-ltb g (first_granule s r) before)
          (map_to s at g xs laid ∙ sym (last ∙ ap (λ (b : Bool). gpi_or_any (option_or (find (is_in s g) xs) (cond b (Some r) None))) (outside_before s g r before) ∙ ap gpi_or_any (or_last (find (is_in s g) xs))))
      | inr from ↦
          let none = none_held s g xs (laid.later g (omega arith)) in
          rw (le-ltb g (first_granule s r) from) (sym (last ∙ rw (none, inside_both s g r from high) refl))
    ]

-- no region holds the granules after those that are laid
pub covers_alike : (end : ℕ) (f h : ℕ → Gpi) (runs : List Run) → ((g : ℕ) → g < end → f g ≡ h g) → Covers end f runs → Covers end h runs
covers_alike end f h runs same covers = record { begins = covers.begins; apart = covers.apart; gpis = λ g lt. covers.gpis g lt ∙ same g lt }

-- ---- what the rules say that come first

le_times : (a b k : ℕ) → 0 < k → a * k ≤ b * k → a ≤ b
le_times a b k some le = elim (cases_lt b a) [ inl less ↦ absurd (omega (arith, mul-le (b + 1) k a k (omega arith) (omega arith))) | inr more ↦ more ]

regrouped : (a b k : ℕ) → a * (b * (16 * k)) ≡ 16 * (a * b) * k
regrouped a b k = omega arith

space_is : (s : SetupData) → space_bytes s ≡ space_granules s * granule_bytes s
space_is s =
    let gigabyte : table_words s * (16 * granule_bytes s) ≡ region_bytes = ap (λ (n : ℕ). table_words s * n) (sym (word_is s)) ∙ table_whole s in
    ap (λ (n : ℕ). s.gigabytes * n) (sym gigabyte) ∙ regrouped s.gigabytes (table_words s) (granule_bytes s)

-- the granule of an address
pub granule_inside : (s : SetupData) (pa : ℕ) → pa < space_bytes s → pa / granule_bytes s < space_granules s
granule_inside s pa lt = div_below pa (granule_bytes s) (space_granules s) (omega (arith, granule_low s)) (omega (arith, space_is s))

-- the GPI of one granule of a map that a function gives
pub mapped_at : (f : ℕ → Gpi) (n g : ℕ) (gpis : List Gpi) (one : Gpi) → gpis ≡ map f (range_with_len 0 n) → g < n → slice_get gpis g ≡ Some one → one ≡ f g
mapped_at f n g gpis one is lt read =
    sym (get_or_from_slice_get gpis g one one read) ∙ ap (λ (xs : List Gpi). get_or xs g one) is ∙ get_or-map-range_with_len f 0 n g g one lt (omega arith)

pub mapped_length : (f : ℕ → Gpi) (n : ℕ) (gpis : List Gpi) → gpis ≡ map f (range_with_len 0 n) → length gpis ≡ n
mapped_length f n gpis is = ap length is ∙ length-map-range_with_len f 0 n

-- a region ends in the protected space
pub region_end : (s : SetupData) (r : Region) → is_outside s r ≡ false → first_granule s r + granule_count s r ≤ space_granules s
region_end s r inside =
    let k : ℕ = granule_bytes s in
    let room : r.base + r.size ≤ space_bytes s = ltb-false (space_bytes s) (r.base + r.size) inside in
    let base : r.base / k * k + r.base % k ≡ r.base = div-add-mod' r.base k in
    let size : r.size / k * k + r.size % k ≡ r.size = div-add-mod' r.size k in
    le_times (r.base / k + r.size / k) (space_granules s) k (omega (arith, granule_low s)) (omega (arith, space_is s))

none_found : (p : Region → Bool) (xs : List Region) → position p xs ≡ None → AllByRecursion (λ r. p r ≡ false) xs
none_found p xs e = none_passes p xs (ltb-false (position_or_len p xs) (length xs) (cond_none _ (position_or_len p xs) e))

pub all_inside : (s : SetupData) (regions sorted : List Region) → ArePlaced s regions → IsPermutation regions sorted → All (λ r. is_outside s r ≡ false) sorted
all_inside s regions sorted placed moved =
    All-permutation (λ r. is_outside s r ≡ false) regions sorted moved (All-from_recursion (λ r. is_outside s r ≡ false) regions (none_found (is_outside s) regions placed.inside))

-- ---- regions that share no granule

two : (s : SetupData) (g : ℕ) (a b : Region) → ((k : ℕ) → cond (is_in s k a) 1 0 + cond (is_in s k b) 1 0 ≤ 1) → is_in s g a ≡ true → is_in s g b ≡ true → ⊥
two s g a b once first second = let both = rw (first, second) at (once g) in omega arith

pair_apart : (s : SetupData) (a b : Region) → ((g : ℕ) → cond (is_in s g a) 1 0 + cond (is_in s g b) 1 0 ≤ 1) → 0 < granule_count s a → 0 < granule_count s b → do_share s a b ≡ false
pair_apart s a b once some other = false_from_ne_true (do_share s a b) (λ e.
    let parts = and_parts (ltb (first_granule s a) (first_granule s b + granule_count s b)) (ltb (first_granule s b) (first_granule s a + granule_count s a)) e in
    let first = ltb-true (first_granule s a) (first_granule s b + granule_count s b) parts.0 in
    let second = ltb-true (first_granule s b) (first_granule s a + granule_count s a) parts.1 in
    elim (cases_lt (first_granule s a) (first_granule s b)) [
      | inl before ↦ two s (first_granule s b) a b once (inside_both s (first_granule s b) a (omega arith) second) (inside_both s (first_granule s b) b (omega arith) (omega arith))
      | inr from ↦ two s (first_granule s a) a b once (inside_both s (first_granule s a) a (omega arith) (omega arith)) (inside_both s (first_granule s a) b from first)
    ])

none_shares : (s : SetupData) (r : Region) (xs : List Region) → ((g : ℕ) → cond (is_in s g r) 1 0 + holders s g xs ≤ 1) → 0 < granule_count s r → AllByRecursion (λ x. 0 < granule_count s x) xs
    → position_or_len (do_share s r) xs ≡ length xs
none_shares s r [] once some others = refl
none_shares s r (x ∷ xs) once some others =
    let apart = pair_apart s r x (λ g. let both = once g in omega arith) some others.0 in
    rw apart (omega (arith, none_shares s r xs (λ g. let both = once g in omega arith) some others.1))

pub no_overlap : (s : SetupData) (n : ℕ) (xs : List Region) → ((g : ℕ) → holders s g xs ≤ 1) → AllByRecursion (λ x. 0 < granule_count s x) xs → first_overlap s n xs ≡ None
no_overlap s n [] once some = refl
no_overlap s n (x ∷ xs) once some =
    let none : position (do_share s x) xs ≡ None = rw (none_shares s x xs once some.0 some.1, le-ltb (length xs) (length xs) (omega arith)) refl in
    rw none (no_overlap s (n + 1) xs (λ g. let both = once g in omega arith) some.1)

-- an aligned region has granules
three : (a b c : Bool) → (a || b || c) ≡ false → (b ≡ false) × (c ≡ false)
three true b c e = absurd cc
three false true c e = absurd cc
three false false true e = absurd cc
three false false false e = (refl, refl)

some_granules : (s : SetupData) (r : Region) → is_unaligned s r ≡ false → 0 < granule_count s r
some_granules s r aligned =
    let parts = three (not (eqb (r.base % granule_bytes s) 0)) (not (eqb (r.size % granule_bytes s) 0)) (eqb r.size 0) aligned in
    let whole = eqb-true (r.size % granule_bytes s) 0 (not-false (eqb (r.size % granule_bytes s) 0) parts.0) in
    let bytes : r.size / granule_bytes s * granule_bytes s + r.size % granule_bytes s ≡ r.size = div-add-mod' r.size (granule_bytes s) in
    elim (cases_lt 0 (r.size / granule_bytes s)) [
      | inl some ↦ some
      | inr none ↦
          let zero' : r.size / granule_bytes s ≡ 0 = omega arith in
          let empty : r.size ≡ 0 = sym bytes ∙ rw (zero', whole) (omega arith) in
          absurd (let both : eqb 0 0 ≡ false = rw empty at parts.1 in cc)
    ]

each_some : (s : SetupData) (xs : List Region) → AllByRecursion (λ r. is_unaligned s r ≡ false) xs → AllByRecursion (λ r. 0 < granule_count s r) xs
each_some s [] all = tt
each_some s (x ∷ xs) all = (some_granules s x all.0, each_some s xs all.1)

pub laid_apart : (s : SetupData) (at : ℕ) (regions sorted : List Region) → ArePlaced s regions → IsPermutation regions sorted → Laid s at sorted → first_overlap s 0 regions ≡ None
laid_apart s at regions sorted placed moved laid =
    no_overlap s 0 regions (λ g. let same = weight_permuted s g (λ _. 1) regions sorted moved in omega (arith, laid.once g))
    (each_some s regions (none_found (is_unaligned s) regions placed.aligned))

-- ---- what the rules say in their order

pub refused_overlap : (s : SetupData) (regions : List Region) (p : ℕ × ℕ) → ArePlaced s regions → first_overlap s 0 regions ≡ Some p → refusal s regions ≡ Some (refused.Overlap p.0 p.1)
unfolding refusal
refused_overlap s regions p placed shared =
    rw (placed.some, le-ltb 256 (length regions) placed.few, placed.aligned, placed.inside, placed.blocks, shared) refl

pub refused_tables : (s : SetupData) (regions : List Region) → ArePlaced s regions → first_overlap s 0 regions ≡ None → s.tables < tables_needed s regions
    → refusal s regions ≡ Some (refused.NoTables (tables_needed s regions))
unfolding refusal
refused_tables s regions placed apart lt =
    rw (placed.some, le-ltb 256 (length regions) placed.few, placed.aligned, placed.inside, placed.blocks, apart, lt-ltb s.tables (tables_needed s regions) lt) refl

pub accepted : (s : SetupData) (regions : List Region) → ArePlaced s regions → first_overlap s 0 regions ≡ None → tables_needed s regions ≤ s.tables → refusal s regions ≡ None
unfolding refusal
accepted s regions placed apart le =
    rw (placed.some, le-ltb 256 (length regions) placed.few, placed.aligned, placed.inside, placed.blocks, apart, le-ltb s.tables (tables_needed s regions) le) refl

pub ok_then : {T E : Type 0} (r : Result T E) (P Q : T → Type 0) → IfOk r P → ((x : T) → P x → Q x) → IfOk r Q
ok_then (Ok x) P Q h f = f x h
ok_then (Err e) P Q h f = h

pub err_known : {T E : Type 0} (r : Result T E) (A : Type 0) (B : E → Type 0) → A → IfErr r (λ e. A ⊎ B e)
err_known (Ok x) A B a = tt
err_known (Err e) A B a = inl a

-- the runs of all regions give the region map, whatever the order of the regions
pub laid_is_map : (s : SetupData) (at end : ℕ) (regions sorted : List Region) (runs : List Run) → IsPermutation regions sorted → Laid s at sorted
    → Covers end (then_one at (region_map s sorted) gpi.Any) runs → runs_map end runs ≡ map (region_map s regions) (range_with_len 0 end)
laid_is_map s at end regions sorted runs moved laid covers =
    covered_map end (region_map s regions) runs
    (covers_alike end (then_one at (region_map s sorted) gpi.Any) (region_map s regions) runs
    (λ g lt. map_to s at g sorted laid ∙ map_permuted s g regions sorted moved (laid.once g)) covers)
