-- Going over regions and gigabytes one at a time.
use Rattle.std.proofs.Common.{◌≡◌, ℕ, ◌+◌, ◌-◌, ◌≤◌, ◌<◌, Bool, true, false, cond, ltb, List, [], ◌∷◌, ◌++◌, length, get_or, take, drop, Option, Some, None, refl, sym, ap, ◌∙◌, add-one, inl, inr, arith, length-append}
use Rattle.std.specs.List.{position, position_or_len, find, AllByRecursion}
use Rattle.std.proofs.lemmas.Bool.{cases_Bool, ltb-false}
use Rattle.std.proofs.lemmas.List.Folds.{find-append}
use Rattle.std.specs.Option.{option_map, option_or}
use Rattle.std.proofs.lemmas.List.{drop_more, take_rest, take_more, take_all}
use Rattle.gpt_descriptors.specs.Sizes.{SetupData}
use Rattle.region_plan.specs.declared.region.Region.{Region}
use Rattle.region_plan.specs.declared.refusing.PlanError.{PlanError}
use Rattle.region_plan.specs.declared.refusing.PlanError.TheVariants as refused
use Rattle.region_plan.specs.Regions.{needs_table, tabled_below, tables_needed, is_in, gpi_or_any, region_map}
use Rattle.region_plan.specs.Refusals.{is_no_block, do_share, first_overlap, where_true, first_some, rules, refusal}

rest : (xs : List Region) (i : ℕ) → take (length xs - (i + 1)) (drop (i + 1) xs) ≡ drop (i + 1) xs
rest xs i = take_rest xs (i + 1)

-- the region at i shares a granule with the k-th behind it
pub overlap_found : (s : SetupData) (xs : List Region) (i k : ℕ) (d : Region) → i < length xs
    → position (do_share s (get_or xs i d)) (take (length xs - (i + 1)) (drop (i + 1) xs)) ≡ Some k
    → first_overlap s i (drop i xs) ≡ Some (i, i + 1 + k)
overlap_found s xs i k d lt found = rw (drop_more xs i d lt, sym (rest xs i), found) refl

-- it shares none, so the search goes on
pub overlap_none : (s : SetupData) (xs : List Region) (i : ℕ) (d : Region) → i < length xs
    → position (do_share s (get_or xs i d)) (take (length xs - (i + 1)) (drop (i + 1) xs)) ≡ None
    → first_overlap s i (drop i xs) ≡ first_overlap s (i + 1) (drop (i + 1) xs)
overlap_none s xs i d lt none = rw (drop_more xs i d lt, sym (rest xs i), none) refl

-- one more gigabyte
pub tabled_more : (regions : List Region) (q : ℕ) → tabled_below regions (q + 1) ≡ tabled_below regions q ++ cond (needs_table regions q) (q ∷ []) []
unfolding tabled_below
tabled_more regions q = ap (tabled_below regions) (add-one q)

one_length : (b : Bool) (q : ℕ) → length (cond b (q ∷ []) []) ≡ cond b 1 0
one_length true q = refl
one_length false q = refl

pub tables_more : (regions : List Region) (q : ℕ) → length (tabled_below regions (q + 1)) ≡ length (tabled_below regions q) + cond (needs_table regions q) 1 0
tables_more regions q =
    ap length (tabled_more regions q) ∙ length-append (tabled_below regions q) (cond (needs_table regions q) (q ∷ []) [])
    ∙ ap (λ (n : ℕ). length (tabled_below regions q) + n) (one_length (needs_table regions q) q)

pub tabled_none : (regions : List Region) → tabled_below regions 0 ≡ []
unfolding tabled_below
tabled_none regions = refl

pub ruleset table_steps = (tables_more, tabled_none)

-- one more region, of which two tests say the same
pub find_more : (p q : Region → Bool) (xs : List Region) (i : ℕ) (d : Region) → i < length xs
    → find p (take i xs) ≡ find q (take i xs) → p (get_or xs i d) ≡ q (get_or xs i d) → find p (take (i + 1) xs) ≡ find q (take (i + 1) xs)
find_more p q xs i d lt same last =
    ap (find p) (take_more xs i d lt) ∙ find-append p (take i xs) (get_or xs i d ∷ []) ∙ rw (same, last) refl
    ∙ sym (ap (find q) (take_more xs i d lt) ∙ find-append q (take i xs) (get_or xs i d ∷ []))

-- granules that the regions hold alike have one GPI
pub map_same : (s : SetupData) (regions : List Region) (g k i : ℕ) → length regions ≤ i
    → find (is_in s k) (take i regions) ≡ find (is_in s g) (take i regions) → region_map s regions k ≡ region_map s regions g
unfolding region_map
map_same s regions g k i le same =
    ap gpi_or_any (ap (find (is_in s k)) (sym (take_all i regions le)) ∙ same ∙ ap (find (is_in s g)) (take_all i regions le))

-- ---- what no refusal says

or_none : {A : Type 0} (a b : Option A) → option_or a b ≡ None → (a ≡ None) × (b ≡ None)
or_none (Some x) b e = absurd cc
or_none None b e = (refl, e)

-- no rule fails
none_fails : {A : Type 0} (os : List (Option A)) → first_some os ≡ None → AllByRecursion (λ o. o ≡ None) os
none_fails [] e = tt
none_fails (o ∷ os) e = (let both = or_none o (first_some os) e in both.0, none_fails os (or_none o (first_some os) e).1)

where_none : (b : Bool) (x : PlanError) → where_true b x ≡ None → b ≡ false
where_none true x e = absurd cc
where_none false x e = refl

-- accepted regions need no more tables than the setup has
pub accepted_tables : (s : SetupData) (regions : List Region) → refusal s regions ≡ None → tables_needed s regions ≤ s.tables
unfolding refusal
accepted_tables s regions e =
    let each = none_fails (rules s regions) e in
    ltb-false s.tables (tables_needed s regions)
    (where_none (ltb s.tables (tables_needed s regions)) (refused.NoTables (tables_needed s regions)) each.1.1.1.1.1.1.0)

map_none : {A B : Type 0} (f : A → B) (o : Option A) → option_map f o ≡ None → o ≡ None
map_none f (Some x) e = absurd cc
map_none f None e = refl

pub cond_none : (b : Bool) (n : ℕ) → cond b (Some n) None ≡ None → b ≡ false
cond_none true n e = absurd cc
cond_none false n e = refl

pub none_passes : (p : Region → Bool) (xs : List Region) → length xs ≤ position_or_len p xs → AllByRecursion (λ r. p r ≡ false) xs
none_passes p [] le = tt
none_passes p (x ∷ xs) le =
    elim (cases_Bool (p x)) [
      | inl one ↦ absurd (let least = rw one at le in omega arith)
      | inr none ↦ (none, none_passes p xs (let least = rw none at le in omega arith))
    ]

-- each accepted block region is aligned to gigabytes
pub accepted_blocks : (s : SetupData) (regions : List Region) → refusal s regions ≡ None → AllByRecursion (λ r. is_no_block r ≡ false) regions
unfolding refusal
accepted_blocks s regions e =
    let each = none_fails (rules s regions) e in
    none_passes is_no_block regions
    (ltb-false (position_or_len is_no_block regions) (length regions)
    (cond_none _ (position_or_len is_no_block regions) (map_none refused.NotBlock (position is_no_block regions) each.1.1.1.1.0)))
