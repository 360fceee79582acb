-- Which lists of regions are refused: the first rule that fails, each at its least index.
use Rattle.std.specs.Prelude.{◌≡◌, ◌≤◌, ℕ, ◌+◌, ◌%◌, Bool, true, false, ◌&&◌, ◌||◌, not, List, [], ◌∷◌, length, Option, Some, None, ◌==◌, nat_lt, position}
use Rattle.std.specs.Option.{option_map, option_or}
use Rattle.gpt_descriptors.specs.Sizes.{SetupData, granule_bytes, region_bytes, space_bytes}
use Rattle.region_plan.specs.declared.region.Region.{Region}
use Rattle.region_plan.specs.declared.refusing.PlanError.{PlanError}
use Rattle.region_plan.specs.declared.refusing.PlanError.TheVariants as refused
use Rattle.region_plan.specs.Regions.{first_granule, granule_count, is_granule_kind, tables_needed}

-- base or size isn't a multiple of the granule, or the region is empty
abbrev pub is_unaligned : SetupData → Region → Bool
is_unaligned s r =
    not (r.base % granule_bytes s == 0) || not (r.size % granule_bytes s == 0) || (r.size == 0)

-- the region ends above the protected space
abbrev pub is_outside : SetupData → Region → Bool
is_outside s r = nat_lt (space_bytes s) (r.base + r.size)

-- a block region whose base or size isn't a multiple of a gigabyte
abbrev pub is_no_block : Region → Bool
is_no_block r =
    not (is_granule_kind r.kind)
    && (not (r.base % region_bytes == 0) || not (r.size % region_bytes == 0))

-- two regions share a granule
abbrev pub do_share : SetupData → Region → Region → Bool
do_share s a b =
    nat_lt (first_granule s a) (first_granule s b + granule_count s b)
    && nat_lt (first_granule s b) (first_granule s a + granule_count s a)

-- the first two regions that share a granule: the least i, then the least j, counted from n
abbrev pub first_overlap : SetupData → ℕ → List Region → Option (ℕ × ℕ)
first_overlap s n [] = None
first_overlap s n (r ∷ rs) =
    option_or (option_map (λ k. (n, n + 1 + k)) (position (do_share s r) rs))
    (first_overlap s (n + 1) rs)

-- what the rules before that on overlaps say: 1 to 256 regions, each aligned, inside and of a
-- fitting kind
pub record ArePlaced (s : SetupData) (regions : List Region) : Type 0 where
  pub some : (length regions == 0) ≡ false
  pub few : length regions ≤ 256
  pub aligned : position (is_unaligned s) regions ≡ None
  pub inside : position (is_outside s) regions ≡ None
  pub blocks : position is_no_block regions ≡ None

-- the error where the test holds
abbrev pub where_true : Bool → PlanError → Option PlanError
where_true true e = Some e
where_true false e = None

-- more tables are needed than there are
abbrev pub where_lacking : ℕ → ℕ → Option PlanError
where_lacking tables need = where_true (nat_lt tables need) (refused.NoTables need)

-- the first answer that there is
abbrev pub first_some : {A : Type 0} → List (Option A) → Option A
first_some [] = None
first_some (o ∷ os) = option_or o (first_some os)

-- each rule with the error of its least index, in the order in which they are tested
abbrev pub rules : SetupData → List Region → List (Option PlanError)
rules s regions =
    where_true (length regions == 0) refused.Empty
    ∷ where_true (nat_lt 256 (length regions)) refused.TooMany
    ∷ option_map refused.Unaligned (position (is_unaligned s) regions)
    ∷ option_map refused.Outside (position (is_outside s) regions)
    ∷ option_map refused.NotBlock (position is_no_block regions)
    ∷ option_map (λ p. refused.Overlap p.0 p.1) (first_overlap s 0 regions)
    ∷ where_lacking s.tables (tables_needed s regions)
    ∷ []

-- the first rule that fails
unfoldable pub refusal : SetupData → List Region → Option PlanError
refusal s regions = first_some (rules s regions)
