-- What building answers: a code and two numbers. negsuc n is -(n + 1).
use Rattle.std.specs.Prelude.{◌≡◌, ◌⊎◌, ℕ, Bool, true, false, ◌&&◌, ℤ, pos, negsuc, List, ◌++◌, drop, length, map, Option, Some, None, nat_le, if◌then◌else◌}
use Rattle.std.specs.List.{list_all}
use Rattle.gpt_descriptors.specs.Sizes.{SetupData}
use Rattle.region_plan.specs.declared.region.Region.{Region}
use Rattle.region_plan.specs.declared.refusing.PlanError.{PlanError}
use Rattle.region_plan.specs.declared.refusing.PlanError.TheVariants as refused
use Rattle.region_plan.specs.Regions.{region_l0}
use Rattle.region_plan.specs.Refusals.{refusal}
use Rattle.table_build.specs.Built.{region_l1, is_bad_base}
use Rattle.gpt_rme_build_c.specs.declared.numbers.SetupNumbers.{SetupNumbers}
use Rattle.gpt_rme_build_c.specs.declared.numbers.RegionNumbers.{RegionNumbers}
use Rattle.gpt_rme_build_c.specs.declared.building.Told.{Told}
use Rattle.gpt_rme_build_c.specs.declared.building.Verdict.{Verdict}
use Rattle.gpt_rme_build_c.specs.Numbers.{setup_with, is_region, region_as}

abbrev pub says : ℤ → ℕ → ℕ → Verdict
says code first second = record { code = code; told = record { first = first; second = second } }

abbrev pub done : ℤ
done = pos 0

abbrev pub bad_data : Verdict
bad_data = says (negsuc 0) 0 0

abbrev pub no_memory : Verdict
no_memory = says (negsuc 3) 0 0

abbrev pub bad_base : Verdict
bad_base = says (negsuc 16) 0 0

-- which rule refuses the regions, with the indices of the regions or the number of tables
abbrev pub plan_verdict : PlanError → Verdict
plan_verdict refused.Empty = says (negsuc 9) 0 0
plan_verdict refused.TooMany = says (negsuc 10) 0 0
plan_verdict (refused.Unaligned i) = says (negsuc 11) i 0
plan_verdict (refused.Outside i) = says (negsuc 12) i 0
plan_verdict (refused.NotBlock i) = says (negsuc 13) i 0
plan_verdict (refused.Overlap i j) = says (negsuc 14) i j
plan_verdict (refused.NoTables need) = says (negsuc 15) need 0
plan_verdict refused.Memory = no_memory

-- the words l0 and l1 in arrays of n0 and n1 words: done where both fit, else there is no room
abbrev pub fits : List ℕ → List ℕ → ℕ → ℕ → Bool
fits l0 l1 n0 n1 = nat_le (length l0) n0 && nat_le (length l1) n1

abbrev pub room_code : Bool → ℤ
room_code true = done
room_code false = negsuc 4

abbrev pub room_verdict : List ℕ → List ℕ → ℕ → ℕ → Verdict
room_verdict l0 l1 n0 n1 = says (room_code (fits l0 l1 n0 n1)) (length l0) (length l1)

-- of accepted regions
abbrev pub base_verdict : SetupData → List Region → ℕ → ℕ → Verdict
base_verdict s regions n0 n1 =
    if is_bad_base s regions then bad_base
    else room_verdict (region_l0 s regions) (region_l1 s regions) n0 n1

abbrev pub regions_verdict : SetupData → List Region → ℕ → ℕ → Option PlanError → Verdict
regions_verdict s regions n0 n1 (Some e) = plan_verdict e
regions_verdict s regions n0 n1 None = base_verdict s regions n0 n1

abbrev pub setup_verdict : List RegionNumbers → ℕ → ℕ → Option SetupData → Verdict
setup_verdict rs n0 n1 None = bad_data
setup_verdict rs n0 n1 (Some s) =
    if list_all is_region rs
    then regions_verdict s (map region_as rs) n0 n1 (refusal s (map region_as rs)) else bad_data

-- Building answers the first of these causes: of numbers, of the rules, of the base and of room.
-- Instead it may answer that memory ran out.
abbrev pub verdict_of : SetupNumbers → List RegionNumbers → ℕ → ℕ → Verdict
verdict_of s rs n0 n1 = setup_verdict rs n0 n1 (setup_with s)

abbrev pub IsAnswered : SetupNumbers → List RegionNumbers → ℕ → ℕ → Verdict → Type 0
IsAnswered s rs n0 n1 v = (v ≡ verdict_of s rs n0 n1) ⊎ (v ≡ no_memory)

-- the same where the numbers stand for a setup and regions
abbrev pub AnswersRegions : SetupData → List RegionNumbers → ℕ → ℕ → Verdict → Type 0
AnswersRegions s rs n0 n1 v =
    (v ≡ regions_verdict s (map region_as rs) n0 n1 (refusal s (map region_as rs)))
    ⊎ (v ≡ no_memory)

-- a cause other than room
abbrev pub IsCause : SetupData → List Region → Verdict → Type 0
IsCause s regions v = ((n0 n1 : ℕ) → v ≡ regions_verdict s regions n0 n1 (refusal s regions))
    ⊎ (v ≡ no_memory)

-- an array that begins with these words, and goes on as it was
abbrev pub laid : List ℕ → List ℕ → List ℕ
laid words old = words ++ drop (length words) old

-- the arrays begin with the canonical tables of the regions
abbrev pub AreLaid : SetupData → List Region → List ℕ → List ℕ → List ℕ → List ℕ → Type 0
AreLaid s regions l0 l1 new0 new1 =
    (new0 ≡ laid (region_l0 s regions) l0) × (new1 ≡ laid (region_l1 s regions) l1)

abbrev pub AreLaidFor : Option SetupData → List Region → List ℕ → List ℕ → List ℕ → List ℕ
    → Type 0
AreLaidFor None regions l0 l1 new0 new1 = ⊥
AreLaidFor (Some s) regions l0 l1 new0 new1 = AreLaid s regions l0 l1 new0 new1
