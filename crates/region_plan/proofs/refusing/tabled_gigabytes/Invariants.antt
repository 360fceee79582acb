use Rattle.std.proofs.Common.{◌≡◌, ◌<◌, ℕ, false, length, get_or}
use Rattle.region_plan.specs.Regions.{needs_table}
use Rattle.region_plan.proofs.refusing.tabled_gigabytes.Given as goal

abbrev pub invariant-loop-q : goal.invariant-loop-q
invariant-loop-q l = (length l.tabled ≡ 64) × ((k : ℕ) → k < l.q → get_or l.tabled k false ≡ needs_table l.regions k)
