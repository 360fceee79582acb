use Rattle.std.proofs.Common.{◌≡◌, drop}
use Rattle.region_plan.specs.Refusals.{first_overlap}
use Rattle.region_plan.proofs.refusing.overlap.Given as goal

abbrev pub invariant-loop-i : goal.invariant-loop-i
invariant-loop-i l = first_overlap l.setup 0 l.regions ≡ first_overlap l.setup l.i (drop l.i l.regions)
