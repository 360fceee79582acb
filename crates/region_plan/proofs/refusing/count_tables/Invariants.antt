use Rattle.std.proofs.Common.{◌≡◌, ◌≤◌}
use Rattle.region_plan.specs.Regions.{tables_below}
use Rattle.region_plan.proofs.refusing.count_tables.Given as goal

abbrev pub invariant-loop-q : goal.invariant-loop-q
invariant-loop-q l = (l.need ≡ tables_below l.regions l.q) × (l.need ≤ l.q)
