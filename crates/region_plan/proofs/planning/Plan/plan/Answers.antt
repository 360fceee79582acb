use Rattle.std.proofs.Common.{◌≡◌, ◌≤◌, ◌<◌, Some, None, inl, inr, arith}
use Rattle.region_plan.specs.declared.refusing.PlanError.{PlanError}
use Rattle.region_plan.specs.Regions.{tables_needed}
use Rattle.region_plan.specs.Refusals.{refusal}
use Rattle.region_plan.proofs.LayingLemmas.{refused_overlap, refused_tables, accepted, err_known}
use Rattle.region_plan.proofs.planning.Plan.plan.Goals as goal

pub returns-in-Err-clause-refused : goal.returns-in-Err-clause-refused
returns-in-Err-clause-refused c = refused_overlap c.args.setup.now c.args.regions.now c.in-Err.pair c.in-None.ensures.placed c.in-Err.ensures.shared

pub returns-in-Err-clause-given : goal.returns-in-Err-clause-given
returns-in-Err-clause-given c = inr (refused_overlap c.args.setup.now c.args.regions.now c.in-Err.pair c.in-None.ensures.placed c.in-Err.ensures.shared)

pub returns-then-need-tables-clause-refused : goal.returns-then-need-tables-clause-refused
returns-then-need-tables-clause-refused c =
    let more : c.args.setup.now.tables < tables_needed c.args.setup.now c.args.regions.now = omega (arith, c.tables.ensures.value, c.count_tables-need.ensures.count) in
    rw c.count_tables-need.ensures.count (refused_tables c.args.setup.now c.args.regions.now c.in-None.ensures.placed c.in-Ok.ensures.apart more)

pub returns-then-need-tables-clause-given : goal.returns-then-need-tables-clause-given
returns-then-need-tables-clause-given c =
    let more : c.args.setup.now.tables < tables_needed c.args.setup.now c.args.regions.now = omega (arith, c.tables.ensures.value, c.count_tables-need.ensures.count) in
    inr (rw c.count_tables-need.ensures.count (refused_tables c.args.setup.now c.args.regions.now c.in-None.ensures.placed c.in-Ok.ensures.apart more))

pub returns-in_default-clause-given : goal.returns-in_default-clause-given
returns-in_default-clause-given c =
    let few : tables_needed c.args.setup.now c.args.regions.now ≤ c.args.setup.now.tables = omega (arith, c.tables.ensures.value, c.count_tables-need.ensures.count) in
    inl (accepted c.args.setup.now c.args.regions.now c.in-None.ensures.placed c.in-Ok.ensures.apart few)

pub returns-in_err-from_slice-clause-given : goal.returns-in_err-from_slice-clause-given
returns-in_err-from_slice-clause-given c =
    let few : tables_needed c.args.setup.now c.args.regions.now ≤ c.args.setup.now.tables = omega (arith, c.tables.ensures.value, c.count_tables-need.ensures.count) in
    err_known c.from_residual.result (refusal c.args.setup.now c.args.regions.now ≡ None) (λ (e : PlanError). refusal c.args.setup.now c.args.regions.now ≡ Some e)
    (accepted c.args.setup.now c.args.regions.now c.in-None.ensures.placed c.in-Ok.ensures.apart few)

pub returns-clause-accepted : goal.returns-clause-accepted
returns-clause-accepted c =
    let few : tables_needed c.args.setup.now c.args.regions.now ≤ c.args.setup.now.tables = omega (arith, c.tables.ensures.value, c.count_tables-need.ensures.count) in
    accepted c.args.setup.now c.args.regions.now c.in-None.ensures.placed c.in-Ok.ensures.apart few

pub invariant_of-result : goal.invariant_of-result
invariant_of-result c =
    let few : tables_needed c.args.setup.now c.args.regions.now ≤ c.args.setup.now.tables = omega (arith, c.tables.ensures.value, c.count_tables-need.ensures.count) in
    rw c.in_ok-from_slice.ensures.items (record {
      accepted = accepted c.args.setup.now c.args.regions.now c.in-None.ensures.placed c.in-Ok.ensures.apart few;
      gpis_are = rw c.in-Some-map.is at c.in-Ok.ensures.map;
      tabled_are = c.tabled_gigabytes-tabled.ensures;
      need_is = c.count_tables-need.ensures.count;
      few = c.count_tables-need.ensures.bound;
    })
