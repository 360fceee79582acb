use Rattle.gpt_cli.proofs.PreparingLemmas.{plan_refuses, build_refuses, refused_by}
use Rattle.gpt_cli.proofs.prepare.prepare.Goals as goal

pub returns-in_err-plan-clause-refused : goal.returns-in_err-plan-clause-refused
returns-in_err-plan-clause-refused c =
    let read = c.in_ok-scenario.ensures.scenario in
    let bad = rw c.as_slice.ensures at c.in_err-plan.ensures.refused in
    refused_by c.args.bytes.items _ c.from_residual-in_err-plan.result c.from_residual-in_err-plan.ensures.1
    (plan_refuses c.args.bytes.items c.in_ok-scenario.scenario c.in_err-plan.field-0.0 read bad)

pub returns-in_err-tables-clause-refused : goal.returns-in_err-tables-clause-refused
returns-in_err-tables-clause-refused c =
    let read = c.in_ok-scenario.ensures.scenario in
    let planned = rw c.as_slice.ensures at c.in_ok-plan.ensures.accepted in
    let bad = rw (c.in_ok-plan.ensures.plan, c.as_slice.ensures, c.base.ensures.value) at c.in_err-tables.ensures.bad in
    refused_by c.args.bytes.items _ c.from_residual-in_err-tables.result c.from_residual-in_err-tables.ensures.1
    (build_refuses c.args.bytes.items c.in_ok-scenario.scenario c.in_err-tables.field-0.0 read planned bad)
