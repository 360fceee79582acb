use Rattle.std.proofs.Common.{◌+◌, sym, ap, ◌∙◌, Ok, subst}
use Rattle.std.proofs.lemmas.Result.{err_from_is_err_and}
use Rattle.scenario_text.specs.declared.scenario.Scenario.{Scenario}
use Rattle.scenario_text.specs.declared.context.Context.{Context}
use Rattle.scenario_text.specs.InnerDrafts.{data_of}
use Rattle.scenario_text.proofs.Loop.{Going, going_at_start, next_of_line, goes_on, stops, ends_badly, ends_well, ends_set}
use Rattle.scenario_text.proofs.parsing.scenario.Goals as goal

pub loop-line-init : goal.loop-line-init
loop-line-init c = going_at_start c.args.bytes.now (data_of c.new-draft.result) c.new-draft.ensures

pub returns-in-Err : goal.returns-in-Err
returns-in-Err c =
    stops c.args.bytes.now c.loop-line.number c.loop-line.rest.now c.in-Some.line.now c.in-Some.more.now c.loop-line.context (data_of c.loop-line.draft) c.in-Err.fault c.loop-line.invariant c.in-Some.ensures.some c.in-Err.ensures

pub after-context-requires-clause-next : goal.after-context-requires-clause-next
after-context-requires-clause-next c = next_of_line c.loop-line.context c.in-Some.line.now c.in-Ok.said c.in-Ok.ensures

pub loop-line-preserved : goal.loop-line-preserved
loop-line-preserved c =
    subst (λ (st : Context). Going c.args.bytes.now (c.loop-line.number + 1) c.in-Some.more.now st (data_of c.take.new.self)) (sym c.after-context.ensures)
    (goes_on c.args.bytes.now c.loop-line.number c.loop-line.rest.now c.in-Some.line.now c.in-Some.more.now c.loop-line.context (data_of c.loop-line.draft) (data_of c.take.new.self) c.in-Ok.said
    c.loop-line.invariant c.in-Some.ensures.some c.in-Some.ensures.shorter c.in-Ok.ensures c.in_ok-take.ensures.taken)

pub returns-in_err-end : goal.returns-in_err-end
returns-in_err-end c =
    let p = err_from_is_err_and c.from_residual-in_err-end.result c.from_residual-in_err-end.ensures.1 in
    rw (p.1, p.2) (ends_badly c.args.bytes.now c.loop-line.number c.loop-line.rest.now c.loop-line.context (data_of c.loop-line.draft) c.in_err-end.field-0.0 c.loop-line.invariant c.in_default.ensures.none c.in_err-end.ensures)

pub finish-requires : goal.finish-requires
finish-requires c = ends_set c.args.bytes.now c.loop-line.number c.loop-line.rest.now c.loop-line.context (data_of c.loop-line.draft) c.loop-line.invariant c.in_default.ensures.none c.in_ok-end.ensures

pub returns : goal.returns
returns c =
    ends_well c.args.bytes.now c.loop-line.number c.loop-line.rest.now c.loop-line.context (data_of c.loop-line.draft) c.loop-line.invariant c.in_default.ensures.none c.in_ok-end.ensures
    ∙ ap (λ (s : Scenario). Ok s) (sym c.finish.ensures)
