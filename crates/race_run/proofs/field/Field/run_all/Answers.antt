use Rattle.std.proofs.Common.{◌≡◌, length, None, sym, ap, ◌∙◌, subst, arith}
use Rattle.std.specs.Prelude.{slice_get}
use Rattle.std.proofs.lemmas.Option.{get_or_from_slice_get, slice_get_within}
use Rattle.core_machine.specs.InnerCallers.{caller_next}
use Rattle.race_run.specs.declared.racing.Runner.{Runner}
use Rattle.race_run.specs.Passes.{IsPassOf}
use Rattle.race_run.proofs.RunnerLemmas.{there_at, whole_slice}
use Rattle.race_run.proofs.field.Field.run_all.Goals as goal

pub for_each_mut-requires-clause-accepts : goal.for_each_mut-requires-clause-accepts
for_each_mut-requires-clause-accepts g c κs within = λ i p low at. c.requires i p.now (there_at c.as_mut_slice.result.now c.args.runners.now.items i p.now c.as_mut_slice.ensures.value low at)

pub returns-clause-runners : goal.returns-clause-runners
returns-clause-runners g c = λ d r at.
    let many : length c.for_each_mut.new.s ≡ length c.as_mut_slice.result.now = c.for_each_mut.auto.s in
    let all = ap (λ l. length l) c.as_mut_slice.ensures.value in
    let is = whole_slice c.args.runners.now.items c.for_each_mut.new.s c.args.runners.now.len (omega (arith, many, all, c.args.runners.now.ok.0)) (omega (arith, c.args.runners.now.ok.0)) in
    let there = ap (λ l. slice_get l d) (sym is) ∙ at in
    let low = slice_get_within c.for_each_mut.new.s d r there in
    let changes = (c.for_each_mut.ensures d r (omega (arith, low, many))).1 in
    subst (λ (q : Runner). IsPassOf c.args.self.now q.pass d q.caller) (changes.left ∙ get_or_from_slice_get c.for_each_mut.new.s d r r there) changes.call.0

pub returns-clause-ended : goal.returns-clause-ended
returns-clause-ended g c = λ d r at.
    let many : length c.for_each_mut.new.s ≡ length c.as_mut_slice.result.now = c.for_each_mut.auto.s in
    let all = ap (λ l. length l) c.as_mut_slice.ensures.value in
    let is = whole_slice c.args.runners.now.items c.for_each_mut.new.s c.args.runners.now.len (omega (arith, many, all, c.args.runners.now.ok.0)) (omega (arith, c.args.runners.now.ok.0)) in
    let there = ap (λ l. slice_get l d) (sym is) ∙ at in
    let low = slice_get_within c.for_each_mut.new.s d r there in
    let changes = (c.for_each_mut.ensures d r (omega (arith, low, many))).1 in
    subst (λ (q : Runner). caller_next q.caller ≡ None) (changes.left ∙ get_or_from_slice_get c.for_each_mut.new.s d r r there) changes.call.1
