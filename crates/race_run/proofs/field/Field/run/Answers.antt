use Rattle.std.proofs.Common.{[], refl, sym, ◌∙◌, append-nil}
use Rattle.race_run.proofs.TurnLemmas.{sees_more}
use Rattle.race_run.proofs.field.Field.run.Goals as goal

pub loop-init : goal.loop-init
loop-init g c = (λ d own. own, refl, refl, ([], sym (append-nil c.args.pass.now.view.seen)))

pub returns-in_default-clause-pass : goal.returns-in_default-clause-pass
returns-in_default-clause-pass g c = λ d own. c.loop.invariant.0 d own

pub make-requires-clause-pass : goal.make-requires-clause-pass
make-requires-clause-pass g c = (c.requires.pass.0, c.loop.invariant.0 c.requires.pass.0 c.requires.pass.1)

pub loop-preserved-then-waits : goal.loop-preserved-then-waits
loop-preserved-then-waits g c = (
  λ d own. c.make.ensures.again d (c.loop.invariant.0 d own),
  c.make.ensures.pass.0 ∙ c.loop.invariant.1,
  c.make.ensures.pass.1 ∙ c.loop.invariant.2,
  sees_more c.args.self.now.opening c.requires.pass.0 (c.make.ensures.acted c.requires.pass.0 (c.loop.invariant.0 c.requires.pass.0 c.requires.pass.1)).0 c.loop.caller c.args.pass.now.view.seen c.loop.pass.view c.make.new.pass.view c.loop.invariant.3
      (c.make.ensures.acted c.requires.pass.0 (c.loop.invariant.0 c.requires.pass.0 c.requires.pass.1)).2,
)

pub loop-preserved-then-answers-call : goal.loop-preserved-then-answers-call
loop-preserved-then-answers-call g c = (
  λ d own. c.make.ensures.again d (c.loop.invariant.0 d own),
  c.make.ensures.pass.0 ∙ c.loop.invariant.1,
  c.make.ensures.pass.1 ∙ c.loop.invariant.2,
  sees_more c.args.self.now.opening c.requires.pass.0 (c.make.ensures.acted c.requires.pass.0 (c.loop.invariant.0 c.requires.pass.0 c.requires.pass.1)).0 c.loop.caller c.args.pass.now.view.seen c.loop.pass.view c.make.new.pass.view c.loop.invariant.3
      (c.make.ensures.acted c.requires.pass.0 (c.loop.invariant.0 c.requires.pass.0 c.requires.pass.1)).2,
)

pub loop-preserved : goal.loop-preserved
loop-preserved g c = (
  λ d own. c.make.ensures.again d (c.loop.invariant.0 d own),
  c.make.ensures.pass.0 ∙ c.loop.invariant.1,
  c.make.ensures.pass.1 ∙ c.loop.invariant.2,
  sees_more c.args.self.now.opening c.requires.pass.0 (c.make.ensures.acted c.requires.pass.0 (c.loop.invariant.0 c.requires.pass.0 c.requires.pass.1)).0 c.loop.caller c.args.pass.now.view.seen c.loop.pass.view c.make.new.pass.view c.loop.invariant.3
      (c.make.ensures.acted c.requires.pass.0 (c.loop.invariant.0 c.requires.pass.0 c.requires.pass.1)).2,
)
