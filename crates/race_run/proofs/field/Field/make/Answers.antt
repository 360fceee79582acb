use Rattle.race_run.specs.Passes.{PassData}
use Rattle.race_run.proofs.TurnLemmas.{acted_by, passes_on, ready_of}
use Rattle.race_run.proofs.field.Field.make.Goals as goal

pub took-requires-clause-readable : goal.took-requires-clause-readable
took-requires-clause-readable c =
    let own = c.requires.pass in
    (c.act_on-old.ensures.acted own.0 c.args.caller.now (ready_of _ _ c.args.self.now _ c.args.pass.now own.0 c.args.caller.now c.args.act c.self.view_is c.pass.view_is c.self.invariant.0 own.1 c.requires.next)).readable

pub returns-clause-acted : goal.returns-clause-acted
returns-clause-acted c =
    let after : PassData = record { id = c.act_on-old.new.seat.table_id; number = c.act_on-old.new.seat.id; view = c.act_on-old.new.seat.me.0 } in
    λ d own. (
      c.act_on-old.result,
      c.took.ensures,
      acted_by _ c.args.self.now c.args.pass.now _ after d c.act_on-old.result c.args.caller.now c.self.view_is c.pass.view_is
          (c.act_on-old.ensures.acted d c.args.caller.now (ready_of _ _ c.args.self.now _ c.args.pass.now d c.args.caller.now c.args.act c.self.view_is c.pass.view_is c.self.invariant.0 own c.requires.next)),
    )

pub returns-clause-again : goal.returns-clause-again
returns-clause-again c =
    λ d own.
    passes_on _ c.args.self.now _ c.args.pass.now _ d c.act_on-old.result c.args.caller.now c.took.new.self c.self.view_is c.pass.view_is c.act_on-old.ensures.seat.0
    (c.act_on-old.ensures.acted d c.args.caller.now (ready_of _ _ c.args.self.now _ c.args.pass.now d c.args.caller.now c.args.act c.self.view_is c.pass.view_is c.self.invariant.0 own c.requires.next))
    c.took.ensures own
