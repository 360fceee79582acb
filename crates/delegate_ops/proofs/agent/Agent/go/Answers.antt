use Rattle.std.proofs.Common.{sym, subst, arith}
use Rattle.delegate_ops.specs.InnerTurns.{MayTurn}
use Rattle.delegate_ops.proofs.TurnLemmas.{turned_more}
use Rattle.delegate_ops.proofs.agent.Agent.go.Goals as goal

pub turn-requires-clause-place : goal.turn-requires-clause-place
turn-requires-clause-place g c = (subst MayTurn (sym c.loop-made.invariant) (c.requires c.loop-made.made (omega (arith, c.loop-made-test.true)))).0

pub turn-requires-clause-readable : goal.turn-requires-clause-readable
turn-requires-clause-readable g c = (subst MayTurn (sym c.loop-made.invariant) (c.requires c.loop-made.made (omega (arith, c.loop-made-test.true)))).1

pub loop-made-preserved : goal.loop-made-preserved
loop-made-preserved g c =
    turned_more c.loop-made.made c.loop-made.self c.turn.new.self (g.W.Words.words c.loop-made.words) (g.W.Words.words c.turn.new.words) (c.args.self.now, g.W.Words.words c.args.words.now)
    c.loop-made.invariant c.turn.ensures.after c.turn.ensures.words
