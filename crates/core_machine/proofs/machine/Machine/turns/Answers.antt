use Rattle.std.proofs.Common.{◌<◌, ℕ, replicate, sym, ◌∙◌, subst, arith}
use Rattle.std.proofs.lemmas.Bool.{ltb-false}
use Rattle.core_machine.proofs.MachineLemmas.{holds_after, length_so}
use Rattle.core_machine.proofs.StillLemmas.{turns_end}
use Rattle.core_machine.proofs.StoreLemmas.{no_turns, turns_on}
use Rattle.core_machine.proofs.machine.Machine.turns.Goals as goal

pub stride-turns-requires-clause-caller : goal.stride-turns-requires-clause-caller
stride-turns-requires-clause-caller g c =
    subst (λ (n : ℕ). c.args.caller < n) (sym (length_so c.args.self.now c.loop-made.self (replicate c.loop-made.made c.args.caller) c.loop-made.invariant.0)) c.requires.caller

pub stride-turns-requires-clause-invariant : goal.stride-turns-requires-clause-invariant
stride-turns-requires-clause-invariant g c = holds_after c.args.self.now c.loop-made.self (replicate c.loop-made.made c.args.caller) c.loop-made.invariant.0 c.requires.invariant

pub loop-made-preserved : goal.loop-made-preserved
loop-made-preserved g c = (
  turns_on c.args.self.now c.loop-made.self c.stride-turns.new.self c.args.caller c.loop-made.made c.stride-turns.result c.loop-made.invariant.0 c.stride-turns.ensures.turns,
  omega (arith, c.stride-turns.ensures.most, c.loop-made-test.true),
)

pub returns-then-turns-eq0-clause-turns : goal.returns-then-turns-eq0-clause-turns
returns-then-turns-eq0-clause-turns g c =
    let same = no_turns c.loop-made.self c.stride-turns.new.self c.args.caller c.stride-turns.result c.stride-turns.ensures.turns c.if-turns-eq0.true in
    turns_end c.args.self.now c.loop-made.self c.stride-turns.new.self c.args.caller c.loop-made.made c.args.count c.loop-made.invariant.0
    (same ∙ sym (c.stride-turns.ensures.still c.if-turns-eq0.true)) same c.loop-made-test.true

pub returns-then-turns-eq0-clause-still : goal.returns-then-turns-eq0-clause-still
returns-then-turns-eq0-clause-still g c = λ no.
    no_turns c.loop-made.self c.stride-turns.new.self c.args.caller c.stride-turns.result c.stride-turns.ensures.turns c.if-turns-eq0.true
    ∙ no_turns c.args.self.now c.loop-made.self c.args.caller c.loop-made.made c.loop-made.invariant.0 (omega (arith, ltb-false 0 c.loop-made.made no))

pub returns-clause-still : goal.returns-clause-still
returns-clause-still g c = λ no.
    no_turns c.args.self.now c.loop-made.self c.args.caller c.loop-made.made c.loop-made.invariant.0 (omega (arith, ltb-false 0 c.loop-made.made no))
