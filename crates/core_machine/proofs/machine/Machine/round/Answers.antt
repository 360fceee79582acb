use Rattle.std.proofs.Common.{◌≡◌, ◌+◌, replicate, length, ap, ◌∙◌, arith}
use Rattle.std.specs.List.{flat_map, range_with_len}
use Rattle.std.proofs.lemmas.Bool.{or_parts}
use Rattle.core_machine.proofs.MachineLemmas.{holds_after, length_so, turns_more, range_front}
use Rattle.core_machine.proofs.machine.Machine.round.Goals as goal

pub part-changed-requires-clause-caller : goal.part-changed-requires-clause-caller
part-changed-requires-clause-caller g c =
    let h = length_so c.args.self.now c.loop-caller.self (flat_map (replicate c.args.count) (range_with_len 0 c.loop-caller.caller)) c.loop-caller.invariant.0 in
    let end : length c.callers-caller-end.result.now ≡ length c.args.self.now.callers = ap length c.callers-caller-end.ensures in
    omega (arith, h, end, c.loop-caller-test.true)

pub part-changed-requires-clause-invariant : goal.part-changed-requires-clause-invariant
part-changed-requires-clause-invariant g c =
    holds_after c.args.self.now c.loop-caller.self (flat_map (replicate c.args.count) (range_with_len 0 c.loop-caller.caller)) c.loop-caller.invariant.0 c.requires

pub loop-caller-preserved : goal.loop-caller-preserved
loop-caller-preserved g c = (
  c.part-changed.ensures.turns
      ∙ turns_more c.args.self.now c.loop-caller.self (flat_map (replicate c.args.count) (range_with_len 0 c.loop-caller.caller)) (replicate c.args.count c.loop-caller.caller)
      (flat_map (replicate c.args.count) (range_with_len 0 (c.loop-caller.caller + 1))) c.loop-caller.invariant.0
      (range_front (replicate c.args.count) c.loop-caller.caller),
  λ no. let parts = or_parts _ _ no in c.part-changed.ensures.still parts.1 ∙ c.loop-caller.invariant.1 parts.0,
)
