use Rattle.std.proofs.Common.{◌≡◌, ◌+◌, ℕ, arith, length, ap, ◌∙◌}
use Rattle.std.specs.List.{flat_map, range_with_len}
use Rattle.core_machine.specs.InnerMachine.{after_turns}
use Rattle.core_machine.proofs.MachineLemmas.{holds_after, length_so, turns_more, range_front}
use Rattle.core_machine.proofs.StillLemmas.{rounds_end}
use Rattle.core_machine.proofs.machine.Machine.rounds.Goals as goal
use Rattle.core_machine.specs.Scenarios.{round_turns, rounds_of}

pub round-requires : goal.round-requires
round-requires g c =
    holds_after c.args.self.now c.loop.self (flat_map (λ (k : ℕ). round_turns (length c.args.self.now.callers) c.args.count) (range_with_len 0 c.loop.counter)) c.loop.invariant c.requires

pub loop-preserved : goal.loop-preserved
loop-preserved g c =
    let front = flat_map (λ (k : ℕ). round_turns (length c.args.self.now.callers) c.args.count) (range_with_len 0 c.loop.counter) in
    c.round.ensures.turns
    ∙ ap (λ (n : ℕ). after_turns c.loop.self (round_turns n c.args.count)) (length_so c.args.self.now c.loop.self front c.loop.invariant)
    ∙ turns_more c.args.self.now c.loop.self front (round_turns (length c.args.self.now.callers) c.args.count)
    (flat_map (λ (k : ℕ). round_turns (length c.args.self.now.callers) c.args.count) (range_with_len 0 (c.loop.counter + 1))) c.loop.invariant
    (range_front (λ (k : ℕ). round_turns (length c.args.self.now.callers) c.args.count) c.loop.counter)

pub returns-then-not-round : goal.returns-then-not-round
returns-then-not-round g c =
    let front = flat_map (λ (k : ℕ). round_turns (length c.args.self.now.callers) c.args.count) (range_with_len 0 c.loop.counter) in
    rounds_end c.args.self.now c.loop.self c.round.new.self (round_turns (length c.args.self.now.callers) c.args.count) c.loop.counter c.args.times c.loop.invariant
    (c.round.ensures.turns ∙ ap (λ (n : ℕ). after_turns c.loop.self (round_turns n c.args.count)) (length_so c.args.self.now c.loop.self front c.loop.invariant))
    (c.round.ensures.still c.if-not-round.true) c.loop-test.true

pub returns : goal.returns
returns g c =
    let all : c.loop.counter ≡ c.args.times = omega (arith, c.loop.auto.counter-end, c.loop-test.false) in
    c.loop.invariant ∙ ap (λ (n : ℕ). after_turns c.args.self.now (rounds_of (length c.args.self.now.callers) c.args.count n)) all
