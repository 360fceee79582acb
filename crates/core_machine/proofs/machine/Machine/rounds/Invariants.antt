use Rattle.std.proofs.Common.{◌≡◌, ℕ, length}
use Rattle.std.specs.List.{flat_map, range_with_len}
use Rattle.core_machine.specs.InnerMachine.{after_turns}
use Rattle.core_machine.proofs.machine.Machine.rounds.Given as goal
use Rattle.core_machine.specs.Scenarios.{round_turns}

abbrev pub invariant-loop : goal.invariant-loop
invariant-loop g l = l.self ≡ after_turns l.initial.self (flat_map (λ (k : ℕ). round_turns (length l.initial.self.callers) l.count) (range_with_len 0 l.counter))
