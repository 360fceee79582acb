-- the accesses drawn so far, and the value after their draws
use Rattle.std.proofs.Common.{◌≡◌, map}
use Rattle.std.specs.List.{range_with_len}
use Rattle.load_scenario.specs.Load.{draw, stepped_by, drawn_look}
use Rattle.load_scenario.proofs.calls.cpu.Given as goal

abbrev pub invariant-loop : goal.invariant-loop
invariant-loop l = record {
  looks : l.looks.items ≡ map (λ j. drawn_look (draw l.initial.generator.value j)) (range_with_len 0 l.counter);
  value : l.generator.value ≡ stepped_by l.counter l.initial.generator.value;
}
