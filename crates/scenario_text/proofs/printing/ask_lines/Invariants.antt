-- what is written so far, and the lines of the rest
use Rattle.std.proofs.Common.{◌≡◌, ◌++◌, drop, map, string_bytes}
use Rattle.std.specs.List.{flat_map}
use Rattle.scenario_text.specs.Spelling.{line_text, OneAsk}
use Rattle.scenario_text.proofs.printing.ask_lines.Given as goal

abbrev pub invariant-loop-ask : goal.invariant-loop-ask
invariant-loop-ask l =
    string_bytes l.out ++ flat_map line_text (map OneAsk (drop l.ask-index l.asks))
    ≡ string_bytes l.initial.out ++ flat_map line_text (map OneAsk l.asks)
