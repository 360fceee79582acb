-- what is written so far, and the lines of the rest
use Rattle.std.proofs.Common.{◌≡◌, ◌++◌, drop, string_bytes}
use Rattle.std.specs.List.{flat_map}
use Rattle.scenario_text.specs.Spelling.{line_text, script_lines}
use Rattle.scenario_text.proofs.printing.sections.Given as goal

abbrev pub invariant-loop-script : goal.invariant-loop-script
invariant-loop-script l =
    string_bytes l.out ++ flat_map line_text (flat_map script_lines (drop l.script-index l.scripts))
    ≡ string_bytes l.initial.out ++ flat_map line_text (flat_map script_lines l.scripts)
