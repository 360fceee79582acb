-- what is written so far, and the lines of the rest
use Rattle.std.proofs.Common.{◌≡◌, ◌++◌, drop, map, string_bytes}
use Rattle.std.specs.List.{flat_map}
use Rattle.scenario_text.specs.Spelling.{line_text, OneLook}
use Rattle.scenario_text.proofs.printing.look_lines.Given as goal

abbrev pub invariant-loop-look : goal.invariant-loop-look
invariant-loop-look l =
    string_bytes l.out ++ flat_map line_text (map OneLook (drop l.look-index l.looks))
    ≡ string_bytes l.initial.out ++ flat_map line_text (map OneLook l.looks)
