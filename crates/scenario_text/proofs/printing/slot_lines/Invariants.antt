-- what is written so far, and the lines of the rest
use Rattle.std.proofs.Common.{◌≡◌, ◌++◌, drop, map, string_bytes}
use Rattle.std.specs.List.{flat_map}
use Rattle.scenario_text.specs.Spelling.{line_text, OneSlot}
use Rattle.scenario_text.proofs.printing.slot_lines.Given as goal

abbrev pub invariant-loop-slot : goal.invariant-loop-slot
invariant-loop-slot l =
    string_bytes l.out ++ flat_map line_text (map OneSlot (drop l.slot-index l.schedule))
    ≡ string_bytes l.initial.out ++ flat_map line_text (map OneSlot l.schedule)
