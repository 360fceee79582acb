-- what is written so far, and the lines of the rest
use Rattle.std.proofs.Common.{◌≡◌, ◌++◌, drop, map, string_bytes}
use Rattle.std.specs.List.{flat_map}
use Rattle.scenario_text.specs.Spelling.{line_text, OneRegion}
use Rattle.scenario_text.proofs.printing.region_lines.Given as goal

abbrev pub invariant-loop-region : goal.invariant-loop-region
invariant-loop-region l =
    string_bytes l.out ++ flat_map line_text (map OneRegion (drop l.region-index l.regions))
    ≡ string_bytes l.initial.out ++ flat_map line_text (map OneRegion l.regions)
