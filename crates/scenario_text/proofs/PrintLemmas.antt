-- The text of a scenario, part by part in the order of its lines.
use Rattle.std.proofs.Common.{◌≡◌, ℕ, List, ◌∷◌, [], ◌++◌, map, ◌∙◌, ap, codes}
use Rattle.std.specs.List.{flat_map}
use Rattle.std.proofs.lemmas.Grind.{flat_map-append}
use Rattle.scenario_text.specs.declared.scenario.Scenario.{Scenario}
use Rattle.scenario_text.specs.Spelling.{Line, text_of, line_text, head_lines, script_lines, OneRegion, OneSlot, End}

five_parts : (a b c d e : List Line) → flat_map line_text (a ++ b ++ c ++ d ++ e) ≡ flat_map line_text a ++ flat_map line_text b ++ flat_map line_text c ++ flat_map line_text d ++ flat_map line_text e
five_parts a b c d e =
    flat_map-append line_text (a ++ b ++ c ++ d) e
    ∙ ap (λ (t : List ℕ). t ++ flat_map line_text e) (flat_map-append line_text (a ++ b ++ c) d
    ∙ ap (λ (t : List ℕ). t ++ flat_map line_text d) (flat_map-append line_text (a ++ b) c
    ∙ ap (λ (t : List ℕ). t ++ flat_map line_text c) (flat_map-append line_text a b)))

pub text_parts : (s : Scenario) → text_of s ≡ flat_map line_text (head_lines s.setup) ++ flat_map line_text (map OneRegion s.regions) ++ flat_map line_text (flat_map script_lines s.scripts) ++ flat_map line_text (map OneSlot s.schedule) ++ codes "end\n"
unfolding text_of
text_parts s = five_parts (head_lines s.setup) (map OneRegion s.regions) (flat_map script_lines s.scripts) (map OneSlot s.schedule) (End ∷ [])
