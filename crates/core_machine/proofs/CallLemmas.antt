-- Calls of a script are transitions, or unknown.
use Rattle.std.proofs.Common.{◌≡◌, false, List, [], ◌∷◌, map, refl, inl, inr}
use Rattle.std.specs.List.{All}
use Rattle.std.proofs.lemmas.Bool.{cases_Bool}
use Rattle.std.proofs.lemmas.List.Elements.{All-nil, All-cons}
use Rattle.core_machine.proofs.Names.{Task, is_look, task_of_ask}
use Rattle.scenario_text.specs.declared.scenario.Ask.{Ask}
use Rattle.scenario_text.specs.declared.scenario.Ask.TheVariants as ask
use Rattle.rmm_calls.specs.Codes.{is_admitted}

ask_no_look : (a : Ask) → is_look (task_of_ask a) ≡ false
ask_no_look (ask.Delegate pa source) = refl
ask_no_look (ask.Undelegate pa source) = refl
ask_no_look (ask.SmcDelegate pa world) = elim (cases_Bool (is_admitted world)) [ inl yes_so ↦ rw yes_so refl | inr not_so ↦ rw not_so refl ]
ask_no_look (ask.SmcUndelegate pa world) = elim (cases_Bool (is_admitted world)) [ inl yes_so ↦ rw yes_so refl | inr not_so ↦ rw not_so refl ]

pub asks_no_looks : (asks : List Ask) → All (λ t. is_look t ≡ false) (map task_of_ask asks)
asks_no_looks [] = All-nil (λ (t : Task). is_look t ≡ false)
asks_no_looks (a ∷ asks) = All-cons (λ (t : Task). is_look t ≡ false) (task_of_ask a) (map task_of_ask asks) (ask_no_look a) (asks_no_looks asks)
