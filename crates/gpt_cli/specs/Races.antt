-- What `race` replies to an input: the report of one legal history.
use Rattle.std.specs.Prelude.{◌≡◌, ℕ, List, [], ◌∷◌, length, codes, nat_lt, MatchBool, MatchOption}
use Rattle.scenario_text.specs.declared.scenario.Scenario.{Scenario}
use Rattle.scenario_text.specs.Spelling.{WellFormed, text_of}
use Rattle.scenario_text.specs.Faults.{first_bad}
use Rattle.region_plan.specs.Refusals.{refusal}
use Rattle.table_build.specs.Built.{is_bad_base}
use Rattle.report_text.specs.declared.run.Mode.TheVariants as mode
use Rattle.report_text.specs.RunText.{report_of_run}
use Rattle.history.specs.declared.entry.Entry.{Entry}
use Rattle.history.specs.declared.outcome.Outcome.{Outcome}
use Rattle.race_run.specs.Race.{HasRaced}
use Rattle.gpt_stream.specs.declared.input.TheConstants.{INPUT_LIMIT}
use Rattle.gpt_cli.specs.declared.reply.Reply.{Reply}
use Rattle.gpt_cli.specs.Replies.{done, refused}
use Rattle.gpt_cli.specs.Texts.{too_long_text, line_text, plan_text, base_text}

-- the words are the command `race` alone
abbrev pub IsRace : List (List ℕ) → Type 0
IsRace words = words ≡ codes "race" ∷ []

-- The headline. The printed report is that of answers to all calls and of words that fit one legal
-- history of a plain map from granule to space, which has each call once and in its caller's order:
-- `FitsHistory` of core_machine, in `raced.fits`, says so field by field. Among them, an access
-- that is decided after a transition is complete is never granted by the former space (`final`),
-- and the printed tables are the canonical ones of the last map (`whole`), since each call is
-- answered (`raced.answered`).
pub record IsRaced (s : Scenario) (reply : Reply) : Type 0 where
  pub outcome : Outcome
  pub history : List Entry
  pub raced : HasRaced s outcome history
  pub printed : reply ≡ done (report_of_run mode.Race s outcome)

-- the rule that refuses the scenario's regions, or its bad base, or such a report
abbrev pub RacesScenario : Scenario → Reply → Type 0
RacesScenario s reply =
    MatchOption (refusal s.setup s.regions)
    (MatchBool (is_bad_base s.setup s.regions) (reply ≡ refused (base_text s.setup.base))
    (IsRaced s reply))
    (λ e. reply ≡ refused (plan_text e))

-- what the scenario of a text without a bad line gives
abbrev pub RacesGood : List ℕ → Reply → Type 0
RacesGood bytes reply =
    (s : Scenario) × WellFormed s × (bytes ≡ text_of s) × RacesScenario s reply

-- The reply to the bytes that were read: that they are too many, the first bad line, or what their
-- scenario gives.
abbrev pub Races : List ℕ → Reply → Type 0
Races bytes reply =
    MatchBool (nat_lt INPUT_LIMIT (length bytes)) (reply ≡ refused too_long_text)
    (MatchOption (first_bad bytes) (RacesGood bytes reply)
    (λ bad. reply ≡ refused (line_text bad.0 bad.1)))
