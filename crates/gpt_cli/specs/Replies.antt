-- What the program replies to an input: a status, and the text that it writes.
use Rattle.std.specs.Prelude.{◌≡◌, ℕ, Bool, false, ◌||◌, List, [], ◌∷◌, length, Option, Some, None, MatchOption, MatchBool, nat_lt, if◌then◌else◌}
use Rattle.scenario_text.specs.declared.scenario.Scenario.{Scenario}
use Rattle.scenario_text.specs.declared.scenario.Script.{Script}
use Rattle.scenario_text.specs.Spelling.{WellFormed, text_of}
use Rattle.scenario_text.specs.Calls.{calls_of}
use Rattle.scenario_text.specs.Faults.{first_bad}
use Rattle.region_plan.specs.declared.refusing.PlanError.{PlanError}
use Rattle.region_plan.specs.Refusals.{refusal}
use Rattle.table_build.specs.Built.{tables_of, is_bad_base}
use Rattle.report_text.specs.TablesText.{report_of_tables}
use Rattle.report_text.specs.declared.run.Mode.TheVariants as mode
use Rattle.report_text.specs.RunText.{report_of_run}
use Rattle.report_text.specs.LoadText.{report_of_load}
use Rattle.load_scenario.specs.Load.{load_of}
use Rattle.history.specs.declared.call.Answer.{Answer}
use Rattle.history.specs.declared.outcome.Outcome.{Outcome}
use Rattle.core_machine.specs.InnerPlay.{played, outcome_of}
use Rattle.gpt_stream.specs.declared.input.TheConstants.{INPUT_LIMIT}
use Rattle.gpt_cli.specs.declared.command.Command.{Command}
use Rattle.gpt_cli.specs.declared.command.Command.TheVariants as command
use Rattle.gpt_cli.specs.declared.reply.Reply.{Reply}
use Rattle.gpt_cli.specs.declared.status.Status.{Status}
use Rattle.gpt_cli.specs.declared.status.Status.TheVariants as status
use Rattle.gpt_cli.specs.Upheld.{Upholds, UpholdsLoad}
use Rattle.gpt_cli.specs.Texts.{usage_text, too_long_text, line_text, plan_text, base_text}

abbrev pub done : List ℕ → Reply
done text = record { status = status.Done; text = text }

abbrev pub refused : List ℕ → Reply
refused text = record { status = status.Refused; text = text }

abbrev pub usage : Reply
usage = record { status = status.Usage; text = usage_text }

-- ---- the report of a run

-- a call has no answer
abbrev pub has_left : List Script → List (List Answer) → Bool
has_left [] answers = false
has_left (s ∷ scripts) [] = nat_lt 0 (calls_of s) || has_left scripts []
has_left (s ∷ scripts) (own ∷ answers) =
    nat_lt (length own) (calls_of s) || has_left scripts answers

-- the status of what a run left: `Left` exactly where a call has no answer
abbrev pub run_status : Scenario → Outcome → Status
run_status s o = if has_left s.scripts o.answers then status.Left else status.Done

-- the report of what a run left
abbrev pub played_reply : Scenario → Outcome → Reply
played_reply s o = record { status = run_status s o; text = report_of_run mode.Play s o }

-- ---- the reply to a scenario

-- where its regions and its base are accepted
abbrev pub accepted_reply : Command → Scenario → Reply
accepted_reply command.Tables s = done (report_of_tables (tables_of s.setup s.regions))
accepted_reply command.Play s = played_reply s (outcome_of (played s))

-- where no rule refuses its regions
abbrev pub plan_reply : Command → Scenario → Reply
plan_reply command s =
    if is_bad_base s.setup s.regions
    then refused (base_text s.setup.base)
    else accepted_reply command s

abbrev pub planned_reply : Command → Scenario → Option PlanError → Reply
planned_reply command s (Some e) = refused (plan_text e)
planned_reply command s None = plan_reply command s

-- The rule that refuses its regions, or its bad base, or what the command reports: for `tables` the
-- canonical tables of its region map, for `play` what the turns of its schedule leave.
unfoldable pub reply_of : Command → Scenario → Reply
reply_of command s = planned_reply command s (refusal s.setup s.regions)

-- ---- the reply to an input

-- what the scenario of a text without a bad line gives
abbrev pub RepliesToGood : Command → List ℕ → Reply → Type 0
RepliesToGood command bytes reply =
    (s : Scenario) × WellFormed s × (bytes ≡ text_of s) × (reply ≡ reply_of command s)
    × Upholds command s

-- The reply to a text: its first bad line, or what its scenario gives.
abbrev pub RepliesToText : Command → List ℕ → Reply → Type 0
RepliesToText command bytes reply =
    MatchOption (first_bad bytes) (RepliesToGood command bytes reply)
    (λ bad. reply ≡ refused (line_text bad.0 bad.1))

-- The reply to the bytes that were read.
abbrev pub Replies : Command → List ℕ → Reply → Type 0
Replies command bytes reply =
    MatchBool (nat_lt INPUT_LIMIT (length bytes)) (reply ≡ refused too_long_text)
    (RepliesToText command bytes reply)

-- ---- the reply to a load

-- The summary of what the turns of the scenario of this number leave.
abbrev pub loaded_reply : ℕ → Scenario → Outcome → Reply
loaded_reply number s o = record { status = run_status s o; text = report_of_load number s o }

abbrev pub RepliesToLoad : ℕ → Reply → Type 0
RepliesToLoad number reply =
    (reply ≡ loaded_reply number (load_of number) (outcome_of (played (load_of number))))
    × UpholdsLoad number
