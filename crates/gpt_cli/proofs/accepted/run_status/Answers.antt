use Rattle.std.proofs.Common.{List, length, sym, ap, ◌∙◌}
use Rattle.history.specs.declared.call.Answer.{Answer}
use Rattle.scenario_text.specs.declared.scenario.Script.{Script}
use Rattle.report_text.proofs.CallerLemmas.{answers_length}
use Rattle.gpt_cli.proofs.accepted.run_status.Goals as goal

pub has_left-requires : goal.has_left-requires
has_left-requires c =
    ap (λ (answers : List (List Answer)). length answers) c.as_slice-2.ensures
    ∙ answers_length c.args.scenario.now.scripts c.args.outcome.now.answers c.requires.answers
    ∙ sym (ap (λ (scripts : List Script). length scripts) c.as_slice.ensures)
