use Rattle.std.proofs.Common.{◌≡◌, subst}
use Rattle.std.specs.Prelude.{IfOk}
use Rattle.history.specs.declared.outcome.Outcome.{Outcome}
use Rattle.core_machine.specs.InnerPlay.{played_trace}
use Rattle.core_machine.specs.Run.{IsRun}
use Rattle.gpt_cli.specs.Replies.{played_reply}
use Rattle.gpt_cli.proofs.AcceptedLemmas.{with_any}
use Rattle.gpt_cli.proofs.accepted.reply_of_play.Goals as goal

pub returns-clause-reply : goal.returns-clause-reply
returns-clause-reply c =
    let s = c.args.prepared.scenario in
    subst (λ (o : Outcome). IfOk c.reply_of_outcome.result (λ reply. reply ≡ played_reply s o)) c.in_ok-outcome.ensures.trace c.reply_of_outcome.ensures

pub returns-clause-upholds : goal.returns-clause-upholds
returns-clause-upholds c =
    let s = c.args.prepared.scenario in
    with_any c.reply_of_outcome.result (λ accepted. subst (λ (o : Outcome). IsRun s o (played_trace s)) c.in_ok-outcome.ensures.trace c.in_ok-outcome.ensures.run)
