use Rattle.std.proofs.Common.{rules, ℕ, Some, sym, ap, ◌∙◌, subst}
use Rattle.gpt_cli.specs.Replies.{usage}
use Rattle.gpt_cli.specs.Runs.{Delivers}
use Rattle.gpt_cli.proofs.ReplyLemmas.{replies_same, load_same}
use Rattle.gpt_cli.proofs.program.still.Goals as goal

pub returns-in_default-clause-usage : goal.returns-in_default-clause-usage
returns-in_default-clause-usage g c = λ none no_load.
    subst (λ (code : ℕ). Delivers (g.K.Sink.held c.args.sink.now) (g.K.Sink.held c.send.new.sink) (g.K.Sink.faults c.args.sink.now) (g.K.Sink.faults c.send.new.sink) usage code)
    (sym c.code.ensures) c.send.ensures

pub returns-in-Ok-reply_to-clause-reply : goal.returns-in-Ok-reply_to-clause-reply
returns-in-Ok-reply_to-clause-reply g c = λ command words not_fault not_memory. (
  c.in-Ok-read_input.bytes.items,
  c.in-Ok-reply_to.reply,
  c.in-Ok-read_input.ensures.taken,
  c.in-Ok-read_input.ensures.ended,
  c.in-Ok-read_input.ensures.ok,
  replies_same c.request_of.result c.in-Read.command command c.in-Ok-read_input.bytes.items c.in-Ok-reply_to.reply (c.in-Some.is ∙ ap Some c.in-Read.is) ((c.request_of.ensures.command command).1 words)
      c.in-Ok-reply_to.ensures.replies,
  search rules,
)

pub returns-in-Ok-clause-load : goal.returns-in-Ok-clause-load
returns-in-Ok-clause-load g c = λ number words not_memory. (
  c.in-Ok.loaded,
  load_same c.request_of.result c.in-Load.number number c.in-Ok.loaded (c.in-Some.is ∙ ap Some c.in-Load.is) ((c.request_of.ensures.load number).1 words) c.in-Ok.ensures.replies,
  search rules,
)
