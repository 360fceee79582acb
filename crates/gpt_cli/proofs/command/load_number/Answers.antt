use Rattle.std.proofs.Common.{arith, ◌∙◌}
use Rattle.gpt_cli.proofs.RequestLemmas.{number_read}
use Rattle.gpt_cli.proofs.command.load_number.Goals as goal

pub returns-in_default-clause-none : goal.returns-in_default-clause-none
returns-in_default-clause-none c = λ number low is.
    let same = number_read c.as_bytes.result.now c.in-Some.number number c.in-Some.ensures.exact (c.as_bytes.ensures.value ∙ is) (omega (arith, low)) in
    absurd (omega (arith, low, same, c.if-number.false))
