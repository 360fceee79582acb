use Rattle.std.proofs.Common.{ℕ, ◌≡◌, ◌<◌, ◌^◌, Some, arith, sym, ap, subst, ◌∙◌}
use Rattle.line_text.specs.Lines.{count}
use Rattle.gpt_cli.specs.declared.command.Request.TheVariants.{Load}
use Rattle.gpt_cli.proofs.RequestLemmas.{same_number, two_words, second_word}
use Rattle.gpt_cli.proofs.command.request_of.Goals as goal

pub returns-in-Some-clause-load : goal.returns-in-Some-clause-load
returns-in-Some-clause-load c = λ number.
    let found = c.in-Some.ensures.found in (
      (λ same.
          let is : c.in-Some.number ≡ number = cc in
          (two_words c.args.words.now _ _ _ c.in-load.len_at_least c.in-load.len_below c.in-load.is-load (found.0 ∙ ap count is), subst (λ (n : ℕ). n < 2 ^ 32) is found.1)),
      (λ load.
          ap (λ (n : ℕ). Some (Load n))
          (same_number c.in-Some.number number (omega (arith, found.1)) (omega (arith, load.1)) (sym found.0 ∙ second_word c.args.words.now _ _ _ load.0))),
    )
