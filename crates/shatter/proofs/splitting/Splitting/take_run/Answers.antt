use Rattle.std.proofs.Common.{◌+◌, sym, ap, ◌∙◌}
use Rattle.shatter.specs.Splitting.{SplittingData}
use Rattle.shatter.proofs.RunLemmas.{made_more, advanced_is, run_is_next}
use Rattle.shatter.proofs.splitting.Splitting.take_run.Goals as goal

pub returns-clause-next : goal.returns-clause-next
returns-clause-next c =
    run_is_next c.args.self.now _ c.word.result c.run_length.result (ap (λ (d : SplittingData). d.first + d.made) c.self.view_is) c.word.ensures
    c.run_length.ensures.stores c.run_length.ensures.within

pub returns-clause-after : goal.returns-clause-after
returns-clause-after c = ap (made_more c.run_length.result) c.self.view_is ∙ sym (advanced_is c.run_length.result c.args.self.now)
