use Rattle.std.proofs.Common.{sym, ◌∙◌}
use Rattle.line_text.proofs.Cuts.{cut_none, cut_some}
use Rattle.line_text.proofs.cutting.cut.Goals as goal

pub returns-in-None-clause-none : goal.returns-in-None-clause-none
returns-in-None-clause-none c = cut_none _ c.args.text.now (sym c.position_of.ensures ∙ c.in-None.is)

pub returns-in-Some-clause-some : goal.returns-in-Some-clause-some
returns-in-Some-clause-some c = cut_some _ c.args.text.now c.in-Some.k (sym c.position_of.ensures ∙ c.in-Some.is)
