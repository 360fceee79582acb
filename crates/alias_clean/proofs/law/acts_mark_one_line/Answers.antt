use Rattle.alias_clean.proofs.LineLemmas.{touched_line, cleaned_line, shown_line}
use Rattle.alias_clean.proofs.law.acts_mark_one_line.Goals as goal

pub returns : goal.returns
returns c = record { touched = touched_line; cleaned = cleaned_line; shown = λ word k t low. shown_line word k t }
