use Rattle.table_meaning.proofs.ChangeLemmas.{change_own, change_apart, change_elsewhere}
use Rattle.table_meaning.proofs.law.a_change_moves_one_word.Goals as goal

pub returns : goal.returns
returns c = record { own = change_own; beside = change_apart; elsewhere = change_elsewhere }
