use Rattle.history.proofs.HistoryLemmas.{final_look}
use Rattle.history.proofs.law.settled_means_final.Goals as goal

pub returns : goal.returns
returns c = final_look
