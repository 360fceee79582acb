use Rattle.std.proofs.Common.{sym}
use Rattle.gpt_descriptors.proofs.PlaceLemmas.{index_none}
use Rattle.gpt_descriptors.proofs.geometry.Geometry.l1_index.Goals as goal

pub returns-in-None-clause-value : goal.returns-in-None-clause-value
returns-in-None-clause-value c = sym (index_none c.args.self.now c.args.pa c.in-None.ensures.none)
