use Rattle.gpt_descriptors.proofs.PlaceLemmas.{geometry_tables}
use Rattle.gpt_descriptors.proofs.geometry.Geometry.l1_tables.Goals as goal

pub returns-clause-range : goal.returns-clause-range
returns-clause-range c = geometry_tables _ c.self.invariant
