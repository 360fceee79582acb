use Rattle.std.proofs.Common.{subst}
use Rattle.gpt_descriptors.specs.Places.{GeometryData, IsGeometry}
use Rattle.gpt_descriptors.proofs.PlaceLemmas.{l0_known}
use Rattle.gpt_descriptors.proofs.geometry.Geometry.l0_word.Goals as goal

pub returns-clause-known : goal.returns-clause-known
returns-clause-known c = l0_known _ _ (subst (λ (g : GeometryData). IsGeometry g) c.self.view_is c.self.invariant) c.requires
