use Rattle.std.proofs.Common.{◌≡◌, ◌+◌, ◌*◌, sym, subst}
use Rattle.gpt_descriptors.specs.declared.size.Size.{Size}
use Rattle.gpt_descriptors.specs.declared.size.Size.TheVariants as size
use Rattle.table_meaning.specs.Fusing.{load_at}
use Rattle.fuse.specs.Merging.{FuseData}
use Rattle.fuse.proofs.IndexLemmas.{five_twelve_place}
use Rattle.fuse.proofs.merging.Fuse.load_place.Goals as goal

pub returns-in-FiveTwelve : goal.returns-in-FiveTwelve
returns-in-FiveTwelve c =
    subst (λ (z : Size). c.self.inside.five_twelve_start + c.beside-in-FiveTwelve.result * c.self.inside.thirty_two ≡ c.args.self.now.first + load_at c.args.self.now.two c.args.self.now.own z c.args.k)
    (sym c.in-FiveTwelve.is)
    (subst (λ (d : FuseData). c.self.inside.five_twelve_start + c.beside-in-FiveTwelve.result * c.self.inside.thirty_two ≡ d.first + load_at d.two d.own size.FiveTwelve c.args.k) c.self.view_is
    (five_twelve_place c.self.inside.first c.self.inside.own c.self.inside.two c.self.inside.five_twelve_start c.self.inside.thirty_two c.self.inside.thirty_two_number c.beside-in-FiveTwelve.result c.args.k
    c.self.invariant.4 c.self.invariant.1 c.self.invariant.6 c.beside-in-FiveTwelve.ensures.value))
