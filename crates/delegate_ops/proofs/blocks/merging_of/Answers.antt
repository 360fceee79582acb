use Rattle.std.proofs.Common.{ℕ, Option, refl, ap, sym, ◌∙◌, subst, ◌≡◌}
use Rattle.std.specs.Option.{IfSome}
use Rattle.gpt_descriptors.specs.Places.{l1_index_of}
use Rattle.fuse.specs.Merging.{fuse_of}
use Rattle.delegate_ops.specs.InnerAgents.{number_of}
use Rattle.delegate_ops.proofs.NextLemmas.{acts_place, acts_index}
use Rattle.delegate_ops.proofs.blocks.merging_of.Goals as goal

pub new-requires-clause-table : goal.new-requires-clause-table
new-requires-clause-table c = rw (c.address_of.ensures, (acts_place c.args.geometry.now c.args.task c.requires).1) refl

pub returns : goal.returns
returns c =
    let g = c.args.geometry.now in
    let there = acts_index g c.args.task c.requires in
    let made = subst (λ (pa : ℕ). IfSome (l1_index_of g pa) (λ i. c.new.result ≡ fuse_of g i c.args.word)) c.address_of.ensures c.new.ensures in
    subst (λ (o : Option ℕ). IfSome o (λ i. c.new.result ≡ fuse_of g i c.args.word)) there.1 made
    ∙ ap (λ (o : Option ℕ). fuse_of g (number_of o) c.args.word) (sym there.1)
