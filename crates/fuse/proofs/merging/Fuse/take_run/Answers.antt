use Rattle.std.proofs.Common.{ℕ, ◌<◌, ◌-◌, ◌≡◌, min, ap, ◌∙◌, subst}
use Rattle.table_meaning.specs.declared.fusing.Fusing.{Fusing}
use Rattle.table_meaning.specs.Fusing.{block_words}
use Rattle.fuse.specs.Merging.{FuseData, IsCounted}
use Rattle.fuse.proofs.RunLemmas.{at_step, run_is_next, run_is_made}
use Rattle.fuse.proofs.merging.Fuse.take_run.Goals as goal

low : (c : goal.After-self-1) → c.in-Storing.k < block_words c.self.inside.two c.in-Storing.size
low c = subst (IsCounted c.self.inside.two) c.in-Storing.is c.self.invariant.0.counted

count : (c : goal.After-self-1) → c.min.result ≡ min c.args.most (block_words c.self.inside.two c.in-Storing.size - c.in-Storing.k)
count c = c.min.ensures ∙ ap (λ (n : ℕ). min c.args.most (n - c.in-Storing.k)) c.block_words.ensures

pub returns-clause-next : goal.returns-clause-next
returns-clause-next c =
    run_is_next _ c.args.self.now c.in-Storing.size c.args.most c.in-Storing.k c.min.result c.store_place.result c.encode_l1.result c.self.view_is c.in-Storing.is (low c) (count c)
    c.store_place.ensures c.encode_l1.ensures.word

pub returns-clause-after : goal.returns-clause-after
returns-clause-after c =
    ap (λ (f : Fusing). let e : FuseData = at_step f (record { first = c.self.inside.first; own = c.self.inside.own; two = c.self.inside.two; max = c.self.inside.max; gpi = c.self.inside.gpi; step = c.self.inside.step }) in e) c.stored_to-self-inside.ensures
    ∙ run_is_made _ c.args.self.now c.in-Storing.size c.args.most c.in-Storing.k c.min.result c.self.view_is c.in-Storing.is (low c) (count c)
