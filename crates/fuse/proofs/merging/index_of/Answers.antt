use Rattle.fuse.proofs.IndexLemmas.{index_after, index_value, index_low}
use Rattle.fuse.proofs.merging.index_of.Goals as goal

pub overflow_sub-result : goal.overflow_sub-result
overflow_sub-result c = index_after c.args.geometry.now c.args.pa c.in-Some.place c.first_l1_word.result c.in-Some.ensures.place c.first_l1_word.ensures.place

pub returns-clause-value : goal.returns-clause-value
returns-clause-value c = index_value c.args.geometry.now c.args.pa c.in-Some.place c.first_l1_word.result c.in-Some.ensures.place c.first_l1_word.ensures.place

pub returns-clause-range : goal.returns-clause-range
returns-clause-range c =
    index_low c.args.geometry.now c.args.pa c.in-Some.place c.first_l1_word.result c.requires.geometry c.in-Some.ensures.place c.first_l1_word.ensures.place
