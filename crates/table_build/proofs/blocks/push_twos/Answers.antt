use Rattle.std.proofs.Common.{◌≡◌, ◌++◌, List, ℕ, ap, ◌∙◌, rules, arith}
use Rattle.gpt_descriptors.specs.declared.size.Size.TheVariants as size
use Rattle.gpt_descriptors.specs.Sizes.{words_of, space_words}
use Rattle.gpt_descriptors.proofs.SizeLemmas.{thirty_two_is}
use Rattle.table_build.proofs.BlockLemmas.{blocks_more, thirty_two_words, then_pushed, at_first, at_next, at_end, inner_inside}
use Rattle.table_build.proofs.blocks.push_twos.Goals as goal

pub loop-k-init : goal.loop-k-init
loop-k-init c = record {
  words = search rules;
  at = at_first c.args.plan.now.setup c.args.plan.now.regions c.args.b (words_of c.args.plan.now.setup size.Two) (words_of c.args.plan.now.setup size.ThirtyTwo) c.args.cursor.now
      (thirty_two_is c.args.plan.now.setup) c.requires.at;
}

pub push_two-requires-clause-inside : goal.push_two-requires-clause-inside
push_two-requires-clause-inside c =
    inner_inside c.args.b c.loop-k.k (words_of c.args.plan.now.setup size.Two) (words_of c.args.plan.now.setup size.ThirtyTwo) (space_words c.args.plan.now.setup)
    c.loop-k-test.true (thirty_two_is c.args.plan.now.setup) c.requires.inside

pub loop-k-preserved : goal.loop-k-preserved
loop-k-preserved c = record {
  words =
      then_pushed _ _ _ _ _ _ (blocks_more c.args.plan.now.setup c.args.plan.now.regions c.args.b c.loop-k.k (words_of c.args.plan.now.setup size.Two))
      c.loop-k.invariant.words c.in_ok-push_two.ensures.words;
  at = at_next c.args.plan.now.setup c.args.plan.now.regions c.args.b c.loop-k.k (words_of c.args.plan.now.setup size.Two) c.push_two.new.cursor c.in_ok-push_two.ensures.at;
}

pub returns-clause-words : goal.returns-clause-words
returns-clause-words c =
    let k : c.loop-k.k ≡ 16 = omega arith in
    c.loop-k.invariant.words ∙ rw k (ap (λ (xs : List ℕ). c.args.out.now.items ++ xs) (thirty_two_words c.args.plan.now.setup c.args.plan.now.regions c.args.b))

pub returns-clause-at : goal.returns-clause-at
returns-clause-at c =
    at_end c.args.plan.now.setup c.args.plan.now.regions c.args.b c.loop-k.k (words_of c.args.plan.now.setup size.Two) (words_of c.args.plan.now.setup size.ThirtyTwo) c.loop-k.cursor
    (thirty_two_is c.args.plan.now.setup) (let k : c.loop-k.k ≡ 16 = omega arith in k) c.loop-k.invariant.at
