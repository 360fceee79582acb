use Rattle.std.proofs.Common.{◌≡◌, ◌++◌, List, ℕ, ap, ◌∙◌, rules, arith}
use Rattle.gpt_descriptors.specs.declared.size.Size.TheVariants as size
use Rattle.gpt_descriptors.specs.Sizes.{words_of, space_words}
use Rattle.gpt_descriptors.proofs.SizeLemmas.{five_twelve_is}
use Rattle.table_build.proofs.BlockLemmas.{blocks_more, five_twelve_words, then_pushed, at_first, at_next, at_end, inner_inside}
use Rattle.table_build.proofs.blocks.push_thirty_twos.Goals as goal

pub loop-k-init : goal.loop-k-init
loop-k-init c = record {
  words = search rules;
  at = at_first c.args.plan.now.setup c.args.plan.now.regions c.args.b (words_of c.args.plan.now.setup size.ThirtyTwo) (words_of c.args.plan.now.setup size.FiveTwelve) c.args.cursor.now
      (five_twelve_is c.args.plan.now.setup) c.requires.at;
}

pub push_thirty_two-requires-clause-inside : goal.push_thirty_two-requires-clause-inside
push_thirty_two-requires-clause-inside c =
    inner_inside c.args.b c.loop-k.k (words_of c.args.plan.now.setup size.ThirtyTwo) (words_of c.args.plan.now.setup size.FiveTwelve) (space_words c.args.plan.now.setup)
    c.loop-k-test.true (five_twelve_is c.args.plan.now.setup) c.requires.inside

pub loop-k-preserved : goal.loop-k-preserved
loop-k-preserved c = record {
  words =
      then_pushed _ _ _ _ _ _ (blocks_more c.args.plan.now.setup c.args.plan.now.regions c.args.b c.loop-k.k (words_of c.args.plan.now.setup size.ThirtyTwo))
      c.loop-k.invariant.words c.in_ok-push_thirty_two.ensures.words;
  at = at_next c.args.plan.now.setup c.args.plan.now.regions c.args.b c.loop-k.k (words_of c.args.plan.now.setup size.ThirtyTwo) c.push_thirty_two.new.cursor c.in_ok-push_thirty_two.ensures.at;
}

pub returns-clause-words : goal.returns-clause-words
returns-clause-words c =
    let k : c.loop-k.k ≡ 16 = omega arith in
    c.loop-k.invariant.words ∙ rw k (ap (λ (xs : List ℕ). c.args.out.now.items ++ xs) (five_twelve_words c.args.plan.now.setup c.args.plan.now.regions c.args.b))

pub returns-clause-at : goal.returns-clause-at
returns-clause-at c =
    at_end c.args.plan.now.setup c.args.plan.now.regions c.args.b c.loop-k.k (words_of c.args.plan.now.setup size.ThirtyTwo) (words_of c.args.plan.now.setup size.FiveTwelve) c.loop-k.cursor
    (five_twelve_is c.args.plan.now.setup) (let k : c.loop-k.k ≡ 16 = omega arith in k) c.loop-k.invariant.at
