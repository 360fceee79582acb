use Rattle.std.proofs.Common.{◌∙◌, rules, arith}
use Rattle.report_text.proofs.RunLemmas.{first_word, word_more, run_ended, words_ended}
use Rattle.report_text.proofs.tables.equal_words.Goals as goal

pub loop-count-init : goal.loop-count-init
loop-count-init c = record {
  low = omega arith;
  high = c.requires;
  run = λ first. first_word first c.args.words.now c.requires;
}

pub loop-count-preserved : goal.loop-count-preserved
loop-count-preserved c = record {
  low = omega arith;
  high = omega arith;
  run = λ first. c.loop-count.invariant.run first ∙ word_more first c.loop-count.count _ c.args.words.now c.loop-count-test.true (search rules);
}

pub returns-then-words-count-clause-run : goal.returns-then-words-count-clause-run
returns-then-words-count-clause-run c = λ first.
    c.loop-count.invariant.run first ∙ run_ended first c.loop-count.count _ c.args.words.now c.loop-count-test.true (search rules)

pub returns-clause-run : goal.returns-clause-run
returns-clause-run c = λ first.
    c.loop-count.invariant.run first ∙ words_ended first c.loop-count.count _ c.args.words.now c.loop-count-test.false
