use Rattle.std.proofs.Common.{ap, ◌∙◌, sym, arith, ℕ}
use Rattle.gpt_descriptors.specs.declared.size.Size.TheVariants as size
use Rattle.gpt_descriptors.specs.Entries.{l1_entry}
use Rattle.report_text.specs.declared.load.Contiguous.{Contiguous}
use Rattle.report_text.specs.InnerSizes.{size_in}
use Rattle.report_text.proofs.LoadLemmas.{no_sizes, sizes_more, size_below, all_sizes}
use Rattle.report_text.proofs.load.count_sizes.Goals as goal
use Rattle.report_text.proofs.load.count_sizes.Goals.{then-words-k, else-words-k}

pub loop-k-init : goal.loop-k-init
loop-k-init c = record { counted = no_sizes c.args.words.now; known = c.contiguous_size-size.ensures }

pub count-requires-clause-two : goal.count-requires-clause-two
count-requires-clause-two c =
    let low = size_below size.Two c.args.words.now c.loop-k.k c.loop-k.counts.two c.loop-k-test.true (ap (λ (n : Contiguous). n.two) c.loop-k.invariant.counted) in
    omega (arith, low)

pub count-requires-clause-thirty_two : goal.count-requires-clause-thirty_two
count-requires-clause-thirty_two c =
    let low = size_below size.ThirtyTwo c.args.words.now c.loop-k.k c.loop-k.counts.thirty_two c.loop-k-test.true (ap (λ (n : Contiguous). n.thirty_two) c.loop-k.invariant.counted) in
    omega (arith, low)

pub count-requires-clause-five_twelve : goal.count-requires-clause-five_twelve
count-requires-clause-five_twelve c =
    let low = size_below size.FiveTwelve c.args.words.now c.loop-k.k c.loop-k.counts.five_twelve c.loop-k-test.true (ap (λ (n : Contiguous). n.five_twelve) c.loop-k.invariant.counted) in
    omega (arith, low)

pub loop-k-preserved : goal.loop-k-preserved
loop-k-preserved c =
    elim c.if-words-k.branch [
      | then-words-k w ↦
          let known = w.size-is ∙ (w.contiguous_size-size-then-words-k.ensures ∙ ap (λ (n : ℕ). size_in (l1_entry n)) (sym w.last-is)) in
          record {
            counted = c.count.ensures ∙ sizes_more c.args.words.now c.loop-k.k c.if-words-k.last c.if-words-k.size c.loop-k.counts c.loop-k-test.true
                w.last-is known c.loop-k.invariant.counted;
            known = known;
          }
      | else-words-k w ↦
          let known = w.size-is ∙ (c.loop-k.invariant.known ∙ ap (λ (n : ℕ). size_in (l1_entry n)) (sym w.last-is)) in
          record {
            counted = c.count.ensures ∙ sizes_more c.args.words.now c.loop-k.k c.if-words-k.last c.if-words-k.size c.loop-k.counts c.loop-k-test.true
                (w.last-is ∙ sym w.if-words-k.false) known c.loop-k.invariant.counted;
            known = known;
          }
    ]

pub returns : goal.returns
returns c = all_sizes c.args.words.now c.loop-k.k c.loop-k.counts c.loop-k-test.false c.loop-k.invariant.counted
