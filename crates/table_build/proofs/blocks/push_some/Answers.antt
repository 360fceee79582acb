use Rattle.std.proofs.Common.{◌≤◌, ◌<◌, ◌+◌, ◌-◌, ◌*◌, ◌++◌, ℕ, List, replicate, refl, sym, ap, ◌∙◌, arith}
use Rattle.gpt_descriptors.specs.Sizes.{space_words}
use Rattle.table_build.proofs.BlockLemmas.{uniform_words, at_later}
use Rattle.table_build.proofs.ReadingLemmas.{run_read}
use Rattle.table_build.proofs.blocks.push_some.Goals as goal

pub returns-then-covered-w-clause-at : goal.returns-then-covered-w-clause-at
returns-then-covered-w-clause-at c =
    let s = c.args.plan.now.setup in
    let regions = c.args.plan.now.regions in
    let inside : c.args.w < space_words s = omega (arith, c.requires.some, c.requires.inside) in
    let read = run_read s regions c.args.w (16 * c.args.w) c.args.cursor.now c.run_of-gpi.new.self c.run_of-gpi.result.0 c.run_of-gpi.result.1
    refl inside c.requires.at c.run_of-gpi.ensures.size c.run_of-gpi.ensures.reads c.run_of-gpi.ensures.run in
    at_later s regions c.args.w (c.args.w + 1) c.run_of-gpi.new.self (omega arith) read.0

pub returns-clause-words : goal.returns-clause-words
returns-clause-words c =
    let s = c.args.plan.now.setup in
    let regions = c.args.plan.now.regions in
    let inside : c.args.w < space_words s = omega (arith, c.requires.some, c.requires.inside) in
    let read = run_read s regions c.args.w (16 * c.args.w) c.args.cursor.now c.run_of-gpi.new.self c.run_of-gpi.result.0 c.run_of-gpi.result.1
    refl inside c.requires.at c.run_of-gpi.ensures.size c.run_of-gpi.ensures.reads c.run_of-gpi.ensures.run in
    let n : ℕ = c.min-covered.result - c.args.w in
    let le : 16 * (c.args.w + n) ≤ c.run_of-gpi.result.1 = omega (arith, c.min-covered.ensures, c.if-covered-w.false) in
    c.in_ok-push_words.ensures
    ∙ ap (λ (word : ℕ). c.args.out.now.items ++ replicate n word) c.uniform_word.ensures
    ∙ ap (λ (xs : List ℕ). c.args.out.now.items ++ xs) (sym (uniform_words s regions c.args.w n c.run_of-gpi.result.1 c.run_of-gpi.result.0 read.1 le))

pub returns-clause-at : goal.returns-clause-at
returns-clause-at c =
    let s = c.args.plan.now.setup in
    let regions = c.args.plan.now.regions in
    let inside : c.args.w < space_words s = omega (arith, c.requires.some, c.requires.inside) in
    let read = run_read s regions c.args.w (16 * c.args.w) c.args.cursor.now c.run_of-gpi.new.self c.run_of-gpi.result.0 c.run_of-gpi.result.1
    refl inside c.requires.at c.run_of-gpi.ensures.size c.run_of-gpi.ensures.reads c.run_of-gpi.ensures.run in
    at_later s regions c.args.w c.min-covered.result c.run_of-gpi.new.self (omega (arith, c.if-covered-w.false)) read.0
