use Rattle.std.proofs.Common.{◌≡◌, ◌≤◌, ◌<◌, ◌+◌, ◌*◌, ℕ, true, false, sym, ap, ◌∙◌, arith}
use Rattle.gpt_descriptors.specs.Sizes.{SetupData, words_of, space_words, is_permitted}
use Rattle.gpt_descriptors.proofs.CanonicalLemmas.{words_some}
use Rattle.region_plan.specs.Regions.{region_map}
use Rattle.table_build.proofs.BlockLemmas.{block_covered, block_broken, block_refused}
use Rattle.table_build.proofs.ReadingLemmas.{run_read}
use Rattle.table_build.proofs.blocks.block_gpi.Goals as goal

pub returns-then-not-permits-clause-exact : goal.returns-then-not-permits-clause-exact
returns-then-not-permits-clause-exact c =
    let s = c.args.plan.now.setup in
    let refused : is_permitted s.max c.args.size ≡ false = cc (c.permits.ensures, c.max.ensures, c.setup-setup.ensures.setup) in
    sym (block_refused s (region_map s c.args.plan.now.regions) c.args.size c.args.b refused)

pub returns-then-end-first-clause-exact : goal.returns-then-end-first-clause-exact
returns-then-end-first-clause-exact c =
    let s = c.args.plan.now.setup in
    let regions = c.args.plan.now.regions in
    let words : c.words_of-words.result ≡ words_of s c.args.size = c.words_of-words.ensures.value ∙ ap (λ (t : SetupData). words_of t c.args.size) c.setup-setup.ensures.setup in
    let inside : c.args.b * words_of s c.args.size < space_words s = omega (arith, words_some s c.args.size, c.requires.inside) in
    let read = run_read s regions (c.args.b * words_of s c.args.size) (16 * (c.args.b * c.words_of-words.result)) c.args.cursor.now c.run_of-gpi.new.self c.run_of-gpi.result.0 c.run_of-gpi.result.1
    (ap (λ (n : ℕ). 16 * (c.args.b * n)) words) inside c.requires.at c.run_of-gpi.ensures.size c.run_of-gpi.ensures.reads c.run_of-gpi.ensures.run in
    let ends : c.run_of-gpi.result.1 < 16 * (c.args.b * words_of s c.args.size) + 16 * words_of s c.args.size = rw words at c.if-end-first.true in
    sym (block_broken s (region_map s regions) c.args.size c.args.b c.run_of-gpi.result.1 c.run_of-gpi.result.0 c.requires.inside read.1 ends)

pub returns-then-end-first-clause-at : goal.returns-then-end-first-clause-at
returns-then-end-first-clause-at c =
    let s = c.args.plan.now.setup in
    let regions = c.args.plan.now.regions in
    let words : c.words_of-words.result ≡ words_of s c.args.size = c.words_of-words.ensures.value ∙ ap (λ (t : SetupData). words_of t c.args.size) c.setup-setup.ensures.setup in
    let inside : c.args.b * words_of s c.args.size < space_words s = omega (arith, words_some s c.args.size, c.requires.inside) in
    let read = run_read s regions (c.args.b * words_of s c.args.size) (16 * (c.args.b * c.words_of-words.result)) c.args.cursor.now c.run_of-gpi.new.self c.run_of-gpi.result.0 c.run_of-gpi.result.1
    (ap (λ (n : ℕ). 16 * (c.args.b * n)) words) inside c.requires.at c.run_of-gpi.ensures.size c.run_of-gpi.ensures.reads c.run_of-gpi.ensures.run in
    read.0

pub returns-clause-exact : goal.returns-clause-exact
returns-clause-exact c =
    let s = c.args.plan.now.setup in
    let regions = c.args.plan.now.regions in
    let words : c.words_of-words.result ≡ words_of s c.args.size = c.words_of-words.ensures.value ∙ ap (λ (t : SetupData). words_of t c.args.size) c.setup-setup.ensures.setup in
    let inside : c.args.b * words_of s c.args.size < space_words s = omega (arith, words_some s c.args.size, c.requires.inside) in
    let read = run_read s regions (c.args.b * words_of s c.args.size) (16 * (c.args.b * c.words_of-words.result)) c.args.cursor.now c.run_of-gpi.new.self c.run_of-gpi.result.0 c.run_of-gpi.result.1
    (ap (λ (n : ℕ). 16 * (c.args.b * n)) words) inside c.requires.at c.run_of-gpi.ensures.size c.run_of-gpi.ensures.reads c.run_of-gpi.ensures.run in
    let covers : 16 * (c.args.b * words_of s c.args.size) + 16 * words_of s c.args.size ≤ c.run_of-gpi.result.1 = rw words at c.if-end-first.false in
    let permitted : is_permitted s.max c.args.size ≡ true = cc (c.permits.ensures, c.max.ensures, c.setup-setup.ensures.setup) in
    sym (block_covered s (region_map s regions) c.args.size c.args.b c.run_of-gpi.result.1 c.run_of-gpi.result.0 permitted read.1 covers)

pub returns-clause-gpi : goal.returns-clause-gpi
returns-clause-gpi c =
    let s = c.args.plan.now.setup in
    let regions = c.args.plan.now.regions in
    let words : c.words_of-words.result ≡ words_of s c.args.size = c.words_of-words.ensures.value ∙ ap (λ (t : SetupData). words_of t c.args.size) c.setup-setup.ensures.setup in
    let inside : c.args.b * words_of s c.args.size < space_words s = omega (arith, words_some s c.args.size, c.requires.inside) in
    let read = run_read s regions (c.args.b * words_of s c.args.size) (16 * (c.args.b * c.words_of-words.result)) c.args.cursor.now c.run_of-gpi.new.self c.run_of-gpi.result.0 c.run_of-gpi.result.1
    (ap (λ (n : ℕ). 16 * (c.args.b * n)) words) inside c.requires.at c.run_of-gpi.ensures.size c.run_of-gpi.ensures.reads c.run_of-gpi.ensures.run in
    let first : ℕ = 16 * (c.args.b * words_of s c.args.size) in
    sym (read.1.same first (omega arith) (omega (arith, read.1.after)))

pub returns-clause-at : goal.returns-clause-at
returns-clause-at c =
    let s = c.args.plan.now.setup in
    let regions = c.args.plan.now.regions in
    let words : c.words_of-words.result ≡ words_of s c.args.size = c.words_of-words.ensures.value ∙ ap (λ (t : SetupData). words_of t c.args.size) c.setup-setup.ensures.setup in
    let inside : c.args.b * words_of s c.args.size < space_words s = omega (arith, words_some s c.args.size, c.requires.inside) in
    let read = run_read s regions (c.args.b * words_of s c.args.size) (16 * (c.args.b * c.words_of-words.result)) c.args.cursor.now c.run_of-gpi.new.self c.run_of-gpi.result.0 c.run_of-gpi.result.1
    (ap (λ (n : ℕ). 16 * (c.args.b * n)) words) inside c.requires.at c.run_of-gpi.ensures.size c.run_of-gpi.ensures.reads c.run_of-gpi.ensures.run in
    read.0
