use Rattle.std.proofs.Common.{◌≤◌, length, drop, refl, string_bytes, arith, length-drop}
use Rattle.std.proofs.lemmas.List.{take_rest}
use Rattle.report_text.specs.TablesText.{run_line}
use Rattle.report_text.proofs.RunLemmas.{runs_step}
use Rattle.report_text.proofs.tables.push_runs.Goals as goal

pub loop-at-preserved : goal.loop-at-preserved
loop-at-preserved c =
    let rest = take_rest c.args.words.now c.loop-at.at in
    let high : c.equal_words-count.result ≤ length (drop c.loop-at.at c.args.words.now) = rw rest at c.equal_words-count.ensures.high in
    let run = rw rest at (c.equal_words-count.ensures.run c.loop-at.at) in
    record {
      within = omega (arith, high, length-drop c.loop-at.at c.args.words.now, c.loop-at-test.true);
      text = runs_step (run_line c.args.level) (string_bytes c.loop-at.out) (string_bytes c.push_run.new.out) _ c.loop-at.at c.equal_words-count.result _ c.args.words.now
          run refl c.in_ok-push_run.ensures c.loop-at.invariant.text;
    }
