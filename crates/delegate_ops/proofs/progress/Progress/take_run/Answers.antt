use Rattle.std.proofs.Common.{◌≡◌, ℕ, ap, ◌∙◌, arith, inl}
use Rattle.shatter.specs.Splitting.{SplittingData, advanced_by}
use Rattle.fuse.specs.Merging.{FuseData, stored_by}
use Rattle.fuse.proofs.RunLemmas.{stored_none}
use Rattle.delegate_ops.specs.InnerTransition.{at_progress}
use Rattle.delegate_ops.proofs.RunLemmas.{split_none}
use Rattle.delegate_ops.proofs.progress.Progress.take_run.Goals as goal

pub returns-else-run-gt0-clause-run : goal.returns-else-run-gt0-clause-run
returns-else-run-gt0-clause-run c = λ p.
    let q = c.args.self.now in
    let none : c.take_run-run.result.count ≡ 0 = omega (arith, c.if-run-gt0.false) in
    inl (
      none,
      ap (λ (d : SplittingData). at_progress c.args.task p (record { phase = q.phase; kept = q.kept; splitting = d; barrier = q.barrier; merging = q.merging }))
          (c.take_run-run.ensures.after ∙ ap (λ (n : ℕ). advanced_by n q.splitting) none ∙ split_none q.splitting),
    )

pub returns-else-run-gt0-2-clause-run : goal.returns-else-run-gt0-2-clause-run
returns-else-run-gt0-2-clause-run c = λ p.
    let q = c.args.self.now in
    let none : c.take_run-run-in-Merging.result.count ≡ 0 = omega (arith, c.if-run-gt0-2.false) in
    inl (
      none,
      ap (λ (d : FuseData). at_progress c.args.task p (record { phase = q.phase; kept = q.kept; splitting = q.splitting; barrier = q.barrier; merging = d }))
          (c.take_run-run-in-Merging.ensures.after ∙ ap (λ (n : ℕ). stored_by n q.merging) none ∙ stored_none q.merging),
    )
