use Rattle.std.proofs.Common.{string_bytes}
use Rattle.report_text.specs.RunText.{held_line}
use Rattle.report_text.specs.RunParts.{held_upto}
use Rattle.report_text.proofs.StateLemmas.{held_none, held_more, begins, pushed}
use Rattle.report_text.proofs.state.push_locks.Goals as goal

pub loop-lock-init : goal.loop-lock-init
loop-lock-init c = begins (string_bytes c.args.out.now) (held_upto c.args.words.now 0) (held_none c.args.words.now)

pub loop-lock-preserved : goal.loop-lock-preserved
loop-lock-preserved c =
    pushed (string_bytes c.args.out.now) (held_upto c.args.words.now c.loop-lock.lock) (held_line c.args.words.now c.loop-lock.lock) _
    (string_bytes c.loop-lock.out) (string_bytes c.push_lock.new.out) (held_more c.args.words.now c.loop-lock.lock) c.loop-lock.invariant c.in_ok-push_lock.ensures
