use Rattle.report_text.proofs.CallerLemmas.{call_moves, calls_end}
use Rattle.report_text.proofs.callers.push_caller.Goals as goal

pub loop-k-preserved : goal.loop-k-preserved
loop-k-preserved c = call_moves _ _ _ _ _ _ _ _ _ c.loop-k-test.true c.is_monitor_call-monitor.ensures c.loop-k.invariant c.in_ok-push_call.ensures

pub returns : goal.returns
returns c = calls_end _ _ _ _ _ _ c.loop-k-test.false c.loop-k.invariant
