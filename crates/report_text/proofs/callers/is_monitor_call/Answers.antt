use Rattle.report_text.proofs.CallerLemmas.{cpu_call}
use Rattle.report_text.proofs.callers.is_monitor_call.Goals as goal

pub returns-in-Cpu : goal.returns-in-Cpu
returns-in-Cpu c = cpu_call c.args.script.now _ c.args.call c.in-Cpu.is c.requires
