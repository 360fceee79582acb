use Rattle.scenario_text.proofs.printing.ask_line.Goals as goal

pub returns-in-SmcUndelegate : goal.returns-in-SmcUndelegate
returns-in-SmcUndelegate c = rw c.in-SmcUndelegate.is (rw (← c.world_name-in-SmcUndelegate.ensures) c.call_line-in-SmcUndelegate.ensures)
