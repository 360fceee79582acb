-- A scenario's callers, its machine before the first act, and what its turns leave.
use Rattle.std.specs.Prelude.{ℕ, ◌+◌, ◌<◌, List, [], ◌∷◌, map}
use Rattle.gpt_descriptors.specs.Places.{GeometryData}
use Rattle.scenario_text.specs.declared.scenario.Scenario.{Scenario}
use Rattle.scenario_text.specs.declared.scenario.Script.{Script}
use Rattle.scenario_text.specs.declared.scenario.Script.TheVariants as script
use Rattle.scenario_text.specs.declared.scenario.Slot.{Slot}
use Rattle.scenario_text.specs.declared.scenario.Slot.TheVariants as slot
use Rattle.history.specs.declared.outcome.Outcome.{Outcome}
use Rattle.delegate_ops.specs.InnerAgents as agents
use Rattle.processor.specs.InnerCpus as cpus
use Rattle.core_machine.specs.declared.caller.Caller.{Caller}
use Rattle.core_machine.specs.declared.caller.Caller.TheVariants as caller
use Rattle.core_machine.specs.InnerCallers.{caller_answers}
use Rattle.core_machine.specs.Scenarios.{task_of_ask, task_of_look, geometry_of, first_words, turns_in}
use Rattle.core_machine.specs.Trace.{TraceEvent}
use Rattle.core_machine.specs.InnerMachine.{MachineData, after_turns, trace_of}

-- the caller of a script; where it is a processor, its number is p
abbrev pub caller_of : GeometryData → ℕ → Script → Caller
caller_of g p (script.Agent asks) = caller.Agent (agents.fresh g (map task_of_ask asks))
caller_of g p (script.Cpu looks) = caller.Cpu (cpus.fresh g p (map task_of_look looks))

-- the number of the next processor after a script
abbrev pub next_number : ℕ → Script → ℕ
next_number p (script.Agent asks) = p
next_number p (script.Cpu looks) = p + 1

-- the callers of scripts, whose processors are numbered from p on
abbrev pub callers_from : GeometryData → ℕ → List Script → List Caller
callers_from g p [] = []
callers_from g p (s ∷ scripts) = caller_of g p s ∷ callers_from g (next_number p s) scripts

abbrev pub opening_of : Scenario → MachineData
opening_of s = record {
  geometry = geometry_of s;
  callers = callers_from (geometry_of s) 0 s.scripts;
  words = first_words s;
}

-- what the turns leave, and the trace that they make
abbrev pub played : Scenario → MachineData
played s = after_turns (opening_of s) (turns_in s)

abbrev pub played_trace : Scenario → List TraceEvent
played_trace s = trace_of (opening_of s) (turns_in s)

abbrev pub outcome_of : MachineData → Outcome
outcome_of m =
    record { geometry = m.geometry; answers = map caller_answers m.callers; words = m.words }

-- a line of the schedule names one of n callers
abbrev pub NamesCaller : ℕ → Slot → Type 0
NamesCaller n (slot.Turn c turns) = c < n
NamesCaller n (slot.Round turns times) = Unit {0}
