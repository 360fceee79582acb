-- What holds of callers and words at any moment, with no schedule: from the first act on, and what it says of the answers.
use Rattle.std.proofs.Common.{ℕ, List, [], map, Option, sym, ap, ◌∙◌, subst}
use Rattle.std.specs.Option.{option_map}
use Rattle.std.proofs.lemmas.List.{length-map}
use Rattle.std.proofs.lemmas.Option.{slice_get-map, slice_get_within, get_or_from_slice_get}
use Rattle.core_machine.proofs.Names.{GeometryData, AgentData, CpuData, Caller, caller_tasks}
use Rattle.core_machine.proofs.Names.caller
use Rattle.delegate_ops.specs.InnerScript.{HasWalked}
use Rattle.delegate_ops.proofs.ScriptLemmas.{fresh_walked, step_walks}
use Rattle.delegate_ops.proofs.AgentLemmas.{took_is_agent}
use Rattle.processor.specs.InnerScript as cpus
use Rattle.processor.proofs.ScriptLemmas.{fresh_walked as cpu_fresh_walked, step_walks as cpu_step_walks}
use Rattle.processor.proofs.CpuLemmas.{took_is_cpu, took_keeps}
use Rattle.core_machine.specs.InnerCallers.{IsFresh}
use Rattle.core_machine.specs.InnerFits.{ActsGoOn, FreshAreMade, HaveTasks, IsWalked, ScenesBegin, ScenesFit}
use Rattle.core_machine.proofs.LawLemmas.{took_leaves}
use Rattle.core_machine.proofs.OpeningLemmas.{opening_invariant}
use Rattle.core_machine.proofs.RunLemmas.{fits_history}

pub scenes_begin : ScenesBegin
scenes_begin g first callers words is differ starting = opening_invariant g first callers words is differ starting

fresh_walks : (g : GeometryData) (c : ℕ) (x : Caller) → IsFresh g x → IsWalked g c x
fresh_walks g c (caller.Agent a) is =
    (ap (λ (b : AgentData). b.geometry) is.0, is.1, [], subst (λ (b : AgentData). HasWalked c b []) (sym is.0) (fresh_walked g a.tasks c))
fresh_walks g c (caller.Cpu q) is =
    (ap (λ (r : CpuData). r.geometry) is.0, is.1, [], subst (λ (r : CpuData). cpus.HasWalked c r []) (sym is.0) (cpu_fresh_walked g q.number q.tasks c))

pub fresh_are_made : FreshAreMade
fresh_are_made g callers is c x at =
    fresh_walks g c x (subst (IsFresh g) (get_or_from_slice_get callers c x x at) (is c x (slice_get_within callers c x at)))

pub acts_go_on : ActsGoOn
acts_go_on g c (caller.Agent a) t old made next may =
    ((took_leaves a _ old).0 ∙ made.0, took_is_agent a old made.1, _, step_walks c a made.2 t old made.1 made.3 next)
acts_go_on g c (caller.Cpu q) t old made next may =
    ((took_keeps q old).0 ∙ made.0, took_is_cpu q old made.1, _, cpu_step_walks c q made.2 t old made.1 made.3 may next)

have_own : (callers : List Caller) → HaveTasks (map caller_tasks callers) callers
have_own callers c x at = slice_get-map caller_tasks callers c ∙ ap (λ (o : Option Caller). option_map caller_tasks o) at

pub scenes_fit : ScenesFit
scenes_fit g s holds made = fits_history g s (map caller_tasks s.callers) holds (have_own s.callers) made (length-map s.callers caller_tasks)
