-- A scenario's machine before the first act, and what its turns leave.
use Rattle.std.proofs.Common.{◌≡◌, ℕ, ◌+◌, ◌≤◌, ◌<◌, arith, ◌++◌, ◌∷◌, [], List, ◌-◌, map, replicate, length, take, false, refl, sym, ap, ◌∙◌, subst}
use Rattle.std.specs.List.{All, AllByRecursion, count_by, flat_map}
use Rattle.std.proofs.Math.Seq.{take-append_seam}
use Rattle.std.proofs.lemmas.List.FromFn.{length-map-range_with_len}
use Rattle.std.proofs.lemmas.List.Elements.{All-nil, All-cons, All-from_recursion}
use Rattle.core_machine.proofs.Names.{GeometryData, IsGeometry, l0_words, Scenario, Script, Task, IsAgent, is_look, task_of, fresh, Caller, NumbersDiffer, MachineData, InvariantFor, after_turns, trace_of, history_of, caller_of, callers_from, next_number, opening_of, played, first_map, geometry_of, is_cpu, task_of_ask, task_of_look, turns_in}
use Rattle.core_machine.proofs.Names.script
use Rattle.gpt_descriptors.specs.Entries.{l0_word}
use Rattle.region_plan.specs.Regions.{region_l0, region_entry}
use Rattle.table_build.specs.TableData.{TableData, AreTables}
use Rattle.table_build.specs.Built.{tables_of, region_l1}
use Rattle.shared_words.specs.Start.{start_words}
use Rattle.scenario_text.specs.declared.scenario.Slot.{Slot}
use Rattle.scenario_text.specs.declared.scenario.Slot.TheVariants as slot
use Rattle.scenario_text.specs.Spelling.{IsScript, IsSlot, WellFormed}
use Rattle.delegate_ops.proofs.AgentLemmas.{idle_few, idle_then_acts, locking_fits}
use Rattle.core_machine.specs.InnerCallers.{IsFresh}
use Rattle.core_machine.specs.InnerOpening.{AreStarting}
use Rattle.core_machine.specs.InnerPlay.{NamesCaller}
use Rattle.core_machine.proofs.CallLemmas.{asks_no_looks}
use Rattle.core_machine.proofs.MachineLemmas.{turns_hold}
use Rattle.core_machine.proofs.OpeningLemmas.{built_starts}
use Rattle.core_machine.proofs.ListLemmas.{count_cons}
use Rattle.core_machine.proofs.NumberLemmas.{callers_count, next_is, numbers_differ}
use Rattle.gpt_descriptors.specs.Sizes.{space_bytes}
use Rattle.scenario_text.specs.declared.scenario.Look.{Look}
use Rattle.processor.specs.Accesses.{IsAccess}
use Rattle.processor.proofs.CpuLemmas.{fresh_is_cpu}
use Rattle.core_machine.specs.Scenarios.{IsAccepted, slot_turns}

-- ---- callers

fresh_is_agent : (g : GeometryData) (tasks : List Task) → IsGeometry g → All (λ t. is_look t ≡ false) tasks → IsAgent (fresh g tasks)
fresh_is_agent g tasks geometry no_looks = record {
  geometry = geometry;
  no_looks = no_looks;
  answered = idle_few g tasks;
  acts = idle_then_acts g tasks;
  stage = locking_fits g (task_of (fresh g tasks));
}

pub looks_inside : (g : GeometryData) (looks : List Look) → AllByRecursion (λ look. look.pa < space_bytes g.setup) looks → All (IsAccess g) (map task_of_look looks)
looks_inside g [] inside = All-nil (IsAccess g)
looks_inside g (look ∷ looks) inside = All-cons (IsAccess g) (task_of_look look) (map task_of_look looks) inside.0 (looks_inside g looks inside.1)

caller_fresh : (g : GeometryData) (p : ℕ) (s : Script) → IsGeometry g → IsScript g.setup s → next_number p s ≤ g.cpus → IsFresh g (caller_of g p s)
caller_fresh g p (script.Agent asks) geometry formed few =
    (refl, fresh_is_agent g (map task_of_ask asks) geometry (asks_no_looks asks))
caller_fresh g p (script.Cpu looks) geometry formed few =
    (refl, fresh_is_cpu g p (map task_of_look looks) geometry (omega (arith, few)) (looks_inside g looks formed))

pub next_few : (p n : ℕ) (s : Script) (scripts : List Script) → p + count_by is_cpu (s ∷ scripts) ≤ n → next_number p s + count_by is_cpu scripts ≤ n
next_few p n s scripts few = omega (arith, few, next_is p s, count_cons is_cpu scripts s)

pub callers_fresh : (g : GeometryData) (p : ℕ) (scripts : List Script) → IsGeometry g → AllByRecursion (IsScript g.setup) scripts → p + count_by is_cpu scripts ≤ g.cpus → All (IsFresh g) (callers_from g p scripts)
callers_fresh g p [] geometry formed few = All-nil (IsFresh g)
callers_fresh g p (s ∷ scripts) geometry formed few =
    let rest = next_few p g.cpus s scripts few in
    All-cons (IsFresh g) (caller_of g p s) (callers_from g (next_number p s) scripts) (caller_fresh g p s geometry formed.0 (omega (arith, rest))) (callers_fresh g (next_number p s) scripts geometry formed.1 rest)

-- those of a scenario
pub fresh_at : (s : Scenario) (g : GeometryData) (callers : List Caller) → WellFormed s → g ≡ geometry_of s → IsGeometry g → callers ≡ callers_from g 0 s.scripts → All (IsFresh g) callers × NumbersDiffer callers
fresh_at s g callers formed so geometry is =
    let scripts = subst (λ (k : GeometryData). AllByRecursion (IsScript k.setup) s.scripts) (sym so) formed.scripts in
    let few : 0 + count_by is_cpu s.scripts ≤ g.cpus = omega (arith, ap (λ (k : GeometryData). k.cpus) so) in
    (subst (All (IsFresh g)) (sym is) (callers_fresh g 0 s.scripts geometry scripts few), subst NumbersDiffer (sym is) (numbers_differ g 0 s.scripts))

-- ---- words

level0_of : (s : Scenario) → l0_words (geometry_of s) ≡ region_l0 s.setup s.regions
level0_of s =
    ap (λ (n : ℕ). take n (region_l0 s.setup s.regions ++ replicate (64 - s.setup.gigabytes) 0)) (sym (length-map-range_with_len (λ q. l0_word (region_entry s.setup s.regions q)) 0 s.setup.gigabytes))
    ∙ take-append_seam (region_l0 s.setup s.regions) (replicate (64 - s.setup.gigabytes) 0)

pub opening_starts : (s : Scenario) → IsAccepted s → IsGeometry (geometry_of s) → AreTables (tables_of s.setup s.regions) → AreStarting (geometry_of s) (first_map s) (start_words (geometry_of s) (region_l1 s.setup s.regions))
opening_starts s accepted geometry tables = built_starts (geometry_of s) s.regions geometry (level0_of s) accepted.planned accepted.based tables.words

-- ---- turns

pub slots_name : (n : ℕ) (schedule : List Slot) → AllByRecursion (IsSlot n) schedule → AllByRecursion (NamesCaller n) schedule
slots_name n [] slots = tt
slots_name n (slot.Turn c turns ∷ schedule) slots = (slots.0.0, slots_name n schedule slots.1)
slots_name n (slot.Round turns times ∷ schedule) slots = (tt, slots_name n schedule slots.1)

pub schedule_names : (s : Scenario) → WellFormed s → All (NamesCaller (length s.scripts)) s.schedule
schedule_names s formed = All-from_recursion (NamesCaller (length s.scripts)) s.schedule (slots_name (length s.scripts) s.schedule formed.slots)

-- ---- the code's machine

words_at : (s : Scenario) (g : GeometryData) (t : TableData) (l1 words : List ℕ) → g ≡ geometry_of s → t ≡ tables_of s.setup s.regions → l1 ≡ t.l1 → words ≡ start_words g l1
    → words ≡ start_words (geometry_of s) (region_l1 s.setup s.regions)
words_at s g t l1 words so built l1_is words_is =
    words_is ∙ ap (λ (k : GeometryData). start_words k l1) so ∙ ap (start_words (geometry_of s)) (l1_is ∙ ap (λ (u : TableData). u.l1) built)

pub starts_at : (s : Scenario) (g : GeometryData) (t : TableData) (l1 words : List ℕ) → IsAccepted s → g ≡ geometry_of s → IsGeometry g → t ≡ tables_of s.setup s.regions → AreTables t → l1 ≡ t.l1 → words ≡ start_words g l1
    → AreStarting g (first_map s) words
starts_at s g t l1 words accepted so geometry built tables l1_is words_is =
    let own = opening_starts s accepted (subst IsGeometry so geometry) (subst AreTables built tables) in
    subst (λ (k : GeometryData). AreStarting k (first_map s) words) (sym so) (subst (AreStarting (geometry_of s) (first_map s)) (sym (words_at s g t l1 words so built l1_is words_is)) own)

pub opened_is : (s : Scenario) (g : GeometryData) (t : TableData) (l1 words : List ℕ) (callers : List Caller) → g ≡ geometry_of s → t ≡ tables_of s.setup s.regions → l1 ≡ t.l1 → words ≡ start_words g l1 → callers ≡ callers_from g 0 s.scripts
    → record { geometry = g; callers = callers; words = words } ≡ opening_of s
opened_is s g t l1 words callers so built l1_is words_is callers_is = rw (words_at s g t l1 words so built l1_is words_is, callers_is, so) refl

callers_of_opening : (s : Scenario) (m : MachineData) → m ≡ opening_of s → length m.callers ≡ length s.scripts
callers_of_opening s m so = ap (λ (k : MachineData). length k.callers) so ∙ callers_count (geometry_of s) 0 s.scripts

pub names_at : (s : Scenario) (m : MachineData) → m ≡ opening_of s → WellFormed s → All (NamesCaller (length m.callers)) s.schedule
names_at s m so formed = subst (λ (n : ℕ). All (NamesCaller n) s.schedule) (sym (callers_of_opening s m so)) (schedule_names s formed)

pub played_is : (s : Scenario) (m n : MachineData) → m ≡ opening_of s → n ≡ after_turns m (flat_map (slot_turns (length m.callers)) s.schedule) → n ≡ played s
played_is s m n so turned =
    turned ∙ ap (λ (k : MachineData). after_turns k (flat_map (slot_turns (length m.callers)) s.schedule)) so
    ∙ ap (λ (count : ℕ). after_turns (opening_of s) (flat_map (slot_turns count) s.schedule)) (callers_of_opening s m so)

pub played_stands : (s : Scenario) (m : MachineData) → m ≡ opening_of s → InvariantFor (first_map s) m [] → InvariantFor (first_map s) (played s) (history_of (trace_of (opening_of s) (turns_in s)))
played_stands s m so stands = turns_hold (first_map s) (opening_of s) [] (turns_in s) (subst (λ (k : MachineData). InvariantFor (first_map s) k []) so stands)
