-- What the callers' own entries and the states tell: a legal history of their calls.
use Rattle.std.proofs.Common.{◌≡◌, ℕ, suc, ◌+◌, ◌<◌, ◌∷◌, [], List, eqb, Option, Some, None, length, map, refl, sym, ap, ◌∙◌, subst, arith, inl, inr}
use Rattle.std.specs.Prelude.{slice_get, option_and_then, MatchOption}
use Rattle.std.specs.List.{All}
use Rattle.std.specs.Option.{option_map}
use Rattle.std.proofs.lemmas.Bool.{cases_Bool, eq-eqb}
use Rattle.std.proofs.lemmas.Option.{slice_get-map, slice_get_cases, slice_get_past}
use Rattle.std.proofs.lemmas.List.Elements.{All-nil, All-cons, All-head, All-tail, All-append, All-weaker}
use Rattle.core_machine.proofs.Names.{Gpi, granule_bytes, space_granules, GeometryData, Task, Answer, Entry, granule_in, caller_in, call_in, State, start, after_entry, granule_of, CallAllows, entries_by, call_entries, answered_entries, answer_at, Stage, AgentData, IsAgent, HasActs, IsStage, task_of, CallEvent, Caller, CpuData, IsCpu, caller_answers, entries_at, IsPrefix, AreAllowed, IsHistoryOf}
use Rattle.core_machine.proofs.Names.caller
use Rattle.history.specs.Calls as calls
use Rattle.history.specs.Calls.{IsUnderWay, task_at, Fits, IsLegalHistory, HasCalls}
use Rattle.delegate_ops.specs.Script.{AreCallEvents}
use Rattle.core_machine.specs.InnerCallers.{own_of}
use Rattle.core_machine.proofs.AloneLemmas.{own_first}
use Rattle.core_machine.proofs.ActLemmas.{length_after}
use Rattle.core_machine.proofs.EntryLemmas.{IsOwnEntry, call_allowed, IsPrefixFit, prefix_fits, prefix_allowed}
use Rattle.delegate_ops.specs.InnerScript.{HasWalked}
use Rattle.processor.specs.Accesses.{IsAccess}
use Rattle.processor.specs.InnerScript as cpus
use Rattle.processor.specs.InnerProgress as progress
use Rattle.processor.specs.InnerEntries.{entries_at as cpu_entries}
use Rattle.processor.specs.InnerCpus.{task_of as cpu_task}
use Rattle.core_machine.specs.InnerFits.{AreMade, HaveTasks}
use Rattle.core_machine.proofs.AccessLemmas.{access_there, access_under_way, accessed_each, no_entries}

-- ---- an entry that its call allows

pub record IsKnown (g : GeometryData) (tasks : List (List Task)) (answers : List (List Answer)) (e : Entry) : Type 0 where
  pub asked : Task
  pub answered : Answer
  pub task : task_at tasks (caller_in e) (call_in e) ≡ Some asked
  pub answer : Fits (answer_at answers (caller_in e) (call_in e)) answered
  pub allows : CallAllows asked answered e
  pub granule : granule_of (granule_bytes g.setup) asked ≡ Some (granule_in e)
  pub inside : granule_in e < space_granules g.setup

known_of : (g : GeometryData) (tasks : List (List Task)) (answers : List (List Answer)) (c k : ℕ) (t : Task) (a : Answer) (e : Entry)
    → task_at tasks c k ≡ Some t → Fits (answer_at answers c k) a → IsOwnEntry g c k t a e → IsKnown g tasks answers e
known_of g tasks answers c k t a e asks given own = record {
  asked = t;
  answered = a;
  task = subst (λ (n : ℕ). task_at tasks n (call_in e) ≡ Some t) (sym own.caller) (subst (λ (n : ℕ). task_at tasks c n ≡ Some t) (sym own.call) asks);
  answer = subst (λ (n : ℕ). Fits (answer_at answers n (call_in e)) a) (sym own.caller) (subst (λ (n : ℕ). Fits (answer_at answers c n) a) (sym own.call) given);
  allows = own.allows;
  granule = own.granule;
  inside = own.inside;
}

-- ---- the entries of one caller

own_task : (tasks : List (List Task)) (c : ℕ) (own : List Task) (k : ℕ) → slice_get tasks c ≡ Some own → task_at tasks c k ≡ slice_get own k
own_task tasks c own k at = ap (λ (o : Option (List Task)). option_and_then (λ list. slice_get list k) o) at

own_answer : (answers : List (List Answer)) (c : ℕ) (own : List Answer) (k : ℕ) → slice_get answers c ≡ Some own → answer_at answers c k ≡ slice_get own k
own_answer answers c own k at = ap (λ (o : Option (List Answer)). option_and_then (λ list. slice_get list k) o) at

fits_given : (o : Option Answer) (a : Answer) → o ≡ Some a → Fits o a
fits_given o a given = subst (λ (x : Option Answer). Fits x a) (sym given) refl

fits_any : (o : Option Answer) (a : Answer) → o ≡ None → Fits o a
fits_any o a none = subst (λ (x : Option Answer). Fits x a) (sym none) tt

answered_each : (Q : Entry → Type 0) (g : GeometryData) (c k : ℕ) (tasks : List Task) (answers : List Answer) (events : List CallEvent) → AreCallEvents g c k tasks answers events
    → ((j : ℕ) (t : Task) (a : Answer) (e : Entry) → slice_get tasks j ≡ Some t → slice_get answers j ≡ Some a → IsOwnEntry g c (k + j) t a e → Q e)
    → All Q (answered_entries (granule_bytes g.setup) c k tasks answers)
answered_each Q g c k [] answers events are each = All-nil Q
answered_each Q g c k (t ∷ tasks) [] events are each = All-nil Q
answered_each Q g c k (t ∷ tasks) (a ∷ answers) events are each =
    All-append Q (call_entries (granule_bytes g.setup) c k t a) (answered_entries (granule_bytes g.setup) c (k + 1) tasks answers)
    (All-weaker (IsOwnEntry g c k t a) Q
    (λ e own. each 0 t a e refl refl (subst (λ (n : ℕ). IsOwnEntry g c n t a e) (let here : k ≡ k + 0 = omega arith in here) own))
    (call_entries (granule_bytes g.setup) c k t a) (call_allowed g c k t a are.0 are.3))
    (answered_each Q g c (k + 1) tasks answers are.1 are.4
    (λ j u b e asks given own. each (suc j) u b e asks given (subst (λ (n : ℕ). IsOwnEntry g c n u b e) (let there : k + 1 + j ≡ k + suc j = omega arith in there) own)))

prefix_known : (g : GeometryData) (tasks : List (List Task)) (answers : List (List Answer)) (c k : ℕ) (s : Stage) (o : Option Task) (events : List CallEvent)
    → IsStage g s o → HasActs g o → IsPrefix g c k s o events → task_at tasks c k ≡ o → answer_at answers c k ≡ None → All (IsKnown g tasks answers) (entries_at g c k s o)
prefix_known g tasks answers c k s None events fits acts front asks given =
    subst (All (IsKnown g tasks answers)) (sym (prefix_fits g c k s None events fits front)) (All-nil (IsKnown g tasks answers))
prefix_known g tasks answers c k s (Some t) events fits acts front asks given =
    let own = prefix_allowed g c k s t (entries_at g c k s (Some t)) acts (prefix_fits g c k s (Some t) events fits front) in
    All-weaker (IsOwnEntry g c k t own.0) (IsKnown g tasks answers)
    (λ e is. known_of g tasks answers c k t own.0 e asks (fits_any (answer_at answers c k) own.0 given) is)
    (entries_at g c k s (Some t)) own.1

agent_known : (tasks : List (List Task)) (answers : List (List Answer)) (c : ℕ) (a : AgentData) (events : List CallEvent) → slice_get tasks c ≡ Some a.tasks → slice_get answers c ≡ Some a.answers
    → IsAgent a → HasWalked c a events → All (IsKnown a.geometry tasks answers) (own_of c (caller.Agent a))
agent_known tasks answers c a events asks given agent stands =
    All-append (IsKnown a.geometry tasks answers)
    (answered_entries (granule_bytes a.geometry.setup) c 0 a.tasks a.answers)
    (entries_at a.geometry c (length a.answers) a.stage (task_of a))
    (answered_each (IsKnown a.geometry tasks answers) a.geometry c 0 a.tasks a.answers stands.calls stands.answered
    (λ j t b e task_is answer_is own.
    known_of a.geometry tasks answers c j t b e (own_task tasks c a.tasks j asks ∙ task_is)
    (fits_given (answer_at answers c j) b (own_answer answers c a.answers j given ∙ answer_is))
    (subst (λ (n : ℕ). IsOwnEntry a.geometry c n t b e) (let number : 0 + j ≡ j = omega arith in number) own)))
    (prefix_known a.geometry tasks answers c (length a.answers) a.stage (task_of a) stands.last agent.stage agent.acts stands.under_way
    (own_task tasks c a.tasks (length a.answers) asks)
    (own_answer answers c a.answers (length a.answers) given ∙ slice_get_past a.answers (length a.answers) (omega arith)))

-- ---- the entries of a processor

access_known : (g : GeometryData) (tasks : List (List Task)) (answers : List (List Answer)) (c k : ℕ) (s : progress.Stage) (o : Option Task) → MatchOption o (Unit {0}) (IsAccess g) → task_at tasks c k ≡ o → answer_at answers c k ≡ None
    → All (IsKnown g tasks answers) (cpu_entries g c k s o)
access_known g tasks answers c k s None access asks given = subst (All (IsKnown g tasks answers)) (sym (no_entries g c k s)) (All-nil (IsKnown g tasks answers))
access_known g tasks answers c k s (Some t) access asks given =
    let own = access_under_way g c k s t access in
    All-weaker (IsOwnEntry g c k t own.0) (IsKnown g tasks answers)
    (λ e is. known_of g tasks answers c k t own.0 e asks (fits_any (answer_at answers c k) own.0 given) is)
    (cpu_entries g c k s (Some t)) own.1

-- its task under way is an access
access_way : (q : CpuData) (o : Option Task) → IsCpu q → cpu_task q ≡ o → MatchOption o (Unit {0}) (IsAccess q.geometry)
access_way q None is under_way = tt
access_way q (Some t) is under_way = access_there q (length q.answers) t is under_way

cpu_known : (tasks : List (List Task)) (answers : List (List Answer)) (c : ℕ) (q : CpuData) (events : List CallEvent) → slice_get tasks c ≡ Some q.tasks → slice_get answers c ≡ Some q.answers
    → IsCpu q → cpus.HasWalked c q events → All (IsKnown q.geometry tasks answers) (own_of c (caller.Cpu q))
cpu_known tasks answers c q events asks given cpu walked =
    All-append (IsKnown q.geometry tasks answers)
    (answered_entries (granule_bytes q.geometry.setup) c 0 q.tasks q.answers)
    (cpu_entries q.geometry c (length q.answers) q.stage (cpu_task q))
    (accessed_each (IsKnown q.geometry tasks answers) q.geometry q.number c 0 q.tasks [] q.answers walked.kept walked.calls walked.answered (λ j t there. access_there q j t cpu there)
    (λ j t b e task_is answer_is own.
    known_of q.geometry tasks answers c j t b e (own_task tasks c q.tasks j asks ∙ task_is)
    (fits_given (answer_at answers c j) b (own_answer answers c q.answers j given ∙ answer_is))
    (subst (λ (n : ℕ). IsOwnEntry q.geometry c n t b e) (let number : 0 + j ≡ j = omega arith in number) own)))
    (access_known q.geometry tasks answers c (length q.answers) q.stage (cpu_task q) (access_way q (cpu_task q) cpu refl)
    (own_task tasks c q.tasks (length q.answers) asks)
    (own_answer answers c q.answers (length q.answers) given ∙ slice_get_past q.answers (length q.answers) (omega arith)))

-- ---- the entries of all callers

answers_at : (callers : List Caller) (c : ℕ) (x : Caller) → slice_get callers c ≡ Some x → slice_get (map caller_answers callers) c ≡ Some (caller_answers x)
answers_at callers c x at = slice_get-map caller_answers callers c ∙ ap (λ (o : Option Caller). option_map caller_answers o) at

caller_known : (g : GeometryData) (tasks : List (List Task)) (callers : List Caller) (c : ℕ) (x : Caller) → slice_get callers c ≡ Some x → HaveTasks tasks callers → AreMade g callers
    → All (IsKnown g tasks (map caller_answers callers)) (own_of c x)
caller_known g tasks callers c (caller.Agent a) at have made =
    let is = made c (caller.Agent a) at in
    subst (λ (v : GeometryData). All (IsKnown v tasks (map caller_answers callers)) (own_of c (caller.Agent a))) is.0
    (agent_known tasks (map caller_answers callers) c a is.2 (have c (caller.Agent a) at) (answers_at callers c (caller.Agent a) at) is.1 is.3)
caller_known g tasks callers c (caller.Cpu q) at have made =
    let is = made c (caller.Cpu q) at in
    subst (λ (v : GeometryData). All (IsKnown v tasks (map caller_answers callers)) (own_of c (caller.Cpu q))) is.0
    (cpu_known tasks (map caller_answers callers) c q is.2 (have c (caller.Cpu q) at) (answers_at callers c (caller.Cpu q) at) is.1 is.3)

own_rest : (Q : Entry → Type 0) (c : ℕ) (e : Entry) (h : List Entry) → All Q (entries_by c (e ∷ h)) → All Q (entries_by c h)
own_rest Q c e h all =
    elim (cases_Bool (eqb (caller_in e) c)) [
      | inl own ↦ All-tail Q e (entries_by c h) (subst (All Q) (own_first c e h own) all)
      | inr other ↦ rw other at all
    ]

-- what holds of each caller's entries holds of all
all_callers : (Q : Entry → Type 0) (n : ℕ) (h : List Entry) → ((c : ℕ) → c < n → All Q (entries_by c h)) → All (λ e. caller_in e < n) h → All Q h
all_callers Q n [] each known = All-nil Q
all_callers Q n (e ∷ h) each known =
    All-cons Q e h
    (All-head Q e (entries_by (caller_in e) h)
    (subst (All Q) (own_first (caller_in e) e h (eq-eqb (caller_in e) (caller_in e) refl)) (each (caller_in e) (All-head (λ (x : Entry). caller_in x < n) e h known))))
    (all_callers Q n h (λ c low. own_rest Q c e h (each c low)) (All-tail (λ (x : Entry). caller_in x < n) e h known))

all_known : (g : GeometryData) (first : List Gpi) (callers : List Caller) (h : List Entry) (tasks : List (List Task)) → IsHistoryOf first callers h → HaveTasks tasks callers → AreMade g callers
    → All (IsKnown g tasks (map caller_answers callers)) h
all_known g first callers h tasks tells have made =
    all_callers (IsKnown g tasks (map caller_answers callers)) (length callers) h
    (λ c low. elim (slice_get_cases callers c).1 [
      | inl here ↦ subst (All (IsKnown g tasks (map caller_answers callers))) (sym (tells.own c here.0 here.2)) (caller_known g tasks callers c here.0 here.2 have made)
      | inr past ↦ absurd (let beyond = past.0 in omega (arith, beyond, low))
    ])
    tells.known

-- ---- the history is legal

legal_from : (g : GeometryData) (tasks : List (List Task)) (answers : List (List Answer)) (s : State) (h : List Entry) → All (IsKnown g tasks answers) h → AreAllowed s h
    → length s.map ≡ space_granules g.setup → IsLegalHistory (granule_bytes g.setup) tasks answers s h
legal_from g tasks answers s [] known allowed size = tt
legal_from g tasks answers s (e ∷ h) known allowed size =
    let here = All-head (IsKnown g tasks answers) e h known in (
      record {
        asked = here.asked;
        answered = here.answered;
        task = here.task;
        answer = here.answer;
        legal = record {
          granule = here.granule;
          inside = subst (λ (n : ℕ). granule_in e < n) (sym size) here.inside;
          state = allowed.0;
          call = here.allows;
        };
      },
      legal_from g tasks answers (after_entry s e) h (All-tail (IsKnown g tasks answers) e h known) allowed.1 (length_after s e ∙ size),
    )

pub made_legal : (g : GeometryData) (first : List Gpi) (callers : List Caller) (h : List Entry) (tasks : List (List Task)) → IsHistoryOf first callers h → HaveTasks tasks callers → AreMade g callers
    → length first ≡ space_granules g.setup → IsLegalHistory (granule_bytes g.setup) tasks (map caller_answers callers) (start first) h
made_legal g first callers h tasks tells have made size =
    legal_from g tasks (map caller_answers callers) (start first) h (all_known g first callers h tasks tells have made) tells.allowed size

-- ---- it has each call

under_way_of : (g : GeometryData) (c k : ℕ) (s : Stage) (o : Option Task) (made : List Entry) → IsPrefixFit g c k s o made → IsUnderWay (granule_bytes g.setup) c k o made
under_way_of g c k s None made fits = fits
under_way_of g c k s (Some t) made fits = (fits.0, fits.1, fits.2)

agent_calls : (c : ℕ) (a : AgentData) (h : List Entry) (events : List CallEvent) → IsAgent a → HasWalked c a events → entries_by c h ≡ own_of c (caller.Agent a)
    → calls.AreCalls (granule_bytes a.geometry.setup) c a.tasks a.answers h
agent_calls c a h events agent stands own = record {
  under_way = entries_at a.geometry c (length a.answers) a.stage (task_of a);
  in_order = own;
  beginning = under_way_of a.geometry c (length a.answers) a.stage (task_of a) (entries_at a.geometry c (length a.answers) a.stage (task_of a))
      (prefix_fits a.geometry c (length a.answers) a.stage (task_of a) stands.last agent.stage stands.under_way);
}

access_calls : (g : GeometryData) (c k : ℕ) (s : progress.Stage) (o : Option Task) → MatchOption o (Unit {0}) (IsAccess g) → IsUnderWay (granule_bytes g.setup) c k o (cpu_entries g c k s o)
access_calls g c k s None access = no_entries g c k s
access_calls g c k s (Some t) access = let own = access_under_way g c k s t access in (own.0, own.2, own.3)

cpu_calls : (c : ℕ) (q : CpuData) (h : List Entry) → IsCpu q → entries_by c h ≡ own_of c (caller.Cpu q) → calls.AreCalls (granule_bytes q.geometry.setup) c q.tasks q.answers h
cpu_calls c q h cpu own = record {
  under_way = cpu_entries q.geometry c (length q.answers) q.stage (cpu_task q);
  in_order = own;
  beginning = access_calls q.geometry c (length q.answers) q.stage (cpu_task q) (access_way q (cpu_task q) cpu refl);
}

caller_calls : (g : GeometryData) (callers : List Caller) (h : List Entry) (tasks : List (List Task)) (c : ℕ) (x : Caller) (own : List Task) → slice_get callers c ≡ Some x
    → HaveTasks tasks callers → AreMade g callers → entries_by c h ≡ own_of c x → slice_get tasks c ≡ Some own → calls.AreCalls (granule_bytes g.setup) c own (caller_answers x) h
caller_calls g callers h tasks c (caller.Agent a) own at have made entries asks =
    let is = made c (caller.Agent a) at in
    let asked = have c (caller.Agent a) at in
    let same : a.tasks ≡ own = cc in
    subst (λ (v : GeometryData). calls.AreCalls (granule_bytes v.setup) c own a.answers h) is.0
    (subst (λ (ts : List Task). calls.AreCalls (granule_bytes a.geometry.setup) c ts a.answers h) same
    (agent_calls c a h is.2 is.1 is.3 entries))
caller_calls g callers h tasks c (caller.Cpu q) own at have made entries asks =
    let is = made c (caller.Cpu q) at in
    let asked = have c (caller.Cpu q) at in
    let same : q.tasks ≡ own = cc in
    subst (λ (v : GeometryData). calls.AreCalls (granule_bytes v.setup) c own q.answers h) is.0
    (subst (λ (ts : List Task). calls.AreCalls (granule_bytes q.geometry.setup) c ts q.answers h) same
    (cpu_calls c q h is.1 entries))

given_calls : (g : GeometryData) (first : List Gpi) (callers : List Caller) (h : List Entry) (tasks : List (List Task)) (c : ℕ) (own : List Task) (given : List Answer)
    → IsHistoryOf first callers h → HaveTasks tasks callers → AreMade g callers → slice_get tasks c ≡ Some own → slice_get (map caller_answers callers) c ≡ Some given
    → calls.AreCalls (granule_bytes g.setup) c own given h
given_calls g first callers h tasks c own given tells have made asks answers =
    elim (slice_get_cases callers c).1 [
      | inl here ↦
          let there = answers_at callers c here.0 here.2 in
          let same : caller_answers here.0 ≡ given = cc in
          subst (λ (list : List Answer). calls.AreCalls (granule_bytes g.setup) c own list h) same
          (caller_calls g callers h tasks c here.0 own here.2 have made (tells.own c here.0 here.2) asks)
      | inr past ↦
          absurd (let none : slice_get (map caller_answers callers) c ≡ None = slice_get-map caller_answers callers c ∙ ap (λ (o : Option Caller). option_map caller_answers o) past.1 in cc)
    ]

pub made_calls : (g : GeometryData) (first : List Gpi) (callers : List Caller) (h : List Entry) (tasks : List (List Task)) → IsHistoryOf first callers h → HaveTasks tasks callers → AreMade g callers
    → length tasks ≡ length callers → HasCalls (granule_bytes g.setup) tasks (map caller_answers callers) h
made_calls g first callers h tasks tells have made count = record {
  callers = λ c own given asks answers. given_calls g first callers h tasks c own given tells have made asks answers;
  known = subst (λ (n : ℕ). All (λ (e : Entry). caller_in e < n) h) (sym count) tells.known;
}
