-- What a run leaves: its trace, and what answers and words are for the trace's history.
use Rattle.std.proofs.Common.{◌≡◌, ℕ, zero, suc, ◌+◌, ◌*◌, ◌<◌, ◌≤◌, not, ◌⊎◌, ◌++◌, ◌∷◌, [], List, true, false, map, length, Option, Some, None, get_or, refl, sym, ap, ◌∙◌, subst, arith, inl, inr, Bool, ◌&&◌, eqb}
use Rattle.std.specs.Prelude.{slice_get, slice_index, is_some, Result, Ok, Err, IfOk}
use Rattle.alias_clean.specs.Lines.{has_line}
use Rattle.history.specs.declared.outcome.Outcome.{Outcome}
use Rattle.std.specs.List.{All, count_by}
use Rattle.std.specs.Option.{option_map}
use Rattle.std.proofs.lemmas.Bool.{cases_Bool, eqb-true, eq-eqb}
use Rattle.std.proofs.lemmas.List.{length-map}
use Rattle.std.proofs.lemmas.Option.{slice_get_cases, slice_get-map, slice_get_past, slice_get_within, get_or_from_slice_get}
use Rattle.history.specs.Rings.{AreRinged, HasRings, IsRinged, named_in}
use Rattle.history.specs.declared.rings.Named.{Named}
use Rattle.processor.proofs.RingLemmas.{walked_ringed}
use Rattle.gpi_values.specs.Values.{permits_of}
use Rattle.core_machine.specs.Lines.{AreAtRest, AreCleaned, AreTouched, seen_in}
use Rattle.core_machine.specs.InnerCpuCaller.{touching_under}
use Rattle.core_machine.specs.InnerCallers.{touching_by}
use Rattle.core_machine.proofs.AddressLemmas.{lock_of}
use Rattle.core_machine.proofs.NothingLeftLemmas.{uncleaned_holds}
use Rattle.processor.specs.InnerCpus.{task_of as cpu_task}
use Rattle.core_machine.specs.InnerWalks.{In}
use Rattle.core_machine.proofs.Names.{map_in, Gpi, Entry, start, after_entry, state_after, Size, granule_bytes, size_bytes, GeometryData, blocks_in_region, word_count, Duty, place_of, CallEvent, CpuData, IsCpu, Act, lock_number, lock_bit, Scenario, Script, Task, Answer, answer_at, count_of, AgentData, IsAgent, next_of, Caller, caller_next, caller_answers, known_answers, duty_by, number_by, holds, is_due, caller_tasks, IsMade, HoldsIn, InvariantFor, scene_of, caller_of, callers_from, cpu_number, opening_of, played, IsCounted, generation_word, TraceEvent, history_of, first_map, geometry_of, task_of_ask, task_of_look, turns_in, Scene, is_inside, coming_at}
use Rattle.core_machine.proofs.Names.script
use Rattle.core_machine.proofs.Names.task
use Rattle.core_machine.proofs.Names.entry
use Rattle.core_machine.proofs.Names.caller
use Rattle.history.specs.Calls.{Fits, IsLegalHistory, task_at}
use Rattle.history.specs.Legality.{IsSeen}
use Rattle.history.proofs.HistoryLemmas.{final_look, legal_parts}
use Rattle.delegate_ops.specs.Deciding.{HasCause}
use Rattle.delegate_ops.specs.InnerAgents.{has_ended}
use Rattle.delegate_ops.specs.Script.{Follows}
use Rattle.core_machine.specs.InnerPlay.{outcome_of, played_trace}
use Rattle.core_machine.proofs.ListLemmas.{some_or_none, none_passes, one, get_front, count_cons, count_none}
use Rattle.core_machine.proofs.LockLemmas.{holder_bit}
use Rattle.core_machine.proofs.CallerLemmas.{due_alone, placed_at, made_at_place}
use Rattle.core_machine.proofs.MachineLemmas.{turns_hold, turns_shape}
use Rattle.core_machine.proofs.TraceLemmas.{HasCome, played_walked, trace_answers, IsDone, turns_taken, trace_counts, trace_duty}
use Rattle.core_machine.proofs.AnswerLemmas.{calls_cause, alone_told, worn_told}
use Rattle.core_machine.proofs.FreeLemmas.{tables_told, words_told, whole_told}
use Rattle.delegate_ops.proofs.FollowLemmas.{walked_follows, walked_ended}
use Rattle.delegate_ops.proofs.NextLemmas.{next_there}
use Rattle.core_machine.specs.InnerFits.{AreMade, HaveTasks, IsWalked}
use Rattle.core_machine.proofs.LegalLemmas.{made_legal, made_calls}
use Rattle.core_machine.proofs.NumberLemmas.{callers_at, callers_count, opening_numbered, played_role, role_of, same_number, same_tasks, script_tasks}
use Rattle.core_machine.proofs.AccessLemmas.{access_answer, access_looks, access_there}
use Rattle.core_machine.specs.InnerCpuCaller.{duty_at}
use Rattle.core_machine.specs.InnerCallers.{HasOwnStamps}
use Rattle.history.specs.Stamps.{AreStamped, HasStamps, IsStampedCall}
use Rattle.delegate_ops.specs.Deciding.{is_look}
use Rattle.gpi_values.specs.declared.gpi.Space.{Space}
use Rattle.processor.specs.Script as cpus
use Rattle.processor.specs.InnerCpus as cpu
use Rattle.processor.specs.InnerCpus.{IsAt}
use Rattle.processor.specs.InnerProgress as progress
use Rattle.processor.proofs.CpuLemmas.{some_mapped, next_there as cpu_next_there}
use Rattle.processor.proofs.FollowLemmas.{cpu_ended, walked_follows as cpu_walked_follows}
use Rattle.core_machine.specs.Facts.{AreFinal, FitsHistory, IsAccessAnswer}
use Rattle.core_machine.specs.Trace.{events_of, FollowsScript, HasEnded, IsTrace, answers_by}
use Rattle.core_machine.specs.Scenarios.{tasks_of, first_words}
use Rattle.core_machine.specs.Run.{IsRun}

-- ---- tasks

pub have_tasks : (s : Scenario) → HaveTasks (map tasks_of s.scripts) (played s).callers
have_tasks s c x at =
    let own = played_role s c x at in
    let first = caller_of (geometry_of s) (cpu_number s.scripts c) own.0 in
    slice_get-map tasks_of s.scripts c ∙ ap (option_map tasks_of) own.1
    ∙ ap Some (sym (script_tasks (geometry_of s) (cpu_number s.scripts c) own.0) ∙ sym (same_tasks x first own.2))

pub many_callers : (s : Scenario) → length (played s).callers ≡ length s.scripts
many_callers s = (turns_shape (opening_of s) (turns_in s)).1 ∙ callers_count (geometry_of s) 0 s.scripts

pub many_tasks : (s : Scenario) → length (map tasks_of s.scripts) ≡ length (played s).callers
many_tasks s = length-map s.scripts tasks_of ∙ sym (many_callers s)

-- ---- counts

answered_at : (callers : List Caller) (c k : ℕ) (given : Answer) → answer_at (map caller_answers callers) c k ≡ Some given → (x : Caller) × (slice_get callers c ≡ Some x) × (slice_get (caller_answers x) k ≡ Some given)
answered_at [] c k given answered = absurd cc
answered_at (x ∷ callers) zero k given answered = (x, refl, answered)
answered_at (x ∷ callers) (suc c) k given answered = answered_at callers c k given answered

known_front : (x : Caller) (k : ℕ) (given : Answer) → slice_get (caller_answers x) k ≡ Some given → slice_get (known_answers x) k ≡ Some given
known_front (caller.Agent a) k given there = get_front a.answers (coming_at a.stage) k given there
known_front (caller.Cpu q) k given there = there

pub counts_told : (g : GeometryData) (s : Scene) (tasks : List (List Task)) → HoldsIn g s → HaveTasks tasks s.callers
    → (c k : ℕ) (t : Task) (given : Answer) → task_at tasks c k ≡ Some t → answer_at (map caller_answers s.callers) c k ≡ Some given → IsCounted g c k t given s.history
counts_told g s tasks stands have c k t given asked answered =
    let own = answered_at s.callers c k given answered in
    let task : slice_get (caller_tasks own.0) k ≡ Some t = rw (have c own.0 own.1) at asked in
    stands.counted c k own.0 t given own.1 task (known_front own.0 k given own.2)

-- ---- generations

pub generations_told : (g : GeometryData) (s : Scene) → HoldsIn g s → (y : Size) (region : ℕ) → region < blocks_in_region y * g.setup.gigabytes
    → (generation_word g s.words y region ≡ count_of g.setup.first (granule_bytes g.setup) y region s.history)
    ⊎ ((generation_word g s.words y region + 1 ≡ count_of g.setup.first (granule_bytes g.setup) y region s.history) × (lock_bit s.words (lock_number g.setup (region * size_bytes y)) ≡ 1))
generations_told g s stands y region within =
    elim (some_or_none (is_due y region) s.callers) [
      | inl none ↦ inl (omega (arith, stands.generations y region within, none))
      | inr some ↦
          (let n = lock_number g.setup (region * size_bytes y) in
          let in_block = placed_at g s some.0 some.1 stands some.2 in
          let has : holds n some.1 ≡ true = elim (in_block.due y region) [ inl none ↦ absurd (let both : true ≡ false = sym some.3 ∙ none in cc) | inr has ↦ has ] in
          let due : count_by (is_due y region) s.callers ≡ 1 = due_alone (record { stands = stands; at = some.2; has = has }) y region refl ∙ ap one some.3 in
          inr (omega (arith, stands.generations y region within, due), holder_bit s.words s.callers some.0 n some.1 some.2 stands.locks (in_block.low n has) has))
    ]

-- ---- locks at the end

holds_none : (n : ℕ) (g : GeometryData) (x : Caller) → IsMade g x → length (caller_tasks x) ≤ length (caller_answers x) → holds n x ≡ false
holds_none n g (caller.Cpu q) made all = refl
holds_none n g (caller.Agent a) made all =
    rw (slice_get_past a.tasks (length a.answers) all) (elim (cases_Bool (is_inside a.stage)) [ inl inside ↦ rw inside refl | inr outside ↦ rw outside refl ])

answers_of_caller : (callers : List Caller) (c : ℕ) (x : Caller) → slice_get callers c ≡ Some x → slice_get (map caller_answers callers) c ≡ Some (caller_answers x)
answers_of_caller callers c x at = slice_get-map caller_answers callers c ∙ ap (option_map caller_answers) at

-- a caller of which each task is answered
all_answered : (tasks : List (List Task)) (callers : List Caller) (c : ℕ) (x : Caller) → HaveTasks tasks callers → slice_get callers c ≡ Some x
    → ((d k : ℕ) (t : Task) → task_at tasks d k ≡ Some t → answer_at (map caller_answers callers) d k ≡ None → ⊥) → length (caller_tasks x) ≤ length (caller_answers x)
all_answered tasks callers c x have at ended =
    elim (slice_get_cases (caller_tasks x) (length (caller_answers x))).1 [
      | inr past ↦ past.0
      | inl here ↦
          absurd
          (ended c (length (caller_answers x)) here.0 (rw (have c x at) here.2)
          (rw (answers_of_caller callers c x at) (slice_get_past (caller_answers x) (length (caller_answers x)) (omega arith))))
    ]

pub locks_ended : (g : GeometryData) (s : Scene) (tasks : List (List Task)) → HoldsIn g s → HaveTasks tasks s.callers
    → ((d k : ℕ) (t : Task) → task_at tasks d k ≡ Some t → answer_at (map caller_answers s.callers) d k ≡ None → ⊥) → (n : ℕ) → n < 128 → lock_bit s.words n ≡ 0
locks_ended g s tasks stands have ended n below =
    stands.locks n below
    ∙ count_none (holds n) s.callers
    (λ d x there. holds_none n g x (made_at_place g s d x stands there) (all_answered tasks s.callers d x have there ended))

-- ---- duty words at the end

abbrev has_number : ℕ → Option ℕ → Bool
has_number p None = false
has_number p (Some q) = eqb q p

has_it : (p : ℕ) (o : Option ℕ) → has_number p o ≡ true → o ≡ Some p
has_it p None is = absurd cc
has_it p (Some q) is = ap Some (eqb-true q p is)

it_has : (p : ℕ) (o : Option ℕ) → o ≡ Some p → has_number p o ≡ true
it_has p None is = absurd cc
it_has p (Some q) is = eq-eqb q p cc

off_by : (g : GeometryData) (x : Caller) → IsMade g x → length (caller_tasks x) ≤ length (caller_answers x) → duty_by x ≡ 0
off_by g (caller.Agent a) made all = refl
off_by g (caller.Cpu q) made all =
    let starting : q.stage ≡ progress.Starting = subst (λ (o : Option Task). IsAt q.geometry o q.stage) (slice_get_past q.tasks (length q.answers) all) made.1.stage in
    ap duty_at starting

pub duty_ended : (g : GeometryData) (s : Scene) (tasks : List (List Task)) → HoldsIn g s → HaveTasks tasks s.callers
    → ((d k : ℕ) (t : Task) → task_at tasks d k ≡ Some t → answer_at (map caller_answers s.callers) d k ≡ None → ⊥) → (p : ℕ) → p < g.cpus → slice_index s.words (place_of g (Duty p)) ≡ 0
duty_ended g s tasks stands have ended p low =
    elim (some_or_none (λ x. has_number p (number_by x)) s.callers) [
      | inl none ↦ stands.others p low (λ d x there is. let both : true ≡ false = sym (it_has p (number_by x) is) ∙ none_passes (λ y. has_number p (number_by y)) s.callers d x none there in cc)
      | inr own ↦
          stands.duties own.0 p own.1 own.2 (has_it p (number_by own.1) own.3)
          ∙ off_by g own.1 (made_at_place g s own.0 own.1 stands own.2) (all_answered tasks s.callers own.0 own.1 have own.2 ended)
    ]

-- ---- lines

both_are : (b c : Bool) → (b && c) ≡ true → (b ≡ true) × (c ≡ true)
both_are true true both = (refl, refl)
both_are true false both = absurd cc
both_are false c both = absurd cc

-- beside a lock that isn't held a resident line is by the map and the history
line_clean : (g : GeometryData) (s : Scene) (k : ℕ) (sp : Space) → HoldsIn g s → (lock_of g.setup k < 128 → lock_bit s.words (lock_of g.setup k) ≡ 0)
    → has_line g s.words k sp ≡ true → (permits_of (map_in s k) sp && seen_in k sp s.history) ≡ true
line_clean g s k sp stands free resident =
    elim (stands.lines k sp resident) [
      | inl by_map ↦ rw (by_map.0, by_map.1) refl
      | inr former ↦
          absurd (let some = former.2 in
          let has = uncleaned_holds g some.caller k former.0 (made_at_place g s some.number some.caller stands some.at) some.has in
          let low = (placed_at g s some.number some.caller stands some.at).low (lock_of g.setup k) has in
          let both : 1 ≡ 0 = sym (holder_bit s.words s.callers some.number (lock_of g.setup k) some.caller some.at stands.locks low has) ∙ free low in
          cc)
    ]

pub cleaned_told : (g : GeometryData) (s : Scene) → HoldsIn g s → AreCleaned g s.words (map_in s) s.history
cleaned_told g s stands k sp free = line_clean g s k sp stands (λ low. free)

-- who is about to touch a line is a processor with its duty word set
touching_on : (g : GeometryData) (o : Option Task) (s : progress.Stage) (k : ℕ) (sp : Space) → In {A = ℕ × Space} (k, sp) (touching_under g o s) → duty_at s ≡ 1
touching_on g (Some (task.Look pa space)) (progress.Closing w m) k sp has = refl
touching_on g (Some (task.Look pa space)) (progress.Touching a) k sp has = refl
touching_on g o s k sp has = absurd has

touching_off : (g : GeometryData) (s : Scene) (c k : ℕ) (x : Caller) (sp : Space) → HoldsIn g s → slice_get s.callers c ≡ Some x
    → ((p : ℕ) → p < g.cpus → slice_index s.words (place_of g (Duty p)) ≡ 0) → In {A = ℕ × Space} (k, sp) (touching_by x) → ⊥
touching_off g s c k (caller.Agent a) sp stands at off has = has
touching_off g s c k (caller.Cpu q) sp stands at off has =
    let made = made_at_place g s c (caller.Cpu q) stands at in
    let low : q.number < g.cpus = subst (λ (v : GeometryData). q.number < v.cpus) made.0 made.1.number in
    absurd (let both : 1 ≡ 0 = sym (touching_on q.geometry (cpu_task q) q.stage k sp has) ∙ sym (stands.duties c q.number (caller.Cpu q) at refl) ∙ off q.number low in cc)

pub touched_told : (g : GeometryData) (s : Scene) → HoldsIn g s → AreTouched g s.words (map_in s) s.history
touched_told g s stands off k sp both =
    let parts = both_are (permits_of (map_in s k) sp) (seen_in k sp s.history) both in
    elim (stands.touches k sp parts.0 parts.1) [
      | inl resident ↦ resident
      | inr some ↦ absurd (touching_off g s some.number k some.caller sp stands some.at off some.has)
    ]

same_where : (b c : Bool) → (b ≡ true → c ≡ true) → (c ≡ true → b ≡ true) → b ≡ c
same_where true true there back = refl
same_where false false there back = refl
same_where true false there back = sym (there refl)
same_where false true there back = back refl

pub lines_ended : (g : GeometryData) (s : Scene) → HoldsIn g s → ((n : ℕ) → n < 128 → lock_bit s.words n ≡ 0) → ((p : ℕ) → p < g.cpus → slice_index s.words (place_of g (Duty p)) ≡ 0)
    → AreAtRest g s.words (map_in s) s.history
lines_ended g s stands free off k sp =
    same_where (has_line g s.words k sp) (permits_of (map_in s k) sp && seen_in k sp s.history)
    (line_clean g s k sp stands (free (lock_of g.setup k))) (touched_told g s stands off k sp)

-- ---- causes

caller_cause : (g : GeometryData) (c k : ℕ) (x : Caller) (t : Task) (given : Answer) → IsWalked g c x → slice_get (caller_tasks x) k ≡ Some t → slice_get (caller_answers x) k ≡ Some given → is_look t ≡ false → HasCause g t given
caller_cause g c k (caller.Agent a) t given is asked answered transition =
    subst (λ (v : GeometryData). HasCause v t given) is.0 (calls_cause a.geometry c 0 k a.tasks a.answers is.3.calls t given is.3.answered asked answered)
caller_cause g c k (caller.Cpu q) t given is asked answered transition =
    absurd (let both : true ≡ false = sym (access_looks q.geometry t (access_there q k t is.1 asked)) ∙ transition in cc)

causes_told : (g : GeometryData) (callers : List Caller) (tasks : List (List Task)) → HaveTasks tasks callers → AreMade g callers → (c k : ℕ) (t : Task) (given : Answer) → task_at tasks c k ≡ Some t
    → answer_at (map caller_answers callers) c k ≡ Some given → is_look t ≡ false → HasCause g t given
causes_told g callers tasks have made c k t given asked answered transition =
    let own = answered_at callers c k given answered in
    let task : slice_get (caller_tasks own.0) k ≡ Some t = rw (have c own.0 own.1) at asked in
    caller_cause g c k own.0 t given (made c own.0 own.1) task own.2 transition

-- ---- accesses

caller_look : (g : GeometryData) (c k : ℕ) (x : Caller) (pa : ℕ) (space : Space) (given : Answer) → IsWalked g c x → slice_get (caller_tasks x) k ≡ Some (task.Look pa space) → slice_get (caller_answers x) k ≡ Some given → IsAccessAnswer g pa space given
caller_look g c k (caller.Agent a) pa space given is asked answered =
    absurd
    (let none : is_look (get_or a.tasks k (task.Look pa space)) ≡ false = is.1.no_looks k (task.Look pa space) (slice_get_within a.tasks k (task.Look pa space) asked) in
    let both : true ≡ false = sym (ap is_look (get_or_from_slice_get a.tasks k (task.Look pa space) (task.Look pa space) asked)) ∙ none in cc)
caller_look g c k (caller.Cpu q) pa space given is asked answered =
    subst (λ (v : GeometryData). IsAccessAnswer v pa space given) is.0 (access_answer q.geometry q.number c 0 k q.tasks [] q.answers is.3.kept is.3.calls pa space given is.3.answered asked answered)

looks_told : (g : GeometryData) (callers : List Caller) (tasks : List (List Task)) → HaveTasks tasks callers → AreMade g callers → (c k pa : ℕ) (space : Space) (given : Answer) → task_at tasks c k ≡ Some (task.Look pa space)
    → answer_at (map caller_answers callers) c k ≡ Some given → IsAccessAnswer g pa space given
looks_told g callers tasks have made c k pa space given asked answered =
    let own = answered_at callers c k given answered in
    let task : slice_get (caller_tasks own.0) k ≡ Some (task.Look pa space) = rw (have c own.0 own.1) at asked in
    caller_look g c k own.0 pa space given (made c own.0 own.1) task own.2

fit_is : (o : Option Answer) (a given : Answer) → Fits o a → o ≡ Some given → given ≡ a
fit_is None a given fits is = absurd cc
fit_is (Some x) a given fits is = (let same : x ≡ given = cc in sym same ∙ fits)

-- after a change is complete, an access is answered by the map
final_told : (bytes : ℕ) (first : List Gpi) (tasks : List (List Task)) (answers : List (List Answer)) (h : List Entry) → IsLegalHistory bytes tasks answers (start first) h → AreFinal first answers h
final_told bytes first tasks answers h legal before between after c k d j granule space gpi allowed parts unchanged =
    let s = start first in
    let look = entry.Looked d j granule space gpi allowed in
    let whole = subst (IsLegalHistory bytes tasks answers s) parts legal in
    let final = final_look bytes tasks answers s before between after c k granule d j space gpi allowed whole unchanged in
    let rest = legal_parts bytes tasks answers s before (entry.Settled c k granule ∷ (between ++ look ∷ after)) whole in
    let last = legal_parts bytes tasks answers (after_entry (state_after s before) (entry.Settled c k granule)) between (look ∷ after) rest.1.1 in
    let own = last.1.0 in (
      final.0,
      final.1,
      λ given answered. subst (λ (a : Answer). IsSeen a gpi allowed) (sym (fit_is (answer_at answers d j) own.answered given own.answer answered)) own.legal.call.2,
    )

agent_call_stamped : (map : List Gpi) (first bytes c k : ℕ) (t : Task) (given : Answer) (h : List Entry) → is_look t ≡ false → IsStampedCall map first bytes c k t given h
agent_call_stamped map first bytes c k (task.Look pa space) given h transition = absurd cc
agent_call_stamped map first bytes c k (task.Delegate pa source) given h transition = tt
agent_call_stamped map first bytes c k (task.Undelegate pa source) given h transition = tt
agent_call_stamped map first bytes c k task.Unknown given h transition = tt

caller_stamped : (g : GeometryData) (map : List Gpi) (h : List Entry) (c : ℕ) (x : Caller) → IsWalked g c x → HasOwnStamps map h c x → AreStamped map g.setup.first (granule_bytes g.setup) c (caller_tasks x) (caller_answers x) h
caller_stamped g map h c (caller.Agent a) is stamps = λ k t given asked answered.
    agent_call_stamped map g.setup.first (granule_bytes g.setup) c k t given h
    (ap is_look (sym (get_or_from_slice_get a.tasks k t t asked)) ∙ is.1.no_looks k t (slice_get_within a.tasks k t asked))
caller_stamped g map h c (caller.Cpu q) is stamps =
    subst (λ (v : GeometryData). AreStamped map v.setup.first (granule_bytes v.setup) c q.tasks q.answers h) is.0 stamps.0

-- answers of calls that are no accesses say nothing of rings
plain_ring : (ring : ℕ) (walks : List Named) (t : Task) (given : Answer) → is_look t ≡ false → IsRinged ring walks t given
plain_ring ring walks (task.Look pa space) given transition = absurd cc
plain_ring ring walks (task.Delegate pa source) given transition = tt
plain_ring ring walks (task.Undelegate pa source) given transition = tt
plain_ring ring walks task.Unknown given transition = tt

plain_rings : (ring : ℕ) (walks : List Named) (tasks : List Task) (answers : List Answer) → ((k : ℕ) (t : Task) → slice_get tasks k ≡ Some t → is_look t ≡ false) → AreRinged ring walks tasks answers
plain_rings ring walks [] answers plain = tt
plain_rings ring walks (t ∷ tasks) [] plain = tt
plain_rings ring walks (t ∷ tasks) (given ∷ answers) plain = (plain_ring ring walks t given (plain 0 t refl), plain_rings ring (walks ++ named_in t given) tasks answers (λ k u there. plain (suc k) u there))

caller_ringed : (g : GeometryData) (c : ℕ) (x : Caller) → IsWalked g c x → AreRinged g.setup.ring [] (caller_tasks x) (caller_answers x)
caller_ringed g c (caller.Agent a) is =
    plain_rings g.setup.ring [] a.tasks a.answers (λ k t asked. ap is_look (sym (get_or_from_slice_get a.tasks k t t asked)) ∙ is.1.no_looks k t (slice_get_within a.tasks k t asked))
caller_ringed g c (caller.Cpu q) is = subst (λ (v : GeometryData). AreRinged v.setup.ring [] q.tasks q.answers) is.0 (walked_ringed c q is.2 is.3)

-- the rings of all processors
rings_told : (g : GeometryData) (s : Scene) (tasks : List (List Task)) → HaveTasks tasks s.callers → AreMade g s.callers → HasRings g.setup.ring tasks (map caller_answers s.callers)
rings_told g s tasks have made c own given asks answers =
    let there = some_mapped caller_answers (slice_get s.callers c) given (sym (slice_get-map caller_answers s.callers c) ∙ answers) in
    let same : caller_tasks there.0 ≡ own = (let both : Some (caller_tasks there.0) ≡ Some own = sym (have c there.0 there.1) ∙ asks in cc) in
    subst (λ (ts : List Task). AreRinged g.setup.ring [] ts given) same (subst (AreRinged g.setup.ring [] (caller_tasks there.0)) there.2 (caller_ringed g c there.0 (made c there.0 there.1)))

-- the stamps of all accesses
stamps_told : (g : GeometryData) (s : Scene) (tasks : List (List Task)) → HoldsIn g s → HaveTasks tasks s.callers → AreMade g s.callers
    → HasStamps s.first g.setup.first (granule_bytes g.setup) tasks (map caller_answers s.callers) s.history
stamps_told g s tasks stands have made c own given asks answers =
    let there = some_mapped caller_answers (slice_get s.callers c) given (sym (slice_get-map caller_answers s.callers c) ∙ answers) in
    let x = there.0 in
    let tasks_are : caller_tasks x ≡ own = (let both : Some (caller_tasks x) ≡ Some own = sym (have c x there.1) ∙ asks in cc) in
    subst (λ (ts : List Task). AreStamped s.first g.setup.first (granule_bytes g.setup) c ts given s.history) tasks_are
    (subst (λ (list : List Answer). AreStamped s.first g.setup.first (granule_bytes g.setup) c (caller_tasks x) list s.history) there.2
    (caller_stamped g s.first s.history c x (made c x there.1) (stands.stamps c x there.1)))

-- ---- facts over plain data

pub fits_history : (g : GeometryData) (s : Scene) (tasks : List (List Task)) → HoldsIn g s → HaveTasks tasks s.callers → AreMade g s.callers → length tasks ≡ length s.callers
    → FitsHistory g s.first tasks (map caller_answers s.callers) s.words s.history
fits_history g s tasks stands have made count =
    record {
      many = length-map s.callers caller_answers ∙ sym count;
      size = stands.shape.size;
      legal = made_legal g s.first s.callers s.history tasks stands.history have made stands.shape.granules;
      calls = made_calls g s.first s.callers s.history tasks stands.history have made count;
      causes = causes_told g s.callers tasks have made;
      looks = looks_told g s.callers tasks have made;
      counts = counts_told g s tasks stands have;
      worn = worn_told g s tasks stands have made;
      final = final_told (granule_bytes g.setup) s.first tasks (map caller_answers s.callers) s.history (made_legal g s.first s.callers s.history tasks stands.history have made stands.shape.granules);
      stamps = stamps_told g s tasks stands have made;
      rings = rings_told g s tasks have made;
      undisturbed = stands.undisturbed;
      alone = alone_told g s stands made;
      tables = tables_told g s stands;
      canonical = words_told g s stands;
      generations = generations_told g s stands;
      ended = locks_ended g s tasks stands have;
      whole = whole_told g s stands (locks_ended g s tasks stands have);
      duty = duty_ended g s tasks stands have;
      cleaned = cleaned_told g s stands;
      touched = touched_told g s stands;
      lines = λ ended. lines_ended g s stands (locks_ended g s tasks stands have ended) (duty_ended g s tasks stands have ended);
    }

-- ---- the trace of a schedule

own_answers : (answers own : List Answer) (o : Option (List Answer)) → o ≡ Some answers → o ≡ Some own → own ≡ answers
own_answers answers own o is given = let both : Some own ≡ Some answers = sym given ∙ is in cc

-- the caller at the end has the role of its script's
abbrev HasRole : Scenario → ℕ → Script → Caller → Type 0
HasRole s c own x = role_of x ≡ role_of (caller_of (geometry_of s) (cpu_number s.scripts c) own)

follows_of : (s : Scenario) (c : ℕ) (own : Script) (x : Caller) → AreMade (geometry_of s) (played s).callers → slice_get (played s).callers c ≡ Some x → HasCome c x (events_of c (played_trace s)) → HasRole s c own x
    → FollowsScript (geometry_of s) c (cpu_number s.scripts c) own (caller_answers x) (events_of c (played_trace s))
follows_of s c (script.Agent asks) (caller.Agent a) made at come role =
    let is = made c (caller.Agent a) at in
    let tasks : a.tasks ≡ map task_of_ask asks = same_tasks (caller.Agent a) (caller_of (geometry_of s) (cpu_number s.scripts c) (script.Agent asks)) role in
    subst (λ (ts : List Task). Follows (geometry_of s) c ts a.answers (events_of c (played_trace s))) tasks
    (subst (λ (g : GeometryData). Follows g c a.tasks a.answers (events_of c (played_trace s))) is.0
    (walked_follows c a (events_of c (played_trace s)) is.1 come))
follows_of s c (script.Agent asks) (caller.Cpu q) made at come role =
    absurd (let number = same_number (caller.Cpu q) (caller_of (geometry_of s) (cpu_number s.scripts c) (script.Agent asks)) role in cc)
follows_of s c (script.Cpu looks) (caller.Agent a) made at come role =
    absurd (let number = same_number (caller.Agent a) (caller_of (geometry_of s) (cpu_number s.scripts c) (script.Cpu looks)) role in cc)
follows_of s c (script.Cpu looks) (caller.Cpu q) made at come role =
    let is = made c (caller.Cpu q) at in
    let first = caller_of (geometry_of s) (cpu_number s.scripts c) (script.Cpu looks) in
    let tasks : q.tasks ≡ map task_of_look looks = same_tasks (caller.Cpu q) first role in
    let number : q.number ≡ cpu_number s.scripts c = (let some = same_number (caller.Cpu q) first role in cc) in
    subst (λ (ts : List Task). cpus.Follows (geometry_of s) (cpu_number s.scripts c) c ts q.answers (events_of c (played_trace s))) tasks
    (subst (λ (p : ℕ). cpus.Follows (geometry_of s) p c q.tasks q.answers (events_of c (played_trace s))) number
    (subst (λ (g : GeometryData). cpus.Follows g q.number c q.tasks q.answers (events_of c (played_trace s))) is.0
    (cpu_walked_follows c q (events_of c (played_trace s)) is.1 come)))

-- a caller that has no next act at the end has ended
has_no_next : (a : AgentData) → IsAgent a → next_of a ≡ None → has_ended a ≡ true
has_no_next a is none = elim (cases_Bool (has_ended a)) [ inl ended ↦ ended | inr other ↦ absurd (let there = next_there a is in let both : is_some (next_of a) ≡ true = there ∙ ap not other in let no : is_some {T = Act} None ≡ true = subst (λ (o : Option Act). is_some o ≡ true) none both in cc) ]

cpu_has_ended : (q : CpuData) → IsCpu q → cpu.next_of q ≡ None → cpu.has_ended q ≡ true
cpu_has_ended q is none =
    elim (cases_Bool (cpu.has_ended q)) [
      | inl ended ↦ ended
      | inr other ↦ absurd (let there = cpu_next_there q is ∙ ap not other in let both : is_some {T = Act} None ≡ true = ap (λ (o : Option Act). is_some o) (sym none) ∙ there in cc)
    ]

ended_of : (s : Scenario) (c : ℕ) (own : Script) (x : Caller) → AreMade (geometry_of s) (played s).callers → slice_get (played s).callers c ≡ Some x → HasRole s c own x → caller_next x ≡ None
    → HasEnded (Some own) (caller_answers x)
ended_of s c (script.Agent asks) (caller.Agent a) made at role none =
    let is = made c (caller.Agent a) at in
    let tasks : a.tasks ≡ map task_of_ask asks = same_tasks (caller.Agent a) (caller_of (geometry_of s) (cpu_number s.scripts c) (script.Agent asks)) role in
    walked_ended c a is.2 is.1 is.3 (has_no_next a is.1 none) ∙ ap length tasks ∙ length-map asks task_of_ask
ended_of s c (script.Agent asks) (caller.Cpu q) made at role none =
    absurd (let number = same_number (caller.Cpu q) (caller_of (geometry_of s) (cpu_number s.scripts c) (script.Agent asks)) role in cc)
ended_of s c (script.Cpu looks) (caller.Agent a) made at role none =
    absurd (let number = same_number (caller.Agent a) (caller_of (geometry_of s) (cpu_number s.scripts c) (script.Cpu looks)) role in cc)
ended_of s c (script.Cpu looks) (caller.Cpu q) made at role none =
    let is = made c (caller.Cpu q) at in
    let tasks : q.tasks ≡ map task_of_look looks = same_tasks (caller.Cpu q) (caller_of (geometry_of s) (cpu_number s.scripts c) (script.Cpu looks)) role in
    cpu_ended q is.1 (cpu_has_ended q is.1 none) ∙ ap length tasks ∙ length-map looks task_of_look

answers_given : (callers : List Caller) (c : ℕ) (x : Caller) → slice_get callers c ≡ Some x → answers_by (map caller_answers callers) (slice_get (map caller_answers callers) c) ≡ caller_answers x
answers_given callers c x at = ap (answers_by (map caller_answers callers)) (answers_of_caller callers c x at)

ends_of : (s : Scenario) (c : ℕ) (o : Option Caller) → AreMade (geometry_of s) (played s).callers → slice_get (played s).callers c ≡ o → IsDone o
    → HasEnded (slice_get s.scripts c) (answers_by (map caller_answers (played s).callers) (slice_get (map caller_answers (played s).callers) c))
ends_of s c (Some x) made at done =
    let own = played_role s c x at in
    subst (λ (o : Option Script). HasEnded o (answers_by (map caller_answers (played s).callers) (slice_get (map caller_answers (played s).callers) c))) (sym own.1)
    (subst (HasEnded (Some own.0)) (sym (answers_given (played s).callers c x at))
    (ended_of s c own.0 x made at own.2 done))
ends_of s c None made at done =
    let count : length s.scripts ≡ length (played s).callers = sym (many_callers s) in
    let none : slice_get s.scripts c ≡ None =
    elim (slice_get_cases (played s).callers c).1 [
      | inl here ↦ absurd (let both : Some here.0 ≡ None = sym here.2 ∙ at in cc)
      | inr past ↦ slice_get_past s.scripts c (let high = past.0 in omega (arith, high, count))
    ] in
    subst (λ (o : Option Script). HasEnded o (answers_by (map caller_answers (played s).callers) (slice_get (map caller_answers (played s).callers) c))) (sym none) tt

pub is_trace : (s : Scenario) → InvariantFor (first_map s) (opening_of s) [] → AreMade (geometry_of s) (played s).callers
    → IsTrace (geometry_of s) s.scripts (first_words s) (turns_in s) (played_trace s) (map caller_answers (played s).callers) (played s).words
is_trace s opening made = record {
  callers = subst (λ (n : ℕ). All (λ (e : TraceEvent). e.caller < n) (played_trace s)) (callers_count (geometry_of s) 0 s.scripts) (turns_shape (opening_of s) (turns_in s)).2;
  turned = turns_taken _ (opening_of s) (turns_in s) (λ c o at done. ends_of s c o made at done);
  answered = (trace_answers (opening_of s) (turns_in s) (first_map s, [], opening)).1;
  left = (trace_answers (opening_of s) (turns_in s) (first_map s, [], opening)).0;
  follows = λ c own answers given answered.
      let count : length s.scripts ≡ length (played s).callers = sym (many_callers s) in
      elim (slice_get_cases (played s).callers c).1 [
        | inl here ↦
            (let there = played_role s c here.0 here.2 in
            let same : there.0 ≡ own = let both : Some there.0 ≡ Some own = sym there.1 ∙ given in cc in
            let is : answers ≡ caller_answers here.0 = own_answers (caller_answers here.0) answers _ (answers_of_caller (played s).callers c here.0 here.2) answered in
            subst (λ (list : List Answer). FollowsScript (geometry_of s) c (cpu_number s.scripts c) own list (events_of c (played_trace s))) (sym is)
            (follows_of s c own here.0 made here.2 (played_walked s c here.0 opening here.2) (subst (λ (x : Script). HasRole s c x here.0) same there.2)))
        | inr past ↦ absurd (let high = past.0 in let low = slice_get_within s.scripts c own given in omega (arith, high, low, count))
      ];
}

opening_holds : (n : ℕ) (g : GeometryData) (p : ℕ) (scripts : List Script) → count_by (holds n) (callers_from g p scripts) ≡ 0
opening_holds n g p [] = refl
opening_holds n g p (script.Agent asks ∷ scripts) =
    let counted : count_by (holds n) (callers_from g p (script.Agent asks ∷ scripts)) ≡ 0 + count_by (holds n) (callers_from g p scripts) = count_cons (holds n) (callers_from g p scripts) (caller_of g p (script.Agent asks)) in
    omega (arith, counted, opening_holds n g p scripts)
opening_holds n g p (script.Cpu looks ∷ scripts) =
    let counted : count_by (holds n) (callers_from g p (script.Cpu looks ∷ scripts)) ≡ 0 + count_by (holds n) (callers_from g (p + 1) scripts) = count_cons (holds n) (callers_from g (p + 1) scripts) (caller_of g p (script.Cpu looks)) in
    omega (arith, counted, opening_holds n g (p + 1) scripts)

-- before the first act each duty word is 0
off_first : (g : GeometryData) (p : ℕ) (s : Script) → duty_by (caller_of g p s) ≡ 0
off_first g p (script.Agent asks) = refl
off_first g p (script.Cpu looks) = refl

opening_off : (s : Scenario) (p : ℕ) → InvariantFor (first_map s) (opening_of s) [] → p < (geometry_of s).cpus → slice_index (opening_of s).words (place_of (geometry_of s) (Duty p)) ≡ 0
opening_off s p opening low =
    let own = opening_numbered s p low in
    let first = callers_at (geometry_of s) 0 own.0 s.scripts own.1 own.2 in
    opening.duties own.0 p own.1 own.2 own.3 ∙ ap duty_by first.2 ∙ off_first (geometry_of s) _ first.0

-- ---- the whole

-- a caller that was made with this geometry and has come so far
walked_of : (g : GeometryData) (c : ℕ) (x : Caller) (events : List CallEvent) → IsMade g x → HasCome c x events → IsWalked g c x
walked_of g c (caller.Agent a) events made come = (made.0, made.1, events, come)
walked_of g c (caller.Cpu q) events made come = (made.0, made.1, events, come)

pub is_run : (s : Scenario) → InvariantFor (first_map s) (opening_of s) [] → IsRun s (outcome_of (played s)) (played_trace s)
is_run s opening =
    let stands_so = turns_hold (first_map s) (opening_of s) [] (turns_in s) opening in
    let end : Scene = scene_of (first_map s) (played s) (history_of (played_trace s)) in
    let stands : HoldsIn (geometry_of s) end = subst (λ (g : GeometryData). HoldsIn g end) (turns_shape (opening_of s) (turns_in s)).0 stands_so in
    let made : AreMade (geometry_of s) (played s).callers = λ c x at.
    walked_of (geometry_of s) c x (events_of c (played_trace s)) (made_at_place (geometry_of s) end c x stands at) (played_walked s c x opening at) in
    record {
      geometry = (turns_shape (opening_of s) (turns_in s)).0;
      turns = is_trace s opening made;
      fits = fits_history (geometry_of s) end (map tasks_of s.scripts) stands (have_tasks s) made (many_tasks s);
      locks = λ n low.
          let counts = trace_counts n (opening_of s) (turns_in s) low (first_map s, [], opening) in
          let free = opening.locks n low in
          let none = opening_holds n (geometry_of s) 0 s.scripts in
          omega (arith, counts, free, none);
      duty = λ p low.
          let counts = trace_duty p (opening_of s) (turns_in s) low (first_map s, [], opening) in
          let off = opening_off s p opening low in
          omega (arith, counts, off);
    }

pub run_left : {E : Type 0} (s : Scenario) (r : Result Outcome E) → InvariantFor (first_map s) (opening_of s) [] → IfOk r (λ o. o ≡ outcome_of (played s)) → IfOk r (λ o. IsRun s o (played_trace s))
run_left s (Ok o) opening left = subst (λ (x : Outcome). IsRun s x (played_trace s)) (sym left) (is_run s opening)
run_left s (Err e) opening left = tt

pub run_size : {E : Type 0} (s : Scenario) (r : Result Outcome E) → IfOk r (λ o. IsRun s o (played_trace s)) → IfOk r (λ o. length o.words ≡ word_count o.geometry)
run_size s (Ok o) run = run.fits.size ∙ ap word_count (sym run.geometry)
run_size s (Err e) run = tt
