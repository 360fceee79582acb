-- All passes joined into one: it has each caller and has seen the whole history, which the answers and the words fit.
use Rattle.std.proofs.Common.{◌≡◌, ℕ, zero, suc, ◌+◌, ◌<◌, List, [], ◌∷◌, ◌++◌, map, length, length-append, append-nil, take, true, refl, Option, Some, sym, ap, ◌∙◌, subst, inl, inr, arith}
use Rattle.std.specs.Prelude.{slice_get, ◌==◌, ◌≤◌, Bool, false, not, is_some, option_and_then, None}
use Rattle.std.specs.List.{All}
use Rattle.std.specs.Option.{option_map}
use Rattle.std.proofs.lemmas.Bool.{eq-eqb}
use Rattle.std.proofs.lemmas.List.{length-map}
use Rattle.std.proofs.lemmas.List.Elements.{All-cons, All-head, All-nil, All-same, All-tail, filter-append}
use Rattle.std.proofs.lemmas.Option.{slice_get-map, slice_get_cases, slice_get_within}
use mathlib.Core.Option.{some, some-injective, some-ne-none}
use lib.ListN.{get_elem?}
use Rattle.gpi_values.specs.declared.gpi.Gpi.{Gpi}
use Rattle.gpt_descriptors.specs.Places.{GeometryData}
use Rattle.history.specs.declared.call.Task.{Task}
use Rattle.history.specs.declared.entry.Entry.{Entry}
use Rattle.history.specs.Entries.{caller_in}
use Rattle.history.specs.Calls.{entries_by}
use Rattle.delegate_ops.specs.InnerAgents as agents
use Rattle.delegate_ops.proofs.NextLemmas.{next_there as agent_next}
use Rattle.processor.specs.InnerCpus as cpus
use Rattle.processor.proofs.CpuLemmas.{next_there as cpu_next}
use Rattle.core_machine.specs.declared.caller.Caller.{Caller}
use Rattle.core_machine.specs.declared.caller.Caller.TheVariants as caller
use Rattle.core_machine.specs.Facts.{AllAnswered, FitsHistory}
use Rattle.core_machine.specs.InnerCallers.{caller_answers, caller_next, caller_tasks, own_of}
use Rattle.core_machine.specs.InnerFits.{AreMade, IsWalked}
use Rattle.core_machine.specs.InnerOpening.{AreStarting}
use Rattle.core_machine.proofs.AloneLemmas.{own_first}
use Rattle.core_machine.proofs.ListLemmas.{get_front, get_last}
use Rattle.core_machine.proofs.MomentLemmas.{scenes_fit}
use Rattle.race_run.specs.declared.view.Opening.{Opening}
use Rattle.race_run.specs.declared.view.View.{View}
use Rattle.race_run.specs.Passes.{FieldData, PassData}
use Rattle.race_run.specs.Closing.{AreAll, HasClosed}
use Rattle.race_run.specs.InnerRule.{AreOf, Begins, IsHeld, IsRunning, KnowsOf, joined, joined_back, role_of, with_held}
use Rattle.race_run.proofs.SplitLemmas.{Held}
use Rattle.race_run.proofs.StepLemmas.{knows_so, same_tasks}
use Rattle.race_run.proofs.JoinLemmas.{none_there}

-- ---- passes joined one by one

pub last_joined : (v : View) (passes : List PassData) (p : PassData) → joined_back v (passes ++ p ∷ []) ≡ joined_back (joined v p.view) passes
last_joined v [] p = refl
last_joined v (q ∷ passes) p = ap (λ (w : View). joined w q.view) (last_joined v passes p)

pub last_of : (f : FieldData) (passes rest : List PassData) (p : PassData) → passes ≡ rest ++ p ∷ [] → AreOf f passes → (p.id ≡ f.id) × (p.view.opening ≡ Some f.opening) × AreOf f rest
last_of f passes rest p is all =
    let each : AreOf f (rest ++ p ∷ []) = subst (AreOf f) is all in
    let last = each (length rest) p (get_last rest (p ∷ []) p refl) in
    (last.0, last.1, λ i q at. each i q (get_front rest (p ∷ []) i q at))

pub still_open : (v : View) (passes : List PassData) → (joined_back v passes).opening ≡ v.opening
still_open v [] = refl
still_open v (p ∷ passes) = still_open v passes

held_each : (v : View) (passes : List PassData) (i : ℕ) (p : PassData) (a : Held) → slice_get passes i ≡ Some p → p.view.held ≡ a ∷ [] → (q : ℕ) × (slice_get (joined_back v passes).held q ≡ Some a)
held_each v [] i p a at has = absurd cc
held_each v (r ∷ passes) zero p a at has =
    let same : r ≡ p = (let both : Some r ≡ Some p = at in cc) in
    (length (joined_back v passes).held, get_last (joined_back v passes).held r.view.held a (ap (λ (t : PassData). t.view.held) same ∙ has))
held_each v (r ∷ passes) (suc i) p a at has =
    let before = held_each v passes i p a at has in (before.0, get_front (joined_back v passes).held r.view.held before.0 a before.1)

all_front : {X : Type 0} (P : X → Type 0) (xs ys : List X) → All P (xs ++ ys) → All P xs
all_front P [] ys all = All-nil P
all_front P (x ∷ xs) ys all = All-cons P x xs (All-head P x (xs ++ ys) all) (all_front P xs ys (All-tail P x (xs ++ ys) all))

all_back : {X : Type 0} (P : X → Type 0) (xs ys : List X) → All P (xs ++ ys) → All P ys
all_back P [] ys all = all
all_back P (x ∷ xs) ys all = all_back P xs ys (All-tail P x (xs ++ ys) all)

others_each : (P : List Entry → Type 0) (v : View) (passes : List PassData) (i : ℕ) (p : PassData) → All P (joined_back v passes).others_seen → slice_get passes i ≡ Some p → P p.view.seen
others_each P v [] i p all at = absurd cc
others_each P v (r ∷ passes) zero p all at =
    let same : r ≡ p = (let both : Some r ≡ Some p = at in cc) in
    subst (λ (t : PassData). P t.view.seen) same (All-head P r.view.seen r.view.others_seen (all_back P (joined_back v passes).others_seen (r.view.seen ∷ r.view.others_seen) all))
others_each P v (r ∷ passes) (suc i) p all at = others_each P v passes i p (all_front P (joined_back v passes).others_seen (r.view.seen ∷ r.view.others_seen) all) at

-- ---- nothing is left out

pub same_items : {X : Type 0} (xs ys : List X) → length xs ≡ length ys → ((c : ℕ) (x : X) → slice_get ys c ≡ Some x → slice_get xs c ≡ Some x) → xs ≡ ys
same_items [] [] many all = refl
same_items [] (y ∷ ys) many all = absurd (omega (arith, many))
same_items (x ∷ xs) [] many all = absurd (omega (arith, many))
same_items (x ∷ xs) (y ∷ ys) many all =
    let first : x ≡ y = (let both : Some x ≡ Some y = all 0 y refl in cc) in
    let rest : xs ≡ ys = same_items xs ys (omega (arith, many)) (λ c z at. all (suc c) z at) in
    λ i. first i ∷ rest i

no_more : (c : ℕ) (h a rest own : List Entry) → h ≡ a ++ rest → entries_by c a ≡ own → entries_by c h ≡ own → entries_by c rest ≡ []
no_more c h a rest own is seen all =
    let parts : entries_by c h ≡ entries_by c a ++ entries_by c rest = ap (entries_by c) is ∙ filter-append (λ e. caller_in e == c) a rest in
    let many : length (entries_by c h) ≡ length (entries_by c a) + length (entries_by c rest) = ap (λ (es : List Entry). length es) parts ∙ length-append (entries_by c a) (entries_by c rest) in
    let same : length (entries_by c h) ≡ length (entries_by c a) = ap (λ (es : List Entry). length es) (all ∙ sym seen) in
    none_there (entries_by c rest) (omega (arith, many, same))

no_rest : (n : ℕ) (rest : List Entry) → ((c : ℕ) → c < n → entries_by c rest ≡ []) → All (λ e. caller_in e < n) rest → rest ≡ []
no_rest n [] none known = refl
no_rest n (e ∷ rest) none known =
    let low : caller_in e < n = All-head (λ e. caller_in e < n) e rest known in
    absurd (let gone : e ∷ entries_by (caller_in e) rest ≡ [] = sym (own_first (caller_in e) e rest (eq-eqb (caller_in e) (caller_in e) refl)) ∙ none (caller_in e) low in cc)

-- ---- the end

-- the last state of the words, with the pass that has all callers
pub record Ended (o : Opening) (words : List ℕ) (views : List View) (id : ℕ) (v : View) (callers : List Caller) : Type 0 where
  pub rule : IsRunning o words views
  pub at : get_elem? views id ≡ some v
  pub opening : v.opening ≡ Some o
  pub all : length callers ≡ length o.callers
  pub held : (c : ℕ) (x : Caller) → slice_get callers c ≡ Some x → (q : ℕ) × (slice_get v.held q ≡ Some (c, x))

module _ (o : Opening) (words : List ℕ) (views : List View) (id : ℕ) (v : View) (callers : List Caller) (ended : Ended o words views id v callers) where
  knows : KnowsOf o ended.rule.callers ended.rule.history v
  knows = knows_so o ended.rule.callers ended.rule.history v ended.opening (ended.rule.fits id v ended.at)

  is_held : (c : ℕ) (x : Caller) → slice_get callers c ≡ Some x → IsHeld ended.rule.callers v.seen (c, x)
  is_held c x at = let there = ended.held c x at in knows.held there.0 (c, x) there.1

  same_callers : ended.rule.callers ≡ callers
  same_callers =
      same_items ended.rule.callers callers
      (sym (length-map ended.rule.callers role_of) ∙ ap (λ (roles : List (List Task × Option ℕ)). length roles) ended.rule.given ∙ length-map o.callers role_of ∙ sym ended.all)
      (λ c x at. (is_held c x at).0)

  all_own : (c : ℕ) → c < length ended.rule.callers → entries_by c knows.seen.0 ≡ []
  all_own c low =
      elim (slice_get_cases ended.rule.callers c).1 [
        | inl there ↦
            (let at : slice_get callers c ≡ Some there.0 = ap (λ (xs : List Caller). slice_get xs c) (sym same_callers) ∙ there.2 in
            no_more c ended.rule.history v.seen knows.seen.0 (own_of c there.0) knows.seen.1 (is_held c there.0 at).1
            ((ended.rule.holds ended.rule.starting.0 ended.rule.starting.1).history.own c there.0 there.2))
        | inr past ↦ absurd (omega (arith, low, past.0))
      ]

  sees_whole : ended.rule.history ≡ v.seen
  sees_whole =
      let rest : knows.seen.0 ≡ [] =
      no_rest (length ended.rule.callers) knows.seen.0 all_own
      (all_back (λ e. caller_in e < length ended.rule.callers) v.seen knows.seen.0
      (All-same (λ e. caller_in e < length ended.rule.callers) (v.seen ++ knows.seen.0) ended.rule.history (sym knows.seen.1) (ended.rule.holds ended.rule.starting.0 ended.rule.starting.1).history.known)) in
      knows.seen.1 ∙ ap (λ (es : List Entry). v.seen ++ es) rest ∙ append-nil v.seen

  words_fit : (first : List Gpi) → AreStarting o.geometry first o.words → FitsHistory o.geometry first (map caller_tasks o.callers) (map caller_answers callers) words v.seen
  words_fit first starting =
      subst (λ (xs : List Caller). FitsHistory o.geometry first (map caller_tasks o.callers) (map caller_answers xs) words v.seen) same_callers
      (subst (λ (h : List Entry). FitsHistory o.geometry first (map caller_tasks o.callers) (map caller_answers ended.rule.callers) words h) sees_whole
      (subst (λ (tasks : List (List Task)). FitsHistory o.geometry first tasks (map caller_answers ended.rule.callers) words ended.rule.history) (same_tasks ended.rule.callers o.callers ended.rule.given)
      (scenes_fit o.geometry (record { first = first; words = words; callers = ended.rule.callers; history = ended.rule.history }) (ended.rule.holds first starting) ended.rule.made)))

-- ---- calls and answers

-- a list has no place at which it has nothing
past_all : {X : Type 0} (xs : List X) (n : ℕ) → is_some (slice_get xs n) ≡ false → length xs ≤ n
past_all xs n none =
    elim (slice_get_cases xs n).1 [
      | inl there ↦ absurd (let both : false ≡ true = sym none ∙ ap is_some there.2 in cc)
      | inr past ↦ past.0
    ]

ended_so : (task next : Bool) → next ≡ not (not task) → next ≡ false → task ≡ false
ended_so true next same none = absurd (let both : false ≡ true = sym none ∙ same in cc)
ended_so false next same none = refl

none_left : (g : GeometryData) (c : ℕ) (x : Caller) → IsWalked g c x → caller_next x ≡ None → length (caller_tasks x) ≤ length (caller_answers x)
none_left g c (caller.Agent a) made ended = past_all a.tasks (length a.answers) (ended_so (is_some (agents.task_of a)) (is_some (agents.next_of a)) (agent_next a made.1) (ap is_some ended))
none_left g c (caller.Cpu q) made ended = past_all q.tasks (length q.answers) (ended_so (is_some (cpus.task_of q)) (is_some (cpus.next_of q)) (cpu_next q made.1) (ap is_some ended))

none_more : (g : GeometryData) (c : ℕ) (x : Caller) → IsWalked g c x → length (caller_answers x) ≤ length (caller_tasks x)
none_more g c (caller.Agent a) made = made.1.answered
none_more g c (caller.Cpu q) made = made.1.answered

each_answered : (g : GeometryData) (callers : List Caller) → AreMade g callers → ((c : ℕ) (x : Caller) → slice_get callers c ≡ Some x → caller_next x ≡ None) → AllAnswered (map caller_tasks callers) (map caller_answers callers)
each_answered g callers made ended c k t asked none =
    elim (slice_get_cases callers c).1 [
      | inl there ↦
          (let x = there.0 in
          let task : slice_get (caller_tasks x) k ≡ Some t =
          ap (option_and_then (λ own. slice_get own k)) (sym (slice_get-map caller_tasks callers c ∙ ap (λ (b : Option Caller). option_map caller_tasks b) there.2)) ∙ asked in
          let answer : slice_get (caller_answers x) k ≡ None =
          ap (option_and_then (λ own. slice_get own k)) (sym (slice_get-map caller_answers callers c ∙ ap (λ (b : Option Caller). option_map caller_answers b) there.2)) ∙ none in
          omega (arith, slice_get_within (caller_tasks x) k t task, past_all (caller_answers x) k (ap is_some answer), none_left g c x (made c x there.2) (ended c x there.2)))
      | inr past ↦
          absurd (let gone : None ≡ Some t = ap (option_and_then (λ own. slice_get own k)) (sym (slice_get-map caller_tasks callers c ∙ ap (λ (b : Option Caller). option_map caller_tasks b) past.1)) ∙ asked in cc)
    ]

pub all_of : (f : FieldData) (passes : List PassData) (callers : List Caller) → AreAll f passes callers → AreOf f passes
all_of f passes callers all i p at =
    elim (slice_get_cases callers i).1 [
      | inl there ↦ (let own = all.on.each i p there.0 at there.2 in (own.field, own.opening))
      | inr past ↦ absurd (omega (arith, past.0, all.on.many, slice_get_within passes i p at))
    ]

pub has_closed : (f : FieldData) (passes : List PassData) (callers : List Caller) (words : List ℕ) (views : List View) (id : ℕ) (v w : View) (left : PassData) → IsRunning f.opening words views → get_elem? views id ≡ some w
    → w ≡ joined_back v passes → v.opening ≡ Some f.opening → AreAll f passes callers → left.id ≡ f.id → left.view ≡ with_held w [] → HasClosed f passes callers words left
has_closed f passes callers words views id v w left rule at is opening all mine view =
    let opens : w.opening ≡ Some f.opening = ap (λ (t : View). t.opening) is ∙ still_open v passes ∙ opening in
    let ended : Ended f.opening words views id w callers = record {
      rule = rule;
      at = at;
      opening = opens;
      all = all.all;
      held = λ c x there.
          elim (slice_get_cases passes c).1 [
            | inl pass ↦
                (let held = held_each v passes c pass.0 (c, x) pass.2 (all.on.each c pass.0 x pass.2 there).held in
                (held.0, ap (λ (t : View). slice_get t.held held.0) is ∙ held.1))
            | inr past ↦ absurd (omega (arith, past.0, all.on.many, slice_get_within callers c x there))
          ];
    } in
    let same = same_callers f.opening words views id w callers ended in
    let made : AreMade f.opening.geometry callers = subst (AreMade f.opening.geometry) same rule.made in
    let given : map role_of callers ≡ map role_of f.opening.callers = subst (λ (xs : List Caller). map role_of xs ≡ map role_of f.opening.callers) same rule.given in
    let seen : w.seen ≡ left.view.seen = sym (ap (λ (t : View). t.seen) view) in
    record {
      field = mine;
      opening = ap (λ (t : View). t.opening) view ∙ opens;
      nobody = ap (λ (t : View). t.held) view;
      begins = λ c p there.
          let begins = others_each (Begins rule.history) v passes c p (subst (λ (t : View). All (Begins rule.history) t.others_seen) is (knows f.opening words views id w callers ended).others_seen) there in
          (begins.0, sym (sees_whole f.opening words views id w callers ended ∙ seen) ∙ begins.1);
      own = λ c x there. subst (λ (h : List Entry). entries_by c h ≡ own_of c x) seen (is_held f.opening words views id w callers ended c x there).1;
      starting = rule.starting;
      tasks = same_tasks callers f.opening.callers given;
      within = λ c x there. none_more f.opening.geometry c x (made c x there);
      answered = λ ended.
          subst (λ (tasks : List (List Task)). AllAnswered tasks (map caller_answers callers)) (same_tasks callers f.opening.callers given) (each_answered f.opening.geometry callers made ended);
      fits = λ first starting.
          subst (λ (h : List Entry). FitsHistory f.opening.geometry first (map caller_tasks f.opening.callers) (map caller_answers callers) words h) seen
          (words_fit f.opening words views id w callers ended first starting);
    }

-- ---- the words that come back

pub one_more_word : (xs : List ℕ) (k x : ℕ) → get_elem? xs k ≡ some x → take (suc k) xs ≡ take k xs ++ x ∷ []
one_more_word [] k x at = absurd (some-ne-none x (sym at))
one_more_word (y ∷ xs) zero x at = ap (λ (n : ℕ). n ∷ []) (some-injective y x at)
one_more_word (y ∷ xs) (suc k) x at = ap (λ (ns : List ℕ). y ∷ ns) (one_more_word xs k x at)
