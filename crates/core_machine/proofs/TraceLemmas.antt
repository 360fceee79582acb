-- The trace of a list of turns: each caller follows its script, each act answers what stands in its word,
-- the turns without an event are those of callers that have ended, and the lock bits count its locks.
use Rattle.std.proofs.Common.{◌≡◌, ◌≢◌, ℕ, zero, suc, ◌+◌, ◌-◌, ◌/◌, ◌%◌, ◌^◌, ◌<◌, ◌≤◌, ◌++◌, ◌∷◌, [], List, Bool, true, false, ◌&&◌, eqb, map, length, set, Option, Some, None, refl, sym, ap, ◌∙◌, subst, arith, inl, inr, append_assoc, append-nil}
use Rattle.std.specs.Prelude.{slice_get, slice_index, MatchOption}
use Rattle.std.specs.Int.{bit_not, w64}
use Rattle.std.specs.Int.Bits.{bit_and}
use Rattle.std.specs.List.{All, count_by, filter}
use Rattle.std.proofs.Math.Pow.{pow-lt}
use Rattle.std.proofs.lemmas.Bool.{cases_Bool, cases_eq, cases_order, eq-eqb, ne_eqb}
use Rattle.std.proofs.lemmas.List.{map-append, set-get_or, get_or-set_other, get_or-set_same}
use Rattle.std.proofs.lemmas.List.Elements.{filter-append, All-nil, All-cons, All-append}
use Rattle.std.proofs.lemmas.List.Sums.{sum_by-append}
use Rattle.alias_clean.specs.Lines.{line_mask}
use Rattle.core_machine.proofs.AddressLemmas.{index_below}
use Rattle.core_machine.proofs.Names.{GeometryData, Duty, place_of, WordName, IsWordName, Act, answer_of, after_act, place_in, lock_bit, take_act, release_act, Scenario, Script, IsStage, fresh, Caller, TraceEvent, CallEvent, HoldsIn, MachineData, InvariantFor, after_turn, after_turns, scene_of, trace_of, IsMade, caller_next, caller_took, holds, callers_from, next_number, opening_of, played, first_map, geometry_of, task_of_ask, task_of_look, turns_in, Scene, is_inside, Line}
use Rattle.core_machine.proofs.Names.act
use Rattle.core_machine.proofs.Names.script
use Rattle.core_machine.proofs.Names.caller
use Rattle.bit_locks.specs.Locks.{bit_with}
use Rattle.delegate_ops.proofs.ScriptLemmas.{fresh_walked, step_walks}
use Rattle.core_machine.proofs.ListLemmas.{one, count_cons, get_set, get_set_other}
use Rattle.shared_words.specs.Acts.{written}
use Rattle.gpt_descriptors.specs.Places.{Lock}
use Rattle.gpt_descriptors.proofs.PlaceLemmas.{place_distinct}
use Rattle.core_machine.proofs.LawLemmas.{agent_acting, one_act, act_word}
use Rattle.core_machine.proofs.MachineLemmas.{Along, Always, act_has, along}
use Rattle.core_machine.proofs.LockLemmas.{holder_bit, take_free, take_held, release_held}
use Rattle.core_machine.proofs.ActLemmas.{lock_of_task, low_of}
use Rattle.core_machine.specs.Trace.{AreAnswered, TakesTurns, events_of, words_after, releases, releases_by, takes, takes_by, clears, clears_by, sets, sets_by}
use Rattle.delegate_ops.specs.InnerScript.{HasWalked}
use Rattle.core_machine.specs.InnerMachine.{HasInvariant, after_act_of, after_turn_of, event_of, turn_event_of}
use Rattle.core_machine.specs.InnerCallers.{MayTake, made_by}
use Rattle.processor.specs.InnerCpus as cpu
use Rattle.processor.specs.InnerScript as cpus
use Rattle.processor.proofs.ScriptLemmas.{fresh_walked as cpu_fresh_walked, step_walks as cpu_step_walks}
use Rattle.gpt_descriptors.proofs.PlaceLemmas.{place_distinct}
use Rattle.core_machine.proofs.CpuActs.{cpu_accessing, duty_below, duty_is, how_acts}
use Rattle.core_machine.specs.InnerPlay.{played_trace}
use Rattle.core_machine.proofs.WordLemmas.{is_duty, is_lock, locks_left, writes_one}
use Rattle.core_machine.proofs.CallerLemmas.{agent_has, made_at_place}

-- ---- each caller's events

of_append : (c : ℕ) (xs ys : List TraceEvent) → events_of c (xs ++ ys) ≡ events_of c xs ++ events_of c ys
of_append c xs ys =
    ap (map (λ (e : TraceEvent). e.event)) (filter-append (λ e. eqb e.caller c) xs ys)
    ∙ map-append (λ (e : TraceEvent). e.event) (filter (λ e. eqb e.caller c) xs) (filter (λ e. eqb e.caller c) ys)

-- caller c has come to this state by these events of its script
abbrev pub HasCome : ℕ → Caller → List CallEvent → Type 0
HasCome c (caller.Agent a) events = HasWalked c a events
HasCome c (caller.Cpu q) events = cpus.HasWalked c q events

-- it goes on from another state by these events
abbrev GoesOn : ℕ → Caller → Caller → List CallEvent → Type 0
GoesOn c x y events = (before : List CallEvent) → HasCome c x before → HasCome c y (before ++ events)

-- where the caller at c comes from
pub record Comes (m : MachineData) (c : ℕ) (y : Caller) (events : List CallEvent) : Type 0 where
  pub from : Caller
  pub at : slice_get m.callers c ≡ Some from
  pub goes : GoesOn c from y events

stays_at : (m : MachineData) (c : ℕ) (y : Caller) → slice_get m.callers c ≡ Some y → Comes m c y []
stays_at m c y at = record { from = y; at = at; goes = λ before come. subst (HasCome c y) (sym (append-nil before)) come }

-- the event of an act
abbrev made_event : MachineData → ℕ → Caller → Act → CallEvent
made_event m c x t = record { act = t; old = answer_of t m.words; made = made_by c x (answer_of t m.words) }

-- a caller that makes its act
steps_on : (g : GeometryData) (c : ℕ) (x : Caller) (t : Act) (old : ℕ) → IsMade g x → MayTake x old → caller_next x ≡ Some t → GoesOn c x (caller_took x old) (record { act = t; old = old; made = made_by c x old } ∷ [])
steps_on g c (caller.Agent a) t old made may next before come = step_walks c a before t old made.1 come next
steps_on g c (caller.Cpu q) t old made may next before come = cpu_step_walks c q before t old made.1 come may next

abbrev AllCome : ℕ → MachineData → List TraceEvent → MachineData → Type 0
AllCome c m xs n = (y : Caller) → slice_get n.callers c ≡ Some y → Comes m c y (events_of c xs)

act_comes : (m : MachineData) (c d : ℕ) (x : Caller) (t : Act) → HasInvariant m → slice_get m.callers d ≡ Some x → caller_next x ≡ Some t → AllCome c m (event_of m d x (Some t)) (after_act_of m d x (Some t))
act_comes m c d x t has at next y there =
    let old = answer_of t m.words in
    let scene = scene_of has.0 m has.1 in
    let made = made_at_place m.geometry scene d x has.2 at in
    let may = (one_act m.geometry scene d x t has.2 at next).1 in
    elim (get_set m.callers d c (caller_took x old) y there) [
      | inl here ↦
          rw (eq-eqb d c (sym here.0))
          (subst (λ (k : ℕ). Comes m c y (made_event m k x t ∷ [])) here.0
          (subst (λ (z : Caller). Comes m c z (made_event m c x t ∷ [])) here.1
          (record { from = x; at = subst (λ (n : ℕ). slice_get m.callers n ≡ Some x) (sym here.0) at; goes = steps_on m.geometry c x t old made may next })))
      | inr away ↦ rw (ne_eqb d c (λ same. away.0 (sym same))) (stays_at m c y away.1)
    ]

come_along : (c : ℕ) → Along HasInvariant (AllCome c)
come_along c = record {
  none = λ m b there. stays_at m c b there;
  more = λ m n p xs ys now later b there.
      let last = later b there in
      let first = now last.from last.at in
      record {
        from = first.from;
        at = first.at;
        goes = λ before walked.
            subst (HasCome c b) (append_assoc before (events_of c xs) (events_of c ys) ∙ ap (λ (es : List CallEvent). before ++ es) (sym (of_append c xs ys))) (last.goes (before ++ events_of c xs) (first.goes before walked));
      };
  act = λ m d x t has at next. act_comes m c d x t has at next;
  keeps = λ m d x t has at next. act_has m d x t has at next;
}

-- a caller of the opening has no events yet
opening_come : (g : GeometryData) (p : ℕ) (scripts : List Script) (c d : ℕ) (x : Caller) → slice_get (callers_from g p scripts) c ≡ Some x → HasCome d x []
opening_come g p [] c d x at = absurd cc
opening_come g p (script.Agent asks ∷ scripts) zero d x at =
    let same : caller.Agent (fresh g (map task_of_ask asks)) ≡ x = cc in subst (λ (y : Caller). HasCome d y []) same (fresh_walked g (map task_of_ask asks) d)
opening_come g p (script.Cpu looks ∷ scripts) zero d x at =
    let same : caller.Cpu (cpu.fresh g p (map task_of_look looks)) ≡ x = cc in subst (λ (y : Caller). HasCome d y []) same (cpu_fresh_walked g p (map task_of_look looks) d)
opening_come g p (s ∷ scripts) (suc c) d x at = opening_come g (next_number p s) scripts c d x at

pub played_walked : (s : Scenario) (c : ℕ) (x : Caller) → InvariantFor (first_map s) (opening_of s) [] → slice_get (played s).callers c ≡ Some x
    → HasCome c x (events_of c (played_trace s))
played_walked s c x stands there =
    let comes = along HasInvariant (AllCome c) (come_along c) (opening_of s) (turns_in s) (first_map s, [], stands) x there in
    comes.goes [] (opening_come (geometry_of s) 0 s.scripts c c comes.from comes.at)

-- ---- words

words_after-append : (words : List ℕ) (xs ys : List TraceEvent) → words_after words (xs ++ ys) ≡ words_after (words_after words xs) ys
words_after-append words [] ys = refl
words_after-append words (e ∷ xs) ys = words_after-append (after_act e.event.act words) xs ys

answered-append : (words : List ℕ) (xs ys : List TraceEvent) → AreAnswered words xs → AreAnswered (words_after words xs) ys → AreAnswered words (xs ++ ys)
answered-append words [] ys first rest = rest
answered-append words (e ∷ xs) ys first rest = (first.0, first.1, answered-append (after_act e.event.act words) xs ys first.2 rest)

-- the words after them, and what they answer
abbrev AnswersAlong : MachineData → List TraceEvent → MachineData → Type 0
AnswersAlong m xs n = (n.words ≡ words_after m.words xs) × AreAnswered m.words xs

answers_along : Along HasInvariant AnswersAlong
answers_along = record {
  none = λ m. (refl, tt);
  more = λ m n p xs ys now later.
      (later.0 ∙ ap (λ (words : List ℕ). words_after words ys) now.0 ∙ sym (words_after-append m.words xs ys), answered-append m.words xs ys now.1 (subst (λ (words : List ℕ). AreAnswered words ys) now.0 later.1));
  act = λ m c a t has at next. (refl, ((one_act m.geometry (scene_of has.0 m has.1) c a t has.2 at next).0, refl, tt));
  keeps = λ m c a t has at next. act_has m c a t has at next;
}

pub trace_answers : (m : MachineData) (turns : List ℕ) → HasInvariant m → AnswersAlong m (trace_of m turns) (after_turns m turns)
trace_answers m turns has = along HasInvariant AnswersAlong answers_along m turns has

-- ---- turns without an event

-- there is no such caller, or it has no next act
abbrev pub IsDone : Option Caller → Type 0
IsDone o = MatchOption o (Unit {0}) (λ x. caller_next x ≡ None)

abbrev callers_in : List TraceEvent → List ℕ
callers_in trace = map (λ (e : TraceEvent). e.caller) trace

no_act : (x : Caller) (t : Act) → IsDone (Some x) → caller_next x ≡ Some t → ⊥
no_act x t done next = absurd (let both : None ≡ Some t = sym done ∙ next in cc)

-- a caller that has no next act is left as it is, and has no events
abbrev LeavesDone : ℕ → MachineData → List TraceEvent → MachineData → Type 0
LeavesDone c m xs n = (o : Option Caller) → slice_get m.callers c ≡ o → IsDone o → All (λ x. x ≢ c) (callers_in xs) × (slice_get n.callers c ≡ o)

leaves_act : (m : MachineData) (c d : ℕ) (y : Caller) (t : Act) → slice_get m.callers d ≡ Some y → caller_next y ≡ Some t → LeavesDone c m (event_of m d y (Some t)) (after_act_of m d y (Some t))
leaves_act m c d y t there next o at done =
    elim (cases_eq c d) [
      | inl same ↦ absurd (let here : o ≡ Some y = sym at ∙ ap (slice_get m.callers) same ∙ there in no_act y t (subst IsDone here done) next)
      | inr apart ↦
          (All-cons (λ x. x ≢ c) d [] (λ same. apart (sym same)) (All-nil (λ x. x ≢ c)), get_set_other m.callers d c (caller_took y (answer_of t m.words)) apart ∙ at)
    ]

done_along : (c : ℕ) → Along Always (LeavesDone c)
done_along c = record {
  none = λ m o at done. (All-nil (λ x. x ≢ c), at);
  more = λ m n p xs ys now later o at done.
      let first = now o at done in
      let last = later o first.1 done in
      (subst (All (λ x. x ≢ c)) (sym (map-append (λ (e : TraceEvent). e.caller) xs ys)) (All-append (λ x. x ≢ c) (callers_in xs) (callers_in ys) first.0 last.0), last.1);
  act = λ m d y t k at next. leaves_act m c d y t at next;
  keeps = λ m d y t k at next. tt;
}

pub done_stays : (m : MachineData) (c : ℕ) (turns : List ℕ) → LeavesDone c m (trace_of m turns) (after_turns m turns)
done_stays m c turns = along Always (LeavesDone c) (done_along c) m turns tt

-- a caller that has no next act is as it is at the end
abbrev Ends : (ℕ → Type 0) → MachineData → List ℕ → Type 0
Ends ended m turns = (c : ℕ) (o : Option Caller) → slice_get (after_turns m turns).callers c ≡ o → IsDone o → ended c

turned_act : (ended : ℕ → Type 0) (m : MachineData) (c : ℕ) (x : Caller) (t : Option Act) (turns : List ℕ) → slice_get m.callers c ≡ Some x → caller_next x ≡ t
    → Ends ended (after_act_of m c x t) turns → TakesTurns ended turns (callers_in (trace_of (after_act_of m c x t) turns))
    → TakesTurns ended (c ∷ turns) (callers_in (event_of m c x t ++ trace_of (after_act_of m c x t) turns))
turned_act ended m c x None turns at next ends rest =
    let left = done_stays m c turns (Some x) at next in
    inr (ends c (Some x) left.1 next, left.0, rest)
turned_act ended m c x (Some t) turns at next ends rest = inl (callers_in (trace_of (after_act_of m c x (Some t)) turns), refl, rest)

turned_of : (ended : ℕ → Type 0) (m : MachineData) (c : ℕ) (o : Option Caller) (turns : List ℕ) → slice_get m.callers c ≡ o
    → Ends ended (after_turn_of m c o) turns → TakesTurns ended turns (callers_in (trace_of (after_turn_of m c o) turns))
    → TakesTurns ended (c ∷ turns) (callers_in (turn_event_of m c o ++ trace_of (after_turn_of m c o) turns))
turned_of ended m c None turns at ends rest =
    let left = done_stays m c turns None at tt in
    inr (ends c None left.1 tt, left.0, rest)
turned_of ended m c (Some x) turns at ends rest = turned_act ended m c x (caller_next x) turns at refl ends rest

pub turns_taken : (ended : ℕ → Type 0) (m : MachineData) (turns : List ℕ) → Ends ended m turns → TakesTurns ended turns (callers_in (trace_of m turns))
turns_taken ended m [] ends = refl
turns_taken ended m (c ∷ turns) ends =
    turned_of ended m c (slice_get m.callers c) turns refl ends (turns_taken ended (after_turn m c) turns ends)

-- ---- locks

low_power : (k : ℕ) → k < 64 → 2 ^ k ≤ 2 ^ 64 - 1
low_power k low = let below : 2 ^ k < 2 ^ 64 = pow-lt low in omega (arith, below)

power_one : (i j : ℕ) → 2 ^ i ≡ 2 ^ j → i ≡ j
power_one i j same =
    elim (cases_order i j) [
      | inl equal ↦ equal
      | inr apart ↦ elim apart [
        | inl below ↦ absurd (let less : 2 ^ i < 2 ^ j = pow-lt below in omega (arith, same, less))
        | inr above ↦ absurd (let less : 2 ^ j < 2 ^ i = pow-lt above in omega (arith, same, less))
      ]
    ]

-- a lock differs from another by its word and its bit
bit_of_lock : (n m p : ℕ) (q : Bool) → (n ≡ m → (p ≡ n / 64) × (q ≡ true)) → (n ≢ m → p ≡ n / 64 → n / 64 ≡ m / 64 → q ≡ false) → p ≡ n / 64
    → (eqb p (m / 64) && q) ≡ eqb n m
bit_of_lock n m p q same apart place =
    elim (cases_eq n m) [
      | inl equal ↦ (let parts = same equal in rw (eq-eqb p (m / 64) (parts.0 ∙ ap (λ (k : ℕ). k / 64) equal), parts.1, eq-eqb n m equal) refl)
      | inr other ↦ elim (cases_eq (n / 64) (m / 64)) [
        | inl row ↦ rw (eq-eqb p (m / 64) (place ∙ row), apart other place row, ne_eqb n m other) refl
        | inr elsewhere ↦ rw (ne_eqb p (m / 64) (λ here. elsewhere (sym place ∙ here)), ne_eqb n m other) refl
      ]
    ]

mask_apart : (n m : ℕ) → n ≢ m → n / 64 ≡ m / 64 → 2 ^ (n % 64) ≢ 2 ^ (m % 64)
mask_apart n m apart row same = apart (let bits : n % 64 ≡ m % 64 = power_one (n % 64) (m % 64) same in omega (arith, row, bits))

free_take : (n m old : ℕ) → bit_and old (2 ^ (n % 64)) ≡ 0 → takes_by m old (take_act (bit_with n)) ≡ eqb n m
free_take n m old free =
    bit_of_lock n m (n / 64) (eqb (2 ^ (n % 64)) (2 ^ (m % 64)) && eqb (bit_and old (2 ^ (n % 64))) 0)
    (λ same. (refl, rw (eq-eqb (2 ^ (n % 64)) (2 ^ (m % 64)) (ap (λ (k : ℕ). 2 ^ (k % 64)) same), eq-eqb (bit_and old (2 ^ (n % 64))) 0 free) refl))
    (λ apart here row. rw (ne_eqb (2 ^ (n % 64)) (2 ^ (m % 64)) (mask_apart n m apart row)) refl)
    refl

held_take : (n m old : ℕ) → bit_and old (2 ^ (n % 64)) ≢ 0 → takes_by m old (take_act (bit_with n)) ≡ false
held_take n m old held =
    elim (cases_Bool (eqb (n / 64) (m / 64))) [
      | inr other ↦ rw other refl
      | inl row ↦ rw row (elim (cases_Bool (eqb (2 ^ (n % 64)) (2 ^ (m % 64)))) [
        | inr other ↦ rw other refl
        | inl mask ↦ rw (mask, ne_eqb (bit_and old (2 ^ (n % 64))) 0 held) refl
      ])
    ]

released_by : (n m : ℕ) → releases_by m (release_act (bit_with n)) ≡ eqb n m
released_by n m =
    bit_of_lock n m (n / 64) (eqb (bit_not w64 (2 ^ (n % 64))) (bit_not w64 (2 ^ (m % 64))))
    (λ same. (refl, eq-eqb (bit_not w64 (2 ^ (n % 64))) (bit_not w64 (2 ^ (m % 64))) (ap (λ (k : ℕ). bit_not w64 (2 ^ (k % 64))) same)))
    (λ apart here row.
    ne_eqb (bit_not w64 (2 ^ (n % 64))) (bit_not w64 (2 ^ (m % 64)))
    (λ same. mask_apart n m apart row (let low = low_power (n % 64) (omega arith) in let other = low_power (m % 64) (omega arith) in omega (arith, same, low, other))))
    refl

-- what an act does to the bit of lock m
abbrev CountsLock : List ℕ → Act → ℕ → Type 0
CountsLock words t m = lock_bit (after_act t words) m + one (releases_by m t) ≡ lock_bit words m + one (takes_by m (answer_of t words) t)

take_counts : (words : List ℕ) (n m : ℕ) → n / 64 < length words → CountsLock words (take_act (bit_with n)) m
take_counts words n m within =
    elim (cases_eq (bit_and (slice_index words (n / 64)) (2 ^ (n % 64))) 0) [
      | inl free ↦ rw (free_take n m (slice_index words (n / 64)) free) (take_free words n m within free)
      | inr held ↦ rw (held_take n m (slice_index words (n / 64)) held) (ap (λ (k : ℕ). k + 0) (take_held words n m within held))
    ]

release_counts : (words : List ℕ) (n m : ℕ) → n / 64 < length words → lock_bit words n ≡ 1 → CountsLock words (release_act (bit_with n)) m
release_counts words n m within set_bit = rw (released_by n m) (release_held words n m within set_bit)

-- any act on a word that is no lock
plain_counts : (g : GeometryData) (words : List ℕ) (n : WordName) (next : Act) (m : ℕ) → IsWordName g n → is_lock (Some n) ≡ false → place_in next ≡ place_of g n → m < 128 → CountsLock words next m
plain_counts g words n next m named unlike at low =
    let apart : place_in next ≢ m / 64 = λ same. absurd (let lock : n ≡ Lock (m / 64) = place_distinct g n (Lock (m / 64)) named (omega (arith, low)) (sym at ∙ same) in let both : false ≡ true = sym unlike ∙ ap (λ (x : WordName). is_lock (Some x)) lock in cc) in
    let v : ℕ = written next (slice_index words (place_in next)) in
    by_kind next apart (ap (λ (q : ℕ). lock_bit (set words q v) m) at ∙ locks_left (writes_one g words n v named) unlike m low)
  where
    by_kind : (next : Act) → place_in next ≢ m / 64 → lock_bit (after_act next words) m ≡ lock_bit words m → CountsLock words next m
    by_kind (act.Load place) apart same = ap (λ (k : ℕ). k + 0) same
    by_kind (act.Store place value) apart same = ap (λ (k : ℕ). k + 0) same
    by_kind (act.Or place value) apart same = rw (ne_eqb place (m / 64) apart) (ap (λ (k : ℕ). k + 0) same)
    by_kind (act.And place value) apart same = rw (ne_eqb place (m / 64) apart) (ap (λ (k : ℕ). k + 0) same)

caller_counts : (g : GeometryData) (s : Scene) (c : ℕ) (x : Caller) (t : Act) (m : ℕ) → HoldsIn g s → slice_get s.callers c ≡ Some x → caller_next x ≡ Some t → m < 128 → CountsLock s.words t m
caller_counts g s c (caller.Cpu q) t m stands at next low =
    let way = cpu_accessing g s c q t stands at next in
    let stores = λ (v : ℕ). plain_counts q.geometry s.words (Duty q.number) (act.Store (place_of q.geometry (Duty q.number)) v) m way.acting.is.number refl refl low in
    elim (how_acts q.geometry q.number way.pa way.space q.stage t way.acts) [
      | inl load ↦ subst (λ (x : Act). CountsLock s.words x m) (sym load) (ap (λ (words : List ℕ). lock_bit words m + 0) (set-get_or s.words (place_in t) 0))
      | inr store ↦ elim store [
        | inl on ↦ subst (λ (x : Act). CountsLock s.words x m) (sym on.0) (stores 1)
        | inr more ↦ elim more [
          | inl off ↦ subst (λ (x : Act). CountsLock s.words x m) (sym off.0) (stores 0)
          | inr touch ↦ subst (λ (x : Act). CountsLock s.words x m) (sym touch.2)
              (plain_counts q.geometry s.words (Line touch.0) (act.Or (place_of q.geometry (Line touch.0)) (line_mask q.geometry way.pa way.space)) m (index_below q.geometry _ touch.0 way.acting.stands.shape.geometry touch.1) refl refl low)
        ]
      ]
    ]
caller_counts g s c (caller.Agent a) t m stands at next low =
    let way = agent_acting g s c a t stands at next in
    let acting = way.2 in
    let n = lock_of_task a way.1 in
    let within : n / 64 < length s.words = omega (arith, low_of acting, acting.stands.shape.size) in
    let on = act_word a.geometry way.1 a.stage t acting.stands.shape.geometry acting.acts (subst (IsStage a.geometry a.stage) acting.under_way acting.is.stage) way.3 in
    elim on.how [
      | inl takes ↦ subst (λ (x : Act). CountsLock s.words x m) (sym takes.1) (take_counts s.words n m within)
      | inr other ↦ elim other [
        | inl releases ↦
            (let has : holds n (caller.Agent a) ≡ true = agent_has a way.1 acting.under_way (ap is_inside releases.1) in
            subst (λ (x : Act). CountsLock s.words x m) (sym releases.2)
            (release_counts s.words n m within (holder_bit s.words s.callers c n (caller.Agent a) at stands.locks (low_of acting) has)))
        | inr plain ↦ plain_counts a.geometry s.words on.name t m on.named plain on.place low
      ]
    ]

-- ---- duty words

abbrev duty_word : GeometryData → ℕ → List ℕ → ℕ
duty_word g p words = slice_index words (place_of g (Duty p))

-- what an act does to the duty word of processor p
abbrev CountsDuty : GeometryData → ℕ → List ℕ → Act → Type 0
CountsDuty g p words t = duty_word g p (after_act t words) + one (clears_by g p t) ≡ duty_word g p words + one (sets_by g p t)

neither : (g : GeometryData) (p : ℕ) (t : Act) → place_in t ≢ place_of g (Duty p) → (sets_by g p t ≡ false) × (clears_by g p t ≡ false)
neither g p (act.Store place value) apart = (rw (ne_eqb place (place_of g (Duty p)) apart) refl, rw (ne_eqb place (place_of g (Duty p)) apart) refl)
neither g p t apart = (refl, refl)

-- an act on another word
other_duty : (g : GeometryData) (words : List ℕ) (n : WordName) (p : ℕ) (t : Act) → IsWordName g n → p < g.cpus → n ≢ Duty p → place_in t ≡ place_of g n → CountsDuty g p words t
other_duty g words n p t named low apart at =
    let away : place_in t ≢ place_of g (Duty p) = λ same. apart (place_distinct g n (Duty p) named low (sym at ∙ same)) in
    let none = neither g p t away in
    rw (none.0, none.1) (ap (λ (word : ℕ). word + 0) (get_or-set_other words (place_in t) (place_of g (Duty p)) _ 0 (λ same. away (sym same))))

-- a store on the own one, that sets what is clear or clears what is set
store_duty : (g : GeometryData) (words : List ℕ) (r p v : ℕ) → r < g.cpus → p < g.cpus → place_of g (Duty r) < length words → v + one (eqb v 0) ≡ duty_word g r words + one (eqb v 1)
    → CountsDuty g p words (act.Store (place_of g (Duty r)) v)
store_duty g words r p v own low within turns =
    elim (cases_eq r p) [
      | inr apart ↦ other_duty g words (Duty r) p (act.Store (place_of g (Duty r)) v) own low (λ same. apart cc) refl
      | inl same ↦
          subst (λ (n : ℕ). CountsDuty g n words (act.Store (place_of g (Duty r)) v)) same
          (rw (eq-eqb (place_of g (Duty r)) (place_of g (Duty r)) refl, get_or-set_same words (place_of g (Duty r)) v 0 within) turns)
    ]

duty_counts : (g : GeometryData) (s : Scene) (c : ℕ) (x : Caller) (t : Act) (p : ℕ) → HoldsIn g s → slice_get s.callers c ≡ Some x → caller_next x ≡ Some t → p < g.cpus → CountsDuty g p s.words t
duty_counts g s c (caller.Agent a) t p stands at next low =
    let way = agent_acting g s c a t stands at next in
    let acting = way.2 in
    let on = act_word a.geometry way.1 a.stage t acting.stands.shape.geometry acting.acts (subst (IsStage a.geometry a.stage) acting.under_way acting.is.stage) way.3 in
    subst (λ (k : GeometryData). CountsDuty k p s.words t) way.0
    (elim on.duty [
      | inl apart ↦
          other_duty a.geometry s.words on.name p t on.named (subst (λ (k : GeometryData). p < k.cpus) (sym way.0) low)
          (λ same. let both : true ≡ false = ap (λ (n : WordName). is_duty (Some n)) (sym same) ∙ apart in cc) on.place
      | inr load ↦ subst (λ (x : Act). CountsDuty a.geometry p s.words x) (sym load) (ap (λ (words : List ℕ). duty_word a.geometry p words + 0) (set-get_or s.words (place_of a.geometry on.name) 0))
    ])
duty_counts g s c (caller.Cpu q) t p stands at next low =
    let way = cpu_accessing g s c q t stands at next in
    let acting = way.acting in
    let stores = λ (v : ℕ) (turns : v + one (eqb v 0) ≡ duty_word q.geometry q.number s.words + one (eqb v 1)).
    store_duty q.geometry s.words q.number p v acting.is.number (subst (λ (k : GeometryData). p < k.cpus) (sym way.geometry) low) (duty_below acting) turns in
    subst (λ (k : GeometryData). CountsDuty k p s.words t) way.geometry
    (elim (how_acts q.geometry q.number way.pa way.space q.stage t way.acts) [
      | inl load ↦ subst (λ (x : Act). CountsDuty q.geometry p s.words x) (sym load) (ap (λ (words : List ℕ). duty_word q.geometry p words + 0) (set-get_or s.words (place_in t) 0))
      | inr store ↦ elim store [
        | inl on ↦ subst (λ (x : Act). CountsDuty q.geometry p s.words x) (sym on.0) (stores 1 (omega (arith, duty_is acting, on.1)))
        | inr more ↦ elim more [
          | inl off ↦ subst (λ (x : Act). CountsDuty q.geometry p s.words x) (sym off.0) (stores 0 (omega (arith, duty_is acting, off.1)))
          | inr touch ↦ subst (λ (x : Act). CountsDuty q.geometry p s.words x) (sym touch.2)
              (other_duty q.geometry s.words (Line touch.0) p (act.Or (place_of q.geometry (Line touch.0)) (line_mask q.geometry way.pa way.space)) (index_below q.geometry _ touch.0 acting.stands.shape.geometry touch.1)
              (subst (λ (k : GeometryData). p < k.cpus) (sym way.geometry) low) (λ same. absurd cc) refl)
        ]
      ]
    ])

-- ---- what a trace adds and takes away

-- what is read of the words after a trace is what was before it, with what its events add and without what they take
abbrev CountsTrace : (List ℕ → ℕ) → (TraceEvent → Bool) → (TraceEvent → Bool) → List ℕ → List ℕ → List TraceEvent → Type 0
CountsTrace value takes adds before after trace = value after + count_by takes trace ≡ value before + count_by adds trace

count_one : (p : TraceEvent → Bool) (e : TraceEvent) → count_by p (e ∷ []) ≡ one (p e)
count_one p e = omega (arith, count_cons p [] e)

count_joined : (p : TraceEvent → Bool) (xs ys : List TraceEvent) → count_by p (xs ++ ys) ≡ count_by p xs + count_by p ys
count_joined p xs ys = sum_by-append (λ x. one (p x)) xs ys

-- where each act does so
abbrev CountsActs : (List ℕ → ℕ) → (TraceEvent → Bool) → (TraceEvent → Bool) → GeometryData → Type 0
CountsActs value takes adds g =
    (m : MachineData) (c : ℕ) (a : Caller) (t : Act) → HasInvariant m → m.geometry ≡ g → slice_get m.callers c ≡ Some a → caller_next a ≡ Some t
    → value (after_act t m.words) + one (takes (record { caller = c; event = made_event m c a t })) ≡ value m.words + one (adds (record { caller = c; event = made_event m c a t }))

counts_along : (value : List ℕ → ℕ) (takes adds : TraceEvent → Bool) (g : GeometryData) → CountsActs value takes adds g
    → Along (λ (m : MachineData). HasInvariant m × (m.geometry ≡ g)) (λ (m : MachineData) (xs : List TraceEvent) (p : MachineData). CountsTrace value takes adds m.words p.words xs)
counts_along value takes adds g each = record {
  none = λ m. refl;
  more = λ m q p xs ys now later. omega (arith, now, later, count_joined takes xs ys, count_joined adds xs ys);
  act = λ m c a t has at next.
      let e : TraceEvent = record { caller = c; event = made_event m c a t } in
      omega (arith, each m c a t has.0 has.1 at next, count_one takes e, count_one adds e);
  keeps = λ m c a t has at next. (act_has m c a t has.0 at next, has.1);
}

-- the locks taken and released by a trace make the lock bits
pub trace_counts : (n : ℕ) (m : MachineData) (turns : List ℕ) → n < 128 → HasInvariant m
    → CountsTrace (λ (words : List ℕ). lock_bit words n) (releases n) (takes n) m.words (after_turns m turns).words (trace_of m turns)
trace_counts n m turns low has =
    along _ _ (counts_along (λ (words : List ℕ). lock_bit words n) (releases n) (takes n) m.geometry
    (λ k c a t has_it same at next. caller_counts k.geometry (scene_of has_it.0 k has_it.1) c a t n has_it.2 at next low)) m turns (has, refl)

-- the duty words set and cleared by a trace make the duty words
pub trace_duty : (p : ℕ) (m : MachineData) (turns : List ℕ) → p < m.geometry.cpus → HasInvariant m
    → CountsTrace (duty_word m.geometry p) (clears m.geometry p) (sets m.geometry p) m.words (after_turns m turns).words (trace_of m turns)
trace_duty p m turns low has =
    along _ _ (counts_along (duty_word m.geometry p) (clears m.geometry p) (sets m.geometry p) m.geometry
    (λ k c a t has_it same at next.
    subst (λ (g : GeometryData). CountsDuty g p k.words t) same
    (duty_counts k.geometry (scene_of has_it.0 k has_it.1) c a t p has_it.2 at next (subst (λ (g : GeometryData). p < g.cpus) (sym same) low)))) m turns (has, refl)
