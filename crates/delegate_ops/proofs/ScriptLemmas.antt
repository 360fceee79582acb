-- Agents walk their script.
use Rattle.std.proofs.Common.{◌≡◌, ℕ, suc, ◌+◌, ◌++◌, ◌∷◌, [], List, Bool, false, Option, Some, None, length, drop, append_assoc, append-nil, length-append, refl, sym, ap, ◌∙◌, subst, inl, inr, arith}
use Rattle.std.specs.Prelude.{slice_get}
use Rattle.std.specs.List.{All}
use Rattle.std.specs.Option.{option_map}
use Rattle.std.specs.Int.Bits.{bit_and}
use Rattle.std.proofs.lemmas.Bool.Decides.{eqb_tells}
use Rattle.std.proofs.lemmas.List.Elements.{All-nil, All-cons, All-append}
use Rattle.gpt_descriptors.specs.declared.size.Size.{Size}
use Rattle.gpt_descriptors.specs.declared.size.Size.TheVariants as size
use Rattle.gpt_descriptors.specs.Places.{GeometryData, l1_place_of}
use Rattle.shared_words.specs.declared.act.Act.{Act}
use Rattle.shared_words.specs.declared.act.Act.TheVariants as act
use Rattle.bit_locks.specs.Locks.{take_act, release_act}
use Rattle.invalidate.specs.Generations.{gen_load_of, gen_raise_of}
use Rattle.invalidate.specs.Duty.{barrier_load}
use Rattle.invalidate.specs.Barrier.{BarrierData, next_load, one_passed}
use Rattle.invalidate.specs.Barrier as barrier
use Rattle.history.specs.declared.call.Task.{Task}
use Rattle.history.specs.declared.call.Answer.{Answer}
use Rattle.history.specs.Events.{CallEvent, Step, plain}
use Rattle.delegate_ops.specs.declared.stage.Change.{Change}
use Rattle.delegate_ops.specs.declared.stage.Change.TheVariants as change
use Rattle.delegate_ops.specs.declared.stage.Kept.{Kept}
use Rattle.delegate_ops.specs.InnerStages.{Stage}
use Rattle.delegate_ops.specs.InnerStages as stage
use Rattle.delegate_ops.specs.Deciding.{address_of, idle_answer, looked_answer, generation_in, worn_answer}
use Rattle.delegate_ops.specs.Changing.{changed_word}
use Rattle.shatter.specs.Splitting.{advanced}
use Rattle.fuse.specs.Merging as fuse
use Rattle.delegate_ops.specs.InnerAgents.{AgentData, IsAgent, IsStage, IsChangeOf, HasActs, is_look, task_of, answered_first, idle_answers, fresh, act_at, next_of, looked_stage, read_stage, split_stage, merged_stage, passing_stage, cleaned_stage, raised_stage, kept_read, kept_changed, kept_raised, took_at, took_under_way, took_of}
use Rattle.delegate_ops.specs.Script.{lock_bit_of, IsWait, TakesLock, Looks, Passes, completion, change_entry, Decides, Releases, IsCall, AreCallEvents}
use Rattle.delegate_ops.specs.InnerScript.{IsReading, reads_before, parts_after, IsPrefix, HasWalked}
use Rattle.delegate_ops.specs.InnerEntries.{known_entries, made_at}
use Rattle.delegate_ops.proofs.BlockLemmas.{one_made, read_all_prefix, split_prefix, merged_prefix, prepared_prefix, passing_prefix, found_prefix, busy_prefix, cleaned_prefix}
use Rattle.delegate_ops.proofs.AgentLemmas.{acts_move, first_is_change, no_look_at}

-- ---- the answered calls

-- the task under way is answered
calls_and_one : (g : GeometryData) (c n : ℕ) (tasks : List Task) (answers : List Answer) (calls own : List CallEvent) (t : Task) (a : Answer) → slice_get tasks (length answers) ≡ Some t
    → IsCall g c (n + length answers) t (idle_answer g t) a own → AreCallEvents g c n tasks answers calls → AreCallEvents g c n tasks (answers ++ a ∷ []) (calls ++ own)
calls_and_one g c n [] [] calls own t a here call are = absurd cc
calls_and_one g c n (x ∷ tasks) [] calls own t a here call are =
    let same : t ≡ x = cc in
    let number : n + 0 ≡ n = omega arith in (
      own,
      [],
      ap (λ (es : List CallEvent). es ++ own) are ∙ sym (append-nil own),
      subst (λ (y : Task). IsCall g c n y (idle_answer g y) a own) same (subst (λ (m : ℕ). IsCall g c m t (idle_answer g t) a own) number call),
      refl,
    )
calls_and_one g c n [] (b ∷ answers) calls own t a here call are = absurd are
calls_and_one g c n (x ∷ tasks) (b ∷ answers) calls own t a here call are =
    let number : n + suc (length answers) ≡ n + 1 + length answers = omega arith in (
      are.0,
      are.1 ++ own,
      ap (λ (es : List CallEvent). es ++ own) are.2 ∙ append_assoc are.0 are.1 own,
      are.3,
      calls_and_one g c (n + 1) tasks answers are.1 own t a here (subst (λ (m : ℕ). IsCall g c m t (idle_answer g t) a own) number call) are.4,
    )

-- the tasks that have no acts are answered
idle_first : (g : GeometryData) (c n : ℕ) (t : Task) (tasks : List Task) (idle : Option Answer) → idle_answer g t ≡ idle → AreCallEvents g c (n + 1) tasks (idle_answers g tasks) []
    → AreCallEvents g c n (t ∷ tasks) (answered_first idle (idle_answers g tasks)) []
idle_first g c n t tasks None e rest = refl
idle_first g c n t tasks (Some a) e rest = ([], [], refl, subst (λ (o : Option Answer). IsCall g c n t o a []) (sym e) (refl, refl), rest)

all_idle : (g : GeometryData) (c n : ℕ) (tasks : List Task) → AreCallEvents g c n tasks (idle_answers g tasks) []
all_idle g c n [] = refl
all_idle g c n (t ∷ tasks) = idle_first g c n t tasks (idle_answer g t) refl (all_idle g c (n + 1) tasks)

calls_and_idle : (g : GeometryData) (c n : ℕ) (tasks : List Task) (answers : List Answer) (calls : List CallEvent) → AreCallEvents g c n tasks answers calls
    → AreCallEvents g c n tasks (answers ++ idle_answers g (drop (length answers) tasks)) calls
calls_and_idle g c n tasks [] calls are = subst (λ (es : List CallEvent). AreCallEvents g c n tasks (idle_answers g tasks) es) (sym are) (all_idle g c n tasks)
calls_and_idle g c n [] (a ∷ answers) calls are = absurd are
calls_and_idle g c n (t ∷ tasks) (a ∷ answers) calls are = (are.0, are.1, are.2, are.3, calls_and_idle g c (n + 1) tasks answers are.1 are.4)

-- ---- the call under way

-- before its first act
no_prefix : (g : GeometryData) (c n : ℕ) (o : Option Task) → IsPrefix g c n stage.Locking o []
no_prefix g c n None = refl
no_prefix g c n (Some t) = All-nil (IsWait g t)

pub fresh_walked : (g : GeometryData) (tasks : List Task) (c : ℕ) → HasWalked c (fresh g tasks) []
fresh_walked g tasks c =
    record { calls = []; last = []; parts = refl; answered = all_idle g c 0 tasks; under_way = no_prefix g c (length (idle_answers g tasks)) (task_of (fresh g tasks)) }

-- an agent with these fields
abbrev agent : GeometryData → List Task → List Answer → Stage → Bool → AgentData
agent g tasks answers s waited = record { geometry = g; tasks = tasks; answers = answers; stage = s; waited = waited }

-- the call under way has one event more
goes_on : (g : GeometryData) (c : ℕ) (tasks : List Task) (answers : List Answer) (s : Stage) (waited : Bool) (t : Task) (calls last : List CallEvent) (e : CallEvent)
    → slice_get tasks (length answers) ≡ Some t → AreCallEvents g c 0 tasks answers calls → IsPrefix g c (length answers) s (Some t) (last ++ e ∷ [])
    → HasWalked c (agent g tasks answers s waited) ((calls ++ last) ++ e ∷ [])
goes_on g c tasks answers s waited t calls last e here are longer = record {
  calls = calls;
  last = last ++ e ∷ [];
  parts = append_assoc calls last (e ∷ []);
  answered = are;
  under_way = subst (λ (o : Option Task). IsPrefix g c (length answers) s o (last ++ e ∷ [])) (sym here) longer;
}

-- the lock is tried
locking : (g : GeometryData) (c : ℕ) (tasks : List Task) (answers : List Answer) (waited : Bool) (t : Task) (calls last : List CallEvent) (old : ℕ)
    → slice_get tasks (length answers) ≡ Some t → AreCallEvents g c 0 tasks answers calls → All (IsWait g t) last
    → HasWalked c (took_at (agent g tasks answers stage.Locking waited) t stage.Locking old) ((calls ++ last) ++ plain (take_act (lock_bit_of g t)) old ∷ [])
locking g c tasks answers waited t calls last old here are waits =
    let e : CallEvent = plain (take_act (lock_bit_of g t)) old in
    elim (eqb_tells (bit_and old (lock_bit_of g t).mask) 0) [
      | inl free ↦
          rw free.0
          (goes_on g c tasks answers stage.Looking _ t calls last e here are (record { waits = last; free = old; held = waits; clear = free.1; parts = refl }))
      | inr held ↦
          rw held.0
          (goes_on g c tasks answers stage.Locking _ t calls last e here are (All-append (IsWait g t) last (e ∷ []) waits (All-cons (IsWait g t) e [] (refl, held.1, refl) (All-nil (IsWait g t)))))
    ]

-- an answer that a map gives has what it is of
pub some_mapped : {X Y : Type 0} (f : X → Y) (o : Option X) (y : Y) → option_map f o ≡ Some y → (x : X) × (o ≡ Some x) × (f x ≡ y)
some_mapped f None y e = absurd cc
some_mapped f (Some x) y e = (x, refl, cc)

looked_prefix : (g : GeometryData) (c n : ℕ) (t : Task) (word place : ℕ) (o : Option Answer) (events : List CallEvent) → looked_answer g t word ≡ o
    → Looks g t place word (known_entries g c n t o) events → IsPrefix g c n (looked_stage o word) (Some t) events
looked_prefix g c n t word place None events answers looks =
    record { place = place; looking = events; looked = looks; needed = answers; parts = sym (append-nil events) }
looked_prefix g c n t word place (Some given) events answers looks = inl (record { place = place; word = word; looked = looks; refused = answers })

looking : (g : GeometryData) (c : ℕ) (tasks : List Task) (answers : List Answer) (waited : Bool) (t : Task) (calls last : List CallEvent) (place old : ℕ)
    → slice_get tasks (length answers) ≡ Some t → AreCallEvents g c 0 tasks answers calls → TakesLock g t last → l1_place_of g (address_of t) ≡ Some place
    → HasWalked c (took_at (agent g tasks answers stage.Looking waited) t stage.Looking old)
    ((calls ++ last) ++ record { act = act.Load place; old = old; made = made_at g c (length answers) stage.Looking (Some t) old } ∷ [])
looking g c tasks answers waited t calls last place old here are locked there =
    let e : CallEvent = record { act = act.Load place; old = old; made = made_at g c (length answers) stage.Looking (Some t) old } in
    goes_on g c tasks answers (looked_stage (looked_answer g t old) old) _ t calls last e here are
    (looked_prefix g c (length answers) t old place (looked_answer g t old) (last ++ e ∷ []) refl (record { locking = last; locked = locked; there = there; parts = refl }))

read_prefix : (g : GeometryData) (c n : ℕ) (t : Task) (z : Size) (k : Kept) (old : ℕ) (events : List CallEvent) → idle_answer g t ≡ None → is_look t ≡ false → IsReading g t z k events
    → IsPrefix g c n (read_stage g t z (kept_read z old k)) (Some t) (events ++ record { act = gen_load_of g z (address_of t); old = old; made = made_at g c n (stage.Reading z k) (Some t) old } ∷ [])
read_prefix g c n t size.Two k old events acts no_look reading = record {
  place = reading.place;
  looking = reading.looking;
  looked = reading.looked;
  needed = reading.needed;
  parts = rw (reading.parts, append-nil reading.looking) refl;
}
read_prefix g c n t size.ThirtyTwo k old events acts no_look reading = record {
  place = reading.place;
  looking = reading.looking;
  looked = reading.looked;
  needed = reading.needed;
  parts = rw reading.parts (append_assoc reading.looking (reads_before g (address_of t) size.ThirtyTwo k.generations) _);
}
read_prefix g c n t size.FiveTwelve k old events acts no_look reading =
    read_all_prefix g c n t (kept_read size.FiveTwelve old k) reading.place (worn_answer (kept_read size.FiveTwelve old k).generations) _ refl reading.looked.there (first_is_change t (acts_move g t acts no_look))
    (record {
      looking = reading.looking;
      looked = reading.looked;
      needed = reading.needed;
      parts = rw reading.parts (append_assoc reading.looking (reads_before g (address_of t) size.FiveTwelve k.generations) _);
    })

raised_prefix : (g : GeometryData) (c n : ℕ) (t : Task) (ch : Change) (z : Size) (k : Kept) (old : ℕ) (events : List CallEvent) → IsChangeOf t ch → idle_answer g t ≡ None → IsPrefix g c n (stage.Raising ch z k) (Some t) events
    → IsPrefix g c n (raised_stage g t ch z (kept_raised z k)) (Some t)
    (events ++ record { act = gen_raise_of g z (address_of t) (generation_in z k.generations); old = old; made = made_at g c n (stage.Raising ch z k) (Some t) old } ∷ [])
raised_prefix g c n t ch size.Two k old events is acts prefix = (prefix.0, prefix.1, one_made g c n t prefix.0 _ old _ _ _ events prefix.2)
raised_prefix g c n t ch size.ThirtyTwo k old events is acts prefix = (prefix.0, prefix.1, one_made g c n t prefix.0 _ old _ _ _ events prefix.2)
raised_prefix g c n t ch size.FiveTwelve k old events is acts prefix =
    let step : Step = record { act = gen_raise_of g size.FiveTwelve (address_of t) k.generations.five_twelve; made = completion g c n t ∷ [] } in
    let e : CallEvent = record { act = step.act; old = old; made = step.made } in
    let kept = kept_raised size.FiveTwelve k in
    subst (IsPrefix g c n (raised_stage g t ch size.FiveTwelve kept) (Some t)) (append-nil (events ++ e ∷ []))
    (passing_prefix g c n t ch (barrier.begun g.cpus) kept prefix.0 (events ++ e ∷ []) [] acts is prefix.1 refl (omega arith)
    (one_made g c n t prefix.0 step old (Passes ∷ parts_after g c n t prefix.0 ch kept) _ _ events prefix.2) refl)

-- a duty word is loaded
passing : (g : GeometryData) (c : ℕ) (tasks : List Task) (answers : List Answer) (waited : Bool) (t : Task) (ch : Change) (d : BarrierData) (k : Kept) (calls last : List CallEvent) (next : Act) (old : ℕ)
    → slice_get tasks (length answers) ≡ Some t → idle_answer g t ≡ None → IsChangeOf t ch → AreCallEvents g c 0 tasks answers calls → IsPrefix g c (length answers) (stage.Passing ch d k) (Some t) last
    → next_load g d ≡ Some next
    → HasWalked c (took_at (agent g tasks answers (stage.Passing ch d k) waited) t (stage.Passing ch d k) old) ((calls ++ last) ++ plain next old ∷ [])
passing g c tasks answers waited t ch d k calls last next old here acts is are prefix there =
    let load : barrier_load g d.passed ≡ next = let both = rw prefix.2.barrier.low at there in cc in
    rw (← load) (elim (eqb_tells old 0) [
      | inl free ↦
          rw free.0
          (goes_on g c tasks answers (passing_stage g t ch (one_passed d) k) _ t calls last (plain (barrier_load g d.passed) old) here are
          (subst (λ (m : ℕ). IsPrefix g c (length answers) (passing_stage g t ch (one_passed d) k) (Some t) (last ++ plain (barrier_load g d.passed) m ∷ [])) (sym free.1)
          (found_prefix g c (length answers) t ch d k last acts is prefix)))
      | inr held ↦
          rw held.0
          (goes_on g c tasks answers (stage.Passing ch d k) _ t calls last (plain (barrier_load g d.passed) old) here are (busy_prefix g c (length answers) t ch d k old last held.1 prefix))
    ])

-- the lock is released, and the call is answered
answered : (g : GeometryData) (c : ℕ) (tasks : List Task) (answers : List Answer) (waited : Bool) (t : Task) (a : Answer) (calls last : List CallEvent) (old : ℕ)
    → slice_get tasks (length answers) ≡ Some t → idle_answer g t ≡ None → AreCallEvents g c 0 tasks answers calls → Decides g c (length answers) t a last
    → HasWalked c (took_at (agent g tasks answers (stage.Releasing a) waited) t (stage.Releasing a) old) ((calls ++ last) ++ plain (release_act (lock_bit_of g t)) old ∷ [])
answered g c tasks answers waited t a calls last old here acts are decided =
    let e : CallEvent = plain (release_act (lock_bit_of g t)) old in
    let own : List CallEvent = last ++ e ∷ [] in
    let number : length answers ≡ 0 + length answers = omega arith in
    let released : Releases g c (length answers) t a own = record { deciding = last; left = old; decided = decided; parts = refl } in
    let call : IsCall g c (0 + length answers) t (idle_answer g t) a own = subst (λ (o : Option Answer). IsCall g c (0 + length answers) t o a own) (sym acts) (subst (λ (m : ℕ). Releases g c m t a own) number released) in
    let one : AreCallEvents g c 0 tasks (answers ++ a ∷ []) (calls ++ own) = calls_and_one g c 0 tasks answers calls own t a here call are in
    let idle = calls_and_idle g c 0 tasks (answers ++ a ∷ []) (calls ++ own) one in
    record {
      calls = calls ++ own;
      last = [];
      parts = append_assoc calls last (e ∷ []) ∙ sym (append-nil (calls ++ own));
      answered = subst (λ (m : ℕ). AreCallEvents g c 0 tasks ((answers ++ a ∷ []) ++ idle_answers g (drop m tasks)) (calls ++ own)) (length-append answers (a ∷ [])) idle;
      under_way = no_prefix g c (length ((answers ++ a ∷ []) ++ idle_answers g (drop (length answers + 1) tasks))) _;
    }

-- ---- a next act

raising_change : (g : GeometryData) (t : Task) (ch : Change) (z : Size) (k : Kept) → IsStage g (stage.Raising ch z k) (Some t) → IsChangeOf t ch
raising_change g t ch size.Two k fits = fits.0
raising_change g t ch size.ThirtyTwo k fits = fits.0
raising_change g t ch size.FiveTwelve k fits = fits.0

-- any act at any stage of a task with acts
walks : (g : GeometryData) (c : ℕ) (tasks : List Task) (answers : List Answer) (s : Stage) (waited : Bool) (t : Task) (calls last : List CallEvent) (next : Act) (old : ℕ)
    → slice_get tasks (length answers) ≡ Some t → idle_answer g t ≡ None → is_look t ≡ false → IsStage g s (Some t) → AreCallEvents g c 0 tasks answers calls → IsPrefix g c (length answers) s (Some t) last → act_at g s t ≡ Some next
    → HasWalked c (took_at (agent g tasks answers s waited) t s old) ((calls ++ last) ++ record { act = next; old = old; made = made_at g c (length answers) s (Some t) old } ∷ [])
walks g c tasks answers stage.Locking waited t calls last next old here acts no_look fits are prefix e =
    let same : take_act (lock_bit_of g t) ≡ next = cc in
    rw (← same) (locking g c tasks answers waited t calls last old here are prefix)
walks g c tasks answers stage.Looking waited t calls last next old here acts no_look fits are prefix e =
    let load = some_mapped act.Load (l1_place_of g (address_of t)) next e in
    rw (← load.2) (looking g c tasks answers waited t calls last load.0 old here are prefix load.1)
walks g c tasks answers (stage.Reading z k) waited t calls last next old here acts no_look fits are prefix e =
    let same : gen_load_of g z (address_of t) ≡ next = cc in
    let event : CallEvent = record { act = gen_load_of g z (address_of t); old = old; made = made_at g c (length answers) (stage.Reading z k) (Some t) old } in
    rw (← same) (goes_on g c tasks answers (read_stage g t z (kept_read z old k)) _ t calls last event here are (read_prefix g c (length answers) t z k old last acts no_look prefix))
walks g c tasks answers (stage.Preparing k) waited t calls last next old here acts no_look fits are prefix e =
    goes_on g c tasks answers (stage.Changing change.Last k) _ t calls last (plain next old) here are
    (prepared_prefix g c (length answers) t k next old last e prefix)
walks g c tasks answers (stage.Passing ch d k) waited t calls last next old here acts no_look fits are prefix e =
    passing g c tasks answers waited t ch d k calls last next old here acts fits.0 are prefix e
walks g c tasks answers (stage.Cleaning ch l k) waited t calls last next old here acts no_look fits are prefix e =
    goes_on g c tasks answers (cleaned_stage g t ch l k) _ t calls last (plain next old) here are
    (cleaned_prefix g c (length answers) t ch l k next old last acts fits.0 e prefix)
walks g c tasks answers (stage.Changing ch k) waited t calls last next old here acts no_look fits are prefix e =
    let store = some_mapped (λ place. act.Store place (changed_word g t ch k.word)) (l1_place_of g (address_of t)) next e in
    let same : store.0 ≡ prefix.0 = let both : Some store.0 ≡ Some prefix.0 = sym store.1 ∙ prefix.1 in cc in
    let event : CallEvent = record { act = act.Store prefix.0 (changed_word g t ch k.word); old = old; made = change_entry g c (length answers) t ch ∷ [] } in
    rw (← store.2, same) (goes_on g c tasks answers (stage.Raising ch size.Two (kept_changed g t ch k)) _ t calls last event here are
    (prefix.0, prefix.1, one_made g c (length answers) t prefix.0 _ old _ _ _ last prefix.2))
walks g c tasks answers (stage.Raising ch z k) waited t calls last next old here acts no_look fits are prefix e =
    let same : gen_raise_of g z (address_of t) (generation_in z k.generations) ≡ next = cc in
    let event : CallEvent = record { act = gen_raise_of g z (address_of t) (generation_in z k.generations); old = old; made = made_at g c (length answers) (stage.Raising ch z k) (Some t) old } in
    rw (← same) (goes_on g c tasks answers (raised_stage g t ch z (kept_raised z k)) _ t calls last event here are
    (raised_prefix g c (length answers) t ch z k old last (raising_change g t ch z k fits) acts prefix))
walks g c tasks answers (stage.Releasing a) waited t calls last next old here acts no_look fits are prefix e =
    let same : release_act (lock_bit_of g t) ≡ next = cc in
    rw (← same) (answered g c tasks answers waited t a calls last old here acts are prefix)
walks g c tasks answers (stage.Splitting z d k) waited t calls last next old here acts no_look fits are prefix e =
    goes_on g c tasks answers (split_stage t z (advanced d) k) _ t calls last (plain next old) here are
    (split_prefix g c (length answers) t z d k next old last (first_is_change t (acts_move g t acts no_look)) e prefix)
walks g c tasks answers (stage.Merging f k) waited t calls last next old here acts no_look fits are prefix e =
    goes_on g c tasks answers (merged_stage (fuse.took_of f old) k) _ t calls last (plain next old) here are
    (merged_prefix g c (length answers) t f k next old last e prefix)

-- with or without a task under way
took_walks : (c : ℕ) (a : AgentData) (o : Option Task) (calls last : List CallEvent) (next : Act) (old : ℕ) → IsAgent a → task_of a ≡ o
    → AreCallEvents a.geometry c 0 a.tasks a.answers calls → IsPrefix a.geometry c (length a.answers) a.stage o last → next_of a ≡ Some next
    → HasWalked c (took_under_way a o old) ((calls ++ last) ++ record { act = next; old = old; made = made_at a.geometry c (length a.answers) a.stage o old } ∷ [])
took_walks c a None calls last next old is here are prefix e = absurd (let both = rw here at e in cc)
took_walks c a (Some t) calls last next old is here are prefix e =
    walks a.geometry c a.tasks a.answers a.stage a.waited t calls last next old here (subst (HasActs a.geometry) here is.acts) (no_look_at a t is here) (subst (IsStage a.geometry a.stage) here is.stage) are prefix (rw here at e)

pub step_walks : (c : ℕ) (a : AgentData) (events : List CallEvent) (next : Act) (old : ℕ) → IsAgent a → HasWalked c a events → next_of a ≡ Some next
    → HasWalked c (took_of a old) (events ++ record { act = next; old = old; made = made_at a.geometry c (length a.answers) a.stage (task_of a) old } ∷ [])
step_walks c a events next old is walked e =
    subst (λ (es : List CallEvent). HasWalked c (took_of a old) (es ++ record { act = next; old = old; made = made_at a.geometry c (length a.answers) a.stage (task_of a) old } ∷ [])) (sym walked.parts)
    (took_walks c a (task_of a) walked.calls walked.last next old is refl walked.answered walked.under_way e)
