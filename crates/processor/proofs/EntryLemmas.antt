-- The entries of a processor grow by those of its acts.
use Rattle.std.proofs.Common.{◌≡◌, ℕ, suc, ◌+◌, ◌++◌, ◌∷◌, [], List, Bool, true, false, Option, Some, None, length, drop, append_assoc, append-nil, length-append, refl, sym, ap, ◌∙◌, subst, arith, inl, inr, if◌then◌else◌}
use Rattle.std.specs.Prelude.{slice_get, ◌==◌}
use Rattle.std.specs.Option.{option_map}
use Rattle.gpi_values.specs.declared.gpi.Gpi.{Gpi}
use Rattle.gpi_values.specs.declared.gpi.Space.{Space}
use Rattle.gpt_descriptors.specs.declared.size.Size.TheVariants as size
use Rattle.gpt_descriptors.specs.declared.size.Generations.{Generations}
use Rattle.gpt_descriptors.specs.Sizes.{granule_bytes}
use Rattle.gpt_descriptors.specs.Places.{GeometryData, block_gpi_of}
use Rattle.shared_words.specs.declared.act.Act.{Act}
use Rattle.history.specs.declared.call.Task.{Task}
use Rattle.history.specs.declared.call.Task.TheVariants as task
use Rattle.history.specs.declared.call.Answer.{Answer}
use Rattle.history.specs.declared.entry.Entry.{Entry}
use Rattle.history.specs.Calls.{call_entries, answered_entries}
use Rattle.processor.specs.InnerProgress.{Stage}
use Rattle.processor.specs.InnerProgress as stage
use Rattle.gpt_descriptors.specs.declared.size.Reach.{Reach}
use Rattle.walk_cache.specs.declared.walk.Walk.{Walk}
use Rattle.walk_cache.specs.Rings.{newest_of}
use Rattle.history.specs.declared.call.Access.{Access}
use Rattle.history.specs.declared.call.OldWalk.{OldWalk}
use Rattle.history.specs.declared.call.Answer.TheVariants as answer
use Rattle.history.specs.declared.call.Via.{Via}
use Rattle.history.specs.declared.call.Via.TheVariants as via
use Rattle.history.specs.Events.{CallEvent}
use Rattle.history.specs.Legality.{is_still}
use Rattle.history.specs.Stamps.{walked}
use Rattle.processor.specs.Accesses.{block_answer, walk_of, walk_gpi, table_access, looked_entry}
use Rattle.processor.specs.Script.{Decides}
use Rattle.processor.specs.InnerProgress.{no_generations, old_walk, after_search, decided_stage, after_decision, after_word}
use Rattle.processor.specs.InnerScript.{IsPartOf, IsPrefix, HasWalked}
use Rattle.processor.specs.InnerCpus.{CpuData, task_of, idle_answer, answered_first, idle_answers, fresh, next_at, next_of, after_answer, took_at, took_of}
use Rattle.processor.specs.InnerEntries.{decided_entries, walk_entries, made_at, entries_at, own_entries}

-- ---- the answered accesses

none_answered : (bytes c n : ℕ) (tasks : List Task) → answered_entries bytes c n tasks [] ≡ []
none_answered bytes c n [] = refl
none_answered bytes c n (t ∷ tasks) = refl

block_quiet : (bytes c n pa : ℕ) (space : Space) (o : Option Gpi) (a : Answer) → option_map (block_answer space) o ≡ Some a → call_entries bytes c n (task.Look pa space) a ≡ []
block_quiet bytes c n pa space None a e = absurd cc
block_quiet bytes c n pa space (Some gpi) a e = let same : block_answer space gpi ≡ a = cc in rw (← same) refl

-- an access without acts makes no entry
idle_quiet : (g : GeometryData) (bytes c n : ℕ) (t : Task) (a : Answer) → idle_answer g t ≡ Some a → call_entries bytes c n t a ≡ []
idle_quiet g bytes c n (task.Look pa space) a e = block_quiet bytes c n pa space (block_gpi_of g pa) a e
idle_quiet g bytes c n (task.Delegate pa source) a e = absurd cc
idle_quiet g bytes c n (task.Undelegate pa source) a e = absurd cc
idle_quiet g bytes c n task.Unknown a e = absurd cc

first_quiet : (g : GeometryData) (bytes c n : ℕ) (t : Task) (tasks : List Task) (o : Option Answer) → idle_answer g t ≡ o → answered_entries bytes c (n + 1) tasks (idle_answers g tasks) ≡ []
    → answered_entries bytes c n (t ∷ tasks) (answered_first o (idle_answers g tasks)) ≡ []
first_quiet g bytes c n t tasks None e rest = refl
first_quiet g bytes c n t tasks (Some a) e rest = rw (idle_quiet g bytes c n t a e, rest) refl

all_quiet : (g : GeometryData) (bytes c n : ℕ) (tasks : List Task) → answered_entries bytes c n tasks (idle_answers g tasks) ≡ []
all_quiet g bytes c n [] = refl
all_quiet g bytes c n (t ∷ tasks) = first_quiet g bytes c n t tasks (idle_answer g t) refl (all_quiet g bytes c (n + 1) tasks)

calls_and_quiet : (g : GeometryData) (bytes c n : ℕ) (tasks : List Task) (answers : List Answer)
    → answered_entries bytes c n tasks (answers ++ idle_answers g (drop (length answers) tasks)) ≡ answered_entries bytes c n tasks answers
calls_and_quiet g bytes c n tasks [] = all_quiet g bytes c n tasks ∙ sym (none_answered bytes c n tasks)
calls_and_quiet g bytes c n [] (a ∷ answers) = refl
calls_and_quiet g bytes c n (t ∷ tasks) (a ∷ answers) = ap (λ (es : List Entry). call_entries bytes c n t a ++ es) (calls_and_quiet g bytes c (n + 1) tasks answers)

-- one more answer
calls_and_one : (bytes c n : ℕ) (tasks : List Task) (answers : List Answer) (t : Task) (a : Answer) → slice_get tasks (length answers) ≡ Some t
    → answered_entries bytes c n tasks (answers ++ a ∷ []) ≡ answered_entries bytes c n tasks answers ++ call_entries bytes c (n + length answers) t a
calls_and_one bytes c n [] [] t a here = absurd cc
calls_and_one bytes c n (x ∷ tasks) [] t a here =
    let same : x ≡ t = cc in
    let number : n ≡ n + 0 = omega arith in
    ap (λ (es : List Entry). call_entries bytes c n x a ++ es) (none_answered bytes c (n + 1) tasks) ∙ append-nil (call_entries bytes c n x a)
    ∙ ap (λ (y : Task). call_entries bytes c n y a) same ∙ ap (λ (m : ℕ). call_entries bytes c m t a) number
calls_and_one bytes c n [] (b ∷ answers) t a here = absurd cc
calls_and_one bytes c n (x ∷ tasks) (b ∷ answers) t a here =
    let number : n + 1 + length answers ≡ n + suc (length answers) = omega arith in
    ap (λ (es : List Entry). call_entries bytes c n x b ++ es)
    (calls_and_one bytes c (n + 1) tasks answers t a here ∙ ap (λ (m : ℕ). answered_entries bytes c (n + 1) tasks answers ++ call_entries bytes c m t a) number)
    ∙ sym (append_assoc (call_entries bytes c n x b) (answered_entries bytes c (n + 1) tasks answers) (call_entries bytes c (n + suc (length answers)) t a))

-- ---- the access under way

starts_quiet : (g : GeometryData) (c n : ℕ) (o : Option Task) → entries_at g c n stage.Starting o ≡ []
starts_quiet g c n None = refl
starts_quiet g c n (Some (task.Look pa space)) = refl
starts_quiet g c n (Some (task.Delegate pa source)) = refl
starts_quiet g c n (Some (task.Undelegate pa source)) = refl
starts_quiet g c n (Some task.Unknown) = refl

pub fresh_quiet : (g : GeometryData) (p : ℕ) (tasks : List Task) (c : ℕ) → own_entries c (fresh g p tasks) ≡ []
fresh_quiet g p tasks c =
    ap (λ (es : List Entry). es ++ entries_at g c (length (idle_answers g tasks)) stage.Starting (task_of (fresh g p tasks))) (all_quiet g (granule_bytes g.setup) c 0 tasks)
    ∙ starts_quiet g c (length (idle_answers g tasks)) (task_of (fresh g p tasks))

-- what is decided makes one entry, when it is answered
walked_quiet : (m : Option OldWalk) (reach : Reach) (lo hi : ℕ) → is_still (walked m reach lo hi) ≡ false
walked_quiet None reach lo hi = refl
walked_quiet (Some old) reach lo hi = refl

table_entry : (g : GeometryData) (c n pa : ℕ) (space : Space) (gpi : Gpi) (v : Via) (a : Access) → a ≡ table_access space gpi v → is_still v ≡ false
    → call_entries (granule_bytes g.setup) c n (task.Look pa space) (answer.Seen a) ≡ looked_entry g c n pa space a.gpi ∷ []
table_entry g c n pa space gpi v a is at_table = rw (is, at_table) refl

decided_entry : (g : GeometryData) (p c d n pa : ℕ) (space : Space) (kept : List Walk) (a : Access) (later : List Walk) (events : List CallEvent) → Decides g p d n pa space kept a later events
    → call_entries (granule_bytes g.setup) c n (task.Look pa space) (answer.Seen a) ≡ looked_entry g c n pa space a.gpi ∷ []
decided_entry g p c d n pa space kept a later events (inl hits) = table_entry g c n pa space hits.0.gpi _ a hits.0.is refl
decided_entry g p c d n pa space kept a later events (inr walks) =
    table_entry g c n pa space walks.gpi _ a walks.is (walked_quiet walks.missed walks.walk.reach walks.walk.tag walks.hi)

-- the access is answered: its entry stays
answered_entry : (c : ℕ) (q : CpuData) (pa : ℕ) (space : Space) (seen : Access) → task_of q ≡ Some (task.Look pa space)
    → call_entries (granule_bytes q.geometry.setup) c (length q.answers) (task.Look pa space) (answer.Seen seen) ≡ looked_entry q.geometry c (length q.answers) pa space seen.gpi ∷ []
    → own_entries c (after_answer q (answer.Seen seen))
    ≡ (answered_entries (granule_bytes q.geometry.setup) c 0 q.tasks q.answers ++ looked_entry q.geometry c (length q.answers) pa space seen.gpi ∷ []) ++ []
answered_entry c q pa space seen here entry =
    let bytes : ℕ = granule_bytes q.geometry.setup in
    let a : Answer = answer.Seen seen in
    let later : List Answer = q.answers ++ a ∷ [] in
    let number : 0 + length q.answers ≡ length q.answers = omega arith in
    let ended : CpuData = after_answer q a in
    let one = calls_and_one bytes c 0 q.tasks q.answers (task.Look pa space) a here ∙ ap (λ (m : ℕ). answered_entries bytes c 0 q.tasks q.answers ++ call_entries bytes c m (task.Look pa space) a) number in
    let quiet = subst (λ (m : ℕ). answered_entries bytes c 0 q.tasks (later ++ idle_answers q.geometry (drop m q.tasks)) ≡ answered_entries bytes c 0 q.tasks later)
    (length-append q.answers (a ∷ [])) (calls_and_quiet q.geometry bytes c 0 q.tasks later) in
    ap (λ (es : List Entry). answered_entries bytes c 0 q.tasks ended.answers ++ es) (starts_quiet q.geometry c (length ended.answers) (task_of ended))
    ∙ ap (λ (es : List Entry). es ++ []) (quiet ∙ one ∙ ap (λ (es : List Entry). answered_entries bytes c 0 q.tasks q.answers ++ es) entry)

-- the entries after the duty word is set
searched_entry : (g : GeometryData) (c n pa : ℕ) (space : Space) (o : Option Walk) (before : List Entry)
    → before ++ entries_at g c n (after_search o) (Some (task.Look pa space)) ≡ (before ++ []) ++ []
searched_entry g c n pa space None before = sym (append-nil (before ++ []))
searched_entry g c n pa space (Some w) before = sym (append-nil (before ++ []))

-- after an access is decided
decided_quiet : (g : GeometryData) (c n pa : ℕ) (space : Space) (a : Access) (b : Bool)
    → entries_at g c n (if b then stage.Touching a else stage.Leaving a) (Some (task.Look pa space)) ≡ looked_entry g c n pa space a.gpi ∷ []
decided_quiet g c n pa space a true = refl
decided_quiet g c n pa space a false = refl

-- after the load of the generation of the found walk
hit_entry : (g : GeometryData) (c n pa : ℕ) (space : Space) (w : Walk) (o : Option Gpi) (v : Via) (before : List Entry)
    → before ++ entries_at g c n (after_decision (stage.Trying w) o space v) (Some (task.Look pa space)) ≡ (before ++ []) ++ decided_entries g c n pa space o
hit_entry g c n pa space w None v before = sym (append-nil (before ++ []))
hit_entry g c n pa space w (Some gpi) v before =
    let a : Access = table_access space gpi v in
    ap (λ (es : List Entry). before ++ es) (decided_quiet g c n pa space a a.allowed) ∙ ap (λ (es : List Entry). es ++ looked_entry g c n pa space gpi ∷ []) (sym (append-nil before))

tried_entry : (g : GeometryData) (c n pa : ℕ) (space : Space) (w : Walk) (old : ℕ) (b : Bool) (before : List Entry)
    → before ++ entries_at g c n (if b then after_decision (stage.Trying w) (walk_gpi g pa w) space (via.Hit w.reach w.tag) else stage.Loading size.Two no_generations (Some (old_walk w old)))
    (Some (task.Look pa space)) ≡ (before ++ []) ++ (if b then decided_entries g c n pa space (walk_gpi g pa w) else [])
tried_entry g c n pa space w old true before = hit_entry g c n pa space w (walk_gpi g pa w) (via.Hit w.reach w.tag) before
tried_entry g c n pa space w old false before = sym (append-nil (before ++ []))

-- after the load of the L1 word
loaded_entry : (g : GeometryData) (c n pa : ℕ) (space : Space) (k : Generations) (m : Option OldWalk) (o : Option Walk) (before : List Entry)
    → before ++ entries_at g c n (after_word k m o) (Some (task.Look pa space)) ≡ (before ++ []) ++ walk_entries g c n pa space o
loaded_entry g c n pa space k m None before = sym (append-nil (before ++ []))
loaded_entry g c n pa space k m (Some w) before = ap (λ (es : List Entry). es ++ decided_entries g c n pa space (walk_gpi g pa w)) (sym (append-nil before))

-- after the second load of the generation
closed_entry : (g : GeometryData) (c n pa : ℕ) (space : Space) (w : Walk) (m : Option OldWalk) (o : Option Gpi) (v : Via) (before : List Entry) → walk_gpi g pa w ≡ o
    → before ++ entries_at g c n (after_decision (stage.Closing w m) o space v) (Some (task.Look pa space)) ≡ (before ++ decided_entries g c n pa space o) ++ []
closed_entry g c n pa space w m None v before gives = rw gives (sym (append-nil (before ++ [])))
closed_entry g c n pa space w m (Some gpi) v before gives =
    let a : Access = table_access space gpi v in
    ap (λ (es : List Entry). before ++ es) (decided_quiet g c n pa space a a.allowed) ∙ sym (append-nil (before ++ looked_entry g c n pa space gpi ∷ []))

-- an act that makes none
no_entry : (es : List Entry) → es ≡ es ++ []
no_entry es = sym (append-nil es)

look_entries : (c d : ℕ) (q : CpuData) (pa : ℕ) (space : Space) (s : Stage) (kept : List Walk) (last : List CallEvent) (old : ℕ) → task_of q ≡ Some (task.Look pa space) → q.stage ≡ s
    → IsPartOf q.geometry q.number d (length q.answers) pa space kept q.cache.walks s last
    → own_entries c (took_at q (Some (task.Look pa space)) old)
    ≡ (answered_entries (granule_bytes q.geometry.setup) c 0 q.tasks q.answers ++ entries_at q.geometry c (length q.answers) s (Some (task.Look pa space)))
    ++ made_at q.geometry c (length q.answers) s (Some (task.Look pa space)) old
look_entries c d q pa space stage.Starting kept last old here is part = rw (is, here) (searched_entry q.geometry c (length q.answers) pa space (newest_of q.cache.walks pa) _)
look_entries c d q pa space (stage.Trying w) kept last old here is part = rw (is, here) (tried_entry q.geometry c (length q.answers) pa space w old (old == w.tag) _)
look_entries c d q pa space (stage.Loading size.Two k m) kept last old here is part = rw is (no_entry _)
look_entries c d q pa space (stage.Loading size.ThirtyTwo k m) kept last old here is part = rw is (no_entry _)
look_entries c d q pa space (stage.Loading size.FiveTwelve k m) kept last old here is part = rw is (no_entry _)
look_entries c d q pa space (stage.Walking k m) kept last old here is part = rw (is, here) (loaded_entry q.geometry c (length q.answers) pa space k m (walk_of pa k old) _)
look_entries c d q pa space (stage.Closing w m) kept last old here is part =
    rw (is, here) (closed_entry q.geometry c (length q.answers) pa space w m (walk_gpi q.geometry pa w) (walked m w.reach w.tag old) _ refl)
look_entries c d q pa space (stage.Touching a) kept last old here is part = rw (is, here) (no_entry _)
look_entries c d q pa space (stage.Leaving a) kept last old here is part =
    rw is (answered_entry c q pa space a here (decided_entry q.geometry q.number c d (length q.answers) pa space kept a q.cache.walks part.deciding part.decided))

took_entries : (c d : ℕ) (q : CpuData) (o : Option Task) (kept : List Walk) (last : List CallEvent) (next : Act) (old : ℕ) → task_of q ≡ o → next_at q o ≡ Some next
    → IsPrefix q.geometry q.number d (length q.answers) kept q.cache.walks q.stage o last
    → own_entries c (took_at q o old)
    ≡ (answered_entries (granule_bytes q.geometry.setup) c 0 q.tasks q.answers ++ entries_at q.geometry c (length q.answers) q.stage o)
    ++ made_at q.geometry c (length q.answers) q.stage o old
took_entries c d q None kept last next old here e prefix = absurd cc
took_entries c d q (Some (task.Look pa space)) kept last next old here e prefix = look_entries c d q pa space q.stage kept last old here refl prefix
took_entries c d q (Some (task.Delegate pa source)) kept last next old here e prefix = absurd cc
took_entries c d q (Some (task.Undelegate pa source)) kept last next old here e prefix = absurd cc
took_entries c d q (Some task.Unknown) kept last next old here e prefix = absurd cc

pub step_entries : (c d : ℕ) (q : CpuData) (events : List CallEvent) (next : Act) (old : ℕ) → HasWalked d q events → next_of q ≡ Some next
    → own_entries c (took_of q old) ≡ own_entries c q ++ made_at q.geometry c (length q.answers) q.stage (task_of q) old
step_entries c d q events next old walked e = took_entries c d q (task_of q) walked.kept walked.last next old refl e walked.under_way
