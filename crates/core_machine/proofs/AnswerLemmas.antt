-- What a history says of calls without an answer, and the causes of the answers without acts.
use Rattle.std.proofs.Common.{◌≡◌, ℕ, zero, suc, ◌+◌, ◌<◌, ◌≤◌, ◌++◌, ◌∷◌, [], List, Bool, true, false, ◌&&◌, eqb, map, length, Option, Some, None, refl, sym, ap, ◌∙◌, subst, arith, inl, inr}
use Rattle.std.specs.Prelude.{slice_get, MatchOption}
use Rattle.std.specs.List.{All, list_any}
use Rattle.std.specs.Option.{option_map}
use Rattle.std.proofs.lemmas.Bool.{cases_Bool, eqb-true, eq-eqb, and_parts, and_right, or_cases, or_parts}
use Rattle.std.proofs.lemmas.List.Elements.{All-head, All-tail}
use Rattle.std.proofs.lemmas.List.Folds.{list_any-append}
use Rattle.std.proofs.lemmas.Option.{slice_get-map}
use Rattle.history.specs.declared.call.Answer.TheVariants as answers
use Rattle.std.proofs.lemmas.Option.{slice_get_cases}
use Rattle.core_machine.proofs.Names.{Gpi, value_of, Size, SetupData, granule_bytes, word_gpi, GeometryData, lock_number, Task, Answer, Entry, Stage, AgentData, task_of, HasActs, IsStage, Caller, IsCounted, is_on_block, CallEvent, granule_of_task, address_of, generation_in, granule_place, idle_answer, IsPrefix, Scene, answer_at, answered_entries, entries_by, call_in, caller_in, granule_in, caller_answers, known_answers, holds, entries_at, CallAllows, granule_of, needed, is_by, HoldsIn, IsHistoryOf, coming_at, is_inside}
use Rattle.core_machine.proofs.Names.task
use Rattle.core_machine.proofs.Names.entry
use Rattle.core_machine.proofs.Names.stage
use Rattle.core_machine.proofs.Names.caller
use Rattle.core_machine.proofs.AccessLemmas.{FailsLooks, own_fail}
use Rattle.core_machine.specs.InnerFits.{AreMade, HaveTasks}
use Rattle.core_machine.proofs.EntryLemmas.{refused_is, IsOwnEntry, prefix_fits, prefix_allowed}
use Rattle.core_machine.proofs.AloneLemmas.{all_middle, any_weaker, later_number}
use Rattle.delegate_ops.proofs.ScriptLemmas.{some_mapped}
use Rattle.core_machine.proofs.ActLemmas.{on_number}
use Rattle.core_machine.specs.Facts.{AreAlone, AreWorn}
use Rattle.delegate_ops.specs.Script.{AreCallEvents, Decides, IsCall}
use Rattle.delegate_ops.specs.Deciding.{HasCause, is_decided}
use Rattle.core_machine.specs.InnerCallers.{own_of}
use Rattle.gpi_values.proofs.ValueLemmas.{value_one}
use Rattle.core_machine.specs.InnerInvariant.{IsAlone}
use Rattle.core_machine.proofs.AddressLemmas.{lock_of, task_lock}

-- ---- causes

decided_cause : (g : GeometryData) (c n : ℕ) (t : Task) (given : Answer) (events : List CallEvent) → Decides g c n t given events → is_decided given ≡ true
decided_cause g c n t given events (inl refused) = ap is_decided (refused_is t (word_gpi refused.word (granule_place g (address_of t))) given refused.refused).3
decided_cause g c n t given events (inr (inl worn)) = ap is_decided (sym (some_mapped (λ (z : Size). answers.Worn z (generation_in z worn.generations)) _ given worn.worn).2)
decided_cause g c n t given events (inr (inr done)) = subst (λ (x : Answer). is_decided x ≡ true) (sym done.is) refl

call_cause : (g : GeometryData) (c n : ℕ) (t : Task) (o : Option Answer) (given : Answer) (events : List CallEvent) → IsCall g c n t o given events → MatchOption o (is_decided given ≡ true) (λ idle. given ≡ idle)
call_cause g c n t (Some idle) given events call = sym call.0
call_cause g c n t None given events call = decided_cause g c n t given call.deciding call.decided

pub calls_cause : (g : GeometryData) (c n k : ℕ) (tasks : List Task) (answers : List Answer) (events : List CallEvent) (t : Task) (given : Answer) → AreCallEvents g c n tasks answers events
    → slice_get tasks k ≡ Some t → slice_get answers k ≡ Some given → HasCause g t given
calls_cause g c n k tasks [] events t given are asked answered = absurd cc
calls_cause g c n k [] (a ∷ answers) events t given are asked answered = absurd are
calls_cause g c n zero (x ∷ tasks) (a ∷ answers) events t given are asked answered =
    let task : x ≡ t = cc in
    let is : a ≡ given = cc in
    subst (λ (u : Task). HasCause g u given) task (subst (HasCause g x) is (call_cause g c n x (idle_answer g x) a are.0 are.3))
calls_cause g c n (suc k) (x ∷ tasks) (a ∷ answers) events t given are asked answered = calls_cause g c (n + 1) k tasks answers are.1 t given are.4 asked answered

-- ---- an entry of a call without an answer

-- one item of a list passes what its list passes
pub any_here : {X : Type 0} (p : X → Bool) (h before after : List X) (e : X) → h ≡ before ++ e ∷ after → p e ≡ true → list_any p h ≡ true
any_here p h before after e parts passes =
    ap (list_any p) parts ∙ list_any-append p before (e ∷ after) ∙ (rw passes (elim (cases_Bool (list_any p before)) [ inl some ↦ rw some refl | inr none ↦ rw none refl ]))

any_kept : (c : ℕ) (p : Entry → Bool) (h : List Entry) → ((e : Entry) → p e ≡ true → caller_in e ≡ c) → list_any p h ≡ true → list_any p (entries_by c h) ≡ true
any_kept c p [] own some = absurd cc
any_kept c p (e ∷ h) own some =
    elim (or_cases (p e) (list_any p h) some) [
      | inl here ↦ rw (eq-eqb (caller_in e) c (own e here), here) refl
      | inr later ↦ elim (cases_Bool (eqb (caller_in e) c)) [
        | inl mine ↦ rw (mine, any_kept c p h own later) (elim (cases_Bool (p e)) [ inl first ↦ rw first refl | inr other ↦ rw other refl ])
        | inr other ↦ rw other (any_kept c p h own later)
      ]
    ]

-- the items after one that isn't in the first part
all_after : {X : Type 0} (p : X → Bool) (P : X → Type 0) (first since before after : List X) (e : X) → first ++ since ≡ before ++ e ∷ after → list_any p first ≡ false → p e ≡ true → All P since → All P after
all_after p P [] since [] after e parts none passes all = All-tail P e after (subst (All P) parts all)
all_after p P [] since (b ∷ before) after e parts none passes all = all_after p P [] (before ++ e ∷ after) before after e refl refl passes (All-tail P b (before ++ e ∷ after) (subst (All P) parts all))
all_after p P (x ∷ first) since [] after e parts none passes all =
    absurd (let same : x ≡ e = cc in let apart = or_parts (p x) (list_any p first) none in let both : true ≡ false = sym passes ∙ ap p (sym same) ∙ apart.0 in cc)
all_after p P (x ∷ first) since (b ∷ before) after e parts none passes all =
    all_after p P first since before after e (let rest : first ++ since ≡ before ++ e ∷ after = cc in rest) (or_parts (p x) (list_any p first) none).1 passes all

-- the call's number, where an entry of it stands among a caller's own
number_of : (bytes c k : ℕ) (tasks : List Task) (answers : List Answer) (rest : List Entry) (p : Entry → Bool) → length answers ≤ k → ((e : Entry) → p e ≡ true → is_by c k e ≡ true)
    → list_any p (answered_entries bytes c 0 tasks answers ++ rest) ≡ true → list_any p rest ≡ true
number_of bytes c k tasks answers rest p high by some =
    elim (or_cases (list_any p (answered_entries bytes c 0 tasks answers)) (list_any p rest) (sym (list_any-append p (answered_entries bytes c 0 tasks answers) rest) ∙ some)) [
      | inl early ↦
          absurd
          (let none : list_any (is_by c k) (answered_entries bytes c 0 tasks answers) ≡ false = later_number bytes c 0 k tasks answers (omega (arith, high)) in
          let there = any_weaker p (is_by c k) (answered_entries bytes c 0 tasks answers) by early in
          let both : true ≡ false = sym there ∙ none in cc)
      | inr later ↦ later
    ]

any_all : {X : Type 0} (P : X → Type 0) (p : X → Bool) (xs : List X) → All P xs → list_any p xs ≡ true → (x : X) × P x × (p x ≡ true)
any_all P p [] all some = absurd cc
any_all P p (x ∷ xs) all some =
    elim (or_cases (p x) (list_any p xs) some) [
      | inl here ↦ (x, All-head P x xs all, here)
      | inr later ↦ any_all P p xs (All-tail P x xs all) later
    ]

past_end : {X : Type 0} (xs : List X) (k : ℕ) → slice_get xs k ≡ None → length xs ≤ k
past_end [] k none = omega arith
past_end (x ∷ xs) zero none = absurd cc
past_end (x ∷ xs) (suc k) none = let rest = past_end xs k none in omega (arith, rest)

inside_by : (g : GeometryData) (c n : ℕ) (s : Stage) (t : Task) (p : Entry → Bool) → list_any p (entries_at g c n s (Some t)) ≡ true → is_inside s ≡ true
inside_by g c n stage.Locking t p some = absurd cc
inside_by g c n s t p some = refl

-- the call under way of an agent, which has an entry that passes a test
pub record UnderWay (g : GeometryData) (c k : ℕ) (a : AgentData) (p : Entry → Bool) : Type 0 where
  pub task : Task
  pub next : task_of a ≡ Some task
  pub acts : idle_answer g task ≡ None
  pub number : k ≡ length a.answers
  pub entry : Entry
  pub granule : granule_of (granule_bytes g.setup) task ≡ Some (granule_in entry)
  pub passes : p entry ≡ true
  pub answer : Answer
  pub allows : CallAllows task answer entry
  pub worn : (z : Size) (v : ℕ) → answer ≡ answers.Worn z v → a.stage ≡ stage.Releasing answer
  pub some : list_any p (entries_at g c (length a.answers) a.stage (Some task)) ≡ true

under_way_by : (g : GeometryData) (c k : ℕ) (a : AgentData) (p : Entry → Bool) (o : Option Task) (events : List CallEvent) → task_of a ≡ o → HasActs g o → IsStage g a.stage o → IsPrefix g c (length a.answers) a.stage o events
    → ((e : Entry) → p e ≡ true → is_by c k e ≡ true) → list_any p (entries_at g c (length a.answers) a.stage o) ≡ true → UnderWay g c k a p
under_way_by g c k a p None events next acts fits prefix by some =
    absurd (let none = prefix_fits g c (length a.answers) a.stage None events fits prefix in let both : list_any p [] ≡ true = subst (λ (es : List Entry). list_any p es ≡ true) none some in cc)
under_way_by g c k a p (Some t) events next acts fits prefix by some =
    let own = prefix_allowed g c (length a.answers) a.stage t (entries_at g c (length a.answers) a.stage (Some t)) acts (prefix_fits g c (length a.answers) a.stage (Some t) events fits prefix) in
    let one = any_all (IsOwnEntry g c (length a.answers) t own.0) p (entries_at g c (length a.answers) a.stage (Some t)) own.1 some in
    record {
      task = t;
      next = next;
      acts = acts;
      number = sym (eqb-true (call_in one.0) k (and_parts (eqb (caller_in one.0) c) (eqb (call_in one.0) k) (by one.0 one.2)).1) ∙ one.1.call;
      entry = one.0;
      granule = one.1.granule;
      passes = one.2;
      answer = own.0;
      allows = one.1.allows;
      worn = own.2;
      some = some;
    }

-- caller c is an agent, whose call under way this is
pub record Unanswered (g : GeometryData) (callers : List Caller) (c k : ℕ) (p : Entry → Bool) : Type 0 where
  pub agent : AgentData
  pub at : slice_get callers c ≡ Some (caller.Agent agent)
  pub way : UnderWay agent.geometry c k agent p

answers_none : (callers : List Caller) (c k : ℕ) (x : Caller) → slice_get callers c ≡ Some x → answer_at (map caller_answers callers) c k ≡ None → length (caller_answers x) ≤ k
answers_none callers c k x at none =
    let there : slice_get (map caller_answers callers) c ≡ Some (caller_answers x) = slice_get-map caller_answers callers c ∙ ap (option_map caller_answers) at in
    past_end (caller_answers x) k (rw there at none)

unanswered_of : (g : GeometryData) (callers : List Caller) (h : List Entry) (c k : ℕ) (p : Entry → Bool) (x : Caller) → slice_get callers c ≡ Some x → AreMade g callers → entries_by c h ≡ own_of c x
    → answer_at (map caller_answers callers) c k ≡ None → ((e : Entry) → p e ≡ true → is_by c k e ≡ true) → FailsLooks p → list_any p h ≡ true → Unanswered g callers c k p
unanswered_of g callers h c k p (caller.Cpu q) at made own none by fails some =
    absurd
    (let kept = any_kept c p h (λ e passes. eqb-true (caller_in e) c (and_parts (eqb (caller_in e) c) (eqb (call_in e) k) (by e passes)).0) some in
    let is = made c (caller.Cpu q) at in
    let both : false ≡ true = sym (own_fail p c q is.2 fails is.3) ∙ ap (list_any p) (sym own) ∙ kept in cc)
unanswered_of g callers h c k p (caller.Agent a) at made own none by fails some =
    let is = made c (caller.Agent a) at in
    let kept = any_kept c p h (λ e passes. eqb-true (caller_in e) c (and_parts (eqb (caller_in e) c) (eqb (call_in e) k) (by e passes)).0) some in
    let there = number_of (granule_bytes a.geometry.setup) c k a.tasks a.answers (entries_at a.geometry c (length a.answers) a.stage (task_of a)) p (answers_none callers c k (caller.Agent a) at none) by
    (subst (λ (es : List Entry). list_any p es ≡ true) own kept) in
    record { agent = a; at = at; way = under_way_by a.geometry c k a p (task_of a) is.3.last refl is.1.acts is.1.stage is.3.under_way by there }

pub unanswered : (g : GeometryData) (first : List Gpi) (callers : List Caller) (h before after : List Entry) (e : Entry) (c k : ℕ) (p : Entry → Bool) → IsHistoryOf first callers h → AreMade g callers
    → answer_at (map caller_answers callers) c k ≡ None → ((x : Entry) → p x ≡ true → is_by c k x ≡ true) → FailsLooks p → h ≡ before ++ e ∷ after → p e ≡ true → Unanswered g callers c k p
unanswered g first callers h before after e c k p tells made none by fails parts passes =
    let low : caller_in e < length callers = all_middle (λ (x : Entry). caller_in x < length callers) before after e (subst (All (λ (x : Entry). caller_in x < length callers)) parts tells.known) in
    let mine : caller_in e ≡ c = eqb-true (caller_in e) c (and_parts (eqb (caller_in e) c) (eqb (call_in e) k) (by e passes)).0 in
    elim (slice_get_cases callers c).1 [
      | inl here ↦ unanswered_of g callers h c k p here.0 here.2 made (tells.own c here.0 here.2) none by fails (any_here p h before after e parts passes)
      | inr past ↦ absurd (let beyond = past.0 in omega (arith, beyond, low, mine))
    ]

-- ---- a call without an answer is alone on its lock block

task_granule : (g : GeometryData) (t : Task) (granule : ℕ) → granule_of (granule_bytes g.setup) t ≡ Some granule → granule ≡ granule_of_task g t
task_granule g (task.Delegate pa source) granule is = cc
task_granule g (task.Undelegate pa source) granule is = cc
task_granule g task.Unknown granule is = absurd cc
task_granule g (task.Look pa space) granule is = cc

-- an entry of the call on lock block n
abbrev on_block_of : SetupData → ℕ → ℕ → ℕ → Entry → Bool
on_block_of s c k n e = is_by c k e && is_on_block s n e

alone_of : (s : Scene) (before after : List Entry) (e : Entry) (c k n : ℕ) (a : AgentData) → HoldsIn a.geometry s → slice_get s.callers c ≡ Some (caller.Agent a)
    → UnderWay a.geometry c k a (on_block_of a.geometry.setup c k n) → s.history ≡ before ++ e ∷ after → is_by c k e ≡ true → All (λ x. is_on_block a.geometry.setup n x ≡ true → is_by c k x ≡ true) after
alone_of s before after e c k n a stands at way parts by =
    let g = a.geometry in
    let on = (and_parts (is_by c k way.entry) (is_on_block g.setup n way.entry) way.passes).1 in
    let granule = task_granule g way.task (granule_in way.entry) way.granule in
    let number : lock_number g.setup (address_of way.task) ≡ n =
    sym (task_lock g way.task way.acts) ∙ ap (lock_of g.setup) (sym granule) ∙ on_number g.setup n way.entry on in
    let inside = inside_by g c (length a.answers) a.stage way.task (on_block_of g.setup c k n) way.some in
    let has : holds n (caller.Agent a) ≡ true = rw (inside, way.next) (eq-eqb (lock_number g.setup (address_of way.task)) n number) in
    let alone : IsAlone g.setup n c k s.history = subst (λ (m : ℕ). IsAlone g.setup n c m s.history) (sym way.number) (stands.alone c n (caller.Agent a) at has) in
    all_after (is_by c k) (λ x. is_on_block g.setup n x ≡ true → is_by c k x ≡ true) alone.before alone.since before after e (sym alone.parts ∙ parts) alone.fresh by alone.alone

pub alone_told : (g : GeometryData) (s : Scene) → HoldsIn g s → AreMade g s.callers → AreAlone g.setup (map caller_answers s.callers) s.history
alone_told g s stands made before after e c k n parts none by on =
    let one = unanswered g s.first s.callers s.history before after e c k (on_block_of g.setup c k n) stands.history made none (λ x passes. (and_parts (is_by c k x) (is_on_block g.setup n x) passes).0) (λ d j granule space gpi allowed. and_right (is_by c k (entry.Looked d j granule space gpi allowed)) false refl) parts (rw by on) in
    let is = made c (caller.Agent one.agent) one.at in
    let way = one.way in
    subst (λ (v : GeometryData). All (λ (x : Entry). is_on_block v.setup n x ≡ true → is_by c k x ≡ true) after) is.0
    (alone_of s before after e c k n one.agent (subst (λ (v : GeometryData). HoldsIn v s) (sym is.0) stands) one.at
    (subst (λ (v : GeometryData). UnderWay one.agent.geometry c k one.agent (on_block_of v.setup c k n)) (sym is.0) way) parts by)

-- ---- a refusal with the needed GPI

abbrev refuses : Gpi → Entry → Bool
refuses found (entry.Refused c k granule given) = eqb (value_of given) (value_of found)
refuses found e = false

abbrev refused_by : ℕ → ℕ → Gpi → Entry → Bool
refused_by c k found e = is_by c k e && refuses found e

-- is of a call that is answered with a worn generation
refusal_worn : (t : Task) (a : Answer) (e : Entry) (found : Gpi) → CallAllows t a e → refuses found e ≡ true → needed t ≡ Some found → (z : Size) × (value : ℕ) × (a ≡ answers.Worn z value)
refusal_worn t (answers.Worn z value) e found allows is needs = (z, value, refl)
refusal_worn t (answers.Perm other) (entry.Refused c k granule given) found allows is needs = absurd (allows.1 (needs ∙ ap Some (sym (value_one given found (eqb-true _ _ is)))))
refusal_worn t a (entry.Refused c k granule given) found allows is needs = absurd allows
refusal_worn t a e found allows is needs = absurd cc

get_after : {X : Type 0} (xs : List X) (x : X) → slice_get (xs ++ x ∷ []) (length xs) ≡ Some x
get_after [] x = refl
get_after (y ∷ xs) x = get_after xs x

worn_of : (g : GeometryData) (s : Scene) (c k : ℕ) (a : AgentData) (t : Task) (found : Gpi) → HoldsIn g s → slice_get s.callers c ≡ Some (caller.Agent a)
    → (way : UnderWay a.geometry c k a (refused_by c k found)) → way.task ≡ t → needed t ≡ Some found → (z : Size) × (value : ℕ) × IsCounted g c k t (answers.Worn z value) s.history
worn_of g s c k a t found stands at way same needs =
    let worn = refusal_worn way.task way.answer way.entry found way.allows (and_parts (is_by c k way.entry) (refuses found way.entry) way.passes).1 (ap needed same ∙ needs) in
    let given : Answer = answers.Worn worn.0 worn.1 in
    let coming : known_answers (caller.Agent a) ≡ a.answers ++ given ∷ [] = ap (λ (st : Stage). a.answers ++ coming_at st) (way.worn worn.0 worn.1 worn.2 ∙ ap stage.Releasing worn.2) in
    let there : slice_get (known_answers (caller.Agent a)) (length a.answers) ≡ Some given = ap (λ (xs : List Answer). slice_get xs (length a.answers)) coming ∙ get_after a.answers given in
    (worn.0, worn.1, subst (λ (m : ℕ). IsCounted g c m t given s.history) (sym way.number) (stands.counted c (length a.answers) (caller.Agent a) t given at (way.next ∙ ap Some same) there))

pub worn_told : (g : GeometryData) (s : Scene) (tasks : List (List Task)) → HoldsIn g s → HaveTasks tasks s.callers → AreMade g s.callers → AreWorn g tasks (map caller_answers s.callers) s.history
worn_told g s tasks stands have made before after c k granule found t parts asked none needs =
    let e = entry.Refused c k granule found in
    let one = unanswered g s.first s.callers s.history before after e c k (refused_by c k found) stands.history made none (λ x passes. (and_parts (is_by c k x) (refuses found x) passes).0) (λ d j granule space gpi allowed. and_right (is_by c k (entry.Looked d j granule space gpi allowed)) false refl) parts
    (rw (eq-eqb c c refl, eq-eqb k k refl) (eq-eqb (value_of found) (value_of found) refl)) in
    let own : slice_get one.agent.tasks k ≡ Some t = rw (have c (caller.Agent one.agent) one.at) at asked in
    let same : one.way.task ≡ t = let both : Some one.way.task ≡ Some t = sym one.way.next ∙ ap (slice_get one.agent.tasks) (sym one.way.number) ∙ own in cc in
    worn_of g s c k one.agent t found stands one.at one.way same needs
