-- The history: what the entries of an act add to it.
use Rattle.std.proofs.Common.{◌≡◌, ◌≢◌, ℕ, suc, ◌+◌, ◌<◌, ◌⊎◌, ◌++◌, ◌∷◌, [], List, Bool, true, false, eqb, Option, Some, None, length, set, refl, sym, ap, ◌∙◌, subst, arith, inl, inr, append_assoc, append-nil, drop}
use Rattle.std.specs.Prelude.{slice_get, if◌then◌else◌}
use Rattle.std.specs.List.{All}
use Rattle.std.proofs.lemmas.Option.{slice_get_within}
use Rattle.std.proofs.lemmas.Bool.{eq-eqb, ne_eqb}
use Rattle.std.proofs.lemmas.List.{length-set}
use Rattle.std.proofs.lemmas.List.Elements.{filter-append, All-append, All-nil, All-cons}
use Rattle.core_machine.proofs.Names.{Gpi, GeometryData, Task, Answer, Entry, caller_in, call_in, State, start, after_entry, state_after, entries_by, call_entries, answered_entries, idle_answer, idle_answers, Caller, AreAllowed, IsHistoryOf}
use Rattle.core_machine.proofs.Names.task
use Rattle.core_machine.proofs.Names.answer
use Rattle.delegate_ops.specs.Deciding.{is_unusable}
use Rattle.delegate_ops.specs.InnerAgents.{answered_first}
use Rattle.core_machine.specs.InnerCallers.{own_of}
use Rattle.core_machine.proofs.ListLemmas.{get_set}

-- ---- what an act may add: nothing, or one entry of the call under way

abbrev pub IsAdded : ℕ → ℕ → List Entry → Type 0
IsAdded c k made = (made ≡ []) ⊎ ((e : Entry) × (made ≡ e ∷ []) × (caller_in e ≡ c) × (call_in e ≡ k))

pub allowed_joined : (s : State) (xs ys : List Entry) → AreAllowed s xs → AreAllowed (state_after s xs) ys → AreAllowed s (xs ++ ys)
allowed_joined s [] ys front back = back
allowed_joined s (x ∷ xs) ys front back = (front.0, allowed_joined (after_entry s x) xs ys front.1 back)

-- ---- whose it is

added_own : (c k : ℕ) (made : List Entry) → IsAdded c k made → entries_by c made ≡ made
added_own c k made added =
    elim added [ inl none ↦ rw none refl | inr one ↦ rw (one.1, eq-eqb (caller_in one.0) c one.2) refl ]

added_other : (c d k : ℕ) (made : List Entry) → d ≢ c → IsAdded c k made → entries_by d made ≡ []
added_other c d k made apart added =
    elim added [ inl none ↦ rw none refl | inr one ↦ rw (one.1, ne_eqb (caller_in one.0) d (λ same. apart (sym same ∙ one.2))) refl ]

added_known : (c k n : ℕ) (made : List Entry) → c < n → IsAdded c k made → All (λ e. caller_in e < n) made
added_known c k n made low added =
    elim added [
      | inl none ↦ subst (All (λ e. caller_in e < n)) (sym none) (All-nil (λ e. caller_in e < n))
      | inr one ↦ subst (All (λ e. caller_in e < n)) (sym one.1) (All-cons (λ e. caller_in e < n) one.0 [] (subst (λ (m : ℕ). m < n) (sym one.2) low) (All-nil (λ e. caller_in e < n)))
    ]

-- ---- one caller steps

pub history_keeps : (first : List Gpi) (callers : List Caller) (h : List Entry) (c k : ℕ) (a x : Caller) (made : List Entry)
    → slice_get callers c ≡ Some a → IsHistoryOf first callers h → IsAdded c k made → own_of c x ≡ own_of c a ++ made → AreAllowed (state_after (start first) h) made
    → IsHistoryOf first (set callers c x) (h ++ made)
history_keeps first callers h c k a x made at tells added own allowed = record {
  allowed = allowed_joined (start first) h made tells.allowed allowed;
  own = λ d y there.
      elim (get_set callers c d x y there) [
        | inl here ↦
            filter-append (λ e. eqb (caller_in e) d) h made
            ∙ subst (λ (n : ℕ). entries_by n h ++ entries_by n made ≡ own_of n y) (sym here.0)
            (rw (added_own c k made added, tells.own c a at) (sym own ∙ ap (own_of c) here.1))
        | inr away ↦
            filter-append (λ e. eqb (caller_in e) d) h made
            ∙ (rw (added_other c d k made away.0 added) (append-nil (entries_by d h)) ∙ tells.own d y away.1)
      ];
  known = subst (λ (n : ℕ). All (λ e. caller_in e < n) (h ++ made)) (sym (length-set callers c x))
      (All-append (λ e. caller_in e < length callers) h made tells.known (added_known c k (length callers) made (slice_get_within callers c a at) added));
}

-- ---- the entries of answered calls

inval_is : (b : Bool) (a : Answer) → (if b then Some answer.Inval else None) ≡ Some a → a ≡ answer.Inval
inval_is true a is = cc
inval_is false a is = absurd cc

-- the answer of a task without acts
pub idle_is : (g : GeometryData) (t : Task) (a : Answer) → idle_answer g t ≡ Some a → (a ≡ answer.Inval) ⊎ (a ≡ answer.Unknown)
idle_is g (task.Delegate pa source) a idle = inl (inval_is (is_unusable g pa) a idle)
idle_is g (task.Undelegate pa source) a idle = inl (inval_is (is_unusable g pa) a idle)
idle_is g task.Unknown a idle = inr cc
idle_is g (task.Look pa space) a idle = inl (inval_is (is_unusable g pa) a idle)

-- it has no entries
pub idle_quiet : (g : GeometryData) (bytes c k : ℕ) (t : Task) (a : Answer) → idle_answer g t ≡ Some a → call_entries bytes c k t a ≡ []
idle_quiet g bytes c k (task.Delegate pa source) a idle = ap (call_entries bytes c k (task.Delegate pa source)) (inval_is (is_unusable g pa) a idle)
idle_quiet g bytes c k (task.Undelegate pa source) a idle = ap (call_entries bytes c k (task.Undelegate pa source)) (inval_is (is_unusable g pa) a idle)
idle_quiet g bytes c k task.Unknown a idle = refl
idle_quiet g bytes c k (task.Look pa space) a idle = ap (call_entries bytes c k (task.Look pa space)) (inval_is (is_unusable g pa) a idle)

idle_first : (g : GeometryData) (bytes c k : ℕ) (t : Task) (tasks : List Task) (o : Option Answer) → idle_answer g t ≡ o → answered_entries bytes c (k + 1) tasks (idle_answers g tasks) ≡ []
    → answered_entries bytes c k (t ∷ tasks) (answered_first o (idle_answers g tasks)) ≡ []
idle_first g bytes c k t tasks None idle rest = refl
idle_first g bytes c k t tasks (Some a) idle rest = rw (idle_quiet g bytes c k t a idle) rest

pub idle_entries : (g : GeometryData) (bytes c k : ℕ) (tasks : List Task) → answered_entries bytes c k tasks (idle_answers g tasks) ≡ []
idle_entries g bytes c k [] = refl
idle_entries g bytes c k (t ∷ tasks) = idle_first g bytes c k t tasks (idle_answer g t) refl (idle_entries g bytes c (k + 1) tasks)

-- one more call is answered, and later ones
answered_more : (bytes c k : ℕ) (tasks : List Task) (answers : List Answer) (t : Task) (a : Answer) (later : List Answer) → slice_get tasks (length answers) ≡ Some t
    → answered_entries bytes c k tasks ((answers ++ a ∷ []) ++ later)
    ≡ answered_entries bytes c k tasks answers ++ (call_entries bytes c (k + length answers) t a ++ answered_entries bytes c (k + length answers + 1) (drop (length answers + 1) tasks) later)
answered_more bytes c k [] answers t a later at = absurd cc
answered_more bytes c k (u ∷ tasks) [] t a later at =
    let same : u ≡ t = cc in
    let number : k + 0 ≡ k = omega arith in
    rw (number, same) refl
answered_more bytes c k (u ∷ tasks) (b ∷ answers) t a later at =
    let number : k + suc (length answers) ≡ k + 1 + length answers = omega arith in
    let rest : length (b ∷ answers) + 1 ≡ suc (length answers + 1) = omega arith in
    rw (number, rest, answered_more bytes c (k + 1) tasks answers t a later at)
    (sym (append_assoc (call_entries bytes c k u b) (answered_entries bytes c (k + 1) tasks answers) _))

pub answered_call : (g : GeometryData) (bytes c : ℕ) (tasks : List Task) (answers : List Answer) (t : Task) (a : Answer) → slice_get tasks (length answers) ≡ Some t
    → answered_entries bytes c 0 tasks ((answers ++ a ∷ []) ++ idle_answers g (drop (length answers + 1) tasks)) ≡ answered_entries bytes c 0 tasks answers ++ call_entries bytes c (length answers) t a
answered_call g bytes c tasks answers t a at =
    let number : 0 + length answers ≡ length answers = omega arith in
    answered_more bytes c 0 tasks answers t a (idle_answers g (drop (length answers + 1) tasks)) at
    ∙ rw (number, idle_entries g bytes c (length answers + 1) (drop (length answers + 1) tasks), append-nil (call_entries bytes c (length answers) t a)) refl
