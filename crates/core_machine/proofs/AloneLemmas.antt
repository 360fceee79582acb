-- Calls on a lock block don't mix: lists of entries.
use Rattle.std.proofs.Common.{◌≡◌, ◌≢◌, ℕ, ◌+◌, ◌/◌, ◌≤◌, ◌⊎◌, ◌++◌, ◌∷◌, [], List, Bool, true, false, ◌&&◌, eqb, length, refl, sym, ap, ◌∙◌, subst, arith, inl, inr, append_assoc, append-nil}
use Rattle.std.specs.List.{All, list_any}
use Rattle.std.proofs.lemmas.Bool.{cases_Bool, eqb-true, ne_eqb, and_parts, and_left, and_right, or_cases, or_parts, or_from, or_left, or_right}
use Rattle.std.proofs.lemmas.List.Elements.{All-nil, All-cons, All-head, All-tail, All-push, All-append}
use Rattle.std.proofs.lemmas.List.Folds.{list_any-append}
use Rattle.core_machine.proofs.Names.{Gpi, SetupData, Task, Answer, Entry, caller_in, call_in, entries_by, call_entries, answered_entries, is_by, is_on_block}
use Rattle.core_machine.proofs.Names.gpi
use Rattle.core_machine.proofs.Names.task
use Rattle.core_machine.proofs.Names.answer
use Rattle.core_machine.proofs.Names.entry
use Rattle.gpi_values.specs.declared.gpi.Space.{Space}
use Rattle.gpi_values.specs.Values.{own_of}
use Rattle.history.specs.declared.call.Access.{Access}
use Rattle.history.specs.Legality.{is_still}
use Rattle.history.specs.Calls.{look_entries}
use Rattle.core_machine.proofs.ListLemmas.{all_one}
use Rattle.core_machine.specs.Facts.{AreUndisturbed}
use Rattle.core_machine.specs.InnerInvariant.{IsAlone}

-- ---- lists in parts

not_empty : {X : Type 0} (before after : List X) (e : X) → [] ≡ before ++ e ∷ after → ⊥
not_empty [] after e parts = cc
not_empty (x ∷ before) after e parts = cc

-- the item that was added last is the one in the middle, or the last one behind it
last_split : {X : Type 0} (h : List X) (e : X) (before after : List X) (x : X) → h ++ e ∷ [] ≡ before ++ x ∷ after
    → (after ≡ []) ⊎ ((rest : List X) × (after ≡ rest ++ e ∷ []) × (h ≡ before ++ x ∷ rest))
last_split [] e [] after x parts = inl cc
last_split [] e (b ∷ before) after x parts = absurd (not_empty before after x (let rest : [] ≡ before ++ x ∷ after = cc in rest))
last_split (y ∷ h) e [] after x parts =
    let rest : after ≡ h ++ e ∷ [] = cc in
    let first : y ∷ h ≡ x ∷ h = cc in
    inr (h, rest, first)
last_split (y ∷ h) e (b ∷ before) after x parts =
    elim (last_split h e before after x (let rest : h ++ e ∷ [] ≡ before ++ x ∷ after = cc in rest)) [
      | inl none ↦ inl none
      | inr more ↦ inr (more.0, more.1, let first : y ≡ b = cc in let rest = more.2 in cc)
    ]

pub all_middle : {X : Type 0} (P : X → Type 0) (before rest : List X) (x : X) → All P (before ++ x ∷ rest) → P x
all_middle P [] rest x all = All-head P x rest all
all_middle P (b ∷ before) rest x all = all_middle P before rest x (All-tail P b (before ++ x ∷ rest) all)

-- an item behind one that passes a test stands in the second part, where none of the first passes it
stands_behind : {X : Type 0} (p : X → Bool) (P : X → Type 0) (first since before rest : List X) (x : X) → first ++ since ≡ before ++ x ∷ rest
    → list_any p first ≡ false → list_any p before ≡ true → All P since → P x
stands_behind p P [] since before rest x parts none some all = all_middle P before rest x (subst (All P) parts all)
stands_behind p P (y ∷ first) since [] rest x parts none some all = absurd (let both : false ≡ true = some in cc)
stands_behind p P (y ∷ first) since (b ∷ before) rest x parts none some all =
    let apart = or_parts (p y) (list_any p first) none in
    let same : y ≡ b = cc in
    elim (or_cases (p b) (list_any p before) some) [
      | inl here ↦ absurd (let left = apart.0 in let both : p y ≡ p b = ap p same in let never : true ≡ false = sym here ∙ sym both ∙ left in cc)
      | inr there ↦ stands_behind p P first since before rest x (let rest_so : first ++ since ≡ before ++ x ∷ rest = cc in rest_so) apart.1 there all
    ]

pub any_weaker : {X : Type 0} (p q : X → Bool) (xs : List X) → ((x : X) → p x ≡ true → q x ≡ true) → list_any p xs ≡ true → list_any q xs ≡ true
any_weaker p q [] weaker some = absurd (let both : false ≡ true = some in cc)
any_weaker p q (x ∷ xs) weaker some =
    elim (or_cases (p x) (list_any p xs) some) [
      | inl here ↦ or_left (q x) (list_any q xs) (weaker x here)
      | inr there ↦ or_right (q x) (list_any q xs) (any_weaker p q xs weaker there)
    ]

any_parts : {X : Type 0} (p : X → Bool) (xs ys : List X) → list_any p (xs ++ ys) ≡ true → (list_any p xs ≡ true) ⊎ (list_any p ys ≡ true)
any_parts p xs ys some = or_cases (list_any p xs) (list_any p ys) (sym (list_any-append p xs ys) ∙ some)

pub any_one : {X : Type 0} (p : X → Bool) (x : X) → list_any p (x ∷ []) ≡ true → p x ≡ true
any_one p x some = elim (or_cases (p x) false some) [ inl here ↦ here | inr none ↦ absurd (let both : false ≡ true = none in cc) ]

-- ---- undisturbed calls

pub undisturbed_empty : (s : SetupData) → AreUndisturbed s []
undisturbed_empty s = λ before after e c k n parts front back on. absurd (not_empty before after e parts)

-- an entry of two calls is of one
same_call : (c k d j : ℕ) (e : Entry) → is_by c k e ≡ true → is_by d j e ≡ true → (d ≡ c) × (j ≡ k)
same_call c k d j e one other =
    let first = and_parts (eqb (caller_in e) c) (eqb (call_in e) k) one in
    let second = and_parts (eqb (caller_in e) d) (eqb (call_in e) j) other in
    (sym (eqb-true (caller_in e) d second.0) ∙ eqb-true (caller_in e) c first.0, sym (eqb-true (call_in e) j second.1) ∙ eqb-true (call_in e) k first.1)

-- an entry on the block behind one of the call that is alone is of that call
alone_behind : (s : SetupData) (n c k : ℕ) (h before rest : List Entry) (x : Entry) → IsAlone s n c k h → h ≡ before ++ x ∷ rest
    → list_any (λ y. is_by c k y && is_on_block s n y) before ≡ true → is_on_block s n x ≡ true → is_by c k x ≡ true
alone_behind s n c k h before rest x alone parts front on =
    stands_behind (is_by c k) (λ (e : Entry). is_on_block s n e ≡ true → is_by c k e ≡ true) alone.before alone.since before rest x (sym alone.parts ∙ parts) alone.fresh
    (any_weaker (λ y. is_by c k y && is_on_block s n y) (is_by c k) before (λ y both. (and_parts (is_by c k y) (is_on_block s n y) both).0) front)
    alone.alone on

pub undisturbed_more : (s : SetupData) (h : List Entry) (e : Entry) (c k : ℕ) → AreUndisturbed s h → ((m : ℕ) → is_on_block s m e ≡ true → IsAlone s m c k h) → is_by c k e ≡ true → AreUndisturbed s (h ++ e ∷ [])
undisturbed_more s h e c k old alone own = λ before after x d j m parts front back on.
    elim (last_split h e before after x parts) [
      | inl none ↦ absurd (let both : false ≡ true = subst (λ (xs : List Entry). list_any (λ y. is_by d j y && is_on_block s m y) xs ≡ true) none back in cc)
      | inr more ↦
          elim (any_parts (λ y. is_by d j y && is_on_block s m y) more.0 (e ∷ []) (subst (λ (xs : List Entry). list_any (λ y. is_by d j y && is_on_block s m y) xs ≡ true) more.1 back)) [
            | inl earlier ↦ old before more.0 x d j m more.2 front earlier on
            | inr last ↦
                let both = and_parts (is_by d j e) (is_on_block s m e) (any_one (λ y. is_by d j y && is_on_block s m y) e last) in
                let whose = same_call c k d j e own both.0 in
                subst (λ (i : ℕ). is_by i j x ≡ true) (sym whose.0)
                (subst (λ (i : ℕ). is_by c i x ≡ true) (sym whose.1)
                (alone_behind s m c k h before more.0 x (alone m both.1) more.2
                (subst (λ (i : ℕ). list_any (λ y. is_by c i y && is_on_block s m y) before ≡ true) whose.1
                (subst (λ (i : ℕ). list_any (λ y. is_by i j y && is_on_block s m y) before ≡ true) whose.0 front))
                on))
          ]
    ]

-- ---- a call that is alone

alone_push : (s : SetupData) (n c k : ℕ) (h : List Entry) (e : Entry) → IsAlone s n c k h → (is_on_block s n e ≡ true → is_by c k e ≡ true) → IsAlone s n c k (h ++ e ∷ [])
alone_push s n c k h e alone own = record {
  before = alone.before;
  since = alone.since ++ e ∷ [];
  parts = ap (λ (xs : List Entry). xs ++ e ∷ []) alone.parts ∙ append_assoc alone.before alone.since (e ∷ []);
  fresh = alone.fresh;
  alone = All-push (λ (x : Entry). is_on_block s n x ≡ true → is_by c k x ≡ true) alone.since e alone.alone own;
}

pub alone_own : (s : SetupData) (n c k : ℕ) (h : List Entry) (e : Entry) → IsAlone s n c k h → is_by c k e ≡ true → IsAlone s n c k (h ++ e ∷ [])
alone_own s n c k h e alone own = alone_push s n c k h e alone (λ on. own)

pub alone_other : (s : SetupData) (n c k : ℕ) (h : List Entry) (e : Entry) → IsAlone s n c k h → is_on_block s n e ≡ false → IsAlone s n c k (h ++ e ∷ [])
alone_other s n c k h e alone off = alone_push s n c k h e alone (λ on. absurd (let both : true ≡ false = sym on ∙ off in cc))

pub alone_starts : (s : SetupData) (n c k : ℕ) (h : List Entry) → list_any (is_by c k) h ≡ false → IsAlone s n c k h
alone_starts s n c k h none = record {
  before = h;
  since = [];
  parts = sym (append-nil h);
  fresh = none;
  alone = All-nil (λ (x : Entry). is_on_block s n x ≡ true → is_by c k x ≡ true);
}

-- ---- the entries of a caller

-- the entries of call k of caller c are so numbered
abbrev pub IsNumbered : ℕ → ℕ → Entry → Type 0
IsNumbered c k e = (caller_in e ≡ c) × (call_in e ≡ k)

pub all_two : {X : Type 0} (P : X → Type 0) (x y : X) → P x → P y → All P (x ∷ y ∷ [])
all_two P x y first second = All-cons P x (y ∷ []) first (all_one P y second)

look_numbers : (c k granule : ℕ) (space : Space) (access : Access) (still : Bool) → is_still access.via ≡ still → All (IsNumbered c k) (look_entries c k granule space access)
look_numbers c k granule space access true still = rw still (All-nil (IsNumbered c k))
look_numbers c k granule space access false still = rw still (all_one (IsNumbered c k) (entry.Looked c k granule space access.gpi access.allowed) (refl, refl))

change_numbers : (c k granule : ℕ) (from to : Gpi) → All (IsNumbered c k) (entry.Changed c k granule from to ∷ entry.Settled c k granule ∷ [])
change_numbers c k granule from to = all_two (IsNumbered c k) (entry.Changed c k granule from to) (entry.Settled c k granule) (refl, refl) (refl, refl)

pub call_numbers : (bytes c k : ℕ) (t : Task) (a : Answer) → All (IsNumbered c k) (call_entries bytes c k t a)
call_numbers bytes c k (task.Delegate pa source) (answer.Perm found) = all_one (IsNumbered c k) (entry.Refused c k (pa / bytes) found) (refl, refl)
call_numbers bytes c k (task.Delegate pa source) (answer.Worn size value) = all_one (IsNumbered c k) (entry.Refused c k (pa / bytes) gpi.NonSecure) (refl, refl)
call_numbers bytes c k (task.Delegate pa source) (answer.Done generations) = change_numbers c k (pa / bytes) gpi.NonSecure (own_of source)
call_numbers bytes c k (task.Undelegate pa source) (answer.Perm found) = all_one (IsNumbered c k) (entry.Refused c k (pa / bytes) found) (refl, refl)
call_numbers bytes c k (task.Undelegate pa source) (answer.Worn size value) = all_one (IsNumbered c k) (entry.Refused c k (pa / bytes) (own_of source)) (refl, refl)
call_numbers bytes c k (task.Undelegate pa source) (answer.Done generations) =
    All-append (IsNumbered c k) (entry.Changed c k (pa / bytes) (own_of source) gpi.NoAccess ∷ entry.Settled c k (pa / bytes) ∷ [])
    (entry.Changed c k (pa / bytes) gpi.NoAccess gpi.NonSecure ∷ entry.Settled c k (pa / bytes) ∷ [])
    (change_numbers c k (pa / bytes) (own_of source) gpi.NoAccess) (change_numbers c k (pa / bytes) gpi.NoAccess gpi.NonSecure)
call_numbers bytes c k (task.Look pa space) (answer.Seen access) = look_numbers c k (pa / bytes) space access (is_still access.via) refl
call_numbers bytes c k t a = All-nil (IsNumbered c k)

-- none is of a call with another number
other_number : (c k n : ℕ) (es : List Entry) → k ≢ n → All (IsNumbered c k) es → list_any (is_by c n) es ≡ false
other_number c k n [] apart all = refl
other_number c k n (e ∷ es) apart all =
    let here = All-head (IsNumbered c k) e es all in
    or_from (is_by c n e) (list_any (is_by c n) es)
    (and_right (eqb (caller_in e) c) (eqb (call_in e) n) (ne_eqb (call_in e) n (λ same. apart (sym here.1 ∙ same))))
    (other_number c k n es apart (All-tail (IsNumbered c k) e es all))

pub later_number : (bytes c k n : ℕ) (tasks : List Task) (answers : List Answer) → k + length answers ≤ n → list_any (is_by c n) (answered_entries bytes c k tasks answers) ≡ false
later_number bytes c k n [] answers low = refl
later_number bytes c k n (t ∷ tasks) [] low = refl
later_number bytes c k n (t ∷ tasks) (a ∷ answers) low =
    list_any-append (is_by c n) (call_entries bytes c k t a) (answered_entries bytes c (k + 1) tasks answers)
    ∙ or_from (list_any (is_by c n) (call_entries bytes c k t a)) (list_any (is_by c n) (answered_entries bytes c (k + 1) tasks answers))
    (other_number c k n (call_entries bytes c k t a) (λ same. omega (arith, same, low)) (call_numbers bytes c k t a))
    (later_number bytes c (k + 1) n tasks answers (omega (arith, low)))

pub own_numbers : (bytes c k : ℕ) (tasks : List Task) (answers : List Answer) → list_any (is_by c (k + length answers)) (answered_entries bytes c k tasks answers) ≡ false
own_numbers bytes c k tasks answers = later_number bytes c k (k + length answers) tasks answers (omega arith)

pub own_first : (c : ℕ) (e : Entry) (h : List Entry) → eqb (caller_in e) c ≡ true → entries_by c (e ∷ h) ≡ e ∷ entries_by c h
own_first c e h own = rw own refl

pub no_own : (c k : ℕ) (h : List Entry) → list_any (is_by c k) (entries_by c h) ≡ false → list_any (is_by c k) h ≡ false
no_own c k [] none = refl
no_own c k (e ∷ h) none =
    elim (cases_Bool (eqb (caller_in e) c)) [
      | inl own ↦
          let parts = or_parts (is_by c k e) (list_any (is_by c k) (entries_by c h)) (subst (λ (es : List Entry). list_any (is_by c k) es ≡ false) (own_first c e h own) none) in
          or_from (is_by c k e) (list_any (is_by c k) h) parts.0 (no_own c k h parts.1)
      | inr other ↦
          or_from (is_by c k e) (list_any (is_by c k) h) (and_left (eqb (caller_in e) c) (eqb (call_in e) k) other) (no_own c k h (rw other at none))
    ]
