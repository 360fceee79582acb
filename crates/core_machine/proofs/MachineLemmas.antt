-- Turns: what they keep.
use Rattle.std.proofs.Common.{◌≡◌, ℕ, take, map, replicate, ◌<◌, ◌++◌, ◌∷◌, [], List, zero, suc, get_or, set, ◌+◌, Option, Some, None, length, refl, sym, ap, ◌∙◌, subst, arith, append_assoc, append-nil}
use Rattle.std.specs.Prelude.{slice_get}
use Rattle.std.specs.List.{All, flat_map, range_with_len}
use Rattle.std.proofs.lemmas.List.Elements.{All-append, All-cons, All-nil}
use Rattle.std.proofs.lemmas.Option.{slice_get_within}
use Rattle.std.proofs.lemmas.List.Concat.{flat_map-cons}
use Rattle.std.proofs.lemmas.Grind.{flat_map-append}
use Rattle.std.proofs.lemmas.List.{set-get_or, length-set, replicate-append-replicate, take_more}
use Rattle.core_machine.proofs.Names.{Gpi, Act, place_in, answer_of, after_act, Entry, Caller, caller_next, caller_took, MachineData, InvariantFor, after_turn, after_turns, scene_of, trace_of, TraceEvent, history_of}
use Rattle.shared_words.specs.Acts.{said}
use Rattle.core_machine.specs.InnerCallers.{made_by, MayTake}
use Rattle.core_machine.specs.InnerMachine.{HasInvariant, KeepsInvariant, after_act_of, after_turn_of, event_of, turn_entries, turn_event, turn_event_of}
use Rattle.core_machine.proofs.LawLemmas.{one_act}
use Rattle.core_machine.specs.Scenarios.{round_turns}

-- ---- what holds along turns

-- What holds over no events, over two parts in a row, and over each act of a machine of which K holds, where the act
-- keeps K.
pub record Along (K : MachineData → Type 0) (R : MachineData → List TraceEvent → MachineData → Type 0) : Type 0 where
  pub none : (m : MachineData) → R m [] m
  pub more : (m n p : MachineData) (xs ys : List TraceEvent) → R m xs n → R n ys p → R m (xs ++ ys) p
  pub act : (m : MachineData) (c : ℕ) (a : Caller) (t : Act) → K m → slice_get m.callers c ≡ Some a → caller_next a ≡ Some t → R m (event_of m c a (Some t)) (after_act_of m c a (Some t))
  pub keeps : (m : MachineData) (c : ℕ) (a : Caller) (t : Act) → K m → slice_get m.callers c ≡ Some a → caller_next a ≡ Some t → K (after_act_of m c a (Some t))

module _ (K : MachineData → Type 0) (R : MachineData → List TraceEvent → MachineData → Type 0) (rule : Along K R) where
  act_along : (m : MachineData) (c : ℕ) (a : Caller) (o : Option Act) → K m → slice_get m.callers c ≡ Some a → caller_next a ≡ o → R m (event_of m c a o) (after_act_of m c a o) × K (after_act_of m c a o)
  act_along m c a None k at next = (rule.none m, k)
  act_along m c a (Some t) k at next = (rule.act m c a t k at next, rule.keeps m c a t k at next)

  pub turn_along : (m : MachineData) (c : ℕ) (o : Option Caller) → K m → slice_get m.callers c ≡ o → R m (turn_event_of m c o) (after_turn_of m c o) × K (after_turn_of m c o)
  turn_along m c None k at = (rule.none m, k)
  turn_along m c (Some a) k at = act_along m c a (caller_next a) k at refl

  -- over the events of turns
  pub along : (m : MachineData) (turns : List ℕ) → K m → R m (trace_of m turns) (after_turns m turns)
  along m [] k = rule.none m
  along m (c ∷ turns) k =
      let now = turn_along m c (slice_get m.callers c) k refl in
      rule.more m (after_turn m c) (after_turns (after_turn m c) turns) (turn_event m c) (trace_of (after_turn m c) turns) now.0 (along (after_turn m c) turns now.1)

-- what holds of each machine
abbrev pub Always : MachineData → Type 0
Always m = Unit {0}

-- ---- the invariant

abbrev KeepsAlong : MachineData → List TraceEvent → MachineData → Type 0
KeepsAlong m xs n = KeepsInvariant m n (history_of xs)

act_keeps : (first : List Gpi) (m : MachineData) (h : List Entry) (c : ℕ) (a : Caller) (t : Act) → InvariantFor first m h → slice_get m.callers c ≡ Some a → caller_next a ≡ Some t
    → InvariantFor first (after_act_of m c a (Some t)) (h ++ history_of (event_of m c a (Some t)))
act_keeps first m h c a t stands at next =
    let old = answer_of t m.words in
    let made = made_by c a old in
    subst (λ (es : List Entry). InvariantFor first (after_act_of m c a (Some t)) (h ++ es)) (sym (flat_map-cons (λ (e : TraceEvent). e.event.made) (record { caller = c; event = record { act = t; old = old; made = made } }) [] ∙ append-nil made))
    (one_act m.geometry (scene_of first m h) c a t stands at next).2

keeps_along : Along Always KeepsAlong
keeps_along = record {
  none = λ m first h stands. rw (append-nil h) stands;
  more = λ m n p xs ys now later first h stands.
      subst (InvariantFor first p) (append_assoc h (history_of xs) (history_of ys) ∙ ap (λ (es : List Entry). h ++ es) (sym (flat_map-append (λ (e : TraceEvent). e.event.made) xs ys)))
      (later first (h ++ history_of xs) (now first h stands));
  act = λ m c a t k at next first h stands. act_keeps first m h c a t stands at next;
  keeps = λ m c a t k at next. tt;
}

pub turn_holds : (first : List Gpi) (m : MachineData) (h : List Entry) (c : ℕ) → InvariantFor first m h → InvariantFor first (after_turn m c) (h ++ turn_entries m c)
turn_holds first m h c stands = (turn_along Always KeepsAlong keeps_along m c (slice_get m.callers c) tt refl).0 first h stands

pub turns_hold : (first : List Gpi) (m : MachineData) (h : List Entry) (turns : List ℕ) → InvariantFor first m h → InvariantFor first (after_turns m turns) (h ++ history_of (trace_of m turns))
turns_hold first m h turns stands = along Always KeepsAlong keeps_along m turns tt first h stands

-- each act keeps it
pub act_has : (m : MachineData) (c : ℕ) (a : Caller) (t : Act) → HasInvariant m → slice_get m.callers c ≡ Some a → caller_next a ≡ Some t → HasInvariant (after_act_of m c a (Some t))
act_has m c a t has at next = (has.0, has.1 ++ history_of (event_of m c a (Some t)), act_keeps has.0 m has.1 c a t has.2 at next)

-- ---- what turns leave

-- the geometry and the number of callers; and each event is one of a caller
abbrev LeavesShape : MachineData → List TraceEvent → MachineData → Type 0
LeavesShape m xs n = (n.geometry ≡ m.geometry) × (length n.callers ≡ length m.callers) × All (λ e. e.caller < length m.callers) xs

shape_along : Along Always LeavesShape
shape_along = record {
  none = λ m. (refl, refl, All-nil (λ e. e.caller < length m.callers));
  more = λ m n p xs ys now later.
      (later.0 ∙ now.0, later.1 ∙ now.1, All-append (λ e. e.caller < length m.callers) xs ys now.2 (subst (λ (k : ℕ). All (λ (e : TraceEvent). e.caller < k) ys) now.1 later.2));
  act = λ m c a t k at next.
      (refl, length-set m.callers c (caller_took a (answer_of t m.words)), All-cons (λ e. e.caller < length m.callers) _ [] (slice_get_within m.callers c a at) (All-nil (λ e. e.caller < length m.callers)));
  keeps = λ m c a t k at next. tt;
}

pub turns_shape : (m : MachineData) (turns : List ℕ) → LeavesShape m (trace_of m turns) (after_turns m turns)
turns_shape m turns = along Always LeavesShape shape_along m turns tt

-- and what no step of a caller changes
abbrev pub IsLeft : {X : Type 0} → (Caller → X) → Type 0
IsLeft f = (x : Caller) (old : ℕ) → f (caller_took x old) ≡ f x

set_leaves : {X : Type 0} (f : Caller → X) (callers : List Caller) (c : ℕ) (a x : Caller) → slice_get callers c ≡ Some a → f x ≡ f a → map f (set callers c x) ≡ map f callers
set_leaves f [] c a x at same = refl
set_leaves f (y ∷ callers) zero a x at same = let here : y ≡ a = cc in ap (λ v. v ∷ map f callers) (same ∙ ap f (sym here))
set_leaves f (y ∷ callers) (suc c) a x at same = ap (λ vs. f y ∷ vs) (set_leaves f callers c a x at same)

pub turns_leave : {X : Type 0} (f : Caller → X) (m : MachineData) (turns : List ℕ) → IsLeft f → map f (after_turns m turns).callers ≡ map f m.callers
turns_leave {X = X} f m turns left =
    along Always (λ (m : MachineData) (xs : List TraceEvent) (n : MachineData). map f n.callers ≡ map f m.callers)
    (record {
      none = λ m. refl;
      more = λ m n p xs ys now later. later ∙ now;
      act = λ m c a t k at next. set_leaves f m.callers c a (caller_took a (answer_of t m.words)) at (left a (answer_of t m.words));
      keeps = λ m c a t k at next. tt;
    }) m turns tt

-- ---- the code's turn

pub found_at : (callers : List Caller) (c : ℕ) (a : Caller) → c < length callers → a ≡ get_or callers c a → slice_get callers c ≡ Some a
found_at [] c a within here = absurd (omega arith)
found_at (x ∷ callers) zero a within here = ap Some (sym here)
found_at (x ∷ callers) (suc c) a within here = found_at callers c a (omega (arith, within)) here

pub may_act : (first : List Gpi) (h : List Entry) (m : MachineData) (c : ℕ) (a : Caller) (t : Act) → InvariantFor first m h → c < length m.callers → a ≡ get_or m.callers c a → caller_next a ≡ Some t
    → (place_in t < length m.words) × MayTake a (answer_of t m.words)
may_act first h m c a t stands within here next =
    let kept = one_act m.geometry (scene_of first m h) c a t stands (found_at m.callers c a within here) next in
    (kept.0, kept.1)

pub acted : (m : MachineData) (c : ℕ) (a x : Caller) (t : Act) (old : ℕ) (words : List ℕ) → c < length m.callers → a ≡ get_or m.callers c a → caller_next a ≡ Some t
    → old ≡ answer_of t m.words → words ≡ after_act t m.words → x ≡ caller_took a old
    → record { geometry = m.geometry; callers = set m.callers c x; words = words } ≡ after_turn m c
acted m c a x t old words within here next said after took =
    rw (found_at m.callers c a within here, next, after, took, said) refl

set_itself : (callers : List Caller) (c : ℕ) (a : Caller) → c < length callers → a ≡ get_or callers c a → set callers c a ≡ callers
set_itself callers c a within here = ap (set callers c) here ∙ set-get_or callers c a

pub kept : (m : MachineData) (c : ℕ) (a : Caller) → c < length m.callers → a ≡ get_or m.callers c a → caller_next a ≡ None
    → record { geometry = m.geometry; callers = set m.callers c a; words = m.words } ≡ after_turn m c
kept m c a within here next =
    rw (found_at m.callers c a within here, next)
    (ap (λ (callers : List Caller). record { geometry = m.geometry; callers = callers; words = m.words }) (set_itself m.callers c a within here))

-- ---- a list of turns

pub after_turns-append : (m : MachineData) (xs ys : List ℕ) → after_turns m (xs ++ ys) ≡ after_turns (after_turns m xs) ys
after_turns-append m [] ys = refl
after_turns-append m (c ∷ xs) ys = after_turns-append (after_turn m c) xs ys

-- ---- many turns

-- turns, and then more
pub turns_more : (m n : MachineData) (xs ys zs : List ℕ) → n ≡ after_turns m xs → zs ≡ xs ++ ys → after_turns n ys ≡ after_turns m zs
turns_more m n xs ys zs so parts = ap (λ (k : MachineData). after_turns k ys) so ∙ sym (ap (after_turns m) parts ∙ after_turns-append m xs ys)

pub holds_after : (m n : MachineData) (turns : List ℕ) → n ≡ after_turns m turns → ((first : List Gpi) × (h : List Entry) × InvariantFor first m h) → (first : List Gpi) × (h : List Entry) × InvariantFor first n h
holds_after m n turns so stands =
    (stands.0, stands.1 ++ history_of (trace_of m turns), subst (λ (k : MachineData). InvariantFor stands.0 k (stands.1 ++ history_of (trace_of m turns))) (sym so) (turns_hold stands.0 m stands.1 turns stands.2))

pub length_so : (m n : MachineData) (turns : List ℕ) → n ≡ after_turns m turns → length n.callers ≡ length m.callers
length_so m n turns so = ap (λ (k : MachineData). length k.callers) so ∙ (turns_shape m turns).1

pub replicate_more : (c k : ℕ) → replicate (k + 1) c ≡ replicate k c ++ c ∷ []
replicate_more c k = sym (replicate-append-replicate k 1 c)

pub range_more : {A : Type 0} (f : ℕ → List A) (a n : ℕ) → flat_map f (range_with_len a (n + 1)) ≡ flat_map f (range_with_len a n) ++ f (a + n)
range_more {A = A} f a zero =
    let start : a ≡ a + 0 = omega arith in
    flat_map-cons f a [] ∙ append-nil (f a) ∙ ap f start
range_more {A = A} f a (suc n) =
    let number : a + suc n ≡ a + 1 + n = omega arith in
    let count : suc n + 1 ≡ suc (n + 1) = omega arith in
    ap (λ (k : ℕ). flat_map f (range_with_len a k)) count
    ∙ flat_map-cons f a (range_with_len (a + 1) (n + 1))
    ∙ ap (λ (rest : List A). f a ++ rest) (range_more f (a + 1) n)
    ∙ sym (append_assoc (f a) (flat_map f (range_with_len (a + 1) n)) (f (a + 1 + n)))
    ∙ rw number (ap (λ (front : List A). front ++ f (a + 1 + n)) (sym (flat_map-cons f a (range_with_len (a + 1) n))))

pub range_front : {A : Type 0} (f : ℕ → List A) (n : ℕ) → flat_map f (range_with_len 0 (n + 1)) ≡ flat_map f (range_with_len 0 n) ++ f n
range_front {A = A} f n =
    let number : 0 + n ≡ n = omega arith in
    range_more f 0 n ∙ ap (λ (k : ℕ). flat_map f (range_with_len 0 n) ++ f k) number

pub slots_more : {X A : Type 0} (f : X → List A) (xs : List X) (i : ℕ) (d : X) → i < length xs → flat_map f (take (i + 1) xs) ≡ flat_map f (take i xs) ++ f (get_or xs i d)
slots_more f xs i d within =
    ap (flat_map f) (take_more xs i d within) ∙ flat_map-append f (take i xs) (get_or xs i d ∷ [])
    ∙ ap (λ rest. flat_map f (take i xs) ++ rest) (append-nil (f (get_or xs i d)))

-- without callers a round has no turns
no_rounds_from : (count a times : ℕ) → flat_map (λ (k : ℕ). round_turns 0 count) (range_with_len a times) ≡ []
no_rounds_from count a zero = refl
no_rounds_from count a (suc times) = flat_map-cons (λ (k : ℕ). round_turns 0 count) a (range_with_len (a + 1) times) ∙ no_rounds_from count (a + 1) times

pub no_rounds : (m : MachineData) (count times : ℕ) → length m.callers ≡ 0 → m ≡ after_turns m (flat_map (λ (k : ℕ). round_turns (length m.callers) count) (range_with_len 0 times))
no_rounds m count times none =
    sym (ap (λ (n : ℕ). after_turns m (flat_map (λ (k : ℕ). round_turns n count) (range_with_len 0 times))) none ∙ ap (after_turns m) (no_rounds_from count 0 times))
