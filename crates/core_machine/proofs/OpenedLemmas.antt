-- What is open: how a change and its third raise alter it.
use Rattle.std.proofs.Common.{◌≡◌, ◌≢◌, ℕ, zero, suc, ◌++◌, ◌∷◌, [], List, true, false, eqb, Some, set, refl, sym, ap, ◌∙◌, subst, arith, inl, inr, append-nil}
use Rattle.std.specs.Prelude.{slice_get}
use Rattle.std.specs.List.{flat_map, list_any}
use Rattle.std.proofs.lemmas.Bool.{cases_Bool, cases_eq, eq-eqb, eqb-true, ne_eqb}
use Rattle.std.proofs.lemmas.List.Concat.{flat_map-cons}
use Rattle.std.proofs.lemmas.List.Elements.{filter-append}
use Rattle.core_machine.proofs.Names.{Gpi, Entry, granule_in, State, after_entry, Caller, pairs_of, open_by}
use Rattle.core_machine.proofs.Names.entry
use Rattle.history.specs.States.{is_open, without}
use Rattle.core_machine.specs.InnerInvariant.{OpenAreHeld}
use Rattle.core_machine.proofs.ListLemmas.{get_set, get_set_here}

-- ---- the pairs of one granule

pairs_cons : (granule : ℕ) (y : Caller) (callers : List Caller) → pairs_of granule (flat_map open_by (y ∷ callers)) ≡ pairs_of granule (open_by y) ++ pairs_of granule (flat_map open_by callers)
pairs_cons granule y callers = ap (pairs_of granule) (flat_map-cons open_by y callers) ∙ filter-append (λ pair. eqb pair.0 granule) (open_by y) (flat_map open_by callers)

pairs_set : (granule : ℕ) (callers : List Caller) (c : ℕ) (a x : Caller) → slice_get callers c ≡ Some a → pairs_of granule (open_by x) ≡ pairs_of granule (open_by a)
    → pairs_of granule (flat_map open_by (set callers c x)) ≡ pairs_of granule (flat_map open_by callers)
pairs_set granule [] c a x at same = absurd cc
pairs_set granule (y ∷ callers) zero a x at same =
    let here : a ≡ y = cc in
    pairs_cons granule x callers ∙ ap (λ (pairs : List (ℕ × Gpi)). pairs ++ pairs_of granule (flat_map open_by callers)) (same ∙ ap (λ (z : Caller). pairs_of granule (open_by z)) here) ∙ sym (pairs_cons granule y callers)
pairs_set granule (y ∷ callers) (suc c) a x at same =
    pairs_cons granule y (set callers c x) ∙ ap (λ (pairs : List (ℕ × Gpi)). pairs_of granule (open_by y) ++ pairs) (pairs_set granule callers c a x at same) ∙ sym (pairs_cons granule y callers)

pairs_none : (granule : ℕ) (callers : List Caller) → ((d : ℕ) (y : Caller) → slice_get callers d ≡ Some y → pairs_of granule (open_by y) ≡ []) → pairs_of granule (flat_map open_by callers) ≡ []
pairs_none granule [] none = refl
pairs_none granule (y ∷ callers) none =
    pairs_cons granule y callers ∙ rw (none 0 y refl) (pairs_none granule callers (λ d z there. none (suc d) z there))

-- where the others hold none of it open
pairs_here : (granule : ℕ) (callers : List Caller) (c : ℕ) (a : Caller) → slice_get callers c ≡ Some a → ((d : ℕ) (y : Caller) → d ≢ c → slice_get callers d ≡ Some y → pairs_of granule (open_by y) ≡ [])
    → pairs_of granule (flat_map open_by callers) ≡ pairs_of granule (open_by a)
pairs_here granule [] c a at others = absurd cc
pairs_here granule (y ∷ callers) zero a at others =
    let here : y ≡ a = cc in
    pairs_cons granule y callers
    ∙ rw (pairs_none granule callers (λ d z there. others (suc d) z (λ e. omega (arith, e)) there), here) (append-nil (pairs_of granule (open_by a)))
pairs_here granule (y ∷ callers) (suc c) a at others =
    pairs_cons granule y callers
    ∙ rw (others 0 y (λ e. omega (arith, e)) refl) (pairs_here granule callers c a at (λ d z apart there. others (suc d) z (λ e. apart (omega (arith, e))) there))

pairs_there : (granule : ℕ) (callers : List Caller) (c : ℕ) (a x : Caller) → slice_get callers c ≡ Some a → ((d : ℕ) (y : Caller) → d ≢ c → slice_get callers d ≡ Some y → pairs_of granule (open_by y) ≡ [])
    → pairs_of granule (flat_map open_by (set callers c x)) ≡ pairs_of granule (open_by x)
pairs_there granule callers c a x at others =
    pairs_here granule (set callers c x) c x (get_set_here callers c a x at)
    (λ d y apart there. elim (get_set callers c d x y there) [ inl here ↦ absurd (apart here.0) | inr away ↦ others d y apart away.1 ])

-- ---- what a step does

pub opened_stays : (opened : List (ℕ × Gpi)) (callers : List Caller) (c : ℕ) (a x : Caller) → slice_get callers c ≡ Some a → OpenAreHeld opened callers → open_by x ≡ open_by a → OpenAreHeld opened (set callers c x)
opened_stays opened callers c a x at held own granule = held granule ∙ sym (pairs_set granule callers c a x at (ap (pairs_of granule) own))

-- taking the pairs of a granule away
without_own : (granule : ℕ) (pairs : List (ℕ × Gpi)) → pairs_of granule (without granule pairs) ≡ []
without_own granule [] = refl
without_own granule (p ∷ pairs) =
    elim (cases_Bool (eqb p.0 granule)) [ inl here ↦ rw here (without_own granule pairs) | inr away ↦ rw (away, away) (without_own granule pairs) ]

without_other : (granule other : ℕ) (pairs : List (ℕ × Gpi)) → granule ≢ other → pairs_of other (without granule pairs) ≡ pairs_of other pairs
without_other granule other [] apart = refl
without_other granule other (p ∷ pairs) apart =
    elim (cases_Bool (eqb p.0 granule)) [
      | inl here ↦ rw (here, ne_eqb p.0 other (λ same. apart (sym (eqb-true _ _ here) ∙ same))) (without_other granule other pairs apart)
      | inr away ↦ rw away (elim (cases_Bool (eqb p.0 other)) [ inl it ↦ rw it (ap (λ (rest : List (ℕ × Gpi)). p ∷ rest) (without_other granule other pairs apart)) | inr not_it ↦ rw not_it (without_other granule other pairs apart) ])
    ]

-- what an entry does to the pairs of its granule, and that it leaves those of others
abbrev pub opened_after : Entry → List (ℕ × Gpi) → List (ℕ × Gpi)
opened_after e pairs = (after_entry (record { map = []; opened = pairs }) e).opened

pairs_own : (e : Entry) (s : State) (pairs : List (ℕ × Gpi)) → pairs_of (granule_in e) s.opened ≡ pairs_of (granule_in e) pairs → pairs_of (granule_in e) (after_entry s e).opened ≡ pairs_of (granule_in e) (opened_after e pairs)
pairs_own (entry.Changed c k granule from to) s pairs same =
    filter-append (λ pair. eqb pair.0 granule) s.opened ((granule, from) ∷ []) ∙ ap (λ (xs : List (ℕ × Gpi)). xs ++ pairs_of granule ((granule, from) ∷ [])) same ∙ sym (filter-append (λ pair. eqb pair.0 granule) pairs ((granule, from) ∷ []))
pairs_own (entry.Settled c k granule) s pairs same = without_own granule s.opened ∙ sym (without_own granule pairs)
pairs_own (entry.Refused c k granule found) s pairs same = same
pairs_own (entry.Looked c k granule space gpi allowed) s pairs same = same

pairs_other : (e : Entry) (s : State) (other : ℕ) → granule_in e ≢ other → pairs_of other (after_entry s e).opened ≡ pairs_of other s.opened
pairs_other (entry.Changed c k granule from to) s other apart =
    filter-append (λ pair. eqb pair.0 other) s.opened ((granule, from) ∷ []) ∙ rw (ne_eqb granule other apart) (append-nil (pairs_of other s.opened))
pairs_other (entry.Settled c k granule) s other apart = without_other granule other s.opened apart
pairs_other (entry.Refused c k granule found) s other apart = refl
pairs_other (entry.Looked c k granule space gpi allowed) s other apart = refl

-- the pairs of a caller change as those of the state do, where the others have none of the granule
pub opened_changes : (s : State) (callers : List Caller) (c : ℕ) (a x : Caller) (e : Entry) → slice_get callers c ≡ Some a → OpenAreHeld s.opened callers → open_by x ≡ opened_after e (open_by a)
    → ((d : ℕ) (y : Caller) → d ≢ c → slice_get callers d ≡ Some y → pairs_of (granule_in e) (open_by y) ≡ []) → OpenAreHeld (after_entry s e).opened (set callers c x)
opened_changes s callers c a x e at held own others other =
    elim (cases_eq (granule_in e) other) [
      | inl same ↦
          subst (λ (n : ℕ). pairs_of n (after_entry s e).opened ≡ pairs_of n (flat_map open_by (set callers c x))) same
          (pairs_own e s (open_by a) (held (granule_in e) ∙ pairs_here (granule_in e) callers c a at others) ∙ ap (pairs_of (granule_in e)) (sym own) ∙ sym (pairs_there (granule_in e) callers c a x at others))
      | inr apart ↦
          pairs_other e s other apart ∙ held other
          ∙ sym (pairs_set other callers c a x at (ap (pairs_of other) own ∙ pairs_other e (record { map = []; opened = open_by a }) other apart))
    ]

-- ---- whether a granule is open

none_any : (granule : ℕ) (pairs : List (ℕ × Gpi)) → pairs_of granule pairs ≡ [] → list_any (λ pair. eqb pair.0 granule) pairs ≡ false
none_any granule [] none = refl
none_any granule (p ∷ pairs) none =
    elim (cases_Bool (eqb p.0 granule)) [
      | inl here ↦ absurd (let both = rw here at none in cc)
      | inr away ↦ rw away (none_any granule pairs (rw away at none))
    ]

some_any : (granule : ℕ) (pairs rest : List (ℕ × Gpi)) (p : ℕ × Gpi) → pairs_of granule pairs ≡ p ∷ rest → list_any (λ pair. eqb pair.0 granule) pairs ≡ true
some_any granule [] rest p some = absurd cc
some_any granule (q ∷ pairs) rest p some =
    elim (cases_Bool (eqb q.0 granule)) [
      | inl here ↦ rw here refl
      | inr away ↦ rw away (some_any granule pairs rest p (rw away at some))
    ]

-- a holder that holds nothing open has a closed granule, and one that stands between change and third raise an open one
pub closed_here : (s : State) (callers : List Caller) (c granule : ℕ) (a : Caller) → slice_get callers c ≡ Some a → OpenAreHeld s.opened callers
    → ((d : ℕ) (y : Caller) → d ≢ c → slice_get callers d ≡ Some y → pairs_of granule (open_by y) ≡ []) → open_by a ≡ [] → is_open s granule ≡ false
closed_here s callers c granule a at held others own =
    none_any granule s.opened (held granule ∙ pairs_here granule callers c a at others ∙ ap (pairs_of granule) own)

pub open_here : (s : State) (callers : List Caller) (c granule : ℕ) (former : Gpi) (a : Caller) → slice_get callers c ≡ Some a → OpenAreHeld s.opened callers
    → ((d : ℕ) (y : Caller) → d ≢ c → slice_get callers d ≡ Some y → pairs_of granule (open_by y) ≡ []) → open_by a ≡ (granule, former) ∷ [] → is_open s granule ≡ true
open_here s callers c granule former a at held others own =
    some_any granule s.opened [] (granule, former)
    (held granule ∙ pairs_here granule callers c a at others ∙ ap (pairs_of granule) own ∙ rw (eq-eqb granule granule refl) refl)
