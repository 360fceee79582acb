-- States and legal histories, entry by entry.
use Rattle.std.proofs.Common.{◌≡◌, ℕ, ◌++◌, ◌∷◌, [], List, Bool, true, false, not, ◌&&◌, eqb, Some, refl, ap, ◌∙◌, inl, inr}
use Rattle.std.specs.Prelude.{slice_get, Contains}
use Rattle.std.specs.List.{list_any}
use Rattle.std.proofs.lemmas.Bool.{cases_Bool, eqb-true, eq-eqb}
use Rattle.std.proofs.lemmas.List.Folds.{list_any-append, list_any_at}
use Rattle.std.proofs.lemmas.Map.Views.{any-filter_same}
use Rattle.gpi_values.specs.declared.gpi.Gpi.{Gpi}
use Rattle.gpi_values.specs.declared.gpi.Space.{Space}
use Rattle.gpi_values.specs.Values.{permits_of}
use Rattle.history.specs.declared.call.Task.{Task}
use Rattle.history.specs.declared.call.Answer.{Answer}
use Rattle.history.specs.declared.entry.Entry.{Entry}
use Rattle.history.specs.declared.entry.Entry.TheVariants as entry
use Rattle.history.specs.Entries.{changes_granule}
use Rattle.history.specs.States.{State, is_open, without, after_entry, state_after}
use Rattle.history.specs.Calls.{IsLegalFor, IsLegalHistory}

-- ---- two lists of entries in a row

pub state_after-append : (s : State) (xs ys : List Entry) → state_after s (xs ++ ys) ≡ state_after (state_after s xs) ys
state_after-append s [] ys = refl
state_after-append s (x ∷ xs) ys = state_after-append (after_entry s x) xs ys

pub legal_parts : (bytes : ℕ) (tasks : List (List Task)) (answers : List (List Answer)) (s : State) (xs ys : List Entry) → IsLegalHistory bytes tasks answers s (xs ++ ys)
    → IsLegalHistory bytes tasks answers s xs × IsLegalHistory bytes tasks answers (state_after s xs) ys
legal_parts bytes tasks answers s [] ys legal = (tt, legal)
legal_parts bytes tasks answers s (x ∷ xs) ys legal =
    let rest = legal_parts bytes tasks answers (after_entry s x) xs ys legal.1 in
    ((legal.0, rest.0), rest.1)

pub legal_joined : (bytes : ℕ) (tasks : List (List Task)) (answers : List (List Answer)) (s : State) (xs ys : List Entry) → IsLegalHistory bytes tasks answers s xs
    → IsLegalHistory bytes tasks answers (state_after s xs) ys → IsLegalHistory bytes tasks answers s (xs ++ ys)
legal_joined bytes tasks answers s [] ys front back = back
legal_joined bytes tasks answers s (x ∷ xs) ys front back = (front.0, legal_joined bytes tasks answers (after_entry s x) xs ys front.1 back)

-- ---- open granules

open_without : (granule other : ℕ) (pairs : List (ℕ × Gpi)) → list_any (λ pair. eqb pair.0 granule) (without other pairs) ≡ (not (eqb granule other) && list_any (λ pair. eqb pair.0 granule) pairs)
open_without granule other pairs =
    any-filter_same (λ pair. eqb pair.0 granule) (λ pair. not (eqb pair.0 other)) (not (eqb granule other))
    (λ pair same. ap (λ (n : ℕ). not (eqb n other)) (eqb-true pair.0 granule same)) pairs

-- a completion closes its granule
pub closed_by_completion : (s : State) (c k granule : ℕ) → is_open (after_entry s (entry.Settled c k granule)) granule ≡ false
closed_by_completion s c k granule = open_without granule granule s.opened ∙ rw (eq-eqb granule granule refl) refl

-- a closed granule stays closed up to its next change
pub closed_by_other : (s : State) (granule : ℕ) (e : Entry) → is_open s granule ≡ false → changes_granule granule e ≡ false → is_open (after_entry s e) granule ≡ false
closed_by_other s granule (entry.Refused c k g found) closed other = closed
closed_by_other s granule (entry.Changed c k g from to) closed other =
    list_any-append (λ pair. eqb pair.0 granule) s.opened ((g, from) ∷ []) ∙ rw (closed, other) refl
closed_by_other s granule (entry.Settled c k g) closed other =
    open_without granule g s.opened ∙ rw closed (elim (cases_Bool (not (eqb granule g))) [ inl e ↦ rw e refl | inr e ↦ rw e refl ])
closed_by_other s granule (entry.Looked c k g space gpi allowed) closed other = closed

pub closed_through : (s : State) (granule : ℕ) (h : List Entry) → is_open s granule ≡ false → list_any (changes_granule granule) h ≡ false → is_open (state_after s h) granule ≡ false
closed_through s granule [] closed none = closed
closed_through s granule (e ∷ h) closed none =
    elim (cases_Bool (changes_granule granule e)) [
      | inl changed ↦ absurd (let both : true ≡ false = rw changed at none in cc)
      | inr other ↦ closed_through (after_entry s e) granule h (closed_by_other s granule e closed other) (rw other at none)
    ]

-- an open pair is found
former_is_open : (s : State) (granule : ℕ) (gpi : Gpi) → Contains s.opened (granule, gpi) → is_open s granule ≡ true
former_is_open s granule gpi has =
    list_any_at (λ pair. eqb pair.0 granule) s.opened has.0 (granule, gpi) has.1
    (eq-eqb _ _ (ap (λ (pair : ℕ × Gpi). pair.0) has.2))

-- what an access sees of a granule that isn't open
pub closed_look : (bytes : ℕ) (tasks : List (List Task)) (answers : List (List Answer)) (s : State) (c k granule : ℕ) (space : Space) (gpi : Gpi) (allowed : Bool)
    → IsLegalFor bytes tasks answers s (entry.Looked c k granule space gpi allowed) → is_open s granule ≡ false
    → (slice_get s.map granule ≡ Some gpi) × (allowed ≡ permits_of gpi space)
closed_look bytes tasks answers s c k granule space gpi allowed legal closed = (
  elim legal.legal.state [
    | inl given ↦ given
    | inr former ↦ absurd (let found = former_is_open s granule gpi former in cc)
  ],
  legal.legal.call.1,
)

pub final_look : (bytes : ℕ) (tasks : List (List Task)) (answers : List (List Answer)) (s : State) (before between after : List Entry) (c k granule other call : ℕ) (space : Space) (gpi : Gpi) (allowed : Bool)
    → IsLegalHistory bytes tasks answers s (before ++ (entry.Settled c k granule ∷ (between ++ entry.Looked other call granule space gpi allowed ∷ after)))
    → list_any (changes_granule granule) between ≡ false
    → (slice_get (state_after s (before ++ entry.Settled c k granule ∷ between)).map granule ≡ Some gpi) × (allowed ≡ permits_of gpi space)
final_look bytes tasks answers s before between after c k granule other call space gpi allowed legal none =
    let completed : State = after_entry (state_after s before) (entry.Settled c k granule) in
    let from_completion = (legal_parts bytes tasks answers s before (entry.Settled c k granule ∷ (between ++ entry.Looked other call granule space gpi allowed ∷ after)) legal).1 in
    let from_look = (legal_parts bytes tasks answers completed between (entry.Looked other call granule space gpi allowed ∷ after) from_completion.1).1 in
    let closed = closed_through completed granule between (closed_by_completion (state_after s before) c k granule) none in
    rw (state_after-append s before (entry.Settled c k granule ∷ between))
    (closed_look bytes tasks answers (state_after completed between) other call granule space gpi allowed from_look.0 closed)
