-- The GPIs of a granule by the changes of a region around it: each is what a change gave.
use Rattle.std.proofs.Common.{◌≡◌, ℕ, zero, suc, ◌+◌, ◌-◌, ◌≤◌, ◌++◌, ◌∷◌, [], List, set, Bool, true, false, cond, eqb, Some, refl, sym, ap, ◌∙◌, subst, arith, inl, inr}
use Rattle.std.specs.Prelude.{slice_get}
use Rattle.std.specs.List.{count_by}
use Rattle.std.proofs.lemmas.Bool.{cases_Bool, eqb-true, eq-eqb}
use Rattle.std.proofs.lemmas.List.Sums.{sum_by-cons}
use Rattle.std.proofs.lemmas.Option.{slice_get_within}
use Rattle.gpi_values.specs.declared.gpi.Gpi.{Gpi}
use Rattle.gpt_descriptors.specs.declared.size.Size.{Size}
use Rattle.history.specs.declared.entry.Entry.{Entry}
use Rattle.history.specs.declared.entry.Entry.TheVariants as entry
use Rattle.history.specs.States.{State, start, after_entry, state_after}
use Rattle.history.specs.Counts.{region_of}
use Rattle.history.specs.Values.{SawAmong, is_change_around, value_after, values_after}
use Rattle.history.specs.Stamps.{gpi_after, Gave, SawBetween}
use Rattle.history.proofs.ListLemmas.{get_set_same, get_set_other}
use Rattle.history.proofs.StampLemmas.{gave_within}

-- ---- one entry

value_in_map : (s : State) (granule : ℕ) (gpi : Gpi) (e : Entry) → slice_get s.map granule ≡ Some gpi → slice_get (after_entry s e).map granule ≡ Some (value_after granule gpi e)
value_in_map s granule gpi (entry.Refused c k g found) at = at
value_in_map s granule gpi (entry.Changed c k g from to) at =
    elim (cases_Bool (eqb g granule)) [
      | inl same ↦
          rw same
          (subst (λ (n : ℕ). slice_get (set s.map n to) granule ≡ Some to) (sym (eqb-true g granule same)) (get_set_same s.map granule to (slice_get_within s.map granule gpi at)))
      | inr other ↦
          rw other
          (get_set_other s.map g granule to (λ same. let both : true ≡ false = sym (eq-eqb g granule (sym same)) ∙ other in cc) ∙ at)
    ]
value_in_map s granule gpi (entry.Settled c k g) at = at
value_in_map s granule gpi (entry.Looked c k g space seen allowed) at = at

-- an entry that changes nothing in the region leaves the granule
value_stays : (bytes : ℕ) (z : Size) (granule : ℕ) (gpi : Gpi) (e : Entry) → is_change_around bytes z granule e ≡ false → value_after granule gpi e ≡ gpi
value_stays bytes z granule gpi (entry.Refused c k g found) other = refl
value_stays bytes z granule gpi (entry.Changed c k g from to) other =
    elim (cases_Bool (eqb g granule)) [
      | inl same ↦
          absurd (let both : true ≡ false = sym (eq-eqb (region_of bytes z g) (region_of bytes z granule) (ap (λ (n : ℕ). region_of bytes z n) (eqb-true g granule same))) ∙ other in cc)
      | inr apart ↦ rw apart refl
    ]
value_stays bytes z granule gpi (entry.Settled c k g) other = refl
value_stays bytes z granule gpi (entry.Looked c k g space seen allowed) other = refl

count_first : (bytes : ℕ) (z : Size) (granule : ℕ) (b : Bool) (e : Entry) (h : List Entry) → is_change_around bytes z granule e ≡ b
    → count_by (is_change_around bytes z granule) (e ∷ h) ≡ cond b 1 0 + count_by (is_change_around bytes z granule) h
count_first bytes z granule b e h is = sum_by-cons (λ x. cond (is_change_around bytes z granule x) 1 0) e h ∙ rw is refl

-- ---- all entries

-- after some first entries with this number of changes of the region, the granule has this GPI
record HadIn (bytes : ℕ) (z : Size) (granule : ℕ) (s : State) (changes : ℕ) (gpi : Gpi) (h : List Entry) : Type 0 where
  before : List Entry
  after : List Entry
  parts : h ≡ before ++ after
  counted : count_by (is_change_around bytes z granule) before ≡ changes
  gives : slice_get (state_after s before).map granule ≡ Some gpi

had_first : (bytes : ℕ) (z : Size) (granule : ℕ) (s : State) (gpi : Gpi) (h : List Entry) → slice_get s.map granule ≡ Some gpi → HadIn bytes z granule s 0 gpi h
had_first bytes z granule s gpi h at = record { before = []; after = h; parts = refl; counted = refl; gives = at }

had_more : (bytes : ℕ) (z : Size) (granule : ℕ) (s : State) (b : Bool) (changes : ℕ) (gpi : Gpi) (e : Entry) (h : List Entry) → is_change_around bytes z granule e ≡ b
    → HadIn bytes z granule (after_entry s e) changes gpi h → HadIn bytes z granule s (cond b 1 0 + changes) gpi (e ∷ h)
had_more bytes z granule s b changes gpi e h is had = record {
  before = e ∷ had.before;
  after = had.after;
  parts = ap (λ (l : List Entry). e ∷ l) had.parts;
  counted = count_first bytes z granule b e had.before is ∙ ap (λ (n : ℕ). cond b 1 0 + n) had.counted;
  gives = had.gives;
}

value_had : (bytes : ℕ) (z : Size) (granule : ℕ) (s : State) (gpi : Gpi) (h : List Entry) (changes : ℕ) (value : Gpi) → slice_get s.map granule ≡ Some gpi
    → slice_get (values_after bytes z granule gpi h) changes ≡ Some value → HadIn bytes z granule s changes value h
value_had bytes z granule s gpi [] zero value at there = had_first bytes z granule s value [] (at ∙ there)
value_had bytes z granule s gpi [] (suc changes) value at there = absurd cc
value_had bytes z granule s gpi (e ∷ h) zero value at there =
    elim (cases_Bool (is_change_around bytes z granule e)) [
      | inl changed ↦ had_first bytes z granule s value (e ∷ h) (at ∙ (rw changed at there))
      | inr other ↦
          had_more bytes z granule s false zero value e h other
          (value_had bytes z granule (after_entry s e) (value_after granule gpi e) h zero value (value_in_map s granule gpi e at) (rw other at there))
    ]
value_had bytes z granule s gpi (e ∷ h) (suc changes) value at there =
    elim (cases_Bool (is_change_around bytes z granule e)) [
      | inl changed ↦
          subst (λ (n : ℕ). HadIn bytes z granule s n value (e ∷ h)) (omega arith)
          (had_more bytes z granule s true changes value e h changed
          (value_had bytes z granule (after_entry s e) (value_after granule gpi e) h changes value (value_in_map s granule gpi e at) (rw changed at there)))
      | inr other ↦
          subst (λ (n : ℕ). HadIn bytes z granule s n value (e ∷ h)) (omega arith)
          (had_more bytes z granule s false (suc changes) value e h other
          (value_had bytes z granule (after_entry s e) (value_after granule gpi e) h (suc changes) value (value_in_map s granule gpi e at) (rw other at there)))
    ]

first_value : (bytes : ℕ) (z : Size) (granule : ℕ) (gpi : Gpi) (h : List Entry) → slice_get (values_after bytes z granule gpi h) 0 ≡ Some gpi
first_value bytes z granule gpi [] = refl
first_value bytes z granule gpi (e ∷ h) =
    elim (cases_Bool (is_change_around bytes z granule e)) [
      | inl changed ↦ rw changed refl
      | inr other ↦ rw other (first_value bytes z granule (value_after granule gpi e) h ∙ ap Some (value_stays bytes z granule gpi e other))
    ]

had_value : (bytes : ℕ) (z : Size) (granule : ℕ) (s : State) (gpi : Gpi) (before after : List Entry) (value : Gpi) → slice_get s.map granule ≡ Some gpi → slice_get (state_after s before).map granule ≡ Some value
    → slice_get (values_after bytes z granule gpi (before ++ after)) (count_by (is_change_around bytes z granule) before) ≡ Some value
had_value bytes z granule s gpi [] after value at gives = first_value bytes z granule gpi after ∙ sym at ∙ gives
had_value bytes z granule s gpi (e ∷ before) after value at gives =
    let rest = had_value bytes z granule (after_entry s e) (value_after granule gpi e) before after value (value_in_map s granule gpi e at) gives in
    elim (cases_Bool (is_change_around bytes z granule e)) [
      | inl changed ↦
          let first = count_first bytes z granule true e before changed in
          let next : count_by (is_change_around bytes z granule) (e ∷ before) ≡ suc (count_by (is_change_around bytes z granule) before) = omega arith in
          subst (λ (n : ℕ). slice_get (values_after bytes z granule gpi (e ∷ (before ++ after))) n ≡ Some value) (sym next) (rw changed rest)
      | inr other ↦
          let first = count_first bytes z granule false e before other in
          let same : count_by (is_change_around bytes z granule) (e ∷ before) ≡ count_by (is_change_around bytes z granule) before = omega arith in
          subst (λ (n : ℕ). slice_get (values_after bytes z granule gpi (e ∷ (before ++ after))) n ≡ Some value) (sym same) (rw other rest)
    ]

-- ---- values and changes

pub value_gave : (map : List Gpi) (first bytes granule : ℕ) (z : Size) (gpi : Gpi) (h : List Entry) (changes : ℕ) (value : Gpi) → gpi_after map [] granule ≡ Some gpi
    → slice_get (values_after bytes z granule gpi h) changes ≡ Some value → Gave map first bytes granule z (first + changes) value h
value_gave map first bytes granule z gpi h changes value at there =
    let had = value_had bytes z granule (start map) gpi h changes value at there in
    record { before = had.before; after = had.after; parts = had.parts; counted = ap (λ (n : ℕ). first + n) had.counted; gives = had.gives }

pub gave_value : (map : List Gpi) (first bytes granule : ℕ) (z : Size) (gpi : Gpi) (h : List Entry) (changes : ℕ) (value : Gpi) → gpi_after map [] granule ≡ Some gpi
    → Gave map first bytes granule z (first + changes) value h → slice_get (values_after bytes z granule gpi h) changes ≡ Some value
gave_value map first bytes granule z gpi h changes value at gave =
    let counted = gave.counted in
    let same : count_by (is_change_around bytes z granule) gave.before ≡ changes = omega arith in
    subst (λ (l : List Entry). slice_get (values_after bytes z granule gpi l) changes ≡ Some value) (sym gave.parts)
    (subst (λ (n : ℕ). slice_get (values_after bytes z granule gpi (gave.before ++ gave.after)) n ≡ Some value) same
    (had_value bytes z granule (start map) gpi gave.before gave.after value at gave.gives))

pub among_between : (map : List Gpi) (first bytes granule : ℕ) (z : Size) (gpi : Gpi) (h : List Entry) (lo hi : ℕ) (value : Gpi) → gpi_after map [] granule ≡ Some gpi
    → SawAmong (values_after bytes z granule gpi h) first lo hi value → SawBetween map first bytes granule z lo hi value h
among_between map first bytes granule z gpi h lo hi value at saw =
    record { number = first + saw.changes; low = saw.low; high = saw.high; gave = value_gave map first bytes granule z gpi h saw.changes value at saw.gave }

pub between_among : (map : List Gpi) (first bytes granule : ℕ) (z : Size) (gpi : Gpi) (h : List Entry) (lo hi : ℕ) (value : Gpi) → gpi_after map [] granule ≡ Some gpi
    → SawBetween map first bytes granule z lo hi value h → SawAmong (values_after bytes z granule gpi h) first lo hi value
between_among map first bytes granule z gpi h lo hi value at saw =
    let least : first ≤ saw.number = (gave_within map first bytes granule z saw.number value h saw.gave).0 in
    let number : first + (saw.number - first) ≡ saw.number = omega arith in
    let low = saw.low in
    let high = saw.high in
    record {
      changes = saw.number - first;
      low = omega arith;
      high = omega arith;
      gave = gave_value map first bytes granule z gpi h (saw.number - first) value at (subst (λ (n : ℕ). Gave map first bytes granule z n value h) (sym number) saw.gave);
    }
