-- Decided accesses and resident lines: what a step of one caller leaves of them.
use Rattle.std.proofs.Common.{◌≡◌, ℕ, ◌⊎◌, ◌++◌, ◌∷◌, [], List, Bool, true, false, Some, None, set, refl, sym, ap, ◌∙◌, subst, inl, inr}
use Rattle.std.specs.Prelude.{slice_get}
use Rattle.std.proofs.lemmas.Bool.{cases_Bool}
use Rattle.alias_clean.specs.Lines.{has_line}
use Rattle.core_machine.proofs.Names.{Gpi, GeometryData, Entry, Caller, Scene, map_in, number_by}
use Rattle.core_machine.proofs.Names.caller
use Rattle.gpi_values.specs.declared.gpi.Space.{Space}
use Rattle.gpi_values.specs.Values.{permits_of}
use Rattle.history.specs.Entries.{changes_granule}
use Rattle.core_machine.specs.Lines.{is_allowed_look, seen_after, is_seen_since, seen_in}
use Rattle.core_machine.specs.InnerCpuCaller.{Decision}
use Rattle.core_machine.specs.InnerCallers.{unpassed_by, uncleaned_by, decided_by, touching_by}
use Rattle.core_machine.specs.InnerWalks.{In}
use Rattle.core_machine.specs.InnerLines.{DecisionHolds, DecisionsHold, LineHolds, LinesHold, TouchesHold}
use Rattle.core_machine.proofs.ListLemmas.{get_set}
use Rattle.core_machine.proofs.WalkLemmas.{some_moves, some_here}

-- ---- what was looked at since the last change

since_append : (k : ℕ) (sp : Space) (seen : Bool) (h made : List Entry) → is_seen_since k sp seen (h ++ made) ≡ is_seen_since k sp (is_seen_since k sp seen h) made
since_append k sp seen [] made = refl
since_append k sp seen (e ∷ h) made = since_append k sp (seen_after k sp seen e) h made

-- with one entry more
pub seen_more : (k : ℕ) (sp : Space) (h : List Entry) (e : Entry) → seen_in k sp (h ++ e ∷ []) ≡ seen_after k sp (seen_in k sp h) e
seen_more k sp h e = since_append k sp false h (e ∷ [])

-- an entry that changes no granule leaves what was seen, and one that isn't an allowed look adds nothing
pub seen_stays : (k : ℕ) (sp : Space) (h : List Entry) (e : Entry) → changes_granule k e ≡ false → seen_in k sp h ≡ true → seen_in k sp (h ++ e ∷ []) ≡ true
seen_stays k sp h e unchanged seen = seen_more k sp h e ∙ rw (unchanged, seen) (elim (cases_Bool (is_allowed_look k sp e)) [ inl is ↦ rw is refl | inr other ↦ rw other refl ])

pub seen_look : (k : ℕ) (sp : Space) (h : List Entry) (e : Entry) → changes_granule k e ≡ false → is_allowed_look k sp e ≡ true → seen_in k sp (h ++ e ∷ []) ≡ true
seen_look k sp h e unchanged is = seen_more k sp h e ∙ rw (unchanged, is) refl

pub seen_changed : (k : ℕ) (sp : Space) (h : List Entry) (e : Entry) → changes_granule k e ≡ true → seen_in k sp (h ++ e ∷ []) ≡ false
seen_changed k sp h e changed = seen_more k sp h e ∙ rw changed refl

pub seen_before : (k : ℕ) (sp : Space) (h : List Entry) (e : Entry) → is_allowed_look k sp e ≡ false → seen_in k sp (h ++ e ∷ []) ≡ true → seen_in k sp h ≡ true
seen_before k sp h e other seen =
    elim (cases_Bool (changes_granule k e)) [
      | inl changed ↦ absurd (let now : seen_after k sp (seen_in k sp h) e ≡ true = sym (seen_more k sp h e) ∙ seen in let none : false ≡ true = rw changed at now in cc)
      | inr unchanged ↦ (let now : seen_after k sp (seen_in k sp h) e ≡ true = sym (seen_more k sp h e) ∙ seen in rw (unchanged, other) at now)
    ]

-- ---- a step

-- no processor with this number has decided an access
abbrev pub NoneDecided : List Caller → ℕ → Type 0
NoneDecided callers p = (d : ℕ) (y : Caller) (u : Decision) → slice_get callers d ≡ Some y → number_by y ≡ Some p → In u (decided_by y) → ⊥

-- What caller c, which was `me` and becomes x, does to decisions and lines. It leaves the map of a granule and what was
-- seen of it, or it has the former GPI in its lists. What leaves its lists is passed or cleaned. What it decides, makes
-- resident, cleans, has looked at and has touched is right.
pub record Marks (g : GeometryData) (s : Scene) (c : ℕ) (me x : Caller) (after : List ℕ) (m : ℕ → Gpi) (h : List Entry) : Type 0 where
  pub changed : (k : ℕ) → ((m k ≡ map_in s k) × ((sp : Space) → seen_in k sp s.history ≡ true → seen_in k sp h ≡ true))
      ⊎ (((p : ℕ) → In (k, map_in s k) (unpassed_by p x)) × In (k, map_in s k) (uncleaned_by x))
  pub passes : (p k : ℕ) (v : Gpi) → In (k, v) (unpassed_by p me) → In (k, v) (unpassed_by p x) ⊎ NoneDecided (set s.callers c x) p
  pub decides : (p : ℕ) (d : Decision) → number_by x ≡ Some p → In d (decided_by x) → ((number_by me ≡ Some p) × In d (decided_by me)) ⊎ DecisionHolds m h (set s.callers c x) p d
  pub cleans : (k : ℕ) (v : Gpi) → In (k, v) (uncleaned_by me) → In (k, v) (uncleaned_by x) ⊎ ((sp : Space) → permits_of v sp ≡ true → has_line g after k sp ≡ false)
  pub comes : (k : ℕ) (sp : Space) → has_line g after k sp ≡ true → (has_line g s.words k sp ≡ true) ⊎ LineHolds m h (set s.callers c x) k sp
  pub stays : (k : ℕ) (sp : Space) → has_line g s.words k sp ≡ true → permits_of (m k) sp ≡ true → has_line g after k sp ≡ true
  pub looks : (k : ℕ) (sp : Space) → permits_of (m k) sp ≡ true → seen_in k sp h ≡ true → ((permits_of (map_in s k) sp ≡ true) × (seen_in k sp s.history ≡ true)) ⊎ In (k, sp) (touching_by x)
  pub touches : (k : ℕ) (sp : Space) → In (k, sp) (touching_by me) → In (k, sp) (touching_by x) ⊎ (has_line g after k sp ≡ true)

module _ {g : GeometryData} {s : Scene} {c : ℕ} {me x : Caller} {after : List ℕ} {m : ℕ → Gpi} {h : List Entry} (at : slice_get s.callers c ≡ Some me) (marks : Marks g s c me x after m h) where
  -- a decision that held, of a processor that has it still
  decision_stays : (p e : ℕ) (y : Caller) (d : Decision) → slice_get (set s.callers c x) e ≡ Some y → number_by y ≡ Some p → In d (decided_by y) → DecisionHolds (map_in s) s.history s.callers p d → DecisionHolds m h (set s.callers c x) p d
  decision_stays p e y d there number has (inl by_map) =
      elim (marks.changed d.granule) [
        | inl same ↦ inl (same.0 ∙ by_map.0, λ allowed. same.1 d.space (by_map.1 allowed))
        | inr lists ↦ inr (some_here s.callers c me x (unpassed_by p) (d.granule, d.gpi) at (subst (λ (v : Gpi). In {A = ℕ × Gpi} (d.granule, v) (unpassed_by p x)) by_map.0 (lists.0 p)))
      ]
  decision_stays p e y d there number has (inr some) =
      elim (some_moves s.callers c me x (unpassed_by p) (d.granule, d.gpi) at some) [
        | inl still ↦ inr still
        | inr own ↦ elim (marks.passes p d.granule d.gpi own) [
          | inl kept ↦ inr (some_here s.callers c me x (unpassed_by p) (d.granule, d.gpi) at kept)
          | inr none ↦ absurd (none e y d there number has)
        ]
      ]

  pub decisions_keep : DecisionsHold (map_in s) s.history s.callers → DecisionsHold m h (set s.callers c x)
  decisions_keep hold e p y d there number has =
      elim (get_set s.callers c e x y there) [
        | inl here ↦ elim (marks.decides p d (ap number_by here.1 ∙ number) (subst (λ (z : Caller). In d (decided_by z)) (sym here.1) has)) [
          | inl old ↦ decision_stays p e y d there number has (hold c p me d at old.0 old.1)
          | inr new ↦ new
        ]
        | inr away ↦ decision_stays p e y d there number has (hold e p y d away.1 number has)
      ]

  line_stays : (k : ℕ) (sp : Space) → has_line g after k sp ≡ true → LineHolds (map_in s) s.history s.callers k sp → LineHolds m h (set s.callers c x) k sp
  line_stays k sp resident (inl by_map) =
      elim (marks.changed k) [
        | inl same ↦ inl (ap (λ (v : Gpi). permits_of v sp) same.0 ∙ by_map.0, same.1 sp by_map.1)
        | inr lists ↦ inr (map_in s k, by_map.0, some_here s.callers c me x uncleaned_by (k, map_in s k) at lists.1)
      ]
  line_stays k sp resident (inr former) =
      elim (some_moves s.callers c me x uncleaned_by (k, former.0) at former.2) [
        | inl still ↦ inr (former.0, former.1, still)
        | inr own ↦ elim (marks.cleans k former.0 own) [
          | inl kept ↦ inr (former.0, former.1, some_here s.callers c me x uncleaned_by (k, former.0) at kept)
          | inr clear ↦ absurd (let both : true ≡ false = sym resident ∙ clear sp former.1 in cc)
        ]
      ]

  pub lines_keep : LinesHold g s.words (map_in s) s.history s.callers → LinesHold g after m h (set s.callers c x)
  lines_keep hold k sp resident =
      elim (marks.comes k sp resident) [ inl old ↦ line_stays k sp resident (hold k sp old) | inr new ↦ new ]

  pub touches_keep : TouchesHold g s.words (map_in s) s.history s.callers → TouchesHold g after m h (set s.callers c x)
  touches_keep hold k sp permits seen =
      elim (marks.looks k sp permits seen) [
        | inr now ↦ inr (some_here s.callers c me x touching_by (k, sp) at now)
        | inl old ↦ elim (hold k sp old.0 old.1) [
          | inl resident ↦ inl (marks.stays k sp resident permits)
          | inr some ↦ elim (some_moves s.callers c me x touching_by (k, sp) at some) [
            | inl still ↦ inr still
            | inr own ↦ elim (marks.touches k sp own) [
              | inl kept ↦ inr (some_here s.callers c me x touching_by (k, sp) at kept)
              | inr resident ↦ inl resident
            ]
          ]
        ]
      ]

-- a step without an entry that leaves the map and the lines, and whose caller has what it had, or has ended nothing
pub marks_same : (g : GeometryData) (s : Scene) (c : ℕ) (me x : Caller) (after : List ℕ) (m : ℕ → Gpi) (h : List Entry) → ((k : ℕ) → m k ≡ map_in s k)
    → ((k : ℕ) (sp : Space) → seen_in k sp h ≡ seen_in k sp s.history) → ((p : ℕ) → unpassed_by p x ≡ unpassed_by p me) → uncleaned_by x ≡ uncleaned_by me → number_by x ≡ number_by me
    → ((d : Decision) → In d (decided_by x) → In d (decided_by me)) → touching_by x ≡ touching_by me → ((k : ℕ) (sp : Space) → has_line g after k sp ≡ has_line g s.words k sp) → Marks g s c me x after m h
marks_same g s c me x after m h map seen unpassed uncleaned number decided touching lines = record {
  changed = λ k. inl (map k, λ sp before. seen k sp ∙ before);
  passes = λ p k v has. inl (subst (In {A = ℕ × Gpi} (k, v)) (sym (unpassed p)) has);
  decides = λ p d is has. inl (sym number ∙ is, decided d has);
  cleans = λ k v has. inl (subst (In {A = ℕ × Gpi} (k, v)) (sym uncleaned) has);
  comes = λ k sp resident. inl (sym (lines k sp) ∙ resident);
  stays = λ k sp resident permits. lines k sp ∙ resident;
  looks = λ k sp permits now. inl (ap (λ (v : Gpi). permits_of v sp) (sym (map k)) ∙ permits, sym (seen k sp) ∙ now);
  touches = λ k sp has. inl (subst (In {A = ℕ × Space} (k, sp)) (sym touching) has);
}

-- ---- agents

-- the same of an agent, by its lists alone: it decides nothing, makes no line resident, and touches none
pub record AgentMarks (g : GeometryData) (s : Scene) (before later : ℕ → List (ℕ × Gpi)) (kept clean : List (ℕ × Gpi)) (after : List ℕ) (m : ℕ → Gpi) (h : List Entry) : Type 0 where
  pub changed : (k : ℕ) → ((m k ≡ map_in s k) × ((sp : Space) → seen_in k sp s.history ≡ true → seen_in k sp h ≡ true))
      ⊎ (((p : ℕ) → In {A = ℕ × Gpi} (k, map_in s k) (later p)) × In {A = ℕ × Gpi} (k, map_in s k) clean)
  pub passes : (p k : ℕ) (v : Gpi) → In {A = ℕ × Gpi} (k, v) (before p) → In {A = ℕ × Gpi} (k, v) (later p) ⊎ NoneDecided s.callers p
  pub cleans : (k : ℕ) (v : Gpi) → In {A = ℕ × Gpi} (k, v) kept → In {A = ℕ × Gpi} (k, v) clean ⊎ ((sp : Space) → permits_of v sp ≡ true → has_line g after k sp ≡ false)
  pub comes : (k : ℕ) (sp : Space) → has_line g after k sp ≡ true → has_line g s.words k sp ≡ true
  pub stays : (k : ℕ) (sp : Space) → has_line g s.words k sp ≡ true → permits_of (m k) sp ≡ true → has_line g after k sp ≡ true
  pub looks : (k : ℕ) (sp : Space) → permits_of (m k) sp ≡ true → seen_in k sp h ≡ true → (permits_of (map_in s k) sp ≡ true) × (seen_in k sp s.history ≡ true)

pub nothing_decided : (x : Caller) (d : Decision) → number_by x ≡ None → In d (decided_by x) → ⊥
nothing_decided (caller.Agent a) d none has = has
nothing_decided (caller.Cpu q) d none has = absurd cc

-- among the callers after it
none_set : (callers : List Caller) (c p : ℕ) (x : Caller) → number_by x ≡ None → NoneDecided callers p → NoneDecided (set callers c x) p
none_set callers c p x plain none d y u there number has =
    elim (get_set callers c d x y there) [
      | inl here ↦ nothing_decided x u plain (subst (λ (z : Caller). In u (decided_by z)) (sym here.1) has)
      | inr away ↦ none d y u away.1 number has
    ]

pub no_touching : (x : Caller) → number_by x ≡ None → touching_by x ≡ []
no_touching (caller.Agent a) none = refl
no_touching (caller.Cpu q) none = absurd cc

nothing_touched : (x : Caller) (k : ℕ) (sp : Space) → number_by x ≡ None → In {A = ℕ × Space} (k, sp) (touching_by x) → ⊥
nothing_touched (caller.Agent a) k sp none has = has
nothing_touched (caller.Cpu q) k sp none has = absurd cc

pub agent_marks : (g : GeometryData) (s : Scene) (c : ℕ) (me x : Caller) (after : List ℕ) (m : ℕ → Gpi) (h : List Entry) → number_by me ≡ None → number_by x ≡ None
    → AgentMarks g s (λ p. unpassed_by p me) (λ p. unpassed_by p x) (uncleaned_by me) (uncleaned_by x) after m h → Marks g s c me x after m h
agent_marks g s c me x after m h was is marks = record {
  changed = marks.changed;
  passes = λ p k v has. elim (marks.passes p k v has) [ inl kept ↦ inl kept | inr none ↦ inr (none_set s.callers c p x is none) ];
  decides = λ p d number has. absurd (nothing_decided x d is has);
  cleans = marks.cleans;
  comes = λ k sp resident. inl (marks.comes k sp resident);
  stays = marks.stays;
  looks = λ k sp permits seen. inl (marks.looks k sp permits seen);
  touches = λ k sp has. absurd (nothing_touched me k sp was has);
}

-- one that leaves the map, what was seen, the lines and the lists
pub agent_marks_same : (g : GeometryData) (s : Scene) (before later : ℕ → List (ℕ × Gpi)) (kept clean : List (ℕ × Gpi)) (after : List ℕ) (m : ℕ → Gpi) (h : List Entry) → ((k : ℕ) → m k ≡ map_in s k)
    → ((k : ℕ) (sp : Space) → seen_in k sp h ≡ seen_in k sp s.history) → ((p : ℕ) → later p ≡ before p) → clean ≡ kept → ((k : ℕ) (sp : Space) → has_line g after k sp ≡ has_line g s.words k sp)
    → AgentMarks g s before later kept clean after m h
agent_marks_same g s before later kept clean after m h map seen unpassed uncleaned lines = record {
  changed = λ k. inl (map k, λ sp before. seen k sp ∙ before);
  passes = λ p k v has. inl (subst (In {A = ℕ × Gpi} (k, v)) (sym (unpassed p)) has);
  cleans = λ k v has. inl (subst (In {A = ℕ × Gpi} (k, v)) (sym uncleaned) has);
  comes = λ k sp resident. sym (lines k sp) ∙ resident;
  stays = λ k sp resident permits. lines k sp ∙ resident;
  looks = λ k sp permits now. (ap (λ (v : Gpi). permits_of v sp) (sym (map k)) ∙ permits, sym (seen k sp) ∙ now);
}
