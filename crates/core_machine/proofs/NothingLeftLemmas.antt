-- At `done` nothing is left of a granule's former space.
use Rattle.std.proofs.Common.{◌≡◌, ◌⊎◌, ℕ, ◌∷◌, [], Bool, true, false, ◌&&◌, Option, Some, None, length, refl, sym, ap, ◌∙◌, subst, inl, inr, if◌then◌else◌}
use Rattle.std.specs.Prelude.{slice_get, nat_lt}
use Rattle.std.specs.List.{list_any}
use Rattle.std.proofs.lemmas.Bool.{cases_Bool, cases_eq, eq-eqb}
use Rattle.core_machine.proofs.Names.{Gpi, Size, Generations, GeometryData, Act, Task, Answer, Kept, Stage, Change, granule_of_task, idle_answer, worn_answer, AgentData, HasActs, task_of, took_at, made_at, Caller, holds, is_inside, HoldsIn, Scene, map_in, IsMade}
use Rattle.core_machine.proofs.Names.stage
use Rattle.core_machine.proofs.Names.caller
use Rattle.core_machine.proofs.Names.task
use Rattle.core_machine.proofs.Names.size
use Rattle.gpt_descriptors.specs.Sizes.{granule_number}
use Rattle.gpt_descriptors.specs.declared.entry.L1Entry.{L1Entry}
use Rattle.gpt_descriptors.specs.declared.entry.L1Entry.TheVariants as l1
use Rattle.fuse.specs.Merging.{FuseData}
use Rattle.gpt_descriptors.specs.Fields.{granules_of}
use Rattle.shatter.specs.Splitting.{SplittingData, advanced}
use Rattle.invalidate.specs.Barrier.{BarrierData}
use Rattle.history.specs.Entries.{changes_granule}
use Rattle.delegate_ops.specs.declared.stage.Change.TheVariants as change
use Rattle.delegate_ops.specs.declared.stage.Line.{Line}
use Rattle.delegate_ops.specs.declared.stage.Line.TheVariants as line
use Rattle.delegate_ops.specs.Changing.{from_of}
use Rattle.delegate_ops.specs.InnerAgents.{kept_read, cleaned_stage, first_stage, goes_to, is_held, loaded_stage, looked_stage, merging_stage, passed_stage, passing_stage, read_all, split_stage, stage_after, took_under_way, waits_at}
use Rattle.shared_words.specs.Acts.{answer_of}
use Rattle.core_machine.specs.InnerAgentCaller.{is_lock_of, uncleaned_at}
use Rattle.core_machine.specs.InnerCpuCaller.{Decision}
use Rattle.core_machine.specs.InnerCallers.{caller_took, decided_by, made_by, uncleaned_by, unpassed_by, unraised_by}
use Rattle.core_machine.specs.InnerNothingLeft.{IsCleaned, DoneIsCleaned, CleanedHasNothingLeft, CleanedStays}
use Rattle.core_machine.specs.InnerWalks.{In}
use Rattle.core_machine.proofs.AddressLemmas.{lock_of, task_lock}
use Rattle.core_machine.proofs.CallerLemmas.{agent_has, held_once, made_at_place}
use Rattle.core_machine.proofs.ListLemmas.{get_set}
use Rattle.core_machine.proofs.ListsLemmas.{unpassed_in_uncleaned, unraised_in_unpassed}
use Rattle.core_machine.proofs.WalkLemmas.{one_pair}

-- ---- a granule that is cleaned has nothing left

unraised_uncleaned : (y : Size) (x : Caller) (k : ℕ) (v : Gpi) → In {A = ℕ × Gpi} (k, v) (unraised_by y x) → In {A = ℕ × Gpi} (k, v) (uncleaned_by x)
unraised_uncleaned y (caller.Agent a) k v has =
    unpassed_in_uncleaned a.geometry 0 a.stage (task_of a) k v (unraised_in_unpassed a.geometry y 0 a.stage (task_of a) k v has)
unraised_uncleaned y (caller.Cpu q) k v has = absurd has

unpassed_uncleaned : (p : ℕ) (x : Caller) (k : ℕ) (v : Gpi) → In {A = ℕ × Gpi} (k, v) (unpassed_by p x) → In {A = ℕ × Gpi} (k, v) (uncleaned_by x)
unpassed_uncleaned p (caller.Agent a) k v has = unpassed_in_uncleaned a.geometry p a.stage (task_of a) k v has
unpassed_uncleaned p (caller.Cpu q) k v has = absurd has

decided_here : (g : GeometryData) (s : Scene) (c granule : ℕ) (x : Caller) (d : Decision) → HoldsIn g s → IsCleaned s granule → slice_get s.callers c ≡ Some x → In d (decided_by x) → d.granule ≡ granule → d.gpi ≡ map_in s granule
decided_here g s c granule (caller.Agent a) d stands cleaned at has here = absurd has
decided_here g s c granule (caller.Cpu q) d stands cleaned at has here =
    elim (stands.decisions c q.number (caller.Cpu q) d at refl has) [
      | inl by_map ↦ sym by_map.0 ∙ ap (map_in s) here
      | inr some ↦
          absurd (cleaned d.gpi (record {
            number = some.number;
            caller = some.caller;
            at = some.at;
            has = subst (λ (k : ℕ). In {A = ℕ × Gpi} (k, d.gpi) (uncleaned_by some.caller)) here (unpassed_uncleaned q.number some.caller d.granule d.gpi some.has);
          }))
    ]

pub cleaned_has_nothing_left : CleanedHasNothingLeft
cleaned_has_nothing_left g s granule stands cleaned = record {
  walks = λ c pa x w at has tag covered here.
      let now = (stands.walks c x at w has).says tag pa covered in
      now.gives ∙ elim now.known [
        | inl by_map ↦ ap Some (sym by_map ∙ ap (map_in s) here)
        | inr some ↦
            absurd (cleaned now.gpi (record {
              number = some.number;
              caller = some.caller;
              at = some.at;
              has = subst (λ (k : ℕ). In {A = ℕ × Gpi} (k, now.gpi) (uncleaned_by some.caller)) here (unraised_uncleaned _ some.caller (granule_number g.setup pa) now.gpi some.has);
            }))
      ];
  decisions = λ c x d at has here. decided_here g s c granule x d stands cleaned at has here;
  lines = λ sp resident.
      elim (stands.lines granule sp resident) [ inl by_map ↦ by_map.0 | inr former ↦ absurd (cleaned former.0 former.2) ];
}

-- ---- where a transition is done

-- what is uncleaned is of the block whose lock its caller holds
uncleaned_in : (g : GeometryData) (s : Stage) (o : Option Task) (granule : ℕ) (v : Gpi) → HasActs g o → In {A = ℕ × Gpi} (granule, v) (uncleaned_at g s o) → (is_inside s && is_lock_of g (lock_of g.setup granule) o) ≡ true
uncleaned_in g (stage.Raising c z k) (Some t) granule v acts has = eq-eqb _ _ (sym (task_lock g t acts) ∙ ap (lock_of g.setup) (one_pair (granule_of_task g t) granule (from_of t c) v has).0)
uncleaned_in g (stage.Passing c d k) (Some t) granule v acts has = eq-eqb _ _ (sym (task_lock g t acts) ∙ ap (lock_of g.setup) (one_pair (granule_of_task g t) granule (from_of t c) v has).0)
uncleaned_in g (stage.Cleaning c line.Former k) (Some t) granule v acts has = eq-eqb _ _ (sym (task_lock g t acts) ∙ ap (lock_of g.setup) (one_pair (granule_of_task g t) granule (from_of t c) v has).0)
uncleaned_in g s o granule v acts has = absurd has

pub uncleaned_holds : (g : GeometryData) (x : Caller) (granule : ℕ) (v : Gpi) → IsMade g x → In {A = ℕ × Gpi} (granule, v) (uncleaned_by x) → holds (lock_of g.setup granule) x ≡ true
uncleaned_holds g (caller.Agent a) granule v made has =
    subst (λ (k : GeometryData). holds (lock_of k.setup granule) (caller.Agent a) ≡ true) made.0 (uncleaned_in a.geometry a.stage (task_of a) granule v made.1.acts has)
uncleaned_holds g (caller.Cpu q) granule v made has = absurd has

pub done_is_cleaned : DoneIsCleaned
done_is_cleaned g s c a t k stands at done under_way former some =
    let made = made_at_place g s c (caller.Agent a) stands at in
    let acts : idle_answer a.geometry t ≡ None = subst (HasActs a.geometry) under_way made.1.acts in
    let own : holds (lock_of g.setup (granule_of_task g t)) (caller.Agent a) ≡ true =
    subst (λ (h : GeometryData). holds (lock_of h.setup (granule_of_task h t)) (caller.Agent a) ≡ true) made.0
    (subst (λ (n : ℕ). holds n (caller.Agent a) ≡ true) (sym (task_lock a.geometry t acts)) (agent_has a t under_way (ap is_inside done))) in
    elim (cases_eq some.number c) [
      | inl same ↦
          (let here : some.caller ≡ caller.Agent a = (let both : Some some.caller ≡ Some (caller.Agent a) = sym some.at ∙ ap (slice_get s.callers) same ∙ at in cc) in
          let has = subst (λ (x : Caller). In {A = ℕ × Gpi} (granule_of_task g t, former) (uncleaned_by x)) here some.has in
          subst (λ (st : Stage). In {A = ℕ × Gpi} (granule_of_task g t, former) (uncleaned_at a.geometry st (task_of a))) done has)
      | inr apart ↦
          held_once (record { stands = stands; at = at; has = own }) some.number some.caller apart some.at
          (uncleaned_holds g some.caller (granule_of_task g t) former (made_at_place g s some.number some.caller stands some.at) some.has)
    ]

-- ---- it stays cleaned

-- the lists of the stages that follow an act
none_merging : (g : GeometryData) (o : Option Act) (f : FuseData) (k : Generations) (u : Option Task) → uncleaned_at g (merging_stage o f k) u ≡ []
none_merging g None f k u = refl
none_merging g (Some next) f k u = refl

none_first : (g : GeometryData) (t : Task) (k : Kept) (u : Option Task) → uncleaned_at g (first_stage t k) u ≡ []
none_first g (task.Delegate pa source) k u = refl
none_first g t k u = refl

none_loaded : (g : GeometryData) (t : Task) (o : Option L1Entry) (k : Kept) (u : Option Task) → uncleaned_at g (loaded_stage g t o k) u ≡ []
none_loaded g t (Some (l1.Contig z v)) k u = refl
none_loaded g t (Some (l1.Granules word)) k u = none_first g t k u
none_loaded g t None k u = none_first g t k u

none_read : (g : GeometryData) (o : Option Answer) (t : Task) (k : Kept) (u : Option Task) → uncleaned_at g (read_all g o t k) u ≡ []
none_read g (Some worn) t k u = refl
none_read g None t k u = none_loaded g t _ k u

none_looked : (g : GeometryData) (o : Option Answer) (word : ℕ) (u : Option Task) → uncleaned_at g (looked_stage o word) u ≡ []
none_looked g (Some refused) word u = refl
none_looked g None word u = refl

none_if : (g : GeometryData) (b : Bool) (x y : Stage) (u : Option Task) → uncleaned_at g x u ≡ [] → uncleaned_at g y u ≡ [] → uncleaned_at g (if b then x else y) u ≡ []
none_if g true x y u first second = first
none_if g false x y u first second = second

none_split : (g : GeometryData) (t : Task) (z : Size) (d : SplittingData) (k : Generations) (u : Option Task) → uncleaned_at g (split_stage t z d k) u ≡ []
none_split g t z d k u = none_if g (nat_lt d.made d.words) (stage.Splitting z d k) _ u refl (none_first g t (record { word = granules_of d.gpi; generations = k }) u)

-- after a barrier it is what it was, or nothing
passed_had : (g : GeometryData) (t : Task) (ch : Change) (k : Kept) (n : ℕ) (v : Gpi) → In {A = ℕ × Gpi} (n, v) (uncleaned_at g (passed_stage g t ch k) (Some t)) → In {A = ℕ × Gpi} (n, v) ((granule_of_task g t, from_of t ch) ∷ [])
passed_had g (task.Undelegate pa source) change.Last k n v has = absurd (subst (In {A = ℕ × Gpi} (n, v)) (none_merging g _ _ k.generations (Some (task.Undelegate pa source))) has)
passed_had g (task.Undelegate pa source) change.First k n v has = has
passed_had g (task.Delegate pa source) ch k n v has = has
passed_had g task.Unknown ch k n v has = has
passed_had g (task.Look pa space) ch k n v has = has

passing_had : (g : GeometryData) (t : Task) (ch : Change) (d : BarrierData) (k : Kept) (n : ℕ) (v : Gpi) → In {A = ℕ × Gpi} (n, v) (uncleaned_at g (passing_stage g t ch d k) (Some t)) → In {A = ℕ × Gpi} (n, v) ((granule_of_task g t, from_of t ch) ∷ [])
passing_had g t ch d k n v has = elim (cases_Bool (nat_lt d.passed d.cpus)) [ inl more ↦ rw more at has | inr over ↦ passed_had g t ch k n v (rw over at has) ]

none_cleaned : (g : GeometryData) (t : Task) (ch : Change) (l : Line) (k : Kept) (u : Option Task) → uncleaned_at g (cleaned_stage g t ch l k) u ≡ []
none_cleaned g t change.First line.Former k u = refl
none_cleaned g t change.First line.NonSecure k u = refl
none_cleaned g t change.Last l k u = none_merging g _ _ k.generations u

-- what is uncleaned where an agent goes on was so before, or is of the granule that the act has changed
abbrev Had : GeometryData → ℕ → ℕ → Task → Stage → ℕ → ℕ → Gpi → Type 0
Had g c j t st old n v = In {A = ℕ × Gpi} (n, v) (uncleaned_at g st (Some t)) ⊎ (list_any (changes_granule n) (made_at g c j st (Some t) old) ≡ true)

was_none : (g : GeometryData) (next : Stage) (t : Task) (n : ℕ) (v : Gpi) → uncleaned_at g next (Some t) ≡ [] → In {A = ℕ × Gpi} (n, v) (uncleaned_at g next (Some t)) → ⊥
was_none g next t n v none has = subst (In {A = ℕ × Gpi} (n, v)) none has

stage_had : (g : GeometryData) (c j : ℕ) (t : Task) (st : Stage) (old n : ℕ) (v : Gpi) → In {A = ℕ × Gpi} (n, v) (uncleaned_at g (stage_after g t st old) (Some t)) → Had g c j t st old n v
stage_had g c j t stage.Locking old n v has = absurd has
stage_had g c j t stage.Looking old n v has = absurd (was_none g (looked_stage _ old) t n v (none_looked g _ old (Some t)) has)
stage_had g c j t (stage.Reading size.Two k) old n v has = absurd has
stage_had g c j t (stage.Reading size.ThirtyTwo k) old n v has = absurd has
stage_had g c j t (stage.Reading size.FiveTwelve k) old n v has = absurd (subst (In {A = ℕ × Gpi} (n, v)) (none_read g (worn_answer (kept_read size.FiveTwelve old k).generations) t (kept_read size.FiveTwelve old k) (Some t)) has)
stage_had g c j t (stage.Splitting z d k) old n v has = absurd (subst (In {A = ℕ × Gpi} (n, v)) (none_split g t z (advanced d) k (Some t)) has)
stage_had g c j t (stage.Preparing k) old n v has = absurd has
stage_had g c j t (stage.Changing ch k) old n v has =
    let pair = one_pair (granule_of_task g t) n (from_of t ch) v has in inr (rw (eq-eqb (granule_of_task g t) n pair.0) refl)
stage_had g c j t (stage.Raising ch size.Two k) old n v has = inl has
stage_had g c j t (stage.Raising ch size.ThirtyTwo k) old n v has = inl has
stage_had g c j t (stage.Raising ch size.FiveTwelve k) old n v has = inl (passing_had g t ch _ _ n v has)
stage_had g c j t (stage.Passing ch d k) old n v has = inl (passing_had g t ch _ k n v has)
stage_had g c j t (stage.Cleaning ch l k) old n v has = absurd (subst (In {A = ℕ × Gpi} (n, v)) (none_cleaned g t ch l k (Some t)) has)
stage_had g c j t (stage.Merging f k) old n v has = absurd (subst (In {A = ℕ × Gpi} (n, v)) (none_merging g _ _ k (Some t)) has)
stage_had g c j t (stage.Releasing given) old n v has = absurd has

went_had : (a : AgentData) (c : ℕ) (t : Task) (old n : ℕ) (v : Gpi) (st : Stage) (held : Bool) → a.stage ≡ st → task_of a ≡ Some t → In {A = ℕ × Gpi} (n, v) (uncleaned_by (caller.Agent (if held then waits_at a else goes_to a (stage_after a.geometry t st old)))) → Had a.geometry c (length a.answers) t st old n v
went_had a c t old n v st true is under_way has =
    inl (subst (λ (o : Option Task). In {A = ℕ × Gpi} (n, v) (uncleaned_at a.geometry st o)) under_way
    (subst (λ (s : Stage). In {A = ℕ × Gpi} (n, v) (uncleaned_at a.geometry s (task_of a))) is has))
went_had a c t old n v st false is under_way has =
    stage_had a.geometry c (length a.answers) t st old n v
    (subst (λ (o : Option Task). In {A = ℕ × Gpi} (n, v) (uncleaned_at a.geometry (stage_after a.geometry t st old) o)) under_way has)

took_had : (a : AgentData) (c : ℕ) (t : Task) (old n : ℕ) (v : Gpi) (st : Stage) → a.stage ≡ st → task_of a ≡ Some t → In {A = ℕ × Gpi} (n, v) (uncleaned_by (caller.Agent (took_at a t st old))) → Had a.geometry c (length a.answers) t st old n v
took_had a c t old n v (stage.Releasing given) is under_way has = absurd has
took_had a c t old n v st is under_way has = went_had a c t old n v st (is_held a.geometry t st old) is under_way has

agent_had : (a : AgentData) (c old n : ℕ) (v : Gpi) (o : Option Task) → task_of a ≡ o → In {A = ℕ × Gpi} (n, v) (uncleaned_by (caller.Agent (took_under_way a o old))) → In {A = ℕ × Gpi} (n, v) (uncleaned_at a.geometry a.stage o) ⊎ (list_any (changes_granule n) (made_at a.geometry c (length a.answers) a.stage o old) ≡ true)
agent_had a c old n v None under_way has =
    inl (subst (λ (o : Option Task). In {A = ℕ × Gpi} (n, v) (uncleaned_at a.geometry a.stage o)) under_way has)
agent_had a c old n v (Some t) under_way has = took_had a c t old n v a.stage refl under_way has

caller_had : (x : Caller) (c old n : ℕ) (v : Gpi) → In {A = ℕ × Gpi} (n, v) (uncleaned_by (caller_took x old)) → In {A = ℕ × Gpi} (n, v) (uncleaned_by x) ⊎ (list_any (changes_granule n) (made_by c x old) ≡ true)
caller_had (caller.Agent a) c old n v has = agent_had a c old n v (task_of a) refl has
caller_had (caller.Cpu q) c old n v has = absurd has

pub cleaned_stays : CleanedStays
cleaned_stays s c granule x t at next unchanged cleaned former some =
    elim (get_set s.callers c some.number (caller_took x (answer_of t s.words)) some.caller some.at) [
      | inl here ↦
          elim (caller_had x c (answer_of t s.words) granule former (subst (λ (y : Caller). In {A = ℕ × Gpi} (granule, former) (uncleaned_by y)) (sym here.1) some.has)) [
            | inl had ↦ cleaned former (record { number = c; caller = x; at = at; has = had })
            | inr changed ↦ absurd (let both : true ≡ false = sym changed ∙ unchanged in cc)
          ]
      | inr other ↦
          cleaned former (record { number = some.number; caller = some.caller; at = other.1; has = some.has })
    ]
