-- The entries of a call are allowed by its task and its answer.
use Rattle.std.proofs.Common.{◌≡◌, ℕ, ◌/◌, ◌<◌, ◌++◌, ◌∷◌, [], List, true, false, eqb, Option, Some, None, length, take, refl, sym, ap, ◌∙◌, subst, arith, inl, inr}
use Rattle.std.specs.List.{All}
use Rattle.std.proofs.lemmas.Bool.{cases_Bool, eq-eqb}
use Rattle.std.proofs.lemmas.List.{take_all}
use Rattle.std.proofs.lemmas.List.Elements.{All-nil, All-cons, All-append, All-take}
use Rattle.core_machine.proofs.Names.{Gpi, value_of, Size, Generations, granule_bytes, space_granules, GeometryData, word_gpi, Task, Answer, Entry, granule_in, caller_in, call_in, granule_of, needed, CallAllows, call_entries, Change, Stage, address_of, idle_answer, granule_place, generation_in, worn_answer, IsStage, CallEvent, entries_at, IsPrefix}
use Rattle.core_machine.proofs.Names.gpi
use Rattle.core_machine.proofs.Names.size
use Rattle.core_machine.proofs.Names.task
use Rattle.core_machine.proofs.Names.answer
use Rattle.core_machine.proofs.Names.entry
use Rattle.core_machine.proofs.Names.stage
use Rattle.gpi_values.specs.Values.{own_of}
use Rattle.history.specs.Legality.{is_transition, IsChange}
use Rattle.delegate_ops.specs.declared.stage.Change.TheVariants as change
use Rattle.delegate_ops.specs.Deciding.{is_needed, refusal_of}
use Rattle.delegate_ops.specs.InnerAgents.{IsChangeOf, IsCleaned}
use Rattle.delegate_ops.specs.Script.{Decides, IsCall, change_entry}
use Rattle.delegate_ops.proofs.DecidingLemmas.{acts_inside}
use Rattle.delegate_ops.proofs.ScriptLemmas.{some_mapped}
use Rattle.core_machine.proofs.ListLemmas.{all_one}
use Rattle.core_machine.proofs.ToldLemmas.{idle_quiet}
use Rattle.delegate_ops.specs.InnerEntries.{entries_after, entries_before}
use Rattle.delegate_ops.specs.declared.stage.Line.{Line}
use Rattle.core_machine.proofs.AddressLemmas.{granule_within}

-- ---- granules inside the space

acts_granule : (g : GeometryData) (t : Task) → idle_answer g t ≡ None → address_of t / granule_bytes g.setup < space_granules g.setup
acts_granule g t acts = granule_within g.setup (address_of t) (acts_inside g t acts)

-- ---- the entries of one call

-- an entry of call k of caller c, allowed by its task and its answer, on a granule of the space
pub record IsOwnEntry (g : GeometryData) (c k : ℕ) (t : Task) (a : Answer) (e : Entry) : Type 0 where
  pub caller : caller_in e ≡ c
  pub call : call_in e ≡ k
  pub allows : CallAllows t a e
  pub granule : granule_of (granule_bytes g.setup) t ≡ Some (granule_in e)
  pub inside : granule_in e < space_granules g.setup

-- a transition with acts can be answered so
abbrev pub FitsAnswer : Task → Answer → Type 0
FitsAnswer t (answer.Perm found) = is_needed (needed t) found ≡ false
FitsAnswer t (answer.Seen access) = ⊥
FitsAnswer t a = Unit {0}

change_allowed : (g : GeometryData) (c k : ℕ) (t : Task) (given : Generations) (granule : ℕ) (from to : Gpi) → granule_of (granule_bytes g.setup) t ≡ Some granule
    → granule < space_granules g.setup → IsChange t from to → is_transition t ≡ true
    → All (IsOwnEntry g c k t (answer.Done given)) (entry.Changed c k granule from to ∷ entry.Settled c k granule ∷ [])
change_allowed g c k t given granule from to here inside changes transition =
    All-cons (IsOwnEntry g c k t (answer.Done given)) (entry.Changed c k granule from to) (entry.Settled c k granule ∷ [])
    (record { caller = refl; call = refl; allows = (refl, changes); granule = here; inside = inside })
    (all_one (IsOwnEntry g c k t (answer.Done given)) (entry.Settled c k granule)
    (record { caller = refl; call = refl; allows = (refl, transition); granule = here; inside = inside }))

not_needed : (o : Option Gpi) (found : Gpi) → is_needed o found ≡ false → o ≡ Some found → ⊥
not_needed None found other same = cc
not_needed (Some gpi) found other same =
    let one : gpi ≡ found = cc in
    let equal : eqb (value_of gpi) (value_of found) ≡ true = eq-eqb (value_of gpi) (value_of found) (ap value_of one) in
    let both : true ≡ false = sym equal ∙ other in cc

pub fitting_allowed : (g : GeometryData) (c k : ℕ) (t : Task) (a : Answer) → idle_answer g t ≡ None → FitsAnswer t a → All (IsOwnEntry g c k t a) (call_entries (granule_bytes g.setup) c k t a)
fitting_allowed g c k (task.Delegate pa source) (answer.Perm found) acts fits =
    all_one (IsOwnEntry g c k (task.Delegate pa source) (answer.Perm found)) (entry.Refused c k (pa / granule_bytes g.setup) found)
    (record { caller = refl; call = refl; allows = (refl, not_needed (Some gpi.NonSecure) found fits, refl); granule = refl; inside = acts_granule g (task.Delegate pa source) acts })
fitting_allowed g c k (task.Delegate pa source) (answer.Worn z value) acts fits =
    all_one (IsOwnEntry g c k (task.Delegate pa source) (answer.Worn z value)) (entry.Refused c k (pa / granule_bytes g.setup) gpi.NonSecure)
    (record { caller = refl; call = refl; allows = refl; granule = refl; inside = acts_granule g (task.Delegate pa source) acts })
fitting_allowed g c k (task.Delegate pa source) (answer.Done given) acts fits =
    change_allowed g c k (task.Delegate pa source) given (pa / granule_bytes g.setup) gpi.NonSecure (own_of source) refl (acts_granule g (task.Delegate pa source) acts) (refl, refl) refl
fitting_allowed g c k (task.Undelegate pa source) (answer.Perm found) acts fits =
    all_one (IsOwnEntry g c k (task.Undelegate pa source) (answer.Perm found)) (entry.Refused c k (pa / granule_bytes g.setup) found)
    (record { caller = refl; call = refl; allows = (refl, not_needed (Some (own_of source)) found fits, refl); granule = refl; inside = acts_granule g (task.Undelegate pa source) acts })
fitting_allowed g c k (task.Undelegate pa source) (answer.Worn z value) acts fits =
    all_one (IsOwnEntry g c k (task.Undelegate pa source) (answer.Worn z value)) (entry.Refused c k (pa / granule_bytes g.setup) (own_of source))
    (record { caller = refl; call = refl; allows = refl; granule = refl; inside = acts_granule g (task.Undelegate pa source) acts })
fitting_allowed g c k (task.Undelegate pa source) (answer.Done given) acts fits =
    let inside : pa / granule_bytes g.setup < space_granules g.setup = acts_granule g (task.Undelegate pa source) acts in
    All-append (IsOwnEntry g c k (task.Undelegate pa source) (answer.Done given))
    (entry.Changed c k (pa / granule_bytes g.setup) (own_of source) gpi.NoAccess ∷ entry.Settled c k (pa / granule_bytes g.setup) ∷ [])
    (entry.Changed c k (pa / granule_bytes g.setup) gpi.NoAccess gpi.NonSecure ∷ entry.Settled c k (pa / granule_bytes g.setup) ∷ [])
    (change_allowed g c k (task.Undelegate pa source) given (pa / granule_bytes g.setup) (own_of source) gpi.NoAccess refl inside (inl (refl, refl)) refl)
    (change_allowed g c k (task.Undelegate pa source) given (pa / granule_bytes g.setup) gpi.NoAccess gpi.NonSecure refl inside (inr (refl, refl)) refl)
fitting_allowed g c k (task.Look pa space) (answer.Seen access) acts fits = absurd fits
fitting_allowed g c k t a acts fits = All-nil (IsOwnEntry g c k t a)

-- ---- what a transition is answered

-- a refusal is by a GPI that isn't the needed one
pub refused_is : (t : Task) (o : Option Gpi) (a : Answer) → refusal_of t o ≡ Some a → (found : Gpi) × (o ≡ Some found) × (is_needed (needed t) found ≡ false) × (a ≡ answer.Perm found)
refused_is t None a refused = absurd cc
refused_is t (Some found) a refused =
    elim (cases_Bool (is_needed (needed t) found)) [
      | inl same ↦ absurd (let both = rw same at refused in cc)
      | inr other ↦ (found, refl, other, let both = rw other at refused in cc)
    ]

refused_fits : (t : Task) (o : Option Gpi) (a : Answer) → refusal_of t o ≡ Some a → FitsAnswer t a
refused_fits t o a refused = let by = refused_is t o a refused in subst (FitsAnswer t) (sym by.3) by.2

worn_fits : (t : Task) (k : Generations) (a : Answer) → worn_answer k ≡ Some a → FitsAnswer t a
worn_fits t k a worn = let by = some_mapped (λ (z : Size). answer.Worn z (generation_in z k)) _ a worn in subst (FitsAnswer t) by.2 tt

pub decided_fits : (g : GeometryData) (c k : ℕ) (t : Task) (given : Answer) (events : List CallEvent) → Decides g c k t given events → FitsAnswer t given
decided_fits g c k t given events decided =
    elim decided [
      | inl refused ↦ refused_fits t (word_gpi refused.word (granule_place g (address_of t))) given refused.refused
      | inr later ↦ elim later [
        | inl worn ↦ worn_fits t worn.generations given worn.worn
        | inr done ↦ subst (FitsAnswer t) (sym done.is) tt
      ]
    ]

call_allowed_by : (g : GeometryData) (c k : ℕ) (t : Task) (a : Answer) (own : List CallEvent) (idle : Option Answer) → idle_answer g t ≡ idle → IsCall g c k t idle a own
    → All (IsOwnEntry g c k t a) (call_entries (granule_bytes g.setup) c k t a)
call_allowed_by g c k t a own None acts call = fitting_allowed g c k t a acts (decided_fits g c k t a call.deciding call.decided)
call_allowed_by g c k t a own (Some b) idle call =
    subst (All (IsOwnEntry g c k t a)) (sym (idle_quiet g (granule_bytes g.setup) c k t a (idle ∙ ap Some call.0))) (All-nil (IsOwnEntry g c k t a))

-- the entries of an answered call
pub call_allowed : (g : GeometryData) (c k : ℕ) (t : Task) (a : Answer) (own : List CallEvent) → IsCall g c k t (idle_answer g t) a own
    → All (IsOwnEntry g c k t a) (call_entries (granule_bytes g.setup) c k t a)
call_allowed g c k t a own call = call_allowed_by g c k t a own (idle_answer g t) refl call

-- ---- the call under way

-- what it has made are the first entries of an answer that it can have; where that is a worn generation, it is to be
-- answered so
abbrev pub IsPrefixFit : GeometryData → ℕ → ℕ → Stage → Option Task → List Entry → Type 0
IsPrefixFit g c k s None made = made ≡ []
IsPrefixFit g c k s (Some t) made =
    (a : Answer) × (n : ℕ) × (made ≡ take n (call_entries (granule_bytes g.setup) c k t a)) × FitsAnswer t a × ((z : Size) (v : ℕ) → a ≡ answer.Worn z v → s ≡ stage.Releasing a)

no_generations : Generations
no_generations = record { two = 0; thirty_two = 0; five_twelve = 0 }

changing_fits : (g : GeometryData) (c k : ℕ) (s : Stage) (t : Task) (ch : Change) → IsPrefixFit g c k s (Some t) (entries_before g c k t ch)
changing_fits g c k s (task.Undelegate pa source) change.Last = (answer.Done no_generations, 2, refl, tt, λ z v is. absurd cc)
changing_fits g c k s t ch = (answer.Inval, 0, refl, tt, λ z v is. absurd cc)

raising_fits : (g : GeometryData) (c k : ℕ) (s : Stage) (t : Task) (ch : Change) → IsChangeOf t ch → IsPrefixFit g c k s (Some t) (entries_before g c k t ch ++ change_entry g c k t ch ∷ [])
raising_fits g c k s (task.Delegate pa source) change.First changes = absurd changes
raising_fits g c k s (task.Delegate pa source) change.Last changes = (answer.Done no_generations, 1, refl, tt, λ z v is. absurd cc)
raising_fits g c k s (task.Undelegate pa source) change.First changes = (answer.Done no_generations, 1, refl, tt, λ z v is. absurd cc)
raising_fits g c k s (task.Undelegate pa source) change.Last changes = (answer.Done no_generations, 3, refl, tt, λ z v is. absurd cc)
raising_fits g c k s task.Unknown ch changes = absurd changes
raising_fits g c k s (task.Look pa space) ch changes = absurd changes

completed_fits : (g : GeometryData) (c k : ℕ) (s : Stage) (t : Task) (ch : Change) → IsChangeOf t ch → IsPrefixFit g c k s (Some t) (entries_after g c k t ch)
completed_fits g c k s (task.Delegate pa source) change.First changes = absurd changes
completed_fits g c k s (task.Delegate pa source) change.Last changes = (answer.Done no_generations, 2, refl, tt, λ z v is. absurd cc)
completed_fits g c k s (task.Undelegate pa source) change.First changes = (answer.Done no_generations, 2, refl, tt, λ z v is. absurd cc)
completed_fits g c k s (task.Undelegate pa source) change.Last changes = (answer.Done no_generations, 4, refl, tt, λ z v is. absurd cc)
completed_fits g c k s task.Unknown ch changes = absurd changes
completed_fits g c k s (task.Look pa space) ch changes = absurd changes

-- what is cleaned after a change is so after one of its task
pub cleaned_change : (t : Task) (ch : Change) (l : Line) → IsCleaned t ch l → IsChangeOf t ch
cleaned_change (task.Delegate pa source) change.First l is = absurd is
cleaned_change (task.Delegate pa source) change.Last l is = tt
cleaned_change (task.Undelegate pa source) ch l is = tt
cleaned_change task.Unknown ch l is = absurd is
cleaned_change (task.Look pa space) ch l is = absurd is

no_task_prefix : (g : GeometryData) (c k : ℕ) (s : Stage) → entries_at g c k s None ≡ []
no_task_prefix g c k stage.Locking = refl
no_task_prefix g c k s = refl

pub prefix_fits : (g : GeometryData) (c k : ℕ) (s : Stage) (o : Option Task) (events : List CallEvent) → IsStage g s o → IsPrefix g c k s o events → IsPrefixFit g c k s o (entries_at g c k s o)
prefix_fits g c k (stage.Changing ch kept) (Some t) events fits front = changing_fits g c k (stage.Changing ch kept) t ch
prefix_fits g c k (stage.Raising ch size.Two kept) (Some t) events fits front = raising_fits g c k (stage.Raising ch size.Two kept) t ch fits.0
prefix_fits g c k (stage.Raising ch size.ThirtyTwo kept) (Some t) events fits front = raising_fits g c k (stage.Raising ch size.ThirtyTwo kept) t ch fits.0
prefix_fits g c k (stage.Raising ch size.FiveTwelve kept) (Some t) events fits front = raising_fits g c k (stage.Raising ch size.FiveTwelve kept) t ch fits.0
prefix_fits g c k (stage.Passing ch d kept) (Some t) events fits front = completed_fits g c k (stage.Passing ch d kept) t ch fits.0
prefix_fits g c k (stage.Cleaning ch l kept) (Some t) events fits front = completed_fits g c k (stage.Cleaning ch l kept) t ch (cleaned_change t ch l fits.0)
prefix_fits g c k (stage.Merging f kept) (Some t) events fits front =
    let es : List Entry = call_entries (granule_bytes g.setup) c k t (answer.Done kept) in
    (answer.Done kept, length es, sym (take_all (length es) es (omega arith)), tt, λ z v is. absurd cc)
prefix_fits g c k (stage.Releasing given) (Some t) events fits front =
    let es : List Entry = call_entries (granule_bytes g.setup) c k t given in
    (given, length es, sym (take_all (length es) es (omega arith)), decided_fits g c k t given events front, λ z v is. refl)
prefix_fits g c k s (Some t) events fits front = (answer.Inval, 0, refl, tt, λ z v is. absurd cc)
prefix_fits g c k s None events fits front = no_task_prefix g c k s

-- the entries of a prefix are allowed by an answer
pub prefix_allowed : (g : GeometryData) (c k : ℕ) (s : Stage) (t : Task) (made : List Entry) → idle_answer g t ≡ None → IsPrefixFit g c k s (Some t) made
    → (a : Answer) × All (IsOwnEntry g c k t a) made × ((z : Size) (v : ℕ) → a ≡ answer.Worn z v → s ≡ stage.Releasing a)
prefix_allowed g c k s t made acts fits =
    let es : List Entry = call_entries (granule_bytes g.setup) c k t fits.0 in
    (fits.0, subst (All (IsOwnEntry g c k t fits.0)) (sym fits.2) (All-take (IsOwnEntry g c k t fits.0) fits.1 es (fitting_allowed g c k t fits.0 acts fits.3)), fits.4)
