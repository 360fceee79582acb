-- The entries of accesses: each is allowed by its task and its answer, and is on no lock block.
use Rattle.std.proofs.Common.{◌≡◌, ℕ, zero, suc, ◌+◌, ◌<◌, ◌∷◌, [], ◌/◌, ap, List, Bool, true, false, Option, Some, None, length, take, refl, sym, ◌∙◌, subst, arith, inl, inr}
use Rattle.std.specs.Prelude.{slice_get, MatchOption}
use Rattle.std.specs.List.{All, list_any}
use Rattle.std.proofs.lemmas.Bool.{cases_Bool}
use Rattle.std.proofs.lemmas.List.Elements.{All-nil, All-append, All-weaker}
use Rattle.std.proofs.lemmas.List.Folds.{list_any-append}
use Rattle.std.proofs.lemmas.Option.{slice_get_within, get_or_from_slice_get}
use Rattle.core_machine.proofs.Names.{Gpi, granule_bytes, GeometryData, Task, Answer, Entry, CallEvent, CpuData, IsCpu, call_entries, answered_entries}
use Rattle.core_machine.proofs.Names.task
use Rattle.core_machine.proofs.Names.answer
use Rattle.core_machine.proofs.Names.entry
use Rattle.gpi_values.specs.declared.gpi.Space.{Space}
use Rattle.gpt_descriptors.specs.Sizes.{space_bytes}
use Rattle.gpt_descriptors.specs.Places.{block_gpi_of}
use Rattle.history.specs.Legality.{is_seen, is_still}
use Rattle.delegate_ops.specs.Deciding.{is_look}
use Rattle.gpt_descriptors.specs.declared.size.Reach.TheVariants as reach
use Rattle.walk_cache.specs.declared.walk.Walk.{Walk}
use Rattle.history.specs.declared.call.Access.{Access}
use Rattle.history.specs.declared.call.Via.TheVariants as via
use Rattle.history.specs.Stamps.{walked}
use Rattle.processor.specs.Accesses.{IsAccess, block_answer, looked_entry, table_access, walk_gpi}
use Rattle.processor.specs.InnerProgress.{Stage}
use Rattle.processor.specs.InnerProgress as stage
use Rattle.processor.specs.InnerEntries.{decided_entries, entries_at, own_entries}
use Rattle.processor.specs.InnerCpus.{task_of}
use Rattle.processor.specs.InnerScript.{HasWalked}
use Rattle.processor.specs.Script.{AreCallEvents, IsCall, IsLook}
use Rattle.core_machine.specs.Facts.{IsAccessAnswer, is_at_table}
use Rattle.core_machine.proofs.AddressLemmas.{granule_within}
use Rattle.core_machine.proofs.CpuActs.{answers_seen}
use Rattle.core_machine.proofs.DecidedLemmas.{IsTableAccess, decided_access}
use Rattle.core_machine.proofs.EntryLemmas.{IsOwnEntry}
use Rattle.core_machine.proofs.ListLemmas.{all_one}

-- ---- accesses

-- each task of a processor is an access
pub access_there : (q : CpuData) (k : ℕ) (t : Task) → IsCpu q → slice_get q.tasks k ≡ Some t → IsAccess q.geometry t
access_there q k t is at = subst (IsAccess q.geometry) (get_or_from_slice_get q.tasks k t t at) (is.accesses k t (slice_get_within q.tasks k t at))

pub access_looks : (g : GeometryData) (t : Task) → IsAccess g t → is_look t ≡ true
access_looks g (task.Look pa space) access = refl
access_looks g t access = absurd access

-- ---- their answers

look_answer : (g : GeometryData) (p c n pa : ℕ) (space : Space) (o : Option Gpi) (kept : List Walk) (given : Answer) (later : List Walk) (events : List CallEvent) → IsLook g p c n pa space o kept given later events
    → MatchOption o (is_at_table given ≡ true) (λ gpi. given ≡ block_answer space gpi)
look_answer g p c n pa space (Some gpi) kept given later events look = look.0
look_answer g p c n pa space None kept given later events look =
    subst (λ (a : Answer). is_at_table a ≡ true) (sym look.is) (rw (decided_access g p c n pa space kept look.access later look.deciding look.decided).walked refl)

-- an answered access is answered by its block, or by a walk where there is none
pub access_answer : (g : GeometryData) (p c n k : ℕ) (tasks : List Task) (kept : List Walk) (answers : List Answer) (later : List Walk) (events : List CallEvent) (pa : ℕ) (space : Space) (given : Answer)
    → AreCallEvents g p c n tasks kept answers later events → slice_get tasks k ≡ Some (task.Look pa space) → slice_get answers k ≡ Some given → IsAccessAnswer g pa space given
access_answer g p c n k tasks kept [] later events pa space given are asked answered = absurd cc
access_answer g p c n k [] kept (a ∷ answers) later events pa space given are asked answered = absurd are
access_answer g p c n zero (t ∷ tasks) kept (a ∷ answers) later events pa space given are asked answered =
    let same : t ≡ task.Look pa space = cc in
    let is : a ≡ given = cc in
    look_answer g p c n pa space (block_gpi_of g pa) kept given are.2 are.0 (subst (λ (u : Task). IsCall g p c n u kept given are.2 are.0) same (subst (λ (b : Answer). IsCall g p c n t kept b are.2 are.0) is are.4))
access_answer g p c n (suc k) (t ∷ tasks) kept (a ∷ answers) later events pa space given are asked answered = access_answer g p c (n + 1) k tasks are.2 answers later are.1 pa space given are.5 asked answered

-- ---- the entries of one access

-- the entry of an access at an L1 table is allowed by its answer
table_allowed : (g : GeometryData) (c k pa : ℕ) (space : Space) (given : Access) → pa < space_bytes g.setup → IsTableAccess space given
    → All (IsOwnEntry g c k (task.Look pa space) (answer.Seen given)) (looked_entry g c k pa space given.gpi ∷ [])
table_allowed g c k pa space given inside is =
    all_one (IsOwnEntry g c k (task.Look pa space) (answer.Seen given)) _
    (record { caller = refl; call = refl; allows = (refl, refl, (refl, is.allowed, is.level, is.walked)); granule = refl; inside = granule_within g.setup pa inside })

-- which is the one that the answer has
table_entry : (g : GeometryData) (c k pa : ℕ) (space : Space) (given : Access) → IsTableAccess space given → call_entries (granule_bytes g.setup) c k (task.Look pa space) (answer.Seen given) ≡ looked_entry g c k pa space given.gpi ∷ []
table_entry g c k pa space given is = rw (is.walked, is.allowed) refl

look_allowed : (g : GeometryData) (p c k pa : ℕ) (space : Space) (o : Option Gpi) (kept : List Walk) (given : Answer) (later : List Walk) (events : List CallEvent) → pa < space_bytes g.setup → IsLook g p c k pa space o kept given later events
    → All (IsOwnEntry g c k (task.Look pa space) given) (call_entries (granule_bytes g.setup) c k (task.Look pa space) given)
look_allowed g p c k pa space (Some gpi) kept given later events inside look =
    subst (λ (a : Answer). All (IsOwnEntry g c k (task.Look pa space) a) (call_entries (granule_bytes g.setup) c k (task.Look pa space) a)) (sym look.0) (All-nil _)
look_allowed g p c k pa space None kept given later events inside look =
    let is = decided_access g p c k pa space kept look.access later look.deciding look.decided in
    subst (λ (a : Answer). All (IsOwnEntry g c k (task.Look pa space) a) (call_entries (granule_bytes g.setup) c k (task.Look pa space) a)) (sym look.is)
    (subst (All (IsOwnEntry g c k (task.Look pa space) (answer.Seen look.access))) (sym (table_entry g c k pa space look.access is)) (table_allowed g c k pa space look.access inside is))

access_allowed : (g : GeometryData) (p c k : ℕ) (t : Task) (kept : List Walk) (given : Answer) (later : List Walk) (events : List CallEvent) → IsAccess g t → IsCall g p c k t kept given later events
    → All (IsOwnEntry g c k t given) (call_entries (granule_bytes g.setup) c k t given)
access_allowed g p c k (task.Look pa space) kept given later events inside call = look_allowed g p c k pa space (block_gpi_of g pa) kept given later events inside call
access_allowed g p c k t kept given later events inside call = absurd inside

-- those of the answered accesses
pub accessed_each : (Q : Entry → Type 0) (g : GeometryData) (p c k : ℕ) (tasks : List Task) (kept : List Walk) (answers : List Answer) (later : List Walk) (events : List CallEvent) → AreCallEvents g p c k tasks kept answers later events
    → ((j : ℕ) (t : Task) → slice_get tasks j ≡ Some t → IsAccess g t)
    → ((j : ℕ) (t : Task) (a : Answer) (e : Entry) → slice_get tasks j ≡ Some t → slice_get answers j ≡ Some a → IsOwnEntry g c (k + j) t a e → Q e)
    → All Q (answered_entries (granule_bytes g.setup) c k tasks answers)
accessed_each Q g p c k [] kept answers later events are accesses each = All-nil Q
accessed_each Q g p c k (t ∷ tasks) kept [] later events are accesses each = All-nil Q
accessed_each Q g p c k (t ∷ tasks) kept (a ∷ answers) later events are accesses each =
    All-append Q (call_entries (granule_bytes g.setup) c k t a) (answered_entries (granule_bytes g.setup) c (k + 1) tasks answers)
    (All-weaker (IsOwnEntry g c k t a) Q
    (λ e own. each 0 t a e refl refl (subst (λ (n : ℕ). IsOwnEntry g c n t a e) (let here : k ≡ k + 0 = omega arith in here) own))
    (call_entries (granule_bytes g.setup) c k t a) (access_allowed g p c k t kept a are.2 are.0 (accesses 0 t refl) are.4))
    (accessed_each Q g p c (k + 1) tasks are.2 answers later are.1 are.5 (λ j u asks. accesses (suc j) u asks)
    (λ j u b e asks given own. each (suc j) u b e asks given (subst (λ (n : ℕ). IsOwnEntry g c n u b e) (let there : k + 1 + j ≡ k + suc j = omega arith in there) own)))

-- ---- the access under way

decided_under_way : (g : GeometryData) (c k pa : ℕ) (space : Space) (o : Option Gpi) → pa < space_bytes g.setup → (a : Answer) × All (IsOwnEntry g c k (task.Look pa space) a) (decided_entries g c k pa space o)
    × (n : ℕ) × (decided_entries g c k pa space o ≡ take n (call_entries (granule_bytes g.setup) c k (task.Look pa space) a))
decided_under_way g c k pa space None inside = (answer.Inval, All-nil _, 0, refl)
decided_under_way g c k pa space (Some gpi) inside =
    let access : Access = table_access space gpi (via.Cold reach.Word 0 0) in
    (answer.Seen access, table_allowed g c k pa space access inside (record { allowed = refl; level = refl; walked = refl }), 1, refl)

-- the GPI that decided it, if it is decided
abbrev decided_gpi : GeometryData → ℕ → Stage → Option Gpi
decided_gpi g pa (stage.Closing w m) = walk_gpi g pa w
decided_gpi g pa (stage.Touching access) = Some access.gpi
decided_gpi g pa (stage.Leaving access) = Some access.gpi
decided_gpi g pa s = None

look_entries : (g : GeometryData) (c k pa : ℕ) (space : Space) (s : Stage) → decided_entries g c k pa space (decided_gpi g pa s) ≡ entries_at g c k s (Some (task.Look pa space))
look_entries g c k pa space (stage.Closing w m) = refl
look_entries g c k pa space (stage.Touching access) = refl
look_entries g c k pa space (stage.Leaving access) = refl
look_entries g c k pa space s = refl

-- one that isn't under way has made none
pub no_entries : (g : GeometryData) (c k : ℕ) (s : Stage) → entries_at g c k s None ≡ []
no_entries g c k (stage.Closing w m) = refl
no_entries g c k (stage.Touching access) = refl
no_entries g c k (stage.Leaving access) = refl
no_entries g c k s = refl

-- its entries are the first ones of an answer that it can have, and allowed by it
pub access_under_way : (g : GeometryData) (c k : ℕ) (s : Stage) (t : Task) → IsAccess g t → (a : Answer) × All (IsOwnEntry g c k t a) (entries_at g c k s (Some t))
    × (n : ℕ) × (entries_at g c k s (Some t) ≡ take n (call_entries (granule_bytes g.setup) c k t a))
access_under_way g c k s (task.Look pa space) inside =
    subst (λ (es : List Entry). (a : Answer) × All (IsOwnEntry g c k (task.Look pa space) a) es × (n : ℕ) × (es ≡ take n (call_entries (granule_bytes g.setup) c k (task.Look pa space) a)))
    (look_entries g c k pa space s) (decided_under_way g c k pa space (decided_gpi g pa s) inside)
access_under_way g c k s t inside = absurd inside

-- ---- what no entry of an access passes

-- a test that fails on the entries of accesses
abbrev pub FailsLooks : (Entry → Bool) → Type 0
FailsLooks p = (c k granule : ℕ) (space : Space) (gpi : Gpi) (allowed : Bool) → p (entry.Looked c k granule space gpi allowed) ≡ false

seen_fails : (p : Entry → Bool) (bytes c k : ℕ) (t : Task) (given : Answer) → FailsLooks p → is_seen given ≡ true → list_any p (call_entries bytes c k t given) ≡ false
seen_fails p bytes c k (task.Look pa space) (answer.Seen access) fails seen =
    elim (cases_Bool (is_still access.via)) [ inl still ↦ rw still refl | inr other ↦ rw (other, fails c k (pa / bytes) space access.gpi access.allowed) refl ]
seen_fails p bytes c k (task.Delegate pa source) (answer.Seen access) fails seen = refl
seen_fails p bytes c k (task.Undelegate pa source) (answer.Seen access) fails seen = refl
seen_fails p bytes c k task.Unknown (answer.Seen access) fails seen = refl
seen_fails p bytes c k t given fails seen = absurd cc

answered_fail : (p : Entry → Bool) (bytes c k : ℕ) (tasks : List Task) (answers : List Answer) → FailsLooks p → ((j : ℕ) (a : Answer) → slice_get answers j ≡ Some a → is_seen a ≡ true)
    → list_any p (answered_entries bytes c k tasks answers) ≡ false
answered_fail p bytes c k [] answers fails seen = refl
answered_fail p bytes c k (t ∷ tasks) [] fails seen = refl
answered_fail p bytes c k (t ∷ tasks) (a ∷ answers) fails seen =
    list_any-append p (call_entries bytes c k t a) (answered_entries bytes c (k + 1) tasks answers)
    ∙ rw (seen_fails p bytes c k t a fails (seen 0 a refl), answered_fail p bytes c (k + 1) tasks answers fails (λ j b there. seen (suc j) b there)) refl

decided_fails : (p : Entry → Bool) (g : GeometryData) (c k pa : ℕ) (space : Space) (o : Option Gpi) → FailsLooks p → list_any p (decided_entries g c k pa space o) ≡ false
decided_fails p g c k pa space None fails = refl
decided_fails p g c k pa space (Some gpi) fails = rw (fails c k _ space gpi _) refl

under_way_fails : (p : Entry → Bool) (g : GeometryData) (c k : ℕ) (s : Stage) (o : Option Task) → FailsLooks p → list_any p (entries_at g c k s o) ≡ false
under_way_fails p g c k s None fails = ap (list_any p) (no_entries g c k s)
under_way_fails p g c k s (Some (task.Look pa space)) fails = subst (λ (es : List Entry). list_any p es ≡ false) (look_entries g c k pa space s) (decided_fails p g c k pa space (decided_gpi g pa s) fails)
under_way_fails p g c k (stage.Closing w m) (Some (task.Delegate pa source)) fails = refl
under_way_fails p g c k (stage.Touching access) (Some (task.Delegate pa source)) fails = refl
under_way_fails p g c k (stage.Leaving access) (Some (task.Delegate pa source)) fails = refl
under_way_fails p g c k s (Some (task.Delegate pa source)) fails = refl
under_way_fails p g c k (stage.Closing w m) (Some (task.Undelegate pa source)) fails = refl
under_way_fails p g c k (stage.Touching access) (Some (task.Undelegate pa source)) fails = refl
under_way_fails p g c k (stage.Leaving access) (Some (task.Undelegate pa source)) fails = refl
under_way_fails p g c k s (Some (task.Undelegate pa source)) fails = refl
under_way_fails p g c k (stage.Closing w m) (Some task.Unknown) fails = refl
under_way_fails p g c k (stage.Touching access) (Some task.Unknown) fails = refl
under_way_fails p g c k (stage.Leaving access) (Some task.Unknown) fails = refl
under_way_fails p g c k s (Some task.Unknown) fails = refl

pub own_fail : (p : Entry → Bool) (c : ℕ) (q : CpuData) (events : List CallEvent) → FailsLooks p → HasWalked c q events → list_any p (own_entries c q) ≡ false
own_fail p c q events fails walked =
    list_any-append p (answered_entries (granule_bytes q.geometry.setup) c 0 q.tasks q.answers) (entries_at q.geometry c (length q.answers) q.stage (task_of q))
    ∙ rw (
      answered_fail p (granule_bytes q.geometry.setup) c 0 q.tasks q.answers fails (λ j a there. answers_seen q.geometry q.number c 0 j q.tasks [] q.answers walked.kept walked.calls a walked.answered there),
      under_way_fails p q.geometry c (length q.answers) q.stage (task_of q) fails,
    ) refl
