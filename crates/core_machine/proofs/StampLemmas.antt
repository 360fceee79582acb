-- The generations that accesses have loaded, and the stamps of accesses: what later acts leave of them.
use Rattle.std.proofs.Common.{◌≡◌, ℕ, zero, suc, ◌*◌, ◌/◌, ◌≤◌, ◌<◌, ◌++◌, ◌∷◌, [], List, Option, Some, None, length, set, refl, sym, ap, ◌∙◌, subst, arith, inl, inr}
use Rattle.std.specs.Prelude.{slice_get, slice_index}
use Rattle.std.proofs.lemmas.Bool.{cases_eq}
use Rattle.std.proofs.lemmas.List.{get_or-set_other, get_or-set_same}
use Rattle.std.proofs.Math.Nat.{mul_comm, div-div-eq-div-mul}
use Rattle.core_machine.proofs.Names.{Gpi, Size, SetupData, granule_bytes, size_bytes, space_bytes, words_of, GeometryData, gen_place_of, blocks_in_region, generation_word, Task, Answer, Entry, region_of, Caller, IsMade, number_by, generation_in}
use Rattle.core_machine.proofs.Names.task
use Rattle.core_machine.proofs.Names.caller
use Rattle.gpi_values.specs.declared.gpi.Space.{Space}
use Rattle.gpt_descriptors.specs.Sizes.{word_bytes, tag_size_of}
use Rattle.gpt_descriptors.specs.Places.{block_gpi_of}
use Rattle.gpt_descriptors.proofs.SizeLemmas.{words_whole}
use Rattle.gpt_descriptors.proofs.PlaceLemmas.{generation_named}
use Rattle.history.specs.Stamps.{IsStampedCall}
use Rattle.history.proofs.StampLemmas.{decided_later, stamped_later, stamped_calls_later, still_call}
use Rattle.processor.specs.Accesses.{IsAccess, block_answer}
use Rattle.processor.specs.InnerProgress.{Stage}
use Rattle.processor.specs.InnerProgress as stage
use Rattle.processor.specs.InnerCpus.{answered_first, idle_answer, idle_answers, task_of}
use Rattle.processor.proofs.CpuLemmas.{access_at, some_mapped}
use Rattle.history.specs.declared.call.OldWalk.{OldWalk}
use Rattle.core_machine.specs.InnerCpuCaller.{IsLoaded, IsOld, loads_at, loads_by, stamps_at, stamps_by}
use Rattle.core_machine.specs.InnerCallers.{HasLoaded, HasOwnStamps}
use Rattle.core_machine.proofs.AddressLemmas.{granule_back, word_by_granule}

-- ---- generations only rise

abbrev pub Rises : GeometryData → List ℕ → List ℕ → Type 0
Rises g words after = (y : Size) (region : ℕ) → region < blocks_in_region y * g.setup.gigabytes → generation_word g words y region ≤ generation_word g after y region

-- a word that is stored anew and isn't less
pub rises_one : (words : List ℕ) (p d v : ℕ) → p < length words → slice_index words p ≤ v → slice_index words d ≤ slice_index (set words p v) d
rises_one words p d v within more =
    elim (cases_eq d p) [
      | inl same ↦
          subst (λ (n : ℕ). slice_index words n ≤ slice_index (set words p v) n) (sym same)
          (let new : slice_index (set words p v) p ≡ v = get_or-set_same words p v 0 within in omega (arith, new, more))
      | inr apart ↦ (let old : slice_index (set words p v) d ≡ slice_index words d = get_or-set_other words p d v 0 apart in omega (arith, old))
    ]

loaded_rises : (g : GeometryData) (words after : List ℕ) (pa : ℕ) (y : Size) (value : ℕ) → pa < space_bytes g.setup → Rises g words after → IsLoaded g words pa y value → IsLoaded g after pa y value
loaded_rises g words after pa y value inside rises loaded =
    let more : slice_index words (gen_place_of g y pa) ≤ slice_index after (gen_place_of g y pa) = rises y (pa / size_bytes y) (generation_named g y pa inside) in
    (loaded.0, omega (arith, loaded.1, more))

old_rises : (g : GeometryData) (words after : List ℕ) (pa : ℕ) (o : Option OldWalk) → pa < space_bytes g.setup → Rises g words after → IsOld g words pa o → IsOld g after pa o
old_rises g words after pa None inside rises old = tt
old_rises g words after pa (Some walk) inside rises old = (old.0, loaded_rises g words after pa (tag_size_of walk.reach) walk.at inside rises old.1)

loads_rise : (g : GeometryData) (words after : List ℕ) (pa : ℕ) (s : Stage) → pa < space_bytes g.setup → Rises g words after → loads_at g words pa s → loads_at g after pa s
loads_rise g words after pa (stage.Loading z k m) inside rises loads = (old_rises g words after pa m inside rises loads.0, λ y before. loaded_rises g words after pa y (generation_in y k) inside rises (loads.1 y before))
loads_rise g words after pa (stage.Walking k m) inside rises loads = (old_rises g words after pa m inside rises loads.0, λ y. loaded_rises g words after pa y (generation_in y k) inside rises (loads.1 y))
loads_rise g words after pa (stage.Closing w m) inside rises loads = loaded_rises g words after pa (tag_size_of w.reach) w.tag inside rises loads
loads_rise g words after pa s inside rises loads = tt

task_loads_rise : (g : GeometryData) (words after : List ℕ) (s : Stage) (o : Option Task) → ((t : Task) → o ≡ Some t → IsAccess g t) → Rises g words after → loads_by g words s o → loads_by g after s o
task_loads_rise g words after s (Some (task.Look pa space)) access rises loads = loads_rise g words after pa s (access (task.Look pa space) refl) rises loads
task_loads_rise g words after s o access rises loads = tt

-- so what a caller has loaded is at most what the words are
pub caller_loads_rise : (g : GeometryData) (words after : List ℕ) (x : Caller) → IsMade g x → Rises g words after → HasLoaded words x → HasLoaded after x
caller_loads_rise g words after (caller.Agent a) made rises loads = tt
caller_loads_rise g words after (caller.Cpu q) made rises loads =
    task_loads_rise q.geometry words after q.stage (task_of q) (λ t under_way. access_at q t made.1 under_way) (subst (λ (k : GeometryData). Rises k words after) (sym made.0) rises) loads

-- ---- histories only grow

at_grows : (g : GeometryData) (map : List Gpi) (c k pa : ℕ) (space : Space) (s : Stage) (h made : List Entry) → stamps_at g map c k pa space s h → stamps_at g map c k pa space s (h ++ made)
at_grows g map c k pa space (stage.Closing w m) h made stamps =
    record { gpi = stamps.gpi; gives = stamps.gives; decided = decided_later map g.setup.first (granule_bytes g.setup) c k _ space stamps.gpi _ m w.reach w.tag h made _ refl stamps.decided }
at_grows g map c k pa space (stage.Touching access) h made stamps = stamped_later map g.setup.first (granule_bytes g.setup) c k _ space _ h made _ refl stamps
at_grows g map c k pa space (stage.Leaving access) h made stamps = stamped_later map g.setup.first (granule_bytes g.setup) c k _ space _ h made _ refl stamps
at_grows g map c k pa space s h made stamps = tt

by_grows : (g : GeometryData) (map : List Gpi) (c k : ℕ) (s : Stage) (o : Option Task) (h made : List Entry) → stamps_by g map c k s o h → stamps_by g map c k s o (h ++ made)
by_grows g map c k s (Some (task.Look pa space)) h made stamps = at_grows g map c k pa space s h made stamps
by_grows g map c k s o h made stamps = tt

-- so the stamps of a caller stay
pub own_stamps_grow : (map : List Gpi) (h made : List Entry) (c : ℕ) (x : Caller) → HasOwnStamps map h c x → HasOwnStamps map (h ++ made) c x
own_stamps_grow map h made c (caller.Agent a) stamps = tt
own_stamps_grow map h made c (caller.Cpu q) stamps = (
  stamped_calls_later map q.geometry.setup.first (granule_bytes q.geometry.setup) c q.tasks q.answers h made _ refl stamps.0,
  by_grows q.geometry map c (length q.answers) q.stage (task_of q) h made stamps.1,
)

-- ---- who has none

pub no_loads : (words : List ℕ) (x : Caller) → number_by x ≡ None → HasLoaded words x
no_loads words (caller.Agent a) none = tt
no_loads words (caller.Cpu q) none = absurd cc

pub no_stamps : (map : List Gpi) (h : List Entry) (c : ℕ) (x : Caller) → number_by x ≡ None → HasOwnStamps map h c x
no_stamps map h c (caller.Agent a) none = tt
no_stamps map h c (caller.Cpu q) none = absurd cc

pub starting_loads : (g : GeometryData) (words : List ℕ) (o : Option Task) → loads_by g words stage.Starting o
starting_loads g words None = tt
starting_loads g words (Some (task.Look pa space)) = tt
starting_loads g words (Some (task.Delegate pa source)) = tt
starting_loads g words (Some (task.Undelegate pa source)) = tt
starting_loads g words (Some task.Unknown) = tt

pub starting_stamps : (g : GeometryData) (map : List Gpi) (c k : ℕ) (o : Option Task) (h : List Entry) → stamps_by g map c k stage.Starting o h
starting_stamps g map c k None h = tt
starting_stamps g map c k (Some (task.Look pa space)) h = tt
starting_stamps g map c k (Some (task.Delegate pa source)) h = tt
starting_stamps g map c k (Some (task.Undelegate pa source)) h = tt
starting_stamps g map c k (Some task.Unknown) h = tt

idle_one : (g : GeometryData) (map : List Gpi) (first bytes c k : ℕ) (u t : Task) (given : Answer) (h : List Entry) → idle_answer g u ≡ Some given → IsStampedCall map first bytes c k t given h
idle_one g map first bytes c k (task.Look pa space) t given h idle =
    let block = some_mapped (block_answer space) (block_gpi_of g pa) given idle in
    subst (λ (a : Answer). IsStampedCall map first bytes c k t a h) block.2 (still_call map first bytes c k t _ h refl)
idle_one g map first bytes c k u t given h idle = absurd cc

idle_head : (g : GeometryData) (map : List Gpi) (first bytes c k i : ℕ) (u t : Task) (o : Option Answer) (rest : List Answer) (given : Answer) (h : List Entry) → idle_answer g u ≡ o
    → ((j : ℕ) → slice_get rest j ≡ Some given → IsStampedCall map first bytes c k t given h) → slice_get (answered_first o rest) i ≡ Some given → IsStampedCall map first bytes c k t given h
idle_head g map first bytes c k i u t None rest given h idle later there = absurd cc
idle_head g map first bytes c k zero u t (Some a) rest given h idle later there = idle_one g map first bytes c k u t given h (idle ∙ there)
idle_head g map first bytes c k (suc i) u t (Some a) rest given h idle later there = later i there

pub idle_unstamped : (g : GeometryData) (map : List Gpi) (first bytes c k i : ℕ) (tasks : List Task) (t : Task) (given : Answer) (h : List Entry) → slice_get (idle_answers g tasks) i ≡ Some given → IsStampedCall map first bytes c k t given h
idle_unstamped g map first bytes c k i [] t given h there = absurd cc
idle_unstamped g map first bytes c k i (u ∷ tasks) t given h there =
    idle_head g map first bytes c k i u t (idle_answer g u) (idle_answers g tasks) given h refl (λ j later. idle_unstamped g map first bytes c k j tasks t given h later) there

-- ---- regions

-- the region of a granule is that of each address in it
pub region_around : (s : SetupData) (y : Size) (pa : ℕ) → region_of (granule_bytes s) y (pa / granule_bytes s) ≡ pa / size_bytes y
region_around s y pa =
    let q : ℕ = pa / granule_bytes s * granule_bytes s in
    let n : ℕ = words_of s y in
    let whole : word_bytes s * n ≡ size_bytes y = mul_comm (word_bytes s) n ∙ words_whole s y in
    ap (λ (b : ℕ). q / b) (sym whole) ∙ sym (div-div-eq-div-mul q (word_bytes s) n)
    ∙ ap (λ (w : ℕ). w / n) (word_by_granule s q ∙ ap (λ (m : ℕ). m / 16) (granule_back s (pa / granule_bytes s)) ∙ sym (word_by_granule s pa))
    ∙ div-div-eq-div-mul pa (word_bytes s) n ∙ ap (λ (b : ℕ). pa / b) whole
