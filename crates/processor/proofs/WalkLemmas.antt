-- Walks around an address: those that are made, and those that are kept and found.
use Rattle.std.proofs.Common.{◌≡◌, ℕ, ◌-◌, ◌<◌, ◌≤◌, ◌++◌, ◌∷◌, [], List, Bool, true, false, Option, Some, None, length, refl, sym, subst, arith, if◌then◌else◌}
use Rattle.std.specs.Prelude.{IsSome, ◌==◌}
use Rattle.std.specs.List.{All}
use Rattle.std.specs.Option.{option_map}
use Rattle.std.proofs.lemmas.List.Elements.{All-nil, All-cons, All-head, All-tail, All-append, All-drop}
use Rattle.std.proofs.lemmas.Nat.{mod_below}
use Rattle.gpi_values.specs.declared.gpi.Gpi.{Gpi}
use Rattle.gpi_values.specs.declared.gpi.Space.{Space}
use Rattle.gpt_descriptors.specs.declared.size.Size.{Size}
use Rattle.gpt_descriptors.specs.declared.size.Size.TheVariants as size
use Rattle.gpt_descriptors.specs.declared.size.Reach.{Reach}
use Rattle.gpt_descriptors.specs.declared.size.Reach.TheVariants as reach
use Rattle.gpt_descriptors.specs.declared.size.Generations.{Generations}
use Rattle.gpt_descriptors.specs.declared.entry.L1Entry.{L1Entry}
use Rattle.gpt_descriptors.specs.Sizes.{space_bytes, place_in_word, reach_with, tag_size_of, generation_in, with_generation}
use Rattle.gpt_descriptors.specs.Entries.{l1_entry, word_reach}
use Rattle.gpt_descriptors.specs.Places.{GeometryData}
use Rattle.gpt_descriptors.proofs.FieldEntryLemmas.{descriptor_gpi}
use Rattle.walk_cache.specs.declared.walk.Walk.{Walk}
use Rattle.walk_cache.specs.Rings.{RingData, IsRing, first_around, covers_from, newest_of, last_of}
use Rattle.walk_cache.proofs.RingLemmas.{if_found, length-last}
use Rattle.history.specs.declared.call.Access.{Access}
use Rattle.history.specs.declared.call.OldWalk.{OldWalk}
use Rattle.history.specs.declared.call.Via.{Via}
use Rattle.history.specs.declared.call.Via.TheVariants as via
use Rattle.processor.specs.InnerProgress.{Stage}
use Rattle.processor.specs.InnerProgress as stage
use Rattle.processor.specs.Accesses.{walk_with, walk_of, walk_gpi, table_access}
use Rattle.processor.specs.InnerProgress.{no_generations, old_walk, after_search, decided_stage, after_decision, after_try, after_load, after_word, after_at, ring_after}
use Rattle.processor.specs.InnerCpus.{IsWalk, IsWalkAt, IsAccessAt}

-- ---- a walk that is made

around_within : (r : Reach) (pa : ℕ) → first_around r pa ≤ pa
around_within reach.Word pa = omega arith
around_within reach.Two pa = omega arith
around_within reach.ThirtyTwo pa = omega arith
around_within reach.FiveTwelve pa = omega arith

around_again : (r : Reach) (pa : ℕ) → first_around r (first_around r pa) ≡ first_around r pa
around_again reach.Word pa = omega arith
around_again reach.Two pa = omega arith
around_again reach.ThirtyTwo pa = omega arith
around_again reach.FiveTwelve pa = omega arith

around_covers : (r : Reach) (pa : ℕ) → covers_from r (first_around r pa) pa ≡ true
around_covers reach.Word pa = grind arith
around_covers reach.Two pa = grind arith
around_covers reach.ThirtyTwo pa = grind arith
around_covers reach.FiveTwelve pa = grind arith

walk_with_is : (g : GeometryData) (pa : ℕ) (k : Generations) (word : ℕ) (o : Option Reach) (w : Walk) → pa < space_bytes g.setup → word_reach word ≡ o → walk_with o pa k word ≡ Some w → IsWalkAt g pa w
walk_with_is g pa k word None w inside reaches made = absurd cc
walk_with_is g pa k word (Some r) w inside reaches made =
    let within = around_within r pa in
    let low : first_around r pa < space_bytes g.setup = omega arith in
    let same : record { reach = r; first = first_around r pa; word = word; tag = generation_in (tag_size_of r) k } ≡ w = cc in
    subst (IsWalkAt g pa) same (record { word = reaches; aligned = around_again r pa; inside = low }, around_covers r pa)

pub walk_is : (g : GeometryData) (pa : ℕ) (k : Generations) (word : ℕ) (w : Walk) → pa < space_bytes g.setup → walk_of pa k word ≡ Some w → IsWalkAt g pa w
walk_is g pa k word w inside made = walk_with_is g pa k word (word_reach word) w inside refl made

-- a descriptor gives a walk
walk_there : (pa : ℕ) (k : Generations) (word : ℕ) (o : Option Reach) → IsSome o → (w : Walk) × (walk_with o pa k word ≡ Some w)
walk_there pa k word None reaches = absurd cc
walk_there pa k word (Some r) reaches = (_, refl)

reach_there : (o : Option L1Entry) → IsSome o → IsSome (option_map reach_with o)
reach_there None is = absurd cc
reach_there (Some entry) is = refl

pub descriptor_walk : (pa : ℕ) (k : Generations) (word : ℕ) → IsSome (l1_entry word) → (w : Walk) × (walk_of pa k word ≡ Some w)
descriptor_walk pa k word is = walk_there pa k word (word_reach word) (reach_there (l1_entry word) is)

-- ---- what a walk gives

entry_there : (o : Option L1Entry) (r : Reach) → option_map reach_with o ≡ Some r → IsSome o
entry_there None r reaches = absurd cc
entry_there (Some entry) r reaches = refl

-- its word is a descriptor
pub walk_word : (g : GeometryData) (w : Walk) → IsWalk g w → IsSome (l1_entry w.word)
walk_word g w is = entry_there (l1_entry w.word) w.reach is.word

gpi_there : (o : Option Gpi) → IsSome o → (gpi : Gpi) × (o ≡ Some gpi)
gpi_there None is = absurd cc
gpi_there (Some gpi) is = (gpi, refl)

-- and gives each granule a GPI
pub walk_means : (g : GeometryData) (pa : ℕ) (w : Walk) → IsWalk g w → (gpi : Gpi) × (walk_gpi g pa w ≡ Some gpi)
walk_means g pa w is =
    gpi_there (walk_gpi g pa w) (descriptor_gpi w.word (place_in_word g.setup pa) (walk_word g w is) (mod_below _ 16 (omega arith)))

-- ---- walks that are kept

all_member : {X : Type 0} (P : X → Type 0) (earlier : List X) (x : X) (later : List X) → All P (earlier ++ x ∷ later) → P x
all_member P [] x later all = All-head P x later all
all_member P (y ∷ earlier) x later all = all_member P earlier x later (All-tail P y (earlier ++ x ∷ later) all)

-- the one that is found
pub found_is : (g : GeometryData) (kept : List Walk) (pa : ℕ) (w : Walk) → All (IsWalk g) kept → newest_of kept pa ≡ Some w → IsWalkAt g pa w
found_is g kept pa w walks newest =
    let found = if_found kept pa (Some w) (sym newest) in
    (all_member (IsWalk g) found.earlier w found.later (subst (All (IsWalk g)) found.parts walks), found.here)

-- the ring after a note
pub noted_walks : (g : GeometryData) (n : ℕ) (kept : List Walk) (w : Walk) → All (IsWalk g) kept → IsWalk g w → All (IsWalk g) (last_of n (kept ++ w ∷ []))
noted_walks g n kept w walks is =
    All-drop (IsWalk g) (length (kept ++ w ∷ []) - n) (kept ++ w ∷ []) (All-append (IsWalk g) kept (w ∷ []) walks (All-cons (IsWalk g) w [] is (All-nil (IsWalk g))))

pub ring_is : (s : Stage) (r : RingData) → IsRing r → IsRing (ring_after s r)
ring_is (stage.Closing w m) r is = record { low = is.low; high = is.high; within = length-last r.ring (r.walks ++ w ∷ []) }
ring_is s r is = is

pub ring_walks : (g : GeometryData) (pa : ℕ) (s : Stage) (r : RingData) → All (IsWalk g) r.walks → IsAccessAt g pa s → All (IsWalk g) (ring_after s r).walks
ring_walks g pa (stage.Closing w m) r walks at = noted_walks g r.ring r.walks w walks at.0
ring_walks g pa s r walks at = walks

pub ring_keeps : (s : Stage) (r : RingData) → (ring_after s r).ring ≡ r.ring
ring_keeps (stage.Closing w m) r = refl
ring_keeps s r = refl

-- ---- the access under way keeps one around its address

search_at : (g : GeometryData) (kept : List Walk) (pa : ℕ) (o : Option Walk) → All (IsWalk g) kept → newest_of kept pa ≡ o → IsAccessAt g pa (after_search o)
search_at g kept pa None walks newest = tt
search_at g kept pa (Some w) walks newest = found_is g kept pa w walks newest

choice_at : (g : GeometryData) (pa : ℕ) (b : Bool) (s t : Stage) → IsAccessAt g pa s → IsAccessAt g pa t → IsAccessAt g pa (if b then s else t)
choice_at g pa true s t at_s at_t = at_s
choice_at g pa false s t at_s at_t = at_t

decided_at : (g : GeometryData) (pa : ℕ) (a : Access) → IsAccessAt g pa (decided_stage a)
decided_at g pa a = choice_at g pa a.allowed (stage.Touching a) (stage.Leaving a) tt tt

decision_at : (g : GeometryData) (pa : ℕ) (s : Stage) (o : Option Gpi) (space : Space) (v : Via) → IsAccessAt g pa s → IsAccessAt g pa (after_decision s o space v)
decision_at g pa s None space v at = at
decision_at g pa s (Some gpi) space v at = decided_at g pa (table_access space gpi v)

load_at : (g : GeometryData) (pa : ℕ) (z : Size) (k : Generations) (m : Option OldWalk) → IsAccessAt g pa (after_load z k m)
load_at g pa size.Two k m = tt
load_at g pa size.ThirtyTwo k m = tt
load_at g pa size.FiveTwelve k m = tt

word_at : (g : GeometryData) (pa : ℕ) (k : Generations) (word : ℕ) (m : Option OldWalk) (o : Option Walk) → pa < space_bytes g.setup → walk_of pa k word ≡ o → IsAccessAt g pa (after_word k m o)
word_at g pa k word m None inside made = tt
word_at g pa k word m (Some w) inside made = walk_is g pa k word w inside made

pub after_is : (g : GeometryData) (kept : List Walk) (pa : ℕ) (space : Space) (s : Stage) (old : ℕ) → pa < space_bytes g.setup → All (IsWalk g) kept → IsAccessAt g pa s
    → IsAccessAt g pa (after_at g kept pa space s old)
after_is g kept pa space stage.Starting old inside walks at = search_at g kept pa (newest_of kept pa) walks refl
after_is g kept pa space (stage.Trying w) old inside walks at =
    choice_at g pa (old == w.tag) _ (stage.Loading size.Two no_generations (Some (old_walk w old))) (decision_at g pa (stage.Trying w) (walk_gpi g pa w) space (via.Hit w.reach w.tag) at) tt
after_is g kept pa space (stage.Loading z k m) old inside walks at = load_at g pa z (with_generation z old k) m
after_is g kept pa space (stage.Walking k m) old inside walks at = word_at g pa k old m (walk_of pa k old) inside refl
after_is g kept pa space (stage.Closing w m) old inside walks at = decision_at g pa (stage.Closing w m) (walk_gpi g pa w) space _ at
after_is g kept pa space (stage.Touching a) old inside walks at = tt
after_is g kept pa space (stage.Leaving a) old inside walks at = tt
