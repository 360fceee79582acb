-- What words are for a history: the tables mean its map, and where a lock is clear the words of its block are canonical.
use Rattle.std.proofs.Common.{◌≡◌, ◌≢◌, ℕ, ◌+◌, ◌*◌, ◌/◌, ◌<◌, ◌⊎◌, List, map, true, Option, Some, None, sym, ap, ◌∙◌, subst, arith, inl, inr}
use Rattle.std.specs.Prelude.{slice_get, slice_index}
use Rattle.std.proofs.lemmas.Nat.{mul-le}
use Rattle.core_machine.proofs.Names.{SetupData, granule_bytes, words_of, table_words, space_bytes, space_words, canonical_word, l1_index, GeometryData, IsGeometry, l0_words, Whole, Holder, apart_by, lock_number, lock_bit, Caller, HoldsIn, Scene, holds, holder_by}
use Rattle.core_machine.proofs.Names.size
use Rattle.gpt_descriptors.specs.Sizes.{word_bytes, region_bytes}
use Rattle.gpt_descriptors.proofs.SizeLemmas.{granule_low, word_is, table_whole}
use Rattle.table_meaning.specs.Meaning.{TablesMean, AreCanonical}
use Rattle.table_meaning.proofs.EquationLemmas.{free_word}
use Rattle.core_machine.specs.InnerInvariant.{LocksAreHeld}
use Rattle.core_machine.specs.Facts.{table_part, map_after}
use Rattle.core_machine.proofs.CallerLemmas.{holder_there, placed_at}
use Rattle.core_machine.proofs.AddressLemmas.{lock_by_granule, lock_of, lock_low, index_inside}
use Rattle.core_machine.proofs.PartLemmas.{part_apart, part_means}
use Rattle.core_machine.proofs.ListLemmas.{some_pass}

-- ---- addresses

word_low : (s : SetupData) (w : ℕ) → w < space_words s → w * word_bytes s < space_bytes s
word_low s w inside =
    let some : 0 < word_bytes s = omega (arith, word_is s, granule_low s) in
    let room = mul-le (w + 1) (word_bytes s) (s.gigabytes * table_words s) (word_bytes s) (omega (arith, inside)) (omega arith) in
    let whole : s.gigabytes * table_words s * word_bytes s ≡ s.gigabytes * region_bytes =
    (let turned : s.gigabytes * table_words s * word_bytes s ≡ s.gigabytes * (table_words s * word_bytes s) = grind arith in turned) ∙ ap (λ (n : ℕ). s.gigabytes * n) (table_whole s) in
    let next : (w + 1) * word_bytes s ≡ w * word_bytes s + word_bytes s = grind arith in
    omega (arith, some, room, whole, next)

-- a granule and a word of one 512 MB have one lock
lock_by_word : (s : SetupData) (granule w : ℕ) → granule / 16 / words_of s size.FiveTwelve ≡ w / words_of s size.FiveTwelve → lock_of s granule ≡ lock_number s (w * word_bytes s)
lock_by_word s granule w same =
    let row : 16 * w / 16 ≡ w = omega arith in
    lock_by_granule s granule (16 * w) (same ∙ ap (λ (n : ℕ). n / words_of s size.FiveTwelve) (sym row))
    ∙ ap (lock_number s) (let word : 16 * w * granule_bytes s ≡ w * (16 * granule_bytes s) = grind arith in word ∙ ap (λ (n : ℕ). w * n) (sym (word_is s)))

-- ---- where a caller is that doesn't hold a lock

-- the caller leaves the tables canonical, or is at work in another 512 MB than word w
abbrev IsAway : GeometryData → ℕ → Holder → Type 0
IsAway g w h = (h.step ≡ Whole) ⊎ (h.granule / 16 / words_of g.setup size.FiveTwelve ≢ w / words_of g.setup size.FiveTwelve)

-- nobody holds a lock that is clear
not_held : (words : List ℕ) (callers : List Caller) (d n : ℕ) (x : Caller) → LocksAreHeld words callers → n < 128 → lock_bit words n ≡ 0 → slice_get callers d ≡ Some x → holds n x ≡ true → ⊥
not_held words callers d n x locks below clear at has = omega (arith, some_pass (holds n) callers d x at has, locks n below, clear)

caller_away : (g : GeometryData) (s : Scene) (d w : ℕ) (x : Caller) → HoldsIn g s → lock_number g.setup (w * word_bytes g.setup) < 128 → lock_bit s.words (lock_number g.setup (w * word_bytes g.setup)) ≡ 0 → slice_get s.callers d ≡ Some x → IsAway g w (holder_by x)
caller_away g s d w x stands below clear at =
    elim ((placed_at g s d x stands at).holder) [
      | inl whole ↦ inl whole
      | inr has ↦
          inr
          (λ same. not_held s.words s.callers d (lock_number g.setup (w * word_bytes g.setup)) x stands.locks below clear at
          (subst (λ (n : ℕ). holds n x ≡ true) (lock_by_word g.setup (holder_by x).granule w same) has))
    ]

-- ---- what the words are

pub tables_told : (g : GeometryData) (s : Scene) → HoldsIn g s → TablesMean g.setup (l0_words g) (table_part g s.words) (map_after s.first s.history)
tables_told g s stands = part_means g s.words s.callers (map_after s.first s.history) stands.shape.geometry stands.shape.size stands.tables

clear_low : (g : GeometryData) (w i : ℕ) → IsGeometry g → l1_index g.setup (l0_words g) w ≡ Some i → lock_number g.setup (w * word_bytes g.setup) < 128
clear_low g w i geometry at = lock_low g.setup (w * word_bytes g.setup) geometry.setup (word_low g.setup w (index_inside g w i geometry at))

-- each word is canonical apart from one granule at most, and from none where its lock is clear
pub words_told : (g : GeometryData) (s : Scene) → HoldsIn g s → (w i : ℕ) → l1_index g.setup (l0_words g) w ≡ Some i
    → (apart : Option ℕ) × (slice_index (table_part g s.words) i ≡ canonical_word g.setup (map_after s.first s.history) apart w)
    × (lock_bit s.words (lock_number g.setup (w * word_bytes g.setup)) ≡ 0 → apart ≡ None)
words_told g s stands w i at =
    let below = clear_low g w i stands.shape.geometry at in (
      apart_by g.setup (map holder_by s.callers) w,
      part_apart g (map_after s.first s.history) (apart_by g.setup (map holder_by s.callers)) s.words stands.shape.geometry stands.tables.level1 w i at,
      λ clear. free_word g.setup (map holder_by s.callers) w
          (λ d h there.
          let own = holder_there s.callers d h there in
          subst (IsAway g w) own.2
          (caller_away g s d w own.0 stands below clear own.1)),
    )

-- where no lock is held each word is canonical
pub whole_told : {A : Type 0} (g : GeometryData) (s : Scene) → HoldsIn g s → (A → (n : ℕ) → n < 128 → lock_bit s.words n ≡ 0) → A → AreCanonical g.setup (l0_words g) (table_part g s.words) (map_after s.first s.history)
whole_told g s stands ended all w i at =
    let told = words_told g s stands w i at in
    told.1 ∙ ap (λ (o : Option ℕ). canonical_word g.setup (map_after s.first s.history) o w)
    (told.2 (ended all (lock_number g.setup (w * word_bytes g.setup)) (clear_low g w i stands.shape.geometry at)))
