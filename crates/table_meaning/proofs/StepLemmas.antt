-- Each step of a transition keeps the equation of L1 words.
use Rattle.std.proofs.Common.{◌≡◌, ◌≢◌, ℕ, ◌+◌, ◌*◌, ◌/◌, ◌%◌, ◌<◌, Bool, true, false, cond, List, length, set, Option, Some, None, refl, sym, ap, ◌∙◌, arith, inl, inr}
use Rattle.std.specs.Prelude.{slice_get, slice_index}
use Rattle.std.proofs.lemmas.Bool.{cases_Bool, cases_eq, eq-eqb, ne_eqb}
use Rattle.gpi_values.specs.declared.gpi.Gpi.{Gpi}
use Rattle.gpi_values.specs.Values.{value_of}
use Rattle.gpt_descriptors.specs.declared.size.Size.{Size}
use Rattle.gpt_descriptors.specs.declared.size.Size.TheVariants as size
use Rattle.gpt_descriptors.specs.declared.size.MaxBlock.{MaxBlock}
use Rattle.gpt_descriptors.specs.declared.entry.L1Entry.TheVariants as l1
use Rattle.gpt_descriptors.specs.Sizes.{SetupData, words_of, is_permitted}
use Rattle.gpt_descriptors.specs.Entries.{l1_word}
use Rattle.gpt_descriptors.specs.Fields.{with_field, granules_of}
use Rattle.gpt_descriptors.specs.Canonical.{largest_block, canonical_word}
use Rattle.gpt_descriptors.specs.Level0.{l1_index}
use Rattle.gpt_descriptors.specs.Places.{GeometryData, Level1, l0_words, place_of}
use Rattle.gpt_descriptors.proofs.PackedLemmas.{granules_one}
use Rattle.gpt_descriptors.proofs.BlockLemmas.{from_start, in_widest}
use Rattle.gpt_descriptors.proofs.AroundLemmas.{largest_permitted, largest_block_is, contiguous_word, own_word}
use Rattle.table_meaning.specs.Splitting.{block_start, is_stored, split_around}
use Rattle.table_meaning.specs.declared.fusing.Fusing.{Fusing}
use Rattle.table_meaning.specs.declared.fusing.Fusing.TheVariants.{Testing, Storing, Ended}
use Rattle.table_meaning.specs.Fusing.{block_words, test_or_store, passed, failed, loaded, stored, begun, loads_of, needed_word, Knows}
use Rattle.table_meaning.specs.Equation.{Step, Whole, Splitting, Apart, Merging, Holder, apart_in, apart_by, AreWords, IsAlone}
use Rattle.table_meaning.specs.Facts.{merging_step}
use Rattle.table_meaning.proofs.ChangeLemmas.{apart_same, change_apart, change_own, change_elsewhere}
use Rattle.table_meaning.proofs.SplitLemmas.{split_around_is, stored_low, stored_high, stored_from, split_whole, merged_whole}
use Rattle.table_meaning.proofs.FusingLemmas.{block_words_is}
use Rattle.table_meaning.proofs.EquationLemmas.{still_words, stored_words, by_own, holder_moves, holder_set_same, alone_stays}

-- ---- a step without a store, and one with a store, by what they do within the holder's own 512 MB

pub holder_steps : (g : GeometryData) (m : ℕ → Gpi) (hs : List Holder) (c granule : ℕ) (before after : Step) (words : List ℕ)
    → slice_get hs c ≡ Some (record { granule = granule; step = before }) → IsAlone g.setup hs c granule
    → ((w : ℕ) → canonical_word g.setup m (apart_in g.setup granule w before) w ≡ canonical_word g.setup m (apart_in g.setup granule w after) w)
    → AreWords g m (apart_by g.setup hs) words → AreWords g m (apart_by g.setup (set hs c (record { granule = granule; step = after }))) words
holder_steps g m hs c granule before after words at alone own are =
    still_words g m m (apart_by g.setup hs) (apart_by g.setup (set hs c (record { granule = granule; step = after }))) words
    (λ w. holder_moves g.setup m m hs c granule before after w at alone (own w) (λ outside a. refl)) are

pub holder_stores : (g : GeometryData) (m l : ℕ → Gpi) (hs : List Holder) (c granule : ℕ) (before after : Step) (words : List ℕ) (v i word : ℕ)
    → slice_get hs c ≡ Some (record { granule = granule; step = before }) → IsAlone g.setup hs c granule
    → l1_index g.setup (l0_words g) v ≡ Some i → place_of g (Level1 i) < length words
    → granule / 16 / words_of g.setup size.FiveTwelve ≡ v / words_of g.setup size.FiveTwelve
    → word ≡ canonical_word g.setup l (apart_in g.setup granule v after) v
    → ((w : ℕ) → w ≢ v → canonical_word g.setup m (apart_in g.setup granule w before) w ≡ canonical_word g.setup l (apart_in g.setup granule w after) w)
    → ((w : ℕ) → granule / 16 / words_of g.setup size.FiveTwelve ≢ w / words_of g.setup size.FiveTwelve → (a : Option ℕ) → canonical_word g.setup m a w ≡ canonical_word g.setup l a w)
    → AreWords g m (apart_by g.setup hs) words
    → AreWords g l (apart_by g.setup (set hs c (record { granule = granule; step = after }))) (set words (place_of g (Level1 i)) word)
holder_stores g m l hs c granule before after words v i word at alone index place inside is own elsewhere are =
    let s = g.setup in
    let old : Holder = record { granule = granule; step = before } in
    let new : Holder = record { granule = granule; step = after } in
    stored_words g m l (apart_by s hs) (apart_by s (set hs c new)) words v i word index place
    (is ∙ ap (λ (o : Option ℕ). canonical_word s l o v) (sym (by_own s (set hs c new) c granule after v (holder_set_same hs c old new at) (alone_stays s hs c granule new alone) inside)))
    (λ w other. holder_moves s m l hs c granule before after w at alone (own w other) (elsewhere w)) are

-- what a holder reads within its own 512 MB
pub holder_reads : (g : GeometryData) (m : ℕ → Gpi) (hs : List Holder) (c granule : ℕ) (step : Step) (words : List ℕ) (w i : ℕ)
    → slice_get hs c ≡ Some (record { granule = granule; step = step }) → IsAlone g.setup hs c granule → l1_index g.setup (l0_words g) w ≡ Some i
    → granule / 16 / words_of g.setup size.FiveTwelve ≡ w / words_of g.setup size.FiveTwelve → AreWords g m (apart_by g.setup hs) words
    → slice_index words (place_of g (Level1 i)) ≡ canonical_word g.setup m (apart_in g.setup granule w step) w
holder_reads g m hs c granule step words w i at alone index inside are =
    are w i index ∙ ap (λ (o : Option ℕ). canonical_word g.setup m o w) (by_own g.setup hs c granule step w at alone inside)

-- ---- the first k words of a block

pub none_stored : (s : SetupData) (z : Size) (v w : ℕ) → is_stored s z v 0 w ≡ false
none_stored s z v w =
    elim (cases_Bool (is_stored s z v 0 w)) [
      | inl stored ↦ absurd (let low = stored_low s z v 0 w stored in let high = stored_high s z v 0 w stored in omega (arith, low, high))
      | inr none ↦ none
    ]

pub stored_last : (s : SetupData) (z : Size) (v k : ℕ) → is_stored s z v (k + 1) (block_start s z v + k) ≡ true
stored_last s z v k = stored_from s z v (k + 1) (block_start s z v + k) (omega arith) (omega arith)

pub stored_step : (s : SetupData) (z : Size) (v k w : ℕ) → w ≢ block_start s z v + k → is_stored s z v k w ≡ is_stored s z v (k + 1) w
stored_step s z v k w other =
    elim (cases_Bool (is_stored s z v k w)) [
      | inl stored ↦ stored ∙ sym (stored_from s z v (k + 1) w (stored_low s z v k w stored) (omega (arith, stored_high s z v k w stored)))
      | inr none ↦ elim (cases_Bool (is_stored s z v (k + 1) w)) [
        | inr neither ↦ none ∙ sym neither
        | inl stored ↦
            let high : w < block_start s z v + k = omega (arith, other, stored_high s z v (k + 1) w stored) in
            absurd (let here = stored_from s z v k w (stored_low s z v (k + 1) w stored) high in cc)
      ]
    ]

-- each of them is in the holder's block, and so in its 512 MB
pub store_block : (s : SetupData) (z : Size) (v k : ℕ) → k < words_of s z → (block_start s z v + k) / words_of s z ≡ v / words_of s z
store_block s z v k low = from_start (words_of s z) (v / words_of s z) (block_start s z v + k) (omega arith) (omega (arith, low))

pub store_inside : (s : SetupData) (z : Size) (v k : ℕ) → k < words_of s z → v / words_of s size.FiveTwelve ≡ (block_start s z v + k) / words_of s size.FiveTwelve
store_inside s z v k low = sym (in_widest s z (block_start s z v + k) v (store_block s z v k low))

-- ---- splitting

pub split_begin : (g : GeometryData) (m : ℕ → Gpi) (hs : List Holder) (c granule : ℕ) (z : Size) (words : List ℕ) → slice_get hs c ≡ Some (record { granule = granule; step = Whole })
    → IsAlone g.setup hs c granule → AreWords g m (apart_by g.setup hs) words → AreWords g m (apart_by g.setup (set hs c (record { granule = granule; step = Splitting z 0 }))) words
split_begin g m hs c granule z words at alone are =
    holder_steps g m hs c granule Whole (Splitting z 0) words at alone (λ w. rw (none_stored g.setup z (granule / 16) w) refl) are

pub split_store : (g : GeometryData) (m : ℕ → Gpi) (hs : List Holder) (c granule : ℕ) (z : Size) (k i : ℕ) (gpi : Gpi) (words : List ℕ)
    → slice_get hs c ≡ Some (record { granule = granule; step = Splitting z k }) → IsAlone g.setup hs c granule → largest_block g.setup m None (granule / 16) ≡ Some z
    → m (16 * (granule / 16)) ≡ gpi → k < words_of g.setup z
    → l1_index g.setup (l0_words g) (block_start g.setup z (granule / 16) + k) ≡ Some i → place_of g (Level1 i) < length words → AreWords g m (apart_by g.setup hs) words
    → AreWords g m (apart_by g.setup (set hs c (record { granule = granule; step = Splitting z (k + 1) })))
    (set words (place_of g (Level1 i)) (split_around g.setup (granule / 16) gpi (block_start g.setup z (granule / 16) + k)))
split_store g m hs c granule z k i gpi words at alone largest one low index place are =
    let s = g.setup in
    let v : ℕ = block_start s z (granule / 16) + k in
    holder_stores g m m hs c granule (Splitting z k) (Splitting z (k + 1)) words v i (split_around s (granule / 16) gpi v) at alone index place (store_inside s z (granule / 16) k low)
    (rw (stored_last s z (granule / 16) k)
    (split_around_is s m z granule v gpi (largest_permitted s m None (granule / 16) z largest) (store_block s z (granule / 16) k low)
    (λ n inside. largest_block_is s m None (granule / 16) z largest n inside ∙ one)))
    (λ w other. rw (stored_step s z (granule / 16) k w other) refl)
    (λ w outside a. refl) are

pub split_end : (g : GeometryData) (m : ℕ → Gpi) (hs : List Holder) (c granule : ℕ) (z : Size) (words : List ℕ)
    → slice_get hs c ≡ Some (record { granule = granule; step = Splitting z (words_of g.setup z) }) → IsAlone g.setup hs c granule → largest_block g.setup m None (granule / 16) ≡ Some z
    → AreWords g m (apart_by g.setup hs) words → AreWords g m (apart_by g.setup (set hs c (record { granule = granule; step = Apart }))) words
split_end g m hs c granule z words at alone largest are =
    holder_steps g m hs c granule (Splitting z (words_of g.setup z)) Apart words at alone (λ w. split_whole g.setup m z granule w largest) are

-- nothing to split
pub no_split : (g : GeometryData) (m : ℕ → Gpi) (hs : List Holder) (c granule : ℕ) (words : List ℕ) → slice_get hs c ≡ Some (record { granule = granule; step = Whole })
    → IsAlone g.setup hs c granule → largest_block g.setup m None (granule / 16) ≡ None
    → AreWords g m (apart_by g.setup hs) words → AreWords g m (apart_by g.setup (set hs c (record { granule = granule; step = Apart }))) words
no_split g m hs c granule words at alone none are =
    holder_steps g m hs c granule Whole Apart words at alone (λ w. apart_same g.setup m granule w none) are

-- ---- the change

pub change_store : (g : GeometryData) (m l : ℕ → Gpi) (hs : List Holder) (c granule i word : ℕ) (words : List ℕ) → slice_get hs c ≡ Some (record { granule = granule; step = Apart })
    → IsAlone g.setup hs c granule → ((k : ℕ) → k ≢ granule → m k ≡ l k) → word ≡ canonical_word g.setup m (Some granule) (granule / 16)
    → l1_index g.setup (l0_words g) (granule / 16) ≡ Some i → place_of g (Level1 i) < length words → AreWords g m (apart_by g.setup hs) words
    → AreWords g l (apart_by g.setup (set hs c (record { granule = granule; step = Apart }))) (set words (place_of g (Level1 i)) (with_field word (granule % 16) (value_of (l granule))))
change_store g m l hs c granule i word words at alone same is index place are =
    let s = g.setup in
    holder_stores g m l hs c granule Apart Apart words (granule / 16) i (with_field word (granule % 16) (value_of (l granule))) at alone index place refl
    (ap (λ (n : ℕ). with_field n (granule % 16) (value_of (l granule))) is ∙ sym (change_own s m l granule same))
    (λ w other. change_apart s m l granule w same other)
    (λ w outside a. change_elsewhere s m l granule w same a outside) are

-- ---- merging

-- the GPI of a word of sixteen granules apart
pub own_gpi : (s : SetupData) (m : ℕ → Gpi) (g : ℕ) (v : Gpi) → canonical_word s m (Some g) (g / 16) ≡ granules_of v → m (16 * (g / 16)) ≡ v
own_gpi s m g v own =
    let start : 16 * (g / 16) + 0 ≡ 16 * (g / 16) = omega arith in
    ap m (sym start) ∙ granules_one m (16 * (g / 16)) 0 v (sym (own_word s m g) ∙ own) (omega arith)

-- where merging may be after a load: nothing is stored yet
abbrev pub Unstored : Fusing → Type 0
Unstored (Testing z k) = Unit {0}
Unstored (Storing z k) = k ≡ 0
Unstored (Ended o) = o ≡ None

test_unstored : (max : MaxBlock) (z before : Size) → Unstored (test_or_store max z before)
test_unstored max z before = elim (cases_Bool (is_permitted max z)) [ inl larger ↦ rw larger tt | inr refused ↦ rw refused refl ]

passed_unstored : (max : MaxBlock) (z : Size) → Unstored (passed max z)
passed_unstored max size.Two = test_unstored max size.ThirtyTwo size.Two
passed_unstored max size.ThirtyTwo = test_unstored max size.FiveTwelve size.ThirtyTwo
passed_unstored max size.FiveTwelve = refl

failed_unstored : (z : Size) → Unstored (failed z)
failed_unstored size.Two = refl
failed_unstored size.ThirtyTwo = refl
failed_unstored size.FiveTwelve = refl

pub loaded_unstored : (two : ℕ) (max : MaxBlock) (v : Gpi) (z : Size) (k word : ℕ) → Unstored (loaded two max v z k word)
loaded_unstored two max v z k word =
    elim (cases_eq word (needed_word v z)) [
      | inl same ↦ elim (cases_eq (k + 1) (loads_of two z)) [
        | inl all ↦ rw (eq-eqb _ _ same, eq-eqb _ _ all) (passed_unstored max z)
        | inr more ↦ rw (eq-eqb _ _ same, ne_eqb _ _ more) tt
      ]
      | inr other ↦ rw (ne_eqb _ _ other) (failed_unstored z)
    ]

pub begun_unstored : (max : MaxBlock) (v : Option Gpi) → Unstored (begun max v)
begun_unstored max None = refl
begun_unstored max (Some v) = elim (cases_Bool (is_permitted max size.Two)) [ inl permitted ↦ rw permitted tt | inr refused ↦ rw refused refl ]

-- so no word changes what it is apart from
unstored_apart : (s : SetupData) (m : ℕ → Gpi) (g w : ℕ) (v : Gpi) (f : Fusing) → Unstored f → Knows s m g v f → canonical_word s m (Some g) w ≡ canonical_word s m (apart_in s g w (merging_step f)) w
unstored_apart s m g w v (Testing z k) fresh knows = refl
unstored_apart s m g w v (Storing z k) fresh knows =
    let none : is_stored s z (g / 16) k w ≡ false = ap (λ (n : ℕ). is_stored s z (g / 16) n w) fresh ∙ none_stored s z (g / 16) w in
    rw none refl
unstored_apart s m g w v (Ended o) fresh knows = sym (apart_same s m g w (knows ∙ fresh))

-- a merging load, whatever it answers, and the start of merging
pub load_words : (g : GeometryData) (m : ℕ → Gpi) (hs : List Holder) (c granule : ℕ) (v : Gpi) (f : Fusing) (words : List ℕ) → slice_get hs c ≡ Some (record { granule = granule; step = Apart })
    → IsAlone g.setup hs c granule → Unstored f → Knows g.setup m granule v f
    → AreWords g m (apart_by g.setup hs) words → AreWords g m (apart_by g.setup (set hs c (record { granule = granule; step = merging_step f }))) words
load_words g m hs c granule v f words at alone fresh knows are =
    holder_steps g m hs c granule Apart (merging_step f) words at alone (λ w. unstored_apart g.setup m granule w v f fresh knows) are

-- nothing to merge
pub no_merge : (g : GeometryData) (m : ℕ → Gpi) (hs : List Holder) (c granule : ℕ) (words : List ℕ) → slice_get hs c ≡ Some (record { granule = granule; step = Apart })
    → IsAlone g.setup hs c granule → largest_block g.setup m None (granule / 16) ≡ None
    → AreWords g m (apart_by g.setup hs) words → AreWords g m (apart_by g.setup (set hs c (record { granule = granule; step = Whole }))) words
no_merge g m hs c granule words at alone none are =
    holder_steps g m hs c granule Apart Whole words at alone (λ w. sym (apart_same g.setup m granule w none)) are

-- after a store of merging the stored words have no granule apart
stored_apart : (s : SetupData) (m : ℕ → Gpi) (g w : ℕ) (z : Size) (k : ℕ) → largest_block s m None (g / 16) ≡ Some z
    → canonical_word s m (cond (is_stored s z (g / 16) (k + 1) w) None (Some g)) w ≡ canonical_word s m (apart_in s g w (merging_step (stored (words_of s size.Two) z k))) w
stored_apart s m g w z k largest =
    elim (cases_eq (k + 1) (block_words (words_of s size.Two) z)) [
      | inl all ↦
          rw (eq-eqb _ _ all)
          (ap (λ (n : ℕ). canonical_word s m (cond (is_stored s z (g / 16) n w) None (Some g)) w) (all ∙ sym (block_words_is s z)) ∙ merged_whole s m z g w largest)
      | inr more ↦ rw (ne_eqb _ _ more) refl
    ]

pub merge_store : (g : GeometryData) (m : ℕ → Gpi) (hs : List Holder) (c granule : ℕ) (z : Size) (k i : ℕ) (gpi : Gpi) (words : List ℕ)
    → slice_get hs c ≡ Some (record { granule = granule; step = Merging z k }) → IsAlone g.setup hs c granule → largest_block g.setup m None (granule / 16) ≡ Some z
    → m (16 * (granule / 16)) ≡ gpi → k < words_of g.setup z
    → l1_index g.setup (l0_words g) (block_start g.setup z (granule / 16) + k) ≡ Some i → place_of g (Level1 i) < length words → AreWords g m (apart_by g.setup hs) words
    → AreWords g m (apart_by g.setup (set hs c (record { granule = granule; step = merging_step (stored (words_of g.setup size.Two) z k) })))
    (set words (place_of g (Level1 i)) (l1_word (l1.Contig z gpi)))
merge_store g m hs c granule z k i gpi words at alone largest one low index place are =
    let s = g.setup in
    let v : ℕ = block_start s z (granule / 16) + k in
    let after : Step = merging_step (stored (words_of s size.Two) z k) in
    holder_stores g m m hs c granule (Merging z k) after words v i (l1_word (l1.Contig z gpi)) at alone index place (store_inside s z (granule / 16) k low)
    (ap (λ (x : Gpi). l1_word (l1.Contig z x)) (sym one) ∙ sym (contiguous_word s m (granule / 16) v z largest (store_block s z (granule / 16) k low))
    ∙ ap (λ (b : Bool). canonical_word s m (cond b None (Some granule)) v) (sym (stored_last s z (granule / 16) k)) ∙ stored_apart s m granule v z k largest)
    (λ w other. ap (λ (b : Bool). canonical_word s m (cond b None (Some granule)) w) (stored_step s z (granule / 16) k w other) ∙ stored_apart s m granule w z k largest)
    (λ w outside a. refl) are
