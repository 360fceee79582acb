-- The laws on lists of words, from the lemmas on canonical words.
use Rattle.std.proofs.Common.{◌≡◌, ℕ, ◌+◌, ◌-◌, ◌*◌, ◌/◌, false, List, get_or, Option, Some, None, ◌⊎◌, refl, sym, ap, ◌∙◌, subst, arith, inl, inr}
use Rattle.gpi_values.specs.declared.gpi.Gpi.{Gpi}
use Rattle.gpt_descriptors.specs.declared.size.Size.{Size}
use Rattle.gpt_descriptors.specs.declared.size.Size.TheVariants as size
use Rattle.gpt_descriptors.specs.Sizes.{SetupData, words_of, is_permitted}
use Rattle.gpt_descriptors.specs.Canonical.{canonical_word}
use Rattle.gpt_descriptors.specs.Level0.{l1_index}
use Rattle.gpt_descriptors.proofs.CanonicalLemmas.{words_some, thirty_two_around, five_twelve_around}
use Rattle.gpt_descriptors.proofs.BlockLemmas.{start_low, start_high, first_word, widest, in_widest}
use Rattle.table_meaning.specs.Merging.{PassesTwo, PassesThirtyTwo, PassesFiveTwelve, StopsThirtyTwo, StopsFiveTwelve, Finds}
use Rattle.table_meaning.specs.Stores.{after_splitting, after_merging}
use Rattle.table_meaning.specs.Laws.{SplittingKeeps, SplittingEnds, index_or_zero, word_at, AreApart, MergingFinds, NothingToMerge, MergingKeeps, MergingEnds}
use Rattle.table_meaning.proofs.MeaningLemmas.{canonical_mean}
use Rattle.table_meaning.proofs.PlaceLemmas.{block_index}
use Rattle.table_meaning.proofs.StoreLemmas.{stores_length, splitting_stores, splitting_ends, merging_stores, merging_ends, nothing_merged}
use Rattle.table_meaning.proofs.TestLemmas.{finds_largest}

-- ---- splitting

pub splitting_keeps : SplittingKeeps
splitting_keeps s l0 words m z g i gpi k are some =
    let canonical = splitting_stores s l0 words m z g i gpi k are.canonical are.size are.index are.read some in
    (canonical, canonical_mean s l0 (after_splitting s z (g / 16) i gpi k words) m _ (stores_length _ _ k words ∙ are.size) are.blocks canonical)

pub splitting_end : SplittingEnds
splitting_end s l0 words m z g i gpi are = splitting_ends s l0 words m z g i gpi are.canonical are.size are.index are.read

-- ---- the size that is found, of a table that agrees with the canonical words apart within the 512 MB

-- the first words of the blocks that are tested
two_first : (s : SetupData) (own q : ℕ) → q / 16 ≡ own / words_of s size.ThirtyTwo → q * words_of s size.Two / words_of s size.FiveTwelve ≡ own / words_of s size.FiveTwelve
two_first s own q near =
    let w : ℕ = q * words_of s size.Two in
    widest s w own (thirty_two_around s w ∙ ap (λ (n : ℕ). n / 16) (first_word (words_of s size.Two) q (words_some s size.Two)) ∙ near)

thirty_two_first : (s : SetupData) (own r : ℕ) → r / 16 ≡ own / words_of s size.FiveTwelve → r * words_of s size.ThirtyTwo / words_of s size.FiveTwelve ≡ own / words_of s size.FiveTwelve
thirty_two_first s own r near =
    let w : ℕ = r * words_of s size.ThirtyTwo in
    five_twelve_around s w ∙ ap (λ (n : ℕ). n / 16) (first_word (words_of s size.ThirtyTwo) r (words_some s size.ThirtyTwo)) ∙ near

-- two tables agree within the 512 MB around word own
abbrev Agree : SetupData → (ℕ → ℕ) → (ℕ → ℕ) → ℕ → Type 0
Agree s t u own = (w : ℕ) → w / words_of s size.FiveTwelve ≡ own / words_of s size.FiveTwelve → t w ≡ u w

two_agree : (s : SetupData) (t u : ℕ → ℕ) (own : ℕ) (v : Gpi) → Agree s t u own → PassesTwo s t own v → PassesTwo s u own v
two_agree s t u own v agree passes = λ w near. sym (agree w (in_widest s size.Two w own near)) ∙ passes w near

thirty_two_agree : (s : SetupData) (t u : ℕ → ℕ) (own : ℕ) (v : Gpi) → Agree s t u own → PassesThirtyTwo s t own v → PassesThirtyTwo s u own v
thirty_two_agree s t u own v agree passes = λ q near other. sym (agree (q * words_of s size.Two) (two_first s own q near)) ∙ passes q near other

five_twelve_agree : (s : SetupData) (t u : ℕ → ℕ) (own : ℕ) (v : Gpi) → Agree s t u own → PassesFiveTwelve s t own v → PassesFiveTwelve s u own v
five_twelve_agree s t u own v agree passes = λ r near other. sym (agree (r * words_of s size.ThirtyTwo) (thirty_two_first s own r near)) ∙ passes r near other

stops_thirty_two : (s : SetupData) (t u : ℕ → ℕ) (own : ℕ) (v : Gpi) → Agree s t u own
    → (is_permitted s.max size.ThirtyTwo ≡ false) ⊎ StopsThirtyTwo s t own v → (is_permitted s.max size.ThirtyTwo ≡ false) ⊎ StopsThirtyTwo s u own v
stops_thirty_two s t u own v agree (inl refused) = inl refused
stops_thirty_two s t u own v agree (inr (q, near, other, differs)) = inr (q, near, other, λ e. differs (agree (q * words_of s size.Two) (two_first s own q near) ∙ e))

stops_five_twelve : (s : SetupData) (t u : ℕ → ℕ) (own : ℕ) (v : Gpi) → Agree s t u own
    → (is_permitted s.max size.FiveTwelve ≡ false) ⊎ StopsFiveTwelve s t own v → (is_permitted s.max size.FiveTwelve ≡ false) ⊎ StopsFiveTwelve s u own v
stops_five_twelve s t u own v agree (inl refused) = inl refused
stops_five_twelve s t u own v agree (inr (r, near, other, differs)) = inr (r, near, other, λ e. differs (agree (r * words_of s size.ThirtyTwo) (thirty_two_first s own r near) ∙ e))

finds_agree : (s : SetupData) (t u : ℕ → ℕ) (own : ℕ) (o : Option Size) → Agree s t u own → Finds s t own o → Finds s u own o
finds_agree s t u own None agree (inl refused) = inl refused
finds_agree s t u own None agree (inr (inl mixed)) = inr (inl (λ v e. mixed v (agree own refl ∙ e)))
finds_agree s t u own None agree (inr (inr (w, near, differs))) =
    inr (inr (w, near, λ e. differs (agree w (in_widest s size.Two w own near) ∙ e ∙ sym (agree own refl))))
finds_agree s t u own (Some size.Two) agree (v, permitted, passes, stops) = (v, permitted, two_agree s t u own v agree passes, stops_thirty_two s t u own v agree stops)
finds_agree s t u own (Some size.ThirtyTwo) agree (v, permitted, passes, larger, stops) =
    (v, permitted, two_agree s t u own v agree passes, thirty_two_agree s t u own v agree larger, stops_five_twelve s t u own v agree stops)
finds_agree s t u own (Some size.FiveTwelve) agree (v, permitted, passes, larger, largest) =
    (v, permitted, two_agree s t u own v agree passes, thirty_two_agree s t u own v agree larger, five_twelve_agree s t u own v agree largest)

-- ---- each word of the 512 MB of a word with an L1 word has one

index_near : (s : SetupData) (l0 : List ℕ) (own i w : ℕ) → l1_index s l0 own ≡ Some i → w / words_of s size.FiveTwelve ≡ own / words_of s size.FiveTwelve
    → (j : ℕ) × (l1_index s l0 w ≡ Some j)
index_near s l0 own i w at near =
    let n : ℕ = words_of s size.FiveTwelve in
    let low = start_low n (own / n) w near in
    let high = start_high n (own / n) w (words_some s size.FiveTwelve) near in
    let back : own / n * n + (w - own / n * n) ≡ w = omega (arith, low) in (
      i / n * n + (w - own / n * n),
      subst (λ (k : ℕ). l1_index s l0 k ≡ Some (i / n * n + (w - own / n * n))) back (block_index s l0 size.FiveTwelve own i (w - own / n * n) at (omega (arith, low, high))),
    )

words_agree : (s : SetupData) (l0 words : List ℕ) (m : ℕ → Gpi) (g i : ℕ) → AreApart s l0 words m g i → Agree s (word_at s l0 words) (canonical_word s m (Some g)) (g / 16)
words_agree s l0 words m g i are = λ w near.
    let found = index_near s l0 (g / 16) i w are.index near in
    ap (λ (o : Option ℕ). get_or words (index_or_zero o) 0) found.1 ∙ are.canonical w found.0 found.1

-- ---- merging

pub merging_finds : MergingFinds
merging_finds s l0 words m g i o are finds =
    finds_largest s m g o (finds_agree s (word_at s l0 words) (canonical_word s m (Some g)) (g / 16) o (words_agree s l0 words m g i are) finds)

pub nothing_to_merge : NothingToMerge
nothing_to_merge s l0 words m g i are finds = nothing_merged s l0 words m g are.canonical (merging_finds s l0 words m g i None are finds)

pub merging_keeps : MergingKeeps
merging_keeps s l0 words m z g i gpi k are own finds some =
    let canonical = merging_stores s l0 words m z g i gpi k are.canonical are.size are.index own (merging_finds s l0 words m g i (Some z) are finds) some in
    (canonical, canonical_mean s l0 (after_merging s z i gpi k words) m _ (stores_length _ _ k words ∙ are.size) are.blocks canonical)

pub merging_end : MergingEnds
merging_end s l0 words m z g i gpi are own finds = merging_ends s l0 words m z g i gpi are.canonical are.size are.index own (merging_finds s l0 words m g i (Some z) are finds)
