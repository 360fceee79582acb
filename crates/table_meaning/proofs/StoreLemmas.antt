-- Splitting and merging on lists of L1 words: after each store the words are canonical, apart from the granule or not.
use Rattle.std.proofs.Common.{◌≡◌, ◌≢◌, ℕ, zero, suc, ◌+◌, ◌*◌, ◌/◌, ◌≤◌, ◌<◌, Bool, true, cond, List, length, get_or, set, Option, Some, None, refl, sym, ap, ◌∙◌, subst, arith, inl, inr}
use Rattle.std.proofs.lemmas.Bool.{cases_eq}
use Rattle.std.proofs.lemmas.List.{get_or-set_other, get_or-set_same, length-set}
use Rattle.gpi_values.specs.declared.gpi.Gpi.{Gpi}
use Rattle.gpt_descriptors.specs.declared.size.Size.{Size}
use Rattle.gpt_descriptors.specs.declared.entry.L1Entry.TheVariants as entry
use Rattle.gpt_descriptors.specs.Sizes.{SetupData, words_of, table_words}
use Rattle.gpt_descriptors.specs.Entries.{l1_word, l1_entry}
use Rattle.gpt_descriptors.specs.Fields.{granules_of}
use Rattle.gpt_descriptors.specs.Canonical.{largest_block, canonical_word}
use Rattle.gpt_descriptors.specs.Level0.{table_count, l1_index}
use Rattle.gpt_descriptors.proofs.PlaceLemmas.{l1_index_one, l1_index_within}
use Rattle.gpt_descriptors.proofs.AroundLemmas.{largest_permitted, contiguous_word}
use Rattle.table_meaning.specs.Meaning.{AreCanonicalApart, AreCanonical}
use Rattle.table_meaning.specs.Splitting.{block_start, is_stored, split_around}
use Rattle.table_meaning.specs.Stores.{after_stores, after_splitting, after_merging}
use Rattle.table_meaning.proofs.ChangeLemmas.{apart_same}
use Rattle.table_meaning.proofs.SplitLemmas.{split_around_is, loaded_says, split_whole, merged_whole}
use Rattle.table_meaning.proofs.PlaceLemmas.{block_index}
use Rattle.table_meaning.proofs.StepLemmas.{none_stored, stored_last, stored_step, store_block, own_gpi}

-- ---- one store

pub stored_apart_words : (s : SetupData) (l0 l1 : List ℕ) (m : ℕ → Gpi) (before after : ℕ → Option ℕ) (v i word : ℕ) → l1_index s l0 v ≡ Some i → i < length l1
    → word ≡ canonical_word s m (after v) v → ((w : ℕ) → w ≢ v → canonical_word s m (before w) w ≡ canonical_word s m (after w) w) → AreCanonicalApart s l0 l1 m before
    → AreCanonicalApart s l0 (set l1 i word) m after
stored_apart_words s l0 l1 m before after v i word at within is same are = λ w j there.
    elim (cases_eq w v) [
      | inl own ↦
          let here : l1_index s l0 v ≡ Some j = ap (l1_index s l0) (sym own) ∙ there in
          let one : j ≡ i = (let both = sym here ∙ at in cc) in
          ap (λ (k : ℕ). get_or (set l1 i word) k 0) one ∙ get_or-set_same l1 i word 0 within ∙ is ∙ ap (λ (k : ℕ). canonical_word s m (after k) k) (sym own)
      | inr other ↦
          get_or-set_other l1 i j word 0 (λ e. other (l1_index_one s l0 w v i (there ∙ ap (λ (k : ℕ). Some k) e) at))
          ∙ are w j there ∙ same w other
    ]

-- ---- k stores of a block

pub stores_length : (word : ℕ → ℕ) (first k : ℕ) (words : List ℕ) → length (after_stores word first k words) ≡ length words
unfolding after_stores
stores_length word first zero words = refl
stores_length word first (suc k) words = length-set (after_stores word first k words) (first + k) (word k) ∙ stores_length word first k words

stores-zero : (word : ℕ → ℕ) (first : ℕ) (words : List ℕ) → after_stores word first 0 words ≡ words
unfolding after_stores
stores-zero word first words = refl

stores-suc : (word : ℕ → ℕ) (first k : ℕ) (words : List ℕ) → after_stores word first (suc k) words ≡ set (after_stores word first k words) (first + k) (word k)
unfolding after_stores
stores-suc word first k words = refl

-- what each store writes is the word apart as `new` says, and what is not stored yet is apart as `old` says
block_stores : (s : SetupData) (l0 l1 : List ℕ) (m : ℕ → Gpi) (z : Size) (own i : ℕ) (old new : Option ℕ) (word : ℕ → ℕ) (k : ℕ)
    → l1_index s l0 own ≡ Some i → length l1 ≡ table_count l0 * table_words s
    → ((j : ℕ) → j < words_of s z → word j ≡ canonical_word s m new (block_start s z own + j)) → AreCanonicalApart s l0 l1 m (λ w. old) → k ≤ words_of s z
    → AreCanonicalApart s l0 (after_stores word (block_start s z i) k l1) m (λ w. cond (is_stored s z own k w) new old)
block_stores s l0 l1 m z own i old new word zero at size each are some =
    subst (λ (words : List ℕ). AreCanonicalApart s l0 words m (λ w. cond (is_stored s z own 0 w) new old)) (sym (stores-zero word (block_start s z i) l1))
    (λ w j there. are w j there ∙ ap (λ (b : Bool). canonical_word s m (cond b new old) w) (sym (none_stored s z own w)))
block_stores s l0 l1 m z own i old new word (suc k) at size each are some =
    let low : k < words_of s z = omega (arith, some) in
    let v : ℕ = block_start s z own + k in
    let p : ℕ = block_start s z i + k in
    let index : l1_index s l0 v ≡ Some p = block_index s l0 z own i k at low in
    let before : List ℕ = after_stores word (block_start s z i) k l1 in
    let within : p < length before = omega (arith, l1_index_within s l0 v p index, size, stores_length word (block_start s z i) k l1) in
    let more : k + 1 ≡ suc k = omega arith in
    let last : is_stored s z own (suc k) v ≡ true = subst (λ (n : ℕ). is_stored s z own n v ≡ true) more (stored_last s z own k) in
    subst (λ (words : List ℕ). AreCanonicalApart s l0 words m (λ w. cond (is_stored s z own (suc k) w) new old)) (sym (stores-suc word (block_start s z i) k l1))
    (stored_apart_words s l0 before m (λ w. cond (is_stored s z own k w) new old) (λ w. cond (is_stored s z own (suc k) w) new old) v p (word k) index within
    (each k low ∙ ap (λ (b : Bool). canonical_word s m (cond b new old) v) (sym last))
    (λ w other. ap (λ (b : Bool). canonical_word s m (cond b new old) w)
    (stored_step s z own k w other ∙ ap (λ (n : ℕ). is_stored s z own n w) more))
    (block_stores s l0 l1 m z own i old new word k at size each are (omega (arith, some))))

-- ---- splitting

pub splitting_stores : (s : SetupData) (l0 l1 : List ℕ) (m : ℕ → Gpi) (z : Size) (g i : ℕ) (gpi : Gpi) (k : ℕ) → AreCanonical s l0 l1 m → length l1 ≡ table_count l0 * table_words s
    → l1_index s l0 (g / 16) ≡ Some i → l1_entry (get_or l1 i 0) ≡ Some (entry.Contig z gpi) → k ≤ words_of s z
    → AreCanonicalApart s l0 (after_splitting s z (g / 16) i gpi k l1) m (λ w. cond (is_stored s z (g / 16) k w) (Some g) None)
splitting_stores s l0 l1 m z g i gpi k are size at read some =
    let says = loaded_says s m z g gpi (ap l1_entry (sym (are (g / 16) i at)) ∙ read) in
    block_stores s l0 l1 m z (g / 16) i None (Some g) (λ j. split_around s (g / 16) gpi (block_start s z (g / 16) + j)) k at size
    (λ j low. split_around_is s m z g (block_start s z (g / 16) + j) gpi (largest_permitted s m None (g / 16) z says.0) (store_block s z (g / 16) j low) says.1)
    are some

pub splitting_ends : (s : SetupData) (l0 l1 : List ℕ) (m : ℕ → Gpi) (z : Size) (g i : ℕ) (gpi : Gpi) → AreCanonical s l0 l1 m → length l1 ≡ table_count l0 * table_words s
    → l1_index s l0 (g / 16) ≡ Some i → l1_entry (get_or l1 i 0) ≡ Some (entry.Contig z gpi)
    → AreCanonicalApart s l0 (after_splitting s z (g / 16) i gpi (words_of s z) l1) m (λ w. Some g)
splitting_ends s l0 l1 m z g i gpi are size at read = λ w j there.
    let says = loaded_says s m z g gpi (ap l1_entry (sym (are (g / 16) i at)) ∙ read) in
    splitting_stores s l0 l1 m z g i gpi (words_of s z) are size at read (omega arith) w j there ∙ split_whole s m z g w says.0

-- ---- merging

pub merging_stores : (s : SetupData) (l0 l1 : List ℕ) (m : ℕ → Gpi) (z : Size) (g i : ℕ) (gpi : Gpi) (k : ℕ) → AreCanonicalApart s l0 l1 m (λ w. Some g) → length l1 ≡ table_count l0 * table_words s
    → l1_index s l0 (g / 16) ≡ Some i → get_or l1 i 0 ≡ granules_of gpi → largest_block s m None (g / 16) ≡ Some z → k ≤ words_of s z
    → AreCanonicalApart s l0 (after_merging s z i gpi k l1) m (λ w. cond (is_stored s z (g / 16) k w) None (Some g))
merging_stores s l0 l1 m z g i gpi k are size at own largest some =
    let one : m (16 * (g / 16)) ≡ gpi = own_gpi s m g gpi (sym (are (g / 16) i at) ∙ own) in
    block_stores s l0 l1 m z (g / 16) i (Some g) None (λ j. l1_word (entry.Contig z gpi)) k at size
    (λ j low. ap (λ (v : Gpi). l1_word (entry.Contig z v)) (sym one) ∙ sym (contiguous_word s m (g / 16) (block_start s z (g / 16) + j) z largest (store_block s z (g / 16) j low)))
    are some

pub merging_ends : (s : SetupData) (l0 l1 : List ℕ) (m : ℕ → Gpi) (z : Size) (g i : ℕ) (gpi : Gpi) → AreCanonicalApart s l0 l1 m (λ w. Some g) → length l1 ≡ table_count l0 * table_words s
    → l1_index s l0 (g / 16) ≡ Some i → get_or l1 i 0 ≡ granules_of gpi → largest_block s m None (g / 16) ≡ Some z
    → AreCanonical s l0 (after_merging s z i gpi (words_of s z) l1) m
merging_ends s l0 l1 m z g i gpi are size at own largest = λ w j there.
    merging_stores s l0 l1 m z g i gpi (words_of s z) are size at own largest (omega arith) w j there ∙ merged_whole s m z g w largest

pub nothing_merged : (s : SetupData) (l0 l1 : List ℕ) (m : ℕ → Gpi) (g : ℕ) → AreCanonicalApart s l0 l1 m (λ w. Some g) → largest_block s m None (g / 16) ≡ None → AreCanonical s l0 l1 m
nothing_merged s l0 l1 m g are none = λ w j there. are w j there ∙ sym (apart_same s m g w none)
