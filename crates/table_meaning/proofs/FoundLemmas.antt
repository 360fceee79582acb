-- Merging finds the largest block around the granule, whatever its size is.
use Rattle.std.proofs.Common.{◌≡◌, ◌≢◌, ℕ, zero, suc, ◌*◌, ◌/◌, ◌<◌, true, false, Option, Some, None, ◌⊎◌, refl, sym, ap, ◌∙◌, arith, inl, inr}
use Rattle.std.proofs.lemmas.Bool.{cases_Bool, cases_eq}
use Rattle.gpi_values.specs.declared.gpi.Gpi.{Gpi}
use Rattle.gpt_descriptors.specs.declared.size.Size.{Size}
use Rattle.gpt_descriptors.specs.declared.size.Size.TheVariants as size
use Rattle.gpt_descriptors.specs.declared.entry.L1Entry.TheVariants as l1
use Rattle.gpt_descriptors.specs.Sizes.{SetupData, words_of, is_permitted}
use Rattle.gpt_descriptors.specs.Entries.{l1_word}
use Rattle.gpt_descriptors.specs.Fields.{granules_of, equal_gpi}
use Rattle.gpt_descriptors.specs.Canonical.{is_block_around, largest_block, canonical_word, BlockIs}
use Rattle.gpt_descriptors.proofs.BlockLemmas.{permits_two, permits_thirty_two}
use Rattle.gpt_descriptors.proofs.PackedLemmas.{equal_found, equal_none}
use Rattle.gpt_descriptors.proofs.AroundLemmas.{largest_shows, largest_none, largest_permitted, largest_block_is}
use Rattle.table_meaning.specs.Merging.{StopsTwo, StopsThirtyTwo, StopsFiveTwelve, Finds}
use Rattle.table_meaning.specs.Fusing.{load_at}
use Rattle.table_meaning.proofs.TestLemmas.{two_says, two_passes, thirty_two_says, thirty_two_passes, five_twelve_says, five_twelve_passes, smaller_is, small_is, around_from}
use Rattle.table_meaning.proofs.FusingLemmas.{row_near, row_other, two_loads, two_load_near, two_row, two_row_is, thirty_two_row, thirty_two_loads, big_row, big_row_is, five_twelve_row, big_load, five_twelve_loads}

-- n words are all equal to one, or one of them differs from it
search_words : (t : ℕ → ℕ) (x n : ℕ) → ((k : ℕ) → k < n → t k ≡ x) ⊎ ((k : ℕ) × (k < n) × (t k ≢ x))
search_words t x zero = inl (λ k low. absurd (omega (arith, low)))
search_words t x (suc n) =
    elim (search_words t x n) [
      | inr found ↦ inr (found.0, omega (arith, found.1), found.2)
      | inl all ↦ elim (cases_eq (t n) x) [
        | inr differs ↦ inr (n, omega arith, differs)
        | inl same ↦
            inl (λ k low. elim (cases_eq k n) [
              | inl last ↦ ap t last ∙ same
              | inr earlier ↦ all k (omega (arith, low, earlier))
            ])
      ]
    ]

-- a load that differs stops the test
thirty_two_stop : (s : SetupData) (m : ℕ → Gpi) (g : ℕ) (v : Gpi) (k : ℕ) → k < 15 → canonical_word s m (Some g) (load_at (words_of s size.Two) (g / 16) size.ThirtyTwo k) ≢ l1_word (l1.Contig size.Two v)
    → StopsThirtyTwo s (canonical_word s m (Some g)) (g / 16) v
thirty_two_stop s m g v k low differs = (
  two_row s (g / 16) k,
  ap (λ (n : ℕ). n / 16) (two_row_is s (g / 16) k) ∙ row_near (g / 16 / words_of s size.Two) k low ∙ thirty_two_row s (g / 16),
  λ e. row_other (g / 16 / words_of s size.Two) k low (sym (two_row_is s (g / 16) k) ∙ e),
  differs,
)

five_twelve_stop : (s : SetupData) (m : ℕ → Gpi) (g : ℕ) (v : Gpi) (k : ℕ) → k < 15 → canonical_word s m (Some g) (load_at (words_of s size.Two) (g / 16) size.FiveTwelve k) ≢ l1_word (l1.Contig size.ThirtyTwo v)
    → StopsFiveTwelve s (canonical_word s m (Some g)) (g / 16) v
five_twelve_stop s m g v k low differs = (
  big_row s (g / 16) k,
  ap (λ (n : ℕ). n / 16) (big_row_is s (g / 16) k) ∙ row_near (g / 16 / words_of s size.ThirtyTwo) k low ∙ five_twelve_row s (g / 16),
  λ e. row_other (g / 16 / words_of s size.ThirtyTwo) k low (sym (big_row_is s (g / 16) k) ∙ e),
  λ e. differs (ap (canonical_word s m (Some g)) (big_load s (g / 16) k) ∙ e),
)

-- a larger block that isn't one isn't permitted, or its test stops
untested_thirty_two : (s : SetupData) (m : ℕ → Gpi) (g : ℕ) (v : Gpi) → BlockIs s m size.Two (g / 16 / words_of s size.Two) v → is_block_around s m None (g / 16) size.ThirtyTwo ≡ false
    → (is_permitted s.max size.ThirtyTwo ≡ false) ⊎ StopsThirtyTwo s (canonical_word s m (Some g)) (g / 16) v
untested_thirty_two s m g v is none =
    elim (cases_Bool (is_permitted s.max size.ThirtyTwo)) [
      | inr refused ↦ inl refused
      | inl permitted ↦
          elim (search_words (λ k. canonical_word s m (Some g) (load_at (words_of s size.Two) (g / 16) size.ThirtyTwo k)) (l1_word (l1.Contig size.Two v)) 15) [
            | inr found ↦ inr (thirty_two_stop s m g v found.0 found.1 found.2)
            | inl all ↦
                let block = thirty_two_says s m g v is (thirty_two_loads s (canonical_word s m (Some g)) (g / 16) v all) in
                absurd (let around = around_from s m (g / 16) size.ThirtyTwo v permitted block in cc)
          ]
    ]

untested_five_twelve : (s : SetupData) (m : ℕ → Gpi) (g : ℕ) (v : Gpi) → BlockIs s m size.ThirtyTwo (g / 16 / words_of s size.ThirtyTwo) v → is_block_around s m None (g / 16) size.FiveTwelve ≡ false
    → (is_permitted s.max size.FiveTwelve ≡ false) ⊎ StopsFiveTwelve s (canonical_word s m (Some g)) (g / 16) v
untested_five_twelve s m g v is none =
    elim (cases_Bool (is_permitted s.max size.FiveTwelve)) [
      | inr refused ↦ inl refused
      | inl permitted ↦
          elim (search_words (λ k. canonical_word s m (Some g) (load_at (words_of s size.Two) (g / 16) size.FiveTwelve k)) (l1_word (l1.Contig size.ThirtyTwo v)) 15) [
            | inr found ↦ inr (five_twelve_stop s m g v found.0 found.1 found.2)
            | inl all ↦
                let block = five_twelve_says s m g v is (five_twelve_loads s (canonical_word s m (Some g)) (g / 16) v all) in
                absurd (let around = around_from s m (g / 16) size.FiveTwelve v permitted block in cc)
          ]
    ]

-- where there is no block at all
nothing_found : (s : SetupData) (m : ℕ → Gpi) (g : ℕ) (o : Option Gpi) → equal_gpi (canonical_word s m (Some g) (g / 16)) ≡ o → is_permitted s.max size.Two ≡ true
    → is_block_around s m None (g / 16) size.Two ≡ false → ((v : Gpi) → canonical_word s m (Some g) (g / 16) ≢ granules_of v) ⊎ StopsTwo s (canonical_word s m (Some g)) (g / 16)
nothing_found s m g None mixed permitted none = inl (equal_none (canonical_word s m (Some g) (g / 16)) mixed)
nothing_found s m g (Some v) equal permitted none =
    let own = equal_found (canonical_word s m (Some g) (g / 16)) v equal in
    elim (search_words (λ k. canonical_word s m (Some g) (load_at (words_of s size.Two) (g / 16) size.Two k)) (granules_of v) (words_of s size.Two)) [
      | inr found ↦ inr (load_at (words_of s size.Two) (g / 16) size.Two found.0, two_load_near s (g / 16) found.0 found.1, λ e. found.2 (e ∙ own))
      | inl all ↦
          let block = two_says s m g v (two_loads s (canonical_word s m (Some g)) (g / 16) v all) in
          absurd (let around = around_from s m (g / 16) size.Two v permitted block in cc)
    ]

-- The converse of finds_largest.
pub largest_finds : (s : SetupData) (m : ℕ → Gpi) (g : ℕ) (o : Option Size) → largest_block s m None (g / 16) ≡ o → Finds s (canonical_word s m (Some g)) (g / 16) o
largest_finds s m g None none =
    elim (cases_Bool (is_permitted s.max size.Two)) [
      | inr refused ↦ inl refused
      | inl permitted ↦ inr (nothing_found s m g (equal_gpi (canonical_word s m (Some g) (g / 16))) refl permitted (largest_none s m None (g / 16) none size.Two))
    ]
largest_finds s m g (Some size.Two) is =
    let v : Gpi = m (16 * (g / 16)) in
    let block = largest_block_is s m None (g / 16) size.Two is in (
      v,
      largest_permitted s m None (g / 16) size.Two is,
      two_passes s m g v block,
      untested_thirty_two s m g v block (largest_shows s m None (g / 16) size.Two is).1,
    )
largest_finds s m g (Some size.ThirtyTwo) is =
    let v : Gpi = m (16 * (g / 16)) in
    let block = largest_block_is s m None (g / 16) size.ThirtyTwo is in
    let permitted = largest_permitted s m None (g / 16) size.ThirtyTwo is in (
      v,
      permitted,
      two_passes s m g v (smaller_is s m (g / 16) v block),
      thirty_two_passes s m g v (permits_two s.max size.ThirtyTwo permitted) block,
      untested_five_twelve s m g v block (largest_shows s m None (g / 16) size.ThirtyTwo is).0,
    )
largest_finds s m g (Some size.FiveTwelve) is =
    let v : Gpi = m (16 * (g / 16)) in
    let block = largest_block_is s m None (g / 16) size.FiveTwelve is in
    let permitted = largest_permitted s m None (g / 16) size.FiveTwelve is in
    let smaller = small_is s m (g / 16) v block in (
      v,
      permitted,
      two_passes s m g v (smaller_is s m (g / 16) v smaller),
      thirty_two_passes s m g v (permits_two s.max size.FiveTwelve permitted) smaller,
      five_twelve_passes s m g v (permits_thirty_two s.max permitted) block,
    )
