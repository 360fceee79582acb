-- What a walk covers: the region whose generation is its tag, and granules to which its word gives the map's GPI.
use Rattle.std.proofs.Common.{◌≡◌, ℕ, ◌*◌, ◌/◌, true, Option, Some, None, refl, sym, ap, ◌∙◌, subst, arith}
use Rattle.std.specs.Option.{option_map}
use Rattle.core_machine.proofs.Names.{Gpi, Size, SetupData, size_bytes, words_of, canonical_word, word_gpi}
use Rattle.core_machine.proofs.Names.l1
use Rattle.core_machine.proofs.Names.size
use Rattle.gpt_descriptors.specs.declared.size.Reach.{Reach}
use Rattle.gpt_descriptors.specs.declared.size.Reach.TheVariants as reach
use Rattle.gpt_descriptors.specs.declared.entry.L1Entry.{L1Entry}
use Rattle.gpt_descriptors.specs.Sizes.{granule_number, place_in_word, reach_with, tag_size_of}
use Rattle.gpt_descriptors.specs.Entries.{l1_entry, word_reach}
use Rattle.gpt_descriptors.proofs.SizeLemmas.{granule_is, word_is}
use Rattle.gpt_descriptors.proofs.MeaningLemmas.{canonical_covers}
use Rattle.walk_cache.specs.Rings.{reach_bytes, first_around, covers_from}
use Rattle.core_machine.proofs.AddressLemmas.{block_by, word_by_granule}
use Rattle.core_machine.proofs.ActLemmas.{canonical_gives}

-- the region of an address that a walk covers is that of its first one
pub home_at : (r : Reach) (first pa : ℕ) → first_around r first ≡ first → covers_from r first pa ≡ true → pa / size_bytes (tag_size_of r) ≡ first / size_bytes (tag_size_of r)
home_at reach.Word first pa aligned covered = grind (arith, aligned, covered)
home_at reach.Two first pa aligned covered = grind (arith, aligned, covered)
home_at reach.ThirtyTwo first pa aligned covered = grind (arith, aligned, covered)
home_at reach.FiveTwelve first pa aligned covered = grind (arith, aligned, covered)

-- addresses that one walk covers lie in one block of its reach
together : (r : Reach) (made pa : ℕ) → covers_from r (first_around r made) pa ≡ true → pa / reach_bytes r ≡ made / reach_bytes r
together reach.Word made pa covered = grind (arith, covered)
together reach.Two made pa covered = grind (arith, covered)
together reach.ThirtyTwo made pa covered = grind (arith, covered)
together reach.FiveTwelve made pa covered = grind (arith, covered)

word_row : (s : SetupData) (pa : ℕ) → granule_number s pa / 16 ≡ pa / reach_bytes reach.Word
word_row s pa = sym (word_by_granule s pa) ∙ ap (λ (n : ℕ). pa / n) (word_is s ∙ ap (λ (n : ℕ). 16 * n) (granule_is s))

-- the bytes of the reach of an entry: those of its block
block_reach : (z : Size) (v : Gpi) → reach_bytes (reach_with (l1.Contig z v)) ≡ size_bytes z
block_reach size.Two v = refl
block_reach size.ThirtyTwo v = refl
block_reach size.FiveTwelve v = refl

entry_gives : (s : SetupData) (m : ℕ → Gpi) (apart : Option ℕ) (made pa word : ℕ) (r : Reach) (o : Option L1Entry) → l1_entry word ≡ o → option_map reach_with o ≡ Some r
    → word ≡ canonical_word s m apart (granule_number s made / 16) → pa / reach_bytes r ≡ made / reach_bytes r → word_gpi word (place_in_word s pa) ≡ Some (m (granule_number s pa))
entry_gives s m apart made pa word r None entry reaches is near = absurd cc
entry_gives s m apart made pa word r (Some (l1.Granules fields)) entry reaches is near =
    let same : reach.Word ≡ r = cc in
    let row : granule_number s made / 16 ≡ granule_number s pa / 16 = word_row s made ∙ sym (subst (λ (x : Reach). pa / reach_bytes x ≡ made / reach_bytes x) (sym same) near) ∙ sym (word_row s pa) in
    canonical_gives s m apart (granule_number s pa) word (is ∙ ap (canonical_word s m apart) row)
entry_gives s m apart made pa word r (Some (l1.Contig z v)) entry reaches is near =
    let same : reach_with (l1.Contig z v) ≡ r = cc in
    let bytes : reach_bytes r ≡ size_bytes z = ap reach_bytes (sym same) ∙ block_reach z v in
    let block : granule_number s pa / 16 / words_of s z ≡ granule_number s made / 16 / words_of s z =
    block_by s z pa ∙ ap (λ (n : ℕ). pa / n) (sym bytes) ∙ near ∙ ap (λ (n : ℕ). made / n) bytes ∙ sym (block_by s z made) in
    let covers = canonical_covers s m apart (granule_number s made / 16) (l1.Contig z v) (ap l1_entry (sym is) ∙ entry) in
    rw entry (ap Some (sym (covers (granule_number s pa) block)))

-- a walk of a canonical word gives each granule that it covers the map's GPI
pub walk_gives : (s : SetupData) (m : ℕ → Gpi) (apart : Option ℕ) (made pa word : ℕ) (r : Reach) → word_reach word ≡ Some r → word ≡ canonical_word s m apart (granule_number s made / 16)
    → covers_from r (first_around r made) pa ≡ true → word_gpi word (place_in_word s pa) ≡ Some (m (granule_number s pa))
walk_gives s m apart made pa word r reaches is covered = entry_gives s m apart made pa word r (l1_entry word) refl reaches is (together r made pa covered)
