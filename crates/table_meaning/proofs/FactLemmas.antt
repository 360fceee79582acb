-- What a holder knows at each stage: what gives it, and that it stays while others change granules of other 512 MB.
use Rattle.std.proofs.Common.{◌≡◌, ◌≢◌, ℕ, ◌+◌, ◌*◌, ◌/◌, ◌%◌, ◌<◌, Some, None, refl, sym, ap, ◌∙◌, arith}
use Rattle.gpi_values.specs.declared.gpi.Gpi.{Gpi}
use Rattle.gpi_values.specs.Values.{value_of}
use Rattle.gpt_descriptors.specs.declared.size.Size.{Size}
use Rattle.gpt_descriptors.specs.declared.size.Size.TheVariants as size
use Rattle.gpt_descriptors.specs.declared.entry.L1Entry.TheVariants as l1
use Rattle.gpt_descriptors.specs.Sizes.{SetupData, words_of}
use Rattle.gpt_descriptors.specs.Entries.{l1_entry}
use Rattle.gpt_descriptors.specs.Fields.{with_field, granules_of}
use Rattle.gpt_descriptors.specs.Canonical.{largest_block, canonical_word, BlockIs}
use Rattle.gpt_descriptors.proofs.CanonicalLemmas.{words_some, thirty_two_around, five_twelve_around}
use Rattle.gpt_descriptors.proofs.BlockLemmas.{first_word, first_granule, widest, in_widest}
use Rattle.gpt_descriptors.proofs.AroundLemmas.{own_word, granules_found}
use Rattle.table_meaning.specs.Changing.{AgreesAround}
use Rattle.table_meaning.specs.declared.fusing.Fusing.{Fusing}
use Rattle.table_meaning.specs.declared.fusing.Fusing.TheVariants.{Testing, Storing, Ended}
use Rattle.table_meaning.specs.Fusing.{loads_of, load_at, loaded, stored, begun, ShownBefore, Knows}
use Rattle.table_meaning.specs.Facts.{Stage, Idle, Looked, Splits, Keeps, Merges, Facts}
use Rattle.table_meaning.proofs.ChangeLemmas.{canonical_local, largest_local, apart_same, change_own}
use Rattle.table_meaning.proofs.SplitLemmas.{packed_of, block_granule, loaded_says}
use Rattle.table_meaning.proofs.FusingLemmas.{two_row, two_row_is, row_near, thirty_two_row, big_row, big_row_is, big_load, five_twelve_row, two_load_near, load_keeps, store_keeps, begin_keeps}

-- ---- what gives it

-- a contiguous word was loaded
pub splits : (s : SetupData) (m : ℕ → Gpi) (g word : ℕ) (z : Size) (gpi : Gpi) → Facts s m g (Looked word) → l1_entry word ≡ Some (l1.Contig z gpi) → Facts s m g (Splits z gpi 0)
splits s m g word z gpi looked read =
    let says = loaded_says s m z g gpi (ap l1_entry (sym looked) ∙ read) in
    (says.0, says.1, omega arith)

-- a granules word was loaded: nothing is to be split, and the word is the one apart
pub looked_none : (s : SetupData) (m : ℕ → Gpi) (g word fields : ℕ) → Facts s m g (Looked word) → l1_entry word ≡ Some (l1.Granules fields) → largest_block s m None (g / 16) ≡ None
looked_none s m g word fields looked read = granules_found s m None (g / 16) fields (ap l1_entry (sym looked) ∙ read)

pub keeps : (s : SetupData) (m : ℕ → Gpi) (g word fields : ℕ) → Facts s m g (Looked word) → l1_entry word ≡ Some (l1.Granules fields) → Facts s m g (Keeps word)
keeps s m g word fields looked read = looked ∙ apart_same s m g (g / 16) (looked_none s m g word fields looked read)

-- a store of splitting was made
pub split_more : (s : SetupData) (m : ℕ → Gpi) (g : ℕ) (z : Size) (gpi : Gpi) (k : ℕ) → Facts s m g (Splits z gpi k) → k < words_of s z → Facts s m g (Splits z gpi (k + 1))
split_more s m g z gpi k (largest, is, some) low = (largest, is, omega (arith, low))

-- the GPI of the own word
pub split_gpi : (s : SetupData) (m : ℕ → Gpi) (g : ℕ) (z : Size) (gpi : Gpi) (k : ℕ) → Facts s m g (Splits z gpi k) → m (16 * (g / 16)) ≡ gpi
split_gpi s m g z gpi k (largest, is, some) = is (16 * (g / 16)) (ap (λ (n : ℕ). n / words_of s z) (first_granule (g / 16)))

-- the splitting is over: the own word is kept without another load
pub split_ended : (s : SetupData) (m : ℕ → Gpi) (g : ℕ) (z : Size) (gpi : Gpi) (k : ℕ) → Facts s m g (Splits z gpi k) → Facts s m g (Keeps (granules_of gpi))
split_ended s m g z gpi k (largest, is, some) =
    sym (own_word s m g ∙ packed_of m (g / 16) gpi (λ i low. block_granule s m z (g / 16 / words_of s z) (g / 16) i gpi refl is low))

-- the granule was changed
pub changes : (s : SetupData) (m l : ℕ → Gpi) (g word : ℕ) → ((k : ℕ) → k ≢ g → m k ≡ l k) → Facts s m g (Keeps word)
    → Facts s l g (Keeps (with_field word (g % 16) (value_of (l g))))
changes s m l g word same kept = ap (λ (n : ℕ). with_field n (g % 16) (value_of (l g))) kept ∙ sym (change_own s m l g same)

-- merging begins
pub merges : (s : SetupData) (m : ℕ → Gpi) (g : ℕ) (v : Gpi) → Facts s m g (Keeps (granules_of v)) → Facts s m g (Merges v (begun s.max (Some v)))
merges s m g v kept = (sym kept, begin_keeps s m g v (sym kept))

-- a merging load was made
pub loads : (s : SetupData) (m : ℕ → Gpi) (g : ℕ) (v : Gpi) (z : Size) (k word : ℕ) → word ≡ canonical_word s m (Some g) (load_at (words_of s size.Two) (g / 16) z k)
    → Facts s m g (Merges v (Testing z k)) → Facts s m g (Merges v (loaded (words_of s size.Two) s.max v z k word))
loads s m g v z k word read (own, knows) = (own, load_keeps s m g v z k word own read knows)

-- a merging store was made
pub stores : (s : SetupData) (m : ℕ → Gpi) (g : ℕ) (v : Gpi) (z : Size) (k : ℕ) → k < words_of s z → Facts s m g (Merges v (Storing z k)) → Facts s m g (Merges v (stored (words_of s size.Two) z k))
stores s m g v z k low (own, knows) = (own, store_keeps s m g v z k low knows)

-- ---- the words that merging loads are in the granule's 512 MB

pub load_inside : (s : SetupData) (own : ℕ) (z : Size) (k : ℕ) → k < loads_of (words_of s size.Two) z
    → load_at (words_of s size.Two) own z k / words_of s size.FiveTwelve ≡ own / words_of s size.FiveTwelve
load_inside s own size.Two k low = in_widest s size.Two (load_at (words_of s size.Two) own size.Two k) own (two_load_near s own k low)
load_inside s own size.ThirtyTwo k low =
    let w : ℕ = two_row s own k * words_of s size.Two in
    let near : w / words_of s size.ThirtyTwo ≡ own / words_of s size.ThirtyTwo =
    thirty_two_around s w ∙ ap (λ (n : ℕ). n / 16) (first_word (words_of s size.Two) (two_row s own k) (words_some s size.Two) ∙ two_row_is s own k)
    ∙ row_near (own / words_of s size.Two) k low ∙ thirty_two_row s own in
    widest s w own near
load_inside s own size.FiveTwelve k low =
    let w : ℕ = big_row s own k * words_of s size.ThirtyTwo in
    ap (λ (n : ℕ). n / words_of s size.FiveTwelve) (big_load s own k)
    ∙ five_twelve_around s w ∙ ap (λ (n : ℕ). n / 16) (first_word (words_of s size.ThirtyTwo) (big_row s own k) (words_some s size.ThirtyTwo) ∙ big_row_is s own k)
    ∙ row_near (own / words_of s size.ThirtyTwo) k low ∙ five_twelve_row s own

-- ---- it is read from the map within the granule's 512 MB

agrees_beside : (s : SetupData) (m l : ℕ → Gpi) (v w : ℕ) → AgreesAround s m l v → w / words_of s size.FiveTwelve ≡ v / words_of s size.FiveTwelve → AgreesAround s m l w
agrees_beside s m l v w agrees same = λ g inside. agrees g (inside ∙ same)

block_local : (s : SetupData) (m l : ℕ → Gpi) (v : ℕ) (z : Size) (gpi : Gpi) → AgreesAround s m l v → BlockIs s m z (v / words_of s z) gpi → BlockIs s l z (v / words_of s z) gpi
block_local s m l v z gpi agrees is = λ k inside. sym (agrees k (in_widest s z (k / 16) v inside)) ∙ is k inside

shown_local : (s : SetupData) (m l : ℕ → Gpi) (g : ℕ) (v : Gpi) (z : Size) → AgreesAround s m l (g / 16) → ShownBefore s m g v z → ShownBefore s l g v z
shown_local s m l g v size.Two agrees before = tt
shown_local s m l g v size.ThirtyTwo agrees before = block_local s m l (g / 16) size.Two v agrees before
shown_local s m l g v size.FiveTwelve agrees before = block_local s m l (g / 16) size.ThirtyTwo v agrees before

knows_local : (s : SetupData) (m l : ℕ → Gpi) (g : ℕ) (v : Gpi) (f : Fusing) → AgreesAround s m l (g / 16) → Knows s m g v f → Knows s l g v f
knows_local s m l g v (Testing z k) agrees (permitted, low, before, each) = (
  permitted,
  low,
  shown_local s m l g v z agrees before,
  λ j earlier.
      let within : j < loads_of (words_of s size.Two) z = omega (arith, earlier, low) in
      let w : ℕ = load_at (words_of s size.Two) (g / 16) z j in
      sym (canonical_local s m l (Some g) w (agrees_beside s m l (g / 16) w agrees (load_inside s (g / 16) z j within))) ∙ each j earlier,
)
knows_local s m l g v (Storing z k) agrees (largest, some) = (sym (largest_local s m l None (g / 16) agrees) ∙ largest, some)
knows_local s m l g v (Ended o) agrees largest = sym (largest_local s m l None (g / 16) agrees) ∙ largest

-- Another holder's change, which is in another 512 MB, leaves what a holder knows.
pub facts_local : (s : SetupData) (m l : ℕ → Gpi) (g : ℕ) (stage : Stage) → AgreesAround s m l (g / 16) → Facts s m g stage → Facts s l g stage
facts_local s m l g Idle agrees facts = tt
facts_local s m l g (Looked word) agrees facts = facts ∙ canonical_local s m l None (g / 16) agrees
facts_local s m l g (Splits z gpi k) agrees (largest, is, some) = (sym (largest_local s m l None (g / 16) agrees) ∙ largest, block_local s m l (g / 16) z gpi agrees is, some)
facts_local s m l g (Keeps word) agrees facts = facts ∙ canonical_local s m l (Some g) (g / 16) agrees
facts_local s m l g (Merges v f) agrees (own, knows) = (sym (canonical_local s m l (Some g) (g / 16) agrees) ∙ own, knows_local s m l g v f agrees knows)
