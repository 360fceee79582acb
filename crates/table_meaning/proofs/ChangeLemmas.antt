-- Canonical words and a change of one granule: which words it leaves, what the granule's own word becomes, and when
-- nothing is to be split or merged around it. In all of them m and l are the maps before and after.
use Rattle.std.proofs.Common.{◌≡◌, ◌≢◌, ℕ, ◌+◌, ◌*◌, ◌/◌, ◌%◌, false, Option, Some, None, refl, sym, ap, ◌∙◌, subst, arith, inl, inr}
use Rattle.std.proofs.Math.Nat.{div-div-eq-div-mul, mul-div-mul_right}
use Rattle.std.proofs.lemmas.Bool.{cases_eq}
use Rattle.gpi_values.specs.declared.gpi.Gpi.{Gpi}
use Rattle.gpi_values.specs.Values.{value_of}
use Rattle.gpt_descriptors.specs.declared.size.Size.{Size}
use Rattle.gpt_descriptors.specs.declared.size.Size.TheVariants as size
use Rattle.gpt_descriptors.specs.Sizes.{SetupData, granule_bytes, word_bytes, words_of, size_bytes}
use Rattle.gpt_descriptors.specs.Entries.{packed}
use Rattle.gpt_descriptors.specs.Fields.{with_field}
use Rattle.gpt_descriptors.specs.Canonical.{is_one_block, is_block_around, largest_block, canonical_word}
use Rattle.gpt_descriptors.proofs.SizeLemmas.{granule_low, word_is, word_bytes_low, words_whole}
use Rattle.gpt_descriptors.proofs.PackedLemmas.{packed_with}
use Rattle.gpt_descriptors.proofs.BlockLemmas.{wider, widest, in_widest, word_granule}
use Rattle.gpt_descriptors.proofs.AroundLemmas.{around_none, around_held, around_free, around_alike, largest_none, largest_shows, largest_alike, canonical_alike, own_word}
use Rattle.table_meaning.specs.Changing.{AgreesAround}

-- ---- locality

local_around : (s : SetupData) (m l : ℕ → Gpi) (a : Option ℕ) (w : ℕ) → AgreesAround s m l w → (z : Size) → is_block_around s m a w z ≡ is_block_around s l a w z
local_around s m l a w agrees z = around_alike s m l a w z (λ g inside. agrees g (in_widest s z (g / 16) w inside))

-- a canonical word is a matter of the map within its 512 MB
pub canonical_local : (s : SetupData) (m l : ℕ → Gpi) (a : Option ℕ) (w : ℕ) → AgreesAround s m l w → canonical_word s m a w ≡ canonical_word s l a w
canonical_local s m l a w agrees =
    canonical_alike s m l a a w (local_around s m l a w agrees)
    (λ i low. agrees (16 * w + i) (ap (λ (n : ℕ). n / words_of s size.FiveTwelve) (word_granule w i low)))

pub largest_local : (s : SetupData) (m l : ℕ → Gpi) (a : Option ℕ) (w : ℕ) → AgreesAround s m l w → largest_block s m a w ≡ largest_block s l a w
largest_local s m l a w agrees = largest_alike s m l a a w (local_around s m l a w agrees)

-- a change of granule g leaves all that is read in another 512 MB
pub agrees_elsewhere : (s : SetupData) (m l : ℕ → Gpi) (g w : ℕ) → ((k : ℕ) → k ≢ g → m k ≡ l k)
    → g / 16 / words_of s size.FiveTwelve ≢ w / words_of s size.FiveTwelve → AgreesAround s m l w
agrees_elsewhere s m l g w same away = λ k inside.
    same k (λ e. away (subst (λ (n : ℕ). n / 16 / words_of s size.FiveTwelve ≡ w / words_of s size.FiveTwelve) e inside))

pub change_elsewhere : (s : SetupData) (m l : ℕ → Gpi) (g w : ℕ) → ((k : ℕ) → k ≢ g → m k ≡ l k) → (a : Option ℕ)
    → g / 16 / words_of s size.FiveTwelve ≢ w / words_of s size.FiveTwelve → canonical_word s m a w ≡ canonical_word s l a w
change_elsewhere s m l g w same a away = canonical_local s m l a w (agrees_elsewhere s m l g w same away)

-- ---- the words of the tables that are canonical apart from the changed granule

apart_around : (s : SetupData) (m l : ℕ → Gpi) (g w : ℕ) → ((k : ℕ) → k ≢ g → m k ≡ l k) → (z : Size) → is_block_around s m (Some g) w z ≡ is_block_around s l (Some g) w z
apart_around s m l g w same z =
    elim (cases_eq (g / 16 / words_of s z) (w / words_of s z)) [
      | inl held ↦ around_held s m g w z held ∙ sym (around_held s l g w z held)
      | inr free ↦
          around_alike s m l (Some g) w z
          (λ k inside. same k (λ e. free (subst (λ (n : ℕ). n / 16 / words_of s z ≡ w / words_of s z) e inside)))
    ]

-- each word but the granule's own stays
pub change_apart : (s : SetupData) (m l : ℕ → Gpi) (g w : ℕ) → ((k : ℕ) → k ≢ g → m k ≡ l k) → w ≢ g / 16 → canonical_word s m (Some g) w ≡ canonical_word s l (Some g) w
change_apart s m l g w same other =
    canonical_alike s m l (Some g) (Some g) w (apart_around s m l g w same) (λ i low. same (16 * w + i) (λ e. other (omega (arith, e, low))))

-- and its own has the granule's field replaced
pub change_own : (s : SetupData) (m l : ℕ → Gpi) (g : ℕ) → ((k : ℕ) → k ≢ g → m k ≡ l k)
    → canonical_word s l (Some g) (g / 16) ≡ with_field (canonical_word s m (Some g) (g / 16)) (g % 16) (value_of (l g))
change_own s m l g same =
    let whole : 16 * (g / 16) + g % 16 ≡ g = omega arith in
    own_word s l g
    ∙ packed_with m l (16 * (g / 16)) (g % 16) (omega arith) (λ k other. same k (λ e. other (e ∙ sym whole)))
    ∙ ap (λ (k : ℕ). with_field (packed m (16 * (g / 16)) 16) (g % 16) (value_of (l k))) whole
    ∙ ap (λ (word : ℕ). with_field word (g % 16) (value_of (l g))) (sym (own_word s m g))

-- ---- addresses of one 512 MB

by_word : (s : SetupData) (w : ℕ) → w * word_bytes s / size_bytes size.FiveTwelve ≡ w / words_of s size.FiveTwelve
by_word s w =
    ap (λ (n : ℕ). w * word_bytes s / n) (sym (words_whole s size.FiveTwelve)) ∙ mul-div-mul_right w (words_of s size.FiveTwelve) (word_bytes_low s)

by_granule : (s : SetupData) (g : ℕ) → g * granule_bytes s / size_bytes size.FiveTwelve ≡ g / 16 / words_of s size.FiveTwelve
by_granule s g =
    let n : ℕ = words_of s size.FiveTwelve in
    let bytes : size_bytes size.FiveTwelve ≡ 16 * n * granule_bytes s =
    sym (words_whole s size.FiveTwelve) ∙ ap (λ (b : ℕ). n * b) (word_is s) ∙ grind arith in
    ap (λ (b : ℕ). g * granule_bytes s / b) bytes ∙ mul-div-mul_right g (16 * n) (omega (arith, granule_low s)) ∙ sym (div-div-eq-div-mul g 16 n)

-- a granule and a word of one 512 MB are there by their addresses too
pub same_address : (s : SetupData) (g w : ℕ) → g / 16 / words_of s size.FiveTwelve ≡ w / words_of s size.FiveTwelve
    → g * granule_bytes s / size_bytes size.FiveTwelve ≡ w * word_bytes s / size_bytes size.FiveTwelve
same_address s g w same = by_granule s g ∙ same ∙ sym (by_word s w)

-- ---- nothing to split, nothing to merge

one_same : (s : SetupData) (m : ℕ → Gpi) (g w : ℕ) (z : Size) → (g / 16 / words_of s z ≡ w / words_of s z → is_one_block s m z (w / words_of s z) ≡ false)
    → is_block_around s m None w z ≡ is_block_around s m (Some g) w z
one_same s m g w z none =
    elim (cases_eq (g / 16 / words_of s z) (w / words_of s z)) [
      | inl held ↦ around_none s m w z ∙ none held ∙ sym (around_held s m g w z held)
      | inr free ↦ around_none s m w z ∙ sym (around_free s m g w z free)
    ]

-- where no block around the granule may be one entry, all words are canonical apart from it already
pub apart_same : (s : SetupData) (m : ℕ → Gpi) (g w : ℕ) → largest_block s m None (g / 16) ≡ None → canonical_word s m None w ≡ canonical_word s m (Some g) w
apart_same s m g w none =
    canonical_alike s m m None (Some g) w
    (λ z. one_same s m g w z
    (λ held. ap (is_one_block s m z) (sym held) ∙ sym (around_none s m (g / 16) z) ∙ largest_none s m None (g / 16) none z))
    (λ i low. refl)

-- ---- words outside the largest block

outside_one : (s : SetupData) (m : ℕ → Gpi) (z : Size) (g w : ℕ) → largest_block s m None (g / 16) ≡ Some z → w / words_of s z ≢ g / 16 / words_of s z
    → (y : Size) → g / 16 / words_of s y ≡ w / words_of s y → is_block_around s m None (g / 16) y ≡ false
outside_one s m size.FiveTwelve g w is away size.FiveTwelve held = absurd (away (sym held))
outside_one s m size.FiveTwelve g w is away size.ThirtyTwo held = absurd (away (sym (widest s (g / 16) w held)))
outside_one s m size.FiveTwelve g w is away size.Two held = absurd (away (sym (widest s (g / 16) w (wider s (g / 16) w held))))
outside_one s m size.ThirtyTwo g w is away size.FiveTwelve held = (largest_shows s m None (g / 16) size.ThirtyTwo is).0
outside_one s m size.ThirtyTwo g w is away size.ThirtyTwo held = absurd (away (sym held))
outside_one s m size.ThirtyTwo g w is away size.Two held = absurd (away (sym (wider s (g / 16) w held)))
outside_one s m size.Two g w is away size.FiveTwelve held = (largest_shows s m None (g / 16) size.Two is).0
outside_one s m size.Two g w is away size.ThirtyTwo held = (largest_shows s m None (g / 16) size.Two is).1
outside_one s m size.Two g w is away size.Two held = absurd (away (sym held))

-- words outside the largest block around a granule are canonical apart from it already
pub elsewhere_same : (s : SetupData) (m : ℕ → Gpi) (z : Size) (g w : ℕ) → largest_block s m None (g / 16) ≡ Some z → w / words_of s z ≢ g / 16 / words_of s z
    → canonical_word s m None w ≡ canonical_word s m (Some g) w
elsewhere_same s m z g w is away =
    canonical_alike s m m None (Some g) w
    (λ y. one_same s m g w y
    (λ held. ap (is_one_block s m y) (sym held) ∙ sym (around_none s m (g / 16) y) ∙ outside_one s m z g w is away y held))
    (λ i low. refl)
