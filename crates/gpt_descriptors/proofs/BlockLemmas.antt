-- Aligned blocks: their numbers, blocks within blocks, and blocks of one GPI.
use Rattle.std.proofs.Common.{◌≡◌, ℕ, ◌+◌, ◌-◌, ◌*◌, ◌/◌, ◌≤◌, ◌<◌, Bool, true, ◌&&◌, refl, sym, ap, ◌∙◌, subst, arith, inl, inr}
use Rattle.std.proofs.Math.Nat.{div-mul-le_self, lt-div-mul-add}
use Rattle.std.proofs.lemmas.Nat.{div-mul-add}
use Rattle.std.proofs.lemmas.Bool.{cases_Bool, and_parts, and_from}
use Rattle.gpi_values.specs.declared.gpi.Gpi.{Gpi}
use Rattle.gpi_values.specs.Values.{value_of}
use Rattle.gpt_descriptors.specs.declared.size.Size.{Size}
use Rattle.gpt_descriptors.specs.declared.size.Size.TheVariants as size
use Rattle.gpt_descriptors.specs.declared.size.MaxBlock.{MaxBlock}
use Rattle.gpt_descriptors.specs.declared.size.MaxBlock.TheVariants as most
use Rattle.gpt_descriptors.specs.Sizes.{SetupData, words_of, is_permitted}
use Rattle.gpt_descriptors.specs.Canonical.{one_gpi, is_one_block, BlockIs}
use Rattle.gpt_descriptors.proofs.CanonicalLemmas.{one_gpi_at, one_gpi_from, words_some, thirty_two_around, five_twelve_around}

-- ---- the words and granules of block b of n words

pub start_low : (n b w : ℕ) → w / n ≡ b → b * n ≤ w
start_low n b w at = subst (λ (q : ℕ). q * n ≤ w) at (div-mul-le_self w n)

pub start_high : (n b w : ℕ) → 0 < n → w / n ≡ b → w < b * n + n
start_high n b w some at = subst (λ (q : ℕ). w < q * n + n) at (lt-div-mul-add some)

pub from_start : (n b w : ℕ) → b * n ≤ w → w < b * n + n → w / n ≡ b
from_start n b w low high =
    let rest : w ≡ b * n + (w - b * n) = omega (arith, low) in
    ap (λ (k : ℕ). k / n) rest ∙ div-mul-add b n (w - b * n) (omega (arith, low, high))

pub block_holds : (n b g : ℕ) → 0 < n → g / 16 / n ≡ b → (16 * (b * n) ≤ g) × (g < 16 * (b * n) + 16 * n)
block_holds n b g some at =
    let low = start_low n b (g / 16) at in
    let high = start_high n b (g / 16) some at in
    (omega (arith, low), omega (arith, high))

pub in_same_block : (n b g : ℕ) → 16 * (b * n) ≤ g → g < 16 * (b * n) + 16 * n → g / 16 / n ≡ b
in_same_block n b g low high = from_start n b (g / 16) (omega (arith, low)) (omega (arith, high))

-- the first granule of a word, and each of its granules
pub first_granule : (w : ℕ) → 16 * w / 16 ≡ w
first_granule w = omega arith

pub word_granule : (w i : ℕ) → i < 16 → (16 * w + i) / 16 ≡ w
word_granule w i low = omega arith

-- the first word of a block
pub first_word : (n b : ℕ) → 0 < n → b * n / n ≡ b
first_word n b some = from_start n b (b * n) (omega arith) (omega (arith, some))

-- ---- blocks within blocks

pub wider : (s : SetupData) (x w : ℕ) → x / words_of s size.Two ≡ w / words_of s size.Two → x / words_of s size.ThirtyTwo ≡ w / words_of s size.ThirtyTwo
wider s x w same = thirty_two_around s x ∙ ap (λ (n : ℕ). n / 16) same ∙ sym (thirty_two_around s w)

pub widest : (s : SetupData) (x w : ℕ) → x / words_of s size.ThirtyTwo ≡ w / words_of s size.ThirtyTwo → x / words_of s size.FiveTwelve ≡ w / words_of s size.FiveTwelve
widest s x w same = five_twelve_around s x ∙ ap (λ (n : ℕ). n / 16) same ∙ sym (five_twelve_around s w)

-- two words of one block of any size are in one block of 512 MB
pub in_widest : (s : SetupData) (z : Size) (x w : ℕ) → x / words_of s z ≡ w / words_of s z → x / words_of s size.FiveTwelve ≡ w / words_of s size.FiveTwelve
in_widest s size.Two x w same = widest s x w (wider s x w same)
in_widest s size.ThirtyTwo x w same = widest s x w same
in_widest s size.FiveTwelve x w same = same

-- ---- permitted sizes

pub permits_two : (max : MaxBlock) (z : Size) → is_permitted max z ≡ true → is_permitted max size.Two ≡ true
permits_two most.FiveTwelve z is = refl
permits_two most.ThirtyTwo size.Two is = refl
permits_two most.ThirtyTwo size.ThirtyTwo is = refl
permits_two most.ThirtyTwo size.FiveTwelve is = absurd cc
permits_two most.Two size.Two is = refl
permits_two most.Two size.ThirtyTwo is = absurd cc
permits_two most.Two size.FiveTwelve is = absurd cc
permits_two most.Zero size.Two is = absurd cc
permits_two most.Zero size.ThirtyTwo is = absurd cc
permits_two most.Zero size.FiveTwelve is = absurd cc

pub permits_thirty_two : (max : MaxBlock) → is_permitted max size.FiveTwelve ≡ true → is_permitted max size.ThirtyTwo ≡ true
permits_thirty_two most.FiveTwelve is = refl
permits_thirty_two most.ThirtyTwo is = absurd cc
permits_thirty_two most.Two is = absurd cc
permits_thirty_two most.Zero is = absurd cc

-- ---- blocks of one GPI

pub permitted_of : (s : SetupData) (m : ℕ → Gpi) (z : Size) (b : ℕ) → is_one_block s m z b ≡ true → is_permitted s.max z ≡ true
unfolding is_one_block
permitted_of s m z b one = (and_parts _ _ one).0

pub block_is_from : (s : SetupData) (m : ℕ → Gpi) (z : Size) (b : ℕ) → is_one_block s m z b ≡ true → BlockIs s m z b (m (16 * (b * words_of s z)))
unfolding is_one_block
block_is_from s m z b one = λ g at.
    let within = block_holds (words_of s z) b g (words_some s z) at in
    one_gpi_at m (16 * (b * words_of s z)) (16 * words_of s z) g (and_parts _ _ one).1 within.0 within.1

-- by any word of it
pub block_is_at : (s : SetupData) (m : ℕ → Gpi) (z : Size) (b w : ℕ) → w / words_of s z ≡ b → is_one_block s m z b ≡ true → BlockIs s m z b (m (16 * w))
block_is_at s m z b w at one = λ g inside.
    block_is_from s m z b one g inside ∙ sym (block_is_from s m z b one (16 * w) (ap (λ (n : ℕ). n / words_of s z) (first_granule w) ∙ at))

pub one_block_from : (s : SetupData) (m : ℕ → Gpi) (z : Size) (b : ℕ) (v : Gpi) → is_permitted s.max z ≡ true → BlockIs s m z b v → is_one_block s m z b ≡ true
unfolding is_one_block
one_block_from s m z b v permitted is =
    let n : ℕ = words_of s z in
    let first : m (16 * (b * n)) ≡ v = is (16 * (b * n)) (ap (λ (w : ℕ). w / n) (first_granule (b * n)) ∙ first_word n b (words_some s z)) in
    and_from _ _ permitted (one_gpi_from m (16 * (b * n)) (16 * n) (λ g low high. ap value_of (is g (in_same_block n b g low high) ∙ sym first)))

-- ---- two maps that agree on a block

one_gpi_carries : (m l : ℕ → Gpi) (first n : ℕ) → 0 < n → ((k : ℕ) → first ≤ k → k < first + n → m k ≡ l k) → one_gpi m first n ≡ true → one_gpi l first n ≡ true
one_gpi_carries m l first n some same one =
    one_gpi_from l first n
    (λ k low high. ap value_of (sym (same k low high) ∙ one_gpi_at m first n k one low high ∙ same first (omega arith) (omega (arith, some))))

one_gpi_alike : (m l : ℕ → Gpi) (first n : ℕ) → 0 < n → ((k : ℕ) → first ≤ k → k < first + n → m k ≡ l k) → one_gpi m first n ≡ one_gpi l first n
one_gpi_alike m l first n some same =
    elim (cases_Bool (one_gpi m first n)) [
      | inl one ↦ one ∙ sym (one_gpi_carries m l first n some same one)
      | inr not_one ↦ elim (cases_Bool (one_gpi l first n)) [
        | inl one ↦ absurd (let back = one_gpi_carries l m first n some (λ k low high. sym (same k low high)) one in cc)
        | inr none ↦ not_one ∙ sym none
      ]
    ]

pub one_block_alike : (s : SetupData) (m l : ℕ → Gpi) (z : Size) (b : ℕ) → ((g : ℕ) → g / 16 / words_of s z ≡ b → m g ≡ l g) → is_one_block s m z b ≡ is_one_block s l z b
unfolding is_one_block
one_block_alike s m l z b same =
    ap (λ (t : Bool). is_permitted s.max z && t)
    (one_gpi_alike m l (16 * (b * words_of s z)) (16 * words_of s z) (omega (arith, words_some s z))
    (λ g low high. same g (in_same_block (words_of s z) b g low high)))
