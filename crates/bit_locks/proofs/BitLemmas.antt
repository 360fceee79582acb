-- One bit of one word of a list: what changes where a word is written that differs in that bit alone.
use Rattle.std.proofs.Common.{◌≡◌, ◌≢◌, ℕ, zero, suc, ◌-◌, ◌*◌, ◌/◌, ◌%◌, ◌^◌, ◌<◌, ◌↔◌, cond, eqb, List, length, get_or, set, refl, sym, ap, subst, ◌∙◌, arith, inl, inr}
use Rattle.std.specs.Int.{bit_at, bit_not, w64}
use Rattle.std.specs.Int.Bits.{bit_and, bit_or}
use Rattle.std.proofs.Math.Nat.{zero-mul}
use Rattle.std.proofs.Math.Pow.{pow-lt}
use Rattle.std.proofs.lemmas.Nat.{pow_pos, mod_below}
use Rattle.std.proofs.lemmas.Nat.Bits.{bit_at_or, bit_at_and, bit_at_not, bit_at-pow_same, bit_at-pow_other, bit_at-lt, and_pow}
use Rattle.std.proofs.lemmas.Bool.{cases_eq, eq-eqb, ne_eqb, cond-true, cond-false}
use Rattle.std.proofs.lemmas.List.{get_or-set_same, get_or-set_other}

-- ---- a mask of one bit

pub set_same : (word k : ℕ) → bit_at (bit_or word (2 ^ k)) k ≡ 1
set_same word k = omega (arith, bit_at_or word (2 ^ k) k, bit_at-pow_same k, bit_at-lt word k)

pub set_other : (word k i : ℕ) → i ≢ k → bit_at (bit_or word (2 ^ k)) i ≡ bit_at word i
set_other word k i other = omega (arith, bit_at_or word (2 ^ k) i, bit_at-pow_other k i other)

mask_not : (k i : ℕ) → k < 64 → i < 64 → bit_at (bit_not w64 (2 ^ k)) i ≡ 1 - bit_at (2 ^ k) i
mask_not k i within below = bit_at_not w64 (2 ^ k) i (pow-lt within) below

pub clear_same : (word k : ℕ) → k < 64 → bit_at (bit_and word (bit_not w64 (2 ^ k))) k ≡ 0
clear_same word k within =
    omega (arith, bit_at_and word (bit_not w64 (2 ^ k)) k, mask_not k k within within, bit_at-pow_same k, bit_at-lt word k)

pub clear_other : (word k i : ℕ) → k < 64 → i < 64 → i ≢ k → bit_at (bit_and word (bit_not w64 (2 ^ k))) i ≡ bit_at word i
clear_other word k i within below other =
    omega (arith, bit_at_and word (bit_not w64 (2 ^ k)) i, mask_not k i within below, bit_at-pow_other k i other, bit_at-lt word i)

-- a word has none of the mask's bits exactly where its bit is 0
no_bit : (bit power : ℕ) → bit < 2 → 0 < power → bit * power ≡ 0 → bit ≡ 0
no_bit zero power low some e = refl
no_bit (suc zero) power low some e = absurd (omega arith)
no_bit (suc (suc b)) power low some e = absurd (omega arith)

pub mask_free : (word k : ℕ) → (bit_and word (2 ^ k) ≡ 0) ↔ (bit_at word k ≡ 0)
mask_free word k = (
  λ none. no_bit (bit_at word k) (2 ^ k) (bit_at-lt word k) (pow_pos k) (sym (and_pow word k) ∙ none),
  λ clear. and_pow word k ∙ (ap (λ (b : ℕ). b * 2 ^ k) clear ∙ zero-mul (2 ^ k)),
)

-- ---- a bit of a list of words

-- the word of bit n is written, and only that bit of it may change
pub one_bit : (words : List ℕ) (n m word value : ℕ) → n / 64 < length words → bit_at word (n % 64) ≡ value
    → ((i : ℕ) → i < 64 → i ≢ n % 64 → bit_at word i ≡ bit_at (get_or words (n / 64) 0) i)
    → bit_at (get_or (set words (n / 64) word) (m / 64) 0) (m % 64) ≡ cond (eqb m n) value (bit_at (get_or words (m / 64) 0) (m % 64))
one_bit words n m word value within here others =
    elim (cases_eq m n) [
      | inl one ↦
          subst (λ (j : ℕ). bit_at (get_or (set words (n / 64) word) (j / 64) 0) (j % 64) ≡ cond (eqb m n) value (bit_at (get_or words (m / 64) 0) (m % 64))) (sym one)
          (ap (λ (w : ℕ). bit_at w (n % 64)) (get_or-set_same words (n / 64) word 0 within) ∙ (here ∙ sym (cond-true (eqb m n) value _ (eq-eqb m n one))))
      | inr apart ↦
          elim (cases_eq (m / 64) (n / 64)) [
            | inl row ↦
                let other : m % 64 ≢ n % 64 = omega arith in
                ap (λ (j : ℕ). bit_at (get_or (set words (n / 64) word) j 0) (m % 64)) row
                ∙ (ap (λ (w : ℕ). bit_at w (m % 64)) (get_or-set_same words (n / 64) word 0 within)
                ∙ (others (m % 64) (mod_below m 64 (omega arith)) other
                ∙ (ap (λ (j : ℕ). bit_at (get_or words j 0) (m % 64)) (sym row) ∙ sym (cond-false (eqb m n) value _ (ne_eqb m n apart)))))
            | inr away ↦
                ap (λ (w : ℕ). bit_at w (m % 64)) (get_or-set_other words (n / 64) (m / 64) word 0 away)
                ∙ sym (cond-false (eqb m n) value _ (ne_eqb m n apart))
          ]
    ]

pub taken_bit : (words : List ℕ) (n m : ℕ) → n / 64 < length words
    → bit_at (get_or (set words (n / 64) (bit_or (get_or words (n / 64) 0) (2 ^ (n % 64)))) (m / 64) 0) (m % 64)
    ≡ cond (eqb m n) 1 (bit_at (get_or words (m / 64) 0) (m % 64))
taken_bit words n m within =
    one_bit words n m _ 1 within (set_same (get_or words (n / 64) 0) (n % 64)) (λ i below other. set_other (get_or words (n / 64) 0) (n % 64) i other)

pub released_bit : (words : List ℕ) (n m : ℕ) → n / 64 < length words
    → bit_at (get_or (set words (n / 64) (bit_and (get_or words (n / 64) 0) (bit_not w64 (2 ^ (n % 64))))) (m / 64) 0) (m % 64)
    ≡ cond (eqb m n) 0 (bit_at (get_or words (m / 64) 0) (m % 64))
released_bit words n m within =
    let low : n % 64 < 64 = mod_below n 64 (omega arith) in
    one_bit words n m _ 0 within (clear_same (get_or words (n / 64) 0) (n % 64) low)
    (λ i below other. clear_other (get_or words (n / 64) 0) (n % 64) i low below other)
