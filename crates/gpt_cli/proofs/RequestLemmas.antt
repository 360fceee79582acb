-- The words of a load, and its number.
use Rattle.std.proofs.Common.{◌≡◌, ℕ, ◌<◌, ◌≤◌, ◌^◌, List, [], ◌∷◌, length, get_or, Some, Bor, sym, ap, ◌∙◌, arith}
use Rattle.std.specs.Prelude.{map}
use Rattle.line_text.specs.Lines.{count}
use Rattle.line_text.specs.Numerals.{count_in}
use Rattle.line_text.proofs.NumeralLemmas.{count_again}

-- a field that is the count of a number is read as that number
pub number_read : (field : List ℕ) (n k : ℕ) → Some n ≡ count_in field → field ≡ count k → k < 2 ^ 64 → n ≡ k
number_read field n k read is low = let again : Some n ≡ Some k = read ∙ (ap count_in is ∙ count_again k low) in cc

pub same_number : (n k : ℕ) → n < 2 ^ 64 → k < 2 ^ 64 → count n ≡ count k → n ≡ k
same_number n k low_n low_k same = number_read (count n) n k (sym (count_again n low_n)) same low_k

-- two words, by the first and the second
pub two_words : (words : List (Bor (List ℕ))) (none : Bor (List ℕ)) (a b : List ℕ) → 2 ≤ length words → length words < 3 → (get_or words 0 none).now ≡ a → (get_or words 1 none).now ≡ b
    → map (λ (word : Bor (List ℕ)). word.now) words ≡ a ∷ b ∷ []
two_words [] none a b low high first second = absurd (omega (arith, low))
two_words (x ∷ []) none a b low high first second = absurd (omega (arith, low))
two_words (x ∷ (y ∷ [])) none a b low high first second = ap (λ (w : List ℕ). w ∷ (y.now ∷ [])) first ∙ ap (λ (w : List ℕ). a ∷ (w ∷ [])) second
two_words (x ∷ (y ∷ (z ∷ rest))) none a b low high first second = absurd (omega (arith, high))

pub second_word : (words : List (Bor (List ℕ))) (none : Bor (List ℕ)) (a b : List ℕ) → map (λ (word : Bor (List ℕ)). word.now) words ≡ a ∷ b ∷ [] → (get_or words 1 none).now ≡ b
second_word [] none a b are = absurd cc
second_word (x ∷ []) none a b are = absurd cc
second_word (x ∷ (y ∷ rest)) none a b are = cc
