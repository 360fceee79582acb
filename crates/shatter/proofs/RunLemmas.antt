-- Runs of the stores of a splitting.
use Rattle.std.proofs.Common.{◌≡◌, ℕ, zero, suc, ◌+◌, ◌-◌, ◌*◌, ◌/◌, ◌≤◌, ◌<◌, true, eqb, Some, refl, sym, ap, ◌∙◌, arith, add-zero}
use Rattle.std.proofs.lemmas.Bool.{lt-ltb, le-leb}
use Rattle.shared_words.specs.declared.act.Act.TheVariants as act
use Rattle.shatter.specs.Splitting.{SplittingData, split_word, next_store, advanced, advanced_by}
use Rattle.shatter.proofs.WordLemmas.{in_block}

-- words from word j on that are all in the block of another word
inside_block : (j start n own : ℕ) → 0 < n → start ≡ own / n * n → start ≤ j → j - start < n → eqb (j / n) (own / n) ≡ true
inside_block j start n own some at low high = sym (in_block j start n own some at) ∙ rw (le-leb start j low, lt-ltb (j - start) n high) refl

pub alike_inside : (j start n own k : ℕ) → 0 < n → start ≡ own / n * n → start ≤ j → j - start < n → k < n - (j - start) → eqb ((j + k) / n) (own / n) ≡ eqb (j / n) (own / n)
alike_inside j start n own k some at low high near =
    inside_block (j + k) start n own some at (omega (arith, low)) (omega (arith, low, high, near)) ∙ sym (inside_block j start n own some at low high)

-- ---- the data after n stores

abbrev pub made_more : ℕ → SplittingData → SplittingData
made_more n d = record d { made = d.made + n }

made_same : (m n : ℕ) (d : SplittingData) → d.made + m ≡ n → made_more m d ≡ record d { made = n }
made_same m n d same = ap (λ (k : ℕ). let e : SplittingData = record d { made = k } in e) same

pub advanced_is : (n : ℕ) (d : SplittingData) → advanced_by n d ≡ made_more n d
unfolding advanced_by
advanced_is zero d = sym (made_same 0 d.made d (add-zero d.made))
advanced_is (suc n) d = ap advanced (advanced_is n d) ∙ sym (made_same (suc n) (d.made + n + 1) d (omega arith))

pub run_is_next : (d : SplittingData) (first value count : ℕ) → first ≡ d.first + d.made → value ≡ split_word d.two d.own d.gpi d.made
    → ((k : ℕ) → k < count → split_word d.two d.own d.gpi (d.made + k) ≡ split_word d.two d.own d.gpi d.made) → d.made + count ≤ d.words
    → (k : ℕ) → k < count → next_store (advanced_by k d) ≡ Some (act.Store (first + k) value)
run_is_next d first value count at is alike within k low =
    let place : d.first + (d.made + k) ≡ first + k = omega (arith, at) in
    let word : split_word d.two d.own d.gpi (d.made + k) ≡ value = alike k low ∙ sym is in
    ap next_store (advanced_is k d) ∙ rw (lt-ltb (d.made + k) d.words (omega (arith, within, low)), word, place) refl
