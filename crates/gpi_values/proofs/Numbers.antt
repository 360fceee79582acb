-- A test of each of n numbers in a row, from a first one on.
use Rattle.std.proofs.Common.{◌≡◌, ℕ, zero, suc, ◌+◌, ◌≤◌, ◌<◌, Bool, true, List, [], ◌∷◌, ◌++◌, map, replicate, refl, sym, ap, ◌∙◌, arith, inl, inr, subst}
use Rattle.std.specs.List.{list_all, range_with_len}
use Rattle.std.proofs.lemmas.Bool.{cases_lt, and_parts, and_from}

-- the test passes at each number
pub each_at : (p : ℕ → Bool) (a n k : ℕ) → list_all p (range_with_len a n) ≡ true → a ≤ k → k < a + n → p k ≡ true
each_at p a zero k e low high = absurd (omega arith)
each_at p a (suc n) k e low high =
    elim (cases_lt a k) [
      | inl above ↦ each_at p (a + 1) n k ((and_parts (p a) (list_all p (range_with_len (a + 1) n)) e).1) (omega arith) (omega arith)
      | inr below ↦ subst (λ (m : ℕ). p m ≡ true) (let same : a ≡ k = omega arith in same) ((and_parts (p a) (list_all p (range_with_len (a + 1) n)) e).0)
    ]

pub each_from : (p : ℕ → Bool) (a n : ℕ) → ((k : ℕ) → a ≤ k → k < a + n → p k ≡ true) → list_all p (range_with_len a n) ≡ true
each_from p a zero each = refl
each_from p a (suc n) each =
    and_from (p a) (list_all p (range_with_len (a + 1) n)) (each a (omega arith) (omega arith))
    (each_from p (a + 1) n (λ k low high. each k (omega arith) (omega arith)))

-- values at numbers in a row, in two parts
pub map_range-append : {A : Type 0} (f : ℕ → A) (a n k : ℕ) → map f (range_with_len a (n + k)) ≡ map f (range_with_len a n) ++ map f (range_with_len (a + n) k)
map_range-append f a zero k =
    let first : 0 + k ≡ k = omega arith in
    let later : a + 0 ≡ a = omega arith in
    rw (first, later) refl
map_range-append {A = A} f a (suc n) k =
    let first : suc n + k ≡ suc (n + k) = omega arith in
    let later : a + suc n ≡ a + 1 + n = omega arith in
    rw (first, later) (ap (λ (xs : List A). f a ∷ xs) (map_range-append f (a + 1) n k))

-- one value at all of them
pub map_range_same : {A : Type 0} (f : ℕ → A) (a n : ℕ) (x : A) → ((j : ℕ) → j < n → f (a + j) ≡ x) → map f (range_with_len a n) ≡ replicate n x
map_range_same f a zero x each = refl
map_range_same {A = A} f a (suc n) x each =
    let first : f a ≡ x = ap f (let same : a ≡ a + 0 = omega arith in same) ∙ each 0 (omega arith) in
    ap (λ (y : A). y ∷ map f (range_with_len (a + 1) n)) first
    ∙ ap (λ (ys : List A). x ∷ ys) (map_range_same f (a + 1) n x (λ j lt. ap f (let same : a + 1 + j ≡ a + (j + 1) = omega arith in same) ∙ each (j + 1) (omega arith)))

-- two functions that agree at all of them
pub map_range_alike : {A : Type 0} (f g : ℕ → A) (a n : ℕ) → ((j : ℕ) → j < n → f (a + j) ≡ g (a + j)) → map f (range_with_len a n) ≡ map g (range_with_len a n)
map_range_alike f g a zero each = refl
map_range_alike {A = A} f g a (suc n) each =
    let start : a ≡ a + 0 = omega arith in
    let first : f a ≡ g a = subst (λ (k : ℕ). f k ≡ g k) (sym start) (each 0 (omega arith)) in
    ap (λ (y : A). y ∷ map f (range_with_len (a + 1) n)) first
    ∙ ap (λ (ys : List A). g a ∷ ys)
    (map_range_alike f g (a + 1) n (λ j lt. subst (λ (k : ℕ). f k ≡ g k) (let same : a + (j + 1) ≡ a + 1 + j = omega arith in same) (each (j + 1) (omega arith))))
