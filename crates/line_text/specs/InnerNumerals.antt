-- Reading digits from left to right. It serves the reader's contracts and its proofs: nobody has to
-- believe it.
use Rattle.std.specs.Prelude.{◌≡◌, ℕ, ◌+◌, ◌*◌, ◌^◌, ◌⊎◌, ◌&&◌, List, Option, Some, None, nat_lt, if◌then◌else◌}
use Rattle.std.specs.List.{list_all, fold}
use Rattle.line_text.specs.Numerals.{is_digit_of, digit_of}

abbrev pub IsBase : ℕ → Type 0
IsBase base = (base ≡ 10) ⊎ (base ≡ 16)

-- the number of a digit after those of n, if it is below 2 ^ 64
abbrev pub pushed_in : ℕ → ℕ → ℕ → Option ℕ
pushed_in base n c =
    if is_digit_of base c && nat_lt (n * base + digit_of c) (2 ^ 64)
    then Some (n * base + digit_of c) else None

-- the number that digits spell after those of n
abbrev pub value_on : ℕ → ℕ → List ℕ → ℕ
value_on base n cs = fold (λ m c. m * base + digit_of c) n cs

-- that number, if it is below 2 ^ 64 and each of them is a digit
abbrev pub rest_in : ℕ → ℕ → List ℕ → Option ℕ
rest_in base n cs =
    if list_all (is_digit_of base) cs && nat_lt (value_on base n cs) (2 ^ 64)
    then Some (value_on base n cs) else None
