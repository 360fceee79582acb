-- The number that a field spells as a count or as an address, if it spells one below 2 ^ 64.
use Rattle.std.specs.Prelude.{ℕ, ◌+◌, ◌-◌, ◌*◌, ◌^◌, Bool, false, ◌&&◌, ◌||◌, not, List, [], ◌∷◌, length, take, drop, Option, Some, None, ◌==◌, nat_lt, nat_le, codes, if◌then◌else◌}
use Rattle.std.specs.List.{list_all, fold}
use Rattle.std.specs.Str.{bytes_eq}

-- the digits 0 to 9, and a to f in base 16
abbrev pub is_digit_of : ℕ → ℕ → Bool
is_digit_of base c = (nat_le 48 c && nat_le c 57) || (base == 16 && (nat_le 97 c && nat_le c 102))

abbrev pub digit_of : ℕ → ℕ
digit_of c = if nat_lt c 58 then c - 48 else c - 87

-- the number that digits spell, the highest digit first
abbrev pub value_in : ℕ → List ℕ → ℕ
value_in base text = fold (λ n c. n * base + digit_of c) 0 text

-- at least one digit, and no leading zero but for 0 itself
abbrev pub is_numeral : ℕ → List ℕ → Bool
is_numeral base [] = false
is_numeral base (c ∷ cs) = list_all (is_digit_of base) (c ∷ cs) && (not (c == 48) || length cs == 0)

abbrev pub numeral_in : ℕ → List ℕ → Option ℕ
numeral_in base text =
    if is_numeral base text && nat_lt (value_in base text) (2 ^ 64)
    then Some (value_in base text) else None

-- a count is in decimal
unfoldable pub count_in : List ℕ → Option ℕ
count_in field = numeral_in 10 field

-- an address is 0x and a numeral in base 16
unfoldable pub address_in : List ℕ → Option ℕ
address_in field =
    if bytes_eq (take 2 field) (codes "0x") then numeral_in 16 (drop 2 field) else None
