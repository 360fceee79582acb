-- What the functions that append to a text leave.
use Rattle.std.specs.Prelude.{◌≡◌, ℕ, List, ◌∷◌, ◌++◌, String, string_bytes}
use Rattle.std.specs.List.{join_with_byte}

-- a text was appended
abbrev pub Adds : {Z : Type 0} → String Z → List ℕ → String Z → Type 0
Adds old text new = string_bytes new ≡ string_bytes old ++ text

-- fields, each after a space
abbrev pub spaced : List (List ℕ) → List ℕ
spaced fields = 32 ∷ join_with_byte 32 fields
