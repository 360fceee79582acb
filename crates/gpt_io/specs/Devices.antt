-- What is known of a reader or a writer of the standard library under a count of its faults.
use Rattle.std.specs.Prelude.{ℕ, ◌≤◌, List, Option, length, take}
use Rattle.std.specs.Io.KnownBytes.{Appends}

-- `known` are the bytes that a reader has left or a writer holds, where its type reports them, and
-- `faults` how many calls have failed
pub record DeviceState : Type 0 where
  pub known : Option (List ℕ)
  pub faults : ℕ

-- known bytes grow by a prefix of a piece
abbrev pub AppendsPrefixOf : List ℕ → Option (List ℕ) → Option (List ℕ) → Type 0
AppendsPrefixOf piece before after =
    (n : ℕ) × (n ≤ length piece) × Appends before after (take n piece)
