-- Acts that were made.
use Rattle.std.specs.Prelude.{ℕ, List, map}
use Rattle.shared_words.specs.declared.act.Act.{Act}

-- an act, and the word that it answered
pub record Event : Type 0 where
  pub act : Act
  pub old : ℕ

abbrev pub acts_in : List Event → List Act
acts_in events = map (λ e. e.act) events
