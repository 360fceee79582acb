-- The events of calls: acts with the words that they answered, and the entries that they make.
use Rattle.std.specs.Prelude.{ℕ, List, []}
use Rattle.shared_words.specs.Events.{Event}
use Rattle.shared_words.specs.declared.act.Act.{Act}
use Rattle.history.specs.declared.entry.Entry.{Entry}

-- an event of a call: an act, the word that it answered, and the entries that it makes
pub record CallEvent : Type 0 where
  pub act : Act
  pub old : ℕ
  pub made : List Entry

-- a step of a script: an act and the entries that it makes
pub record Step : Type 0 where
  pub act : Act
  pub made : List Entry

-- an event, and a step, without entries
abbrev pub plain : Act → ℕ → CallEvent
plain act old = record { act = act; old = old; made = [] }

abbrev pub plain_step : Act → Step
plain_step act = record { act = act; made = [] }

abbrev pub plain_event : Event → CallEvent
plain_event e = plain e.act e.old
