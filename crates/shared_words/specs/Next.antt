-- The words after a next act, where there is one.
use Rattle.std.specs.Prelude.{ℕ, ◌<◌, List, length, Option, Some, None}
use Rattle.shared_words.specs.declared.act.Act.{Act}
use Rattle.shared_words.specs.Acts.{place_in, answer_of, after_act}

-- what it answers; 0 where there is none
abbrev pub old_by : Option Act → List ℕ → ℕ
old_by None words = 0
old_by (Some t) words = answer_of t words

abbrev pub words_after : Option Act → List ℕ → List ℕ
words_after None words = words
words_after (Some t) words = after_act t words

-- its place is among the words
abbrev pub MayBeMade : Option Act → List ℕ → Type 0
MayBeMade None words = Unit {0}
MayBeMade (Some t) words = place_in t < length words
