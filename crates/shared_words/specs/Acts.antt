-- What an act does to the shared words, and what it answers.
use Rattle.std.specs.Prelude.{ℕ, zero, suc, ◌+◌, List, slice_index, slice_set}
use Rattle.std.specs.Int.Bits.{bit_and, bit_or}
use Rattle.shared_words.specs.declared.act.Act.{Act}
use Rattle.shared_words.specs.declared.act.Act.TheVariants as act
use Rattle.shared_words.specs.declared.act.StoreRun.{StoreRun}

-- the place of the one word that an act is made on
abbrev pub place_in : Act → ℕ
place_in (act.Load place) = place
place_in (act.Store place value) = place
place_in (act.Or place value) = place
place_in (act.And place value) = place

-- the word after the act, of the word before it
abbrev pub written : Act → ℕ → ℕ
written (act.Load place) word = word
written (act.Store place value) word = value
written (act.Or place value) word = bit_or word value
written (act.And place value) word = bit_and word value

-- what the act answers, of the word before it
abbrev pub said : Act → ℕ → ℕ
said (act.Load place) word = word
said (act.Store place value) word = 0
said (act.Or place value) word = word
said (act.And place value) word = word

-- the words after an act, and its answer, of the words before it
abbrev pub after_act : Act → List ℕ → List ℕ
after_act a words = slice_set words (place_in a) (written a (slice_index words (place_in a)))

abbrev pub answer_of : Act → List ℕ → ℕ
answer_of a words = said a (slice_index words (place_in a))

-- store k of a run, counted from 0, and the words after its first n stores
abbrev pub store_in : StoreRun → ℕ → Act
store_in run k = act.Store (run.first + k) run.value

unfoldable pub after_stores : StoreRun → ℕ → List ℕ → List ℕ
after_stores run zero words = words
after_stores run (suc n) words = after_act (store_in run n) (after_stores run n words)
