-- A list of words as maximal runs of equal words.
use Rattle.std.specs.Prelude.{◌≡◌, ◌≢◌, ◌≤◌, ℕ, ◌+◌, List, [], ◌∷◌, replicate, ◌==◌, if◌then◌else◌}
use Rattle.std.specs.List.{flat_map}

-- `count` equal words, the first of which has this index
pub record Run : Type 0 where
  pub first : ℕ
  pub count : ℕ
  pub word : ℕ

abbrev pub run_of : ℕ → ℕ → ℕ → Run
run_of first count word = record { first = first; count = count; word = word }

-- the runs of a list after `count` equal words: the run goes on with a word that is equal, and ends
-- at any other
abbrev pub runs_after : ℕ → ℕ → ℕ → List ℕ → List Run
runs_after first count word [] = run_of first count word ∷ []
runs_after first count word (next ∷ rest) =
    if next == word
    then runs_after first (count + 1) word rest
    else run_of first count word ∷ runs_after (first + count) 1 next rest

-- the runs of a list whose first word has this index
abbrev pub runs_from : ℕ → List ℕ → List Run
runs_from first [] = []
runs_from first (word ∷ rest) = runs_after first 1 word rest

-- the runs of a list
abbrev pub runs_of : List ℕ → List Run
runs_of words = runs_from 0 words

-- each run has at least one word, and begins where the one before it ended
abbrev pub AreJoined : ℕ → List Run → Type 0
AreJoined n [] = Unit {0}
AreJoined n (run ∷ runs) = (run.first ≡ n) × ((1 ≤ run.count) × AreJoined (n + run.count) runs)

abbrev pub BeginsApart : ℕ → List Run → Type 0
BeginsApart word [] = Unit {0}
BeginsApart word (run ∷ runs) = word ≢ run.word

-- neighbours differ, so that no run could be longer
abbrev pub AreApart : List Run → Type 0
AreApart [] = Unit {0}
AreApart (run ∷ runs) = BeginsApart run.word runs × AreApart runs

-- The maximal runs of a list of words.
pub record AreMaximalRuns (words : List ℕ) (runs : List Run) : Type 0 where
  pub spelled : flat_map (λ run. replicate run.count run.word) runs ≡ words
  pub joined : AreJoined 0 runs
  pub apart : AreApart runs

-- the runs of any list are its maximal runs
pub record AreRunsMaximal : Type 0 where
  pub each : (words : List ℕ) → AreMaximalRuns words (runs_of words)
