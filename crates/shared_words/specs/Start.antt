-- The shared words before the first act.
use Rattle.std.specs.Prelude.{ℕ, ◌*◌, List, ◌++◌, replicate, slice_index}
use Rattle.gpt_descriptors.specs.Places.{GeometryData, WordName, Lock, Generation, Duty, Level1, Line, l1_words}

-- Locks, generations of each size, duty words, L1 words and line words stand in this order: locks,
-- duty and lines are 0, each generation is the first one.
unfoldable pub start_words : GeometryData → List ℕ → List ℕ
start_words g l1 =
    replicate 2 0 ++ replicate (546 * g.setup.gigabytes) g.setup.first ++ replicate g.cpus 0
    ++ l1 ++ replicate (l1_words g) 0

-- the word with this name
abbrev pub start_word : GeometryData → List ℕ → WordName → ℕ
start_word g l1 (Lock n) = 0
start_word g l1 (Generation size block) = g.setup.first
start_word g l1 (Duty cpu) = 0
start_word g l1 (Level1 i) = slice_index l1 i
start_word g l1 (Line i) = 0
