-- Turns of one agent in a row, on the words.
use Rattle.std.specs.Prelude.{ℕ, zero, suc, List}
use Rattle.shared_words.specs.Next.{old_by, words_after, MayBeMade}
use Rattle.delegate_ops.specs.InnerAgents.{AgentData, IsReadable, next_of, took_of}

-- an agent and the words after its next act, and after its next n acts
abbrev pub turned_once : AgentData × List ℕ → AgentData × List ℕ
turned_once s = (took_of s.0 (old_by (next_of s.0) s.1), words_after (next_of s.0) s.1)

abbrev pub turned : ℕ → AgentData × List ℕ → AgentData × List ℕ
turned zero s = s
turned (suc n) s = turned_once (turned n s)

-- the next act may be made on these words
abbrev pub MayTurn : AgentData × List ℕ → Type 0
MayTurn s = MayBeMade (next_of s.0) s.1 × IsReadable s.0.stage (old_by (next_of s.0) s.1)
