-- How a run ends: its status, and what the sink holds.
use Rattle.std.specs.Prelude.{◌≡◌, ℕ, ◌<◌, ◌^◌, ◌⊎◌, List, [], ◌∷◌, length, take, Option, codes}
use Rattle.std.specs.Io.KnownBytes.{Appends}
use Rattle.line_text.specs.Lines.{count}
use Rattle.gpt_io.specs.Counts.{Rose}
use Rattle.gpt_cli.specs.declared.command.Command.{Command}
use Rattle.gpt_cli.specs.declared.command.Command.TheVariants as command
use Rattle.gpt_cli.specs.declared.reply.Reply.{Reply}
use Rattle.gpt_cli.specs.declared.status.Status.TheVariants as status
use Rattle.gpt_cli.specs.Statuses.{code_of}

-- the words that are a command which reads a scenario
abbrev pub IsCommandOf : List (List ℕ) → Command → Type 0
IsCommandOf words command.Tables = words ≡ codes "tables" ∷ []
IsCommandOf words command.Play = words ≡ codes "play" ∷ []

-- they are one that reads a scenario
abbrev pub IsCommand : List (List ℕ) → Type 0
IsCommand words = (command : Command) × IsCommandOf words command

-- they are the load of this number, at most 4294967295, spelled as a count
abbrev pub IsLoadOf : List (List ℕ) → ℕ → Type 0
IsLoadOf words number = (words ≡ codes "load" ∷ count number ∷ []) × (number < 2 ^ 32)

-- they are a load
abbrev pub IsLoad : List (List ℕ) → Type 0
IsLoad words = (number : ℕ) × IsLoadOf words number

-- The reply was written whole, or a write failed, the exit status says so and a proper prefix of
-- the text was written.
abbrev pub Delivers : Option (List ℕ) → Option (List ℕ) → ℕ → ℕ → Reply → ℕ → Type 0
Delivers before after faults_before faults_after reply code =
    ((code ≡ code_of reply.status) × Appends before after reply.text
    × (faults_after ≡ faults_before))
    ⊎ ((code ≡ code_of status.WriteFailed) × Rose faults_before faults_after
    × (n : ℕ) × (n < length reply.text) × Appends before after (take n reply.text))
