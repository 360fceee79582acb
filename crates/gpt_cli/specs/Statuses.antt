-- The exit status of each way in which the program ends.
use Rattle.std.specs.Prelude.{ℕ}
use Rattle.gpt_cli.specs.declared.status.Status.{Status}
use Rattle.gpt_cli.specs.declared.status.Status.TheVariants as status

abbrev pub code_of : Status → ℕ
code_of status.Done = 0
code_of status.Refused = 1
code_of status.Usage = 2
code_of status.ReadFailed = 3
code_of status.WriteFailed = 4
code_of status.NoMemory = 5
code_of status.Left = 6
