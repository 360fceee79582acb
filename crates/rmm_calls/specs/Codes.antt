-- The world whose granule calls are known, and the codes of answers (TF-A, RMMD).
use Rattle.std.specs.Prelude.{Bool, true, false, ℤ, pos, negsuc}
use Rattle.gpi_values.specs.declared.security.World.{World}
use Rattle.gpi_values.specs.declared.security.World.TheVariants as world
use Rattle.history.specs.declared.call.Answer.{Answer}
use Rattle.history.specs.declared.call.Answer.TheVariants as answer

abbrev pub is_admitted : World → Bool
is_admitted world.Realm = true
is_admitted world.Secure = false
is_admitted world.NonSecure = false

-- negsuc n is -(n + 1)
abbrev pub code_of : Answer → ℤ
code_of (answer.Done generations) = pos 0
code_of answer.Unknown = negsuc 0
code_of answer.Inval = negsuc 1
code_of (answer.Perm found) = negsuc 2
code_of (answer.Worn size value) = negsuc 99
code_of (answer.Seen access) = pos 0
