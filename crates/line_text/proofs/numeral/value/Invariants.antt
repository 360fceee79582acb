use Rattle.std.proofs.Common.{◌≡◌, ◌^◌, ◌<◌, drop}
use Rattle.line_text.specs.InnerNumerals.{rest_in}
use Rattle.line_text.proofs.numeral.value.Given as goal

abbrev pub invariant-loop-byte : goal.invariant-loop-byte
invariant-loop-byte l = (l.sum < 2 ^ 64) × (rest_in l.base l.sum (drop l.byte-index l.digits) ≡ rest_in l.base 0 l.digits)
