use Rattle.std.proofs.Common.{arith, ℕ, ◌+◌}
use Rattle.std.proofs.lemmas.List.{length-take}
use Rattle.gpt_stream.specs.declared.input.TheConstants.{INPUT_LIMIT}
use Rattle.gpt_stream.proofs.Known.{Consumes_within}
use Rattle.gpt_stream.proofs.input.read_input.Goals as goal

pub returns-in-Err-extend_from_slice-clause-limit :
    goal.returns-in-Err-extend_from_slice-clause-limit
returns-in-Err-extend_from_slice-clause-limit g c =
    Consumes_within _ _ _ c.loop-piece.bytes.items c.read.new.piece c.in-Ok.n (INPUT_LIMIT + 1) c.loop-piece.invariant.taken c.in-Ok.ensures.bytes.0 (omega (arith, c.in-Ok.ensures.bound, c.read.auto.piece, length-take {A = ℕ}))
