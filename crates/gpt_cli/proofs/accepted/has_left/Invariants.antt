use Rattle.std.proofs.Common.{◌≡◌, drop}
use Rattle.gpt_cli.specs.Replies.{has_left}
use Rattle.gpt_cli.proofs.accepted.has_left.Given as goal

abbrev pub invariant-loop-k : goal.invariant-loop-k
invariant-loop-k l = has_left (drop l.k l.scripts) (drop l.k l.answers) ≡ has_left l.scripts l.answers
