use Rattle.std.proofs.Common.{◌≡◌}
use Rattle.shared_words.specs.Acts.{after_stores}
use Rattle.shared_words.proofs.act.Words.fill.Given as goal

abbrev pub invariant-loop-number : goal.invariant-loop-number
invariant-loop-number g l = g.Self.Words.words l.self ≡ after_stores l.run l.number (g.Self.Words.words l.initial.self)
