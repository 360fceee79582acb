use Rattle.std.proofs.Common.{refl, rules, arith, ◌≡◌, ◌-◌, ◌+◌, length, min}
use Rattle.history.proofs.StampLemmas.{part_saw, saw_part, saw_none}
use Rattle.history.proofs.values.saw.Goals as goal

pub returns-then-start-end : goal.returns-then-start-end
returns-then-start-end c =
    let end : c.min-end.result ≡ min (length c.args.values.now) (c.args.hi + 2 - c.args.first) = omega arith in (
      λ t. part_saw c.args.values.now c.args.first c.args.lo c.args.hi _ _ _ c.requires.low refl end (c.has.ensures.0 t),
      λ saw. c.has.ensures.1 (saw_part c.args.values.now c.args.first c.args.lo c.args.hi _ _ _ c.requires.low refl end saw),
    )

pub returns-else-start-end : goal.returns-else-start-end
returns-else-start-end c =
    let end : c.min-end.result ≡ min (length c.args.values.now) (c.args.hi + 2 - c.args.first) = omega arith in (
      λ t. absurd (search rules),
      λ saw. absurd (saw_none c.args.values.now c.args.first c.args.lo c.args.hi (c.args.lo - c.args.first) _ _ c.requires.low refl end c.if-start-end.false saw),
    )
