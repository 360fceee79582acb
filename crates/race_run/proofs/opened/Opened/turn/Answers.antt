use Rattle.std.proofs.Common.{◌≡◌, ◌<◌, length, ap, arith}
use Rattle.race_run.specs.Passes.{OpenedData}
use Rattle.race_run.proofs.OpenedLemmas.{own_at, still_on}
use Rattle.race_run.proofs.opened.Opened.turn.Goals as goal

pub turn-requires : goal.turn-requires
turn-requires c =
    let many : length c.self.inside.callers.items ≡ length c.args.self.now.callers = ap (λ (o : OpenedData). length o.callers) c.self.view_is in
    let low : c.args.caller < length c.self.inside.callers.items = omega (arith, many, c.requires) in
    record { pass = (c.args.caller, own_at c.self.inside.field c.self.inside.passes.items c.self.inside.callers.items c.args.caller c.index_mut.result.now c.index_mut-2.result.now c.self.invariant low c.index_mut.ensures.value c.index_mut-2.ensures.value) }

pub invariant_of-self : goal.invariant_of-self
invariant_of-self c =
    let many : length c.self.inside.callers.items ≡ length c.args.self.now.callers = ap (λ (o : OpenedData). length o.callers) c.self.view_is in
    let low : c.args.caller < length c.self.inside.callers.items = omega (arith, many, c.requires) in
    still_on c.self.inside.field c.self.inside.passes.items c.self.inside.callers.items c.args.caller c.turn.new.pass c.turn.new.caller c.self.invariant
    (c.turn.ensures.again c.args.caller (own_at c.self.inside.field c.self.inside.passes.items c.self.inside.callers.items c.args.caller c.index_mut.result.now c.index_mut-2.result.now c.self.invariant low c.index_mut.ensures.value c.index_mut-2.ensures.value))
