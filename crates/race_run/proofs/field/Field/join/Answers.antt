use Rattle.std.proofs.Common.{◌≡◌, ℕ, ◌<◌, Some, ap, sym, ◌∙◌, arith}
use Rattle.atomic_table.specs.Table.{Me}
use Rattle.gpt_descriptors.specs.Places.{word_count}
use Rattle.race_run.specs.declared.view.View.{View}
use Rattle.race_run.specs.Passes.{FieldData, PassData}
use Rattle.race_run.specs.InnerRule.{joined, joined_back, opening_of}
use Rattle.race_run.proofs.JoinLemmas.{join_keeps}
use Rattle.race_run.proofs.CloseLemmas.{last_joined, last_of}
use Rattle.race_run.proofs.field.Field.join.Goals as goal

pub join_seat-requires : goal.join_seat-requires
join_seat-requires c =
    let field = ap (λ (f : FieldData). f.id) c.self.view_is in
    let opening : opening_of c.self.inside.table.shared.key ≡ c.args.self.now.opening = ap (λ (f : FieldData). f.opening) c.self.view_is in
    let last = last_of c.args.self.now c.loop-pass.passes.items c.pop.new.self.items c.in-Some.pass c.in-Some.ensures.items c.loop-pass.invariant.4 in
    let id : c.pass.inside.seat.table_id ≡ c.in-Some.pass.id = ap (λ (p : PassData). p.id) c.pass.view_is in
    let view : c.pass.inside.seat.me.0 ≡ c.in-Some.pass.view = ap (λ (p : PassData). p.view) c.pass.view_is in
    let some : 0 < word_count c.self.inside.table.shared.key.geometry = omega arith in (
      c.loop-pass.invariant.0 ∙ c.requires.seat.0 ∙ sym field,
      id ∙ last.0 ∙ sym field,
      c.pass.invariant,
      omega (arith, c.self.invariant.0, some),
      join_keeps (opening_of c.self.inside.table.shared.key) c.loop-pass.seat.id c.pass.inside.seat.id c.loop-pass.seat.me.0 c.pass.inside.seat.me.0 (c.loop-pass.invariant.3 ∙ ap Some (sym opening))
          (ap (λ (v : View). v.opening) view ∙ last.1 ∙ ap Some (sym opening)),
    )

pub loop-pass-preserved : goal.loop-pass-preserved
loop-pass-preserved c =
    let last = last_of c.args.self.now c.loop-pass.passes.items c.pop.new.self.items c.in-Some.pass c.in-Some.ensures.items c.loop-pass.invariant.4 in
    let view : c.pass.inside.seat.me.0 ≡ c.in-Some.pass.view = ap (λ (p : PassData). p.view) c.pass.view_is in
    let me = c.join_seat.ensures.2 in
    let now : c.join_seat.new.seat.me.0 ≡ joined c.loop-pass.seat.me.0 c.in-Some.pass.view = ap (λ (m : Me ℕ View). m.0) me ∙ ap (joined c.loop-pass.seat.me.0) view in (
      c.join_seat.ensures.0 ∙ c.loop-pass.invariant.0,
      c.join_seat.ensures.1 ∙ c.loop-pass.invariant.1,
      ap (λ (m : Me ℕ View). m.1) me ∙ c.loop-pass.invariant.2,
      ap (λ (v : View). v.opening) now ∙ c.loop-pass.invariant.3,
      last.2,
      ap (λ (v : View). joined_back v c.pop.new.self.items) now ∙ sym (last_joined c.loop-pass.seat.me.0 c.pop.new.self.items c.in-Some.pass)
          ∙ ap (joined_back c.loop-pass.seat.me.0) (sym c.in-Some.ensures.items) ∙ c.loop-pass.invariant.5,
    )
