use Rattle.std.proofs.Common.{◌≡◌, ℕ, ◌+◌, ◌<◌, List, [], ◌∷◌, ◌++◌, map, drop, length, length-append, sym, ap, ◌∙◌, arith}
use Rattle.atomic_table.specs.Table.{Me}
use Rattle.gpt_descriptors.specs.Places.{word_count}
use Rattle.race_run.specs.declared.view.View.{View}
use Rattle.race_run.specs.Passes.{FieldData, PassData}
use Rattle.race_run.specs.InnerRule.{fresh_seen, numbered, opening_of, seen_of, whole, with_held}
use Rattle.race_run.proofs.OpeningLemmas.{numbered_count}
use Rattle.race_run.proofs.SplitLemmas.{cut_keeps}
use Rattle.race_run.proofs.DealLemmas.{all_dealt, dealt_more, whole_less}
use Rattle.race_run.proofs.field.Field.deal.Goals as goal

pub split_seat-seat-requires : goal.split_seat-seat-requires
split_seat-seat-requires c =
    let id = ap (λ (f : FieldData). f.id) c.self.view_is in
    let some : 0 < word_count c.self.inside.table.shared.key.geometry = omega arith in
    (c.loop.invariant.0 ∙ sym id, omega (arith, c.self.invariant.0, some), cut_keeps (opening_of c.self.inside.table.shared.key) c.loop.whole.id c.loop.whole.me.0)

pub loop-preserved : goal.loop-preserved
loop-preserved c =
    let held = numbered 0 c.args.self.now.opening.callers in
    let within : c.loop.counter < length held = omega (arith, numbered_count 0 c.args.self.now.opening.callers, c.requires.count, c.loop-test.true) in
    let is : c.loop.whole.me.0 ≡ with_held (whole c.args.self.now.opening) (drop c.loop.counter held) = ap (λ (me : Me ℕ View). me.0) c.loop.invariant.1 in
    let empty : c.loop.whole.me.1 ≡ [] = ap (λ (me : Me ℕ View). me.1) c.loop.invariant.1 in
    let cut = c.split_seat-seat.ensures in
    let p : PassData = record { id = c.split_seat-seat.result.table_id; number = c.split_seat-seat.result.id; view = c.split_seat-seat.result.me.0 } in
    let count : length (c.loop.passes.items ++ p ∷ []) ≡ length c.loop.passes.items + 1 = length-append c.loop.passes.items (p ∷ []) in
    let many : length c.push_reserved.new.self.items ≡ length (c.loop.passes.items ++ p ∷ []) = ap (λ (ps : List PassData). length ps) c.push_reserved.ensures.items in (
      cut.0 ∙ c.loop.invariant.0,
      cut.2 ∙ (λ i. (whole_less c.args.self.now held c.loop.counter c.loop.whole.me.0 is i, empty i)),
      ap (λ (ps : List PassData). map seen_of ps ++ map (fresh_seen c.args.self.now) (drop (c.loop.counter + 1) held)) c.push_reserved.ensures.items
          ∙ dealt_more c.args.self.now held c.loop.counter c.loop.passes.items p c.loop.whole.me.0 within c.loop.invariant.2 is (cut.3 ∙ c.loop.invariant.0) (ap (λ (me : Me ℕ View). me.0) cut.4),
      omega (arith, many, count, c.loop.invariant.3),
      omega (arith, c.loop.invariant.4, c.push_reserved.ensures.capacity),
    )

pub returns : goal.returns
returns c =
    all_dealt c.args.self.now (numbered 0 c.args.self.now.opening.callers) c.loop.counter c.loop.passes.items
    (omega (arith, numbered_count 0 c.args.self.now.opening.callers, c.requires.count, c.loop-test.false)) c.loop.invariant.2
