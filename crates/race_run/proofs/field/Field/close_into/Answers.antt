use Rattle.std.proofs.Common.{◌≡◌, ℕ, ◌<◌, [], List, Some, refl, ap, sym, ◌∙◌, subst, arith}
use Rattle.atomic_table.specs.Table.{Me}
use Rattle.gpt_descriptors.specs.Places.{word_count}
use Rattle.race_run.specs.declared.view.Opening.{Opening}
use Rattle.race_run.specs.declared.view.View.{View}
use Rattle.race_run.specs.Passes.{FieldData}
use Rattle.race_run.specs.InnerRule.{IsRunning, joined_back, opening_of, with_held}
use Rattle.race_run.proofs.JoinLemmas.{enters, leaves}
use Rattle.race_run.proofs.CloseLemmas.{all_of, has_closed}
use Rattle.race_run.proofs.field.Field.close_into.Goals as goal

pub load_new_seat-seat-requires : goal.load_new_seat-seat-requires
load_new_seat-seat-requires c =
    let some : 0 < word_count c.self.inside.table.shared.key.geometry = omega arith in
    (omega (arith, c.self.invariant.0, some), enters (opening_of c.self.inside.table.shared.key) c.self.inside.table.shared.table_id.slots 0)

pub join-requires-clause-passes : goal.join-requires-clause-passes
join-requires-clause-passes c = all_of c.args.self c.args.passes.items c.requires.all.0 c.requires.all.1

pub split_seat-seen-requires : goal.split_seat-seen-requires
split_seat-seen-requires c =
    let some : 0 < word_count c.self.inside.table.shared.key.geometry = omega arith in (
      c.join.ensures.seat.0 ∙ c.load_new_seat-seat.ensures.0,
      omega (arith, c.self.invariant.0, some),
      leaves (opening_of c.self.inside.table.shared.key) c.join.new.seat.id c.join.new.seat.me.0,
    )

pub returns : goal.returns
returns c =
    let opening : opening_of c.self.inside.table.shared.key ≡ c.args.self.opening = ap (λ (f : FieldData). f.opening) c.self.view_is in
    let id = ap (λ (f : FieldData). f.id) c.self.view_is in
    let last = c.close_with-closed.ensures.values.2 in
    let cut = c.split_seat-seen.ensures in
    let entered = c.load_new_seat-seat.ensures.2 (opening_of c.self.inside.table.shared.key) refl in
    let entered_open : c.load_new_seat-seat.result.1.me.0.opening ≡ Some c.args.self.opening = ap (λ (m : Me ℕ View). m.0.opening) entered.1 ∙ ap Some opening in
    let same : c.split_seat-seen.new.seat.me.0 ≡ c.join.new.seat.me.0 = ap (λ (m : Me ℕ View). m.0) cut.2 in
    let is : c.split_seat-seen.new.seat.me.0 ≡ joined_back c.load_new_seat-seat.result.1.me.0 c.args.passes.items = same ∙ ap (λ (m : Me ℕ View). m.0) c.join.ensures.seat.2 in
    let words : last.0.words ≡ c.give_back.new.words.items = last.2 ∙ sym c.give_back.ensures in
    let rule : IsRunning c.args.self.opening c.give_back.new.words.items last.0.views =
    subst (λ (o : Opening). IsRunning o c.give_back.new.words.items last.0.views) opening
    (subst (λ (ws : List ℕ). IsRunning (opening_of c.self.inside.table.shared.key) ws last.0.views) words last.1.0) in
    λ callers all.
    has_closed c.args.self c.args.passes.items callers c.give_back.new.words.items last.0.views c.split_seat-seen.new.seat.id c.load_new_seat-seat.result.1.me.0 c.split_seat-seen.new.seat.me.0
    (record { id = c.split_seat-seen.result.table_id; number = c.split_seat-seen.result.id; view = c.split_seat-seen.result.me.0 })
    rule last.1.1 is entered_open all
    (cut.3 ∙ c.join.ensures.seat.0 ∙ c.load_new_seat-seat.ensures.0 ∙ id)
    (ap (λ (m : Me ℕ View). m.0) cut.4 ∙ ap (λ (v : View). with_held v []) (sym same))
