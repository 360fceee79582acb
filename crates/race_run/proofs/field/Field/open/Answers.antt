use Rattle.std.proofs.Common.{◌≡◌, List, [], map, sym, ap, ◌∙◌, subst}
use Rattle.std.specs.List.{All}
use Rattle.shared_words.specs.Start.{start_words}
use Rattle.core_machine.specs.declared.caller.Caller.{Caller}
use Rattle.core_machine.specs.InnerCallers.{IsFresh}
use Rattle.core_machine.specs.InnerInvariant.{NumbersDiffer}
use Rattle.core_machine.specs.InnerOpening.{AreStarting}
use Rattle.gpt_descriptors.specs.Places.{GeometryData}
use Rattle.race_run.specs.declared.rule.FieldKey.{FieldKey}
use Rattle.race_run.specs.declared.view.Opening.{Opening}
use Rattle.race_run.specs.Passes.{FieldData}
use Rattle.race_run.specs.Turns.{IsMoment}
use Rattle.race_run.specs.InnerRule.{fresh_seen, numbered, opening_of}
use Rattle.race_run.proofs.OpeningLemmas.{opening_moment, opening_runs}
use Rattle.race_run.proofs.DealLemmas.{are_opened}
use Rattle.race_run.proofs.field.Field.open.Goals as goal

pub of_words-requires : goal.of_words-requires
of_words-requires c =
    let words : c.of.result.value ≡ start_words c.args.geometry c.args.tables.now.l1 = c.of.ensures ∙ c.in_ok-words.ensures.words ∙ ap (start_words c.args.geometry) c.l1.ensures.words in
    let callers : c.of-2.result.value.items ≡ c.args.callers.now.items = ap (λ v. v.items) c.of-2.ensures in
    opening_runs (opening_of (record { geometry = c.args.geometry; words = c.of.result; callers = c.of-2.result })) c.words-2.result.now
    (c.words-2.ensures ∙ sym c.of.ensures)
    (c.requires.starting.0, subst (AreStarting c.args.geometry c.requires.starting.0) (sym words) c.requires.starting.1)
    (subst (All (IsFresh c.args.geometry)) (sym callers) c.requires.fresh)
    (subst NumbersDiffer (sym callers) c.requires.numbers)

pub returns-clause-passes : goal.returns-clause-passes
returns-clause-passes c =
    let key = c.in_ok-table.ensures.5 in
    let callers : c.in_ok-table.table.shared.key.callers.value.items ≡ c.args.callers.now.items = ap (λ (key : FieldKey). key.callers.value.items) key ∙ ap (λ v. v.items) c.of-2.ensures in
    let geometry : c.in_ok-table.table.shared.key.geometry ≡ c.args.geometry = ap (λ (key : FieldKey). key.geometry) key in
    let words : c.in_ok-table.table.shared.key.words.value ≡ start_words c.args.geometry c.args.tables.now.l1 =
    ap (λ (key : FieldKey). key.words.value) key ∙ c.of.ensures ∙ c.in_ok-words.ensures.words ∙ ap (start_words c.args.geometry) c.l1.ensures.words in
    let opening : opening_of c.in_ok-table.table.shared.key ≡ record { geometry = c.args.geometry; words = start_words c.args.geometry c.args.tables.now.l1; callers = c.args.callers.now.items } =
    λ i. record { geometry = geometry i; words = words i; callers = callers i } in
    let f : FieldData = record { id = c.in_ok-table.table.shared.table_id; opening = opening_of c.in_ok-table.table.shared.key } in
    are_opened f c.deal.new.passes.items c.args.callers.now.items
    (c.deal.ensures ∙ ap (λ (own : List Caller). map (fresh_seen f) (numbered 0 own)) callers)
    (subst (λ (g : GeometryData). All (IsFresh g) c.args.callers.now.items) (sym geometry) c.requires.fresh)
    (λ d x at.
    subst (λ (o : Opening). IsMoment o d x []) (sym opening)
    (opening_moment (record { geometry = c.args.geometry; words = start_words c.args.geometry c.args.tables.now.l1; callers = c.args.callers.now.items }) d x c.requires.starting c.requires.fresh c.requires.numbers at))
