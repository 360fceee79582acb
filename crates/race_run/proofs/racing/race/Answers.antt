use Rattle.std.proofs.Common.{◌≡◌, ℕ, List, length, sym, ap, ◌∙◌, subst}
use Rattle.std.proofs.lemmas.List.{length-map}
use Rattle.core_machine.specs.declared.caller.Caller.{Caller}
use Rattle.race_run.specs.declared.view.Opening.{Opening}
use Rattle.core_machine.specs.InnerOpening.{AreStarting}
use Rattle.core_machine.specs.Scenarios.{first_map, first_words, geometry_of}
use Rattle.race_run.specs.Passes.{FieldData}
use Rattle.race_run.specs.Closing.{HasClosed}
use Rattle.race_run.specs.InnerRunners.{caller_in}
use Rattle.race_run.proofs.RaceLemmas.{Raced, all_again, has_raced, none_next, raced_answers, runners_are}
use Rattle.gpt_descriptors.specs.Places.{word_count}
use Rattle.race_run.proofs.racing.race.Given.{Over}
use Rattle.race_run.proofs.racing.race.Goals as goal

pub run_all-requires-after_bounds : goal.run_all-requires-after_bounds
run_all-requires-after_bounds g c κs within =
    runners_are c.into_parts-field.result.0 c.into_parts-field.result.1.items c.into_parts-field.result.2.items c.pair.new.runners.items c.pair.ensures.passes c.pair.ensures.callers c.into_parts-field.ensures.on

pub close_into-words-requires-clause-all : goal.close_into-words-requires-clause-all
close_into-words-requires-clause-all g c =
    let paired : length c.pair.new.runners.items ≡ length c.into_parts-field.result.2.items = sym (length-map c.pair.new.runners.items caller_in) ∙ ap (λ (xs : List Caller). length xs) c.pair.ensures.callers in
    let given : c.into_parts-field.result.2.items ≡ c.into_parts-field.result.0.opening.callers =
    c.into_parts-field.ensures.callers
    ∙ sym (ap (λ (k : FieldData). k.opening.callers) c.into_parts-field.ensures.field ∙ ap (λ (o : Opening). o.callers) c.in_ok-of_scenario.ensures.opening) in (
      c.part.new.callers.items,
      all_again c.into_parts-field.result.0 c.part.new.passes.items c.part.new.callers.items c.run_all.new.runners.items c.part.ensures.passes c.part.ensures.callers
          (c.run_all.ensures.many ∙ paired ∙ ap (λ (xs : List Caller). length xs) given) c.run_all.ensures.runners,
    )

raced_so : (g : Over) (c : goal.After-drop-tables-inside-3 g) → Raced c.args.scenario.now c.into_parts-field.result.0 c.part.new.passes.items c.part.new.callers.items c.close_into-words.result.1 (record { geometry = c.geometry_of-geometry.result; answers = c.new.result; words = c.new-2.result })
raced_so g c =
    let field = c.into_parts-field.ensures.field in
    let opened = c.in_ok-of_scenario.ensures in
    let paired : length c.pair.new.runners.items ≡ length c.into_parts-field.result.2.items = sym (length-map c.pair.new.runners.items caller_in) ∙ ap (λ (xs : List Caller). length xs) c.pair.ensures.callers in
    let given : c.into_parts-field.result.2.items ≡ c.into_parts-field.result.0.opening.callers =
    c.into_parts-field.ensures.callers ∙ sym (ap (λ (k : FieldData). k.opening.callers) field ∙ ap (λ (o : Opening). o.callers) opened.opening) in
    let all = all_again c.into_parts-field.result.0 c.part.new.passes.items c.part.new.callers.items c.run_all.new.runners.items c.part.ensures.passes c.part.ensures.callers
    (c.run_all.ensures.many ∙ paired ∙ ap (λ (xs : List Caller). length xs) given) c.run_all.ensures.runners in
    let closed = c.close_into-words.ensures c.part.new.callers.items all in
    record {
      opening = ap (λ (k : FieldData). k.opening) field ∙ opened.opening ∙ ap (λ (xs : List Caller). record { geometry = geometry_of c.args.scenario.now; words = first_words c.args.scenario.now; callers = xs }) opened.callers;
      starting = subst (λ (k : FieldData). AreStarting k.opening.geometry (first_map c.args.scenario.now) k.opening.words) (sym field) opened.starting;
      geometry = c.geometry_of-geometry.ensures.geometry;
      answers = c.new.ensures ∙ c.answers_of.ensures;
      ended = none_next c.part.new.callers.items c.run_all.new.runners.items c.part.ensures.callers c.run_all.ensures.ended;
      closed = subst (λ (ws : List ℕ). HasClosed c.into_parts-field.result.0 c.part.new.passes.items c.part.new.callers.items ws c.close_into-words.result.1) (sym c.new-2.ensures) closed;
    }

pub returns-clause-raced : goal.returns-clause-raced
returns-clause-raced g c = has_raced c.args.scenario.now c.into_parts-field.result.0 c.part.new.passes.items c.part.new.callers.items c.close_into-words.result.1 (record { geometry = c.geometry_of-geometry.result; answers = c.new.result; words = c.new-2.result }) (raced_so g c)

pub returns-clause-size : goal.returns-clause-size
returns-clause-size g c = (has_raced c.args.scenario.now c.into_parts-field.result.0 c.part.new.passes.items c.part.new.callers.items c.close_into-words.result.1 (record { geometry = c.geometry_of-geometry.result; answers = c.new.result; words = c.new-2.result }) (raced_so g c)).fits.size ∙ ap word_count (sym c.geometry_of-geometry.ensures.geometry)

pub returns-clause-answered : goal.returns-clause-answered
returns-clause-answered g c = raced_answers c.args.scenario.now c.into_parts-field.result.0 c.part.new.passes.items c.part.new.callers.items c.close_into-words.result.1 (record { geometry = c.geometry_of-geometry.result; answers = c.new.result; words = c.new-2.result }) (raced_so g c)
