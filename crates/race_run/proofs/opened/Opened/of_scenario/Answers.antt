use Rattle.std.proofs.Common.{refl, sym, subst}
use Rattle.shared_words.specs.Start.{start_words}
use Rattle.core_machine.specs.Scenarios.{first_map}
use Rattle.core_machine.proofs.PlayLemmas.{fresh_at, starts_at}
use Rattle.core_machine.specs.InnerOpening.{AreStarting}
use Rattle.race_run.specs.declared.view.Opening.{Opening}
use Rattle.race_run.proofs.OpenedLemmas.{on_opening}
use Rattle.race_run.proofs.opened.Opened.of_scenario.Goals as goal

pub open-requires-clause-starting : goal.open-requires-clause-starting
open-requires-clause-starting c = (
  first_map c.args.scenario.now,
  starts_at c.args.scenario.now c.geometry_of-geometry.result c.args.tables.now c.args.tables.now.l1 (start_words c.geometry_of-geometry.result c.args.tables.now.l1) c.requires.accepted c.geometry_of-geometry.ensures.geometry
      c.geometry_of-geometry.ensures.known c.requires.built c.l1-words.ensures.tables refl refl,
)

pub open-requires-clause-fresh : goal.open-requires-clause-fresh
open-requires-clause-fresh c =
    (fresh_at c.args.scenario.now c.geometry_of-geometry.result c.in_ok-callers.callers.items c.requires.wellformed c.geometry_of-geometry.ensures.geometry c.geometry_of-geometry.ensures.known c.in_ok-callers.ensures).0

pub open-requires-clause-numbers : goal.open-requires-clause-numbers
open-requires-clause-numbers c =
    (fresh_at c.args.scenario.now c.geometry_of-geometry.result c.in_ok-callers.callers.items c.requires.wellformed c.geometry_of-geometry.ensures.geometry c.geometry_of-geometry.ensures.known c.in_ok-callers.ensures).1

pub invariant_of-result : goal.invariant_of-result
invariant_of-result c = on_opening c.in_ok-field.field c.in_ok-field.passes.items c.in_ok-callers.callers.items c.in_ok-field.ensures.passes

pub returns-clause-starting : goal.returns-clause-starting
returns-clause-starting c =
    subst (λ (o : Opening). AreStarting o.geometry (first_map c.args.scenario.now) o.words) (sym c.in_ok-field.ensures.opening)
    (starts_at c.args.scenario.now c.geometry_of-geometry.result c.args.tables.now c.args.tables.now.l1 (start_words c.geometry_of-geometry.result c.args.tables.now.l1) c.requires.accepted c.geometry_of-geometry.ensures.geometry
    c.geometry_of-geometry.ensures.known c.requires.built c.l1-words.ensures.tables refl refl)
