use Rattle.std.proofs.Common.{◌∙◌}
use Rattle.core_machine.proofs.PlayLemmas.{fresh_at, starts_at, opened_is}
use Rattle.core_machine.proofs.played.open.Goals as goal
use Rattle.core_machine.specs.Scenarios.{first_map}

pub new-requires-2-clause-fresh : goal.new-requires-2-clause-fresh
new-requires-2-clause-fresh c =
    (fresh_at c.args.scenario.now c.geometry_of-geometry.result c.in_ok-callers.callers.items c.requires.wellformed c.geometry_of-geometry.ensures.geometry c.geometry_of-geometry.ensures.known c.in_ok-callers.ensures).0

pub new-requires-2-clause-numbers : goal.new-requires-2-clause-numbers
new-requires-2-clause-numbers c =
    (fresh_at c.args.scenario.now c.geometry_of-geometry.result c.in_ok-callers.callers.items c.requires.wellformed c.geometry_of-geometry.ensures.geometry c.geometry_of-geometry.ensures.known c.in_ok-callers.ensures).1

pub new-requires-2-clause-starting : goal.new-requires-2-clause-starting
new-requires-2-clause-starting c = (
  first_map c.args.scenario.now,
  starts_at c.args.scenario.now c.geometry_of-geometry.result c.args.tables c.l1.result.now c.in_ok-words.words c.requires.accepted c.geometry_of-geometry.ensures.geometry c.geometry_of-geometry.ensures.known
      c.requires.built c.l1.ensures.tables c.l1.ensures.words c.in_ok-words.ensures.words,
)

pub returns-clause-machine : goal.returns-clause-machine
returns-clause-machine c =
    c.new-2.ensures.machine
    ∙ opened_is c.args.scenario.now c.geometry_of-geometry.result c.args.tables c.l1.result.now c.in_ok-words.words c.in_ok-callers.callers.items c.geometry_of-geometry.ensures.geometry c.requires.built
    c.l1.ensures.words c.in_ok-words.ensures.words c.in_ok-callers.ensures

pub returns-clause-invariant : goal.returns-clause-invariant
returns-clause-invariant c =
    c.new-2.ensures.invariant (first_map c.args.scenario.now)
    (starts_at c.args.scenario.now c.geometry_of-geometry.result c.args.tables c.l1.result.now c.in_ok-words.words c.requires.accepted c.geometry_of-geometry.ensures.geometry c.geometry_of-geometry.ensures.known
    c.requires.built c.l1.ensures.tables c.l1.ensures.words c.in_ok-words.ensures.words)
