use Rattle.history.proofs.ValueLemmas.{value_gave, gave_value, among_between, between_among}
use Rattle.history.proofs.values.values_mean_their_history.Goals as goal

pub returns-clause-each : goal.returns-clause-each
returns-clause-each c map first bytes granule z gpi h changes value at =
    (value_gave map first bytes granule z gpi h changes value at, gave_value map first bytes granule z gpi h changes value at)

pub returns-clause-saw : goal.returns-clause-saw
returns-clause-saw c map first bytes granule z gpi h lo hi value at =
    (among_between map first bytes granule z gpi h lo hi value at, between_among map first bytes granule z gpi h lo hi value at)
