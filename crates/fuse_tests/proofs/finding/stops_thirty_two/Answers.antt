use Rattle.fuse_tests.proofs.FindLemmas.{thirty_two_stops, thirty_two_passes}
use Rattle.fuse_tests.proofs.finding.stops_thirty_two.Goals as goal

pub returns-in-Some-clause-yes : goal.returns-in-Some-clause-yes
returns-in-Some-clause-yes c = λ e.
    thirty_two_stops c.args.setup.now c.args.table.now c.args.own c.words_of-two.result c.encode_l1-needed.result c.in-Some.field-0 c.args.gpi c.words_of-two.ensures.value c.encode_l1-needed.ensures.word
    c.in-Some.ensures.some.0 c.in-Some.ensures.some.1 c.in-Some.ensures.some.2

pub returns-in-None-clause-no : goal.returns-in-None-clause-no
returns-in-None-clause-no c = λ e.
    thirty_two_passes c.args.setup.now c.args.table.now c.args.own c.words_of-two.result c.encode_l1-needed.result c.args.gpi c.words_of-two.ensures.value c.encode_l1-needed.ensures.word c.in-None.ensures.none
