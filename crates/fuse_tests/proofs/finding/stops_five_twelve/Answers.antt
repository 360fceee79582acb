use Rattle.fuse_tests.proofs.FindLemmas.{five_twelve_stops, five_twelve_passes}
use Rattle.fuse_tests.proofs.finding.stops_five_twelve.Goals as goal

pub returns-in-Some-clause-yes : goal.returns-in-Some-clause-yes
returns-in-Some-clause-yes c = λ e.
    five_twelve_stops c.args.setup.now c.args.table.now c.args.own c.words_of-thirty_two.result c.encode_l1-needed.result c.in-Some.field-0 c.args.gpi c.words_of-thirty_two.ensures.value c.encode_l1-needed.ensures.word
    c.in-Some.ensures.some.0 c.in-Some.ensures.some.1 c.in-Some.ensures.some.2

pub returns-in-None-clause-no : goal.returns-in-None-clause-no
returns-in-None-clause-no c = λ e.
    five_twelve_passes c.args.setup.now c.args.table.now c.args.own c.words_of-thirty_two.result c.encode_l1-needed.result c.args.gpi c.words_of-thirty_two.ensures.value c.encode_l1-needed.ensures.word c.in-None.ensures.none
