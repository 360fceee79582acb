use Rattle.std.proofs.Common.{◌≤◌, length}
use Rattle.std.proofs.lemmas.List.{length-map}
use Rattle.line_text.specs.InnerRows.{kind_in, kinds_in, fields_left}
use Rattle.line_text.proofs.RowLemmas.{row_fits, row_spelling}
use Rattle.line_text.proofs.rows.row.Goals as goal

pub returns-clause-fits : goal.returns-clause-fits
returns-clause-fits c =
    let few : length (kinds_in c.args.kinds.now) ≤ 4 = rw (length-map c.args.kinds.now kind_in) c.requires in
    row_fits (kinds_in c.args.kinds.now) (fields_left c.args.rest) c.read.result few c.read.ensures

pub returns-clause-spelled : goal.returns-clause-spelled
returns-clause-spelled c =
    let few : length (kinds_in c.args.kinds.now) ≤ 4 = rw (length-map c.args.kinds.now kind_in) c.requires in
    row_spelling (kinds_in c.args.kinds.now) (fields_left c.args.rest) c.read.result few c.read.ensures
