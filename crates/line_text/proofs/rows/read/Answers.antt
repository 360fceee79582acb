use Rattle.std.proofs.Common.{◌≡◌, List, length, ℕ, sym, ap, ◌∙◌}
use Rattle.std.proofs.lemmas.List.{length-map}
use Rattle.line_text.specs.declared.kind.FieldKind.{FieldKind}
use Rattle.line_text.specs.InnerRows.{kind_in, kinds_in, fields_left, has_fields, has_shape}
use Rattle.line_text.proofs.RowLemmas.{row_of_values, row_of_fault, row_of_bad, shape_counts}
use Rattle.line_text.proofs.rows.read.Goals as goal

shape_of : (kinds : List FieldKind) (fs : List (List ℕ)) → has_shape (kinds_in kinds) fs ≡ has_fields (length kinds) fs
shape_of kinds fs = sym (shape_counts (kinds_in kinds) fs) ∙ ap (λ (n : ℕ). has_fields n fs) (length-map kinds kind_in)

pub returns-in-Ok : goal.returns-in-Ok
returns-in-Ok c = row_of_values (kinds_in c.args.kinds.now) (fields_left c.args.rest) c.in-Ok.values c.in-Ok.ensures

pub returns-in-Err : goal.returns-in-Err
returns-in-Err c =
    row_of_fault (kinds_in c.args.kinds.now) (fields_left c.args.rest) c.in-Err.fault c.in-Err.ensures
    (shape_of c.args.kinds.now (fields_left c.args.rest) ∙ sym c.if-fits.ensures)

pub returns-in-Err-2 : goal.returns-in-Err-2
returns-in-Err-2 c =
    row_of_bad (kinds_in c.args.kinds.now) (fields_left c.args.rest) (shape_of c.args.kinds.now (fields_left c.args.rest) ∙ sym c.if-fits.ensures)
