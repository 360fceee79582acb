use Rattle.std.proofs.Common.{string_bytes}
use Rattle.gpi_values.specs.declared.gpi.Space.TheVariants as space
use Rattle.table_build.proofs.BlockLemmas.{on_ok}
use Rattle.report_text.specs.RunParts.{set_line, set_lines}
use Rattle.report_text.proofs.StateLemmas.{set_lines_are, four}
use Rattle.report_text.proofs.state.push_granule.Goals as goal

pub returns : goal.returns
returns c =
    on_ok _ _ _
    (four (string_bytes c.args.out.now) (set_line c.args.address c.args.word c.args.granule space.Secure) (set_line c.args.address c.args.word c.args.granule space.NonSecure)
    (set_line c.args.address c.args.word c.args.granule space.Root) (set_line c.args.address c.args.word c.args.granule space.Realm) (set_lines c.args.address c.args.word c.args.granule)
    (string_bytes c.push_line.new.out) (string_bytes c.push_line-2.new.out) (string_bytes c.push_line-3.new.out) (string_bytes c.push_line-4.new.out)
    (set_lines_are c.args.address c.args.word c.args.granule) c.in_ok-push_line.ensures c.in_ok-push_line-2.ensures c.in_ok-push_line-3.ensures)
    c.push_line-4.ensures
