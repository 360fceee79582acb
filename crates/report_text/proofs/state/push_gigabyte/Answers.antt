use Rattle.std.proofs.Common.{◌*◌, string_bytes, sym, arith}
use Rattle.gpt_descriptors.specs.Sizes.{table_words}
use Rattle.report_text.specs.RunParts.{granules_text}
use Rattle.report_text.proofs.StateLemmas.{no_table_lines, begins}
use Rattle.report_text.proofs.state.push_gigabyte.Goals as goal

pub returns-in-None : goal.returns-in-None
returns-in-None c =
    begins (string_bytes c.args.out.now)
    (granules_text c.args.geometry.now c.args.words.now (16 * (c.args.gigabyte * table_words c.args.geometry.now.setup)) (16 * table_words c.args.geometry.now.setup))
    (no_table_lines c.args.geometry.now c.args.words.now c.args.gigabyte (16 * table_words c.args.geometry.now.setup) (omega arith) (sym c.in-None.ensures.place))
