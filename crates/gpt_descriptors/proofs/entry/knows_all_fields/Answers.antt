use Rattle.gpt_descriptors.proofs.PlaneLemmas.{planes_known}
use Rattle.gpt_descriptors.proofs.entry.knows_all_fields.Goals as goal

pub returns : goal.returns
returns c = planes_known c.args.word c.ranges.word.fits
