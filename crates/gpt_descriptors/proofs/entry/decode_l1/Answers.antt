use Rattle.std.proofs.Common.{◌≡◌, true, false}
use Rattle.gpt_descriptors.specs.Entries.{knows_all}
use Rattle.gpt_descriptors.proofs.EntryLemmas.{spelled_apart}
use Rattle.gpt_descriptors.proofs.entry.decode_l1.Goals as goal

pub returns-else-knows_all_fields-clause-none : goal.returns-else-knows_all_fields-clause-none
returns-else-knows_all_fields-clause-none c = λ entry is spelled.
    let known : knows_all c.args.word ≡ true = spelled_apart entry c.args.word is spelled c.if-word-eq1.false in
    let refused : false ≡ knows_all c.args.word = c.if-knows_all_fields.ensures in
    absurd cc
