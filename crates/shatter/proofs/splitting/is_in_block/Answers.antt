use Rattle.shatter.proofs.WordLemmas.{block_above}
use Rattle.shatter.proofs.splitting.is_in_block.Goals as goal

pub returns-then-start-j : goal.returns-then-start-j
returns-then-start-j c = λ own at. block_above c.args.j c.args.start c.args.n own c.requires c.if-start-j.true at
