use Rattle.shatter.proofs.RunLemmas.{alike_inside}
use Rattle.shatter.proofs.splitting.alike.Goals as goal

pub returns-then-j-start-2-clause-value : goal.returns-then-j-start-2-clause-value
returns-then-j-start-2-clause-value c = λ own k at near. alike_inside c.args.j c.args.start c.args.n own k c.requires at c.if-j-start.false c.if-j-start-2.true near
