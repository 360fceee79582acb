use Rattle.shatter.proofs.WordLemmas.{split_is_canonical, split_means, split_covers, split_elsewhere}
use Rattle.shatter.proofs.law.splitting_keeps_the_map.Goals as goal

pub returns : goal.returns
returns c = record { apart = split_is_canonical; meaning = split_means; covers = split_covers; elsewhere = split_elsewhere }
