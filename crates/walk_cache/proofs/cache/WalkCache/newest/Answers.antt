use Rattle.std.proofs.Common.{rules}
use Rattle.walk_cache.proofs.RingLemmas.{if_none}
use Rattle.walk_cache.proofs.cache.WalkCache.newest.Goals as goal

pub returns-clause-none : goal.returns-clause-none
returns-clause-none c =
    if_none c.args.self.now.walks c.args.pa c.newest_in_parts.result (search rules)
