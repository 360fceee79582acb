use Rattle.std.proofs.Common.{Bool, List, Option, IsTrue, ◌↔◌, ap, subst, ◌∙◌}
use Rattle.walk_cache.specs.Rings.{covers_from, newest_by}
use Rattle.history.specs.declared.rings.Named.{Named}
use Rattle.history.specs.Rings.{IsFoundBy}
use Rattle.history.proofs.rings.ring_says.Goals as goal

pub returns : goal.returns
returns c =
    let covers : Named → Bool = λ walk. covers_from walk.reach walk.first c.args.pa in
    subst (λ (o : Option Named). IsTrue c.is_found_by.result ↔ IsFoundBy o c.args.via.now)
    (c.newest_in.ensures ∙ ap (λ (walks : List Named). newest_by covers walks) c.last_in.ensures) c.is_found_by.ensures
