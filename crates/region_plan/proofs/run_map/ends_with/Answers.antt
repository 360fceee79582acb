use Rattle.std.proofs.Common.{◌≡◌, IsTrue, Some, rules, sym, ap, ◌∙◌}
use Rattle.std.proofs.lemmas.Option.{same_Some}
use Rattle.region_plan.proofs.RunLemmas.{last_read}
use Rattle.region_plan.proofs.run_map.ends_with.Goals as goal

pub returns-in-Some : goal.returns-in-Some
returns-in-Some c =
    let last = last_read c.args.runs.now c.in-Some.run'.now c.in-Some.ensures.value in
    let given : (IsTrue c.eq.result → c.in-Some.run'.now.gpi ≡ c.args.gpi) × (c.in-Some.run'.now.gpi ≡ c.args.gpi → IsTrue c.eq.result) = search rules in
    (λ t. last ∙ ap Some (given.0 t), λ e. given.1 (same_Some _ _ (sym last ∙ e)))
