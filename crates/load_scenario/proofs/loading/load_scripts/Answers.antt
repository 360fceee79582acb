use Rattle.std.proofs.Common.{◌≡◌, ℕ, [], ◌∷◌, ap, ◌∙◌, rules}
use Rattle.gpi_values.specs.declared.security.Source.TheVariants as source
use Rattle.load_scenario.specs.Load.{drawn_agent, load_scripts}
use Rattle.load_scenario.proofs.DrawLemmas.{scripts_are}
use Rattle.load_scenario.proofs.loading.load_scripts.Goals as goal

pub returns : goal.returns
returns c =
    let realm = c.in_ok-agent in
    let secure = c.in_ok-agent-2 in
    let first = c.in_ok-cpu in
    let second = c.in_ok-cpu-2 in
    let third = c.in_ok-cpu-3 in
    let fourth = c.in_ok-cpu-4 in
    let made : c.new.result ≡ realm.field-0 ∷ secure.field-0 ∷ first.field-0 ∷ second.field-0 ∷ third.field-0 ∷ fourth.field-0 ∷ [] = search rules in
    let by_secure : secure.field-0 ≡ drawn_agent c.agent.new.generator.value 0 source.Secure = search rules in
    made
    ∙ scripts_are c.from.result _ _ _ _ _ _ _ _ _ _ _
    realm.ensures.script realm.ensures.value by_secure secure.ensures.value
    first.ensures.script first.ensures.value second.ensures.script second.ensures.value
    third.ensures.script third.ensures.value fourth.ensures.script
    ∙ ap (λ (n : ℕ). load_scripts n) c.from.ensures
