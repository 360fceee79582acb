-- The generator's values, and the calls that are drawn from them.
use Rattle.std.proofs.Common.{◌≡◌, ℕ, zero, suc, ◌+◌, ◌/◌, ◌^◌, List, [], ◌∷◌, ◌++◌, map, refl, sym, ap, ◌∙◌, add-one, arith}
use Rattle.std.specs.List.{range_with_len}
use Rattle.std.proofs.lemmas.List.FromFn.{map-range_with_len_more}
use Rattle.gpi_values.specs.declared.security.Source.{Source}
use Rattle.gpi_values.specs.declared.security.Source.TheVariants as source
use Rattle.scenario_text.specs.declared.scenario.Script.{Script}
use Rattle.scenario_text.specs.declared.scenario.Script.TheVariants as script
use Rattle.scenario_text.specs.declared.scenario.Ask.{Ask}
use Rattle.scenario_text.specs.declared.scenario.Look.{Look}
use Rattle.load_scenario.specs.Load.{stepped, stepped_by, draw, drawn_ask, drawn_look, drawn_agent, drawn_cpu, load_scripts}

pub stepped_none : (value : ℕ) → stepped_by 0 value ≡ value
unfolding stepped_by
stepped_none value = refl

pub stepped_more : (n value : ℕ) → stepped_by (n + 1) value ≡ stepped (stepped_by n value)
unfolding stepped_by
stepped_more n value = ap (λ (k : ℕ). stepped_by k value) (add-one n)

-- n steps after the first ones
pub stepped_on : (n first value : ℕ) → stepped_by n (stepped_by first value) ≡ stepped_by (first + n) value
unfolding stepped_by
stepped_on zero first value = ap (λ (k : ℕ). stepped_by k value) (omega arith)
stepped_on (suc n) first value =
    let sum : suc (first + n) ≡ first + suc n = omega arith in
    ap (λ (v : ℕ). stepped v) (stepped_on n first value) ∙ ap (λ (k : ℕ). stepped_by k value) sum

pub next_value : (value n now next : ℕ) → now ≡ stepped_by n value → next ≡ stepped now → next ≡ stepped_by (n + 1) value
next_value value n now next e is = is ∙ ap (λ (v : ℕ). stepped v) e ∙ sym (stepped_more n value)

-- the calls so far, and one more
pub one_more : {X : Type 0} → (f : ℕ → X) (value n now drawn : ℕ) (xs after : List X) (one : X) → xs ≡ map (λ j. f (draw value j)) (range_with_len 0 n) → now ≡ stepped_by n value → drawn ≡ stepped now / 2 ^ 33 → one ≡ f drawn → after ≡ xs ++ one ∷ [] → after ≡ map (λ j. f (draw value j)) (range_with_len 0 (n + 1))
one_more f value n now drawn xs after one so_far e is call added =
    let next : stepped now ≡ stepped_by (n + 1) value = ap (λ (v : ℕ). stepped v) e ∙ sym (stepped_more n value) in
    let d : drawn ≡ draw value n = is ∙ ap (λ (v : ℕ). v / 2 ^ 33) next in
    let call_is : one ≡ f (draw value n) = call ∙ ap f d in
    let more = map-range_with_len_more (λ j. f (draw value j)) 0 n n (omega arith) in
    added ∙ (λ i. so_far i ++ call_is i ∷ []) ∙ sym more

pub agent_is : (s : Source) (value n : ℕ) (asks : List Ask) → asks ≡ map (λ j. drawn_ask s (draw value j)) (range_with_len 0 n) → n ≡ 50 → script.Agent asks ≡ drawn_agent value 0 s
agent_is s value n asks e all = ap (λ (xs : List Ask). script.Agent xs) (e ∙ ap (λ (k : ℕ). map (λ j. drawn_ask s (draw value j)) (range_with_len 0 k)) all)

pub cpu_is : (value n : ℕ) (looks : List Look) → looks ≡ map (λ j. drawn_look (draw value j)) (range_with_len 0 n) → n ≡ 400 → script.Cpu looks ≡ drawn_cpu value 0
cpu_is value n looks e all = ap (λ (xs : List Look). script.Cpu xs) (e ∙ ap (λ (k : ℕ). map (λ j. drawn_look (draw value j)) (range_with_len 0 k)) all)

draw_later : (first number a at : ℕ) → first + a ≡ at → draw (stepped_by first number) a ≡ draw number at
draw_later first number a at e =
    let sum : first + (a + 1) ≡ at + 1 = omega arith in
    ap (λ (v : ℕ). v / 2 ^ 33) (stepped_on (a + 1) first number ∙ ap (λ (k : ℕ). stepped_by k number) sum)

-- what is drawn from a later value is drawn from the number, at later calls
later_calls : {X : Type 0} → (f : ℕ → X) (first number a at n : ℕ) → first + a ≡ at → map (λ j. f (draw (stepped_by first number) j)) (range_with_len a n) ≡ map (λ j. f (draw number j)) (range_with_len at n)
later_calls f first number a at zero e = refl
later_calls f first number a at (suc n) e =
    let head = draw_later first number a at e in
    let tail = later_calls f first number (a + 1) (at + 1) n (omega arith) in
    λ i. f (head i) ∷ tail i

later_agent : (s : Source) (first number value : ℕ) (made : Script) → value ≡ stepped_by first number → made ≡ drawn_agent value 0 s → made ≡ drawn_agent number first s
later_agent s first number value made e is = is ∙ ap (λ (v : ℕ). drawn_agent v 0 s) e ∙ ap (λ (asks : List Ask). script.Agent asks) (later_calls (drawn_ask s) first number 0 first 50 (omega arith))

later_cpu : (first number value : ℕ) (made : Script) → value ≡ stepped_by first number → made ≡ drawn_cpu value 0 → made ≡ drawn_cpu number first
later_cpu first number value made e is = is ∙ ap (λ (v : ℕ). drawn_cpu v 0) e ∙ ap (λ (looks : List Look). script.Cpu looks) (later_calls drawn_look first number 0 first 400 (omega arith))

later_value : (n first number value next : ℕ) → value ≡ stepped_by first number → next ≡ stepped_by n value → next ≡ stepped_by (first + n) number
later_value n first number value next e is = is ∙ ap (λ (v : ℕ). stepped_by n v) e ∙ stepped_on n first number

-- the scripts, each drawn from the value that the one before it leaves
pub scripts_are : (number v1 v2 v3 v4 v5 : ℕ) (a1 a2 c1 c2 c3 c4 : Script) → a1 ≡ drawn_agent number 0 source.Realm → v1 ≡ stepped_by 50 number → a2 ≡ drawn_agent v1 0 source.Secure → v2 ≡ stepped_by 50 v1 → c1 ≡ drawn_cpu v2 0 → v3 ≡ stepped_by 400 v2 → c2 ≡ drawn_cpu v3 0 → v4 ≡ stepped_by 400 v3 → c3 ≡ drawn_cpu v4 0 → v5 ≡ stepped_by 400 v4 → c4 ≡ drawn_cpu v5 0 → a1 ∷ a2 ∷ c1 ∷ c2 ∷ c3 ∷ c4 ∷ [] ≡ load_scripts number
scripts_are number v1 v2 v3 v4 v5 a1 a2 c1 c2 c3 c4 ea1 e1 ea2 e2 ec1 e3 ec2 e4 ec3 e5 ec4 =
    let w2 : v2 ≡ stepped_by 100 number = later_value 50 50 number v1 v2 e1 e2 in
    let w3 : v3 ≡ stepped_by 500 number = later_value 400 100 number v2 v3 w2 e3 in
    let w4 : v4 ≡ stepped_by 900 number = later_value 400 500 number v3 v4 w3 e4 in
    let w5 : v5 ≡ stepped_by 1300 number = later_value 400 900 number v4 v5 w4 e5 in
    let s2 = later_agent source.Secure 50 number v1 a2 e1 ea2 in
    let s3 = later_cpu 100 number v2 c1 w2 ec1 in
    let s4 = later_cpu 500 number v3 c2 w3 ec2 in
    let s5 = later_cpu 900 number v4 c3 w4 ec3 in
    let s6 = later_cpu 1300 number v5 c4 w5 ec4 in
    λ i. ea1 i ∷ s2 i ∷ s3 i ∷ s4 i ∷ s5 i ∷ s6 i ∷ []
