-- The callers of scripts: who is at which place, and with which number. Turns leave it.
use Rattle.std.proofs.Common.{◌≡◌, ℕ, zero, suc, ◌+◌, ◌≤◌, ◌<◌, ◌++◌, ◌∷◌, [], List, map, take, drop, get_or, append_assoc, Option, Some, length, refl, sym, ap, ◌∙◌, arith, inl, inr}
use Rattle.std.specs.Prelude.{slice_get}
use Rattle.std.specs.List.{count_by}
use Rattle.std.specs.Option.{option_map}
use Rattle.std.proofs.lemmas.Bool.{cases_eq}
use Rattle.std.proofs.lemmas.List.{drop_more}
use Rattle.std.proofs.lemmas.Option.{slice_get-map}
use Rattle.core_machine.proofs.Names.{GeometryData, Script, Scenario, Task, Caller, caller_took, caller_tasks, number_by, NumbersDiffer, caller_of, callers_from, next_number, opening_of, played, cpu_number, geometry_of, is_cpu, turns_in, task_of}
use Rattle.core_machine.proofs.Names.script
use Rattle.core_machine.proofs.Names.caller
use Rattle.core_machine.specs.Scenarios.{tasks_of}
use Rattle.delegate_ops.proofs.ScriptLemmas.{some_mapped}
use Rattle.processor.proofs.CpuLemmas.{took_keeps}
use Rattle.core_machine.proofs.ListLemmas.{one, count_cons}
use Rattle.core_machine.proofs.LawLemmas.{took_leaves}
use Rattle.core_machine.proofs.MachineLemmas.{turns_leave}

-- ---- what no act changes of a caller

pub took_tasks : (x : Caller) (old : ℕ) → caller_tasks (caller_took x old) ≡ caller_tasks x
took_tasks (caller.Agent a) old = (took_leaves a (task_of a) old).1
took_tasks (caller.Cpu q) old = (took_keeps q old).2

pub took_number : (x : Caller) (old : ℕ) → number_by (caller_took x old) ≡ number_by x
took_number (caller.Agent a) old = refl
took_number (caller.Cpu q) old = ap Some (took_keeps q old).1

-- its number and its tasks
abbrev pub role_of : Caller → Option ℕ × List Task
role_of x = (number_by x, caller_tasks x)

took_role : (x : Caller) (old : ℕ) → role_of (caller_took x old) ≡ role_of x
took_role x old = λ i. (took_number x old i, took_tasks x old i)

pub same_number : (x y : Caller) → role_of x ≡ role_of y → number_by x ≡ number_by y
same_number x y same = ap (λ (r : Option ℕ × List Task). r.0) same

pub same_tasks : (x y : Caller) → role_of x ≡ role_of y → caller_tasks x ≡ caller_tasks y
same_tasks x y same = ap (λ (r : Option ℕ × List Task). r.1) same

-- ---- the callers of scripts

pub script_tasks : (g : GeometryData) (p : ℕ) (s : Script) → caller_tasks (caller_of g p s) ≡ tasks_of s
script_tasks g p (script.Agent asks) = refl
script_tasks g p (script.Cpu looks) = refl

pub callers_count : (g : GeometryData) (p : ℕ) (scripts : List Script) → length (callers_from g p scripts) ≡ length scripts
callers_count g p [] = refl
callers_count g p (s ∷ scripts) = ap suc (callers_count g (next_number p s) scripts)

pub next_is : (p : ℕ) (s : Script) → next_number p s ≡ p + one (is_cpu s)
next_is p (script.Agent asks) = omega arith
next_is p (script.Cpu looks) = refl

-- who is at place c
pub callers_at : (g : GeometryData) (p c : ℕ) (scripts : List Script) (x : Caller) → slice_get (callers_from g p scripts) c ≡ Some x
    → (s : Script) × (slice_get scripts c ≡ Some s) × (x ≡ caller_of g (p + cpu_number scripts c) s)
callers_at g p c [] x at = absurd cc
callers_at g p zero (s ∷ scripts) x at =
    let same : caller_of g p s ≡ x = cc in
    let number : p ≡ p + cpu_number (s ∷ scripts) 0 = omega arith in
    (s, refl, sym same ∙ ap (λ (n : ℕ). caller_of g n s) number)
callers_at g p (suc c) (s ∷ scripts) x at =
    let rest = callers_at g (next_number p s) c scripts x at in
    let number : next_number p s + cpu_number scripts c ≡ p + cpu_number (s ∷ scripts) (suc c) = omega (arith, next_is p s, count_cons is_cpu (take c scripts) s) in
    (rest.0, rest.1, rest.2 ∙ ap (λ (n : ℕ). caller_of g n rest.0) number)

-- ---- numbers

head_number : (g : GeometryData) (p n : ℕ) (s : Script) → number_by (caller_of g p s) ≡ Some n → (n ≡ p) × (next_number p s ≡ p + 1)
head_number g p n (script.Agent asks) is = absurd cc
head_number g p n (script.Cpu looks) is = (cc, refl)

number_above : (g : GeometryData) (p c n : ℕ) (scripts : List Script) (x : Caller) → slice_get (callers_from g p scripts) c ≡ Some x → number_by x ≡ Some n → p ≤ n
number_above g p c n [] x at is = absurd cc
number_above g p zero n (s ∷ scripts) x at is =
    let same : caller_of g p s ≡ x = cc in
    let here = head_number g p n s (ap number_by same ∙ is) in
    omega (arith, here.0)
number_above g p (suc c) n (s ∷ scripts) x at is = omega (arith, next_is p s, number_above g (next_number p s) c n scripts x at is)

-- the number of the first isn't one of a later caller
first_apart : (g : GeometryData) (p c n : ℕ) (s : Script) (scripts : List Script) (x y : Caller) → caller_of g p s ≡ x → number_by x ≡ Some n → slice_get (callers_from g (next_number p s) scripts) c ≡ Some y → number_by y ≡ Some n → ⊥
first_apart g p c n s scripts x y same first at second =
    let here = head_number g p n s (ap number_by same ∙ first) in
    omega (arith, here.0, here.1, number_above g (next_number p s) c n scripts y at second)

-- no two processors have one
pub numbers_differ : (g : GeometryData) (p : ℕ) (scripts : List Script) → NumbersDiffer (callers_from g p scripts)
numbers_differ g p [] c d n x y at there first second = absurd cc
numbers_differ g p (s ∷ scripts) zero zero n x y at there first second = refl
numbers_differ g p (s ∷ scripts) zero (suc d) n x y at there first second = (let same : caller_of g p s ≡ x = cc in absurd (first_apart g p d n s scripts x y same first there second))
numbers_differ g p (s ∷ scripts) (suc c) zero n x y at there first second = (let same : caller_of g p s ≡ y = cc in absurd (first_apart g p c n s scripts y x same second at first))
numbers_differ g p (s ∷ scripts) (suc c) (suc d) n x y at there first second = ap suc (numbers_differ g (next_number p s) scripts c d n x y at there first second)

-- and each number up to their number is one of a processor
pub numbers_there : (g : GeometryData) (p n : ℕ) (scripts : List Script) → p ≤ n → n < p + count_by is_cpu scripts
    → (c : ℕ) × (x : Caller) × (slice_get (callers_from g p scripts) c ≡ Some x) × (number_by x ≡ Some n)
numbers_there g p n [] low high = absurd (omega (arith, low, high))
numbers_there g p n (script.Agent asks ∷ scripts) low high =
    let rest = numbers_there g p n scripts low (omega (arith, high, count_cons is_cpu scripts (script.Agent asks))) in
    (suc rest.0, rest.1, rest.2, rest.3)
numbers_there g p n (script.Cpu looks ∷ scripts) low high =
    elim (cases_eq p n) [
      | inl same ↦ (0, caller_of g p (script.Cpu looks), refl, ap Some same)
      | inr apart ↦
          (let rest = numbers_there g (p + 1) n scripts (omega (arith, low, apart)) (omega (arith, high, count_cons is_cpu scripts (script.Cpu looks))) in
          (suc rest.0, rest.1, rest.2, rest.3))
    ]

-- ---- at the end of a schedule

roles_left : (s : Scenario) → map role_of (played s).callers ≡ map role_of (callers_from (geometry_of s) 0 s.scripts)
roles_left s = turns_leave role_of (opening_of s) (turns_in s) took_role

-- whoever is at a place in one list, another of the same role is there in the other
other_at : (xs ys : List Caller) (c : ℕ) (x : Caller) → map role_of xs ≡ map role_of ys → slice_get xs c ≡ Some x → (y : Caller) × (slice_get ys c ≡ Some y) × (role_of y ≡ role_of x)
other_at xs ys c x same at =
    some_mapped role_of (slice_get ys c) (role_of x)
    (sym (slice_get-map role_of ys c) ∙ ap (λ (rs : List (Option ℕ × List Task)). slice_get rs c) (sym same) ∙ slice_get-map role_of xs c ∙ ap (option_map role_of) at)

-- each caller is of its script, with its number
pub played_role : (s : Scenario) (c : ℕ) (x : Caller) → slice_get (played s).callers c ≡ Some x
    → (own : Script) × (slice_get s.scripts c ≡ Some own) × (role_of x ≡ role_of (caller_of (geometry_of s) (cpu_number s.scripts c) own))
played_role s c x at =
    let first = other_at (played s).callers (callers_from (geometry_of s) 0 s.scripts) c x (roles_left s) at in
    let own = callers_at (geometry_of s) 0 c s.scripts first.0 first.1 in
    let number : 0 + cpu_number s.scripts c ≡ cpu_number s.scripts c = omega arith in
    (own.0, own.1, sym first.2 ∙ ap role_of (own.2 ∙ ap (λ (n : ℕ). caller_of (geometry_of s) n own.0) number))

-- each number is one of a processor
pub opening_numbered : (s : Scenario) (n : ℕ) → n < (geometry_of s).cpus → (c : ℕ) × (x : Caller) × (slice_get (opening_of s).callers c ≡ Some x) × (number_by x ≡ Some n)
opening_numbered s n low = numbers_there (geometry_of s) 0 n s.scripts (omega arith) (omega (arith, low))

-- ---- the code's callers, made one script after another

rest_at : (scripts : List Script) (k : ℕ) (s : Script) → k < length scripts → s ≡ get_or scripts k s → drop k scripts ≡ s ∷ drop (k + 1) scripts
rest_at scripts k s within is = drop_more scripts k s within ∙ ap (λ (x : Script). x ∷ drop (k + 1) scripts) (sym is)

pub number_more : (scripts : List Script) (p k : ℕ) (s : Script) → k < length scripts → s ≡ get_or scripts k s → p + count_by is_cpu (drop k scripts) ≡ count_by is_cpu scripts → (next : ℕ) → next ≡ next_number p s
    → next + count_by is_cpu (drop (k + 1) scripts) ≡ count_by is_cpu scripts
number_more scripts p k s within is so next goes =
    let rest = ap (count_by is_cpu) (rest_at scripts k s within is) in
    omega (arith, so, rest, count_cons is_cpu (drop (k + 1) scripts) s, next_is p s, goes)

pub callers_more : (g : GeometryData) (scripts : List Script) (p k : ℕ) (s : Script) (made next : List Caller) (x : Caller) → k < length scripts → s ≡ get_or scripts k s
    → made ++ callers_from g p (drop k scripts) ≡ callers_from g 0 scripts → x ≡ caller_of g p s → next ≡ made ++ x ∷ [] → (n : ℕ) → n ≡ next_number p s
    → next ++ callers_from g n (drop (k + 1) scripts) ≡ callers_from g 0 scripts
callers_more g scripts p k s made next x within is so here added n goes =
    ap (λ (m : ℕ). next ++ callers_from g m (drop (k + 1) scripts)) goes
    ∙ ap (λ (front : List Caller). front ++ callers_from g (next_number p s) (drop (k + 1) scripts)) (added ∙ ap (λ (y : Caller). made ++ y ∷ []) here)
    ∙ append_assoc made (caller_of g p s ∷ []) (callers_from g (next_number p s) (drop (k + 1) scripts))
    ∙ ap (λ (rest : List Script). made ++ callers_from g p rest) (sym (rest_at scripts k s within is)) ∙ so
