-- The lines of callers, one call or one caller at a time.
use Rattle.std.proofs.Common.{◌≡◌, ℕ, ◌+◌, ◌-◌, ◌≤◌, ◌<◌, zero, suc, Bool, false, map, List, [], ◌∷◌, ◌++◌, length, drop, get_or, slice_get, Some, refl, sym, ap, ◌∙◌, append_assoc, arith}
use Rattle.std.proofs.lemmas.List.{drop_more, append-nil}
use Rattle.std.proofs.lemmas.Option.{slice_get_within, get_or_from_slice_get}
use Rattle.std.proofs.Math.ListN.{drop_of_length-le}
use Rattle.history.specs.declared.call.Answer.{Answer}
use Rattle.scenario_text.specs.declared.scenario.Script.{Script}
use Rattle.scenario_text.specs.declared.scenario.Script.TheVariants as script
use Rattle.scenario_text.specs.declared.scenario.Look.{Look}
use Rattle.scenario_text.specs.Calls.{calls_of, AreAnswersOf}
use Rattle.report_text.specs.RunText.{script_calls, call_line, answers_text, caller_text, callers_text, left_line, left_text}

-- no answers are left
pub answers_text-none : (c k : ℕ) (calls : List Bool) → answers_text c k calls [] ≡ []
answers_text-none c k [] = refl
answers_text-none c k (smc ∷ calls) = refl

-- each caller has as many lists of answers as there are scripts
pub answers_length : (scripts : List Script) (answers : List (List Answer)) → AreAnswersOf scripts answers → length answers ≡ length scripts
answers_length [] [] are = refl
answers_length [] (own ∷ answers) are = absurd are
answers_length (s ∷ scripts) [] are = absurd are
answers_length (s ∷ scripts) (own ∷ answers) are = ap suc (answers_length scripts answers are.1)

pub own_short : (scripts : List Script) (answers : List (List Answer)) (k : ℕ) (s : Script) (own : List Answer) → AreAnswersOf scripts answers
    → k < length scripts → s ≡ get_or scripts k s → own ≡ get_or answers k own → length own ≤ calls_of s
own_short [] [] k s own are lt es eo = absurd (omega arith)
own_short [] (other ∷ answers) k s own are lt es eo = absurd are
own_short (t ∷ scripts) [] k s own are lt es eo = absurd are
own_short (t ∷ scripts) (other ∷ answers) zero s own are lt es eo = rw (es, eo) are.0
own_short (t ∷ scripts) (other ∷ answers) (suc k) s own are lt es eo = own_short scripts answers k s own are.1 (omega arith) es eo

from_slice_get : {X : Type 0} (xs : List X) (k : ℕ) (x : X) → slice_get xs k ≡ Some x → drop k xs ≡ x ∷ drop (k + 1) xs
from_slice_get {X = X} xs k x e =
    drop_more xs k x (slice_get_within xs k x e) ∙ ap (λ (y : X). y ∷ drop (k + 1) xs) (get_or_from_slice_get xs k x x e)

pub from_get_or : {X : Type 0} (xs : List X) (k : ℕ) (x : X) → k < length xs → x ≡ get_or xs k x → drop k xs ≡ x ∷ drop (k + 1) xs
from_get_or {X = X} xs k x lt e = drop_more xs k x lt ∙ ap (λ (y : X). y ∷ drop (k + 1) xs) (sym e)

-- an access doesn't come through the monitor
pub look_call : (looks : List Look) (k : ℕ) → k < length looks → slice_get (map (λ (look : Look). false) looks) k ≡ Some false
look_call [] k lt = absurd (omega arith)
look_call (look ∷ looks) zero lt = refl
look_call (look ∷ looks) (suc k) lt = look_call looks k (omega arith)

-- the text so far and what the rest adds, after one more part
part_moves : (out line rest all next : List ℕ) → out ++ (line ++ rest) ≡ all → next ≡ out ++ line → next ++ rest ≡ all
part_moves out line rest all next e added = ap (λ (t : List ℕ). t ++ rest) added ∙ (append_assoc out line rest ∙ e)

pub call_moves : (c k : ℕ) (calls : List Bool) (answers : List Answer) (smc : Bool) (d : Answer) (out all next : List ℕ)
    → k < length answers → slice_get calls k ≡ Some smc
    → out ++ answers_text c k (drop k calls) (drop k answers) ≡ all → next ≡ out ++ call_line c k smc (get_or answers k d)
    → next ++ answers_text c (k + 1) (drop (k + 1) calls) (drop (k + 1) answers) ≡ all
call_moves c k calls answers smc d out all next lt call e added =
    let here : answers_text c k (drop k calls) (drop k answers) ≡ call_line c k smc (get_or answers k d) ++ answers_text c (k + 1) (drop (k + 1) calls) (drop (k + 1) answers) =
    ap (λ (rest : List Bool). answers_text c k rest (drop k answers)) (from_slice_get calls k smc call)
    ∙ ap (λ (rest : List Answer). answers_text c k (smc ∷ drop (k + 1) calls) rest) (drop_more answers k d lt) in
    part_moves out _ _ all next (ap (λ (t : List ℕ). out ++ t) (sym here) ∙ e) added

pub calls_end : (c k : ℕ) (calls : List Bool) (answers : List Answer) (out all : List ℕ) → length answers ≤ k
    → out ++ answers_text c k (drop k calls) (drop k answers) ≡ all → out ≡ all
calls_end c k calls answers out all le e =
    let none : answers_text c k (drop k calls) (drop k answers) ≡ [] =
    ap (answers_text c k (drop k calls)) (drop_of_length-le answers le) ∙ answers_text-none c k (drop k calls) in
    sym (append-nil out) ∙ (ap (λ (t : List ℕ). out ++ t) (sym none) ∙ e)

pub caller_moves : (k : ℕ) (scripts : List Script) (answers : List (List Answer)) (s : Script) (own : List Answer) (out all next : List ℕ)
    → k < length scripts → s ≡ get_or scripts k s → AreAnswersOf scripts answers → own ≡ get_or answers k own
    → out ++ callers_text k (drop k scripts) (drop k answers) ≡ all → next ≡ out ++ caller_text k s own
    → next ++ callers_text (k + 1) (drop (k + 1) scripts) (drop (k + 1) answers) ≡ all
caller_moves k scripts answers s own out all next lt es are eo e added =
    let within : k < length answers = omega (arith, answers_length scripts answers are) in
    let here : callers_text k (drop k scripts) (drop k answers) ≡ caller_text k s own ++ callers_text (k + 1) (drop (k + 1) scripts) (drop (k + 1) answers) =
    ap (λ (rest : List Script). callers_text k rest (drop k answers)) (from_get_or scripts k s lt es)
    ∙ ap (λ (rest : List (List Answer)). callers_text k (s ∷ drop (k + 1) scripts) rest) (from_get_or answers k own within eo) in
    part_moves out _ _ all next (ap (λ (t : List ℕ). out ++ t) (sym here) ∙ e) added

pub left_moves : (k : ℕ) (scripts : List Script) (answers : List (List Answer)) (s : Script) (own : List Answer) (n : ℕ) (out all next : List ℕ)
    → k < length scripts → s ≡ get_or scripts k s → AreAnswersOf scripts answers → own ≡ get_or answers k own → n ≡ calls_of s - length own
    → out ++ left_text k (drop k scripts) (drop k answers) ≡ all → next ≡ out ++ left_line k n
    → next ++ left_text (k + 1) (drop (k + 1) scripts) (drop (k + 1) answers) ≡ all
left_moves k scripts answers s own n out all next lt es are eo en e added =
    let within : k < length answers = omega (arith, answers_length scripts answers are) in
    let here : left_text k (drop k scripts) (drop k answers) ≡ left_line k n ++ left_text (k + 1) (drop (k + 1) scripts) (drop (k + 1) answers) =
    ap (λ (rest : List Script). left_text k rest (drop k answers)) (from_get_or scripts k s lt es)
    ∙ (ap (λ (rest : List (List Answer)). left_text k (s ∷ drop (k + 1) scripts) rest) (from_get_or answers k own within eo)
    ∙ ap (λ (m : ℕ). left_line k m ++ left_text (k + 1) (drop (k + 1) scripts) (drop (k + 1) answers)) (sym en)) in
    part_moves out _ _ all next (ap (λ (t : List ℕ). out ++ t) (sym here) ∙ e) added

pub cpu_call : (s : Script) (looks : List Look) (k : ℕ) → s ≡ script.Cpu looks → k < calls_of s → slice_get (script_calls s) k ≡ Some false
cpu_call s looks k e lt = rw e (look_call looks k (rw e at lt))

-- what is lent is the entry itself
pub lent_own : (answers : List (List Answer)) (k : ℕ) (x own : List Answer) → x ≡ get_or answers k x → own ≡ x → own ≡ get_or answers k own
lent_own answers k x own is e = rw e is

-- the text that was appended to nothing
pub begun : (items bytes first text : List ℕ) → items ≡ bytes → bytes ≡ first ++ text → first ≡ [] → items ≡ text
begun items bytes first text e added empty = e ∙ (added ∙ ap (λ (t : List ℕ). t ++ text) empty)

pub one_told : (k : ℕ) (scripts lent_scripts : List Script) (answers lent_answers : List (List Answer)) (s : Script) (x own : List Answer) (text : List ℕ)
    → lent_scripts ≡ scripts → lent_answers ≡ answers → s ≡ get_or lent_scripts k s → x ≡ get_or lent_answers k x → own ≡ x → text ≡ caller_text k s own
    → (script : Script) (given : List Answer) → slice_get scripts k ≡ Some script → slice_get answers k ≡ Some given → text ≡ caller_text k script given
one_told k scripts lent_scripts answers lent_answers s x own text es ea is ix e written script given fs fg =
    let one : s ≡ script = is ∙ (ap (λ (l : List Script). get_or l k s) es ∙ get_or_from_slice_get scripts k script s fs) in
    let two : x ≡ given = ix ∙ (ap (λ (l : List (List Answer)). get_or l k x) ea ∙ get_or_from_slice_get answers k given x fg) in
    written ∙ (ap (λ (t : Script). caller_text k t own) one ∙ ap (caller_text k script) (e ∙ two))

pub one_short : (k : ℕ) (scripts lent_scripts : List Script) (answers lent_answers : List (List Answer)) (s : Script) (x own : List Answer)
    → lent_scripts ≡ scripts → lent_answers ≡ answers → s ≡ get_or lent_scripts k s → x ≡ get_or lent_answers k x → own ≡ x
    → AreAnswersOf scripts answers → k < length scripts → length own ≤ calls_of s
one_short k scripts lent_scripts answers lent_answers s x own es ea is ix e are lt =
    own_short scripts answers k s own are lt (is ∙ ap (λ (l : List Script). get_or l k s) es)
    (lent_own answers k x own (ix ∙ ap (λ (l : List (List Answer)). get_or l k x) ea) e)
