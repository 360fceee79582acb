-- Reading a whole text: what is read is spelled so, what is spelled so is read, and the first fault is the text's.
use Rattle.std.proofs.Common.{◌≡◌, ℕ, ◌+◌, ◌<◌, true, false, List, [], ◌∷◌, ◌++◌, length, map, Option, Some, None, Result, Ok, Err, refl, sym, ap, subst, ◌∙◌, arith, inl, inr}
use Rattle.std.specs.Prelude.{IfOk, MatchResult}
use Rattle.std.specs.Result.{result_err}
use Rattle.std.specs.List.{flat_map, join_with_byte, AllByRecursion}
use Rattle.std.proofs.lemmas.Bool.{cases_Bool}
use Rattle.line_text.specs.Lines.{line, fields_in, lines_in}
use Rattle.line_text.specs.InnerRows.{◌>>=◌}
use Rattle.line_text.proofs.Steps.{bind_ok, ok_same}
use Rattle.line_text.proofs.LineLemmas.{IsPlainLine, pieces, fields_joined, joined_fields, lines_split, joined_lines, some_line, some_piece}
use Rattle.scenario_text.specs.declared.line.Line.{Line}
use Rattle.scenario_text.specs.declared.scenario.Scenario.{Scenario}
use Rattle.scenario_text.specs.declared.scenario.Fault.{Fault}
use Rattle.scenario_text.specs.declared.scenario.Fault.TheVariants as fault
use Rattle.scenario_text.specs.declared.scenario.TextError.{TextError}
use Rattle.scenario_text.specs.declared.scenario.TextError.TheVariants as error
use Rattle.scenario_text.specs.declared.context.Place.{Place}
use Rattle.scenario_text.specs.declared.context.Place.TheVariants as places
use Rattle.scenario_text.specs.declared.context.Context.{Context}
use Rattle.scenario_text.specs.Spelling.{fields_of, line_text, lines_of, text_of, WellFormed}
use Rattle.scenario_text.specs.Faults.{start, is_ended, rest_fault, line_fault, after_line, first_bad, first_bad_from, IsFault}
use Rattle.scenario_text.specs.InnerReading.{read_line, InLimits, Next, after, at_line, unless, read_from, read_all, Reads}
use Rattle.scenario_text.specs.InnerDrafts.{nothing_read, scenario_of, taken_all, scenario_with}
use Rattle.scenario_text.proofs.Words.{line_plain, line_spelled, line_again, line_reported, after_again}
use Rattle.scenario_text.proofs.Order.{Accepts, accepted, accepts_lines, start_limits, step_limits, take_lines, same_scenario}

-- ---- the pieces of a text

lines_plain : (st : Context) (ls : List Line) → InLimits st → Accepts st ls → AllByRecursion IsPlainLine (map fields_of ls)
lines_plain st [] limits accepts = tt
lines_plain st (l ∷ ls) limits accepts =
    (line_plain st limits l accepts.0.values, lines_plain (after st l) ls (step_limits st l accepts.0 limits) accepts.1)

lines_mapped : (ls : List Line) → flat_map line_text ls ≡ flat_map line (map fields_of ls)
lines_mapped [] = refl
lines_mapped (l ∷ ls) = ap (λ (z : List ℕ). line_text l ++ z) (lines_mapped ls)

-- ---- one line more

pub read_more : (n : ℕ) (st : Context) (text : List ℕ) (ps : List (List ℕ)) → 0 < length ps
    → read_from n st (text ∷ ps) ≡ (at_line n (read_line st (fields_in text)) >>= λ l. read_from (n + 1) (after st l) ps >>= λ ls. Ok (l ∷ ls))
unfolding read_from
read_more n st text [] some = absurd (omega arith)
read_more n st text (p ∷ ps) some = refl

-- what may come one after the other is read
read_again : (n : ℕ) (st : Context) (ls : List Line) → InLimits st → Accepts st ls → read_from n st (pieces (map fields_of ls)) ≡ Ok ls
unfolding read_from
read_again n st [] limits accepts = ap (λ (p : Place). unless (rest_fault p n [])) accepts
read_again n st (l ∷ ls) limits accepts =
    let fields : fields_in (join_with_byte 32 (fields_of l)) ≡ fields_of l = fields_joined (fields_of l) (line_plain st limits l accepts.0.values) in
    let later = read_again (n + 1) (after st l) ls (step_limits st l accepts.0 limits) accepts.1 in
    read_more n st (join_with_byte 32 (fields_of l)) (pieces (map fields_of ls)) (some_piece (map fields_of ls)) ∙ rw (fields, line_again st limits l accepts.0, later) refl

pub rest_ok : (p : Place) (n : ℕ) (rest : List ℕ) (ls : List Line) → unless (rest_fault p n rest) ≡ Ok ls → (p ≡ places.Ended) × (rest ≡ []) × (ls ≡ [])
rest_ok places.Ended n [] ls e = (refl, refl, ok_same {E = ℕ × Fault} ls [] (sym e))
rest_ok places.Ended n (c ∷ cs) ls e = absurd cc
rest_ok places.Regions n rest ls e = absurd cc
rest_ok p n rest ls e = absurd cc

at_line_ok : (n : ℕ) (r : Result Line Fault) (l : Line) → at_line n r ≡ Ok l → r ≡ Ok l
at_line_ok n (Ok x) l e = ap (λ (l : Line). Ok l) (ok_same {E = ℕ × Fault} x l e)
at_line_ok n (Err f) l e = absurd cc

-- what is read may come one after the other, and is spelled so
read_spelled : (n : ℕ) (st : Context) (ps : List (List ℕ)) (ls : List Line) → 0 < length ps → read_from n st ps ≡ Ok ls → (ps ≡ pieces (map fields_of ls)) × Accepts st ls
unfolding read_from
read_spelled n st [] ls some e = absurd (omega arith)
read_spelled n st (rest ∷ []) ls some e =
    let r = rest_ok st.place n rest ls e in
    subst (λ (ls : List Line). (rest ∷ [] ≡ pieces (map fields_of ls)) × Accepts st ls) (sym r.2) (ap (λ (z : List ℕ). z ∷ []) r.1, r.0)
read_spelled n st (text ∷ p ∷ ps) ls some e =
    let l = bind_ok (at_line n (read_line st (fields_in text))) (λ l. read_from (n + 1) (after st l) (p ∷ ps) >>= λ ls. Ok (l ∷ ls)) ls e in
    let more = bind_ok (read_from (n + 1) (after st l.0) (p ∷ ps)) (λ ls. Ok (l.0 ∷ ls)) ls l.2 in
    let spelled_so = line_spelled st (fields_in text) l.0 (at_line_ok n (read_line st (fields_in text)) l.0 l.1) in
    let later = read_spelled (n + 1) (after st l.0) (p ∷ ps) more.0 (omega arith) more.1 in
    let text_is = joined_fields text (fields_of l.0) spelled_so.0 in
    subst (λ (ls : List Line). (text ∷ p ∷ ps ≡ pieces (map fields_of ls)) × Accepts st ls) (ok_same {E = ℕ × Fault} (l.0 ∷ more.0) ls more.2)
    ((λ i. text_is i ∷ later.0 i), (spelled_so.1, later.1))

-- ---- faults

bad_unless : (o : Option (ℕ × Fault)) → result_err (unless o) ≡ o
bad_unless None = refl
bad_unless (Some bad) = refl

bad_bind : (r : Result (List Line) (ℕ × Fault)) (l : Line) → result_err (r >>= λ ls. Ok (l ∷ ls)) ≡ result_err r
bad_bind (Ok ls) l = refl
bad_bind (Err bad) l = refl

ended_line : (st : Context) (fields : List (List ℕ)) → is_ended st.place ≡ true → read_line st fields ≡ Err fault.After
unfolding read_line
ended_line st fields e = rw e refl

abbrev FirstBad : ℕ → Context → List (List ℕ) → Type 0
FirstBad n st ps = result_err (read_from n st ps) ≡ first_bad_from n st ps

-- the line is bad, or reading goes on after it
line_goes_on : (n : ℕ) (st : Context) (text p : List ℕ) (ps : List (List ℕ)) → InLimits st → ((l : Line) → Next st l → FirstBad (n + 1) (after st l) (p ∷ ps)) → is_ended st.place ≡ false
    → (r : Result Line Fault) → read_line st (fields_in text) ≡ r → FirstBad n st (text ∷ p ∷ ps)
unfolding read_from first_bad_from
line_goes_on n st text p ps limits later opens (Ok l) e =
    let spelled_so = line_spelled st (fields_in text) l e in
    let no_fault : line_fault st (fields_in text) ≡ None = sym (line_reported st limits (fields_in text) opens) ∙ ap result_err e in
    let next : after_line st (fields_in text) ≡ after st l = ap (after_line st) spelled_so.0 ∙ after_again st limits l spelled_so.1 in
    rw (e, opens, no_fault, next) (bad_bind (read_from (n + 1) (after st l) (p ∷ ps)) l ∙ later l spelled_so.1)
line_goes_on n st text p ps limits later opens (Err f) e =
    let has_fault : line_fault st (fields_in text) ≡ Some f = sym (line_reported st limits (fields_in text) opens) ∙ ap result_err e in
    rw (e, opens, has_fault) refl

ended_goes_on : (n : ℕ) (st : Context) (text p : List ℕ) (ps : List (List ℕ)) → is_ended st.place ≡ true → FirstBad n st (text ∷ p ∷ ps)
unfolding read_from first_bad_from
ended_goes_on n st text p ps ended = rw (ended_line st (fields_in text) ended, ended) refl

first_reported : (n : ℕ) (st : Context) (ps : List (List ℕ)) → 0 < length ps → InLimits st → FirstBad n st ps
unfolding read_from first_bad_from
first_reported n st [] some limits = absurd (omega arith)
first_reported n st (rest ∷ []) some limits = bad_unless (rest_fault st.place n rest)
first_reported n st (text ∷ p ∷ ps) some limits =
    let later : (l : Line) → Next st l → FirstBad (n + 1) (after st l) (p ∷ ps) = λ l nx. first_reported (n + 1) (after st l) (p ∷ ps) (omega arith) (step_limits st l nx limits) in
    elim (cases_Bool (is_ended st.place)) [
      | inl t ↦ ended_goes_on n st text p ps t
      | inr f ↦ line_goes_on n st text p ps limits later f (read_line st (fields_in text)) refl
    ]

-- ---- whole texts

-- the first bad line is the one that reading meets
pub all_reported : (bytes : List ℕ) → result_err (read_all bytes) ≡ first_bad bytes
unfolding read_all first_bad
all_reported bytes = first_reported 1 start (lines_in bytes) (some_line bytes) start_limits

-- a scenario's text is read as its lines
pub all_again : (s : Scenario) → WellFormed s → read_all (text_of s) ≡ Ok (lines_of s)
unfolding read_all text_of
all_again s w =
    let accepts = accepts_lines s w in
    ap (λ (bytes : List ℕ). read_from 1 start (lines_in bytes)) (lines_mapped (lines_of s))
    ∙ ap (read_from 1 start) (lines_split (map fields_of (lines_of s)) (lines_plain start (lines_of s) start_limits accepts))
    ∙ read_again 1 start (lines_of s) start_limits accepts

-- what is read is the text of these lines
all_spelled : (bytes : List ℕ) (ls : List Line) → read_all bytes ≡ Ok ls → (bytes ≡ flat_map line_text ls) × Accepts start ls
unfolding read_all
all_spelled bytes ls e =
    let r = read_spelled 1 start (lines_in bytes) ls (some_line bytes) e in
    (joined_lines bytes (map fields_of ls) r.0 ∙ sym (lines_mapped ls), r.1)

-- what is read is a scenario's text
pub record IsRead (bytes : List ℕ) (s : Scenario) : Type 0 where
  pub formed : WellFormed s
  pub text : bytes ≡ text_of s
  pub lines : read_all bytes ≡ Ok (lines_of s)

lines_read : (bytes : List ℕ) (ls : List Line) → read_all bytes ≡ Ok ls → IsRead bytes (scenario_of (taken_all nothing_read ls))
unfolding text_of
lines_read bytes ls e =
    let spelled_so = all_spelled bytes ls e in
    let of = accepted ls spelled_so.1 in
    let is : of.0 ≡ scenario_of (taken_all nothing_read ls) = sym (take_lines of.0) ∙ ap (λ (z : List Line). scenario_of (taken_all nothing_read z)) (sym of.2) in
    subst (λ (s : Scenario). IsRead bytes s) is (record { formed = of.1; text = spelled_so.0 ∙ ap (flat_map line_text) of.2; lines = e ∙ ap (λ (z : List Line). Ok z) of.2 })

scenario_read : (bytes : List ℕ) (r : Result (List Line) (ℕ × Fault)) (s : Scenario) → read_all bytes ≡ r → scenario_with nothing_read r ≡ Ok s → IsRead bytes s
scenario_read bytes (Ok ls) s e reported = subst (λ (s : Scenario). IsRead bytes s) (ok_same {E = ℕ × Fault} (scenario_of (taken_all nothing_read ls)) s reported) (lines_read bytes ls e)
scenario_read bytes (Err bad) s e reported = absurd cc

pub is_read : (bytes : List ℕ) (s : Scenario) → scenario_with nothing_read (read_all bytes) ≡ Ok s → IsRead bytes s
is_read bytes s reported = scenario_read bytes (read_all bytes) s refl reported

bad_reported : (r : Result (List Line) (ℕ × Fault)) (bad : ℕ × Fault) → scenario_with nothing_read r ≡ Err bad → result_err r ≡ Some bad
bad_reported (Ok ls) bad e = absurd cc
bad_reported (Err other) bad e = let same : other ≡ bad = cc in ap (λ (x : ℕ × Fault). Some x) same

scenario_again : (s : Scenario) → WellFormed s → scenario_with nothing_read (read_all (text_of s)) ≡ Ok s
scenario_again s w = ap (scenario_with nothing_read) (all_again s w) ∙ ap (λ (s : Scenario). Ok s) (take_lines s)

-- ---- laws

pub good : (s : Scenario) → WellFormed s → first_bad (text_of s) ≡ None
good s w = sym (all_reported (text_of s)) ∙ ap result_err (all_again s w)

pub one : (s t : Scenario) → WellFormed s → WellFormed t → text_of s ≡ text_of t → s ≡ t
one s t w v e = same_scenario s t (ok_same {E = ℕ × Fault} (lines_of s) (lines_of t) (sym (all_again s w) ∙ ap read_all e ∙ all_again t v))

read_none : (bytes : List ℕ) (r : Result (List Line) (ℕ × Fault)) → read_all bytes ≡ r → result_err r ≡ None → (s : Scenario) × WellFormed s × (bytes ≡ text_of s)
read_none bytes (Err bad) e none = absurd cc
read_none bytes (Ok ls) e none = let is = lines_read bytes ls e in (scenario_of (taken_all nothing_read ls), is.formed, is.text)

pub read : (bytes : List ℕ) → first_bad bytes ≡ None → (s : Scenario) × WellFormed s × (bytes ≡ text_of s)
read bytes none = read_none bytes (read_all bytes) refl (all_reported bytes ∙ none)

-- ---- what a reader gives

pub read_text : (bytes : List ℕ) (r : Result Scenario TextError) → Reads (λ s. s) r (scenario_with nothing_read (read_all bytes)) → IfOk r (λ s. WellFormed s × (bytes ≡ text_of s))
read_text bytes (Ok s) given = let is = is_read bytes s given in (is.formed, is.text)
read_text bytes (Err e) given = tt

pub read_only : (bytes : List ℕ) (r : Result Scenario TextError) → Reads (λ s. s) r (scenario_with nothing_read (read_all bytes)) → (s : Scenario) → WellFormed s → bytes ≡ text_of s → MatchResult r (λ r. r ≡ s) (λ e. e ≡ error.Memory)
read_only bytes (Ok r) given s w e = ok_same {E = ℕ × Fault} r s (sym given ∙ ap (λ (b : List ℕ). scenario_with nothing_read (read_all b)) e ∙ scenario_again s w)
read_only bytes (Err error.Memory) given s w e = refl
read_only bytes (Err (error.Line n f)) given s w e = absurd (let wrong = sym given ∙ ap (λ (b : List ℕ). scenario_with nothing_read (read_all b)) e ∙ scenario_again s w in cc)

pub read_fault : (bytes : List ℕ) (r : Result Scenario TextError) → Reads (λ s. s) r (scenario_with nothing_read (read_all bytes)) → MatchResult r (λ s. first_bad bytes ≡ None) (λ e. IsFault e (first_bad bytes))
read_fault bytes (Ok s) given = sym (all_reported bytes) ∙ ap result_err (is_read bytes s given).lines
read_fault bytes (Err error.Memory) given = tt
read_fault bytes (Err (error.Line n f)) given = sym (all_reported bytes) ∙ bad_reported (read_all bytes) (n, f) given
