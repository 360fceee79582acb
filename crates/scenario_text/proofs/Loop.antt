-- Reading line by line, as a loop does.
use Rattle.std.proofs.Common.{◌≡◌, ℕ, ◌+◌, ◌<◌, ◌≤◌, List, [], ◌∷◌, length, Result, Ok, Err, refl, sym, ap, ◌∙◌, arith}
use Rattle.gpt_descriptors.specs.Sizes.{IsSetup}
use Rattle.line_text.specs.Lines.{fields_in, lines_in}
use Rattle.line_text.specs.InnerRows.{◌>>=◌}
use Rattle.line_text.proofs.LineLemmas.{some_line}
use Rattle.scenario_text.specs.declared.line.Line.{Line}
use Rattle.scenario_text.specs.declared.scenario.Fault.{Fault}
use Rattle.scenario_text.specs.declared.scenario.Scenario.{Scenario}
use Rattle.scenario_text.specs.declared.scenario.TextError.{TextError}
use Rattle.scenario_text.specs.declared.scenario.TextError.TheVariants as error
use Rattle.scenario_text.specs.declared.context.Context.{Context}
use Rattle.scenario_text.specs.Faults.{start, rest_fault}
use Rattle.scenario_text.specs.InnerReading.{InLimits, Next, after, unless, read_line, read_from, read_all, Fails}
use Rattle.scenario_text.specs.InnerDrafts.{DraftData, nothing_read, scenario_of, taken, scenario_with}
use Rattle.scenario_text.proofs.Order.{start_limits, step_limits}
use Rattle.scenario_text.proofs.Words.{line_spelled}
use Rattle.scenario_text.proofs.Texts.{read_more, is_read}

-- the scenario that reading gives
abbrev pub read_scenario : List ℕ → Result Scenario (ℕ × Fault)
read_scenario bytes = scenario_with nothing_read (read_all bytes)

-- the loop at line n, with the bytes that are left
pub record Going (bytes : List ℕ) (n : ℕ) (rest : List ℕ) (st : Context) (d : DraftData) : Type 0 where
  pub reads : scenario_with d (read_from n st (lines_in rest)) ≡ read_scenario bytes
  pub limits : InLimits st
  pub counted : n + length rest ≤ length bytes + 1

pub next_of_line : (st : Context) (line : List ℕ) (l : Line) → Ok l ≡ read_line st (fields_in line) → Next st l
next_of_line st line l e = (line_spelled st (fields_in line) l (sym e)).1

more_reported : (d : DraftData) (l : Line) (r : Result (List Line) (ℕ × Fault)) → scenario_with d (r >>= λ ls. Ok (l ∷ ls)) ≡ scenario_with (taken d l) r
more_reported d l (Ok ls) = refl
more_reported d l (Err bad) = refl

pub goes_on : (bytes : List ℕ) (n : ℕ) (rest line more : List ℕ) (st : Context) (d d' : DraftData) (l : Line) → Going bytes n rest st d → lines_in rest ≡ line ∷ lines_in more → length more < length rest
    → Ok l ≡ read_line st (fields_in line) → d' ≡ taken d l → Going bytes (n + 1) more (after st l) d'
goes_on bytes n rest line more st d d' l going cut shorter e takes =
    let step : read_from n st (lines_in rest) ≡ (read_from (n + 1) (after st l) (lines_in more) >>= λ ls. Ok (l ∷ ls)) =
    ap (read_from n st) cut ∙ read_more n st line (lines_in more) (some_line more) ∙ rw (← e) refl in
    rw takes (record {
      reads = sym (ap (scenario_with d) step ∙ more_reported d l (read_from (n + 1) (after st l) (lines_in more))) ∙ going.reads;
      limits = step_limits st l (next_of_line st line l e) going.limits;
      counted = let h = going.counted in omega arith;
    })

pub stops : (bytes : List ℕ) (n : ℕ) (rest line more : List ℕ) (st : Context) (d : DraftData) (f : Fault) → Going bytes n rest st d → lines_in rest ≡ line ∷ lines_in more
    → Err f ≡ read_line st (fields_in line) → read_scenario bytes ≡ Err (n, f)
stops bytes n rest line more st d f going cut e =
    let step : read_from n st (lines_in rest) ≡ Err (n, f) = ap (read_from n st) cut ∙ read_more n st line (lines_in more) (some_line more) ∙ rw (← e) refl in
    sym going.reads ∙ ap (scenario_with d) step

last : (bytes : List ℕ) (n : ℕ) (rest : List ℕ) (st : Context) (d : DraftData) → Going bytes n rest st d → lines_in rest ≡ rest ∷ [] → read_scenario bytes ≡ scenario_with d (unless (rest_fault st.place n rest))
unfolding read_from
last bytes n rest st d going cut = sym going.reads ∙ ap (λ (ps : List (List ℕ)). scenario_with d (read_from n st ps)) cut

all_is : (bytes : List ℕ) → read_from 1 start (lines_in bytes) ≡ read_all bytes
unfolding read_all
all_is bytes = refl

pub going_at_start : (bytes : List ℕ) (d : DraftData) → d ≡ nothing_read → Going bytes 1 bytes start d
going_at_start bytes d e = rw e (record { reads = ap (scenario_with nothing_read) (all_is bytes); limits = start_limits; counted = omega arith })

pub ends_badly : (bytes : List ℕ) (n : ℕ) (rest : List ℕ) (st : Context) (d : DraftData) (e : TextError) → Going bytes n rest st d → lines_in rest ≡ rest ∷ [] → Fails e (unless (rest_fault st.place n rest)) → Fails e (read_scenario bytes)
ends_badly bytes n rest st d error.Memory going cut fails = tt
ends_badly bytes n rest st d (error.Line k f) going cut fails = last bytes n rest st d going cut ∙ ap (scenario_with d) fails

pub ends_well : (bytes : List ℕ) (n : ℕ) (rest : List ℕ) (st : Context) (d : DraftData) → Going bytes n rest st d → lines_in rest ≡ rest ∷ [] → unless (rest_fault st.place n rest) ≡ Ok [] → read_scenario bytes ≡ Ok (scenario_of d)
ends_well bytes n rest st d going cut ok = last bytes n rest st d going cut ∙ ap (scenario_with d) ok

pub ends_set : (bytes : List ℕ) (n : ℕ) (rest : List ℕ) (st : Context) (d : DraftData) → Going bytes n rest st d → lines_in rest ≡ rest ∷ [] → unless (rest_fault st.place n rest) ≡ Ok [] → IsSetup d.setup
ends_set bytes n rest st d going cut ok = (is_read bytes (scenario_of d) (ends_well bytes n rest st d going cut ok)).formed.setup
