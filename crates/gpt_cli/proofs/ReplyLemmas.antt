-- What is replied to an input that is accepted or refused, and that its status is that of a reply.
use Rattle.std.proofs.Common.{◌≡◌, ◌≢◌, ℕ, ◌<◌, true, List, length, Option, Some, None, refl, sym, ap, ◌∙◌, subst, arith, inl, inr}
use Rattle.std.specs.Prelude.{Result, Ok, Err, IfOk, OnOk}
use Rattle.std.proofs.lemmas.Bool.{cases_Bool, lt-ltb, le-ltb}
use Rattle.gpt_stream.specs.declared.input.TheConstants.{INPUT_LIMIT}
use Rattle.region_plan.specs.declared.refusing.PlanError.{PlanError}
use Rattle.region_plan.specs.Refusals.{refusal}
use Rattle.scenario_text.specs.declared.scenario.Scenario.{Scenario}
use Rattle.table_build.specs.Built.{is_bad_base}
use Rattle.history.specs.declared.outcome.Outcome.{Outcome}
use Rattle.core_machine.specs.Run.{IsRun}
use Rattle.core_machine.specs.InnerPlay.{played, outcome_of, played_trace}
use Rattle.load_scenario.specs.Load.{load_of}
use Rattle.core_machine.specs.Scenarios.{IsAccepted}
use Rattle.gpt_cli.specs.declared.command.Command.{Command}
use Rattle.gpt_cli.specs.declared.command.Command.TheVariants as command
use Rattle.gpt_cli.specs.declared.command.Request.{Request}
use Rattle.gpt_cli.specs.declared.command.Request.TheVariants as request
use Rattle.gpt_cli.specs.declared.refusal.Refusal.{Refusal}
use Rattle.gpt_cli.specs.declared.refusal.Refusal.TheVariants as cause
use Rattle.gpt_cli.specs.declared.reply.Reply.{Reply}
use Rattle.gpt_cli.specs.Statuses.{code_of}
use Rattle.gpt_cli.specs.Texts.{plan_text, base_text}
use Rattle.gpt_cli.specs.Upheld.{Upholds}
use Rattle.gpt_cli.specs.Races.{IsRaced, Races, RacesScenario}
use Rattle.gpt_cli.specs.Replies.{refused, has_left, run_status, accepted_reply, reply_of, Replies, loaded_reply, RepliesToLoad}
use Rattle.gpt_cli.specs.InnerPreparing.{HasScenario, Refuses, refusal_line}

-- the reply to a text that has a scenario
replies_scenario : (command : Command) (bytes : List ℕ) (s : Scenario) (reply : Reply) → HasScenario bytes s → reply ≡ reply_of command s → Upholds command s
    → Replies command bytes reply
replies_scenario command bytes s reply read replied upholds =
    rw (le-ltb INPUT_LIMIT (length bytes) read.within, read.good) (s, read.formed, read.spelled, replied, upholds)

-- ---- accepted inputs

accepted_replied : (command : Command) (s : Scenario) → IsAccepted s → reply_of command s ≡ accepted_reply command s
unfolding reply_of
accepted_replied command s accepted = rw (accepted.planned, accepted.based)

pub replies_prepared : {E : Type 0} (command : Command) (bytes : List ℕ) (s : Scenario) (r : Result Reply E) → HasScenario bytes s → IsAccepted s
    → IfOk r (λ reply. reply ≡ accepted_reply command s) → IfOk r (λ _. Upholds command s) → IfOk r (λ reply. Replies command bytes reply)
replies_prepared command bytes s (Ok reply) read accepted is upheld =
    replies_scenario command bytes s reply read (is ∙ sym (accepted_replied command s accepted)) upheld
replies_prepared command bytes s (Err e) read accepted is upheld = tt

-- ---- refused inputs

plan_replied : (command : Command) (s : Scenario) (e : PlanError) → refusal s.setup s.regions ≡ Some e → reply_of command s ≡ refused (plan_text e)
unfolding reply_of
plan_replied command s e bad = rw bad

base_replied : (command : Command) (s : Scenario) → refusal s.setup s.regions ≡ None → is_bad_base s.setup s.regions ≡ true → reply_of command s ≡ refused (base_text s.setup.base)
unfolding reply_of
base_replied command s planned bad = rw (planned, bad)

-- of a scenario that isn't accepted nothing is upheld
none_upheld : (command : Command) (s : Scenario) → ¬ IsAccepted s → Upholds command s
none_upheld command.Tables s not_accepted = λ accepted. absurd (not_accepted accepted)
none_upheld command.Play s not_accepted = λ accepted. absurd (not_accepted accepted)

refused_replies : (command : Command) (bytes : List ℕ) (why : Refusal) (reply : Reply) → Refuses bytes why → reply ≡ refused (refusal_line why) → why ≢ cause.Memory
    → Replies command bytes reply
refused_replies command bytes cause.TooLong reply long is rule = rw (lt-ltb INPUT_LIMIT (length bytes) long) is
refused_replies command bytes (cause.Line n f) reply bad is rule = rw (le-ltb INPUT_LIMIT (length bytes) bad.0, bad.1) is
refused_replies command bytes (cause.Plan e) reply bad is rule =
    let refuses = bad.2 in
    replies_scenario command bytes bad.0 reply bad.1 (is ∙ sym (plan_replied command bad.0 e refuses)) (none_upheld command bad.0 (λ accepted. cc))
refused_replies command bytes (cause.Base base) reply bad is rule =
    let refuses = bad.3 in
    replies_scenario command bytes bad.0 reply bad.1 (is ∙ ap (λ (b : ℕ). refused (base_text b)) bad.4 ∙ sym (base_replied command bad.0 bad.2 refuses))
    (none_upheld command bad.0 (λ accepted. cc))
refused_replies command bytes cause.Memory reply within is rule = absurd (rule refl)

pub replies_refused : {E : Type 0} (command : Command) (bytes : List ℕ) (why : Refusal) (r : Result Reply E) → Refuses bytes why
    → IfOk r (λ reply. reply ≡ refused (refusal_line why)) → OnOk r (why ≢ cause.Memory) → IfOk r (λ reply. Replies command bytes reply)
replies_refused command bytes why (Ok reply) refuses is rule = refused_replies command bytes why reply refuses is rule
replies_refused command bytes why (Err e) refuses is rule = tt

-- ---- races

races_scenario : (bytes : List ℕ) (s : Scenario) (reply : Reply) → HasScenario bytes s → RacesScenario s reply → Races bytes reply
races_scenario bytes s reply read replied = rw (le-ltb INPUT_LIMIT (length bytes) read.within, read.good) (s, read.formed, read.spelled, replied)

pub races_prepared : {E : Type 0} (bytes : List ℕ) (s : Scenario) (r : Result Reply E) → HasScenario bytes s → IsAccepted s → IfOk r (λ reply. IsRaced s reply) → IfOk r (λ reply. Races bytes reply)
races_prepared bytes s (Ok reply) read accepted raced = races_scenario bytes s reply read (rw (accepted.planned, accepted.based) raced)
races_prepared bytes s (Err e) read accepted raced = tt

refused_races : (bytes : List ℕ) (why : Refusal) (reply : Reply) → Refuses bytes why → reply ≡ refused (refusal_line why) → why ≢ cause.Memory → Races bytes reply
refused_races bytes cause.TooLong reply long is rule = rw (lt-ltb INPUT_LIMIT (length bytes) long) is
refused_races bytes (cause.Line n f) reply bad is rule = rw (le-ltb INPUT_LIMIT (length bytes) bad.0, bad.1) is
refused_races bytes (cause.Plan e) reply bad is rule = races_scenario bytes bad.0 reply bad.1 (rw bad.2 is)
refused_races bytes (cause.Base base) reply bad is rule = races_scenario bytes bad.0 reply bad.1 (rw (bad.2, bad.3) (is ∙ ap (λ (b : ℕ). refused (base_text b)) bad.4))
refused_races bytes cause.Memory reply within is rule = absurd (rule refl)

pub races_refused : {E : Type 0} (bytes : List ℕ) (why : Refusal) (r : Result Reply E) → Refuses bytes why
    → IfOk r (λ reply. reply ≡ refused (refusal_line why)) → OnOk r (why ≢ cause.Memory) → IfOk r (λ reply. Races bytes reply)
races_refused bytes why (Ok reply) refuses is rule = refused_races bytes why reply refuses is rule
races_refused bytes why (Err e) refuses is rule = tt

-- ---- statuses

-- the status of a fault of reading, and of want of memory, is no reply's
abbrev pub IsTold : ℕ → Type 0
IsTold code = (code ≢ 3) × (code ≢ 5)

low_told : (code : ℕ) → code < 2 → IsTold code
low_told code low = ((λ e. absurd (omega (arith, e, low))), (λ e. absurd (omega (arith, e, low))))

six_told : IsTold 6
six_told = ((λ e. absurd (omega (arith, e))), (λ e. absurd (omega (arith, e))))

pub played_status : (s : Scenario) (o : Outcome) → IsTold (code_of (run_status s o))
played_status s o =
    elim (cases_Bool (has_left s.scripts o.answers)) [
      | inl left ↦ rw left six_told
      | inr none ↦ rw none (low_told 0 (omega arith))
    ]

accepted_status : (command : Command) (s : Scenario) → IsTold (code_of (accepted_reply command s).status)
accepted_status command.Tables s = low_told 0 (omega arith)
accepted_status command.Play s = played_status s (outcome_of (played s))

pub prepared_status : {E : Type 0} (command : Command) (s : Scenario) (r : Result Reply E) → IfOk r (λ reply. reply ≡ accepted_reply command s)
    → IfOk r (λ reply. IsTold (code_of reply.status))
prepared_status command s (Ok reply) is = subst (λ (r : Reply). IsTold (code_of r.status)) (sym is) (accepted_status command s)
prepared_status command s (Err e) is = tt

pub refused_status : {E : Type 0} (line : List ℕ) (r : Result Reply E) → IfOk r (λ reply. reply ≡ refused line) → IfOk r (λ reply. IsTold (code_of reply.status))
refused_status line (Ok reply) is = subst (λ (r : Reply). IsTold (code_of r.status)) (sym is) (low_told 1 (omega arith))
refused_status line (Err e) is = tt

-- words are one command alone
pub replies_same : (words : Option Request) (a b : Command) (bytes : List ℕ) (reply : Reply) → words ≡ Some (request.Read a) → words ≡ Some (request.Read b)
    → Replies a bytes reply → Replies b bytes reply
replies_same words a b bytes reply first second replied =
    let same : a ≡ b = cc in
    subst (λ (k : Command). Replies k bytes reply) same replied

-- ---- loads

pub loaded_replies : (number : ℕ) (s : Scenario) (o : Outcome) (reply : Reply) → s ≡ load_of number → o ≡ outcome_of (played s) → reply ≡ loaded_reply number s o → IsAccepted s
    → IsRun s o (played_trace s) → RepliesToLoad number reply
loaded_replies number s o reply made left replied accepted run =
    subst (λ (t : Scenario). (reply ≡ loaded_reply number t (outcome_of (played t))) × (IsAccepted t × IsRun t (outcome_of (played t)) (played_trace t))) made
    (subst (λ (x : Outcome). (reply ≡ loaded_reply number s x) × (IsAccepted s × IsRun s x (played_trace s))) left (replied, (accepted, run)))

-- words are one load alone
pub load_same : (words : Option Request) (a b : ℕ) (reply : Reply) → words ≡ Some (request.Load a) → words ≡ Some (request.Load b) → RepliesToLoad a reply → RepliesToLoad b reply
load_same words a b reply first second replied =
    let same : a ≡ b = cc in
    subst (λ (n : ℕ). RepliesToLoad n reply) same replied

pub raced_status : {E : Type 0} (s : Scenario) (r : Result Reply E) → IfOk r (λ reply. IsRaced s reply) → IfOk r (λ reply. IsTold (code_of reply.status))
raced_status s (Ok reply) raced = subst (λ (r : Reply). IsTold (code_of r.status)) (sym raced.printed) (low_told 0 (omega arith))
raced_status s (Err e) raced = tt
