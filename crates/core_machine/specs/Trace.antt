-- The trace of a schedule: which caller makes which act, what it answers, and which entries it
-- makes.
use Rattle.std.specs.Prelude.{◌≡◌, ◌≢◌, ◌⊎◌, ℕ, ◌/◌, ◌%◌, ◌^◌, ◌<◌, Bool, false, ◌&&◌, List, [], ◌∷◌, length, map, slice_get, Option, Some, None, ◌==◌}
use Rattle.std.specs.List.{All, filter, flat_map}
use Rattle.std.specs.Int.{bit_not, w64}
use Rattle.std.specs.Int.Bits.{bit_and}
use Rattle.gpt_descriptors.specs.Places.{GeometryData, Duty, place_of}
use Rattle.shared_words.specs.declared.act.Act.{Act}
use Rattle.shared_words.specs.declared.act.Act.TheVariants as act
use Rattle.shared_words.specs.Acts.{place_in, answer_of, after_act}
use Rattle.scenario_text.specs.declared.scenario.Script.{Script}
use Rattle.scenario_text.specs.declared.scenario.Script.TheVariants as script
use Rattle.history.specs.declared.call.Answer.{Answer}
use Rattle.history.specs.declared.entry.Entry.{Entry}
use Rattle.history.specs.Events.{CallEvent}
use Rattle.delegate_ops.specs.Script as agents
use Rattle.processor.specs.Script as cpus
use Rattle.core_machine.specs.Scenarios.{task_of_ask, task_of_look, cpu_number}

-- an event of a trace: a caller, and its act with its answer and its entries
pub record TraceEvent : Type 0 where
  pub caller : ℕ
  pub event : CallEvent

-- the events of one caller
abbrev pub events_of : ℕ → List TraceEvent → List CallEvent
events_of c trace = map (λ e. e.event) (filter (λ e. e.caller == c) trace)

-- the history of a trace: the entries of its events, in their order
abbrev pub history_of : List TraceEvent → List Entry
history_of trace = flat_map (λ e. e.event.made) trace

-- ---- words

-- the shared words after a trace
abbrev pub words_after : List ℕ → List TraceEvent → List ℕ
words_after words [] = words
words_after words (e ∷ trace) = words_after (after_act e.event.act words) trace

-- each act is made on one of the shared words, and answers what the acts before it left
abbrev pub AreAnswered : List ℕ → List TraceEvent → Type 0
AreAnswered words [] = Unit {0}
AreAnswered words (e ∷ trace) =
    (place_in e.event.act < length words) × (e.event.old ≡ answer_of e.event.act words)
    × AreAnswered (after_act e.event.act words) trace

-- ---- scripts

-- the events of caller c follow its script; where it is a processor, its number is p
abbrev pub FollowsScript : GeometryData → ℕ → ℕ → Script → List Answer → List CallEvent → Type 0
FollowsScript g c p (script.Agent asks) answers events =
    agents.Follows g c (map task_of_ask asks) answers events
FollowsScript g c p (script.Cpu looks) answers events =
    cpus.Follows g p c (map task_of_look looks) answers events

-- a caller makes no further act: each of its calls is answered
abbrev pub HasEnded : Option Script → List Answer → Type 0
HasEnded (Some (script.Agent asks)) answers = length answers ≡ length asks
HasEnded (Some (script.Cpu looks)) answers = length answers ≡ length looks
HasEnded None answers = Unit {0}

-- the answers of a caller
abbrev pub answers_by : List (List Answer) → Option (List Answer) → List Answer
answers_by answers None = []
answers_by answers (Some own) = own

abbrev pub answers_in : List (List Answer) → ℕ → List Answer
answers_in answers c = answers_by answers (slice_get answers c)

-- ---- turns

-- The events are those of the turns, in their order: each turn makes an event of its caller, or its
-- caller has ended and makes no further event.
abbrev pub TakesTurns : (ℕ → Type 0) → List ℕ → List ℕ → Type 0
TakesTurns ended [] callers = callers ≡ []
TakesTurns ended (c ∷ turns) callers =
    ((rest : List ℕ) × (callers ≡ c ∷ rest) × TakesTurns ended turns rest)
    ⊎ (ended c × All (λ d. d ≢ c) callers × TakesTurns ended turns callers)

-- ---- locks

-- the act takes lock n, which was free: it sets bit n % 64 of word n / 64
abbrev pub takes_by : ℕ → ℕ → Act → Bool
takes_by n old (act.Or place value) =
    (place == n / 64) && ((value == 2 ^ (n % 64)) && (bit_and old value == 0))
takes_by n old a = false

abbrev pub takes : ℕ → TraceEvent → Bool
takes n e = takes_by n e.event.old e.event.act

-- the act releases lock n: it clears this bit
abbrev pub releases_by : ℕ → Act → Bool
releases_by n (act.And place value) = (place == n / 64) && (value == bit_not w64 (2 ^ (n % 64)))
releases_by n a = false

abbrev pub releases : ℕ → TraceEvent → Bool
releases n e = releases_by n e.event.act

-- ---- duty words

-- the act sets the duty word of processor p: it stores 1 there
abbrev pub sets_by : GeometryData → ℕ → Act → Bool
sets_by g p (act.Store place value) = (place == place_of g (Duty p)) && (value == 1)
sets_by g p a = false

abbrev pub sets : GeometryData → ℕ → TraceEvent → Bool
sets g p e = sets_by g p e.event.act

-- the act clears it: it stores 0 there
abbrev pub clears_by : GeometryData → ℕ → Act → Bool
clears_by g p (act.Store place value) = (place == place_of g (Duty p)) && (value == 0)
clears_by g p a = false

abbrev pub clears : GeometryData → ℕ → TraceEvent → Bool
clears g p e = clears_by g p e.event.act

-- ---- the whole

-- A trace of these turns, from words before the first act to these answers and words: its callers
-- are those of the turns, less the turns of callers that have ended; each act answers what its word
-- holds; and each caller follows its script.
pub record IsTrace (g : GeometryData) (scripts : List Script) (before : List ℕ) (turns : List ℕ)
    (trace : List TraceEvent) (answers : List (List Answer)) (words : List ℕ) : Type 0 where
  pub callers : All (λ e. e.caller < length scripts) trace
  pub turned : TakesTurns
      (λ c. HasEnded (slice_get scripts c) (answers_in answers c)) turns
      (map (λ e. e.caller) trace)
  pub answered : AreAnswered before trace
  pub left : words ≡ words_after before trace
  pub follows : (c : ℕ) (s : Script) (own : List Answer) → slice_get scripts c ≡ Some s
      → slice_get answers c ≡ Some own
      → FollowsScript g c (cpu_number scripts c) s own (events_of c trace)
