-- An agent's turn by that of its transition.
use Rattle.std.proofs.Common.{◌≡◌, ◌+◌, ℕ, suc, arith, List, Bool, true, false, Option, Some, None, length, refl, sym, ap, ◌∙◌, subst}
use Rattle.std.specs.Prelude.{slice_get, is_some, ◌&&◌}
use Rattle.gpt_descriptors.specs.Places.{GeometryData}
use Rattle.shared_words.specs.declared.act.Act.{Act}
use Rattle.shared_words.specs.Next.{old_by, words_after, MayBeMade}
use Rattle.history.specs.declared.call.Task.{Task}
use Rattle.history.specs.declared.call.Answer.{Answer}
use Rattle.delegate_ops.specs.declared.progress.Turned.TheVariants as turned
use Rattle.delegate_ops.specs.InnerStages.{Stage}
use Rattle.delegate_ops.specs.InnerAgents.{AgentData, IsAgent, IsStage, IsReadable, next_of, took_of, IsStill}
use Rattle.delegate_ops.specs.InnerTransition.{TransitionData, IsUnderWay, next_by, is_held_by, answer_by, unended, after_by, turned_at, turned_by}
use Rattle.delegate_ops.specs.InnerTurns.{turned_once}
use Rattle.delegate_ops.specs.InnerTurns as turns
use Rattle.delegate_ops.proofs.TransitionLemmas.{agent_of}

pub goes_unanswered : (o : Option Answer) (again : Bool) → turned_at o again ≡ turned.Goes → o ≡ None
goes_unanswered None again goes = refl
goes_unanswered (Some given) again goes = absurd cc

pub still_unanswered : (o : Option Answer) (again : Bool) → turned_at o again ≡ turned.Still → (o ≡ None) × (again ≡ true)
still_unanswered None true still = (refl, refl)
still_unanswered None false still = absurd cc
still_unanswered (Some given) again still = absurd cc

pub ends_answered : (o : Option Answer) (again : Bool) → turned_at o again ≡ turned.Ends → is_some o ≡ true
ends_answered None true ends = absurd cc
ends_answered None false ends = absurd cc
ends_answered (Some given) again ends = refl

ended_stays : (g : GeometryData) (d : TransitionData) (old : ℕ) (o : Option Answer) → is_some o ≡ true → unended g d old o ≡ d
ended_stays g d old None some = absurd cc
ended_stays g d old (Some given) some = refl

-- where its turn ended it, it still has its answer
pub keeps_answer : (g : GeometryData) (d e : TransitionData) (old : ℕ) → e ≡ after_by g d old → turned_by d old ≡ turned.Ends → answer_by e.stage ≡ answer_by d.stage
keeps_answer g d e old after ends =
    ap (λ (x : TransitionData). answer_by x.stage) (after ∙ ended_stays g d old (answer_by d.stage) (ends_answered _ _ ends))

both_true : (a b : Bool) → (a && b) ≡ true → (a ≡ true) × (b ≡ true)
both_true true b both = (refl, both)
both_true false b both = absurd cc

waits_again : (g : GeometryData) (d : TransitionData) (old : ℕ) (o : Option Answer) → o ≡ None → (d.waited && is_held_by d.places d.stage old) ≡ true
    → (d.waited ≡ true) × ((unended g d old o).waited ≡ true)
waits_again g d old None none both =
    let split = both_true d.waited (is_held_by d.places d.stage old) both in
    (split.0, rw split.1 refl)
waits_again g d old (Some given) none both = absurd cc

still_next : (next : Option Act) (before after : Bool) → before ≡ true → after ≡ true → IsStill next before after
still_next None before after b a = tt
still_next (Some t) before after b a = (b, a)

-- where it waits again, the agent does
pub is_still : (g : GeometryData) (d e : TransitionData) (old : ℕ) (next : Option Act) → e ≡ after_by g d old → turned_by d old ≡ turned.Still → IsStill next d.waited e.waited
is_still g d e old next after still =
    let both = still_unanswered _ _ still in
    let waits = waits_again g d old (answer_by d.stage) both.0 both.1 in
    still_next next d.waited e.waited waits.0 (ap (λ (x : TransitionData). x.waited) after ∙ waits.1)

-- what the agent's next act may be made on, and answer, the transition's may
pub may_turn : (a : AgentData) (b : AgentData) (d : TransitionData) (words : List ℕ) → a ≡ b → next_by a.geometry d ≡ next_of a → a.stage ≡ d.stage
    → MayBeMade (next_of b) words → IsReadable b.stage (old_by (next_of b) words)
    → MayBeMade (next_by a.geometry d) words × IsReadable d.stage (old_by (next_by a.geometry d) words)
may_turn a b d words is next at place readable =
    let same = next ∙ ap next_of is in (
      subst (λ (o : Option Act). MayBeMade o words) (sym same) place,
      subst (λ (o : Option Act). IsReadable d.stage (old_by o words)) (sym same)
          (subst (λ (s : Stage). IsReadable s (old_by (next_of b) words)) (ap (λ (x : AgentData). x.stage) (sym is) ∙ at) readable),
    )

-- it is one by its transition
at_stage : (g : GeometryData) (o : Option Task) (e : TransitionData) → IsUnderWay g o (Some e) → IsStage g e.stage o
at_stage g None e is = absurd is
at_stage g (Some t) e is = subst (λ (x : Task). IsStage g e.stage (Some x)) is.0 is.1.stage

pub by_transition : (g : GeometryData) (tasks : List Task) (answers : List Answer) (u : Option TransitionData) (e : TransitionData)
    → IsAgent (agent_of g tasks answers u) → IsUnderWay g (slice_get tasks (length answers)) (Some e) → IsAgent (agent_of g tasks answers (Some e))
by_transition g tasks answers u e is under_way = record {
  geometry = is.geometry;
  no_looks = is.no_looks;
  answered = is.answered;
  acts = is.acts;
  stage = at_stage g _ e under_way;
}

-- the agent's turn, and the words after it
pub turned_words : (a b : AgentData) (d : TransitionData) (before after : List ℕ) → a ≡ b → next_by a.geometry d ≡ next_of a → after ≡ words_after (next_by a.geometry d) before
    → after ≡ words_after (next_of b) before
turned_words a b d before after is next made = made ∙ ap (λ (o : Option Act). words_after o before) (next ∙ ap next_of is)

pub turned_agent : (a b x : AgentData) (d : TransitionData) (words : List ℕ) → a ≡ b → next_by a.geometry d ≡ next_of a → x ≡ took_of a (old_by (next_by a.geometry d) words)
    → x ≡ took_of b (old_by (next_of b) words)
turned_agent a b x d words is next took =
    took ∙ ap (λ (o : Option Act). took_of a (old_by o words)) next ∙ ap (λ (y : AgentData). took_of y (old_by (next_of y) words)) is

-- after one more turn
pub turned_more : (n : ℕ) (a b : AgentData) (words later : List ℕ) (s : AgentData × List ℕ) → ◌≡◌ {A = AgentData × List ℕ} (a, words) (turns.turned n s) → b ≡ took_of a (old_by (next_of a) words)
    → later ≡ words_after (next_of a) words → ◌≡◌ {A = AgentData × List ℕ} (b, later) (turns.turned (n + 1) s)
turned_more n a b words later s so after made =
    let once : ◌≡◌ {A = AgentData × List ℕ} (b, later) (turned_once (a, words)) = λ i. (after i, made i) in
    once ∙ ap turned_once so ∙ ap (λ (j : ℕ). turns.turned j s) (let e : suc n ≡ n + 1 = omega arith in e)
