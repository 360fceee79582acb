-- The rule before the first act: callers that have made none fit the words, and one view has them all.
use Rattle.std.proofs.Common.{◌≡◌, ℕ, zero, suc, ◌+◌, List, [], ◌∷◌, length, map, Option, Some, refl, sym, ap, ◌∙◌, subst, inr, arith}
use Rattle.std.specs.Prelude.{slice_get}
use Rattle.std.specs.List.{All}
use Rattle.std.specs.Option.{option_map}
use Rattle.std.proofs.lemmas.List.Elements.{All-nil}
use Rattle.std.proofs.lemmas.Option.{slice_get-map}
use mathlib.Core.Option.{some, some-injective, some-ne-none}
use lib.ListN.{get_elem?}
use Rattle.gpi_values.specs.declared.gpi.Gpi.{Gpi}
use Rattle.gpt_descriptors.specs.Places.{GeometryData}
use Rattle.delegate_ops.specs.InnerAgents.{AgentData}
use Rattle.processor.specs.InnerCpus.{CpuData}
use Rattle.core_machine.specs.declared.caller.Caller.{Caller}
use Rattle.core_machine.specs.declared.caller.Caller.TheVariants as caller
use Rattle.core_machine.specs.InnerCallers.{IsCallerOf, IsFresh, caller_answers, caller_tasks}
use Rattle.core_machine.specs.InnerInvariant.{NumbersDiffer}
use Rattle.core_machine.specs.InnerOpening.{AreStarting}
use Rattle.core_machine.proofs.MomentLemmas.{fresh_are_made, scenes_begin, scenes_fit}
use Rattle.race_run.specs.declared.view.Opening.{Opening}
use Rattle.race_run.specs.declared.view.View.{View}
use Rattle.race_run.specs.Turns.{IsMoment}
use Rattle.race_run.specs.InnerRule.{Begins, HeldOnce, IsRunning, KnowsOf, numbered, whole}

-- ---- callers with their numbers

pub numbered_at : (n p : ℕ) (callers : List Caller) (a : ℕ × Caller) → slice_get (numbered n callers) p ≡ Some a → (a.0 ≡ n + p) × (slice_get callers p ≡ Some a.1)
numbered_at n p [] a at = absurd cc
numbered_at n zero (x ∷ callers) a at = let same : ◌≡◌ {A = ℕ × Caller} (n, x) a = cc in (sym (ap (λ (h : ℕ × Caller). h.0) same) ∙ (let none : n ≡ n + 0 = omega arith in none), ap (λ (h : ℕ × Caller). Some h.1) same)
numbered_at n (suc p) (x ∷ callers) a at = let rest = numbered_at (n + 1) p callers a at in (omega (arith, rest.0), rest.1)

pub numbered_count : (n : ℕ) (callers : List Caller) → length (numbered n callers) ≡ length callers
numbered_count n [] = refl
numbered_count n (x ∷ callers) = ap suc (numbered_count (n + 1) callers)

-- ---- fresh callers

pub fresh_is_of : (g : GeometryData) (x : Caller) → IsFresh g x → IsCallerOf g x
fresh_is_of g (caller.Agent a) is = (ap (λ (b : AgentData). b.geometry) is.0, is.1)
fresh_is_of g (caller.Cpu q) is = (ap (λ (r : CpuData). r.geometry) is.0, is.1)

-- ---- the rule

one_view : (v u : View) (i : ℕ) → get_elem? (v ∷ []) i ≡ some u → (i ≡ 0) × (v ≡ u)
one_view v u zero at = (refl, some-injective v u at)
one_view v u (suc i) at = absurd (some-ne-none u (sym at))

once_whole : (o : Opening) → HeldOnce (whole o ∷ [])
once_whole o i j p q c v w x y first second a b =
    let one = one_view (whole o) v i first in
    let two = one_view (whole o) w j second in
    let left = numbered_at 0 p o.callers (c, x) (subst (λ (u : View). slice_get u.held p ≡ Some (c, x)) (sym one.1) a) in
    let right = numbered_at 0 q o.callers (c, y) (subst (λ (u : View). slice_get u.held q ≡ Some (c, y)) (sym two.1) b) in
    (one.0 ∙ sym two.0, omega (arith, left.0, right.0))

pub opening_runs : (o : Opening) (words : List ℕ) → words ≡ o.words → ((first : List Gpi) × AreStarting o.geometry first o.words) → All (IsFresh o.geometry) o.callers → NumbersDiffer o.callers → IsRunning o words (whole o ∷ [])
opening_runs o words same starting is differ =
    subst (λ (ws : List ℕ). IsRunning o ws (whole o ∷ [])) (sym same)
    (record {
      callers = o.callers;
      history = [];
      starting = starting;
      holds = λ first starts. scenes_begin o.geometry first o.callers o.words is differ starts;
      made = fresh_are_made o.geometry o.callers is;
      given = refl;
      fits = λ id v at.
          inr
          (subst (KnowsOf o o.callers []) (one_view (whole o) v id at).1
          (record {
            opening = refl;
            seen = ([], refl);
            others_seen = All-nil (Begins []);
            held = λ p a there.
                let own = numbered_at 0 p o.callers a there in
                let number : a.0 ≡ p = omega (arith, own.0) in
                let mine : slice_get o.callers a.0 ≡ Some a.1 = ap (slice_get o.callers) number ∙ own.1 in
                (mine, (scenes_begin o.geometry starting.0 o.callers o.words is differ starting.1).history.own a.0 a.1 mine);
          }));
      once = once_whole o;
    })

-- ---- the first moment

pub opening_moment : (o : Opening) (c : ℕ) (x : Caller) → ((first : List Gpi) × AreStarting o.geometry first o.words) → All (IsFresh o.geometry) o.callers → NumbersDiffer o.callers → slice_get o.callers c ≡ Some x → IsMoment o c x []
opening_moment o c x starting is differ at =
    record {
      answers = map caller_answers o.callers;
      words = o.words;
      starting = starting;
      tasks = slice_get-map caller_tasks o.callers c ∙ ap (λ (b : Option Caller). option_map caller_tasks b) at;
      own = slice_get-map caller_answers o.callers c ∙ ap (λ (b : Option Caller). option_map caller_answers b) at;
      entries = (scenes_begin o.geometry starting.0 o.callers o.words is differ starting.1).history.own c x at;
      fits = λ first starts.
          scenes_fit o.geometry (record { first = first; words = o.words; callers = o.callers; history = [] })
          (scenes_begin o.geometry first o.callers o.words is differ starts)
          (fresh_are_made o.geometry o.callers is);
    }
