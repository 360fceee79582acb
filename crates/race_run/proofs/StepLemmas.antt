-- One act of a caller, as a step of its pass, keeps the rule of the shared words: one use of the law of the core.
use Rattle.std.proofs.Common.{◌≡◌, ◌≢◌, ◌⊎◌, ℕ, ◌<◌, List, [], ◌∷◌, ◌++◌, map, length, set, Option, Some, None, append-nil, refl, sym, ap, ◌∙◌, subst, inl, inr}
use Rattle.std.specs.Prelude.{slice_get, slice_index}
use Rattle.std.specs.Option.{option_map}
use Rattle.std.proofs.lemmas.Option.{slice_get-map}
use Rattle.std.proofs.lemmas.List.{map-set}
use Rattle.std.proofs.lemmas.List.Elements.{All-weaker}
use mathlib.Core.Option.{some}
use lib.ListN.{get_elem?}
use Rattle.atomic_table.specs.Table.{Me, Allows, keeps}
use Rattle.atomic_table.proofs.Lists.{at_set}
use Rattle.gpi_values.specs.declared.gpi.Gpi.{Gpi}
use Rattle.shared_words.specs.declared.act.Act.{Act}
use Rattle.shared_words.specs.Acts.{place_in, written, said, after_act, answer_of}
use Rattle.history.specs.declared.call.Task.{Task}
use Rattle.history.specs.declared.entry.Entry.{Entry}
use Rattle.history.specs.Calls.{entries_by}
use Rattle.core_machine.specs.declared.caller.Caller.{Caller}
use Rattle.core_machine.specs.Facts.{FitsHistory}
use Rattle.core_machine.specs.InnerCallers.{MayTake, caller_answers, caller_next, caller_tasks, caller_took, made_by, own_of}
use Rattle.core_machine.specs.InnerInvariant.{HoldsIn}
use Rattle.core_machine.specs.InnerScene.{Scene}
use Rattle.core_machine.specs.InnerOpening.{AreStarting}
use Rattle.core_machine.specs.InnerFits.{AreMade, IsWalked}
use Rattle.core_machine.proofs.LawLemmas.{acts_have_places, one_act}
use Rattle.core_machine.proofs.NumberLemmas.{took_number, took_tasks}
use Rattle.core_machine.proofs.MomentLemmas.{acts_go_on, scenes_fit}
use Rattle.core_machine.proofs.ListLemmas.{each_set, get_set_here}
use Rattle.race_run.specs.declared.view.Opening.{Opening}
use Rattle.race_run.specs.declared.view.View.{View}
use Rattle.race_run.specs.Turns.{HasActed, IsMoment}
use Rattle.race_run.specs.InnerRule.{Acted, Begins, IsHeld, IsReady, IsRunning, IsSpent, KnowsOf, role_of}
use Rattle.race_run.proofs.RoleLemmas.{cause_given, map_kept}
use Rattle.race_run.proofs.ViewLemmas.{alone_held, begins_longer, knows_still, once_after}

-- a pass that has an opening isn't spent
pub knows_so : (o : Opening) (callers : List Caller) (h : List Entry) (v : View) → v.opening ≡ Some o → IsSpent v ⊎ KnowsOf o callers h v → KnowsOf o callers h v
knows_so o callers h v is (inl spent) = absurd (let both : Some o ≡ None = sym is ∙ spent.0 in cc)
knows_so o callers h v is (inr knows) = knows

tasks_of_roles : (callers : List Caller) → map (λ (r : List Task × Option ℕ). r.0) (map role_of callers) ≡ map caller_tasks callers
tasks_of_roles [] = refl
tasks_of_roles (x ∷ callers) = ap (λ (l : List (List Task)). caller_tasks x ∷ l) (tasks_of_roles callers)

pub same_tasks : (callers given : List Caller) → map role_of callers ≡ map role_of given → map caller_tasks callers ≡ map caller_tasks given
same_tasks callers given same = sym (tasks_of_roles callers) ∙ ap (map (λ (r : List Task × Option ℕ). r.0)) same ∙ tasks_of_roles given

took_role : (x : Caller) (old : ℕ) → role_of (caller_took x old) ≡ role_of x
took_role x old = λ i. (took_tasks x old i, took_number x old i)

-- ---- what one pass makes of the rule

-- the pass with this view, of the one caller c, which is x and whose next act is t
pub record Acting (o : Opening) (words : List ℕ) (views : List View) (id c : ℕ) (x : Caller) (t : Act) (v : View) : Type 0 where
  pub rule : IsRunning o words views
  pub at : get_elem? views id ≡ some v
  pub opening : v.opening ≡ Some o
  pub held : v.held ≡ (c, x) ∷ []
  pub next : caller_next x ≡ Some t

module _ (o : Opening) (words : List ℕ) (views : List View) (id c : ℕ) (x : Caller) (t : Act) (v : View) (acting : Acting o words views id c x t v) where
  abbrev old : ℕ
  old = answer_of t words

  abbrev made : List Entry
  made = made_by c x old

  abbrev callers : List Caller
  callers = acting.rule.callers

  abbrev history : List Entry
  history = acting.rule.history

  abbrev scene : List Gpi → Scene
  scene first = record { first = first; words = words; callers = callers; history = history }

  -- the callers, the words and the history after the act
  abbrev new_callers : List Caller
  new_callers = set callers c (caller_took x old)

  abbrev new_scene : List Gpi → Scene
  new_scene first = record { first = first; words = after_act t words; callers = new_callers; history = history ++ made }

  pub knows : KnowsOf o callers history v
  knows = knows_so o callers history v acting.opening (acting.rule.fits id v acting.at)

  mine : IsHeld callers v.seen (c, x)
  mine = knows.held 0 (c, x) (ap (λ (l : List (ℕ × Caller)). slice_get l 0) acting.held)

  acted : (first : List Gpi) → AreStarting o.geometry first o.words → (place_in t < length words) × MayTake x old × HoldsIn o.geometry (new_scene first)
  acted first starting = one_act o.geometry (scene first) c x t (acting.rule.holds first starting) mine.0 acting.next

  may : MayTake x old
  may = (acted acting.rule.starting.0 acting.rule.starting.1).1

  still_made : AreMade o.geometry new_callers
  still_made = each_set (IsWalked o.geometry) callers c (caller_took x old) (acts_go_on o.geometry c x t old (acting.rule.made c x mine.0) acting.next may) (λ d y other there. acting.rule.made d y there)

  still_given : map role_of new_callers ≡ map role_of o.callers
  still_given = map_kept role_of callers c x (caller_took x old) mine.0 (took_role x old) ∙ acting.rule.given

  abbrev pub after : View
  after = record { opening = v.opening; seen = (v.seen ++ knows.seen.0) ++ made; others_seen = v.others_seen; held = (c, caller_took x old) ∷ [] }

  -- it has seen all
  sees_all : after.seen ≡ history ++ made
  sees_all = ap (λ (es : List Entry). es ++ made) (sym knows.seen.1)

  own_entries : entries_by c after.seen ≡ own_of c (caller_took x old)
  own_entries =
      ap (entries_by c) sees_all
      ∙ (acted acting.rule.starting.0 acting.rule.starting.1).2.history.own c (caller_took x old) (get_set_here callers c x (caller_took x old) mine.0)

  -- what the act finds
  found_seen : v.seen ++ knows.seen.0 ≡ history
  found_seen = sym knows.seen.1

  abbrev found : IsMoment o c x (v.seen ++ knows.seen.0)
  found = record {
    answers = map caller_answers callers;
    words = words;
    starting = acting.rule.starting;
    tasks = ap (λ (tasks : List (List Task)). slice_get tasks c) (sym (same_tasks callers o.callers acting.rule.given)) ∙ slice_get-map caller_tasks callers c ∙ ap (λ (b : Option Caller). option_map caller_tasks b) mine.0;
    own = slice_get-map caller_answers callers c ∙ ap (λ (b : Option Caller). option_map caller_answers b) mine.0;
    entries = ap (entries_by c) found_seen ∙ (acting.rule.holds acting.rule.starting.0 acting.rule.starting.1).history.own c x mine.0;
    fits = λ first starting.
        subst (λ (h : List Entry). FitsHistory o.geometry first (map caller_tasks o.callers) (map caller_answers callers) words h) (sym found_seen)
        (subst (λ (tasks : List (List Task)). FitsHistory o.geometry first tasks (map caller_answers callers) words history) (same_tasks callers o.callers acting.rule.given)
        (scenes_fit o.geometry (scene first) (acting.rule.holds first starting) acting.rule.made));
  }

  abbrev moment : IsMoment o c (caller_took x old) after.seen
  moment = record {
    answers = map caller_answers new_callers;
    words = after_act t words;
    starting = acting.rule.starting;
    tasks =
        ap (λ (tasks : List (List Task)). slice_get tasks c) (sym (same_tasks new_callers o.callers still_given)) ∙ slice_get-map caller_tasks new_callers c
        ∙ ap (λ (b : Option Caller). option_map caller_tasks b) (get_set_here callers c x (caller_took x old) mine.0);
    own = slice_get-map caller_answers new_callers c ∙ ap (λ (b : Option Caller). option_map caller_answers b) (get_set_here callers c x (caller_took x old) mine.0);
    entries = own_entries;
    fits = λ first starting.
        subst (λ (h : List Entry). FitsHistory o.geometry first (map caller_tasks o.callers) (map caller_answers new_callers) (after_act t words) h) (sym sees_all)
        (subst (λ (tasks : List (List Task)). FitsHistory o.geometry first tasks (map caller_answers new_callers) (after_act t words) (history ++ made)) (same_tasks new_callers o.callers still_given)
        (scenes_fit o.geometry (new_scene first) (acted first starting).2 still_made));
  }

  pub has_acted : HasActed o c x old v after
  has_acted = record {
    next = t;
    is_next = acting.next;
    between = knows.seen.0;
    view = refl;
    readable = may;
    found = found;
    moment = moment;
    answered = refl;
    wrote = refl;
    others = map-set caller_answers callers c (caller_took x old);
    waits = λ waits.
        cause_given o (scene acting.rule.starting.0) c x t (acting.rule.holds acting.rule.starting.0 acting.rule.starting.1) acting.rule.made acting.rule.given mine.0 acting.next waits;
  }

  knows_after : KnowsOf o new_callers (history ++ made) after
  knows_after = record {
    opening = acting.opening;
    seen = ([], sym sees_all ∙ sym (append-nil after.seen));
    others_seen = All-weaker (Begins history) (Begins (history ++ made)) (begins_longer history made) v.others_seen knows.others_seen;
    held = alone_held (IsHeld new_callers after.seen) (c, caller_took x old) (get_set_here callers c x (caller_took x old) mine.0, own_entries);
  }

  others_held : (j : ℕ) (u : View) → j ≢ id → get_elem? views j ≡ some u → (p : ℕ) (held : ℕ × Caller) → slice_get u.held p ≡ Some held → held.0 ≢ c
  others_held j u other there p held at same =
      other
      (acting.rule.once j id p 0 c u v held.1 x there acting.at (at ∙ ap (λ (n : ℕ). Some (n, held.1)) same) (ap (λ (l : List (ℕ × Caller)). slice_get l 0) acting.held)).0

  all_fit : (j : ℕ) (u : View) → get_elem? (set views id after) j ≡ some u → IsSpent u ⊎ KnowsOf o new_callers (history ++ made) u
  all_fit j u there =
      elim (at_set views id j after u there) [
        | inl same ↦ inr (subst (KnowsOf o new_callers (history ++ made)) same.1 knows_after)
        | inr other ↦ elim (acting.rule.fits j u other.1) [
          | inl spent ↦ inl spent
          | inr know ↦ inr (knows_still o callers history made c (caller_took x old) u know (others_held j u other.0 other.1))
        ]
      ]

  pub keeps_running : IsRunning o (after_act t words) (set views id after)
  keeps_running = record {
    callers = new_callers;
    history = history ++ made;
    starting = acting.rule.starting;
    holds = λ first starting. (acted first starting).2;
    made = still_made;
    given = still_given;
    fits = all_fit;
    once = once_after views id c x (caller_took x old) v after acting.at acting.held refl acting.rule.once;
  }

-- ---- what the table asks of a step

acted_so : (o p : Opening) (c d : ℕ) (x y : Caller) (t u : Act) (n : ℕ) (v w : View) → o ≡ p → ◌≡◌ {A = ℕ × Caller} (c, x) (d, y) → t ≡ u → HasActed o c x (said t n) v w → HasActed p d y (said u n) v w
acted_so o p c d x y t u n v w opening held act has =
    subst (λ (b : Act). HasActed p d y (said b n) v w) act
    (subst (λ (h : ℕ × Caller). HasActed p h.0 h.1 (said t n) v w) held
    (subst (λ (q : Opening). HasActed q c x (said t n) v w) opening has))

-- the one caller of a list
abbrev head_or : ℕ × Caller → List (ℕ × Caller) → ℕ × Caller
head_or a [] = a
head_or a (b ∷ held) = b

held_is : {a b : ℕ × Caller} → a ∷ [] ≡ b ∷ [] → a ≡ b
held_is {a} {b} same = ap (head_or a) same

-- the step makes the act of the one caller, and tells what it answers
pub step_allows : (o : Opening) (slots id c : ℕ) (x : Caller) (t : Act) (me : Me ℕ View) (f number : ℕ → ℕ) → ((n : ℕ) → f n ≡ written t n) → ((n : ℕ) → said t (number n) ≡ said t n)
    → me.0.opening ≡ Some o → me.0.held ≡ (c, x) ∷ [] → caller_next x ≡ Some t
    → Allows (λ s. IsRunning o s.words s.views) slots id me (place_in t) f (λ n. Acted me (number n))
step_allows o slots id c x t me f number writes says opening held next s rule many at low =
    let acting : Acting o s.words s.views id c x t me.0 = record { rule = rule; at = at; opening = opening; held = held; next = next } in
    let w = after o s.words s.views id c x t me.0 acting in (
      w,
      keeps,
      tt,
      subst (λ (n : ℕ). IsRunning o (set s.words (place_in t) n) (set s.views id w)) (sym (writes (slice_index s.words (place_in t)))) (keeps_running o s.words s.views id c x t me.0 acting),
      λ p d y u opens holds nexts. (
        acted_so o p c d x y t u (number (slice_index s.words (place_in t))) me.0 w
            (let both : Some o ≡ Some p = sym opening ∙ opens in cc)
            (held_is (sym held ∙ holds))
            (let both : Some t ≡ Some u = sym next ∙ ap (λ (h : ℕ × Caller). caller_next h.1) (held_is (sym held ∙ holds)) ∙ nexts in cc)
            (subst (λ (n : ℕ). HasActed o c x n me.0 w) (sym (says (slice_index s.words (place_in t)))) (has_acted o s.words s.views id c x t me.0 acting)),
        refl,
      ),
    )

-- a ready caller's next act is made on one of the words
pub ready_low : (words : ℕ) (o : Opening) (v : View) (c : ℕ) (x : Caller) (t : Act) → IsReady words o v c x t → place_in t < words
ready_low words o v c x t ready = subst (λ (n : ℕ). place_in t < n) (sym ready.size) (acts_have_places o.geometry x t ready.made ready.next)

pub ready_allows : (words slots id c : ℕ) (o : Opening) (x : Caller) (t : Act) (me : Me ℕ View) (f number : ℕ → ℕ) → IsReady words o me.0 c x t → ((n : ℕ) → f n ≡ written t n) → ((n : ℕ) → said t (number n) ≡ said t n)
    → Allows (λ s. IsRunning o s.words s.views) slots id me (place_in t) f (λ n. Acted me (number n))
ready_allows words slots id c o x t me f number ready writes says = step_allows o slots id c x t me f number writes says ready.opening ready.held ready.next

pub ready_acted : (words n c : ℕ) (o : Opening) (x : Caller) (t : Act) (me then : Me ℕ View) → Acted me n then → IsReady words o me.0 c x t → HasActed o c x (said t n) me.0 then.0 × (then.1 ≡ me.1)
ready_acted words n c o x t me then others_seen ready = others_seen o c x t ready.opening ready.held ready.next

pub ready_for : (words c : ℕ) (o : Opening) (v : View) (x : Caller) (t u : Act) → t ≡ u → IsReady words o v c x t → IsReady words o v c x u
ready_for words c o v x t u same ready = subst (IsReady words o v c x) same ready
