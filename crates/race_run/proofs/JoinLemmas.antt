-- Passes that come, are joined and leave keep the rule: of two beginnings of one history the longer has the entries of both.
use Rattle.std.proofs.Common.{◌≡◌, ◌≢◌, ◌⊎◌, ℕ, zero, suc, ◌+◌, List, [], ◌∷◌, ◌++◌, length, length-append, append-nil, set, Some, refl, sym, ap, ◌∙◌, subst, inl, inr, arith}
use Rattle.std.specs.Prelude.{slice_get, ◌==◌}
use Rattle.std.proofs.lemmas.List.Elements.{All-append, All-cons, All-nil, filter-append}
use mathlib.Core.Option.{some}
use lib.ListN.{get_elem?}
use Rattle.atomic_table.specs.Table.{Enters, Joins, Splits}
use Rattle.atomic_table.proofs.Lists.{at_set, set_again}
use Rattle.history.specs.declared.entry.Entry.{Entry}
use Rattle.history.specs.Entries.{caller_in}
use Rattle.history.specs.Calls.{entries_by}
use Rattle.core_machine.specs.declared.caller.Caller.{Caller}
use Rattle.core_machine.specs.InnerCallers.{own_of}
use Rattle.race_run.specs.declared.view.Opening.{Opening}
use Rattle.race_run.specs.declared.view.View.{View}
use Rattle.race_run.specs.InnerRule.{Begins, Entered, HeldOnce, IsRunning, IsSpent, KnowsOf, joined, longer, nobody, spent, whole, with_held}
use Rattle.race_run.proofs.SplitLemmas.{FitsIn, Held, last_or}
use Rattle.race_run.proofs.StepLemmas.{knows_so}
use Rattle.race_run.proofs.ViewLemmas.{once_before}

-- ---- two beginnings of one history

pub longer_is : (h a b : List Entry) → Begins h a → Begins h b → Begins h (longer a b) × Begins (longer a b) a × Begins (longer a b) b
longer_is h [] b x y = (y, (b, refl), ([], sym (append-nil b)))
longer_is h (e ∷ a) [] x y = (x, ([], sym (append-nil (e ∷ a))), (e ∷ a, refl))
longer_is [] (e ∷ a) (f ∷ b) x y = absurd (let both : [] ≡ e ∷ (a ++ x.0) = x.1 in cc)
longer_is (g ∷ h) (e ∷ a) (f ∷ b) x y =
    let first : g ∷ h ≡ e ∷ (a ++ x.0) = x.1 in
    let second : g ∷ h ≡ f ∷ (b ++ y.0) = y.1 in
    let rest = longer_is h a b (x.0, (let both : g ∷ h ≡ e ∷ (a ++ x.0) = first in cc)) (y.0, (let both : g ∷ h ≡ f ∷ (b ++ y.0) = second in cc)) in
    let one : g ≡ e = (let both : g ∷ h ≡ e ∷ (a ++ x.0) = first in cc) in
    let two : g ≡ f = (let both : g ∷ h ≡ f ∷ (b ++ y.0) = second in cc) in (
      (rest.0.0, (λ i. one i ∷ rest.0.1 i)),
      (rest.1.0, ap (λ (l : List Entry). e ∷ l) rest.1.1),
      (rest.2.0, (λ i. (sym one ∙ two) i ∷ rest.2.1 i)),
    )

pub none_there : {X : Type 0} (xs : List X) → length xs ≡ 0 → xs ≡ []
none_there [] none = refl
none_there (x ∷ xs) none = absurd (omega (arith, none))

-- what has all own entries of a caller, whose history goes on with none
pub still_own : (c : ℕ) (h a l own : List Entry) → Begins l a → Begins h l → entries_by c a ≡ own → entries_by c h ≡ own → entries_by c l ≡ own
still_own c h a l own first then seen all =
    let left : entries_by c l ≡ entries_by c a ++ entries_by c first.0 = ap (entries_by c) first.1 ∙ filter-append (λ e. caller_in e == c) a first.0 in
    let whole : entries_by c h ≡ entries_by c l ++ entries_by c then.0 = ap (entries_by c) then.1 ∙ filter-append (λ e. caller_in e == c) l then.0 in
    let less : length (entries_by c l) ≡ length (entries_by c a) + length (entries_by c first.0) = ap (λ (es : List Entry). length es) left ∙ length-append (entries_by c a) (entries_by c first.0) in
    let more : length (entries_by c h) ≡ length (entries_by c l) + length (entries_by c then.0) = ap (λ (es : List Entry). length es) whole ∙ length-append (entries_by c l) (entries_by c then.0) in
    let same : length (entries_by c h) ≡ length (entries_by c a) = ap (λ (es : List Entry). length es) (all ∙ sym seen) in
    let none : entries_by c first.0 ≡ [] = none_there (entries_by c first.0) (omega (arith, less, more, same)) in
    left ∙ ap (λ (es : List Entry). entries_by c a ++ es) none ∙ append-nil (entries_by c a) ∙ seen

-- ---- the rule with other views

pub with_views : (o : Opening) (words : List ℕ) (views others : List View) (rule : IsRunning o words views)
    → ((id : ℕ) (v : View) → get_elem? others id ≡ some v → FitsIn o rule.callers rule.history v) → HeldOnce others → IsRunning o words others
with_views o words views others rule fits once =
    record { callers = rule.callers; history = rule.history; starting = rule.starting; holds = rule.holds; made = rule.made; given = rule.given; fits = fits; once = once }

-- ---- joining

either_part : (xs ys : List Held) (p : ℕ) (a : Held) → slice_get (xs ++ ys) p ≡ Some a → (slice_get xs p ≡ Some a) ⊎ ((q : ℕ) × (p ≡ length xs + q) × (slice_get ys q ≡ Some a))
either_part [] ys p a at = inr (p, (let none : p ≡ 0 + p = omega arith in none), at)
either_part (x ∷ xs) ys zero a at = inl at
either_part (x ∷ xs) ys (suc p) a at =
    elim (either_part xs ys p a at) [
      | inl there ↦ inl there
      | inr there ↦ inr (there.0, omega (arith, there.1), there.2)
    ]

joined_knows : (o : Opening) (callers : List Caller) (h : List Entry) (v w : View) → ((c : ℕ) (x : Caller) → slice_get callers c ≡ Some x → entries_by c h ≡ own_of c x) → KnowsOf o callers h v → KnowsOf o callers h w
    → KnowsOf o callers h (joined v w)
joined_knows o callers h v w own left right =
    let long = longer_is h v.seen w.seen left.seen right.seen in
    record {
      opening = left.opening;
      seen = long.0;
      others_seen = All-append (Begins h) v.others_seen (w.seen ∷ w.others_seen) left.others_seen (All-cons (Begins h) w.seen w.others_seen right.seen right.others_seen);
      held = λ p a at.
          elim (either_part v.held w.held p a at) [
            | inl there ↦
                (let is = left.held p a there in (is.0, still_own a.0 h v.seen (longer v.seen w.seen) (own_of a.0 a.1) long.1 long.0 is.1 (own a.0 a.1 is.0)))
            | inr there ↦
                (let is = right.held there.0 a there.2 in (is.0, still_own a.0 h w.seen (longer v.seen w.seen) (own_of a.0 a.1) long.2 long.0 is.1 (own a.0 a.1 is.0)))
          ];
    }

-- where a caller of the joined views was held before
data Was (views : List View) (id other : ℕ) (v w : View) (j p : ℕ) (a : Held) : Type 0 where
  mine : j ≡ id → slice_get v.held p ≡ Some a → Was views id other v w j p a
  theirs : j ≡ id → (q : ℕ) → p ≡ length v.held + q → slice_get w.held q ≡ Some a → Was views id other v w j p a
  else : j ≢ id → j ≢ other → (u : View) → get_elem? views j ≡ some u → slice_get u.held p ≡ Some a → Was views id other v w j p a

abbrev after_join : List View → ℕ → ℕ → View → View → List View
after_join views id other v w = set (set views id (joined v w)) other spent

was_held : (views : List View) (id other j p : ℕ) (v w u : View) (a : Held) → get_elem? (after_join views id other v w) j ≡ some u → slice_get u.held p ≡ Some a → Was views id other v w j p a
was_held views id other j p v w u a there at =
    elim (at_set (set views id (joined v w)) other j spent u there) [
      | inl last ↦ absurd (let gone : slice_get spent.held p ≡ Some a = subst (λ (t : View). slice_get t.held p ≡ Some a) (sym last.1) at in cc)
      | inr first ↦ elim (at_set views id j (joined v w) u first.1) [
        | inl here ↦ elim (either_part v.held w.held p a (subst (λ (t : View). slice_get t.held p ≡ Some a) (sym here.1) at)) [
          | inl own ↦ mine here.0 own
          | inr new ↦ theirs here.0 new.0 new.1 new.2
        ]
        | inr far ↦ else far.0 first.0 u far.1 at
      ]
    ]

module _ (views : List View) (id other : ℕ) (v w : View) (at : get_elem? views id ≡ some v) (there : get_elem? views other ≡ some w) (apart : other ≢ id) (once : HeldOnce views) where
  one_place : (i j p q c : ℕ) (x y : Caller) → Was views id other v w i p (c, x) → Was views id other v w j q (c, y) → (i ≡ j) × (p ≡ q)
  one_place i j p q c x y (mine a s) (mine b t) = (a ∙ sym b, (once id id p q c v v x y at at s t).1)
  one_place i j p q c x y (mine a s) (theirs b n e t) = absurd (apart (sym (once id other p n c v w x y at there s t).0))
  one_place i j p q c x y (mine a s) (else b d u h t) = absurd (b (sym (once id j p q c v u x y at h s t).0))
  one_place i j p q c x y (theirs a m e s) (mine b t) = absurd (apart (once other id m q c w v x y there at s t).0)
  one_place i j p q c x y (theirs a m e s) (theirs b n f t) = let same = once other other m n c w w x y there there s t in (a ∙ sym b, omega (arith, e, f, same.1))
  one_place i j p q c x y (theirs a m e s) (else b d u h t) = absurd (d (sym (once other j m q c w u x y there h s t).0))
  one_place i j p q c x y (else a k r g s) (mine b t) = absurd (a (once i id p q c r v x y g at s t).0)
  one_place i j p q c x y (else a k r g s) (theirs b n f t) = absurd (k (once i other p n c r w x y g there s t).0)
  one_place i j p q c x y (else a k r g s) (else b d u h t) = once i j p q c r u x y g h s t

pub join_keeps : (o : Opening) (id other : ℕ) (v w : View) → v.opening ≡ Some o → w.opening ≡ Some o → Joins {S = ℕ} (λ s. IsRunning o s.words s.views) id v other w (joined v w) spent
join_keeps o id other v w opens also s rule at apart there =
    let before : get_elem? s.views other ≡ some w =
    elim (at_set s.views id other (joined v w) w there) [
      | inl same ↦ absurd (apart same.0)
      | inr far ↦ far.1
    ] in
    let own = (rule.holds rule.starting.0 rule.starting.1).history.own in
    let left = knows_so o rule.callers rule.history v opens (rule.fits id v at) in
    let right = knows_so o rule.callers rule.history w also (rule.fits other w before) in
    with_views o s.words s.views (after_join s.views id other v w) rule
    (λ j u is.
    elim (at_set (set s.views id (joined v w)) other j spent u is) [
      | inl last ↦ inl (subst IsSpent last.1 (refl, refl))
      | inr first ↦ elim (at_set s.views id j (joined v w) u first.1) [
        | inl here ↦ inr (subst (KnowsOf o rule.callers rule.history) here.1 (joined_knows o rule.callers rule.history v w own left right))
        | inr far ↦ rule.fits j u far.1
      ]
    ])
    (λ i j p q c u t x y first second a b.
    one_place s.views id other v w at before apart rule.once i j p q c x y (was_held s.views id other i p v w u (c, x) first a) (was_held s.views id other j q v w t (c, y) second b))

-- ---- coming

knows_all : (o : Opening) (callers : List Caller) (h : List Entry) → KnowsOf o callers h (nobody o h)
knows_all o callers h = record { opening = refl; seen = ([], sym (append-nil h)); others_seen = All-nil (Begins h); held = λ p a at. absurd cc }

-- a view without callers beside the others
beside_nobody : (views : List View) (w : View) → w.held ≡ [] → HeldOnce views → HeldOnce (views ++ w ∷ [])
beside_nobody views w none once =
    once_before views (views ++ w ∷ []) (λ i p d u y there holds.
    elim (last_or views w u i there) [
      | inl before ↦ (u, y, before, holds)
      | inr last ↦
          absurd (let gone : slice_get [] p ≡ Some (d, y) = subst (λ (held : List Held). slice_get held p ≡ Some (d, y)) none (subst (λ (t : View). slice_get t.held p ≡ Some (d, y)) (sym last.1) holds) in cc)
    ]) once

pub enters : (o : Opening) (slots i : ℕ) → Enters {S = ℕ} (λ s. IsRunning o s.words s.views) slots i (λ n w. Entered (whole o, []) (w, []))
enters o slots i s rule many low =
    let w = nobody o rule.history in (
      w,
      with_views o s.words s.views (s.views ++ w ∷ []) rule
          (λ j u there.
          elim (last_or s.views w u j there) [
            | inl before ↦ rule.fits j u before
            | inr last ↦ inr (subst (KnowsOf o rule.callers rule.history) last.1 (knows_all o rule.callers rule.history))
          ])
          (beside_nobody s.views w refl rule.once),
      λ p opens. (rule.history, ap (λ (q : Opening). (nobody q rule.history, [])) (let both : Some o ≡ Some p = opens in cc)),
    )

-- ---- leaving

knows_alone : (o : Opening) (callers : List Caller) (h : List Entry) (v : View) → FitsIn o callers h v → FitsIn o callers h (with_held v [])
knows_alone o callers h v (inl gone) = inl (gone.0, refl)
knows_alone o callers h v (inr knows) = inr (record { opening = knows.opening; seen = knows.seen; others_seen = knows.others_seen; held = λ p a at. absurd cc })

pub leaves : (o : Opening) (id : ℕ) (v : View) → Splits {S = ℕ} (λ s. IsRunning o s.words s.views) id v v (with_held v [])
leaves o id v s rule at =
    let same : set s.views id v ≡ s.views = set_again s.views id v at in
    subst (λ (views : List View). IsRunning o s.words (views ++ with_held v [] ∷ [])) (sym same)
    (with_views o s.words s.views (s.views ++ with_held v [] ∷ []) rule
    (λ j u there.
    elim (last_or s.views (with_held v []) u j there) [
      | inl before ↦ rule.fits j u before
      | inr last ↦ subst (FitsIn o rule.callers rule.history) last.1 (knows_alone o rule.callers rule.history v (rule.fits id v at))
    ])
    (beside_nobody s.views (with_held v []) refl rule.once))
