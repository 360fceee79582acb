-- Dealing passes: a view cut in two keeps the rule, and each caller comes to a pass of its own.
use Rattle.std.proofs.Common.{◌≡◌, ◌≢◌, ◌⊎◌, ℕ, zero, suc, List, [], ◌∷◌, ◌++◌, length, take, drop, set, Some, refl, sym, ap, ◌∙◌, subst, inl, inr, arith}
use Rattle.std.specs.Prelude.{slice_get}
use mathlib.Core.Option.{some, some-injective, some-ne-none}
use lib.ListN.{get_elem?}
use Rattle.atomic_table.specs.Table.{Splits}
use Rattle.atomic_table.proofs.Lists.{at_set}
use Rattle.history.specs.declared.entry.Entry.{Entry}
use Rattle.core_machine.specs.declared.caller.Caller.{Caller}
use Rattle.race_run.specs.declared.view.Opening.{Opening}
use Rattle.race_run.specs.declared.view.View.{View}
use Rattle.race_run.specs.InnerRule.{HeldOnce, IsRunning, IsSpent, KnowsOf, with_first, without_first}

abbrev pub Held : Type 0
Held = ℕ × Caller

-- ---- the callers of the two parts

rest_at : (held : List Held) (p : ℕ) (a : Held) → slice_get (drop 1 held) p ≡ Some a → slice_get held (suc p) ≡ Some a
rest_at [] p a at = absurd cc
rest_at (b ∷ held) p a at = at

first_at : (held : List Held) (p : ℕ) (a : Held) → slice_get (take 1 held) p ≡ Some a → (p ≡ 0) × (slice_get held 0 ≡ Some a)
first_at [] p a at = absurd cc
first_at (b ∷ held) zero a at = (refl, at)
first_at (b ∷ held) (suc p) a at = absurd cc

-- ---- the views after a cut

pub last_or : (views : List View) (w u : View) (j : ℕ) → get_elem? (views ++ w ∷ []) j ≡ some u → (get_elem? views j ≡ some u) ⊎ ((j ≡ length views) × (w ≡ u))
last_or [] w u zero at = inr (refl, some-injective w u at)
last_or [] w u (suc j) at = absurd (some-ne-none u (sym at))
last_or (v ∷ views) w u zero at = inl at
last_or (v ∷ views) w u (suc j) at =
    elim (last_or views w u j at) [
      | inl there ↦ inl there
      | inr last ↦ inr (ap suc last.0, last.1)
    ]

-- a view after the cut is the part that stays, another one, or the part that goes
data Part (views : List View) (id : ℕ) (v : View) (j : ℕ) (u : View) : Type 0 where
  stays : j ≡ id → without_first v ≡ u → Part views id v j u
  other : j ≢ id → get_elem? views j ≡ some u → Part views id v j u
  goes : j ≡ length (set views id (without_first v)) → with_first v ≡ u → Part views id v j u

part_of : (views : List View) (id : ℕ) (v u : View) (j : ℕ) → get_elem? (set views id (without_first v) ++ with_first v ∷ []) j ≡ some u → Part views id v j u
part_of views id v u j at =
    elim (last_or (set views id (without_first v)) (with_first v) u j at) [
      | inr last ↦ goes last.0 last.1
      | inl there ↦ elim (at_set views id j (without_first v) u there) [
        | inl same ↦ stays same.0 same.1
        | inr else ↦ other else.0 else.1
      ]
    ]

-- ---- what both parts know

knows_rest : (o : Opening) (callers : List Caller) (h : List Entry) (v : View) → KnowsOf o callers h v → KnowsOf o callers h (without_first v)
knows_rest o callers h v knows =
    record { opening = knows.opening; seen = knows.seen; others_seen = knows.others_seen; held = λ p a at. knows.held (suc p) a (rest_at v.held p a at) }

knows_first : (o : Opening) (callers : List Caller) (h : List Entry) (v : View) → KnowsOf o callers h v → KnowsOf o callers h (with_first v)
knows_first o callers h v knows =
    record { opening = knows.opening; seen = knows.seen; others_seen = knows.others_seen; held = λ p a at. knows.held 0 a (first_at v.held p a at).1 }

abbrev pub FitsIn : Opening → List Caller → List Entry → View → Type 0
FitsIn o callers h v = IsSpent v ⊎ KnowsOf o callers h v

fits_rest : (o : Opening) (callers : List Caller) (h : List Entry) (v : View) → FitsIn o callers h v → FitsIn o callers h (without_first v)
fits_rest o callers h v (inl spent) = inl (spent.0, ap (drop 1) spent.1)
fits_rest o callers h v (inr knows) = inr (knows_rest o callers h v knows)

fits_first : (o : Opening) (callers : List Caller) (h : List Entry) (v : View) → FitsIn o callers h v → FitsIn o callers h (with_first v)
fits_first o callers h v (inl spent) = inl (spent.0, ap (take 1) spent.1)
fits_first o callers h v (inr knows) = inr (knows_first o callers h v knows)

fits_part : (o : Opening) (callers : List Caller) (h : List Entry) (views : List View) (id : ℕ) (v u : View) (j : ℕ) → get_elem? views id ≡ some v → ((i : ℕ) (w : View) → get_elem? views i ≡ some w → FitsIn o callers h w)
    → Part views id v j u → FitsIn o callers h u
fits_part o callers h views id v u j at fits (stays here same) = subst (FitsIn o callers h) same (fits_rest o callers h v (fits id v at))
fits_part o callers h views id v u j at fits (other apart there) = fits j u there
fits_part o callers h views id v u j at fits (goes here same) = subst (FitsIn o callers h) same (fits_first o callers h v (fits id v at))

-- ---- no caller is held twice

same_part : (views : List View) (id : ℕ) (v u t : View) (i j p q c : ℕ) (x y : Caller) → get_elem? views id ≡ some v → HeldOnce views → Part views id v i u → Part views id v j t
    → slice_get u.held p ≡ Some (c, x) → slice_get t.held q ≡ Some (c, y) → (i ≡ j) × (p ≡ q)
same_part views id v u t i j p q c x y at once (stays h1 s1) (stays h2 s2) a b =
    let same = once id id (suc p) (suc q) c v v x y at at (rest_at v.held p (c, x) (subst (λ (w : View). slice_get w.held p ≡ Some (c, x)) (sym s1) a)) (rest_at v.held q (c, y) (subst (λ (w : View). slice_get w.held q ≡ Some (c, y)) (sym s2) b)) in
    (h1 ∙ sym h2, omega (arith, same.1))
same_part views id v u t i j p q c x y at once (stays h1 s1) (other n2 t2) a b =
    absurd (n2 (sym (once id j (suc p) q c v t x y at t2 (rest_at v.held p (c, x) (subst (λ (w : View). slice_get w.held p ≡ Some (c, x)) (sym s1) a)) b).0))
same_part views id v u t i j p q c x y at once (stays h1 s1) (goes h2 s2) a b =
    let last = first_at v.held q (c, y) (subst (λ (w : View). slice_get w.held q ≡ Some (c, y)) (sym s2) b) in
    let same = once id id (suc p) 0 c v v x y at at (rest_at v.held p (c, x) (subst (λ (w : View). slice_get w.held p ≡ Some (c, x)) (sym s1) a)) last.1 in
    absurd (omega (arith, same.1))
same_part views id v u t i j p q c x y at once (other n1 t1) (stays h2 s2) a b =
    absurd (n1 (once i id p (suc q) c u v x y t1 at a (rest_at v.held q (c, y) (subst (λ (w : View). slice_get w.held q ≡ Some (c, y)) (sym s2) b))).0)
same_part views id v u t i j p q c x y at once (other n1 t1) (other n2 t2) a b = once i j p q c u t x y t1 t2 a b
same_part views id v u t i j p q c x y at once (other n1 t1) (goes h2 s2) a b =
    absurd (n1 (once i id p 0 c u v x y t1 at a (first_at v.held q (c, y) (subst (λ (w : View). slice_get w.held q ≡ Some (c, y)) (sym s2) b)).1).0)
same_part views id v u t i j p q c x y at once (goes h1 s1) (stays h2 s2) a b =
    let last = first_at v.held p (c, x) (subst (λ (w : View). slice_get w.held p ≡ Some (c, x)) (sym s1) a) in
    let same = once id id 0 (suc q) c v v x y at at last.1 (rest_at v.held q (c, y) (subst (λ (w : View). slice_get w.held q ≡ Some (c, y)) (sym s2) b)) in
    absurd (omega (arith, same.1))
same_part views id v u t i j p q c x y at once (goes h1 s1) (other n2 t2) a b =
    absurd (n2 (sym (once id j 0 q c v t x y at t2 (first_at v.held p (c, x) (subst (λ (w : View). slice_get w.held p ≡ Some (c, x)) (sym s1) a)).1 b).0))
same_part views id v u t i j p q c x y at once (goes h1 s1) (goes h2 s2) a b =
    let first = first_at v.held p (c, x) (subst (λ (w : View). slice_get w.held p ≡ Some (c, x)) (sym s1) a) in
    let last = first_at v.held q (c, y) (subst (λ (w : View). slice_get w.held q ≡ Some (c, y)) (sym s2) b) in
    (h1 ∙ sym h2, first.0 ∙ sym last.0)

-- ---- the cut

pub cut_keeps : (o : Opening) (id : ℕ) (v : View) → Splits {S = ℕ} (λ s. IsRunning o s.words s.views) id v (without_first v) (with_first v)
cut_keeps o id v s rule at =
    record {
      callers = rule.callers;
      history = rule.history;
      starting = rule.starting;
      holds = rule.holds;
      made = rule.made;
      given = rule.given;
      fits = λ j u there. fits_part o rule.callers rule.history s.views id v u j at rule.fits (part_of s.views id v u j there);
      once = λ i j p q c u t x y first second a b. same_part s.views id v u t i j p q c x y at rule.once (part_of s.views id v u i first) (part_of s.views id v t j second) a b;
    }
