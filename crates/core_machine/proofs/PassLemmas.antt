-- The raises, the barrier and the cleans of a transition: what they do to decided accesses and to resident lines.
use Rattle.std.proofs.Common.{◌≡◌, ◌⊎◌, ℕ, ◌<◌, ◌≤◌, ◌++◌, ◌∷◌, [], List, Bool, true, false, not, ◌&&◌, Option, Some, None, refl, sym, ap, ◌∙◌, subst, arith, inl, inr, append-nil, if◌then◌else◌}
use Rattle.std.specs.Prelude.{slice_index, nat_lt}
use Rattle.std.proofs.lemmas.Bool.{cases_Bool, ltb-true, ltb-false}
use Rattle.core_machine.proofs.Names.{Gpi, Size, Generations, GeometryData, Duty, place_of, Act, after_act, Task, Change, Kept, Stage, address_of, granule_of_task, Caller, duty_by, HoldsIn, Scene, map_in, Entry}
use Rattle.core_machine.proofs.Names.gpi
use Rattle.core_machine.proofs.Names.task
use Rattle.core_machine.proofs.Names.stage
use Rattle.core_machine.proofs.Names.caller
use Rattle.gpi_values.specs.declared.gpi.Space.{Space}
use Rattle.gpi_values.specs.declared.security.Source.{Source}
use Rattle.gpi_values.specs.declared.security.Source.TheVariants as source
use Rattle.gpi_values.specs.Values.{own_of, permits_of}
use Rattle.gpi_values.specs.declared.gpi.Space.TheVariants as space
use Rattle.gpt_descriptors.specs.Sizes.{granule_number}
use Rattle.alias_clean.specs.Lines.{clean_of, has_line}
use Rattle.invalidate.specs.Barrier.{BarrierData, begun, one_passed}
use Rattle.fuse.specs.Merging.{FuseData}
use Rattle.delegate_ops.specs.declared.stage.Change.TheVariants as change
use Rattle.delegate_ops.specs.declared.stage.Line.{Line}
use Rattle.delegate_ops.specs.declared.stage.Line.TheVariants as line
use Rattle.delegate_ops.specs.Changing.{from_of, to_of, former_space, own_space, space_of_line, target_space}
use Rattle.delegate_ops.specs.InnerAgents.{IsChangeOf, IsCleaned, IsPrepared, cleaned_stage, last_stage, merging_stage, passed_stage, passing_stage}
use Rattle.delegate_ops.proofs.SpaceLemmas.{former_gpi}
use Rattle.processor.specs.InnerCpus as cpus
use Rattle.processor.specs.InnerProgress as progress
use Rattle.core_machine.specs.Lines.{seen_in}
use Rattle.core_machine.specs.InnerCpuCaller.{Decision, decided_under}
use Rattle.core_machine.specs.InnerAgentCaller.{unpassed_at, uncleaned_at}
use Rattle.core_machine.specs.InnerCallers.{decided_by}
use Rattle.core_machine.specs.InnerWalks.{In}
use Rattle.core_machine.proofs.WalkLemmas.{one_pair}
use Rattle.core_machine.proofs.MarkLemmas.{AgentMarks, NoneDecided}
use Rattle.core_machine.proofs.LineLemmas.{clean_lines, is_this, permitted_space, this_is, this_line}
use Rattle.core_machine.proofs.CallerLemmas.{made_at_place}
use Rattle.core_machine.proofs.StepLemmas.{number_low}

-- ---- who has decided nothing

-- a processor whose duty word is 0 is at the first stage of an access, or has none
off_stage : (s : progress.Stage) → cpus.duty_at s ≡ 0 → s ≡ progress.Starting
off_stage progress.Starting off = refl
off_stage s off = absurd cc

starting_none : (g : GeometryData) (o : Option Task) (u : Decision) → In u (decided_under g o progress.Starting) → ⊥
starting_none g None u has = has
starting_none g (Some (task.Look pa space)) u has = has
starting_none g (Some (task.Delegate pa source)) u has = has
starting_none g (Some (task.Undelegate pa source)) u has = has
starting_none g (Some task.Unknown) u has = has

off_none : (x : Caller) (u : Decision) → duty_by x ≡ 0 → In u (decided_by x) → ⊥
off_none (caller.Agent a) u off has = has
off_none (caller.Cpu q) u off has =
    starting_none q.geometry (cpus.task_of q) u (subst (λ (s : progress.Stage). In u (decided_under q.geometry (cpus.task_of q) s)) (off_stage q.stage off) has)

-- so is one that a barrier passes, and there is none beyond their number
pub passed_none : (g : GeometryData) (s : Scene) (p : ℕ) → HoldsIn g s → slice_index s.words (place_of g (Duty p)) ≡ 0 → NoneDecided s.callers p
passed_none g s p stands off d y u there number has = off_none y u (sym (stands.duties d p y there number) ∙ off) has

pub beyond_none : (g : GeometryData) (s : Scene) (p : ℕ) → HoldsIn g s → g.cpus ≤ p → NoneDecided s.callers p
beyond_none g s p stands high d y u there number has = let low = number_low g y p (made_at_place g s d y stands there) number in absurd (omega (arith, high, low))

-- ---- the lists of the stages that follow

merging_unpassed : (g : GeometryData) (p : ℕ) (o : Option Act) (f : FuseData) (k : Generations) (t : Task) → unpassed_at g p (merging_stage o f k) (Some t) ≡ []
merging_unpassed g p None f k t = refl
merging_unpassed g p (Some next) f k t = refl

pub merged_unpassed : (g : GeometryData) (p : ℕ) (o : Option Act) (f : FuseData) (k : Generations) (t : Task) → unpassed_at g p (merging_stage o f k) (Some t) ≡ []
merged_unpassed g p o f k t = merging_unpassed g p o f k t

pub merged_uncleaned : (g : GeometryData) (o : Option Act) (f : FuseData) (k : Generations) (t : Task) → uncleaned_at g (merging_stage o f k) (Some t) ≡ []
merged_uncleaned g None f k t = refl
merged_uncleaned g (Some next) f k t = refl

last_unpassed : (g : GeometryData) (p : ℕ) (t u : Task) (k : Kept) → unpassed_at g p (last_stage g t k) (Some u) ≡ []
last_unpassed g p t u k = merging_unpassed g p _ _ k.generations u

last_uncleaned : (g : GeometryData) (t u : Task) (k : Kept) → uncleaned_at g (last_stage g t k) (Some u) ≡ []
last_uncleaned g t u k = merged_uncleaned g _ _ k.generations u

-- after a barrier nothing is unpassed, and what the former GPI permits isn't cleaned, unless it is none
passed_unpassed : (g : GeometryData) (p : ℕ) (t : Task) (ch : Change) (k : Kept) → IsChangeOf t ch → unpassed_at g p (passed_stage g t ch k) (Some t) ≡ []
passed_unpassed g p (task.Undelegate pa source) change.Last k is = last_unpassed g p (task.Undelegate pa source) (task.Undelegate pa source) k
passed_unpassed g p (task.Undelegate pa source) change.First k is = refl
passed_unpassed g p (task.Delegate pa source) ch k is = refl
passed_unpassed g p task.Unknown ch k is = absurd is
passed_unpassed g p (task.Look pa space) ch k is = absurd is

passed_uncleaned : (g : GeometryData) (t : Task) (ch : Change) (k : Kept) → IsChangeOf t ch
    → (In {A = ℕ × Gpi} (granule_of_task g t, from_of t ch) (uncleaned_at g (passed_stage g t ch k) (Some t))) ⊎ ((sp : Space) → permits_of (from_of t ch) sp ≡ true → ⊥)
passed_uncleaned g (task.Undelegate pa source) change.Last k is = inr (λ sp permits. absurd cc)
passed_uncleaned g (task.Undelegate pa source) change.First k is = inl (inl refl)
passed_uncleaned g (task.Delegate pa source) ch k is = inl (inl refl)
passed_uncleaned g task.Unknown ch k is = absurd is
passed_uncleaned g (task.Look pa space) ch k is = absurd is

-- ---- a barrier

-- A transition at the barrier after this change, or at its last raise, has its pair unpassed for some processors, and
-- uncleaned. It goes on with the first `d.passed` passed, each of whom has decided nothing.
pub record Passes (g : GeometryData) (s : Scene) (t : Task) (st : Stage) (ch : Change) (d : BarrierData) : Type 0 where
  pub stands : HoldsIn g s
  pub change : IsChangeOf t ch
  pub cpus : d.cpus ≡ g.cpus
  pub unpassed : (p n : ℕ) (v : Gpi) → In {A = ℕ × Gpi} (n, v) (unpassed_at g p st (Some t)) → (granule_of_task g t ≡ n) × (from_of t ch ≡ v) × ((p < d.passed) → NoneDecided s.callers p)
  pub uncleaned : (n : ℕ) (v : Gpi) → In {A = ℕ × Gpi} (n, v) (uncleaned_at g st (Some t)) → (granule_of_task g t ≡ n) × (from_of t ch ≡ v)

pair_in : (n k : ℕ) (u v : Gpi) (xs : List (ℕ × Gpi)) → n ≡ k → u ≡ v → In {A = ℕ × Gpi} (n, u) xs → In {A = ℕ × Gpi} (k, v) xs
pair_in n k u v xs same alike has = subst (λ (w : Gpi). In {A = ℕ × Gpi} (k, w) xs) alike (subst (λ (m : ℕ). In {A = ℕ × Gpi} (m, u) xs) same has)

pair_here : (n k : ℕ) (u v : Gpi) → n ≡ k → u ≡ v → In {A = ℕ × Gpi} (k, v) ((n, u) ∷ [])
pair_here n k u v same alike = pair_in n k u v ((n, u) ∷ []) same alike (inl refl)

low_or_high : (p n : ℕ) → (p < n) ⊎ (n ≤ p)
low_or_high p n = elim (cases_Bool (nat_lt p n)) [ inl low ↦ inl (ltb-true _ _ low) | inr high ↦ inr (ltb-false _ _ high) ]

module _ {g : GeometryData} {s : Scene} {t : Task} {st : Stage} {ch : Change} {d : BarrierData} (is : Passes g s t st ch d) (after : List ℕ) (m : ℕ → Gpi) (h : List Entry)
    (map : (k : ℕ) → m k ≡ map_in s k) (seen : (k : ℕ) (sp : Space) → seen_in k sp h ≡ seen_in k sp s.history) (lines : (k : ℕ) (sp : Space) → has_line g after k sp ≡ has_line g s.words k sp) where
  passes_by : (k : Kept) (b : Bool) → nat_lt d.passed d.cpus ≡ b
      → AgentMarks g s (λ p. unpassed_at g p st (Some t)) (λ p. unpassed_at g p (if b then stage.Passing ch d k else passed_stage g t ch k) (Some t)) (uncleaned_at g st (Some t))
      (uncleaned_at g (if b then stage.Passing ch d k else passed_stage g t ch k) (Some t)) after m h
  passes_by k true more = record {
    changed = λ n. inl (map n, λ sp before. seen n sp ∙ before);
    passes = λ p n v has.
        let pair = is.unpassed p n v has in
        elim (cases_Bool (nat_lt p d.passed)) [
          | inl low ↦ inr (pair.2 (ltb-true _ _ low))
          | inr high ↦ inl (rw high (pair_here (granule_of_task g t) n (from_of t ch) v pair.0 pair.1))
        ];
    cleans = λ n v has. let pair = is.uncleaned n v has in inl (pair_here (granule_of_task g t) n (from_of t ch) v pair.0 pair.1);
    comes = λ n sp resident. sym (lines n sp) ∙ resident;
    stays = λ n sp resident permits. lines n sp ∙ resident;
    looks = λ n sp permits now. (ap (λ (v : Gpi). permits_of v sp) (sym (map n)) ∙ permits, sym (seen n sp) ∙ now);
  }
  passes_by k false over = record {
    changed = λ n. inl (map n, λ sp before. seen n sp ∙ before);
    passes = λ p n v has.
        let pair = is.unpassed p n v has in
        elim (low_or_high p d.passed) [
          | inl low ↦ inr (pair.2 low)
          | inr high ↦ inr (beyond_none g s p is.stands (omega (arith, ltb-false _ _ over, high, is.cpus)))
        ];
    cleans = λ n v has.
        let pair = is.uncleaned n v has in
        elim (passed_uncleaned g t ch k is.change) [
          | inl kept ↦ inl (pair_in (granule_of_task g t) n (from_of t ch) v (uncleaned_at g (passed_stage g t ch k) (Some t)) pair.0 pair.1 kept)
          | inr none ↦ inr (λ sp permits. absurd (none sp (subst (λ (w : Gpi). permits_of w sp ≡ true) (sym pair.1) permits)))
        ];
    comes = λ n sp resident. sym (lines n sp) ∙ resident;
    stays = λ n sp resident permits. lines n sp ∙ resident;
    looks = λ n sp permits now. (ap (λ (v : Gpi). permits_of v sp) (sym (map n)) ∙ permits, sym (seen n sp) ∙ now);
  }

  pub barrier_marks : (k : Kept) → AgentMarks g s (λ p. unpassed_at g p st (Some t)) (λ p. unpassed_at g p (passing_stage g t ch d k) (Some t)) (uncleaned_at g st (Some t)) (uncleaned_at g (passing_stage g t ch d k) (Some t)) after m h
  barrier_marks k = passes_by k (nat_lt d.passed d.cpus) refl

-- at the last raise no processor is passed yet
pub raised_passes : (g : GeometryData) (s : Scene) (t : Task) (ch : Change) (z : Size) (k : Kept) → HoldsIn g s → IsChangeOf t ch → Passes g s t (stage.Raising ch z k) ch (begun g.cpus)
raised_passes g s t ch z k stands is = record {
  stands = stands;
  change = is;
  cpus = refl;
  unpassed = λ p n v has. let pair = one_pair (granule_of_task g t) n (from_of t ch) v has in (pair.0, pair.1, λ low. absurd (omega (arith, low)));
  uncleaned = λ n v has. one_pair (granule_of_task g t) n (from_of t ch) v has;
}

-- a load of 0 passes one more
pub loaded_passes : (g : GeometryData) (s : Scene) (t : Task) (ch : Change) (d : BarrierData) (k : Kept) → HoldsIn g s → IsChangeOf t ch → d.cpus ≡ g.cpus → slice_index s.words (place_of g (Duty d.passed)) ≡ 0 → Passes g s t (stage.Passing ch d k) ch (one_passed d)
loaded_passes g s t ch d k stands is cpus off = record {
  stands = stands;
  change = is;
  cpus = cpus;
  unpassed = λ p n v has.
      elim (cases_Bool (nat_lt p d.passed)) [
        | inl low ↦ absurd (rw low at has)
        | inr high ↦
            (let pair = one_pair (granule_of_task g t) n (from_of t ch) v (rw high at has) in
            (pair.0, pair.1, λ below. subst (NoneDecided s.callers) (let here : d.passed ≡ p = omega (arith, ltb-false _ _ high, below) in here) (passed_none g s d.passed stands off)))
      ];
  uncleaned = λ n v has. one_pair (granule_of_task g t) n (from_of t ch) v has;
}

-- ---- cleans

own_denies : (s : Source) → permits_of (own_of s) space.NonSecure ≡ false
own_denies source.Realm = refl
own_denies source.Secure = refl

own_denied : (s : Source) → permits_of gpi.NonSecure (own_space s) ≡ false
own_denied source.Realm = refl
own_denied source.Secure = refl

-- a line that is cleaned after a change is of a space that the new GPI denies
pub cleaned_denied : (t : Task) (ch : Change) (l : Line) → IsCleaned t ch l → permits_of (to_of t ch) (space_of_line t ch l) ≡ false
cleaned_denied (task.Delegate pa s) change.Last line.Former is = own_denies s
cleaned_denied (task.Delegate pa s) change.Last line.NonSecure is = absurd is
cleaned_denied (task.Delegate pa s) change.First l is = absurd is
cleaned_denied (task.Undelegate pa s) change.First l is = refl
cleaned_denied (task.Undelegate pa s) change.Last l is = absurd is
cleaned_denied task.Unknown ch l is = absurd is
cleaned_denied (task.Look pa s) ch l is = absurd is

-- so is one that is cleaned before the change of a delegate
pub prepared_denied : (t : Task) (v : Gpi) → IsPrepared t → from_of t change.Last ≡ v → permits_of v (target_space t) ≡ false
prepared_denied (task.Delegate pa s) v is from = subst (λ (w : Gpi). permits_of w (own_space s) ≡ false) from (own_denied s)
prepared_denied (task.Undelegate pa s) v is from = absurd is
prepared_denied task.Unknown v is from = absurd is
prepared_denied (task.Look pa s) v is from = absurd is

-- An agent that cleans the line of its granule and a space, which the map denies, has what it had unpassed, and what it
-- had uncleaned or nothing more of what that space is permitted by.
module _ (g : GeometryData) (s : Scene) (t : Task) (st next : Stage) (space : Space) (clean : Act) (stands : HoldsIn g s) (is : clean_of g (address_of t) space ≡ Some clean)
    (denied : permits_of (map_in s (granule_number g.setup (address_of t))) space ≡ false) where
  cleaned_line : (k : ℕ) (u : Space) → has_line g (after_act clean s.words) k u ≡ (not (this_line g (address_of t) space k u) && has_line g s.words k u)
  cleaned_line k u = clean_lines g s.words (address_of t) space clean stands.shape.geometry stands.shape.size is k u

  line_came : (k : ℕ) (u : Space) → has_line g (after_act clean s.words) k u ≡ true → has_line g s.words k u ≡ true
  line_came k u resident =
      elim (cases_Bool (this_line g (address_of t) space k u)) [
        | inl this ↦ absurd (let now = sym (cleaned_line k u) ∙ resident in let clash : false ≡ true = rw this at now in cc)
        | inr other ↦ (let now = sym (cleaned_line k u) ∙ resident in rw other at now)
      ]

  line_kept : (k : ℕ) (u : Space) → has_line g s.words k u ≡ true → permits_of (map_in s k) u ≡ true → has_line g (after_act clean s.words) k u ≡ true
  line_kept k u resident permits =
      elim (cases_Bool (this_line g (address_of t) space k u)) [
        | inl this ↦
            absurd (let here = is_this g (address_of t) space k u this in
            let both : true ≡ false = sym permits ∙ ap (λ (n : ℕ). permits_of (map_in s n) u) here.0 ∙ ap (permits_of (map_in s (granule_number g.setup (address_of t)))) here.1 ∙ denied in cc)
        | inr other ↦ cleaned_line k u ∙ rw (other, resident) refl
      ]

  pub clean_marks : ((p : ℕ) → unpassed_at g p next (Some t) ≡ unpassed_at g p st (Some t))
      → ((n : ℕ) (v : Gpi) → In {A = ℕ × Gpi} (n, v) (uncleaned_at g st (Some t)) → (granule_number g.setup (address_of t) ≡ n) × ((sp : Space) → permits_of v sp ≡ true → space ≡ sp))
      → AgentMarks g s (λ p. unpassed_at g p st (Some t)) (λ p. unpassed_at g p next (Some t)) (uncleaned_at g st (Some t)) (uncleaned_at g next (Some t)) (after_act clean s.words) (map_in s) (s.history ++ [])
  clean_marks unpassed uncleaned = record {
    changed = λ n. inl (refl, λ sp before. ap (seen_in n sp) (append-nil s.history) ∙ before);
    passes = λ p n v has. inl (subst (In {A = ℕ × Gpi} (n, v)) (sym (unpassed p)) has);
    cleans = λ n v has.
        let own = uncleaned n v has in
        inr (λ sp permits.
        cleaned_line n sp
        ∙ rw (subst (λ (k : ℕ). this_line g (address_of t) space k sp ≡ true) own.0 (subst (λ (u : Space). this_line g (address_of t) space (granule_number g.setup (address_of t)) u ≡ true) (own.1 sp permits) (this_is g (address_of t) space))) refl);
    comes = line_came;
    stays = line_kept;
    looks = λ n sp permits now. (permits, ap (seen_in n sp) (sym (append-nil s.history)) ∙ now);
  }

-- the lists where a clean goes on
pub cleaned_unpassed : (g : GeometryData) (p : ℕ) (t : Task) (ch : Change) (l : Line) (k : Kept) → unpassed_at g p (cleaned_stage g t ch l k) (Some t) ≡ []
cleaned_unpassed g p t change.First line.Former k = refl
cleaned_unpassed g p t change.First line.NonSecure k = refl
cleaned_unpassed g p t change.Last l k = last_unpassed g p t t k

-- what the former GPI permits is the former space
pub former_alone : (t : Task) (ch : Change) (l : Line) (sp : Space) → IsCleaned t ch l → permits_of (from_of t ch) sp ≡ true → former_space t ch ≡ sp
former_alone t ch l sp is permits = permitted_space (former_space t ch) sp (subst (λ (v : Gpi). permits_of v sp ≡ true) (sym (former_gpi t ch l is)) permits)

-- so what is uncleaned at a clean is of the space that it cleans
pub uncleaned_alone : (g : GeometryData) (t : Task) (ch : Change) (l : Line) (k : Kept) (n : ℕ) (v : Gpi) → IsCleaned t ch l → In {A = ℕ × Gpi} (n, v) (uncleaned_at g (stage.Cleaning ch l k) (Some t))
    → (granule_of_task g t ≡ n) × ((sp : Space) → permits_of v sp ≡ true → space_of_line t ch l ≡ sp)
uncleaned_alone g t ch line.Former k n v is has =
    let pair = one_pair (granule_of_task g t) n (from_of t ch) v has in
    (pair.0, λ sp permits. former_alone t ch line.Former sp is (subst (λ (w : Gpi). permits_of w sp ≡ true) (sym pair.1) permits))
uncleaned_alone g t ch line.NonSecure k n v is has = absurd has
