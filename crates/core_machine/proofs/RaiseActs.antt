-- The raises of the generations after a change.
use Rattle.std.proofs.Common.{◌≡◌, ◌≢◌, ℕ, ◌+◌, ◌*◌, ◌/◌, ◌<◌, ◌⊎◌, ◌++◌, ◌∷◌, [], List, true, false, not, ◌&&◌, Some, length, set, ap, refl, sym, ◌∙◌, subst, arith, inl, inr, append_assoc, append-nil, None, Option}
use Rattle.std.specs.Prelude.{IfSome, slice_index}
use Rattle.std.proofs.lemmas.Bool.{cases_eq, eq-eqb, ne_eqb}
use Rattle.std.proofs.lemmas.List.{get_or-set_same}
use Rattle.core_machine.proofs.ActLemmas.{MarksGo, marks_stay}
use Rattle.core_machine.proofs.MarkLemmas.{seen_more}
use Rattle.core_machine.proofs.PassLemmas.{barrier_marks, raised_passes}
use Rattle.core_machine.proofs.WordLemmas.{lines_left}
use Rattle.core_machine.proofs.Names.{Size, Generations, granule_bytes, size_bytes, Gpi, GeometryData, Generation, place_of, gen_place_of, blocks_in_region, apart_by, AreWords, Task, Answer, Entry, region_of, Change, Kept, Stage, address_of, generation_in, AgentData, IsStage, task_of, goes_to, HoldsIn, Scene, state_in, scene_after, map_in, IsCounted, generation_word, entries_at, made_at, granule_of_task, is_inside, open_at, comes_before, SeesGeneration, SeesAt, is_due_at, is_around, coming_at, is_due, IsMade}
use Rattle.core_machine.proofs.Names.size
use Rattle.core_machine.proofs.Names.answer
use Rattle.core_machine.proofs.Names.entry
use Rattle.core_machine.proofs.Names.stage
use Rattle.core_machine.proofs.Names.caller
use Rattle.gpt_descriptors.proofs.PlaceLemmas.{generation_named}
use Rattle.invalidate.specs.Generations.{gen_raise_of}
use Rattle.delegate_ops.specs.declared.stage.Change.TheVariants as change
use Rattle.delegate_ops.specs.Changing.{from_of, raised_at}
use Rattle.delegate_ops.specs.InnerAgents.{IsChangeOf, kept_raised, passing_stage, raised_stage}
use Rattle.delegate_ops.proofs.AgentLemmas.{at_stage}
use Rattle.core_machine.proofs.ListLemmas.{one}
use Rattle.core_machine.proofs.StampLemmas.{rises_one}
use Rattle.core_machine.proofs.ActLemmas.{IsOwn, holders_of, tables_stay, Acting, inside_of, generation_below, closed_of, counts_of, seen_of, goes_keeps}
use Rattle.core_machine.specs.InnerAgentCaller.{unraised_at}
use Rattle.core_machine.specs.InnerWalks.{In, generation_around}
use Rattle.core_machine.proofs.WalkLemmas.{Tracks, in_pairs, one_pair}
use Rattle.core_machine.proofs.WordLemmas.{Writes, writes_one, generation_left}
use Rattle.core_machine.proofs.OpenedLemmas.{open_here}
use Rattle.core_machine.proofs.CountedLemmas.{done_counted}
use Rattle.core_machine.proofs.AddressLemmas.{lock_by_region, region_at}
use Rattle.core_machine.proofs.StepLemmas.{list_of, added_to, map_next, opened_with}
use Rattle.core_machine.proofs.LockActs.{ActKeeps}
use Rattle.core_machine.proofs.LoadActs.{counts_from}
use Rattle.invalidate.specs.Barrier.{begun}
use Rattle.delegate_ops.specs.Script.{change_entry}
use Rattle.delegate_ops.specs.InnerEntries.{entries_before}
use Rattle.core_machine.specs.InnerAgentCaller.{done_after}
use Rattle.core_machine.proofs.SettleLemmas.{Settles, settles_barrier}

-- ---- what a holder sees after its raise

-- sizes are the same or apart
size_cases : (y z : Size) → (y ≡ z) ⊎ (y ≢ z)
size_cases size.Two size.Two = inl refl
size_cases size.ThirtyTwo size.ThirtyTwo = inl refl
size_cases size.FiveTwelve size.FiveTwelve = inl refl
size_cases y z = inr (λ e. absurd cc)

raised_own : (z : Size) (k : Generations) → generation_in z (raised_at z k) ≡ generation_in z k + 1
raised_own size.Two k = refl
raised_own z k = refl

raised_other : (z y : Size) (k : Generations) → y ≢ z → generation_in y (raised_at z k) ≡ generation_in y k
raised_other size.Two size.Two k apart = absurd (apart refl)
raised_other size.ThirtyTwo size.ThirtyTwo k apart = absurd (apart refl)
raised_other size.FiveTwelve size.FiveTwelve k apart = absurd (apart refl)
raised_other z y k apart = refl

-- the words after its raise of a size
abbrev raised_words : Scene → AgentData → Task → Size → Kept → List ℕ
raised_words s a t z k = set s.words (gen_place_of a.geometry z (address_of t)) (generation_in z k.generations + 1)

writes_raise : {s : Scene} {c : ℕ} {a : AgentData} {t : Task} {st : Stage} (acting : Acting s c a t st) (z : Size) (k : Kept) → Writes a.geometry s.words (Some (Generation z (address_of t / size_bytes z))) (raised_words s a t z k)
writes_raise {s = s} {a = a} {t = t} acting z k = writes_one a.geometry s.words (Generation z (address_of t / size_bytes z)) (generation_in z k.generations + 1) (generation_named a.geometry z (address_of t) (inside_of acting))

sees_raised : {s : Scene} {c : ℕ} {a : AgentData} {t : Task} (ch : Change) (z : Size) (k : Kept) (acting : Acting s c a t (stage.Raising ch z k)) (y : Size) → SeesGeneration a.geometry (raised_words s a t z k) t (kept_raised z k).generations y
sees_raised {s = s} {a = a} {t = t} ch z k acting y =
    let g = a.geometry in
    let pa = address_of t in
    elim (size_cases y z) [
      | inl same ↦
          subst (λ (x : Size). SeesGeneration g (raised_words s a t z k) t (kept_raised z k).generations x) (sym same)
          (get_or-set_same s.words (gen_place_of g z pa) (generation_in z k.generations + 1) 0 (generation_below acting z) ∙ sym (raised_own z k.generations))
      | inr apart ↦
          generation_left (writes_raise acting z k) y (pa / size_bytes y) (generation_named g y pa (inside_of acting)) (λ same. apart (let e : y ≡ z = cc in e))
          ∙ (seen_of acting).generations y ∙ sym (raised_other z y k.generations apart)
    ]

-- ---- what is due after a raise

-- the next stage after the raise of a size owes what this one owes, but for that size
pub record Owes (c : Change) (z : Size) (k : Kept) (next : Stage) : Type 0 where
  pub own : is_due_at (stage.Raising c z k) z ≡ true
  pub paid : is_due_at next z ≡ false
  pub others : (y : Size) → y ≢ z → is_due_at next y ≡ is_due_at (stage.Raising c z k) y

two_others : (y : Size) → y ≢ size.Two → not (comes_before y size.ThirtyTwo) ≡ not (comes_before y size.Two)
two_others size.Two apart = absurd (apart refl)
two_others y apart = refl

owes_two : (c : Change) (k kept : Kept) → Owes c size.Two k (stage.Raising c size.ThirtyTwo kept)
owes_two c k kept = record { own = refl; paid = refl; others = two_others }

thirty_two_others : (y : Size) → y ≢ size.ThirtyTwo → not (comes_before y size.FiveTwelve) ≡ not (comes_before y size.ThirtyTwo)
thirty_two_others size.ThirtyTwo apart = absurd (apart refl)
thirty_two_others y apart = refl

owes_thirty_two : (c : Change) (k kept : Kept) → Owes c size.ThirtyTwo k (stage.Raising c size.FiveTwelve kept)
owes_thirty_two c k kept = record { own = refl; paid = refl; others = thirty_two_others }

last_others : (y : Size) → y ≢ size.FiveTwelve → false ≡ not (comes_before y size.FiveTwelve)
last_others size.FiveTwelve apart = absurd (apart refl)
last_others y apart = refl

owes_last : (c : Change) (k : Kept) (next : Stage) → ((y : Size) → is_due_at next y ≡ false) → Owes c size.FiveTwelve k next
owes_last c k next none = record { own = refl; paid = none size.FiveTwelve; others = λ y apart. none y ∙ last_others y apart }

-- each generation with what is due of it is as before
raised_sum : {s : Scene} {c : ℕ} {a : AgentData} {t : Task} (ch : Change) (z : Size) (k : Kept) (next : Stage) (acting : Acting s c a t (stage.Raising ch z k)) → Owes ch z k next → (y : Size) (region : ℕ) → region < blocks_in_region y * a.geometry.setup.gigabytes
    → generation_word a.geometry (raised_words s a t z k) y region + one (is_due_at next y && is_around a.geometry y region (Some t))
    ≡ generation_word a.geometry s.words y region + one (is_due_at (stage.Raising ch z k) y && is_around a.geometry y region (Some t)) + 0
raised_sum {s = s} {a = a} {t = t} ch z k next acting owes y region within =
    let g = a.geometry in
    let block = address_of t / size_bytes z in
    let v = generation_in z k.generations + 1 in
    let writes = writes_raise acting z k in
    let sees = seen_of acting in
    let around : region_of (granule_bytes g.setup) z (granule_of_task g t) ≡ block = region_at g t acting.acts z in
    elim (size_cases y z) [
      | inl same ↦
          subst (λ (x : Size). generation_word g (set s.words (gen_place_of g z (address_of t)) v) x region + one (is_due_at next x && is_around g x region (Some t))
          ≡ generation_word g s.words x region + one (is_due_at (stage.Raising ch z k) x && is_around g x region (Some t)) + 0) (sym same)
          (elim (cases_eq region block) [
            | inl here ↦
                rw (here, owes.own, owes.paid, eq-eqb _ block around, get_or-set_same s.words (gen_place_of g z (address_of t)) v 0 (generation_below acting z), sees.generations z) (omega arith)
            | inr away ↦
                rw (
                  generation_left writes z region (subst (λ (x : Size). region < blocks_in_region x * g.setup.gigabytes) same within) (λ both. away (let e : region ≡ block = cc in e)),
                  owes.own,
                  owes.paid,
                  ne_eqb (region_of (granule_bytes g.setup) z (granule_of_task g t)) region (λ e. away (sym e ∙ around)),
                ) (omega arith)
          ])
      | inr apart ↦
          rw (generation_left writes y region within (λ both. apart (let e : y ≡ z = cc in e)), owes.others y apart) (omega arith)
    ]

-- ---- any raise

-- It goes on to this stage, and made this entry, if it made one.
pub record Raises (s : Scene) (c : ℕ) (a : AgentData) (t : Task) (ch : Change) (z : Size) (k : Kept) (next : Stage) (o : Option Entry) : Type 0 where
  pub stays : is_inside next ≡ true
  pub made : IsMade a.geometry (caller.Agent (goes_to (at_stage a (stage.Raising ch z k)) next))
  pub words : AreWords a.geometry (map_next s o) (apart_by a.geometry.setup (holders_of (set s.callers c (caller.Agent (goes_to (at_stage a (stage.Raising ch z k)) next))))) (raised_words s a t z k)
  pub owes : Owes ch z k next
  pub map : (n : ℕ) → map_next s o n ≡ map_in s n
  pub keeps : (y : Size) → is_due_at next y ≡ true → open_at a.geometry next (Some t) ≡ open_at a.geometry (stage.Raising ch z k) (Some t)
  pub before : (y : Size) → y ≢ z → is_due_at (stage.Raising ch z k) y ≡ true → open_at a.geometry next (Some t) ≡ open_at a.geometry (stage.Raising ch z k) (Some t)
  pub marks : MarksGo s a t (stage.Raising ch z k) next (raised_words s a t z k) o
  pub entry : IfSome o (IsOwn s c a t)
  pub no_change : (y : Size) (region : ℕ) → added_to a.geometry y region o ≡ 0
  pub opened : open_at a.geometry next (Some t) ≡ opened_with o (open_at a.geometry (stage.Raising ch z k) (Some t))
  pub sees : SeesAt a.geometry (map_next s o) (raised_words s a t z k) t next
  pub coming : (given : Answer) → coming_at next ≡ given ∷ [] → IsCounted a.geometry c (length a.answers) t given (s.history ++ list_of o)
  pub front : entries_at a.geometry c (length a.answers) next (Some t) ≡ entries_at a.geometry c (length a.answers) (stage.Raising ch z k) (Some t) ++ list_of o

-- the pair ends for the size that is raised, and stays for those that are still to be raised
raised_tracks : {s : Scene} {c : ℕ} {a : AgentData} {t : Task} (ch : Change) (z : Size) (k : Kept) (next : Stage) (o : Option Entry) (acting : Acting s c a t (stage.Raising ch z k)) → Raises s c a t ch z k next o
    → Tracks a.geometry s (λ y. unraised_at a.geometry y (stage.Raising ch z k) (Some t)) (λ y. unraised_at a.geometry y next (Some t)) (raised_words s a t z k) (map_next s o) (s.history ++ list_of o)
raised_tracks {s = s} {c = c} {a = a} {t = t} ch z k next o acting raises =
    let g = a.geometry in
    let st = stage.Raising ch z k in
    let granule = granule_of_task g t in
    let block = address_of t / size_bytes z in
    let writes = writes_raise acting z k in
    let around : region_of (granule_bytes g.setup) z granule ≡ block = region_at g t acting.acts z in
    let own : (y : Size) (n : ℕ) (v : Gpi) → In (n, v) (open_at g st (Some t)) → granule ≡ n =
    λ y n v has. (one_pair granule n (from_of t ch) v has).0 in
    let rose : generation_around g s.words z granule < generation_around g (raised_words s a t z k) z granule =
    (let old = (seen_of acting).generations z in
    let first : generation_around g s.words z granule ≡ slice_index s.words (gen_place_of g z (address_of t)) = ap (generation_word g s.words z) around in
    let second : generation_around g (raised_words s a t z k) z granule ≡ generation_in z k.generations + 1 =
    ap (generation_word g (raised_words s a t z k) z) around ∙ get_or-set_same s.words (gen_place_of g z (address_of t)) (generation_in z k.generations + 1) 0 (generation_below acting z) in
    omega (arith, old, first, second)) in
    record {
      changed = λ n. inl (raises.map n);
      ends = λ y n v has.
          let was = in_pairs n v (is_due_at st y) (open_at g st (Some t)) has in
          elim (size_cases y z) [
            | inl same ↦ inr (subst (λ (x : Size). generation_around g s.words x n < generation_around g (raised_words s a t z k) x n) (sym same)
                (subst (λ (j : ℕ). generation_around g s.words z j < generation_around g (raised_words s a t z k) z j) (own y n v was.1) rose))
            | inr apart ↦ inl (rw (raises.owes.others y apart ∙ was.0) (subst (In (n, v)) (sym (raises.before y apart was.0)) was.1))
          ];
      pairs = λ y n v has.
          let now = in_pairs n v (is_due_at next y) (open_at g next (Some t)) has in
          let was = subst (In (n, v)) (raises.keeps y now.0) now.1 in
          let apart : y ≢ z = (λ same. absurd (let both : true ≡ false = sym now.0 ∙ ap (is_due_at next) same ∙ raises.owes.paid in cc)) in
          let region : ℕ = region_of (granule_bytes g.setup) y n in
          let here : region ≡ address_of t / size_bytes y = ap (region_of (granule_bytes g.setup) y) (sym (own y n v was)) ∙ region_at g t acting.acts y in
          let within : region < blocks_in_region y * g.setup.gigabytes = subst (λ (r : ℕ). r < blocks_in_region y * g.setup.gigabytes) (sym here) (generation_named g y (address_of t) (inside_of acting)) in
          inl (
            rw (sym (raises.owes.others y apart) ∙ now.0) was,
            generation_left writes y region within (λ both. apart (let e : z ≡ y = cc in sym e)),
          );
    }

raise_goes : {s : Scene} {c : ℕ} {a : AgentData} {t : Task} (ch : Change) (z : Size) (k : Kept) (next : Stage) (o : Option Entry) (acting : Acting s c a t (stage.Raising ch z k)) → Raises s c a t ch z k next o
    → HoldsIn a.geometry (scene_after s c (caller.Agent (goes_to (at_stage a (stage.Raising ch z k)) next)) (raised_words s a t z k) (list_of o))
raise_goes {s = s} {a = a} {t = t} ch z k next o acting raises =
    goes_keeps acting next (Some (Generation z (address_of t / size_bytes z))) (raised_words s a t z k) o
    (record {
      inside = refl;
      stays = raises.stays;
      made = raises.made;
      writes = writes_raise acting z k;
      block = λ m other same. other (sym (lock_by_region a.geometry.setup z (address_of t / size_bytes z) (address_of t) refl) ∙ same);
      no_lock = refl;
      no_duty_word = refl;
      rises = λ y region within.
          rises_one s.words (gen_place_of a.geometry z (address_of t)) (place_of a.geometry (Generation y region)) (generation_in z k.generations + 1) (generation_below acting z)
          (let old = (seen_of acting).generations z in omega (arith, old));
      tracks = raised_tracks ch z k next o acting raises;
      marks = raises.marks;
      entry = raises.entry;
      words = raises.words;
      opened = raises.opened;
      seen = raises.sees;
      raised = λ y region within. omega (arith, raised_sum ch z k next acting raises.owes y region within, raises.no_change y region);
      coming = raises.coming;
      front = raises.front;
    })

-- one that isn't the third
raise_quietly : {s : Scene} {c : ℕ} {a : AgentData} {t : Task} (ch : Change) (z : Size) (k : Kept) (next : Size) (acting : Acting s c a t (stage.Raising ch z k)) → Owes ch z k (stage.Raising ch next (kept_raised z k))
    → IsMade a.geometry (caller.Agent (goes_to (at_stage a (stage.Raising ch z k)) (stage.Raising ch next (kept_raised z k))))
    → HoldsIn a.geometry (scene_after s c (caller.Agent (goes_to (at_stage a (stage.Raising ch z k)) (stage.Raising ch next (kept_raised z k)))) (raised_words s a t z k) [])
raise_quietly {s = s} {a = a} {t = t} ch z k next acting owes made =
    raise_goes ch z k (stage.Raising ch next (kept_raised z k)) None acting
    (record {
      stays = refl;
      made = made;
      words = tables_stay acting refl (stage.Raising ch next (kept_raised z k)) refl (writes_raise acting z k) refl;
      owes = owes;
      map = λ n. refl;
      keeps = λ y due. refl;
      before = λ y apart due. refl;
      marks = marks_stay acting (stage.Raising ch next (kept_raised z k)) _ _ (writes_raise acting z k) refl (λ p. refl) refl;
      entry = tt;
      no_change = λ y region. refl;
      opened = refl;
      sees = record { known = (seen_of acting).known; gives = (seen_of acting).gives; generations = sees_raised ch z k acting };
      coming = λ given is. absurd cc;
      front = sym (append-nil _);
    })

-- ---- the third raise

-- of each size: raised before, or by this raise
settled_count : (g : GeometryData) (t : Task) (a : AgentData) (ch : Change) (k : Kept) (y : Size) (count : ℕ) → a.geometry ≡ g → a.stage ≡ stage.Raising ch size.FiveTwelve k → task_of a ≡ Some t
    → generation_in y k.generations + one (is_due y (region_of (granule_bytes g.setup) y (granule_of_task g t)) (caller.Agent a)) ≡ count → generation_in y (kept_raised size.FiveTwelve k).generations ≡ count
settled_count g t a ch k size.Two count same at under_way seen = let sum = rw at at seen in omega (arith, sum)
settled_count g t a ch k size.ThirtyTwo count same at under_way seen = let sum = rw at at seen in omega (arith, sum)
settled_count g t a ch k size.FiveTwelve count same at under_way seen = let sum = rw (at, under_way, same, eq-eqb _ _ refl) at seen in omega (arith, sum)

-- the answer that is to come with a change complete
done_is : (ch : Change) (k : Generations) (given : Answer) → done_after ch k ≡ given ∷ [] → given ≡ answer.Done k
done_is change.First k given is = absurd cc
done_is change.Last k given is = cc

raise_last : {s : Scene} {c : ℕ} {a : AgentData} {t : Task} (ch : Change) (k : Kept) (next : Stage) (acting : Acting s c a t (stage.Raising ch size.FiveTwelve k))
    → Settles s c a t (stage.Raising ch size.FiveTwelve k) ch (kept_raised size.FiveTwelve k) (raised_words s a t size.FiveTwelve k) next
    → MarksGo s a t (stage.Raising ch size.FiveTwelve k) next (raised_words s a t size.FiveTwelve k) (Some (entry.Settled c (length a.answers) (granule_of_task a.geometry t)))
    → IsMade a.geometry (caller.Agent (goes_to (at_stage a (stage.Raising ch size.FiveTwelve k)) next))
    → HoldsIn a.geometry (scene_after s c (caller.Agent (goes_to (at_stage a (stage.Raising ch size.FiveTwelve k)) next)) (raised_words s a t size.FiveTwelve k) (entry.Settled c (length a.answers) (granule_of_task a.geometry t) ∷ []))
raise_last {s = s} {c = c} {a = a} {t = t} ch k next acting settles marks made =
    let g = a.geometry in
    let me = caller.Agent (at_stage a (stage.Raising ch size.FiveTwelve k)) in
    let granule = granule_of_task g t in
    let e = entry.Settled c (length a.answers) granule in
    let sees = seen_of acting in
    raise_goes ch size.FiveTwelve k next (Some e) acting
    (record {
      stays = settles.stays;
      made = made;
      words = settles.words;
      owes = owes_last ch k next settles.none_due;
      map = λ n. refl;
      keeps = λ y due. absurd (let both : true ≡ false = sym due ∙ settles.none_due y in cc);
      before = λ y apart due. absurd (let both : true ≡ false = sym due ∙ sym (last_others y apart) in cc);
      marks = marks;
      entry = record { caller = refl; call = refl; granule = refl; allowed = open_here (state_in s) s.callers c granule (from_of t ch) me acting.at acting.stands.opened (closed_of acting refl) (rw acting.under_way refl) };
      no_change = λ y region. refl;
      opened = settles.closes ∙ rw (eq-eqb granule granule refl) refl;
      sees = settles.sees;
      coming = λ given is.
          subst (λ (x : Answer). IsCounted g c (length a.answers) t x (s.history ++ e ∷ [])) (sym (done_is ch (kept_raised size.FiveTwelve k).generations given (settles.coming given is)))
          (done_counted g c (length a.answers) t (kept_raised size.FiveTwelve k).generations s.history
          (counts_from g.setup.first (granule_bytes g.setup) granule s.history (kept_raised size.FiveTwelve k).generations
          (λ y. settled_count g t (at_stage a (stage.Raising ch size.FiveTwelve k)) ch k y _ refl refl acting.under_way (counts_of acting refl k.generations y (sees.generations y)))));
      front = settles.front ∙ sym (append_assoc (entries_before g c (length a.answers) t ch) (change_entry g c (length a.answers) t ch ∷ []) (e ∷ []));
    })

-- ---- all raises

raise_at : {s : Scene} {c : ℕ} {a : AgentData} {t : Task} (ch : Change) (z : Size) (k : Kept) (acting : Acting s c a t (stage.Raising ch z k)) → IsChangeOf t ch
    → HoldsIn a.geometry (scene_after s c (caller.Agent (goes_to (at_stage a (stage.Raising ch z k)) (raised_stage a.geometry t ch z (kept_raised z k)))) (raised_words s a t z k)
    (made_at a.geometry c (length a.answers) (stage.Raising ch z k) (Some t) 0))
raise_at ch size.Two k acting is = raise_quietly ch size.Two k size.ThirtyTwo acting (owes_two ch k _) (acting.made 0)
raise_at ch size.ThirtyTwo k acting is = raise_quietly ch size.ThirtyTwo k size.FiveTwelve acting (owes_thirty_two ch k _) (acting.made 0)
raise_at {s = s} {c = c} {a = a} {t = t} ch size.FiveTwelve k acting is =
    let g = a.geometry in
    let sees = seen_of acting in
    raise_last ch k (passing_stage g t ch (begun g.cpus) (kept_raised size.FiveTwelve k)) acting
    (settles_barrier (begun g.cpus) (record {
      acting = acting;
      inside = refl;
      apart = refl;
      change = is;
      writes = writes_raise acting size.FiveTwelve k;
      plain = refl;
      known = sees.known;
      gives = sees.gives;
      generations = sees_raised ch size.FiveTwelve k acting;
    }))
    (barrier_marks (raised_passes g s t ch size.FiveTwelve k acting.stands is) (raised_words s a t size.FiveTwelve k) (map_in s) _ (λ n. refl) (λ n sp. seen_more n sp s.history _)
    (λ n sp. lines_left (writes_raise acting size.FiveTwelve k) refl acting.stands.shape.geometry n sp) (kept_raised size.FiveTwelve k))
    (acting.made 0)

change_in : (g : GeometryData) (t : Task) (ch : Change) (z : Size) (k : Kept) → IsStage g (stage.Raising ch z k) (Some t) → IsChangeOf t ch
change_in g t ch size.Two k is = is.0
change_in g t ch size.ThirtyTwo k is = is.0
change_in g t ch size.FiveTwelve k is = is.0

pub raise_keeps : {s : Scene} {c : ℕ} {a : AgentData} {t : Task} (ch : Change) (z : Size) (k : Kept) (acting : Acting s c a t (stage.Raising ch z k))
    → ActKeeps s c a t (stage.Raising ch z k) (gen_raise_of a.geometry z (address_of t) (generation_in z k.generations))
raise_keeps {a = a} {t = t} ch z k acting =
    (tt, raise_at ch z k acting (change_in a.geometry t ch z k (subst (IsStage a.geometry (stage.Raising ch z k)) acting.under_way acting.is.stage)))
