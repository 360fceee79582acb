-- A step of one caller keeps the facts of the core: what it has to show of the word that it writes, of its own state and
-- of the entry that it makes.
use Rattle.std.proofs.Common.{◌≡◌, ◌≢◌, ℕ, ◌+◌, ◌*◌, ◌/◌, ◌<◌, ◌⊎◌, ◌++◌, ◌∷◌, [], List, map, true, false, ◌&&◌, eqb, Option, Some, None, set, refl, sym, ap, ◌∙◌, subst, arith, inl, inr, append-nil}
use Rattle.std.specs.Prelude.{slice_get, slice_index, IfSome}
use Rattle.std.proofs.lemmas.Bool.{cases_Bool, cases_eq, eqb-true, eq-eqb}
use Rattle.std.specs.Option.{option_map}
use Rattle.std.proofs.lemmas.Option.{slice_get-map}
use Rattle.std.proofs.lemmas.List.{get_or-set_other, map-set}
use Rattle.std.proofs.lemmas.List.Elements.{All-set}
use Rattle.core_machine.proofs.Names.{Gpi, Size, granule_bytes, size_bytes, GeometryData, WordName, Duty, place_of, blocks_in_region, canonical_word, lock_bit, Holder, Whole, apart_by, Task, Answer, Entry, caller_in, call_in, granule_in, State, start, after_entry, state_after, is_by, region_of, count_of, Caller, number_by, duty_by, NumbersDiffer, holder_by, holds, open_by, Sees, is_due, known_answers, caller_tasks, IsMade, AreAllowed, HoldsIn, Scene, state_in, map_in, scene_after, map_at, IsCounted, generation_word, is_on_block}
use Rattle.core_machine.proofs.Names.gpi
use Rattle.core_machine.proofs.Names.entry
use Rattle.core_machine.proofs.Names.caller
use Rattle.table_meaning.proofs.EquationLemmas.{whole_turns, still_words}
use Rattle.history.specs.Legality.{StateAllows}
use Rattle.history.specs.Counts.{is_change, is_completion}
use Rattle.history.proofs.HistoryLemmas.{state_after-append}
use Rattle.core_machine.specs.InnerCallers.{own_of, call_of}
use Rattle.core_machine.specs.InnerInvariant.{AreTables, OpenAreHeld, IsAlone, OthersAreOff}
use Rattle.core_machine.specs.Facts.{AreUndisturbed}
use Rattle.core_machine.proofs.ListLemmas.{one, count_set, each_set, get_set, get_set_here, get_set_other}
use Rattle.core_machine.proofs.LockLemmas.{locks_keep}
use Rattle.core_machine.proofs.AddressLemmas.{lock_of}
use Rattle.core_machine.proofs.CallerLemmas.{held_once, made_at_place, others_closed, placed_at}
use Rattle.core_machine.proofs.OpenedLemmas.{opened_after, opened_stays, opened_changes}
use Rattle.core_machine.proofs.WordLemmas.{Writes, IsApart, block_left, plain_apart, is_generation, is_level1, is_duty, is_line, other_word, generations_left, words_left, lines_left}
use Rattle.core_machine.specs.InnerCallers.{HasLoaded, HasOwnStamps, unraised_by, unpassed_by, uncleaned_by, decided_by, touching_by, walks_by}
use Rattle.core_machine.specs.InnerWalks.{In, WalkHolds, generation_around}
use Rattle.walk_cache.specs.declared.walk.Walk.{Walk}
use Rattle.gpt_descriptors.proofs.PlaceLemmas.{generation_named}
use Rattle.core_machine.proofs.MarkLemmas.{Marks, decisions_keep, lines_keep, marks_same, touches_keep}
use Rattle.core_machine.specs.Lines.{seen_in}
use Rattle.core_machine.specs.InnerCpuCaller.{Decision}
use Rattle.core_machine.specs.InnerLines.{DecisionsHold, LinesHold, TouchesHold}
use Rattle.core_machine.proofs.WalkLemmas.{Tracks, tracks_same, walk_stays, pairs_stay}
use Rattle.core_machine.proofs.StampLemmas.{Rises, caller_loads_rise, own_stamps_grow}
use Rattle.core_machine.proofs.ToldLemmas.{IsAdded, history_keeps}
use Rattle.core_machine.proofs.AloneLemmas.{undisturbed_more, alone_own, alone_other}
use Rattle.core_machine.proofs.CountedLemmas.{counted_more, count_more}

-- ---- the entry that a step makes, if it makes one

abbrev pub list_of : Option Entry → List Entry
list_of None = []
list_of (Some e) = e ∷ []

-- what it adds to the count of a region
abbrev pub added_to : GeometryData → Size → ℕ → Option Entry → ℕ
added_to g y region None = 0
added_to g y region (Some e) = one (is_change e && eqb (region_of (granule_bytes g.setup) y (granule_in e)) region)

-- the map after it
abbrev pub map_next : Scene → Option Entry → ℕ → Gpi
map_next s o = map_at (state_after (state_in s) (list_of o)).map

-- It is of the call under way, which goes on. Its caller holds the lock of its block, and the state allows it.
pub record IsEntryOf (g : GeometryData) (s : Scene) (c : ℕ) (me x : Caller) (e : Entry) : Type 0 where
  pub caller : caller_in e ≡ c
  pub call : call_in e ≡ call_of me
  pub goes_on : call_of x ≡ call_of me
  pub block : (m : ℕ) → is_on_block g.setup m e ≡ true → holds m me ≡ true
  pub allowed : StateAllows (state_in s) e

-- what it makes of the caller's own changes that aren't complete
abbrev pub opened_with : Option Entry → List (ℕ × Gpi) → List (ℕ × Gpi)
opened_with None pairs = pairs
opened_with (Some e) pairs = opened_after e pairs

-- ---- duty words

-- A caller that steps keeps its number, writes no duty word but its own, and its duty word is as it is to be.
pub record MindsDuty (g : GeometryData) (me x : Caller) (n : Option WordName) (after : List ℕ) : Type 0 where
  pub number : number_by x ≡ number_by me
  pub own : (p : ℕ) → n ≡ Some (Duty p) → number_by me ≡ Some p
  pub word : (p : ℕ) → number_by x ≡ Some p → slice_index after (place_of g (Duty p)) ≡ duty_by x

-- one that is no processor writes none
pub no_duty : {g : GeometryData} {me x : Caller} {n : Option WordName} {after : List ℕ} → number_by me ≡ None → number_by x ≡ None → is_duty n ≡ false → MindsDuty g me x n after
no_duty {n = n} before none unlike = record {
  number = none ∙ sym before;
  own = λ p same. absurd (other_word n p unlike same);
  word = λ p is. absurd (let both : None ≡ Some p = sym none ∙ is in cc);
}

pub number_low : (g : GeometryData) (x : Caller) (p : ℕ) → IsMade g x → number_by x ≡ Some p → p < g.cpus
number_low g (caller.Agent a) p made is = absurd cc
number_low g (caller.Cpu q) p made is = let same : q.number ≡ p = cc in subst (λ (n : ℕ). n < g.cpus) same (subst (λ (k : GeometryData). q.number < k.cpus) made.0 made.1.number)

-- whoever is at d afterwards has the number of who was there
was_numbered : (callers : List Caller) (c d : ℕ) (me x y : Caller) → slice_get callers c ≡ Some me → number_by x ≡ number_by me → slice_get (set callers c x) d ≡ Some y
    → (z : Caller) × (slice_get callers d ≡ Some z) × (number_by z ≡ number_by y)
was_numbered callers c d me x y at same there =
    elim (get_set callers c d x y there) [
      | inl here ↦ (me, ap (slice_get callers) here.0 ∙ at, sym same ∙ ap number_by here.1)
      | inr away ↦ (y, away.1, refl)
    ]

numbers_keep : (callers : List Caller) (c : ℕ) (me x : Caller) → slice_get callers c ≡ Some me → number_by x ≡ number_by me → NumbersDiffer callers → NumbersDiffer (set callers c x)
numbers_keep callers c me x at same differ d e p y z here there first second =
    let one = was_numbered callers c d me x y at same here in
    let two = was_numbered callers c e me x z at same there in
    differ d e p one.0 two.0 one.1 two.1 (one.2 ∙ first) (two.2 ∙ second)

-- no generation is written
pub rises_left : {g : GeometryData} {words : List ℕ} {n : Option WordName} {after : List ℕ} → Writes g words n after → is_generation n ≡ false → Rises g words after
rises_left writes plain y region within = let same = generations_left writes plain y region within in omega (arith, same)

-- ---- a step

-- Caller c, which was `me`, becomes x. It wrote this word, if it wrote one, and made this entry, if it made one.
pub record Step (g : GeometryData) (s : Scene) (c : ℕ) (me x : Caller) (n : Option WordName) (after : List ℕ) (o : Option Entry) : Type 0 where
  pub stands : HoldsIn g s
  pub at : slice_get s.callers c ≡ Some me
  pub made : IsMade g x
  pub writes : Writes g s.words n after
  pub apart : (m : ℕ) → holds m me ≡ false → IsApart g m n
  pub duty : MindsDuty g me x n after
  pub rises : Rises g s.words after
  pub loads : HasLoaded after x
  pub stamps : HasOwnStamps s.first (s.history ++ list_of o) c x
  pub tracks : Tracks g s (λ y. unraised_by y me) (λ y. unraised_by y x) after (map_next s o) (s.history ++ list_of o)
  pub walks : (w : Walk) → In w (walks_by x) → In w (walks_by me) ⊎ WalkHolds g after (map_next s o) (set s.callers c x) w
  pub marks : Marks g s c me x after (map_next s o) (s.history ++ list_of o)
  pub entry : IfSome o (IsEntryOf g s c me x)
  pub tables : AreTables g after (set s.callers c x) (map_next s o)
  pub opened : open_by x ≡ opened_with o (open_by me)
  pub locks : (m : ℕ) → m < 128 → lock_bit after m + one (holds m me) ≡ lock_bit s.words m + one (holds m x)
  pub seen : Sees (map_next s o) after x
  pub raised : (y : Size) (region : ℕ) → region < blocks_in_region y * g.setup.gigabytes
      → generation_word g after y region + one (is_due y region x) ≡ generation_word g s.words y region + one (is_due y region me) + added_to g y region o
  pub alone : (m : ℕ) → holds m x ≡ true → IsAlone g.setup m c (call_of x) s.history
  pub counted : (k : ℕ) (u : Task) (given : Answer) → slice_get (caller_tasks x) k ≡ Some u → slice_get (known_answers x) k ≡ Some given → IsCounted g c k u given (s.history ++ list_of o)
  pub own : own_of c x ≡ own_of c me ++ list_of o

-- what holds of the history holds with the entry, if there is none or it is shown with one
grown : (P : List Entry → Type 0) (Q : Entry → Type 0) (h : List Entry) (o : Option Entry) → IfSome o Q → P h → ((e : Entry) → Q e → P (h ++ e ∷ [])) → P (h ++ list_of o)
grown P Q h None fits old more = subst P (sym (append-nil h)) old
grown P Q h (Some e) fits old more = more e fits

added_of : (g : GeometryData) (s : Scene) (c : ℕ) (me x : Caller) (o : Option Entry) → IfSome o (IsEntryOf g s c me x) → IsAdded c (call_of me) (list_of o) × AreAllowed (state_in s) (list_of o)
added_of g s c me x None fits = (inl refl, tt)
added_of g s c me x (Some e) fits = (inr (e, refl, fits.caller, fits.call), (fits.allowed, tt))

count_grown : (g : GeometryData) (y : Size) (region : ℕ) (h : List Entry) (o : Option Entry)
    → count_of g.setup.first (granule_bytes g.setup) y region (h ++ list_of o) ≡ count_of g.setup.first (granule_bytes g.setup) y region h + added_to g y region o
count_grown g y region h None = let same = ap (count_of g.setup.first (granule_bytes g.setup) y region) (append-nil h) in omega (arith, same)
count_grown g y region h (Some e) = count_more g.setup.first (granule_bytes g.setup) y region h e

is_by_own : (c k : ℕ) (e : Entry) → caller_in e ≡ c → call_in e ≡ k → is_by c k e ≡ true
is_by_own c k e mine call = rw (eq-eqb (caller_in e) c mine, eq-eqb (call_in e) k call) refl

is_by_other : (c d k j : ℕ) (e : Entry) → caller_in e ≡ c → call_in e ≡ k → ((d ≢ c) ⊎ (j ≢ k)) → (is_completion e && is_by d j e) ≡ false
is_by_other c d k j e mine call apart =
    elim (cases_Bool (is_completion e)) [
      | inr other ↦ rw other refl
      | inl completion ↦ rw completion (elim (cases_Bool (eqb (caller_in e) d)) [
        | inr other ↦ rw other refl
        | inl same ↦ rw same (elim (cases_Bool (eqb (call_in e) j)) [
          | inr other ↦ other
          | inl call_same ↦ absurd (elim apart [ inl d_apart ↦ d_apart (sym (eqb-true _ _ same) ∙ mine) | inr j_apart ↦ j_apart (sym (eqb-true _ _ call_same) ∙ call) ])
        ])
      ])
    ]

-- what was counted for another call stays so
pub counted_grown : (g : GeometryData) (s : Scene) (c d k : ℕ) (me x : Caller) (u : Task) (given : Answer) (o : Option Entry) → IfSome o (IsEntryOf g s c me x) → ((d ≢ c) ⊎ (k ≢ call_of me)) → IsCounted g d k u given s.history
    → IsCounted g d k u given (s.history ++ list_of o)
counted_grown g s c d k me x u given o entry apart counted =
    grown (IsCounted g d k u given) (IsEntryOf g s c me x) s.history o entry counted
    (λ e fits. counted_more g d k u given s.history e counted (is_by_other c d (call_of me) k e fits.caller fits.call apart))

-- ---- what the entry leaves

-- a look and a refusal leave the state; another entry is on the block of its granule
entry_block : (g : GeometryData) (e : Entry) → ((s : State) → after_entry s e ≡ s) ⊎ (is_on_block g.setup (lock_of g.setup (granule_in e)) e ≡ true)
entry_block g (entry.Refused c k granule found) = inl (λ s. refl)
entry_block g (entry.Changed c k granule from to) = inr (eq-eqb _ _ refl)
entry_block g (entry.Settled c k granule) = inr (eq-eqb _ _ refl)
entry_block g (entry.Looked c k granule space gpi allowed) = inl (λ s. refl)

pub map_elsewhere : (s : State) (e : Entry) (k : ℕ) → k ≢ granule_in e → map_at s.map k ≡ map_at (after_entry s e).map k
map_elsewhere s (entry.Changed c j granule from to) k other = sym (get_or-set_other s.map granule k to gpi.Any other)
map_elsewhere s (entry.Refused c j granule found) k other = refl
map_elsewhere s (entry.Settled c j granule) k other = refl
map_elsewhere s (entry.Looked c j granule space gpi allowed) k other = refl

-- the map in blocks whose lock the caller doesn't hold
map_left : (g : GeometryData) (s : Scene) (c : ℕ) (me x : Caller) (o : Option Entry) (k : ℕ) → IfSome o (IsEntryOf g s c me x) → holds (lock_of g.setup k) me ≡ false → map_in s k ≡ map_next s o k
map_left g s c me x None k entry free = refl
map_left g s c me x (Some e) k entry free =
    elim (entry_block g e) [
      | inl same ↦ ap (λ (st : State). map_at st.map k) (sym (same (state_in s)))
      | inr on ↦ map_elsewhere (state_in s) e k (λ here. absurd (let both : true ≡ false = sym (entry.block _ on) ∙ ap (λ (j : ℕ). holds (lock_of g.setup j) me) (sym here) ∙ free in cc))
    ]

opened_next : (g : GeometryData) (s : Scene) (c : ℕ) (me x : Caller) (o : Option Entry) → HoldsIn g s → slice_get s.callers c ≡ Some me → IfSome o (IsEntryOf g s c me x) → open_by x ≡ opened_with o (open_by me)
    → OpenAreHeld (state_after (state_in s) (list_of o)).opened (set s.callers c x)
opened_next g s c me x None stands at entry own = opened_stays (state_in s).opened s.callers c me x at stands.opened own
opened_next g s c me x (Some e) stands at entry own =
    elim (entry_block g e) [
      | inl same ↦
          subst (λ (st : State). OpenAreHeld st.opened (set s.callers c x)) (sym (same (state_in s)))
          (opened_stays (state_in s).opened s.callers c me x at stands.opened (own ∙ ap (λ (st : State). st.opened) (same (record { map = []; opened = open_by me }))))
      | inr on ↦ opened_changes (state_in s) s.callers c me x e at stands.opened own (others_closed (record { stands = stands; at = at; has = entry.block _ on }) (granule_in e) refl)
    ]

-- ---- what a step leaves of the others

module _ {g : GeometryData} {s : Scene} {c : ℕ} {me x : Caller} {n : Option WordName} {after : List ℕ} {o : Option Entry} (step : Step g s c me x n after o) where
  -- a lock that another holds
  not_mine : (d m : ℕ) (y : Caller) → d ≢ c → slice_get s.callers d ≡ Some y → holds m y ≡ true → holds m me ≡ false
  not_mine d m y apart there has =
      elim (cases_Bool (holds m me)) [ inl mine ↦ absurd (held_once (record { stands = step.stands; at = step.at; has = mine }) d y apart there has) | inr free ↦ free ]

  others_see : (d : ℕ) (y : Caller) → d ≢ c → slice_get s.callers d ≡ Some y → Sees (map_next s o) after y
  others_see d y apart there =
      (placed_at g s d y step.stands there).sees (map_in s) (map_next s o) s.words after
      (λ m has.
      let free = not_mine d m y apart there has in
      block_left m (map_in s) (map_next s o) step.writes (step.apart m free) (λ k lock. map_left g s c me x o k step.entry (subst (λ (j : ℕ). holds j me ≡ false) (sym lock) free)))
      (step.stands.seen d y there)

  others_alone : (d m : ℕ) (y : Caller) → d ≢ c → slice_get s.callers d ≡ Some y → holds m y ≡ true → IsAlone g.setup m d (call_of y) (s.history ++ list_of o)
  others_alone d m y apart there has =
      grown (IsAlone g.setup m d (call_of y)) (IsEntryOf g s c me x) s.history o step.entry (step.stands.alone d m y there has)
      (λ e fits. alone_other g.setup m d (call_of y) s.history e (step.stands.alone d m y there has)
      (elim (cases_Bool (is_on_block g.setup m e)) [ inl on ↦ absurd (let both : true ≡ false = sym (fits.block m on) ∙ not_mine d m y apart there has in cc) | inr off ↦ off ]))

  -- what others have changed and not raised keeps its generations
  others_unraised : (d : ℕ) (u : Caller) → d ≢ c → slice_get s.callers d ≡ Some u → (y : Size) (k : ℕ) (v : Gpi) → In (k, v) (unraised_by y u) → generation_around g after y k ≡ generation_around g s.words y k
  others_unraised d u apart there y k v has =
      let place = (placed_at g s d u step.stands there).unraised y k v has in
      let free = not_mine d (lock_of g.setup k) u apart there place.0 in
      (block_left (lock_of g.setup k) (map_in s) (map_in s) step.writes (step.apart (lock_of g.setup k) free) (λ n lock. refl)).generations y (k * granule_bytes g.setup) place.1 refl

  -- the walks of all callers hold
  all_walks : (d : ℕ) (y : Caller) → slice_get (set s.callers c x) d ≡ Some y → (w : Walk) → In w (walks_by y) → WalkHolds g after (map_next s o) (set s.callers c x) w
  all_walks =
      let stays : (w : Walk) → WalkHolds g s.words (map_in s) s.callers w → WalkHolds g after (map_next s o) (set s.callers c x) w =
      λ w old. walk_stays g s c me x after (map_next s o) (s.history ++ list_of o) w step.at step.rises step.tracks old in
      each_set (λ (d : ℕ) (y : Caller). (w : Walk) → In w (walks_by y) → WalkHolds g after (map_next s o) (set s.callers c x) w) s.callers c x
      (λ w has. elim (step.walks w has) [ inl old ↦ stays w (step.stands.walks c me step.at w old) | inr new ↦ new ])
      (λ d y apart there w has. stays w (step.stands.walks d y there w has))

  others_on : (d : ℕ) (y : Caller) → d ≢ c → slice_get s.callers d ≡ Some y → (p : ℕ) → number_by y ≡ Some p → slice_index after (place_of g (Duty p)) ≡ duty_by y
  others_on d y apart there p is =
      step.writes.beside (Duty p) (number_low g y p (made_at_place g s d y step.stands there) is) (λ same. apart (step.stands.numbers d c p y me there step.at is (step.duty.own p same)))
      ∙ step.stands.duties d p y there is

  others_off : OthersAreOff g after (set s.callers c x)
  others_off p low none =
      let not_me : number_by me ≡ Some p → ⊥ = λ is. none c x (get_set_here s.callers c me x step.at) (step.duty.number ∙ is) in
      step.writes.beside (Duty p) low (λ same. not_me (step.duty.own p same))
      ∙ step.stands.others p low (λ d y there is.
      elim (cases_eq d c) [
        | inl same ↦ not_me (ap number_by (let both : Some me ≡ Some y = sym step.at ∙ ap (slice_get s.callers) (sym same) ∙ there in let here : me ≡ y = cc in here) ∙ is)
        | inr away ↦ none d y (get_set_other s.callers c d x away ∙ there) is
      ])

  pub step_keeps : HoldsIn g (scene_after s c x after (list_of o))
  step_keeps =
      let h = s.history in
      let stands = step.stands in
      let same : state_after (start s.first) (h ++ list_of o) ≡ state_after (state_in s) (list_of o) = state_after-append (start s.first) h (list_of o) in
      let added = added_of g s c me x o step.entry in
      record {
        shape = record {
          geometry = stands.shape.geometry;
          size = step.writes.size ∙ stands.shape.size;
          granules = stands.shape.granules;
          made = All-set (IsMade g) s.callers c x step.made stands.shape.made;
        };
        tables = subst (λ (st : State). AreTables g after (set s.callers c x) (map_at st.map)) (sym same) step.tables;
        opened = subst (λ (st : State). OpenAreHeld st.opened (set s.callers c x)) (sym same) (opened_next g s c me x o stands step.at step.entry step.opened);
        locks = locks_keep s.words after s.callers c me x step.at stands.locks step.locks;
        seen = subst (λ (st : State). (d : ℕ) (y : Caller) → slice_get (set s.callers c x) d ≡ Some y → Sees (map_at st.map) after y) (sym same)
            (each_set (λ (d : ℕ) (y : Caller). Sees (map_next s o) after y) s.callers c x step.seen others_see);
        generations = λ y region within. omega (arith, stands.generations y region within, step.raised y region within, count_grown g y region h o, count_set (is_due y region) s.callers c me x step.at);
        undisturbed = grown (AreUndisturbed g.setup) (IsEntryOf g s c me x) h o step.entry stands.undisturbed
            (λ e fits. undisturbed_more g.setup h e c (call_of me) stands.undisturbed (λ m on. stands.alone c m me step.at (fits.block m on)) (is_by_own c (call_of me) e fits.caller fits.call));
        alone = λ d m y there. each_set (λ (d : ℕ) (y : Caller). holds m y ≡ true → IsAlone g.setup m d (call_of y) (h ++ list_of o)) s.callers c x
            (λ has. grown (IsAlone g.setup m c (call_of x)) (IsEntryOf g s c me x) h o step.entry (step.alone m has)
            (λ e fits. alone_own g.setup m c (call_of x) h e (step.alone m has) (is_by_own c (call_of x) e fits.caller (fits.call ∙ sym fits.goes_on))))
            (λ d y apart there has. others_alone d m y apart there has)
            d y there;
        counted = λ d k y u given there. each_set (λ (d : ℕ) (y : Caller). slice_get (caller_tasks y) k ≡ Some u → slice_get (known_answers y) k ≡ Some given → IsCounted g d k u given (h ++ list_of o)) s.callers c x
            (λ asked answered. step.counted k u given asked answered)
            (λ d y apart there asked answered. counted_grown g s c d k me x u given o step.entry (inl apart) (stands.counted d k y u given there asked answered))
            d y there;
        history = history_keeps s.first s.callers h c (call_of me) me x (list_of o) step.at stands.history added.0 step.own added.1;
        duties = λ d p y there. each_set (λ (d : ℕ) (y : Caller). (p : ℕ) → number_by y ≡ Some p → slice_index after (place_of g (Duty p)) ≡ duty_by y) s.callers c x step.duty.word others_on d y there p;
        others = others_off;
        numbers = numbers_keep s.callers c me x step.at step.duty.number stands.numbers;
        decisions = subst (λ (st : State). DecisionsHold (map_at st.map) (h ++ list_of o) (set s.callers c x)) (sym same) (decisions_keep step.at step.marks stands.decisions);
        lines = subst (λ (st : State). LinesHold g after (map_at st.map) (h ++ list_of o) (set s.callers c x)) (sym same) (lines_keep step.at step.marks stands.lines);
        touches = subst (λ (st : State). TouchesHold g after (map_at st.map) (h ++ list_of o) (set s.callers c x)) (sym same) (touches_keep step.at step.marks stands.touches);
        least = λ y region within. omega (arith, stands.least y region within, step.rises y region within);
        loads = each_set (λ (d : ℕ) (y : Caller). HasLoaded after y) s.callers c x step.loads
            (λ d y apart there. caller_loads_rise g s.words after y (made_at_place g s d y stands there) step.rises (stands.loads d y there));
        stamps = each_set (λ (d : ℕ) (y : Caller). HasOwnStamps s.first (h ++ list_of o) d y) s.callers c x step.stamps
            (λ d y apart there. own_stamps_grow s.first h (list_of o) d y (stands.stamps d y there));
        walks = subst (λ (st : State). (d : ℕ) (y : Caller) → slice_get (set s.callers c x) d ≡ Some y → (w : Walk) → In w (walks_by y) → WalkHolds g after (map_at st.map) (set s.callers c x) w) (sym same) all_walks;
        pairs = pairs_stay g s c me x after (map_next s o) (list_of o) step.at step.tracks others_unraised stands.pairs;
      }

-- ---- a step without an entry that writes neither a generation nor an L1 word

-- a caller at which the words are whole before and after it
pub tables_whole : {g : GeometryData} {s : Scene} (c : ℕ) {me : Caller} (x : Caller) {n : Option WordName} {after : List ℕ} → HoldsIn g s → slice_get s.callers c ≡ Some me → Writes g s.words n after → is_level1 n ≡ false
    → (holder_by me).step ≡ Whole → (holder_by x).step ≡ Whole → AreTables g after (set s.callers c x) (map_in s)
tables_whole {g = g} {s = s} c {me = me} x stands at writes unlike before whole =
    let there : slice_get (map holder_by s.callers) c ≡ Some (holder_by me) = slice_get-map holder_by s.callers c ∙ ap (option_map holder_by) at in
    record {
      level1 = words_left writes (map_in s) _ unlike stands.shape.geometry
          (still_words g (map_in s) (map_in s) (apart_by g.setup (map holder_by s.callers)) (apart_by g.setup (map holder_by (set s.callers c x))) s.words
          (λ w. ap (λ (o : Option ℕ). canonical_word g.setup (map_in s) o w)
          (whole_turns g.setup (map holder_by s.callers) c (holder_by me) (holder_by x) w there before whole ∙ ap (λ (all : List Holder). apart_by g.setup all w) (sym (map-set holder_by s.callers c x))))
          stands.tables.level1);
      blocks = stands.tables.blocks;
    }

-- where no generation is written
pub unraised_left : {g : GeometryData} {s : Scene} (c : ℕ) {me : Caller} {n : Option WordName} {after : List ℕ} → HoldsIn g s → slice_get s.callers c ≡ Some me → Writes g s.words n after → is_generation n ≡ false
    → (y : Size) (k : ℕ) (v : Gpi) → In (k, v) (unraised_by y me) → generation_around g after y k ≡ generation_around g s.words y k
unraised_left {g = g} {s = s} c {me = me} stands at writes plain y k v has =
    let place = (placed_at g s c me stands at).unraised y k v has in
    generations_left writes plain y (k * granule_bytes g.setup / size_bytes y) (generation_named g y (k * granule_bytes g.setup) place.1)

-- It has open and owes what it did.
pub record Aside (g : GeometryData) (s : Scene) (c : ℕ) (me x : Caller) (n : Option WordName) (after : List ℕ) : Type 0 where
  pub stands : HoldsIn g s
  pub at : slice_get s.callers c ≡ Some me
  pub made : IsMade g x
  pub writes : Writes g s.words n after
  pub no_level1 : is_level1 n ≡ false
  pub no_generation : is_generation n ≡ false
  pub duty : MindsDuty g me x n after
  pub loads : HasLoaded after x
  pub stamps : HasOwnStamps s.first s.history c x
  pub no_line : is_line n ≡ false
  pub unraised : (y : Size) → unraised_by y x ≡ unraised_by y me
  pub unpassed : (p : ℕ) → unpassed_by p x ≡ unpassed_by p me
  pub uncleaned : uncleaned_by x ≡ uncleaned_by me
  pub decided : (d : Decision) → In d (decided_by x) → In d (decided_by me)
  pub touching : touching_by x ≡ touching_by me
  pub walks : (w : Walk) → In w (walks_by x) → In w (walks_by me)
  pub before : (holder_by me).step ≡ Whole
  pub whole : (holder_by x).step ≡ Whole
  pub opened : open_by x ≡ open_by me
  pub due : (y : Size) (region : ℕ) → is_due y region x ≡ is_due y region me
  pub locks : (m : ℕ) → m < 128 → lock_bit after m + one (holds m me) ≡ lock_bit s.words m + one (holds m x)
  pub seen : Sees (map_in s) after x
  pub alone : (m : ℕ) → holds m x ≡ true → IsAlone g.setup m c (call_of x) s.history
  pub counted : (k : ℕ) (u : Task) (given : Answer) → slice_get (caller_tasks x) k ≡ Some u → slice_get (known_answers x) k ≡ Some given → IsCounted g c k u given s.history
  pub own : own_of c x ≡ own_of c me

pub aside_keeps : {g : GeometryData} {s : Scene} {c : ℕ} {me x : Caller} {n : Option WordName} {after : List ℕ} → Aside g s c me x n after → HoldsIn g (scene_after s c x after [])
aside_keeps {g = g} {s = s} {c = c} {x = x} {n = n} aside =
    step_keeps {n = n} {o = None} (record {
      stands = aside.stands;
      at = aside.at;
      made = aside.made;
      writes = aside.writes;
      apart = λ m free. plain_apart g m n aside.no_generation;
      duty = aside.duty;
      rises = rises_left aside.writes aside.no_generation;
      loads = aside.loads;
      stamps = own_stamps_grow s.first s.history [] c x aside.stamps;
      tracks = tracks_same g s _ _ _ _ _ (λ k. refl) aside.unraised (unraised_left c aside.stands aside.at aside.writes aside.no_generation);
      walks = λ w has. inl (aside.walks w has);
      marks = marks_same g s c _ x _ _ _ (λ k. refl) (λ k sp. ap (seen_in k sp) (append-nil s.history)) aside.unpassed aside.uncleaned aside.duty.number aside.decided aside.touching
          (λ k sp. lines_left aside.writes aside.no_line aside.stands.shape.geometry k sp);
      entry = tt;
      tables = tables_whole c x aside.stands aside.at aside.writes aside.no_level1 aside.before aside.whole;
      opened = aside.opened;
      locks = aside.locks;
      seen = aside.seen;
      raised = λ y region within. rw (generations_left aside.writes aside.no_generation y region within, aside.due y region) (omega arith);
      alone = aside.alone;
      counted = λ k u given asked answered. subst (IsCounted g c k u given) (sym (append-nil s.history)) (aside.counted k u given asked answered);
      own = aside.own ∙ sym (append-nil _);
    })
