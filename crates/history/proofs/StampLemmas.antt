-- Stamps of accesses: what was seen between them, and what stays so as a history grows.
use Rattle.std.proofs.Common.{◌≡◌, ℕ, ◌+◌, ◌-◌, ◌<◌, ◌≤◌, ◌++◌, ◌∷◌, [], List, length, take, drop, get_or, min, Bool, true, false, cond, Option, Some, None, refl, sym, ap, ◌∙◌, subst, arith, inl, inr, append-nil, append_assoc, length-take, length-drop}
use Rattle.std.specs.Prelude.{slice_get, Contains, MatchOption}
use Rattle.std.specs.List.{list_any, count_by}
use Rattle.std.proofs.lemmas.Bool.{cases_Bool, eq-eqb}
use Rattle.std.proofs.lemmas.List.{get_or-take, get_or-drop}
use Rattle.std.proofs.lemmas.List.Sums.{sum_by-append, sum_by-cons}
use Rattle.std.proofs.lemmas.Option.{slice_get_within, slice_get_read, get_or_from_slice_get}
use Rattle.gpi_values.specs.declared.gpi.Gpi.{Gpi}
use Rattle.gpi_values.specs.declared.gpi.Space.{Space}
use Rattle.gpt_descriptors.specs.declared.size.Size.{Size}
use Rattle.gpt_descriptors.specs.declared.size.Reach.{Reach}
use Rattle.gpt_descriptors.specs.Sizes.{tag_size_of}
use Rattle.history.specs.declared.call.Task.{Task}
use Rattle.history.specs.declared.call.Task.TheVariants as task
use Rattle.history.specs.declared.call.Answer.{Answer}
use Rattle.history.specs.declared.call.Answer.TheVariants as answer
use Rattle.history.specs.declared.call.Access.{Access}
use Rattle.history.specs.declared.call.Via.{Via}
use Rattle.history.specs.declared.call.Via.TheVariants as via
use Rattle.history.specs.declared.entry.Entry.{Entry}
use Rattle.history.specs.declared.entry.Entry.TheVariants as entry
use Rattle.history.specs.Entries.{changes_granule}
use Rattle.history.specs.States.{State, start, after_entry, state_after}
use Rattle.history.specs.Legality.{is_still, is_seen}
use Rattle.history.specs.Counts.{count_around}
use Rattle.history.specs.declared.call.OldWalk.{OldWalk}
use Rattle.history.specs.InnerStamps.{IsDecided}
use Rattle.history.specs.Values.{SawAmong, is_change_around}
use Rattle.history.specs.Stamps.{WasOld, gpi_after, Gave, SawBetween, AreStamps, FitStamps, IsStamped, IsStampedCall, AreStamped, HasStamps, walked}
use Rattle.history.proofs.HistoryLemmas.{state_after-append}
use Rattle.history.proofs.ListLemmas.{get_set_other, get_append}

-- ---- a part of a list

-- what a part of a list has is in the list, at a place of that part
part_has : {X : Type 0} (xs : List X) (start end : ℕ) (x : X) → end ≤ length xs → Contains (take (end - start) (drop start xs)) x
    → (k : ℕ) × (start ≤ k) × (k < end) × (slice_get xs k ≡ Some x)
part_has xs start end x within has =
    let many : length (take (end - start) (drop start xs)) ≡ min (end - start) (length xs - start) = length-take (end - start) (drop start xs) ∙ ap (λ (n : ℕ). min (end - start) n) (length-drop start xs) in
    let low : has.0 < end - start = omega (arith, has.1) in
    let same : get_or (take (end - start) (drop start xs)) has.0 x ≡ get_or xs (start + has.0) x = get_or-take (end - start) (drop start xs) has.0 x low ∙ get_or-drop start xs has.0 x in
    (start + has.0, omega arith, omega arith, slice_get_read xs (length xs) (start + has.0) x refl (omega arith) (sym has.2 ∙ same))

has_part : {X : Type 0} (xs : List X) (start end k : ℕ) (x : X) → end ≤ length xs → start ≤ k → k < end → slice_get xs k ≡ Some x
    → Contains (take (end - start) (drop start xs)) x
has_part xs start end k x within low high at =
    let many : length (take (end - start) (drop start xs)) ≡ min (end - start) (length xs - start) = length-take (end - start) (drop start xs) ∙ ap (λ (n : ℕ). min (end - start) n) (length-drop start xs) in
    let place : start + (k - start) ≡ k = omega arith in
    let same : get_or (take (end - start) (drop start xs)) (k - start) x ≡ get_or xs k x =
    get_or-take (end - start) (drop start xs) (k - start) x (omega arith) ∙ get_or-drop start xs (k - start) x ∙ ap (λ (n : ℕ). get_or xs n x) place in
    (k - start, omega arith, same ∙ get_or_from_slice_get xs k x x at)

-- ---- what was seen among the values

pub part_saw : (values : List Gpi) (first lo hi start end : ℕ) (gpi : Gpi) → first ≤ lo → start ≡ lo - first → end ≡ min (length values) (hi + 2 - first)
    → Contains (take (end - start) (drop start values)) gpi → SawAmong values first lo hi gpi
part_saw values first lo hi start end gpi least from to has =
    let at = part_has values start end gpi (omega arith) has in
    record { changes = at.0; low = omega (arith, at.1); high = omega (arith, at.2); gave = at.3 }

pub saw_part : (values : List Gpi) (first lo hi start end : ℕ) (gpi : Gpi) → first ≤ lo → start ≡ lo - first → end ≡ min (length values) (hi + 2 - first)
    → SawAmong values first lo hi gpi → Contains (take (end - start) (drop start values)) gpi
saw_part values first lo hi start end gpi least from to saw =
    let within : saw.changes < length values = slice_get_within values saw.changes gpi saw.gave in
    has_part values start end saw.changes gpi (omega arith) (omega arith) (omega arith) saw.gave

pub saw_none : (values : List Gpi) (first lo hi start end : ℕ) (gpi : Gpi) → first ≤ lo → start ≡ lo - first → end ≡ min (length values) (hi + 2 - first)
    → end ≤ start → SawAmong values first lo hi gpi → ⊥
saw_none values first lo hi start end gpi least from to empty saw =
    let within : saw.changes < length values = slice_get_within values saw.changes gpi saw.gave in
    omega arith

-- ---- the map as a history grows

-- an entry that doesn't change a granule leaves its GPI
pub entry_stays : (s : State) (granule : ℕ) (e : Entry) → changes_granule granule e ≡ false → slice_get (after_entry s e).map granule ≡ slice_get s.map granule
entry_stays s granule (entry.Refused c k g found) other = refl
entry_stays s granule (entry.Changed c k g from to) other =
    get_set_other s.map g granule to (λ same. let both : true ≡ false = sym (eq-eqb g granule (sym same)) ∙ other in cc)
entry_stays s granule (entry.Settled c k g) other = refl
entry_stays s granule (entry.Looked c k g space gpi allowed) other = refl

-- what no entry passes the first one doesn't, nor the others
none_first : {X : Type 0} (p : X → Bool) (x : X) (xs : List X) → list_any p (x ∷ xs) ≡ false → (p x ≡ false) × (list_any p xs ≡ false)
none_first p x xs none =
    elim (cases_Bool (p x)) [
      | inl passes ↦ absurd (let both : true ≡ false = rw passes at none in cc)
      | inr other ↦ (other, rw other at none)
    ]

state_stays : (s : State) (granule : ℕ) (h : List Entry) → list_any (changes_granule granule) h ≡ false → slice_get (state_after s h).map granule ≡ slice_get s.map granule
state_stays s granule [] none = refl
state_stays s granule (e ∷ h) none =
    let parts = none_first (changes_granule granule) e h none in
    state_stays (after_entry s e) granule h parts.1 ∙ entry_stays s granule e parts.0

pub map_stays : (map : List Gpi) (h made : List Entry) (granule : ℕ) → list_any (changes_granule granule) made ≡ false → gpi_after map (h ++ made) granule ≡ gpi_after map h granule
map_stays map h made granule none =
    ap (λ (s : State). slice_get s.map granule) (state_after-append (start map) h made) ∙ state_stays (state_after (start map) h) granule made none

-- ---- counts as a history grows

pub count_joined : (first bytes granule : ℕ) (z : Size) (h made : List Entry)
    → count_around first bytes granule (h ++ made) z ≡ count_around first bytes granule h z + count_by (is_change_around bytes z granule) made
count_joined first bytes granule z h made =
    let split : count_by (is_change_around bytes z granule) (h ++ made) ≡ count_by (is_change_around bytes z granule) h + count_by (is_change_around bytes z granule) made =
    sum_by-append (λ e. cond (is_change_around bytes z granule e) 1 0) h made
    in
    omega (arith, split)

count_none : {X : Type 0} (p : X → Bool) (xs : List X) → list_any p xs ≡ false → count_by p xs ≡ 0
count_none p [] none = refl
count_none p (x ∷ xs) none =
    let parts = none_first p x xs none in
    let step : count_by p (x ∷ xs) ≡ 0 + count_by p xs = sum_by-cons (λ y. cond (p y) 1 0) x xs ∙ rw parts.0 refl in
    let rest : count_by p xs ≡ 0 = count_none p xs parts.1 in
    omega arith

pub count_grows : (first bytes granule : ℕ) (z : Size) (h made later : List Entry) → later ≡ h ++ made → count_around first bytes granule h z ≤ count_around first bytes granule later z
count_grows first bytes granule z h made later parts =
    let joined = count_joined first bytes granule z h made in
    subst (λ (l : List Entry). count_around first bytes granule h z ≤ count_around first bytes granule l z) (sym parts) (omega (arith, joined))

pub count_stays : (first bytes granule : ℕ) (z : Size) (h made : List Entry) → list_any (is_change_around bytes z granule) made ≡ false
    → count_around first bytes granule (h ++ made) z ≡ count_around first bytes granule h z
count_stays first bytes granule z h made none =
    let joined = count_joined first bytes granule z h made in
    let nothing : count_by (is_change_around bytes z granule) made ≡ 0 = count_none (is_change_around bytes z granule) made none in
    omega (arith, joined, nothing)

-- ---- what changes gave

pub gave_in : (map : List Gpi) (first bytes granule : ℕ) (z : Size) (gpi : Gpi) (before after h : List Entry) → h ≡ before ++ after → gpi_after map before granule ≡ Some gpi
    → Gave map first bytes granule z (count_around first bytes granule before z) gpi h
gave_in map first bytes granule z gpi before after h parts gives = record { before = before; after = after; parts = parts; counted = refl; gives = gives }

pub gave_now : (map : List Gpi) (first bytes granule : ℕ) (z : Size) (gpi : Gpi) (h : List Entry) → gpi_after map h granule ≡ Some gpi
    → Gave map first bytes granule z (count_around first bytes granule h z) gpi h
gave_now map first bytes granule z gpi h gives = gave_in map first bytes granule z gpi h [] h (sym (append-nil h)) gives

-- the parts of a history that grows
later_parts : {X : Type 0} (h before after made later : List X) → h ≡ before ++ after → later ≡ h ++ made → later ≡ before ++ (after ++ made)
later_parts {X = X} h before after made later parts more = more ∙ ap (λ (l : List X). l ++ made) parts ∙ append_assoc before after made

pub gave_later : (map : List Gpi) (first bytes granule : ℕ) (z : Size) (number : ℕ) (gpi : Gpi) (h made later : List Entry) → later ≡ h ++ made
    → Gave map first bytes granule z number gpi h → Gave map first bytes granule z number gpi later
gave_later map first bytes granule z number gpi h made later more gave = record {
  before = gave.before;
  after = gave.after ++ made;
  parts = later_parts h gave.before gave.after made later gave.parts more;
  counted = gave.counted;
  gives = gave.gives;
}

-- the number of a change is one of the numbers that the history has
pub gave_within : (map : List Gpi) (first bytes granule : ℕ) (z : Size) (number : ℕ) (gpi : Gpi) (h : List Entry) → Gave map first bytes granule z number gpi h
    → (first ≤ number) × (number ≤ count_around first bytes granule h z)
gave_within map first bytes granule z number gpi h gave =
    let grows = count_grows first bytes granule z gave.before gave.after h gave.parts in
    let counted = gave.counted in
    (omega arith, omega arith)

-- the map's GPI is seen between stamps around the count
pub saw_now : (map : List Gpi) (first bytes granule : ℕ) (z : Size) (lo hi : ℕ) (gpi : Gpi) (h : List Entry) → gpi_after map h granule ≡ Some gpi
    → lo ≤ count_around first bytes granule h z → count_around first bytes granule h z ≤ hi + 1 → SawBetween map first bytes granule z lo hi gpi h
saw_now map first bytes granule z lo hi gpi h gives low high =
    record { number = count_around first bytes granule h z; low = low; high = high; gave = gave_now map first bytes granule z gpi h gives }

pub saw_later : (map : List Gpi) (first bytes granule : ℕ) (z : Size) (lo hi : ℕ) (gpi : Gpi) (h made later : List Entry) → later ≡ h ++ made
    → SawBetween map first bytes granule z lo hi gpi h → SawBetween map first bytes granule z lo hi gpi later
saw_later map first bytes granule z lo hi gpi h made later more saw = record {
  number = saw.number;
  low = saw.low;
  high = saw.high;
  gave = gave_later map first bytes granule z saw.number gpi h made later more saw.gave;
}

-- ---- stamps

-- an access that was decided by the map's GPI, between two loads of the generation
pub are_stamps_now : (map : List Gpi) (first bytes granule : ℕ) (gpi : Gpi) (reach : Reach) (lo hi : ℕ) (before after h : List Entry) → h ≡ before ++ after → gpi_after map before granule ≡ Some gpi
    → first ≤ lo → lo ≤ count_around first bytes granule before (tag_size_of reach) → count_around first bytes granule before (tag_size_of reach) ≤ hi + 1
    → lo ≤ hi → hi ≤ count_around first bytes granule h (tag_size_of reach)
    → AreStamps map first bytes granule gpi reach lo hi before h
are_stamps_now map first bytes granule gpi reach lo hi before after h parts gives least low high order most = record {
  least = least;
  order = order;
  low = low;
  high = high;
  most = most;
  saw = record {
    number = count_around first bytes granule before (tag_size_of reach);
    low = low;
    high = high;
    gave = gave_in map first bytes granule (tag_size_of reach) gpi before after h parts gives;
  };
}

pub are_stamps_later : (map : List Gpi) (first bytes granule : ℕ) (gpi : Gpi) (reach : Reach) (lo hi : ℕ) (before h made later : List Entry) → later ≡ h ++ made
    → AreStamps map first bytes granule gpi reach lo hi before h → AreStamps map first bytes granule gpi reach lo hi before later
are_stamps_later map first bytes granule gpi reach lo hi before h made later more stamps =
    let grows = count_grows first bytes granule (tag_size_of reach) h made later more in
    let most = stamps.most in
    record {
      least = stamps.least;
      order = stamps.order;
      low = stamps.low;
      high = stamps.high;
      most = omega arith;
      saw = saw_later map first bytes granule (tag_size_of reach) lo hi gpi h made later more stamps.saw;
    }

fit_stamps_later : (map : List Gpi) (first bytes granule : ℕ) (gpi : Gpi) (v : Via) (before h made later : List Entry) → later ≡ h ++ made
    → FitStamps map first bytes granule gpi v before h → FitStamps map first bytes granule gpi v before later
fit_stamps_later map first bytes granule gpi via.Still before h made later more fit = fit
fit_stamps_later map first bytes granule gpi (via.Hit reach at) before h made later more fit = are_stamps_later map first bytes granule gpi reach at at before h made later more fit
fit_stamps_later map first bytes granule gpi (via.Cold reach lo hi) before h made later more fit =
    (are_stamps_later map first bytes granule gpi reach lo hi before h made later more fit.0, fit.1)
fit_stamps_later map first bytes granule gpi (via.Missed reach fresh tag at lo hi) before h made later more fit =
    (are_stamps_later map first bytes granule gpi fresh lo hi before h made later more fit.0, fit.1, fit.2)

pub stamped_later : (map : List Gpi) (first bytes c k granule : ℕ) (space : Space) (access : Access) (h made later : List Entry) → later ≡ h ++ made
    → IsStamped map first bytes c k granule space access h → IsStamped map first bytes c k granule space access later
stamped_later map first bytes c k granule space access h made later more stamped = record {
  before = stamped.before;
  after = stamped.after ++ made;
  parts = later_parts h stamped.before (entry.Looked c k granule space access.gpi access.allowed ∷ stamped.after) made later stamped.parts more;
  stamps = fit_stamps_later map first bytes granule access.gpi access.via stamped.before h made later more stamped.stamps;
}

-- ---- from the deciding act to the second load

pub decided_now : (map : List Gpi) (first bytes c k granule : ℕ) (space : Space) (gpi : Gpi) (allowed : Bool) (old : Option OldWalk) (reach : Reach) (lo : ℕ) (h later : List Entry) → later ≡ h ++ entry.Looked c k granule space gpi allowed ∷ []
    → gpi_after map h granule ≡ Some gpi → first ≤ lo → lo ≤ count_around first bytes granule h (tag_size_of reach)
    → MatchOption old (Unit {0}) (λ walk. WasOld first bytes granule walk.reach walk.tag walk.at h)
    → IsDecided map first bytes c k granule space gpi allowed old reach lo later
decided_now map first bytes c k granule space gpi allowed old reach lo h later more gives least low missed =
    record { before = h; after = []; parts = more; gives = gives; least = least; low = low; missed = missed }

pub decided_later : (map : List Gpi) (first bytes c k granule : ℕ) (space : Space) (gpi : Gpi) (allowed : Bool) (old : Option OldWalk) (reach : Reach) (lo : ℕ) (h made later : List Entry) → later ≡ h ++ made
    → IsDecided map first bytes c k granule space gpi allowed old reach lo h → IsDecided map first bytes c k granule space gpi allowed old reach lo later
decided_later map first bytes c k granule space gpi allowed old reach lo h made later more decided = record {
  before = decided.before;
  after = decided.after ++ made;
  parts = later_parts h decided.before (entry.Looked c k granule space gpi allowed ∷ decided.after) made later decided.parts more;
  gives = decided.gives;
  least = decided.least;
  low = decided.low;
  missed = decided.missed;
}

walked_fits : (map : List Gpi) (first bytes granule : ℕ) (gpi : Gpi) (old : Option OldWalk) (reach : Reach) (lo hi : ℕ) (before h : List Entry) → AreStamps map first bytes granule gpi reach lo hi before h
    → gpi_after map before granule ≡ Some gpi → MatchOption old (Unit {0}) (λ walk. WasOld first bytes granule walk.reach walk.tag walk.at before)
    → FitStamps map first bytes granule gpi (walked old reach lo hi) before h
walked_fits map first bytes granule gpi None reach lo hi before h stamps gives missed = (stamps, gives)
walked_fits map first bytes granule gpi (Some walk) reach lo hi before h stamps gives missed = (stamps, gives, missed)

-- at the second load the count of the region is its generation, or one more
pub walk_stamped : (map : List Gpi) (first bytes c k granule : ℕ) (space : Space) (access : Access) (old : Option OldWalk) (reach : Reach) (lo hi : ℕ) (h : List Entry) → access.via ≡ walked old reach lo hi
    → lo ≤ hi → hi ≤ count_around first bytes granule h (tag_size_of reach) → count_around first bytes granule h (tag_size_of reach) ≤ hi + 1
    → IsDecided map first bytes c k granule space access.gpi access.allowed old reach lo h → IsStamped map first bytes c k granule space access h
walk_stamped map first bytes c k granule space access old reach lo hi h is order most high decided =
    let grows = count_grows first bytes granule (tag_size_of reach) decided.before (entry.Looked c k granule space access.gpi access.allowed ∷ decided.after) h decided.parts in
    let stamps = are_stamps_now map first bytes granule access.gpi reach lo hi decided.before (entry.Looked c k granule space access.gpi access.allowed ∷ decided.after) h decided.parts decided.gives decided.least decided.low (omega arith) order most in
    record {
      before = decided.before;
      after = decided.after;
      parts = decided.parts;
      stamps = subst (λ (v : Via). FitStamps map first bytes granule access.gpi v decided.before h) (sym is)
          (walked_fits map first bytes granule access.gpi old reach lo hi decided.before h stamps decided.gives decided.missed);
    }

-- an access that a kept walk decides has both stamps at once
pub hit_stamped : (map : List Gpi) (first bytes c k granule : ℕ) (space : Space) (access : Access) (reach : Reach) (at : ℕ) (h later : List Entry) → later ≡ h ++ entry.Looked c k granule space access.gpi access.allowed ∷ []
    → access.via ≡ via.Hit reach at → first ≤ at → at ≤ count_around first bytes granule h (tag_size_of reach) → count_around first bytes granule h (tag_size_of reach) ≤ at + 1
    → SawBetween map first bytes granule (tag_size_of reach) at at access.gpi h → IsStamped map first bytes c k granule space access later
hit_stamped map first bytes c k granule space access reach at h later more is least low high saw =
    let made : List Entry = entry.Looked c k granule space access.gpi access.allowed ∷ [] in
    let grows = count_grows first bytes granule (tag_size_of reach) h made later more in
    let stamps : AreStamps map first bytes granule access.gpi reach at at h later = record {
      least = least;
      order = omega arith;
      low = low;
      high = high;
      most = omega arith;
      saw = saw_later map first bytes granule (tag_size_of reach) at at access.gpi h made later more saw;
    } in
    record {
      before = h;
      after = [];
      parts = more;
      stamps = subst (λ (v : Via). FitStamps map first bytes granule access.gpi v h later) (sym is) stamps;
    }

-- ---- calls

pub stamped_call_later : (map : List Gpi) (first bytes c k : ℕ) (t : Task) (given : Answer) (h made later : List Entry) → later ≡ h ++ made
    → IsStampedCall map first bytes c k t given h → IsStampedCall map first bytes c k t given later
stamped_call_later map first bytes c k (task.Look pa space) (answer.Seen access) h made later more stamped =
    λ walked. stamped_later map first bytes c k _ space access h made later more (stamped walked)
stamped_call_later map first bytes c k t given h made later more stamped = tt

-- only an access has stamps
pub unstamped_call : (map : List Gpi) (first bytes c k : ℕ) (t : Task) (given : Answer) (h : List Entry) → is_seen given ≡ false → IsStampedCall map first bytes c k t given h
unstamped_call map first bytes c k (task.Look pa space) (answer.Seen access) h other = absurd cc
unstamped_call map first bytes c k t given h other = tt

-- and one at an L0 block has none
pub still_call : (map : List Gpi) (first bytes c k : ℕ) (t : Task) (access : Access) (h : List Entry) → is_still access.via ≡ true → IsStampedCall map first bytes c k t (answer.Seen access) h
still_call map first bytes c k (task.Look pa space) access h still = λ walked. absurd (let both : true ≡ false = sym still ∙ walked in cc)
still_call map first bytes c k t access h still = tt

pub stamped_calls_later : (map : List Gpi) (first bytes c : ℕ) (tasks : List Task) (answers : List Answer) (h made later : List Entry) → later ≡ h ++ made
    → AreStamped map first bytes c tasks answers h → AreStamped map first bytes c tasks answers later
stamped_calls_later map first bytes c tasks answers h made later more stamped =
    λ k t given asks says. stamped_call_later map first bytes c k t given h made later more (stamped k t given asks says)

-- answers that come have their stamps
pub stamped_calls_more : (map : List Gpi) (first bytes c : ℕ) (tasks : List Task) (answers more : List Answer) (h : List Entry) → AreStamped map first bytes c tasks answers h
    → ((i : ℕ) (t : Task) (given : Answer) → slice_get tasks (length answers + i) ≡ Some t → slice_get more i ≡ Some given → IsStampedCall map first bytes c (length answers + i) t given h)
    → AreStamped map first bytes c tasks (answers ++ more) h
stamped_calls_more map first bytes c tasks answers more h stamped come =
    λ k t given asks says. elim (get_append answers more k given says) [
      | inl there ↦ stamped k t given asks there.1
      | inr last ↦
          subst (λ (n : ℕ). IsStampedCall map first bytes c n t given h) (sym last.1)
          (come last.0 t given (subst (λ (n : ℕ). slice_get tasks n ≡ Some t) last.1 asks) last.2)
    ]

pub has_stamps_later : (map : List Gpi) (first bytes : ℕ) (tasks : List (List Task)) (answers : List (List Answer)) (h made later : List Entry) → later ≡ h ++ made
    → HasStamps map first bytes tasks answers h → HasStamps map first bytes tasks answers later
has_stamps_later map first bytes tasks answers h made later more stamps =
    λ c own given asks says. stamped_calls_later map first bytes c own given h made later more (stamps c own given asks says)
