-- The words before the first act: built tables among them mean the region map, and no caller is at work on them.
use Rattle.std.proofs.Common.{◌≡◌, ℕ, suc, [], ◌∷◌, ◌*◌, ◌/◌, ◌%◌, ◌<◌, List, map, length, true, false, Option, Some, None, append-nil, refl, sym, ap, ◌∙◌, subst, arith, eqb}
use Rattle.std.specs.Prelude.{slice_get, slice_index}
use Rattle.std.specs.Int.{bit_at}
use Rattle.std.specs.List.{All, flat_map, range_with_len}
use Rattle.std.proofs.lemmas.List.Concat.{flat_map-cons}
use Rattle.std.proofs.lemmas.List.Elements.{All-nil, All-weaker}
use Rattle.std.proofs.lemmas.Nat.Bits.{bit_at-zero}
use Rattle.std.proofs.Math.Nat.{div-lt_iff_lt-mul}
use Rattle.std.proofs.lemmas.List.FromFn.{length-map-range_with_len, get_or-map-range_with_len}
use Rattle.std.proofs.lemmas.Nat.{div_below}
use Rattle.std.proofs.lemmas.Option.{get_or_from_slice_get, slice_get_within}
use Rattle.gpi_values.specs.declared.gpi.Space.{Space}
use Rattle.alias_clean.specs.Lines.{bit_of, is_resident, has_line, line_at}
use Rattle.core_machine.specs.InnerCpuCaller.{Decision}
use Rattle.core_machine.specs.InnerCallers.{decided_by}
use Rattle.core_machine.specs.InnerCallers.{unraised_by, walks_by}
use Rattle.core_machine.specs.InnerWalks.{In}
use Rattle.walk_cache.specs.declared.walk.Walk.{Walk}
use Rattle.core_machine.proofs.Names.{Gpi, Size, SetupData, granule_bytes, words_of, table_words, space_words, space_granules, canonical_word, l1_index, GeometryData, IsGeometry, Lock, Duty, Generation, Level1, Line, place_of, l0_words, l1_words, Holder, Whole, Task, Answer, caller_in, answered_entries, AgentData, IsAgent, CpuData, IsCpu, idle_answers, IsMade, Sees, holds, duty_by, NumbersDiffer, is_due, known_answers, open_by, holder_by, HoldsIn, pairs_of, Caller, map_at, IsCounted}
use Rattle.core_machine.proofs.Names.gpi
use Rattle.core_machine.proofs.Names.size
use Rattle.core_machine.proofs.Names.caller
use Rattle.gpt_descriptors.specs.Entries.{l0_entry}
use Rattle.gpt_descriptors.specs.Places.{block_gpi_in}
use Rattle.gpt_descriptors.proofs.SizeLemmas.{table_is}
use Rattle.gpt_descriptors.proofs.CanonicalLemmas.{words_some}
use Rattle.table_meaning.specs.Meaning.{BlocksMean}
use Rattle.table_meaning.proofs.ChangeLemmas.{canonical_local}
use Rattle.table_meaning.proofs.EquationLemmas.{all_whole}
use Rattle.region_plan.specs.declared.region.Region.{Region}
use Rattle.region_plan.specs.Regions.{region_map, region_l0}
use Rattle.region_plan.specs.Refusals.{refusal}
use Rattle.table_build.specs.Built.{region_l1, is_bad_base}
use Rattle.table_build.proofs.MeaningLemmas.{built_word, built_block}
use Rattle.shared_words.specs.Start.{start_words}
use Rattle.shared_words.proofs.StartLemmas.{start_count, start_named}
use Rattle.delegate_ops.proofs.ScriptLemmas.{fresh_walked}
use Rattle.processor.specs.InnerCpus as cpus
use Rattle.processor.proofs.EntryLemmas.{fresh_quiet}
use Rattle.processor.proofs.ScriptLemmas.{fresh_walked as cpu_fresh_walked}
use Rattle.core_machine.proofs.AloneLemmas.{undisturbed_empty}
use Rattle.core_machine.proofs.CpuActs.{cpu_counted, starting_decided}
use Rattle.core_machine.proofs.StampLemmas.{idle_unstamped, starting_loads, starting_stamps}
use Rattle.core_machine.proofs.StepLemmas.{number_low}
use Rattle.core_machine.proofs.ListLemmas.{count_none}
use Rattle.core_machine.proofs.LockActs.{idle_counted}
use Rattle.core_machine.proofs.ToldLemmas.{idle_entries}
use Rattle.core_machine.specs.InnerCallers.{own_of, HasLoaded, HasOwnStamps, IsFresh}
use Rattle.core_machine.specs.InnerInvariant.{table_word, AreTables}
use Rattle.core_machine.specs.Facts.{map_after}
use Rattle.core_machine.specs.InnerOpening.{AreStarting}
use Rattle.core_machine.proofs.CallerLemmas.{holder_there}
use Rattle.core_machine.proofs.AddressLemmas.{index_inside, index_below}

-- ---- lists

index_of : (xs : List ℕ) (i x : ℕ) → slice_get xs i ≡ Some x → slice_index xs i ≡ x
index_of xs i x at = get_or_from_slice_get xs i x 0 at

-- a map as a list gives its granules
first_at : (m : ℕ → Gpi) (n k : ℕ) → k < n → map_at (map m (range_with_len 0 n)) k ≡ m k
first_at m n k within = get_or-map-range_with_len m 0 n k k gpi.Any within (omega arith)

-- ---- numbers of granules

-- the 512 MB around a word of the space are in the space
in_space : (s : SetupData) (w k : ℕ) → w < space_words s → k / 16 / words_of s size.FiveTwelve ≡ w / words_of s size.FiveTwelve → k < space_granules s
in_space s w k inside same =
    let n : ℕ = words_of s size.FiveTwelve in
    let whole : s.gigabytes * table_words s ≡ s.gigabytes * 2 * n = ap (λ (t : ℕ). s.gigabytes * t) (table_is s) ∙ grind arith in
    let block : w / n < s.gigabytes * 2 = div_below w n (s.gigabytes * 2) (words_some s size.FiveTwelve) (omega (arith, inside, whole)) in
    let row : k / 16 < s.gigabytes * 2 * n = (div-lt_iff_lt-mul (words_some s size.FiveTwelve)).0 (subst (λ (b : ℕ). b < s.gigabytes * 2) (sym same) block) in
    omega (arith, row, whole)

-- ---- the starting words

level1_word : (g : GeometryData) (words : List ℕ) (i : ℕ) → length words ≡ l1_words g → i < l1_words g → table_word g (start_words g words) i ≡ slice_index words i
level1_word g words i size within = index_of (start_words g words) (place_of g (Level1 i)) (slice_index words i) (start_named g words (Level1 i) size within)

built_blocks : (g : GeometryData) (regions : List Region) → l0_words g ≡ region_l0 g.setup regions → refusal g.setup regions ≡ None → is_bad_base g.setup regions ≡ false
    → BlocksMean g.setup (l0_words g) (map_at (map (region_map g.setup regions) (range_with_len 0 (space_granules g.setup))))
built_blocks g regions level0 accepted good granule within at =
    let s = g.setup in
    let none : l1_index s (region_l0 s regions) (granule / 16) ≡ None = ap (λ (words : List ℕ). l1_index s words (granule / 16)) (sym level0) ∙ at in
    ap (λ (words : List ℕ). block_gpi_in (l0_entry (slice_index words (granule / 16 / table_words s)))) level0
    ∙ built_block s regions granule accepted good within none
    ∙ ap (λ (v : Gpi). Some v) (sym (first_at (region_map s regions) (space_granules s) granule within))

built_canonical : (g : GeometryData) (regions : List Region) (w i : ℕ) → IsGeometry g → l0_words g ≡ region_l0 g.setup regions
    → refusal g.setup regions ≡ None → is_bad_base g.setup regions ≡ false → length (region_l1 g.setup regions) ≡ l1_words g → l1_index g.setup (l0_words g) w ≡ Some i
    → table_word g (start_words g (region_l1 g.setup regions)) i ≡ canonical_word g.setup (region_map g.setup regions) None w
built_canonical g regions w i geometry level0 accepted good size at =
    let s = g.setup in
    let inside : 16 * w < space_granules s = omega (arith, index_inside g w i geometry at) in
    let row : 16 * w / 16 ≡ w = omega arith in
    let some : l1_index s (region_l0 s regions) (16 * w / 16) ≡ Some i = ap (λ (words : List ℕ). l1_index s words (16 * w / 16)) (sym level0) ∙ ap (l1_index s (l0_words g)) row ∙ at in
    level1_word g (region_l1 s regions) i size (index_below g w i geometry at)
    ∙ index_of (region_l1 s regions) i (canonical_word s (region_map s regions) None (16 * w / 16)) (built_word s regions (16 * w) i accepted good inside some)
    ∙ ap (canonical_word s (region_map s regions) None) row

built_first : (g : GeometryData) (regions : List Region) (w i : ℕ) → IsGeometry g → l0_words g ≡ region_l0 g.setup regions
    → refusal g.setup regions ≡ None → is_bad_base g.setup regions ≡ false → length (region_l1 g.setup regions) ≡ l1_words g → l1_index g.setup (l0_words g) w ≡ Some i
    → table_word g (start_words g (region_l1 g.setup regions)) i ≡ canonical_word g.setup (map_at (map (region_map g.setup regions) (range_with_len 0 (space_granules g.setup)))) None w
built_first g regions w i geometry level0 accepted good size at =
    let s = g.setup in
    built_canonical g regions w i geometry level0 accepted good size at
    ∙ canonical_local s (region_map s regions) (map_at (map (region_map s regions) (range_with_len 0 (space_granules s)))) None w
    (λ k around. sym (first_at (region_map s regions) (space_granules s) k (in_space s w k (index_inside g w i geometry at) around)))

-- all that holds before the first act
pub built_starts : (g : GeometryData) (regions : List Region) → IsGeometry g → l0_words g ≡ region_l0 g.setup regions
    → refusal g.setup regions ≡ None → is_bad_base g.setup regions ≡ false → length (region_l1 g.setup regions) ≡ l1_words g
    → AreStarting g (map (region_map g.setup regions) (range_with_len 0 (space_granules g.setup))) (start_words g (region_l1 g.setup regions))
built_starts g regions geometry level0 accepted good size = record {
  geometry = geometry;
  size = start_count g (region_l1 g.setup regions) size;
  free = λ n low. index_of (start_words g (region_l1 g.setup regions)) (place_of g (Lock n)) 0 (start_named g (region_l1 g.setup regions) (Lock n) size low);
  granules = length-map-range_with_len (region_map g.setup regions) 0 (space_granules g.setup);
  canonical = λ w i at. built_first g regions w i geometry level0 accepted good size at;
  blocks = built_blocks g regions level0 accepted good;
  duty = λ cpu low. index_of (start_words g (region_l1 g.setup regions)) (place_of g (Duty cpu)) 0 (start_named g (region_l1 g.setup regions) (Duty cpu) size low);
  lines = λ i low. index_of (start_words g (region_l1 g.setup regions)) (place_of g (Line i)) 0 (start_named g (region_l1 g.setup regions) (Line i) size low);
  generations = λ y region within.
      index_of (start_words g (region_l1 g.setup regions)) (place_of g (Generation y region)) g.setup.first (start_named g (region_l1 g.setup regions) (Generation y region) size within);
}

-- ---- the callers before the first act

pub record IsAtRest (g : GeometryData) (x : Caller) : Type 0 where
  pub made : IsMade g x
  pub free : (n : ℕ) → holds n x ≡ false
  pub closed : open_by x ≡ []
  pub raised : (y : Size) (region : ℕ) → is_due y region x ≡ false
  pub whole : (holder_by x).step ≡ Whole
  pub sees : (m : ℕ → Gpi) (words : List ℕ) → Sees m words x
  pub own : (c : ℕ) → own_of c x ≡ []
  pub counted : (c k : ℕ) (u : Task) (given : Answer) → slice_get (known_answers x) k ≡ Some given → IsCounted g c k u given []
  pub off : duty_by x ≡ 0
  pub loads : (words : List ℕ) → HasLoaded words x
  pub stamps : (map : List Gpi) (c : ℕ) → HasOwnStamps map [] c x
  pub raises : (y : Size) (pair : ℕ × Gpi) → In pair (unraised_by y x) → ⊥
  pub walks : (w : Walk) → In w (walks_by x) → ⊥
  pub decides : (d : Decision) → In d (decided_by x) → ⊥

fresh_rests : (g : GeometryData) (x : Caller) → IsFresh g x → IsAtRest g x
fresh_rests g (caller.Agent a) is =
    subst (λ (b : AgentData). IsAtRest g (caller.Agent b)) (sym is.0)
    (record {
      made = (refl, subst IsAgent is.0 is.1, 0, [], fresh_walked g a.tasks 0);
      free = λ n. refl;
      closed = refl;
      raised = λ y region. refl;
      whole = refl;
      sees = λ m words t under_way. record { known = tt; gives = tt; generations = tt };
      own = λ c. append-nil (answered_entries (granule_bytes g.setup) c 0 a.tasks (idle_answers g a.tasks)) ∙ idle_entries g (granule_bytes g.setup) c 0 a.tasks;
      counted = λ c k u given answered. idle_counted g c k k a.tasks u given [] (subst (λ (answers : List Answer). slice_get answers k ≡ Some given) (append-nil (idle_answers g a.tasks)) answered);
      off = refl;
      loads = λ words. tt;
      stamps = λ map c. tt;
      raises = λ y pair has. has;
      walks = λ w has. has;
      decides = λ d has. has;
    })
fresh_rests g (caller.Cpu q) is =
    let p : ℕ = q.number in
    let made : IsMade g (caller.Cpu (cpus.fresh g p q.tasks)) = (refl, subst IsCpu is.0 is.1, 0, [], cpu_fresh_walked g p q.tasks 0) in
    subst (λ (r : CpuData). IsAtRest g (caller.Cpu r)) (sym is.0)
    (record {
      made = made;
      free = λ n. refl;
      closed = refl;
      raised = λ y region. refl;
      whole = refl;
      sees = λ m words. tt;
      own = λ c. fresh_quiet g p q.tasks c;
      counted = λ c k u given answered. cpu_counted g c k u (cpus.fresh g p q.tasks) given [] made answered;
      off = refl;
      loads = λ words. starting_loads g words (cpus.task_of (cpus.fresh g p q.tasks));
      stamps = λ map c. (
        λ k t given asked answered. idle_unstamped g map g.setup.first (granule_bytes g.setup) c k k q.tasks t given [] answered,
        starting_stamps g map c (length (cpus.idle_answers g q.tasks)) (cpus.task_of (cpus.fresh g p q.tasks)) [],
      );
      raises = λ y pair has. has;
      walks = λ w has. has;
      decides = λ d has. subst (In d) (starting_decided g (cpus.task_of (cpus.fresh g p q.tasks))) has;
    })

-- each caller of a fresh list
pub rests_at : (g : GeometryData) (callers : List Caller) (c : ℕ) (x : Caller) → All (IsFresh g) callers → slice_get callers c ≡ Some x → IsAtRest g x
rests_at g callers c x fresh_all at = fresh_rests g x (subst (IsFresh g) (get_or_from_slice_get callers c x x at) (fresh_all c x (slice_get_within callers c x at)))

none_open : (callers : List Caller) → ((c : ℕ) (x : Caller) → slice_get callers c ≡ Some x → open_by x ≡ []) → flat_map open_by callers ≡ []
none_open [] none = refl
none_open (x ∷ callers) none = flat_map-cons open_by x callers ∙ rw (none 0 x refl) (none_open callers (λ c y at. none (suc c) y at))

fresh_holder : (g : GeometryData) (callers : List Caller) (d : ℕ) (h : Holder) → All (IsFresh g) callers → slice_get (map holder_by callers) d ≡ Some h → h.step ≡ Whole
fresh_holder g callers d h fresh_all at =
    let own = holder_there callers d h at in
    ap (λ (x : Holder). x.step) (sym own.2) ∙ (rests_at g callers d own.0 fresh_all own.1).whole

-- with no caller at work each word is the canonical one
opening_tables : (g : GeometryData) (first : List Gpi) (callers : List Caller) (words : List ℕ) → All (IsFresh g) callers → AreStarting g first words → AreTables g words callers (map_after first [])
opening_tables g first callers words fresh_all starting = record {
  level1 = λ w i at.
      starting.canonical w i at
      ∙ ap (λ (o : Option ℕ). canonical_word g.setup (map_at first) o w) (sym (all_whole g.setup (map holder_by callers) w (λ d h there. fresh_holder g callers d h fresh_all there)));
  blocks = starting.blocks;
}

-- no line is resident where all line words are 0
line_none : (g : GeometryData) (words : List ℕ) (w : ℕ) (o : Option ℕ) (granule : ℕ) (sp : Space) → IsGeometry g → ((i : ℕ) → i < l1_words g → slice_index words (place_of g (Line i)) ≡ 0) → l1_index g.setup (l0_words g) w ≡ o → line_at g words o granule sp ≡ false
line_none g words w None granule sp geometry none at = refl
line_none g words w (Some i) granule sp geometry none at =
    ap (λ (word : ℕ). is_resident word (granule % 16) sp) (none i (index_below g w i geometry at)) ∙ ap (λ (bit : ℕ). eqb bit 1) (bit_at-zero (bit_of (granule % 16) sp))

no_line : (g : GeometryData) (words : List ℕ) → IsGeometry g → ((i : ℕ) → i < l1_words g → slice_index words (place_of g (Line i)) ≡ 0) → (granule : ℕ) (sp : Space) → has_line g words granule sp ≡ false
no_line g words geometry none granule sp = line_none g words (granule / 16) (l1_index g.setup (l0_words g) (granule / 16)) granule sp geometry none refl

pub opening_invariant : (g : GeometryData) (first : List Gpi) (callers : List Caller) (words : List ℕ) → All (IsFresh g) callers → NumbersDiffer callers → AreStarting g first words → HoldsIn g (record { first = first; words = words; callers = callers; history = [] })
opening_invariant g first callers words fresh_all differ starting =
    let rests = λ (c : ℕ) (x : Caller) (at : slice_get callers c ≡ Some x). rests_at g callers c x fresh_all at in
    record {
      shape = record {
        geometry = starting.geometry;
        size = starting.size;
        granules = starting.granules;
        made = All-weaker (IsFresh g) (IsMade g) (λ x is. (fresh_rests g x is).made) callers fresh_all;
      };
      tables = opening_tables g first callers words fresh_all starting;
      opened = λ granule. sym (ap (pairs_of granule) (none_open callers (λ c x at. (rests c x at).closed)));
      locks = λ n below.
          ap (λ (word : ℕ). bit_at word (n % 64)) (starting.free (n / 64) (omega (arith, below))) ∙ bit_at-zero (n % 64)
          ∙ sym (count_none (holds n) callers (λ c x at. (rests c x at).free n));
      seen = λ c x at. (rests c x at).sees (map_after first []) words;
      generations = λ y region within. omega (arith, starting.generations y region within, count_none (is_due y region) callers (λ c x at. (rests c x at).raised y region));
      undisturbed = undisturbed_empty g.setup;
      alone = λ c n x at has. absurd (let both : true ≡ false = sym has ∙ (rests c x at).free n in cc);
      counted = λ c k x u given at asked answered. (rests c x at).counted c k u given answered;
      history = record { allowed = tt; own = λ c x at. sym ((rests c x at).own c); known = All-nil (λ e. caller_in e < length callers) };
      duties = λ c p x at is. let rest = rests c x at in starting.duty p (number_low g x p rest.made is) ∙ sym rest.off;
      others = λ p low none. starting.duty p low;
      numbers = differ;
      decisions = λ c p x d at number has. absurd ((rests c x at).decides d has);
      lines = λ granule sp resident. absurd (let none : has_line g words granule sp ≡ false = no_line g words starting.geometry starting.lines granule sp in let both : true ≡ false = sym resident ∙ none in cc);
      touches = λ granule sp permits seen. absurd cc;
      least = λ y region within. let first = starting.generations y region within in omega (arith, first);
      loads = λ c x at. (rests c x at).loads words;
      stamps = λ c x at. (rests c x at).stamps first c;
      walks = λ c x at w has. absurd ((rests c x at).walks w has);
      pairs = λ y granule former some. absurd ((rests some.number some.caller some.at).raises y (granule, former) some.has);
    }
