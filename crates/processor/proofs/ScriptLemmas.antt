-- Processors walk their script.
use Rattle.std.proofs.Common.{◌≡◌, ◌≢◌, ℕ, suc, ◌+◌, ◌<◌, ◌++◌, ◌∷◌, [], List, Bool, true, false, Option, Some, None, length, drop, append_assoc, append-nil, length-append, refl, sym, ap, ◌∙◌, subst, arith, inl, inr, if◌then◌else◌}
use Rattle.std.specs.Prelude.{slice_get, ◌==◌}
use Rattle.std.specs.Option.{option_map}
use Rattle.std.proofs.lemmas.Bool.{eqb-true, eq-eqb}
use Rattle.gpi_values.specs.declared.gpi.Gpi.{Gpi}
use Rattle.gpi_values.specs.declared.gpi.Space.{Space}
use Rattle.gpt_descriptors.specs.declared.size.Size.{Size}
use Rattle.gpt_descriptors.specs.declared.size.Size.TheVariants as size
use Rattle.gpt_descriptors.specs.declared.size.Generations.{Generations}
use Rattle.gpt_descriptors.specs.Sizes.{space_bytes, tag_size_of, with_generation}
use Rattle.gpt_descriptors.specs.Places.{GeometryData, gen_place_of, l1_place_of, block_gpi_of}
use Rattle.shared_words.specs.declared.act.Act.{Act}
use Rattle.shared_words.specs.declared.act.Act.TheVariants as act
use Rattle.invalidate.specs.Duty.{on_act, off_act}
use Rattle.invalidate.specs.Generations.{gen_load_of}
use Rattle.alias_clean.specs.Lines.{touch_of}
use Rattle.walk_cache.specs.declared.walk.Walk.{Walk}
use Rattle.walk_cache.specs.Rings.{RingData, newest_of, last_of}
use Rattle.history.specs.declared.call.Task.{Task}
use Rattle.history.specs.declared.call.Task.TheVariants as task
use Rattle.history.specs.declared.call.Access.{Access}
use Rattle.history.specs.declared.call.Answer.{Answer}
use Rattle.history.specs.declared.call.Answer.TheVariants as answer
use Rattle.history.specs.declared.call.OldWalk.{OldWalk}
use Rattle.history.specs.declared.call.Via.TheVariants as via
use Rattle.history.specs.Events.{CallEvent, plain}
use Rattle.history.specs.Stamps.{walked}
use Rattle.processor.specs.InnerProgress.{Stage}
use Rattle.processor.specs.InnerProgress as stage
use Rattle.processor.specs.Accesses.{block_answer, walk_of, walk_gpi, table_access}
use Rattle.processor.specs.Script.{deciding_load, IsMissed, tries, loads, Decides, touches, Looks, IsLook, IsCall, AreCallEvents}
use Rattle.processor.specs.InnerProgress.{act_at, no_generations, old_walk, after_search, decided_stage, after_try, after_load, after_at, ring_after}
use Rattle.processor.specs.InnerCpus.{CpuData, IsCpu, IsReadable, IsAccessAt, task_of, idle_answer, answered_first, idle_answers, fresh, next_at, next_of, took_at, took_of}
use Rattle.processor.specs.InnerEntries.{decided_entries, made_at}
use Rattle.processor.specs.InnerScript.{HasLoaded, IsPartOf, IsPrefix, HasWalked, loads_before}
use Rattle.processor.proofs.WalkLemmas.{descriptor_walk, walk_is, walk_means}
use Rattle.processor.proofs.CpuLemmas.{access_at, acts_at, look_at, look_unblocked, some_mapped}

-- ---- the answered calls

-- the access under way is answered
calls_and_one : (g : GeometryData) (p c n : ℕ) (tasks : List Task) (kept : List Walk) (answers : List Answer) (mid later : List Walk) (calls own : List CallEvent) (t : Task) (a : Answer)
    → slice_get tasks (length answers) ≡ Some t → IsCall g p c (n + length answers) t mid a later own → AreCallEvents g p c n tasks kept answers mid calls
    → AreCallEvents g p c n tasks kept (answers ++ a ∷ []) later (calls ++ own)
calls_and_one g p c n [] kept [] mid later calls own t a here call are = absurd cc
calls_and_one g p c n (x ∷ tasks) kept [] mid later calls own t a here call are =
    let same : t ≡ x = cc in
    let number : n + 0 ≡ n = omega arith in
    let renamed : IsCall g p c n x mid a later own = subst (λ (y : Task). IsCall g p c n y mid a later own) same (subst (λ (m : ℕ). IsCall g p c m t mid a later own) number call) in (
      own,
      [],
      later,
      ap (λ (es : List CallEvent). es ++ own) are.1 ∙ sym (append-nil own),
      subst (λ (l : List Walk). IsCall g p c n x l a later own) are.0 renamed,
      (refl, refl),
    )
calls_and_one g p c n [] kept (b ∷ answers) mid later calls own t a here call are = absurd are
calls_and_one g p c n (x ∷ tasks) kept (b ∷ answers) mid later calls own t a here call are =
    let number : n + suc (length answers) ≡ n + 1 + length answers = omega arith in (
      are.0,
      are.1 ++ own,
      are.2,
      ap (λ (es : List CallEvent). es ++ own) are.3 ∙ append_assoc are.0 are.1 own,
      are.4,
      calls_and_one g p c (n + 1) tasks are.2 answers mid later are.1 own t a here (subst (λ (m : ℕ). IsCall g p c m t mid a later own) number call) are.5,
    )

-- the accesses that have no acts are answered
block_look : (g : GeometryData) (p c n pa : ℕ) (space : Space) (o : Option Gpi) (kept : List Walk) (a : Answer) → option_map (block_answer space) o ≡ Some a → IsLook g p c n pa space o kept a kept []
block_look g p c n pa space None kept a e = absurd cc
block_look g p c n pa space (Some gpi) kept a e = (cc, refl, refl)

idle_call : (g : GeometryData) (p c n : ℕ) (t : Task) (kept : List Walk) (a : Answer) → idle_answer g t ≡ Some a → IsCall g p c n t kept a kept []
idle_call g p c n (task.Look pa space) kept a e = block_look g p c n pa space (block_gpi_of g pa) kept a e
idle_call g p c n (task.Delegate pa source) kept a e = absurd cc
idle_call g p c n (task.Undelegate pa source) kept a e = absurd cc
idle_call g p c n task.Unknown kept a e = absurd cc

idle_first : (g : GeometryData) (p c n : ℕ) (t : Task) (tasks : List Task) (kept : List Walk) (idle : Option Answer) → idle_answer g t ≡ idle → AreCallEvents g p c (n + 1) tasks kept (idle_answers g tasks) kept []
    → AreCallEvents g p c n (t ∷ tasks) kept (answered_first idle (idle_answers g tasks)) kept []
idle_first g p c n t tasks kept None e rest = (refl, refl)
idle_first g p c n t tasks kept (Some a) e rest = ([], [], kept, refl, idle_call g p c n t kept a e, rest)

all_idle : (g : GeometryData) (p c n : ℕ) (tasks : List Task) (kept : List Walk) → AreCallEvents g p c n tasks kept (idle_answers g tasks) kept []
all_idle g p c n [] kept = (refl, refl)
all_idle g p c n (t ∷ tasks) kept = idle_first g p c n t tasks kept (idle_answer g t) refl (all_idle g p c (n + 1) tasks kept)

calls_and_idle : (g : GeometryData) (p c n : ℕ) (tasks : List Task) (kept : List Walk) (answers : List Answer) (later : List Walk) (calls : List CallEvent) → AreCallEvents g p c n tasks kept answers later calls
    → AreCallEvents g p c n tasks kept (answers ++ idle_answers g (drop (length answers) tasks)) later calls
calls_and_idle g p c n tasks kept [] later calls are =
    subst (λ (l : List Walk). AreCallEvents g p c n tasks kept (idle_answers g tasks) l calls) (sym are.0)
    (subst (λ (es : List CallEvent). AreCallEvents g p c n tasks kept (idle_answers g tasks) kept es) (sym are.1) (all_idle g p c n tasks kept))
calls_and_idle g p c n [] kept (a ∷ answers) later calls are = absurd are
calls_and_idle g p c n (t ∷ tasks) kept (a ∷ answers) later calls are =
    (are.0, are.1, are.2, are.3, are.4, calls_and_idle g p c (n + 1) tasks are.2 answers later are.1 are.5)

-- ---- the access under way

-- before its first act
no_prefix : (g : GeometryData) (p c n : ℕ) (kept : List Walk) (o : Option Task) → IsPrefix g p c n kept kept stage.Starting o []
no_prefix g p c n kept None = (refl, refl)
no_prefix g p c n kept (Some (task.Look pa space)) = (refl, refl)
no_prefix g p c n kept (Some (task.Delegate pa source)) = (refl, refl)
no_prefix g p c n kept (Some (task.Undelegate pa source)) = (refl, refl)
no_prefix g p c n kept (Some task.Unknown) = (refl, refl)

pub fresh_walked : (g : GeometryData) (p : ℕ) (tasks : List Task) (c : ℕ) → HasWalked c (fresh g p tasks) []
fresh_walked g p tasks c = record {
  calls = [];
  last = [];
  kept = [];
  parts = refl;
  answered = all_idle g p c 0 tasks [];
  under_way = no_prefix g p c (length (idle_answers g tasks)) [] (task_of (fresh g p tasks));
}

-- the events with one more: each act but the last one
searched : (g : GeometryData) (p c n pa : ℕ) (space : Space) (kept now : List Walk) (old : ℕ) (o : Option Walk) (events : List CallEvent) → now ≡ kept → events ≡ [] → newest_of kept pa ≡ o
    → IsPartOf g p c n pa space kept now (after_search o) (events ++ plain (on_act g p) old ∷ [])
searched g p c n pa space kept now old None events same none newest =
    (same, record { set = old; newest = subst (λ (o : Option Walk). IsMissed o None) (sym newest) tt; parts = rw none refl })
searched g p c n pa space kept now old (Some w) events same none newest =
    (same, record { set = old; newest = newest; parts = rw none refl })

pub part_started : (g : GeometryData) (p c n pa : ℕ) (space : Space) (kept now : List Walk) (old : ℕ) (events : List CallEvent) → IsPartOf g p c n pa space kept now stage.Starting events
    → IsPartOf g p c n pa space kept now (after_search (newest_of now pa)) (events ++ plain (on_act g p) old ∷ [])
part_started g p c n pa space kept now old events part =
    searched g p c n pa space kept now old (newest_of now pa) events part.0 part.1 (ap (λ (l : List Walk). newest_of l pa) (sym part.0))

-- an access is decided: one that isn't allowed has no touch
no_touch : (o : Option Act) (old : ℕ) → touches o false old ≡ []
no_touch None old = refl
no_touch (Some touch) old = refl

one_touch : (o : Option Act) (touch : Act) (b : Bool) (old : ℕ) → o ≡ Some touch → b ≡ true → touches o b old ≡ plain touch old ∷ []
one_touch o touch b old there allowed = rw (there, allowed) refl

part_denied : (g : GeometryData) (p c n pa : ℕ) (space : Space) (kept now : List Walk) (a : Access) (events : List CallEvent) → a.allowed ≡ false → Decides g p c n pa space kept a now events
    → IsPartOf g p c n pa space kept now (stage.Leaving a) events
part_denied g p c n pa space kept now a events denied decided =
    let none : touches (touch_of g pa space) a.allowed 0 ≡ [] = ap (λ (b : Bool). touches (touch_of g pa space) b 0) denied ∙ no_touch (touch_of g pa space) 0 in
    record { deciding = events; touched = 0; decided = decided; parts = sym (append-nil events) ∙ ap (λ (es : List CallEvent). events ++ es) (sym none) }

part_decided : (g : GeometryData) (p c n pa : ℕ) (space : Space) (kept now : List Walk) (a : Access) (b : Bool) (events : List CallEvent) → a.allowed ≡ b → Decides g p c n pa space kept a now events
    → IsPartOf g p c n pa space kept now (if b then stage.Touching a else stage.Leaving a) events
part_decided g p c n pa space kept now a true events allowed decided = (decided, allowed)
part_decided g p c n pa space kept now a false events denied decided = part_denied g p c n pa space kept now a events denied decided

-- the found walk decides
pub part_hit : (g : GeometryData) (p c n pa : ℕ) (space : Space) (kept now : List Walk) (w : Walk) (gpi : Gpi) (events : List CallEvent)
    → IsPartOf g p c n pa space kept now (stage.Trying w) events → walk_gpi g pa w ≡ Some gpi
    → IsPartOf g p c n pa space kept now (decided_stage (table_access space gpi (via.Hit w.reach w.tag)))
    (events ++ deciding_load g c n pa space (gen_place_of g (tag_size_of w.reach) pa) w.tag gpi ∷ [])
part_hit g p c n pa space kept now w gpi events part gives =
    let a : Access = table_access space gpi (via.Hit w.reach w.tag) in
    part_decided g p c n pa space kept now a a.allowed (events ++ deciding_load g c n pa space (gen_place_of g (tag_size_of w.reach) pa) w.tag gpi ∷ []) refl
    (inl (record { set = part.1.set; walk = w; gpi = gpi; newest = part.1.newest; gives = gives; parts = rw part.1.parts refl; is = refl }, part.0))

-- it is too old
pub part_missed : (g : GeometryData) (p c n pa : ℕ) (space : Space) (kept now : List Walk) (w : Walk) (old : ℕ) (events : List CallEvent)
    → IsPartOf g p c n pa space kept now (stage.Trying w) events → old ≢ w.tag
    → IsPartOf g p c n pa space kept now (stage.Loading size.Two no_generations (Some (old_walk w old))) (events ++ plain (gen_load_of g (tag_size_of w.reach) pa) old ∷ [])
part_missed g p c n pa space kept now w old events part other = (
  part.0,
  record {
    set = part.1.set;
    newest = subst (λ (o : Option Walk). IsMissed o (Some (old_walk w old))) (sym part.1.newest) (refl, refl, other);
    parts = rw part.1.parts refl;
  },
)

-- one more event after some loads
one_after : (first : CallEvent) (tried made events : List CallEvent) (e : CallEvent) → events ≡ first ∷ tried ++ made → events ++ e ∷ [] ≡ first ∷ tried ++ (made ++ e ∷ [])
one_after first tried made events e parts = ap (λ (es : List CallEvent). es ++ e ∷ []) parts ∙ ap (λ (es : List CallEvent). first ∷ es) (append_assoc tried made (e ∷ []))

loaded_more : (g : GeometryData) (p pa : ℕ) (kept : List Walk) (m : Option OldWalk) (made events : List CallEvent) (e : CallEvent)
    → HasLoaded g p pa kept m made events → HasLoaded g p pa kept m (made ++ e ∷ []) (events ++ e ∷ [])
loaded_more g p pa kept m made events e part =
    record { set = part.set; newest = part.newest; parts = one_after _ (tries g pa m) made events e part.parts }

pub part_loaded : (g : GeometryData) (p c n pa : ℕ) (space : Space) (kept now : List Walk) (z : Size) (k : Generations) (m : Option OldWalk) (old : ℕ) (events : List CallEvent)
    → IsPartOf g p c n pa space kept now (stage.Loading z k m) events
    → IsPartOf g p c n pa space kept now (after_load z (with_generation z old k) m) (events ++ plain (gen_load_of g z pa) old ∷ [])
part_loaded g p c n pa space kept now size.Two k m old events part = (part.0, loaded_more g p pa kept m (loads_before g pa size.Two k) events _ part.1)
part_loaded g p c n pa space kept now size.ThirtyTwo k m old events part = (part.0, loaded_more g p pa kept m (loads_before g pa size.ThirtyTwo k) events _ part.1)
part_loaded g p c n pa space kept now size.FiveTwelve k m old events part = (part.0, loaded_more g p pa kept m (loads_before g pa size.FiveTwelve k) events _ part.1)

pub part_found : (g : GeometryData) (p c n pa : ℕ) (space : Space) (kept now : List Walk) (k : Generations) (m : Option OldWalk) (w : Walk) (gpi : Gpi) (place old : ℕ) (events : List CallEvent)
    → IsPartOf g p c n pa space kept now (stage.Walking k m) events → l1_place_of g pa ≡ Some place → walk_of pa k old ≡ Some w → walk_gpi g pa w ≡ Some gpi
    → IsPartOf g p c n pa space kept now (stage.Closing w m) (events ++ deciding_load g c n pa space place old gpi ∷ [])
part_found g p c n pa space kept now k m w gpi place old events part there found gives = (
  part.0,
  record {
    set = part.1.set;
    generations = k;
    place = place;
    word = old;
    gpi = gpi;
    newest = part.1.newest;
    there = there;
    found = found;
    gives = gives;
    parts = ap (λ (es : List CallEvent). es ++ deciding_load g c n pa space place old gpi ∷ []) part.1.parts;
  },
)

walk_decides : (g : GeometryData) (p c n pa : ℕ) (space : Space) (kept now : List Walk) (w : Walk) (m : Option OldWalk) (old : ℕ) (events : List CallEvent)
    → (part : IsPartOf g p c n pa space kept now (stage.Closing w m) events)
    → Decides g p c n pa space kept (table_access space part.1.gpi (walked m w.reach w.tag old)) (last_of g.setup.ring (now ++ w ∷ []))
    (events ++ plain (gen_load_of g (tag_size_of w.reach) pa) old ∷ [])
walk_decides g p c n pa space kept now w m old events part = inr (record {
  set = part.1.set;
  missed = m;
  generations = part.1.generations;
  place = part.1.place;
  word = part.1.word;
  walk = w;
  gpi = part.1.gpi;
  hi = old;
  newest = part.1.newest;
  there = part.1.there;
  found = part.1.found;
  gives = part.1.gives;
  parts = ap (λ (es : List CallEvent). es ++ plain (gen_load_of g (tag_size_of w.reach) pa) old ∷ []) part.1.parts
      ∙ append_assoc (plain (on_act g p) part.1.set ∷ tries g pa m ++ loads g pa part.1.generations) (deciding_load g c n pa space part.1.place part.1.word part.1.gpi ∷ []) _;
  is = refl;
  noted = ap (λ (l : List Walk). last_of g.setup.ring (l ++ w ∷ [])) part.0;
})

pub part_closed : (g : GeometryData) (p c n pa : ℕ) (space : Space) (kept now : List Walk) (w : Walk) (m : Option OldWalk) (old : ℕ) (events : List CallEvent)
    → (part : IsPartOf g p c n pa space kept now (stage.Closing w m) events)
    → IsPartOf g p c n pa space kept (last_of g.setup.ring (now ++ w ∷ [])) (decided_stage (table_access space part.1.gpi (walked m w.reach w.tag old)))
    (events ++ plain (gen_load_of g (tag_size_of w.reach) pa) old ∷ [])
part_closed g p c n pa space kept now w m old events part =
    let a : Access = table_access space part.1.gpi (walked m w.reach w.tag old) in
    part_decided g p c n pa space kept (last_of g.setup.ring (now ++ w ∷ [])) a a.allowed (events ++ plain (gen_load_of g (tag_size_of w.reach) pa) old ∷ []) refl
    (walk_decides g p c n pa space kept now w m old events part)

-- the line is resident
pub part_touched : (g : GeometryData) (p c n pa : ℕ) (space : Space) (kept now : List Walk) (a : Access) (touch : Act) (old : ℕ) (events : List CallEvent)
    → IsPartOf g p c n pa space kept now (stage.Touching a) events → touch_of g pa space ≡ Some touch → IsPartOf g p c n pa space kept now (stage.Leaving a) (events ++ plain touch old ∷ [])
part_touched g p c n pa space kept now a touch old events part there = record {
  deciding = events;
  touched = old;
  decided = part.0;
  parts = ap (λ (es : List CallEvent). events ++ es) (sym (one_touch (touch_of g pa space) touch a.allowed old there part.1));
}

-- the last act makes them whole
pub part_left : (g : GeometryData) (p c n pa : ℕ) (space : Space) (kept now : List Walk) (a : Access) (old : ℕ) (events : List CallEvent)
    → IsPartOf g p c n pa space kept now (stage.Leaving a) events → Looks g p c n pa space kept (answer.Seen a) now (events ++ plain (off_act g p) old ∷ [])
part_left g p c n pa space kept now a old events part =
    record {
      access = a;
      deciding = part.deciding;
      touched = part.touched;
      cleared = old;
      decided = part.decided;
      parts = ap (λ (es : List CallEvent). es ++ plain (off_act g p) old ∷ []) part.parts;
      is = refl;
    }

-- ---- a next act

-- a processor with these fields
abbrev cpu : GeometryData → ℕ → List Task → List Answer → RingData → Stage → CpuData
cpu g p tasks answers r s = record { geometry = g; number = p; tasks = tasks; answers = answers; cache = r; stage = s }

-- the access under way has one event more
goes_on : (g : GeometryData) (p c : ℕ) (tasks : List Task) (answers : List Answer) (kept : List Walk) (r : RingData) (s : Stage) (pa : ℕ) (space : Space) (calls last : List CallEvent) (e : CallEvent)
    → slice_get tasks (length answers) ≡ Some (task.Look pa space) → AreCallEvents g p c 0 tasks [] answers kept calls → IsPartOf g p c (length answers) pa space kept r.walks s (last ++ e ∷ [])
    → HasWalked c (cpu g p tasks answers r s) ((calls ++ last) ++ e ∷ [])
goes_on g p c tasks answers kept r s pa space calls last e here are longer = record {
  calls = calls;
  last = last ++ e ∷ [];
  kept = kept;
  parts = append_assoc calls last (e ∷ []);
  answered = are;
  under_way = subst (λ (o : Option Task). IsPrefix g p c (length answers) kept r.walks s o (last ++ e ∷ [])) (sym here) longer;
}

-- the duty word is cleared, and the access is answered
answered : (g : GeometryData) (p c : ℕ) (tasks : List Task) (answers : List Answer) (kept : List Walk) (r : RingData) (pa : ℕ) (space : Space) (seen : Access) (calls last : List CallEvent) (old : ℕ)
    → slice_get tasks (length answers) ≡ Some (task.Look pa space) → block_gpi_of g pa ≡ None → AreCallEvents g p c 0 tasks [] answers kept calls
    → IsPartOf g p c (length answers) pa space kept r.walks (stage.Leaving seen) last
    → HasWalked c (took_at (cpu g p tasks answers r (stage.Leaving seen)) (Some (task.Look pa space)) old) ((calls ++ last) ++ plain (off_act g p) old ∷ [])
answered g p c tasks answers kept r pa space seen calls last old here unblocked are part =
    let e : CallEvent = plain (off_act g p) old in
    let own : List CallEvent = last ++ e ∷ [] in
    let a : Answer = answer.Seen seen in
    let number : length answers ≡ 0 + length answers = omega arith in
    let whole : Looks g p c (length answers) pa space kept a r.walks own = part_left g p c (length answers) pa space kept r.walks seen old last part in
    let look : IsLook g p c (length answers) pa space (block_gpi_of g pa) kept a r.walks own =
    subst (λ (o : Option Gpi). IsLook g p c (length answers) pa space o kept a r.walks own) (sym unblocked) whole in
    let call : IsCall g p c (0 + length answers) (task.Look pa space) kept a r.walks own = subst (λ (m : ℕ). IsCall g p c m (task.Look pa space) kept a r.walks own) number look in
    let one : AreCallEvents g p c 0 tasks [] (answers ++ a ∷ []) r.walks (calls ++ own) = calls_and_one g p c 0 tasks [] answers kept r.walks calls own (task.Look pa space) a here call are in
    let idle = calls_and_idle g p c 0 tasks [] (answers ++ a ∷ []) r.walks (calls ++ own) one in
    record {
      calls = calls ++ own;
      last = [];
      kept = r.walks;
      parts = append_assoc calls last (e ∷ []) ∙ sym (append-nil (calls ++ own));
      answered = subst (λ (m : ℕ). AreCallEvents g p c 0 tasks [] ((answers ++ a ∷ []) ++ idle_answers g (drop m tasks)) r.walks (calls ++ own)) (length-append answers (a ∷ [])) idle;
      under_way = no_prefix g p c (length ((answers ++ a ∷ []) ++ idle_answers g (drop (length answers + 1) tasks))) r.walks _;
    }

-- the generation of the found walk is loaded
tried : (g : GeometryData) (p c n pa : ℕ) (space : Space) (kept now : List Walk) (w : Walk) (gpi : Gpi) (old : ℕ) (b : Bool) (last : List CallEvent)
    → (old == w.tag) ≡ b → IsPartOf g p c n pa space kept now (stage.Trying w) last → walk_gpi g pa w ≡ Some gpi
    → IsPartOf g p c n pa space kept now (if b then decided_stage (table_access space gpi (via.Hit w.reach w.tag)) else stage.Loading size.Two no_generations (Some (old_walk w old)))
    (last ++ record { act = gen_load_of g (tag_size_of w.reach) pa; old = old; made = if b then decided_entries g c n pa space (Some gpi) else [] } ∷ [])
tried g p c n pa space kept now w gpi old true last same part gives =
    let tag : old ≡ w.tag = eqb-true old w.tag same in
    subst (λ (m : ℕ). IsPartOf g p c n pa space kept now (decided_stage (table_access space gpi (via.Hit w.reach w.tag)))
    (last ++ record { act = gen_load_of g (tag_size_of w.reach) pa; old = m; made = decided_entries g c n pa space (Some gpi) } ∷ [])) (sym tag)
    (part_hit g p c n pa space kept now w gpi last part gives)
tried g p c n pa space kept now w gpi old false last same part gives =
    part_missed g p c n pa space kept now w old last part (λ equal. let both : true ≡ false = sym (eq-eqb old w.tag equal) ∙ same in cc)

-- the L1 word is loaded
found : (g : GeometryData) (p c : ℕ) (tasks : List Task) (answers : List Answer) (kept : List Walk) (r : RingData) (pa : ℕ) (space : Space) (k : Generations) (m : Option OldWalk) (place : ℕ)
    (calls last : List CallEvent) (old : ℕ) (w : Walk) (gpi : Gpi)
    → slice_get tasks (length answers) ≡ Some (task.Look pa space) → AreCallEvents g p c 0 tasks [] answers kept calls → IsPartOf g p c (length answers) pa space kept r.walks (stage.Walking k m) last
    → l1_place_of g pa ≡ Some place → walk_of pa k old ≡ Some w → walk_gpi g pa w ≡ Some gpi
    → HasWalked c (took_at (cpu g p tasks answers r (stage.Walking k m)) (Some (task.Look pa space)) old)
    ((calls ++ last) ++ record { act = act.Load place; old = old; made = made_at g c (length answers) (stage.Walking k m) (Some (task.Look pa space)) old } ∷ [])
found g p c tasks answers kept r pa space k m place calls last old w gpi here are part there made gives =
    rw (made, gives) (goes_on g p c tasks answers kept r (stage.Closing w m) pa space calls last _ here are (part_found g p c (length answers) pa space kept r.walks k m w gpi place old last part there made gives))

-- any act of an access with acts, however far it has come
walks : (g : GeometryData) (p c : ℕ) (tasks : List Task) (answers : List Answer) (kept : List Walk) (r : RingData) (s : Stage) (pa : ℕ) (space : Space) (calls last : List CallEvent) (next : Act) (old : ℕ)
    → slice_get tasks (length answers) ≡ Some (task.Look pa space) → block_gpi_of g pa ≡ None → pa < space_bytes g.setup → r.ring ≡ g.setup.ring → IsAccessAt g pa s → IsReadable s old
    → AreCallEvents g p c 0 tasks [] answers kept calls → IsPartOf g p c (length answers) pa space kept r.walks s last → act_at g p pa space s ≡ Some next
    → HasWalked c (took_at (cpu g p tasks answers r s) (Some (task.Look pa space)) old)
    ((calls ++ last) ++ record { act = next; old = old; made = made_at g c (length answers) s (Some (task.Look pa space)) old } ∷ [])
walks g p c tasks answers kept r stage.Starting pa space calls last next old here unblocked inside keeps at readable are part e =
    let same : on_act g p ≡ next = cc in
    rw (← same) (goes_on g p c tasks answers kept r _ pa space calls last _ here are (part_started g p c (length answers) pa space kept r.walks old last part))
walks g p c tasks answers kept r (stage.Trying w) pa space calls last next old here unblocked inside keeps at readable are part e =
    let same : gen_load_of g (tag_size_of w.reach) pa ≡ next = cc in
    let means = walk_means g pa w at.0 in
    rw (← same, means.1) (goes_on g p c tasks answers kept r _ pa space calls last _ here are (tried g p c (length answers) pa space kept r.walks w means.0 old (old == w.tag) last refl part means.1))
walks g p c tasks answers kept r (stage.Loading z k m) pa space calls last next old here unblocked inside keeps at readable are part e =
    let same : gen_load_of g z pa ≡ next = cc in
    rw (← same) (goes_on g p c tasks answers kept r _ pa space calls last _ here are (part_loaded g p c (length answers) pa space kept r.walks z k m old last part))
walks g p c tasks answers kept r (stage.Walking k m) pa space calls last next old here unblocked inside keeps at readable are part e =
    let load = some_mapped act.Load (l1_place_of g pa) next e in
    let made = descriptor_walk pa k old readable in
    let means = walk_means g pa made.0 (walk_is g pa k old made.0 inside made.1).0 in
    rw (← load.2) (found g p c tasks answers kept r pa space k m load.0 calls last old made.0 means.0 here are part load.1 made.1 means.1)
walks g p c tasks answers kept r (stage.Closing w m) pa space calls last next old here unblocked inside keeps at readable are part e =
    let same : gen_load_of g (tag_size_of w.reach) pa ≡ next = cc in
    let closed = part_closed g p c (length answers) pa space kept r.walks w m old last part in
    let later : RingData = record { walks = last_of g.setup.ring (r.walks ++ w ∷ []); ring = g.setup.ring } in
    rw (← same, part.1.gives, keeps) (goes_on g p c tasks answers kept later _ pa space calls last _ here are closed)
walks g p c tasks answers kept r (stage.Touching a) pa space calls last next old here unblocked inside keeps at readable are part e =
    goes_on g p c tasks answers kept r _ pa space calls last _ here are (part_touched g p c (length answers) pa space kept r.walks a next old last part e)
walks g p c tasks answers kept r (stage.Leaving a) pa space calls last next old here unblocked inside keeps at readable are part e =
    let same : off_act g p ≡ next = cc in
    rw (← same) (answered g p c tasks answers kept r pa space a calls last old here unblocked are part)

took_walks : (c : ℕ) (q : CpuData) (o : Option Task) (kept : List Walk) (calls last : List CallEvent) (next : Act) (old : ℕ) → IsCpu q → task_of q ≡ o → IsReadable q.stage old
    → AreCallEvents q.geometry q.number c 0 q.tasks [] q.answers kept calls → IsPrefix q.geometry q.number c (length q.answers) kept q.cache.walks q.stage o last → next_at q o ≡ Some next
    → HasWalked c (took_at q o old) ((calls ++ last) ++ record { act = next; old = old; made = made_at q.geometry c (length q.answers) q.stage o old } ∷ [])
took_walks c q None kept calls last next old is here readable are prefix e = absurd cc
took_walks c q (Some (task.Look pa space)) kept calls last next old is here readable are prefix e =
    walks q.geometry q.number c q.tasks q.answers kept q.cache q.stage pa space calls last next old here (look_unblocked q.geometry pa space (acts_at q (task.Look pa space) is here))
    (access_at q (task.Look pa space) is here) is.keeps (look_at q pa space is here) readable are prefix e
took_walks c q (Some (task.Delegate pa source)) kept calls last next old is here readable are prefix e = absurd cc
took_walks c q (Some (task.Undelegate pa source)) kept calls last next old is here readable are prefix e = absurd cc
took_walks c q (Some task.Unknown) kept calls last next old is here readable are prefix e = absurd cc

pub step_walks : (c : ℕ) (q : CpuData) (events : List CallEvent) (next : Act) (old : ℕ) → IsCpu q → HasWalked c q events → IsReadable q.stage old → next_of q ≡ Some next
    → HasWalked c (took_of q old) (events ++ record { act = next; old = old; made = made_at q.geometry c (length q.answers) q.stage (task_of q) old } ∷ [])
step_walks c q events next old is walked readable e =
    subst (λ (es : List CallEvent). HasWalked c (took_of q old) (es ++ record { act = next; old = old; made = made_at q.geometry c (length q.answers) q.stage (task_of q) old } ∷ [])) (sym walked.parts)
    (took_walks c q (task_of q) walked.kept walked.calls walked.last next old is refl readable walked.answered walked.under_way e)
