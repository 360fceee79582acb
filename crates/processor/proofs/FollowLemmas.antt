-- A processor that has come so far by some events follows its script by them.
use Rattle.std.proofs.Common.{◌≡◌, ◌≢◌, ℕ, zero, suc, ◌≤◌, ◌<◌, ◌++◌, ◌∷◌, [], List, Bool, true, false, Option, Some, None, length, append_assoc, length-append, refl, sym, ap, subst, arith, inl, inr, if◌then◌else◌}
use Rattle.std.specs.Prelude.{slice_get, MatchOption}
use Rattle.gpi_values.specs.declared.gpi.Gpi.{Gpi}
use Rattle.gpi_values.specs.declared.gpi.Gpi.TheVariants as gpi
use Rattle.gpi_values.specs.declared.gpi.Space.{Space}
use Rattle.gpt_descriptors.specs.declared.size.Size.TheVariants as size
use Rattle.gpt_descriptors.specs.declared.size.Generations.{Generations}
use Rattle.gpt_descriptors.specs.declared.size.Reach.TheVariants as reach
use Rattle.gpt_descriptors.specs.Sizes.{with_generation}
use Rattle.gpt_descriptors.specs.Places.{GeometryData, IsGeometry, l1_place_of, block_gpi_of}
use Rattle.shared_words.specs.declared.act.Act.{Act}
use Rattle.invalidate.specs.Duty.{off_act}
use Rattle.alias_clean.specs.Lines.{touch_of}
use Rattle.history.specs.declared.call.Task.{Task}
use Rattle.history.specs.declared.call.Task.TheVariants as task
use Rattle.history.specs.declared.call.Answer.{Answer}
use Rattle.history.specs.Events.{CallEvent, plain}
use Rattle.history.specs.Stamps.{walked}
use Rattle.processor.specs.InnerProgress.{Stage}
use Rattle.processor.specs.InnerProgress as stage
use Rattle.invalidate.specs.Generations.{gen_load_of}
use Rattle.gpt_descriptors.specs.Sizes.{tag_size_of}
use Rattle.walk_cache.specs.declared.walk.Walk.{Walk}
use Rattle.walk_cache.specs.Rings.{first_around, newest_of, last_of}
use Rattle.history.specs.declared.call.Access.{Access}
use Rattle.history.specs.declared.call.OldWalk.{OldWalk}
use Rattle.history.specs.declared.call.Answer.TheVariants as answer
use Rattle.processor.specs.Accesses.{IsAccess, table_access}
use Rattle.processor.specs.Script.{deciding_load, tries, loads, Decides, touches, Looks, IsLook, IsCall, IsUnderWay, Follows}
use Rattle.processor.specs.InnerProgress.{no_generations, after_search}
use Rattle.processor.specs.InnerCpus.{CpuData, IsCpu, task_of, idle_answer, has_ended}
use Rattle.processor.specs.InnerScript.{IsPartOf, IsPrefix, HasWalked}
use Rattle.processor.proofs.CpuLemmas.{access_at, acts_at, look_unblocked, look_place, touch_there}
use Rattle.processor.proofs.ScriptLemmas.{part_started, part_missed, part_loaded, part_found, part_closed, part_touched, part_left}

-- more events make it whole
record GoesOn (g : GeometryData) (p c n pa : ℕ) (space : Space) (kept : List Walk) (events : List CallEvent) : Type 0 where
  rest : List CallEvent
  given : Answer
  later : List Walk
  whole : Looks g p c n pa space kept given later (events ++ rest)
  proper : rest ≢ []

not_none : (e : CallEvent) (rest : List CallEvent) → e ∷ rest ≢ []
not_none e rest same = cc

-- so does one more, where more events follow it
one_more : (g : GeometryData) (p c n pa : ℕ) (space : Space) (kept : List Walk) (events : List CallEvent) (e : CallEvent) → GoesOn g p c n pa space kept (events ++ e ∷ []) → GoesOn g p c n pa space kept events
one_more g p c n pa space kept events e goes = record {
  rest = e ∷ goes.rest;
  given = goes.given;
  later = goes.later;
  whole = subst (Looks g p c n pa space kept goes.given goes.later) (append_assoc events (e ∷ []) goes.rest) goes.whole;
  proper = not_none e goes.rest;
}

leaving_goes : (g : GeometryData) (p c n pa : ℕ) (space : Space) (kept now : List Walk) (a : Access) (events : List CallEvent) → IsPartOf g p c n pa space kept now (stage.Leaving a) events
    → GoesOn g p c n pa space kept events
leaving_goes g p c n pa space kept now a events part = record {
  rest = plain (off_act g p) 0 ∷ [];
  given = answer.Seen a;
  later = now;
  whole = part_left g p c n pa space kept now a 0 events part;
  proper = not_none (plain (off_act g p) 0) [];
}

touching_goes : (g : GeometryData) (p c n pa : ℕ) (space : Space) (kept now : List Walk) (a : Access) (place : ℕ) (events : List CallEvent) → l1_place_of g pa ≡ Some place
    → IsPartOf g p c n pa space kept now (stage.Touching a) events → GoesOn g p c n pa space kept events
touching_goes g p c n pa space kept now a place events there part =
    let touch = touch_there g pa place space there in
    one_more g p c n pa space kept events _ (leaving_goes g p c n pa space kept now a _ (part_touched g p c n pa space kept now a touch.0 0 events part touch.1))

decided_goes : (g : GeometryData) (p c n pa : ℕ) (space : Space) (kept now : List Walk) (a : Access) (b : Bool) (place : ℕ) (events : List CallEvent) → l1_place_of g pa ≡ Some place
    → IsPartOf g p c n pa space kept now (if b then stage.Touching a else stage.Leaving a) events → GoesOn g p c n pa space kept events
decided_goes g p c n pa space kept now a true place events there part = touching_goes g p c n pa space kept now a place events there part
decided_goes g p c n pa space kept now a false place events there part = leaving_goes g p c n pa space kept now a events part

closing_goes : (g : GeometryData) (p c n pa : ℕ) (space : Space) (kept now : List Walk) (w : Walk) (m : Option OldWalk) (place : ℕ) (events : List CallEvent) → l1_place_of g pa ≡ Some place
    → IsPartOf g p c n pa space kept now (stage.Closing w m) events → GoesOn g p c n pa space kept events
closing_goes g p c n pa space kept now w m place events there part =
    let a : Access = table_access space part.1.gpi (walked m w.reach w.tag 0) in
    one_more g p c n pa space kept events _
    (decided_goes g p c n pa space kept (last_of g.setup.ring (now ++ w ∷ [])) a a.allowed place _ there (part_closed g p c n pa space kept now w m 0 events part))

-- it may load the word of a contiguous block of no access
walking_goes : (g : GeometryData) (p c n pa : ℕ) (space : Space) (kept now : List Walk) (k : Generations) (m : Option OldWalk) (place : ℕ) (events : List CallEvent) → l1_place_of g pa ≡ Some place
    → IsPartOf g p c n pa space kept now (stage.Walking k m) events → GoesOn g p c n pa space kept events
walking_goes g p c n pa space kept now k m place events there part =
    let w : Walk = record { reach = reach.Two; first = first_around reach.Two pa; word = 257; tag = k.two } in
    one_more g p c n pa space kept events _
    (closing_goes g p c n pa space kept now w m place _ there (part_found g p c n pa space kept now k m w gpi.NoAccess place 257 events part there refl refl))

last_load_goes : (g : GeometryData) (p c n pa : ℕ) (space : Space) (kept now : List Walk) (k : Generations) (m : Option OldWalk) (place : ℕ) (events : List CallEvent) → l1_place_of g pa ≡ Some place
    → IsPartOf g p c n pa space kept now (stage.Loading size.FiveTwelve k m) events → GoesOn g p c n pa space kept events
last_load_goes g p c n pa space kept now k m place events there part =
    one_more g p c n pa space kept events _
    (walking_goes g p c n pa space kept now (with_generation size.FiveTwelve 0 k) m place _ there (part_loaded g p c n pa space kept now size.FiveTwelve k m 0 events part))

second_load_goes : (g : GeometryData) (p c n pa : ℕ) (space : Space) (kept now : List Walk) (k : Generations) (m : Option OldWalk) (place : ℕ) (events : List CallEvent) → l1_place_of g pa ≡ Some place
    → IsPartOf g p c n pa space kept now (stage.Loading size.ThirtyTwo k m) events → GoesOn g p c n pa space kept events
second_load_goes g p c n pa space kept now k m place events there part =
    one_more g p c n pa space kept events _
    (last_load_goes g p c n pa space kept now (with_generation size.ThirtyTwo 0 k) m place _ there (part_loaded g p c n pa space kept now size.ThirtyTwo k m 0 events part))

first_load_goes : (g : GeometryData) (p c n pa : ℕ) (space : Space) (kept now : List Walk) (k : Generations) (m : Option OldWalk) (place : ℕ) (events : List CallEvent) → l1_place_of g pa ≡ Some place
    → IsPartOf g p c n pa space kept now (stage.Loading size.Two k m) events → GoesOn g p c n pa space kept events
first_load_goes g p c n pa space kept now k m place events there part =
    one_more g p c n pa space kept events _
    (second_load_goes g p c n pa space kept now (with_generation size.Two 0 k) m place _ there (part_loaded g p c n pa space kept now size.Two k m 0 events part))

other_tag : (tag : ℕ) → suc tag ≢ tag
other_tag tag same = omega (arith, same)

-- the found walk may be too old
trying_goes : (g : GeometryData) (p c n pa : ℕ) (space : Space) (kept now : List Walk) (w : Walk) (place : ℕ) (events : List CallEvent) → l1_place_of g pa ≡ Some place
    → IsPartOf g p c n pa space kept now (stage.Trying w) events → GoesOn g p c n pa space kept events
trying_goes g p c n pa space kept now w place events there part =
    one_more g p c n pa space kept events _
    (first_load_goes g p c n pa space kept now no_generations _ place _ there (part_missed g p c n pa space kept now w (suc w.tag) events part (other_tag w.tag)))

searched_goes : (g : GeometryData) (p c n pa : ℕ) (space : Space) (kept now : List Walk) (o : Option Walk) (place : ℕ) (events : List CallEvent) → l1_place_of g pa ≡ Some place
    → IsPartOf g p c n pa space kept now (after_search o) events → GoesOn g p c n pa space kept events
searched_goes g p c n pa space kept now None place events there part = first_load_goes g p c n pa space kept now no_generations None place events there part
searched_goes g p c n pa space kept now (Some w) place events there part = trying_goes g p c n pa space kept now w place events there part

-- however far it has come
goes : (g : GeometryData) (p c n pa : ℕ) (space : Space) (kept now : List Walk) (s : Stage) (place : ℕ) (events : List CallEvent) → l1_place_of g pa ≡ Some place
    → IsPartOf g p c n pa space kept now s events → GoesOn g p c n pa space kept events
goes g p c n pa space kept now stage.Starting place events there part =
    one_more g p c n pa space kept events _ (searched_goes g p c n pa space kept now (newest_of now pa) place _ there (part_started g p c n pa space kept now 0 events part))
goes g p c n pa space kept now (stage.Trying w) place events there part = trying_goes g p c n pa space kept now w place events there part
goes g p c n pa space kept now (stage.Loading size.Two k m) place events there part = first_load_goes g p c n pa space kept now k m place events there part
goes g p c n pa space kept now (stage.Loading size.ThirtyTwo k m) place events there part = second_load_goes g p c n pa space kept now k m place events there part
goes g p c n pa space kept now (stage.Loading size.FiveTwelve k m) place events there part = last_load_goes g p c n pa space kept now k m place events there part
goes g p c n pa space kept now (stage.Walking k m) place events there part = walking_goes g p c n pa space kept now k m place events there part
goes g p c n pa space kept now (stage.Closing w m) place events there part = closing_goes g p c n pa space kept now w m place events there part
goes g p c n pa space kept now (stage.Touching a) place events there part = touching_goes g p c n pa space kept now a place events there part
goes g p c n pa space kept now (stage.Leaving a) place events there part = leaving_goes g p c n pa space kept now a events part

look_under_way : (g : GeometryData) (p c n pa : ℕ) (space : Space) (kept now : List Walk) (s : Stage) (events : List CallEvent) → IsGeometry g → IsAccess g (task.Look pa space)
    → idle_answer g (task.Look pa space) ≡ None → IsPartOf g p c n pa space kept now s events → IsUnderWay g p c n (task.Look pa space) kept events
look_under_way g p c n pa space kept now s events is inside acts part =
    let place = look_place g pa space is inside acts in
    let on = goes g p c n pa space kept now s place.0 events place.1 part in
    record {
      rest = on.rest;
      given = on.given;
      later = on.later;
      whole = subst (λ (o : Option Gpi). IsLook g p c n pa space o kept on.given on.later (events ++ on.rest)) (sym (look_unblocked g pa space acts)) on.whole;
      proper = on.proper;
    }

last_under_way : (q : CpuData) (c : ℕ) (kept : List Walk) (o : Option Task) (events : List CallEvent) → IsCpu q → task_of q ≡ o
    → IsPrefix q.geometry q.number c (length q.answers) kept q.cache.walks q.stage o events
    → MatchOption o (events ≡ []) (λ t. IsUnderWay q.geometry q.number c (length q.answers) t kept events)
last_under_way q c kept None events is here prefix = prefix.1
last_under_way q c kept (Some (task.Look pa space)) events is here prefix =
    look_under_way q.geometry q.number c (length q.answers) pa space kept q.cache.walks q.stage events is.geometry (access_at q (task.Look pa space) is here) (acts_at q (task.Look pa space) is here) prefix
last_under_way q c kept (Some (task.Delegate pa source)) events is here prefix = absurd (access_at q (task.Delegate pa source) is here)
last_under_way q c kept (Some (task.Undelegate pa source)) events is here prefix = absurd (access_at q (task.Undelegate pa source) is here)
last_under_way q c kept (Some task.Unknown) events is here prefix = absurd (access_at q task.Unknown is here)

pub walked_follows : (c : ℕ) (q : CpuData) (events : List CallEvent) → IsCpu q → HasWalked c q events → Follows q.geometry q.number c q.tasks q.answers events
walked_follows c q events is walked = record {
  calls = walked.calls;
  last = walked.last;
  kept = walked.kept;
  parts = walked.parts;
  answered = walked.answered;
  under_way = last_under_way q c walked.kept (task_of q) walked.last is refl walked.under_way;
}

-- ---- where it has ended

beyond : (tasks : List Task) (n : ℕ) → n ≤ length tasks → slice_get tasks n ≡ None → n ≡ length tasks
beyond [] n within none = omega (arith, within)
beyond (t ∷ tasks) zero within none = absurd cc
beyond (t ∷ tasks) (suc n) within none = ap suc (beyond tasks n (omega (arith, within)) none)

ended_by : (q : CpuData) (o : Option Task) → IsCpu q → task_of q ≡ o → has_ended q ≡ true → length q.answers ≡ length q.tasks
ended_by q None is under_way ended = beyond q.tasks (length q.answers) is.answered under_way
ended_by q (Some t) is under_way ended = absurd (let both = rw under_way at ended in cc)

pub cpu_ended : (q : CpuData) → IsCpu q → has_ended q ≡ true → length q.answers ≡ length q.tasks
cpu_ended q is ended = ended_by q (task_of q) is refl ended

-- ---- how many acts

tries_few : (g : GeometryData) (pa : ℕ) (m : Option OldWalk) → length (tries g pa m) ≤ 1
tries_few g pa None = omega arith
tries_few g pa (Some old) = omega arith

-- an access at a table finds out in two, or in six or seven
decides_few : (g : GeometryData) (p c n pa : ℕ) (space : Space) (kept : List Walk) (given : Access) (later : List Walk) (events : List CallEvent)
    → Decides g p c n pa space kept given later events → length events ≤ 7
decides_few g p c n pa space kept given later events (inl hits) = let long = ap (λ (es : List CallEvent). length es) hits.0.parts in omega (arith, long)
decides_few g p c n pa space kept given later events (inr walks) =
    let long = ap (λ (es : List CallEvent). length es) walks.parts in
    let loaded = length-append (tries g pa walks.missed) (loads g pa walks.generations) in
    let split = length-append (tries g pa walks.missed ++ loads g pa walks.generations)
    (deciding_load g c n pa space walks.place walks.word walks.gpi ∷ plain (gen_load_of g (tag_size_of walks.walk.reach) pa) walks.hi ∷ []) in
    omega (arith, long, loaded, split, tries_few g pa walks.missed)

touches_few : (o : Option Act) (b : Bool) (old : ℕ) → length (touches o b old) ≤ 1
touches_few None b old = omega arith
touches_few (Some touch) true old = omega arith
touches_few (Some touch) false old = omega arith

look_few : (g : GeometryData) (p c n pa : ℕ) (space : Space) (o : Option Gpi) (kept : List Walk) (given : Answer) (later : List Walk) (events : List CallEvent)
    → IsLook g p c n pa space o kept given later events → length events ≤ 9
look_few g p c n pa space (Some gpi) kept given later events look = let none = ap (λ (es : List CallEvent). length es) look.2 in omega (arith, none)
look_few g p c n pa space None kept given later events look =
    let long = ap (λ (es : List CallEvent). length es) look.parts in
    let touched : List CallEvent = touches (touch_of g pa space) look.access.allowed look.touched in
    let split = length-append (look.deciding ++ touched) (plain (off_act g p) look.cleared ∷ []) in
    let decided = length-append look.deciding touched in
    omega (
      arith,
      long,
      split,
      decided,
      touches_few (touch_of g pa space) look.access.allowed look.touched,
      decides_few g p c n pa space kept look.access later look.deciding look.decided,
    )

pub call_few : (g : GeometryData) (p c n : ℕ) (t : Task) (kept : List Walk) (given : Answer) (later : List Walk) (events : List CallEvent) → IsCall g p c n t kept given later events → length events ≤ 9
call_few g p c n (task.Look pa space) kept given later events call = look_few g p c n pa space (block_gpi_of g pa) kept given later events call
call_few g p c n (task.Delegate pa source) kept given later events call = absurd call
call_few g p c n (task.Undelegate pa source) kept given later events call = absurd call
call_few g p c n task.Unknown kept given later events call = absurd call

some_long : (rest : List CallEvent) → rest ≢ [] → 1 ≤ length rest
some_long [] proper = absurd (proper refl)
some_long (e ∷ rest) proper = omega arith

pub under_way_few : (g : GeometryData) (p c n : ℕ) (t : Task) (kept : List Walk) (events : List CallEvent) → IsUnderWay g p c n t kept events → length events < 9
under_way_few g p c n t kept events under_way =
    omega (
      arith,
      call_few g p c n t kept under_way.given under_way.later (events ++ under_way.rest) under_way.whole,
      length-append events under_way.rest,
      some_long under_way.rest under_way.proper,
    )
