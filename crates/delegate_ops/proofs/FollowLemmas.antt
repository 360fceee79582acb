-- An agent that has come to its stage by some events follows its script by them.
use Rattle.std.proofs.Common.{◌≡◌, ℕ, zero, suc, ◌+◌, ◌-◌, ◌≤◌, ◌++◌, ◌∷◌, [], List, true, Option, Some, None, length, map, append_assoc, append-nil, refl, sym, ap, ◌∙◌, subst, inl, inr, arith}
use Rattle.std.specs.Prelude.{slice_get, MatchOption}
use Rattle.std.specs.List.{All}
use Rattle.std.proofs.lemmas.Bool.{cases_Bool, ltb-true}
use Rattle.std.proofs.lemmas.List.Elements.{All-nil}
use Rattle.gpi_values.specs.declared.gpi.Gpi.TheVariants as gpi
use Rattle.gpi_values.specs.declared.security.Source.TheVariants as source
use Rattle.gpt_descriptors.specs.declared.size.Size.{Size}
use Rattle.gpt_descriptors.specs.declared.size.Size.TheVariants as size
use Rattle.gpt_descriptors.specs.declared.size.Generations.{Generations}
use Rattle.gpt_descriptors.specs.declared.entry.L1Entry.TheVariants as l1
use Rattle.gpt_descriptors.specs.Sizes.{generation_last}
use Rattle.gpt_descriptors.specs.Entries.{l1_word}
use Rattle.gpt_descriptors.specs.Places.{GeometryData, l1_place_of}
use Rattle.gpt_descriptors.proofs.CanonicalLemmas.{words_some}
use Rattle.shared_words.specs.declared.act.Act.TheVariants as act
use Rattle.shared_words.specs.Events.{Event}
use Rattle.fuse.specs.Merging.{FuseData, around_of, fuse_of}
use Rattle.fuse.proofs.ScriptLemmas.{steps_are_part}
use Rattle.std.proofs.lemmas.List.{map-append}
use Rattle.bit_locks.specs.Locks.{take_act, release_act}
use Rattle.invalidate.specs.Generations.{gen_load_of}
use Rattle.invalidate.specs.Duty.{barrier_load}
use Rattle.invalidate.specs.Barrier.{BarrierData}
use Rattle.history.specs.declared.call.Task.{Task}
use Rattle.history.specs.declared.call.Task.TheVariants as task
use Rattle.history.specs.declared.call.Answer.{Answer}
use Rattle.history.specs.declared.call.Answer.TheVariants as answer
use Rattle.history.specs.Counts.{is_worn}
use Rattle.history.specs.Events.{CallEvent, plain, plain_event}
use Rattle.delegate_ops.specs.declared.stage.Kept.{Kept}
use Rattle.delegate_ops.specs.InnerStages.{Stage}
use Rattle.delegate_ops.specs.InnerStages as stage
use Rattle.delegate_ops.specs.Deciding.{address_of, idle_answer, looked_answer, worn_answer}
use Rattle.delegate_ops.specs.Script.{lock_bit_of, entries_of, IsWait, Part, Makes, Passes, IsBusy, ArePassed, TakesLock, reads, Decides, IsUnderWay, Follows}
use Rattle.delegate_ops.specs.InnerAgents.{AgentData, IsAgent, HasActs, task_of, has_ended}
use Rattle.delegate_ops.specs.InnerScript.{IsReading, reads_before, IsChanging, IsPassingAt, IsMergingAt, IsPrefix, HasWalked}
use Rattle.delegate_ops.proofs.BlockLemmas.{one_made, barrier_made, one_passes, done_by}
use Rattle.delegate_ops.proofs.NextLemmas.{acts_place, acts_index}

-- more events bring the call to where it decides
pub record GoesOn (g : GeometryData) (c n : ℕ) (t : Task) (events : List CallEvent) : Type 0 where
  pub rest : List CallEvent
  pub given : Answer
  pub decided : Decides g c n t given (events ++ rest)

not_empty : {A : Type 0} (xs : List A) (x : A) → xs ++ x ∷ [] ≡ [] → ⊥
not_empty [] x e = absurd cc
not_empty (y ∷ xs) x e = absurd cc

under_way_by : (g : GeometryData) (c n : ℕ) (t : Task) (events : List CallEvent) → idle_answer g t ≡ None → GoesOn g c n t events → IsUnderWay g c n t events
under_way_by g c n t events acts goes =
    let e : CallEvent = plain (release_act (lock_bit_of g t)) 0 in
    record {
      acts = acts;
      rest = goes.rest ++ e ∷ [];
      given = goes.given;
      whole = record { deciding = events ++ goes.rest; left = 0; decided = goes.decided; parts = sym (append_assoc events goes.rest (e ∷ [])) };
      proper = not_empty goes.rest e;
    }

-- ---- what may come yet

-- a word that refuses each transition
refusing : ℕ
refusing = l1_word (l1.Contig size.Two gpi.NoAccess)

refusing_answer : (g : GeometryData) (t : Task) → looked_answer g t refusing ≡ Some (answer.Perm gpi.NoAccess)
unfolding refusing
refusing_answer g (task.Delegate pa s) = refl
refusing_answer g (task.Undelegate pa source.Realm) = refl
refusing_answer g (task.Undelegate pa source.Secure) = refl
refusing_answer g task.Unknown = refl
refusing_answer g (task.Look pa space) = refl

-- with its lock the call loads such a word
locked_goes : (g : GeometryData) (c n : ℕ) (t : Task) (place : ℕ) (events : List CallEvent) → l1_place_of g (address_of t) ≡ Some place → TakesLock g t events → GoesOn g c n t events
locked_goes g c n t place events there locked =
    let given : Answer = answer.Perm gpi.NoAccess in
    record {
      rest = record { act = act.Load place; old = refusing; made = entries_of g c n t given } ∷ [];
      given = given;
      decided = inl (record { place = place; word = refusing; looked = record { locking = events; locked = locked; there = there; parts = refl }; refused = refusing_answer g t });
    }

waiting_goes : (g : GeometryData) (c n : ℕ) (t : Task) (place : ℕ) (events : List CallEvent) → l1_place_of g (address_of t) ≡ Some place → All (IsWait g t) events → GoesOn g c n t events
waiting_goes g c n t place events there waits =
    let e : CallEvent = plain (take_act (lock_bit_of g t)) 0 in
    let goes = locked_goes g c n t place (events ++ e ∷ []) there (record { waits = events; free = 0; held = waits; clear = refl; parts = refl }) in
    record {
      rest = e ∷ goes.rest;
      given = goes.given;
      decided = subst (Decides g c n t goes.given) (append_assoc events (e ∷ []) goes.rest) goes.decided;
    }

-- the generations, the last of them the last that there is
worn_with : Generations → Generations
worn_with k = record { two = k.two; thirty_two = k.thirty_two; five_twelve = generation_last }

some_worn : (k : Generations) → (given : Answer) × (worn_answer (worn_with k) ≡ Some given)
unfolding worn_with
some_worn k =
    elim (cases_Bool (is_worn k.two)) [
      | inl two ↦ (answer.Worn size.Two k.two, rw two refl)
      | inr two ↦ elim (cases_Bool (is_worn k.thirty_two)) [
        | inl thirty_two ↦ (answer.Worn size.ThirtyTwo k.thirty_two, rw (two, thirty_two) refl)
        | inr thirty_two ↦ (answer.Worn size.FiveTwelve generation_last, rw (two, thirty_two) refl)
      ]
    ]

-- the loads that are still to come
last_load : GeometryData → ℕ → ℕ → Task → Generations → CallEvent
last_load g c n t k =
    record { act = gen_load_of g size.FiveTwelve (address_of t); old = (worn_with k).five_twelve; made = entries_of g c n t (some_worn k).0 }

loads_from : GeometryData → ℕ → ℕ → Task → Size → Generations → List CallEvent
loads_from g c n t size.FiveTwelve k = last_load g c n t k ∷ []
loads_from g c n t size.ThirtyTwo k = plain (gen_load_of g size.ThirtyTwo (address_of t)) (worn_with k).thirty_two ∷ last_load g c n t k ∷ []
loads_from g c n t size.Two k =
    plain (gen_load_of g size.Two (address_of t)) (worn_with k).two ∷ plain (gen_load_of g size.ThirtyTwo (address_of t)) (worn_with k).thirty_two ∷ last_load g c n t k ∷ []

loads_whole : (g : GeometryData) (c n : ℕ) (t : Task) (z : Size) (k : Generations) (looking events : List CallEvent) → events ≡ looking ++ reads_before g (address_of t) z k
    → events ++ loads_from g c n t z k ≡ looking ++ reads g (address_of t) (worn_with k) (entries_of g c n t (some_worn k).0)
unfolding loads_from last_load worn_with
loads_whole g c n t size.Two k looking events parts = rw (parts, append-nil looking) refl
loads_whole g c n t size.ThirtyTwo k looking events parts = rw parts (append_assoc looking _ _)
loads_whole g c n t size.FiveTwelve k looking events parts = rw parts (append_assoc looking _ _)

reading_goes : (g : GeometryData) (c n : ℕ) (t : Task) (z : Size) (k : Kept) (events : List CallEvent) → IsReading g t z k events → GoesOn g c n t events
reading_goes g c n t z k events reading =
    let worn = some_worn k.generations in
    record {
      rest = loads_from g c n t z k.generations;
      given = worn.0;
      decided = inr (inl (record {
        place = reading.place;
        word = k.word;
        generations = worn_with k.generations;
        read = record {
          looking = reading.looking;
          looked = reading.looked;
          needed = reading.needed;
          parts = loads_whole g c n t z k.generations reading.looking events reading.parts;
        };
        worn = worn.1;
      }));
    }

-- processors that are still to be passed are passed at once
barrier_on : (g : GeometryData) (passed left : ℕ) (before : List CallEvent) → ArePassed g passed before → (rest : List CallEvent) × ArePassed g (passed + left) (before ++ rest)
barrier_on g passed zero before are =
    let none : passed ≡ passed + 0 = omega arith in
    ([], subst (λ (m : ℕ). ArePassed g m (before ++ [])) none (subst (ArePassed g passed) (sym (append-nil before)) are))
barrier_on g passed (suc left) before are =
    let first = barrier_on g passed left before are in
    let e : CallEvent = plain (barrier_load g (passed + left)) 0 in
    let one : suc (passed + left) ≡ passed + suc left = omega arith in (
      first.0 ++ e ∷ [],
      subst (λ (m : ℕ). ArePassed g m (before ++ (first.0 ++ e ∷ []))) one (
        before ++ first.0,
        e ∷ [],
        sym (append_assoc before first.0 (e ∷ [])),
        first.1,
        record { waits = []; busy = All-nil (IsBusy g (passed + left)); parts = refl },
      ),
    )

-- the parts that are still to come are made
all_made : (g : GeometryData) (c n : ℕ) (t : Task) (place : ℕ) (to_come : List Part) (last : Generations) (word : ℕ) (events : List CallEvent) → IsChanging g c n t place to_come last word events
    → (rest : List CallEvent) × IsChanging g c n t place [] last word (events ++ rest)
all_made g c n t place [] last word events changing = ([], subst (IsChanging g c n t place [] last word) (sym (append-nil events)) changing)
all_made g c n t place (Makes next ∷ to_come) last word events changing =
    let e : CallEvent = record { act = next.act; old = 0; made = next.made } in
    let later = all_made g c n t place to_come last word (events ++ e ∷ []) (one_made g c n t place next 0 to_come last word events changing) in
    (e ∷ later.0, subst (IsChanging g c n t place [] last word) (append_assoc events (e ∷ []) later.0) later.1)
all_made g c n t place (Passes ∷ to_come) last word events changing =
    let barrier = barrier_on g 0 g.cpus [] refl in
    let all : 0 + g.cpus ≡ g.cpus = omega arith in
    let later = all_made g c n t place to_come last word (events ++ barrier.0)
    (barrier_made g c n t place to_come last word events barrier.0 changing (subst (λ (m : ℕ). ArePassed g m barrier.0) all barrier.1)) in
    (barrier.0 ++ later.0, subst (IsChanging g c n t place [] last word) (append_assoc events barrier.0 later.0) later.1)

-- and some merging
changing_goes : (g : GeometryData) (c n : ℕ) (t : Task) (place : ℕ) (to_come : List Part) (last : Generations) (word : ℕ) (events : List CallEvent) → idle_answer g t ≡ None
    → IsChanging g c n t place to_come last word events → GoesOn g c n t events
changing_goes g c n t place to_come last word events acts changing =
    let made = all_made g c n t place to_come last word events changing in
    let there = acts_index g t acts in
    let around = around_of g there.0 word in
    let part = steps_are_part around [] (fuse_of g there.0 word) (words_some g.setup size.Two) refl in
    let merging : List CallEvent = map plain_event part.0 in
    record {
      rest = made.0 ++ merging;
      given = answer.Done last;
      decided = subst (Decides g c n t (answer.Done last)) (append_assoc events made.0 merging)
          (done_by g c n t place last word (events ++ made.0) merging made.1
          (record { index = there.0; there = there.1; outcome = part.1; merging = part.0; whole = part.2; parts = refl }));
    }

-- in a barrier the processors that are left are passed
passing_goes : (g : GeometryData) (c n : ℕ) (t : Task) (place : ℕ) (d : BarrierData) (to_come : List Part) (last : Generations) (word : ℕ) (events : List CallEvent) → idle_answer g t ≡ None
    → IsPassingAt g c n t place d to_come last word events → GoesOn g c n t events
passing_goes g c n t place d to_come last word events acts at =
    let e : CallEvent = plain (barrier_load g d.passed) 0 in
    let more = barrier_on g (suc d.passed) (g.cpus - suc d.passed) (at.passing ++ e ∷ []) (one_passes g d.passed at.passing at.passes) in
    let all : suc d.passed + (g.cpus - suc d.passed) ≡ g.cpus = omega (arith, ltb-true _ _ at.barrier.low, at.barrier.cpus) in
    let barrier : List CallEvent = (at.passing ++ e ∷ []) ++ more.0 in
    let made : IsChanging g c n t place to_come last word (at.changing ++ barrier) =
    barrier_made g c n t place to_come last word at.changing barrier at.changed (subst (λ (m : ℕ). ArePassed g m barrier) all more.1) in
    let whole : at.changing ++ barrier ≡ events ++ e ∷ more.0 =
    ap (λ (es : List CallEvent). at.changing ++ es) (append_assoc at.passing (e ∷ []) more.0) ∙ sym (append_assoc at.changing at.passing (e ∷ more.0))
    ∙ ap (λ (es : List CallEvent). es ++ e ∷ more.0) (sym at.parts) in
    let goes = changing_goes g c n t place to_come last word (events ++ e ∷ more.0) acts (subst (IsChanging g c n t place to_come last word) whole made) in
    record {
      rest = (e ∷ more.0) ++ goes.rest;
      given = goes.given;
      decided = subst (Decides g c n t goes.given) {x = (events ++ e ∷ more.0) ++ goes.rest} (append_assoc events (e ∷ more.0) goes.rest) goes.decided;
    }

merging_goes : (g : GeometryData) (c n : ℕ) (t : Task) (f : FuseData) (last : Generations) (events : List CallEvent) → IsMergingAt g c n t f last events → GoesOn g c n t events
merging_goes g c n t f last events at =
    let around = around_of g at.index at.word in
    let part = steps_are_part around at.merging f (words_some g.setup size.Two) at.walks in
    let all : List Event = at.merging ++ part.0 in
    record {
      rest = map plain_event part.0;
      given = answer.Done last;
      decided = subst (Decides g c n t (answer.Done last))
          (ap (λ (es : List CallEvent). at.changing ++ es) (map-append plain_event at.merging part.0)
          ∙ sym (append_assoc at.changing (map plain_event at.merging) (map plain_event part.0))
          ∙ ap (λ (es : List CallEvent). es ++ map plain_event part.0) (sym at.parts))
          (done_by g c n t at.place last at.word at.changing (map plain_event all) at.changed
          (record { index = at.index; there = at.there; outcome = part.1; merging = all; whole = part.2; parts = refl }));
    }

-- ---- at each stage

prefix_under_way : (g : GeometryData) (c n : ℕ) (s : Stage) (t : Task) (events : List CallEvent) → idle_answer g t ≡ None → IsPrefix g c n s (Some t) events → IsUnderWay g c n t events
prefix_under_way g c n stage.Locking t events acts prefix = under_way_by g c n t events acts (let there = acts_place g t acts in waiting_goes g c n t there.0 events there.1 prefix)
prefix_under_way g c n stage.Looking t events acts prefix = under_way_by g c n t events acts (let there = acts_place g t acts in locked_goes g c n t there.0 events there.1 prefix)
prefix_under_way g c n (stage.Reading z k) t events acts prefix = under_way_by g c n t events acts (reading_goes g c n t z k events prefix)
prefix_under_way g c n (stage.Splitting z d k) t events acts prefix = under_way_by g c n t events acts (changing_goes g c n t prefix.0 _ _ _ events acts prefix.2)
prefix_under_way g c n (stage.Preparing k) t events acts prefix = under_way_by g c n t events acts (changing_goes g c n t prefix.0 _ _ _ events acts prefix.2)
prefix_under_way g c n (stage.Passing ch d k) t events acts prefix = under_way_by g c n t events acts (passing_goes g c n t prefix.0 d _ _ _ events acts prefix.2)
prefix_under_way g c n (stage.Cleaning ch l k) t events acts prefix = under_way_by g c n t events acts (changing_goes g c n t prefix.0 _ _ _ events acts prefix.2)
prefix_under_way g c n (stage.Changing ch k) t events acts prefix = under_way_by g c n t events acts (changing_goes g c n t prefix.0 _ _ _ events acts prefix.2)
prefix_under_way g c n (stage.Raising ch z k) t events acts prefix = under_way_by g c n t events acts (changing_goes g c n t prefix.0 _ _ _ events acts prefix.2)
prefix_under_way g c n (stage.Merging f k) t events acts prefix = under_way_by g c n t events acts (merging_goes g c n t f k events prefix)
prefix_under_way g c n (stage.Releasing given) t events acts prefix =
    under_way_by g c n t events acts (record { rest = []; given = given; decided = subst (Decides g c n t given) (sym (append-nil events)) prefix })

last_under_way : (g : GeometryData) (c n : ℕ) (s : Stage) (o : Option Task) (events : List CallEvent) → HasActs g o → IsPrefix g c n s o events
    → MatchOption o (events ≡ []) (λ t. IsUnderWay g c n t events)
last_under_way g c n s None events acts prefix = prefix
last_under_way g c n s (Some t) events acts prefix = prefix_under_way g c n s t events acts prefix

pub walked_follows : (c : ℕ) (a : AgentData) (events : List CallEvent) → IsAgent a → HasWalked c a events → Follows a.geometry c a.tasks a.answers events
walked_follows c a events is walked = record {
  calls = walked.calls;
  last = walked.last;
  parts = walked.parts;
  answered = walked.answered;
  under_way = last_under_way a.geometry c (length a.answers) a.stage (task_of a) walked.last is.acts walked.under_way;
}

-- ---- where it has ended

beyond : (tasks : List Task) (n : ℕ) → n ≤ length tasks → slice_get tasks n ≡ None → n ≡ length tasks
beyond [] n within none = omega (arith, within)
beyond (t ∷ tasks) zero within none = absurd cc
beyond (t ∷ tasks) (suc n) within none = ap suc (beyond tasks n (omega (arith, within)) none)

ended_by : (a : AgentData) (o : Option Task) → IsAgent a → task_of a ≡ o → has_ended a ≡ true → length a.answers ≡ length a.tasks
ended_by a None is under_way ended = beyond a.tasks (length a.answers) is.answered under_way
ended_by a (Some t) is under_way ended = absurd (let both = rw under_way at ended in cc)

pub walked_ended : (c : ℕ) (a : AgentData) (events : List CallEvent) → IsAgent a → HasWalked c a events → has_ended a ≡ true → length a.answers ≡ length a.tasks
walked_ended c a events is walked ended = ended_by a (task_of a) is refl ended
