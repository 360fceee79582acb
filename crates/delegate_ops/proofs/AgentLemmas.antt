-- Agents after an act are agents.
use Rattle.std.proofs.Common.{◌≡◌, ℕ, zero, suc, ltb, ◌+◌, ◌≤◌, ◌<◌, ◌++◌, ◌∷◌, [], List, false, cond, Some, None, Option, length, drop, refl, sym, ap, ◌∙◌, subst, arith, inl, inr, length-append, length-drop}
use Rattle.std.specs.Prelude.{slice_get}
use Rattle.std.proofs.lemmas.Bool.{cases_Bool, cases_eq, eq-eqb, ne_eqb, ltb-false, lt-ltb}
use Rattle.std.proofs.lemmas.Option.{slice_get_within, get_or_from_slice_get}
use Rattle.gpt_descriptors.specs.declared.size.Size.{Size}
use Rattle.gpt_descriptors.specs.declared.size.Size.TheVariants as size
use Rattle.gpt_descriptors.specs.declared.size.Generations.{Generations}
use Rattle.gpt_descriptors.specs.Sizes.{generation_last}
use Rattle.gpi_values.specs.declared.gpi.Gpi.{Gpi}
use Rattle.gpt_descriptors.specs.declared.entry.L1Entry.{L1Entry}
use Rattle.gpt_descriptors.specs.declared.entry.L1Entry.TheVariants as l1
use Rattle.gpt_descriptors.specs.Sizes.{words_of}
use Rattle.gpt_descriptors.specs.Places.{GeometryData, Level1, place_of, l1_index_of, l1_place_of}
use Rattle.gpt_descriptors.proofs.CanonicalLemmas.{words_some}
use Rattle.shared_words.specs.declared.act.Act.{Act}
use Rattle.shatter.specs.Splitting.{SplittingData, advanced}
use Rattle.gpt_descriptors.specs.Fields.{equal_gpi, granules_of}
use Rattle.gpt_descriptors.specs.declared.size.MaxBlock.{MaxBlock}
use Rattle.gpt_descriptors.specs.Sizes.{is_permitted}
use Rattle.table_meaning.specs.Fusing.{block_words, loads_of, needed_word, test_or_store, passed, failed, loaded, stored, begun}
use Rattle.table_meaning.specs.declared.fusing.Fusing.{Fusing}
use Rattle.table_meaning.specs.declared.fusing.Fusing.TheVariants.{Testing, Storing, Ended}
use Rattle.fuse.specs.Merging.{FuseData}
use Rattle.fuse.specs.Merging as fuse
use Rattle.invalidate.specs.Barrier.{BarrierData, one_passed}
use Rattle.invalidate.specs.Barrier as barrier
use Rattle.history.specs.declared.call.Task.{Task}
use Rattle.history.specs.declared.call.Task.TheVariants as task
use Rattle.history.specs.Counts.{is_worn}
use Rattle.history.specs.declared.call.Answer.{Answer}
use Rattle.delegate_ops.specs.declared.stage.Change.{Change}
use Rattle.delegate_ops.specs.declared.stage.Change.TheVariants as change
use Rattle.delegate_ops.specs.declared.stage.Line.{Line}
use Rattle.delegate_ops.specs.declared.stage.Line.TheVariants as line
use Rattle.delegate_ops.specs.declared.stage.Kept.{Kept}
use Rattle.delegate_ops.specs.InnerStages.{Stage}
use Rattle.delegate_ops.specs.InnerStages as stage
use Rattle.gpt_descriptors.specs.Entries.{l1_entry}
use Rattle.delegate_ops.specs.Deciding.{address_of, idle_answer, looked_answer, worn_answer}
use Rattle.delegate_ops.specs.Changing.{first_change, splitting_of}
use Rattle.delegate_ops.specs.InnerAgents.{AgentData, IsAgent, IsStage, IsChangeOf, IsPrepared, IsCleaned, IsSplittingOf, IsMergingOf, HasRoom, HasRoomFor, raises_from, raises_after, number_of, HasActs, is_look, task_of, answered_first, idle_answers, goes_to, waits_at, after_answer, looked_stage, loaded_stage, read_all, read_stage, split_stage, merging_stage, merged_stage, first_stage, last_stage, passed_stage, passing_stage, cleaned_stage, raised_stage, kept_read, kept_raised, stage_after, is_held, took_at, took_of, took_under_way}
use Rattle.delegate_ops.specs.InnerTransition.{IsMove}
use Rattle.delegate_ops.proofs.NextLemmas.{acts_place, acts_index}

-- ---- the answers of tasks without acts

first_few : (o : Option Answer) (answers : List Answer) (n : ℕ) → length answers ≤ n → length (answered_first o answers) ≤ suc n
first_few None answers n few = omega arith
first_few (Some a) answers n few = omega (arith, few)

pub idle_few : (g : GeometryData) (tasks : List Task) → length (idle_answers g tasks) ≤ length tasks
idle_few g [] = omega arith
idle_few g (t ∷ tasks) = first_few (idle_answer g t) (idle_answers g tasks) (length tasks) (idle_few g tasks)

first_acts : (g : GeometryData) (t : Task) (tasks : List Task) (o : Option Answer) → idle_answer g t ≡ o → HasActs g (slice_get tasks (length (idle_answers g tasks)))
    → HasActs g (slice_get (t ∷ tasks) (length (answered_first o (idle_answers g tasks))))
first_acts g t tasks None e acts = e
first_acts g t tasks (Some a) e acts = acts

-- the task behind them has acts
pub idle_then_acts : (g : GeometryData) (tasks : List Task) → HasActs g (slice_get tasks (length (idle_answers g tasks)))
idle_then_acts g [] = tt
idle_then_acts g (t ∷ tasks) = first_acts g t tasks (idle_answer g t) refl (idle_then_acts g tasks)

pub get_drop : (tasks : List Task) (n i : ℕ) → slice_get (drop n tasks) i ≡ slice_get tasks (n + i)
get_drop tasks zero i = ap (slice_get tasks) (let e : i ≡ 0 + i = omega arith in e)
get_drop [] (suc n) i = refl
get_drop (t ∷ tasks) (suc n) i = get_drop tasks n i ∙ ap (slice_get (t ∷ tasks)) (let e : suc (n + i) ≡ suc n + i = omega arith in e)

-- ---- steps

pub goes_is_agent : (a : AgentData) (s : Stage) → IsAgent a → IsStage a.geometry s (task_of a) → IsAgent (goes_to a s)
goes_is_agent a s is fits = record { geometry = is.geometry; no_looks = is.no_looks; answered = is.answered; acts = is.acts; stage = fits }

waits_is_agent : (a : AgentData) → IsAgent a → IsAgent (waits_at a)
waits_is_agent a is = record { geometry = is.geometry; no_looks = is.no_looks; answered = is.answered; acts = is.acts; stage = is.stage }

pub locking_fits : (g : GeometryData) (o : Option Task) → IsStage g stage.Locking o
locking_fits g None = refl
locking_fits g (Some t) = tt

answer_is_agent : (a : AgentData) (t : Task) (answer : Answer) → IsAgent a → task_of a ≡ Some t → IsAgent (after_answer a answer)
answer_is_agent a t answer is under_way =
    let within : length a.answers < length a.tasks = slice_get_within a.tasks (length a.answers) t under_way in
    let rest = drop (length a.answers + 1) a.tasks in
    let count : length ((a.answers ++ answer ∷ []) ++ idle_answers a.geometry rest) ≡ length a.answers + 1 + length (idle_answers a.geometry rest) =
    length-append (a.answers ++ answer ∷ []) (idle_answers a.geometry rest) ∙ ap (λ (n : ℕ). n + length (idle_answers a.geometry rest)) (length-append a.answers (answer ∷ [])) in
    record {
      geometry = is.geometry;
      no_looks = is.no_looks;
      answered = omega (arith, count, within, idle_few a.geometry rest, length-drop (length a.answers + 1) a.tasks);
      acts = subst (HasActs a.geometry) (get_drop a.tasks (length a.answers + 1) (length (idle_answers a.geometry rest)) ∙ ap (slice_get a.tasks) (sym count)) (idle_then_acts a.geometry rest);
      stage = locking_fits a.geometry (task_of (after_answer a answer));
    }

-- ---- room in the generations

is_some_worn : (n : ℕ) → is_worn n ≡ false → n + 2 ≤ generation_last
is_some_worn n fresh = omega (arith, ltb-false _ _ fresh)

-- where none is worn, each may be raised twice
pub worn_room : (k : Generations) → worn_answer k ≡ None → HasRoom k 2 2 2
worn_room k fresh =
    elim (cases_Bool (is_worn k.two)) [
      | inl worn ↦ absurd (let both = rw worn at fresh in cc)
      | inr two ↦ elim (cases_Bool (is_worn k.thirty_two)) [
        | inl worn ↦ absurd (let both = rw (two, worn) at fresh in cc)
        | inr thirty_two ↦ elim (cases_Bool (is_worn k.five_twelve)) [
          | inl worn ↦ absurd (let both = rw (two, thirty_two, worn) at fresh in cc)
          | inr five_twelve ↦ record { two = is_some_worn _ two; thirty_two = is_some_worn _ thirty_two; five_twelve = is_some_worn _ five_twelve }
        ]
      ]
    ]

-- a task with acts that isn't a look moves its granule
pub acts_move : (g : GeometryData) (t : Task) → idle_answer g t ≡ None → is_look t ≡ false → IsMove t
acts_move g (task.Delegate pa source) acts no_look = tt
acts_move g (task.Undelegate pa source) acts no_look = tt
acts_move g task.Unknown acts no_look = absurd cc
acts_move g (task.Look pa space) acts no_look = absurd cc

-- such a task makes its first change and the last one
pub first_is_change : (t : Task) → IsMove t → IsChangeOf t (first_change t)
first_is_change (task.Delegate pa source) moves = tt
first_is_change (task.Undelegate pa source) moves = tt
first_is_change task.Unknown moves = absurd moves
first_is_change (task.Look pa space) moves = absurd moves

pub last_is_change : (t : Task) (c : Change) → IsChangeOf t c → IsChangeOf t change.Last
last_is_change (task.Delegate pa source) c is = tt
last_is_change (task.Undelegate pa source) c is = tt
last_is_change task.Unknown c is = absurd is
last_is_change (task.Look pa space) c is = absurd is

room_from : (k : Generations) (c : Change) → HasRoom k 2 2 2 → HasRoomFor (raises_from c) k
room_from k change.First room = room
room_from k change.Last room = record { two = omega (arith, room.two); thirty_two = omega (arith, room.thirty_two); five_twelve = omega (arith, room.five_twelve) }

-- the task under way is no look
pub no_look_at : (a : AgentData) (t : Task) → IsAgent a → task_of a ≡ Some t → is_look t ≡ false
no_look_at a t is under_way =
    subst (λ (x : Task). is_look x ≡ false) (get_or_from_slice_get a.tasks (length a.answers) t t under_way)
    (is.no_looks (length a.answers) t (slice_get_within a.tasks (length a.answers) t under_way))

looked_fits : (g : GeometryData) (o : Option Answer) (word : ℕ) (t : Task) → IsStage g (looked_stage o word) (Some t)
looked_fits g None word t = tt
looked_fits g (Some refused) word t = tt

-- the splitting of a block has a first store
split_begins : (g : GeometryData) (t : Task) (z : Size) (v : Gpi) → idle_answer g t ≡ None
    → IsSplittingOf g (address_of t) z (splitting_of g (address_of t) (number_of (l1_place_of g (address_of t))) z v)
split_begins g t z v acts =
    let there = acts_place g t acts in
    record {
      place = there.0;
      there = there.1;
      first = rw there.1 refl;
      own = refl;
      words = refl;
      two = refl;
      low = lt-ltb 0 (words_of g.setup z) (words_some g.setup z);
    }

first_fits : (g : GeometryData) (t : Task) (k : Kept) → IsChangeOf t (first_change t) → HasRoomFor (raises_from (first_change t)) k.generations → IsStage g (first_stage t k) (Some t)
first_fits g (task.Delegate pa source) k is room = (tt, room)
first_fits g (task.Undelegate pa source) k is room = (tt, room)
first_fits g task.Unknown k is room = absurd is
first_fits g (task.Look pa space) k is room = absurd is

loaded_fits : (g : GeometryData) (t : Task) (e : Option L1Entry) (k : Kept) → idle_answer g t ≡ None → IsMove t → HasRoom k.generations 2 2 2 → IsStage g (loaded_stage g t e k) (Some t)
loaded_fits g t (Some (l1.Contig z v)) k acts moves room = (split_begins g t z v acts, first_is_change t moves, room_from k.generations (first_change t) room)
loaded_fits g t (Some (l1.Granules word)) k acts moves room = first_fits g t k (first_is_change t moves) (room_from k.generations (first_change t) room)
loaded_fits g t None k acts moves room = first_fits g t k (first_is_change t moves) (room_from k.generations (first_change t) room)

read_all_fits : (g : GeometryData) (o : Option Answer) (t : Task) (k : Kept) → idle_answer g t ≡ None → IsMove t → worn_answer k.generations ≡ o → IsStage g (read_all g o t k) (Some t)
read_all_fits g None t k acts moves worn = loaded_fits g t (l1_entry k.word) k acts moves (worn_room k.generations worn)
read_all_fits g (Some given) t k acts moves worn = tt

read_fits : (g : GeometryData) (t : Task) (z : Size) (k : Kept) → idle_answer g t ≡ None → IsMove t → IsStage g (read_stage g t z k) (Some t)
read_fits g t size.Two k acts moves = tt
read_fits g t size.ThirtyTwo k acts moves = tt
read_fits g t size.FiveTwelve k acts moves = read_all_fits g (worn_answer k.generations) t k acts moves refl

split_fits : (g : GeometryData) (t : Task) (z : Size) (d : SplittingData) (k : Generations) → IsStage g (stage.Splitting z d k) (Some t) → IsStage g (split_stage t z (advanced d) k) (Some t)
split_fits g t z d k fits =
    elim (cases_Bool (ltb (d.made + 1) d.words)) [
      | inl more ↦ rw more
          (record { place = fits.0.place; there = fits.0.there; first = fits.0.first; own = fits.0.own; words = fits.0.words; two = fits.0.two; low = more }, fits.1, fits.2)
      | inr over ↦ rw over (first_fits g t (record { word = granules_of d.gpi; generations = k }) fits.1 fits.2)
    ]

-- merging that isn't over has a next act
merging_fits : (g : GeometryData) (t : Task) (f : FuseData) (k : Generations) (index : ℕ) (o : Option Act) → l1_index_of g (address_of t) ≡ Some index → f.first ≡ place_of g (Level1 0) → f.own ≡ index
    → f.two ≡ words_of g.setup size.Two → f.max ≡ g.setup.max → fuse.IsCounted f.two f.step → fuse.next_of f ≡ o → IsStage g (merging_stage o f k) (Some t)
merging_fits g t f k index None there first own two max counted next = tt
merging_fits g t f k index (Some a) there first own two max counted next =
    record { index = index; there = there; first = first; own = own; two = two; max = max; counted = counted; some = rw next refl }

-- the numbers of its loads and stores stay below their counts
loads_some : (two : ℕ) (z : Size) → 0 < two → 0 < loads_of two z
loads_some two size.Two some = some
loads_some two size.ThirtyTwo some = omega arith
loads_some two size.FiveTwelve some = omega arith

stores_some : (two : ℕ) (z : Size) → 0 < two → 0 < block_words two z
stores_some two size.Two some = some
stores_some two size.ThirtyTwo some = omega (arith, some)
stores_some two size.FiveTwelve some = omega (arith, some)

test_counted : (two : ℕ) (max : MaxBlock) (z before : Size) → 0 < two → fuse.IsCounted two (test_or_store max z before)
test_counted two max z before some =
    elim (cases_Bool (is_permitted max z)) [ inl permitted ↦ rw permitted (loads_some two z some) | inr refused ↦ rw refused (stores_some two before some) ]

passed_counted : (two : ℕ) (max : MaxBlock) (z : Size) → 0 < two → fuse.IsCounted two (passed max z)
passed_counted two max size.Two some = test_counted two max size.ThirtyTwo size.Two some
passed_counted two max size.ThirtyTwo some = test_counted two max size.FiveTwelve size.ThirtyTwo some
passed_counted two max size.FiveTwelve some = stores_some two size.FiveTwelve some

failed_counted : (two : ℕ) (z : Size) → 0 < two → fuse.IsCounted two (failed z)
failed_counted two size.Two some = tt
failed_counted two size.ThirtyTwo some = stores_some two size.Two some
failed_counted two size.FiveTwelve some = stores_some two size.ThirtyTwo some

loaded_counted : (two : ℕ) (max : MaxBlock) (v : Gpi) (z : Size) (k word : ℕ) → 0 < two → k < loads_of two z → fuse.IsCounted two (loaded two max v z k word)
loaded_counted two max v z k word some low =
    elim (cases_eq word (needed_word v z)) [
      | inr other ↦ rw (ne_eqb _ _ other) (failed_counted two z some)
      | inl same ↦ elim (cases_eq (k + 1) (loads_of two z)) [
        | inl all ↦ rw (eq-eqb _ _ same, eq-eqb _ _ all) (passed_counted two max z some)
        | inr more ↦ rw (eq-eqb _ _ same, ne_eqb _ _ more) (omega (arith, low, more))
      ]
    ]

stored_counted : (two : ℕ) (z : Size) (k : ℕ) → k < block_words two z → fuse.IsCounted two (stored two z k)
stored_counted two z k low =
    elim (cases_eq (k + 1) (block_words two z)) [ inl all ↦ rw (eq-eqb _ _ all) tt | inr more ↦ rw (ne_eqb _ _ more) (omega (arith, low, more)) ]

after_counted : (two : ℕ) (max : MaxBlock) (v : Gpi) (f : Fusing) (old : ℕ) → 0 < two → fuse.IsCounted two f → fuse.IsCounted two (fuse.after_at two max v f old)
after_counted two max v (Testing z k) old some low = loaded_counted two max v z k old some low
after_counted two max v (Storing z k) old some low = stored_counted two z k low
after_counted two max v (Ended o) old some low = tt

begun_counted : (two : ℕ) (max : MaxBlock) (o : Option Gpi) → 0 < two → fuse.IsCounted two (begun max o)
begun_counted two max None some = tt
begun_counted two max (Some v) some = elim (cases_Bool (is_permitted max size.Two)) [ inl permitted ↦ rw permitted some | inr refused ↦ rw refused tt ]

last_fits : (g : GeometryData) (t : Task) (k : Kept) → idle_answer g t ≡ None → IsStage g (last_stage g t k) (Some t)
last_fits g t k acts =
    let there = acts_index g t acts in
    rw there.1 (merging_fits g t (fuse.fuse_of g there.0 k.word) k.generations there.0 _ there.1 refl refl refl refl
    (begun_counted (words_of g.setup size.Two) g.setup.max (equal_gpi k.word) (words_some g.setup size.Two)) refl)

-- what follows the third raise
passed_fits : (g : GeometryData) (t : Task) (c : Change) (k : Kept) → idle_answer g t ≡ None → IsChangeOf t c → HasRoomFor (raises_after c) k.generations → IsStage g (passed_stage g t c k) (Some t)
passed_fits g (task.Delegate pa source) change.First k acts is room = absurd is
passed_fits g (task.Delegate pa source) change.Last k acts is room = (tt, room)
passed_fits g (task.Undelegate pa source) change.First k acts is room = (tt, room)
passed_fits g (task.Undelegate pa source) change.Last k acts is room = last_fits g (task.Undelegate pa source) k acts
passed_fits g task.Unknown c k acts is room = absurd is
passed_fits g (task.Look pa space) c k acts is room = absurd is

passing_fits : (g : GeometryData) (t : Task) (c : Change) (d : BarrierData) (k : Kept) → idle_answer g t ≡ None → IsChangeOf t c → d.cpus ≡ g.cpus → HasRoomFor (raises_after c) k.generations
    → IsStage g (passing_stage g t c d k) (Some t)
passing_fits g t c d k acts is cpus room =
    elim (cases_Bool (ltb d.passed d.cpus)) [ inl more ↦ rw more (is, record { cpus = cpus; low = more }, room) | inr over ↦ rw over (passed_fits g t c k acts is room) ]

prepared_change : (t : Task) → IsPrepared t → IsChangeOf t change.Last
prepared_change (task.Delegate pa source) is = tt
prepared_change (task.Undelegate pa source) is = absurd is
prepared_change task.Unknown is = absurd is
prepared_change (task.Look pa space) is = absurd is

cleaned_fits : (g : GeometryData) (t : Task) (c : Change) (l : Line) (k : Kept) → idle_answer g t ≡ None → IsCleaned t c l → HasRoomFor (raises_after c) k.generations → IsStage g (cleaned_stage g t c l k) (Some t)
cleaned_fits g (task.Undelegate pa source) change.First line.Former k acts is room = (tt, room)
cleaned_fits g (task.Undelegate pa source) change.First line.NonSecure k acts is room = (tt, room)
cleaned_fits g (task.Delegate pa source) change.First l k acts is room = absurd is
cleaned_fits g task.Unknown change.First l k acts is room = absurd is
cleaned_fits g (task.Look pa space) change.First l k acts is room = absurd is
cleaned_fits g t change.Last l k acts is room = last_fits g t k acts

merged_fits : (g : GeometryData) (t : Task) (f : FuseData) (old : ℕ) (k : Generations) → IsMergingOf g (address_of t) f → IsStage g (merged_stage (fuse.took_of f old) k) (Some t)
merged_fits g t f old k is =
    merging_fits g t (fuse.took_of f old) k is.index _ is.there is.first is.own is.two is.max
    (after_counted f.two f.max f.gpi f.step old (subst (λ (n : ℕ). 0 < n) (sym is.two) (words_some g.setup size.Two)) is.counted) refl

raised_fits : (g : GeometryData) (t : Task) (c : Change) (z : Size) (k : Kept) → idle_answer g t ≡ None → IsStage g (stage.Raising c z k) (Some t) → IsStage g (raised_stage g t c z (kept_raised z k)) (Some t)
raised_fits g t change.First size.Two k acts fits = (fits.0, record { two = omega (arith, fits.1.two); thirty_two = fits.1.thirty_two; five_twelve = fits.1.five_twelve })
raised_fits g t change.Last size.Two k acts fits = (fits.0, record { two = omega (arith, fits.1.two); thirty_two = fits.1.thirty_two; five_twelve = fits.1.five_twelve })
raised_fits g t change.First size.ThirtyTwo k acts fits = (fits.0, record { two = fits.1.two; thirty_two = omega (arith, fits.1.thirty_two); five_twelve = fits.1.five_twelve })
raised_fits g t change.Last size.ThirtyTwo k acts fits = (fits.0, record { two = fits.1.two; thirty_two = omega (arith, fits.1.thirty_two); five_twelve = fits.1.five_twelve })
raised_fits g t change.First size.FiveTwelve k acts fits =
    passing_fits g t change.First (barrier.begun g.cpus) (kept_raised size.FiveTwelve k) acts fits.0 refl
    (record { two = fits.1.two; thirty_two = fits.1.thirty_two; five_twelve = omega (arith, fits.1.five_twelve) })
raised_fits g t change.Last size.FiveTwelve k acts fits =
    passing_fits g t change.Last (barrier.begun g.cpus) (kept_raised size.FiveTwelve k) acts fits.0 refl
    (record { two = fits.1.two; thirty_two = fits.1.thirty_two; five_twelve = omega (arith, fits.1.five_twelve) })

-- where a transition goes on it has room for what is left to raise, and what it splits and merges is around its word
pub stage_fits : (g : GeometryData) (t : Task) (s : Stage) (old : ℕ) → idle_answer g t ≡ None → IsMove t → IsStage g s (Some t) → IsStage g (stage_after g t s old) (Some t)
stage_fits g t stage.Locking old acts moves fits = tt
stage_fits g t stage.Looking old acts moves fits = looked_fits g (looked_answer g t old) old t
stage_fits g t (stage.Reading z k) old acts moves fits = read_fits g t z (kept_read z old k) acts moves
stage_fits g t (stage.Splitting z d k) old acts moves fits = split_fits g t z d k fits
stage_fits g t (stage.Preparing k) old acts moves fits = (prepared_change t fits.0, fits.1)
stage_fits g t (stage.Passing c d k) old acts moves fits = passing_fits g t c (one_passed d) k acts fits.0 fits.1.cpus fits.2
stage_fits g t (stage.Cleaning c l k) old acts moves fits = cleaned_fits g t c l k acts fits.0 fits.1
stage_fits g t (stage.Changing c k) old acts moves fits =
    (fits.0, record { two = fits.1.two; thirty_two = fits.1.thirty_two; five_twelve = fits.1.five_twelve })
stage_fits g t (stage.Raising c z k) old acts moves fits = raised_fits g t c z k acts fits
stage_fits g t (stage.Merging f k) old acts moves fits = merged_fits g t f old k fits
stage_fits g t (stage.Releasing given) old acts moves fits = tt

-- the agent at this stage
abbrev pub at_stage : AgentData → Stage → AgentData
at_stage a s = record { geometry = a.geometry; tasks = a.tasks; answers = a.answers; stage = s; waited = a.waited }

stage_at : (g : GeometryData) (s : Stage) (o : Option Task) (t : Task) → o ≡ Some t → IsStage g s o → IsStage g s (Some t)
stage_at g s o t e fits = subst (IsStage g s) e fits

pub after_fits : (a : AgentData) (t : Task) (s : Stage) (old : ℕ) → IsAgent (at_stage a s) → task_of a ≡ Some t → IsStage a.geometry (stage_after a.geometry t s old) (task_of a)
after_fits a t s old is under_way =
    let acts = subst (HasActs a.geometry) under_way is.acts in
    subst (IsStage a.geometry (stage_after a.geometry t s old)) (sym under_way)
    (stage_fits a.geometry t s old acts (acts_move a.geometry t acts (no_look_at (at_stage a s) t is under_way)) (stage_at a.geometry s (task_of a) t under_way is.stage))

goes_on_is_agent : (a : AgentData) (t : Task) (s : Stage) (old : ℕ) → IsAgent (at_stage a s) → task_of a ≡ Some t
    → IsAgent (cond (is_held a.geometry t s old) (waits_at (at_stage a s)) (goes_to (at_stage a s) (stage_after a.geometry t s old)))
goes_on_is_agent a t s old is under_way =
    elim (cases_Bool (is_held a.geometry t s old)) [
      | inl held ↦ rw held (waits_is_agent (at_stage a s) is)
      | inr free ↦ rw free (goes_is_agent (at_stage a s) (stage_after a.geometry t s old) is (after_fits a t s old is under_way))
    ]

pub took_at_is_agent : (a : AgentData) (t : Task) (s : Stage) (old : ℕ) → IsAgent (at_stage a s) → task_of a ≡ Some t → IsAgent (took_at (at_stage a s) t s old)
took_at_is_agent a t stage.Locking old is under_way = goes_on_is_agent a t stage.Locking old is under_way
took_at_is_agent a t stage.Looking old is under_way = goes_on_is_agent a t stage.Looking old is under_way
took_at_is_agent a t (stage.Reading z k) old is under_way = goes_on_is_agent a t (stage.Reading z k) old is under_way
took_at_is_agent a t (stage.Splitting z d k) old is under_way = goes_on_is_agent a t (stage.Splitting z d k) old is under_way
took_at_is_agent a t (stage.Changing c k) old is under_way = goes_on_is_agent a t (stage.Changing c k) old is under_way
took_at_is_agent a t (stage.Raising c z k) old is under_way = goes_on_is_agent a t (stage.Raising c z k) old is under_way
took_at_is_agent a t (stage.Preparing k) old is under_way = goes_on_is_agent a t (stage.Preparing k) old is under_way
took_at_is_agent a t (stage.Passing c d k) old is under_way = goes_on_is_agent a t (stage.Passing c d k) old is under_way
took_at_is_agent a t (stage.Cleaning c l k) old is under_way = goes_on_is_agent a t (stage.Cleaning c l k) old is under_way
took_at_is_agent a t (stage.Merging f k) old is under_way = goes_on_is_agent a t (stage.Merging f k) old is under_way
took_at_is_agent a t (stage.Releasing answer) old is under_way = answer_is_agent (at_stage a (stage.Releasing answer)) t answer is under_way

took_some_is_agent : (a : AgentData) (o : Option Task) (old : ℕ) → IsAgent a → task_of a ≡ o → IsAgent (took_under_way a o old)
took_some_is_agent a None old is under_way = is
took_some_is_agent a (Some t) old is under_way = took_at_is_agent a t a.stage old is under_way

-- an agent after an act is one
pub took_is_agent : (a : AgentData) (old : ℕ) → IsAgent a → IsAgent (took_of a old)
took_is_agent a old is = took_some_is_agent a (task_of a) old is refl

-- the agent after an act of the task under way
pub took_by_task : (a : AgentData) (t : Task) (old : ℕ) → task_of a ≡ Some t → took_of a old ≡ took_at a t a.stage old
took_by_task a t old under_way = ap (λ (o : Option Task). took_under_way a o old) under_way

-- an agent without a task under way takes no part in anything
pub idle_stage : (a : AgentData) → IsAgent a → task_of a ≡ None → a.stage ≡ stage.Locking
idle_stage a is none = subst (IsStage a.geometry a.stage) none is.stage
