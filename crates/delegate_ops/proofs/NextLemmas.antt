-- An agent with a call left has a next act.
use Rattle.std.proofs.Common.{◌≡◌, ℕ, ◌+◌, ◌*◌, ◌/◌, ◌%◌, ◌<◌, arith, eqb, ltb, take, true, false, not, Option, Some, None, refl, ap, ◌∙◌, inl, inr}
use Rattle.std.specs.Prelude.{is_some, slice_index}
use Rattle.std.specs.Int.{bit_not, w64}
use Rattle.std.proofs.lemmas.Bool.{cases_Bool, ltb-true}
use Rattle.gpi_values.specs.declared.gpi.Space.{Space}
use Rattle.gpt_descriptors.specs.Sizes.{granule_bytes, word_bytes, table_words, space_bytes}
use Rattle.gpt_descriptors.specs.Level0.{is_table, table_count}
use Rattle.gpt_descriptors.specs.Places.{GeometryData, Level1, Line, place_of, l0_words, l0_word_of, l1_index_of, l1_place_of}
use Rattle.gpt_descriptors.proofs.PlaceLemmas.{region_of_word}
use Rattle.shared_words.specs.declared.act.Act.TheVariants as act
use Rattle.invalidate.specs.Duty.{barrier_load}
use Rattle.invalidate.specs.Barrier.{BarrierData, next_load}
use Rattle.alias_clean.specs.Lines.{line_mask, clean_of}
use Rattle.history.specs.declared.call.Task.{Task}
use Rattle.delegate_ops.specs.InnerStages.{Stage}
use Rattle.delegate_ops.specs.InnerStages as stage
use Rattle.delegate_ops.specs.Deciding.{address_of, is_unusable, idle_answer}
use Rattle.delegate_ops.specs.Changing.{target_space, space_of_line}
use Rattle.delegate_ops.specs.InnerAgents.{AgentData, IsAgent, IsStage, IsBarrierOf, HasActs, task_of, act_at, next_of, has_ended}
use Rattle.delegate_ops.proofs.DecidingLemmas.{acts_usable}

-- a usable address has a table
usable_table : (g : GeometryData) (pa : ℕ) → is_unusable g pa ≡ false → is_table (l0_word_of g pa) ≡ true
usable_table g pa usable =
    elim (cases_Bool (is_table (l0_word_of g pa))) [
      | inl there ↦ there
      | inr block ↦ elim (cases_Bool (ltb pa (space_bytes g.setup))) [
        | inr outside ↦ elim (cases_Bool (eqb (pa % granule_bytes g.setup) 0)) [
          | inl aligned ↦ absurd (let both = rw (aligned, outside) at usable in cc)
          | inr unaligned ↦ absurd (let both = rw unaligned at usable in cc)
        ]
        | inl inside ↦ elim (cases_Bool (eqb (pa % granule_bytes g.setup) 0)) [
          | inl aligned ↦ absurd (let both = rw (aligned, inside, block) at usable in cc)
          | inr unaligned ↦ absurd (let both = rw unaligned at usable in cc)
        ]
      ]
    ]

index_there : (g : GeometryData) (pa : ℕ) → is_table (l0_word_of g pa) ≡ true → (i : ℕ) × (l1_index_of g pa ≡ Some i)
index_there g pa there =
    let here : is_table (slice_index (l0_words g) (pa / word_bytes g.setup / table_words g.setup)) ≡ true =
    ap (λ (q : ℕ). is_table (slice_index (l0_words g) q)) (region_of_word g.setup pa) ∙ there in
    (table_count (take (pa / word_bytes g.setup / table_words g.setup) (l0_words g)) * table_words g.setup + pa / word_bytes g.setup % table_words g.setup, rw here refl)

-- the L1 word of a task with acts has a place
pub acts_place : (g : GeometryData) (t : Task) → idle_answer g t ≡ None → (place : ℕ) × (l1_place_of g (address_of t) ≡ Some place)
acts_place g t acts =
    let index = index_there g (address_of t) (usable_table g (address_of t) (acts_usable g t acts)) in
    (place_of g (Level1 index.0), rw index.1 refl)

pub acts_index : (g : GeometryData) (t : Task) → idle_answer g t ≡ None → (index : ℕ) × (l1_index_of g (address_of t) ≡ Some index)
acts_index g t acts = index_there g (address_of t) (usable_table g (address_of t) (acts_usable g t acts))

-- it has a line word, in which the line of its granule and a space is cleaned
pub clean_there : (g : GeometryData) (t : Task) (s : Space) → idle_answer g t ≡ None
    → (index : ℕ) × (l1_index_of g (address_of t) ≡ Some index) × (clean_of g (address_of t) s ≡ Some (act.And (place_of g (Line index)) (bit_not w64 (line_mask g (address_of t) s))))
clean_there g t s acts = let there = acts_index g t acts in (there.0, there.1, rw there.1 refl)

-- a barrier that isn't over loads the duty word of a processor
pub load_there : (g : GeometryData) (d : BarrierData) → IsBarrierOf g d → (d.passed < g.cpus) × (next_load g d ≡ Some (barrier_load g d.passed))
load_there g d is = (omega (arith, ltb-true _ _ is.low, is.cpus), rw is.low refl)

-- a task with acts has a next one at each stage
act_there : (g : GeometryData) (s : Stage) (t : Task) → idle_answer g t ≡ None → IsStage g s (Some t) → is_some (act_at g s t) ≡ true
act_there g stage.Locking t acts fits = refl
act_there g stage.Looking t acts fits = rw (acts_place g t acts).1 refl
act_there g (stage.Reading z k) t acts fits = refl
act_there g (stage.Splitting z d k) t acts fits = rw fits.0.low refl
act_there g (stage.Preparing k) t acts fits = ap is_some (clean_there g t (target_space t) acts).2
act_there g (stage.Passing c d k) t acts fits = ap is_some (load_there g d fits.1).1
act_there g (stage.Cleaning c l k) t acts fits = ap is_some (clean_there g t (space_of_line t c l) acts).2
act_there g (stage.Changing c k) t acts fits = rw (acts_place g t acts).1 refl
act_there g (stage.Raising c z k) t acts fits = refl
act_there g (stage.Merging f k) t acts fits = fits.some
act_there g (stage.Releasing answer) t acts fits = refl

next_of_task : (a : AgentData) (o : Option Task) → task_of a ≡ o → HasActs a.geometry o → IsStage a.geometry a.stage o → is_some (next_of a) ≡ not (has_ended a)
next_of_task a None under_way acts fits = rw under_way refl
next_of_task a (Some t) under_way acts fits = rw under_way (act_there a.geometry a.stage t acts fits)

-- a next act is there exactly where the agent hasn't ended
pub next_there : (a : AgentData) → IsAgent a → is_some (next_of a) ≡ not (has_ended a)
next_there a is = next_of_task a (task_of a) refl is.acts is.stage
