-- Tasks with acts.
use Rattle.std.proofs.Common.{◌≡◌, ℕ, ◌<◌, ◌%◌, false, eqb, ltb, None, inl, inr}
use Rattle.std.proofs.lemmas.Bool.{cases_Bool, ltb-true}
use Rattle.gpt_descriptors.specs.Sizes.{granule_bytes, space_bytes}
use Rattle.gpt_descriptors.specs.Places.{GeometryData}
use Rattle.history.specs.declared.call.Task.{Task}
use Rattle.history.specs.declared.call.Task.TheVariants as task
use Rattle.delegate_ops.specs.Deciding.{address_of, is_unusable, idle_answer}

-- a usable address is aligned, in the protected space, and has a table
pub usable_inside : (g : GeometryData) (pa : ℕ) → is_unusable g pa ≡ false → pa < space_bytes g.setup
usable_inside g pa usable =
    elim (cases_Bool (ltb pa (space_bytes g.setup))) [
      | inl inside ↦ ltb-true _ _ inside
      | inr outside ↦ elim (cases_Bool (eqb (pa % granule_bytes g.setup) 0)) [
        | inl aligned ↦ absurd (let both = rw (aligned, outside) at usable in cc)
        | inr unaligned ↦ absurd (let both = rw unaligned at usable in cc)
      ]
    ]

-- a task with acts has a usable address
pub acts_usable : (g : GeometryData) (t : Task) → idle_answer g t ≡ None → is_unusable g (address_of t) ≡ false
acts_usable g (task.Delegate pa source) acts = elim (cases_Bool (is_unusable g pa)) [ inl bad ↦ absurd (let both = rw bad at acts in cc) | inr good ↦ good ]
acts_usable g (task.Undelegate pa source) acts = elim (cases_Bool (is_unusable g pa)) [ inl bad ↦ absurd (let both = rw bad at acts in cc) | inr good ↦ good ]
acts_usable g task.Unknown acts = absurd cc
acts_usable g (task.Look pa space) acts = elim (cases_Bool (is_unusable g pa)) [ inl bad ↦ absurd (let both = rw bad at acts in cc) | inr good ↦ good ]

pub acts_inside : (g : GeometryData) (t : Task) → idle_answer g t ≡ None → address_of t < space_bytes g.setup
acts_inside g t acts = usable_inside g (address_of t) (acts_usable g t acts)
