-- A transition at the places of its task makes the acts of the task under way.
use Rattle.std.proofs.Common.{◌≡◌, ℕ, None, refl}
use Rattle.gpt_descriptors.specs.declared.size.Size.{Size}
use Rattle.gpt_descriptors.specs.declared.size.Size.TheVariants as size
use Rattle.gpt_descriptors.specs.Places.{GeometryData}
use Rattle.history.specs.declared.call.Task.{Task}
use Rattle.delegate_ops.specs.InnerStages.{Stage}
use Rattle.delegate_ops.specs.InnerStages as stage
use Rattle.delegate_ops.specs.Deciding.{idle_answer}
use Rattle.delegate_ops.specs.InnerAgents.{act_at, is_held}
use Rattle.delegate_ops.specs.InnerTransition.{places_of, act_by, is_held_by}
use Rattle.delegate_ops.proofs.NextLemmas.{acts_place, acts_index}

same_load : (g : GeometryData) (t : Task) (z : Size) (k : _) → act_by g (places_of g t) (stage.Reading z k) t ≡ act_at g (stage.Reading z k) t
same_load g t size.Two k = refl
same_load g t size.ThirtyTwo k = refl
same_load g t size.FiveTwelve k = refl

same_raise : (g : GeometryData) (t : Task) (c : _) (z : Size) (k : _) → act_by g (places_of g t) (stage.Raising c z k) t ≡ act_at g (stage.Raising c z k) t
same_raise g t c size.Two k = refl
same_raise g t c size.ThirtyTwo k = refl
same_raise g t c size.FiveTwelve k = refl

-- its acts
pub same_act : (g : GeometryData) (t : Task) (s : Stage) → idle_answer g t ≡ None → act_by g (places_of g t) s t ≡ act_at g s t
same_act g t stage.Locking acts = refl
same_act g t stage.Looking acts = rw (acts_place g t acts).1 refl
same_act g t (stage.Reading z k) acts = same_load g t z k
same_act g t (stage.Splitting z d k) acts = refl
same_act g t (stage.Preparing k) acts = rw (acts_index g t acts).1 refl
same_act g t (stage.Passing c d k) acts = refl
same_act g t (stage.Cleaning c l k) acts = rw (acts_index g t acts).1 refl
same_act g t (stage.Changing c k) acts = rw (acts_place g t acts).1 refl
same_act g t (stage.Raising c z k) acts = same_raise g t c z k
same_act g t (stage.Merging f k) acts = refl
same_act g t (stage.Releasing answer) acts = refl

pub same_held : (g : GeometryData) (t : Task) (s : Stage) (old : ℕ) → is_held_by (places_of g t) s old ≡ is_held g t s old
same_held g t stage.Locking old = refl
same_held g t stage.Looking old = refl
same_held g t (stage.Reading z k) old = refl
same_held g t (stage.Splitting z d k) old = refl
same_held g t (stage.Preparing k) old = refl
same_held g t (stage.Changing c k) old = refl
same_held g t (stage.Passing c d k) old = refl
same_held g t (stage.Cleaning c l k) old = refl
same_held g t (stage.Raising c z k) old = refl
same_held g t (stage.Merging f k) old = refl
same_held g t (stage.Releasing answer) old = refl
