-- The law of one act, over plain data.
use Rattle.std.specs.Prelude.{◌≡◌, ℕ, ◌<◌, length, slice_get, Some}
use Rattle.gpt_descriptors.specs.Places.{GeometryData}
use Rattle.shared_words.specs.declared.act.Act.{Act}
use Rattle.shared_words.specs.Acts.{place_in, answer_of, after_act}
use Rattle.core_machine.specs.declared.caller.Caller.{Caller}
use Rattle.core_machine.specs.InnerCallers.{caller_next, caller_took, made_by, MayTake}
use Rattle.core_machine.specs.InnerScene.{Scene, scene_after}
use Rattle.core_machine.specs.InnerInvariant.{HoldsIn}

-- the scene after the next act of caller c, which is x
abbrev pub scene_acted : Scene → ℕ → Caller → Act → Scene
scene_acted s c x t =
    let old = answer_of t s.words in
    scene_after s c (caller_took x old) (after_act t s.words) (made_by c x old)

abbrev pub OneActKeeps : Type 0
OneActKeeps =
    (g : GeometryData) (s : Scene) (c : ℕ) (x : Caller) (t : Act)
    → HoldsIn g s → slice_get s.callers c ≡ Some x → caller_next x ≡ Some t
    → (place_in t < length s.words) × MayTake x (answer_of t s.words)
    × HoldsIn g (scene_acted s c x t)
