-- Answers of accesses by rings of kept walks: those that name none, and answers that come.
use Rattle.std.proofs.Common.{◌≡◌, ℕ, ◌++◌, ◌∷◌, [], List, length, drop, true, false, refl, sym, ◌∙◌, subst, append_assoc, append-nil}
use Rattle.history.specs.declared.call.Task.{Task}
use Rattle.history.specs.declared.call.Task.TheVariants as task
use Rattle.history.specs.declared.call.Access.{Access}
use Rattle.history.specs.declared.call.Answer.{Answer}
use Rattle.history.specs.declared.call.Answer.TheVariants as answer
use Rattle.history.specs.declared.call.Via.{Via}
use Rattle.history.specs.declared.call.Via.TheVariants as via
use Rattle.history.specs.declared.rings.Named.{Named}
use Rattle.history.specs.Legality.{is_still}
use Rattle.history.specs.Rings.{named_via, named_in, IsRinged, AreRinged}

-- ---- one answer

-- an access at an L0 block names no walk, and is of no ring
still_names : (pa : ℕ) (v : Via) → is_still v ≡ true → named_via pa v ≡ []
still_names pa via.Still still = refl
still_names pa (via.Hit reach at) still = refl
still_names pa (via.Cold reach lo hi) still = absurd cc
still_names pa (via.Missed reach fresh tag at lo hi) still = absurd cc

pub still_named : (t : Task) (access : Access) → is_still access.via ≡ true → named_in t (answer.Seen access) ≡ []
still_named (task.Look pa space) access still = still_names pa access.via still
still_named (task.Delegate pa source) access still = refl
still_named (task.Undelegate pa source) access still = refl
still_named task.Unknown access still = refl

pub still_ringed : (ring : ℕ) (walks : List Named) (t : Task) (access : Access) → is_still access.via ≡ true → IsRinged ring walks t (answer.Seen access)
still_ringed ring walks (task.Look pa space) access still = λ at_table. absurd (let both : true ≡ false = sym still ∙ at_table in cc)
still_ringed ring walks (task.Delegate pa source) access still = tt
still_ringed ring walks (task.Undelegate pa source) access still = tt
still_ringed ring walks task.Unknown access still = tt

-- ---- answers that come

-- the walks that answers name, oldest first
abbrev pub named_by : List Task → List Answer → List Named
named_by [] answers = []
named_by (t ∷ tasks) [] = []
named_by (t ∷ tasks) (given ∷ answers) = named_in t given ++ named_by tasks answers

pub ringed_more : (ring : ℕ) (walks : List Named) (tasks : List Task) (answers more : List Answer) → AreRinged ring walks tasks answers
    → AreRinged ring (walks ++ named_by tasks answers) (drop (length answers) tasks) more → AreRinged ring walks tasks (answers ++ more)
ringed_more ring walks [] answers more ringed come = tt
ringed_more ring walks (t ∷ tasks) [] more ringed come = subst (λ (l : List Named). AreRinged ring l (t ∷ tasks) more) (append-nil walks) come
ringed_more ring walks (t ∷ tasks) (given ∷ answers) more ringed come = (
  ringed.0,
  ringed_more ring (walks ++ named_in t given) tasks answers more ringed.1
      (subst (λ (l : List Named). AreRinged ring l (drop (length answers) tasks) more) (sym (append_assoc walks (named_in t given) (named_by tasks answers))) come),
)
