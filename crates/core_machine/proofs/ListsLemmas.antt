-- The lists of an agent by its stage: what isn't raised isn't passed, and what isn't passed isn't cleaned.
use Rattle.std.proofs.Common.{ℕ, [], Option, Some, None, inl, inr}
use Rattle.core_machine.proofs.Names.{Gpi, Size, GeometryData, Task, Stage, is_due_at}
use Rattle.core_machine.proofs.Names.stage
use Rattle.std.specs.Prelude.{nat_lt}
use Rattle.std.proofs.lemmas.Bool.{cases_Bool}
use Rattle.core_machine.specs.InnerAgentCaller.{unraised_at, unpassed_at, uncleaned_at}
use Rattle.core_machine.specs.InnerWalks.{In}
use Rattle.core_machine.proofs.WalkLemmas.{in_pairs}

pub unraised_in_unpassed : (g : GeometryData) (y : Size) (p : ℕ) (s : Stage) (o : Option Task) (k : ℕ) (v : Gpi) → In {A = ℕ × Gpi} (k, v) (unraised_at g y s o) → In {A = ℕ × Gpi} (k, v) (unpassed_at g p s o)
unraised_in_unpassed g y p (stage.Raising c z kept) (Some t) k v has = (in_pairs k v (is_due_at (stage.Raising c z kept) y) _ has).1
unraised_in_unpassed g y p (stage.Raising c z kept) None k v has = absurd (in_pairs k v (is_due_at (stage.Raising c z kept) y) [] has).1
unraised_in_unpassed g y p s o k v has = absurd (in_pairs k v (is_due_at s y) [] has).1

pub unpassed_in_uncleaned : (g : GeometryData) (p : ℕ) (s : Stage) (o : Option Task) (k : ℕ) (v : Gpi) → In {A = ℕ × Gpi} (k, v) (unpassed_at g p s o) → In {A = ℕ × Gpi} (k, v) (uncleaned_at g s o)
unpassed_in_uncleaned g p (stage.Raising c z kept) (Some t) k v has = has
unpassed_in_uncleaned g p (stage.Passing c d kept) (Some t) k v has =
    elim (cases_Bool (nat_lt p d.passed)) [ inl low ↦ absurd (rw low at has) | inr high ↦ rw high at has ]
unpassed_in_uncleaned g p s o k v has = absurd has
