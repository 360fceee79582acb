-- Decided accesses and resident lines between acts: each is right by the map, or some caller has changed its granule
-- and not yet waited for, or cleaned, what was from before.
use Rattle.std.specs.Prelude.{◌≡◌, ℕ, ◌⊎◌, true, List, slice_get, Some}
use Rattle.gpi_values.specs.declared.gpi.Gpi.{Gpi}
use Rattle.gpi_values.specs.declared.gpi.Space.{Space}
use Rattle.gpi_values.specs.Values.{permits_of}
use Rattle.gpt_descriptors.specs.Places.{GeometryData}
use Rattle.alias_clean.specs.Lines.{has_line}
use Rattle.history.specs.declared.entry.Entry.{Entry}
use Rattle.core_machine.specs.declared.caller.Caller.{Caller}
use Rattle.core_machine.specs.Lines.{seen_in}
use Rattle.core_machine.specs.InnerCpuCaller.{Decision}
use Rattle.core_machine.specs.InnerCallers.{number_by, unpassed_by, uncleaned_by, decided_by, touching_by}
use Rattle.core_machine.specs.InnerWalks.{In, SomeHas}

-- processor p has decided an access by this GPI: the map's, and where it is allowed an allowed access
-- has looked there since the last change; or one that some caller has changed and not yet passed the
-- processor for
abbrev pub DecisionHolds : (ℕ → Gpi) → List Entry → List Caller → ℕ → Decision → Type 0
DecisionHolds m h callers p d =
    ((m d.granule ≡ d.gpi) × (permits_of d.gpi d.space ≡ true → seen_in d.granule d.space h ≡ true))
    ⊎ SomeHas callers (unpassed_by p) (d.granule, d.gpi)

abbrev pub DecisionsHold : (ℕ → Gpi) → List Entry → List Caller → Type 0
DecisionsHold m h callers =
    (c p : ℕ) (caller : Caller) (d : Decision) → slice_get callers c ≡ Some caller
    → number_by caller ≡ Some p → In d (decided_by caller) → DecisionHolds m h callers p d

-- a resident line: the map permits its space and it was looked at since the last change; or a
-- former GPI permits it that some caller hasn't cleaned yet
abbrev pub LineHolds : (ℕ → Gpi) → List Entry → List Caller → ℕ → Space → Type 0
LineHolds m h callers granule s =
    ((permits_of (m granule) s ≡ true) × (seen_in granule s h ≡ true))
    ⊎ ((former : Gpi) × (permits_of former s ≡ true) × SomeHas callers uncleaned_by (granule, former))

abbrev pub LinesHold : GeometryData → List ℕ → (ℕ → Gpi) → List Entry → List Caller → Type 0
LinesHold g words m h callers =
    (granule : ℕ) (s : Space) → has_line g words granule s ≡ true → LineHolds m h callers granule s

-- a line that the map permits and that was looked at since the last change is resident, or some
-- processor is about to touch it
abbrev pub TouchesHold : GeometryData → List ℕ → (ℕ → Gpi) → List Entry → List Caller → Type 0
TouchesHold g words m h callers =
    (granule : ℕ) (s : Space) → permits_of (m granule) s ≡ true → seen_in granule s h ≡ true
    → (has_line g words granule s ≡ true) ⊎ SomeHas callers touching_by (granule, s)
