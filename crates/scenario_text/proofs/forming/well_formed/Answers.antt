use Rattle.std.proofs.Common.{sym, ◌∙◌, arith}
use Rattle.std.proofs.lemmas.Bool.{false≢true, leb-true}
use Rattle.scenario_text.proofs.FormLemmas.{formed}
use Rattle.scenario_text.proofs.forming.well_formed.Goals as goal
use Rattle.scenario_text.proofs.forming.well_formed.Goals.{then-scripts-le-CALLER_LIMIT, else-scripts-le-CALLER_LIMIT, then-regions_fit, else-regions_fit}

pub returns-then-scripts_good : goal.returns-then-scripts_good
returns-then-scripts_good c =
    elim c.if-regions_fit.branch [
      | then-regions_fit w ↦ elim c.if-scripts-le-CALLER_LIMIT.branch [
        | then-scripts-le-CALLER_LIMIT v ↦
            formed c.args.scenario.now c.setup_fits.ensures.setup c.setup_fits.ensures.base
            (rw c.as_slice-scripts.ensures at v.if-scripts-le-CALLER_LIMIT.true)
            (rw v.as_slice.ensures at (v.regions_fit.ensures.0 (sym v.value-is ∙ w.if-regions_fit.true)))
            (rw c.as_slice-scripts.ensures at (w.scripts_good.ensures.0 (sym w.value-is ∙ c.if-scripts_good.true)))
            c.schedule_good.result
            (rw (c.as_slice-scripts.ensures, c.as_slice-then-scripts_good.ensures) at c.schedule_good.ensures)
        | else-scripts-le-CALLER_LIMIT v ↦ absurd (omega (arith, leb-true _ _ (sym v.value-is ∙ w.if-regions_fit.true)))
      ]
      | else-regions_fit w ↦ absurd (false≢true (sym w.if-regions_fit.false ∙ sym w.value-is ∙ c.if-scripts_good.true))
    ]
