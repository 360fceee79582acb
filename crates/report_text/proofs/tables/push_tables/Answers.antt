use Rattle.std.proofs.Common.{◌++◌, ◌*◌, List, ℕ, take, sym, ap, ◌∙◌, string_bytes}
use Rattle.std.proofs.lemmas.List.{take_rest}
use Rattle.table_build.proofs.BlockLemmas.{then_pushed}
use Rattle.report_text.specs.declared.level.Level.TheVariants as level
use Rattle.report_text.specs.TablesText.{runs_text}
use Rattle.report_text.proofs.TextLemmas.{tables_more}
use Rattle.report_text.proofs.tables.push_tables.Goals as goal

pub loop-k-preserved : goal.loop-k-preserved
loop-k-preserved c =
    let rest = ap (λ (ws : List ℕ). string_bytes c.loop-k.out ++ runs_text (level.One c.loop-k.k) (take c.args.size ws)) (take_rest c.args.words.now (c.loop-k.k * c.args.size)) in
    then_pushed _ _ _ _ _ _ (sym (tables_more c.args.size c.args.words.now c.loop-k.k)) c.loop-k.invariant (c.in_ok-push_runs.ensures ∙ rest)
