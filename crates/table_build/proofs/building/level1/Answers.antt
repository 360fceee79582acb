use Rattle.std.proofs.Common.{◌*◌, sym, ap, ◌∙◌, arith}
use Rattle.std.specs.List.{flat_map}
use Rattle.gpt_descriptors.specs.Sizes.{table_words}
use Rattle.region_plan.proofs.PlanLemmas.{tabled_none}
use Rattle.table_build.specs.Built.{table_of}
use Rattle.table_build.proofs.BuiltLemmas.{tables_step}
use Rattle.table_build.proofs.ReadingLemmas.{at_start}
use Rattle.table_build.proofs.building.level1.Goals as goal

pub loop-q-init : goal.loop-q-init
loop-q-init c =
    let s = c.args.plan.now.setup in
    record {
      words = c.in_ok-words.ensures.items ∙ sym (ap (flat_map (table_of s c.args.plan.now.regions)) (tabled_none c.args.plan.now.regions));
      at = at_start s c.args.plan.now.regions c.map.result.now c.new-cursor.result (rw c.setup-2.ensures.setup at c.gigabytes-q-end.ensures.range) c.map.ensures c.new-cursor.ensures.runs c.new-cursor.ensures.size
          (0 * table_words s) (omega arith);
    }

pub loop-q-preserved : goal.loop-q-preserved
loop-q-preserved c = record {
  words = c.in_ok-push_needed.ensures.words ∙ rw c.loop-q.invariant.words (sym (tables_step c.args.plan.now.setup c.args.plan.now.regions c.loop-q.q));
  at = c.in_ok-push_needed.ensures.at;
}
