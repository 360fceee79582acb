use Rattle.std.proofs.Common.{ℕ, length, sym, ap, ◌∙◌, arith}
use Rattle.std.proofs.lemmas.List.FromFn.{map-range_with_len_more}
use Rattle.gpt_descriptors.specs.Entries.{l0_word}
use Rattle.region_plan.specs.Regions.{region_entry}
use Rattle.region_plan.proofs.PlanLemmas.{tabled_none, tables_more}
use Rattle.table_build.proofs.building.level0.Goals as goal

pub loop-q-init : goal.loop-q-init
loop-q-init c = record {
  words = c.in_ok-words.ensures.items;
  before = sym (ap length (tabled_none c.args.plan.now.regions));
  few = omega arith;
}

pub loop-q-preserved : goal.loop-q-preserved
loop-q-preserved c =
    let f = λ (q : ℕ). l0_word (region_entry c.args.plan.now.setup c.args.plan.now.regions q) in
    record {
      words = c.in_ok-push.ensures.items ∙ rw (c.loop-q.invariant.words, c.entry_word.ensures) (sym (map-range_with_len_more f 0 c.loop-q.q c.loop-q.q (omega arith)));
      before = rw (c.loop-q.invariant.before, c.tables_at-before.ensures.count) (sym (tables_more c.args.plan.now.regions c.loop-q.q));
      few = omega (arith, c.tables_at-before.ensures.bound);
    }
