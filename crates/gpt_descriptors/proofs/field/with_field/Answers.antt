use Rattle.std.proofs.Common.{sym, subst, ◌<◌, ◌^◌, ℕ}
use Rattle.gpt_descriptors.proofs.FieldLemmas.{with_field_fits, shifted_fields}
use Rattle.gpt_descriptors.proofs.field.with_field.Goals as goal

pub overflow_add-result-2 : goal.overflow_add-result-2
overflow_add-result-2 c = record {
  fits = subst (λ (n : ℕ). n < 2 ^ 64) (sym (shifted_fields c.args.word c.args.place c.args.value c.ranges.word.fits c.requires.place c.requires.value))
      (with_field_fits c.args.word c.args.place c.args.value c.ranges.word.fits c.requires.place c.requires.value);
}

pub returns : goal.returns
returns c = shifted_fields c.args.word c.args.place c.args.value c.ranges.word.fits c.requires.place c.requires.value
