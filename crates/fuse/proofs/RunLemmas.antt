-- Runs of the stores of merging.
use Rattle.std.proofs.Common.{◌≡◌, ℕ, zero, suc, ◌+◌, ◌≤◌, ◌<◌, ◌-◌, min, refl, sym, ap, ◌∙◌, subst, arith, add-zero}
use Rattle.std.proofs.lemmas.Bool.{ne_eqb}
use Rattle.gpt_descriptors.specs.declared.size.Size.{Size}
use Rattle.gpt_descriptors.specs.declared.entry.L1Entry.TheVariants as l1
use Rattle.gpt_descriptors.specs.Entries.{l1_word}
use Rattle.table_meaning.specs.declared.fusing.Fusing.{Fusing}
use Rattle.table_meaning.specs.declared.fusing.Fusing.TheVariants.{Storing}
use Rattle.table_meaning.specs.Fusing.{block_words, store_at}
use Rattle.fuse.specs.Merging.{FuseData, next_of, took_of, stored_by, AreNext}
use Rattle.fuse.specs.InnerRuns.{stored_to}

abbrev pub at_step : Fusing → FuseData → FuseData
at_step f d = record d { step = f }

-- before the last store of the block
stored_few : (two : ℕ) (z : Size) (n : ℕ) → n < block_words two z → stored_to two z n ≡ Storing z n
stored_few two z n low = rw (ne_eqb n (block_words two z) (λ e. omega (arith, low, e))) refl

pub stored_none : (d : FuseData) → stored_by 0 d ≡ d
unfolding stored_by
stored_none d = refl

pub stored_is : (d : FuseData) (z : Size) (k n : ℕ) → d.step ≡ Storing z k → k < block_words d.two z → k + n ≤ block_words d.two z
    → stored_by n d ≡ at_step (stored_to d.two z (k + n)) d
unfolding stored_by
stored_is d z k zero here low within =
    ap (λ (f : Fusing). at_step f d) (here ∙ sym (stored_few d.two z k low) ∙ ap (stored_to d.two z) (sym (add-zero k)))
stored_is d z k (suc n) here low within =
    ap (λ (e : FuseData). took_of e 0) (stored_is d z k n here low (omega (arith, within)) ∙ ap (λ (f : Fusing). at_step f d) (stored_few d.two z (k + n) (omega (arith, within))))
    ∙ ap (λ (m : ℕ). at_step (stored_to d.two z m) d) (omega arith)

-- ---- the run that is taken of d, which is e

pub run_is_next : (d e : FuseData) (z : Size) (most k n first value : ℕ) → d ≡ e → d.step ≡ Storing z k → k < block_words d.two z → n ≡ min most (block_words d.two z - k)
    → first ≡ e.first + store_at e.two e.own z k → value ≡ l1_word (l1.Contig z d.gpi) → AreNext (record { first = first; count = n; value = value }) e
run_is_next d e z most k n first value same here low count at is =
    let within : k + n ≤ block_words d.two z = omega (arith, low, count) in
    let at_d : first ≡ d.first + store_at d.two d.own z k = at ∙ ap (λ (x : FuseData). x.first + store_at x.two x.own z k) (sym same) in
    subst (AreNext (record { first = first; count = n; value = value })) same (λ j near.
    ap next_of (stored_is d z k j here low (omega (arith, within, near)) ∙ ap (λ (f : Fusing). at_step f d) (stored_few d.two z (k + j) (omega (arith, within, near))))
    ∙ let place : d.first + store_at d.two d.own z (k + j) ≡ first + j = omega (arith, at_d) in rw (place, is) refl)

pub run_is_made : (d e : FuseData) (z : Size) (most k n : ℕ) → d ≡ e → d.step ≡ Storing z k → k < block_words d.two z → n ≡ min most (block_words d.two z - k)
    → at_step (stored_to d.two z (k + n)) d ≡ stored_by n e
run_is_made d e z most k n same here low count =
    sym (stored_is d z k n here low (omega (arith, low, count))) ∙ ap (stored_by n) same
