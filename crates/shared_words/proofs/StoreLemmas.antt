-- Runs of stores.
use Rattle.std.proofs.Common.{◌≡◌, ℕ, zero, suc, ◌+◌, ◌≤◌, List, length, set, replicate, refl, sym, ap, ◌∙◌, arith, add-one, length-set}
use Rattle.std.proofs.lemmas.List.{length-replicate}
use Rattle.std.proofs.lemmas.List.Edits.{fill_from_more, paste_none}
use Rattle.std.proofs.lemmas.Slice.{put_mid-paste}
use lib.Seq.{paste}
use borrow.Rule.Slice.PartMut.{put_mid}
use Rattle.shared_words.specs.declared.act.StoreRun.{StoreRun}
use Rattle.shared_words.specs.Acts.{store_in, after_act, after_stores}

pub stores_none : (run : StoreRun) (words : List ℕ) → after_stores run 0 words ≡ words
unfolding after_stores
stores_none run words = refl

pub stores_more : (run : StoreRun) (n : ℕ) (words : List ℕ) → after_stores run (n + 1) words ≡ after_act (store_in run n) (after_stores run n words)
unfolding after_stores
stores_more run n words = ap (λ (k : ℕ). after_stores run k words) (add-one n)

pub stores-length : (run : StoreRun) (n : ℕ) (words : List ℕ) → length (after_stores run n words) ≡ length words
unfolding after_stores
stores-length run zero words = refl
stores-length run (suc n) words = length-set _ _ _ ∙ stores-length run n words

pub ruleset run_steps = (stores_none, stores_more, stores-length)

-- a part of the words that is filled
stores_paste : (run : StoreRun) (n : ℕ) (words : List ℕ) → run.first + n ≤ length words → after_stores run n words ≡ paste words run.first (replicate n run.value) n
unfolding after_stores
stores_paste run zero words within = paste_none words run.first (replicate 0 run.value)
stores_paste run (suc n) words within =
    ap (λ (xs : List ℕ). set xs (run.first + n) run.value) (stores_paste run n words (omega arith)) ∙ fill_from_more words run.first n run.value (omega arith)
    ∙ ap (λ (k : ℕ). paste words run.first (replicate k run.value) k) (add-one n)

pub stores_filled : (run : StoreRun) (n : ℕ) (words : List ℕ) → run.first + n ≤ length words → put_mid run.first n words (replicate n run.value) ≡ after_stores run n words
stores_filled run n words within =
    put_mid-paste run.first n words (replicate n run.value) (replicate n run.value) n refl refl (sym (length-replicate n run.value)) ∙ sym (stores_paste run n words within)
