-- The text of one more table.
use Rattle.std.proofs.Common.{◌≡◌, ℕ, zero, suc, ◌+◌, ◌*◌, List, [], ◌∷◌, ◌++◌, take, drop, ap, ◌∙◌, zero-add, arith}
use Rattle.std.specs.List.{flat_map, range_with_len}
use Rattle.std.proofs.lemmas.List.{append-nil}
use Rattle.std.proofs.lemmas.List.Concat.{flat_map-append}
use Rattle.report_text.specs.declared.level.Level.TheVariants as level
use Rattle.report_text.specs.TablesText.{runs_text, tables_text}

pub range_more : (a n : ℕ) → range_with_len a (n + 1) ≡ range_with_len a n ++ (a + n) ∷ []
range_more a zero = let e : a ≡ a + 0 = omega arith in ap (λ (k : ℕ). k ∷ []) e
range_more a (suc n) =
    let count : suc n + 1 ≡ suc (n + 1) = omega arith in
    let last : a + suc n ≡ a + 1 + n = omega arith in
    rw (count, last) (ap (λ (ks : List ℕ). a ∷ ks) (range_more (a + 1) n))

pub tables_more : (size : ℕ) (words : List ℕ) (k : ℕ)
    → tables_text size words 0 (k + 1) ≡ tables_text size words 0 k ++ runs_text (level.One k) (take size (drop (k * size) words))
tables_more size words k =
    let f = λ (j : ℕ). runs_text (level.One j) (take size (drop (j * size) words)) in
    ap (flat_map f) (range_more 0 k) ∙ flat_map-append f (range_with_len 0 k) ((0 + k) ∷ [])
    ∙ ap (λ (text : List ℕ). tables_text size words 0 k ++ text) (append-nil (f (0 + k)) ∙ ap f (zero-add k))
