-- Level 1 descriptors: which words are granules words.
use Rattle.std.proofs.Common.{◌≡◌, ◌≢◌, ℕ, ◌+◌, ◌%◌, ◌^◌, ◌<◌, true, false, eqb, ltb, ◌-◌, refl, sym, subst, arith, inl, inr}
use Rattle.std.specs.Prelude.{Some, IsSome, is_some}
use Rattle.std.proofs.lemmas.Bool.{cases_Bool, ne_eqb, eq-eqb, lt-ltb}
use Rattle.gpi_values.specs.Values.{gpi_with}
use Rattle.gpi_values.proofs.Numbers.{each_at, each_from}
use Rattle.gpi_values.specs.declared.gpi.Gpi.TheVariants as gpi
use Rattle.gpt_descriptors.specs.declared.entry.L0Entry.{L0Entry}
use Rattle.gpt_descriptors.specs.declared.entry.L0Entry.TheVariants as l0
use Rattle.gpt_descriptors.specs.declared.entry.L1Entry.{L1Entry}
use Rattle.gpt_descriptors.specs.declared.entry.L1Entry.TheVariants as l1
use Rattle.gpt_descriptors.specs.Entries.{field, knows_all, l0_entry, l0_word, IsL0, l1_entry, l1_word, IsL1}

-- all fields are known exactly where each is
pub knows_each : (word : ℕ) → knows_all word ≡ true → (i : ℕ) → i < 16 → IsSome (gpi_with (field word i))
unfolding knows_all
knows_each word e i lt = each_at (λ i. is_some (gpi_with (field word i))) 0 16 i e (omega arith) (omega arith)

pub knows_from : (word : ℕ) → ((i : ℕ) → i < 16 → IsSome (gpi_with (field word i))) → knows_all word ≡ true
unfolding knows_all
knows_from word each = each_from (λ i. is_some (gpi_with (field word i))) 0 16 (λ k low high. each k (omega arith))

-- one unknown field refuses the word
pub knows_not : (word i : ℕ) → i < 16 → is_some (gpi_with (field word i)) ≡ false → knows_all word ≡ false
knows_not word i lt unknown = elim (cases_Bool (knows_all word)) [ inl e ↦ absurd (let known = knows_each word e i lt in cc) | inr e ↦ e ]

-- 0b0001 is no GPI, so no granules word looks contiguous
pub granules_not_contiguous : (word : ℕ) → ((i : ℕ) → i < 16 → IsSome (gpi_with (field word i))) → eqb (word % 16) 1 ≡ false
granules_not_contiguous word each =
    ne_eqb (word % 16) 1 (λ one.
    let low : field word 0 ≡ 1 = omega arith in
    let known = subst (λ (f : ℕ). is_some (gpi_with f) ≡ true) low (each 0 (omega arith)) in
    absurd cc)

-- a granules word is read as itself
pub granules_entry : (word : ℕ) → ((i : ℕ) → i < 16 → IsSome (gpi_with (field word i))) → l1_entry word ≡ Some (l1.Granules word)
granules_entry word each = rw (granules_not_contiguous word each, knows_from word each) refl

-- a word that spells an entry and doesn't look contiguous is a granules word
pub spelled_apart : (entry : L1Entry) (word : ℕ) → IsL1 entry → word ≡ l1_word entry → word % 16 ≢ 1 → knows_all word ≡ true
spelled_apart (l1.Granules fields) word is spelled apart = subst (λ (w : ℕ). knows_all w ≡ true) (sym spelled) (knows_from fields is.1)
spelled_apart (l1.Contig size gpi) word is spelled apart = absurd (apart (omega arith))

-- a level 0 entry is read as itself
pub l0_again : (entry : L0Entry) → IsL0 entry → l0_entry (l0_word entry) ≡ Some entry
l0_again (l0.Block gpi.NoAccess) is = refl
l0_again (l0.Block gpi.Secure) is = refl
l0_again (l0.Block gpi.NonSecure) is = refl
l0_again (l0.Block gpi.Root) is = refl
l0_again (l0.Block gpi.Realm) is = refl
l0_again (l0.Block gpi.Any) is = refl
l0_again (l0.Table address) is =
    let other : eqb ((3 + address) % 16) 1 ≡ false = ne_eqb _ _ (λ one. omega (arith, is.0)) in
    let low : eqb ((3 + address) % 4096) 3 ≡ true = eq-eqb _ _ (omega (arith, is.0)) in
    let small : ltb (3 + address) (2 ^ 52) ≡ true = lt-ltb _ _ (omega (arith, is.0, is.1)) in
    let back : 3 + address - 3 ≡ address = omega arith in
    rw (other, low, small, back) refl
