-- A field that is read as a number is spelled as that number, and a number's spelling is read as it.
use Rattle.std.proofs.Common.{◌≡◌, ◌≢◌, ℕ, ◌^◌, ◌<◌, Bool, true, false, List, [], ◌∷◌, ◌++◌, length, take, drop, Option, Some, None, codes, inl, inr, refl, sym, ◌∙◌, arith, if◌then◌else◌}
use Rattle.std.specs.List.{AllByRecursion, list_all}
use Rattle.std.specs.Str.{bytes_eq}
use Rattle.std.specs.Fmt.{digits}
use Rattle.std.proofs.lemmas.Bool.{and_parts, cases_eq}
use Rattle.std.proofs.lemmas.Bool.Decides.{nat_tests}
use Rattle.std.proofs.lemmas.List.{take-append-drop}
use Rattle.std.proofs.lemmas.Slice.Eq.{bytes_eq-Decides}
use Rattle.line_text.specs.Lines.{count, address}
use Rattle.line_text.specs.Numerals.{count_in, address_in, numeral_in, is_digit_of}
use Rattle.line_text.proofs.DigitLemmas.{Spells, digits_spell, numeral_read, numeral_again}

-- neither the space that parts fields nor the line feed that ends lines
abbrev pub IsPlain : ℕ → Type 0
IsPlain c = (c ≢ 32) × (c ≢ 10)

pub count_read : (field : List ℕ) (n : ℕ) → count_in field ≡ Some n → (field ≡ count n) × (n < 2 ^ 64)
unfolding count_in
count_read field n e = numeral_read 10 (inl refl) field n e

pub count_again : (n : ℕ) → n < 2 ^ 64 → count_in (count n) ≡ Some n
unfolding count_in
count_again n lt = numeral_again 10 (inl refl) n lt

if_some : (t : Bool) (o : Option ℕ) (n : ℕ) → (if t then o else None) ≡ Some n → (t ≡ true) × (o ≡ Some n)
if_some true o n e = (refl, e)
if_some false o n e = (cc, cc)

pub address_read : (field : List ℕ) (n : ℕ) → address_in field ≡ Some n → (field ≡ address n) × (n < 2 ^ 64)
unfolding address_in
address_read field n e =
    let p = if_some (bytes_eq (take 2 field) (codes "0x")) (numeral_in 16 (drop 2 field)) n e in
    let front : take 2 field ≡ codes "0x" = (bytes_eq-Decides (take 2 field) (codes "0x")).0 p.0 in
    let r = numeral_read 16 (inr refl) (drop 2 field) n p.1 in
    (sym (take-append-drop 2 field) ∙ (λ i. front i ++ r.0 i), r.1)

pub address_again : (n : ℕ) → n < 2 ^ 64 → address_in (address n) ≡ Some n
unfolding address_in
address_again n lt = numeral_again 16 (inr refl) n lt

plain : (base : ℕ) (ds : List ℕ) → list_all (is_digit_of base) ds ≡ true → AllByRecursion IsPlain ds
plain base [] d = tt
plain base (c ∷ cs) d =
    let p = and_parts (is_digit_of base c) (list_all (is_digit_of base) cs) d in
    ((space base c p.0, feed base c p.0), plain base cs p.1)
  where
    space : (base c : ℕ) → is_digit_of base c ≡ true → c ≢ 32
    space base c d e = grind (arith, nat_tests)

    feed : (base c : ℕ) → is_digit_of base c ≡ true → c ≢ 10
    feed base c d e = grind (arith, nat_tests)

some_digit : (base n : ℕ) (ds : List ℕ) → Spells base n [] ds → 0 < length ds
some_digit base n [] s = elim (cases_eq n 0) [ inl e ↦ absurd (let h = s.zero e in cc) | inr h ↦ absurd (s.lead (omega arith) refl) ]
some_digit base n (d ∷ ds) s = omega arith

-- a numeral is no empty field, and has neither separator
pub count_plain : (n : ℕ) → n < 2 ^ 64 → AllByRecursion IsPlain (count n) × (0 < length (count n))
count_plain n lt =
    let s = digits_spell 10 (inl refl) n lt in
    (plain 10 (count n) s.digits, some_digit 10 n (count n) s)

pub address_plain : (n : ℕ) → n < 2 ^ 64 → AllByRecursion IsPlain (address n) × (0 < length (address n))
address_plain n lt =
    let s = digits_spell 16 (inr refl) n lt in
    (((λ e. omega arith, λ e. omega arith), ((λ e. omega arith, λ e. omega arith), plain 16 (digits 16 false n) s.digits)), omega arith)
