-- Digits in base 10 and in base 16: the number that they spell, and how that number is spelled.
use Rattle.std.proofs.Common.{◌≡◌, ◌≢◌, ℕ, suc, zero, ◌+◌, ◌-◌, ◌*◌, ◌/◌, ◌%◌, ◌^◌, ◌<◌, ◌≤◌, inl, inr, Bool, true, false, not, ◌&&◌, ◌||◌, List, [], ◌∷◌, ◌++◌, length, get_or, drop, refl, sym, ◌∙◌, ap, subst, arith, eqb, cond, append-nil, Some, None, nat_lt, if◌then◌else◌}
use Rattle.std.specs.List.{list_all}
use Rattle.std.specs.Fmt.{digits, digits_onto, digit_glyph}
use Rattle.std.proofs.lemmas.Bool.{cases_Bool, and_parts, and_from, and_cases, and_left, and_right, le-ltb, ltb-false, cond-false, or_left, or_right, not_from_false, eq-eqb, ne_eqb, lt-ltb, ltb-true, cond-true, cases_lt, cases_eq}
use Rattle.std.proofs.lemmas.Bool.Decides.{nat_tests}
use Rattle.std.proofs.lemmas.List.{at_drop_more, at_drop_all}
use Rattle.std.proofs.Math.Nat.{pow-zero, pow-suc, pow-le-pow_right, mul-le-mul_right, div-lt_iff_lt-mul}
use Rattle.line_text.specs.Numerals.{is_digit_of, digit_of, value_in, is_numeral, numeral_in}
use Rattle.line_text.specs.InnerNumerals.{IsBase, pushed_in, value_on, rest_in}

one_times : (base : ℕ) → 1 * base ≡ base
one_times base = omega arith

front_zero : (base d : ℕ) → 0 * base + d ≡ d
front_zero base d = omega arith

-- ---- one digit

pub digit_read : (base c : ℕ) → IsBase base → is_digit_of base c ≡ true → (digit_of c < base) × (digit_glyph false (digit_of c) ≡ c)
digit_read base c (inl e) d = (grind (arith, nat_tests), grind (arith, nat_tests))
digit_read base c (inr e) d = (grind (arith, nat_tests), grind (arith, nat_tests))

pub digit_again : (base d : ℕ) → IsBase base → d < base → (is_digit_of base (digit_glyph false d) ≡ true) × (digit_of (digit_glyph false d) ≡ d)
digit_again base d (inl e) lt = (grind (arith, nat_tests), grind (arith, nat_tests))
digit_again base d (inr e) lt = (grind (arith, nat_tests), grind (arith, nat_tests))

digit_zero : (base c : ℕ) → is_digit_of base c ≡ true → digit_of c ≡ 0 → c ≡ 48
digit_zero base c d e = grind (arith, nat_tests)

glyph_zero : (d : ℕ) → 0 < d → digit_glyph false d ≢ 48
glyph_zero d lt e = grind (arith, nat_tests)

-- ---- the last digit

quotient : (base n m d : ℕ) → IsBase base → d < base → n ≡ m * base + d → (n / base ≡ m) × (n % base ≡ d)
quotient base n m d (inl e) = subst (λ b. d < b → n ≡ m * b + d → (n / b ≡ m) × (n % b ≡ d)) (sym e) (λ lt is. (omega arith, omega arith))
quotient base n m d (inr e) = subst (λ b. d < b → n ≡ m * b + d → (n / b ≡ m) × (n % b ≡ d)) (sym e) (λ lt is. (omega arith, omega arith))

onto_case : (t : Bool) (k base n : ℕ) (acc : List ℕ) → eqb (n / base) 0 ≡ t → digits_onto (suc k) base false n acc ≡ cond t (digit_glyph false (n % base) ∷ acc) (digits_onto k base false (n / base) (digit_glyph false (n % base) ∷ acc))
onto_case t k base n acc e = ap (λ (b : Bool). cond b (digit_glyph false (n % base) ∷ acc) (digits_onto k base false (n / base) (digit_glyph false (n % base) ∷ acc))) e

onto_last : (k base d : ℕ) (acc : List ℕ) → IsBase base → d < base → digits_onto (suc k) base false d acc ≡ digit_glyph false d ∷ acc
onto_last k base d acc b lt =
    let q = quotient base d 0 d b lt (omega arith) in
    onto_case true k base d acc (eq-eqb _ 0 q.0) ∙ ap (λ (r : ℕ). digit_glyph false r ∷ acc) q.1

onto_more : (k base n m d : ℕ) (acc : List ℕ) → IsBase base → 0 < m → d < base → n ≡ m * base + d → digits_onto (suc k) base false n acc ≡ digits_onto k base false m (digit_glyph false d ∷ acc)
onto_more k base n m d acc b lt small is =
    let q = quotient base n m d b small is in
    onto_case false k base n acc (ne_eqb _ 0 (λ z. omega arith))
    ∙ (λ i. digits_onto k base false (q.0 i) (digit_glyph false (q.1 i) ∷ acc))

-- ---- digits that are read are written again

onto_again : (base : ℕ) (b : IsBase base) (cs : List ℕ) (k m : ℕ) (acc : List ℕ) → 0 < m → list_all (is_digit_of base) cs ≡ true → digits_onto (k + length cs) base false (value_on base m cs) acc ≡ digits_onto k base false m (cs ++ acc)
onto_again base b [] k m acc lt d = ap (λ (j : ℕ). digits_onto j base false m acc) (omega arith)
onto_again base b (c ∷ cs) k m acc lt d =
    let p = and_parts (is_digit_of base c) (list_all (is_digit_of base) cs) d in
    let r = digit_read base c b p.0 in
    let more : 0 < m * base + digit_of c = positive base b m (digit_of c) lt in
    ap (λ (j : ℕ). digits_onto j base false (value_on base (m * base + digit_of c) cs) acc) {x = k + length (c ∷ cs)} {y = suc k + length cs} (omega arith)
    ∙ onto_again base b cs (suc k) (m * base + digit_of c) acc more p.1
    ∙ onto_more k base (m * base + digit_of c) m (digit_of c) (cs ++ acc) b lt r.0 refl
    ∙ ap (λ (g : ℕ). digits_onto k base false m (g ∷ (cs ++ acc))) r.1
  where
    positive : (base : ℕ) → IsBase base → (m d : ℕ) → 0 < m → 0 < m * base + d
    positive base (inl e) m d lt = rw e (omega arith)
    positive base (inr e) m d lt = rw e (omega arith)

-- each further digit at least doubles the number
pub value_grows : (base : ℕ) → IsBase base → (cs : List ℕ) (m : ℕ) → m * 2 ^ length cs ≤ value_on base m cs
value_grows base b [] m = omega (arith, pow-zero 2)
value_grows base b (c ∷ cs) m =
    let h = value_grows base b cs (m * base + digit_of c) in
    let twice : 2 * m ≤ m * base + digit_of c = at_least base b m (digit_of c) in
    let e : m * 2 ^ length (c ∷ cs) ≡ m * (2 ^ length cs * 2) = ap (λ (x : ℕ). m * x) (pow-suc 2 (length cs)) in
    omega (arith, h, e, mul-le-mul_right (2 ^ length cs) twice)
  where
    at_least : (base : ℕ) → IsBase base → (m d : ℕ) → 2 * m ≤ m * base + d
    at_least base (inl e) m d = rw e (omega arith)
    at_least base (inr e) m d = rw e (omega arith)

pub value_least : (base : ℕ) → IsBase base → (cs : List ℕ) (m : ℕ) → m ≤ value_on base m cs
value_least base b [] m = omega arith
value_least base b (c ∷ cs) m = let h = value_least base b cs (m * base + digit_of c) in omega (arith, h, at_least base b m (digit_of c))
  where
    at_least : (base : ℕ) → IsBase base → (m d : ℕ) → m ≤ m * base + d
    at_least base (inl e) m d = rw e (omega arith)
    at_least base (inr e) m d = rw e (omega arith)

short : (base : ℕ) → IsBase base → (cs : List ℕ) (m : ℕ) → 0 < m → value_on base m cs < 2 ^ 64 → length cs < 64
short base b cs m lt small =
    elim (cases_lt (length cs) 64) [
      | inl l ↦ l
      | inr g ↦ absurd (omega (arith, value_grows base b cs m, mul-le-mul_right (2 ^ length cs) lt, pow-le-pow_right {n = 2} (omega arith) g))
    ]

digits_is : (base n : ℕ) (k : ℕ) → k ≡ 64 → digits base false n ≡ digits_onto k base false n []
unfolding digits
digits_is base n k e = ap (λ (j : ℕ). digits_onto j base false n []) (sym e)

first_some : (base c more : ℕ) → is_digit_of base c ≡ true → (not (eqb c 48) || eqb (suc more) 0) ≡ true → 0 < digit_of c
first_some base c more d lead = grind (arith, nat_tests)

pub numeral_spelled : (base : ℕ) → IsBase base → (ds : List ℕ) → is_numeral base ds ≡ true → value_in base ds < 2 ^ 64 → digits base false (value_in base ds) ≡ ds
numeral_spelled base b [] n lt = cc
numeral_spelled base b (c ∷ []) n lt =
    let p = and_parts (is_digit_of base c) true (and_parts (is_digit_of base c && true) _ n).0 in
    let r = digit_read base c b p.0 in
    ap (digits base false) (front_zero base (digit_of c)) ∙ digits_is base (digit_of c) 64 refl ∙ onto_last 63 base (digit_of c) [] b r.0 ∙ ap (λ (g : ℕ). g ∷ []) r.1
numeral_spelled base b (c ∷ e ∷ es) n lt =
    let q = and_parts (list_all (is_digit_of base) (c ∷ e ∷ es)) _ n in
    let p = and_parts (is_digit_of base c) (list_all (is_digit_of base) (e ∷ es)) q.0 in
    let r = digit_read base c b p.0 in
    let some = first_some base c (length es) p.0 q.1 in
    let front = front_zero base (digit_of c) in
    let room = short base b (e ∷ es) (digit_of c) some (subst (λ (m : ℕ). value_on base m (e ∷ es) < 2 ^ 64) front lt) in
    ap (λ (m : ℕ). digits base false (value_on base m (e ∷ es))) front
    ∙ digits_is base (value_on base (digit_of c) (e ∷ es)) (suc (63 - length (e ∷ es)) + length (e ∷ es)) (omega arith)
    ∙ onto_again base b (e ∷ es) (suc (63 - length (e ∷ es))) (digit_of c) [] some p.1
    ∙ onto_last (63 - length (e ∷ es)) base (digit_of c) ((e ∷ es) ++ []) b r.0
    ∙ (λ i. r.1 i ∷ append-nil (e ∷ es) i)

-- ---- digits that are written are read again

pub record Spells (base n : ℕ) (acc ds : List ℕ) : Type 0 where
  pub digits : list_all (is_digit_of base) ds ≡ true
  pub value : value_on base 0 ds ≡ value_on base n acc
  pub zero : n ≡ 0 → ds ≡ 48 ∷ acc
  -- the first digit; an empty list would have 48
  pub lead : 0 < n → get_or ds 0 48 ≢ 48

rest_lt : (base : ℕ) → IsBase base → (n : ℕ) → n % base < base
rest_lt base (inl e) n = rw e (omega arith)
rest_lt base (inr e) n = rw e (omega arith)

whole : (base : ℕ) → IsBase base → (n : ℕ) → n ≡ n / base * base + n % base
whole base (inl e) n = rw e (omega arith)
whole base (inr e) n = rw e (omega arith)

some_front : (base : ℕ) → IsBase base → (n : ℕ) → base ≤ n → 0 < n / base
some_front base (inl e) n = rw e (λ g. omega arith)
some_front base (inr e) n = rw e (λ g. omega arith)

fewer : (base : ℕ) → IsBase base → (k n : ℕ) → n < base ^ suc (suc k) → n / base < base ^ suc k
fewer base b k n lt = (div-lt_iff_lt-mul (omega (arith, rest_lt base b n))).1 (omega (arith, lt, pow-suc base (suc k)))

spells_last : (base : ℕ) (b : IsBase base) (k n : ℕ) (acc : List ℕ) → n < base → list_all (is_digit_of base) acc ≡ true → Spells base n acc (digits_onto (suc k) base false n acc)
spells_last base b k n acc lt d =
    let a = digit_again base n b lt in
    subst (λ (ds : List ℕ). Spells base n acc ds) (sym (onto_last k base n acc b lt)) (record {
      digits = and_from _ _ a.0 d;
      value = ap (λ (m : ℕ). value_on base m acc) (front_zero base _ ∙ a.1);
      zero = λ e. rw e refl;
      lead = λ some. glyph_zero n some;
    })

spells_more : (base : ℕ) (b : IsBase base) (k n : ℕ) (acc : List ℕ) → base ≤ n → Spells base (n / base) (digit_glyph false (n % base) ∷ acc) (digits_onto k base false (n / base) (digit_glyph false (n % base) ∷ acc)) → Spells base n acc (digits_onto (suc k) base false n acc)
spells_more base b k n acc g h =
    let rest = rest_lt base b n in
    let some = some_front base b n g in
    subst (λ (ds : List ℕ). Spells base n acc ds) (sym (onto_more k base n (n / base) (n % base) acc b some rest (whole base b n))) (record {
      digits = h.digits;
      value = h.value ∙ ap (λ (m : ℕ). value_on base m acc) (ap (λ (x : ℕ). n / base * base + x) (digit_again base (n % base) b rest).1 ∙ sym (whole base b n));
      zero = λ e. absurd (omega arith);
      lead = λ _. h.lead some;
    })

onto_spells : (base : ℕ) (b : IsBase base) (k n : ℕ) (acc : List ℕ) → n < base ^ suc k → list_all (is_digit_of base) acc ≡ true → Spells base n acc (digits_onto (suc k) base false n acc)
onto_spells base b zero n acc small d = spells_last base b zero n acc (subst (λ (m : ℕ). n < m) (pow-suc base 0 ∙ ap (λ (x : ℕ). x * base) (pow-zero base) ∙ one_times base) small) d
onto_spells base b (suc k) n acc small d =
    elim (cases_lt n base) [
      | inl l ↦ spells_last base b (suc k) n acc l d
      | inr g ↦ spells_more base b (suc k) n acc g (onto_spells base b k (n / base) (digit_glyph false (n % base) ∷ acc) (fewer base b k n small) (and_from _ _ (digit_again base (n % base) b (rest_lt base b n)).0 d))
    ]

-- ---- numerals

if_some : (t : Bool) (v n : ℕ) → (if t then Some v else None) ≡ Some n → (t ≡ true) × (v ≡ n)
if_some true v n e = (refl, cc)
if_some false v n e = (cc, cc)

pub numeral_read : (base : ℕ) → IsBase base → (text : List ℕ) (n : ℕ) → numeral_in base text ≡ Some n → (text ≡ digits base false n) × (n < 2 ^ 64)
numeral_read base b text n e =
    let s = if_some _ (value_in base text) n e in
    let p = and_parts (is_numeral base text) (nat_lt (value_in base text) (2 ^ 64)) s.0 in
    let lt = ltb-true (value_in base text) (2 ^ 64) p.1 in
    (sym (numeral_spelled base b text p.0 lt) ∙ ap (digits base false) s.1, subst (λ (m : ℕ). m < 2 ^ 64) s.1 lt)

spells_numeral : (base n : ℕ) (ds : List ℕ) → Spells base n [] ds → is_numeral base ds ≡ true
spells_numeral base n [] s = elim (cases_eq n 0) [ inl e ↦ absurd (let h = s.zero e in cc) | inr h ↦ absurd (s.lead (omega arith) refl) ]
spells_numeral base n (c ∷ []) s = and_from _ _ s.digits (or_right _ _ refl)
spells_numeral base n (c ∷ e ∷ es) s = elim (cases_eq n 0) [
  | inl z ↦ absurd (let h = s.zero z in cc)
  | inr h ↦ and_from _ _ s.digits (or_left _ _ (not_from_false _ (ne_eqb c 48 (s.lead (omega arith)))))
]

roomy : (base : ℕ) → IsBase base → (n : ℕ) → n < 2 ^ 64 → n < base ^ 64
roomy base (inl e) n lt = rw e (omega arith)
roomy base (inr e) n lt = rw e (omega arith)

pub digits_spell : (base : ℕ) → IsBase base → (n : ℕ) → n < 2 ^ 64 → Spells base n [] (digits base false n)
digits_spell base b n lt = subst (λ (ds : List ℕ). Spells base n [] ds) (sym (digits_is base n 64 refl)) (onto_spells base b 63 n [] (roomy base b n lt) refl)

pub numeral_again : (base : ℕ) → IsBase base → (n : ℕ) → n < 2 ^ 64 → numeral_in base (digits base false n) ≡ Some n
numeral_again base b n lt =
    let s = digits_spell base b n lt in
    let small : nat_lt (value_in base (digits base false n)) (2 ^ 64) ≡ true = lt-ltb _ (2 ^ 64) (subst (λ (m : ℕ). m < 2 ^ 64) (sym s.value) lt) in
    cond-true _ _ _ (and_from _ _ (spells_numeral base n _ s) small) ∙ ap (λ (m : ℕ). Some m) s.value

-- a digit alone is a numeral
digit_small : (base c : ℕ) → IsBase base → is_digit_of base c ≡ true → nat_lt (0 * base + digit_of c) (2 ^ 64) ≡ true
digit_small base c b d = lt-ltb _ (2 ^ 64) (subst (λ (n : ℕ). n < 2 ^ 64) (sym (front_zero base (digit_of c))) (below base (digit_of c) b (digit_read base c b d).0))
  where
    below : (base n : ℕ) → IsBase base → n < base → n < 2 ^ 64
    below base n (inl e) lt = omega arith
    below base n (inr e) lt = omega arith

pub one_digit : (base c : ℕ) → IsBase base → numeral_in base (c ∷ []) ≡ (if is_digit_of base c then Some (digit_of c) else None)
one_digit base c b =
    elim (cases_Bool (is_digit_of base c)) [
      | inl t ↦ cond-true _ _ _ (and_from _ _ (and_from _ _ (and_from _ _ t refl) (or_right _ _ refl)) (digit_small base c b t)) ∙ ap (λ (n : ℕ). Some n) (front_zero base (digit_of c)) ∙ sym (cond-true _ _ _ t)
      | inr f ↦ cond-false _ _ _ (and_left _ _ (and_left _ _ (and_left _ _ f))) ∙ sym (cond-false _ _ _ f)
    ]

-- ---- a loop over digits

none_pushed : (t : Bool) (v : ℕ) → (if t then Some v else None) ≡ None → t ≡ false
none_pushed true v e = cc
none_pushed false v e = refl

pub rest_stops : (base n c : ℕ) (cs : List ℕ) → IsBase base → pushed_in base n c ≡ None → rest_in base n (c ∷ cs) ≡ None
rest_stops base n c cs b e =
    elim (and_cases (is_digit_of base c) (nat_lt (n * base + digit_of c) (2 ^ 64)) (none_pushed _ (n * base + digit_of c) e)) [
      | inl d ↦ cond-false _ _ _ (and_left _ _ (and_left _ _ d))
      | inr g ↦ cond-false _ _ _ (and_right _ _ (le-ltb (value_on base (n * base + digit_of c) cs) (2 ^ 64) (omega (arith, ltb-false (n * base + digit_of c) (2 ^ 64) g, value_least base b cs (n * base + digit_of c)))))
    ]

pub rest_goes_on : (base n c m : ℕ) (cs : List ℕ) → pushed_in base n c ≡ Some m → rest_in base n (c ∷ cs) ≡ rest_in base m cs
rest_goes_on base n c m cs e =
    let p = if_some _ (n * base + digit_of c) m e in
    let d = (and_parts (is_digit_of base c) _ p.0).0 in
    ap (λ (t : Bool). if (t && list_all (is_digit_of base) cs) && nat_lt (value_on base (n * base + digit_of c) cs) (2 ^ 64) then Some (value_on base (n * base + digit_of c) cs) else None) d
    ∙ ap (λ (v : ℕ). rest_in base v cs) p.1

pub rest_ends : (base n : ℕ) → n < 2 ^ 64 → rest_in base n [] ≡ Some n
rest_ends base n lt = cond-true _ _ _ (lt-ltb n (2 ^ 64) lt)

pub rest_stops_at : (base n : ℕ) (xs : List ℕ) (i : ℕ) → IsBase base → i < length xs → pushed_in base n (get_or xs i 0) ≡ None → rest_in base n (drop i xs) ≡ None
rest_stops_at base n xs i b lt e = at_drop_more (rest_in base n) xs i 0 lt ∙ rest_stops base n (get_or xs i 0) (drop (i + 1) xs) b e

pub rest_ends_at : (base n : ℕ) (xs : List ℕ) (i : ℕ) → length xs ≤ i → n < 2 ^ 64 → rest_in base n (drop i xs) ≡ Some n
rest_ends_at base n xs i le lt = at_drop_all (rest_in base n) xs i le ∙ rest_ends base n lt
