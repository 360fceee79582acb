-- A word with one of its fields replaced has 64 bits.
use Rattle.std.proofs.Common.{◌≡◌, ℕ, ◌+◌, ◌-◌, ◌*◌, ◌/◌, ◌%◌, ◌^◌, ◌≤◌, ◌<◌, sym, ap, ◌∙◌, subst, arith}
use Rattle.std.proofs.Math.Nat.{div-lt_iff_lt-mul, mod-eq_of_lt}
use Rattle.std.proofs.lemmas.Nat.{pow_pos, pow-add, one_shl, mul-le}
use Rattle.gpt_descriptors.specs.Fields.{with_field}

-- a product of a number below n and p, and a rest below p, is below n times p
below_product : (x n p r : ℕ) → x < n → r < p → x * p + r < n * p
below_product x n p r low rest =
    let step : (x + 1) * p ≤ n * p = mul-le (x + 1) p n p (omega (arith, low)) (omega arith) in
    let spread : (x + 1) * p ≡ x * p + p = grind arith in
    omega (arith, step, spread, rest)

-- the fields above a place and a new one there, for 16 times r fields of p
above_low : (word p r v : ℕ) → 0 < p → word < 16 * r * p → v < 16 → word / p / 16 * 16 + v < 16 * r
above_low word p r v some fits value =
    let over : word / p < 16 * r = (div-lt_iff_lt-mul some).1 fits in
    omega (arith, over, value)

rest_low : (word p : ℕ) → 0 < p → word % p < p
rest_low word p some = omega arith

small_rest : (x n : ℕ) → x < n → x % n ≡ x
small_rest x n low = mod-eq_of_lt low

parts_of_64 : (i : ℕ) → i < 16 → 16 * 2 ^ (60 - 4 * i) * 2 ^ (4 * i) ≡ 2 ^ 64
parts_of_64 i low =
    let whole : 2 ^ (60 - 4 * i) * 2 ^ (4 * i) ≡ 2 ^ 60 = sym (pow-add 2 (60 - 4 * i) (4 * i)) ∙ ap (λ (k : ℕ). 2 ^ k) (let e : 60 - 4 * i + 4 * i ≡ 60 = omega (arith, low) in e) in
    let turned : 16 * 2 ^ (60 - 4 * i) * 2 ^ (4 * i) ≡ 16 * (2 ^ (60 - 4 * i) * 2 ^ (4 * i)) = grind arith in
    turned ∙ ap (λ (n : ℕ). 16 * n) whole

pub with_field_fits : (word i v : ℕ) → word < 2 ^ 64 → i < 16 → v < 16 → with_field word i v < 2 ^ 64
with_field_fits word i v fits low value =
    let word_fits : word < 16 * 2 ^ (60 - 4 * i) * 2 ^ (4 * i) = subst (λ (n : ℕ). word < n) (sym (parts_of_64 i low)) fits in
    let above : word / 2 ^ (4 * i) / 16 * 16 + v < 16 * 2 ^ (60 - 4 * i) = above_low word (2 ^ (4 * i)) (2 ^ (60 - 4 * i)) v (pow_pos (4 * i)) word_fits value in
    subst (λ (n : ℕ). with_field word i v < n) (parts_of_64 i low)
    (below_product (word / 2 ^ (4 * i) / 16 * 16 + v) (16 * 2 ^ (60 - 4 * i)) (2 ^ (4 * i)) (word % 2 ^ (4 * i)) above (rest_low word (2 ^ (4 * i)) (pow_pos (4 * i))))

-- as the code computes it
pub shifted_fields : (word i v : ℕ) → word < 2 ^ 64 → i < 16 → v < 16
    → (word / 2 ^ (4 * i) / 16 * 16 + v) * 2 ^ (4 * i) % 2 ^ 64 + word % (1 * 2 ^ (4 * i) % 2 ^ 64) ≡ with_field word i v
shifted_fields word i v fits low value =
    let all : with_field word i v < 2 ^ 64 = with_field_fits word i v fits low value in
    let one : 1 * 2 ^ (4 * i) % 2 ^ 64 ≡ 2 ^ (4 * i) = one_shl (4 * i) 64 (omega (arith, low)) in
    let high : (word / 2 ^ (4 * i) / 16 * 16 + v) * 2 ^ (4 * i) % 2 ^ 64 ≡ (word / 2 ^ (4 * i) / 16 * 16 + v) * 2 ^ (4 * i) =
    small_rest ((word / 2 ^ (4 * i) / 16 * 16 + v) * 2 ^ (4 * i)) (2 ^ 64) (omega (arith, all)) in
    ap (λ (n : ℕ). n + word % (1 * 2 ^ (4 * i) % 2 ^ 64)) high ∙ ap (λ (n : ℕ). (word / 2 ^ (4 * i) / 16 * 16 + v) * 2 ^ (4 * i) + word % n) one
