-- Locks: how an act on the words and a step of a caller change who holds what.
use Rattle.std.proofs.Common.{◌≡◌, ◌≢◌, ℕ, ◌+◌, ◌^◌, ◌/◌, ◌%◌, ◌≤◌, ◌<◌, List, true, eqb, Some, length, set, refl, sym, arith, inl, inr}
use Rattle.std.specs.Prelude.{slice_get, slice_index}
use Rattle.std.specs.Int.{bit_not, w64}
use Rattle.std.specs.Int.Bits.{bit_and, bit_or}
use Rattle.std.specs.List.{count_by}
use Rattle.std.proofs.lemmas.Bool.{cases_eq, eq-eqb, ne_eqb}
use Rattle.std.proofs.lemmas.Nat.Bits.{bit_at-lt}
use Rattle.core_machine.proofs.Names.{lock_bit, Caller, holds}
use Rattle.bit_locks.proofs.BitLemmas.{taken_bit, released_bit, mask_free}
use Rattle.core_machine.proofs.ListLemmas.{one, count_set, some_pass, pass_once}
use Rattle.core_machine.specs.InnerInvariant.{LocksAreHeld}

-- one caller steps, and the words change with what it holds
pub locks_keep : (words after : List ℕ) (callers : List Caller) (c : ℕ) (a x : Caller) → slice_get callers c ≡ Some a → LocksAreHeld words callers
    → ((n : ℕ) → n < 128 → lock_bit after n + one (holds n a) ≡ lock_bit words n + one (holds n x)) → LocksAreHeld after (set callers c x)
locks_keep words after callers c a x at held change n below =
    omega (arith, held n below, change n below, count_set (holds n) callers c a x at)

-- a holder's bit is set
pub holder_bit : (words : List ℕ) (callers : List Caller) (c n : ℕ) (a : Caller) → slice_get callers c ≡ Some a → LocksAreHeld words callers → n < 128 → holds n a ≡ true → lock_bit words n ≡ 1
holder_bit words callers c n a at held below has =
    let some : 1 ≤ count_by (holds n) callers = some_pass (holds n) callers c a at has in
    omega (arith, held n below, some, bit_at-lt (slice_index words (n / 64)) (n % 64))

-- no other caller holds it
pub one_holder : (words : List ℕ) (callers : List Caller) (c d n : ℕ) (a y : Caller) → LocksAreHeld words callers → n < 128 → slice_get callers c ≡ Some a → slice_get callers d ≡ Some y → holds n a ≡ true → holds n y ≡ true → d ≡ c
one_holder words callers c d n a y held below at there first second =
    pass_once (holds n) callers c d a y (omega (arith, held n below, bit_at-lt (slice_index words (n / 64)) (n % 64))) at there first second

-- ---- the bits of the acts

is_one : (b : ℕ) → b < 2 → b ≢ 0 → b ≡ 1
is_one b low some = omega (arith, low, some)

pub take_free : (words : List ℕ) (n m : ℕ) → n / 64 < length words → bit_and (slice_index words (n / 64)) (2 ^ (n % 64)) ≡ 0
    → lock_bit (set words (n / 64) (bit_or (slice_index words (n / 64)) (2 ^ (n % 64)))) m + 0 ≡ lock_bit words m + one (eqb n m)
take_free words n m within free =
    let clear : lock_bit words n ≡ 0 = (mask_free (slice_index words (n / 64)) (n % 64)).0 free in
    elim (cases_eq m n) [
      | inl same ↦ rw (taken_bit words n m within, eq-eqb m n same, eq-eqb n m (sym same), same, clear) refl
      | inr apart ↦ rw (taken_bit words n m within, ne_eqb m n apart, ne_eqb n m (λ e. apart (sym e))) refl
    ]

pub take_held : (words : List ℕ) (n m : ℕ) → n / 64 < length words → bit_and (slice_index words (n / 64)) (2 ^ (n % 64)) ≢ 0
    → lock_bit (set words (n / 64) (bit_or (slice_index words (n / 64)) (2 ^ (n % 64)))) m ≡ lock_bit words m
take_held words n m within held =
    let set_bit : lock_bit words n ≡ 1 = is_one (lock_bit words n) (bit_at-lt _ _) (λ clear. held ((mask_free (slice_index words (n / 64)) (n % 64)).1 clear)) in
    elim (cases_eq m n) [
      | inl same ↦ rw (taken_bit words n m within, eq-eqb m n same, same, set_bit) refl
      | inr apart ↦ rw (taken_bit words n m within, ne_eqb m n apart) refl
    ]

pub release_held : (words : List ℕ) (n m : ℕ) → n / 64 < length words → lock_bit words n ≡ 1
    → lock_bit (set words (n / 64) (bit_and (slice_index words (n / 64)) (bit_not w64 (2 ^ (n % 64))))) m + one (eqb n m) ≡ lock_bit words m + 0
release_held words n m within set_bit =
    elim (cases_eq m n) [
      | inl same ↦ rw (released_bit words n m within, eq-eqb m n same, eq-eqb n m (sym same), same, set_bit) refl
      | inr apart ↦ rw (released_bit words n m within, ne_eqb m n apart, ne_eqb n m (λ e. apart (sym e))) refl
    ]
