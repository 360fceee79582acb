-- The canonical words of whole blocks.
use Rattle.std.proofs.Common.{◌≡◌, ℕ, zero, suc, ◌+◌, ◌*◌, ◌/◌, ◌-◌, ◌^◌, ◌≤◌, ◌<◌, Bool, true, false, ◌&&◌, List, ◌++◌, replicate, None, Result, Ok, Err, refl, sym, ap, subst, ◌∙◌, append_assoc, add-one, arith}
use Rattle.std.specs.Prelude.{OnOk}
use Rattle.std.proofs.lemmas.Nat.{mul-le}
use Rattle.std.proofs.lemmas.Bool.{and_from}
use Rattle.gpi_values.specs.declared.gpi.Gpi.{Gpi}
use Rattle.gpi_values.specs.Values.{value_of}
use Rattle.gpi_values.proofs.Numbers.{map_range-append, map_range_same, map_range_alike}
use Rattle.gpt_descriptors.specs.declared.size.Size.TheVariants as size
use Rattle.gpt_descriptors.specs.declared.entry.L1Entry.TheVariants as l1
use Rattle.gpt_descriptors.specs.declared.size.Size.{Size}
use Rattle.gpt_descriptors.specs.Sizes.{SetupData, words_of, table_words, space_words, space_granules, is_permitted}
use Rattle.gpt_descriptors.specs.Entries.{l1_word, packed}
use Rattle.gpt_descriptors.specs.Canonical.{one_gpi, is_one_block, canonical_word}
use Rattle.gpt_descriptors.proofs.SizeLemmas.{thirty_two_is, five_twelve_is, table_is}
use Rattle.gpt_descriptors.proofs.PackedLemmas.{packed-zero, packed-suc, four_more}
use Rattle.gpt_descriptors.proofs.CanonicalLemmas.{five_twelve_word, thirty_two_word, two_word, granules_word, words_some, one_gpi_from, one_gpi_not}
use Rattle.region_plan.specs.declared.region.Region.{Region}
use Rattle.region_plan.specs.Regions.{region_map}
use Rattle.gpi_values.proofs.ValueLemmas.{value_one}
use Rattle.table_build.specs.declared.cursor.Cursor.{Cursor}
use Rattle.table_build.specs.Built.{canonical_words, granules_words, table_of}
use Rattle.table_build.specs.InnerReading.{IsRunFrom, IsAt}
use Rattle.table_build.proofs.ReadingLemmas.{reads_later}

-- ---- a granules word, from its highest field down

pub packed_step : (m : ℕ → Gpi) (first step : ℕ) → step < 16
    → 16 * packed m (first + (16 - step)) step + value_of (m (first + (15 - step))) ≡ packed m (first + (16 - (step + 1))) (step + 1)
packed_step m first step lt =
    let here : first + (16 - (step + 1)) ≡ first + (15 - step) = omega arith in
    let next : first + (15 - step) + 1 ≡ first + (16 - step) = omega arith in
    let one : step + 1 ≡ suc step = add-one step in
    sym (rw (here, one) (packed-suc m (first + (15 - step)) step ∙ rw next (omega arith)))

-- ---- a block that is one entry

pub five_twelve_block : (s : SetupData) (regions : List Region) (b : ℕ) → is_one_block s (region_map s regions) size.FiveTwelve b ≡ true
    → canonical_words s regions (b * words_of s size.FiveTwelve) (words_of s size.FiveTwelve)
    ≡ replicate (words_of s size.FiveTwelve) (l1_word (l1.Contig size.FiveTwelve (region_map s regions (16 * (b * words_of s size.FiveTwelve)))))
five_twelve_block s regions b one =
    map_range_same (canonical_word s (region_map s regions) None) (b * words_of s size.FiveTwelve) (words_of s size.FiveTwelve) _
    (λ j lt. five_twelve_word s (region_map s regions) b j one lt)

pub thirty_two_block : (s : SetupData) (regions : List Region) (b : ℕ) → is_one_block s (region_map s regions) size.FiveTwelve (b / 16) ≡ false
    → is_one_block s (region_map s regions) size.ThirtyTwo b ≡ true
    → canonical_words s regions (b * words_of s size.ThirtyTwo) (words_of s size.ThirtyTwo)
    ≡ replicate (words_of s size.ThirtyTwo) (l1_word (l1.Contig size.ThirtyTwo (region_map s regions (16 * (b * words_of s size.ThirtyTwo)))))
thirty_two_block s regions b larger one =
    map_range_same (canonical_word s (region_map s regions) None) (b * words_of s size.ThirtyTwo) (words_of s size.ThirtyTwo) _
    (λ j lt. thirty_two_word s (region_map s regions) b j larger one lt)

pub two_block : (s : SetupData) (regions : List Region) (b : ℕ) → is_one_block s (region_map s regions) size.FiveTwelve (b / 16 / 16) ≡ false
    → is_one_block s (region_map s regions) size.ThirtyTwo (b / 16) ≡ false → is_one_block s (region_map s regions) size.Two b ≡ true
    → canonical_words s regions (b * words_of s size.Two) (words_of s size.Two)
    ≡ replicate (words_of s size.Two) (l1_word (l1.Contig size.Two (region_map s regions (16 * (b * words_of s size.Two)))))
two_block s regions b largest larger one =
    map_range_same (canonical_word s (region_map s regions) None) (b * words_of s size.Two) (words_of s size.Two) _
    (λ j lt. two_word s (region_map s regions) b j largest larger one lt)

-- ---- a block of granules words

pub granules_block : (s : SetupData) (regions : List Region) (b : ℕ) → is_one_block s (region_map s regions) size.FiveTwelve (b / 16 / 16) ≡ false
    → is_one_block s (region_map s regions) size.ThirtyTwo (b / 16) ≡ false → is_one_block s (region_map s regions) size.Two b ≡ false
    → canonical_words s regions (b * words_of s size.Two) (words_of s size.Two) ≡ granules_words s regions (b * words_of s size.Two) (words_of s size.Two)
granules_block s regions b largest larger none =
    map_range_alike (canonical_word s (region_map s regions) None) (λ w. packed (region_map s regions) (16 * w) 16) (b * words_of s size.Two) (words_of s size.Two)
    (λ j lt. granules_word s (region_map s regions) b j largest larger none lt)

-- ---- one smaller block more

-- sixteen blocks of n words from block 16 b on
pub blocks_more : (s : SetupData) (regions : List Region) (b k n : ℕ)
    → canonical_words s regions (16 * b * n) (k * n) ++ canonical_words s regions ((16 * b + k) * n) n ≡ canonical_words s regions (16 * b * n) ((k + 1) * n)
blocks_more s regions b k n =
    let start : (16 * b + k) * n ≡ 16 * b * n + k * n = omega arith in
    let count : (k + 1) * n ≡ k * n + n = omega arith in
    rw (start, count) (sym (map_range-append (canonical_word s (region_map s regions) None) (16 * b * n) (k * n) n))

sixteen : (b n : ℕ) → 16 * b * n ≡ b * (16 * n)
sixteen b n = omega arith

-- sixteen of them are the larger block
pub thirty_two_words : (s : SetupData) (regions : List Region) (b : ℕ)
    → canonical_words s regions (16 * b * words_of s size.Two) (16 * words_of s size.Two) ≡ canonical_words s regions (b * words_of s size.ThirtyTwo) (words_of s size.ThirtyTwo)
thirty_two_words s regions b =
    let start = sixteen b (words_of s size.Two) ∙ ap (λ (n : ℕ). b * n) (sym (thirty_two_is s)) in
    rw (start, sym (thirty_two_is s)) refl

pub five_twelve_words : (s : SetupData) (regions : List Region) (b : ℕ)
    → canonical_words s regions (16 * b * words_of s size.ThirtyTwo) (16 * words_of s size.ThirtyTwo) ≡ canonical_words s regions (b * words_of s size.FiveTwelve) (words_of s size.FiveTwelve)
five_twelve_words s regions b =
    let start = sixteen b (words_of s size.ThirtyTwo) ∙ ap (λ (n : ℕ). b * n) (sym (five_twelve_is s)) in
    rw (start, sym (five_twelve_is s)) refl

twice : (q n : ℕ) → q * (n + n) ≡ 2 * q * n
twice q n = omega arith

-- two blocks of 512 MB are a table
pub table_words_of : (s : SetupData) (regions : List Region) (q : ℕ)
    → canonical_words s regions (2 * q * words_of s size.FiveTwelve) (words_of s size.FiveTwelve) ++ canonical_words s regions ((2 * q + 1) * words_of s size.FiveTwelve) (words_of s size.FiveTwelve)
    ≡ table_of s regions q
table_words_of s regions q =
    let n = words_of s size.FiveTwelve in
    let table : table_words s ≡ n + n = omega (arith, table_is s) in
    let start : q * table_words s ≡ 2 * q * n = ap (λ (k : ℕ). q * k) table ∙ twice q n in
    let later : (2 * q + 1) * n ≡ 2 * q * n + n = omega arith in
    rw (start, table, later) (sym (map_range-append (canonical_word s (region_map s regions) None) (2 * q * n) n n))

-- ---- one push after another

pub then_pushed : (old mid new a b c : List ℕ) → a ++ b ≡ c → mid ≡ old ++ a → new ≡ mid ++ b → new ≡ old ++ c
then_pushed old mid new a b c joined first second =
    second ∙ ap (λ (xs : List ℕ). xs ++ b) first ∙ append_assoc old a b ∙ ap (λ (xs : List ℕ). old ++ xs) joined

pub on_ok : {T E : Type 0} (r : Result T E) (P Q : Type 0) → (P → Q) → OnOk r P → OnOk r Q
on_ok (Ok x) P Q f h = f h
on_ok (Err e) P Q f h = h

pub ok_known : {T E : Type 0} (r : Result T E) (P : Type 0) → P → OnOk r P
ok_known (Ok x) P p = p
ok_known (Err e) P p = tt

-- ---- where the cursor is

pub at_later : (s : SetupData) (regions : List Region) (w v : ℕ) (cursor : Cursor) → w ≤ v → IsAt s regions w cursor → IsAt s regions v cursor
at_later s regions w v cursor le at = record {
  size = at.size;
  reads = reads_later (region_map s regions) (16 * w) (16 * v) (space_granules s) cursor.rest.now (omega arith) at.reads;
}

-- the first of sixteen blocks of n words, the next one, and the end of the last
pub at_first : (s : SetupData) (regions : List Region) (b n m : ℕ) (cursor : Cursor) → m ≡ 16 * n → IsAt s regions (b * m) cursor → IsAt s regions ((16 * b + 0) * n) cursor
at_first s regions b n m cursor is at =
    let same : b * m ≡ (16 * b + 0) * n = ap (λ (k : ℕ). b * k) is ∙ (let e : b * (16 * n) ≡ (16 * b + 0) * n = omega arith in e) in
    subst (λ (w : ℕ). IsAt s regions w cursor) same at

pub at_next : (s : SetupData) (regions : List Region) (b k n : ℕ) (cursor : Cursor) → IsAt s regions ((16 * b + k + 1) * n) cursor → IsAt s regions ((16 * b + (k + 1)) * n) cursor
at_next s regions b k n cursor at =
    let same : (16 * b + k + 1) * n ≡ (16 * b + (k + 1)) * n = ap (λ (j : ℕ). j * n) (let e : 16 * b + k + 1 ≡ 16 * b + (k + 1) = omega arith in e) in
    subst (λ (w : ℕ). IsAt s regions w cursor) same at

pub at_end : (s : SetupData) (regions : List Region) (b k n m : ℕ) (cursor : Cursor) → m ≡ 16 * n → k ≡ 16 → IsAt s regions ((16 * b + k) * n) cursor → IsAt s regions ((b + 1) * m) cursor
at_end s regions b k n m cursor is all at =
    let same : (16 * b + 16) * n ≡ (b + 1) * m = (let e : (16 * b + 16) * n ≡ (b + 1) * (16 * n) = omega arith in e) ∙ ap (λ (j : ℕ). (b + 1) * j) (sym is) in
    subst (λ (w : ℕ). IsAt s regions w cursor) same (rw all at at)

-- each of the sixteen is inside where they all are
pub inner_inside : (b k n m total : ℕ) → k < 16 → m ≡ 16 * n → (b + 1) * m ≤ total → (16 * b + k + 1) * n ≤ total
inner_inside b k n m total lt is inside =
    let whole : (16 * b + 16) * n ≡ (b + 1) * m = (let e : (16 * b + 16) * n ≡ (b + 1) * (16 * n) = omega arith in e) ∙ ap (λ (j : ℕ). (b + 1) * j) (sym is) in
    let one : (16 * b + k + 1) * n ≤ (16 * b + 16) * n = mul-le (16 * b + k + 1) n (16 * b + 16) n (omega arith) (omega arith) in
    omega arith

-- the two blocks of a table
pub at_half : (s : SetupData) (regions : List Region) (q n t : ℕ) (cursor : Cursor) → t ≡ 2 * n → IsAt s regions (q * t) cursor → IsAt s regions (2 * q * n) cursor
at_half s regions q n t cursor is at =
    let same : q * t ≡ 2 * q * n = ap (λ (k : ℕ). q * k) is ∙ (let e : q * (2 * n) ≡ 2 * q * n = omega arith in e) in
    subst (λ (w : ℕ). IsAt s regions w cursor) same at

pub at_whole : (s : SetupData) (regions : List Region) (q n t : ℕ) (cursor : Cursor) → t ≡ 2 * n → IsAt s regions ((2 * q + 1 + 1) * n) cursor → IsAt s regions ((q + 1) * t) cursor
at_whole s regions q n t cursor is at =
    let same : (2 * q + 1 + 1) * n ≡ (q + 1) * t = (let e : (2 * q + 1 + 1) * n ≡ (q + 1) * (2 * n) = omega arith in e) ∙ ap (λ (k : ℕ). (q + 1) * k) (sym is) in
    subst (λ (w : ℕ). IsAt s regions w cursor) same at

pub half_inside : (q n t gigabytes : ℕ) → t ≡ 2 * n → q < gigabytes → ((2 * q + 1) * n ≤ gigabytes * t) × ((2 * q + 1 + 1) * n ≤ gigabytes * t)
half_inside q n t gigabytes is lt =
    let most : (q + 1) * t ≤ gigabytes * t = mul-le (q + 1) t gigabytes t (omega arith) (omega arith) in
    let whole : (q + 1) * t ≡ (2 * q + 1 + 1) * n = ap (λ (k : ℕ). (q + 1) * k) is ∙ (let e : (q + 1) * (2 * n) ≡ (2 * q + 1 + 1) * n = omega arith in e) in
    let less : (2 * q + 1) * n ≤ (2 * q + 1 + 1) * n = mul-le (2 * q + 1) n (2 * q + 1 + 1) n (omega arith) (omega arith) in
    (omega arith, omega arith)

-- ---- a run that covers a block, or ends in it

pub block_covered : (s : SetupData) (m : ℕ → Gpi) (z : Size) (b end : ℕ) (one : Gpi) → is_permitted s.max z ≡ true
    → IsRunFrom m (16 * (b * words_of s z)) (space_granules s) one end → 16 * (b * words_of s z) + 16 * words_of s z ≤ end → is_one_block s m z b ≡ true
unfolding is_one_block
block_covered s m z b end one permitted run le =
    let first : ℕ = 16 * (b * words_of s z) in
    let n : ℕ = 16 * words_of s z in
    let some : 0 < n = omega (arith, words_some s z) in
    let own : m first ≡ one = run.same first (omega arith) (omega arith) in
    and_from (is_permitted s.max z) (one_gpi m first n) permitted
    (one_gpi_from m first n (λ k low high. ap value_of (run.same k low (omega arith) ∙ sym own)))

and_false : (a b : Bool) → b ≡ false → (a && b) ≡ false
and_false true b e = e
and_false false b e = refl

pub block_broken : (s : SetupData) (m : ℕ → Gpi) (z : Size) (b end : ℕ) (one : Gpi) → (b + 1) * words_of s z ≤ space_words s
    → IsRunFrom m (16 * (b * words_of s z)) (space_granules s) one end → end < 16 * (b * words_of s z) + 16 * words_of s z → is_one_block s m z b ≡ false
unfolding is_one_block
block_broken s m z b end one inside run lt =
    let first : ℕ = 16 * (b * words_of s z) in
    let n : ℕ = 16 * words_of s z in
    let whole : (b + 1) * words_of s z ≡ b * words_of s z + words_of s z = omega arith in
    let last : end < space_granules s = omega arith in
    let own : m first ≡ one = run.same first (omega arith) run.after in
    and_false (is_permitted s.max z) (one_gpi m first n)
    (one_gpi_not m first n end (omega (arith, run.after)) lt (λ same. run.other last (value_one (m end) one (same ∙ ap value_of own))))

pub block_refused : (s : SetupData) (m : ℕ → Gpi) (z : Size) (b : ℕ) → is_permitted s.max z ≡ false → is_one_block s m z b ≡ false
unfolding is_one_block
block_refused s m z b refused = rw refused refl

-- ---- granules words of one GPI

sixteenfold : (v p : ℕ) → v * (16 * p) ≡ 16 * (v * p)
sixteenfold v p = omega arith

pub packed_uniform : (m : ℕ → Gpi) (first n v : ℕ) → ((k : ℕ) → first ≤ k → k < first + n → value_of (m k) ≡ v) → 15 * packed m first n + v ≡ v * 2 ^ (4 * n)
packed_uniform m first zero v each = rw (packed-zero m first) (omega arith)
packed_uniform m first (suc n) v each =
    let rest = packed_uniform m (first + 1) n v (λ k low high. each k (omega arith) (omega arith)) in
    let own : value_of (m first) ≡ v = each first (omega arith) (omega arith) in
    let power : v * 2 ^ (4 * suc n) ≡ 16 * (v * 2 ^ (4 * n)) = ap (λ (p : ℕ). v * p) (four_more n) ∙ (sixteenfold v (2 ^ (4 * n))) in
    rw (packed-suc m first n, own) (omega arith)

pub uniform_packed : (m : ℕ → Gpi) (first : ℕ) (one : Gpi) → ((k : ℕ) → first ≤ k → k < first + 16 → m k ≡ one) → packed m first 16 ≡ value_of one * 1229782938247303441
uniform_packed m first one each =
    let all : 15 * packed m first 16 + value_of one ≡ value_of one * 18446744073709551616 = packed_uniform m first 16 (value_of one) (λ k low high. ap value_of (each k low high)) in
    omega arith

-- words that one run covers
pub uniform_words : (s : SetupData) (regions : List Region) (w n end : ℕ) (one : Gpi) → IsRunFrom (region_map s regions) (16 * w) (space_granules s) one end → 16 * (w + n) ≤ end
    → granules_words s regions w n ≡ replicate n (value_of one * 1229782938247303441)
uniform_words s regions w n end one run le =
    map_range_same (λ v. packed (region_map s regions) (16 * v) 16) w n (value_of one * 1229782938247303441)
    (λ j lt. uniform_packed (region_map s regions) (16 * (w + j)) one (λ k low high. run.same k (omega arith) (omega arith)))

-- some words, and more
pub words_joined : (s : SetupData) (regions : List Region) (first w v : ℕ) → first ≤ w → w ≤ v
    → granules_words s regions first (w - first) ++ granules_words s regions w (v - w) ≡ granules_words s regions first (v - first)
words_joined s regions first w v low high =
    let start : w ≡ first + (w - first) = omega arith in
    let count : v - first ≡ (w - first) + (v - w) = omega arith in
    rw count (
    ap (λ (a : ℕ). granules_words s regions first (w - first) ++ granules_words s regions a (v - w)) start
    ∙ sym (map_range-append (λ a. packed (region_map s regions) (16 * a) 16) first (w - first) (v - w)))
