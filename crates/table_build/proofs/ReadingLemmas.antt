-- Going over runs once.
use Rattle.std.proofs.Common.{◌≡◌, ℕ, ◌+◌, ◌*◌, ◌≤◌, ◌<◌, List, [], ◌∷◌, length, map, get_or, drop, Some, refl, sym, ap, ◌∙◌, inl, inr, arith}
use Rattle.std.specs.Prelude.{◌⊎◌}
use Rattle.std.specs.List.{range_with_len}
use Rattle.std.proofs.lemmas.Bool.{le-leb}
use Rattle.std.proofs.lemmas.List.{drop_more, drop_all}
use Rattle.std.proofs.lemmas.List.FromFn.{get_or-map-range_with_len}
use Rattle.gpi_values.specs.declared.gpi.Gpi.{Gpi}
use Rattle.gpi_values.specs.declared.gpi.Gpi.TheVariants as gpi
use Rattle.gpt_descriptors.specs.Sizes.{SetupData, IsSetup, table_words, space_words, space_granules}
use Rattle.gpt_descriptors.proofs.SizeLemmas.{table_words_low}
use Rattle.region_plan.specs.declared.region.Region.{Region}
use Rattle.region_plan.specs.declared.run_map.Run.{Run}
use Rattle.region_plan.specs.Regions.{region_map}
use Rattle.region_plan.specs.Runs.{gpi_after, runs_map, BeginAtZero, AreMaximalRuns}
use Rattle.region_plan.specs.InnerRuns.{begin_of}
use Rattle.region_plan.proofs.RunLemmas.{gpi_later}
use Rattle.region_plan.proofs.LayingLemmas.{mapped_length}
use Rattle.table_build.specs.declared.cursor.Cursor.{Cursor}
use Rattle.table_build.specs.InnerReading.{HasBegun, NextIsAfter, Reads, IsRunFrom, IsAt}

-- the next run goes on with the map
pub reads_next : (m : ℕ → Gpi) (g size : ℕ) (x y : Run) (ys : List Run) → y.first ≤ g → Reads m g size (x ∷ y ∷ ys) → Reads m g size (y ∷ ys)
reads_next m g size x y ys begun reads = record {
  begun = begun;
  apart = (omega arith, reads.apart.3.1, (λ e. absurd cc), reads.apart.3.3);
  gpis = λ k low high.
      let here : y.first ≤ k = omega arith in
      let before : x.first ≤ k = omega (arith, reads.begun) in
      let given = reads.gpis k low high in
      rw (le-leb y.first k here) (rw (le-leb x.first k before, le-leb y.first k here) at given);
}

pub reads_drop : (m : ℕ → Gpi) (g size at : ℕ) (xs : List Run) (e : Run) → at + 1 < length xs → (get_or xs (at + 1) e).first ≤ g → Reads m g size (drop at xs) → Reads m g size (drop (at + 1) xs)
reads_drop m g size at xs e lt begun reads =
    rw (drop_more xs (at + 1) e lt) (
    reads_next m g size (get_or xs at e) (get_or xs (at + 1) e) (drop (at + 1 + 1) xs) begun
    (rw (drop_more xs at e (let low : at < length xs = omega arith in low), drop_more xs (at + 1) e lt) at reads))

pub begun_drop : (g at : ℕ) (xs : List Run) (e : Run) → at < length xs → (get_or xs at e).first ≤ g → HasBegun g (drop at xs)
begun_drop g at xs e lt begun = rw (drop_more xs at e lt) begun

pub next_after : (g at : ℕ) (xs : List Run) (e : Run) → at + 1 < length xs → g < (get_or xs (at + 1) e).first → NextIsAfter g (drop at xs)
next_after g at xs e lt later = rw (drop_more xs at e (let low : at < length xs = omega arith in low), drop_more xs (at + 1) e lt) later

pub no_next : (g at : ℕ) (xs : List Run) (e : Run) → at < length xs → length xs ≤ at + 1 → NextIsAfter g (drop at xs)
no_next g at xs e lt le = rw (drop_more xs at e lt, drop_all (at + 1) xs le) tt

-- the run in hand, where the next one begins after the granule
pub run_from : (m : ℕ → Gpi) (g size : ℕ) (x : Run) (ys : List Run) → g < size → NextIsAfter g (x ∷ ys) → Reads m g size (x ∷ ys) → IsRunFrom m g size x.gpi (begin_of size ys)
run_from m g size x [] inside later reads = record {
  after = inside;
  within = omega arith;
  same = λ k low high. let begun : x.first ≤ k = omega (arith, reads.begun) in sym (reads.gpis k low high) ∙ rw (le-leb x.first k begun) refl;
  other = λ lt. absurd (omega arith);
}
run_from m g size x (y ∷ ys) inside later reads = record {
  after = later;
  within = omega (arith, reads.apart.3.1);
  same = λ k low high.
      let begun : x.first ≤ k = omega (arith, reads.begun) in
      let in' : k < size = omega (arith, reads.apart.3.1) in
      sym (reads.gpis k low in')
      ∙ rw (le-leb x.first k begun) (gpi_later x.gpi (y ∷ ys) y.first size k (Some x.gpi) (omega arith, reads.apart.3.1, reads.apart.3.2, reads.apart.3.3) high);
  other = λ lt same.
      let begun : x.first ≤ y.first = omega (arith, reads.apart.3.0) in
      let own : m y.first ≡ y.gpi =
      sym (reads.gpis y.first (omega arith) lt)
      ∙ rw (le-leb x.first y.first begun, le-leb y.first y.first (let self : y.first ≤ y.first = omega arith in self)) (gpi_later y.gpi ys (y.first + 1) size y.first (Some y.gpi) reads.apart.3.3 (omega arith)) in
      reads.apart.3.2 (ap Some (sym same ∙ own));
}

begun_later : (g h : ℕ) (runs : List Run) → g ≤ h → HasBegun g runs → HasBegun h runs
begun_later g h [] le begun = begun
begun_later g h (x ∷ xs) le begun = omega (arith, begun)

-- a later granule
pub reads_later : (m : ℕ → Gpi) (g h size : ℕ) (runs : List Run) → g ≤ h → Reads m g size runs → Reads m h size runs
reads_later m g h size runs le reads = record { begun = begun_later g h runs le reads.begun; apart = reads.apart; gpis = λ k low high. reads.gpis k (omega arith) high }

first_begun : (size : ℕ) (runs : List Run) → 0 < size → BeginAtZero size runs → HasBegun 0 runs
first_begun size [] some begins = absurd (omega (arith, begins))
first_begun size (x ∷ xs) some begins = omega (arith, begins)

-- all runs of a map, from its first granule on
pub reads_all : (m : ℕ → Gpi) (size : ℕ) (gpis : List Gpi) (runs : List Run) → gpis ≡ map m (range_with_len 0 size) → 0 < size → AreMaximalRuns gpis runs → Reads m 0 size runs
reads_all m size gpis runs is some maximal =
    let count : length gpis ≡ size = mapped_length m size gpis is in
    record {
      begun = first_begun (length gpis) runs (omega arith) maximal.longest.begins;
      apart = rw (← count) maximal.longest.apart;
      gpis = λ k low high.
          let same : runs_map size runs ≡ map m (range_with_len 0 size) = rw count at (sym maximal.covers) ∙ is in
          sym (get_or-map-range_with_len (gpi_after gpi.Any runs) 0 size k k gpi.Any high (omega arith))
          ∙ ap (λ (xs : List Gpi). get_or xs k gpi.Any) same ∙ get_or-map-range_with_len m 0 size k k gpi.Any high (omega arith);
    }

-- the same by places in the list
pub run_one : (m : ℕ → Gpi) (g size : ℕ) (runs : List Run) (e : Run) → 1 ≤ length runs → length runs < 2 → g < size → NextIsAfter g runs → Reads m g size runs
    → IsRunFrom m g size (get_or runs 0 e).gpi size
run_one m g size [] e some one inside later reads = absurd (omega arith)
run_one m g size (x ∷ []) e some one inside later reads = run_from m g size x [] inside later reads
run_one m g size (x ∷ y ∷ ys) e some one inside later reads = absurd (omega arith)

pub run_two : (m : ℕ → Gpi) (g size : ℕ) (runs : List Run) (e : Run) → 2 ≤ length runs → g < size → NextIsAfter g runs → Reads m g size runs
    → IsRunFrom m g size (get_or runs 0 e).gpi (get_or runs 1 e).first
run_two m g size [] e two inside later reads = absurd (omega arith)
run_two m g size (x ∷ []) e two inside later reads = absurd (omega arith)
run_two m g size (x ∷ y ∷ ys) e two inside later reads = run_from m g size x (y ∷ ys) inside later reads

some_words : (a t : ℕ) → (a ≡ 4) ⊎ (a ≡ 64) → 0 < t → 0 < 16 * (a * t)
some_words a t either some =
    elim either [
      | inl four ↦ rw four (omega arith)
      | inr many ↦ rw many (omega arith)
    ]

space_some : (s : SetupData) → IsSetup s → 0 < space_granules s
space_some s setup = some_words s.gigabytes (table_words s) setup.gigabytes (table_words_low s)

-- the cursor begins before the first word
pub at_start : (s : SetupData) (regions : List Region) (gpis : List Gpi) (cursor : Cursor) → IsSetup s → gpis ≡ map (region_map s regions) (range_with_len 0 (space_granules s))
    → AreMaximalRuns gpis cursor.rest.now → cursor.size ≡ length gpis → (w : ℕ) → w ≡ 0 → IsAt s regions w cursor
at_start s regions gpis cursor setup is maximal size w zero' =
    let count : length gpis ≡ space_granules s = mapped_length (region_map s regions) (space_granules s) gpis is in
    let first : 16 * w ≡ 0 = omega arith in
    record {
      size = size ∙ count;
      reads = rw first (reads_all (region_map s regions) (space_granules s) gpis cursor.rest.now is (space_some s setup) maximal);
    }

-- the run of a word's first granule
pub run_read : (s : SetupData) (regions : List Region) (w g : ℕ) (old new : Cursor) (one : Gpi) (stop : ℕ) → g ≡ 16 * w → w < space_words s → IsAt s regions w old → new.size ≡ old.size
    → ((m : ℕ → Gpi) → Reads m g old.size old.rest.now → Reads m g old.size new.rest.now)
    → ((m : ℕ → Gpi) → Reads m g old.size old.rest.now → g < old.size → IsRunFrom m g old.size one stop)
    → IsAt s regions w new × IsRunFrom (region_map s regions) (16 * w) (space_granules s) one stop
run_read s regions w g old new one stop is inside at same kept run =
    let m = region_map s regions in
    let reads : Reads m g old.size old.rest.now = rw (is, at.size) at.reads in (
      record { size = same ∙ at.size; reads = rw (is, at.size) at (kept m reads) },
      rw (is, at.size) at (run m reads (rw (is, at.size) (omega arith))),
    )
