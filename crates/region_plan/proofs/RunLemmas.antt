-- Runs: the GPI of a granule, runs in a row, and one more run.
use Rattle.std.proofs.Common.{◌≡◌, ◌≢◌, ℕ, zero, suc, ◌+◌, ◌-◌, ◌≤◌, ◌<◌, Bool, true, false, cond, leb, ltb, List, [], ◌∷◌, ◌++◌, length, map, get_or, take, drop, set, replicate, Option, IsTrue, Some, None, slice_get, refl, sym, ap, ◌∙◌, add-one, inl, inr, arith}
use Rattle.std.specs.List.{range_with_len, insert, remove}
use Rattle.std.specs.List.Sorted.{IsNonDecreasingBy, IsPartitionPoint}
use Rattle.std.proofs.lemmas.Bool.{cases_lt, cases_eq, le-leb, lt-leb, lt-ltb, le-ltb, leb-true, leb-false}
use Rattle.std.proofs.lemmas.List.{length-set, get_or-set_same, get_or-set_other, set-get_or, get_or-drop, length-drop, length-take-le, take-append-drop, take_more, drop_more, drop_at, drop_all}
use Rattle.std.proofs.lemmas.List.FromFn.{length-map-range_with_len, get_or-map-range_with_len, fill_by_all}
use Rattle.std.proofs.lemmas.Option.{slice_get-get_or, slice_get_within, get_or_from_slice_get, same_Some}
use Rattle.gpi_values.specs.declared.gpi.Gpi.{Gpi}
use Rattle.gpi_values.proofs.Numbers.{map_range_same}
use Rattle.gpi_values.specs.declared.gpi.Gpi.TheVariants as gpi
use Rattle.region_plan.specs.declared.run_map.Run.{Run}
use Rattle.region_plan.specs.Runs.{gpi_after, runs_map, BeginAtZero, AreApart, AreRuns, AreMaximalRuns}
use Rattle.region_plan.specs.InnerRuns.{IsRunAt, Covers, then_one, last_gpi, begin_of, BeginsWith, Follows, Leads, Reaches}

-- ---- the GPI of a granule

pub gpi_append : (d : Gpi) (xs ys : List Run) (g : ℕ) → gpi_after d (xs ++ ys) g ≡ gpi_after (gpi_after d xs g) ys g
gpi_append d [] ys g = refl
gpi_append d (x ∷ xs) ys g = gpi_append (cond (leb x.first g) x.gpi d) xs ys g

-- runs that begin later give a granule nothing
pub gpi_later : (d : Gpi) (xs : List Run) (n end g : ℕ) (o : Option Gpi) → AreApart n o end xs → g < n → gpi_after d xs g ≡ d
gpi_later d [] n end g o apart lt = refl
gpi_later d (x ∷ xs) n end g o apart lt =
    let above : g < x.first = omega (arith, apart.0) in
    rw (lt-leb x.first g above) (gpi_later d xs (x.first + 1) end g (Some x.gpi) apart.3 (omega arith))

pub one_gpi_of : (d : Gpi) (x : Run) (g : ℕ) → x.first ≤ g → gpi_after d (x ∷ []) g ≡ x.gpi
one_gpi_of d x g le = rw (le-leb x.first g le) refl

none_later : (d : Gpi) (xs : List Run) (g : ℕ) → ((k : ℕ) (c : Run) → k < length xs → g < (get_or xs k c).first) → gpi_after d xs g ≡ d
none_later d [] g each = refl
none_later d (x ∷ xs) g each =
    rw (lt-leb x.first g (each 0 x (omega arith))) (none_later d xs g (λ k c lt. each (suc k) c (omega arith)))

-- the run that has a granule gives its GPI
pub run_gpi : (d : Gpi) (xs : List Run) (g i : ℕ) (e : Run) → IsRunAt g xs i → gpi_after d xs g ≡ (get_or xs i e).gpi
run_gpi d [] g i e at = absurd (omega (arith, at.within))
run_gpi d (x ∷ xs) g zero e at =
    rw (le-leb x.first g (at.begun e)) (none_later x.gpi xs g (λ k c lt. at.later (suc k) c (omega arith) (omega arith)))
run_gpi d (x ∷ xs) g (suc i) e at =
    run_gpi (cond (leb x.first g) x.gpi d) xs g i e (record { within = omega (arith, at.within); begun = λ c. at.begun c; later = λ k c lt in'. at.later (suc k) c (omega arith) (omega arith) })

-- ---- runs in a row

pub lower : (n m end : ℕ) (o : Option Gpi) (xs : List Run) → m ≤ n → AreApart n o end xs → AreApart m o end xs
lower n m end o [] le apart = tt
lower n m end o (x ∷ xs) le apart = (omega (arith, apart.0), apart.1, apart.2, apart.3)

pub widen : (n end more : ℕ) (o : Option Gpi) (xs : List Run) → end ≤ more → AreApart n o end xs → AreApart n o more xs
widen n end more o [] le apart = tt
widen n end more o (x ∷ xs) le apart = (apart.0, omega (arith, apart.1), apart.2, widen (x.first + 1) end more (Some x.gpi) xs le apart.3)

pub joined : (n mid end : ℕ) (o : Option Gpi) (xs ys : List Run) → n ≤ mid → mid ≤ end → AreApart n o mid xs → AreApart mid (last_gpi o xs) end ys → AreApart n o end (xs ++ ys)
joined n mid end o [] ys low high first second = lower mid n end o ys low second
joined n mid end o (x ∷ xs) ys low high first second =
    (first.0, omega (arith, first.1), first.2, joined (x.first + 1) mid end (Some x.gpi) xs ys (omega (arith, first.1)) high first.3 second)

-- what is around a run
pub record Around (n end : ℕ) (o : Option Gpi) (xs : List Run) (x : Run) (ys : List Run) : Type 0 where
  pub low : n ≤ x.first
  pub high : x.first < end
  pub before : AreApart n o x.first xs
  pub other : last_gpi o xs ≢ Some x.gpi
  pub after : AreApart (x.first + 1) (Some x.gpi) end ys

pub around : (n end : ℕ) (o : Option Gpi) (xs : List Run) (x : Run) (ys : List Run) → AreApart n o end (xs ++ x ∷ ys) → Around n end o xs x ys
around n end o [] x ys apart = record { low = apart.0; high = apart.1; before = tt; other = apart.2; after = apart.3 }
around n end o (w ∷ ws) x ys apart =
    let rest = around (w.first + 1) end (Some w.gpi) ws x ys apart.3 in
    record {
      low = omega (arith, apart.0, rest.low);
      high = rest.high;
      before = (apart.0, omega (arith, rest.low), apart.2, rest.before);
      other = rest.other;
      after = rest.after;
    }

-- the last run gives every granule from it on its GPI
pub gpi_last : (n end g : ℕ) (o : Option Gpi) (d : Gpi) (xs : List Run) → AreApart n o end xs → end ≤ g + 1 → last_gpi (Some d) xs ≡ Some (gpi_after d xs g)
gpi_last n end g o d [] apart le = refl
gpi_last n end g o d (x ∷ xs) apart le =
    let begun : x.first ≤ g = omega (arith, apart.1) in
    rw (le-leb x.first g begun) (gpi_last (x.first + 1) end g (Some x.gpi) x.gpi xs apart.3 le)

-- runs whose last one has a GPI give it to every later granule
pub last_given : (n end g : ℕ) (o : Option Gpi) (d one : Gpi) (xs : List Run) → AreApart n o end xs → end ≤ g + 1 → last_gpi None xs ≡ Some one → gpi_after d xs g ≡ one
last_given n end g o d one [] apart le is = absurd cc
last_given n end g o d one (x ∷ xs) apart le is =
    let same : Some (gpi_after d (x ∷ xs) g) ≡ Some one = sym (gpi_last n end g o d (x ∷ xs) apart le) ∙ is in
    cc

-- ---- one more run

pub push_apart : (n end g : ℕ) (o : Option Gpi) (one : Gpi) (xs : List Run) → AreApart n o end xs → n ≤ end → end ≤ g → last_gpi o xs ≢ Some one
    → AreApart n o (g + 1) (xs ++ record { first = g; gpi = one } ∷ [])
push_apart n end g o one xs apart low le other =
    joined n end (g + 1) o xs (record { first = g; gpi = one } ∷ []) low (omega arith) apart (le, omega arith, other, tt)

pub push_gpis : (d one : Gpi) (xs : List Run) (n g : ℕ) → gpi_after d (xs ++ record { first = n; gpi = one } ∷ []) g ≡ cond (ltb g n) (gpi_after d xs g) one
push_gpis d one xs n g =
    gpi_append d xs (record { first = n; gpi = one } ∷ []) g
    ∙ elim (cases_lt g n) [
      | inl below ↦ rw (lt-ltb g n below, lt-leb n g below) refl
      | inr above ↦ rw (le-ltb g n above, le-leb n g above) refl
    ]

-- runs up to at, and no more granules
pub covers_same : (at end : ℕ) (f : ℕ → Gpi) (one : Gpi) (xs : List Run) → at ≡ end → Covers at f xs → Covers end (then_one at f one) xs
covers_same at end f one xs same covers = record {
  begins = rw (← same) covers.begins;
  apart = rw (← same) covers.apart;
  gpis = λ g lt. let below : g < at = omega arith in rw (lt-ltb g at below) (covers.gpis g below);
}

begin_any : (xs : List Run) (at end : ℕ) {one : Gpi} → last_gpi None xs ≡ Some one → BeginAtZero at xs → BeginAtZero end xs
begin_any [] at end is begins = absurd cc
begin_any (x ∷ xs) at end is begins = begins

-- the last run goes on
pub covers_more : (at end : ℕ) (f : ℕ → Gpi) (one : Gpi) (xs : List Run) → at ≤ end → last_gpi None xs ≡ Some one → Covers at f xs → Covers end (then_one at f one) xs
covers_more at end f one xs le last covers = record {
  begins = begin_any xs at end last covers.begins;
  apart = widen 0 at end None xs le covers.apart;
  gpis = λ g lt. elim (cases_lt g at) [
    | inl below ↦ rw (lt-ltb g at below) (covers.gpis g below)
    | inr above ↦ rw (le-ltb g at above) (last_given 0 at g None gpi.Any one xs covers.apart (omega arith) last)
  ];
}

begin_push : (xs : List Run) (at end : ℕ) (one : Gpi) → BeginAtZero at xs → BeginAtZero end (xs ++ record { first = at; gpi = one } ∷ [])
begin_push [] at end one begins = begins
begin_push (x ∷ xs) at end one begins = begins

-- a new run
pub covers_new : (at end : ℕ) (f : ℕ → Gpi) (one : Gpi) (xs : List Run) → at < end → last_gpi None xs ≢ Some one → Covers at f xs
    → Covers end (then_one at f one) (xs ++ record { first = at; gpi = one } ∷ [])
covers_new at end f one xs lt other covers = record {
  begins = begin_push xs at end one covers.begins;
  apart = widen 0 (at + 1) end None (xs ++ record { first = at; gpi = one } ∷ []) (omega arith) (push_apart 0 at at None one xs covers.apart (omega arith) (omega arith) other);
  gpis = λ g lt. push_gpis gpi.Any one xs at g ∙ elim (cases_lt g at) [
    | inl below ↦ rw (lt-ltb g at below) (covers.gpis g below)
    | inr above ↦ rw (le-ltb g at above) refl
  ];
}

-- the last run by its index
pub last_at : (xs : List Run) (o : Option Gpi) (e : Run) → 0 < length xs → last_gpi o xs ≡ Some (get_or xs (length xs - 1) e).gpi
last_at [] o e some = absurd (omega arith)
last_at (x ∷ []) o e some = refl
last_at (x ∷ y ∷ ys) o e some = last_at (y ∷ ys) (Some x.gpi) e (omega arith) ∙ ap (λ (n : ℕ). Some (get_or (x ∷ y ∷ ys) n e).gpi) (let n : suc (length (y ∷ ys) - 1) ≡ length (x ∷ y ∷ ys) - 1 = omega arith in n)

-- ---- the search for a run

firsts_low : (n end : ℕ) (o : Option Gpi) (xs : List Run) (k : ℕ) (e : Run) → AreApart n o end xs → k < length xs → n ≤ (get_or xs k e).first
firsts_low n end o [] k e apart lt = absurd (omega arith)
firsts_low n end o (x ∷ xs) zero e apart lt = apart.0
firsts_low n end o (x ∷ xs) (suc k) e apart lt = omega (arith, apart.0, firsts_low (x.first + 1) end (Some x.gpi) xs k e apart.3 (omega arith))

pub firsts_rise : (n end : ℕ) (o : Option Gpi) (xs : List Run) → AreApart n o end xs → IsNonDecreasingBy (λ (x : Run). x.first) xs
firsts_rise n end o [] apart i j e le lt = absurd (omega arith)
firsts_rise n end o (x ∷ xs) apart zero zero e le lt = omega arith
firsts_rise n end o (x ∷ xs) apart zero (suc j) e le lt = omega (arith, firsts_low (x.first + 1) end (Some x.gpi) xs j e apart.3 (omega arith))
firsts_rise n end o (x ∷ xs) apart (suc i) zero e le lt = absurd (omega arith)
firsts_rise n end o (x ∷ xs) apart (suc i) (suc j) e le lt = firsts_rise (x.first + 1) end (Some x.gpi) xs apart.3 i j e (omega arith) (omega arith)

-- a granule below the end has a run
pub some_run : (end g i : ℕ) (xs : List Run) → AreRuns end xs → g < end → IsPartitionPoint (λ (x : Run). leb x.first g ≡ true) (λ (x : Run). leb x.first g ≡ false) xs i → 0 < i
some_run end g zero [] runs lt point = absurd (omega (arith, runs.begins))
some_run end g zero (x ∷ xs) runs lt point = absurd (omega (arith, runs.begins, leb-false x.first g (point.1 0 x (omega arith) (omega arith))))
some_run end g (suc i) xs runs lt point = omega arith

-- what the search finds
pub run_found : (g i : ℕ) (xs : List Run) → i ≤ length xs → 0 < i → IsPartitionPoint (λ (x : Run). leb x.first g ≡ true) (λ (x : Run). leb x.first g ≡ false) xs i → IsRunAt g xs (i - 1)
run_found g i xs le some point = record {
  within = omega arith;
  begun = λ d. leb-true _ g (point.0 (i - 1) d (omega arith) (omega arith));
  later = λ k d above lt. leb-false _ g (point.1 k d (omega arith) lt);
}

-- ---- the map that runs give

pub runs_length : (end : ℕ) (xs : List Run) → length (runs_map end xs) ≡ end
runs_length end xs = length-map-range_with_len (gpi_after gpi.Any xs) 0 end

pub runs_get : (end g i : ℕ) (xs : List Run) (e : Run) → g < end → IsRunAt g xs i → slice_get (runs_map end xs) g ≡ Some (get_or xs i e).gpi
runs_get end g i xs e lt at =
    slice_get-get_or (runs_map end xs) g gpi.Any (omega (arith, runs_length end xs))
    ∙ ap Some (get_or-map-range_with_len (gpi_after gpi.Any xs) 0 end g g gpi.Any lt (omega arith) ∙ run_gpi gpi.Any xs g i e at)

pub maximal : (end : ℕ) (xs : List Run) → AreRuns end xs → AreMaximalRuns (runs_map end xs) xs
maximal end xs runs =
    let same = sym (runs_length end xs) in
    record { longest = rw (← same) runs; covers = rw (← same) refl }

-- runs that cover a function
pub covered_map : (end : ℕ) (f : ℕ → Gpi) (xs : List Run) → Covers end f xs → runs_map end xs ≡ map f (range_with_len 0 end)
covered_map end f xs covers =
    fill_by_all f (runs_map end xs) end gpi.Any (runs_length end xs)
    (λ g lt. get_or-map-range_with_len (gpi_after gpi.Any xs) 0 end g g gpi.Any lt (omega arith) ∙ covers.gpis g lt)

pub covered_runs : (end : ℕ) (f : ℕ → Gpi) (xs : List Run) → Covers end f xs → AreRuns end xs
covered_runs end f xs covers = record { begins = covers.begins; apart = covers.apart }

pub covers_none : (f : ℕ → Gpi) → Covers 0 f []
covers_none f = record { begins = refl; apart = tt; gpis = λ g lt. absurd (omega arith) }

-- ---- a granule that changes

-- a map with one granule set, by the function that gives it
pub set_map : (end g : ℕ) (one : Gpi) (f h : ℕ → Gpi) → g < end → h g ≡ one → ((k : ℕ) → k < end → k ≢ g → h k ≡ f k)
    → map h (range_with_len 0 end) ≡ set (map f (range_with_len 0 end)) g one
set_map end g one f h lt own others =
    sym (fill_by_all h (set (map f (range_with_len 0 end)) g one) end one (length-set (map f (range_with_len 0 end)) g one ∙ length-map-range_with_len f 0 end)
    (λ k within. elim (cases_eq k g) [
      | inl same ↦ rw same (get_or-set_same (map f (range_with_len 0 end)) g one one (omega (arith, length-map-range_with_len f 0 end)) ∙ sym own)
      | inr other ↦
          get_or-set_other (map f (range_with_len 0 end)) g k one one other
          ∙ get_or-map-range_with_len f 0 end k k one within (omega arith) ∙ sym (others k within other)
    ]))

begin_within : (granule end : ℕ) (own : Gpi) (xs : List Run) → granule + 1 < begin_of end xs → AreApart (granule + 1) (Some own) end xs → granule + 1 < end
begin_within granule end own [] room apart = room
begin_within granule end own (x ∷ xs) room apart = omega (arith, apart.1)

higher : (granule end : ℕ) (own : Gpi) (xs : List Run) → granule + 1 < begin_of end xs → AreApart (granule + 1) (Some own) end xs → AreApart (granule + 1 + 1) (Some own) end xs
higher granule end own [] room apart = tt
higher granule end own (x ∷ xs) room apart = (omega arith, apart.1, apart.2, apart.3)

-- the granules after it are a run of their own
pub follows_new : (granule end : ℕ) (own new : Gpi) (xs : List Run) → own ≢ new → granule + 1 < begin_of end xs → granule < end
    → AreApart (granule + 1) (Some own) end xs → Follows granule end own new xs (record { first = granule + 1; gpi = own } ∷ xs)
follows_new granule end own new xs other room inside apart = record {
  apart = (omega arith, begin_within granule end own xs room apart, (λ e. other (sym (same_Some new own e))), higher granule end own xs room apart);
  gpis = λ g above lt. let begun : granule + 1 ≤ g = omega arith in rw (le-leb (granule + 1) g begun) refl;
}

-- the run after it goes on from it
pub follows_joined : (granule end : ℕ) (own new : Gpi) (x : Run) (xs : List Run) → x.gpi ≡ new → x.first ≤ granule + 1
    → AreApart (granule + 1) (Some own) end (x ∷ xs) → Follows granule end own new (x ∷ xs) xs
follows_joined granule end own new x xs same first apart = record {
  apart = rw (← same) (lower (x.first + 1) (granule + 1) end (Some x.gpi) xs (omega (arith, apart.0)) apart.3);
  gpis = λ g above lt. let begun : x.first ≤ g = omega arith in rw (le-leb x.first g begun, same) refl;
}

-- it is the last of its run, and the next one has another GPI
pub follows_same : (granule end : ℕ) (own new : Gpi) (xs : List Run) → begin_of end xs ≤ granule + 1 → (BeginsWith new xs → ⊥)
    → AreApart (granule + 1) (Some own) end xs → Follows granule end own new xs xs
follows_same granule end own new [] first other apart = record { apart = tt; gpis = λ g above lt. absurd (omega arith) }
follows_same granule end own new (x ∷ xs) first other apart = record {
  apart = (apart.0, apart.1, (λ e. other (sym (same_Some new x.gpi e))), apart.3);
  gpis = λ g above lt. let begun : x.first ≤ g = omega arith in rw (le-leb x.first g begun) refl;
}

begin_front : (granule end : ℕ) (x : Run) (xs : List Run) → BeginAtZero end (xs ++ x ∷ []) → x.first ≡ granule → BeginAtZero granule xs
begin_front granule end x [] begins same = sym same ∙ begins
begin_front granule end x (w ∷ ws) begins same = begins

begin_later : (xs : List Run) (x : Run) (end more : ℕ) → BeginAtZero end (xs ++ x ∷ []) → BeginAtZero more (xs ++ x ∷ [])
begin_later [] x end more begins = begins
begin_later (w ∷ ws) x end more begins = begins

last_push : (o : Option Gpi) (xs : List Run) (x : Run) → last_gpi o (xs ++ x ∷ []) ≡ Some x.gpi
last_push o [] x = refl
last_push o (w ∷ ws) x = last_push (Some w.gpi) ws x

-- runs before a run whose first granule is this one
covers_before : (granule : ℕ) (new : Gpi) (x : Run) (xs : List Run) → Reaches granule new (xs ++ x ∷ []) → granule ≤ x.first → Covers granule (gpi_after gpi.Any (xs ++ x ∷ [])) xs
covers_before granule new x xs reaches le =
    let here = around 0 (granule + 1) None xs x [] reaches.apart in
    let same : x.first ≡ granule = omega (arith, here.high) in
    record {
      begins = begin_front granule (granule + 1) x xs reaches.begins same;
      apart = rw (← same) here.before;
      gpis = λ g lt. sym (gpi_append gpi.Any xs (x ∷ []) g ∙ (let above : g < x.first = omega arith in rw (lt-leb x.first g above) refl));
    }

-- the granule is one more run after the granules of its own
pub leads_parted : (granule : ℕ) (new : Gpi) (x : Run) (xs : List Run) → Reaches granule new (xs ++ x ∷ []) → x.first < granule
    → Leads granule new (xs ++ x ∷ []) ((xs ++ x ∷ []) ++ record { first = granule; gpi = new } ∷ [])
leads_parted granule new x xs reaches before =
    let here = around 0 (granule + 1) None xs x [] reaches.apart in
    let apart : AreApart 0 None (x.first + 1) (xs ++ x ∷ []) = push_apart 0 x.first x.first None x.gpi xs here.before (omega arith) (omega arith) here.other in
    record {
      covers = covers_new granule (granule + 1) (gpi_after gpi.Any (xs ++ x ∷ [])) new (xs ++ x ∷ []) (omega arith) reaches.other
          (record { begins = begin_later xs x (granule + 1) granule reaches.begins; apart = widen 0 (x.first + 1) granule None (xs ++ x ∷ []) (omega arith) apart; gpis = λ g lt. refl });
      last = last_push None (xs ++ x ∷ []) (record { first = granule; gpi = new });
    }

-- the granule goes on with the run before it
pub leads_joined : (granule : ℕ) (new : Gpi) (x : Run) (xs : List Run) → Reaches granule new (xs ++ x ∷ []) → granule ≤ x.first → last_gpi None xs ≡ Some new
    → Leads granule new (xs ++ x ∷ []) xs
leads_joined granule new x xs reaches le last = record {
  covers = covers_more granule (granule + 1) (gpi_after gpi.Any (xs ++ x ∷ [])) new xs (omega arith) last (covers_before granule new x xs reaches le);
  last = last;
}

-- the granule is its run's first, and the run before it has another GPI
pub leads_new : (granule : ℕ) (new : Gpi) (x : Run) (xs : List Run) → Reaches granule new (xs ++ x ∷ []) → granule ≤ x.first → last_gpi None xs ≢ Some new
    → Leads granule new (xs ++ x ∷ []) (xs ++ record { first = granule; gpi = new } ∷ [])
leads_new granule new x xs reaches le other = record {
  covers = covers_new granule (granule + 1) (gpi_after gpi.Any (xs ++ x ∷ [])) new xs (omega arith) other (covers_before granule new x xs reaches le);
  last = last_push None xs (record { first = granule; gpi = new });
}

begin_append : (end granule : ℕ) (xs ys : List Run) → BeginAtZero (granule + 1) xs → BeginAtZero end (xs ++ ys)
begin_append end granule [] ys begins = absurd (omega (arith, begins))
begin_append end granule (x ∷ xs) ys begins = begins

-- the runs that lead and those that follow are the runs of the changed map
pub changed_runs : (granule end : ℕ) (own new : Gpi) (before leading after later : List Run) → granule < end → Leads granule new before leading → Follows granule end own new after later
    → AreRuns end (leading ++ later)
changed_runs granule end own new before leading after later inside leads follows = record {
  begins = begin_append end granule leading later leads.covers.begins;
  apart = joined 0 (granule + 1) end None leading later (omega arith) (omega arith) leads.covers.apart (rw leads.last follows.apart);
}

pub changed_gpi : (granule end g : ℕ) (own new : Gpi) (before leading after later : List Run) → AreApart (granule + 1) (Some own) end after → Leads granule new before leading → Follows granule end own new after later
    → ((k : ℕ) → granule ≤ k → gpi_after gpi.Any before k ≡ own) → g < end → g ≢ granule → gpi_after gpi.Any (leading ++ later) g ≡ gpi_after gpi.Any (before ++ after) g
changed_gpi granule end g own new before leading after later apart leads follows known lt other =
    gpi_append gpi.Any leading later g
    ∙ elim (cases_lt g granule) [
      | inl below ↦
          gpi_later (gpi_after gpi.Any leading g) later (granule + 1) end g (Some new) follows.apart (omega arith)
          ∙ leads.covers.gpis g (omega arith) ∙ rw (lt-ltb g granule below) (sym (gpi_later (gpi_after gpi.Any before g) after (granule + 1) end g (Some own) apart (omega arith)))
      | inr above ↦
          let after' : granule < g = omega arith in
          rw (last_given 0 (granule + 1) g None gpi.Any new leading leads.covers.apart (omega arith) leads.last, known g above) (follows.gpis g after' lt)
    ]
    ∙ sym (gpi_append gpi.Any before after g)

pub changed_own : (granule end : ℕ) (own new : Gpi) (before leading after later : List Run) → Leads granule new before leading → Follows granule end own new after later
    → gpi_after gpi.Any (leading ++ later) granule ≡ new
changed_own granule end own new before leading after later leads follows =
    gpi_append gpi.Any leading later granule
    ∙ gpi_later (gpi_after gpi.Any leading granule) later (granule + 1) end granule (Some new) follows.apart (omega arith)
    ∙ last_given 0 (granule + 1) granule None gpi.Any new leading leads.covers.apart (omega arith) leads.last

-- ---- the same by places in a list

taken : (xs : List Run) (i : ℕ) (e : Run) → i < length xs → xs ≡ take i xs ++ get_or xs i e ∷ drop (i + 1) xs
taken xs i e lt = sym (take-append-drop i xs) ∙ ap (λ (ys : List Run). take i xs ++ ys) (drop_more xs i e lt)

raise : (n m end : ℕ) (o : Option Gpi) (ys : List Run) → ((e : Run) → 0 < length ys → m ≤ (get_or ys 0 e).first) → AreApart n o end ys → AreApart m o end ys
raise n m end o [] high apart = tt
raise n m end o (y ∷ ys) high apart = (high y (omega arith), apart.1, apart.2, apart.3)

-- the runs after that of a granule
pub after_found : (end g i : ℕ) (xs : List Run) (e : Run) → AreRuns end xs → IsRunAt g xs i → AreApart (g + 1) (Some (get_or xs i e).gpi) end (drop (i + 1) xs)
after_found end g i xs e runs at =
    let here = around 0 end None (take i xs) (get_or xs i e) (drop (i + 1) xs) (rw (← taken xs i e at.within) runs.apart) in
    raise ((get_or xs i e).first + 1) (g + 1) end (Some (get_or xs i e).gpi) (drop (i + 1) xs)
    (λ c some. rw (get_or-drop (i + 1) xs 0 c) (let later = at.later (i + 1 + 0) c (omega arith) (omega (arith, length-drop (i + 1) xs)) in omega (arith, later))) here.after

begin_taken : (xs : List Run) (x : Run) (ys : List Run) (end more : ℕ) → BeginAtZero end (xs ++ x ∷ ys) → BeginAtZero more (xs ++ x ∷ [])
begin_taken [] x ys end more begins = begins
begin_taken (w ∷ ws) x ys end more begins = begins

-- the runs up to that of a granule
pub front_found : (end g i : ℕ) (new : Gpi) (xs : List Run) (e : Run) → AreRuns end xs → IsRunAt g xs i → (get_or xs i e).gpi ≢ new → Reaches g new (take (i + 1) xs)
front_found end g i new xs e runs at other =
    let x = get_or xs i e in
    let here = around 0 end None (take i xs) x (drop (i + 1) xs) (rw (← taken xs i e at.within) runs.apart) in
    let begun : x.first ≤ g = at.begun e in
    rw (take_more xs i e at.within) (record {
      begins = begin_taken (take i xs) x (drop (i + 1) xs) end (g + 1) (rw (← taken xs i e at.within) runs.begins);
      apart = widen 0 (x.first + 1) (g + 1) None (take i xs ++ x ∷ []) (omega arith) (push_apart 0 x.first x.first None x.gpi (take i xs) here.before (omega arith) (omega arith) here.other);
      other = λ same. other (same_Some x.gpi new (sym (last_push None (take i xs) x) ∙ same));
    })

pub set_parted : (xs : List Run) (i g : ℕ) (new : Gpi) (e : Run) → i < length xs → Reaches g new (take (i + 1) xs) → (get_or xs i e).first < g
    → Leads g new (take (i + 1) xs) (take (i + 1) xs ++ record { first = g; gpi = new } ∷ [])
set_parted xs i g new e lt reaches before =
    rw (take_more xs i e lt) (leads_parted g new (get_or xs i e) (take i xs) (rw (← take_more xs i e lt) reaches) before)

pub set_joined : (xs : List Run) (i g : ℕ) (new : Gpi) (e : Run) → i < length xs → Reaches g new (take (i + 1) xs) → g ≤ (get_or xs i e).first → last_gpi None (take i xs) ≡ Some new
    → Leads g new (take (i + 1) xs) (take i xs)
set_joined xs i g new e lt reaches le last =
    rw (take_more xs i e lt) (leads_joined g new (get_or xs i e) (take i xs) (rw (← take_more xs i e lt) reaches) le last)

pub set_new : (xs : List Run) (i g : ℕ) (new : Gpi) (e : Run) → i < length xs → Reaches g new (take (i + 1) xs) → g ≤ (get_or xs i e).first → last_gpi None (take i xs) ≢ Some new
    → Leads g new (take (i + 1) xs) (take i xs ++ record { first = g; gpi = new } ∷ [])
set_new xs i g new e lt reaches le other =
    rw (take_more xs i e lt) (leads_new g new (get_or xs i e) (take i xs) (rw (← take_more xs i e lt) reaches) le other)

-- a reached run begins no later than the granule
pub reached_first : (xs : List Run) (i g : ℕ) (new : Gpi) (e : Run) → i < length xs → Reaches g new (take (i + 1) xs) → (get_or xs i e).first ≤ g
reached_first xs i g new e lt reaches =
    let here = around 0 (g + 1) None (take i xs) (get_or xs i e) [] (rw (← take_more xs i e lt) reaches.apart) in omega (arith, here.high)

pub follows_removed : (granule end i : ℕ) (own new : Gpi) (xs : List Run) → i ≤ length xs → BeginsWith new (drop i xs) → begin_of end (drop i xs) ≤ granule + 1
    → AreApart (granule + 1) (Some own) end (drop i xs) → Follows granule end own new (drop i xs) (drop i (remove xs i))
follows_removed granule end i own new xs le with' first apart =
    elim (cases_lt i (length xs)) [
      | inl lt ↦
          let e : Run = record { first = 0; gpi = new } in
          let rest : drop i (remove xs i) ≡ drop (i + 1) xs = drop_at (take i xs) (drop (suc i) xs) i (length-take-le i xs le) ∙ ap (λ (n : ℕ). drop n xs) (sym (add-one i)) in
          rw (rest, drop_more xs i e lt) (
          follows_joined granule end own new (get_or xs i e) (drop (i + 1) xs) (rw (drop_more xs i e lt) at with') (rw (drop_more xs i e lt) at first) (rw (drop_more xs i e lt) at apart))
      | inr past ↦ absurd (rw (drop_all i xs past) at with')
    ]

pub follows_inserted : (granule end i : ℕ) (own new : Gpi) (xs : List Run) → i ≤ length xs → own ≢ new → granule + 1 < begin_of end (drop i xs) → granule < end
    → AreApart (granule + 1) (Some own) end (drop i xs) → Follows granule end own new (drop i xs) (drop i (insert xs i (record { first = granule + 1; gpi = own })))
follows_inserted granule end i own new xs le other room inside apart =
    rw (drop_at (take i xs) (record { first = granule + 1; gpi = own } ∷ drop i xs) i (length-take-le i xs le)) (follows_new granule end own new (drop i xs) other room inside apart)

front_gpi : (k i : ℕ) (xs : List Run) (e : Run) → i < length xs → (get_or xs i e).first ≤ k → gpi_after gpi.Any (take (i + 1) xs) k ≡ (get_or xs i e).gpi
front_gpi k i xs e lt begun =
    ap (λ (rs : List Run). gpi_after gpi.Any rs k) (take_more xs i e lt) ∙ gpi_append gpi.Any (take i xs) (get_or xs i e ∷ []) k
    ∙ one_gpi_of (gpi_after gpi.Any (take i xs) k) (get_or xs i e) k begun

-- a granule of run i becomes new: ys after the runs later than it, zs after it too
pub changed : (granule end i : ℕ) (own new : Gpi) (xs ys zs leading : List Run) (e : Run) → AreRuns end xs → IsRunAt granule xs i → granule < end → own ≡ (get_or xs i e).gpi
    → take (i + 1) ys ≡ take (i + 1) xs → Follows granule end own new (drop (i + 1) xs) (drop (i + 1) ys) → zs ≡ leading ++ drop (i + 1) ys → Leads granule new (take (i + 1) ys) leading
    → AreRuns end zs × (runs_map end zs ≡ set (runs_map end xs) granule new)
changed granule end i own new xs ys zs leading e runs at inside mine same follows is leads =
    let before = take (i + 1) xs in
    let after = drop (i + 1) xs in
    let later = drop (i + 1) ys in
    let leads' : Leads granule new before leading = rw (← same) leads in
    let apart : AreApart (granule + 1) (Some own) end after = rw mine (after_found end granule i xs e runs at) in
    let whole : xs ≡ before ++ after = sym (take-append-drop (i + 1) xs) in
    let known : (k : ℕ) → granule ≤ k → gpi_after gpi.Any before k ≡ own = λ k le. front_gpi k i xs e at.within (let begun = at.begun e in omega arith) ∙ sym mine in
    rw is (
      changed_runs granule end own new before leading after later inside leads' follows,
      set_map end granule new (gpi_after gpi.Any xs) (gpi_after gpi.Any (leading ++ later)) inside (changed_own granule end own new before leading after later leads' follows)
          (λ k lt other. changed_gpi granule end k own new before leading after later apart leads' follows known lt other ∙ ap (λ (rs : List Run). gpi_after gpi.Any rs k) (sym whole)),
    )

-- a granule that has the GPI already
pub set_again : (end g i : ℕ) (xs : List Run) (e : Run) → g < end → IsRunAt g xs i → runs_map end xs ≡ set (runs_map end xs) g (get_or xs i e).gpi
set_again end g i xs e lt at =
    let here : get_or (runs_map end xs) g gpi.Any ≡ (get_or xs i e).gpi = get_or_from_slice_get (runs_map end xs) g (get_or xs i e).gpi gpi.Any (runs_get end g i xs e lt at) in
    sym (rw here at (set-get_or (runs_map end xs) g gpi.Any))

-- the last run as it is read
pub last_read : (xs : List Run) (x : Run) → Some x ≡ slice_get xs (length xs - 1) → last_gpi None xs ≡ Some x.gpi
last_read xs x e =
    let within : length xs - 1 < length xs = slice_get_within xs (length xs - 1) x (sym e) in
    last_at xs None x (omega arith) ∙ ap (λ (r : Run). Some r.gpi) (get_or_from_slice_get xs (length xs - 1) x x (sym e))

-- ---- what a test says

pub fails : (b : Bool) (P : Type 0) → (P → IsTrue b) → b ≡ false → P → ⊥
fails b P given e p = let both = sym e ∙ given p in cc

pub any_everywhere : (n : ℕ) → map (then_one 0 (λ _. gpi.Any) gpi.Any) (range_with_len 0 n) ≡ replicate n gpi.Any
any_everywhere n = map_range_same (then_one 0 (λ _. gpi.Any) gpi.Any) 0 n gpi.Any (λ j lt. rw (le-ltb (0 + j) 0 (omega arith)) refl)
