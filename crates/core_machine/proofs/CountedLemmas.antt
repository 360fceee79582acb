-- Answers keep their counts, and have them from their call's last entry on.
use Rattle.std.proofs.Common.{◌≡◌, ℕ, ◌+◌, ◌++◌, ◌∷◌, [], List, Bool, false, ◌&&◌, cond, Some, refl, ap, ◌∙◌, subst, arith, append_assoc}
use Rattle.std.specs.Prelude.{◌==◌}
use Rattle.std.specs.List.{count_by}
use Rattle.std.proofs.lemmas.List.Sums.{sum_by-append}
use Rattle.core_machine.proofs.Names.{Gpi, Size, Generations, granule_bytes, GeometryData, Task, Answer, Entry, granule_in, region_of, count_of, is_by, generation_in, worn_answer, IsCounted, granule_of_task}
use Rattle.core_machine.proofs.Names.size
use Rattle.core_machine.proofs.Names.answer
use Rattle.core_machine.proofs.Names.entry
use Rattle.history.specs.Counts.{is_change, is_completion, counts_around}
use Rattle.delegate_ops.proofs.ScriptLemmas.{some_mapped}
use Rattle.core_machine.proofs.ListLemmas.{one}

-- ---- one entry more

one_sum : (n : ℕ) → 0 + n ≡ n
one_sum n = omega arith

count_push : {X : Type 0} (p : X → Bool) (xs : List X) (x : X) → count_by p (xs ++ x ∷ []) ≡ count_by p xs + cond (p x) 1 0
count_push p xs x =
    let split : count_by p (xs ++ x ∷ []) ≡ count_by p xs + count_by p (x ∷ []) = sum_by-append (λ y. one (p y)) xs (x ∷ []) in
    let last : count_by p (x ∷ []) ≡ cond (p x) 1 0 = one_sum (cond (p x) 1 0) in
    split ∙ ap (λ (n : ℕ). count_by p xs + n) last

none_more : {X : Type 0} (p : X → Bool) (xs : List X) (x : X) → count_by p xs ≡ 0 → p x ≡ false → count_by p (xs ++ x ∷ []) ≡ 0
none_more p xs x none other = count_push p xs x ∙ rw (none, other) refl

pub count_more : (first bytes : ℕ) (z : Size) (region : ℕ) (h : List Entry) (e : Entry)
    → count_of first bytes z region (h ++ e ∷ []) ≡ count_of first bytes z region h + cond (is_change e && (region_of bytes z (granule_in e) == region)) 1 0
count_more first bytes z region h e =
    let more : count_by (λ e. is_change e && (region_of bytes z (granule_in e) == region)) (h ++ e ∷ [])
    ≡ count_by (λ e. is_change e && (region_of bytes z (granule_in e) == region)) h + cond (is_change e && (region_of bytes z (granule_in e) == region)) 1 0 =
    count_push (λ e. is_change e && (region_of bytes z (granule_in e) == region)) h e in
    omega (arith, more)

-- ---- what was counted stays so

one_more : (h before after : List Entry) (x e : Entry) → h ≡ before ++ x ∷ after → h ++ e ∷ [] ≡ before ++ x ∷ (after ++ e ∷ [])
one_more h before after x e parts = ap (λ (xs : List Entry). xs ++ e ∷ []) parts ∙ append_assoc before (x ∷ after) (e ∷ [])

pub counted_more : (g : GeometryData) (c k : ℕ) (t : Task) (given : Answer) (h : List Entry) (e : Entry) → IsCounted g c k t given h
    → (is_completion e && is_by c k e) ≡ false → IsCounted g c k t given (h ++ e ∷ [])
counted_more g c k t (answer.Done given) h e counted other = record {
  before = counted.before;
  after = counted.after ++ e ∷ [];
  parts = one_more h counted.before counted.after (entry.Settled c k (granule_of_task g t)) e counted.parts;
  last = none_more (λ x. is_completion x && is_by c k x) counted.after e counted.last other;
  counts = counted.counts;
}
counted_more g c k t (answer.Worn z value) h e counted other = record {
  before = counted.before;
  after = counted.after ++ e ∷ [];
  found = counted.found;
  parts = one_more h counted.before counted.after (entry.Refused c k (granule_of_task g t) counted.found) e counted.parts;
  first_worn = counted.first_worn;
  counted = counted.counted;
}
counted_more g c k t given h e counted other = tt

-- ---- from the call's last entry on

pub done_counted : (g : GeometryData) (c k : ℕ) (t : Task) (given : Generations) (h : List Entry) → given ≡ counts_around g.setup.first (granule_bytes g.setup) (granule_of_task g t) h
    → IsCounted g c k t (answer.Done given) (h ++ entry.Settled c k (granule_of_task g t) ∷ [])
done_counted g c k t given h counts = record { before = h; after = []; parts = refl; last = refl; counts = counts }

count_in : (first bytes granule : ℕ) (h : List Entry) (z : Size) → generation_in z (counts_around first bytes granule h) ≡ count_of first bytes z (region_of bytes z granule) h
count_in first bytes granule h size.Two = refl
count_in first bytes granule h size.ThirtyTwo = refl
count_in first bytes granule h size.FiveTwelve = refl

worn_of_counts : (g : GeometryData) (c k : ℕ) (t : Task) (found : Gpi) (a : Answer) (h : List Entry)
    → worn_answer (counts_around g.setup.first (granule_bytes g.setup) (granule_of_task g t) h) ≡ Some a
    → IsCounted g c k t a (h ++ entry.Refused c k (granule_of_task g t) found ∷ [])
worn_of_counts g c k t found a h worn =
    let counts : Generations = counts_around g.setup.first (granule_bytes g.setup) (granule_of_task g t) h in
    let parts = some_mapped (λ (z : Size). answer.Worn z (generation_in z counts)) _ a worn in
    subst (λ (b : Answer). IsCounted g c k t b (h ++ entry.Refused c k (granule_of_task g t) found ∷ [])) parts.2
    (record {
      before = h;
      after = [];
      found = found;
      parts = refl;
      first_worn = parts.1;
      counted = count_in g.setup.first (granule_bytes g.setup) (granule_of_task g t) h parts.0;
    })

pub worn_counted : (g : GeometryData) (c k : ℕ) (t : Task) (found : Gpi) (given : Generations) (a : Answer) (h : List Entry)
    → given ≡ counts_around g.setup.first (granule_bytes g.setup) (granule_of_task g t) h → worn_answer given ≡ Some a
    → IsCounted g c k t a (h ++ entry.Refused c k (granule_of_task g t) found ∷ [])
worn_counted g c k t found given a h counts worn = worn_of_counts g c k t found a h (subst (λ (x : Generations). worn_answer x ≡ Some a) counts worn)
