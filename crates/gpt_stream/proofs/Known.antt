-- One step after another, where the bytes are known.
use Rattle.std.proofs.Common.{ℕ, ◌+◌, ◌-◌, ◌≤◌, List, ◌++◌, Option, Some, None, length, take, drop, sym, ◌∙◌, ap, append_assoc, arith, length-append}
use Rattle.std.specs.Io.KnownBytes.{Appends, Consumes}
use Rattle.std.proofs.Math.Seq.{take-add}
use Rattle.std.proofs.lemmas.List.{take_rest, length-take}

pub Appends_then : (before middle after : Option (List ℕ)) (xs ys : List ℕ) → Appends before middle xs → Appends middle after ys → Appends before after (xs ++ ys)
Appends_then None middle after xs ys p q = tt
Appends_then (Some bs) None after xs ys p q = absurd p
Appends_then (Some bs) (Some cs) None xs ys p q = absurd q
Appends_then (Some bs) (Some cs) (Some ds) xs ys p q = q ∙ ap (λ (zs : List ℕ). zs ++ ys) p ∙ append_assoc bs xs ys

-- a write that is offered what isn't taken yet takes n bytes of it
pub Appends_at : (before middle after : Option (List ℕ)) (text : List ℕ) (from n : ℕ) → Appends before middle (take from text) → Appends middle after (take n (take (length text - from) (drop from text))) → Appends before after (take (from + n) text)
Appends_at before middle after text from n p q =
    let e = take_rest text from in
    rw (take-add from n text) (Appends_then before middle after (take from text) (take n (drop from text)) p (rw e at q))

pub Consumes_then : (before middle after : Option (List ℕ)) (xs ys : List ℕ) → Consumes before middle xs → Consumes middle after ys → Consumes before after (xs ++ ys)
Consumes_then None middle after xs ys p q = tt
Consumes_then (Some bs) None after xs ys p q = absurd p
Consumes_then (Some bs) (Some cs) None xs ys p q = absurd q
Consumes_then (Some bs) (Some cs) (Some ds) xs ys p q = p ∙ ap (λ (zs : List ℕ). xs ++ zs) q ∙ sym (append_assoc xs ys ds)

-- a read of n bytes more, within a limit
pub Consumes_within : (before middle after : Option (List ℕ)) (xs piece : List ℕ) (n limit : ℕ) → Consumes before middle xs → Consumes middle after (take n piece) → length xs + n ≤ limit → (bytes : List ℕ) × (length bytes ≤ limit) × Consumes before after bytes
Consumes_within before middle after xs piece n limit p q within = (
  xs ++ take n piece,
  simp (length-append, length-take) (omega arith),
  Consumes_then before middle after xs (take n piece) p q,
)
