-- A pass for each caller: the loop that deals them, and what they are once all are dealt.
use Rattle.std.proofs.Common.{◌≡◌, ℕ, ◌+◌, ◌<◌, ◌≤◌, List, [], ◌∷◌, ◌++◌, map, length, take, drop, get_or, Option, Some, append-nil, append_assoc, sym, ap, ◌∙◌, subst, arith}
use Rattle.std.specs.Prelude.{slice_get}
use Rattle.std.specs.List.{All}
use Rattle.std.specs.Option.{option_map}
use Rattle.std.proofs.lemmas.List.{drop-drop, drop_more, drop_all, length-map, map-append}
use Rattle.std.proofs.lemmas.Option.{slice_get-map, slice_get_within, get_or_from_slice_get}
use Rattle.atomic_table.specs.Seated.{TableId}
use Rattle.core_machine.specs.declared.caller.Caller.{Caller}
use Rattle.core_machine.specs.InnerCallers.{IsFresh}
use Rattle.processor.proofs.CpuLemmas.{some_mapped}
use Rattle.race_run.specs.declared.view.View.{View}
use Rattle.race_run.specs.Passes.{AreOpened, FieldData, PassData, fresh_view}
use Rattle.race_run.specs.Turns.{IsMoment}
use Rattle.race_run.specs.InnerRule.{fresh_seen, numbered, seen_of, whole, with_first, with_held, without_first}
use Rattle.race_run.proofs.SplitLemmas.{Held}
use Rattle.race_run.proofs.OpeningLemmas.{fresh_is_of, numbered_at, numbered_count}

-- ---- one more pass

held_there : (xs : List Held) (k : ℕ) → k < length xs → (a : Held) × (drop k xs ≡ a ∷ drop (k + 1) xs)
held_there [] k within = absurd (omega arith)
held_there (x ∷ xs) k within = (get_or (x ∷ xs) k x, drop_more (x ∷ xs) k x within)

pub dealt_more : (f : FieldData) (xs : List Held) (k : ℕ) (items : List PassData) (p : PassData) (v : View) → k < length xs → map seen_of items ++ map (fresh_seen f) (drop k xs) ≡ map (fresh_seen f) xs
    → v ≡ with_held (whole f.opening) (drop k xs) → p.id ≡ f.id → p.view ≡ with_first v
    → map seen_of (items ++ p ∷ []) ++ map (fresh_seen f) (drop (k + 1) xs) ≡ map (fresh_seen f) xs
dealt_more f xs k items p v within so is id view =
    let there = held_there xs k within in
    let a = there.0 in
    let more : drop k xs ≡ a ∷ drop (k + 1) xs = there.1 in
    let seen : seen_of p ≡ fresh_seen f a = λ i. (id i, (view ∙ ap with_first is ∙ ap (λ (l : List Held). with_held (whole f.opening) (take 1 l)) more) i) in
    ap (λ (l : List (TableId × View)). l ++ map (fresh_seen f) (drop (k + 1) xs)) (map-append seen_of items (p ∷ []))
    ∙ append_assoc (map seen_of items) (seen_of p ∷ []) (map (fresh_seen f) (drop (k + 1) xs))
    ∙ ap (λ (s : TableId × View). map seen_of items ++ s ∷ map (fresh_seen f) (drop (k + 1) xs)) seen
    ∙ ap (λ (l : List Held). map seen_of items ++ map (fresh_seen f) l) (sym more)
    ∙ so

-- the view that has the others still
pub whole_less : (f : FieldData) (xs : List Held) (k : ℕ) (v : View) → v ≡ with_held (whole f.opening) (drop k xs) → without_first v ≡ with_held (whole f.opening) (drop (k + 1) xs)
whole_less f xs k v is = ap without_first is ∙ ap (with_held (whole f.opening)) (drop-drop 1 k xs)

pub all_dealt : (f : FieldData) (xs : List Held) (k : ℕ) (items : List PassData) → length xs ≤ k → map seen_of items ++ map (fresh_seen f) (drop k xs) ≡ map (fresh_seen f) xs → map seen_of items ≡ map (fresh_seen f) xs
all_dealt f xs k items past so =
    sym (append-nil (map seen_of items)) ∙ ap (λ (l : List Held). map seen_of items ++ map (fresh_seen f) l) (sym (drop_all k xs past)) ∙ so

-- ---- all passes

pass_at : (f : FieldData) (items : List PassData) (callers : List Caller) (c : ℕ) (p : PassData) (x : Caller) → map seen_of items ≡ map (fresh_seen f) (numbered 0 callers) → slice_get items c ≡ Some p → slice_get callers c ≡ Some x
    → seen_of p ≡ fresh_seen f (c, x)
pass_at f items callers c p x so at there =
    let mine : slice_get (map (fresh_seen f) (numbered 0 callers)) c ≡ Some (seen_of p) = ap (λ (l : List (TableId × View)). slice_get l c) (sym so) ∙ slice_get-map seen_of items c ∙ ap (λ (o : Option PassData). option_map seen_of o) at in
    let held = some_mapped (fresh_seen f) (slice_get (numbered 0 callers) c) (seen_of p) (sym (slice_get-map (fresh_seen f) (numbered 0 callers) c) ∙ mine) in
    let own = numbered_at 0 c callers held.0 held.1 in
    let number : held.0.0 ≡ c = omega (arith, own.0) in
    let same : held.0.1 ≡ x = (let both : Some held.0.1 ≡ Some x = sym own.1 ∙ there in cc) in
    sym held.2 ∙ (λ i. fresh_seen f (number i, same i))

pub are_opened : (f : FieldData) (items : List PassData) (callers : List Caller) → map seen_of items ≡ map (fresh_seen f) (numbered 0 callers) → All (IsFresh f.opening.geometry) callers
    → ((c : ℕ) (x : Caller) → slice_get callers c ≡ Some x → IsMoment f.opening c x []) → AreOpened f items callers
are_opened f items callers so is moments =
    record {
      many = sym (length-map items seen_of) ∙ ap (λ (l : List (TableId × View)). length l) so ∙ length-map (numbered 0 callers) (fresh_seen f) ∙ numbered_count 0 callers;
      each = λ c p x at there.
          let same = pass_at f items callers c p x so at there in
          let view : p.view ≡ fresh_view f.opening (c, x) = ap (λ (s : TableId × View). s.1) same in (
            record {
              field = ap (λ (s : TableId × View). s.0) same;
              opening = ap (λ (v : View). v.opening) view;
              held = ap (λ (v : View). v.held) view;
              made = fresh_is_of f.opening.geometry x (subst (IsFresh f.opening.geometry) (get_or_from_slice_get callers c x x there) (is c x (slice_get_within callers c x there)));
              moment = subst (IsMoment f.opening c x) (sym (ap (λ (v : View). v.seen) view)) (moments c x there);
            },
            view,
          );
    }
