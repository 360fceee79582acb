-- Lines of plain fields, both ways: the fields of a line, and the lines of a text.
use Rattle.std.proofs.Common.{◌≡◌, ℕ, ◌<◌, List, [], ◌∷◌, ◌++◌, length, false, refl, sym, ap, ◌∙◌, append_assoc, arith}
use Rattle.std.specs.Prelude.{◌==◌}
use Rattle.std.specs.List.{join_with_byte, flat_map, AllByRecursion}
use Rattle.std.proofs.lemmas.Bool.{ne_eqb}
use Rattle.std.proofs.lemmas.List.Elements.{All-from_recursion}
use Rattle.std.proofs.lemmas.List.Splits.{slice_split_at, slice_split_none, join_with_byte-slice_split}
use Rattle.line_text.specs.Lines.{line, fields_in, lines_in}
use Rattle.line_text.proofs.Cuts.{some_part}
use Rattle.line_text.proofs.NumeralLemmas.{IsPlain}
use Rattle.line_text.proofs.RowLemmas.{IsPlainField}

-- some fields, none of them empty and none with a separator
abbrev pub IsPlainLine : List (List ℕ) → Type 0
IsPlainLine fields = (0 < length fields) × AllByRecursion IsPlainField fields

-- the pieces between the line feeds of a text of these lines
abbrev pub pieces : List (List (List ℕ)) → List (List ℕ)
pieces [] = [] ∷ []
pieces (fields ∷ ls) = join_with_byte 32 fields ∷ pieces ls

-- a byte is in none of a list
abbrev Lacks : ℕ → List ℕ → Type 0
Lacks at bytes = AllByRecursion (λ c. (c == at) ≡ false) bytes

no_space : (field : List ℕ) → AllByRecursion IsPlain field → Lacks 32 field
no_space [] plain = tt
no_space (c ∷ cs) plain = (ne_eqb c 32 plain.0.0, no_space cs plain.1)

no_feed : (field : List ℕ) → AllByRecursion IsPlain field → Lacks 10 field
no_feed [] plain = tt
no_feed (c ∷ cs) plain = (ne_eqb c 10 plain.0.1, no_feed cs plain.1)

no_feed_append : (xs ys : List ℕ) → Lacks 10 xs → Lacks 10 ys → Lacks 10 (xs ++ ys)
no_feed_append [] ys p q = q
no_feed_append (x ∷ xs) ys p q = (p.0, no_feed_append xs ys p.1 q)

no_feed_joined : (fields : List (List ℕ)) → AllByRecursion IsPlainField fields → Lacks 10 (join_with_byte 32 fields)
no_feed_joined [] plain = tt
no_feed_joined (f ∷ []) plain = no_feed f plain.0.0
no_feed_joined (f ∷ g ∷ fields) plain = no_feed_append f (32 ∷ join_with_byte 32 (g ∷ fields)) (no_feed f plain.0.0) (refl, no_feed_joined (g ∷ fields) plain.1)

pub fields_joined : (fields : List (List ℕ)) → IsPlainLine fields → fields_in (join_with_byte 32 fields) ≡ fields
fields_joined [] plain = absurd (let some = plain.0 in omega arith)
fields_joined (f ∷ []) plain = slice_split_none (λ c. c == 32) f (All-from_recursion (λ c. (c == 32) ≡ false) f (no_space f plain.1.0.0))
fields_joined (f ∷ g ∷ fields) plain =
    slice_split_at (λ c. c == 32) f 32 (join_with_byte 32 (g ∷ fields)) (All-from_recursion (λ c. (c == 32) ≡ false) f (no_space f plain.1.0.0)) refl
    ∙ ap (λ (z : List (List ℕ)). f ∷ z) (fields_joined (g ∷ fields) (omega arith, plain.1.1))

-- a line's bytes are those of its fields
pub joined_fields : (text : List ℕ) (fields : List (List ℕ)) → fields_in text ≡ fields → text ≡ join_with_byte 32 fields
joined_fields text fields e = sym (join_with_byte-slice_split 32 text) ∙ ap (join_with_byte 32) e

pub lines_split : (ls : List (List (List ℕ))) → AllByRecursion IsPlainLine ls → lines_in (flat_map line ls) ≡ pieces ls
lines_split [] plain = refl
lines_split (fields ∷ ls) plain =
    ap lines_in (append_assoc (join_with_byte 32 fields) (10 ∷ []) (flat_map line ls))
    ∙ slice_split_at (λ c. c == 10) (join_with_byte 32 fields) 10 (flat_map line ls) (All-from_recursion (λ c. (c == 10) ≡ false) (join_with_byte 32 fields) (no_feed_joined fields plain.0.1)) refl
    ∙ ap (λ (z : List (List ℕ)). join_with_byte 32 fields ∷ z) (lines_split ls plain.1)

join_more : (x : List ℕ) (ls : List (List (List ℕ))) → join_with_byte 10 (x ∷ pieces ls) ≡ x ++ (10 ∷ join_with_byte 10 (pieces ls))
join_more x [] = refl
join_more x (fields ∷ ls) = refl

pieces_joined : (ls : List (List (List ℕ))) → join_with_byte 10 (pieces ls) ≡ flat_map line ls
pieces_joined [] = refl
pieces_joined (fields ∷ ls) =
    join_more (join_with_byte 32 fields) ls
    ∙ ap (λ (z : List ℕ). join_with_byte 32 fields ++ (10 ∷ z)) (pieces_joined ls)
    ∙ sym (append_assoc (join_with_byte 32 fields) (10 ∷ []) (flat_map line ls))

-- a text's bytes are those of its lines
pub joined_lines : (text : List ℕ) (ls : List (List (List ℕ))) → lines_in text ≡ pieces ls → text ≡ flat_map line ls
joined_lines text ls e = sym (join_with_byte-slice_split 10 text) ∙ ap (join_with_byte 10) e ∙ pieces_joined ls

pub some_line : (text : List ℕ) → 0 < length (lines_in text)
some_line text = let part = some_part (λ c. c == 10) text in rw part.1.1 (omega arith)

pub some_piece : (ls : List (List (List ℕ))) → 0 < length (pieces ls)
some_piece [] = omega arith
some_piece (fields ∷ ls) = omega arith
