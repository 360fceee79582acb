-- Reading and spelling rows, over lists. It serves the reader's inner contracts and its proofs:
-- nobody has to believe it.
use Rattle.std.specs.Prelude.{◌≡◌, ℕ, zero, suc, ◌<◌, ◌≤◌, ◌^◌, ◌⊎◌, Bool, false, ◌&&◌, not, List, [], ◌∷◌, length, map, position, get_or, Option, Some, None, Result, Ok, Err, ◌==◌, if◌then◌else◌}
use Rattle.std.specs.Option.{ok_or}
use Rattle.std.specs.Str.{bytes_eq}
use denote.Ref.{Bor}
use Rattle.line_text.specs.declared.kind.FieldKind.{FieldKind as KindInCode}
use Rattle.line_text.specs.declared.kind.FieldKind.TheVariants as coded
use Rattle.line_text.specs.declared.kind.Range.{Range as RangeInCode}
use Rattle.line_text.specs.declared.kind.Range.TheVariants as range
use Rattle.line_text.specs.declared.kind.RowFault.{RowFault}
use Rattle.line_text.specs.declared.kind.RowFault.TheVariants as fault
use Rattle.line_text.specs.Lines.{count, address, fields_in}
use Rattle.line_text.specs.Numerals.{count_in, address_in}
use Rattle.line_text.specs.Rows.{Range, Any, Between, Below, Among, is_in, FieldKind, Count, Address, Name, is_shaped}

infixl 10 ◌>>=◌
abbrev pub ◌>>=◌ : {A B E : Type 0} → Result A E → (A → Result B E) → Result B E
(Ok x) >>= f = f x
(Err e) >>= f = Err e

-- what a function returned, seen by view, is what reading gives
abbrev pub Gives : {X Y E : Type 0} → (X → Y) → Result X E → Result Y E → Type 0
Gives view (Ok x) read = read ≡ Ok (view x)
Gives view (Err f) read = read ≡ Err f

-- the fields of a line that are left, had by bytes or none
abbrev pub fields_left : Option (Bor (List ℕ)) → List (List ℕ)
fields_left None = []
fields_left (Some text) = fields_in text.now

-- none of the bytes before place k is this one
abbrev pub IsPast : ℕ → List ℕ → ℕ → Type 0
IsPast at text k = (k ≤ length text) × ((j : ℕ) → j < k → (get_or text j 0 == at) ≡ false)

-- none of the names before place k is this field
abbrev pub IsPastNames : List ℕ → List (List ℕ) → ℕ → Type 0
IsPastNames field names k =
    (k ≤ length names) × ((j : ℕ) → j < k → bytes_eq field (get_or names j []) ≡ false)

-- ---- kinds in the code

abbrev pub range_in : RangeInCode → Range
range_in range.Any = Any
range_in (range.Between first last) = Between first last
range_in (range.Below limit) = Below limit
range_in (range.Among values) = Among values.now

abbrev pub names_in : List (Bor (List ℕ)) → List (List ℕ)
names_in names = map (λ name. name.now) names

abbrev pub kind_in : KindInCode → FieldKind
kind_in (coded.Count r) = Count (range_in r)
kind_in (coded.Address r) = Address (range_in r)
kind_in (coded.Name names) = Name (names_in names.now)

abbrev pub kinds_in : List KindInCode → List FieldKind
kinds_in kinds = map kind_in kinds

-- ---- values that fit

abbrev pub IsAmong : List ℕ → ℕ → Type 0
IsAmong [] n = ⊥
IsAmong (v ∷ []) n = n ≡ v
IsAmong (v ∷ w ∷ vs) n = (n ≡ v) ⊎ IsAmong (w ∷ vs) n

abbrev pub InRange : Range → ℕ → Type 0
InRange Any n = Unit {0}
InRange (Between low high) n = (low ≤ n) × (n ≤ high)
InRange (Below limit) n = n < limit
InRange (Among values) n = IsAmong values n

-- a name's value is its place among the names
abbrev pub FieldFits : FieldKind → ℕ → Type 0
FieldFits (Count r) n = InRange r n × (n < 2 ^ 64)
FieldFits (Address r) n = InRange r n × (n < 2 ^ 64)
FieldFits (Name names) n = n < length names

abbrev pub Fits : List FieldKind → List ℕ → Type 0
Fits [] [] = Unit {0}
Fits (k ∷ ks) (v ∷ vs) = FieldFits k v × Fits ks vs
Fits ks vs = ⊥

-- the first values fit
abbrev pub FitsPrefix : List FieldKind → List ℕ → Type 0
FitsPrefix [] vs = Unit {0}
FitsPrefix (k ∷ ks) [] = ⊥
FitsPrefix (k ∷ ks) (v ∷ vs) = FieldFits k v × FitsPrefix ks vs

-- ---- spelling

abbrev pub name_at : List (List ℕ) → ℕ → List ℕ
name_at names n = get_or names n []

abbrev pub spell_field : FieldKind → ℕ → List ℕ
spell_field (Count r) n = count n
spell_field (Address r) n = address n
spell_field (Name names) n = name_at names n

-- the fields of the first values
abbrev pub spell : List FieldKind → List ℕ → List (List ℕ)
spell [] vs = []
spell (k ∷ ks) [] = []
spell (k ∷ ks) (v ∷ vs) = spell_field k v ∷ spell ks vs

-- ---- reading

abbrev pub ranged : Range → Option ℕ → Result ℕ RowFault
ranged r None = Err fault.Number
ranged r (Some n) = if is_in r n then Ok n else Err fault.Value

abbrev pub read_field : FieldKind → List ℕ → Result ℕ RowFault
read_field (Count r) field = ranged r (count_in field)
read_field (Address r) field = ranged r (address_in field)
read_field (Name names) field = ok_or (position (bytes_eq field) names) fault.Value

unfoldable pub next_of : List (List ℕ) → Result (List ℕ × List (List ℕ)) RowFault
next_of [] = Err fault.Fields
next_of (field ∷ fields) = if length field == 0 then Err fault.Fields else Ok (field, fields)

-- as many fields as kinds, none of them empty
unfoldable pub has_shape : List FieldKind → List (List ℕ) → Bool
has_shape [] fields = length fields == 0
has_shape (k ∷ ks) [] = false
has_shape (k ∷ ks) (f ∷ fs) = not (length f == 0) && has_shape ks fs

-- n fields, none of them empty
abbrev pub has_fields : ℕ → List (List ℕ) → Bool
has_fields zero fields = length fields == 0
has_fields (suc n) [] = false
has_fields (suc n) (f ∷ fs) = not (length f == 0) && has_fields n fs

unfoldable pub read_values : List FieldKind → List (List ℕ) → Result (List ℕ) RowFault
read_values [] fields = if length fields == 0 then Ok [] else Err fault.Fields
read_values (k ∷ ks) fields = do
  f ← next_of fields
  v ← read_field k f.0
  vs ← read_values ks f.1
  Ok (v ∷ vs)

unfoldable pub read_row : List FieldKind → List (List ℕ) → Result (List ℕ) RowFault
read_row ks fields = if is_shaped ks fields then read_values ks fields else Err fault.Fields

-- n values: the first ones, and zeros after them
abbrev pub padded : ℕ → List ℕ → List ℕ
padded zero vs = []
padded (suc n) [] = 0 ∷ padded n []
padded (suc n) (v ∷ vs) = v ∷ padded n vs

abbrev pub ok_padded : Result (List ℕ) RowFault → Result (List ℕ) RowFault
ok_padded (Ok vs) = Ok (padded 4 vs)
ok_padded (Err f) = Err f
