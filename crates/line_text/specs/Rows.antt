-- Rows: what the fields of a line have to be, each by its kind, and the fault of fields that
-- aren't so.
use Rattle.std.specs.Prelude.{ℕ, Bool, true, ◌&&◌, not, List, [], ◌∷◌, length, Option, Some, None, ◌==◌, nat_lt, nat_le, if◌then◌else◌}
use Rattle.std.specs.List.{list_any, list_all}
use Rattle.std.specs.Option.{option_or}
use Rattle.std.specs.Str.{bytes_eq}
use Rattle.line_text.specs.declared.kind.RowFault.{RowFault}
use Rattle.line_text.specs.declared.kind.RowFault.TheVariants as fault
use Rattle.line_text.specs.Numerals.{count_in, address_in}

-- the numbers that a field may have: each, those from the first to the last, those below a limit,
-- or some
pub data Range : Type 0 where
  Any : Range
  Between : ℕ → ℕ → Range
  Below : ℕ → Range
  Among : List ℕ → Range

abbrev pub is_in : Range → ℕ → Bool
is_in Any n = true
is_in (Between low high) n = nat_le low n && nat_le n high
is_in (Below limit) n = nat_lt n limit
is_in (Among values) n = list_any (λ v. n == v) values

-- a count or an address in a range, or one of some names
pub data FieldKind : Type 0 where
  Count : Range → FieldKind
  Address : Range → FieldKind
  Name : List (List ℕ) → FieldKind

-- Number where the field isn't spelled as it should be, Value where it isn't in its range or none
-- of its names
abbrev pub number_fault : Range → Option ℕ → Option RowFault
number_fault range None = Some fault.Number
number_fault range (Some n) = if is_in range n then None else Some fault.Value

abbrev pub field_fault : FieldKind → List ℕ → Option RowFault
field_fault (Count range) field = number_fault range (count_in field)
field_fault (Address range) field = number_fault range (address_in field)
field_fault (Name names) field = if list_any (bytes_eq field) names then None else Some fault.Value

-- the first bad field from the left
abbrev pub fields_fault : List FieldKind → List (List ℕ) → Option RowFault
fields_fault [] fields = None
fields_fault (kind ∷ kinds) [] = None
fields_fault (kind ∷ kinds) (field ∷ fields) =
    option_or (field_fault kind field) (fields_fault kinds fields)

-- as many fields as kinds, none of them empty
abbrev pub is_shaped : List FieldKind → List (List ℕ) → Bool
is_shaped kinds fields = length fields == length kinds && list_all (λ f. not (length f == 0)) fields

-- the fault of a row
unfoldable pub row_fault : List FieldKind → List (List ℕ) → Option RowFault
row_fault kinds fields =
    if is_shaped kinds fields then fields_fault kinds fields else Some fault.Fields
