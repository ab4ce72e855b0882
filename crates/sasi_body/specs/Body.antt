-- The bytes of a body: a key and its partition, as commit logs and data files store them. The types of a table's columns,
-- the key's first, say which bytes a key and a value have.
use Rattle.std.specs.Prelude.{◌≡◌, ℕ, ◌-◌, ◌^◌, Bool, true, false, ◌&&◌, ◌||◌, ◌==◌, nat_eq, nat_lt, nat_le, List, [], length, Option, None, Some, slice_get, if◌then◌else◌, refl}
use Rattle.std.specs.Int.{w16, w64}
use Rattle.std.proofs.Common.{ap, sym, ◌∙◌}
use Rattle.std.specs.Option.{option_and_then, option_map_or}
use Rattle.std.specs.Str.{is_utf8}
use Rattle.std.specs.Cmp.Lexicographic.{pointwise, same_text}
use Rattle.sasi_host.specs.Names.{Bytes}
use Rattle.sasi_host.specs.declared.damage.FormatRule.TheVariants as rule
use Rattle.sasi_types.specs.declared.column.ColumnType.{ColumnType}
use Rattle.sasi_types.specs.declared.column.ColumnType.TheVariants as types
use Rattle.sasi_types.specs.declared.value.Value.{Value}
use Rattle.sasi_types.specs.Value.{stored}
use Rattle.sasi_model.specs.Step.{value_stored}
use Rattle.sasi_model.specs.Cells.{Partition}
use Rattle.sasi_formats.specs.Formats.{Coding, Format, Sized, Then, Optional, Counted, encoded}
use Rattle.std.specs.Bool.{then_some}
use Rattle.sasi_formats.specs.Codings.{when_is, passing}
use Rattle.sasi_formats.specs.Fields.{◌&◌, number, in_range, checked, mapped, flag, last}
pub use Rattle.sasi_model.specs.Stored.{Entry, cells_of, HasBody, IsBodyOf}

-- ---- values of a type

-- whether the bytes encode a value of the type
abbrev pub is_value : ColumnType → Bytes → Bool
is_value types.Text bytes = is_utf8 bytes
is_value types.Int bytes = length bytes == 4
is_value types.BigInt bytes = length bytes == 8
is_value types.Uuid bytes = length bytes == 16

-- the value of the type that these stored bytes encode
abbrev pub value_in : Option ColumnType → Bytes → Option Value
value_in found bytes = option_and_then (λ kind. then_some (is_value kind bytes && pointwise nat_eq (stored (value_stored kind bytes)) bytes) (value_stored kind bytes)) found

both_second : (a b : Bool) → a && b ≡ true → true ≡ b
both_second true b h = sym h
both_second false b h = absurd cc

pub value_back : (kind : Option ColumnType) (bytes : Bytes) (value : Value) → value_in kind bytes ≡ Some value → stored value ≡ bytes
value_back None bytes value h = absurd cc
value_back (Some kind) bytes value h =
    let is = when_is (is_value kind bytes && pointwise nat_eq (stored (value_stored kind bytes)) bytes) (value_stored kind bytes) value h in
    ap stored (sym is.1) ∙ same_text (stored (value_stored kind bytes)) bytes (both_second (is_value kind bytes) (pointwise nat_eq (stored (value_stored kind bytes)) bytes) is.0)

abbrev pub typed : Option ColumnType → Coding Bytes Value
typed kind = record { decode = value_in kind; encode = stored; canonical = value_back kind }

-- ---- a cell

-- the marker of the row, which is column 0, is an empty text; a column has the type at its position
abbrev pub kind_of : List ColumnType → ℕ → Option ColumnType
kind_of listed column = if column == 0 then Some types.Text else slice_get listed column

-- the column comes after the last one
abbrev pub is_next : Option Entry → ℕ → Bool
is_next before column = option_map_or (λ entry. nat_lt entry.0 column) before true

-- a column of the table, above those before
abbrev pub column_after : List ColumnType → List Entry → Format ℕ
column_after listed before = checked rule.Order 8 (is_next (last before)) (checked rule.Number 2 (λ column. nat_lt column (length listed)) (number w16))

-- a timestamp above that of the deletion
abbrev pub time : ℕ → Format ℕ
time deleted = checked rule.Number 8 (λ t. nat_lt deleted t && nat_le t (2 ^ 62)) (number w64)

-- 0 for a tombstone, which the marker never is, and 1 for a value
abbrev pub tag : ℕ → Format Bool
tag column = checked rule.Number 1 (λ live. live || nat_lt 0 column) flag

-- behind the 1 a length, and the stored bytes of a value
abbrev pub value : List ColumnType → ℕ → Format (Option Value)
value listed column = Optional (tag column) (Sized (in_range w16 0 (if column == 0 then 0 else 2 ^ 16 - 1)) rule.Text (typed (kind_of listed column)))

-- the column, the timestamp, and the value
abbrev pub cell : List ColumnType → ℕ → List Entry → Format Entry
cell listed deleted before =
    mapped (λ c. (c.0, record { time = c.1.0; value = c.1.1 })) (λ e. (e.0, (e.1.time, e.1.value))) (λ _. refl)
    (Then (column_after listed before) (λ column. time deleted & value listed column))

-- ---- a body

-- a length, and the key, whose bytes are those of a value of the first type
abbrev pub key : List ColumnType → Format Bytes
key listed = Sized (in_range w16 1 (2 ^ 16 - 1)) rule.Text (passing (λ bytes. option_map_or (λ kind. is_value kind bytes) (slice_get listed 0) false))

-- at most 64 cells, and one at least where nothing is deleted
abbrev pub cells : List ColumnType → ℕ → Format (List Entry)
cells listed deleted = Counted (checked rule.Number 2 (λ count. nat_le count 64 && (nat_lt 0 count || nat_lt 0 deleted)) (number w16)) (cell listed deleted)

-- the key, the timestamp of the deletion, 0 for none, and the cells
abbrev pub Content : Type 0
Content = Bytes × (ℕ × List Entry)

-- the format of a body in a table with these types
abbrev pub body_of : List ColumnType → Format Content
body_of listed = key listed & Then (in_range w64 0 (2 ^ 62)) (cells listed)

-- ---- the body of a key and its partition

abbrev pub content : Bytes → Partition → Content
content key part = (key, (part.deleted, cells_of part))

-- the bytes, which are the same whatever the types
unfoldable pub body : Bytes → Partition → Bytes
body key part = encoded (body_of []) (content key part)
