-- Short names for parts of the format of a body, which contracts and proofs cite.
use Rattle.std.specs.Prelude.{ℕ, ◌-◌, ◌^◌, Bool, false, Option, ◌&&◌, ◌||◌, ◌==◌, nat_lt, nat_le, List, if◌then◌else◌}
use Rattle.std.specs.Int.{w16, w64}
use Rattle.std.specs.Option.{option_map_or}
use Rattle.sasi_types.specs.declared.column.ColumnType.{ColumnType}
use Rattle.sasi_types.specs.declared.value.Value.{Value}
use Rattle.sasi_host.specs.Names.{Bytes}
use Rattle.sasi_host.specs.declared.damage.FormatRule.TheVariants as rule
use Rattle.sasi_model.specs.Stored.{Entry}
use Rattle.sasi_formats.specs.Formats.{Format, Sized, Then}
use Rattle.sasi_formats.specs.Fields.{in_range}
use Rattle.sasi_body.specs.Body.{cells, is_value, kind_of, typed}

abbrev pub most_bytes : ℕ → ℕ
most_bytes column = if column == 0 then 0 else 2 ^ 16 - 1

abbrev pub live : List ColumnType → ℕ → Format Value
live listed column = Sized (in_range w16 0 (most_bytes column)) rule.Text (typed (kind_of listed column))

abbrev pub is_typed : Option ColumnType → Bytes → Bool
is_typed found bytes = option_map_or (λ kind. is_value kind bytes) found false

abbrev pub may_be : ℕ → Bool → Bool
may_be column live = live || nat_lt 0 column

abbrev pub is_count : ℕ → ℕ → Bool
is_count deleted count = nat_le count 64 && (nat_lt 0 count || nat_lt 0 deleted)

abbrev pub deletion : Format ℕ
deletion = in_range w64 0 (2 ^ 62)

abbrev pub part : List ColumnType → Format (ℕ × List Entry)
part listed = Then deletion (cells listed)
