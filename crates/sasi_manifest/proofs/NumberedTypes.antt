-- One more table's types under its number.
use Rattle.std.proofs.Common.{◌≡◌, ℕ, suc, ◌+◌, ◌<◌, List, [], ◌∷◌, ◌++◌, length, map, drop, get_or, Option, Some, refl, sym, ap, ◌∙◌, add-one, append_assoc}
use Rattle.std.proofs.Math.Seq.{drop-cons}
use Rattle.std.specs.List.{cons_option}
use Rattle.std.specs.Option.{option_map}
use Rattle.sasi_types.specs.declared.column.ColumnType.{ColumnType}
use Rattle.sasi_model.specs.Abbreviations.{types_of}
use Rattle.sasi_schema.specs.Defined.{definition}
use Rattle.sasi_schema.specs.Numbers.{IsKeyAt}
use Rattle.sasi_schema.proofs.Keys.{column_types_are}
use Rattle.sasi_manifest.specs.declared.listed.ListedTable.{ListedTable}
use Rattle.sasi_manifest.specs.ListedTables.{listed}
use Rattle.sasi_manifest.specs.Types.{numbered_types}

abbrev Types : Type 0
Types = List (ℕ × List ColumnType)

pub types_more : (tables : List ListedTable) (i : ℕ) (t : ListedTable) (own : List ColumnType) (types new all : Types) → i < length tables → t ≡ get_or tables i t
    → IsKeyAt t.table.key t.table.columns → own ≡ types_of (definition t.table) → new ≡ types ++ (i + 1, own) ∷ []
    → types ++ numbered_types (i + 1) (map listed (drop i tables)) ≡ all → new ++ numbered_types (i + 1 + 1) (map listed (drop (i + 1) tables)) ≡ all
types_more tables i t own types new all inside is at own_is pushed so_far =
    let rest = numbered_types (suc (i + 1)) (map listed (drop (i + 1) tables)) in
    let next : drop i tables ≡ t ∷ drop (i + 1) tables = rw (add-one, drop-cons tables i t inside, ← is) refl in
    let entry : numbered_types (i + 1) (map listed (drop i tables)) ≡ (i + 1, own) ∷ rest =
    ap (λ (l : List ListedTable). numbered_types (i + 1) (map listed l)) next
    ∙ ap (λ (o : Option (List ColumnType)). cons_option (option_map (λ types. (i + 1, types)) o) rest) (column_types_are (definition t.table) at ∙ ap Some (sym own_is)) in
    ap (λ (n : ℕ). new ++ numbered_types n (map listed (drop (i + 1) tables))) (add-one (i + 1))
    ∙ ap (λ (l : Types). l ++ rest) pushed ∙ append_assoc types ((i + 1, own) ∷ []) rest
    ∙ ap (λ (l : Types). types ++ l) (sym entry) ∙ so_far
