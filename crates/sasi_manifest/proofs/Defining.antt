-- When a new index applies.
use Rattle.std.proofs.Common.{◌≡◌, ◌<◌, ◌≤◌, ◌-◌, ◌^◌, Bool, true, false, not, ◌&&◌, length, Option, None, Some, refl, sym, ap, ◌∙◌, arith}
use Rattle.std.specs.Int.{w8, w16, w32}
use Rattle.std.specs.Prelude.{is_some}
use Rattle.std.proofs.lemmas.List.{length-map}
use Rattle.std.proofs.lemmas.Option.{slice_get-get_or, unwrap_or-slice_get}
use Rattle.sasi_types.specs.declared.column.ColumnType.{ColumnType}
use Rattle.sasi_types.specs.declared.index_def.IndexDef.{IndexDef}
use Rattle.sasi_types.specs.declared.mode.Mode.{Mode}
use Rattle.sasi_types.specs.declared.mode.Mode.TheVariants as modes
use Rattle.sasi_types.specs.declared.rule.Rule.{Rule}
use Rattle.sasi_types.specs.declared.rule.Rule.TheVariants.{Whole, Words}
use Rattle.sasi_host.specs.declared.damage.FormatRule.TheVariants as rule
use Rattle.sasi_model.specs.Abbreviations.{kind_of}
use Rattle.sasi_model.specs.Indexes.{index_on, is_text, mode_fits}
use Rattle.sasi_model.specs.State.{Definition}
use Rattle.sasi_schema.specs.IndexFacts.{IsIndexIn}
use Rattle.sasi_formats.specs.Fields.{flag, in_range, number}
use Rattle.sasi_formats.specs.Formats.{Fits}
use Rattle.sasi_formats.proofs.Fitting.{both_true, number_fits, checked_fits, fits_checked, range_fits, fits_range}
use Rattle.sasi_manifest.specs.declared.edit.Edit.TheVariants.{CreateIndex}
use Rattle.sasi_manifest.specs.declared.listing.Listing.{Listing}
use Rattle.sasi_manifest.specs.Edits.{Applies, EditFields, analysis, any_mode, create_index, definition_at, edit, folding, index_names, index_numbers, is_later_tag, is_open_column, is_rule_code, new_index_def, on_column, rule_byte, rule_code}
use Rattle.sasi_manifest.specs.ListedDefinition.{ListedDefinition}
use Rattle.sasi_manifest.specs.ListedFiles.{is_among}
use Rattle.sasi_manifest.specs.Listings.{fold_of, index_edit, listed_definitions}
use Rattle.sasi_manifest.specs.Naming.{IsName, IsFree}
use Rattle.sasi_manifest.proofs.NameFits.{fits_name, not_any, open_name_fits}

-- ---- how a column is indexed

mode_fits_byte : (m : Mode) → Fits any_mode m
mode_fits_byte modes.Prefix = (number_fits w8 0 (omega arith), refl)
mode_fits_byte modes.Contains = (number_fits w8 1 (omega arith), refl)
mode_fits_byte modes.Sparse = (number_fits w8 2 (omega arith), refl)

flag_fits : (b : Bool) → Fits flag b
flag_fits false = (number_fits w8 0 (omega arith), refl)
flag_fits true = (number_fits w8 1 (omega arith), refl)

folding_fits : (r : Option Rule) → Fits (folding (rule_code r)) (r, fold_of r)
folding_fits None = (flag_fits false, refl)
folding_fits (Some (Whole fold)) = (flag_fits fold, refl)
folding_fits (Some (Words fold)) = (flag_fits fold, refl)

code_small : (r : Option Rule) → rule_code r < 2 ^ 8
code_small None = omega arith
code_small (Some (Whole fold)) = omega arith
code_small (Some (Words fold)) = omega arith

own_code : (r : Option Rule) (type : ColumnType) → Fits (rule_byte type) (rule_code r) → Fits (analysis type) (r, fold_of r)
own_code None type fits = ((fits, folding_fits None), refl)
own_code (Some (Whole fold)) type fits = ((fits, folding_fits (Some (Whole fold))), refl)
own_code (Some (Words fold)) type fits = ((fits, folding_fits (Some (Words fold))), refl)

analysis_fits : (r : Option Rule) (type : ColumnType) → is_rule_code (is_text type) (rule_code r) ≡ true → Fits (analysis type) (r, fold_of r)
analysis_fits r type is = own_code r type (checked_fits rule.Number 1 (is_rule_code (is_text type)) (number w8) (rule_code r) (number_fits w8 (rule_code r) (code_small r)) is)

-- ---- a new index

-- what a new index needs of its column
pub record CanIndex (d : Definition) (def : IndexDef) : Type 0 where
  pub column_some : 1 ≤ def.column
  pub column_within : def.column ≤ length d.columns - 1
  pub column_fits : def.column < 2 ^ 16
  pub typed : mode_fits modes.Prefix (kind_of d def.column) ≡ true
  pub column_free : is_some (index_on def.column d.indexes) ≡ false
  pub mode : mode_fits def.mode (kind_of d def.column) ≡ true
  pub rule : is_rule_code (is_text (kind_of d def.column)) (rule_code def.rule) ≡ true
  pub kind : def.kind ≡ kind_of d def.column

column_fits : (d : Definition) (def : IndexDef) → CanIndex d def → Fits (on_column d) (def.column, (def.mode, (def.rule, fold_of def.rule)))
column_fits d def can =
    let open_column : is_open_column d def.column ≡ true = ap (λ b. b && not (is_some (index_on def.column d.indexes))) can.typed ∙ ap not can.column_free in
    let range = range_fits w16 1 (length d.columns - 1) def.column can.column_fits can.column_some can.column_within in (
      checked_fits rule.Number 2 (is_open_column d) (in_range w16 1 (length d.columns - 1)) def.column range open_column,
      (checked_fits rule.Number 1 (λ m. mode_fits m (kind_of d def.column)) any_mode def.mode (mode_fits_byte def.mode) can.mode, analysis_fits def.rule (kind_of d def.column) can.rule),
    )

fits_column : (d : Definition) (def : IndexDef) (fold : Bool) → Fits (on_column d) (def.column, (def.mode, (def.rule, fold))) → def.kind ≡ kind_of d def.column → CanIndex d def
fits_column d def fold h kind_is =
    let open_column = fits_checked rule.Number 2 (is_open_column d) (in_range w16 1 (length d.columns - 1)) def.column h.0 in
    let range = fits_range w16 1 (length d.columns - 1) def.column open_column.0 in
    let tests = both_true (mode_fits modes.Prefix (kind_of d def.column)) (not (is_some (index_on def.column d.indexes))) open_column.1 in
    let mode_is = fits_checked rule.Number 1 (λ m. mode_fits m (kind_of d def.column)) any_mode def.mode h.1.0 in
    let coded = fits_checked rule.Number 1 (is_rule_code (is_text (kind_of d def.column))) (number w8) (rule_code def.rule) h.1.1.0.0 in
    record {
      column_some = range.above;
      column_within = range.below;
      column_fits = range.fits;
      typed = tests.0;
      column_free = not_any (is_some (index_on def.column d.indexes)) tests.1;
      mode = mode_is.1;
      rule = coded.1;
      kind = kind_is;
    }

-- what a new index needs
pub record CanDefine (listing : Listing) (def : IndexDef) : Type 0 where
  pub number_some : 1 ≤ def.number
  pub number_fits : def.number < 2 ^ 32
  pub number_free : is_among (index_numbers listing.tables) def.number ≡ false
  pub table_some : 1 ≤ def.table
  pub table_within : def.table ≤ length listing.tables
  pub table_fits : def.table < 2 ^ 32
  pub name_is : IsName def.name
  pub name_free : IsFree (index_names (listed_definitions listing.tables)) def.name
  pub on_table : CanIndex (definition_at (listed_definitions listing.tables) def.table) def

pub index_applies : (listing : Listing) (def : IndexDef) → CanDefine listing def → Applies (Some listing) (index_edit def)
unfolding edit create_index
index_applies listing def can =
    let ds = listed_definitions listing.tables in
    let numbered = checked_fits rule.Number 4 (λ n. not (is_among (index_numbers listing.tables) n)) (in_range w32 1 (2 ^ 32 - 1)) def.number
    (range_fits w32 1 (2 ^ 32 - 1) def.number can.number_fits can.number_some (omega (arith, can.number_fits))) (ap not can.number_free) in
    let counted : length ds ≡ length listing.tables = length-map listing.tables (λ (t : ListedDefinition). t.definition) in
    let placed = range_fits w32 1 (length ds) def.table can.table_fits can.table_some (omega (arith, can.table_within, counted)) in
    let named = open_name_fits (index_names ds) def.name can.name_is can.name_free in
    let tag = checked_fits rule.Number 1 is_later_tag (number w8) 3 (number_fits w8 3 (omega arith)) refl in
    let fold = fold_of def.rule in
    let whole : Some (record def { kind = kind_of (definition_at ds def.table) def.column }, fold) ≡ Some (def, fold) = ap (λ k. Some (record def { kind = k }, fold)) (sym can.on_table.kind) in
    let fields : Fits (new_index_def listing.tables) (def, fold) = ((numbered, (placed, (named, column_fits (definition_at ds def.table) def can.on_table))), whole) in
    ((tag, (fields, refl)), refl)

same_kind : (fields made : EditFields) → Some made ≡ Some fields → fields.0.kind ≡ made.0.kind
same_kind fields made is = (let same : made ≡ fields = cc in sym (ap (λ (f : EditFields). f.0.kind) same))

pub applies_index : (listing : Listing) (def : IndexDef) (fold : Bool) → Applies (Some listing) (CreateIndex def fold) → CanDefine listing def
unfolding edit create_index
applies_index listing def fold h =
    let ds = listed_definitions listing.tables in
    let fields = h.0.1.0.0 in
    let kind_is : def.kind ≡ kind_of (definition_at ds def.table) def.column = same_kind (def, fold) (record def { kind = kind_of (definition_at ds def.table) def.column }, fold) h.0.1.0.1 in
    let numbered = fits_checked rule.Number 4 (λ n. not (is_among (index_numbers listing.tables) n)) (in_range w32 1 (2 ^ 32 - 1)) def.number fields.0 in
    let range = fits_range w32 1 (2 ^ 32 - 1) def.number numbered.0 in
    let counted : length ds ≡ length listing.tables = length-map listing.tables (λ (t : ListedDefinition). t.definition) in
    let placed = fits_range w32 1 (length ds) def.table fields.1.0 in
    let named = fits_name (index_names ds) def.name fields.1.1.0 in
    record {
      number_some = range.above;
      number_fits = range.fits;
      number_free = not_any (is_among (index_numbers listing.tables) def.number) numbered.1;
      table_some = placed.above;
      table_within = omega (arith, placed.below, counted);
      table_fits = placed.fits;
      name_is = named.is;
      name_free = named.free;
      on_table = fits_column (definition_at ds def.table) def fold fields.1.1.1 kind_is;
    }

-- a manifest doesn't begin with one
pub no_index : (def : IndexDef) (fold : Bool) → Applies None (CreateIndex def fold) → ⊥
unfolding edit
no_index def fold h = (let range = fits_range w8 1 1 3 h.0.0 in omega (arith, range.below))

-- ---- it is an index of a listed table

ruled : (of_text : Bool) (r : Option Rule) → is_rule_code of_text (rule_code r) ≡ true → is_some r ≡ of_text
ruled true None is = cc
ruled true (Some (Whole fold)) is = refl
ruled true (Some (Words fold)) is = refl
ruled false None is = refl
ruled false (Some (Whole fold)) is = cc
ruled false (Some (Words fold)) is = cc

pub index_in : (listing : Listing) (def : IndexDef) → CanDefine listing def → IsIndexIn (listed_definitions listing.tables) def
index_in listing def can =
    let ds = listed_definitions listing.tables in
    let on = can.on_table in
    let counted : length ds ≡ length listing.tables = length-map listing.tables (λ (t : ListedDefinition). t.definition) in
    record {
      definition = definition_at ds def.table;
      above = can.table_some;
      found = slice_get-get_or ds (def.table - 1) _ (omega (arith, can.table_some, can.table_within, counted)) ∙ ap Some (sym (unwrap_or-slice_get ds (def.table - 1) _));
      is = record {
        table = refl;
        above = on.column_some;
        within = omega (arith, on.column_some, on.column_within);
        kind = on.kind;
        ruled = ruled (is_text (kind_of (definition_at ds def.table) def.column)) def.rule on.rule ∙ sym (ap is_text on.kind);
      };
    }
