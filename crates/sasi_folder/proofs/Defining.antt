-- An index that a statement defines can be listed.
use Rattle.std.specs.Prelude.{◌≡◌, ℕ, zero, suc, ◌-◌, ◌≤◌, ◌<◌, ◌^◌, Bool, true, false, not, ◌&&◌, ◌||◌, ◌==◌, codes, is_some, unwrap_or, List, [], ◌∷◌, ◌++◌, length, take, nat_eq, slice_get, Option, Some, None, refl}
use Rattle.std.proofs.Common.{sym, ap, subst, ◌∙◌, arith, length-append, length-take}
use Rattle.std.proofs.lemmas.Bool.{or_parts}
use Rattle.std.proofs.lemmas.Bool.Decides.{nat_tests}
use Rattle.std.proofs.lemmas.List.{length-map}
use Rattle.std.proofs.lemmas.List.Folds.{list_all-append}
use Rattle.std.proofs.lemmas.Option.{same_Some}
use Rattle.std.specs.List.{AllByRecursion, list_all}
use Rattle.std.specs.Option.{option_and_then, option_map}
use Rattle.sasi_types.specs.declared.column.ColumnType.{ColumnType}
use Rattle.sasi_types.specs.declared.column.ColumnType.TheVariants as types
use Rattle.sasi_types.specs.declared.mode.Mode.{Mode}
use Rattle.sasi_types.specs.declared.mode.Mode.TheVariants as modes
use Rattle.sasi_types.specs.declared.rule.Rule.{Rule}
use Rattle.sasi_types.specs.declared.rule.Rule.TheVariants.{Whole, Words}
use Rattle.sasi_types.specs.declared.statement.Statement.TheVariants.{CreateIndex}
use Rattle.sasi_model.specs.Abbreviations.{definitions, first_refusal, kind_of, types_of}
use Rattle.sasi_model.specs.Indexes.{IndexOption, class_given, default_name, index_made, index_name, index_on, indexes_of, is_text, mode_fits, mode_given, new_index}
use Rattle.sasi_model.specs.Naming.{IsName, IsWord}
use Rattle.sasi_model.specs.Refusals.{index_column_rules, index_rules, mode_rule, option_rules, refusal, type_of_column}
use Rattle.sasi_model.specs.State.{Column, Definition, Index, State, number_at, number_of_column, position_in}
use Rattle.sasi_model.specs.Tokens.{is_word_byte}
use Rattle.sasi_model.specs.WellFormed.{IsNameOrNone, IsWellFormed}
use Rattle.sasi_schema.proofs.IndexColumns.{numbered_type}
use Rattle.sasi_schema.proofs.Indexed.{number_within}
use Rattle.sasi_schema.proofs.NewIndexes.{stands_at_number}
use Rattle.sasi_schema.specs.Checks.{column_rules}
use Rattle.sasi_schema.specs.SchemaViews.{IsNewIndex, index_of_new, numbered_def}
use Rattle.sasi_schema.specs.declared.index.NewIndex.{NewIndex}
use Rattle.sasi_formats.proofs.Fitting.{both_true}
use Rattle.sasi_manifest.proofs.Defining.{CanIndex, index_applies}
use Rattle.sasi_manifest.specs.declared.listing.Listing.{Listing}
use Rattle.sasi_manifest.specs.Edits.{Applies, definition_at, index_names, index_numbers, is_rule_code, rule_code}
use Rattle.sasi_manifest.specs.ListedDefinition.{ListedDefinition}
use Rattle.sasi_manifest.specs.ListedFiles.{is_among}
use Rattle.sasi_manifest.specs.Listings.{index_edit, listed_definitions}
use Rattle.sasi_manifest.specs.Naming.{IsFree}
use Rattle.sasi_folder.proofs.Creating.{IsOut, apart_at, free_of, none_applies, not_false}

-- ---- the name

words_joined : (a b : List ℕ) → IsWord a → IsWord b → IsWord (a ++ b)
words_joined a b first second = list_all-append is_word_byte a b ∙ ap (λ (t : Bool). t && list_all is_word_byte b) first ∙ second

word_cut : (n : ℕ) (bytes : List ℕ) → IsWord bytes → IsWord (take n bytes)
word_cut zero bytes is = refl
word_cut (suc n) [] is = refl
word_cut (suc n) (b ∷ bytes) is =
    let parts = both_true (is_word_byte b) (list_all is_word_byte bytes) is in
    ap (λ (t : Bool). t && list_all is_word_byte (take n bytes)) parts.0 ∙ word_cut n bytes parts.1

default_is_name : (table column : List ℕ) → IsName table → IsName column → IsName (default_name table column)
default_is_name table column of_table of_column =
    let left : List ℕ = codes "_" ++ (column ++ codes "_idx") in
    let size = length-take 48 (table ++ left) in
    record {
      some = omega (arith, size, length-append table left, of_table.some);
      short = omega (arith, size);
      word = word_cut 48 (table ++ left) (words_joined table left of_table.word (words_joined (codes "_") (column ++ codes "_idx") refl (words_joined column (codes "_idx") of_column.word refl)));
    }

index_name_is : (name : Option (List ℕ)) (table column : List ℕ) → IsNameOrNone name → IsName table → IsName column → IsName (index_name name table column)
index_name_is None table column given of_table of_column = default_is_name table column of_table of_column
index_name_is (Some name) table column given of_table of_column = given

-- ---- the column

-- the type of a column by its name is that by its number
kind_found : (d : Definition) (column : List ℕ) (number : ℕ) (type : ColumnType) → 1 ≤ number → number_of_column d column ≡ Some number → type_of_column d column ≡ Some type → type ≡ kind_of d number
kind_found d column number type above numbered typed = by (position_in column d.columns) numbered typed
  where
    above_zero : number ≡ suc (number - 1)
    above_zero = omega (arith, above)

    by_column : (p : ℕ) (found : Option Column) → slice_get d.columns p ≡ found → number_at d.key p ≡ number → option_map (λ (c : Column). c.1) found ≡ Some type → type ≡ kind_of d number
    by_column p None got placed typed = cc
    by_column p (Some c) got placed typed =
        let there = numbered_type d p (number - 1) c got (placed ∙ above_zero) in
        let is : c.1 ≡ type = cc in
        sym (ap (λ (o : Option ColumnType). unwrap_or o types.Text) (ap (slice_get (types_of d)) above_zero ∙ there) ∙ is)

    by : (position : Option ℕ) → option_map (number_at d.key) position ≡ Some number → option_and_then (λ p. option_map (λ (c : Column). c.1) (slice_get d.columns p)) position ≡ Some type → type ≡ kind_of d number
    by None numbered typed = cc
    by (Some p) numbered typed = (let placed : number_at d.key p ≡ number = cc in by_column p (slice_get d.columns p) refl placed typed)

prefix_fits : (m : Mode) (type : ColumnType) → mode_fits m type ≡ true → mode_fits modes.Prefix type ≡ true
prefix_fits m types.Text is = refl
prefix_fits m types.Int is = refl
prefix_fits m types.BigInt is = refl
prefix_fits modes.Prefix types.Uuid is = is
prefix_fits modes.Contains types.Uuid is = is
prefix_fits modes.Sparse types.Uuid is = is

-- a text has a rule, and a number none
coded : (of_text : Bool) (r : Option Rule) → is_some r ≡ of_text → is_rule_code of_text (rule_code r) ≡ true
coded true None is = cc
coded true (Some (Whole fold)) is = refl
coded true (Some (Words fold)) is = refl
coded false None is = refl
coded false (Some (Whole fold)) is = cc
coded false (Some (Words fold)) is = cc

-- ---- rules that don't apply

-- the name is free, the column has no index, and the mode is one for its type
record IsOpen (tables : List Definition) (d : Definition) (name : List ℕ) (new : NewIndex) : Type 0 where
  pub name_is : name ≡ new.name
  pub name_free : IsFree (index_names tables) new.name
  pub column_free : is_some (index_on new.column d.indexes) ≡ false
  pub mode : mode_fits new.mode (kind_of d new.column) ≡ true

is_open : (tables : List Definition) (d : Definition) (name column class : List ℕ) (options : List IndexOption) (new : NewIndex) → 1 ≤ new.column
    → AllByRecursion IsOut (index_column_rules tables d name column class options (number_of_column d column) (type_of_column d column))
    → index_made name (number_of_column d column) (type_of_column d column) options ≡ Some (index_of_new new) → IsOpen tables d name new
is_open tables d name column class options new above all made = by (number_of_column d column) refl (type_of_column d column) refl all made
  where
    by : (number : Option ℕ) → number_of_column d column ≡ number → (type : Option ColumnType) → type_of_column d column ≡ type
        → AllByRecursion IsOut (index_column_rules tables d name column class options number type) → index_made name number type options ≡ Some (index_of_new new) → IsOpen tables d name new
    by None numbered type typed all made = cc
    by (Some number) numbered None typed all made = cc
    by (Some number) numbered (Some type) typed all made =
        let index = same_Some (new_index name number type options) (index_of_new new) made in
        let named : name ≡ new.name = ap (λ (i : Index). i.name) index in
        let on : number ≡ new.column = ap (λ (i : Index). i.column) index in
        let with_mode : mode_given options ≡ new.mode = ap (λ (i : Index). i.mode) index in
        let kind : type ≡ kind_of d new.column = kind_found d column new.column type above (numbered ∙ ap Some on) typed in
        let words = apart_at IsOut (option_rules type (class_given options) [] options) (mode_rule column number type options ∷ []) all.1.1.1 in
        let fits = not_false (mode_fits (mode_given options) type) (or_parts (number == 0) (not (mode_fits (mode_given options) type)) words.1.0).1 in
        record {
          name_is = named;
          name_free = subst (IsFree (index_names tables)) named (free_of (λ (i : Index). i.name) name (indexes_of tables) all.0);
          column_free = subst (λ (n : ℕ). is_some (index_on n d.indexes) ≡ false) on all.1.0;
          mode = subst (λ (t : ColumnType). mode_fits new.mode t ≡ true) kind (subst (λ (m : Mode). mode_fits m type ≡ true) with_mode fits);
        }

can_index : (tables : List Definition) (name : Option (List ℕ)) (table column : List ℕ) (options : List IndexOption) (new : NewIndex) (number : ℕ) → (is : IsNewIndex tables name table column options new)
    → IsOpen tables is.definition (index_name name table column) new → new.column < 2 ^ 16 → CanIndex is.definition (numbered_def number new)
can_index tables name table column options new number is opened narrow =
    let type = kind_of is.definition new.column in
    record {
      column_some = is.above;
      column_within = omega (arith, is.within);
      column_fits = narrow;
      typed = prefix_fits new.mode type opened.mode;
      column_free = opened.column_free;
      mode = opened.mode;
      rule = coded (is_text type) new.rule (is.ruled ∙ ap is_text is.kind);
      kind = is.kind;
    }

-- ---- the number

is_other : (high number n : ℕ) → n ≤ high → high < number → nat_eq number n ≡ false
is_other high number n low above = grind (arith, nat_tests)

number_above : (high number : ℕ) (numbers others : List ℕ) → AllByRecursion (λ (n : ℕ). n ≤ high) numbers → high < number → is_among others number ≡ false → is_among (numbers ++ others) number ≡ false
number_above high number [] others all above none = none
number_above high number (n ∷ numbers) others all above none =
    ap (λ (t : Bool). t || is_among (numbers ++ others) number) (is_other high number n all.0 above) ∙ number_above high number numbers others all.1 above none

-- a number above those of all indexes is none of them
pub numbers_above : (high number : ℕ) (tables : List ListedDefinition) → AllByRecursion (λ (t : ListedDefinition). AllByRecursion (λ (n : ℕ). n ≤ high) t.numbers) tables → high < number → is_among (index_numbers tables) number ≡ false
numbers_above high number [] all above = refl
numbers_above high number (t ∷ tables) all above = number_above high number t.numbers (index_numbers tables) all.0 above (numbers_above high number tables all.1 above)

-- ---- the index

-- **An index that a statement defines can be listed** under each number that is free, where what is listed are the tables of the state.
pub can_define : (listing : Listing) (s : State) (name : Option (List ℕ)) (table column class : List ℕ) (options : List IndexOption) (stepped : Bool) (new : NewIndex) (number : ℕ)
    → definitions s.tables ≡ listed_definitions listing.tables → IsWellFormed (CreateIndex name table column class options stepped) → refusal s (CreateIndex name table column class options stepped) ≡ None
    → IsNewIndex (definitions s.tables) name table column options new → new.table < 2 ^ 32 → new.column < 2 ^ 16 → 1 ≤ number → number < 2 ^ 32 → is_among (index_numbers listing.tables) number ≡ false
    → Applies (Some listing) (index_edit (numbered_def number new))
unfolding refusal
can_define listing s name table column class options stepped new number same_tables written taken is small narrow some fits free =
    let tables = definitions s.tables in
    let title = index_name name table column in
    let on_table : first_refusal (column_rules tables is.definition title column class options) ≡ None =
    subst (λ (found : Option Definition). first_refusal (index_rules tables name table column class options found) ≡ None) is.found taken in
    let all = none_applies (column_rules tables is.definition title column class options) on_table in
    let opened = is_open tables is.definition title column class options new is.above all.1 is.index in
    let within = number_within table tables new.table is.number in
    let counted : length tables ≡ length listing.tables = ap length same_tables ∙ length-map listing.tables (λ (t : ListedDefinition). t.definition) in
    let placed : definition_at tables new.table ≡ is.definition =
    ap (λ (found : Option Definition). unwrap_or found (record { name = []; columns = []; key = 0; indexes = [] })) (stands_at_number table tables is.definition new.table is.found is.number) in
    let can = can_index tables name table column options new number is opened narrow in
    index_applies listing (numbered_def number new) (record {
      number_some = some;
      number_fits = fits;
      number_free = free;
      table_some = within.0;
      table_within = omega (arith, within.1, counted);
      table_fits = small;
      name_is = subst IsName opened.name_is (index_name_is name table column written.0 written.1 written.2);
      name_free = subst (λ (ds : List Definition). IsFree (index_names ds) new.name) same_tables opened.name_free;
      on_table = subst (λ (ds : List Definition). CanIndex (definition_at ds new.table) (numbered_def number new)) same_tables
          (subst (λ (d : Definition). CanIndex d (numbered_def number new)) (sym placed) can);
    })
