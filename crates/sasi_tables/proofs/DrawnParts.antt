-- The numbers that a flush draws, and the parts of the index files that it writes.
use Rattle.std.proofs.Common.{◌≡◌, ℕ, suc, ◌<◌, ◌≤◌, ◌+◌, ◌-◌, ◌^◌, Bool, true, false, if◌then◌else◌, List, [], ◌∷◌, ◌++◌, map, length, slice_get, None, Some, Option, refl, sym, ap, subst, ◌∙◌, arith}
use Rattle.std.specs.Prelude.{nat_eq}
use Rattle.std.specs.FinMap as map_
use Rattle.std.proofs.lemmas.Bool.Decides.{nat_tests}
use Rattle.std.proofs.lemmas.List.{length-map}
use Rattle.std.specs.List.{AllByRecursion}
use Rattle.std.specs.Option.{option_map_or}
use Rattle.sasi_types.specs.declared.class.Class.{Class}
use Rattle.sasi_types.specs.declared.partitioner.Partitioner.{Partitioner}
use Rattle.sasi_host.specs.View.{View}
use Rattle.sasi_model.specs.Abbreviations.{types_of}
use Rattle.sasi_schema.specs.Defined.{definition, numbers_of}
use Rattle.sasi_manifest.proofs.FewIndexes.{numbers_few}
use Rattle.sasi_manifest.proofs.Replacing.{At}
use Rattle.sasi_manifest.specs.declared.files.PartNumber.{PartNumber}
use Rattle.sasi_manifest.specs.declared.listed.ListedTable.{ListedTable}
use Rattle.sasi_manifest.specs.declared.listing.Listing.{Listing}
use Rattle.sasi_manifest.specs.Consistent.{HasIndexes, IsConsistent}
use Rattle.sasi_manifest.specs.Edits.{numbers_at}
use Rattle.sasi_manifest.specs.ListedDefinition.{ListedDefinition}
use Rattle.sasi_manifest.specs.Listings.{by_number}
use Rattle.sasi_manifest.specs.ListedFiles.{FitParts}
use Rattle.sasi_manifest.specs.ListedTables.{listed}
use Rattle.sasi_memtable.specs.MemtableView.{MemtableView}
use Rattle.sasi_layout.proofs.Parts.{AreApart, rising_few, drawn_fit, drawn_indexes, drawn_length, parts_of_table, tables_apart}
use Rattle.sasi_layout.specs.Layout.{Layout, TableParts, Used, rising_numbers, drawn, listed_of}
use Rattle.sasi_layout.specs.Moves.{flush_parts}
use Rattle.sasi_layout.specs.Serving.{AreStorable, Serves, StoreInMemory}
use Rattle.sasi_layout.specs.Spent.{first_spent, part_draws}
use Rattle.sasi_layout.specs.declared.number_kind.NumberKind.{NumberKind}
use Rattle.sasi_layout.specs.declared.number_kind.NumberKind.TheVariants as kinds
use Rattle.sasi_recover.specs.declared.opened.Numbers.{Numbers}
use Rattle.sasi_tables.specs.Flushing.{AreTableIndexes, CanIndex}
use Rattle.sasi_tables.specs.FlushDraws.{parts_for}
use Rattle.sasi_tables.specs.Held.{KnowsDef}
use Rattle.sasi_tables.specs.Numbers.{flush_draws}
use Rattle.sasi_tables.proofs.RisingIndexes.{are_built, are_known, are_typed, number_of, rising_are, table_indexes}
use Rattle.sasi_tables.proofs.Composition.{numbered_at}
use Rattle.sasi_tables.proofs.TablesInMemory.{all_at, at_numbered, seen_as}

-- ---- the numbers that are left

-- a number is left for each part where there is room for so many
parts_left : (used : ℕ) (parts : List PartNumber) (rest : List (NumberKind × ℕ)) → used + length parts < 2 ^ 32 → first_spent (part_draws used parts ++ rest) None ≡ first_spent rest None
parts_left used [] rest room = refl
parts_left used (p ∷ parts) rest room =
    let left : nat_eq used (2 ^ 32 - 1) ≡ false = grind (arith, nat_tests, room) in
    ap (λ b. if b then Some kinds.Part else first_spent (part_draws (suc used) parts ++ rest) None) left ∙ parts_left (suc used) parts rest (omega (arith, room))

-- and else the last one is spent on the way
parts_spent : (used : ℕ) (parts : List PartNumber) (rest : List (NumberKind × ℕ)) → used < 2 ^ 32 → 2 ^ 32 ≤ used + length parts → first_spent (part_draws used parts ++ rest) None ≡ Some kinds.Part
parts_spent used [] rest fits over = absurd (omega (arith, fits, over))
parts_spent used (p ∷ parts) rest fits over = by (nat_eq used (2 ^ 32 - 1)) refl (parts_spent (suc used) parts rest)
  where
    by : (b : Bool) → nat_eq used (2 ^ 32 - 1) ≡ b → (suc used < 2 ^ 32 → 2 ^ 32 ≤ suc used + length parts → first_spent (part_draws (suc used) parts ++ rest) None ≡ Some kinds.Part)
        → (if b then Some kinds.Part else first_spent (part_draws (suc used) parts ++ rest) None) ≡ Some kinds.Part
    by true is rest_is = refl
    by false is rest_is = rest_is (let more : suc used < 2 ^ 32 = grind (arith, nat_tests, is, fits) in more) (omega (arith, over))

abbrev draws_behind : ℕ → ℕ → List PartNumber → List (NumberKind × ℕ)
draws_behind part log parts = part_draws part parts ++ (kinds.Log, log) ∷ []

no_data : (old : Numbers) → old.«data» ≡ 2 ^ 32 - 1 → (parts : List PartNumber) → first_spent (flush_draws old parts) None ≡ Some kinds.Data
no_data old is parts =
    let spent : nat_eq old.«data» (2 ^ 32 - 1) ≡ true = grind (arith, nat_tests, is) in
    ap (λ b. if b then Some kinds.Data else first_spent (draws_behind old.part old.log parts) None) spent

some_data : (old : Numbers) → old.«data» < 2 ^ 32 - 1 → (parts : List PartNumber) → first_spent (flush_draws old parts) None ≡ first_spent (draws_behind old.part old.log parts) None
some_data old less parts =
    let left : nat_eq old.«data» (2 ^ 32 - 1) ≡ false = grind (arith, nat_tests, less) in
    ap (λ b. if b then Some kinds.Data else first_spent (draws_behind old.part old.log parts) None) left

pub data_spent : (old : Numbers) → old.«data» ≡ 2 ^ 32 - 1 → (parts : List PartNumber) → first_spent (flush_draws old parts) None ≡ Some kinds.Data
data_spent old is parts = no_data old is parts

pub part_spent : (old : Numbers) (count : ℕ) → old.«data» < 2 ^ 32 - 1 → old.part < 2 ^ 32 → 2 ^ 32 ≤ old.part + count → (parts : List PartNumber) → length parts ≡ count → first_spent (flush_draws old parts) None ≡ Some kinds.Part
part_spent old count less fits over parts many = some_data old less parts ∙ parts_spent old.part parts ((kinds.Log, old.log) ∷ []) fits (omega (arith, over, many))

pub log_spent : (old : Numbers) (count : ℕ) → old.«data» < 2 ^ 32 - 1 → old.part + count < 2 ^ 32 → old.log ≡ 2 ^ 32 - 1 → (parts : List PartNumber) → length parts ≡ count → first_spent (flush_draws old parts) None ≡ Some kinds.Log
log_spent old count less room is parts many =
    let spent : nat_eq old.log (2 ^ 32 - 1) ≡ true = grind (arith, nat_tests, is) in
    some_data old less parts ∙ parts_left old.part parts ((kinds.Log, old.log) ∷ []) (omega (arith, room, many)) ∙ ap (λ b. if b then Some kinds.Log else None) spent

pub none_spent : (old : Numbers) (count : ℕ) → old.«data» < 2 ^ 32 - 1 → old.part + count < 2 ^ 32 → old.log < 2 ^ 32 - 1 → (parts : List PartNumber) → length parts ≡ count → first_spent (flush_draws old parts) None ≡ None
none_spent old count less room more parts many =
    let left : nat_eq old.log (2 ^ 32 - 1) ≡ false = grind (arith, nat_tests, more) in
    some_data old less parts ∙ parts_left old.part parts ((kinds.Log, old.log) ∷ []) (omega (arith, room, many)) ∙ ap (λ b. if b then Some kinds.Log else None) left

-- ---- the parts

module _ (row : ListedTable) (used : ℕ) where
  abbrev pub drawn_for : List PartNumber
  drawn_for = parts_for used (by_number row.table.indexes)

  -- a table of these indexes without parts
  abbrev alone : TableParts
  alone = record { definition = definition row.table; numbers = numbers_of row.table; since = 0; first = None; files = []; frozen = []; memtable = map_.empty }

  pub drawn_count : length drawn_for ≡ length (by_number row.table.indexes)
  drawn_count = drawn_length used (map number_of (by_number row.table.indexes)) ∙ length-map (by_number row.table.indexes) number_of

  small : (ns : List ℕ) → AllByRecursion (λ (n : ℕ). (1 ≤ n) × (n < 2 ^ 32)) ns → AllByRecursion (λ (n : ℕ). n < 2 ^ 32) ns
  small [] all = tt
  small (n ∷ ns) all = (all.0.1, small ns all.1)

  few : HasIndexes (listed row) → length (rising_numbers alone) < 2 ^ 16
  few has = omega (arith, numbers_few (listed row) has, rising_few alone)

  own_fit : HasIndexes (listed row) → AreApart (numbers_of row.table) → used + length (by_number row.table.indexes) < 2 ^ 32 → FitParts (numbers_of row.table) drawn_for
  own_fit has apart room =
      let are = rising_are row alone refl refl in
      let many : length (rising_numbers alone) ≡ length (by_number row.table.indexes) = sym (ap length are) ∙ length-map (by_number row.table.indexes) number_of in
      subst (λ (ns : List ℕ). FitParts (numbers_of row.table) (drawn used ns)) (sym are) (drawn_fit used alone apart (small (numbers_of row.table) has.numbered) (few has) (omega (arith, room, many)))

  module _ (listing : Listing) (known : IsConsistent listing) (number : ℕ) (there : slice_get listing.tables (number - 1) ≡ Some (listed row)) (room : used + length (by_number row.table.indexes) < 2 ^ 32) where
    has_indexes : HasIndexes (listed row)
    has_indexes = all_at HasIndexes (number - 1) listing.tables (listed row) known.indexes there

    fit_own : FitParts (numbers_of row.table) drawn_for
    fit_own = own_fit has_indexes (all_at (λ (t : ListedDefinition). AreApart t.numbers) (number - 1) listing.tables (listed row) (tables_apart listing.tables known.numbers) there) room

    -- **They fit the record of the flush.**
    pub drawn_fits : FitParts (numbers_at listing.tables number) drawn_for
    drawn_fits = subst (λ (o : Option ListedDefinition). FitParts (option_map_or (λ (t : ListedDefinition). t.numbers) o []) drawn_for) (sym there) fit_own

    -- **An index file of each can be written.**
    pub can_index : (kinds : List Class) (p : Partitioner) (m : MemtableView) → AllByRecursion (KnowsDef kinds) row.table.indexes → AreStorable p (types_of (definition row.table)) m.partitions → CanIndex kinds m.partitions (by_number row.table.indexes) drawn_for
    can_index kinds p m known storable =
        let same = drawn_indexes used (map number_of (by_number row.table.indexes)) in
        record {
          built = are_built row has_indexes;
          typed = are_typed row p m storable;
          known = are_known row kinds known;
          numbered = same;
          rising = fit_own.rise;
        }

-- ---- of the layout

module _ (v : View) (store : StoreInMemory) (l : Layout) (serves : Serves v store l) (number : ℕ) (some : 0 < number) (row : ListedTable) (there : slice_get store.manifest.listing.tables (number - 1) ≡ Some (listed row)) where
  in_layout : (t : TableParts) × (slice_get l.tables (number - 1) ≡ Some t) × (listed_of t ≡ listed row)
  in_layout = seen_as listed_of l.tables (number - 1) (listed row) (ap (λ (e : Listing). slice_get e.tables (number - 1)) (sym serves.listing) ∙ there)

  -- **They are the indexes of the layout's table.**
  pub layout_indexes : At 1 number (AreTableIndexes (by_number row.table.indexes)) l.tables
  layout_indexes =
      let t = in_layout in
      at_numbered (AreTableIndexes (by_number row.table.indexes)) number l.tables t.0 some t.1
      (table_indexes row t.0 (ap (λ (x : ListedDefinition). x.numbers) t.2) (ap (λ (x : ListedDefinition). x.definition) t.2))

  -- **The parts are those that the layout draws.**
  pub layout_parts : drawn_for row store.used.part ≡ flush_parts number l
  layout_parts =
      let t = in_layout in
      ap (λ (u : Used). drawn u.part (map number_of (by_number row.table.indexes))) serves.used
      ∙ ap (drawn l.used.part) (rising_are row t.0 (ap (λ (x : ListedDefinition). x.numbers) t.2) (ap (λ (x : ListedDefinition). x.definition) t.2))
      ∙ sym (parts_of_table number l t.0 (numbered_at number l.tables t.0 some t.1))
