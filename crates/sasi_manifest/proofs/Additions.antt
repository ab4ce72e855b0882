-- One more table.
use Rattle.std.proofs.Common.{◌≡◌, ◌<◌, ◌≤◌, ℕ, zero, suc, ◌+◌, ◌-◌, true, false, if◌then◌else◌, List, [], ◌∷◌, ◌++◌, get_or, length, map, set, slice_get, Some, Result, Ok, Err, OnOk, OnErr, refl, sym, ◌∙◌, ap, subst, arith, append_assoc, length-append, length-set}
use Rattle.std.specs.Prelude.{nat_eq}
use Rattle.std.proofs.lemmas.Bool.Decides.{nat_tests}
use Rattle.std.proofs.lemmas.List.{append-nil, length-map, map-append}
use Rattle.std.proofs.lemmas.Option.{slice_get_read, slice_get_within}
use Rattle.sasi_types.specs.declared.index_def.IndexDef.{IndexDef}
use Rattle.sasi_host.specs.Names.{Bytes}
use Rattle.sasi_model.specs.Indexes.{index_of}
use Rattle.sasi_model.specs.State.{Definition, with_index}
use Rattle.sasi_schema.specs.Defined.{definition, numbers_of}
use Rattle.sasi_schema.specs.IndexFacts.{IsIndexIn, IsIndexOf}
use Rattle.sasi_schema.specs.declared.table.Table.{Table}
use Rattle.sasi_schema.specs.Numbers.{RisesFrom}
use Rattle.sasi_manifest.specs.declared.files.ListedFile.{ListedFile}
use Rattle.sasi_manifest.specs.declared.listed.ListedTable.{ListedTable}
use Rattle.sasi_manifest.specs.Naming.{IsFree, AreApart}
use Rattle.sasi_manifest.specs.Abbreviations.{listed_names}
use Rattle.sasi_manifest.specs.ListedDefinition.{ListedDefinition}
use Rattle.sasi_manifest.specs.ListedFiles.{AreInOrder, with_files, without}
use Rattle.sasi_manifest.specs.ListedTables.{HasMore, IsDefinedAt, IsInOrder, IsReplacedAt, listed}
use Rattle.sasi_manifest.specs.Listings.{at_number, listed_definitions, listed_with_index, replaced}
use Rattle.sasi_manifest.specs.Edits.{definition_at}
use Rattle.sasi_manifest.proofs.FileOrder.{AllInOrder, files_replaced, order_got, order_listed, order_push, order_set}
use Rattle.sasi_manifest.proofs.IndexLaws.{definition_got}
use Rattle.sasi_manifest.proofs.Replacing.{unchanged}

apart_push : (taken names : List Bytes) (name : Bytes) → AreApart taken names → IsFree (taken ++ names) name → AreApart taken (names ++ name ∷ [])
apart_push taken [] name apart free = (subst (λ (l : List Bytes). IsFree l name) (append-nil taken) free, tt)
apart_push taken (n ∷ names) name apart free = (apart.0, apart_push (taken ++ n ∷ []) names name apart.1 (subst (λ (l : List Bytes). IsFree l name) (sym (append_assoc taken (n ∷ []) names)) free))

pub rises_push : (n : ℕ) (numbers : List ℕ) (k : ℕ) → RisesFrom n numbers → k ≡ n + length numbers → RisesFrom n (numbers ++ k ∷ [])
rises_push n [] k rises is = (is ∙ omega arith, tt)
rises_push n (x ∷ xs) k rises is = (rises.0, rises_push (suc n) xs k rises.1 (is ∙ omega arith))

-- ---- names

names_of : (ts : List ListedTable) → listed_names (map listed ts) ≡ map (λ (x : ListedTable). x.table.name) ts
names_of [] = refl
names_of (x ∷ xs) = ap (λ (l : List Bytes). x.table.name ∷ l) (names_of xs)

pub in_order_push : (tables more : List ListedTable) (t : ListedTable) → IsInOrder tables → t.table.number ≡ length (map listed tables) + 1
    → length (map listed tables) < 256 → IsFree (listed_names (map listed tables)) t.table.name → t.files ≡ [] → more ≡ tables ++ t ∷ [] → IsInOrder more
in_order_push tables more t order numbered few free none is = record {
  numbers = subst (λ (l : List ℕ). RisesFrom 1 l) (sym (ap (map (λ (x : ListedTable). x.table.number)) is ∙ map-append (λ (x : ListedTable). x.table.number) tables (t ∷ [])))
      (rises_push 1 (map (λ (x : ListedTable). x.table.number) tables) t.table.number order.numbers
      (omega (arith, numbered, length-map tables listed, length-map tables (λ (x : ListedTable). x.table.number))));
  few = omega (arith, few, length-map tables listed, ap length is, length-append tables (t ∷ []));
  apart = subst (λ (l : List Bytes). AreApart [] l) (sym (ap (map (λ (x : ListedTable). x.table.name)) is ∙ map-append (λ (x : ListedTable). x.table.name) tables (t ∷ [])))
      (apart_push [] (map (λ (x : ListedTable). x.table.name) tables) t.table.name order.apart (subst (λ (l : List Bytes). IsFree l t.table.name) (names_of tables) free));
  files = subst AllInOrder (sym is) (order_push tables t order.files (subst (λ (l : List ListedFile). AreInOrder 0 l) (sym none) tt));
}

-- copies of the tables are in order as they are
pub in_order_same : (tables copies : List ListedTable) → IsInOrder tables → map listed copies ≡ map listed tables → map
    (λ (x : ListedTable). x.table.number) copies ≡ map (λ (x : ListedTable). x.table.number) tables → IsInOrder copies
in_order_same tables copies order same numbers = record {
  numbers = subst (λ (l : List ℕ). RisesFrom 1 l) (sym numbers) order.numbers;
  few = omega (arith, order.few, length-map tables listed, length-map copies listed, ap length same);
  apart = subst (λ (l : List Bytes). AreApart [] l) (sym (sym (names_of copies) ∙ ap listed_names same ∙ names_of tables)) order.apart;
  files = order_listed tables copies same order.files;
}

-- ---- lists with one item changed

pub there : {A : Type 0} (xs : List A) (i : ℕ) → i < length xs → (x : A) × (slice_get xs i ≡ Some x)
there [] i within = absurd (omega arith)
there (x ∷ xs) zero within = (x, refl)
there (x ∷ xs) (suc i) within = there xs i (omega arith)

pub map_set : {A B : Type 0} (f : A → B) (xs : List A) (i : ℕ) (y : A) → map f (set xs i y) ≡ set (map f xs) i (f y)
map_set f [] i y = refl
map_set f (x ∷ xs) zero y = refl
map_set f (x ∷ xs) (suc i) y = ap (λ l. f x ∷ l) (map_set f xs i y)

pub set_same : {A : Type 0} (xs : List A) (i : ℕ) (x : A) → slice_get xs i ≡ Some x → set xs i x ≡ xs
set_same [] i x is = refl
set_same (y ∷ xs) zero x is = (let same : y ≡ x = cc in ap (λ z. z ∷ xs) (sym same))
set_same (y ∷ xs) (suc i) x is = ap (λ l. y ∷ l) (set_same xs i x is)

pub get_map : {A B : Type 0} (f : A → B) (xs : List A) (i : ℕ) (x : A) → slice_get xs i ≡ Some x → slice_get (map f xs) i ≡ Some (f x)
get_map f [] i x is = cc
get_map f (y ∷ xs) zero x is = (let same : y ≡ x = cc in ap (λ z. Some (f z)) same)
get_map f (y ∷ xs) (suc i) x is = get_map f xs i x is

pub at_set : {A : Type 0} (n i : ℕ) (f : A → A) (xs : List A) (x : A) → slice_get xs i ≡ Some x → at_number n (n + i) f xs ≡ set xs i (f x)
at_set n i f [] x is = refl
at_set n zero f (y ∷ xs) x is =
    let here : nat_eq n (n + 0) ≡ true = grind (arith, nat_tests) in
    let same : y ≡ x = cc in
    ap (λ b. (if b then f y else y) ∷ at_number (suc n) (n + 0) f xs) here ∙ ap (λ l. f y ∷ l) (unchanged (suc n) (n + 0) f xs (omega arith)) ∙ ap (λ z. f z ∷ xs) same
at_set n (suc i) f (y ∷ xs) x is =
    let other : nat_eq n (n + suc i) ≡ false = grind (arith, nat_tests) in
    let moved : n + suc i ≡ suc n + i = omega arith in
    ap (λ b. (if b then f y else y) ∷ at_number (suc n) (n + suc i) f xs) other ∙ ap (λ m. y ∷ at_number (suc n) m f xs) moved ∙ ap (λ l. y ∷ l) (at_set (suc n) i f xs x is)

pub kept : {B : Type 0} (g : ListedTable → B) (tables : List ListedTable) (i : ℕ) (t new : ListedTable) → slice_get tables i ≡ Some t → g new ≡ g t → map g (set tables i new) ≡ map g tables
kept g tables i t new is same = map_set g tables i new ∙ ap (set (map g tables) i) same ∙ set_same (map g tables) i (g t) (get_map g tables i t is)

-- ---- files of a table in the place of others

-- a list with one table changed, but for its number and its name
in_order_changed : (tables : List ListedTable) (i : ℕ) (t new : ListedTable) → IsInOrder tables → slice_get tables i ≡ Some t → new.table.number ≡ t.table.number → new.table.name ≡ t.table.name → AreInOrder 0 new.files → IsInOrder (set tables i new)
in_order_changed tables i t new order is number name files =
    record {
      numbers = subst (λ (l : List ℕ). RisesFrom 1 l) (sym (kept (λ (x : ListedTable). x.table.number) tables i t new is number)) order.numbers;
      few = omega (arith, order.few, length-set tables i new);
      apart = subst (λ (l : List Bytes). AreApart [] l) (sym (kept (λ (x : ListedTable). x.table.name) tables i t new is name)) order.apart;
      files = order_set tables i new order.files files;
    }

-- one with other files
in_order_set : (tables : List ListedTable) (i : ℕ) (t new : ListedTable) → IsInOrder tables → slice_get tables i ≡ Some t → new.table ≡ t.table → AreInOrder 0 new.files → IsInOrder (set tables i new)
in_order_set tables i t new order is same files =
    in_order_changed tables i t new order is (ap (λ (x : Table). x.number) same) (ap (λ (x : Table). x.name) same) files

pub in_order_replaced : {A E : Type 0} (table : ℕ) (removed : List ℕ) (added : List ListedFile) (since : ℕ) (old new : List ListedTable) (result : Result A E) → IsInOrder old → 0 < table → table ≤ length (map listed old)
    → OnOk result (IsReplacedAt table removed added since old new) → OnErr result (new ≡ old) → IsInOrder new
in_order_replaced table removed added since old new (Ok a) order some within ok err =
    let found = there old (table - 1) (omega (arith, some, within, length-map old listed)) in
    subst IsInOrder (sym (ok found.0 found.1)) (in_order_set old (table - 1) found.0 (record found.0 { since = since; files = with_files added (without removed found.0.files) }) order found.1 refl
    (files_replaced removed added found.0.files (order_got old (table - 1) found.0 order.files found.1)))
in_order_replaced table removed added since old new (Err e) order some within ok err = subst IsInOrder (sym err) order

pub listed_replaced : {A E : Type 0} (table : ℕ) (removed : List ℕ) (added : List ListedFile) (since : ℕ) (old new : List ListedTable) (seen : List ListedDefinition) (result : Result A E) → map listed old ≡ seen → 0 < table → table ≤ length seen
    → OnOk result (IsReplacedAt table removed added since old new) → OnOk result (map listed new ≡ at_number 1 table (replaced removed added since) seen)
listed_replaced table removed added since old new seen (Ok a) is some within ok =
    let found = there old (table - 1) (omega (arith, some, within, length-map old listed, ap length is)) in
    let next : 1 + (table - 1) ≡ table = omega (arith, some) in
    let changed : ListedTable = record found.0 { since = since; files = with_files added (without removed found.0.files) } in
    ap (map listed) (ok found.0 found.1) ∙ map_set listed old (table - 1) changed
    ∙ sym (at_set 1 (table - 1) (replaced removed added since) (map listed old) (listed found.0) (get_map listed old (table - 1) found.0 found.1))
    ∙ ap (λ n. at_number 1 n (replaced removed added since) (map listed old)) next ∙ ap (at_number 1 table (replaced removed added since)) is
listed_replaced table removed added since old new seen (Err e) is some within ok = tt

-- ---- one more index

listed_more : (def : IndexDef) (t more : ListedTable) → HasMore def t more → listed more ≡ listed_with_index def (listed t)
listed_more def t more has = λ i. record { definition = has.definition_is i; numbers = has.numbers i; since = has.since i; files = has.files i }

rises_got : (n : ℕ) (tables : List ListedTable) (i : ℕ) (t : ListedTable) → RisesFrom n (map (λ (x : ListedTable). x.table.number) tables) → slice_get tables i ≡ Some t → t.table.number ≡ n + i
rises_got n [] i t rises is = cc
rises_got n (x ∷ tables) zero t rises is = (let same : x ≡ t = cc in sym (ap (λ (y : ListedTable). y.table.number) same) ∙ rises.0 ∙ omega arith)
rises_got n (x ∷ tables) (suc i) t rises is = rises_got (suc n) tables i t rises.1 is ∙ omega arith

-- the table of an index that is one of a listed table
record Found (def : IndexDef) (tables : List ListedTable) : Type 0 where
  pub table : ListedTable
  pub is : slice_get tables (def.table - 1) ≡ Some table

got_listed : (tables : List ListedTable) (i : ℕ) (d : Definition) → slice_get (listed_definitions (map listed tables)) i ≡ Some d → (t : ListedTable) × (slice_get tables i ≡ Some t) × (definition t.table ≡ d)
got_listed [] i d is = cc
got_listed (x ∷ tables) zero d is = (x, refl, cc)
got_listed (x ∷ tables) (suc i) d is = got_listed tables i d is

found_in : (def : IndexDef) (tables : List ListedTable) → IsIndexIn (listed_definitions (map listed tables)) def → Found def tables
found_in def tables is = (let got = got_listed tables (def.table - 1) is.definition is.found in record { table = got.0; is = got.1 })

pub index_within : (def : IndexDef) (tables : List ListedTable) → IsIndexIn (listed_definitions (map listed tables)) def → def.table - 1 < length tables
index_within def tables is = (let found = found_in def tables is in slice_get_within tables (def.table - 1) found.table found.is)

pub index_of_table : (def : IndexDef) (tables : List ListedTable) (t : ListedTable) → RisesFrom 1 (map (λ (x : ListedTable). x.table.number) tables) → IsIndexIn (listed_definitions (map listed tables)) def
    → slice_get tables (def.table - 1) ≡ Some t → IsIndexOf t.table.number t.table.columns t.table.key def
index_of_table def tables t rises is got =
    let other = got_listed tables (def.table - 1) is.definition is.found in
    let same : other.0 ≡ t = cc (other.1, got) in
    let definition_is : is.definition ≡ definition t.table = sym other.2 ∙ ap (λ (x : ListedTable). definition x.table) same in
    let number : def.table ≡ t.table.number = omega (arith, is.above, rises_got 1 tables (def.table - 1) t rises got) in
    subst (λ n. IsIndexOf n t.table.columns t.table.key def) number (subst (λ (d : Definition). IsIndexOf def.table d.columns d.key def) definition_is is.is)

pub in_order_defined : {A E : Type 0} (def : IndexDef) (old new : List ListedTable) (result : Result A E) → IsInOrder old → IsIndexIn (listed_definitions (map listed old)) def
    → OnOk result (IsDefinedAt def old new) → OnErr result (new ≡ old) → IsInOrder new
in_order_defined def old new (Ok a) order is ok err =
    let found = found_in def old is in
    let t = found.table in
    let next = ok t found.is in
    let has = next.1 in
    subst IsInOrder (sym next.2) (in_order_changed old (def.table - 1) t next.0 order found.is has.number (ap (λ (d : Definition). d.name) has.definition_is)
    (subst (λ (fs : List ListedFile). AreInOrder 0 fs) (sym has.files) (order_got old (def.table - 1) t order.files found.is)))
in_order_defined def old new (Err e) order is ok err = subst IsInOrder (sym err) order

pub listed_defined : {A E : Type 0} (def : IndexDef) (old new : List ListedTable) (seen : List ListedDefinition) (result : Result A E) → map listed old ≡ seen → IsIndexIn (listed_definitions (map listed old)) def
    → OnOk result (IsDefinedAt def old new) → OnOk result (map listed new ≡ at_number 1 def.table (listed_with_index def) seen)
listed_defined def old new seen (Ok a) is index ok =
    let i = def.table - 1 in
    let found = found_in def old index in
    let t = found.table in
    let more = ok t found.is in
    let next : 1 + i ≡ def.table = omega (arith, index.above) in
    ap (map listed) more.2 ∙ map_set listed old i more.0
    ∙ ap (set (map listed old) i) (listed_more def t more.0 more.1)
    ∙ sym (at_set 1 i (listed_with_index def) (map listed old) (listed t) (get_map listed old i t found.is))
    ∙ ap (λ n. at_number 1 n (listed_with_index def) (map listed old)) next ∙ ap (at_number 1 def.table (listed_with_index def)) is
listed_defined def old new seen (Err e) is index ok = tt

-- the table that was found is put back with its index
module _ {A E : Type 0} (def : IndexDef) (old : List ListedTable) (result : Result A E) (found : ListedTable) (table : Table) (within : def.table - 1 < length old) (is : found ≡ get_or old (def.table - 1) found) where
  got : slice_get old (def.table - 1) ≡ Some found
  got = slice_get_read old (length old) (def.table - 1) found refl within is

  pub defined_at : table.number ≡ found.table.number → OnOk result (definition table ≡ with_index (index_of def) (definition found.table)) → OnOk result (numbers_of table ≡ numbers_of found.table ++ def.number ∷ [])
      → OnOk result (IsDefinedAt def old (set old (def.table - 1) (record found { table = table })))
  defined_at number more numbers = by result more numbers
    where
      by : (result : Result A E) → OnOk result (definition table ≡ with_index (index_of def) (definition found.table)) → OnOk result (numbers_of table ≡ numbers_of found.table ++ def.number ∷ [])
          → OnOk result (IsDefinedAt def old (set old (def.table - 1) (record found { table = table })))
      by (Ok a) more numbers = λ t at. (
          let same : found ≡ t = cc (got, at) in
          let has : HasMore def found (record found { table = table }) = record { number = number; definition_is = more; numbers = numbers; since = refl; files = refl } in
          (record found { table = table }, subst (λ (x : ListedTable). HasMore def x (record found { table = table })) same has, refl)
          )
      by (Err e) more numbers = tt

  pub defined_none : OnErr result (table ≡ found.table) → OnErr result (set old (def.table - 1) (record found { table = table }) ≡ old)
  defined_none kept = by result kept
    where
      by : (result : Result A E) → OnErr result (table ≡ found.table) → OnErr result (set old (def.table - 1) (record found { table = table }) ≡ old)
      by (Ok a) kept = tt
      by (Err e) kept = ap (λ (x : Table). set old (def.table - 1) (record found { table = x })) kept ∙ set_same old (def.table - 1) found got

-- the table of a number
pub table_got : (tables : List ListedTable) (table : ℕ) (t : ListedTable) → table - 1 < length tables → t ≡ get_or tables (table - 1) t → definition t.table ≡ definition_at (listed_definitions (map listed tables)) table
table_got tables table t within is =
    sym (definition_got (map listed tables) (table - 1) _ (listed t) (get_map listed tables (table - 1) t (slice_get_read tables (length tables) (table - 1) t refl within is)))
