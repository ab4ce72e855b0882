-- A new index keeps a listing consistent: its number, its name and its column are free.
use Rattle.std.specs.Prelude.{◌≡◌, ℕ, zero, suc, ◌+◌, ◌-◌, ◌<◌, ◌≤◌, ◌^◌, Bool, true, false, not, cond, is_some, nat_eq, nat_le, List, [], ◌∷◌, ◌++◌, map, slice_get, Option, Some, unwrap_or, if◌then◌else◌, refl}
use Rattle.std.proofs.Common.{sym, ap, subst, ◌∙◌, arith, length-append}
use Rattle.std.specs.Cmp.Lexicographic.{same_text}
use Rattle.std.specs.List.{AllByRecursion, count_by, flat_map, list_any}
use Rattle.std.specs.Option.{option_map_or}
use Rattle.std.proofs.lemmas.List.{map-append}
use Rattle.std.proofs.lemmas.List.Sums.{sum_by-append, sum_by-cons, sum_by_push}
use Rattle.sasi_types.specs.declared.index_def.IndexDef.{IndexDef}
use Rattle.sasi_host.specs.Names.{Bytes}
use Rattle.sasi_model.specs.Abbreviations.{kind_of}
use Rattle.sasi_model.specs.Indexes.{index_of, index_on, mode_fits}
use Rattle.sasi_model.specs.State.{Definition, Index}
use Rattle.sasi_model.specs.Statements.{same}
use Rattle.sasi_manifest.specs.declared.files.ListedFile.{ListedFile}
use Rattle.sasi_manifest.specs.declared.listing.Listing.{Listing}
use Rattle.sasi_manifest.specs.Abbreviations.{with_defined_index}
use Rattle.sasi_manifest.specs.Consistent.{FilesRise, HasIndexes, HasParts, IsConsistent}
use Rattle.sasi_manifest.specs.Edits.{index_names, index_numbers, numbers_at}
use Rattle.sasi_manifest.specs.ListedDefinition.{ListedDefinition}
use Rattle.sasi_manifest.specs.ListedFiles.{FitParts, has_file, is_among, with_file, with_files, without}
use Rattle.sasi_manifest.specs.Listings.{at_number, listed_definitions, listed_with_index, replaced}
use Rattle.sasi_manifest.proofs.Applying.{AreNewFiles}
use Rattle.sasi_manifest.proofs.Defining.{CanDefine}
use Rattle.sasi_manifest.proofs.PartLaws.{parts_stay}
use Rattle.sasi_manifest.proofs.Replacing.{At, all_at, at_each, either_false, same_number, same_owners, unchanged}

-- ---- parts of all tables in one list

module _ {B : Type 0} (part : ListedDefinition → List B) where
  pub parts_push : (tables : List ListedDefinition) (t : ListedDefinition) → part t ≡ [] → flat_map part (tables ++ t ∷ []) ≡ flat_map part tables
  parts_push [] t none = ap (λ (l : List B). l ++ []) none
  parts_push (x ∷ tables) t none = ap (λ (l : List B). part x ++ l) (parts_push tables t none)

  pub parts_same : (f : ListedDefinition → ListedDefinition) → ((t : ListedDefinition) → part (f t) ≡ part t) → (n number : ℕ) (tables : List ListedDefinition) → flat_map part (at_number n number f tables) ≡ flat_map part tables
  parts_same f same_part n number [] = refl
  parts_same f same_part n number (t ∷ tables) =
      let rest = parts_same f same_part (suc n) number tables in
      elim (nat_eq n number) as (λ b. part (if b then f t else t) ++ flat_map part (at_number (suc n) number f tables) ≡ part t ++ flat_map part tables) [
        | true ↦ λ i. same_part t i ++ rest i
        | false ↦ λ i. part t ++ rest i
      ]

  -- one item more on one table
  module _ (f : ListedDefinition → ListedDefinition) (x : B) (more : (t : ListedDefinition) → part (f t) ≡ part t ++ x ∷ []) (p : B → Bool) where
    abbrev bit : ℕ
    bit = cond (p x) 1 0

    abbrev counts : List B → ℕ
    counts xs = count_by p xs

    counts_part : (t : ListedDefinition) (xs : List B) → counts (part t ++ xs) ≡ counts (part t) + counts xs
    counts_part t xs = sum_by-append (λ y. cond (p y) 1 0) (part t) xs

    counts_more : (t : ListedDefinition) → counts (part (f t)) ≡ counts (part t) + bit
    counts_more t = ap counts (more t) ∙ sum_by_push (λ y. cond (p y) 1 0) (part t) x

    pub counted_more : (n number : ℕ) (tables : List ListedDefinition) → counts (flat_map part (at_number n number f tables)) ≤ counts (flat_map part tables) + bit
    counted_more n number [] = omega arith
    counted_more n number (t ∷ tables) = by (nat_eq n number) refl (counted_more (suc n) number tables)
      where
        by : (b : Bool) → nat_eq n number ≡ b → counts (flat_map part (at_number (suc n) number f tables)) ≤ counts (flat_map part tables) + bit
            → counts (part (if b then f t else t) ++ flat_map part (at_number (suc n) number f tables)) ≤ counts (part t ++ flat_map part tables) + bit
        by true here rest =
            let equal : n ≡ number = same_number n number here in
            let stays = unchanged (suc n) number f tables (omega (arith, equal)) in
            omega (arith, sum_by-append (λ y. cond (p y) 1 0) (part (f t)) (flat_map part (at_number (suc n) number f tables)), counts_more t, counts_part t (flat_map part tables), ap (λ l. counts (flat_map part l)) stays)
        by false other rest = omega (arith, rest, counts_part t (flat_map part (at_number (suc n) number f tables)), counts_part t (flat_map part tables))

none_counted : {B : Type 0} (p : B → Bool) (xs : List B) → list_any p xs ≡ false → count_by p xs ≡ 0
none_counted p [] none = refl
none_counted p (x ∷ xs) none =
    let parts = either_false (p x) (list_any p xs) none in
    omega (arith, sum_by-cons (λ y. cond (p y) 1 0) x xs, ap {B = ℕ} (λ b. cond b 1 0) parts.0, none_counted p xs parts.1)

-- a count that grows only where it was none
grown : (b : Bool) (old new : ℕ) → new ≤ old + cond b 1 0 → old ≤ 1 → (b ≡ true → old ≡ 0) → new ≤ 1
grown true old new le once free = omega (arith, le, free refl)
grown false old new le once free = omega (arith, le, once)

-- ---- names

names_are : (tables : List ListedDefinition) → index_names (listed_definitions tables) ≡ flat_map (λ t. map (λ (i : Index). i.name) t.definition.indexes) tables
names_are [] = refl
names_are (t ∷ tables) = map-append (λ (i : Index). i.name) t.definition.indexes (flat_map (λ (d : Definition). d.indexes) (listed_definitions tables)) ∙ ap (λ l. map (λ (i : Index). i.name) t.definition.indexes ++ l) (names_are tables)

abbrev names_in : ListedDefinition → List Bytes
names_in t = map (λ (i : Index). i.name) t.definition.indexes

pub names_push : (tables : List ListedDefinition) (t : ListedDefinition) → t.definition.indexes ≡ [] → index_names (listed_definitions (tables ++ t ∷ [])) ≡ index_names (listed_definitions tables)
names_push tables t none = names_are (tables ++ t ∷ []) ∙ parts_push names_in tables t (ap (map (λ (i : Index). i.name)) none) ∙ sym (names_are tables)

pub names_kept : (f : ListedDefinition → ListedDefinition) → ((t : ListedDefinition) → names_in (f t) ≡ names_in t) → (n number : ℕ) (tables : List ListedDefinition)
    → index_names (listed_definitions (at_number n number f tables)) ≡ index_names (listed_definitions tables)
names_kept f same_names n number tables = names_are (at_number n number f tables) ∙ parts_same names_in f same_names n number tables ∙ sym (names_are tables)

-- ---- items by their numbers

-- the item that has the number changes from one property to another
pub all_where : {A : Type 0} (P Q : A → Type 0) (f : A → A) → ((x : A) → P x → Q x) → (n number : ℕ) (xs : List A) → At n number (λ x. P x → Q (f x)) xs → AllByRecursion P xs → AllByRecursion Q (at_number n number f xs)
all_where P Q f kept n number [] changed all = tt
all_where P Q f kept n number (x ∷ xs) changed all = (by (nat_eq n number) refl, all_where P Q f kept (suc n) number xs changed.1 all.1)
  where
    by : (b : Bool) → nat_eq n number ≡ b → Q (if b then f x else x)
    by true here = changed.0 here all.0
    by false other = kept x all.0

at_behind : {A : Type 0} (P : A → Type 0) (n number : ℕ) (xs : List A) → number < n → At n number P xs
at_behind P n number [] below = tt
at_behind P n number (x ∷ xs) below = (λ here. (let equal : n ≡ number = same_number n number here in absurd (omega (arith, equal, below))), at_behind P (suc n) number xs (omega (arith, below)))

-- what holds of the item at a position holds of that with the number
pub at_got : {A : Type 0} (P : A → Type 0) (n i : ℕ) (xs : List A) → ((x : A) → slice_get xs i ≡ Some x → P x) → At n (n + i) P xs
at_got P n i [] h = tt
at_got P n zero (x ∷ xs) h = (λ _. h x refl, at_behind P (suc n) (n + 0) xs (omega arith))
at_got P n (suc i) (x ∷ xs) h =
    let moved : suc n + i ≡ n + suc i = omega arith in (
      λ here. (let equal : n ≡ n + suc i = same_number n (n + suc i) here in absurd (omega (arith, equal))),
      subst (λ number. At (suc n) number P xs) moved (at_got P (suc n) i xs h),
    )

-- the definition of a table by its number
pub definition_got : (tables : List ListedDefinition) (i : ℕ) (none : Definition) (t : ListedDefinition) → slice_get tables i ≡ Some t → unwrap_or (slice_get (listed_definitions tables) i) none ≡ t.definition
definition_got [] i none t is = cc
definition_got (x ∷ tables) zero none t is = (let equal : x ≡ t = cc in ap (λ (y : ListedDefinition). y.definition) equal)
definition_got (x ∷ tables) (suc i) none t is = definition_got tables i none t is

-- ---- columns

free_column : (column : ℕ) (indexes : List Index) → is_some (index_on column indexes) ≡ false → count_by (λ (i : Index). nat_eq i.column column) indexes ≡ 0
free_column column [] none = refl
free_column column (i ∷ indexes) none = by (nat_eq i.column column) refl none (free_column column indexes)
  where
    by : (b : Bool) → nat_eq i.column column ≡ b → is_some (if b then Some i else index_on column indexes) ≡ false
        → (is_some (index_on column indexes) ≡ false → count_by (λ (i : Index). nat_eq i.column column) indexes ≡ 0) → count_by (λ (i : Index). nat_eq i.column column) (i ∷ indexes) ≡ 0
    by true here none rest = (let never : true ≡ false = none in cc)
    by false other none rest = omega (arith, sum_by-cons (λ (i : Index). cond (nat_eq i.column column) 1 0) i indexes, ap {B = ℕ} (λ b. cond b 1 0) other, rest none)

-- one more item, of which the same holds
all_push : {A : Type 0} (P : A → Type 0) (xs : List A) (x : A) → AllByRecursion P xs → P x → AllByRecursion P (xs ++ x ∷ [])
all_push P [] x all is = (is, tt)
all_push P (y ∷ xs) x all is = (all.0, all_push P xs x all.1 is)

-- the number, the column and the mode of an index that comes
record IsNewIndex (def : IndexDef) (t : ListedDefinition) : Type 0 where
  pub number_some : 1 ≤ def.number
  pub number_fits : def.number < 2 ^ 32
  pub column_some : 1 ≤ def.column
  pub column_fits : def.column < 2 ^ 16
  pub free : is_some (index_on def.column t.definition.indexes) ≡ false
  pub typed : mode_fits def.mode (kind_of t.definition def.column) ≡ true

one_index : (def : IndexDef) (t : ListedDefinition) → IsNewIndex def t → HasIndexes t → HasIndexes (listed_with_index def t)
one_index def t new has = record {
  counted = omega (arith, has.counted, length-append t.numbers (def.number ∷ []), length-append t.definition.indexes (index_of def ∷ []));
  numbered = all_push (λ (n : ℕ). (1 ≤ n) × (n < 2 ^ 32)) t.numbers def.number has.numbered (new.number_some, new.number_fits);
  regular = all_push (λ (i : Index). (1 ≤ i.column) × (i.column < 2 ^ 16)) t.definition.indexes (index_of def) has.regular (new.column_some, new.column_fits);
  typed = all_push (λ (i : Index). mode_fits i.mode (kind_of t.definition i.column) ≡ true) t.definition.indexes (index_of def) has.typed new.typed;
  columns = λ column. grown (nat_eq def.column column) (count_by (λ (i : Index). nat_eq i.column column) t.definition.indexes) _
      (omega (arith, sum_by_push (λ (i : Index). cond (nat_eq i.column column) 1 0) t.definition.indexes (index_of def)))
      (has.columns column)
      (λ here. (let equal : def.column ≡ column = same_number def.column column here in
      subst (λ c. count_by (λ (i : Index). nat_eq i.column c) t.definition.indexes ≡ 0) equal (free_column def.column t.definition.indexes new.free)));
}

-- ---- parts of files

more_parts : (numbers : List ℕ) (number : ℕ) (files : List ListedFile) → AllByRecursion (λ f. FitParts numbers f.parts) files → AllByRecursion (λ f. FitParts (numbers ++ number ∷ []) f.parts) files
more_parts numbers number [] all = tt
more_parts numbers number (f ∷ files) all = (parts_stay numbers number f.parts all.0, more_parts numbers number files all.1)

-- files with parts in the place of others
all_with : (P : ListedFile → Type 0) (f : ListedFile) (files : List ListedFile) → P f → AllByRecursion P files → AllByRecursion P (with_file f files)
all_with P f [] own all = (own, tt)
all_with P f (g ∷ gs) own all = elim (nat_le f.number g.number) as (λ b. AllByRecursion P (if b then f ∷ g ∷ gs else g ∷ with_file f gs)) [
  | true ↦ (own, all)
  | false ↦ (all.0, all_with P f gs own all.1)
]

all_added : (P : ListedFile → Type 0) (added files : List ListedFile) → AllByRecursion P added → AllByRecursion P files → AllByRecursion P (with_files added files)
all_added P [] files new all = all
all_added P (f ∷ added) files new all = all_added P added (with_file f files) new.1 (all_with P f files new.0 all)

all_left : (P : ListedFile → Type 0) (removed : List ℕ) (files : List ListedFile) → AllByRecursion P files → AllByRecursion P (without removed files)
all_left P removed [] all = tt
all_left P removed (f ∷ files) all = elim (not (is_among removed f.number)) as (λ b. AllByRecursion P (if b then f ∷ without removed files else without removed files)) [
  | true ↦ (all.0, all_left P removed files all.1)
  | false ↦ all_left P removed files all.1
]

each_fits : (tables : List ListedDefinition) (table : ℕ) (removed : List ℕ) (before added : List ListedFile) → AreNewFiles tables table removed before added → AllByRecursion (λ f. FitParts (numbers_at tables table) f.parts) added
each_fits tables table removed before [] new = tt
each_fits tables table removed before (f ∷ added) new = (new.0.parts, each_fits tables table removed (before ++ f ∷ []) added new.1)

pub parts_replaced : (tables : List ListedDefinition) (table since : ℕ) (removed : List ℕ) (added : List ListedFile) → 1 ≤ table → AreNewFiles tables table removed [] added → AllByRecursion HasParts tables
    → AllByRecursion HasParts (at_number 1 table (replaced removed added since) tables)
parts_replaced tables table since removed added some new all =
    let f = replaced removed added since in
    let numbered : 1 + (table - 1) ≡ table = omega (arith, some) in
    let those : (t : ListedDefinition) → slice_get tables (table - 1) ≡ Some t → HasParts t → HasParts (f t) = λ t there has.
    all_added (λ g. FitParts t.numbers g.parts) added (without removed t.files)
    (subst (λ (l : List ℕ). AllByRecursion (λ g. FitParts l g.parts) added) (ap (λ (o : Option ListedDefinition). option_map_or (λ (x : ListedDefinition). x.numbers) o []) there) (each_fits tables table removed [] added new))
    (all_left (λ g. FitParts t.numbers g.parts) removed t.files has) in
    all_where HasParts HasParts f (λ t is. is) 1 table tables
    (subst (λ number. At 1 number (λ (t : ListedDefinition). HasParts t → HasParts (f t)) tables) numbered (at_got (λ (t : ListedDefinition). HasParts t → HasParts (f t)) 1 (table - 1) tables those)) all

-- ---- the listing

pub define_consistent : (listing : Listing) (def : IndexDef) → CanDefine listing def → IsConsistent listing → IsConsistent (with_defined_index def listing)
define_consistent listing def can known =
    let f = listed_with_index def in
    let numbered : 1 + (def.table - 1) ≡ def.table = omega (arith, can.table_some) in
    record {
      start = known.start;
      since = all_at (λ (t : ListedDefinition). t.since ≤ listing.last) (λ t. t.since ≤ listing.last) f (λ t is. is) (λ t is. is) 1 def.table listing.tables known.since;
      files = all_at (λ (t : ListedDefinition). FilesRise 0 t.files) (λ t. FilesRise 0 t.files) f (λ t is. is) (λ t is. is) 1 def.table listing.tables known.files;
      apart = λ n. omega (arith, known.apart n, same_owners n def.table 1 f listing.tables (at_each (λ t. has_file (f t).files n ≡ true → has_file t.files n ≡ true) (λ t is. is) 1 def.table listing.tables));
      parts = all_at HasParts HasParts f (λ t is. more_parts t.numbers def.number t.files is) (λ t is. is) 1 def.table listing.tables known.parts;
      indexes = all_where HasIndexes HasIndexes f (λ t is. is) 1 def.table listing.tables
          (subst (λ number. At 1 number (λ (t : ListedDefinition). HasIndexes t → HasIndexes (f t)) listing.tables) numbered
          (at_got (λ (t : ListedDefinition). HasIndexes t → HasIndexes (f t)) 1 (def.table - 1) listing.tables
          (λ t is. one_index def t (record {
            number_some = can.number_some;
            number_fits = can.number_fits;
            column_some = can.on_table.column_some;
            column_fits = can.on_table.column_fits;
            free = sym (ap (λ (d : Definition). is_some (index_on def.column d.indexes)) (definition_got listing.tables (def.table - 1) _ t is)) ∙ can.on_table.column_free;
            typed = subst (λ (d : Definition). mode_fits def.mode (kind_of d def.column) ≡ true) (definition_got listing.tables (def.table - 1) _ t is) can.on_table.mode;
          }))))
          known.indexes;
      numbers = λ n. grown (nat_eq n def.number) (count_by (nat_eq n) (index_numbers listing.tables)) _
          (counted_more (λ t. t.numbers) f def.number (λ t. refl) (nat_eq n) 1 def.table listing.tables) (known.numbers n)
          (λ here. none_counted (nat_eq n) (index_numbers listing.tables) (ap (λ m. list_any (nat_eq m) (index_numbers listing.tables)) (same_number n def.number here) ∙ can.number_free));
      names = λ name. grown (same name def.name) (count_by (same name) (index_names (listed_definitions listing.tables))) _
          (omega (
            arith,
            counted_more names_in f def.name (λ t. map-append (λ (i : Index). i.name) t.definition.indexes (index_of def ∷ [])) (same name) 1 def.table listing.tables,
            ap (count_by (same name)) (names_are (at_number 1 def.table f listing.tables)),
            ap (count_by (same name)) (names_are listing.tables),
          ))
          (known.names name)
          (λ here. none_counted (same name) (index_names (listed_definitions listing.tables))
          (ap (λ m. list_any (same m) (index_names (listed_definitions listing.tables))) (same_text name def.name (sym here)) ∙ can.name_free));
    }
