-- The bytes of edits: they are the same whatever is listed, and each edit has at least one.
use Rattle.std.proofs.Common.{◌≡◌, ◌<◌, ◌≤◌, ◌+◌, ◌*◌, ◌^◌, ℕ, Bool, List, [], ◌∷◌, ◌++◌, length, drop, get_or, Option, None, Some, refl, sym, ap, ◌∙◌, arith, length-append, append-nil, append_assoc, subst}
use Rattle.std.proofs.lemmas.List.{drop_all, drop_more}
use Rattle.std.specs.List.{AllByRecursion, flat_map, sum_by}
use Rattle.std.proofs.lemmas.List.Sums.{sum_by-cons}
use Rattle.std.specs.Int.{to_be_bytes, w8, w16, w32}
use Rattle.sasi_types.specs.Codes.{mode_code, type_code}
use Rattle.sasi_types.specs.declared.index_def.IndexDef.{IndexDef}
use Rattle.sasi_types.specs.declared.rule.Rule.{Rule}
use Rattle.sasi_types.specs.declared.rule.Rule.TheVariants.{Whole, Words}
use Rattle.sasi_types.specs.declared.partitioner.Partitioner.{Partitioner}
use Rattle.sasi_host.specs.Names.{Bytes}
use Rattle.sasi_model.specs.State.{Column}
use Rattle.sasi_model.specs.Refusals.{names_in}
use Rattle.sasi_formats.specs.Formats.{encoded_items}
use Rattle.sasi_formats.specs.Formats as formats
use Rattle.sasi_manifest.specs.declared.edit.Edit.{Edit}
use Rattle.sasi_manifest.specs.declared.edit.Edit.TheVariants.{Start, CreateTable, CreateIndex, Replace}
use Rattle.sasi_manifest.specs.declared.files.ListedFile.{ListedFile}
use Rattle.sasi_manifest.specs.declared.files.PartNumber.{PartNumber}
use Rattle.sasi_manifest.specs.declared.listing.Listing.{Listing}
use Rattle.sasi_manifest.specs.Edits.{columns, create_index, edit, edits, folding, rule_code, encoded, Applies, new_file_format, new_files, parts, replace, files_of, part, removed_number, removed_numbers}
use Rattle.sasi_manifest.specs.ListedDefinition.{ListedDefinition}
use Rattle.sasi_manifest.specs.ListedFiles.{file_length}
use Rattle.sasi_manifest.specs.Abbreviations.{column}
use Rattle.sasi_manifest.specs.Listings.{after_all}
use Rattle.sasi_manifest.specs.Naming.{AreNames, IsName}
use Rattle.sasi_manifest.proofs.Applying.{applies_create}
use Rattle.sasi_manifest.proofs.Defining.{applies_index}

-- items that are encoded alike after any others
items_flat : {A : Type 0} (item : List A → A → Bytes) (f : A → Bytes) → ((before : List A) (a : A) → item before a ≡ f a) → (before items : List A) → encoded_items item before items ≡ flat_map f items
items_flat item f each before [] = refl
items_flat item f each before (a ∷ items) =
    ap (λ (l : Bytes). l ++ encoded_items item (before ++ a ∷ []) items) (each before a) ∙ ap (λ (l : Bytes). f a ++ l) (items_flat item f each (before ++ a ∷ []) items)

-- ---- columns

abbrev pub name_bytes : Bytes → Bytes
name_bytes name = to_be_bytes w8 (length name) ++ name

abbrev pub column_bytes : Column → Bytes
column_bytes c = name_bytes c.0 ++ to_be_bytes w8 (type_code c.1)

pub columns_bytes : (all : List Column) → formats.encoded columns all ≡ to_be_bytes w16 (length all) ++ flat_map column_bytes all
columns_bytes all = ap (λ (l : Bytes). to_be_bytes w16 (length all) ++ l) (items_flat (λ before. formats.encoded (column before)) column_bytes (λ before c. refl) [] all)

-- ---- files

pub numbers_bytes : (files : List ListedFile) (ns : List ℕ) → formats.encoded (removed_numbers files) ns ≡ to_be_bytes w32 (length ns) ++ flat_map (to_be_bytes w32) ns
numbers_bytes files ns = ap (λ (l : Bytes). to_be_bytes w32 (length ns) ++ l) (items_flat (λ before. formats.encoded (removed_number files before)) (to_be_bytes w32) (λ before n. refl) [] ns)

abbrev pub part_bytes : PartNumber → Bytes
part_bytes p = to_be_bytes w32 p.index ++ to_be_bytes w32 p.part

pub parts_bytes : (ps : List PartNumber) → formats.encoded (parts []) ps ≡ to_be_bytes w16 (length ps) ++ flat_map part_bytes ps
parts_bytes ps = ap (λ (l : Bytes). to_be_bytes w16 (length ps) ++ l) (items_flat (λ before. formats.encoded (part [] before)) part_bytes (λ before p. refl) [] ps)

abbrev pub file_bytes : ListedFile → Bytes
file_bytes f = to_be_bytes w32 f.number ++ formats.encoded (parts []) f.parts

pub files_bytes : (tables : List ListedDefinition) (table : ℕ) (removed : List ℕ) (fs : List ListedFile) → formats.encoded (new_files tables table removed) fs ≡ to_be_bytes w32 (length fs) ++ flat_map file_bytes fs
files_bytes tables table removed fs = ap (λ (l : Bytes). to_be_bytes w32 (length fs) ++ l) (items_flat (λ before. formats.encoded (new_file_format tables table removed before)) file_bytes (λ before f. refl) [] fs)

-- the bytes of files in the place of others
abbrev pub segments_bytes : ℕ → ℕ → ℕ → Bytes
segments_bytes since floor last = to_be_bytes w32 since ++ (to_be_bytes w32 floor ++ to_be_bytes w32 last)

pub replace_bytes : (tables : List ListedDefinition) (table : ℕ) (removed : List ℕ) (added : List ListedFile) (since floor last : ℕ) → formats.encoded (replace tables) (Replace table removed added since floor last)
    ≡ to_be_bytes w32 table ++ ((formats.encoded (removed_numbers []) removed ++ formats.encoded (new_files [] 0 []) added) ++ segments_bytes since floor last)
unfolding replace
replace_bytes tables table removed added since floor last =
    ap (λ (l : Bytes). to_be_bytes w32 table ++ ((l ++ formats.encoded (new_files tables table removed) added) ++ segments_bytes since floor last)) (numbers_bytes (files_of tables table) removed ∙ sym (numbers_bytes [] removed))
    ∙ ap (λ (l : Bytes). to_be_bytes w32 table ++ ((formats.encoded (removed_numbers []) removed ++ l) ++ segments_bytes since floor last)) (files_bytes tables table removed added ∙ sym (files_bytes [] 0 [] added))

-- ---- edits

-- the bytes of an edit
abbrev pub edit_bytes : Edit → Bytes
edit_bytes e = formats.encoded (edit None) e

-- are the same whatever is listed
same_edit : (from : Option Listing) (e : Edit) → formats.encoded (edit from) e ≡ edit_bytes e
unfolding edit create_index
same_edit None e = refl
same_edit (Some listing) (Start _ _ _) = refl
same_edit (Some listing) (CreateTable _ _ _ _ _) = refl
same_edit (Some listing) (CreateIndex _ _) = refl
same_edit (Some listing) (Replace table removed added since floor last) =
    ap (λ (l : Bytes). to_be_bytes w8 5 ++ l) (replace_bytes listing.tables table removed added since floor last ∙ sym (replace_bytes [] table removed added since floor last))

-- a record in its parts
pub record_parts : (from : Option Listing) (es : List Edit) → formats.encoded (edits from) es ≡ to_be_bytes w32 (length es) ++ flat_map edit_bytes es
record_parts from es = ap (λ (l : Bytes). to_be_bytes w32 (length es) ++ l) (items_flat (λ before. formats.encoded (edit (after_all from before))) edit_bytes (λ before e. same_edit (after_all from before) e) [] es)

pub encoded_is : (es : List Edit) → encoded es ≡ to_be_bytes w32 (length es) ++ flat_map edit_bytes es
unfolding encoded
encoded_is es = record_parts None es

-- the bytes of a record are the same whatever is listed
pub same_record : (from : Option Listing) (es : List Edit) → formats.encoded (edits from) es ≡ encoded es
same_record from es = record_parts from es ∙ sym (encoded_is es)

-- ---- lengths

pub encoded_length : (es : List Edit) → length (encoded es) ≡ 4 + length (flat_map edit_bytes es)
encoded_length es = ap length (encoded_is es) ∙ length-append (to_be_bytes w32 (length es)) (flat_map edit_bytes es)

-- the record of a start alone
pub start_length : (partitioner : Partitioner) (floor last : ℕ) → length (encoded (Start partitioner floor last ∷ [])) ≡ 14
unfolding edit
start_length partitioner floor last = encoded_length (Start partitioner floor last ∷ [])

-- the length of an edit that adds a table
pub create_length : (number : ℕ) (name : Bytes) (all : List Column) (key since : ℕ) → length (edit_bytes (CreateTable number name all key since)) ≡ 12 + length name + length (formats.encoded columns all)
unfolding edit
create_length number name all key since =
    let last = to_be_bytes w16 key ++ to_be_bytes w32 since in
    omega (arith, length-append name (formats.encoded columns all ++ last), length-append (formats.encoded columns all) last)

rule_length : (r : Option Rule) (fold : Bool) → length (formats.encoded (folding (rule_code r)) (r, fold)) ≡ 1
rule_length None fold = refl
rule_length (Some (Whole _)) fold = refl
rule_length (Some (Words _)) fold = refl

-- that of an edit that adds an index
pub index_length : (def : IndexDef) (fold : Bool) → length (edit_bytes (CreateIndex def fold)) ≡ 15 + length def.name
unfolding edit create_index
index_length def fold =
    let last = formats.encoded (folding (rule_code def.rule)) (def.rule, fold) in
    omega (arith, rule_length def.rule fold, length-append def.name (to_be_bytes w16 def.column ++ (to_be_bytes w8 (mode_code def.mode) ++ (to_be_bytes w8 (rule_code def.rule) ++ last))))

columns_size : (all : List Column) → AreNames (names_in all) → length (flat_map column_bytes all) ≤ 50 * length all
columns_size [] names = omega arith
columns_size (c ∷ all) names = omega (arith, names.0.short, columns_size all names.1, length-append (column_bytes c) (flat_map column_bytes all), length-append c.0 (to_be_bytes w8 (type_code c.1)))

numbers_length : (ns : List ℕ) → length (flat_map (to_be_bytes w32) ns) ≡ 4 * length ns
numbers_length [] = omega arith
numbers_length (n ∷ ns) = omega (arith, numbers_length ns, length-append (to_be_bytes w32 n) (flat_map (to_be_bytes w32) ns))

parts_length : (ps : List PartNumber) → length (flat_map part_bytes ps) ≡ 8 * length ps
parts_length [] = omega arith
parts_length (p ∷ ps) = omega (arith, parts_length ps, length-append (part_bytes p) (flat_map part_bytes ps))

pub file_size : (f : ListedFile) → length (file_bytes f) ≡ file_length f
file_size f =
    omega (arith, length-append (to_be_bytes w32 f.number) (formats.encoded (parts []) f.parts), ap length (parts_bytes f.parts), length-append (to_be_bytes w16 (length f.parts)) (flat_map part_bytes f.parts), parts_length f.parts)

files_length : (fs : List ListedFile) → length (flat_map file_bytes fs) ≡ sum_by file_length fs
files_length [] = refl
files_length (f ∷ fs) = omega (arith, files_length fs, file_size f, sum_by-cons file_length f fs, length-append (file_bytes f) (flat_map file_bytes fs))

-- the length of an edit that puts files in the place of others
pub replace_length : (table : ℕ) (removed : List ℕ) (added : List ListedFile) (since floor last : ℕ) → length (edit_bytes (Replace table removed added since floor last)) ≡ 25 + (4 * length removed + sum_by file_length added)
unfolding edit
replace_length table removed added since floor last =
    let numbers = formats.encoded (removed_numbers []) removed in
    let files = formats.encoded (new_files [] 0 []) added in
    let segments = segments_bytes since floor last in
    omega (
      arith,
      ap length (replace_bytes [] table removed added since floor last),
      length-append (to_be_bytes w32 table) ((numbers ++ files) ++ segments),
      length-append (numbers ++ files) segments,
      length-append numbers files,
      ap length (numbers_bytes [] removed),
      length-append (to_be_bytes w32 (length removed)) (flat_map (to_be_bytes w32) removed),
      numbers_length removed,
      ap length (files_bytes [] 0 [] added),
      length-append (to_be_bytes w32 (length added)) (flat_map file_bytes added),
      files_length added,
    )

-- are small
pub index_short : (listing : Listing) (def : IndexDef) (fold : Bool) → Applies (Some listing) (CreateIndex def fold) → length (encoded (CreateIndex def fold ∷ [])) ≤ 4096
index_short listing def fold applies =
    let can = applies_index listing def fold applies in
    omega (arith, can.name_is.short, encoded_length (CreateIndex def fold ∷ []), length-append (edit_bytes (CreateIndex def fold)) [], index_length def fold)

pub create_short : (listing : Listing) (number : ℕ) (name : Bytes) (all : List Column) (key since : ℕ) → Applies (Some listing) (CreateTable number name all key since) → length (encoded (CreateTable number name all key since ∷ [])) ≤ 4096
create_short listing number name all key since applies =
    let can = applies_create listing number name all key since applies in
    omega (
      arith,
      can.name_fits.short,
      can.few_columns,
      encoded_length (CreateTable number name all key since ∷ []),
      length-append (edit_bytes (CreateTable number name all key since)) [],
      create_length number name all key since,
      ap length (columns_bytes all),
      length-append (to_be_bytes w16 (length all)) (flat_map column_bytes all),
      columns_size all can.column_names,
    )

some_byte : (e : Edit) → 1 ≤ length (edit_bytes e)
unfolding edit
some_byte (Start _ _ _) = omega arith
some_byte (CreateTable _ _ _ _ _) = omega arith
some_byte (CreateIndex _ _) = omega arith
some_byte (Replace _ _ _ _ _ _) = omega arith

many_bytes : (es : List Edit) → length es ≤ length (flat_map edit_bytes es)
many_bytes [] = omega arith
many_bytes (e ∷ es) = omega (arith, some_byte e, many_bytes es, length-append (edit_bytes e) (flat_map edit_bytes es))

pub edits_few : (es : List Edit) → length (encoded es) ≤ 2 ^ 30 → length es < 2 ^ 32
edits_few es short = omega (arith, short, many_bytes es, encoded_length es)

-- ---- bytes that are put

-- the turn of a loop
pub put_step : {A : Type 0} (f : A → Bytes) (xs : List A) (i : ℕ) (x : A) (old new all : Bytes) → i < length xs → x ≡ get_or xs i x → new ≡ old ++ f x → old ++ flat_map f (drop i xs) ≡ all → new ++ flat_map f (drop (i + 1) xs) ≡ all
put_step {A = A} f xs i x old new all within is put so_far =
    let rest = flat_map f (drop (i + 1) xs) in
    let parts : drop i xs ≡ x ∷ drop (i + 1) xs = drop_more xs i x within ∙ ap (λ (y : A). y ∷ drop (i + 1) xs) (sym is) in
    ap (λ (l : Bytes). l ++ rest) put ∙ append_assoc old (f x) rest ∙ sym (ap (λ (l : List A). old ++ flat_map f l) parts) ∙ so_far

-- the list is put, where none of it is left
all_put : {A : Type 0} (f : A → Bytes) (all : List A) (at : ℕ) (count old new : Bytes) → length all ≤ at → new ++ flat_map f (drop at all) ≡ old ++ (count ++ flat_map f all) → new ≡ old ++ (count ++ flat_map f all)
all_put f all at count old new end put = sym (ap (λ (l : List _). new ++ flat_map f l) (drop_all at all end) ∙ append-nil new) ∙ put

-- the names of the columns that are left
pub names_at : (all : List Column) (i : ℕ) (c : Column) → i < length all → c ≡ get_or all i c → AreNames (names_in (drop i all)) → IsName c.0 × AreNames (names_in (drop (i + 1) all))
names_at all i c within is names =
    let parts : drop i all ≡ c ∷ drop (i + 1) all = drop_more all i c within ∙ ap (λ (x : Column). x ∷ drop (i + 1) all) (sym is) in
    subst (λ (l : List Column). AreNames (names_in l)) parts names

pub columns_put : (all : List Column) (at : ℕ) (old new : Bytes) → length all ≤ at → new ++ flat_map column_bytes (drop at all) ≡ old ++ (to_be_bytes w16 (length all) ++ flat_map column_bytes all) → new ≡ old ++ formats.encoded columns all
columns_put all at old new end put = all_put column_bytes all at (to_be_bytes w16 (length all)) old new end put ∙ ap (λ (l : Bytes). old ++ l) (sym (columns_bytes all))

pub edits_put : (es : List Edit) (at : ℕ) (old new : Bytes) → length es ≤ at → new ++ flat_map edit_bytes (drop at es) ≡ old ++ (to_be_bytes w32 (length es) ++ flat_map edit_bytes es) → new ≡ old ++ encoded es
edits_put es at old new end put = all_put edit_bytes es at (to_be_bytes w32 (length es)) old new end put ∙ ap (λ (l : Bytes). old ++ l) (sym (encoded_is es))

pub numbers_put : (ns : List ℕ) (at : ℕ) (old new : Bytes) → length ns ≤ at → new ++ flat_map (to_be_bytes w32) (drop at ns) ≡ old ++ (to_be_bytes w32 (length ns) ++ flat_map (to_be_bytes w32) ns) → new ≡ old ++ formats.encoded (removed_numbers []) ns
numbers_put ns at old new end put = all_put (to_be_bytes w32) ns at (to_be_bytes w32 (length ns)) old new end put ∙ ap (λ (l : Bytes). old ++ l) (sym (numbers_bytes [] ns))

pub parts_put : (ps : List PartNumber) (at : ℕ) (old new : Bytes) → length ps ≤ at → new ++ flat_map part_bytes (drop at ps) ≡ old ++ (to_be_bytes w16 (length ps) ++ flat_map part_bytes ps) → new ≡ old ++ formats.encoded (parts []) ps
parts_put ps at old new end put = all_put part_bytes ps at (to_be_bytes w16 (length ps)) old new end put ∙ ap (λ (l : Bytes). old ++ l) (sym (parts_bytes ps))

pub files_put : (fs : List ListedFile) (at : ℕ) (old new : Bytes) → length fs ≤ at → new ++ flat_map file_bytes (drop at fs) ≡ old ++ (to_be_bytes w32 (length fs) ++ flat_map file_bytes fs) → new ≡ old ++ formats.encoded (new_files [] 0 []) fs
files_put fs at old new end put = all_put file_bytes fs at (to_be_bytes w32 (length fs)) old new end put ∙ ap (λ (l : Bytes). old ++ l) (sym (files_bytes [] 0 [] fs))

-- what holds of each item that is left
pub each_at : {A : Type 0} (P : A → Type 0) (xs : List A) (i : ℕ) (x : A) → i < length xs → x ≡ get_or xs i x → AllByRecursion P (drop i xs) → P x × AllByRecursion P (drop (i + 1) xs)
each_at {A = A} P xs i x within is all =
    let split : drop i xs ≡ x ∷ drop (i + 1) xs = drop_more xs i x within ∙ ap (λ (y : A). y ∷ drop (i + 1) xs) (sym is) in
    subst (AllByRecursion P) split all
