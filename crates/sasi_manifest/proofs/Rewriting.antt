-- A manifest that is written anew lists the same.
use Rattle.std.proofs.Common.{◌≡◌, ◌<◌, ◌≤◌, ◌+◌, ℕ, suc, Bool, true, false, if◌then◌else◌, List, [], ◌∷◌, ◌++◌, length, map, Option, Some, None, refl, sym, ◌∙◌, ap, subst, arith, append_assoc, length-append}
use Rattle.std.specs.Prelude.{nat_eq, nat_le}
use Rattle.std.specs.List.{AllByRecursion, filter, zip}
use Rattle.std.proofs.lemmas.Bool.Decides.{nat_tests}
use Rattle.std.proofs.lemmas.List.{append-nil}
use Rattle.std.proofs.lemmas.List.Sums.{fold-append}
use Rattle.sasi_types.specs.declared.index_def.IndexDef.{IndexDef}
use Rattle.sasi_host.specs.Names.{Bytes}
use Rattle.sasi_model.specs.State.{Definition, Index}
use Rattle.sasi_manifest.specs.declared.files.ListedFile.{ListedFile}
use Rattle.sasi_manifest.specs.declared.listing.Listing.{Listing}
use Rattle.sasi_manifest.specs.Abbreviations.{started}
use Rattle.sasi_manifest.specs.Consistent.{FilesRise, HasIndexes, HasIndexesInOrder, IsConsistent, NumbersRise}
use Rattle.sasi_manifest.specs.Edits.{encoded}
use Rattle.sasi_manifest.specs.Format.{IsRewritten, ListsSame}
use Rattle.sasi_manifest.specs.ListedDefinition.{ListedDefinition}
use Rattle.sasi_manifest.specs.ListedFiles.{with_file, with_files}
use Rattle.sasi_manifest.specs.Listings.{after, after_all, all_defs, at_number, by_number, def_of, defs_of, file_edits, index_defs, index_edit, index_edits, listed_with_index, with_def, files_edit, replaced, rewrite_edits, table_edits, with_record_counted}
use Rattle.sasi_manifest.proofs.Replacing.{unchanged}

-- ---- files that come in the order of their numbers

-- a file with a number above all others comes last
put_last : (f : ListedFile) (above : ℕ) (files : List ListedFile) → above < f.number → AllByRecursion (λ (g : ListedFile). g.number ≤ above) files → with_file f files ≡ files ++ f ∷ []
put_last f above [] less low = refl
put_last f above (g ∷ gs) less low =
    let lower : g.number < f.number = omega (arith, less, low.0) in
    let test : nat_le f.number g.number ≡ false = grind (arith, nat_tests, lower) in
    ap (λ b. if b then f ∷ g ∷ gs else g ∷ with_file f gs) test ∙ ap (λ l. g ∷ l) (put_last f above gs less low.1)

low_with : (f : ListedFile) (above : ℕ) (files : List ListedFile) → above < f.number → AllByRecursion (λ (g : ListedFile). g.number ≤ above) files → AllByRecursion (λ (g : ListedFile). g.number ≤ f.number) (files ++ f ∷ [])
low_with f above [] less low = (omega arith, tt)
low_with f above (g ∷ gs) less low = (omega (arith, less, low.0), low_with f above gs less low.1)

put_behind : (above : ℕ) (added files : List ListedFile) → FilesRise above added → AllByRecursion (λ (g : ListedFile). g.number ≤ above) files → with_files added files ≡ files ++ added
put_behind above [] files rise low = sym (append-nil files)
put_behind above (f ∷ added) files rise low =
    ap (with_files added) (put_last f above files rise.0 low) ∙ put_behind f.number added (files ++ f ∷ []) rise.2 (low_with f above files rise.0 low) ∙ append_assoc files (f ∷ []) added

same_files : (files : List ListedFile) → FilesRise 0 files → with_files files [] ≡ files
same_files files rise = put_behind 0 files [] rise tt

-- ---- the edits, one after another

-- the table before its files come
abbrev bare : ListedDefinition → ListedDefinition
bare t = record t { files = [] }

abbrev with_tables : Listing → List ListedDefinition → Listing
with_tables l tables = record l { tables = tables }

-- the table before its indexes come, too
abbrev pub blank : ListedDefinition → ListedDefinition
blank t = record t { definition = record t.definition { indexes = [] }; numbers = []; files = [] }

-- the tables are created
created_all : (n : ℕ) (tables done : List ListedDefinition) (l : Listing) → after_all (Some (with_tables l done)) (table_edits n tables) ≡ Some (with_tables l (done ++ map blank tables))
created_all n [] done l = ap (λ (ts : List ListedDefinition). Some (with_tables l ts)) (sym (append-nil done))
created_all n (t ∷ tables) done l =
    created_all (suc n) tables (done ++ blank t ∷ []) l ∙ ap (λ (ts : List ListedDefinition). Some (with_tables l ts)) (append_assoc done (blank t ∷ []) (map blank tables))

-- ---- the indexes come

-- their effect on the tables
abbrev indexed : List IndexDef → List ListedDefinition → List ListedDefinition
indexed [] tables = tables
indexed (def ∷ defs) tables = indexed defs (at_number 1 def.table (listed_with_index def) tables)

indexed_all : (defs : List IndexDef) (tables : List ListedDefinition) (l : Listing) → after_all (Some (with_tables l tables)) (map index_edit defs) ≡ Some (with_tables l (indexed defs tables))
indexed_all [] tables l = refl
indexed_all (def ∷ defs) tables l = indexed_all defs (at_number 1 def.table (listed_with_index def) tables) l

-- the definitions for the table of this number
abbrev those_of : ℕ → List IndexDef → List IndexDef
those_of n defs = filter (λ (def : IndexDef). nat_eq n def.table) defs

-- a table with some of them
abbrev with_those : List IndexDef → ListedDefinition → ListedDefinition
with_those [] t = t
with_those (def ∷ defs) t = with_those defs (listed_with_index def t)

-- each table gets its own
abbrev shared : ℕ → List IndexDef → List ListedDefinition → List ListedDefinition
shared n defs [] = []
shared n defs (t ∷ tables) = with_those (those_of n defs) t ∷ shared (suc n) defs tables

share_one : (n : ℕ) (def : IndexDef) (defs : List IndexDef) (tables : List ListedDefinition) → shared n defs (at_number n def.table (listed_with_index def) tables) ≡ shared n (def ∷ defs) tables
share_one n def defs [] = refl
share_one n def defs (t ∷ tables) =
    let rest = share_one (suc n) def defs tables in
    elim (nat_eq n def.table) as (λ b. with_those (those_of n defs) (if b then listed_with_index def t else t) ∷ shared (suc n) defs (at_number (suc n) def.table (listed_with_index def) tables)
    ≡ with_those (if b then def ∷ those_of n defs else those_of n defs) t ∷ shared (suc n) (def ∷ defs) tables) [
      | true ↦ ap (λ ts. with_those (those_of n defs) (listed_with_index def t) ∷ ts) rest
      | false ↦ ap (λ ts. with_those (those_of n defs) t ∷ ts) rest
    ]

none_shared : (n : ℕ) (tables : List ListedDefinition) → shared n [] tables ≡ tables
none_shared n [] = refl
none_shared n (t ∷ tables) = ap (λ ts. t ∷ ts) (none_shared (suc n) tables)

indexed_shared : (defs : List IndexDef) (tables : List ListedDefinition) → indexed defs tables ≡ shared 1 defs tables
indexed_shared [] tables = sym (none_shared 1 tables)
indexed_shared (def ∷ defs) tables = indexed_shared defs (at_number 1 def.table (listed_with_index def) tables) ∙ share_one 1 def defs tables

-- ---- the order of their numbers keeps those of each table

-- the numbers of definitions rise
abbrev DefsRise : ℕ → List IndexDef → Type 0
DefsRise above defs = NumbersRise above (map (λ (def : IndexDef). def.number) defs)

those_both : (n : ℕ) (xs ys : List IndexDef) → those_of n (xs ++ ys) ≡ those_of n xs ++ those_of n ys
those_both n [] ys = refl
those_both n (x ∷ xs) ys =
    let rest = those_both n xs ys in
    elim (nat_eq n x.table) as (λ b. (if b then x ∷ those_of n (xs ++ ys) else those_of n (xs ++ ys)) ≡ (if b then x ∷ those_of n xs else those_of n xs) ++ those_of n ys) [
      | true ↦ ap (λ l. x ∷ l) rest
      | false ↦ rest
    ]

other_kept : (n : ℕ) (def : IndexDef) (defs : List IndexDef) → nat_eq n def.table ≡ false → those_of n (with_def def defs) ≡ those_of n defs
other_kept n def [] other = ap (λ b. if b then def ∷ [] else []) other
other_kept n def (x ∷ defs) other =
    let rest = other_kept n def defs other in
    elim (nat_le def.number x.number) as (λ b. those_of n (if b then def ∷ x ∷ defs else x ∷ with_def def defs) ≡ those_of n (x ∷ defs)) [
      | true ↦ ap (λ b. if b then def ∷ those_of n (x ∷ defs) else those_of n (x ∷ defs)) other
      | false ↦ ap (λ l. if nat_eq n x.table then x ∷ l else l) rest
    ]

-- a definition below those of its table comes before them
own_first : (n : ℕ) (def : IndexDef) (defs : List IndexDef) → nat_eq n def.table ≡ true → DefsRise def.number (those_of n defs) → those_of n (with_def def defs) ≡ def ∷ those_of n defs
own_first n def [] own rise = ap (λ b. if b then def ∷ [] else []) own
own_first n def (x ∷ defs) own rise = by (nat_le def.number x.number) refl (nat_eq n x.table) refl rise (own_first n def defs own)
  where
    by : (le : Bool) → nat_le def.number x.number ≡ le → (here : Bool) → nat_eq n x.table ≡ here → DefsRise def.number (if here then x ∷ those_of n defs else those_of n defs)
        → (DefsRise def.number (those_of n defs) → those_of n (with_def def defs) ≡ def ∷ those_of n defs)
        → those_of n (if le then def ∷ x ∷ defs else x ∷ with_def def defs) ≡ def ∷ (if here then x ∷ those_of n defs else those_of n defs)
    by true le here is rise rest = ap (λ b. if b then def ∷ those_of n (x ∷ defs) else those_of n (x ∷ defs)) own ∙ ap (λ b. def ∷ (if b then x ∷ those_of n defs else those_of n defs)) is
    by false le true is rise rest = (let above : def.number < x.number = rise.0 in absurd (grind (arith, nat_tests, le, above)))
    by false le false is rise rest = ap (λ b. if b then x ∷ those_of n (with_def def defs) else those_of n (with_def def defs)) is ∙ rest rise

sorted_those : (n above : ℕ) (defs : List IndexDef) → DefsRise above (those_of n defs) → those_of n (by_number defs) ≡ those_of n defs
sorted_those n above [] rise = refl
sorted_those n above (def ∷ defs) rise = by (nat_eq n def.table) refl rise (λ low. sorted_those n low defs)
  where
    by : (here : Bool) → nat_eq n def.table ≡ here → DefsRise above (if here then def ∷ those_of n defs else those_of n defs)
        → ((low : ℕ) → DefsRise low (those_of n defs) → those_of n (by_number defs) ≡ those_of n defs)
        → those_of n (with_def def (by_number defs)) ≡ (if here then def ∷ those_of n defs else those_of n defs)
    by true is rise rest =
        let same = rest def.number rise.1 in
        own_first n def (by_number defs) is (subst (λ l. DefsRise def.number l) (sym same) rise.1) ∙ ap (λ l. def ∷ l) same
    by false is rise rest = other_kept n def (by_number defs) is ∙ rest above rise

-- ---- those of a table are its own

itself : (n : ℕ) → nat_eq n n ≡ true
itself n = grind (arith, nat_tests)

all_own : (n : ℕ) (d : Definition) (pairs : List (ℕ × Index)) → those_of n (map (def_of n d) pairs) ≡ map (def_of n d) pairs
all_own n d [] = refl
all_own n d (p ∷ pairs) = ap (λ b. if b then def_of n d p ∷ those_of n (map (def_of n d) pairs) else those_of n (map (def_of n d) pairs)) (itself n) ∙ ap (λ l. def_of n d p ∷ l) (all_own n d pairs)

no_own : (n m : ℕ) (d : Definition) (pairs : List (ℕ × Index)) → n < m → those_of n (map (def_of m d) pairs) ≡ []
no_own n m d [] less = refl
no_own n m d (p ∷ pairs) less =
    let other : nat_eq n m ≡ false = grind (arith, nat_tests, less) in
    ap (λ b. if b then def_of m d p ∷ those_of n (map (def_of m d) pairs) else those_of n (map (def_of m d) pairs)) other ∙ no_own n m d pairs less

-- those of later tables are none of them
none_later : (n m : ℕ) (tables : List ListedDefinition) → n < m → those_of n (all_defs m tables) ≡ []
none_later n m [] less = refl
none_later n m (t ∷ tables) less =
    those_both n (defs_of m t) (all_defs (suc m) tables) ∙ ap (λ l. l ++ those_of n (all_defs (suc m) tables)) (no_own n m t.definition (zip t.numbers t.definition.indexes) less)
    ∙ none_later n (suc m) tables (omega (arith, less))

own_defs : (n : ℕ) (t : ListedDefinition) (tables : List ListedDefinition) → those_of n (all_defs n (t ∷ tables)) ≡ defs_of n t
own_defs n t tables =
    those_both n (defs_of n t) (all_defs (suc n) tables) ∙ ap (λ l. l ++ those_of n (all_defs (suc n) tables)) (all_own n t.definition (zip t.numbers t.definition.indexes))
    ∙ ap (λ l. defs_of n t ++ l) (none_later n (suc n) tables (omega arith)) ∙ append-nil (defs_of n t)

-- a table gets its numbers and indexes
with_all : (n : ℕ) (d : Definition) (t : ListedDefinition) (numbers : List ℕ) (indexes : List Index) → length numbers ≡ length indexes
    → with_those (map (def_of n d) (zip numbers indexes)) t ≡ record t { definition = record t.definition { indexes = t.definition.indexes ++ indexes }; numbers = t.numbers ++ numbers }
with_all n d t [] [] counted = λ i. record t { definition = record t.definition { indexes = sym (append-nil t.definition.indexes) i }; numbers = sym (append-nil t.numbers) i }
with_all n d t [] (x ∷ indexes) counted = absurd (omega (arith, counted))
with_all n d t (m ∷ numbers) [] counted = absurd (omega (arith, counted))
with_all n d t (m ∷ numbers) (x ∷ indexes) counted =
    with_all n d (listed_with_index (def_of n d (m, x)) t) numbers indexes (omega (arith, counted))
    ∙ (λ i. record t { definition = record t.definition { indexes = append_assoc t.definition.indexes (x ∷ []) indexes i }; numbers = append_assoc t.numbers (m ∷ []) numbers i })

numbers_zip : (n : ℕ) (d : Definition) (numbers : List ℕ) (indexes : List Index) → length numbers ≡ length indexes → map (λ (def : IndexDef). def.number) (map (def_of n d) (zip numbers indexes)) ≡ numbers
numbers_zip n d [] indexes counted = refl
numbers_zip n d (m ∷ numbers) [] counted = absurd (omega (arith, counted))
numbers_zip n d (m ∷ numbers) (x ∷ indexes) counted = ap (λ l. m ∷ l) (numbers_zip n d numbers indexes (omega (arith, counted)))

-- the definitions in the order of their numbers give each table its own
gives_own : (n : ℕ) (front : List IndexDef) (tables : List ListedDefinition) → ((m : ℕ) → n ≤ m → those_of m front ≡ [])
    → AllByRecursion HasIndexes tables → AllByRecursion (λ (t : ListedDefinition). NumbersRise 0 t.numbers) tables → shared n (by_number (front ++ all_defs n tables)) (map blank tables) ≡ map bare tables
gives_own n front [] before has rise = refl
gives_own n front (t ∷ tables) before has rise =
    let own : those_of n (front ++ all_defs n (t ∷ tables)) ≡ defs_of n t =
    those_both n front (all_defs n (t ∷ tables)) ∙ ap (λ l. l ++ those_of n (all_defs n (t ∷ tables))) (before n (omega arith)) ∙ own_defs n t tables in
    let rising : DefsRise 0 (those_of n (front ++ all_defs n (t ∷ tables))) =
    subst (λ l. DefsRise 0 l) (sym own) (subst (NumbersRise 0) (sym (numbers_zip n t.definition t.numbers t.definition.indexes has.0.counted)) rise.0) in
    let first : with_those (those_of n (by_number (front ++ all_defs n (t ∷ tables)))) (blank t) ≡ bare t =
    ap (λ l. with_those l (blank t)) (sorted_those n 0 (front ++ all_defs n (t ∷ tables)) rising ∙ own) ∙ with_all n t.definition (blank t) t.numbers t.definition.indexes has.0.counted in
    let next = front ++ defs_of n t in
    let later : (m : ℕ) → suc n ≤ m → those_of m next ≡ [] =
    λ m above. those_both m front (defs_of n t) ∙ ap (λ l. l ++ those_of m (defs_of n t)) (before m (omega (arith, above))) ∙ none_of m n t.definition (zip t.numbers t.definition.indexes) above in
    let rest = gives_own (suc n) next tables later has.1 rise.1 in
    let joined : next ++ all_defs (suc n) tables ≡ front ++ all_defs n (t ∷ tables) = append_assoc front (defs_of n t) (all_defs (suc n) tables) in
    ap (λ x. x ∷ shared (suc n) (by_number (front ++ all_defs n (t ∷ tables))) (map blank tables)) first
    ∙ ap (λ l. bare t ∷ shared (suc n) (by_number l) (map blank tables)) (sym joined) ∙ ap (λ ts. bare t ∷ ts) rest
  where
    none_of : (m n : ℕ) (d : Definition) (pairs : List (ℕ × Index)) → suc n ≤ m → those_of m (map (def_of n d) pairs) ≡ []
    none_of m n d [] above = refl
    none_of m n d (p ∷ pairs) above =
        let other : nat_eq m n ≡ false = grind (arith, nat_tests, above) in
        ap (λ b. if b then def_of n d p ∷ those_of m (map (def_of n d) pairs) else those_of m (map (def_of n d) pairs)) other ∙ none_of m n d pairs above

-- ---- the files come

-- the item behind these is changed
changed_at : {A : Type 0} (first n : ℕ) (change : A → A) (done : List A) (x : A) (xs : List A) → n ≡ first + length done → at_number first n change (done ++ x ∷ xs) ≡ done ++ change x ∷ xs
changed_at first n change [] x xs is =
    let same : first ≡ n = omega (arith, is) in
    let here : nat_eq first n ≡ true = grind (arith, nat_tests, same) in
    ap (λ b. (if b then change x else x) ∷ at_number (suc first) n change xs) here ∙ ap (λ l. change x ∷ l) (unchanged (suc first) n change xs (omega (arith, same)))
changed_at first n change (y ∷ done) x xs is =
    let above : first < n = omega (arith, is) in
    let other : nat_eq first n ≡ false = grind (arith, nat_tests, above) in
    ap (λ b. (if b then change y else y) ∷ at_number (suc first) n change (done ++ x ∷ xs)) other ∙ ap (λ l. y ∷ l) (changed_at (suc first) n change done x xs (omega (arith, is)))

-- the files of a table come
filed : (n : ℕ) (l : Listing) (done tables : List ListedDefinition) (t : ListedDefinition) (files : List ListedFile) → FilesRise 0 files → n ≡ suc (length done)
    → after_all (Some (with_tables l (done ++ bare t ∷ tables))) (files_edit n t.since l.floor l.last files) ≡ Some (with_tables l (done ++ record t { files = files } ∷ tables))
filed n l done tables t [] rise is = refl
filed n l done tables t (f ∷ files) rise is =
    ap (λ (ts : List ListedDefinition). Some (with_tables l ts)) (changed_at 1 n (replaced [] (f ∷ files) t.since) done (bare t) tables (omega (arith, is)))
    ∙ ap (λ (fs : List ListedFile). Some (with_tables l (done ++ record t { files = fs } ∷ tables))) (same_files (f ∷ files) rise)

-- and those of each
filed_all : (n : ℕ) (l : Listing) (done tables : List ListedDefinition) → AllByRecursion (λ (t : ListedDefinition). FilesRise 0 t.files) tables → n ≡ suc (length done)
    → after_all (Some (with_tables l (done ++ map bare tables))) (file_edits n l.floor l.last tables) ≡ Some (with_tables l (done ++ tables))
filed_all n l done [] rise is = refl
filed_all n l done (t ∷ tables) rise is =
    let rest = file_edits (suc n) l.floor l.last tables in
    fold-append after (Some (with_tables l (done ++ bare t ∷ map bare tables))) (files_edit n t.since l.floor l.last t.files) rest
    ∙ ap (λ (from : Option Listing). after_all from rest) (filed n l done (map bare tables) t t.files rise.0 is)
    ∙ ap (λ (ts : List ListedDefinition). after_all (Some (with_tables l ts)) rest) (sym (append_assoc done (t ∷ []) (map bare tables)))
    ∙ filed_all (suc n) l (done ++ t ∷ []) tables rise.1 (omega (arith, is, length-append done (t ∷ [])))
    ∙ ap (λ (ts : List ListedDefinition). Some (with_tables l ts)) (append_assoc done (t ∷ []) tables)

-- ---- the whole listing

counted_same : (payload : Bytes) (listing made : Listing) → Some made ≡ with_record_counted payload (Some listing) → ListsSame listing made
counted_same payload listing made is =
    let same : made ≡ record listing { records = listing.records + 1; length = listing.length + (5 + length payload) }
    = cc in
    record { partitioner = ap (λ (l : Listing). l.partitioner) same; floor = ap (λ (l : Listing). l.floor) same; last = ap (λ (l : Listing). l.last) same; tables = ap (λ (l : Listing). l.tables) same }

-- before its tables are created
abbrev begun : Listing → Listing
begun listing = started listing.partitioner listing.floor listing.last

-- what is built up anew from a listing that edits have made is the same, where each table's indexes came in the order of their numbers
pub rewritten_same : (listing made : Listing) → IsConsistent listing → HasIndexesInOrder listing → IsRewritten listing made → ListsSame listing made
rewritten_same listing made known rise is =
    let tables = listing.tables in
    let files = file_edits 1 listing.floor listing.last tables in
    let defined : after_all (Some (with_tables (begun listing) (map blank tables))) (index_edits tables) ≡ Some (with_tables (begun listing) (map bare tables)) =
    indexed_all (index_defs tables) (map blank tables) (begun listing)
    ∙ ap (λ (ts : List ListedDefinition). Some (with_tables (begun listing) ts)) (indexed_shared (index_defs tables) (map blank tables) ∙ gives_own 1 [] tables (λ m above. refl) known.indexes rise) in
    let built : after_all None (rewrite_edits listing) ≡ Some (with_tables (begun listing) tables) =
    fold-append after (Some (begun listing)) (table_edits 1 tables) (index_edits tables ++ files)
    ∙ ap (λ (from : Option Listing). after_all from (index_edits tables ++ files)) (created_all 1 tables [] (begun listing))
    ∙ fold-append after (Some (with_tables (begun listing) (map blank tables))) (index_edits tables) files
    ∙ ap (λ (from : Option Listing). after_all from files) defined
    ∙ filed_all 1 (begun listing) [] tables known.files (omega arith)
    in
    let same = counted_same (encoded (rewrite_edits listing)) (with_tables (begun listing) tables) made (is ∙ ap (with_record_counted (encoded (rewrite_edits listing))) built) in
    record { partitioner = same.partitioner; floor = same.floor; last = same.last; tables = same.tables }
