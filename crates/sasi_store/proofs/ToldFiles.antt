-- What SHOW FILES tells of each layout that the store serves, and in which order.
use Rattle.std.proofs.Common.{◌≡◌, ◌∷◌, ◌++◌, ◌∙◌, ℕ, zero, suc, List, [], Option, None, Some, ap, map, refl, sym}
use Rattle.std.proofs.lemmas.List.{append-nil}
use Rattle.std.specs.Prelude.{IsSome}
use Rattle.std.specs.Cmp.{IsTotalOrder, nat_cmp_total}
use Rattle.std.specs.List.{flat_map}
use Rattle.std.specs.List.Sorted.{IsPermutation, IsSortedBy}
use Rattle.std.specs.Map.{values_of}
use Rattle.std.specs.Ordering.{is_lt, nat_cmp}
use Rattle.std.proofs.lemmas.Cmp.{on_total, then_total}
use Rattle.std.proofs.lemmas.Map.Lookups.{CmpEqualImpliesEq, exact_pairs, exact_unsigned}
use Rattle.sasi_host.specs.declared.name.FileName.{FileName}
use Rattle.sasi_layout.specs.FileNames.{file_names, names_listed, told_cmp}
use Rattle.sasi_layout.specs.Layout.{File, Layout, TableParts, listed_of, listing_of}
use Rattle.sasi_manifest.specs.ListedDefinition.{ListedDefinition}
use Rattle.sasi_manifest.specs.declared.files.ListedFile.{ListedFile}
use Rattle.sasi_manifest.specs.declared.listing.Listing.{Listing}
use Rattle.sasi_compact.specs.declared.output.Output.{Output}
use Rattle.sasi_fetch.specs.Cursors.{view_of}
use Rattle.sasi_host.specs.Names.{data_name}
use Rattle.sasi_store.proofs.NameOrder.{told_exact, told_total}
use Rattle.sasi_print.specs.declared.file_lines.FileState.{FileState}
use Rattle.sasi_print.specs.declared.file_lines.FileState.TheVariants.{Building, Current, Obsolete}
use Rattle.sasi_segments.proofs.Sorting.{sort_is}
use Rattle.sasi_segments.specs.Sorting.{sort}
use Rattle.sasi_views.specs.Parts.{view_names}
use Rattle.sasi_store.specs.Cursors.{Opened, views_out}
use Rattle.sasi_store.specs.ToldFiles.{built_by, file_cmp, state_rank}
use Rattle.sasi_store.specs.declared.session_state.OpenCursor.{OpenCursor}
use Rattle.sasi_store.specs.declared.show_files.ToldFile.{ToldFile}

-- the files of a listing, table by table
abbrev files_listed : List ListedDefinition → List (List ListedFile)
files_listed tables = map (λ (t : ListedDefinition). t.files) tables

files_there : (tables : List TableParts) → files_listed (map listed_of tables) ≡ map (λ (t : TableParts). map (λ (f : File). f.listed) t.files) tables
files_there [] = refl
files_there (t ∷ tables) = ap (λ (rest : List (List ListedFile)). map (λ (f : File). f.listed) t.files ∷ rest) (files_there tables)

-- **Sorted names of a listing's files are those of each layout that lists the same.**
pub names_are : (names : List FileName) (listing : Listing) (l : Layout) → names ≡ sort told_cmp (names_listed (map (λ (t : ListedDefinition). t.files) listing.tables)) → listing ≡ listing_of l
    → names ≡ file_names l
names_are names listing l are is = are ∙ ap (λ (k : Listing). sort told_cmp (names_listed (files_listed k.tables))) is ∙ ap (λ (files : List (List ListedFile)). sort told_cmp (names_listed files)) (files_there l.tables)

-- ---- the order in which they are told

pub files_total : IsTotalOrder file_cmp
files_total = then_total (on_total (λ (f : ToldFile). f.name) told_total) (on_total (λ (f : ToldFile). state_rank f.state) nat_cmp_total)

-- the state of this rank
abbrev ranked : ℕ → FileState
ranked zero = Current
ranked (suc zero) = Obsolete
ranked (suc (suc n)) = Building

ranked_back : (s : FileState) → ranked (state_rank s) ≡ s
ranked_back Current = refl
ranked_back Obsolete = refl
ranked_back Building = refl

file_back : (f : ToldFile) → record { name = f.name; state = ranked (state_rank f.state) } ≡ f
file_back f = ap (λ (s : FileState). record { name = f.name; state = s }) (ranked_back f.state)

-- the file of this name and of a state of this rank
abbrev file_of : FileName × ℕ → ToldFile
file_of p = record { name = p.0; state = ranked p.1 }

told_files_exact : CmpEqualImpliesEq file_cmp
told_files_exact a b alike =
    sym (file_back a) ∙ ap file_of (exact_pairs told_cmp nat_cmp told_exact exact_unsigned (a.name, state_rank a.state) (b.name, state_rank b.state) alike) ∙ file_back b

-- what a sort by this order leaves
pub files_sorted : (old new : List ToldFile) → IsPermutation old new → IsSortedBy (λ x y. is_lt (file_cmp x y)) new → new ≡ sort file_cmp old
files_sorted old new moved sorted = sym (sort_is files_total told_files_exact old new moved sorted)

-- ---- which files they are

-- the names that cursors hold, cursor by cursor
pub held_are : (es : Opened) → flat_map (λ (c : OpenCursor). view_names (view_of c.rows)) (values_of es) ≡ flat_map (λ view. view_names view) (views_out es)
held_are [] = refl
held_are (e ∷ es) = ap (λ (l : List FileName). view_names (view_of e.1.rows) ++ l) (held_are es)

-- what a task writes
pub built_is : (names : List FileName) (number : ℕ) (output : Option Output) → IsSome output → names ++ data_name number ∷ [] ≡ names ++ built_by number output
built_is names number None some = cc
built_is names number (Some o) some = refl

pub unbuilt : (names : List FileName) (number : ℕ) (output : Option Output) (found : Option ℕ) → found ≡ None → (IsSome output → found ≡ Some number) → names ≡ names ++ built_by number output
unbuilt names number None found none some = sym (append-nil names)
unbuilt names number (Some o) found none some = (let found_is : found ≡ Some number = some refl in cc (none, found_is))
