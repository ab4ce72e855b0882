-- Lists of the names of files, and those of listed files.
use Rattle.std.proofs.Common.{◌≡◌, ℕ, zero, suc, ◌+◌, ◌*◌, Bool, true, false, List, [], ◌∷◌, length, map, get_or, All, Contains, refl, sym, ◌∙◌, ap, subst, inl, inr, arith}
use Rattle.std.specs.Prelude.{◌||◌}
use Rattle.std.specs.List.{AllByRecursion, flat_map, list_any}
use Rattle.std.specs.List.Sorted.{IsPermutation, IsSorted}
use Rattle.std.proofs.lemmas.List.Elements.{All-append, All-contains, All-contains_itself, All-from_recursion, recursion_from_All}
use Rattle.std.proofs.lemmas.List.Sorted.{list_any-IsPermutation, sum_by-IsPermutation}
use Rattle.std.proofs.lemmas.List.Sums.{sum_by-append, sum_by-cons}
use Rattle.std.proofs.lemmas.Map.Views.{Contains-from_any}
use Rattle.sasi_host.specs.declared.name.FileName.{FileName}
use Rattle.sasi_host.specs.Names.{data_name, name_cmp, name_eq}
use Rattle.sasi_manifest.specs.declared.files.ListedFile.{ListedFile}
use Rattle.sasi_manifest.specs.declared.files.PartNumber.{PartNumber}
use Rattle.sasi_manifest.specs.declared.listing.Listing.{Listing}
use Rattle.sasi_manifest.specs.FileNames.{file_names}
use Rattle.sasi_manifest.specs.ListedDefinition.{ListedDefinition}
use Rattle.sasi_manifest.specs.ListedFiles.{index_name, names_of}
use Rattle.sasi_layout.proofs.KeptLaws.{name_itself, name_same}
use Rattle.sasi_recover.specs.FileEnds.{IsOfTable}
use Rattle.sasi_recover.specs.OpeningReads.{data_count, end_reads, ends_reads, index_count, part_count}
use Rattle.sasi_recover.specs.SealedFolder.{AreListedFiles}

-- ---- a name among others

-- what is among the names is found by the test of names
pub any_of : (xs : List FileName) (name : FileName) → Contains xs name → list_any (name_eq name) xs ≡ true
any_of [] name (k, within, is) = absurd (omega (arith, within))
any_of (x ∷ xs) name (zero, within, is) =
    let here : name_eq name x ≡ true = subst (λ (n : FileName). name_eq name n ≡ true) (sym is) (name_itself name) in
    ap (λ b. b || list_any (name_eq name) xs) here
any_of (x ∷ xs) name (suc k, within, is) = later (name_eq name x) (list_any (name_eq name) xs) (any_of xs name (k, omega (arith, within), is))
  where
    later : (a b : Bool) → b ≡ true → (a || b) ≡ true
    later true b is = refl
    later false b is = is

-- and what is found is among them
pub of_any : (xs : List FileName) (name : FileName) → list_any (name_eq name) xs ≡ true → Contains xs name
of_any xs name is = Contains-from_any name_same name xs is

-- all names have it, where each that is among them has it
pub all_of : (P : FileName → Type 0) (xs : List FileName) → ((name : FileName) → Contains xs name → P name) → AllByRecursion P xs
all_of P xs each = recursion_from_All P xs (λ k d within. each _ (All-contains_itself xs k d within))

-- ---- the names of listed files

-- these are the names of the listed files in some order
pub are_listed : (listing : Listing) (xs ys : List FileName) → xs ≡ file_names listing.tables → IsPermutation xs ys → IsSorted name_cmp ys → AreListedFiles listing ys
are_listed listing xs ys is same sorted = record {
  sorted = sorted;
  listed = λ name. sym (list_any-IsPermutation (name_eq name) xs ys same) ∙ ap (λ (l : List FileName). list_any (name_eq name) l) is;
}

-- each name of listed files has it, where each data file and each index file does
module _ (P : FileName → Type 0) (of_data : (number : ℕ) → P (data_name number)) (of_index : (number : ℕ) (part : PartNumber) → P (index_name number part)) where
  parts_all : (number : ℕ) (parts : List PartNumber) → AllByRecursion P (map (index_name number) parts)
  parts_all number [] = tt
  parts_all number (p ∷ parts) = (of_index number p, parts_all number parts)

  files_all : (fs : List ListedFile) → All P (flat_map names_of fs)
  files_all [] = All-from_recursion P [] tt
  files_all (f ∷ fs) = All-append P (names_of f) (flat_map names_of fs) (All-from_recursion P (names_of f) (of_data f.number, parts_all f.number f.parts)) (files_all fs)

  pub names_all : (ts : List ListedDefinition) → All P (file_names ts)
  names_all [] = All-from_recursion P [] tt
  names_all (t ∷ ts) = All-append P (flat_map names_of t.files) (file_names ts) (files_all t.files) (names_all ts)

-- **Each of them is a data file or an index file.**
pub of_tables : (listing : Listing) (files : List FileName) → AreListedFiles listing files → All IsOfTable files
of_tables listing files listed k d within =
    let name = get_or files k d in
    All-contains IsOfTable (file_names listing.tables) name (names_all IsOfTable (λ number. inl refl) (λ number part. inr refl) listing.tables)
    (of_any (file_names listing.tables) name (sym (listed.listed name) ∙ any_of files name (All-contains_itself files k d within)))

-- ---- how often their ends are read

parts_reads : (number : ℕ) (parts : List PartNumber) → ends_reads (map (index_name number) parts) ≡ 3 * length parts
parts_reads number [] = refl
parts_reads number (p ∷ parts) = omega (arith, sum_by-cons end_reads (index_name number p) (map (index_name number) parts), parts_reads number parts)

files_reads : (fs : List ListedFile) → ends_reads (flat_map names_of fs) ≡ 2 * length fs + 3 * part_count fs
files_reads [] = refl
files_reads (f ∷ fs) = omega (
  arith,
  sum_by-append end_reads (names_of f) (flat_map names_of fs),
  sum_by-cons end_reads (data_name f.number) (map (index_name f.number) f.parts),
  parts_reads f.number f.parts,
  files_reads fs,
)

tables_reads : (ts : List ListedDefinition) → ends_reads (file_names ts) ≡ 2 * data_count ts + 3 * index_count ts
tables_reads [] = refl
tables_reads (t ∷ ts) = omega (arith, sum_by-append end_reads (flat_map names_of t.files) (file_names ts), files_reads t.files, tables_reads ts)

-- **That of a data file takes two reads, and that of an index file three.**
pub reads_of_names : (ts : List ListedDefinition) (xs ys : List FileName) → xs ≡ file_names ts → IsPermutation xs ys → ends_reads ys ≡ 2 * data_count ts + 3 * index_count ts
reads_of_names ts xs ys is same = sum_by-IsPermutation end_reads xs ys same ∙ ap ends_reads is ∙ tables_reads ts
