-- The names of the files of a layout in memory, and their lines.
use Rattle.std.proofs.Common.{◌≡◌, ℕ, List, [], ◌∷◌, ◌++◌, length, map, Result, Ok, Err, OnOk, refl, sym, ap, ◌∙◌}
use Rattle.std.specs.List.{flat_map}
use Rattle.std.proofs.lemmas.List.{append_assoc, length-map}
use Rattle.sasi_host.specs.declared.name.FileName.{FileName}
use Rattle.sasi_manifest.specs.declared.files.ListedFile.{ListedFile}
use Rattle.sasi_model.specs.Lines.{files_lines, line}
use Rattle.sasi_model.specs.State.{Definition}
use Rattle.sasi_print.specs.Files.{file_count_line}
use Rattle.sasi_layout.specs.FileNames.{names_listed}
use Rattle.sasi_layout.specs.Layout.{File, TableParts}
use Rattle.sasi_machine_layout.specs.declared.contents.Contents.{Contents}
use Rattle.sasi_machine_layout.specs.declared.contents.FileContents.{FileContents}
use Rattle.sasi_machine_layout.specs.declared.contents.TableContents.{TableContents}
use Rattle.sasi_machine_layout.specs.Contents.{AreHeld, IsContents, file_of, layout_of, tables_of}

-- ---- which files there are

-- what a table lists
abbrev pub listed_in : TableContents → List ListedFile
listed_in t = map (λ (f : FileContents). f.listed) t.files.items

same_files : (files : List FileContents) → map (λ (f : File). f.listed) (map file_of files) ≡ map (λ (f : FileContents). f.listed) files
same_files [] = refl
same_files (f ∷ files) = ap (λ (l : List ListedFile). f.listed ∷ l) (same_files files)

same_tables : (ds : List Definition) (numbers : List (List ℕ)) (ts : List TableContents) → AreHeld ds numbers ts → map (λ (t : TableParts). map (λ (f : File). f.listed) t.files) (tables_of ds numbers ts) ≡ map listed_in ts
same_tables [] [] [] held = refl
same_tables [] [] (t ∷ ts) held = absurd held
same_tables [] (n ∷ ns) ts held = absurd held
same_tables (d ∷ ds) [] ts held = absurd held
same_tables (d ∷ ds) (n ∷ ns) [] held = absurd held
same_tables (d ∷ ds) (n ∷ ns) (t ∷ ts) held = (λ i. same_files t.files.items i ∷ same_tables ds ns ts held i)

pub names_are : (c : Contents) → IsContents c → names_listed (map listed_in c.tables.items) ≡ names_listed (map (λ (t : TableParts). map (λ (f : File). f.listed) t.files) (layout_of c).tables)
names_are c is = ap names_listed (sym (same_tables c.schema.definitions c.schema.numbers c.tables.items is.held))

-- ---- their lines

-- a line for each name, and a line with their number
pub lines_told : {T E : Type 0} (text : FileName → List ℕ) (names told : List FileName) (n : ℕ) (front lines all : List ℕ) (result : Result T E) → names ≡ told → n ≡ length names
    → lines ≡ front ++ flat_map line (map text names) → OnOk result (all ≡ lines ++ file_count_line n) → OnOk result (all ≡ front ++ files_lines (map text told))
lines_told text names told n front lines all (Ok t) same counted printed added =
    added ∙ ap (λ (l : List ℕ). l ++ file_count_line n) printed
    ∙ append_assoc front (flat_map line (map text names)) (file_count_line n)
    ∙ ap (λ (k : ℕ). front ++ (flat_map line (map text names) ++ file_count_line k)) (counted ∙ sym (length-map names text))
    ∙ ap (λ (l : List FileName). front ++ files_lines (map text l)) same
lines_told text names told n front lines all (Err e) same counted printed added = tt
