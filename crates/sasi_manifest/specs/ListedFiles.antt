-- The data files that a manifest lists.
use Rattle.std.specs.Prelude.{◌≡◌, ℕ, ◌+◌, ◌*◌, ◌<◌, ◌≤◌, ◌^◌, length, map, max, not, nat_eq, nat_le, Bool, true, List, [], ◌∷◌, if◌then◌else◌, refl}
use Rattle.std.specs.List.{AllByRecursion, filter, list_any}
use Rattle.std.specs.Coded.{Coded, code_by, coded×, coded_ℕ, coded_list}
use Rattle.sasi_host.specs.declared.name.FileName.{FileName}
use Rattle.sasi_host.specs.declared.name.Kind.TheVariants.{Index}
use Rattle.sasi_host.specs.Names.{data_name, name_eq}
use Rattle.sasi_manifest.specs.declared.files.ListedFile.{ListedFile}
use Rattle.sasi_manifest.specs.declared.files.PartNumber.{PartNumber}

-- the number is one of these
abbrev pub is_among : List ℕ → ℕ → Bool
is_among numbers n = list_any (nat_eq n) numbers

-- one of the files has the number
abbrev pub has_file : List ListedFile → ℕ → Bool
has_file files n = list_any (λ f. nat_eq n f.number) files

-- the files but for those of these numbers
abbrev pub without : List ℕ → List ListedFile → List ListedFile
without removed files = filter (λ f. not (is_among removed f.number)) files

-- with one more, in the order of the numbers
abbrev pub with_file : ListedFile → List ListedFile → List ListedFile
with_file f [] = f ∷ []
with_file f (g ∷ gs) = if nat_le f.number g.number then f ∷ g ∷ gs else g ∷ with_file f gs

-- with more of them, one after another
abbrev pub with_files : List ListedFile → List ListedFile → List ListedFile
with_files [] files = files
with_files (f ∷ added) files = with_files added (with_file f files)

-- the numbers don't fall, and the first isn't below this one
abbrev pub AreInOrder : ℕ → List ListedFile → Type 0
AreInOrder least [] = Unit {0}
AreInOrder least (f ∷ fs) = (least ≤ f.number) × AreInOrder f.number fs

-- ---- names

-- the index file that goes with the data file of this number, with the numbers of its index and of the part
abbrev pub index_name : ℕ → PartNumber → FileName
index_name number p = record { kind = Index; number = number; index = p.index; part = p.part }

-- the data file, and the index files that go with it
abbrev pub names_of : ListedFile → List FileName
names_of f = data_name f.number ∷ map (index_name f.number) f.parts

-- a name is one of them
abbrev pub is_name_of : ListedFile → FileName → Bool
is_name_of f name = list_any (name_eq name) (names_of f)

-- ---- parts of indexes

-- the numbers rise, the first above this one
abbrev pub NumbersRise : ℕ → List ℕ → Type 0
NumbersRise above [] = Unit {0}
NumbersRise above (n ∷ ns) = (above < n) × NumbersRise n ns

-- the numbers of the indexes rise from part to part
abbrev pub IndexesRise : List PartNumber → Type 0
IndexesRise [] = Unit {0}
IndexesRise (p ∷ ps) = NumbersRise p.index (map (λ q. q.index) ps)

-- a part of one of the indexes of these numbers, with a number from 1 on
pub record IsPart (numbers : List ℕ) (p : PartNumber) : Type 0 where
  pub listed : is_among numbers p.index ≡ true
  pub index_fits : p.index < 2 ^ 32
  pub some : 1 ≤ p.part
  pub part_fits : p.part < 2 ^ 32

-- The parts of a file of a table whose indexes have these numbers: of each index at most one, in the order of the indexes.
pub record FitParts (numbers : List ℕ) (parts : List PartNumber) : Type 0 where
  pub few : length parts < 2 ^ 16
  pub each : AllByRecursion (IsPart numbers) parts
  pub rise : IndexesRise parts

-- ---- numbers of parts

-- the largest, 0 where there is none
abbrev pub largest_of_parts : List PartNumber → ℕ
largest_of_parts [] = 0
largest_of_parts (p ∷ ps) = max p.part (largest_of_parts ps)

abbrev pub largest_of_files : List ListedFile → ℕ
largest_of_files [] = 0
largest_of_files (f ∷ fs) = max (largest_of_parts f.parts) (largest_of_files fs)

-- ---- lengths

-- how many bytes a file takes in a record
abbrev pub file_length : ListedFile → ℕ
file_length f = 6 + 8 * length f.parts

-- ---- codes, by which proofs tell values apart

abbrev pub coded_part : Coded PartNumber
coded_part = code_by (ℕ × ℕ) (coded× coded_ℕ coded_ℕ) (λ p. (p.index, p.part)) (λ c. record { index = c.0; part = c.1 }) (λ _. refl)

abbrev pub coded_file : Coded ListedFile
coded_file = code_by (ℕ × List PartNumber) (coded× coded_ℕ (coded_list coded_part)) (λ f. (f.number, f.parts)) (λ c. record { number = c.0; parts = c.1 }) (λ _. refl)
