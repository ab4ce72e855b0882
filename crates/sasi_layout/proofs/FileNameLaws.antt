-- The names of listed files: what a further file adds, and which names aren't among them.
use Rattle.std.specs.Prelude.{◌≡◌, ◌≢◌, ◌||◌, ◌&&◌, ◌+◌, ◌<◌, ◌≤◌, ℕ, suc, Bool, true, false, cond, nat_eq, nat_le, List, [], ◌∷◌, length, map, refl}
use Rattle.std.proofs.Common.{sym, ap, subst, ◌∙◌, arith}
use Rattle.std.proofs.lemmas.Bool.Decides.{nat_tests}
use Rattle.std.proofs.lemmas.List.Folds.{list_any-append}
use Rattle.std.specs.List.{AllByRecursion, flat_map, list_any}
use Rattle.sasi_host.specs.declared.name.FileName.{FileName}
use Rattle.sasi_host.specs.NameLaws.{name_numbers, named, named_back}
use Rattle.sasi_host.specs.Names.{data_name, name_eq, rank}
use Rattle.sasi_manifest.specs.declared.files.ListedFile.{ListedFile}
use Rattle.sasi_manifest.specs.declared.files.PartNumber.{PartNumber}
use Rattle.sasi_manifest.specs.FileNames.{has_name}
use Rattle.sasi_manifest.specs.ListedDefinition.{ListedDefinition}
use Rattle.sasi_manifest.specs.ListedFiles.{has_file, index_name, is_name_of, names_of, with_file, with_files, without}
use Rattle.sasi_manifest.specs.Listings.{at_number, replaced}
use Rattle.sasi_manifest.proofs.Replacing.{unchanged}
use Rattle.sasi_layout.specs.NumbersInOrder.{HasFilesInOrder, Rising}
use Rattle.sasi_layout.proofs.ListingLaws.{rising_bound}

-- ---- equal names

-- the test of names tells equal ones
pub name_same : (name other : FileName) → name_eq name other ≡ true → name ≡ other
name_same name other is =
    let kind : rank name.kind ≡ rank other.kind = grind (arith, nat_tests, is) in
    let number : name.number ≡ other.number = grind (arith, nat_tests, is) in
    let index : name.index ≡ other.index = grind (arith, nat_tests, is) in
    let part : name.part ≡ other.part = grind (arith, nat_tests, is) in
    let same : name_numbers name ≡ name_numbers other = cc in
    sym (named_back name) ∙ ap named same ∙ named_back other

-- and each is itself
pub name_itself : (name : FileName) → name_eq name name ≡ true
name_itself name = grind (arith, nat_tests)

-- ---- item by item

-- one of the items that each item leads to
pub any_flat : {A B : Type 0} (p : B → Bool) (f : A → List B) (xs : List A) → list_any p (flat_map f xs) ≡ list_any (λ x. list_any p (f x)) xs
any_flat p f [] = refl
any_flat p f (x ∷ xs) = list_any-append p (f x) (flat_map f xs) ∙ ap (λ b. list_any p (f x) || b) (any_flat p f xs)

-- one of the files has the name
abbrev pub have_name : List ListedFile → FileName → Bool
have_name files name = list_any (λ f. is_name_of f name) files

-- one of the tables has it, where one of its files has it
pub has_name_by : (name : FileName) (ts : List ListedDefinition) → has_name ts name ≡ list_any (λ t. have_name t.files name) ts
has_name_by name [] = refl
has_name_by name (t ∷ ts) =
    let p : FileName → Bool = name_eq name in
    list_any-append p (flat_map names_of t.files) (flat_map (λ (t : ListedDefinition). flat_map names_of t.files) ts)
    ∙ ap (λ b. b || has_name ts name) (any_flat p names_of t.files) ∙ ap (λ b. have_name t.files name || b) (has_name_by name ts)

-- ---- names of one file

parts_all : (P : FileName → Type 0) (number : ℕ) → ((name : FileName) → 3 ≤ rank name.kind → name.number ≡ number → P name) → (ps : List PartNumber) → AllByRecursion P (map (index_name number) ps)
parts_all P number each [] = tt
parts_all P number each (p ∷ ps) = (each (index_name number p) (omega arith) refl, parts_all P number each ps)

-- each is of a kind that tables have, and has the file's number
pub all_names : (P : FileName → Type 0) (f : ListedFile) → ((name : FileName) → 3 ≤ rank name.kind → name.number ≡ f.number → P name) → AllByRecursion P (names_of f)
all_names P f each = (each (data_name f.number) (omega arith) refl, parts_all P f.number each f.parts)

-- what each of some names has
pub name_there : (P : FileName → Type 0) (name : FileName) (names : List FileName) → AllByRecursion P names → list_any (name_eq name) names ≡ true → P name
name_there P name [] all is = cc
name_there P name (other ∷ names) all is = by (name_eq name other) refl is (name_there P name names all.1)
  where
    by : (b : Bool) → name_eq name other ≡ b → (b || list_any (name_eq name) names) ≡ true → (list_any (name_eq name) names ≡ true → P name) → P name
    by true same is rest = subst P (sym (name_same name other same)) all.0
    by false apart is rest = rest is

-- ---- names apart from them

or_false : (a b : Bool) → a ≡ false → b ≡ false → (a || b) ≡ false
or_false false b first second = second
or_false true b first second = cc

-- a name of another number
parts_apart : (name : FileName) (number : ℕ) (ps : List PartNumber) → name.number ≢ number → list_any (name_eq name) (map (index_name number) ps) ≡ false
parts_apart name number [] apart = refl
parts_apart name number (p ∷ ps) apart = or_false (name_eq name (index_name number p)) (list_any (name_eq name) (map (index_name number) ps)) (grind (arith, nat_tests, apart)) (parts_apart name number ps apart)

pub number_unnamed : (name : FileName) (f : ListedFile) → name.number ≢ f.number → is_name_of f name ≡ false
number_unnamed name f apart = or_false (name_eq name (data_name f.number)) (list_any (name_eq name) (map (index_name f.number) f.parts)) (grind (arith, nat_tests, apart)) (parts_apart name f.number f.parts apart)

files_above : (low high : ℕ) (name : FileName) (fs : List ListedFile) → Rising low high fs → high < name.number → have_name fs name ≡ false
files_above low high name [] rise above = refl
files_above low high name (f ∷ fs) rise above =
    let bound = rising_bound f.number high fs rise.1 in
    let apart : name.number ≢ f.number = λ same. omega (arith, same, bound, above) in
    or_false (is_name_of f name) (have_name fs name) (number_unnamed name f apart) (files_above f.number high name fs rise.1 above)

above_by : (high last : ℕ) (name : FileName) (ts : List ListedDefinition) → AllByRecursion (HasFilesInOrder high last) ts → high < name.number → list_any (λ t. have_name t.files name) ts ≡ false
above_by high last name [] in_order above = refl
above_by high last name (t ∷ ts) in_order above = or_false (have_name t.files name) (list_any (λ t. have_name t.files name) ts) (files_above 0 high name t.files in_order.0.rise above) (above_by high last name ts in_order.1 above)

-- **No table has a file, nor an index file, with a data number above the last used one.**
pub unlisted_above : (high last : ℕ) (name : FileName) (ts : List ListedDefinition) → AllByRecursion (HasFilesInOrder high last) ts → high < name.number → has_name ts name ≡ false
unlisted_above high last name ts in_order above = has_name_by name ts ∙ above_by high last name ts in_order above

-- a name of another kind
parts_other : (name : FileName) (number : ℕ) (ps : List PartNumber) → rank name.kind < 3 → list_any (name_eq name) (map (index_name number) ps) ≡ false
parts_other name number [] kind = refl
parts_other name number (p ∷ ps) kind = or_false (name_eq name (index_name number p)) (list_any (name_eq name) (map (index_name number) ps)) (grind (arith, nat_tests, kind)) (parts_other name number ps kind)

pub kind_unnamed : (name : FileName) (f : ListedFile) → rank name.kind < 3 → is_name_of f name ≡ false
kind_unnamed name f kind = or_false (name_eq name (data_name f.number)) (list_any (name_eq name) (map (index_name f.number) f.parts)) (grind (arith, nat_tests, kind)) (parts_other name f.number f.parts kind)

files_other : (name : FileName) (fs : List ListedFile) → rank name.kind < 3 → have_name fs name ≡ false
files_other name [] kind = refl
files_other name (f ∷ fs) kind = or_false (is_name_of f name) (have_name fs name) (kind_unnamed name f kind) (files_other name fs kind)

others_by : (name : FileName) (ts : List ListedDefinition) → rank name.kind < 3 → list_any (λ t. have_name t.files name) ts ≡ false
others_by name [] kind = refl
others_by name (t ∷ ts) kind = or_false (have_name t.files name) (list_any (λ t. have_name t.files name) ts) (files_other name t.files kind) (others_by name ts kind)

-- **A manifest, a seal or a segment of the log is no file of a table.**
pub other_kind : (name : FileName) (ts : List ListedDefinition) → rank name.kind < 3 → has_name ts name ≡ false
other_kind name ts kind = has_name_by name ts ∙ others_by name ts kind

-- ---- data files

no_part : (number other : ℕ) (ps : List PartNumber) → list_any (name_eq (data_name number)) (map (index_name other) ps) ≡ false
no_part number other [] = refl
no_part number other (p ∷ ps) = no_part number other ps

by_number : (b : Bool) → ((((true && b) && true) && true) || false) ≡ b
by_number true = refl
by_number false = refl

data_of_file : (number : ℕ) (f : ListedFile) → is_name_of f (data_name number) ≡ nat_eq number f.number
data_of_file number f = ap (λ b. name_eq (data_name number) (data_name f.number) || b) (no_part number f.number f.parts) ∙ by_number (nat_eq number f.number)

pub data_of_files : (number : ℕ) (fs : List ListedFile) → have_name fs (data_name number) ≡ has_file fs number
data_of_files number [] = refl
data_of_files number (f ∷ fs) = let a = data_of_file number f in let b = data_of_files number fs in λ i. a i || b i

data_by : (number : ℕ) (ts : List ListedDefinition) → list_any (λ t. have_name t.files (data_name number)) ts ≡ list_any (λ t. has_file t.files number) ts
data_by number [] = refl
data_by number (t ∷ ts) = let a = data_of_files number t.files in let b = data_by number ts in λ i. a i || b i

-- A data file is listed by its number.
pub data_named : (number : ℕ) (ts : List ListedDefinition) → has_name ts (data_name number) ≡ list_any (λ t. has_file t.files number) ts
data_named number ts = has_name_by (data_name number) ts ∙ data_by number ts

-- ---- one file more

swap : (a b c : Bool) → (a || (b || c)) ≡ (b || (a || c))
swap true true c = refl
swap true false c = refl
swap false b c = refl

join : (a b c : Bool) → ((a || b) || c) ≡ (a || (b || c))
join true b c = refl
join false b c = refl

module _ (name : FileName) where
  have_with_file : (f : ListedFile) (fs : List ListedFile) → have_name (with_file f fs) name ≡ (is_name_of f name || have_name fs name)
  have_with_file f [] = refl
  have_with_file f (g ∷ gs) =
      let rest = have_with_file f gs in
      elim (nat_le f.number g.number) as (λ b. have_name (cond b (f ∷ g ∷ gs) (g ∷ with_file f gs)) name ≡ (is_name_of f name || (is_name_of g name || have_name gs name))) [
        | true ↦ refl
        | false ↦ ap (λ b. is_name_of g name || b) rest ∙ swap (is_name_of g name) (is_name_of f name) (have_name gs name)
      ]

  none_away : (fs : List ListedFile) → without [] fs ≡ fs
  none_away [] = refl
  none_away (f ∷ fs) = ap (λ (l : List ListedFile). f ∷ l) (none_away fs)

  flushed_by : (f : ListedFile) (table since n : ℕ) (ts : List ListedDefinition) → n ≤ table → table < n + length ts
      → list_any (λ t. have_name t.files name) (at_number n table (replaced [] (f ∷ []) since) ts) ≡ (is_name_of f name || list_any (λ t. have_name t.files name) ts)
  flushed_by f table since n [] above below = absurd (omega (arith, above, below))
  flushed_by f table since n (t ∷ ts) above below = by (nat_eq n table) refl (λ apart. flushed_by f table since (suc n) ts (omega (arith, above, apart)) (omega (arith, below)))
    where
      g : ListedDefinition → ListedDefinition
      g = replaced [] (f ∷ []) since

      any : List ListedDefinition → Bool
      any us = list_any (λ t. have_name t.files name) us

      here : have_name (with_files (f ∷ []) (without [] t.files)) name ≡ (is_name_of f name || have_name t.files name)
      here = ap (λ (fs : List ListedFile). have_name (with_file f fs) name) (none_away t.files) ∙ have_with_file f t.files

      by : (b : Bool) → nat_eq n table ≡ b → (n ≢ table → any (at_number (suc n) table g ts) ≡ (is_name_of f name || any ts)) → (have_name (cond b (g t) t).files name || any (at_number (suc n) table g ts)) ≡ (is_name_of f name || (have_name t.files name || any ts))
      by true own rest =
          let same : n ≡ table = grind (arith, nat_tests, own) in
          ap (λ (l : List ListedDefinition). have_name (g t).files name || any l) (unchanged (suc n) table g ts (omega (arith, same)))
          ∙ ap (λ b. b || any ts) here ∙ join (is_name_of f name) (have_name t.files name) (any ts)
      by false other rest =
          let apart : n ≢ table = λ same. (let own : nat_eq n table ≡ true = grind (arith, nat_tests, same) in cc) in
          ap (λ b. have_name t.files name || b) (rest apart) ∙ swap (have_name t.files name) (is_name_of f name) (any ts)

  -- **After a flush the tables have the names of one file more**, where the table of this number is one of them.
  pub names_flushed : (f : ListedFile) (table since : ℕ) (ts : List ListedDefinition) → 1 ≤ table → table < 1 + length ts
      → has_name (at_number 1 table (replaced [] (f ∷ []) since) ts) name ≡ (is_name_of f name || has_name ts name)
  names_flushed f table since ts above below =
      has_name_by name (at_number 1 table (replaced [] (f ∷ []) since) ts) ∙ flushed_by f table since 1 ts above below ∙ ap (λ b. is_name_of f name || b) (sym (has_name_by name ts))
