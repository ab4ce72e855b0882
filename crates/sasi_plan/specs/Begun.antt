-- What is known of a source of candidates since an earlier moment.
use Rattle.std.specs.Prelude.{◌≡◌, ℕ, Option, IsSome}
use Rattle.std.specs.FinMap.{get}
use Rattle.sasi_host.specs.declared.name.FileName.{FileName}
use Rattle.sasi_host.specs.Names.{Folder}
use Rattle.sasi_host.specs.View.{contents_in}
use Rattle.sasi_memindex.specs.Book.{Book}
use Rattle.sasi_memindex.specs.Growth.{IsGrown}

-- since an earlier moment the files that may be read are unchanged, and of the maps that are looked at at most indexes were added
pub record AreUnchanged (Opens : FileName → Type 0) (Uses : ℕ → Type 0) (was files : Option Folder) (origin book : Book) : Type 0 where
  pub there : IsSome files → IsSome was
  pub files_are : (name : FileName) → Opens name → contents_in files name ≡ contents_in was name
  pub maps_are : (number : ℕ) → Uses number → IsGrown (get origin number) (get book number)

-- it was so at an earlier moment, and what is looked at is as it was, but for indexes
abbrev pub Since : (FileName → Type 0) → (ℕ → Type 0) → (Option Folder → Book → Type 0) → Option Folder → Book → Type 0
Since Opens Uses P files book = (was : Option Folder) × (origin : Book) × AreUnchanged Opens Uses was files origin book × P was origin
