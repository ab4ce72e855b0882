-- What is known of a source that may be missing stays while its files are unchanged, and its maps but for indexes that were added.
use Rattle.std.specs.Prelude.{◌≡◌, ℕ, List, [], Option, None, Some}
use Rattle.sasi_types.specs.declared.column.ColumnType.{ColumnType}
use Rattle.sasi_host.specs.declared.name.FileName.{FileName}
use Rattle.sasi_host.specs.Names.{Folder}
use Rattle.sasi_memindex.specs.Book.{Book}
use Rattle.sasi_recheck.specs.Optional.{SourceOr}
use Rattle.sasi_recheck.specs.Sources.{Candidate}
use Rattle.sasi_recheck.specs.inside.EitherLaws.{Keeps}

module _ {C : Type 0} (opens : C → FileName → Type 0) (uses : C → ℕ → Type 0) (ready : C → Option Folder → Book → Type 0) (leaves : C → Option Folder → Book → List Candidate → Type 0)
    (pays : C → Option Folder → Book → ℕ → List ℕ → Type 0) (prints : C → Option Folder → Book → ColumnType → Type 0) (keeps : Keeps C opens uses ready leaves pays prints) where
  pub option_keeps : Keeps (Option C) (λ s name. SourceOr s (λ c. opens c name) ⊥) (λ s number. SourceOr s (λ c. uses c number) ⊥) (λ s files book. SourceOr s (λ c. ready c files book) (Unit {0}))
      (λ s files book left. SourceOr s (λ c. leaves c files book left) (left ≡ [])) (λ s files book most prices. SourceOr s (λ c. pays c files book most prices) (Unit {0})) (λ s files book kind. SourceOr s (λ c. prints c files book kind) (Unit {0}))
  option_keeps None old new was now told same maps = ((λ is. is), (λ left is. is), (λ most prices is. is), (λ kind is. is))
  option_keeps (Some c) old new was now told same maps = keeps c old new was now told same maps
