-- What is known of one source or another stays while its files are unchanged, and its maps but for indexes that were added.
use Rattle.std.specs.Prelude.{◌≡◌, ℕ, List, Option, IsSome}
use Rattle.std.specs.FinMap.{get}
use Rattle.either.specs.Either.{MatchEither}
use Rattle.either.specs.declared.Either.{Either}
use Rattle.either.specs.declared.Either.TheVariants.{Left, Right}
use Rattle.sasi_types.specs.declared.column.ColumnType.{ColumnType}
use Rattle.sasi_host.specs.declared.name.FileName.{FileName}
use Rattle.sasi_host.specs.Names.{Folder}
use Rattle.sasi_host.specs.View.{contents_in}
use Rattle.sasi_memindex.specs.Book.{Book}
use Rattle.sasi_memindex.specs.Growth.{IsGrown}
use Rattle.sasi_recheck.specs.Sources.{Candidate}

-- what the trait asks of a source
abbrev pub Keeps : (S : Type 0) → (S → FileName → Type 0) → (S → ℕ → Type 0) → (S → Option Folder → Book → Type 0) → (S → Option Folder → Book → List Candidate → Type 0)
    → (S → Option Folder → Book → ℕ → List ℕ → Type 0) → (S → Option Folder → Book → ColumnType → Type 0) → Type 0
Keeps S opens uses ready leaves pays prints =
    (s : S) (old new : Option Folder) (was now : Book) → (IsSome new → IsSome old) → ((name : FileName) → opens s name → contents_in new name ≡ contents_in old name) → ((number : ℕ) → uses s number → IsGrown (get was number) (get now number))
    → (ready s old was → ready s new now) × ((left : List Candidate) → leaves s old was left → leaves s new now left) × ((most : ℕ) (prices : List ℕ) → pays s old was most prices → pays s new now most prices) × ((kind : ColumnType) → prints s old was kind → prints s new now kind)

module _ {A B : Type 0} (opens_a : A → FileName → Type 0) (opens_b : B → FileName → Type 0) (uses_a : A → ℕ → Type 0) (uses_b : B → ℕ → Type 0) (ready_a : A → Option Folder → Book → Type 0) (ready_b : B → Option Folder → Book → Type 0)
    (leaves_a : A → Option Folder → Book → List Candidate → Type 0) (leaves_b : B → Option Folder → Book → List Candidate → Type 0) (pays_a : A → Option Folder → Book → ℕ → List ℕ → Type 0) (pays_b : B → Option Folder → Book → ℕ → List ℕ → Type 0)
    (prints_a : A → Option Folder → Book → ColumnType → Type 0) (prints_b : B → Option Folder → Book → ColumnType → Type 0) (keeps_a : Keeps A opens_a uses_a ready_a leaves_a pays_a prints_a) (keeps_b : Keeps B opens_b uses_b ready_b leaves_b pays_b prints_b) where
  pub either_keeps : Keeps (Either A B) (λ s name. MatchEither s (λ a. opens_a a name) (λ b. opens_b b name)) (λ s number. MatchEither s (λ a. uses_a a number) (λ b. uses_b b number))
      (λ s files book. MatchEither s (λ a. ready_a a files book) (λ b. ready_b b files book)) (λ s files book left. MatchEither s (λ a. leaves_a a files book left) (λ b. leaves_b b files book left))
      (λ s files book most prices. MatchEither s (λ a. pays_a a files book most prices) (λ b. pays_b b files book most prices)) (λ s files book kind. MatchEither s (λ a. prints_a a files book kind) (λ b. prints_b b files book kind))
  either_keeps (Left a) old new was now told same maps = keeps_a a old new was now told same maps
  either_keeps (Right b) old new was now told same maps = keeps_b b old new was now told same maps
