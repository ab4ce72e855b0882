-- Segments of a folder: the last one apart, the table of a mutation, and one more table.
use Rattle.std.specs.Prelude.{◌≡◌, ℕ, zero, suc, ◌+◌, ◌-◌, ◌≤◌, ◌<◌, true, false, cond, nat_eq, List, [], ◌∷◌, ◌++◌, length, slice_get, Option, None, Some, refl}
use Rattle.std.proofs.Common.{sym, ap, subst, ◌∙◌, arith}
use Rattle.std.proofs.lemmas.Bool.Decides.{nat_tests}
use Rattle.std.specs.List.{AllByRecursion, cons_option}
use Rattle.std.specs.Option.{option_map}
use Rattle.sasi_types.specs.declared.column.ColumnType.{ColumnType}
use Rattle.sasi_host.specs.Names.{Folder}
use Rattle.sasi_model.specs.Stored.{column_types}
use Rattle.sasi_cells.specs.declared.mutation.Mutation.{Mutation}
use Rattle.sasi_commitlog.specs.Format.{IsMutationOf, Tables, types_in}
use Rattle.sasi_commitlog.proofs.Payloads.{listed_mutation, opened_mutation}
use Rattle.sasi_manifest.specs.declared.listing.Listing.{Listing}
use Rattle.sasi_manifest.specs.ListedDefinition.{ListedDefinition}
use Rattle.sasi_manifest.specs.Types.{numbered_types}
use Rattle.sasi_folder.specs.FolderContents.{HasSegment, HasSegments, types_listed}

-- ---- lists

pub all_both : {A : Type 0} (P : A → Type 0) (xs ys : List A) → AllByRecursion P xs → AllByRecursion P ys → AllByRecursion P (xs ++ ys)
all_both P [] ys first second = second
all_both P (x ∷ xs) ys first second = (first.0, all_both P xs ys first.1 second)

pub all_as : {A : Type 0} (P Q : A → Type 0) → ((x : A) → P x → Q x) → (xs : List A) → AllByRecursion P xs → AllByRecursion Q xs
all_as P Q wider [] all = tt
all_as P Q wider (x ∷ xs) all = (wider x all.0, all_as P Q wider xs all.1)

-- ---- the last segment

pub segments_apart : (x : Folder) (tables : Tables) (number : ℕ) (older : List (List Mutation)) (ms : List Mutation) → HasSegments x tables number (older ++ ms ∷ []) → HasSegments x tables number older × HasSegment x tables (number + length older) ms
segments_apart x tables number [] ms has = let e : number + 0 ≡ number = omega arith in (tt, subst (λ n. HasSegment x tables n ms) (sym e) has.0)
segments_apart x tables number (o ∷ older) ms has =
    let rest = segments_apart x tables (suc number) older ms has.1 in
    let e : suc number + length older ≡ number + length (o ∷ older) = omega arith in
    ((has.0, rest.0), subst (λ n. HasSegment x tables n ms) e rest.1)

pub segments_join : (x : Folder) (tables : Tables) (number : ℕ) (older : List (List Mutation)) (ms : List Mutation) → HasSegments x tables number older → HasSegment x tables (number + length older) ms → HasSegments x tables number (older ++ ms ∷ [])
segments_join x tables number [] ms first last = let e : number + 0 ≡ number = omega arith in (subst (λ n. HasSegment x tables n ms) e last, tt)
segments_join x tables number (o ∷ older) ms first last =
    let e : number + length (o ∷ older) ≡ suc number + length older = omega arith in
    (first.0, segments_join x tables (suc number) older ms first.1 (subst (λ n. HasSegment x tables n ms) e last))

-- ---- the table of a mutation

-- a table of these types is listed
pub record IsListedAt (tables : List ListedDefinition) (number : ℕ) (types : List ColumnType) : Type 0 where
  pub some : 1 ≤ number
  pub inside : number ≤ length tables
  pub table : ListedDefinition
  pub there : slice_get tables (number - 1) ≡ Some table
  pub types_are : column_types table.definition ≡ Some types

-- and these are its types
abbrev IsFoundAt : ℕ → List ListedDefinition → ℕ → List ColumnType → Type 0
IsFoundAt first tables number types = (index : ℕ) × (number ≡ first + index) × (table : ListedDefinition) × (slice_get tables index ≡ Some table) × (column_types table.definition ≡ Some types)

found_behind : (first : ℕ) (t : ListedDefinition) (tables : List ListedDefinition) (number : ℕ) (types : List ColumnType) → IsFoundAt (suc first) tables number types → IsFoundAt first (t ∷ tables) number types
found_behind first t tables number types later = (suc later.0, omega (arith, later.1), later.2, later.3, later.4)

found_by : (found : Option (List ColumnType)) (first : ℕ) (t : ListedDefinition) (tables : List ListedDefinition) (number : ℕ) (types : List ColumnType) → column_types t.definition ≡ found
    → (types_in (numbered_types (suc first) tables) number ≡ Some types → IsFoundAt (suc first) tables number types)
    → types_in (cons_option (option_map (λ types. (first, types)) found) (numbered_types (suc first) tables)) number ≡ Some types → IsFoundAt first (t ∷ tables) number types
found_by None first t tables number types none later is = found_behind first t tables number types (later is)
found_by (Some own) first t tables number types some later is =
    elim (nat_eq first number) as (λ b. nat_eq first number ≡ b → cond b (Some own) (types_in (numbered_types (suc first) tables) number) ≡ Some types → IsFoundAt first (t ∷ tables) number types) [
      | true ↦ λ here e.
          let same_number : first ≡ number = grind (arith, nat_tests) in
          (0, omega arith, t, refl, some ∙ e)
      | false ↦ λ other e. found_behind first t tables number types (later e)
    ] refl is

listed_from : (first : ℕ) (tables : List ListedDefinition) (number : ℕ) (types : List ColumnType) → types_in (numbered_types first tables) number ≡ Some types → IsFoundAt first tables number types
listed_from first [] number types is = cc
listed_from first (t ∷ tables) number types is = found_by (column_types t.definition) first t tables number types refl (λ e. listed_from (suc first) tables number types e) is

inside_of : (tables : List ListedDefinition) (index : ℕ) (t : ListedDefinition) → slice_get tables index ≡ Some t → index < length tables
inside_of [] index t got = cc
inside_of (x ∷ tables) zero t got = omega arith
inside_of (x ∷ tables) (suc index) t got = omega (arith, inside_of tables index t got)

pub mutation_listed : (listing : Listing) (m : Mutation) → (fits : IsMutationOf (types_listed listing) m) → IsListedAt listing.tables m.table (opened_mutation (types_listed listing) m fits).types
mutation_listed listing m fits =
    let opened = opened_mutation (types_listed listing) m fits in
    let found = listed_from 1 listing.tables m.table opened.types opened.listed in
    let index : m.table - 1 ≡ found.0 = omega (arith, found.1) in
    record {
      some = omega (arith, found.1);
      inside = omega (arith, found.1, inside_of listing.tables found.0 found.2 found.3);
      table = found.2;
      there = rw index found.3;
      types_are = found.4;
    }

-- ---- one more table

-- a table's types under its number
abbrev pub entry_of : ℕ → ListedDefinition → Tables
entry_of number t = cons_option (option_map (λ types. (number, types)) (column_types t.definition)) []

pub types_push : (first : ℕ) (tables : List ListedDefinition) (t : ListedDefinition) → numbered_types first (tables ++ t ∷ []) ≡ numbered_types first tables ++ entry_of (first + length tables) t
types_push first [] t = let e : first ≡ first + 0 = omega arith in ap (λ (n : ℕ). entry_of n t) e
types_push first (x ∷ tables) t =
    let e : suc first + length tables ≡ first + length (x ∷ tables) = omega arith in
    let own = option_map (λ (types : List ColumnType). (first, types)) (column_types x.definition) in
    ap (cons_option own) (types_push (suc first) tables t ∙ ap (λ (n : ℕ). numbered_types (suc first) tables ++ entry_of n t) e)
    ∙ behind own (numbered_types (suc first) tables) (entry_of (first + length (x ∷ tables)) t)
  where
    behind : (own : Option (ℕ × List ColumnType)) (a b : Tables) → cons_option own (a ++ b) ≡ cons_option own a ++ b
    behind None a b = refl
    behind (Some entry) a b = refl

types_kept : (tables more : Tables) (number : ℕ) (types : List ColumnType) → types_in tables number ≡ Some types → types_in (tables ++ more) number ≡ Some types
types_kept [] more number types is = cc
types_kept ((n, ts) ∷ tables) more number types is =
    elim (nat_eq n number) as (λ b. cond b (Some ts) (types_in tables number) ≡ Some types → cond b (Some ts) (types_in (tables ++ more) number) ≡ Some types) [
      | true ↦ λ e. e
      | false ↦ λ e. types_kept tables more number types e
    ] is

mutation_kept : (tables more : Tables) (m : Mutation) → IsMutationOf tables m → IsMutationOf (tables ++ more) m
mutation_kept tables more m is =
    let opened = opened_mutation tables m is in
    listed_mutation (tables ++ more) m (record { types = opened.types; number = opened.number; listed = types_kept tables more m.table opened.types opened.listed; body_is = opened.body_is })

pub segments_of_more : (x : Folder) (tables more : Tables) (number : ℕ) (logs : List (List Mutation)) → HasSegments x tables number logs → HasSegments x (tables ++ more) number logs
segments_of_more x tables more number [] has = tt
segments_of_more x tables more number (ms ∷ logs) has = (
  (has.0.0, has.0.1, record { gated = has.0.2.gated; of_tables = all_as (IsMutationOf tables) (IsMutationOf (tables ++ more)) (mutation_kept tables more) ms has.0.2.of_tables }),
  segments_of_more x tables more (suc number) logs has.1,
)
