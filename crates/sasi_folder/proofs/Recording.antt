-- A change that can be stored in a table is a mutation of the listed tables.
use Rattle.std.specs.Prelude.{◌≡◌, ℕ, zero, suc, ◌+◌, ◌-◌, ◌<◌, ◌^◌, true, false, nat_eq, List, [], ◌∷◌, slice_get, Option, None, Some, refl}
use Rattle.std.proofs.Common.{sym, ap, subst, ◌∙◌, arith}
use Rattle.std.proofs.lemmas.Bool.Decides.{nat_tests}
use Rattle.std.specs.List.{cons_option}
use Rattle.std.specs.Option.{option_map}
use Rattle.sasi_types.specs.declared.column.ColumnType.{ColumnType}
use Rattle.sasi_model.specs.State.{State, Table}
use Rattle.sasi_model.specs.Abbreviations.{definitions}
use Rattle.sasi_model.specs.Stored.{IsBodyOf, column_types}
use Rattle.sasi_cells.specs.declared.mutation.Mutation.{Mutation}
use Rattle.sasi_commitlog.specs.Format.{IsMutationOf, Tables, types_in}
use Rattle.sasi_commitlog.proofs.Payloads.{listed_mutation}
use Rattle.sasi_manifest.specs.declared.listing.Listing.{Listing}
use Rattle.sasi_manifest.specs.ListedDefinition.{ListedDefinition}
use Rattle.sasi_manifest.specs.Listings.{listed_definitions}
use Rattle.sasi_manifest.specs.Types.{numbered_types}
use Rattle.sasi_folder.specs.FolderContents.{types_listed}

-- ---- mutations

same_definition : (tables : List Table) (listed : List ListedDefinition) (index : ℕ) (t : Table) → definitions tables ≡ listed_definitions listed → slice_get tables index ≡ Some t → (l : ListedDefinition) × (slice_get listed index ≡ Some l) × (l.definition ≡ t.definition)
same_definition [] listed index t same there = cc
same_definition (u ∷ tables) [] index t same there = cc
same_definition (u ∷ tables) (l ∷ listed) zero t same there =
    let first : u.definition ≡ l.definition = cc in
    let is : u ≡ t = cc in
    (l, refl, sym first ∙ ap (λ (x : Table). x.definition) is)
same_definition (u ∷ tables) (l ∷ listed) (suc index) t same there = let rest : definitions tables ≡ listed_definitions listed = cc in same_definition tables listed index t rest there

-- the types of a table are found behind those of another number
types_behind : (found : Option (List ColumnType)) (first number : ℕ) (rest : Tables) → nat_eq first number ≡ false → types_in (cons_option (option_map (λ types. (first, types)) found) rest) number ≡ types_in rest number
types_behind None first number rest other = refl
types_behind (Some types) first number rest other = rw other refl

types_here : (found : Option (List ColumnType)) (types : List ColumnType) (first number : ℕ) (rest : Tables) → found ≡ Some types → nat_eq first number ≡ true → types_in (cons_option (option_map (λ types. (first, types)) found) rest) number ≡ Some types
types_here None types first number rest is here = cc
types_here (Some found) types first number rest is here = rw here is

types_at : (first index : ℕ) (listed : List ListedDefinition) (l : ListedDefinition) (types : List ColumnType) → slice_get listed index ≡ Some l → column_types l.definition ≡ Some types → types_in (numbered_types first listed) (first + index) ≡ Some types
types_at first index [] l types there are = cc
types_at first zero (x ∷ listed) l types there are =
    let is : x ≡ l = cc in
    types_here (column_types x.definition) types first (first + 0) (numbered_types (suc first) listed) (ap (λ (x : ListedDefinition). column_types x.definition) is ∙ are) (grind (arith, nat_tests))
types_at first (suc index) (x ∷ listed) l types there are =
    let number : suc first + index ≡ first + suc index = omega arith in
    types_behind (column_types x.definition) first (first + suc index) (numbered_types (suc first) listed) (grind (arith, nat_tests))
    ∙ subst (λ n. types_in (numbered_types (suc first) listed) n ≡ Some types) number (types_at (suc first) index listed l types there are)

-- a change that can be stored in a table is a mutation of the listed tables
pub mutation_fits : (listing : Listing) (s : State) (m : Mutation) (t : Table) → definitions s.tables ≡ listed_definitions listing.tables → 0 < m.table → m.table < 2 ^ 32 → slice_get s.tables (m.table - 1) ≡ Some t → (types : List ColumnType) → column_types t.definition ≡ Some types → IsBodyOf types m.key m.change → IsMutationOf (types_listed listing) m
mutation_fits listing s m t same some small there types are body =
    let found = same_definition s.tables listing.tables (m.table - 1) t same there in
    let number : 1 + (m.table - 1) ≡ m.table = omega (arith, some) in
    let listed = types_at 1 (m.table - 1) listing.tables found.0 types found.1 (ap column_types found.2 ∙ are) in
    listed_mutation (types_listed listing) m (record {
      types = types;
      number = small;
      listed = subst (λ n. types_in (types_listed listing) n ≡ Some types) number listed;
      body_is = body;
    })
