-- The definitions of all indexes, collected table by table.
use Rattle.std.proofs.Common.{◌≡◌, ℕ, suc, ◌+◌, ◌<◌, ◌≤◌, List, [], ◌∷◌, ◌++◌, length, map, drop, get_or, refl, sym, ap, subst, ◌∙◌, add-one, append-nil, append_assoc, arith, rules}
use Rattle.std.specs.List.{AllByRecursion, zip}
use Rattle.std.proofs.lemmas.List.{drop_all, drop_more}
use Rattle.std.proofs.lemmas.List.Elements.{recursion_from_All}
use Rattle.sasi_types.specs.declared.index_def.IndexDef.{IndexDef}
use Rattle.std.specs.Prelude.{max}
use Rattle.std.specs.Ordering.{nat_cmp, ord_max}
use Rattle.sasi_model.specs.Cells.{largest}
use Rattle.sasi_model.specs.Indexes.{index_of}
use Rattle.sasi_schema.specs.Defined.{definition, numbers_of}
use Rattle.sasi_schema.specs.IndexFacts.{IsIndexOf}
use Rattle.sasi_schema.specs.Numbers.{RisesFrom}
use Rattle.sasi_schema.specs.declared.table.Table.{Table}
use Rattle.sasi_manifest.specs.declared.listed.ListedTable.{ListedTable}
use Rattle.sasi_manifest.specs.ListedTables.{listed}
use Rattle.sasi_manifest.specs.Listings.{all_defs, def_of, largest_index}

-- the definitions that a table in memory has are those of its definition and its numbers
own_defs : (n : ℕ) (t : Table) (defs : List IndexDef) → t.number ≡ n → AllByRecursion (IsIndexOf t.number t.columns t.key) defs → map (def_of n (definition t)) (zip (map (λ (def : IndexDef). def.number) defs) (map index_of defs)) ≡ defs
own_defs n t [] numbered all = refl
own_defs n t (def ∷ defs) numbered all =
    let table_is : n ≡ def.table = sym numbered ∙ sym all.0.table in
    let rest = own_defs n t defs numbered all.1 in
    λ i. record def { table = table_is i; kind = sym all.0.kind i } ∷ rest i

-- the numbers of the tables that are left
abbrev pub AreLeft : List ListedTable → ℕ → Type 0
AreLeft tables i = RisesFrom (i + 1) (map (λ (t : ListedTable). t.table.number) (drop i tables))

module _ (tables : List ListedTable) (i : ℕ) (t : ListedTable) (within : i < length tables) (is : t ≡ get_or tables i t) (left : AreLeft tables i) where
  parts : drop i tables ≡ t ∷ drop (i + 1) tables
  parts = drop_more tables i t within ∙ ap (λ (y : ListedTable). y ∷ drop (i + 1) tables) (sym is)

  abbrev number : ListedTable → ℕ
  number t = t.table.number

  rise : RisesFrom (i + 1) (map number (t ∷ drop (i + 1) tables))
  rise = subst (λ (l : List ListedTable). RisesFrom (i + 1) (map number l)) parts left

  pub left_more : AreLeft tables (i + 1)
  left_more = subst (λ n. RisesFrom n (map number (drop (i + 1) tables))) (sym (add-one (i + 1))) rise.1

  -- the turn of a loop
  pub defs_more : (done new all : List IndexDef) → new ≡ done ++ t.table.indexes → done ++ all_defs (i + 1) (map listed (drop i tables)) ≡ all → new ++ all_defs (i + 1 + 1) (map listed (drop (i + 1) tables)) ≡ all
  defs_more done new all pushed so_far =
      let rest = all_defs (suc (i + 1)) (map listed (drop (i + 1) tables)) in
      ap (λ n. new ++ all_defs n (map listed (drop (i + 1) tables))) (add-one (i + 1))
      ∙ ap (λ l. l ++ rest) pushed ∙ append_assoc done t.table.indexes rest
      ∙ ap (λ l. done ++ (l ++ rest)) (sym (own_defs (i + 1) t.table t.table.indexes rise.0 (recursion_from_All _ _ t.table.index_facts)))
      ∙ ap (λ (l : List ListedTable). done ++ all_defs (i + 1) (map listed l)) (sym parts) ∙ so_far

-- its end
pub defs_all : (tables : List ListedTable) (i : ℕ) (done all : List IndexDef) → length tables ≤ i → done ++ all_defs (i + 1) (map listed (drop i tables)) ≡ all → done ≡ all
defs_all tables i done all end so_far =
    sym (append-nil done) ∙ ap (λ (l : List ListedTable). done ++ all_defs (i + 1) (map listed l)) (sym (drop_all i tables end)) ∙ so_far

-- ---- the largest number

larger : (a b : ℕ) → ord_max nat_cmp a b ≡ max a b
larger a b = search (rules, ord_max, nat_cmp)

pub largest_more : (tables : List ListedTable) (i : ℕ) (t : ListedTable) (most found new all : ℕ) → i < length tables → t ≡ get_or tables i t → found ≡ largest (numbers_of t.table) → new ≡ ord_max nat_cmp most found
    → max most (largest_index (map listed (drop i tables))) ≡ all → max new (largest_index (map listed (drop (i + 1) tables))) ≡ all
largest_more tables i t most found new all within is found_is more so_far =
    let split : drop i tables ≡ t ∷ drop (i + 1) tables = drop_more tables i t within ∙ ap (λ (y : ListedTable). y ∷ drop (i + 1) tables) (sym is) in
    omega (arith, found_is, more ∙ larger most found, so_far, ap (λ (l : List ListedTable). largest_index (map listed l)) split)
