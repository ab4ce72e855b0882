-- Empty memtables for listed tables, one after another.
use Rattle.std.proofs.Common.{◌≡◌, ℕ, zero, suc, ◌+◌, ◌<◌, ◌≤◌, List, [], ◌∷◌, ◌++◌, length, map, drop, get_or, refl, sym, ◌∙◌, ap, arith, None}
use Rattle.std.proofs.lemmas.List.{drop_more, drop_all}
use Rattle.sasi_types.specs.declared.partitioner.Partitioner.{Partitioner}
use Rattle.sasi_memtable.specs.MemtableView.{empty_memtable}
use Rattle.sasi_schema.specs.Numbers.{RisesFrom}
use Rattle.sasi_manifest.specs.declared.listed.ListedTable.{ListedTable}
use Rattle.sasi_manifest.specs.ListedTables.{listed}
use Rattle.sasi_recover.specs.declared.opened.TableMap.{TableMap}
use Rattle.sasi_recover.specs.ReplayState.{empty_maps}

-- the number of the table at a position
number_at : (n : ℕ) (xs : List ListedTable) (i : ℕ) (d : ListedTable) → i < length xs → RisesFrom n (map (λ t. t.table.number) xs) → (get_or xs i d).table.number ≡ n + i
number_at n [] i d within rises = absurd (omega (arith, within))
number_at n (x ∷ xs) zero d within rises = omega (arith, rises.0)
number_at n (x ∷ xs) (suc i) d within rises = omega (arith, number_at (suc n) xs i d (omega (arith, within)) rises.1)

join_one : (xs : List TableMap) (y : TableMap) (zs : List TableMap) → (xs ++ y ∷ []) ++ zs ≡ xs ++ y ∷ zs
join_one [] y zs = refl
join_one (x ∷ xs) y zs = ap (λ l. x ∷ l) (join_one xs y zs)

-- with that of one table more
pub maps_more : (p : Partitioner) (maps : List TableMap) (tables : List ListedTable) (i : ℕ) (t : ListedTable) (number : ℕ) → i < length tables → t ≡ get_or tables i t → RisesFrom 1 (map (λ t. t.table.number) tables) → number ≡ t.table.number
    → (maps ++ (record { number = number; memtable = empty_memtable p; first = None }) ∷ []) ++ empty_maps p (1 + (i + 1)) (map listed (drop (i + 1) tables)) ≡ maps ++ empty_maps p (1 + i) (map listed (drop i tables))
maps_more p maps tables i t number within is rises named =
    let cons : drop i tables ≡ t ∷ drop (i + 1) tables = drop_more tables i t within ∙ ap (λ (x : ListedTable). x ∷ drop (i + 1) tables) (sym is) in
    let own : number ≡ 1 + i = named ∙ ap (λ (x : ListedTable). x.table.number) is ∙ number_at 1 tables i t within rises in
    let next : 1 + (i + 1) ≡ suc (1 + i) = omega arith in
    join_one maps (record { number = number; memtable = empty_memtable p; first = None }) (empty_maps p (1 + (i + 1)) (map listed (drop (i + 1) tables)))
    ∙ ap (λ n. maps ++ (record { number = n; memtable = empty_memtable p; first = None }) ∷ empty_maps p (1 + (i + 1)) (map listed (drop (i + 1) tables))) own
    ∙ ap (λ n. maps ++ (record { number = 1 + i; memtable = empty_memtable p; first = None }) ∷ empty_maps p n (map listed (drop (i + 1) tables))) next
    ∙ ap (λ (l : List ListedTable). maps ++ empty_maps p (1 + i) (map listed l)) (sym cons)

join_none : (xs : List TableMap) → xs ++ [] ≡ xs
join_none [] = refl
join_none (x ∷ xs) = ap (λ l. x ∷ l) (join_none xs)

-- once there is one for each
pub maps_done : (p : Partitioner) (maps : List TableMap) (tables : List ListedTable) (i : ℕ) → length tables ≤ i → maps ++ empty_maps p (1 + i) (map listed (drop i tables)) ≡ maps
maps_done p maps tables i past = ap (λ (l : List ListedTable). maps ++ empty_maps p (1 + i) (map listed l)) (drop_all i tables past) ∙ join_none maps
