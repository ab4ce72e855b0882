-- The floor after a flush, found table by table.
use Rattle.std.proofs.Common.{◌≡◌, ℕ, suc, ◌+◌, ◌<◌, ◌≤◌, true, false, cond, nat_eq, List, [], ◌∷◌, length, map, drop, get_or, Option, None, Some, refl, sym, ap, subst, ◌∙◌, arith}
use Rattle.std.proofs.lemmas.List.{drop_all, drop_more}
use Rattle.sasi_layout.specs.Moves.{lesser}
use Rattle.sasi_layout.specs.Serving.{TableInMemory}
use Rattle.sasi_memindex.specs.Book.{Book}
use Rattle.sasi_tables.specs.Held.{in_memory}
use Rattle.sasi_schema.specs.Numbers.{RisesFrom}
use Rattle.sasi_tables.specs.Floors.{floor_in_memory, lowered}
use Rattle.sasi_tables.specs.Held.{held_by, held_of}
use Rattle.sasi_tables.specs.declared.table_maps.TableMaps.{TableMaps}

lesser_swap : (a b : Option ℕ) (n : ℕ) → lesser a (lesser b n) ≡ lesser b (lesser a n)
lesser_swap None b n = refl
lesser_swap (Some x) None n = refl
lesser_swap (Some x) (Some y) n = omega arith

-- the last segment may be lowered first
floor_lowered : (n table last : ℕ) (first : Option ℕ) (ts : List TableInMemory) → floor_in_memory n table (lesser first last) ts ≡ lesser first (floor_in_memory n table last ts)
floor_lowered n table last first [] = refl
floor_lowered n table last first (t ∷ ts) =
    let rest = floor_lowered (suc n) table last first ts in
    elim (nat_eq n table) as (λ b. cond b (floor_in_memory (suc n) table (lesser first last) ts) (lesser t.first (floor_in_memory (suc n) table (lesser first last) ts)) ≡ lesser first (cond b (floor_in_memory (suc n) table last ts) (lesser t.first (floor_in_memory (suc n) table last ts)))) [
      | true ↦ rest
      | false ↦ ap (lesser t.first) rest ∙ lesser_swap t.first first (floor_in_memory (suc n) table last ts)
    ]

-- what is in memory of a table with its map
abbrev pub seen_in : Book → TableMaps → TableInMemory
seen_in book t = in_memory (held_by book t)

seen_held : (book : Book) (ts : List TableMaps) → map in_memory (held_of book ts) ≡ map (seen_in book) ts
seen_held book [] = refl
seen_held book (t ∷ ts) = ap (λ (l : List TableInMemory). seen_in book t ∷ l) (seen_held book ts)

abbrev numbers_in : List TableMaps → List ℕ
numbers_in tables = map (λ (t : TableMaps). t.number) tables

-- the floor so far is that of the whole for the tables that are left
pub record IsLowering (book : Book) (floor table last : ℕ) (tables : List TableMaps) (index : ℕ) : Type 0 where
  pub numbers : RisesFrom (suc index) (map (λ (t : TableMaps). t.number) (drop index tables))
  pub floor_is : floor_in_memory (suc index) table floor (map (seen_in book) (drop index tables)) ≡ floor_in_memory 1 table last (map (seen_in book) tables)

pub lowering_first : (book : Book) (table last : ℕ) (tables : List TableMaps) → RisesFrom 1 (map (λ (t : TableMaps). t.number) tables) → IsLowering book last table last tables 0
lowering_first book table last tables numbers = record { numbers = numbers; floor_is = refl }

module _ (book : Book) (floor table last : ℕ) (tables : List TableMaps) (index : ℕ) (t : TableMaps) (on : IsLowering book floor table last tables index) (inside : index < length tables) (is : t ≡ get_or tables index t) where
  split : drop index tables ≡ t ∷ drop (index + 1) tables
  split = drop_more tables index t inside ∙ ap (λ (x : TableMaps). x ∷ drop (index + 1) tables) (sym is)

  numbers_split : RisesFrom (suc index) (numbers_in (t ∷ drop (index + 1) tables))
  numbers_split = subst (λ l. RisesFrom (suc index) (numbers_in l)) split on.numbers

  abbrev left : List TableInMemory
  left = map (seen_in book) (drop (index + 1) tables)

  lowered_is : floor_in_memory (suc (suc index)) table (lowered table floor (suc index) t.first) left ≡ floor_in_memory (suc index) table floor (seen_in book t ∷ left)
  lowered_is =
      elim (nat_eq (suc index) table) as (λ b. floor_in_memory (suc (suc index)) table (cond b floor (lesser t.first floor)) left ≡ cond b (floor_in_memory (suc (suc index)) table floor left) (lesser t.first (floor_in_memory (suc (suc index)) table floor left))) [
        | true ↦ refl
        | false ↦ floor_lowered (suc (suc index)) table floor t.first left
      ]

  pub lowering_more : (later : ℕ) → later ≡ lowered table floor t.number t.first → IsLowering book later table last tables (index + 1)
  lowering_more later became =
      let next : suc (suc index) ≡ suc (index + 1) = omega arith in
      let number : lowered table floor t.number t.first ≡ lowered table floor (suc index) t.first = ap (λ (n : ℕ). lowered table floor n t.first) numbers_split.0 in
      let before : floor_in_memory (suc index) table floor (seen_in book t ∷ left) ≡ floor_in_memory 1 table last (map (seen_in book) tables) =
      subst (λ (l : List TableMaps). floor_in_memory (suc index) table floor (map (seen_in book) l) ≡ floor_in_memory 1 table last (map (seen_in book) tables)) split on.floor_is in
      record {
        numbers = subst (λ (n : ℕ). RisesFrom n (numbers_in (drop (index + 1) tables))) next numbers_split.1;
        floor_is = ap (λ (n : ℕ). floor_in_memory n table later left) (sym next) ∙ ap (λ (k : ℕ). floor_in_memory (suc (suc index)) table k left) (became ∙ number) ∙ lowered_is ∙ before;
      }

pub lowering_done : (book : Book) (floor table last : ℕ) (tables : List TableMaps) (index : ℕ) → IsLowering book floor table last tables index → length tables ≤ index → floor ≡ floor_in_memory 1 table last (map in_memory (held_of book tables))
lowering_done book floor table last tables index on past =
    let end : drop index tables ≡ [] = drop_all index tables (omega (arith, past)) in
    subst (λ (l : List TableMaps). floor_in_memory (suc index) table floor (map (seen_in book) l) ≡ floor_in_memory 1 table last (map (seen_in book) tables)) end on.floor_is
    ∙ ap (floor_in_memory 1 table last) (sym (seen_held book tables))
