-- The keys that a relation finds in a map are its hits there.
use Rattle.std.proofs.Common.{◌≡◌, ℕ, suc, Bool, true, false, cond, nat_eq, List, [], ◌∷◌, map, Option, Some, refl, sym, ap, ◌∙◌, arith}
use Rattle.std.specs.Prelude.{T, ◌&&◌}
use Rattle.std.proofs.lemmas.Bool.Decides.{nat_tests}
use Rattle.std.proofs.lemmas.List.Kept.{IsStrictlySortedBy-filter}
use Rattle.std.specs.declared.cmp.Ordering.{Ordering}
use Rattle.std.specs.declared.cmp.Ordering.TheVariants.{Less, Equal, Greater}
use Rattle.std.specs.FinMap as map_
use Rattle.std.specs.FinMap.{is_sorted}
use Rattle.std.specs.FinMap.Entries.{below_all}
use Rattle.std.specs.List.{AllByRecursion, filter, list_all, zip}
use Rattle.std.specs.List.Sorted.{IsStrictlySortedBy}
use Rattle.std.specs.Map.{lookup}
use Rattle.std.specs.Option.{option_and_then, option_map_or}
use Rattle.std.specs.Ordering.{is_lt}
use Rattle.sasi_types.specs.declared.column.ColumnType.{ColumnType}
use Rattle.sasi_types.specs.declared.decorated_key.DecoratedKey.{DecoratedKey}
use Rattle.sasi_types.specs.declared.rule.Rule.{Rule}
use Rattle.sasi_types.specs.DecoratedKey.{decorated_cmp}
use Rattle.sasi_cells.proofs.Laws.Decorated.{entries_have}
use Rattle.sasi_model.specs.Abbreviations.{Partitions, kind_of}
use Rattle.sasi_model.specs.Cells.{Partition}
use Rattle.sasi_model.specs.Conditions.{Search}
use Rattle.sasi_model.specs.IndexTerms.{any_holds, terms_of_cell}
use Rattle.sasi_model.specs.State.{Definition, Index}
use Rattle.sasi_memindex.specs.declared.map_part.MapPart.{MapPart}
use Rattle.sasi_memindex.specs.Book.{AreKept, IsKept, subjects}
use Rattle.sasi_memindex.specs.MemIndexView.{MemIndexView, Numbered, subject}
use Rattle.sasi_layout.specs.Layout.{TableParts}
use Rattle.sasi_candidates.specs.LayoutParts.{part_of_map}
use Rattle.sasi_candidates.specs.Parts.{Part}
use Rattle.sasi_candidates.proofs.Hits.{memory_found}
use Rattle.sasi_memindex.proofs.GrowthLaws.{found_before}
use Rattle.sasi_engine.specs.declared.relation.IndexedRelation.{IndexedRelation}
use Rattle.sasi_engine.specs.Asked.{Asked, is_hit, keys_of}
use Rattle.sasi_engine.specs.Views.{IsAsked, IsMapOf}
use Rattle.sasi_engine.specs.Findable.{HasIndexFor}
use Rattle.sasi_engine.specs.inside.Found.{all_hold, found_in, keys_with}

-- ---- keys that pass

pub map_filter : {A B : Type 0} (f : A → B) (test : B → Bool) (xs : List A) → filter test (map f xs) ≡ map f (filter (λ x. test (f x)) xs)
map_filter f test [] = refl
map_filter f test (x ∷ xs) = by (test (f x)) (map_filter f test xs)
  where
    by : (b : Bool) → filter test (map f xs) ≡ map f (filter (λ y. test (f y)) xs) → cond b (f x ∷ filter test (map f xs)) (filter test (map f xs)) ≡ map f (cond b (x ∷ filter (λ y. test (f y)) xs) (filter (λ y. test (f y)) xs))
    by true rest = ap (λ l. f x ∷ l) rest
    by false rest = rest

pub same_filter : {A : Type 0} (f g : A → Bool) (xs : List A) → AllByRecursion (λ x. f x ≡ g x) xs → filter f xs ≡ filter g xs
same_filter f g [] all = refl
same_filter f g (x ∷ xs) all = ap (λ b. cond b (x ∷ filter f xs) (filter f xs)) all.0 ∙ by (g x) (same_filter f g xs all.1)
  where
    by : (b : Bool) → filter f xs ≡ filter g xs → cond b (x ∷ filter f xs) (filter f xs) ≡ cond b (x ∷ filter g xs) (filter g xs)
    by true rest = ap (λ l. x ∷ l) rest
    by false rest = rest

-- ---- the order of keys

is_less : (o : Ordering) → T (is_lt o) → o ≡ Less
is_less Less h = refl
is_less Equal h = absurd h
is_less Greater h = absurd h

both_true : (a b : Bool) → T (a && b) → T a × T b
both_true true b h = (tt, h)
both_true false b h = absurd h

all_below : (key : DecoratedKey) (es : List (DecoratedKey × Partition)) → T (below_all decorated_cmp key es) → AllByRecursion (λ q. decorated_cmp key q ≡ Less) (map (λ (e : DecoratedKey × Partition). e.0) es)
all_below key [] h = tt
all_below key (e ∷ es) h = let parts = both_true _ _ h in (is_less _ parts.0, all_below key es parts.1)

entries_rise : (es : List (DecoratedKey × Partition)) → T (is_sorted decorated_cmp es) → IsStrictlySortedBy decorated_cmp (map (λ (e : DecoratedKey × Partition). e.0) es)
unfolding IsStrictlySortedBy
entries_rise [] h = tt
entries_rise (e ∷ es) h = let parts = both_true _ _ h in (all_below e.0 es parts.0, entries_rise es parts.1)

pub keys_rise : (m : Partitions) → IsStrictlySortedBy decorated_cmp (keys_of m)
keys_rise m = entries_rise (map_.entries m) (map_.entries_sorted m)

pub hits_rise : (m : Partitions) (test : DecoratedKey → Bool) → IsStrictlySortedBy decorated_cmp (filter test (keys_of m))
hits_rise m test = IsStrictlySortedBy-filter decorated_cmp test (keys_of m) (keys_rise m)

-- ---- the index of a map

other_way : (a b : ℕ) → nat_eq a b ≡ nat_eq b a
other_way a b = grind (arith, nat_tests)

-- the index that a relation names, in the map
record HasFound (m : Partitions) (d : Definition) (i : Index) (number : ℕ) (indexes : Numbered) : Type 0 where
  pub index : MemIndexView
  pub there : lookup (λ n. nat_eq n number) indexes ≡ Some index
  pub subject_is : subject index ≡ (i.column, (kind_of d i.column, i.rule))
  pub kept : IsKept m index

module _ (m : Partitions) (d : Definition) (i : Index) (number : ℕ) where
  index_found : (ns : List ℕ) (indexes : List Index) (kept : Numbered) → subjects kept ≡ zip ns (map (λ (index : Index). (index.column, (kind_of d index.column, index.rule))) indexes) → AreKept m kept
      → lookup (nat_eq number) (zip ns indexes) ≡ Some i → HasFound m d i number kept
  index_found [] indexes kept same are found = cc
  index_found (n ∷ ns) [] kept same are found = cc
  index_found (n ∷ ns) (x ∷ indexes) [] same are found = cc
  index_found (n ∷ ns) (x ∷ indexes) (k ∷ kept) same are found = by (nat_eq number n) refl found (λ rest later. index_found ns indexes kept rest (λ position j listed. are (suc position) j listed) later)
    where
      heads : ◌≡◌ {A = ℕ × (ℕ × (ColumnType × Option Rule))} (k.0, subject k.1) (n, (x.column, (kind_of d x.column, x.rule)))
      heads = cc

      first : k.0 ≡ n
      first = ap (λ (e : ℕ × (ℕ × (ColumnType × Option Rule))). e.0) heads

      first_is : subject k.1 ≡ (x.column, (kind_of d x.column, x.rule))
      first_is = ap (λ (e : ℕ × (ℕ × (ColumnType × Option Rule))). e.1) heads

      others : subjects kept ≡ zip ns (map (λ (index : Index). (index.column, (kind_of d index.column, index.rule))) indexes)
      others = cc

      tested : (b : Bool) → nat_eq number n ≡ b → nat_eq k.0 number ≡ b
      tested b is = other_way k.0 number ∙ ap (nat_eq number) first ∙ is

      by : (b : Bool) → nat_eq number n ≡ b → cond b (Some x) (lookup (nat_eq number) (zip ns indexes)) ≡ Some i
          → (subjects kept ≡ zip ns (map (λ (index : Index). (index.column, (kind_of d index.column, index.rule))) indexes) → lookup (nat_eq number) (zip ns indexes) ≡ Some i → HasFound m d i number kept) → HasFound m d i number (k ∷ kept)
      by true is here others_have =
          (let same_index : x ≡ i = cc in
          record {
            index = k.1;
            there = ap (λ b. cond b (Some k.1) (lookup (λ n. nat_eq n number) kept)) (tested true is);
            subject_is = first_is ∙ ap (λ (y : Index). (y.column, (kind_of d y.column, y.rule))) same_index;
            kept = are 0 k refl;
          })
      by false isnt later others_have =
          (let rest = others_have others later in
          record {
            index = rest.index;
            there = ap (λ b. cond b (Some k.1) (lookup (λ n. nat_eq n number) kept)) (tested false isnt) ∙ rest.there;
            subject_is = rest.subject_is;
            kept = rest.kept;
          })

-- ---- the keys that are found

terms_there : (rule : Option Rule) (column : ℕ) (found : Option Partition) (part : Partition) → found ≡ Some part
    → terms_of_cell rule (option_and_then (λ (p : Partition). map_.get p.cells column) found) ≡ terms_of_cell rule (map_.get part.cells column)
terms_there rule column found part is = ap (λ (o : Option Partition). terms_of_cell rule (option_and_then (λ (p : Partition). map_.get p.cells column) o)) is

module _ (t : TableParts) (part : MapPart) (table_part : Part) (is_map : IsMapOf t part table_part) (r : IndexedRelation) (a : Asked) (is_asked : IsAsked t r a) where
  own : HasFound part.map.partitions t.definition a.index r.index is_map.own
  own = index_found part.map.partitions t.definition a.index r.index t.numbers t.definition.indexes is_map.own is_map.subjects_are is_map.kept is_asked.numbered

  -- it comes before the later indexes
  has : HasFound part.map.partitions t.definition a.index r.index part.indexes
  has = record {
    index = own.index;
    there = ap (lookup (λ n. nat_eq n r.index)) is_map.indexes_are ∙ found_before (λ n. nat_eq n r.index) is_map.own is_map.later own.index own.there;
    subject_is = own.subject_is;
    kept = own.kept;
  }

  -- the map has the index that the relation names
  pub index_there : HasIndexFor part r
  index_there = record { index = has.index; there = has.there; is = has.kept.is }

  entry_hit : AllByRecursion (λ (e : DecoratedKey × Partition). all_hold r.op r.words has.index e.1 ≡ is_hit a (part_of_map part.map.partitions) e.0) (map_.entries part.map.partitions)
  entry_hit = entries_have (λ (e : DecoratedKey × Partition). all_hold r.op r.words has.index e.1 ≡ is_hit a (part_of_map part.map.partitions) e.0) part.map.partitions
      (λ q p found.
      ap (λ (c : ℕ). list_all (λ word. any_holds r.op word (terms_of_cell has.index.rule (map_.get p.cells c))) r.words) (ap (λ (s : ℕ × (ColumnType × Option Rule)). s.0) has.subject_is)
      ∙ ap (λ (rule : Option Rule). list_all (λ word. any_holds r.op word (terms_of_cell rule (map_.get p.cells a.index.column))) r.words) (ap (λ (s : ℕ × (ColumnType × Option Rule)). s.1.1) has.subject_is)
      ∙ ap (λ (terms : List (List ℕ)). list_all (λ word. any_holds r.op word terms) r.words) (sym (terms_there a.index.rule a.index.column (map_.get part.map.partitions q) p found))
      ∙ ap (λ (s : Search). list_all (λ word. any_holds s.op word (terms_of_cell a.index.rule (option_and_then (λ (p : Partition). map_.get p.cells a.index.column) (map_.get part.map.partitions q)))) s.words) (sym is_asked.search_is)
      ∙ sym (memory_found a.index a.search part.map.partitions q is_asked.some))

  -- **The keys that the relation finds in the map are its hits there.**
  pub found_hits : found_in part r ≡ filter (is_hit a table_part) (keys_of table_part.holds)
  found_hits =
      ap (λ (o : Option MemIndexView). option_map_or (λ index. keys_with r.op r.words index part.map.partitions) o []) has.there
      ∙ ap (map (λ (e : DecoratedKey × Partition). e.0))
      (same_filter (λ (e : DecoratedKey × Partition). all_hold r.op r.words has.index e.1) (λ (e : DecoratedKey × Partition). is_hit a (part_of_map part.map.partitions) e.0) (map_.entries part.map.partitions) entry_hit)
      ∙ sym (map_filter (λ (e : DecoratedKey × Partition). e.0) (is_hit a (part_of_map part.map.partitions)) (map_.entries part.map.partitions))
      ∙ ap (λ (x : Part). filter (is_hit a x) (keys_of x.holds)) (sym is_map.part_is)
