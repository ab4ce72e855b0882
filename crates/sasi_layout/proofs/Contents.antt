-- The content of a data file that is written of a map.
use Rattle.std.specs.Prelude.{ℕ, T, suc, Bool, true, false, List, Some, refl, length, map, ◌≡◌, ◌&&◌, ◌^◌, ◌≤◌, ◌∷◌, []}
use Rattle.std.proofs.Common.{◌∙◌, sym, ap, subst, arith}
use Rattle.std.specs.FinMap.{get, is_sorted}
use Rattle.std.specs.FinMap.Entries.{below_all}
use Rattle.std.specs.List.{AllByRecursion}
use Rattle.std.specs.List.Sorted.{IsStrictlySortedBy}
use Rattle.std.specs.Ordering.{is_lt}
use Rattle.std.specs.declared.cmp.Ordering.{Ordering}
use Rattle.std.specs.declared.cmp.Ordering.TheVariants.{Less, Equal, Greater}
use Rattle.std.specs.FinMap as map_
use Rattle.sasi_types.specs.DecoratedKey.{decorated_cmp, decorated_total}
use Rattle.sasi_types.specs.declared.column.ColumnType.{ColumnType}
use Rattle.sasi_types.specs.declared.decorated_key.DecoratedKey.{DecoratedKey}
use Rattle.sasi_types.specs.declared.partitioner.Partitioner.{Partitioner}
use Rattle.sasi_types.specs.Token.{AreBytes}
use Rattle.sasi_model.specs.Abbreviations.{Partitions, types_of}
use Rattle.sasi_model.specs.Cells.{Partition}
use Rattle.sasi_model.specs.State.{decorated, Definition}
use Rattle.sasi_model.specs.Stored.{IsBodyOf, HasBody}
use Rattle.sasi_cells.proofs.Laws.Decorated.{same_maps}
use Rattle.sasi_host.specs.Names.{Bytes, Folder, data_name}
use Rattle.sasi_datawrite.specs.Files.{IsDataFile}
use Rattle.sasi_datawrite.specs.Format.{Content, data_bytes, decorated_key}
use Rattle.sasi_layout.specs.Flushed.{contents_of}
use Rattle.sasi_layout.specs.Layout.{File}
use Rattle.sasi_layout.specs.Serving.{IsStorable}
use Rattle.sasi_layout.specs.Shape.{HasFile, HasIndexFile, map_of}

abbrev pub Entries : Type 0
Entries = List (DecoratedKey × Partition)

-- the same of entries
abbrev pub contents_in : Entries → Content
contents_in es = map (λ (e : DecoratedKey × Partition). (e.0.key, e.1)) es

-- a map that can be written
pub record IsWritableMap (p : Partitioner) (types : List ColumnType) (m : Partitions) : Type 0 where
  pub some : 1 ≤ length (map_.entries m)
  pub storable : AllByRecursion (IsStorable p types) (map_.entries m)

module _ (p : Partitioner) (types : List ColumnType) where
  keys_decorated : (es : Entries) → AllByRecursion (IsStorable p types) es → map (λ (one : Bytes × Partition). (decorated p one.0, one.1)) (contents_in es) ≡ es
  keys_decorated [] all = refl
  keys_decorated (e ∷ es) all =
      let here : (decorated p e.0.key, e.1) ≡ e = (let same = all.0.key_is in λ i. (sym same i, e.1)) in
      let rest = keys_decorated es all.1 in
      λ i. here i ∷ rest i

  keys_are : (es : Entries) → AllByRecursion (IsStorable p types) es → map (decorated_key p) (contents_in es) ≡ map (λ (e : DecoratedKey × Partition). e.0) es
  keys_are [] all = refl
  keys_are (e ∷ es) all = let same = all.0.key_is in let rest = keys_are es all.1 in λ i. sym same i ∷ rest i

  bodies : (es : Entries) → AllByRecursion (IsStorable p types) es → AllByRecursion (λ one. IsBodyOf types one.0 one.1) (contents_in es)
  bodies [] all = tt
  bodies (e ∷ es) all = (all.0.body, bodies es all.1)

  have : (es : Entries) → AllByRecursion (IsStorable p types) es → AllByRecursion (λ one. HasBody one.0 one.1) (contents_in es)
  have [] all = tt
  have (e ∷ es) all = (all.0.body.has, have es all.1)

  keys_are_bytes : (es : Entries) → AllByRecursion (IsStorable p types) es → AllByRecursion (λ one. AreBytes one.0) (contents_in es)
  keys_are_bytes [] all = tt
  keys_are_bytes (e ∷ es) all = (all.0.bytes, keys_are_bytes es all.1)

as_many : (es : Entries) → length (contents_in es) ≡ length es
as_many [] = refl
as_many (e ∷ es) = ap (λ n. suc n) (as_many es)

both_true : (a b : Bool) → T (a && b) → T a × T b
both_true true b h = (tt, h)
both_true false b h = absurd h

lower : (r : Ordering) → T (is_lt r) → r ≡ Less
lower Less h = refl
lower Equal h = absurd h
lower Greater h = absurd h

all_below : (key : DecoratedKey) (es : Entries) → T (below_all decorated_cmp key es) → AllByRecursion (λ q. decorated_cmp key q ≡ Less) (map (λ (e : DecoratedKey × Partition). e.0) es)
all_below key [] h = tt
all_below key (e ∷ es) h = let parts = both_true _ _ h in (lower _ parts.0, all_below key es parts.1)

rises : (es : Entries) → T (is_sorted decorated_cmp es) → IsStrictlySortedBy decorated_cmp (map (λ (e : DecoratedKey × Partition). e.0) es)
unfolding IsStrictlySortedBy
rises [] h = tt
rises (e ∷ es) h = let parts = both_true _ _ h in (all_below e.0 es parts.0, rises es parts.1)

-- What is written of a map has its partitions.
pub map_back : (p : Partitioner) (types : List ColumnType) (m : Partitions) → AllByRecursion (IsStorable p types) (map_.entries m) → map_of p (contents_of m) ≡ m
map_back p types m right = same_maps _ _ (λ q.
    ap (λ (es : Entries). get (map_.from_entries {R = decorated_cmp} es) q) (keys_decorated p types (map_.entries m) right)
    ∙ map_.get-from_entries decorated_total (map_.entries m) q
    ∙ sym (map_.get-entries m q))

pub written_file : (p : Partitioner) (types : List ColumnType) (m : Partitions) → IsWritableMap p types m → IsDataFile p types (data_bytes p (contents_of m)) (contents_of m)
written_file p types m is = record {
  content_is = record {
    some = omega (arith, is.some, as_many (map_.entries m));
    rising = subst (IsStrictlySortedBy decorated_cmp) (sym (keys_are p types (map_.entries m) is.storable)) (rises (map_.entries m) (map_.entries_sorted m));
    bodies = have p types (map_.entries m) is.storable;
  };
  typed = bodies p types (map_.entries m) is.storable;
  is = refl;
}

-- The file that is written of a map is there in a folder that has its bytes.
pub has_written : (folder : Folder) (p : Partitioner) (d : Definition) (ns : List ℕ) (file : File) → IsWritableMap p (types_of d) file.holds → get folder (data_name file.listed.number) ≡ Some (data_bytes p (contents_of file.holds)) → length (data_bytes p (contents_of file.holds)) ≤ 2 ^ 62
    → AllByRecursion (HasIndexFile folder p d ns file.listed.number (contents_of file.holds)) file.listed.parts → HasFile folder p d ns file
has_written folder p d ns file is there fits indexes = record {
  bytes = data_bytes p (contents_of file.holds);
  content = contents_of file.holds;
  there = there;
  data_file = written_file p (types_of d) file.holds is;
  fits = fits;
  keys = keys_are_bytes p (types_of d) (map_.entries file.holds) is.storable;
  holds = sym (map_back p (types_of d) file.holds is.storable);
  indexes = indexes;
}
