-- Indexes that are added to the map of a table.
use Rattle.std.proofs.Common.{◌≡◌, ℕ, zero, suc, ◌+◌, true, false, List, [], ◌∷◌, ◌++◌, length, map, set, slice_get, take, Option, None, Some, refl, sym, ap, subst, ◌∙◌, append_assoc, inl, arith}
use Rattle.std.specs.Prelude.{Contains}
use Rattle.std.proofs.lemmas.List.Elements.{Contains-append_left, Contains-push}
use Rattle.std.proofs.lemmas.List.{append-nil, map-append}
use Rattle.std.specs.FinMap.{get}
use Rattle.std.specs.List.{AllByRecursion}
use Rattle.std.specs.Option.{option_map_or}
use Rattle.sasi_types.specs.declared.class.Class.{Class}
use Rattle.sasi_types.specs.declared.column.ColumnType.{ColumnType}
use Rattle.sasi_types.specs.declared.index_def.IndexDef.{IndexDef}
use Rattle.sasi_types.specs.declared.rule.Rule.{Rule}
use Rattle.sasi_types.specs.declared.partitioner.Partitioner.TheVariants.{Lead8}
use Rattle.sasi_analyzers.specs.Kits.{has_class}
use Rattle.sasi_layout.specs.Classes.{HasNeeded}
use Rattle.sasi_manifest.proofs.Additions.{set_same}
use Rattle.sasi_memindex.specs.declared.map_part.MapPart.{MapPart}
use Rattle.sasi_memindex.specs.Book.{AreKept, Book, CanAdd, IsAdded, IsMissing, bare, subjects}
use Rattle.sasi_memindex.specs.MemIndexView.{MemIndexView, subject}
use Rattle.sasi_memindex.proofs.AddedIndexes.{added_kept}
use Rattle.sasi_memtable.specs.MemtableView.{MemtableView, empty_memtable}
use Rattle.sasi_tables.specs.declared.table_maps.TableMaps.{TableMaps}
use Rattle.sasi_tables.specs.Held.{AreAdded, AreMapped, CanAddAll, HasIndexes, KnowsDef, Subject, held_by, held_of, map_in, numbers_of, subject_of}
use Rattle.sasi_tables.proofs.HeldMaps.{OtherTablesStay, first_in, held_set, held_there, later_in, mapped_set}

-- ---- one after another

there_and_not : (kinds : List Class) (class : Class) → has_class class kinds ≡ true → has_class class kinds ≡ false → ⊥
there_and_not kinds class there lacks = let no : true ≡ false = sym there ∙ lacks in cc

pub none_missing : (kinds : List Class) (def : IndexDef) → KnowsDef kinds def → (class : Class) → IsMissing kinds def.rule class → ⊥
none_missing kinds def known class missing = there_and_not kinds class (subst (HasNeeded kinds) missing.needed known) missing.lacking

pub added_first : (defs : List IndexDef) (o : Option MapPart) → CanAddAll defs o → AreAdded [] o o
added_first defs None can = absurd can
added_first defs (Some part) can = record { map_is = refl; subjects_are = sym (append-nil (subjects part.indexes)); kept = λ kept. kept }

pub added_more : (done : List IndexDef) (def : IndexDef) (o m n : Option MapPart) → AreAdded done o m → IsAdded def.number def.column def.kind def.rule m n → AreAdded (done ++ def ∷ []) o n
added_more done def None m n on added = absurd on
added_more done def (Some old) None n on added = absurd on
added_more done def (Some old) (Some mid) None on added = absurd added
added_more done def (Some old) (Some mid) (Some new) on added = record {
  map_is = ap (λ (p : MapPart). p.map) added.is ∙ on.map_is;
  subjects_are =
      ap (λ (p : MapPart). subjects p.indexes) added.is
      ∙ map-append (λ (i : ℕ × MemIndexView). (i.0, subject i.1)) mid.indexes ((def.number, added.added) ∷ [])
      ∙ ap (λ (s : ℕ × (ColumnType × Option Rule)). subjects mid.indexes ++ (def.number, s) ∷ []) added.of
      ∙ ap (λ (l : List Subject). l ++ subject_of def ∷ []) on.subjects_are
      ∙ append_assoc (subjects old.indexes) (map subject_of done) (subject_of def ∷ [])
      ∙ ap (λ (l : List Subject). subjects old.indexes ++ l) (sym (map-append subject_of done (def ∷ [])));
  kept = λ kept. subst (λ (p : MapPart). AreKept p.map.partitions p.indexes) (sym added.is) (added_kept mid.map.partitions mid.indexes def.number added.added (on.kept kept) added.kept);
}

-- the map can take each of them
pub can_more : (defs done : List IndexDef) (o m : Option MapPart) (at : ℕ) (def : IndexDef) → CanAddAll defs o → AreAdded done o m → slice_get defs at ≡ Some def → CanAdd def.column def.kind m
can_more defs done None m at def can on there = absurd can
can_more defs done (Some old) None at def can on there = absurd on
can_more defs done (Some old) (Some mid) at def can on there = subst (λ (v : MemtableView). CanAdd def.column def.kind (Some (record { map = v; indexes = mid.indexes }))) (sym on.map_is) (by defs at can there)
  where
    by : (defs : List IndexDef) (at : ℕ) → CanAddAll defs (Some old) → slice_get defs at ≡ Some def → CanAdd def.column def.kind (Some (record { map = old.map; indexes = mid.indexes }))
    by [] at can there = cc
    by (x ∷ defs) zero can there = let same : x ≡ def = cc in subst (λ (d : IndexDef). CanAdd d.column d.kind (Some (record { map = old.map; indexes = mid.indexes }))) same can.0
    by (x ∷ defs) (suc at) can there = by defs at can.1 there

pub known_more : (kinds : List Class) (defs : List IndexDef) (at : ℕ) (def : IndexDef) → AllByRecursion (KnowsDef kinds) defs → slice_get defs at ≡ Some def → KnowsDef kinds def
known_more kinds [] at def known there = cc
known_more kinds (x ∷ defs) zero def known there = let same : x ≡ def = cc in subst (KnowsDef kinds) same known.0
known_more kinds (x ∷ defs) (suc at) def known there = known_more kinds defs at def known.1 there

pub take_one : (defs : List IndexDef) (at : ℕ) (def : IndexDef) → slice_get defs at ≡ Some def → take (at + 1) defs ≡ take at defs ++ def ∷ []
take_one [] at def there = cc
take_one (x ∷ defs) zero def there = let same : x ≡ def = cc in ap (λ (d : IndexDef). d ∷ []) same
take_one (x ∷ defs) (suc at) def there =
    let next : suc at + 1 ≡ suc (at + 1) = omega arith in
    ap (λ (n : ℕ). take n (x ∷ defs)) next ∙ ap (λ (l : List IndexDef). x ∷ l) (take_one defs at def there)

-- ---- the tables then

pub bare_has : (m : MemtableView) → HasIndexes [] (Some (bare m))
bare_has m = record { subjects_are = refl; kept = λ position i there. cc }

abbrev pub map_of : Option MapPart → MemtableView
map_of o = option_map_or (λ (part : MapPart). part.map) o (empty_memtable Lead8)

pub same_map : (defs : List IndexDef) (o n : Option MapPart) → AreAdded defs o n → map_of n ≡ map_of o
same_map defs None n on = absurd on
same_map defs (Some old) None on = absurd on
same_map defs (Some old) (Some new) on = on.map_is

pub now_indexed : (defs : List IndexDef) (before : List Subject) (o n : Option MapPart) → AreAdded defs o n → HasIndexes before o → HasIndexes (before ++ map subject_of defs) n
now_indexed defs before None n on has = absurd on
now_indexed defs before (Some old) None on has = absurd on
now_indexed defs before (Some old) (Some new) on has = record { subjects_are = on.subjects_are ∙ ap (λ (l : List Subject). l ++ map subject_of defs) has.subjects_are; kept = on.kept has.kept }

module _ (book : Book) (last : ℕ) (wanted : List (List Subject)) (ts : List TableMaps) (mapped : AreMapped book last wanted ts) (at : ℕ) (t : TableMaps) (there : slice_get ts at ≡ Some t)
    (defs : List IndexDef) (after : Book) (added : (number : ℕ) → Contains (numbers_of t) number → AreAdded defs (get book number) (get after number)) (others : (number : ℕ) → (Contains (numbers_of t) number → ⊥) → get after number ≡ get book number) where
  stay : OtherTablesStay at ts book after
  stay i x number differ found has = others number (λ own. differ (mapped.apart i at x t number found there has own))

  maps_kept : (ns : List ℕ) → ((number : ℕ) → Contains ns number → Contains (numbers_of t) number) → map (map_in after) ns ≡ map (map_in book) ns
  maps_kept [] own = refl
  maps_kept (n ∷ ns) own =
      let here : map_in after n ≡ map_in book n = same_map defs (get book n) (get after n) (added n (own n (first_in n ns))) in
      let rest = maps_kept ns (λ k has. own k (later_in n ns k has)) in
      λ i. here i ∷ rest i

  pub indexed_held : held_of after ts ≡ held_of book ts
  indexed_held =
      let frozen = maps_kept t.frozen (λ number has. Contains-append_left t.frozen (t.memtable ∷ []) number has) in
      let memtable = same_map defs (get book t.memtable) (get after t.memtable) (added t.memtable (Contains-push t.frozen t.memtable)) in
      let seen : held_by after t ≡ held_by book t = λ i. record { number = t.number; frozen = frozen i; memtable = memtable i; first = t.first } in
      ap (held_of after) (sym (set_same ts at t there)) ∙ held_set book after ts at t t there stay
      ∙ ap (set (held_of book ts) at) seen ∙ set_same (held_of book ts) at (held_by book t) (held_there book ts at t there)

  pub indexed_mapped : (before : List Subject) → slice_get wanted at ≡ Some before → (also : List (List Subject)) → length also ≡ length wanted → ((i : ℕ) → (i ≡ at → ⊥) → slice_get also i ≡ slice_get wanted i)
      → slice_get also at ≡ Some (before ++ map subject_of defs) → AreMapped after last also ts
  indexed_mapped before had also counted same now =
      subst (AreMapped after last also) (set_same ts at t there)
      (mapped_set book last wanted ts mapped after last also at t t there (omega arith) (λ number has. inl has) (mapped.rising at t there) stay counted same
      (λ found number is has.
      let one : before ++ map subject_of defs ≡ found = (let both : Some (before ++ map subject_of defs) ≡ Some found = sym now ∙ is in cc) in
      subst (λ (s : List Subject). HasIndexes s (get after number)) one
      (now_indexed defs before (get book number) (get after number) (added number has) (mapped.indexed at t before number there had has))))
