-- A map of partitions that is written to a data file, one partition after another.
use Rattle.std.specs.Prelude.{◌≡◌, ◌&&◌, ◌≤◌, ℕ, suc, Bool, true, false, T, IsTrue, List, [], ◌∷◌, ◌++◌, length, map, Option, Some, is_some, ⊤, refl}
use Rattle.std.proofs.Common.{sym, ap, subst, ◌∙◌, arith, append_assoc}
use Rattle.std.proofs.lemmas.Bool.Decides.{nat_tests}
use Rattle.std.proofs.lemmas.List.{append-nil}
use Rattle.std.specs.declared.cmp.Ordering.{Ordering}
use Rattle.std.specs.declared.cmp.Ordering.TheVariants.{Less, Equal, Greater}
use Rattle.std.specs.Ordering.{nat_cmp, is_lt, ordering_then}
use Rattle.std.specs.Cmp.Lexicographic.{slice_cmp}
use Rattle.std.specs.FinMap as map_
use Rattle.std.specs.FinMap.{is_sorted}
use Rattle.std.specs.FinMap.Entries.{below_all}
use Rattle.std.specs.List.{AllByRecursion}
use Rattle.std.specs.Option.{option_and_then}
use Rattle.sasi_types.specs.declared.decorated_key.DecoratedKey.{DecoratedKey}
use Rattle.sasi_types.specs.declared.index_def.IndexDef.{IndexDef}
use Rattle.sasi_types.specs.declared.partitioner.Partitioner.{Partitioner}
use Rattle.sasi_types.specs.DecoratedKey.{decorated_cmp}
use Rattle.sasi_types.specs.Token.{token_of}
use Rattle.sasi_model.specs.Abbreviations.{Partitions}
use Rattle.sasi_model.specs.Cells.{Partition}
use Rattle.sasi_model.specs.State.{decorated}
use Rattle.sasi_host.specs.declared.name.FileName.{FileName}
use Rattle.sasi_host.specs.View.{Reaches, View}
use Rattle.sasi_host.specs.Disk.{AnyChange, Changes, FileChange}
use Rattle.sasi_host.proofs.ChangeLaws.{touches_on, untouched}
use Rattle.sasi_body.specs.Body.{HasBody}
use Rattle.sasi_cells.proofs.Laws.Decorated.{entries_have}
use Rattle.sasi_datawrite.proofs.Laws.{pairs_length}
use Rattle.sasi_datawrite.specs.Format.{Content, header}
use Rattle.sasi_datawrite.specs.Writing.{last_pair}
use Rattle.sasi_layout.specs.Flushed.{contents_of}
use Rattle.sasi_memindex.specs.Book.{AreValuesOf}
use Rattle.sasi_memindex.specs.IndexedValues.{IsCellOf}
use Rattle.sasi_memtable.specs.MemtableView.{AreDecorated}
use Rattle.sasi_pairs.specs.Gathered.{CanIndex, defs_of}
use Rattle.sasi_pairs.specs.PairViews.{IsPairing, PairView}
use Rattle.sasi_tables.specs.Flushing.{HaveBodies}

abbrev pub Entries : Type 0
Entries = List (DecoratedKey × Partition)

-- keys and their partitions
abbrev pub contents_in : Entries → Content
contents_in es = map (λ (e : DecoratedKey × Partition). (e.0.key, e.1)) es

-- ---- the order in which they are written

-- the partitions can be written in this order, behind one with this token
abbrev pub CanFollow : Partitioner → ℕ → Entries → Type 0
CanFollow p token [] = ⊤
CanFollow p token (e ∷ es) = (token ≤ token_of p e.0.key) × HasBody e.0.key e.1 × CanFollow p (token_of p e.0.key) es

both_true : (a b : Bool) → T (a && b) → T a × T b
both_true true b h = (tt, h)
both_true false b h = absurd h

less_upto : (x y : ℕ) → nat_cmp x y ≡ Less → x ≤ y
less_upto x y is = grind (arith, nat_tests)

equal_upto : (x y : ℕ) → nat_cmp x y ≡ Equal → x ≤ y
equal_upto x y is = grind (arith, nat_tests)

-- the token of a lesser key is no greater
token_upto : (a b : DecoratedKey) → T (is_lt (decorated_cmp a b)) → a.token ≤ b.token
token_upto a b less = by (nat_cmp a.token b.token) refl less
  where
    by : (o : Ordering) → nat_cmp a.token b.token ≡ o → T (is_lt (ordering_then o (slice_cmp nat_cmp a.key b.key))) → a.token ≤ b.token
    by Less is h = less_upto a.token b.token is
    by Equal is h = equal_upto a.token b.token is
    by Greater is h = absurd h

all_upto : (k : DecoratedKey) (es : Entries) → T (below_all decorated_cmp k es) → AllByRecursion (λ (e : DecoratedKey × Partition). k.token ≤ e.0.token) es
all_upto k [] below = tt
all_upto k (e ∷ es) below = let parts = both_true _ _ below in (token_upto k e.0 parts.0, all_upto k es parts.1)

follows : (p : Partitioner) (token : ℕ) (es : Entries) → T (is_sorted decorated_cmp es) → AllByRecursion (λ (e : DecoratedKey × Partition). e.0 ≡ decorated p e.0.key) es
    → AllByRecursion (λ (e : DecoratedKey × Partition). HasBody e.0.key e.1) es → AllByRecursion (λ (e : DecoratedKey × Partition). token ≤ e.0.token) es → CanFollow p token es
follows p token [] sorted keys bodies upto = tt
follows p token (e ∷ es) sorted keys bodies upto =
    let parts = both_true _ _ sorted in
    let same : e.0.token ≡ token_of p e.0.key = ap (λ (k : DecoratedKey). k.token) keys.0 in
    (subst (λ t. token ≤ t) same upto.0, bodies.0, subst (λ t. CanFollow p t es) same (follows p e.0.token es parts.1 keys.1 bodies.1 (all_upto e.0 es parts.0)))

all_above_zero : (es : Entries) → AllByRecursion (λ (e : DecoratedKey × Partition). 0 ≤ e.0.token) es
all_above_zero [] = tt
all_above_zero (e ∷ es) = (omega arith, all_above_zero es)

-- the partitions of a map can be written in their order
pub can_follow : (p : Partitioner) (m : Partitions) → AreDecorated p m → HaveBodies m → CanFollow p 0 (map_.entries m)
can_follow p m keys bodies =
    follows p 0 (map_.entries m) (map_.entries_sorted m)
    (entries_have (λ (e : DecoratedKey × Partition). e.0 ≡ decorated p e.0.key) m (λ q part found. keys q (ap is_some found)))
    bodies (all_above_zero (map_.entries m))

-- ---- what the indexes take

-- an index of this definition can take the partition

-- each of them can take each partition
abbrev pub TakeAll : List IndexDef → Entries → Type 0
TakeAll defs es = AllByRecursion (λ (e : DecoratedKey × Partition). AllByRecursion (CanIndex e.1) defs) es

take_found : (m : Partitions) (key : DecoratedKey) (part : Partition) (defs : List IndexDef) → map_.get m key ≡ Some part → AllByRecursion (λ (def : IndexDef). AreValuesOf def.column def.kind m) defs → AllByRecursion (CanIndex part) defs
take_found m key part [] found typed = tt
take_found m key part (def ∷ defs) found typed =
    (subst (λ (o : Option Partition). IsCellOf def.kind (option_and_then (λ p. map_.get p.cells def.column) o)) found (typed.0 key), take_found m key part defs found typed.1)

-- the partitions of a map that has values of their columns' types
take_all : (m : Partitions) (defs : List IndexDef) → AllByRecursion (λ (def : IndexDef). AreValuesOf def.column def.kind m) defs → TakeAll defs (map_.entries m)
take_all m defs typed = entries_have (λ (e : DecoratedKey × Partition). AllByRecursion (CanIndex e.1) defs) m (λ key part found. take_found m key part defs found typed)

-- ---- how far a map is written

-- the writer has written the partitions of a map but for those that are left, which its indexes can take
pub record WritesMap (a b : View) (from pair : PairView) (all left : Entries) : Type 0 where
  pub content : Content
  pub whole : content ++ contents_in left ≡ contents_in all
  pub pairing : IsPairing b pair content
  pub follow : CanFollow pair.writer.partitioner (last_pair pair.writer.pairs).token left
  pub take : TakeAll (defs_of pair.indexes) left
  pub room : Reaches b pair.writer.file pair.writer.offset
  pub usable : IsTrue pair.writer.usable
  pub file : pair.writer.file ≡ from.writer.file
  pub partitioner : pair.writer.partitioner ≡ from.writer.partitioner
  pub defs : defs_of pair.indexes ≡ defs_of from.indexes
  pub changes : Changes (FileChange from.writer.file AnyChange) a b
  pub disk : b.disk_faults ≡ a.disk_faults
  pub out : b.out_faults ≡ a.out_faults
  pub reads : b.reads ≡ a.reads

-- nothing is written yet
pub writes_none : (v : View) (pair : PairView) (m : Partitions) (left : Entries) → left ≡ map_.entries m → AreDecorated pair.writer.partitioner m → HaveBodies m
    → AllByRecursion (λ (def : IndexDef). AreValuesOf def.column def.kind m) (defs_of pair.indexes) → IsPairing v pair [] → Reaches v pair.writer.file pair.writer.offset → IsTrue pair.writer.usable
    → WritesMap v v pair pair (map_.entries m) left
writes_none v pair m left is keys bodies typed pairing room usable = record {
  content = [];
  whole = ap contents_in is;
  pairing = pairing;
  follow = subst (λ (es : Entries). CanFollow pair.writer.partitioner (last_pair pair.writer.pairs).token es) (sym is)
      (subst (λ t. CanFollow pair.writer.partitioner t (map_.entries m)) (sym (ap (λ ps. (last_pair ps).token) pairing.writing.pairs)) (can_follow pair.writer.partitioner m keys bodies));
  take = subst (λ (es : Entries). TakeAll (defs_of pair.indexes) es) (sym is) (take_all m (defs_of pair.indexes) typed);
  room = room;
  usable = usable;
  file = refl;
  partitioner = refl;
  defs = refl;
  changes = untouched v pair.writer.file;
  disk = refl;
  out = refl;
  reads = refl;
}

module _ (a b : View) (from old : PairView) (all left rest : Entries) (e : DecoratedKey × Partition) (is : left ≡ e ∷ rest) (writes : WritesMap a b from old all left) where
  -- each index can take the next partition
  pub takes_next : AllByRecursion (CanIndex e.1) (defs_of old.indexes)
  takes_next = let take : TakeAll (defs_of old.indexes) (e ∷ rest) = subst (λ (es : Entries). TakeAll (defs_of old.indexes) es) is writes.take in take.0

  -- one more is written
  pub writes_next : (c : View) (new : PairView) → ((content : Content) → IsPairing b old content → IsPairing c new (content ++ (e.0.key, e.1) ∷ [])) → (last_pair new.writer.pairs).token ≡ token_of old.writer.partitioner e.0.key
      → Reaches c new.writer.file new.writer.offset → IsTrue new.writer.usable → new.writer.file ≡ old.writer.file → new.writer.partitioner ≡ old.writer.partitioner → defs_of new.indexes ≡ defs_of old.indexes
      → Changes (FileChange old.writer.file AnyChange) b c → c.disk_faults ≡ b.disk_faults → c.out_faults ≡ b.out_faults → c.reads ≡ b.reads → WritesMap a c from new all rest
  writes_next c new pushed last room usable file partitioner defs change disk out reads =
      let follow : CanFollow old.writer.partitioner (last_pair old.writer.pairs).token (e ∷ rest) = subst (λ (es : Entries). CanFollow old.writer.partitioner (last_pair old.writer.pairs).token es) is writes.follow in
      let take : TakeAll (defs_of old.indexes) (e ∷ rest) = subst (λ (es : Entries). TakeAll (defs_of old.indexes) es) is writes.take in
      record {
        content = writes.content ++ (e.0.key, e.1) ∷ [];
        whole = append_assoc writes.content ((e.0.key, e.1) ∷ []) (contents_in rest) ∙ ap (λ (es : Entries). writes.content ++ contents_in es) (sym is) ∙ writes.whole;
        pairing = pushed writes.content writes.pairing;
        follow = subst (λ p. CanFollow p (last_pair new.writer.pairs).token rest) (sym partitioner) (subst (λ t. CanFollow old.writer.partitioner t rest) (sym last) follow.2);
        take = subst (λ (ds : List IndexDef). TakeAll ds rest) (sym defs) take.1;
        room = room;
        usable = usable;
        file = file ∙ writes.file;
        partitioner = partitioner ∙ writes.partitioner;
        defs = defs ∙ writes.defs;
        changes = touches_on a b c from.writer.file writes.changes (subst (λ f. Changes (FileChange f AnyChange) b c) writes.file change);
        disk = disk ∙ writes.disk;
        out = out ∙ writes.out;
        reads = reads ∙ writes.reads;
      }

-- all are written
pub writes_all : (a b : View) (from pair : PairView) (m : Partitions) (left : Entries) → left ≡ [] → WritesMap a b from pair (map_.entries m) left → IsPairing b pair (contents_of m)
writes_all a b from pair m left none writes =
    let whole : writes.content ≡ contents_of m = sym (append-nil writes.content) ∙ ap (λ (es : Entries). writes.content ++ contents_in es) (sym none) ∙ writes.whole in
    subst (IsPairing b pair) whole writes.pairing

-- ---- what is written

as_many : (es : Entries) → length (contents_in es) ≡ length es
as_many [] = refl
as_many (e ∷ es) = ap (λ n. suc n) (as_many es)

-- a pair for each partition
pub some_pairs : (v : View) (pair : PairView) (m : Partitions) → 1 ≤ length (map_.entries m) → IsPairing v pair (contents_of m) → 1 ≤ length pair.writer.pairs
some_pairs v pair m some pairing =
    omega (arith, some, ap length pairing.writing.pairs, pairs_length pair.writer.partitioner (length header) (contents_of m), as_many (map_.entries m))

-- two changes of the same file, which the second names otherwise
pub touches_also : (a b c : View) (file other : FileName) → other ≡ file → Changes (FileChange file AnyChange) a b → Changes (FileChange other AnyChange) b c → Changes (FileChange file AnyChange) a c
touches_also a b c file other is first second = touches_on a b c file first (subst (λ f. Changes (FileChange f AnyChange) b c) is second)
