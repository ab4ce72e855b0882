-- One more partition in a data file and its indexes.
use Rattle.std.proofs.Common.{◌≡◌, ℕ, ◌<◌, List, [], ◌∷◌, ◌++◌, Bool, true, false, length, map, take, drop, sym, ap, ◌∙◌, subst, refl, arith}
use Rattle.std.specs.Prelude.{◌&&◌}
use Rattle.std.specs.FinMap as map_
use Rattle.std.specs.List.{AllByRecursion, fold}
use Rattle.std.proofs.lemmas.List.{append-nil, drop_all, length-map, take_all}
use Rattle.sasi_types.specs.declared.index_def.IndexDef.{IndexDef}
use Rattle.sasi_types.specs.declared.partitioner.Partitioner.{Partitioner}
use Rattle.sasi_types.specs.declared.tree.Pair.{Pair}
use Rattle.sasi_types.specs.Token.{token_of}
use Rattle.sasi_host.specs.declared.name.FileName.{FileName}
use Rattle.sasi_host.specs.Names.{Bytes, data_name}
use Rattle.sasi_host.specs.View.{View}
use Rattle.sasi_model.specs.Cells.{Partition}
use Rattle.sasi_model.specs.IndexTerms.{terms_of_cell}
use Rattle.sasi_model.specs.Stored.{Entry, cells_of}
use Rattle.sasi_segments.specs.declared.posting.Posting.{Posting}
use Rattle.sasi_datawrite.specs.Calls.{cell_call, partition_calls}
use Rattle.sasi_datawrite.specs.Format.{Content, front}
use Rattle.sasi_datawrite.specs.Writing.{IsWriting, Writer}
use Rattle.sasi_indexwrite.specs.TermsSoFar.{AreSortedPostings}
use Rattle.sasi_indexwrite.proofs.Callers.{none_gathered}
use Rattle.sasi_postings.specs.Postings.{AreGathered, is_short, postings_at, with_postings}
use Rattle.sasi_postings.proofs.Contents.{postings_none, postings_push}
use Rattle.sasi_postings.proofs.Terms.{gathered_with}
use Rattle.sasi_pairs.specs.Gathered.{GatheredIndex, IsBuilt, defs_of, fresh, with_partition}
use Rattle.sasi_pairs.specs.PairViews.{HasPostings, IsPairing, KeepsPostings}
use Rattle.sasi_pairs.specs.SeenPairs.{seen}
use Rattle.sasi_pairs.proofs.Replaced.{all_of_defs, defs_of_all}

cells_seen : (pair : Pair) (cells : List Entry) → fold seen pair (map cell_call cells) ≡ pair
cells_seen pair [] = refl
cells_seen pair (cell ∷ cells) = cells_seen pair cells

-- the pair of a partition is the one that was seen last
pub partition_seen : (pair : Pair) (token place : ℕ) (part : Partition) → fold seen pair (partition_calls token place part) ≡ record { token = token; place = place }
partition_seen pair token place part = cells_seen (record { token = token; place = place }) (cells_of part)

-- ---- what the indexes have

-- a content that is written has its pair where the partitions end
pub postings_with : (v : View) (writer : Writer) (content : Content) (key : Bytes) (part : Partition) (indexes : List GatheredIndex) → IsWriting v writer content
    → AllByRecursion (HasPostings writer.partitioner content) indexes
    → AllByRecursion (HasPostings writer.partitioner (content ++ (key, part) ∷ [])) (map (with_partition (record { token = token_of writer.partitioner key; place = writer.offset }) part) indexes)
postings_with v writer content key part [] writing all = tt
postings_with v writer content key part (i ∷ indexes) writing all = (
  ap (λ (n : ℕ). with_postings i.postings (postings_at is_short i.def.column i.def.rule (pair_at n) part)) writing.offset_is
      ∙ ap (λ (l : List Posting). with_postings l (postings_at is_short i.def.column i.def.rule (pair_at (length (front content))) part)) all.0
      ∙ sym (postings_push writer.partitioner i.def.column i.def.rule content key part),
  postings_with v writer content key part indexes writing all.1,
)
  where
    pair_at : ℕ → Pair
    pair_at n = record { token = token_of writer.partitioner key; place = n }

-- the writer has one partition more, and so has each index
pub pairing_push : (v w : View) (old new : Writer) (indexes items : List GatheredIndex) (content : Content) (key : Bytes) (part : Partition) → new.partitioner ≡ old.partitioner
    → items ≡ map (with_partition (record { token = token_of old.partitioner key; place = old.offset }) part) indexes
    → (IsWriting v old content → IsWriting w new (content ++ (key, part) ∷ [])) → IsPairing v (record { writer = old; indexes = indexes }) content
    → IsPairing w (record { writer = new; indexes = items }) (content ++ (key, part) ∷ [])
pairing_push v w old new indexes items content key part same is written pairing = record {
  writing = written pairing.writing;
  indexes = subst (λ (l : List GatheredIndex). AllByRecursion (HasPostings new.partitioner (content ++ (key, part) ∷ [])) l) (sym is)
      (subst (λ p. AllByRecursion (HasPostings p (content ++ (key, part) ∷ [])) (map (with_partition (record { token = token_of old.partitioner key; place = old.offset }) part) indexes)) (sym same)
      (postings_with v old content key part indexes pairing.writing pairing.indexes));
}

-- ---- what a writer keeps

built_on : (indexes items : List GatheredIndex) → defs_of items ≡ defs_of indexes → AllByRecursion (λ i. IsBuilt i.def) indexes → AllByRecursion (λ i. IsBuilt i.def) items
built_on indexes items same all = all_of_defs IsBuilt items (subst (λ (l : List IndexDef). AllByRecursion IsBuilt l) (sym same) (defs_of_all IsBuilt indexes all))

-- also where a call failed
pub keeps_unusable : (file : FileName) (old new : Writer) (indexes items : List GatheredIndex) (was : Bool) → KeepsPostings file old indexes was → new.file ≡ old.file → defs_of items ≡ defs_of indexes → KeepsPostings file new items false
keeps_unusable file old new indexes items was keeps same defs = record {
  same = same ∙ keeps.same;
  named = keeps.named;
  built = built_on indexes items defs keeps.built;
  gathered = λ e. absurd (cc);
}

gathered_push : (token place next : ℕ) (part : Partition) (indexes : List GatheredIndex) → place < next → AllByRecursion (λ i. AreGathered i.postings place) indexes
    → AllByRecursion (λ i. AreGathered i.postings next) (map (with_partition (record { token = token; place = place }) part) indexes)
gathered_push token place next part [] lt all = tt
gathered_push token place next part (i ∷ indexes) lt all =
    (gathered_with is_short (λ term short. short) i.postings (record { token = token; place = place }) (terms_of_cell i.def.rule (map_.get part.cells i.def.column)) next lt all.0, gathered_push token place next part indexes lt all.1)

-- and where one more partition was pushed
pub keeps_push : (file : FileName) (old new : Writer) (indexes items : List GatheredIndex) (token : ℕ) (part : Partition) → KeepsPostings file old indexes true → new.file ≡ old.file → defs_of items ≡ defs_of indexes
    → old.offset < new.offset → items ≡ map (with_partition (record { token = token; place = old.offset }) part) indexes → KeepsPostings file new items true
keeps_push file old new indexes items token part keeps same defs lt is = record {
  same = same ∙ keeps.same;
  named = keeps.named;
  built = built_on indexes items defs keeps.built;
  gathered = λ e. subst (λ (l : List GatheredIndex). AllByRecursion (λ i. AreGathered i.postings new.offset) l) (sym is) (gathered_push token old.offset new.offset part indexes lt (keeps.gathered refl));
}

-- what a vector has, once all of its items were borrowed and given back
pub given_back : (len : ℕ) (new items : List GatheredIndex) → length items ≡ len → defs_of new ≡ defs_of items → take len (new ++ drop (length new) items) ≡ new
given_back len new items long defs =
    let alike : length new ≡ length items = sym (length-map new (λ (i : GatheredIndex). i.def)) ∙ ap (λ (l : List IndexDef). length l) defs ∙ length-map items (λ (i : GatheredIndex). i.def) in
    ap (λ (l : List GatheredIndex). take len (new ++ l)) (drop_all (length new) items (omega (arith, alike))) ∙ ap (λ (l : List GatheredIndex). take len l) (append-nil new) ∙ take_all len new (omega (arith, alike, long))

-- ---- a writer that begins

fresh_defs : (defs : List IndexDef) → defs_of (map fresh defs) ≡ defs
fresh_defs [] = refl
fresh_defs (def ∷ defs) = ap (λ (l : List IndexDef). def ∷ l) (fresh_defs defs)

pub begun_defs : (defs : List IndexDef) (items : List GatheredIndex) → items ≡ map fresh defs → defs_of items ≡ defs
begun_defs defs items is = ap defs_of is ∙ fresh_defs defs

fresh_postings : (partitioner : Partitioner) (defs : List IndexDef) → AllByRecursion (HasPostings partitioner []) (map fresh defs)
fresh_postings partitioner [] = tt
fresh_postings partitioner (def ∷ defs) = (sym (postings_none partitioner def.column def.rule), fresh_postings partitioner defs)

pub begun_pairing : (v : View) (writer : Writer) (defs : List IndexDef) (items : List GatheredIndex) → items ≡ map fresh defs → IsWriting v writer [] → IsPairing v (record { writer = writer; indexes = items }) []
begun_pairing v writer defs items is writing = record {
  writing = writing;
  indexes = subst (λ (l : List GatheredIndex). AllByRecursion (HasPostings writer.partitioner []) l) (sym is) (fresh_postings writer.partitioner defs);
}

fresh_gathered : (offset : ℕ) (defs : List IndexDef) → AllByRecursion (λ i. AreGathered i.postings offset) (map fresh defs)
fresh_gathered offset [] = tt
fresh_gathered offset (def ∷ defs) = (record { sorted = none_gathered; below = tt }, fresh_gathered offset defs)

pub begun_keeps : (file : FileName) (writer : Writer) (defs : List IndexDef) (items : List GatheredIndex) (number : ℕ) → items ≡ map fresh defs → writer.file ≡ data_name number → file ≡ data_name number → AllByRecursion IsBuilt defs
    → KeepsPostings file writer items true
begun_keeps file writer defs items number is named file_is built = record {
  same = named ∙ sym file_is;
  named = file_is ∙ ap (λ (f : FileName). data_name f.number) (sym file_is);
  built = all_of_defs IsBuilt items (subst (λ (l : List IndexDef). AllByRecursion IsBuilt l) (sym (begun_defs defs items is)) built);
  gathered = λ e. subst (λ (l : List GatheredIndex). AllByRecursion (λ i. AreGathered i.postings writer.offset) l) (sym is) (fresh_gathered writer.offset defs);
}

-- ---- a writer that ends

-- what an index file is written of
pub sorted_each : (offset : ℕ) (indexes : List GatheredIndex) → AllByRecursion (λ i. AreGathered i.postings offset) indexes → AllByRecursion (λ i. AreSortedPostings i.postings) indexes
sorted_each offset [] all = tt
sorted_each offset (i ∷ indexes) all = (all.0.sorted, sorted_each offset indexes all.1)

-- ---- whether a writer may be used

-- of two flags that are both up the first is
pub first_up : (a b : Bool) → (a && b) ≡ true → a ≡ true
first_up true b up = refl
first_up false b up = up

-- what a writer has written doesn't depend on its flag
pub pairing_with : (v : View) (writer : Writer) (usable : Bool) (indexes : List GatheredIndex) (content : Content) → IsPairing v (record { writer = record writer { usable = usable }; indexes = indexes }) content
    → IsPairing v (record { writer = writer; indexes = indexes }) content
pairing_with v writer usable indexes content pairing = record {
  writing = record { pairs = pairing.writing.pairs; offset_is = pairing.writing.offset_is; max_timestamp = pairing.writing.max_timestamp; holds = pairing.writing.holds };
  indexes = pairing.indexes;
}
