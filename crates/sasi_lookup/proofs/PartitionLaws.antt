-- The partition of a key in an open file.
use Rattle.std.proofs.Common.{◌≡◌, ℕ, ◌+◌, ◌≤◌, true, false, List, length, Option, None, Some, IfErr, IfOk, IfSome, IsSome, Result, refl, sym, ap, subst, ◌∙◌, arith}
use Rattle.std.specs.Prelude.{Contains}
use Rattle.std.specs.FinMap as map_
use Rattle.std.specs.List.{AllByRecursion}
use Rattle.sasi_types.specs.declared.column.ColumnType.{ColumnType}
use Rattle.sasi_types.specs.declared.partitioner.Partitioner.{Partitioner}
use Rattle.sasi_types.specs.DecoratedKey.{decorated_cmp}
use Rattle.sasi_types.specs.Key.{key_eq}
use Rattle.sasi_types.specs.Token.{token_of}
use Rattle.sasi_model.specs.Cells.{Partition}
use Rattle.sasi_model.specs.State.{decorated}
use Rattle.sasi_host.specs.declared.fault.ReadFault.{ReadFault}
use Rattle.sasi_host.specs.declared.fault.ReadFault.TheVariants as fault
use Rattle.sasi_host.specs.Damages.{DamageShown, OnDamage}
use Rattle.sasi_host.specs.Disk.{Changes, Same}
use Rattle.sasi_host.specs.Names.{Bytes}
use Rattle.sasi_host.specs.View.{ReadCost, View, contents}
use Rattle.sasi_host.proofs.ChangeLaws.{stays}
use Rattle.sasi_host.proofs.ContentLaws.{contents_same}
use Rattle.sasi_body.specs.Body.{IsBodyOf, body}
use Rattle.sasi_datawrite.specs.Format.{Content, IsContent, header}
use Rattle.sasi_dataread.specs.declared.token_keys.PlacedKey.{PlacedKey}
use Rattle.sasi_dataread.specs.Bodies.{partition_pages}
use Rattle.sasi_dataread.specs.Damages.{ShowsData, ShowsPair, ShowsPartition}
use Rattle.sasi_dataread.specs.Damages.ShowsData.{at_pair}
use Rattle.sasi_dataread.specs.Damages.ShowsPair.{in_partition}
use Rattle.sasi_dataread.specs.Finds.{partition_of}
use Rattle.sasi_dataread.specs.Opened.{IsOpenedAs, OpenDataFile, StandsAt}
use Rattle.sasi_dataread.specs.PlacedKeys.{keys_at}
use Rattle.sasi_dataread.specs.Reads.{IsOpenOn, NoFalsePartitionDamage, ReadsPartition}
use Rattle.sasi_dataread.proofs.PlacedLaws.{IsPlaced, keys_placed}
use Rattle.sasi_ranges.specs.StreamCalls.{StreamFaults}
use Rattle.sasi_ranges.proofs.Calling.{on_err}
use Rattle.sasi_scan.specs.Parts.{entries_of}
use Rattle.sasi_scan.proofs.KeyLookups.{looked_up}
use Rattle.sasi_lookup.specs.Files.{FileShows, IsAtPair, IsFileReady, IsOpenWith, IsTurnedFile, LookedFile}
use Rattle.sasi_lookup.specs.KeySearches.{HasNo}
use Rattle.sasi_lookup.specs.Reads.{key_pages}
use Rattle.sasi_lookup.proofs.ContentLaws.{has_none, key_itself, key_stands}
use Rattle.sasi_lookup.proofs.FileLaws.{all_has, data_shown, if_ok, open_on, own_cost}

-- ---- a key that is among those of the token

-- it stands at its offset
record IsHere (p : Partitioner) (content : Content) (place : ℕ) (key : Bytes) : Type 0 where
  pub part : Partition
  pub stands : StandsAt content place key part
  pub partition_is : partition_of content key ≡ Some part
  pub pages_are : key_pages key (length header) content ≡ partition_pages place (length (body key part))

here : (p : Partitioner) (token : ℕ) (content : Content) (keys : List PlacedKey) (place : ℕ) (key : Bytes) → IsContent p content → keys ≡ keys_at p token (length header) content → Contains keys (record { place = place; key = key })
    → IsHere p content place key
here p token content keys place key is are there =
    let placed : IsPlaced content (record { place = place; key = key }) = all_has (IsPlaced content) (keys_at p token (length header) content) (record { place = place; key = key }) (keys_placed p token content) (subst (λ (l : List PlacedKey). Contains l (record { place = place; key = key })) are there) in
    let of_key = key_stands p content place key placed.0 is placed.1 in
    record { part = placed.0; stands = placed.1; partition_is = of_key.partition_is; pages_are = of_key.pages_are }

-- ---- and one that isn't

pub lacks : (v : View) (o : OpenDataFile) (keys : List PlacedKey) (key : Bytes) → ((p : Partitioner) (token : ℕ) (content : Content) → IsContent p content → keys ≡ keys_at p token (length header) content → HasNo key keys)
    → (p : Partitioner) (token : ℕ) (content : Content) → IsOpenOn v o p content → keys ≡ keys_at p token (length header) content → token_of p key ≡ token → ◌≡◌ {A = Option Partition} None (partition_of content key)
lacks v o keys key none p token content on are is = sym (has_none p token (length header) key content is (subst (HasNo key) are (none p token content on.data_file.content_is are)))

-- ---- the partition is read

module _ (v w : View) (o : OpenDataFile) (keys : List PlacedKey) (place : ℕ) (key : Bytes) (there : Contains keys (record { place = place; key = key })) where
  pub finds : (other : Bytes) (part : Partition) → ReadsPartition v o place other part → (p : Partitioner) (token : ℕ) (content : Content) → IsOpenOn v o p content → keys ≡ keys_at p token (length header) content → Some part ≡ partition_of content key
  finds other part reads p token content on are =
      let is = here p token content keys place key on.data_file.content_is are there in
      let read = reads p content key is.part on is.stands in
      ap (λ (q : Partition). Some q) read.1 ∙ sym is.partition_is

  -- no other key is there
  pub is_other : (other : Bytes) (part : Partition) → ReadsPartition v o place other part → key_eq key other ≡ false → (p : Partitioner) (token : ℕ) (content : Content) → IsOpenOn v o p content → keys ≡ keys_at p token (length header) content → ⊥
  is_other other part reads differs p token content on are =
      let is = here p token content keys place key on.data_file.content_is are there in
      let read = reads p content key is.part on is.stands in
      let no : true ≡ false = sym (key_itself key) ∙ sym (ap (λ (k : Bytes). key_eq key k) read.0) ∙ differs in
      cc

  pub found_cost : ((p : Partitioner) (content : Content) (k : Bytes) (part : Partition) → IsOpenOn v o p content → StandsAt content place k part → w.reads ≤ v.reads + partition_pages place (length (body k part)))
      → (p : Partitioner) (token : ℕ) (content : Content) → IsOpenOn v o p content → keys ≡ keys_at p token (length header) content → w.reads ≤ v.reads + key_pages key (length header) content
  found_cost costs p token content on are =
      let is = here p token content keys place key on.data_file.content_is are there in
      omega (arith, costs p content key is.part on is.stands, is.pages_are)

  pub found_shown : (f : ReadFault) → DamageShown v o.file (ShowsPartition o.types o.end place o.file) f → AllByRecursion (IsAtPair v.files o) keys → DamageShown v o.file (ShowsData o) f
  found_shown fault.Failed shown all = tt
  found_shown fault.OutOfMemory shown all = tt
  found_shown (fault.Damaged damage) shown all = λ bytes reads. (
      let one : IsAtPair v.files o (record { place = place; key = key }) = all_has (IsAtPair v.files o) keys (record { place = place; key = key }) all there in
      at_pair one.index one.pair (one.entry bytes reads)
      (subst (λ (n : ℕ). ShowsPair o one.index n bytes damage) (sym one.at) (in_partition one.begins (shown bytes reads))))

  pub no_false_found : (f : ReadFault) → NoFalsePartitionDamage v o place f → OnDamage (λ _. (p : Partitioner) (token : ℕ) (content : Content) → IsOpenOn v o p content → keys ≡ keys_at p token (length header) content → ⊥) f
  no_false_found fault.Failed none = tt
  no_false_found fault.OutOfMemory none = tt
  no_false_found (fault.Damaged damage) none = λ p token content on are. (
      let is = here p token content keys place key on.data_file.content_is are there in
      none p content key is.part on is.stands)

-- ---- a file that is looked up

-- a file that isn't open has no token in hand
pub not_open : (file : LookedFile) → file.opened ≡ None → IsSome file.opened → ⊥
not_open file none some = (let no : false ≡ true = subst (λ (x : Option OpenDataFile). IsSome x) none some in cc)

module _ (v : View) (file : LookedFile) (o : OpenDataFile) (keys : List PlacedKey) (opened : file.opened ≡ Some o) (same : keys ≡ file.keys) where
  ready_open : (types : List ColumnType) → IsFileReady types file v.files → IsOpenWith v.files types file.name file.keys o
  ready_open types ready = subst (λ (x : Option OpenDataFile). IfSome x (IsOpenWith v.files types file.name file.keys)) opened ready

  turned_on : (types : List ColumnType) (has : Partitioner × (ℕ × Content)) → IsFileReady types file v.files → IsTurnedFile v.files types file has → IsOpenOn v o has.0 has.1.1
  turned_on types has ready turned =
      let is = ready_open types ready in
      open_on v v file.name types o has.0 file.opened has.1.1 (stays v) is.is_open.named is.is_open.typed turned.0 (subst (λ (x : Option OpenDataFile). IfSome x (λ q. IsOpenedAs q has.0 has.1.1)) opened turned.0.opened_as)

  pub file_found : (key : Bytes) (r : Result (Option Partition) ReadFault)
      → IfOk r (λ found. (p : Partitioner) (token : ℕ) (content : Content) → IsOpenOn v o p content → keys ≡ keys_at p token (length header) content → token_of p key ≡ token → found ≡ partition_of content key)
      → IfOk r (λ found. (p : Partitioner) (token : ℕ) (types : List ColumnType) (content : Content) → IsFileReady types file v.files → IsTurnedFile v.files types file (p, (token, content)) → token_of p key ≡ token
      → found ≡ map_.get (map_.from_entries {R = decorated_cmp} (entries_of p content)) (decorated p key))
  file_found key r clause =
      if_ok (λ found. (p : Partitioner) (token : ℕ) (content : Content) → IsOpenOn v o p content → keys ≡ keys_at p token (length header) content → token_of p key ≡ token → found ≡ partition_of content key)
      (λ found. (p : Partitioner) (token : ℕ) (types : List ColumnType) (content : Content) → IsFileReady types file v.files → IsTurnedFile v.files types file (p, (token, content)) → token_of p key ≡ token
      → found ≡ map_.get (map_.from_entries {R = decorated_cmp} (entries_of p content)) (decorated p key)) r
      (λ found gives p token types content ready turned is. gives p token content (turned_on types (p, (token, content)) ready turned) (same ∙ turned.1.keys_are) is ∙ looked_up p (decorated p key) content refl) clause

  pub file_stored : (key : Bytes) (r : Result (Option Partition) ReadFault) → IfOk r (λ found. IfSome found (IsBodyOf o.types key)) → (types : List ColumnType) → IsFileReady types file v.files → IfOk r (λ found. IfSome found (IsBodyOf types key))
  file_stored key r clause types ready = subst (λ (ts : List ColumnType). IfOk r (λ found. IfSome found (IsBodyOf ts key))) (ready_open types ready).is_open.typed clause

  pub file_cost : (w : View) (key : Bytes) → ((p : Partitioner) (token : ℕ) (content : Content) → IsOpenOn v o p content → keys ≡ keys_at p token (length header) content → w.reads ≤ v.reads + key_pages key (length header) content)
      → (p : Partitioner) (token : ℕ) (types : List ColumnType) (content : Content) → IsFileReady types file v.files → IsTurnedFile v.files types file (p, (token, content)) → w.reads ≤ v.reads + key_pages key (length header) content
  file_cost w key costs p token types content ready turned = costs p token content (turned_on types (p, (token, content)) ready turned) (same ∙ turned.1.keys_are)

  pub file_faults : {T : Type 0} (w : View) (n : ℕ) (r : Result T ReadFault) → Changes Same v w → ReadCost n v w r → (AllByRecursion (IsAtPair v.files o) keys → IfErr r (DamageShown v o.file (ShowsData o)))
      → IfErr r (OnDamage (λ _. (p : Partitioner) (token : ℕ) (content : Content) → IsOpenOn v o p content → keys ≡ keys_at p token (length header) content → ⊥))
      → (types : List ColumnType) → IsFileReady types file v.files → StreamFaults (FileShows types file.name v.files) (FileShows types file.name w.files) (IsTurnedFile v.files types file) v w r
  file_faults w n r change causes damaged undamaged types ready =
      let is = ready_open types ready in
      record {
        causes = own_cost v w n r causes;
        damaged = on_err (λ damage. (bytes : Bytes) → contents v o.file ≡ Some bytes → ShowsData o bytes damage) (FileShows types file.name v.files) r (λ damage shows. data_shown v file.name types o damage is.is_open shows)
            (damaged (subst (AllByRecursion (IsAtPair v.files o)) (sym same) is.at_pairs));
        undamaged = on_err (λ _. (p : Partitioner) (token : ℕ) (content : Content) → IsOpenOn v o p content → keys ≡ keys_at p token (length header) content → ⊥) (λ _. (has : Partitioner × (ℕ × Content)) → IsTurnedFile v.files types file has → ⊥) r
            (λ damage no has turned. no has.0 has.1.0 has.1.1 (turned_on types has ready turned) (same ∙ turned.1.keys_are)) undamaged;
        shows = λ damage shown bytes reads. shown bytes (contents_same v w file.name change ∙ reads);
      }
