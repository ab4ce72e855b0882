-- What a scan gives, from its first key on.
use Rattle.std.proofs.Common.{ℕ, ◌+◌, ◌≤◌, List, [], drop, Option, None, Some, Result, Ok, Err, IfErr, IfOk, IfSome, MatchResult, OnOk, refl, sym, subst, arith}
use Rattle.std.specs.FinMap as map_
use Rattle.sasi_types.specs.declared.column.ColumnType.{ColumnType}
use Rattle.sasi_types.specs.declared.partitioner.Partitioner.{Partitioner}
use Rattle.sasi_host.specs.Damages.{OnDamage}
use Rattle.sasi_host.specs.Disk.{Changes, Same}
use Rattle.sasi_host.specs.Names.{Folder}
use Rattle.sasi_host.specs.View.{View}
use Rattle.sasi_host.specs.declared.fault.ReadFault.{ReadFault}
use Rattle.sasi_host.specs.declared.fault.ReadFault.TheVariants as fault
use Rattle.sasi_model.specs.Cells.{Partition}
use Rattle.sasi_datawrite.specs.Format.{Content}
use Rattle.sasi_manifest.specs.declared.files.ListedFile.{ListedFile}
use Rattle.sasi_memtable.specs.MemtableView.{MemtableView}
use Rattle.sasi_merge.specs.Merging.{with_token}
use Rattle.sasi_merge.specs.Streams.{Entries}
use Rattle.sasi_ranges.specs.StreamCalls.{Spends}
use Rattle.sasi_scan.specs.Parts.{AreContents, IsMergeOfParts, ShowsListed, merged_parts}
use Rattle.sasi_scan.specs.Paging.{table_reads}
use Rattle.sasi_scan.specs.Scanning.{CanScan, HasReadsLeft, IsScanOf, IsScanning, MayRead, ScanView}
use Rattle.sasi_scan.specs.Scanning as scan
use Rattle.sasi_scan.proofs.Costs.{reads_same}
use Rattle.sasi_recheck.specs.Sources.{Candidate, GivesFirst, GivesPrintable, first_price}
use Rattle.sasi_sources.specs.KeyCandidates.{HasKeyType}
use Rattle.sasi_sources.specs.ScanCandidates.{ScanLeaves, ScanPays, ScanReady, SpendsTo}
use Rattle.sasi_sources.proofs.Printables.{found_printable}

module _ (types : List ColumnType) (files : List ListedFile) (maps : List MemtableView) where
  -- ---- a scan that was begun

  first_given : (seen : Option Folder) (p : Partitioner) (left : Entries) (s : ScanView) (found : Option (List ℕ × Partition)) → IsScanOf seen files types maps s → scan.GivesFirst seen p maps left s found
      → GivesFirst (ScanLeaves types files (Some s) seen maps) left found
  first_given seen p left s None of gives = (gives.0, (p, of, gives.1))
  first_given seen p left s (Some one) of gives = ((with_token gives.token one.0, one.1), gives.rest, gives.is, refl, refl, (p, of, gives.others))

  module _ (v w : View) (same : Changes Same v w) (old new : ScanView) where
    given : (r : Result (Option (List ℕ × Partition)) ReadFault)
        → IfOk r (λ found. (p : Partitioner) (left : Entries) → IsScanning v.files p maps old left → scan.GivesFirst v.files p maps left new found)
        → ((fs : List ListedFile) (ts : List ColumnType) → IsScanOf v.files fs ts maps old → OnOk r (IsScanOf v.files fs ts maps new))
        → (left : List Candidate) → ScanLeaves types files (Some old) v.files maps left → IfOk r (GivesFirst (ScanLeaves types files (Some new) v.files maps) left)
    given (Ok found) gives still left leaves = first_given v.files leaves.0 left new found (still files types leaves.1) (gives leaves.0 left leaves.2)
    given (Err f) gives still left leaves = tt

    pub open_given : (r : Result (Option (List ℕ × Partition)) ReadFault)
        → IfOk r (λ found. (p : Partitioner) (left : Entries) → IsScanning v.files p maps old left → scan.GivesFirst v.files p maps left new found)
        → ((fs : List ListedFile) (ts : List ColumnType) → IsScanOf v.files fs ts maps old → OnOk r (IsScanOf v.files fs ts maps new))
        → (left : List Candidate) → ScanLeaves types files (Some old) v.files maps left → IfOk r (GivesFirst (ScanLeaves types files (Some new) w.files maps) left)
    open_given r gives still left leaves =
        subst (λ (seen : Option Folder). IfOk r (GivesFirst (ScanLeaves types files (Some new) seen maps) left)) (sym (reads_same v w same)) (given r gives still left leaves)

    pays : (r : Result (Option (List ℕ × Partition)) ReadFault)
        → ((fs : List ListedFile) (ts : List ColumnType) → IsScanOf v.files fs ts maps old → OnOk r (IsScanOf v.files fs ts maps new))
        → ((p : Partitioner) (most : ℕ) → MayRead v.files p old most → MatchResult r (λ _. HasReadsLeft v.files p new (v.reads + most) w.reads) (λ _. w.reads ≤ v.reads + most))
        → (most : ℕ) (prices : List ℕ) → ScanPays types files (Some old) v.files maps most prices
        → Spends (λ rest. ScanPays types files (Some new) v.files maps rest (drop 1 prices)) (most + first_price prices) v.reads w.reads r
    pays (Ok found) still reads most prices is =
        let has = reads is.0 most is.2 in
        (has.left, (is.0, still files types is.1, has.may), omega (arith, has.reads))
    pays (Err f) still reads most prices is = let all = reads is.0 most is.2 in omega (arith, all)

    pub open_pays : (r : Result (Option (List ℕ × Partition)) ReadFault)
        → ((fs : List ListedFile) (ts : List ColumnType) → IsScanOf v.files fs ts maps old → OnOk r (IsScanOf v.files fs ts maps new))
        → ((p : Partitioner) (most : ℕ) → MayRead v.files p old most → MatchResult r (λ _. HasReadsLeft v.files p new (v.reads + most) w.reads) (λ _. w.reads ≤ v.reads + most))
        → (most : ℕ) (prices : List ℕ) → ScanPays types files (Some old) v.files maps most prices
        → Spends (λ rest. ScanPays types files (Some new) w.files maps rest (drop 1 prices)) (most + first_price prices) v.reads w.reads r
    open_pays r still reads most prices is =
        subst (λ (seen : Option Folder). Spends (λ rest. ScanPays types files (Some new) seen maps rest (drop 1 prices)) (most + first_price prices) v.reads w.reads r) (sym (reads_same v w same))
        (pays r still reads most prices is)

    pub open_ready : (r : Result (Option (List ℕ × Partition)) ReadFault) → OnOk r (CanScan w.files maps new)
        → ((fs : List ListedFile) (ts : List ColumnType) → IsScanOf v.files fs ts maps old → OnOk r (IsScanOf v.files fs ts maps new))
        → ScanReady types files (Some old) v.files maps → OnOk r (ScanReady types files (Some new) w.files maps)
    open_ready (Ok found) can still ready = (can, subst (λ (seen : Option Folder). IsScanOf seen files types maps new) (sym (reads_same v w same)) (still files types ready.1))
    open_ready (Err f) can still ready = tt

  pub open_prints : (v : View) (old : ScanView) (r : Result (Option (List ℕ × Partition)) ReadFault)
      → ((fs : List ListedFile) (ts : List ColumnType) → IsScanOf v.files fs ts maps old → IfOk r (λ found. IfSome found (λ one. IsMergeOfParts ts maps one.0 one.1)))
      → IsScanOf v.files files types maps old → (kind : ColumnType) → HasKeyType types maps kind → IfOk r (GivesPrintable kind)
  open_prints v old (Ok None) parts of kind has = tt
  open_prints v old (Ok (Some one)) parts of kind has = found_printable types maps kind has.first has.stored one.0 (Some one.1) (parts files types of)
  open_prints v old (Err f) parts of kind has = tt

  pub open_undamaged : (v : View) (old : ScanView) (r : Result (Option (List ℕ × Partition)) ReadFault)
      → ((p : Partitioner) (left : Entries) → IsScanning v.files p maps old left → IfErr r (OnDamage (λ _. ⊥)))
      → IfErr r (OnDamage (λ _. (left : List Candidate) → ScanLeaves types files (Some old) v.files maps left → ⊥))
  open_undamaged v old (Ok found) never = tt
  open_undamaged v old (Err fault.Failed) never = tt
  open_undamaged v old (Err fault.OutOfMemory) never = tt
  open_undamaged v old (Err (fault.Damaged damage)) never = λ left leaves. never leaves.0 left leaves.2

  -- ---- a scan that begins

  module _ (v u : View) (same : Changes Same v u) (s : ScanView) (of : IsScanOf v.files files types maps s) where
    -- it is one of these files also as they read afterwards
    begun_of : IsScanOf u.files files types maps s
    begun_of = subst (λ (seen : Option Folder). IsScanOf seen files types maps s) (sym (reads_same v u same)) of

    pub begun_leaves : ((p : Partitioner) (contents : List Content) → AreContents v.files p types files contents → IsScanning v.files p maps s (map_.entries (merged_parts p contents maps)))
        → (left : List Candidate) → ScanLeaves types files None v.files maps left → ScanLeaves types files (Some s) u.files maps left
    begun_leaves opened left leaves = (
      leaves.0,
      begun_of,
      subst (λ (seen : Option Folder). IsScanning seen leaves.0 maps s left) (sym (reads_same v u same))
          (subst (IsScanning v.files leaves.0 maps s) (sym leaves.3) (opened leaves.0 leaves.1 leaves.2)),
    )

    pub begun_pays : ((p : Partitioner) (contents : List Content) → AreContents v.files p types files contents → HasReadsLeft v.files p s (v.reads + table_reads v.files files) u.reads)
        → (most : ℕ) (prices : List ℕ) → ScanPays types files None v.files maps most prices
        → SpendsTo (λ rest. ScanPays types files (Some s) u.files maps rest []) (most + first_price prices) v.reads u.reads
    begun_pays reads most prices is =
        let has = reads is.0 is.1 is.2 in (
          has.left,
          (is.0, begun_of, subst (λ (seen : Option Folder). MayRead seen is.0 s has.left) (sym (reads_same v u same)) has.may),
          omega (arith, has.reads, is.3),
        )

    -- and where the whole merge is left, the next call finds no damage
    pub begun_undamaged : ((p : Partitioner) (contents : List Content) → AreContents v.files p types files contents → IsScanning v.files p maps s (map_.entries (merged_parts p contents maps)))
        → (f : ReadFault) → ((p : Partitioner) (left : Entries) → IsScanning u.files p maps s left → OnDamage (λ _. ⊥) f)
        → OnDamage (λ _. (left : List Candidate) → ScanLeaves types files None v.files maps left → ⊥) f
    begun_undamaged opened fault.Failed never = tt
    begun_undamaged opened fault.OutOfMemory never = tt
    begun_undamaged opened (fault.Damaged damage) never = λ left leaves. (let begun = begun_leaves opened left leaves in never begun.0 left begun.2)

    pub begun_ready : CanScan u.files maps s → ScanReady types files (Some s) u.files maps
    begun_ready can = (can, begun_of)

  -- what follows the first call
  pub spent_then : (Pays : ℕ → Type 0) (most : ℕ) (before now after : ℕ) → (rest : ℕ) → now + rest ≤ before + most → SpendsTo Pays (rest + 0) now after → SpendsTo Pays most before after
  spent_then Pays most before now after rest within next = (next.0, next.1, omega (arith, within, next.2))

  -- what the files show before a call they show after it
  pub shown_before : (v u : View) (f : ReadFault) → Changes Same v u → OnDamage (ShowsListed u.files files types) f → OnDamage (ShowsListed v.files files types) f
  shown_before v u f same shown = subst (λ (seen : Option Folder). OnDamage (ShowsListed seen files types) f) (reads_same v u same) shown
