use Rattle.std.proofs.Common.{◌+◌, ◌≤◌, ℕ, List, IfErr, IfOk, IfSome, IsSome, MatchResult, OnOk, subst, sym}
use Rattle.sasi_types.specs.declared.column.ColumnType.{ColumnType}
use Rattle.sasi_types.specs.declared.partitioner.Partitioner.{Partitioner}
use Rattle.sasi_host.specs.Damages.{OnDamage}
use Rattle.sasi_manifest.specs.declared.files.ListedFile.{ListedFile}
use Rattle.sasi_merge.specs.Streams.{Entries}
use Rattle.sasi_scan.specs.KeyOrder.{GivesAbove, HasHead, IsUnder}
use Rattle.sasi_scan.specs.Parts.{IsMergeOfParts, ShowsListed}
use Rattle.sasi_scan.specs.Scanning.{CanScan, GivesFirst, HasReadsLeft, IsScanOf, IsScanning, MayRead, ScanView, scan_of}
use Rattle.sasi_scan.proofs.table_scan.TableScan.next.Goals as goal

pub next_of-requires : goal.next_of-requires
next_of-requires g c = subst (CanScan (g.H.Host.view c.args.host.now).files c.args.maps.now) (sym c.self.view_is) c.requires

pub returns-clause-next : goal.returns-clause-next
returns-clause-next g c =
    let seen = (g.H.Host.view c.args.host.now).files in
    subst (λ (scan : ScanView). IfOk c.next_of.result (λ found. (partitioner : Partitioner) (left : Entries) → IsScanning seen partitioner c.args.maps.now scan left → GivesFirst seen partitioner c.args.maps.now left (scan_of c.next_of.new.heads c.next_of.new.sources.items) found)) c.self.view_is c.next_of.ensures.next

pub returns-clause-of_parts : goal.returns-clause-of_parts
returns-clause-of_parts g c =
    let seen = (g.H.Host.view c.args.host.now).files in
    subst (λ (scan : ScanView). (files : List ListedFile) (types : List ColumnType) → IsScanOf seen files types c.args.maps.now scan → IfOk c.next_of.result (λ found. IfSome found (λ one. IsMergeOfParts types c.args.maps.now one.0 one.1))) c.self.view_is c.next_of.ensures.of_parts

pub returns-clause-is_of : goal.returns-clause-is_of
returns-clause-is_of g c =
    let seen = (g.H.Host.view c.args.host.now).files in
    subst (λ (scan : ScanView). (files : List ListedFile) (types : List ColumnType) → IsScanOf seen files types c.args.maps.now scan → OnOk c.next_of.result (IsScanOf seen files types c.args.maps.now (scan_of c.next_of.new.heads c.next_of.new.sources.items))) c.self.view_is c.next_of.ensures.is_of

pub returns-clause-reads : goal.returns-clause-reads
returns-clause-reads g c =
    let view = g.H.Host.view in
    let seen = (view c.args.host.now).files in
    subst (λ (scan : ScanView). (partitioner : Partitioner) (most : ℕ) → MayRead seen partitioner scan most
    → MatchResult c.next_of.result (λ _. HasReadsLeft seen partitioner (scan_of c.next_of.new.heads c.next_of.new.sources.items) ((view c.args.host.now).reads + most) (view c.next_of.new.host).reads) (λ _. (view c.next_of.new.host).reads ≤ (view c.args.host.now).reads + most))
    c.self.view_is c.next_of.ensures.reads

pub returns-clause-damaged : goal.returns-clause-damaged
returns-clause-damaged g c =
    let seen = (g.H.Host.view c.args.host.now).files in
    subst (λ (scan : ScanView). (files : List ListedFile) (types : List ColumnType) → IsScanOf seen files types c.args.maps.now scan → IfErr c.next_of.result (OnDamage (ShowsListed seen files types))) c.self.view_is c.next_of.ensures.damaged

pub returns-clause-undamaged : goal.returns-clause-undamaged
returns-clause-undamaged g c =
    let seen = (g.H.Host.view c.args.host.now).files in
    subst (λ (scan : ScanView). (partitioner : Partitioner) (left : Entries) → IsScanning seen partitioner c.args.maps.now scan left → IfErr c.next_of.result (OnDamage (λ _. ⊥))) c.self.view_is c.next_of.ensures.undamaged

pub returns-clause-rises : goal.returns-clause-rises
returns-clause-rises g c =
    subst (λ (scan : ScanView). IfOk c.next_of.result (λ found. IfSome found (GivesAbove scan (scan_of c.next_of.new.heads c.next_of.new.sources.items)))) c.self.view_is c.next_of.ensures.rises

pub returns-clause-under : goal.returns-clause-under
returns-clause-under g c =
    subst (λ (scan : ScanView). (partitioner : Partitioner) → IsUnder partitioner scan → OnOk c.next_of.result (IsUnder partitioner (scan_of c.next_of.new.heads c.next_of.new.sources.items))) c.self.view_is c.next_of.ensures.under

pub returns-clause-some : goal.returns-clause-some
returns-clause-some g c = subst (λ (scan : ScanView). HasHead scan → IfOk c.next_of.result (λ found. IsSome found)) c.self.view_is c.next_of.ensures.some
