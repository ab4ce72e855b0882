use Rattle.std.proofs.Common.{Option, [], subst, sym, arith}
use Rattle.std.proofs.lemmas.Result.{err_from_is_err_and}
use Rattle.sasi_host.specs.Names.{Folder}
use Rattle.sasi_scan.specs.Parts.{ShowsListed}
use Rattle.sasi_merge.specs.Streams.{Entries}
use Rattle.sasi_scan.specs.Scanning.{IsScanOf, IsScanning}
use Rattle.sasi_scan.proofs.Costs.{reads_same}
use Rattle.sasi_compact.specs.Tasks.{OnPairDamage, sources_of}
use Rattle.sasi_compact.proofs.Beginning.{all_built, begins_can, begins_within, begins_written, opens_within, same_on, same_touches, then_touches}
use Rattle.sasi_compact.proofs.Faults.{damage_as}
use Rattle.sasi_compact.proofs.output.begin.Goals as goal

pub returns-in_err-scan-clause-reads : goal.returns-in_err-scan-clause-reads
returns-in_err-scan-clause-reads g c most may =
    let q = err_from_is_err_and c.from_residual.result c.from_residual.ensures.1 in
    rw q.1 (omega (arith, c.in_err-scan.ensures.reads may.0 may.1, may.2))

pub returns-in_err-scan-clause-undamaged : goal.returns-in_err-scan-clause-undamaged
returns-in_err-scan-clause-undamaged g c passed left is =
    let q = err_from_is_err_and c.from_residual.result c.from_residual.ensures.1 in
    rw (q.1, q.2) (damage_as _ _ c.in_err-scan.field-0.0 (λ damage none. none is.contents is.are) c.in_err-scan.ensures.undamaged)

pub returns-in_err-scan-clause-changes : goal.returns-in_err-scan-clause-changes
returns-in_err-scan-clause-changes g c = same_touches _ _ _ c.open_scan.ensures.changes

pub returns-in_err-next-clause-reads : goal.returns-in_err-next-clause-reads
returns-in_err-next-clause-reads g c most may =
    let view = g.H.Host.view in
    let so_far = opens_within (view c.args.host.now) (view c.open_scan.new.host) (view c.next_merged.new.host) c.args.compaction.now c.in_ok-scan.scan c.next_merged.new.scan c.open_scan.ensures.changes most may c.in_ok-scan.ensures.reads in
    let q = err_from_is_err_and c.from_residual-in_err-next.result c.from_residual-in_err-next.ensures.1 in
    rw q.1 (omega (arith, c.in_err-next.ensures.reads c.args.compaction.now.partitioner so_far.0 so_far.1, so_far.2))

pub returns-in_err-next-clause-damaged : goal.returns-in_err-next-clause-damaged
returns-in_err-next-clause-damaged g c =
    let view = g.H.Host.view in
    let same = reads_same (view c.args.host.now) (view c.open_scan.new.host) c.open_scan.ensures.changes in
    let q = err_from_is_err_and c.from_residual-in_err-next.result c.from_residual-in_err-next.ensures.1 in
    rw (q.1, q.2)
    (subst (λ (o : Option Folder). OnPairDamage (ShowsListed o (sources_of c.args.compaction.now) c.args.compaction.now.types) c.in_err-next.field-0.0) same
    (c.in_err-next.ensures.damaged (sources_of c.args.compaction.now) c.args.compaction.now.types (subst (λ (o : Option Folder). IsScanOf o (sources_of c.args.compaction.now) c.args.compaction.now.types [] c.in_ok-scan.scan) (sym same) c.in_ok-scan.ensures.is_of)))

pub returns-in_err-next-clause-undamaged : goal.returns-in_err-next-clause-undamaged
returns-in_err-next-clause-undamaged g c passed left is =
    let view = g.H.Host.view in
    let p = c.args.compaction.now.partitioner in
    let same = reads_same (view c.args.host.now) (view c.open_scan.new.host) c.open_scan.ensures.changes in
    let opened = subst (λ (es : Entries). IsScanning (view c.args.host.now).files p [] c.in_ok-scan.scan es) (sym is.all_left) (c.in_ok-scan.ensures.opened is.contents is.are) in
    let q = err_from_is_err_and c.from_residual-in_err-next.result c.from_residual-in_err-next.ensures.1 in
    rw (q.1, q.2) (c.in_err-next.ensures.undamaged p left (subst (λ (o : Option Folder). IsScanning o p [] c.in_ok-scan.scan left) (sym same) opened))

pub returns-in_err-next-clause-changes : goal.returns-in_err-next-clause-changes
returns-in_err-next-clause-changes g c = same_touches _ _ _ (same_on _ _ _ c.open_scan.ensures.changes c.next_merged.ensures.changes)

pub begin-requires-clause-built : goal.begin-requires-clause-built
begin-requires-clause-built g c = all_built c.args.compaction.now.types c.args.compaction.now.indexes c.requires.compaction.indexes_on

pub returns-in_err-pairs-clause-reads : goal.returns-in_err-pairs-clause-reads
returns-in_err-pairs-clause-reads g c most may =
    let view = g.H.Host.view in
    let so_far = opens_within (view c.args.host.now) (view c.open_scan.new.host) (view c.next_merged.new.host) c.args.compaction.now c.in_ok-scan.scan c.next_merged.new.scan c.open_scan.ensures.changes most may c.in_ok-scan.ensures.reads in
    let has = c.in_ok-next.ensures.reads c.args.compaction.now.partitioner so_far.0 so_far.1 in
    let q = err_from_is_err_and c.from_residual-in_err-pairs.result c.from_residual-in_err-pairs.ensures.1 in
    rw q.1 (omega (arith, has.reads, so_far.2, c.in_err-pairs.ensures.causes.reads))

pub returns-in_err-pairs-clause-changes : goal.returns-in_err-pairs-clause-changes
returns-in_err-pairs-clause-changes g c = then_touches _ _ _ _ (same_on _ _ _ c.open_scan.ensures.changes c.next_merged.ensures.changes) c.begin.ensures.changes

pub returns-clause-begun : goal.returns-clause-begun
returns-clause-begun g c =
    let view = g.H.Host.view in
    let compaction = c.args.compaction.now in
    let same = reads_same (view c.args.host.now) (view c.open_scan.new.host) c.open_scan.ensures.changes in
    let of = c.in_ok-next.ensures.is_of (sources_of compaction) compaction.types (subst (λ (o : Option Folder). IsScanOf o (sources_of compaction) compaction.types [] c.in_ok-scan.scan) (sym same) c.in_ok-scan.ensures.is_of) in
    begins_written (view c.args.host.now) (view c.open_scan.new.host) (view c.next_merged.new.host) (view c.begin.new.host) compaction c.requires.compaction c.in_ok-scan.scan c.next_merged.new.scan c.in_ok-pairs.pairs c.in_ok-next.next
    c.open_scan.ensures.changes c.next_merged.ensures.changes c.begin.ensures.changes of c.in_ok-pairs.ensures.ok c.in_ok-scan.ensures.opened (λ left on. c.in_ok-next.ensures.next compaction.partitioner left on)

pub returns-clause-can : goal.returns-clause-can
returns-clause-can g c =
    let view = g.H.Host.view in
    let compaction = c.args.compaction.now in
    let same = reads_same (view c.args.host.now) (view c.open_scan.new.host) c.open_scan.ensures.changes in
    let scan_of = subst (λ (o : Option Folder). IsScanOf o (sources_of compaction) compaction.types [] c.in_ok-scan.scan) (sym same) c.in_ok-scan.ensures.is_of in
    let of = c.in_ok-next.ensures.is_of (sources_of compaction) compaction.types scan_of in
    begins_can (view c.args.host.now) (view c.open_scan.new.host) (view c.next_merged.new.host) (view c.begin.new.host) compaction c.requires.compaction c.in_ok-scan.scan c.next_merged.new.scan c.in_ok-pairs.pairs c.in_ok-next.next
    c.open_scan.ensures.changes c.next_merged.ensures.changes c.begin.ensures.changes of c.in_ok-pairs.ensures.ok c.in_ok-pairs.ensures.file c.in_ok-pairs.ensures.partitioner c.in_ok-pairs.ensures.defs c.in_ok-pairs.ensures.usable c.in_ok-pairs.ensures.room c.in_ok-next.ensures.can
    (c.in_ok-next.ensures.body (sources_of compaction) compaction.types c.requires.compaction.narrow scan_of) (c.in_ok-next.ensures.in_order compaction.partitioner c.in_ok-scan.ensures.under) (c.in_ok-next.ensures.some c.in_ok-scan.ensures.some)

pub returns-clause-reads : goal.returns-clause-reads
returns-clause-reads g c most may =
    let view = g.H.Host.view in
    let compaction = c.args.compaction.now in
    let same = reads_same (view c.args.host.now) (view c.open_scan.new.host) c.open_scan.ensures.changes in
    let of = c.in_ok-next.ensures.is_of (sources_of compaction) compaction.types (subst (λ (o : Option Folder). IsScanOf o (sources_of compaction) compaction.types [] c.in_ok-scan.scan) (sym same) c.in_ok-scan.ensures.is_of) in
    let so_far = opens_within (view c.args.host.now) (view c.open_scan.new.host) (view c.next_merged.new.host) compaction c.in_ok-scan.scan c.next_merged.new.scan c.open_scan.ensures.changes most may c.in_ok-scan.ensures.reads in
    begins_within (view c.args.host.now) (view c.open_scan.new.host) (view c.next_merged.new.host) compaction c.in_ok-scan.scan c.next_merged.new.scan c.open_scan.ensures.changes c.requires.compaction (view c.begin.new.host) c.in_ok-pairs.pairs c.in_ok-next.next most so_far.0
    c.next_merged.ensures.changes of (c.in_ok-next.ensures.reads compaction.partitioner so_far.0 so_far.1) so_far.2 c.begin.ensures.changes c.in_ok-pairs.ensures.causes.reads

pub returns-clause-changes : goal.returns-clause-changes
returns-clause-changes g c = then_touches _ _ _ _ (same_on _ _ _ c.open_scan.ensures.changes c.next_merged.ensures.changes) c.begin.ensures.changes
