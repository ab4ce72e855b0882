use Rattle.std.proofs.Common.{Err, refl, ◌∙◌, arith}
use Rattle.std.proofs.lemmas.Result.{err_from_is_err_and}
use Rattle.sasi_host.proofs.ChangeLaws.{stays, then_same}
use Rattle.sasi_host.specs.Disk.{Same}
use Rattle.sasi_scan.proofs.Pages.{next_reads, next_stops, opening_begins, opening_ends}
use Rattle.sasi_scan.proofs.Costs.{causes_behind, causes_of_fault, causes_ok, of_reads}
use Rattle.sasi_scan.proofs.Openings.{added_next, next_shown, no_false_next, opened_all, still_there}
use Rattle.sasi_scan.proofs.sources.open_files.Goals as goal

pub loop-file-init : goal.loop-file-init
loop-file-init g c = record { opened = (c.requires.no_heads, c.requires.no_sources); reads = λ p contents have. opening_begins (g.H.Host.view c.args.host.now) p c.args.sources.now.items c.requires.no_sources; changes = stays _; disk = refl; out = refl }

pub open_source-requires : goal.open_source-requires
open_source-requires g c =
    let view = g.H.Host.view in
    still_there (view c.args.host.now) (view c.loop-file.host) c.args.files.now c.loop-file.file-index c.file-item.result c.loop-file.invariant.changes c.loop-file-test.true c.file-item.is c.requires.there

pub returns-in_err-open_source-clause-damaged : goal.returns-in_err-open_source-clause-damaged
returns-in_err-open_source-clause-damaged g c =
    let view = g.H.Host.view in
    let p = err_from_is_err_and c.from_residual.result c.from_residual.ensures.1 in
    rw (p.1, p.2) (next_shown (view c.args.host.now) (view c.loop-file.host) c.args.types.now c.args.files.now c.loop-file.file-index c.file-item.result c.in_err-open_source.field-0.0 c.loop-file.invariant.changes c.loop-file-test.true c.file-item.is c.in_err-open_source.ensures.damaged)

pub returns-in_err-open_source-clause-undamaged : goal.returns-in_err-open_source-clause-undamaged
returns-in_err-open_source-clause-undamaged g c =
    let view = g.H.Host.view in
    let p = err_from_is_err_and c.from_residual.result c.from_residual.ensures.1 in
    rw (p.1, p.2) (no_false_next (view c.args.host.now) (view c.loop-file.host) c.args.types.now c.args.tokens c.args.files.now c.loop-file.file-index c.file-item.result c.in_err-open_source.field-0.0 c.loop-file.invariant.changes c.loop-file-test.true c.file-item.is c.in_err-open_source.ensures.undamaged)

pub returns-in_err-open_source-clause-changes : goal.returns-in_err-open_source-clause-changes
returns-in_err-open_source-clause-changes g c = then_same _ _ _ Same c.loop-file.invariant.changes c.open_source.ensures.changes

pub returns-in_err-open_source-clause-causes : goal.returns-in_err-open_source-clause-causes
returns-in_err-open_source-clause-causes g c =
    let view = g.H.Host.view in
    let p = err_from_is_err_and c.from_residual.result c.from_residual.ensures.1 in
    rw (p.1, p.2) (causes_of_fault _ _ c.in_err-open_source.field-0.0 (causes_behind _ (view c.loop-file.host) _ (Err c.in_err-open_source.field-0.0) c.loop-file.invariant.disk c.loop-file.invariant.out (of_reads 2055 _ _ _ c.in_err-open_source.ensures.causes)))

pub loop-file-preserved : goal.loop-file-preserved
loop-file-preserved g c =
    let view = g.H.Host.view in
    record {
      opened = added_next (view c.args.host.now) (view c.loop-file.host) c.args.types.now c.args.tokens c.args.files.now c.loop-file.file-index c.file-item.result c.loop-file.heads c.loop-file.sources.items c.open_source.new.heads c.open_source.new.sources.items
          c.loop-file.invariant.changes c.loop-file-test.true c.file-item.is c.loop-file.invariant.opened c.in_ok-open_source.ensures.opened;
      reads = λ p contents have.
          next_reads (view c.args.host.now) (view c.loop-file.host) (view c.open_source.new.host) p c.args.types.now c.args.files.now contents c.loop-file.file-index c.file-item.result c.loop-file.sources.items c.open_source.new.sources.items
          c.loop-file.invariant.changes c.loop-file-test.true c.file-item.is have (c.loop-file.invariant.reads p contents have) c.in_ok-open_source.ensures.reads;
      changes = then_same _ _ _ Same c.loop-file.invariant.changes c.open_source.ensures.changes;
      disk = c.in_ok-open_source.ensures.causes.ok ∙ c.loop-file.invariant.disk;
      out = c.open_source.ensures.causes.out ∙ c.loop-file.invariant.out;
    }

pub returns-clause-opened : goal.returns-clause-opened
returns-clause-opened g c = opened_all (g.H.Host.view c.args.host.now).files c.args.types.now c.args.tokens c.args.files.now c.loop-file.file-index c.loop-file.heads c.loop-file.sources.items (omega (arith, c.loop-file-test.false)) c.loop-file.invariant.opened

pub returns-clause-changes : goal.returns-clause-changes
returns-clause-changes g c = c.loop-file.invariant.changes

pub returns-clause-causes : goal.returns-clause-causes
returns-clause-causes g c = causes_ok _ _ _ c.loop-file.invariant.disk c.loop-file.invariant.out

pub returns-clause-reads : goal.returns-clause-reads
returns-clause-reads g c p contents have =
    let view = g.H.Host.view in
    opening_ends (view c.args.host.now) (view c.loop-file.host) p c.args.files.now c.loop-file.file-index c.loop-file.sources.items (omega (arith, c.loop-file-test.false)) (c.loop-file.invariant.reads p contents have)

pub returns-in_err-open_source-clause-reads : goal.returns-in_err-open_source-clause-reads
returns-in_err-open_source-clause-reads g c p contents have =
    let view = g.H.Host.view in
    let q = err_from_is_err_and c.from_residual.result c.from_residual.ensures.1 in
    rw q.1 (next_stops (view c.args.host.now) (view c.loop-file.host) (view c.open_source.new.host) p c.args.types.now c.args.files.now contents c.loop-file.file-index c.file-item.result c.loop-file.sources.items
    c.loop-file.invariant.changes c.loop-file-test.true c.file-item.is have (c.loop-file.invariant.reads p contents have) c.in_err-open_source.ensures.reads)
