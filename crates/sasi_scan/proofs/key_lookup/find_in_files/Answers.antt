use Rattle.std.proofs.Common.{Err, IfSome, Option, refl, subst, sym, ◌∙◌, arith}
use Rattle.std.proofs.lemmas.Result.{err_from_is_err_and}
use Rattle.sasi_host.proofs.ChangeLaws.{stays, then_same}
use Rattle.sasi_host.specs.Disk.{Same}
use Rattle.sasi_model.specs.Cells.{Partition}
use Rattle.sasi_scan.specs.Parts.{IsMergeOfParts}
use Rattle.sasi_scan.proofs.Costs.{causes_behind, causes_memory, causes_of_fault, causes_ok}
use Rattle.sasi_scan.proofs.KeyLookups.{body_of_part, file_fails, file_next, looking_begins, looking_ends, looking_reads}
use Rattle.sasi_scan.proofs.Moves.{joined_of}
use Rattle.sasi_scan.proofs.Openings.{next_shown, no_false_find, still_there}
use Rattle.sasi_scan.proofs.key_lookup.find_in_files.Goals as goal

pub loop-file-init : goal.loop-file-init
loop-file-init g c = record {
  looking = λ p contents have is_key. looking_begins (g.H.Host.view c.args.host.now).files p c.args.types.now c.args.key.now contents (g.H.Host.view c.args.host.now).reads c.args.files.now have;
  of_parts = λ maps. tt;
  changes = stays _;
  disk = refl;
  out = refl;
}

pub find_in_file-requires : goal.find_in_file-requires
find_in_file-requires g c =
    let view = g.H.Host.view in
    still_there (view c.args.host.now) (view c.loop-file.host) c.args.files.now c.loop-file.file-index c.file-item.result c.loop-file.invariant.changes c.loop-file-test.true c.file-item.is c.requires

pub returns-in_err-part-clause-damaged : goal.returns-in_err-part-clause-damaged
returns-in_err-part-clause-damaged g c =
    let view = g.H.Host.view in
    let p = err_from_is_err_and c.from_residual.result c.from_residual.ensures.1 in
    rw (p.1, p.2) (next_shown (view c.args.host.now) (view c.loop-file.host) c.args.types.now c.args.files.now c.loop-file.file-index c.file-item.result c.in_err-part.field-0.0 c.loop-file.invariant.changes c.loop-file-test.true c.file-item.is c.in_err-part.ensures.damaged)

pub returns-in_err-part-clause-undamaged : goal.returns-in_err-part-clause-undamaged
returns-in_err-part-clause-undamaged g c =
    let view = g.H.Host.view in
    let p = err_from_is_err_and c.from_residual.result c.from_residual.ensures.1 in
    rw (p.1, p.2) (no_false_find (view c.args.host.now) (view c.loop-file.host) c.args.types.now c.args.files.now c.loop-file.file-index c.file-item.result c.in_err-part.field-0.0 c.loop-file.invariant.changes c.loop-file-test.true c.file-item.is c.in_err-part.ensures.undamaged)

pub returns-in_err-part-clause-changes : goal.returns-in_err-part-clause-changes
returns-in_err-part-clause-changes g c = then_same _ _ _ Same c.loop-file.invariant.changes c.find_in_file.ensures.changes

pub returns-in_err-part-clause-causes : goal.returns-in_err-part-clause-causes
returns-in_err-part-clause-causes g c =
    let view = g.H.Host.view in
    let p = err_from_is_err_and c.from_residual.result c.from_residual.ensures.1 in
    rw (p.1, p.2) (causes_of_fault _ _ c.in_err-part.field-0.0 (causes_behind _ (view c.loop-file.host) _ (Err c.in_err-part.field-0.0) c.loop-file.invariant.disk c.loop-file.invariant.out c.in_err-part.ensures.causes))

pub returns-in_err-part-clause-reads : goal.returns-in_err-part-clause-reads
returns-in_err-part-clause-reads g c p contents have is_key =
    let view = g.H.Host.view in
    file_fails (view c.args.host.now) (view c.loop-file.host) (view c.find_in_file.new.host) p c.args.types.now c.args.key.now contents c.args.files.now c.loop-file.file-index c.file-item.result c.loop-file.found
    c.loop-file.invariant.changes c.loop-file-test.true c.file-item.is is_key (c.loop-file.invariant.looking p contents have is_key) c.find_in_file.ensures.reads

pub returns-in_err-join-clause-changes : goal.returns-in_err-join-clause-changes
returns-in_err-join-clause-changes g c = then_same _ _ _ Same c.loop-file.invariant.changes c.find_in_file.ensures.changes

pub returns-in_err-join-clause-causes : goal.returns-in_err-join-clause-causes
returns-in_err-join-clause-causes g c =
    let p = err_from_is_err_and c.from_residual-in_err-join.result c.from_residual-in_err-join.ensures.1 in
    rw (p.1, p.2) (causes_memory _ _ (c.in_ok-part.ensures.causes.ok ∙ c.loop-file.invariant.disk) (c.find_in_file.ensures.causes.out ∙ c.loop-file.invariant.out))

pub returns-in_err-join-clause-reads : goal.returns-in_err-join-clause-reads
returns-in_err-join-clause-reads g c p contents have is_key =
    let view = g.H.Host.view in
    file_fails (view c.args.host.now) (view c.loop-file.host) (view c.find_in_file.new.host) p c.args.types.now c.args.key.now contents c.args.files.now c.loop-file.file-index c.file-item.result c.loop-file.found
    c.loop-file.invariant.changes c.loop-file-test.true c.file-item.is is_key (c.loop-file.invariant.looking p contents have is_key) c.find_in_file.ensures.reads

pub loop-file-preserved : goal.loop-file-preserved
loop-file-preserved g c =
    let view = g.H.Host.view in
    record {
      looking = λ p contents have is_key.
          file_next (view c.args.host.now) (view c.loop-file.host) (view c.find_in_file.new.host) p c.args.types.now c.args.key.now contents c.args.files.now c.loop-file.file-index c.file-item.result c.loop-file.found
          c.loop-file.invariant.changes c.loop-file-test.true c.file-item.is is_key (c.loop-file.invariant.looking p contents have is_key) c.in_ok-part.part c.join.new.found c.in_ok-part.ensures.found c.find_in_file.ensures.reads c.in_ok-join.ensures;
      of_parts = λ maps.
          subst (λ (o : Option Partition). IfSome o (IsMergeOfParts c.args.types.now maps c.args.key.now.key)) (sym c.in_ok-join.ensures)
          (joined_of c.args.types.now maps c.args.key.now.key c.loop-file.found c.in_ok-part.part (c.loop-file.invariant.of_parts maps) (body_of_part c.args.types.now maps c.args.key.now.key c.in_ok-part.part c.in_ok-part.ensures.stored));
      changes = then_same _ _ _ Same c.loop-file.invariant.changes c.find_in_file.ensures.changes;
      disk = c.in_ok-part.ensures.causes.ok ∙ c.loop-file.invariant.disk;
      out = c.find_in_file.ensures.causes.out ∙ c.loop-file.invariant.out;
    }

pub returns-clause-found : goal.returns-clause-found
returns-clause-found g c p contents have is_key =
    let v = g.H.Host.view c.args.host.now in
    looking_ends v.files p c.args.types.now c.args.key.now contents v.reads c.args.files.now c.loop-file.file-index (omega (arith, c.loop-file-test.false)) c.loop-file.found (g.H.Host.view c.loop-file.host).reads (c.loop-file.invariant.looking p contents have is_key)

pub returns-clause-of_parts : goal.returns-clause-of_parts
returns-clause-of_parts g c = c.loop-file.invariant.of_parts

pub returns-clause-reads : goal.returns-clause-reads
returns-clause-reads g c p contents have is_key =
    let v = g.H.Host.view c.args.host.now in
    looking_reads v.files p c.args.types.now c.args.key.now contents v.reads c.args.files.now c.loop-file.file-index (omega (arith, c.loop-file-test.false)) c.loop-file.found (g.H.Host.view c.loop-file.host).reads (c.loop-file.invariant.looking p contents have is_key)

pub returns-clause-changes : goal.returns-clause-changes
returns-clause-changes g c = c.loop-file.invariant.changes

pub returns-clause-causes : goal.returns-clause-causes
returns-clause-causes g c = causes_ok _ _ _ c.loop-file.invariant.disk c.loop-file.invariant.out
