use Rattle.std.proofs.Common.{Option, IfSome, subst, sym}
use Rattle.std.proofs.lemmas.Result.{err_from_is_err_and}
use Rattle.sasi_model.specs.Cells.{Partition}
use Rattle.sasi_scan.specs.Parts.{IsMergeOfParts}
use Rattle.sasi_scan.proofs.Costs.{causes_memory, causes_of_fault, causes_ok}
use Rattle.sasi_scan.proofs.KeyLookups.{maps_of_parts, parts_found}
use Rattle.sasi_scan.proofs.Openings.{each_among}
use Rattle.sasi_scan.proofs.key_lookup.find_key.Goals as goal

pub returns-in_err-in_files-clause-damaged : goal.returns-in_err-in_files-clause-damaged
returns-in_err-in_files-clause-damaged g c =
    let p = err_from_is_err_and c.from_residual.result c.from_residual.ensures.1 in
    rw (p.1, p.2) c.in_err-in_files.ensures.damaged

pub returns-in_err-in_files-clause-undamaged : goal.returns-in_err-in_files-clause-undamaged
returns-in_err-in_files-clause-undamaged g c =
    let p = err_from_is_err_and c.from_residual.result c.from_residual.ensures.1 in
    rw (p.1, p.2) c.in_err-in_files.ensures.undamaged

pub returns-in_err-in_files-clause-causes : goal.returns-in_err-in_files-clause-causes
returns-in_err-in_files-clause-causes g c =
    let p = err_from_is_err_and c.from_residual.result c.from_residual.ensures.1 in
    rw (p.1, p.2) (causes_of_fault _ _ c.in_err-in_files.field-0.0 c.in_err-in_files.ensures.causes)

pub returns-in_err-in_files-clause-changes : goal.returns-in_err-in_files-clause-changes
returns-in_err-in_files-clause-changes g c = c.find_in_files.ensures.changes

pub returns-in_err-in_files-clause-reads : goal.returns-in_err-in_files-clause-reads
returns-in_err-in_files-clause-reads g c = c.find_in_files.ensures.reads

pub returns-in_err-found-clause-changes : goal.returns-in_err-found-clause-changes
returns-in_err-found-clause-changes g c = c.find_in_files.ensures.changes

pub returns-in_err-found-clause-reads : goal.returns-in_err-found-clause-reads
returns-in_err-found-clause-reads g c = c.find_in_files.ensures.reads

pub returns-in_err-found-clause-causes : goal.returns-in_err-found-clause-causes
returns-in_err-found-clause-causes g c =
    let p = err_from_is_err_and c.from_residual-in_err-found.result c.from_residual-in_err-found.ensures.1 in
    rw (p.1, p.2) (causes_memory _ _ c.in_ok-in_files.ensures.causes.ok c.in_ok-in_files.ensures.causes.out)

pub returns-clause-found : goal.returns-clause-found
returns-clause-found g c p contents have is_key = parts_found p contents c.args.maps.now c.args.key.now c.in_ok-in_files.in_files c.in_ok-found.found (c.in_ok-in_files.ensures.found p contents have is_key) c.in_ok-found.ensures

pub returns-clause-of_parts : goal.returns-clause-of_parts
returns-clause-of_parts g c =
    let types = c.args.types.now in
    let maps = c.args.maps.now in
    let key = c.args.key.now in
    subst (λ (o : Option Partition). IfSome o (IsMergeOfParts types maps key.key)) (sym c.in_ok-found.ensures)
    (maps_of_parts types maps key c.in_ok-in_files.in_files maps (each_among maps) (c.in_ok-in_files.ensures.of_parts maps))

pub returns-clause-reads : goal.returns-clause-reads
returns-clause-reads g c = c.find_in_files.ensures.reads

pub returns-clause-changes : goal.returns-clause-changes
returns-clause-changes g c = c.find_in_files.ensures.changes

pub returns-clause-causes : goal.returns-clause-causes
returns-clause-causes g c = causes_ok _ _ _ c.in_ok-in_files.ensures.causes.ok c.in_ok-in_files.ensures.causes.out
