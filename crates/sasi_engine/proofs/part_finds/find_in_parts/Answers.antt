use Rattle.std.proofs.Common.{ap, sym}
use Rattle.std.proofs.lemmas.Result.{err_from_is_err_and}
use Rattle.sasi_types.specs.declared.decorated_key.DecoratedKey.{DecoratedKey}
use Rattle.sasi_model.specs.State.{decorated}
use Rattle.sasi_ranges.proofs.Calling.{faults_handed, faults_memory, faults_ok}
use Rattle.sasi_scan.specs.Finding.{file_maps}
use Rattle.sasi_engine.specs.TokenHits.{maps_numbered}
use Rattle.sasi_scan.specs.Numbered.{views_numbered}
use Rattle.sasi_engine.proofs.PartFinding.{found_of_parts, parts_found}
use Rattle.sasi_engine.proofs.part_finds.find_in_parts.Goals as goal

pub returns-in_err-in_files-clause-faults : goal.returns-in_err-in_files-clause-faults
returns-in_err-in_files-clause-faults g c =
    let q = err_from_is_err_and c.from_residual.result c.from_residual.ensures.1 in
    let v = g.H.Host.view c.args.host.now in
    let w = g.H.Host.view c.find.new.host in
    rw (q.1, q.2) (faults_handed _ _ _ _ v w c.find.result c.in_err-in_files.field-0.0 c.in_err-in_files.was (λ has is. (has, is)) c.find.ensures.faults)

pub returns-in_err-found-clause-faults : goal.returns-in_err-found-clause-faults
returns-in_err-found-clause-faults g c =
    let q = err_from_is_err_and c.from_residual-in_err-found.result c.from_residual-in_err-found.ensures.1 in
    rw (q.1, q.2) (faults_memory _ _ _ _ (g.H.Host.view c.args.host.now) (g.H.Host.view c.find.new.host) c.in_ok-in_files.in_files c.in_ok-in_files.ensures.faults)

pub returns-clause-found : goal.returns-clause-found
returns-clause-found g c p contents looks keys is_key =
    parts_found c.args.key.now (decorated p c.args.key.now.key) c.in_ok-in_files.in_files c.in_ok-found.found (file_maps p contents) (maps_numbered c.args.maps.now c.args.numbers.now) is_key
    (c.in_ok-in_files.ensures.found p c.args.key.now.token contents looks keys (sym (ap (λ (k : DecoratedKey). k.token) is_key))) c.in_ok-found.ensures

pub returns-clause-faults : goal.returns-clause-faults
returns-clause-faults g c = faults_ok _ _ _ _ (g.H.Host.view c.args.host.now) (g.H.Host.view c.find.new.host) c.in_ok-in_files.in_files _ c.in_ok-in_files.ensures.faults

pub returns-clause-of_parts : goal.returns-clause-of_parts
returns-clause-of_parts g c =
    found_of_parts c.args.lookup.now.types c.args.maps.now c.args.numbers.now c.args.key.now c.in_ok-in_files.in_files c.in_ok-found.found (c.in_ok-in_files.ensures.of_parts (views_numbered c.args.maps.now c.args.numbers.now)) c.in_ok-found.ensures
