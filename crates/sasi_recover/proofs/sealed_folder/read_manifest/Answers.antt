use Rattle.std.proofs.Common.{subst}
use Rattle.std.proofs.lemmas.Result.{err_from_is_err_and}
use Rattle.sasi_host.specs.declared.name.FileName.{FileName}
use Rattle.sasi_host.proofs.ChangeLaws.{stays}
use Rattle.sasi_host.specs.Names.{manifest_name}
use Rattle.sasi_host.specs.View.{IsThere}
use Rattle.sasi_recover.specs.SealedFolder.{ReportsMissing}
use Rattle.sasi_recover.proofs.Damaged.{manifest_missing, manifest_shown}
use Rattle.sasi_recover.proofs.ReadsOfOpening.{once_there}
use Rattle.sasi_recover.proofs.SealedStore.{listed_is_there, missing_manifest}
use Rattle.sasi_recover.proofs.sealed_folder.read_manifest.Goals as goal

pub returns-in_err-check_there-clause-undamaged : goal.returns-in_err-check_there-clause-undamaged
returns-in_err-check_there-clause-undamaged g c =
    let p = err_from_is_err_and c.from_residual.result c.from_residual.ensures.1 in
    let damage = c.in_err-check_there.field-0.0 in
    let tells = subst (λ (f : FileName). ReportsMissing c.args.names.now f damage) c.manifest.ensures c.in_err-check_there.ensures.missing in
    rw (p.1, p.2) (missing_manifest (g.H.Host.view c.args.host.now) c.args.names.now c.args.number c.requires.lists damage tells)

pub returns-in_err-check_there-clause-damaged : goal.returns-in_err-check_there-clause-damaged
returns-in_err-check_there-clause-damaged g c folder files =
    let p = err_from_is_err_and c.from_residual.result c.from_residual.ensures.1 in
    let damage = c.in_err-check_there.field-0.0 in
    let tells = subst (λ (f : FileName). ReportsMissing c.args.names.now f damage) c.manifest.ensures c.in_err-check_there.ensures.missing in
    rw (p.1, p.2) (manifest_missing (g.H.Host.view c.args.host.now) folder files c.args.names.now c.requires.lists c.args.number damage tells)

pub returns-in_err-check_there-clause-changes : goal.returns-in_err-check_there-clause-changes
returns-in_err-check_there-clause-changes g c = stays (g.H.Host.view c.args.host.now)

pub returns-in_err-manifest-clause-damaged : goal.returns-in_err-manifest-clause-damaged
returns-in_err-manifest-clause-damaged g c folder files =
    let p = err_from_is_err_and c.from_residual-in_err-manifest.result c.from_residual-in_err-manifest.ensures.1 in
    let a = g.H.Host.view c.args.host.now in
    let there = subst (λ (f : FileName). IsThere a f) c.manifest.ensures
    (listed_is_there a c.args.names.now c.manifest.result c.requires.lists c.in_ok-check_there.ensures.there) in
    rw (p.1, p.2) (manifest_shown a folder files c.args.number c.in_err-manifest.field-0.0 there c.in_err-manifest.ensures.damaged)

pub returns-in_err-manifest-clause-once : goal.returns-in_err-manifest-clause-once
returns-in_err-manifest-clause-once g c =
    let a = g.H.Host.view c.args.host.now in
    let there = subst (λ (f : FileName). IsThere a f) c.manifest.ensures
    (listed_is_there a c.args.names.now c.manifest.result c.requires.lists c.in_ok-check_there.ensures.there) in
    once_there a (g.H.Host.view c.open.new.host) (manifest_name c.args.number) there c.open.ensures.reads

pub returns-clause-once : goal.returns-clause-once
returns-clause-once g c =
    let a = g.H.Host.view c.args.host.now in
    let there = subst (λ (f : FileName). IsThere a f) c.manifest.ensures
    (listed_is_there a c.args.names.now c.manifest.result c.requires.lists c.in_ok-check_there.ensures.there) in
    once_there a (g.H.Host.view c.open.new.host) (manifest_name c.args.number) there c.open.ensures.reads

pub returns-clause-there : goal.returns-clause-there
returns-clause-there g c = subst (λ (f : FileName). IsThere (g.H.Host.view c.args.host.now) f) c.manifest.ensures
    (listed_is_there (g.H.Host.view c.args.host.now) c.args.names.now c.manifest.result c.requires.lists c.in_ok-check_there.ensures.there)
