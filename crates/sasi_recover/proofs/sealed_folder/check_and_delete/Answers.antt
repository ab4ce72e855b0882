use Rattle.std.proofs.Common.{subst}
use Rattle.std.proofs.lemmas.Result.{err_from_is_err_and}
use Rattle.sasi_host.proofs.ChangeLaws.{stays}
use Rattle.sasi_manifest.specs.declared.listing.Listing.{Listing}
use Rattle.sasi_recover.specs.SealedFolder.{AreNamed, ReportsMissingListed}
use Rattle.sasi_recover.proofs.Checking.{all_there, checked, deletes_as, ends_shown, ends_undamaged, file_there, gone_as, missing_shown, nothing_missing, same_any, same_moments, same_then_any, shapes_kept}
use Rattle.sasi_recover.proofs.NameLists.{of_tables}
use Rattle.sasi_recover.proofs.SyncedFolder.{lists_same}
use Rattle.sasi_recover.specs.KeptListed.{kept_under}
use Rattle.sasi_recover.proofs.ListedFiles.{all_deleting, all_same}
use Rattle.sasi_recover.proofs.sealed_folder.check_and_delete.Goals as goal

pub returns-in_err-check_names-clause-any_moment : goal.returns-in_err-check_names-clause-any_moment
returns-in_err-check_names-clause-any_moment g c folder l logs files number has = same_moments (g.H.Host.view c.args.host.now) (g.H.Host.view c.args.host.now) l logs (stays (g.H.Host.view c.args.host.now))

pub returns-in_err-check_names-clause-damaged : goal.returns-in_err-check_names-clause-damaged
returns-in_err-check_names-clause-damaged g c folder files =
    let p = err_from_is_err_and c.from_residual.result c.from_residual.ensures.1 in
    let tells = subst (λ (l : Listing). ReportsMissingListed c.args.names.now l.floor l.last c.args.files.now c.in_err-check_names.field-0.0) c.listing-listing.ensures.listing c.in_err-check_names.ensures.missing in
    rw (p.1, p.2) (missing_shown (g.H.Host.view c.args.host.now) c.args.names.now c.args.manifest.now c.args.files.now c.requires.lists c.requires.read c.requires.files folder files c.in_err-check_names.field-0.0 tells)

pub returns-in_err-check_names-clause-undamaged : goal.returns-in_err-check_names-clause-undamaged
returns-in_err-check_names-clause-undamaged g c folder l logs files number has =
    let p = err_from_is_err_and c.from_residual.result c.from_residual.ensures.1 in
    let tells = subst (λ (l : Listing). ReportsMissingListed c.args.names.now l.floor l.last c.args.files.now c.in_err-check_names.field-0.0) c.listing-listing.ensures.listing c.in_err-check_names.ensures.missing in
    rw (p.1, p.2) (nothing_missing (g.H.Host.view c.args.host.now) c.args.names.now c.args.manifest.now c.args.files.now c.requires.lists c.requires.read c.requires.files folder files l logs number has c.in_err-check_names.field-0.0 tells)

pub returns-in_err-check_names-clause-changes : goal.returns-in_err-check_names-clause-changes
returns-in_err-check_names-clause-changes g c = same_any (g.H.Host.view c.args.host.now) (g.H.Host.view c.args.host.now) (stays (g.H.Host.view c.args.host.now))

pub read_ends-requires-clause-there : goal.read_ends-requires-clause-there
read_ends-requires-clause-there g c =
    let named = subst (λ (l : Listing). AreNamed c.args.names.now l.floor l.last c.args.files.now) c.listing-listing.ensures.listing c.in_ok-check_names.ensures.there in
    all_there (g.H.Host.view c.args.host.now) c.args.names.now c.args.manifest.now c.args.files.now c.requires.lists c.requires.read c.requires.files named

pub read_ends-requires-clause-tables : goal.read_ends-requires-clause-tables
read_ends-requires-clause-tables g c = of_tables c.args.manifest.now.listing c.args.files.now c.requires.files

pub returns-in_err-time-clause-any_moment : goal.returns-in_err-time-clause-any_moment
returns-in_err-time-clause-any_moment g c folder l logs files number has = same_moments (g.H.Host.view c.args.host.now) (g.H.Host.view c.read_ends.new.host) l logs c.read_ends.ensures.changes

pub returns-in_err-time-clause-damaged : goal.returns-in_err-time-clause-damaged
returns-in_err-time-clause-damaged g c folder files =
    let p = err_from_is_err_and c.from_residual-in_err-time.result c.from_residual-in_err-time.ensures.1 in
    let named = subst (λ (l : Listing). AreNamed c.args.names.now l.floor l.last c.args.files.now) c.listing-listing.ensures.listing c.in_ok-check_names.ensures.there in
    rw (p.1, p.2) (ends_shown (g.H.Host.view c.args.host.now) c.args.names.now c.args.manifest.now c.args.files.now c.requires.lists c.requires.read c.requires.files folder files c.in_err-time.field-0.0
    (file_there (g.H.Host.view c.args.host.now) c.args.names.now c.args.manifest.now c.args.files.now c.requires.lists c.requires.read c.requires.files named) c.in_err-time.ensures.damaged)

pub returns-in_err-time-clause-undamaged : goal.returns-in_err-time-clause-undamaged
returns-in_err-time-clause-undamaged g c folder l logs files number has =
    let p = err_from_is_err_and c.from_residual-in_err-time.result c.from_residual-in_err-time.ensures.1 in
    rw (p.1, p.2) (ends_undamaged (g.H.Host.view c.args.host.now) c.args.names.now c.args.manifest.now c.args.files.now c.requires.lists c.requires.read c.requires.files folder files l logs number has c.in_err-time.field-0.0 c.in_err-time.ensures.undamaged)

pub returns-in_err-time-clause-changes : goal.returns-in_err-time-clause-changes
returns-in_err-time-clause-changes g c = same_any (g.H.Host.view c.args.host.now) (g.H.Host.view c.read_ends.new.host) c.read_ends.ensures.changes

pub delete_unlisted-requires-clause-lists : goal.delete_unlisted-requires-clause-lists
delete_unlisted-requires-clause-lists g c = lists_same (g.H.Host.view c.args.host.now) (g.H.Host.view c.read_ends.new.host) c.read_ends.ensures.changes c.args.names.now c.requires.lists

pub returns-in_err-delete_unlisted-clause-any_moment : goal.returns-in_err-delete_unlisted-clause-any_moment
returns-in_err-delete_unlisted-clause-any_moment g c folder l logs files number has =
    shapes_kept (g.H.Host.view c.args.host.now) c.args.names.now c.args.manifest.now c.args.files.now c.requires.lists c.requires.read c.requires.files folder files l logs number has
    (g.H.Host.view c.read_ends.new.host) (g.met.H.Host.sound c.read_ends.new.host) c.requires.folder_durable c.read_ends.ensures.changes (g.H.Host.view c.delete_unlisted.new.host) c.in_ok-time.ensures.synced
    (deletes_as (g.H.Host.view c.read_ends.new.host) (g.H.Host.view c.delete_unlisted.new.host) c.args.manifest.now c.args.files.now c.number-number.result c.listing-listing.result.now c.number-number.ensures c.listing-listing.ensures.listing c.delete_unlisted.ensures.changes)

pub returns-in_err-delete_unlisted-clause-changes : goal.returns-in_err-delete_unlisted-clause-changes
returns-in_err-delete_unlisted-clause-changes g c = same_then_any (g.H.Host.view c.args.host.now) (g.H.Host.view c.read_ends.new.host) (g.H.Host.view c.delete_unlisted.new.host) _ c.read_ends.ensures.changes c.delete_unlisted.ensures.changes

pub returns-clause-any_moment : goal.returns-clause-any_moment
returns-clause-any_moment g c folder l logs files number has =
    shapes_kept (g.H.Host.view c.args.host.now) c.args.names.now c.args.manifest.now c.args.files.now c.requires.lists c.requires.read c.requires.files folder files l logs number has
    (g.H.Host.view c.read_ends.new.host) (g.met.H.Host.sound c.read_ends.new.host) c.requires.folder_durable c.read_ends.ensures.changes (g.H.Host.view c.delete_unlisted.new.host) c.in_ok-time.ensures.synced
    (deletes_as (g.H.Host.view c.read_ends.new.host) (g.H.Host.view c.delete_unlisted.new.host) c.args.manifest.now c.args.files.now c.number-number.result c.listing-listing.result.now c.number-number.ensures c.listing-listing.ensures.listing c.delete_unlisted.ensures.changes)

pub returns-clause-changes : goal.returns-clause-changes
returns-clause-changes g c = same_then_any (g.H.Host.view c.args.host.now) (g.H.Host.view c.read_ends.new.host) (g.H.Host.view c.delete_unlisted.new.host) _ c.read_ends.ensures.changes c.delete_unlisted.ensures.changes

pub returns-clause-checked : goal.returns-clause-checked
returns-clause-checked g c =
    let named = subst (λ (l : Listing). AreNamed c.args.names.now l.floor l.last c.args.files.now) c.listing-listing.ensures.listing c.in_ok-check_names.ensures.there in
    checked (g.H.Host.view c.args.host.now) c.args.names.now c.args.manifest.now c.args.files.now c.requires.lists c.requires.read c.requires.files named
    (g.H.Host.view c.read_ends.new.host) (g.H.Host.view c.delete_unlisted.new.host) c.in_ok-time.time (g.met.H.Host.sound c.read_ends.new.host) c.requires.folder_durable c.read_ends.ensures.changes c.in_ok-time.ensures.ends c.in_ok-time.ensures.synced c.in_ok-time.ensures.time
    (deletes_as (g.H.Host.view c.read_ends.new.host) (g.H.Host.view c.delete_unlisted.new.host) c.args.manifest.now c.args.files.now c.number-number.result c.listing-listing.result.now c.number-number.ensures c.listing-listing.ensures.listing c.delete_unlisted.ensures.changes)
    (gone_as (g.H.Host.view c.delete_unlisted.new.host) c.args.manifest.now c.args.files.now c.number-number.result c.listing-listing.result.now c.number-number.ensures c.listing-listing.ensures.listing c.in_ok-delete_unlisted.ensures.gone)

pub returns-in_err-check_names-clause-kept : goal.returns-in_err-check_names-clause-kept
returns-in_err-check_names-clause-kept g c = all_same (g.H.Host.view c.args.host.now) (g.H.Host.view c.args.host.now) (kept_under c.args.manifest.now) (stays (g.H.Host.view c.args.host.now))

pub returns-in_err-time-clause-kept : goal.returns-in_err-time-clause-kept
returns-in_err-time-clause-kept g c = all_same (g.H.Host.view c.args.host.now) (g.H.Host.view c.read_ends.new.host) (kept_under c.args.manifest.now) c.read_ends.ensures.changes

pub returns-in_err-delete_unlisted-clause-kept : goal.returns-in_err-delete_unlisted-clause-kept
returns-in_err-delete_unlisted-clause-kept g c =
    all_deleting (g.H.Host.view c.args.host.now) (g.H.Host.view c.read_ends.new.host) (g.H.Host.view c.delete_unlisted.new.host) c.args.manifest.now c.args.files.now c.requires.files c.read_ends.ensures.changes
    (deletes_as (g.H.Host.view c.read_ends.new.host) (g.H.Host.view c.delete_unlisted.new.host) c.args.manifest.now c.args.files.now c.number-number.result c.listing-listing.result.now c.number-number.ensures c.listing-listing.ensures.listing c.delete_unlisted.ensures.changes)

pub returns-clause-kept : goal.returns-clause-kept
returns-clause-kept g c =
    all_deleting (g.H.Host.view c.args.host.now) (g.H.Host.view c.read_ends.new.host) (g.H.Host.view c.delete_unlisted.new.host) c.args.manifest.now c.args.files.now c.requires.files c.read_ends.ensures.changes
    (deletes_as (g.H.Host.view c.read_ends.new.host) (g.H.Host.view c.delete_unlisted.new.host) c.args.manifest.now c.args.files.now c.number-number.result c.listing-listing.result.now c.number-number.ensures c.listing-listing.ensures.listing c.delete_unlisted.ensures.changes)
