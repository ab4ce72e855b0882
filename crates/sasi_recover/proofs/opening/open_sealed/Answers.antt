use Rattle.std.proofs.Common.{◌∙◌, List, ap, map, subst, sym}
use Rattle.std.proofs.lemmas.Result.{err_from_is_err_and}
use Rattle.sasi_host.specs.Damages.{OnDamage}
use Rattle.sasi_host.specs.Disk.{Changes, Same}
use Rattle.sasi_folder.specs.Damages.{ShowsManifestOrListed}
use Rattle.sasi_folder.specs.FolderContents.{IsSealed}
use Rattle.sasi_layout.specs.Classes.{HasAll, IsFirstMissing, classes_listed}
use Rattle.sasi_layout.proofs.ClassLaws.{known_listed}
use Rattle.sasi_manifest.specs.ListedDefinition.{ListedDefinition}
use Rattle.sasi_manifest.specs.declared.listing.Listing.{Listing}
use Rattle.sasi_recover.specs.declared.opened.Opened.{Opened}
use Rattle.sasi_recover.proofs.Differences.{causes_behind, difference_causes, difference_only, difference_told, keeps_read, manifest_differs, kept_as_read, no_damage, difference_lacks, difference_missing, lacks_as_read, manifest_lacks, missing_causes, none_lacks, ok_causes, open_damage, read_causes, read_differs, read_missing}
use Rattle.sasi_recover.proofs.FolderOpening.{files_same, manifest_is_read, moments_on, no_shape_damage, same_then_any, shape_damage}
use Rattle.sasi_recover.proofs.ReadsOfOpening.{manifest_read, store_read}
use Rattle.sasi_recover.proofs.Checking.{same_any, same_moments}
use Rattle.sasi_recover.proofs.SyncedFolder.{durable_same, lists_same}
use Rattle.sasi_recover.proofs.ListedFiles.{listed_read, listed_same}
use Rattle.sasi_recover.proofs.opening.open_sealed.Goals as goal

pub returns-in_err-manifest-clause-any_moment : goal.returns-in_err-manifest-clause-any_moment
returns-in_err-manifest-clause-any_moment g c folder l logs files number has = same_moments (g.H.Host.view c.args.host.now) (g.H.Host.view c.read_manifest.new.host) l logs c.read_manifest.ensures.changes

pub returns-in_err-manifest-clause-damaged : goal.returns-in_err-manifest-clause-damaged
returns-in_err-manifest-clause-damaged g c folder files =
    let p = err_from_is_err_and c.from_residual.result c.from_residual.ensures.1 in
    rw (p.1, p.2) (open_damage (ShowsManifestOrListed folder c.args.number) c.in_err-manifest.field-0.0 (c.in_err-manifest.ensures.damaged folder files))

pub returns-in_err-manifest-clause-differs : goal.returns-in_err-manifest-clause-differs
returns-in_err-manifest-clause-differs g c folder wanted kept files asks keeps apart =
    let p = err_from_is_err_and c.from_residual.result c.from_residual.ensures.1 in
    rw (p.1, p.2) (manifest_differs Opened (g.H.Host.view c.args.host.now) folder c.args.number wanted kept c.in_err-manifest.field-0.0 files keeps c.in_err-manifest.ensures.undamaged)

pub returns-in_err-manifest-clause-differs_only : goal.returns-in_err-manifest-clause-differs_only
returns-in_err-manifest-clause-differs_only g c folder files =
    let p = err_from_is_err_and c.from_residual.result c.from_residual.ensures.1 in
    rw (p.1, p.2) (read_differs _ c.in_err-manifest.field-0.0)

pub returns-in_err-manifest-clause-changes : goal.returns-in_err-manifest-clause-changes
returns-in_err-manifest-clause-changes g c = same_any (g.H.Host.view c.args.host.now) (g.H.Host.view c.read_manifest.new.host) c.read_manifest.ensures.changes

pub returns-in_err-manifest-clause-once : goal.returns-in_err-manifest-clause-once
returns-in_err-manifest-clause-once g c folder files = manifest_read (g.H.Host.view c.args.host.now) (g.H.Host.view c.read_manifest.new.host) folder c.args.number files c.read_manifest.ensures.once

pub returns-in_err-manifest-clause-causes : goal.returns-in_err-manifest-clause-causes
returns-in_err-manifest-clause-causes g c =
    let p = err_from_is_err_and c.from_residual.result c.from_residual.ensures.1 in
    rw (p.1, p.2) (read_causes _ _ c.in_err-manifest.field-0.0 c.in_err-manifest.ensures.causes)

pub returns-in_err-manifest-clause-undamaged : goal.returns-in_err-manifest-clause-undamaged
returns-in_err-manifest-clause-undamaged g c folder l logs files number has =
    let p = err_from_is_err_and c.from_residual.result c.from_residual.ensures.1 in
    rw (p.1, p.2) (no_shape_damage c.in_err-manifest.field-0.0 (shape_damage (g.H.Host.view c.args.host.now) folder l logs c.args.number c.in_err-manifest.field-0.0 files number has c.in_err-manifest.ensures.undamaged))

pub returns-in_err-check_partitioner-clause-any_moment : goal.returns-in_err-check_partitioner-clause-any_moment
returns-in_err-check_partitioner-clause-any_moment g c folder l logs files number has =
    same_moments (g.H.Host.view c.args.host.now) (g.H.Host.view c.read_manifest.new.host) l logs c.read_manifest.ensures.changes

pub returns-in_err-check_partitioner-clause-damaged : goal.returns-in_err-check_partitioner-clause-damaged
returns-in_err-check_partitioner-clause-damaged g c folder files =
    let p = err_from_is_err_and c.from_residual-in_err-check_partitioner.result c.from_residual-in_err-check_partitioner.ensures.1 in
    rw (p.1, p.2) (no_damage c.args.asked c.listing.result.now.partitioner (ShowsManifestOrListed folder c.args.number) c.in_err-check_partitioner.field-0.0 c.in_err-check_partitioner.ensures.other)

pub returns-in_err-check_partitioner-clause-undamaged : goal.returns-in_err-check_partitioner-clause-undamaged
returns-in_err-check_partitioner-clause-undamaged g c folder l logs files number has =
    let p = err_from_is_err_and c.from_residual-in_err-check_partitioner.result c.from_residual-in_err-check_partitioner.ensures.1 in
    rw (p.1, p.2) (no_damage c.args.asked c.listing.result.now.partitioner _ c.in_err-check_partitioner.field-0.0 c.in_err-check_partitioner.ensures.other)

pub returns-in_err-check_partitioner-clause-differs : goal.returns-in_err-check_partitioner-clause-differs
returns-in_err-check_partitioner-clause-differs g c folder wanted kept files asks keeps apart =
    let p = err_from_is_err_and c.from_residual-in_err-check_partitioner.result c.from_residual-in_err-check_partitioner.ensures.1 in
    rw (p.1, p.2) (difference_told Opened c.args.asked c.listing.result.now.partitioner wanted kept c.in_err-check_partitioner.field-0.0 asks (ap (λ (l : Listing). l.partitioner) c.listing.ensures.listing ∙ keeps_read (g.H.Host.view c.args.host.now) folder c.args.number c.in_ok-manifest.manifest.listing kept files keeps c.in_ok-manifest.ensures.reads) c.in_err-check_partitioner.ensures.other)

pub returns-in_err-check_partitioner-clause-differs_only : goal.returns-in_err-check_partitioner-clause-differs_only
returns-in_err-check_partitioner-clause-differs_only g c folder files =
    let p = err_from_is_err_and c.from_residual-in_err-check_partitioner.result c.from_residual-in_err-check_partitioner.ensures.1 in
    rw (p.1, p.2) (difference_only c.args.asked c.listing.result.now.partitioner _ c.in_err-check_partitioner.field-0.0 (λ wanted asks apart. (asks, kept_as_read (g.H.Host.view c.args.host.now) folder c.args.number c.in_ok-manifest.manifest.listing c.listing.result.now.partitioner files c.in_ok-manifest.ensures.there c.in_ok-manifest.ensures.reads (ap (λ (l : Listing). l.partitioner) c.listing.ensures.listing), apart)) c.in_err-check_partitioner.ensures.other)

pub returns-in_err-check_partitioner-clause-changes : goal.returns-in_err-check_partitioner-clause-changes
returns-in_err-check_partitioner-clause-changes g c =
    same_any (g.H.Host.view c.args.host.now) (g.H.Host.view c.read_manifest.new.host) c.read_manifest.ensures.changes

pub returns-in_err-check_partitioner-clause-once : goal.returns-in_err-check_partitioner-clause-once
returns-in_err-check_partitioner-clause-once g c folder files =
    manifest_read (g.H.Host.view c.args.host.now) (g.H.Host.view c.read_manifest.new.host) folder c.args.number files c.read_manifest.ensures.once

pub returns-in_err-check_partitioner-clause-causes : goal.returns-in_err-check_partitioner-clause-causes
returns-in_err-check_partitioner-clause-causes g c =
    let p = err_from_is_err_and c.from_residual-in_err-check_partitioner.result c.from_residual-in_err-check_partitioner.ensures.1 in
    rw (p.1, p.2) (difference_causes (g.H.Host.view c.args.host.now) (g.H.Host.view c.read_manifest.new.host) c.args.asked c.listing.result.now.partitioner c.in_err-check_partitioner.field-0.0 c.in_ok-manifest.ensures.causes.ok c.read_manifest.ensures.causes.out c.in_err-check_partitioner.ensures.other)

pub open_listed-requires-clause-lists : goal.open_listed-requires-clause-lists
open_listed-requires-clause-lists g c =
    lists_same (g.H.Host.view c.args.host.now) (g.H.Host.view c.read_manifest.new.host) c.read_manifest.ensures.changes c.args.names.now c.requires.lists

pub open_listed-requires-clause-folder_durable : goal.open_listed-requires-clause-folder_durable
open_listed-requires-clause-folder_durable g c =
    durable_same (g.H.Host.view c.args.host.now) (g.H.Host.view c.read_manifest.new.host) c.read_manifest.ensures.changes c.requires.folder_durable

pub open_listed-requires-clause-read : goal.open_listed-requires-clause-read
open_listed-requires-clause-read g c =
    let known = c.in_ok-manifest.ensures in
    manifest_is_read (g.H.Host.view c.args.host.now) (g.H.Host.view c.read_manifest.new.host) c.in_ok-manifest.manifest c.args.number (g.met.H.Host.sound c.args.host.now) (g.met.H.Host.sound c.read_manifest.new.host) c.requires.folder_durable c.read_manifest.ensures.changes
    known.number known.there c.requires.sealed known.reads known.stands known.consistent known.room known.usable

pub returns-in_err-opened-clause-any_moment : goal.returns-in_err-opened-clause-any_moment
returns-in_err-opened-clause-any_moment g c folder l logs files number has =
    let files_b = files_same (g.H.Host.view c.args.host.now) (g.H.Host.view c.read_manifest.new.host) folder c.read_manifest.ensures.changes files in
    moments_on (g.H.Host.view c.args.host.now) (g.H.Host.view c.read_manifest.new.host) (g.H.Host.view c.open_listed.new.host) l logs c.read_manifest.ensures.changes (c.open_listed.ensures.any_moment folder l logs files_b (number ∙ sym c.in_ok-manifest.ensures.number) has)

pub returns-in_err-opened-clause-damaged : goal.returns-in_err-opened-clause-damaged
returns-in_err-opened-clause-damaged g c folder files =
    let files_b = files_same (g.H.Host.view c.args.host.now) (g.H.Host.view c.read_manifest.new.host) folder c.read_manifest.ensures.changes files in
    let p = err_from_is_err_and c.from_residual-in_err-opened.result c.from_residual-in_err-opened.ensures.1 in
    rw (p.1, p.2) (open_damage (ShowsManifestOrListed folder c.args.number) c.in_err-opened.field-0.0 (subst (λ n. OnDamage (ShowsManifestOrListed folder n) c.in_err-opened.field-0.0) c.in_ok-manifest.ensures.number (c.in_err-opened.ensures.damaged folder files_b)))

pub returns-in_err-opened-clause-undamaged : goal.returns-in_err-opened-clause-undamaged
returns-in_err-opened-clause-undamaged g c folder l logs files number has =
    let files_b = files_same (g.H.Host.view c.args.host.now) (g.H.Host.view c.read_manifest.new.host) folder c.read_manifest.ensures.changes files in
    let p = err_from_is_err_and c.from_residual-in_err-opened.result c.from_residual-in_err-opened.ensures.1 in
    rw (p.1, p.2) (no_shape_damage c.in_err-opened.field-0.0 (c.in_err-opened.ensures.undamaged folder l logs files_b (number ∙ sym c.in_ok-manifest.ensures.number) has))

pub returns-in_err-opened-clause-differs : goal.returns-in_err-opened-clause-differs
returns-in_err-opened-clause-differs g c folder wanted kept files asks keeps apart =
    absurd (apart (c.in_ok-check_partitioner.ensures.same wanted asks ∙ ap (λ (l : Listing). l.partitioner) c.listing.ensures.listing ∙ keeps_read (g.H.Host.view c.args.host.now) folder c.args.number c.in_ok-manifest.manifest.listing kept files keeps c.in_ok-manifest.ensures.reads))

pub returns-in_err-opened-clause-differs_only : goal.returns-in_err-opened-clause-differs_only
returns-in_err-opened-clause-differs_only g c folder files =
    let p = err_from_is_err_and c.from_residual-in_err-opened.result c.from_residual-in_err-opened.ensures.1 in
    rw (p.1, p.2) (read_differs _ c.in_err-opened.field-0.0)

pub returns-in_err-opened-clause-changes : goal.returns-in_err-opened-clause-changes
returns-in_err-opened-clause-changes g c =
    same_then_any (g.H.Host.view c.args.host.now) (g.H.Host.view c.read_manifest.new.host) (g.H.Host.view c.open_listed.new.host) c.read_manifest.ensures.changes c.open_listed.ensures.changes

pub returns-in_err-opened-clause-once : goal.returns-in_err-opened-clause-once
returns-in_err-opened-clause-once g c folder files =
    let files_b = files_same (g.H.Host.view c.args.host.now) (g.H.Host.view c.read_manifest.new.host) folder c.read_manifest.ensures.changes files in
    store_read (g.H.Host.view c.args.host.now) (g.H.Host.view c.read_manifest.new.host) (g.H.Host.view c.open_listed.new.host) folder c.args.number c.in_ok-manifest.manifest.listing files c.in_ok-manifest.ensures.there c.in_ok-manifest.ensures.reads c.read_manifest.ensures.once (c.open_listed.ensures.once folder files_b)

pub returns-in_err-opened-clause-causes : goal.returns-in_err-opened-clause-causes
returns-in_err-opened-clause-causes g c =
    let p = err_from_is_err_and c.from_residual-in_err-opened.result c.from_residual-in_err-opened.ensures.1 in
    rw (p.1, p.2) (causes_behind (g.H.Host.view c.args.host.now) (g.H.Host.view c.read_manifest.new.host) (g.H.Host.view c.open_listed.new.host) _ c.in_ok-manifest.ensures.causes.ok c.read_manifest.ensures.causes.out (read_causes (g.H.Host.view c.read_manifest.new.host) (g.H.Host.view c.open_listed.new.host) c.in_err-opened.field-0.0 c.in_err-opened.ensures.causes))

pub returns-clause-any_moment : goal.returns-clause-any_moment
returns-clause-any_moment g c folder l logs files number has =
    let files_b = files_same (g.H.Host.view c.args.host.now) (g.H.Host.view c.read_manifest.new.host) folder c.read_manifest.ensures.changes files in
    moments_on (g.H.Host.view c.args.host.now) (g.H.Host.view c.read_manifest.new.host) (g.H.Host.view c.open_listed.new.host) l logs c.read_manifest.ensures.changes (c.open_listed.ensures.any_moment folder l logs files_b (number ∙ sym c.in_ok-manifest.ensures.number) has)

pub returns-clause-serves : goal.returns-clause-serves
returns-clause-serves g c folder l logs files number has =
    let files_b = files_same (g.H.Host.view c.args.host.now) (g.H.Host.view c.read_manifest.new.host) folder c.read_manifest.ensures.changes files in
    c.in_ok-opened.ensures.serves folder l logs files_b (number ∙ sym c.in_ok-manifest.ensures.number) has

pub returns-clause-opens : goal.returns-clause-opens
returns-clause-opens g c folder files sealed =
    let files_b = files_same (g.H.Host.view c.args.host.now) (g.H.Host.view c.read_manifest.new.host) folder c.read_manifest.ensures.changes files in
    c.in_ok-opened.ensures.opens folder files_b (subst (IsSealed folder) (sym c.in_ok-manifest.ensures.number) sealed)

pub returns-clause-differs : goal.returns-clause-differs
returns-clause-differs g c folder wanted kept files asks keeps apart =
    absurd (apart (c.in_ok-check_partitioner.ensures.same wanted asks ∙ ap (λ (l : Listing). l.partitioner) c.listing.ensures.listing ∙ keeps_read (g.H.Host.view c.args.host.now) folder c.args.number c.in_ok-manifest.manifest.listing kept files keeps c.in_ok-manifest.ensures.reads))

pub returns-clause-changes : goal.returns-clause-changes
returns-clause-changes g c =
    same_then_any (g.H.Host.view c.args.host.now) (g.H.Host.view c.read_manifest.new.host) (g.H.Host.view c.open_listed.new.host) c.read_manifest.ensures.changes c.open_listed.ensures.changes

pub returns-clause-once : goal.returns-clause-once
returns-clause-once g c folder files =
    let files_b = files_same (g.H.Host.view c.args.host.now) (g.H.Host.view c.read_manifest.new.host) folder c.read_manifest.ensures.changes files in
    store_read (g.H.Host.view c.args.host.now) (g.H.Host.view c.read_manifest.new.host) (g.H.Host.view c.open_listed.new.host) folder c.args.number c.in_ok-manifest.manifest.listing files c.in_ok-manifest.ensures.there c.in_ok-manifest.ensures.reads c.read_manifest.ensures.once (c.open_listed.ensures.once folder files_b)

pub returns-clause-causes : goal.returns-clause-causes
returns-clause-causes g c =
    causes_behind (g.H.Host.view c.args.host.now) (g.H.Host.view c.read_manifest.new.host) (g.H.Host.view c.open_listed.new.host) _ c.in_ok-manifest.ensures.causes.ok c.read_manifest.ensures.causes.out (ok_causes (g.H.Host.view c.read_manifest.new.host) (g.H.Host.view c.open_listed.new.host) c.in_ok-opened.ensures.causes)

pub returns-in_err-manifest-clause-kept : goal.returns-in_err-manifest-clause-kept
returns-in_err-manifest-clause-kept g c folder files = listed_same (g.H.Host.view c.args.host.now) (g.H.Host.view c.read_manifest.new.host) folder c.args.number c.read_manifest.ensures.changes

pub returns-in_err-check_partitioner-clause-kept : goal.returns-in_err-check_partitioner-clause-kept
returns-in_err-check_partitioner-clause-kept g c folder files = listed_same (g.H.Host.view c.args.host.now) (g.H.Host.view c.read_manifest.new.host) folder c.args.number c.read_manifest.ensures.changes

pub returns-in_err-opened-clause-kept : goal.returns-in_err-opened-clause-kept
returns-in_err-opened-clause-kept g c folder files =
    listed_read (g.H.Host.view c.args.host.now) (g.H.Host.view c.read_manifest.new.host) (g.H.Host.view c.open_listed.new.host) folder c.args.number c.in_ok-manifest.manifest files
    c.in_ok-manifest.ensures.number c.in_ok-manifest.ensures.there c.in_ok-manifest.ensures.reads c.read_manifest.ensures.changes c.open_listed.ensures.kept

pub returns-clause-kept : goal.returns-clause-kept
returns-clause-kept g c folder files =
    listed_read (g.H.Host.view c.args.host.now) (g.H.Host.view c.read_manifest.new.host) (g.H.Host.view c.open_listed.new.host) folder c.args.number c.in_ok-manifest.manifest files
    c.in_ok-manifest.ensures.number c.in_ok-manifest.ensures.there c.in_ok-manifest.ensures.reads c.read_manifest.ensures.changes c.open_listed.ensures.kept

pub returns-in_err-manifest-clause-untouched : goal.returns-in_err-manifest-clause-untouched
returns-in_err-manifest-clause-untouched g c =
    let p = err_from_is_err_and c.from_residual.result c.from_residual.ensures.1 in
    rw (p.1, p.2) (read_differs _ c.in_err-manifest.field-0.0)

pub returns-in_err-check_partitioner-clause-untouched : goal.returns-in_err-check_partitioner-clause-untouched
returns-in_err-check_partitioner-clause-untouched g c =
    let p = err_from_is_err_and c.from_residual-in_err-check_partitioner.result c.from_residual-in_err-check_partitioner.ensures.1 in
    rw (p.1, p.2) (difference_only c.args.asked c.listing.result.now.partitioner (λ wanted kept. Changes Same (g.H.Host.view c.args.host.now) (g.H.Host.view c.read_manifest.new.host)) c.in_err-check_partitioner.field-0.0 (λ wanted asks apart. c.read_manifest.ensures.changes) c.in_err-check_partitioner.ensures.other)

pub returns-in_err-opened-clause-untouched : goal.returns-in_err-opened-clause-untouched
returns-in_err-opened-clause-untouched g c =
    let p = err_from_is_err_and c.from_residual-in_err-opened.result c.from_residual-in_err-opened.ensures.1 in
    rw (p.1, p.2) (read_differs _ c.in_err-opened.field-0.0)

-- ---- an analyzer that is missing

pub returns-in_err-manifest-clause-lacks : goal.returns-in_err-manifest-clause-lacks
returns-in_err-manifest-clause-lacks g c folder class files lacks =
    let p = err_from_is_err_and c.from_residual.result c.from_residual.ensures.1 in
    rw (p.1, p.2) (manifest_lacks Opened (g.H.Host.view c.args.host.now) folder c.args.number (map (λ b. (goal.Analyzer-dyn g (b.vtable, b.value)).kind b.value) c.args.kit.now.objects.items) class c.in_err-manifest.field-0.0 files lacks c.in_err-manifest.ensures.undamaged)

pub returns-in_err-manifest-clause-lacks_only : goal.returns-in_err-manifest-clause-lacks_only
returns-in_err-manifest-clause-lacks_only g c folder files =
    let p = err_from_is_err_and c.from_residual.result c.from_residual.ensures.1 in
    rw (p.1, p.2) (read_missing _ c.in_err-manifest.field-0.0)

pub returns-in_err-manifest-clause-unopened : goal.returns-in_err-manifest-clause-unopened
returns-in_err-manifest-clause-unopened g c =
    let p = err_from_is_err_and c.from_residual.result c.from_residual.ensures.1 in
    rw (p.1, p.2) (read_missing _ c.in_err-manifest.field-0.0)

pub returns-in_err-check_partitioner-clause-lacks : goal.returns-in_err-check_partitioner-clause-lacks
returns-in_err-check_partitioner-clause-lacks g c folder class files lacks =
    let p = err_from_is_err_and c.from_residual-in_err-check_partitioner.result c.from_residual-in_err-check_partitioner.ensures.1 in
    rw (p.1, p.2) (difference_lacks Opened c.args.asked c.listing.result.now.partitioner c.in_err-check_partitioner.field-0.0 c.in_err-check_partitioner.ensures.other)

pub returns-in_err-check_partitioner-clause-lacks_only : goal.returns-in_err-check_partitioner-clause-lacks_only
returns-in_err-check_partitioner-clause-lacks_only g c folder files =
    let p = err_from_is_err_and c.from_residual-in_err-check_partitioner.result c.from_residual-in_err-check_partitioner.ensures.1 in
    rw (p.1, p.2) (difference_missing c.args.asked c.listing.result.now.partitioner _ c.in_err-check_partitioner.field-0.0 c.in_err-check_partitioner.ensures.other)

pub returns-in_err-check_partitioner-clause-unopened : goal.returns-in_err-check_partitioner-clause-unopened
returns-in_err-check_partitioner-clause-unopened g c =
    let p = err_from_is_err_and c.from_residual-in_err-check_partitioner.result c.from_residual-in_err-check_partitioner.ensures.1 in
    rw (p.1, p.2) (difference_missing c.args.asked c.listing.result.now.partitioner _ c.in_err-check_partitioner.field-0.0 c.in_err-check_partitioner.ensures.other)

pub returns-in_err-opened-clause-lacks_only : goal.returns-in_err-opened-clause-lacks_only
returns-in_err-opened-clause-lacks_only g c folder files =
    let p = err_from_is_err_and c.from_residual-in_err-opened.result c.from_residual-in_err-opened.ensures.1 in
    rw (p.1, p.2) (read_missing _ c.in_err-opened.field-0.0)

pub returns-in_err-opened-clause-unopened : goal.returns-in_err-opened-clause-unopened
returns-in_err-opened-clause-unopened g c =
    let p = err_from_is_err_and c.from_residual-in_err-opened.result c.from_residual-in_err-opened.ensures.1 in
    rw (p.1, p.2) (read_missing _ c.in_err-opened.field-0.0)

pub returns-in_err-opened-clause-lacks : goal.returns-in_err-opened-clause-lacks
returns-in_err-opened-clause-lacks g c folder class files lacks =
    let tables_are = c.as_slice.ensures.tables ∙ ap (λ (l : Listing). l.tables) c.listing-2.ensures.listing in
    absurd (none_lacks (g.H.Host.view c.args.host.now) folder c.args.number c.in_ok-manifest.manifest.listing (map (λ b. (goal.Analyzer-dyn g (b.vtable, b.value)).kind b.value) c.args.kit.now.objects.items) class files lacks c.in_ok-manifest.ensures.reads
    (subst (λ (ts : List ListedDefinition). HasAll (map (λ b. (goal.Analyzer-dyn g (b.vtable, b.value)).kind b.value) c.args.kit.now.objects.items) (classes_listed ts)) tables_are c.in_ok-check_classes.ensures.all))

pub returns-clause-lacks : goal.returns-clause-lacks
returns-clause-lacks g c folder class files lacks =
    let tables_are = c.as_slice.ensures.tables ∙ ap (λ (l : Listing). l.tables) c.listing-2.ensures.listing in
    absurd (none_lacks (g.H.Host.view c.args.host.now) folder c.args.number c.in_ok-manifest.manifest.listing (map (λ b. (goal.Analyzer-dyn g (b.vtable, b.value)).kind b.value) c.args.kit.now.objects.items) class files lacks c.in_ok-manifest.ensures.reads
    (subst (λ (ts : List ListedDefinition). HasAll (map (λ b. (goal.Analyzer-dyn g (b.vtable, b.value)).kind b.value) c.args.kit.now.objects.items) (classes_listed ts)) tables_are c.in_ok-check_classes.ensures.all))

pub returns-clause-classes : goal.returns-clause-classes
returns-clause-classes g c =
    let tables_are = c.as_slice.ensures.tables ∙ ap (λ (l : Listing). l.tables) c.listing-2.ensures.listing ∙ ap (λ (l : Listing). l.tables) (sym c.in_ok-opened.ensures.listing) in
    known_listed (map (λ b. (goal.Analyzer-dyn g (b.vtable, b.value)).kind b.value) c.args.kit.now.objects.items) _ c.in_ok-opened.opened.manifest.listing.tables c.in_ok-opened.ensures.ready.numbered.indexes
    (subst (λ (ts : List ListedDefinition). HasAll (map (λ b. (goal.Analyzer-dyn g (b.vtable, b.value)).kind b.value) c.args.kit.now.objects.items) (classes_listed ts)) tables_are c.in_ok-check_classes.ensures.all)

pub returns-in_err-check_classes-clause-any_moment : goal.returns-in_err-check_classes-clause-any_moment
returns-in_err-check_classes-clause-any_moment g c folder l logs files number has =
    same_moments (g.H.Host.view c.args.host.now) (g.H.Host.view c.read_manifest.new.host) l logs c.read_manifest.ensures.changes

pub returns-in_err-check_classes-clause-damaged : goal.returns-in_err-check_classes-clause-damaged
returns-in_err-check_classes-clause-damaged g c folder files =
    let p = err_from_is_err_and c.from_residual-in_err-check_classes.result c.from_residual-in_err-check_classes.ensures.1 in
    rw (p.1, p.2) tt

pub returns-in_err-check_classes-clause-undamaged : goal.returns-in_err-check_classes-clause-undamaged
returns-in_err-check_classes-clause-undamaged g c folder l logs files number has =
    let p = err_from_is_err_and c.from_residual-in_err-check_classes.result c.from_residual-in_err-check_classes.ensures.1 in
    rw (p.1, p.2) tt

pub returns-in_err-check_classes-clause-differs : goal.returns-in_err-check_classes-clause-differs
returns-in_err-check_classes-clause-differs g c folder wanted kept files asks keeps apart =
    absurd (apart (c.in_ok-check_partitioner.ensures.same wanted asks ∙ ap (λ (l : Listing). l.partitioner) c.listing.ensures.listing ∙ keeps_read (g.H.Host.view c.args.host.now) folder c.args.number c.in_ok-manifest.manifest.listing kept files keeps c.in_ok-manifest.ensures.reads))

pub returns-in_err-check_classes-clause-differs_only : goal.returns-in_err-check_classes-clause-differs_only
returns-in_err-check_classes-clause-differs_only g c folder files =
    let p = err_from_is_err_and c.from_residual-in_err-check_classes.result c.from_residual-in_err-check_classes.ensures.1 in
    rw (p.1, p.2) tt

pub returns-in_err-check_classes-clause-lacks : goal.returns-in_err-check_classes-clause-lacks
returns-in_err-check_classes-clause-lacks g c folder class files lacks =
    let p = err_from_is_err_and c.from_residual-in_err-check_classes.result c.from_residual-in_err-check_classes.ensures.1 in
    rw (p.1, p.2) tt

pub returns-in_err-check_classes-clause-lacks_only : goal.returns-in_err-check_classes-clause-lacks_only
returns-in_err-check_classes-clause-lacks_only g c folder files =
    let p = err_from_is_err_and c.from_residual-in_err-check_classes.result c.from_residual-in_err-check_classes.ensures.1 in
    let tables_are = c.as_slice.ensures.tables ∙ ap (λ (l : Listing). l.tables) c.listing-2.ensures.listing in
    rw (p.1, p.2) (lacks_as_read (g.H.Host.view c.args.host.now) folder c.args.number c.in_ok-manifest.manifest.listing (map (λ b. (goal.Analyzer-dyn g (b.vtable, b.value)).kind b.value) c.args.kit.now.objects.items) c.in_err-check_classes.field-0.0 files c.in_ok-manifest.ensures.there c.in_ok-manifest.ensures.reads
    (subst (λ (ts : List ListedDefinition). IsFirstMissing (map (λ b. (goal.Analyzer-dyn g (b.vtable, b.value)).kind b.value) c.args.kit.now.objects.items) (classes_listed ts) c.in_err-check_classes.field-0.0) tables_are c.in_err-check_classes.ensures.missing))

pub returns-in_err-check_classes-clause-untouched : goal.returns-in_err-check_classes-clause-untouched
returns-in_err-check_classes-clause-untouched g c =
    let p = err_from_is_err_and c.from_residual-in_err-check_classes.result c.from_residual-in_err-check_classes.ensures.1 in
    rw (p.1, p.2) tt

pub returns-in_err-check_classes-clause-unopened : goal.returns-in_err-check_classes-clause-unopened
returns-in_err-check_classes-clause-unopened g c =
    let p = err_from_is_err_and c.from_residual-in_err-check_classes.result c.from_residual-in_err-check_classes.ensures.1 in
    rw (p.1, p.2) c.read_manifest.ensures.changes

pub returns-in_err-check_classes-clause-kept : goal.returns-in_err-check_classes-clause-kept
returns-in_err-check_classes-clause-kept g c folder files = listed_same (g.H.Host.view c.args.host.now) (g.H.Host.view c.read_manifest.new.host) folder c.args.number c.read_manifest.ensures.changes

pub returns-in_err-check_classes-clause-changes : goal.returns-in_err-check_classes-clause-changes
returns-in_err-check_classes-clause-changes g c = same_any (g.H.Host.view c.args.host.now) (g.H.Host.view c.read_manifest.new.host) c.read_manifest.ensures.changes

pub returns-in_err-check_classes-clause-once : goal.returns-in_err-check_classes-clause-once
returns-in_err-check_classes-clause-once g c folder files = manifest_read (g.H.Host.view c.args.host.now) (g.H.Host.view c.read_manifest.new.host) folder c.args.number files c.read_manifest.ensures.once

pub returns-in_err-check_classes-clause-causes : goal.returns-in_err-check_classes-clause-causes
returns-in_err-check_classes-clause-causes g c =
    let p = err_from_is_err_and c.from_residual-in_err-check_classes.result c.from_residual-in_err-check_classes.ensures.1 in
    rw (p.1, p.2) (missing_causes (g.H.Host.view c.args.host.now) (g.H.Host.view c.read_manifest.new.host) c.in_err-check_classes.field-0.0 c.in_ok-manifest.ensures.causes.ok c.read_manifest.ensures.causes.out)

pub returns-in_err-manifest-clause-absent : goal.returns-in_err-manifest-clause-absent
returns-in_err-manifest-clause-absent g c =
    let p = err_from_is_err_and c.from_residual.result c.from_residual.ensures.1 in
    rw (p.1, p.2) (read_missing _ c.in_err-manifest.field-0.0)

pub returns-in_err-check_partitioner-clause-absent : goal.returns-in_err-check_partitioner-clause-absent
returns-in_err-check_partitioner-clause-absent g c =
    let p = err_from_is_err_and c.from_residual-in_err-check_partitioner.result c.from_residual-in_err-check_partitioner.ensures.1 in
    rw (p.1, p.2) (difference_missing c.args.asked c.listing.result.now.partitioner _ c.in_err-check_partitioner.field-0.0 c.in_err-check_partitioner.ensures.other)

pub returns-in_err-check_classes-clause-absent : goal.returns-in_err-check_classes-clause-absent
returns-in_err-check_classes-clause-absent g c =
    let p = err_from_is_err_and c.from_residual-in_err-check_classes.result c.from_residual-in_err-check_classes.ensures.1 in
    rw (p.1, p.2) c.in_err-check_classes.ensures.missing.lacks

pub returns-in_err-opened-clause-absent : goal.returns-in_err-opened-clause-absent
returns-in_err-opened-clause-absent g c =
    let p = err_from_is_err_and c.from_residual-in_err-opened.result c.from_residual-in_err-opened.ensures.1 in
    rw (p.1, p.2) (read_missing _ c.in_err-opened.field-0.0)
