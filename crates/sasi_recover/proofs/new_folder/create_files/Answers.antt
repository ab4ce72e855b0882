use Rattle.std.proofs.Common.{◌+◌, ◌≤◌, ◌^◌, None, length, refl, sym, ap, subst, arith}
use Rattle.sasi_host.specs.Disk.{AnyChange, FileChange}
use Rattle.sasi_host.proofs.ContentLaws.{absent_where, contents_other, told_after}
use Rattle.sasi_host.specs.Names.{log_name, manifest_name, seal_name}
use Rattle.sasi_manifest.specs.declared.listing.Listing.{Listing}
use Rattle.sasi_manifest.specs.Edits.{AllApply, encoded}
use Rattle.sasi_manifest.specs.Format.{IsRewritten}
use Rattle.sasi_manifest.specs.Listings.{rewrite_edits}
use Rattle.sasi_folder.proofs.FolderLaws.{kinds_apart}
use Rattle.sasi_recover.specs.declared.opened.Opened.{Opened}
use Rattle.sasi_recover.proofs.FirstFiles.{kept_first}
use Rattle.sasi_recover.proofs.FirstStore.{create_moments, first_exactly, first_ready, first_apply, first_serves, first_short, fresh_moments, fresh_unsealed, is_rewritten, log_fresh, log_room, log_any_change, made_is, made_listing, made_any_change, still_fresh}
use Rattle.sasi_recover.proofs.new_folder.create_files.Goals as goal

pub returns-in_err-log-clause-any_moment : goal.returns-in_err-log-clause-any_moment
returns-in_err-log-clause-any_moment g c fresh = fresh_moments (g.H.Host.view c.args.host.now) (g.H.Host.view c.create.new.host)
    (FileChange (log_name 1) AnyChange) c.args.partitioner (g.met.H.Host.sound c.args.host.now) log_fresh c.create.ensures.changes fresh

pub returns-in_err-log-clause-changes : goal.returns-in_err-log-clause-changes
returns-in_err-log-clause-changes g c = log_any_change (g.H.Host.view c.args.host.now) (g.H.Host.view c.create.new.host) c.create.ensures.changes

pub create-requires-2-clause-manifest : goal.create-requires-2-clause-manifest
create-requires-2-clause-manifest g c =
    absent_where (g.H.Host.view c.args.host.now) (g.H.Host.view c.create.new.host) (manifest_name 1)
    (contents_other (g.H.Host.view c.args.host.now) (g.H.Host.view c.create.new.host) (log_name 1) (manifest_name 1) AnyChange
    (kinds_apart _ _ (omega arith)) c.create.ensures.changes) (c.requires.none (manifest_name 1))

pub create-requires-2-clause-seal : goal.create-requires-2-clause-seal
create-requires-2-clause-seal g c =
    absent_where (g.H.Host.view c.args.host.now) (g.H.Host.view c.create.new.host) (seal_name 1)
    (contents_other (g.H.Host.view c.args.host.now) (g.H.Host.view c.create.new.host) (log_name 1) (seal_name 1) AnyChange
    (kinds_apart _ _ (omega arith)) c.create.ensures.changes) (c.requires.none (seal_name 1))

pub create-requires-2-clause-apply : goal.create-requires-2-clause-apply
create-requires-2-clause-apply g c = subst (λ (l : Listing). AllApply None (rewrite_edits l)) (sym c.new-listing.ensures) (first_apply c.args.partitioner)

pub create-requires-2-clause-short : goal.create-requires-2-clause-short
create-requires-2-clause-short g c = subst (λ (l : Listing). length (encoded (rewrite_edits l)) ≤ 2 ^ 30) (sym c.new-listing.ensures)
    (first_short c.args.partitioner)

pub returns-in_err-manifest-clause-any_moment : goal.returns-in_err-manifest-clause-any_moment
returns-in_err-manifest-clause-any_moment g c fresh =
    let a = g.H.Host.view c.args.host.now in
    let b = g.H.Host.view c.create.new.host in
    create_moments a b (g.H.Host.view c.create-2.new.host) c.args.partitioner c.in_ok-log.log.at (g.met.H.Host.sound c.args.host.now)
    (g.met.H.Host.sound c.create.new.host) fresh c.create.ensures.changes c.in_ok-log.ensures.ok
    (c.create-2.ensures.any_moment (made_listing c.args.partitioner)
    (subst (λ (l : Listing). IsRewritten l (made_listing c.args.partitioner)) (sym c.new-listing.ensures)
    (is_rewritten c.args.partitioner)) (fresh_unsealed b (still_fresh a b fresh c.create.ensures.changes)))

pub returns-in_err-manifest-clause-changes : goal.returns-in_err-manifest-clause-changes
returns-in_err-manifest-clause-changes g c = made_any_change (g.H.Host.view c.args.host.now) (g.H.Host.view c.create.new.host)
    (g.H.Host.view c.create-2.new.host) c.create.ensures.changes c.create-2.ensures.changes

pub returns-clause-any_moment : goal.returns-clause-any_moment
returns-clause-any_moment g c fresh =
    let a = g.H.Host.view c.args.host.now in
    let b = g.H.Host.view c.create.new.host in
    create_moments a b (g.H.Host.view c.create-2.new.host) c.args.partitioner c.in_ok-log.log.at (g.met.H.Host.sound c.args.host.now)
    (g.met.H.Host.sound c.create.new.host) fresh c.create.ensures.changes c.in_ok-log.ensures.ok
    (c.create-2.ensures.any_moment (made_listing c.args.partitioner)
    (subst (λ (l : Listing). IsRewritten l (made_listing c.args.partitioner)) (sym c.new-listing.ensures)
    (is_rewritten c.args.partitioner)) (fresh_unsealed b (still_fresh a b fresh c.create.ensures.changes)))

pub returns-clause-changes : goal.returns-clause-changes
returns-clause-changes g c = made_any_change (g.H.Host.view c.args.host.now) (g.H.Host.view c.create.new.host)
    (g.H.Host.view c.create-2.new.host) c.create.ensures.changes c.create-2.ensures.changes

pub returns-clause-ready : goal.returns-clause-ready
returns-clause-ready g c =
    let a = g.H.Host.view c.args.host.now in
    let b = g.H.Host.view c.create.new.host in
    let now = g.H.Host.view c.create-2.new.host in
    let rewritten = subst (λ (l : Listing). IsRewritten l c.in_ok-manifest.manifest.listing) c.new-listing.ensures c.in_ok-manifest.ensures.listing in
    let room = log_room b now (c.in_ok-log.log.at + 1) c.create-2.ensures.changes c.in_ok-log.ensures.room in
    let opened : Opened = record { manifest = c.in_ok-manifest.manifest; log = c.in_ok-log.log; tables = c.new.result; numbers = record { manifest = 1; log = 1; «data» = 0; index = 0; part = 0 }; greatest = 0 } in
    first_ready c.args.partitioner opened (rewritten, c.in_ok-manifest.ensures.number, c.in_ok-log.ensures.file, c.new.ensures.items, refl, refl) now
    c.in_ok-manifest.ensures.room room c.in_ok-manifest.ensures.usable c.in_ok-log.ensures.usable c.in_ok-manifest.ensures.ok
    (kept_first a b now c.args.partitioner c.requires.none c.create.ensures.changes c.create-2.ensures.changes (c.in_ok-manifest.manifest.at + 1) (c.in_ok-log.log.at + 1)
    (g.met.H.Host.sound c.args.host.now) (g.met.H.Host.sound c.create-2.new.host) c.requires.synced c.in_ok-manifest.ensures.sealed c.in_ok-manifest.ensures.room room)

pub returns-clause-exactly : goal.returns-clause-exactly
returns-clause-exactly g c =
    let a = g.H.Host.view c.args.host.now in
    let b = g.H.Host.view c.create.new.host in
    let now = g.H.Host.view c.create-2.new.host in
    let rewritten = subst (λ (l : Listing). IsRewritten l c.in_ok-manifest.manifest.listing) c.new-listing.ensures c.in_ok-manifest.ensures.listing in
    let room = log_room b now (c.in_ok-log.log.at + 1) c.create-2.ensures.changes c.in_ok-log.ensures.room in
    let opened : Opened = record { manifest = c.in_ok-manifest.manifest; log = c.in_ok-log.log; tables = c.new.result; numbers = record { manifest = 1; log = 1; «data» = 0; index = 0; part = 0 }; greatest = 0 } in
    first_exactly c.args.partitioner opened (rewritten, c.in_ok-manifest.ensures.number, c.in_ok-log.ensures.file, c.new.ensures.items, refl, refl) now
    (kept_first a b now c.args.partitioner c.requires.none c.create.ensures.changes c.create-2.ensures.changes (c.in_ok-manifest.manifest.at + 1) (c.in_ok-log.log.at + 1)
    (g.met.H.Host.sound c.args.host.now) (g.met.H.Host.sound c.create-2.new.host) c.requires.synced c.in_ok-manifest.ensures.sealed c.in_ok-manifest.ensures.room room)

pub returns-clause-serves : goal.returns-clause-serves
returns-clause-serves g c told fresh =
    let a = g.H.Host.view c.args.host.now in
    let b = g.H.Host.view c.create.new.host in
    let now = g.H.Host.view c.create-2.new.host in
    let rewritten = subst (λ (l : Listing). IsRewritten l c.in_ok-manifest.manifest.listing) c.new-listing.ensures c.in_ok-manifest.ensures.listing in
    let told_now = told_after _ b now c.create-2.ensures.changes (told_after _ a b c.create.ensures.changes told) in
    let opened : Opened = record { manifest = c.in_ok-manifest.manifest; log = c.in_ok-log.log; tables = c.new.result; numbers = record { manifest = 1; log = 1; «data» = 0; index = 0; part = 0 }; greatest = 0 } in
    first_serves c.args.partitioner opened (rewritten, c.in_ok-manifest.ensures.number, c.in_ok-log.ensures.file, c.new.ensures.items, refl, refl) a b now told_now fresh
    c.create.ensures.changes c.in_ok-log.ensures.ok c.create-2.ensures.changes c.in_ok-manifest.ensures.sealed
    c.in_ok-manifest.ensures.ok

pub returns-clause-empty : goal.returns-clause-empty
returns-clause-empty g c =
    ap (λ (l : Listing). l.tables) (made_is c.args.partitioner c.in_ok-manifest.manifest.listing
    (subst (λ (l : Listing). IsRewritten l c.in_ok-manifest.manifest.listing) c.new-listing.ensures c.in_ok-manifest.ensures.listing))
