use Rattle.std.proofs.Common.{◌∙◌, ◌+◌, ◌*◌, ap, List, refl, subst, sym, arith}
use Rattle.std.proofs.lemmas.Result.{err_from_is_err_and}
use Rattle.sasi_host.proofs.ChangeLaws.{stays, then_same}
use Rattle.sasi_host.specs.declared.name.FileName.{FileName}
use Rattle.sasi_host.specs.Names.{log_name}
use Rattle.sasi_host.specs.View.{Reaches}
use Rattle.sasi_manifest.specs.declared.listing.Listing.{Listing}
use Rattle.sasi_manifest.specs.Listings.{CanStart}
use Rattle.sasi_recover.specs.OpeningReads.{ReadsLiveOnce, data_count, ends_reads, index_count}
use Rattle.sasi_recover.specs.declared.opened.Opened.{Opened}
use Rattle.sasi_recover.specs.ReplayState.{IsReplayOf, seen}
use Rattle.sasi_recover.specs.Replaying.{LiveSegmentsExist, NoFalseReplayDamage, ReadsAll, ReplayShowsDamage, Replays}
use Rattle.sasi_recover.proofs.Damaged.{segment_shown}
use Rattle.sasi_recover.proofs.FolderOpening.{any_then_same, listed_files, opened_exactly, opened_opens, opened_ready, opened_serves, replay_undamaged}
use Rattle.sasi_recover.proofs.ReadsOfOpening.{listing_read}
use Rattle.sasi_recover.proofs.Checking.{moments_then_same, same_any, same_moments}
use Rattle.sasi_recover.proofs.Untimed.{opened_timed}
use Rattle.sasi_recover.specs.KeptListed.{KeepsAll, kept_under}
use Rattle.sasi_recover.proofs.ListedFiles.{all_same}
use Rattle.sasi_recover.proofs.sealed_folder.open_listed.Goals as goal

pub returns-in_err-files-clause-any_moment : goal.returns-in_err-files-clause-any_moment
returns-in_err-files-clause-any_moment g c folder l logs files number has = same_moments (g.H.Host.view c.args.host.now) (g.H.Host.view c.args.host.now) l logs (stays (g.H.Host.view c.args.host.now))

pub returns-in_err-files-clause-changes : goal.returns-in_err-files-clause-changes
returns-in_err-files-clause-changes g c = same_any (g.H.Host.view c.args.host.now) (g.H.Host.view c.args.host.now) (stays (g.H.Host.view c.args.host.now))

pub returns-in_err-files-clause-once : goal.returns-in_err-files-clause-once
returns-in_err-files-clause-once g c folder files = omega arith

pub check_and_delete-requires-clause-files : goal.check_and_delete-requires-clause-files
check_and_delete-requires-clause-files g c = listed_files c.args.manifest c.listing.result.now c.in_ok-files.files.items c.deref.result.now c.listing.ensures.listing c.deref.ensures.value c.in_ok-files.ensures.listed

pub returns-in_err-greatest-clause-once : goal.returns-in_err-greatest-clause-once
returns-in_err-greatest-clause-once g c folder files = omega (arith, c.check_and_delete.ensures.reads, c.in_ok-files.ensures.reads, ap (λ (l : List FileName). ends_reads l) c.deref.ensures.value, ap (λ (l : Listing). 2 * data_count l.tables + 3 * index_count l.tables) c.listing.ensures.listing)

pub replay-requires-clause-live : goal.replay-requires-clause-live
replay-requires-clause-live g c = subst (λ (l : Listing). CanStart l.floor l.last) (sym c.listing-2.ensures.listing) c.requires.read.consistent.start

pub replay-requires-clause-there : goal.replay-requires-clause-there
replay-requires-clause-there g c = subst (λ (l : Listing). LiveSegmentsExist (g.H.Host.view c.check_and_delete.new.host) l) (sym c.listing-2.ensures.listing) c.in_ok-greatest.ensures.checked.live

pub returns-in_err-replayed-clause-any_moment : goal.returns-in_err-replayed-clause-any_moment
returns-in_err-replayed-clause-any_moment g c folder l logs files number has =
    moments_then_same (g.H.Host.view c.args.host.now) (g.H.Host.view c.check_and_delete.new.host) (g.H.Host.view c.replay.new.host) l logs (c.check_and_delete.ensures.any_moment folder l logs files number has) c.replay.ensures.changes

pub returns-in_err-replayed-clause-damaged : goal.returns-in_err-replayed-clause-damaged
returns-in_err-replayed-clause-damaged g c folder files =
    let p = err_from_is_err_and c.from_residual-in_err-replayed.result c.from_residual-in_err-replayed.ensures.1 in
    let m = c.args.manifest in
    let checked = c.in_ok-greatest.ensures.checked in
    let shown = subst (λ (l : Listing). ReplayShowsDamage (g.H.Host.view c.check_and_delete.new.host) l c.in_err-replayed.field-0.0) c.listing-2.ensures.listing c.in_err-replayed.ensures.damaged in
    rw (p.1, p.2)
    (segment_shown (g.H.Host.view c.args.host.now) (g.H.Host.view c.check_and_delete.new.host) folder m.number m.listing c.deref.result.now c.in_err-replayed.field-0.0 files c.requires.read.there c.requires.read.reads checked.deletes checked.live shown)

pub returns-in_err-replayed-clause-undamaged : goal.returns-in_err-replayed-clause-undamaged
returns-in_err-replayed-clause-undamaged g c folder l logs files number has =
    let p = err_from_is_err_and c.from_residual-in_err-replayed.result c.from_residual-in_err-replayed.ensures.1 in
    let no_false = subst (λ (l : Listing). NoFalseReplayDamage (g.H.Host.view c.check_and_delete.new.host) l c.in_err-replayed.field-0.0) c.listing-2.ensures.listing c.in_err-replayed.ensures.undamaged in
    rw (p.1, p.2)
    (replay_undamaged (g.H.Host.view c.args.host.now) (g.H.Host.view c.check_and_delete.new.host) c.args.manifest c.deref.result.now c.in_ok-greatest.greatest c.args.names.now c.requires.lists (g.met.H.Host.sound c.args.host.now) c.requires.folder_durable c.requires.read
    (listed_files c.args.manifest c.listing.result.now c.in_ok-files.files.items c.deref.result.now c.listing.ensures.listing c.deref.ensures.value c.in_ok-files.ensures.listed)
    c.in_ok-greatest.ensures.checked folder files l logs number has c.in_err-replayed.field-0.0 no_false)

pub returns-in_err-replayed-clause-changes : goal.returns-in_err-replayed-clause-changes
returns-in_err-replayed-clause-changes g c = any_then_same (g.H.Host.view c.args.host.now) (g.H.Host.view c.check_and_delete.new.host) (g.H.Host.view c.replay.new.host) c.check_and_delete.ensures.changes c.replay.ensures.changes

pub returns-in_err-replayed-clause-once : goal.returns-in_err-replayed-clause-once
returns-in_err-replayed-clause-once g c folder files =
    listing_read (g.H.Host.view c.args.host.now) (g.H.Host.view c.check_and_delete.new.host) (g.H.Host.view c.replay.new.host) folder c.args.manifest c.deref.result.now c.in_ok-greatest.greatest files c.in_ok-greatest.ensures.checked
    (ap (λ (l : List FileName). ends_reads l) c.deref.ensures.value ∙ c.in_ok-files.ensures.reads ∙ ap (λ (l : Listing). 2 * data_count l.tables + 3 * index_count l.tables) c.listing.ensures.listing) c.check_and_delete.ensures.reads
    (subst (λ (l : Listing). ReadsLiveOnce (g.H.Host.view c.check_and_delete.new.host) (g.H.Host.view c.replay.new.host) l) c.listing-2.ensures.listing c.replay.ensures.once)

pub returns-clause-any_moment : goal.returns-clause-any_moment
returns-clause-any_moment g c folder l logs files number has =
    moments_then_same (g.H.Host.view c.args.host.now) (g.H.Host.view c.check_and_delete.new.host) (g.H.Host.view c.replay.new.host) l logs (c.check_and_delete.ensures.any_moment folder l logs files number has) c.replay.ensures.changes

pub returns-clause-changes : goal.returns-clause-changes
returns-clause-changes g c = any_then_same (g.H.Host.view c.args.host.now) (g.H.Host.view c.check_and_delete.new.host) (g.H.Host.view c.replay.new.host) c.check_and_delete.ensures.changes c.replay.ensures.changes

pub returns-clause-once : goal.returns-clause-once
returns-clause-once g c folder files =
    listing_read (g.H.Host.view c.args.host.now) (g.H.Host.view c.check_and_delete.new.host) (g.H.Host.view c.replay.new.host) folder c.args.manifest c.deref.result.now c.in_ok-greatest.greatest files c.in_ok-greatest.ensures.checked
    (ap (λ (l : List FileName). ends_reads l) c.deref.ensures.value ∙ c.in_ok-files.ensures.reads ∙ ap (λ (l : Listing). 2 * data_count l.tables + 3 * index_count l.tables) c.listing.ensures.listing) c.check_and_delete.ensures.reads
    (subst (λ (l : Listing). ReadsLiveOnce (g.H.Host.view c.check_and_delete.new.host) (g.H.Host.view c.replay.new.host) l) c.listing-2.ensures.listing c.replay.ensures.once)

pub returns-clause-ready : goal.returns-clause-ready
returns-clause-ready g c =
    let a = g.H.Host.view c.args.host.now in
    let b = g.H.Host.view c.check_and_delete.new.host in
    let e = g.H.Host.view c.replay.new.host in
    let r = c.in_ok-replayed.replayed in
    let listing_is = c.listing-2.ensures.listing in
    let listed = listed_files c.args.manifest c.listing.result.now c.in_ok-files.files.items c.deref.result.now c.listing.ensures.listing c.deref.ensures.value c.in_ok-files.ensures.listed in
    let opened : Opened = record { numbers = c.numbers_in-numbers.result; greatest = c.max.result; tables = r.replay.tables; log = r.log; manifest = c.args.manifest } in
    let file = c.in_ok-replayed.ensures.file ∙ ap (λ (l : Listing). log_name l.last) listing_is in
    let is_replay = subst (λ (l : Listing). IsReplayOf l (seen r.replay)) listing_is c.in_ok-replayed.ensures.tables in
    let room = subst (λ (l : Listing). Reaches e (log_name l.last) (r.log.at + 1)) listing_is c.in_ok-replayed.ensures.room in
    opened_ready a b c.args.manifest c.deref.result.now c.in_ok-greatest.greatest c.args.names.now c.requires.lists (g.met.H.Host.sound c.args.host.now) c.requires.folder_durable c.requires.read listed c.in_ok-greatest.ensures.checked
    e opened (seen r.replay) refl refl c.numbers_in-numbers.ensures c.max.ensures file c.in_ok-replayed.ensures.usable c.replay.ensures.changes room is_replay

pub returns-clause-exactly : goal.returns-clause-exactly
returns-clause-exactly g c =
    let a = g.H.Host.view c.args.host.now in
    let b = g.H.Host.view c.check_and_delete.new.host in
    let e = g.H.Host.view c.replay.new.host in
    let r = c.in_ok-replayed.replayed in
    let listed = listed_files c.args.manifest c.listing.result.now c.in_ok-files.files.items c.deref.result.now c.listing.ensures.listing c.deref.ensures.value c.in_ok-files.ensures.listed in
    let opened : Opened = record { numbers = c.numbers_in-numbers.result; greatest = c.max.result; tables = r.replay.tables; log = r.log; manifest = c.args.manifest } in
    opened_exactly a b c.args.manifest c.deref.result.now c.in_ok-greatest.greatest c.args.names.now c.requires.lists (g.met.H.Host.sound c.args.host.now) c.requires.folder_durable c.requires.read listed c.in_ok-greatest.ensures.checked
    e opened refl c.replay.ensures.changes

pub returns-clause-tables : goal.returns-clause-tables
returns-clause-tables g c =
    let is_replay = subst (λ (l : Listing). IsReplayOf l (seen c.in_ok-replayed.replayed.replay)) c.listing-2.ensures.listing c.in_ok-replayed.ensures.tables in
    is_replay.maps

pub returns-clause-timed : goal.returns-clause-timed
returns-clause-timed g c =
    let r = c.in_ok-replayed.replayed in
    let listed = listed_files c.args.manifest c.listing.result.now c.in_ok-files.files.items c.deref.result.now c.listing.ensures.listing c.deref.ensures.value c.in_ok-files.ensures.listed in
    let opened : Opened = record { numbers = c.numbers_in-numbers.result; greatest = c.max.result; tables = r.replay.tables; log = r.log; manifest = c.args.manifest } in
    let is_replay = subst (λ (l : Listing). IsReplayOf l (seen r.replay)) c.listing-2.ensures.listing c.in_ok-replayed.ensures.tables in
    opened_timed (g.H.Host.view c.args.host.now) c.args.manifest.listing c.deref.result.now c.in_ok-greatest.greatest (seen r.replay) listed c.in_ok-greatest.ensures.checked.tells is_replay opened refl c.max.ensures

pub returns-clause-serves : goal.returns-clause-serves
returns-clause-serves g c folder l logs files number has =
    let a = g.H.Host.view c.args.host.now in
    let b = g.H.Host.view c.check_and_delete.new.host in
    let e = g.H.Host.view c.replay.new.host in
    let r = c.in_ok-replayed.replayed in
    let listing_is = c.listing-2.ensures.listing in
    let listed = listed_files c.args.manifest c.listing.result.now c.in_ok-files.files.items c.deref.result.now c.listing.ensures.listing c.deref.ensures.value c.in_ok-files.ensures.listed in
    let opened : Opened = record { numbers = c.numbers_in-numbers.result; greatest = c.max.result; tables = r.replay.tables; log = r.log; manifest = c.args.manifest } in
    let file = c.in_ok-replayed.ensures.file ∙ ap (λ (l : Listing). log_name l.last) listing_is in
    let is_replay = subst (λ (l : Listing). IsReplayOf l (seen r.replay)) listing_is c.in_ok-replayed.ensures.tables in
    let replays = subst (λ (l : Listing). Replays b e l r.log.at (seen r.replay)) listing_is c.in_ok-replayed.ensures.replayed in
    opened_serves a b c.args.manifest c.deref.result.now c.in_ok-greatest.greatest c.args.names.now c.requires.lists (g.met.H.Host.sound c.args.host.now) c.requires.folder_durable c.requires.read listed c.in_ok-greatest.ensures.checked
    folder files l logs number has e opened (seen r.replay) refl refl c.numbers_in-numbers.ensures c.max.ensures file c.replay.ensures.changes replays is_replay

pub returns-clause-opens : goal.returns-clause-opens
returns-clause-opens g c folder files sealed =
    let a = g.H.Host.view c.args.host.now in
    let b = g.H.Host.view c.check_and_delete.new.host in
    let e = g.H.Host.view c.replay.new.host in
    let r = c.in_ok-replayed.replayed in
    let listing_is = c.listing-2.ensures.listing in
    let listed = listed_files c.args.manifest c.listing.result.now c.in_ok-files.files.items c.deref.result.now c.listing.ensures.listing c.deref.ensures.value c.in_ok-files.ensures.listed in
    let all = subst (λ (l : Listing). ReadsAll b l (seen r.replay)) listing_is c.in_ok-replayed.ensures.reads in
    opened_opens a b c.args.manifest c.deref.result.now c.in_ok-greatest.greatest c.args.names.now c.requires.lists (g.met.H.Host.sound c.args.host.now) c.requires.folder_durable c.requires.read listed c.in_ok-greatest.ensures.checked
    e (seen r.replay) folder files sealed all

pub returns-in_err-files-clause-kept : goal.returns-in_err-files-clause-kept
returns-in_err-files-clause-kept g c = all_same (g.H.Host.view c.args.host.now) (g.H.Host.view c.args.host.now) (kept_under c.args.manifest) (stays (g.H.Host.view c.args.host.now))

pub returns-in_err-replayed-clause-kept : goal.returns-in_err-replayed-clause-kept
returns-in_err-replayed-clause-kept g c =
    then_same (g.H.Host.view c.args.host.now) (g.H.Host.view c.check_and_delete.new.host) (g.H.Host.view c.replay.new.host) (KeepsAll (kept_under c.args.manifest)) c.check_and_delete.ensures.kept c.replay.ensures.changes

pub returns-clause-kept : goal.returns-clause-kept
returns-clause-kept g c =
    then_same (g.H.Host.view c.args.host.now) (g.H.Host.view c.check_and_delete.new.host) (g.H.Host.view c.replay.new.host) (KeepsAll (kept_under c.args.manifest)) c.check_and_delete.ensures.kept c.replay.ensures.changes
