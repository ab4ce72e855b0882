use Rattle.std.proofs.Common.{◌+◌, ◌≤◌, ◌^◌, List, length, refl, sym, ap, subst, arith}
use Rattle.std.specs.Prelude.{Some}
use Rattle.sasi_host.specs.Names.{manifest_name}
use Rattle.sasi_host.specs.View.{Reaches}
use Rattle.sasi_manifest.specs.declared.edit.Edit.{Edit}
use Rattle.sasi_manifest.specs.declared.listing.Listing.{Listing}
use Rattle.sasi_manifest.specs.Edits.{AllApply, encoded}
use Rattle.sasi_manifest.specs.Format.{IsNext}
use Rattle.sasi_memtable.specs.MemtableView.{AreDecorated}
use Rattle.sasi_tables.specs.Flushing.{whole_of}
use Rattle.sasi_tables.specs.Held.{merged_in}
use Rattle.sasi_tables.proofs.FlushFrames.{in_flush_deleted, in_flush_listed, in_flush_made, in_flush_none, stands_on}
use Rattle.sasi_tables.proofs.FlushLaws.{flush_deleted, flush_done, flush_listed, flush_made, flush_none}
use Rattle.sasi_tables.proofs.FlushedFiles.{adds_file, files_there, floor_within, former_there, log_room, manifest_room, parts_few, record_short, room_unmade}
use Rattle.sasi_tables.proofs.flush.flush.Goals as goal

pub returns-in_err-edits-clause-any_moment : goal.returns-in_err-edits-clause-any_moment
returns-in_err-edits-clause-any_moment g c l logs is = flush_none l logs (g.H.Host.view c.args.host.now) c.args.manifest.now (whole_of c.args.manifest.now.listing.partitioner c.args.maps.now c.args.unflushed.now) c.args.numbers c.args.defs.now c.args.parts.now is (g.met.H.Host.sound c.args.host.now)

pub returns-in_err-edits-clause-changes : goal.returns-in_err-edits-clause-changes
returns-in_err-edits-clause-changes g c = in_flush_none c.args.manifest.now.number c.args.manifest.now.listing.floor c.args.numbers c.args.parts.now (g.H.Host.view c.args.host.now)

pub make_files-requires-clause-decorated : goal.make_files-requires-clause-decorated
make_files-requires-clause-decorated g c = subst (λ (e : Listing). AreDecorated e.partitioner (merged_in c.args.maps.now c.args.unflushed.now)) (sym c.listing-2.ensures.listing) c.requires.can.decorated

pub returns-in_err-made-clause-any_moment : goal.returns-in_err-made-clause-any_moment
returns-in_err-made-clause-any_moment g c l logs is =
    flush_made l logs (g.H.Host.view c.args.host.now) c.args.manifest.now (whole_of c.args.manifest.now.listing.partitioner c.args.maps.now c.args.unflushed.now) c.args.numbers c.args.defs.now c.args.parts.now is (g.met.H.Host.sound c.args.host.now) (g.H.Host.view c.make_files.new.host) c.make_files.ensures.changes

pub returns-in_err-made-clause-changes : goal.returns-in_err-made-clause-changes
returns-in_err-made-clause-changes g c =
    in_flush_made c.args.manifest.now.number c.args.manifest.now.listing.floor c.args.numbers c.args.parts.now (g.H.Host.view c.args.host.now) (g.H.Host.view c.make_files.new.host) c.make_files.ensures.changes

pub commit-requires-clause-adds : goal.commit-requires-clause-adds
commit-requires-clause-adds g c = adds_file c.args.numbers c.args.parts.now c.in_ok-made.made.sealed c.in_ok-edits.edits c.in_ok-made.ensures.sealed c.in_ok-edits.ensures

pub commit-requires-clause-room : goal.commit-requires-clause-room
commit-requires-clause-room g c =
    room_unmade c.args.numbers c.args.parts.now (g.H.Host.view c.args.host.now) (g.H.Host.view c.make_files.new.host) c.args.manifest.now.number (c.args.manifest.now.at + 1) c.make_files.ensures.changes c.requires.can.room

pub commit-requires-clause-apply : goal.commit-requires-clause-apply
commit-requires-clause-apply g c = subst (λ (es : List Edit). AllApply (Some c.args.manifest.now.listing) es) (sym c.in_ok-edits.ensures) (c.requires.can.applies, tt)

pub commit-requires-clause-some : goal.commit-requires-clause-some
commit-requires-clause-some g c = subst (λ (es : List Edit). 1 ≤ length es) (sym c.in_ok-edits.ensures) (omega arith)

pub commit-requires-clause-short : goal.commit-requires-clause-short
commit-requires-clause-short g c = subst (λ (es : List Edit). length (encoded es) ≤ 2 ^ 30) (sym c.in_ok-edits.ensures) (record_short c.args.numbers c.args.parts.now (parts_few c.args.manifest.now.listing c.args.numbers c.args.parts.now c.requires.can.applies))

pub returns-in_err-commit-clause-any_moment : goal.returns-in_err-commit-clause-any_moment
returns-in_err-commit-clause-any_moment g c l logs is =
    flush_listed l logs (g.H.Host.view c.args.host.now) c.args.manifest.now (whole_of c.args.manifest.now.listing.partitioner c.args.maps.now c.args.unflushed.now) c.args.numbers c.args.defs.now c.args.parts.now is (g.met.H.Host.sound c.args.host.now)
    (g.H.Host.view c.make_files.new.host) (g.H.Host.view c.commit.new.host) (g.met.H.Host.sound c.make_files.new.host) c.make_files.ensures.changes c.listing-2.result.now.partitioner
    (ap (λ (e : Listing). e.partitioner) c.listing-2.ensures.listing) c.in_ok-made.ensures.written c.requires.can.some c.in_ok-made.made.log.at c.in_ok-made.ensures.log_end
    (λ next made stands. c.commit.ensures.any_moment next (subst (λ (es : List Edit). IsNext c.args.manifest.now.listing es next) (sym c.in_ok-edits.ensures) made) stands)

pub returns-in_err-commit-clause-changes : goal.returns-in_err-commit-clause-changes
returns-in_err-commit-clause-changes g c =
    in_flush_listed c.args.manifest.now.number c.args.manifest.now.listing.floor c.args.numbers c.args.parts.now (g.H.Host.view c.args.host.now) (g.H.Host.view c.make_files.new.host) (g.H.Host.view c.commit.new.host) c.make_files.ensures.changes c.commit.ensures.changes

pub delete_segments-requires : goal.delete_segments-requires
delete_segments-requires g c =
    former_there c.args.numbers c.args.parts.now c.args.manifest.now.number c.args.manifest.now.listing.floor c.listing.result.now.floor (g.H.Host.view c.args.host.now) (g.H.Host.view c.make_files.new.host) (g.H.Host.view c.commit.new.host)
    (ap (λ (e : Listing). e.floor) c.listing.ensures.listing) (floor_within c.args.manifest.now.listing c.args.numbers c.args.parts.now c.requires.can.applies) c.make_files.ensures.changes c.commit.ensures.changes c.requires.can.former

pub returns-in_err-delete_segments-clause-any_moment : goal.returns-in_err-delete_segments-clause-any_moment
returns-in_err-delete_segments-clause-any_moment g c l logs is =
    flush_deleted l logs (g.H.Host.view c.args.host.now) c.args.manifest.now (whole_of c.args.manifest.now.listing.partitioner c.args.maps.now c.args.unflushed.now) c.args.numbers c.args.defs.now c.args.parts.now is (g.met.H.Host.sound c.args.host.now)
    (g.H.Host.view c.make_files.new.host) (g.H.Host.view c.commit.new.host) (g.met.H.Host.sound c.make_files.new.host) c.make_files.ensures.changes c.listing-2.result.now.partitioner
    (ap (λ (e : Listing). e.partitioner) c.listing-2.ensures.listing) c.in_ok-made.ensures.written c.requires.can.some c.in_ok-made.made.log.at c.in_ok-made.ensures.log_end
    (λ next made stands. c.commit.ensures.any_moment next (subst (λ (es : List Edit). IsNext c.args.manifest.now.listing es next) (sym c.in_ok-edits.ensures) made) stands)
    (g.H.Host.view c.delete_segments.new.host) (g.met.H.Host.sound c.commit.new.host) c.listing.result.now.floor c.commit.new.manifest
    (subst (λ (es : List Edit). IsNext c.args.manifest.now.listing es c.commit.new.manifest.listing) c.in_ok-edits.ensures c.in_ok-commit.ensures.listing) c.in_ok-commit.ensures.ok c.delete_segments.ensures.changes

pub returns-in_err-delete_segments-clause-changes : goal.returns-in_err-delete_segments-clause-changes
returns-in_err-delete_segments-clause-changes g c =
    in_flush_deleted c.args.manifest.now.number c.args.manifest.now.listing.floor c.args.numbers c.args.parts.now (g.H.Host.view c.args.host.now) (g.H.Host.view c.commit.new.host) (g.H.Host.view c.delete_segments.new.host)
    c.listing.result.now.floor (ap (λ (e : Listing). e.floor) c.listing.ensures.listing)
    (in_flush_listed c.args.manifest.now.number c.args.manifest.now.listing.floor c.args.numbers c.args.parts.now (g.H.Host.view c.args.host.now) (g.H.Host.view c.make_files.new.host) (g.H.Host.view c.commit.new.host) c.make_files.ensures.changes c.commit.ensures.changes)
    c.delete_segments.ensures.changes

pub returns-clause-any_moment : goal.returns-clause-any_moment
returns-clause-any_moment g c l logs is =
    flush_deleted l logs (g.H.Host.view c.args.host.now) c.args.manifest.now (whole_of c.args.manifest.now.listing.partitioner c.args.maps.now c.args.unflushed.now) c.args.numbers c.args.defs.now c.args.parts.now is (g.met.H.Host.sound c.args.host.now)
    (g.H.Host.view c.make_files.new.host) (g.H.Host.view c.commit.new.host) (g.met.H.Host.sound c.make_files.new.host) c.make_files.ensures.changes c.listing-2.result.now.partitioner
    (ap (λ (e : Listing). e.partitioner) c.listing-2.ensures.listing) c.in_ok-made.ensures.written c.requires.can.some c.in_ok-made.made.log.at c.in_ok-made.ensures.log_end
    (λ next made stands. c.commit.ensures.any_moment next (subst (λ (es : List Edit). IsNext c.args.manifest.now.listing es next) (sym c.in_ok-edits.ensures) made) stands)
    (g.H.Host.view c.delete_segments.new.host) (g.met.H.Host.sound c.commit.new.host) c.listing.result.now.floor c.commit.new.manifest
    (subst (λ (es : List Edit). IsNext c.args.manifest.now.listing es c.commit.new.manifest.listing) c.in_ok-edits.ensures c.in_ok-commit.ensures.listing) c.in_ok-commit.ensures.ok c.delete_segments.ensures.changes

pub returns-clause-flushed : goal.returns-clause-flushed
returns-clause-flushed g c l logs is =
    flush_done l logs (g.H.Host.view c.args.host.now) c.args.manifest.now (whole_of c.args.manifest.now.listing.partitioner c.args.maps.now c.args.unflushed.now) c.args.numbers c.args.defs.now c.args.parts.now is (g.met.H.Host.sound c.args.host.now)
    (g.H.Host.view c.make_files.new.host) (g.H.Host.view c.commit.new.host) (g.met.H.Host.sound c.make_files.new.host) c.make_files.ensures.changes c.listing-2.result.now.partitioner
    (ap (λ (e : Listing). e.partitioner) c.listing-2.ensures.listing) c.in_ok-made.ensures.written c.requires.can.some c.in_ok-made.made.log.at c.in_ok-made.ensures.log_end
    (λ next made stands. c.commit.ensures.any_moment next (subst (λ (es : List Edit). IsNext c.args.manifest.now.listing es next) (sym c.in_ok-edits.ensures) made) stands)
    (g.H.Host.view c.delete_segments.new.host) (g.met.H.Host.sound c.commit.new.host) c.listing.result.now.floor c.commit.new.manifest
    (subst (λ (es : List Edit). IsNext c.args.manifest.now.listing es c.commit.new.manifest.listing) c.in_ok-edits.ensures c.in_ok-commit.ensures.listing) c.in_ok-commit.ensures.ok c.delete_segments.ensures.changes
    c.in_ok-made.made.log refl (floor_within c.args.manifest.now.listing c.args.numbers c.args.parts.now c.requires.can.applies) c.commit.ensures.number c.commit.ensures.changes

pub returns-clause-stands : goal.returns-clause-stands
returns-clause-stands g c stands =
    stands_on c.args.numbers c.args.parts.now c.listing.result.now.floor (g.H.Host.view c.args.host.now) (g.H.Host.view c.make_files.new.host) (g.H.Host.view c.commit.new.host) (g.H.Host.view c.delete_segments.new.host)
    c.args.manifest.now c.commit.new.manifest c.commit.ensures.number c.make_files.ensures.changes c.in_ok-commit.ensures.ok c.delete_segments.ensures.changes stands

pub returns-clause-listing : goal.returns-clause-listing
returns-clause-listing g c = subst (λ (es : List Edit). IsNext c.args.manifest.now.listing es c.commit.new.manifest.listing) c.in_ok-edits.ensures c.in_ok-commit.ensures.listing

pub returns-clause-changes : goal.returns-clause-changes
returns-clause-changes g c =
    in_flush_deleted c.args.manifest.now.number c.args.manifest.now.listing.floor c.args.numbers c.args.parts.now (g.H.Host.view c.args.host.now) (g.H.Host.view c.commit.new.host) (g.H.Host.view c.delete_segments.new.host)
    c.listing.result.now.floor (ap (λ (e : Listing). e.floor) c.listing.ensures.listing)
    (in_flush_listed c.args.manifest.now.number c.args.manifest.now.listing.floor c.args.numbers c.args.parts.now (g.H.Host.view c.args.host.now) (g.H.Host.view c.make_files.new.host) (g.H.Host.view c.commit.new.host) c.make_files.ensures.changes c.commit.ensures.changes)
    c.delete_segments.ensures.changes

pub returns-clause-manifest_room : goal.returns-clause-manifest_room
returns-clause-manifest_room g c =
    subst (λ k. Reaches (g.H.Host.view c.delete_segments.new.host) (manifest_name k) (c.commit.new.manifest.at + 1)) (sym c.commit.ensures.number)
    (manifest_room c.args.numbers c.args.parts.now c.args.manifest.now.number c.listing.result.now.floor (g.H.Host.view c.make_files.new.host) (g.H.Host.view c.commit.new.host) (g.H.Host.view c.delete_segments.new.host)
    c.commit.ensures.changes c.delete_segments.ensures.changes (c.commit.new.manifest.at + 1)
    (subst (λ k. Reaches (g.H.Host.view c.commit.new.host) (manifest_name k) (c.commit.new.manifest.at + 1)) c.commit.ensures.number c.in_ok-commit.ensures.room))

pub returns-clause-log_room : goal.returns-clause-log_room
returns-clause-log_room g c =
    subst (λ f. Reaches (g.H.Host.view c.delete_segments.new.host) f (c.in_ok-made.made.log.at + 1)) (sym c.in_ok-made.ensures.log_file)
    (log_room c.args.numbers c.args.parts.now c.args.manifest.now.number c.listing.result.now.floor (g.H.Host.view c.make_files.new.host) (g.H.Host.view c.commit.new.host) (g.H.Host.view c.delete_segments.new.host)
    c.commit.ensures.changes c.delete_segments.ensures.changes (c.in_ok-made.made.log.at + 1) (floor_within c.args.manifest.now.listing c.args.numbers c.args.parts.now c.requires.can.applies) c.in_ok-made.ensures.log_room)

pub returns-clause-files : goal.returns-clause-files
returns-clause-files g c =
    files_there c.args.numbers c.args.parts.now c.args.manifest.now.number c.listing.result.now.floor (g.H.Host.view c.make_files.new.host) (g.H.Host.view c.commit.new.host) (g.H.Host.view c.delete_segments.new.host)
    c.commit.ensures.changes c.delete_segments.ensures.changes (c.in_ok-made.made.log.at + 1)
    (floor_within c.args.manifest.now.listing c.args.numbers c.args.parts.now c.requires.can.applies) c.in_ok-made.ensures.there c.in_ok-made.ensures.log_room c.in_ok-delete_segments.ensures.gone
    c.args.manifest.now.listing.floor (ap (λ (e : Listing). e.floor) c.listing.ensures.listing)
