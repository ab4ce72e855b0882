use Rattle.std.proofs.Common.{◌+◌, ◌≤◌, ◌^◌, List, length, subst, sym, arith}
use Rattle.std.specs.Prelude.{Some}
use Rattle.std.proofs.lemmas.Result.{err_from_is_err_and}
use Rattle.sasi_manifest.specs.declared.edit.Edit.{Edit}
use Rattle.sasi_manifest.specs.Edits.{AllApply, encoded}
use Rattle.sasi_manifest.specs.Format.{IsNext}
use Rattle.sasi_compact.specs.Tasks.{content_of}
use Rattle.sasi_compact.proofs.Finishing.{kept_as, kept_listed, kept_there, lists_made, lists_whole, nothing_made, only_listed, only_made, room_made, stands_made}
use Rattle.sasi_compact.proofs.LastUnit.{adds_output, all_listed, can_seal, edits_are, file_is, has_written, list_fails, no_memory, parts_absent, parts_defined, push_handed, sealed_is, sealed_within, some_written}
use Rattle.sasi_compact.proofs.task.CompactTask.finish.Goals as goal

-- ---- before anything is made

pub returns-in_err-file-clause-whole : goal.returns-in_err-file-clause-whole
returns-in_err-file-clause-whole g c next passed is stands on =
    let v = g.H.Host.view c.args.host.now in
    let m = c.args.manifest.now in
    let k = c.args.self.compaction in
    lists_made v v m.number k c.args.parts.now (nothing_made v m.number k c.args.parts.now) m.listing next (content_of passed) m.at (g.met.H.Host.sound c.args.host.now) stands

pub returns-in_err-file-clause-changes : goal.returns-in_err-file-clause-changes
returns-in_err-file-clause-changes g c =
    let v = g.H.Host.view c.args.host.now in
    let m = c.args.manifest.now in
    let k = c.args.self.compaction in
    only_made v v m.number k c.args.parts.now (nothing_made v m.number k c.args.parts.now)

pub returns-in_err-file-clause-causes : goal.returns-in_err-file-clause-causes
returns-in_err-file-clause-causes g c =
    let q = err_from_is_err_and c.from_residual.result c.from_residual.ensures.1 in
    rw (q.1, q.2) (no_memory _)

pub returns-in_err-listed-clause-whole : goal.returns-in_err-listed-clause-whole
returns-in_err-listed-clause-whole g c next passed is stands on =
    let v = g.H.Host.view c.args.host.now in
    let m = c.args.manifest.now in
    let k = c.args.self.compaction in
    lists_made v v m.number k c.args.parts.now (nothing_made v m.number k c.args.parts.now) m.listing next (content_of passed) m.at (g.met.H.Host.sound c.args.host.now) stands

pub returns-in_err-listed-clause-changes : goal.returns-in_err-listed-clause-changes
returns-in_err-listed-clause-changes g c =
    let v = g.H.Host.view c.args.host.now in
    let m = c.args.manifest.now in
    let k = c.args.self.compaction in
    only_made v v m.number k c.args.parts.now (nothing_made v m.number k c.args.parts.now)

pub returns-in_err-listed-clause-causes : goal.returns-in_err-listed-clause-causes
returns-in_err-listed-clause-causes g c =
    let q = err_from_is_err_and c.from_residual-in_err-listed.result c.from_residual-in_err-listed.ensures.1 in
    rw (q.1, q.2) (no_memory _)

pub returns-in_err-edits-clause-whole : goal.returns-in_err-edits-clause-whole
returns-in_err-edits-clause-whole g c next passed is stands on =
    let v = g.H.Host.view c.args.host.now in
    let m = c.args.manifest.now in
    let k = c.args.self.compaction in
    lists_made v v m.number k c.args.parts.now (nothing_made v m.number k c.args.parts.now) m.listing next (content_of passed) m.at (g.met.H.Host.sound c.args.host.now) stands

pub returns-in_err-edits-clause-changes : goal.returns-in_err-edits-clause-changes
returns-in_err-edits-clause-changes g c =
    let v = g.H.Host.view c.args.host.now in
    let m = c.args.manifest.now in
    let k = c.args.self.compaction in
    only_made v v m.number k c.args.parts.now (nothing_made v m.number k c.args.parts.now)

pub returns-in_err-edits-clause-causes : goal.returns-in_err-edits-clause-causes
returns-in_err-edits-clause-causes g c =
    let q = err_from_is_err_and c.from_residual-in_err-edits.result c.from_residual-in_err-edits.ensures.1 in
    rw (q.1, q.2) (no_memory _)

-- ---- while the files are made

pub seal-requires-clause-some : goal.seal-requires-clause-some
seal-requires-clause-some g c = (can_seal (g.H.Host.view c.args.host.now) c.args.self.compaction c.args.self.output c.ready_pairs-pairs.result c.requires.can.files c.requires.ready c.ready_pairs-pairs.ensures).some

pub seal-requires-clause-defined : goal.seal-requires-clause-defined
seal-requires-clause-defined g c =
    let v = g.H.Host.view c.args.host.now in
    let can = can_seal v c.args.self.compaction c.args.self.output c.ready_pairs-pairs.result c.requires.can.files c.requires.ready c.ready_pairs-pairs.ensures in
    parts_defined v c.args.self.compaction c.ready_pairs-pairs.result can c.args.parts.now c.requires.parts.defined

pub seal-requires-clause-rising : goal.seal-requires-clause-rising
seal-requires-clause-rising g c = c.requires.parts.rising

pub seal-requires-clause-absent : goal.seal-requires-clause-absent
seal-requires-clause-absent g c =
    let v = g.H.Host.view c.args.host.now in
    let can = can_seal v c.args.self.compaction c.args.self.output c.ready_pairs-pairs.result c.requires.can.files c.requires.ready c.ready_pairs-pairs.ensures in
    parts_absent v c.args.self.compaction c.ready_pairs-pairs.result can c.args.parts.now c.requires.parts.absent

pub seal-requires-clause-room : goal.seal-requires-clause-room
seal-requires-clause-room g c = (can_seal (g.H.Host.view c.args.host.now) c.args.self.compaction c.args.self.output c.ready_pairs-pairs.result c.requires.can.files c.requires.ready c.ready_pairs-pairs.ensures).room

pub seal-requires-clause-usable : goal.seal-requires-clause-usable
seal-requires-clause-usable g c = (can_seal (g.H.Host.view c.args.host.now) c.args.self.compaction c.args.self.output c.ready_pairs-pairs.result c.requires.can.files c.requires.ready c.ready_pairs-pairs.ensures).usable

pub returns-in_err-sealed-clause-whole : goal.returns-in_err-sealed-clause-whole
returns-in_err-sealed-clause-whole g c next passed is stands on =
    let v = g.H.Host.view c.args.host.now in
    let w = g.H.Host.view c.seal.new.host in
    let m = c.args.manifest.now in
    let k = c.args.self.compaction in
    let can = can_seal v k c.args.self.output c.ready_pairs-pairs.result c.requires.can.files c.requires.ready c.ready_pairs-pairs.ensures in
    lists_made v w m.number k c.args.parts.now (sealed_within v k c.ready_pairs-pairs.result can c.args.parts.now w c.seal.ensures.changes) m.listing next (content_of passed) m.at (g.met.H.Host.sound c.args.host.now) stands

pub returns-in_err-sealed-clause-changes : goal.returns-in_err-sealed-clause-changes
returns-in_err-sealed-clause-changes g c =
    let v = g.H.Host.view c.args.host.now in
    let w = g.H.Host.view c.seal.new.host in
    let k = c.args.self.compaction in
    let can = can_seal v k c.args.self.output c.ready_pairs-pairs.result c.requires.can.files c.requires.ready c.ready_pairs-pairs.ensures in
    only_made v w c.args.manifest.now.number k c.args.parts.now (sealed_within v k c.ready_pairs-pairs.result can c.args.parts.now w c.seal.ensures.changes)

pub returns-in_err-sealed-clause-causes : goal.returns-in_err-sealed-clause-causes
returns-in_err-sealed-clause-causes g c =
    let q = err_from_is_err_and c.from_residual-in_err-sealed.result c.from_residual-in_err-sealed.ensures.1 in
    rw (q.1, q.2) (push_handed _ _ c.in_err-sealed.field-0.0 c.in_err-sealed.ensures.causes)

-- ---- while the manifest gets its record

pub commit-requires-clause-adds : goal.commit-requires-clause-adds
commit-requires-clause-adds g c =
    let v = g.H.Host.view c.args.host.now in
    let k = c.args.self.compaction in
    let can = can_seal v k c.args.self.output c.ready_pairs-pairs.result c.requires.can.files c.requires.ready c.ready_pairs-pairs.ensures in
    let same = edits_are c.args.manifest.now.listing c.listing.result.now c.args.table k c.args.parts.now c.in_ok-listed.listed c.in_ok-edits.edits c.listing.ensures.listing (file_is c.args.self.compaction c.args.parts.now c.as_slice-2.result.now c.in_ok-listed.listed c.as_slice-2.ensures c.in_ok-listed.ensures) c.in_ok-edits.ensures in
    adds_output c.args.manifest.now.listing c.args.table k c.args.parts.now c.in_ok-sealed.sealed c.in_ok-edits.edits (sealed_is v k c.ready_pairs-pairs.result can c.args.parts.now c.in_ok-sealed.sealed c.in_ok-sealed.ensures.sealed) same

pub commit-requires-clause-room : goal.commit-requires-clause-room
commit-requires-clause-room g c =
    let v = g.H.Host.view c.args.host.now in
    let w = g.H.Host.view c.seal.new.host in
    let k = c.args.self.compaction in
    let can = can_seal v k c.args.self.output c.ready_pairs-pairs.result c.requires.can.files c.requires.ready c.ready_pairs-pairs.ensures in
    room_made v w c.args.manifest.now.number k c.args.parts.now (sealed_within v k c.ready_pairs-pairs.result can c.args.parts.now w c.seal.ensures.changes) (c.args.manifest.now.at + 1) c.requires.lists.room

pub commit-requires-clause-usable : goal.commit-requires-clause-usable
commit-requires-clause-usable g c = c.requires.lists.usable

pub commit-requires-clause-apply : goal.commit-requires-clause-apply
commit-requires-clause-apply g c =
    let same = edits_are c.args.manifest.now.listing c.listing.result.now c.args.table c.args.self.compaction c.args.parts.now c.in_ok-listed.listed c.in_ok-edits.edits c.listing.ensures.listing (file_is c.args.self.compaction c.args.parts.now c.as_slice-2.result.now c.in_ok-listed.listed c.as_slice-2.ensures c.in_ok-listed.ensures) c.in_ok-edits.ensures in
    subst (λ (es : List Edit). AllApply (Some c.args.manifest.now.listing) es) (sym same) c.requires.lists.applies

pub commit-requires-clause-some : goal.commit-requires-clause-some
commit-requires-clause-some g c =
    let same = edits_are c.args.manifest.now.listing c.listing.result.now c.args.table c.args.self.compaction c.args.parts.now c.in_ok-listed.listed c.in_ok-edits.edits c.listing.ensures.listing (file_is c.args.self.compaction c.args.parts.now c.as_slice-2.result.now c.in_ok-listed.listed c.as_slice-2.ensures c.in_ok-listed.ensures) c.in_ok-edits.ensures in
    subst (λ (es : List Edit). 1 ≤ length es) (sym same) (omega arith)

pub commit-requires-clause-short : goal.commit-requires-clause-short
commit-requires-clause-short g c =
    let same = edits_are c.args.manifest.now.listing c.listing.result.now c.args.table c.args.self.compaction c.args.parts.now c.in_ok-listed.listed c.in_ok-edits.edits c.listing.ensures.listing (file_is c.args.self.compaction c.args.parts.now c.as_slice-2.result.now c.in_ok-listed.listed c.as_slice-2.ensures c.in_ok-listed.ensures) c.in_ok-edits.ensures in
    subst (λ (es : List Edit). length (encoded es) ≤ 2 ^ 30) (sym same) c.requires.lists.short

pub returns-in_err-commit-clause-whole : goal.returns-in_err-commit-clause-whole
returns-in_err-commit-clause-whole g c next passed is stands on =
    let v = g.H.Host.view c.args.host.now in
    let w = g.H.Host.view c.seal.new.host in
    let d = g.H.Host.view c.commit.new.host in
    let m = c.args.manifest.now in
    let k = c.args.self.compaction in
    let can = can_seal v k c.args.self.output c.ready_pairs-pairs.result c.requires.can.files c.requires.ready c.ready_pairs-pairs.ensures in
    let made = sealed_within v k c.ready_pairs-pairs.result can c.args.parts.now w c.seal.ensures.changes in
    let same = edits_are m.listing c.listing.result.now c.args.table k c.args.parts.now c.in_ok-listed.listed c.in_ok-edits.edits c.listing.ensures.listing (file_is c.args.self.compaction c.args.parts.now c.as_slice-2.result.now c.in_ok-listed.listed c.as_slice-2.ensures c.in_ok-listed.ensures) c.in_ok-edits.ensures in
    let kept = kept_as w c.ready_pairs-pairs.result k c.args.parts.now (content_of passed) can.file can.partitioner can.indexes (c.in_ok-sealed.ensures.durable (content_of passed) (has_written v k c.args.self.output c.ready_pairs-pairs.result c.ready_pairs-pairs.ensures passed on)) in
    lists_whole v w m.number k c.args.parts.now made d m.listing next (content_of passed) m.at (g.met.H.Host.sound c.args.host.now) (g.met.H.Host.sound c.seal.new.host) stands kept
    (c.commit.ensures.any_moment next (subst (λ (es : List Edit). IsNext m.listing es next) (sym same) is) (stands_made v w m.number k c.args.parts.now made m.at m.listing stands))

pub returns-in_err-commit-clause-err : goal.returns-in_err-commit-clause-err
returns-in_err-commit-clause-err g c =
    let q = err_from_is_err_and c.from_residual-in_err-commit.result c.from_residual-in_err-commit.ensures.1 in
    rw q.1 c.in_err-commit.ensures.err

pub returns-in_err-commit-clause-changes : goal.returns-in_err-commit-clause-changes
returns-in_err-commit-clause-changes g c =
    let v = g.H.Host.view c.args.host.now in
    let w = g.H.Host.view c.seal.new.host in
    let k = c.args.self.compaction in
    let can = can_seal v k c.args.self.output c.ready_pairs-pairs.result c.requires.can.files c.requires.ready c.ready_pairs-pairs.ensures in
    only_listed v w c.args.manifest.now.number k c.args.parts.now (sealed_within v k c.ready_pairs-pairs.result can c.args.parts.now w c.seal.ensures.changes) (g.H.Host.view c.commit.new.host) c.commit.ensures.changes

pub returns-in_err-commit-clause-causes : goal.returns-in_err-commit-clause-causes
returns-in_err-commit-clause-causes g c =
    let sealed = c.in_ok-sealed.ensures.causes in
    let q = err_from_is_err_and c.from_residual-in_err-commit.result c.from_residual-in_err-commit.ensures.1 in
    rw (q.1, q.2) (list_fails _ (g.H.Host.view c.seal.new.host) _ c.in_err-commit.field-0.0 sealed.ok sealed.out sealed.reads c.in_err-commit.ensures.causes)

-- ---- the output is listed

pub returns-clause-file : goal.returns-clause-file
returns-clause-file g c = file_is c.args.self.compaction c.args.parts.now c.as_slice.result.now c.in_ok-file.file c.as_slice.ensures c.in_ok-file.ensures

pub returns-clause-whole : goal.returns-clause-whole
returns-clause-whole g c next passed is stands on =
    let v = g.H.Host.view c.args.host.now in
    let w = g.H.Host.view c.seal.new.host in
    let d = g.H.Host.view c.commit.new.host in
    let m = c.args.manifest.now in
    let k = c.args.self.compaction in
    let can = can_seal v k c.args.self.output c.ready_pairs-pairs.result c.requires.can.files c.requires.ready c.ready_pairs-pairs.ensures in
    let made = sealed_within v k c.ready_pairs-pairs.result can c.args.parts.now w c.seal.ensures.changes in
    let same = edits_are m.listing c.listing.result.now c.args.table k c.args.parts.now c.in_ok-listed.listed c.in_ok-edits.edits c.listing.ensures.listing (file_is c.args.self.compaction c.args.parts.now c.as_slice-2.result.now c.in_ok-listed.listed c.as_slice-2.ensures c.in_ok-listed.ensures) c.in_ok-edits.ensures in
    let kept = kept_as w c.ready_pairs-pairs.result k c.args.parts.now (content_of passed) can.file can.partitioner can.indexes (c.in_ok-sealed.ensures.durable (content_of passed) (has_written v k c.args.self.output c.ready_pairs-pairs.result c.ready_pairs-pairs.ensures passed on)) in
    lists_whole v w m.number k c.args.parts.now made d m.listing next (content_of passed) m.at (g.met.H.Host.sound c.args.host.now) (g.met.H.Host.sound c.seal.new.host) stands kept
    (c.commit.ensures.any_moment next (subst (λ (es : List Edit). IsNext m.listing es next) (sym same) is) (stands_made v w m.number k c.args.parts.now made m.at m.listing stands))

pub returns-clause-kept : goal.returns-clause-kept
returns-clause-kept g c passed on =
    let v = g.H.Host.view c.args.host.now in
    let w = g.H.Host.view c.seal.new.host in
    let k = c.args.self.compaction in
    let can = can_seal v k c.args.self.output c.ready_pairs-pairs.result c.requires.can.files c.requires.ready c.ready_pairs-pairs.ensures in
    kept_listed w (g.H.Host.view c.commit.new.host) c.args.manifest.now.number k c.args.parts.now (content_of passed) c.commit.ensures.changes
    (kept_as w c.ready_pairs-pairs.result k c.args.parts.now (content_of passed) can.file can.partitioner can.indexes (c.in_ok-sealed.ensures.durable (content_of passed) (has_written v k c.args.self.output c.ready_pairs-pairs.result c.ready_pairs-pairs.ensures passed on)))

pub returns-clause-there : goal.returns-clause-there
returns-clause-there g c =
    let v = g.H.Host.view c.args.host.now in
    let w = g.H.Host.view c.seal.new.host in
    let d = g.H.Host.view c.commit.new.host in
    let k = c.args.self.compaction in
    let can = can_seal v k c.args.self.output c.ready_pairs-pairs.result c.requires.can.files c.requires.ready c.ready_pairs-pairs.ensures in
    let some = some_written v k c.args.self.output c.ready_pairs-pairs.result c.requires.can.files c.ready_pairs-pairs.ensures in
    kept_there d (g.met.H.Host.sound c.commit.new.host) k some.0 c.args.parts.now
    (kept_listed w d c.args.manifest.now.number k c.args.parts.now some.0 c.commit.ensures.changes (kept_as w c.ready_pairs-pairs.result k c.args.parts.now some.0 can.file can.partitioner can.indexes (c.in_ok-sealed.ensures.durable some.0 some.1)))

pub returns-clause-listing : goal.returns-clause-listing
returns-clause-listing g c =
    let m = c.args.manifest.now in
    let same = edits_are m.listing c.listing.result.now c.args.table c.args.self.compaction c.args.parts.now c.in_ok-listed.listed c.in_ok-edits.edits c.listing.ensures.listing (file_is c.args.self.compaction c.args.parts.now c.as_slice-2.result.now c.in_ok-listed.listed c.as_slice-2.ensures c.in_ok-listed.ensures) c.in_ok-edits.ensures in
    subst (λ (es : List Edit). IsNext m.listing es c.commit.new.manifest.listing) same c.in_ok-commit.ensures.listing

pub returns-clause-stands : goal.returns-clause-stands
returns-clause-stands g c stands =
    let v = g.H.Host.view c.args.host.now in
    let w = g.H.Host.view c.seal.new.host in
    let m = c.args.manifest.now in
    let k = c.args.self.compaction in
    let can = can_seal v k c.args.self.output c.ready_pairs-pairs.result c.requires.can.files c.requires.ready c.ready_pairs-pairs.ensures in
    c.in_ok-commit.ensures.ok (stands_made v w m.number k c.args.parts.now (sealed_within v k c.ready_pairs-pairs.result can c.args.parts.now w c.seal.ensures.changes) m.at m.listing stands)

pub returns-clause-changes : goal.returns-clause-changes
returns-clause-changes g c =
    let v = g.H.Host.view c.args.host.now in
    let w = g.H.Host.view c.seal.new.host in
    let k = c.args.self.compaction in
    let can = can_seal v k c.args.self.output c.ready_pairs-pairs.result c.requires.can.files c.requires.ready c.ready_pairs-pairs.ensures in
    only_listed v w c.args.manifest.now.number k c.args.parts.now (sealed_within v k c.ready_pairs-pairs.result can c.args.parts.now w c.seal.ensures.changes) (g.H.Host.view c.commit.new.host) c.commit.ensures.changes

pub returns-clause-causes : goal.returns-clause-causes
returns-clause-causes g c =
    let sealed = c.in_ok-sealed.ensures.causes in
    let listed = c.in_ok-commit.ensures.causes in
    all_listed _ (g.H.Host.view c.seal.new.host) _ _ sealed.ok sealed.out sealed.reads listed.ok listed.out listed.reads
