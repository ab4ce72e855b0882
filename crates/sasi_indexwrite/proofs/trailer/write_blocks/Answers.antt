use Rattle.std.proofs.Common.{◌∙◌}
use Rattle.sasi_host.specs.Disk.{InPlace}
use Rattle.sasi_host.proofs.ChangeLaws.{touches, touches_on}
use Rattle.sasi_host.proofs.ContentLaws.{told_before}
use Rattle.sasi_tokentree.specs.Writes.{KeepsBefore}
use Rattle.sasi_indexwrite.proofs.Endings.{blocks_end}
use Rattle.sasi_indexwrite.proofs.trailer.write_blocks.Goals as goal

pub returns-in_err-written-clause-changes : goal.returns-in_err-written-clause-changes
returns-in_err-written-clause-changes g c = touches _ _ c.args.file (InPlace (KeepsBefore c.args.spilled.blocks_at)) c.finish.ensures.changes

pub returns-in_err-at-clause-changes : goal.returns-in_err-at-clause-changes
returns-in_err-at-clause-changes g c =
    touches_on _ _ _ c.args.file (touches _ _ c.args.file (InPlace (KeepsBefore c.args.spilled.blocks_at)) c.finish.ensures.changes) c.end_of.ensures.changes

pub returns-in_err-bytes-clause-changes : goal.returns-in_err-bytes-clause-changes
returns-in_err-bytes-clause-changes g c =
    touches_on _ _ _ c.args.file (touches _ _ c.args.file (InPlace (KeepsBefore c.args.spilled.blocks_at)) c.finish.ensures.changes) c.end_of.ensures.changes

pub returns-in_err-append-clause-changes : goal.returns-in_err-append-clause-changes
returns-in_err-append-clause-changes g c =
    touches_on _ _ _ c.args.file (touches_on _ _ _ c.args.file (touches _ _ c.args.file (InPlace (KeepsBefore c.args.spilled.blocks_at)) c.finish.ensures.changes) c.end_of.ensures.changes) c.append.ensures.changes

pub returns-clause-changes : goal.returns-clause-changes
returns-clause-changes g c =
    touches_on _ _ _ c.args.file (touches_on _ _ _ c.args.file (touches _ _ c.args.file (InPlace (KeepsBefore c.args.spilled.blocks_at)) c.finish.ensures.changes) c.end_of.ensures.changes) c.append.ensures.changes

pub returns-clause-ok : goal.returns-clause-ok
returns-clause-ok g c bytes entries mode long holds pushed table_of =
    blocks_end (g.H.Host.view c.args.host.now) (g.H.Host.view c.finish.new.host) (g.H.Host.view c.end_of.new.host) (g.H.Host.view c.append.new.host) c.args.file c.args.spilled.blocks_at c.in_ok-written.written
    c.args.spilled.tree bytes entries mode c.args.table.now c.in_ok-at.at c.table_place.result c.deref.result.now long (c.in_ok-written.ensures.written entries pushed) (c.in_ok-written.ensures.ok entries pushed)
    c.in_ok-at.ensures.at c.in_ok-at.ensures.ok
    (λ told. told_before _ _ _ c.end_of.ensures.changes (told_before _ _ _ c.append.ensures.changes told)) c.table_place.ensures (c.deref.ensures.value ∙ c.in_ok-bytes.ensures) table_of c.in_ok-append.ensures.ok holds
