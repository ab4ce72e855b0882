use Rattle.std.proofs.Common.{List, ◌∙◌, sym, subst}
use Rattle.sasi_types.specs.declared.tree.Pair.{Pair}
use Rattle.sasi_host.specs.Disk.{IsSynced}
use Rattle.sasi_host.proofs.ChangeLaws.{touches_on}
use Rattle.sasi_tokentree.specs.Format.{IsRising}
use Rattle.sasi_indexwrite.specs.Format.{header_bytes}
use Rattle.sasi_indexwrite.specs.TermsSoFar.{gathered}
use Rattle.sasi_indexwrite.proofs.Appends.{of_file}
use Rattle.sasi_indexwrite.proofs.Grouping.{gathered_is}
use Rattle.sasi_indexwrite.proofs.Making.{begin_room, begin_written, index_made}
use Rattle.sasi_indexwrite.proofs.write.write_index.Goals as goal

pub add_postings-requires-clause-room : goal.add_postings-requires-clause-room
add_postings-requires-clause-room g c =
    begin_room (g.H.Host.view c.create.new.host) c.new-writer.result c.args.file c.args.def.now.mode c.args.def.now.kind c.new-writer.ensures.file c.new-writer.ensures.end c.in_ok-create.ensures.ok

pub returns-in_err-add_postings-clause-changes : goal.returns-in_err-add_postings-clause-changes
returns-in_err-add_postings-clause-changes g c =
    touches_on _ _ _ c.args.file c.create.ensures.changes (of_file _ _ c.args.file c.new-writer.result.trees.file c.new-writer.ensures.file c.add_postings.ensures.changes)

pub end_file-requires-clause-rising : goal.end_file-requires-clause-rising
end_file-requires-clause-rising g c =
    let is = gathered_is c.args.gather.postings c.requires.gathered in
    subst (λ (l : List Pair). IsRising l) (sym c.in_ok-add_postings.ensures.keeps.spill_is) is.spill

pub returns-in_err-end_file-clause-changes : goal.returns-in_err-end_file-clause-changes
returns-in_err-end_file-clause-changes g c =
    touches_on _ _ _ c.args.file (touches_on _ _ _ c.args.file c.create.ensures.changes (of_file _ _ c.args.file c.new-writer.result.trees.file c.new-writer.ensures.file c.add_postings.ensures.changes))
    (of_file _ _ c.args.file c.add_postings.new.writer.trees.file (c.add_postings.ensures.file ∙ c.new-writer.ensures.file) c.end_file.ensures.changes)

pub returns-clause-changes : goal.returns-clause-changes
returns-clause-changes g c =
    touches_on _ _ _ c.args.file (touches_on _ _ _ c.args.file c.create.ensures.changes (of_file _ _ c.args.file c.new-writer.result.trees.file c.new-writer.ensures.file c.add_postings.ensures.changes))
    (of_file _ _ c.args.file c.add_postings.new.writer.trees.file (c.add_postings.ensures.file ∙ c.new-writer.ensures.file) c.end_file.ensures.changes)

pub returns-clause-synced : goal.returns-clause-synced
returns-clause-synced g c = subst (λ f. IsSynced (g.H.Host.view c.end_file.new.host) f) (c.add_postings.ensures.file ∙ c.new-writer.ensures.file) c.in_ok-end_file.ensures.synced

pub returns-clause-ok : goal.returns-clause-ok
returns-clause-ok g c =
    let postings = c.args.gather.postings in
    let header = header_bytes c.args.def.now.mode c.args.def.now.kind in
    let first = begin_written (g.H.Host.view c.create.new.host) c.new-writer.result c.args.file c.args.def.now.mode c.args.def.now.kind c.new-writer.ensures.file c.new-writer.ensures.end c.new-writer.ensures.none c.new-writer.ensures.blocks
    c.new-writer.ensures.groups c.new-writer.ensures.table c.new-writer.ensures.common c.in_ok-create.ensures.ok in
    index_made (g.H.Host.view c.end_file.new.host) c.args.file c.args.def.now.mode c.args.def.now.kind postings c.add_postings.new.writer c.add_postings.new.spill c.requires.kind c.requires.gathered
    (c.add_postings.ensures.file ∙ c.new-writer.ensures.file) (c.add_postings.ensures.mode ∙ c.new-writer.ensures.mode) c.in_ok-add_postings.ensures.keeps
    (c.in_ok-end_file.ensures.ok header (gathered postings).closed (c.in_ok-add_postings.ensures.ok header first))
