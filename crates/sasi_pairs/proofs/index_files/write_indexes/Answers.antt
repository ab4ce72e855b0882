use Rattle.std.proofs.Common.{subst}
use Rattle.sasi_host.specs.declared.name.FileName.{FileName}
use Rattle.sasi_host.specs.Disk.{AnyChange, Changes, FileChange, IsSynced}
use Rattle.sasi_indexwrite.specs.Files.{HoldsIndex}
use Rattle.sasi_indexwrite.specs.Stored.{stored}
use Rattle.sasi_pairs.proofs.CauseLaws.{write_quiet}
use Rattle.sasi_pairs.proofs.IndexLaws.{next_built, next_changes, next_gathered, written_more, written_none}
use Rattle.sasi_pairs.proofs.index_files.write_indexes.Goals as goal

pub loop-part-init : goal.loop-part-init
loop-part-init g c = written_none (g.H.Host.view c.args.host.now) c.args.number c.args.builders.items c.args.parts.now c.requires.built c.requires.gathered c.requires.defined c.requires.absent

pub write-requires-clause-built : goal.write-requires-clause-built
write-requires-clause-built g c =
    next_built (g.H.Host.view c.args.host.now) (g.H.Host.view c.loop-part.host) c.args.number c.args.builders.items c.loop-part.left.items c.args.parts.now c.loop-part.part-index c.loop-part.invariant
    _ c.loop-part-test.true c.take_builder-builder.new.builders.items c.take_builder-builder.result c.take_builder-builder.ensures

pub write-requires-clause-gathered : goal.write-requires-clause-gathered
write-requires-clause-gathered g c =
    next_gathered (g.H.Host.view c.args.host.now) (g.H.Host.view c.loop-part.host) c.args.number c.args.builders.items c.loop-part.left.items c.args.parts.now c.loop-part.part-index c.loop-part.invariant
    _ c.loop-part-test.true c.take_builder-builder.new.builders.items c.take_builder-builder.result c.take_builder-builder.ensures

pub returns-in_err-write-clause-changes : goal.returns-in_err-write-clause-changes
returns-in_err-write-clause-changes g c =
    next_changes (g.H.Host.view c.args.host.now) (g.H.Host.view c.loop-part.host) c.args.number c.args.builders.items c.loop-part.left.items c.args.parts.now c.loop-part.part-index c.loop-part.invariant
    _ c.loop-part-test.true c.take_builder-builder.new.builders.items c.take_builder-builder.result c.take_builder-builder.ensures (g.H.Host.view c.write.new.host)
    (subst (λ (n : FileName). Changes (FileChange n AnyChange) (g.H.Host.view c.loop-part.host) (g.H.Host.view c.write.new.host)) c.file_name.ensures c.write.ensures.changes)

pub loop-part-preserved : goal.loop-part-preserved
loop-part-preserved g c =
    written_more (g.H.Host.view c.args.host.now) (g.H.Host.view c.loop-part.host) c.args.number c.args.builders.items c.loop-part.left.items c.args.parts.now c.loop-part.part-index c.loop-part.invariant
    _ c.loop-part-test.true c.take_builder-builder.new.builders.items c.take_builder-builder.result c.take_builder-builder.ensures (g.H.Host.view c.write.new.host)
    (subst (λ (n : FileName). Changes (FileChange n AnyChange) (g.H.Host.view c.loop-part.host) (g.H.Host.view c.write.new.host)) c.file_name.ensures c.write.ensures.changes)
    c.requires.rising
    (subst (λ (n : FileName). HoldsIndex (g.H.Host.view c.write.new.host) n c.take_builder-builder.result.def.mode c.take_builder-builder.result.def.kind (stored c.take_builder-builder.result.def.mode c.take_builder-builder.result.postings)) c.file_name.ensures c.in_ok-write.ensures.ok)
    (subst (λ (n : FileName). IsSynced (g.H.Host.view c.write.new.host) n) c.file_name.ensures c.in_ok-write.ensures.synced)
    (write_quiet (g.H.Host.view c.loop-part.host) (g.H.Host.view c.write.new.host) c.in_ok-write.field-0 c.in_ok-write.ensures.causes)
