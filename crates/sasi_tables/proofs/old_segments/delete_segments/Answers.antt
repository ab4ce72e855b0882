use Rattle.std.proofs.Common.{arith, rules, sym, subst, ◌∙◌}
use Rattle.sasi_host.specs.View.{IsAbsent, IsThere}
use Rattle.sasi_host.specs.Disk.{Changes, FileChange, MaybeDeleted}
use Rattle.sasi_host.proofs.ChangeLaws.{then_same}
use Rattle.sasi_tables.specs.Flushing.{DeletesSegments}
use Rattle.sasi_tables.proofs.SegmentDeletions.{gone_on, left_on, none_deleted, one_deleted}
use Rattle.sasi_tables.proofs.old_segments.delete_segments.Goals as goal

pub loop-segment-init : goal.loop-segment-init
loop-segment-init g c = record {
  deletes = none_deleted (g.H.Host.view c.args.host.now) c.args.first c.args.floor;
  gone = λ segment above below. absurd (omega (arith, above, below));
  left = c.requires;
  disk = search rules;
  out = search rules;
  reads = search rules;
}

pub delete-requires : goal.delete-requires
delete-requires g c =
    subst (λ f. IsThere (g.H.Host.view c.loop-segment.host) f) (sym c.log.ensures) (c.loop-segment.invariant.left c.loop-segment.segment (omega arith) c.loop-segment-test.true)

pub returns-in_err-delete-clause-changes : goal.returns-in_err-delete-clause-changes
returns-in_err-delete-clause-changes g c =
    let before = g.H.Host.view c.loop-segment.host in
    let now = g.H.Host.view c.delete.new.self in
    let one = subst (λ f. Changes (FileChange f MaybeDeleted) before now) c.log.ensures c.delete.ensures.changes in
    one_deleted before now c.loop-segment.segment one (g.H.Host.view c.args.host.now) c.args.first c.args.floor (omega arith) c.loop-segment-test.true c.loop-segment.invariant.deletes

pub loop-segment-preserved : goal.loop-segment-preserved
loop-segment-preserved g c =
    let before = g.H.Host.view c.loop-segment.host in
    let now = g.H.Host.view c.delete.new.self in
    let one = subst (λ f. Changes (FileChange f MaybeDeleted) before now) c.log.ensures c.delete.ensures.changes in
    record {
      deletes = one_deleted before now c.loop-segment.segment one (g.H.Host.view c.args.host.now) c.args.first c.args.floor (omega arith) c.loop-segment-test.true c.loop-segment.invariant.deletes;
      gone = gone_on before now c.loop-segment.segment one c.args.first c.loop-segment.invariant.gone (subst (λ f. IsAbsent now f) c.log.ensures c.in_ok-delete.ensures.ok);
      left = left_on before now c.loop-segment.segment one c.args.floor c.loop-segment.invariant.left;
      disk = c.in_ok-delete.ensures.causes.ok ∙ c.loop-segment.invariant.disk;
      out = c.delete.ensures.causes.out ∙ c.loop-segment.invariant.out;
      reads = c.delete.ensures.causes.reads ∙ c.loop-segment.invariant.reads;
    }

pub returns-clause-changes : goal.returns-clause-changes
returns-clause-changes g c =
    then_same (g.H.Host.view c.args.host.now) (g.H.Host.view c.loop-segment.host) (g.H.Host.view c.sync_folder.new.self) (DeletesSegments c.args.first c.args.floor) c.loop-segment.invariant.deletes c.sync_folder.ensures.changes
