use Rattle.std.proofs.Common.{Err, rules, ◌≡◌, Option, ℕ, length, refl, ◌∙◌, subst, arith}
use Rattle.std.proofs.lemmas.Result.{err_from_is_err_and}
use Rattle.sasi_host.proofs.ChangeLaws.{then_same}
use Rattle.sasi_host.proofs.ChangeLaws as changes
use Rattle.sasi_host.specs.Disk.{Same}
use Rattle.sasi_host.specs.Names.{Folder}
use Rattle.sasi_scan.specs.Paging.{MovesReading, MovesWithin}
use Rattle.sasi_scan.specs.Sources.{AreMoved}
use Rattle.sasi_scan.proofs.Pages.{none_read, reads_joined, stops_on}
use Rattle.sasi_scan.proofs.Costs.{causes_behind, causes_memory, causes_of_fault, causes_ok, of_reads, reads_same}
use Rattle.sasi_scan.proofs.Advancing.{all_merged, at_head, at_source, moving_shown, no_false_moving, one_merged, one_more, still_can}
use Rattle.sasi_scan.proofs.sources.advance.Goals as goal

pub loop-at-init : goal.loop-at-init
loop-at-init g c = record { moved = (refl, refl); reads = λ p. none_read (g.H.Host.view c.args.host.now).files p c.args.sources.now.items (g.H.Host.view c.args.host.now).reads; changes = changes.stays _; disk = refl; out = refl; part = c.requires.unmerged; end = search rules }

pub advance_at-requires-clause-can : goal.advance_at-requires-clause-can
advance_at-requires-clause-can g c =
    let view = g.H.Host.view in
    let on = c.loop-at.invariant in
    still_can (view c.args.host.now) (view c.loop-at.host) c.args.maps.now c.args.key.now c.loop-at.at c.args.heads.now c.args.sources.now.items c.loop-at.heads c.loop-at.sources.items on.changes on.moved c.requires.can

pub advance_at-requires-clause-in_heads : goal.advance_at-requires-clause-in_heads
advance_at-requires-clause-in_heads g c =
    let view = g.H.Host.view in
    let on = c.loop-at.invariant in
    at_head (view c.args.host.now) (view c.loop-at.host) c.args.maps.now c.args.key.now c.loop-at.at c.args.heads.now c.args.sources.now.items c.loop-at.heads c.loop-at.sources.items on.changes on.moved c.requires.counted (omega (arith, on.end, c.loop-at-test.true))

pub advance_at-requires-clause-in_sources : goal.advance_at-requires-clause-in_sources
advance_at-requires-clause-in_sources g c =
    let view = g.H.Host.view in
    let on = c.loop-at.invariant in
    at_source (view c.args.host.now) (view c.loop-at.host) c.args.maps.now c.args.key.now c.loop-at.at c.args.heads.now c.args.sources.now.items c.loop-at.heads c.loop-at.sources.items on.changes on.moved (omega (arith, on.end, c.loop-at-test.true))

pub loop-at-preserved : goal.loop-at-preserved
loop-at-preserved g c =
    let view = g.H.Host.view in
    let on = c.loop-at.invariant in
    record {
      moved = one_more (view c.args.host.now) (view c.loop-at.host) c.args.maps.now c.args.key.now c.loop-at.at c.args.heads.now c.args.sources.now.items c.loop-at.heads c.loop-at.sources.items on.changes on.moved c.advance_at.new.heads c.advance_at.new.sources.items c.in_ok-head.ensures.moved;
      reads = λ p.
          reads_joined (view c.args.host.now).files p c.args.sources.now.items c.loop-at.sources.items c.advance_at.new.sources.items (view c.args.host.now).reads (view c.loop-at.host).reads (view c.advance_at.new.host).reads (on.reads p)
          (subst (λ (o : Option Folder). MovesReading o p c.loop-at.sources.items c.advance_at.new.sources.items (view c.loop-at.host).reads (view c.advance_at.new.host).reads) (reads_same (view c.args.host.now) (view c.loop-at.host) on.changes) (c.in_ok-head.ensures.reads p));
      changes = then_same _ _ _ Same on.changes c.advance_at.ensures.changes;
      disk = c.in_ok-head.ensures.causes.ok ∙ on.disk;
      out = c.advance_at.ensures.causes.out ∙ on.out;
      part = one_merged (view c.args.host.now).files c.args.maps.now c.args.key.now c.loop-at.at c.args.heads.now c.args.sources.now.items c.loop-at.heads c.loop-at.sources.items c.loop-at.part c.add_head.new.part c.in_ok-head.head on.moved (omega (arith, c.requires.counted, on.end, c.loop-at-test.true)) on.part c.in_ok-head.ensures.head c.in_ok-add_head.ensures;
      end = on.end;
    }

pub returns-in_err-head-clause-damaged : goal.returns-in_err-head-clause-damaged
returns-in_err-head-clause-damaged g c files types listed =
    let view = g.H.Host.view in
    let on = c.loop-at.invariant in
    let p = err_from_is_err_and c.from_residual.result c.from_residual.ensures.1 in
    rw (p.1, p.2) (moving_shown (view c.args.host.now) (view c.loop-at.host) c.args.maps.now c.args.key.now c.loop-at.at c.args.heads.now c.args.sources.now.items c.loop-at.heads c.loop-at.sources.items on.changes on.moved files types c.in_err-head.field-0.0 (omega (arith, on.end, c.loop-at-test.true)) c.in_err-head.ensures.damaged listed)

pub returns-in_err-head-clause-undamaged : goal.returns-in_err-head-clause-undamaged
returns-in_err-head-clause-undamaged g c partitioner lefts are =
    let view = g.H.Host.view in
    let on = c.loop-at.invariant in
    let p = err_from_is_err_and c.from_residual.result c.from_residual.ensures.1 in
    rw (p.1, p.2) (no_false_moving (view c.args.host.now) (view c.loop-at.host) c.args.maps.now c.args.key.now c.loop-at.at c.args.heads.now c.args.sources.now.items c.loop-at.heads c.loop-at.sources.items on.changes on.moved partitioner lefts c.in_err-head.field-0.0 (omega (arith, on.end, c.loop-at-test.true)) c.in_err-head.ensures.undamaged are)

pub returns-in_err-head-clause-changes : goal.returns-in_err-head-clause-changes
returns-in_err-head-clause-changes g c = then_same _ _ _ Same c.loop-at.invariant.changes c.advance_at.ensures.changes

pub returns-in_err-head-clause-causes : goal.returns-in_err-head-clause-causes
returns-in_err-head-clause-causes g c =
    let view = g.H.Host.view in
    let p = err_from_is_err_and c.from_residual.result c.from_residual.ensures.1 in
    rw (p.1, p.2) (causes_of_fault _ _ c.in_err-head.field-0.0 (causes_behind _ (view c.loop-at.host) _ (Err c.in_err-head.field-0.0) c.loop-at.invariant.disk c.loop-at.invariant.out (of_reads 2052 _ _ _ c.in_err-head.ensures.causes)))

pub returns-clause-moved : goal.returns-clause-moved
returns-clause-moved g c =
    let view = g.H.Host.view in
    let on = c.loop-at.invariant in
    let all : c.loop-at.at ≡ length c.args.sources.now.items = omega (arith, on.end, c.loop-at-test.false) in
    subst (λ (n : ℕ). AreMoved (view c.args.host.now).files c.args.maps.now c.args.key.now n c.args.heads.now c.args.sources.now.items c.loop-at.heads c.loop-at.sources.items) all on.moved

pub returns-clause-changes : goal.returns-clause-changes
returns-clause-changes g c = c.loop-at.invariant.changes

pub returns-clause-causes : goal.returns-clause-causes
returns-clause-causes g c = causes_ok _ _ _ c.loop-at.invariant.disk c.loop-at.invariant.out

pub returns-clause-reads : goal.returns-clause-reads
returns-clause-reads g c = c.loop-at.invariant.reads

pub returns-in_err-head-clause-reads : goal.returns-in_err-head-clause-reads
returns-in_err-head-clause-reads g c p paged =
    let view = g.H.Host.view in
    let on = c.loop-at.invariant in
    let q = err_from_is_err_and c.from_residual.result c.from_residual.ensures.1 in
    rw q.1 (stops_on (view c.args.host.now).files p c.args.sources.now.items c.loop-at.sources.items c.advance_at.new.sources.items (view c.args.host.now).reads (view c.loop-at.host).reads (view c.advance_at.new.host).reads c.advance_at.result (on.reads p)
    (subst (λ (o : Option Folder). MovesWithin o p c.loop-at.sources.items c.advance_at.new.sources.items (view c.loop-at.host).reads (view c.advance_at.new.host).reads c.advance_at.result) (reads_same (view c.args.host.now) (view c.loop-at.host) on.changes) (c.advance_at.ensures.reads p)) paged)

pub returns-clause-merged : goal.returns-clause-merged
returns-clause-merged g c =
    let on = c.loop-at.invariant in
    all_merged c.args.key.now c.args.heads.now c.loop-at.at c.loop-at.part (omega (arith, c.requires.counted, on.end, c.loop-at-test.false)) on.part

-- ---- no memory for what is merged

pub returns-in_err-add_head-clause-damaged : goal.returns-in_err-add_head-clause-damaged
returns-in_err-add_head-clause-damaged g c files types listed =
    let p = err_from_is_err_and c.from_residual-in_err-add_head.result c.from_residual-in_err-add_head.ensures.1 in
    rw (p.1, p.2) tt

pub returns-in_err-add_head-clause-undamaged : goal.returns-in_err-add_head-clause-undamaged
returns-in_err-add_head-clause-undamaged g c partitioner lefts are =
    let p = err_from_is_err_and c.from_residual-in_err-add_head.result c.from_residual-in_err-add_head.ensures.1 in
    rw (p.1, p.2) tt

pub returns-in_err-add_head-clause-changes : goal.returns-in_err-add_head-clause-changes
returns-in_err-add_head-clause-changes g c = then_same _ _ _ Same c.loop-at.invariant.changes c.advance_at.ensures.changes

pub returns-in_err-add_head-clause-causes : goal.returns-in_err-add_head-clause-causes
returns-in_err-add_head-clause-causes g c =
    let p = err_from_is_err_and c.from_residual-in_err-add_head.result c.from_residual-in_err-add_head.ensures.1 in
    rw (p.1, p.2) (causes_memory _ _ (c.in_ok-head.ensures.causes.ok ∙ c.loop-at.invariant.disk) (c.advance_at.ensures.causes.out ∙ c.loop-at.invariant.out))

pub returns-in_err-add_head-clause-reads : goal.returns-in_err-add_head-clause-reads
returns-in_err-add_head-clause-reads g c p paged =
    let view = g.H.Host.view in
    let on = c.loop-at.invariant in
    let q = err_from_is_err_and c.from_residual-in_err-add_head.result c.from_residual-in_err-add_head.ensures.1 in
    let all = reads_joined (view c.args.host.now).files p c.args.sources.now.items c.loop-at.sources.items c.advance_at.new.sources.items (view c.args.host.now).reads (view c.loop-at.host).reads (view c.advance_at.new.host).reads (on.reads p)
    (subst (λ (o : Option Folder). MovesReading o p c.loop-at.sources.items c.advance_at.new.sources.items (view c.loop-at.host).reads (view c.advance_at.new.host).reads) (reads_same (view c.args.host.now) (view c.loop-at.host) on.changes) (c.in_ok-head.ensures.reads p)) paged in
    rw q.1 (omega (arith, all.reads))
