use Rattle.std.proofs.Common.{List, subst, sym}
use Rattle.std.specs.List.{AllByRecursion}
use Rattle.sasi_layout.specs.Classes.{KnowsClasses, KnowsIndexes}
use Rattle.sasi_types.specs.declared.class.Class.{Class}
use Rattle.std.proofs.lemmas.Result.{err_from_is_err_and, on_ok_weaker}
use Rattle.sasi_layout.specs.Statements.{are_full, flush_where}
use Rattle.sasi_tables.specs.TablesView.{memory_of}
use Rattle.sasi_tables.proofs.Composition.{put_alone, put_then}
use Rattle.sasi_tables.proofs.KnownThen.{knows_then}
use Rattle.sasi_tables.proofs.PinnedMaps.{pinned_again}
use Rattle.sasi_tables.proofs.writes.write.Goals as goal

pub returns-in_err-put-clause-makes : goal.returns-in_err-put-clause-makes
returns-in_err-put-clause-makes g c =
    let p = err_from_is_err_and c.from_residual.result c.from_residual.ensures.1 in
    rw (p.1, p.2) (put_alone c.args.mutation (flush_where are_full c.args.mutation.table) (g.H.Host.view c.args.host.now) (g.H.Host.view c.put.new.host) (memory_of c.args.parts.now) (memory_of c.put.new.parts) _ c.in_err-put.ensures.makes)

pub flush_full-requires-clause-classes : goal.flush_full-requires-clause-classes
flush_full-requires-clause-classes g c =
    let e = c.in_ok-put.ensures in
    subst (λ (kinds : List Class). KnowsClasses kinds (memory_of c.put.new.parts)) (sym e.kinds) (subst (AllByRecursion (KnowsIndexes _)) (sym e.knows.definitions_are) c.requires.classes)

pub returns-clause-makes : goal.returns-clause-makes
returns-clause-makes g c =
    put_then c.args.mutation (flush_where are_full c.args.mutation.table) _ (g.H.Host.view c.args.host.now) (g.H.Host.view c.put.new.host) (g.H.Host.view c.flush_full.new.host) (memory_of c.args.parts.now) (memory_of c.put.new.parts) (memory_of c.flush_full.new.parts) c.flush_full.result
    c.in_ok-put.ensures.makes c.flush_full.ensures.makes

pub returns-clause-knows : goal.returns-clause-knows
returns-clause-knows g c =
    let put = c.in_ok-put.ensures.knows in
    knows_then (memory_of c.flush_full.new.parts) _ _ _ _ c.flush_full.result put.definitions_are put.timestamp_is c.flush_full.ensures.knows

pub returns-clause-pinned : goal.returns-clause-pinned
returns-clause-pinned g c =
    let views = c.args.views.now in
    on_ok_weaker c.flush_full.result (pinned_again views c.args.parts.now c.put.new.parts c.flush_full.new.parts (c.in_ok-put.ensures.pinned views)) c.flush_full.ensures.pinned
