use Rattle.std.proofs.Common.{List, sym, subst}
use Rattle.std.proofs.lemmas.Result.{err_from_is_err_and}
use Rattle.sasi_types.specs.declared.class.Class.{Class}
use Rattle.sasi_tasks.specs.Running.{KnowsTasks}
use Rattle.sasi_tasks.proofs.Compacted.{known_then, whole_first, whole_second, whole_third}
use Rattle.sasi_tasks.proofs.units.compact.Goals as goal

pub returns-in_err-complete-clause-makes : goal.returns-in_err-complete-clause-makes
returns-in_err-complete-clause-makes g c =
    let p = err_from_is_err_and c.from_residual.result c.from_residual.ensures.1 in
    rw (p.1, p.2) (whole_first c.args.views.now c.args.table (g.H.Host.view c.args.host.now) (g.H.Host.view c.complete.new.host) c.args.parts.now c.complete.new.parts c.args.tasks.now.items c.complete.new.tasks.items c.in_err-complete.field-0.0 c.in_err-complete.ensures.makes)

pub returns-in_err-begin-clause-makes : goal.returns-in_err-begin-clause-makes
returns-in_err-begin-clause-makes g c =
    let p = err_from_is_err_and c.from_residual-in_err-begin.result c.from_residual-in_err-begin.ensures.1 in
    let first = c.in_ok-complete.ensures.makes in
    rw (p.1, p.2) (whole_second c.args.views.now c.args.table (g.H.Host.view c.args.host.now) (g.H.Host.view c.complete.new.host) c.args.parts.now c.complete.new.parts c.args.tasks.now.items c.complete.new.tasks.items first
    c.begin.new.parts c.begin.new.tasks.items c.in_err-begin.field-0.0 (c.in_err-begin.ensures.makes c.args.views.now first.ready))

pub complete-requires-2-clause-classes : goal.complete-requires-2-clause-classes
complete-requires-2-clause-classes g c =
    let first = c.in_ok-complete.ensures.makes in
    subst (λ (kinds : List Class). KnowsTasks kinds c.begin.new.tasks.items) (sym c.complete.ensures.kinds)
    (known_then c.args.views.now c.args.table (g.H.Host.view c.args.host.now) (g.H.Host.view c.complete.new.host) c.args.parts.now c.complete.new.parts c.args.tasks.now.items c.complete.new.tasks.items first
    c.begin.new.parts c.begin.new.tasks.items (c.in_ok-begin.ensures.makes c.args.views.now first.ready) _ c.requires.tables c.requires.classes)

pub returns-clause-makes : goal.returns-clause-makes
returns-clause-makes g c =
    let first = c.in_ok-complete.ensures.makes in
    whole_third c.args.views.now c.args.table (g.H.Host.view c.args.host.now) (g.H.Host.view c.complete.new.host) c.args.parts.now c.complete.new.parts c.args.tasks.now.items c.complete.new.tasks.items first
    c.begin.new.parts c.begin.new.tasks.items (c.in_ok-begin.ensures.makes c.args.views.now first.ready)
    (g.H.Host.view c.complete-2.new.host) c.complete-2.new.parts c.complete-2.new.tasks.items c.complete-2.result c.complete-2.ensures.makes
