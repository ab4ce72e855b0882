use Rattle.std.proofs.Common.{◌≡◌, ℕ, Option, true, arith, subst}
use Rattle.std.specs.Prelude.{IfSome}
use Rattle.std.proofs.lemmas.Result.{err_from_is_err_and}
use Rattle.sasi_types.specs.declared.tree.Pair.{Pair}
use Rattle.sasi_treemerge.specs.Merges.{is_left, sources_of}
use Rattle.sasi_treemerge.proofs.Stepping.{read_next}
use Rattle.sasi_indexread.specs.Searches.{searching}
use Rattle.sasi_indexread.proofs.Counting.{left_then}
use Rattle.sasi_indexread.proofs.Searching.{merge_shown, next_can, next_gives, no_false_merge, no_false_open, then_fails, then_succeeds}
use Rattle.sasi_indexread.proofs.search.next_pair.Goals as goal

pub returns-in_err-keep_collected-clause-undamaged : goal.returns-in_err-keep_collected-clause-undamaged
returns-in_err-keep_collected-clause-undamaged g c =
    let p = err_from_is_err_and c.from_residual.result c.from_residual.ensures.1 in
    rw (p.1, p.2) (no_false_open (g.H.Host.view c.args.host.now) (searching c.args.index.now c.args.op.now c.args.body.now c.args.is_collected.now c.args.merge.now) c.in_err-keep_collected.field-0.0 c.in_err-keep_collected.ensures.undamaged)

pub returns-in_err-found-clause-damaged : goal.returns-in_err-found-clause-damaged
returns-in_err-found-clause-damaged g c =
    let p = err_from_is_err_and c.from_residual-in_err-found.result c.from_residual-in_err-found.ensures.1 in
    let can = c.in_ok-keep_collected.ensures.search in
    rw (p.1, p.2) (merge_shown (g.H.Host.view c.args.host.now) (g.H.Host.view c.keep_collected.new.host) c.args.index.now c.keep_collected.new.merge.file (sources_of c.keep_collected.new.merge) c.in_err-found.field-0.0 c.keep_collected.ensures.read.changes
    can.named can.listed c.in_err-found.ensures.damaged)

pub returns-in_err-found-clause-undamaged : goal.returns-in_err-found-clause-undamaged
returns-in_err-found-clause-undamaged g c =
    let p = err_from_is_err_and c.from_residual-in_err-found.result c.from_residual-in_err-found.ensures.1 in
    let can = c.in_ok-keep_collected.ensures.search in
    rw (p.1, p.2) (no_false_merge (g.H.Host.view c.args.host.now) (g.H.Host.view c.keep_collected.new.host) c.args.index.now c.args.op.now c.args.body.now c.args.is_collected.now c.keep_collected.new.is_collected c.args.merge.now c.keep_collected.new.merge
    c.in_err-found.field-0.0 c.in_ok-keep_collected.ensures.collected can.named c.in_ok-keep_collected.ensures.ok c.in_err-found.ensures.undamaged)

pub returns-in_err-found-clause-read : goal.returns-in_err-found-clause-read
returns-in_err-found-clause-read g c =
    read_next _ _ _ _ _ _ _ _ c.args.index.now.file c.keep_collected.new.merge.file c.in_ok-keep_collected.ensures.search.named c.keep_collected.ensures.read c.next.ensures.read

pub returns-in_err-found-clause-causes : goal.returns-in_err-found-clause-causes
returns-in_err-found-clause-causes g c =
    let p = err_from_is_err_and c.from_residual-in_err-found.result c.from_residual-in_err-found.ensures.1 in
    rw (p.1, p.2) (then_fails (g.H.Host.view c.args.host.now) (g.H.Host.view c.keep_collected.new.host) (g.H.Host.view c.next.new.host) _ _ c.in_ok-keep_collected.field-0 c.in_err-found.field-0.0 c.in_ok-keep_collected.ensures.causes c.in_err-found.ensures.causes)

pub returns-clause-ok : goal.returns-clause-ok
returns-clause-ok g c content was =
    let can = c.in_ok-keep_collected.ensures.search in
    let same = c.keep_collected.ensures.same in
    next_gives (g.H.Host.view c.args.host.now) (g.H.Host.view c.keep_collected.new.host) (g.H.Host.view c.next.new.host) c.args.index.now c.args.op.now c.args.body.now c.args.is_collected.now c.keep_collected.new.is_collected c.args.merge.now
    c.keep_collected.new.merge c.next.new.self c.in_ok-found.found content c.in_ok-keep_collected.ensures.collected c.next.ensures.read.changes can.named same.0 same.1 (c.in_ok-keep_collected.ensures.ok content) c.in_ok-found.ensures.ok was

pub returns-clause-search : goal.returns-clause-search
returns-clause-search g c =
    next_can (g.H.Host.view c.keep_collected.new.host) (g.H.Host.view c.next.new.host) c.args.index.now c.args.op.now c.args.body.now c.keep_collected.new.is_collected c.keep_collected.new.merge c.next.new.self c.in_ok-keep_collected.ensures.collected
    c.next.ensures.read.changes c.in_ok-keep_collected.ensures.search c.next.ensures.file c.in_ok-found.ensures.merge c.in_ok-found.ensures.trees

pub returns-clause-read : goal.returns-clause-read
returns-clause-read g c =
    read_next _ _ _ _ _ _ _ _ c.args.index.now.file c.keep_collected.new.merge.file c.in_ok-keep_collected.ensures.search.named c.keep_collected.ensures.read c.next.ensures.read

pub returns-clause-causes : goal.returns-clause-causes
returns-clause-causes g c =
    then_succeeds (g.H.Host.view c.args.host.now) (g.H.Host.view c.keep_collected.new.host) (g.H.Host.view c.next.new.host) _ _ c.in_ok-keep_collected.field-0 c.in_ok-found.found c.in_ok-found.found c.in_ok-keep_collected.ensures.causes c.in_ok-found.ensures.causes

pub returns-clause-reads : goal.returns-clause-reads
returns-clause-reads g c content was =
    let done = c.in_ok-keep_collected.ensures.collected in
    let left = left_then c.args.index.now c.args.op.now c.args.body.now c.keep_collected.new.is_collected in
    omega (arith, c.in_ok-keep_collected.ensures.reads content was, c.in_ok-found.ensures.reads, left c.keep_collected.new.merge content done, left c.next.new.self content done)

pub returns-in_err-keep_collected-clause-reads : goal.returns-in_err-keep_collected-clause-reads
returns-in_err-keep_collected-clause-reads g c content was =
    let p = err_from_is_err_and c.from_residual.result c.from_residual.ensures.1 in
    rw p.1 (c.in_err-keep_collected.ensures.reads content was)

pub returns-in_err-found-clause-reads : goal.returns-in_err-found-clause-reads
returns-in_err-found-clause-reads g c content was =
    let p = err_from_is_err_and c.from_residual-in_err-found.result c.from_residual-in_err-found.ensures.1 in
    let done = c.in_ok-keep_collected.ensures.collected in
    let left = left_then c.args.index.now c.args.op.now c.args.body.now c.keep_collected.new.is_collected c.keep_collected.new.merge content done in
    rw p.1 (omega (arith, c.in_ok-keep_collected.ensures.reads content was, c.in_err-found.ensures.causes.reads, left))

pub returns-clause-behind : goal.returns-clause-behind
returns-clause-behind g c =
    let same = c.keep_collected.ensures.same in
    subst (λ (last : Option Pair). IfSome c.in_ok-found.found (λ pair. is_left last c.args.merge.now.floor pair ≡ true)) same.0
    (subst (λ (floor : ℕ). IfSome c.in_ok-found.found (λ pair. is_left c.keep_collected.new.merge.last floor pair ≡ true)) same.1 c.in_ok-found.ensures.behind)
