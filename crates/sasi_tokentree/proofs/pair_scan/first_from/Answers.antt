use Rattle.std.proofs.Common.{◌≡◌, Ok, ◌+◌, ◌*◌, inl, subst, arith, Err}
use Rattle.std.proofs.lemmas.Result.{err_from_is_err_and}
use Rattle.sasi_host.proofs.PageReadingLaws.{reads_nothing, reads_then}
use Rattle.sasi_host.specs.declared.name.FileName.{FileName}
use Rattle.sasi_host.specs.Damages.{DamageShown, TellsSize}
use Rattle.sasi_tokentree.specs.Damages.{BeginsLeaf}
use Rattle.sasi_tokentree.specs.Heights.{height}
use Rattle.sasi_tokentree.proofs.EntryPages.{entry_pages}
use Rattle.sasi_tokentree.proofs.AfterRead.{reads_still, tree_shown_more, tree_shown_still}
use Rattle.sasi_host.proofs.CauseLaws.{reads_on, ok_reads}
use Rattle.sasi_tokentree.proofs.LeafPairs.{begins_leaf, no_false_long, long_shown, leaves_shown, gave_entry, gave_header, no_false_level, no_false_tree_before, tree_stands_at, count_is, no_pairs, takes_none}
use Rattle.sasi_tokentree.proofs.NodeCounts.{steps_behind}
use Rattle.sasi_tokentree.proofs.pair_scan.first_from.Goals as goal

pub returns-then-tree-eq0-clause-ok : goal.returns-then-tree-eq0-clause-ok
returns-then-tree-eq0-clause-ok g c bytes pairs is has = (0, no_pairs bytes c.args.tree pairs c.args.token has (omega arith), takes_none bytes c.args.tree pairs 0 has (omega arith))

pub returns-then-is_too_long-clause-undamaged : goal.returns-then-is_too_long-clause-undamaged
returns-then-is_too_long-clause-undamaged g c =
    no_false_long (g.H.Host.view c.args.host.now) c.args.buffered.now.file c.args.tree c.unexpected_end.result
    (λ bytes is. (g.met.H.Host.sound c.args.host.now).fits c.args.buffered.now.file bytes is) (omega arith)
    (c.is_too_long.ensures.long c.if-is_too_long.true)

pub returns-then-is_too_long-clause-damaged : goal.returns-then-is_too_long-clause-damaged
returns-then-is_too_long-clause-damaged g c =
    long_shown (BeginsLeaf c.args.tree) (g.H.Host.view c.args.host.now) c.args.buffered.now.file c.args.tree c.unexpected_end.result
    (λ bytes is. (g.met.H.Host.sound c.args.host.now).fits c.args.buffered.now.file bytes is) (omega arith)
    (c.is_too_long.ensures.long c.if-is_too_long.true) (subst (λ (n : FileName). DamageShown (g.H.Host.view c.args.host.now) n (TellsSize n)
    c.unexpected_end.result) c.file.ensures c.unexpected_end.ensures.damaged)

pub returns-in_err-below-clause-damaged : goal.returns-in_err-below-clause-damaged
returns-in_err-below-clause-damaged g c =
    let p = err_from_is_err_and c.from_residual.result c.from_residual.ensures.1 in
    rw (p.1, p.2) (leaves_shown (BeginsLeaf c.args.tree) (g.H.Host.view c.args.host.now) c.args.buffered.now.file c.args.tree c.start_of-start.result c.in_err-below.field-0.0
    c.start_of-start.ensures.is c.in_err-below.ensures.damaged)

pub returns-clause-stands : goal.returns-clause-stands
returns-clause-stands g c = gave_entry _ _ c.args.buffered.now.file _ c.args.tree _ _ c.count_below.ensures.read.changes c.count_below.ensures.read.file c.in_ok-found.ensures.stands

pub returns-clause-header : goal.returns-clause-header
returns-clause-header g c = gave_header _ _ c.args.buffered.now.file _ c.args.tree _ _ c.count_below.ensures.read.changes c.count_below.ensures.read.file c.in_ok-found.ensures.header

pub returns-in_err-below-clause-undamaged : goal.returns-in_err-below-clause-undamaged
returns-in_err-below-clause-undamaged g c =
    let p = err_from_is_err_and c.from_residual.result c.from_residual.ensures.1 in
    rw (p.1, p.2) (no_false_level (g.H.Host.view c.args.host.now) c.args.buffered.now.file c.args.tree c.start_of-start.result c.in_err-below.field-0.0
    (λ bytes is. (g.met.H.Host.sound c.args.host.now).fits c.args.buffered.now.file bytes is) (omega arith) c.start_of-start.ensures.is
    c.in_err-below.ensures.undamaged)

pub returns-in_err-found-clause-damaged : goal.returns-in_err-found-clause-damaged
returns-in_err-found-clause-damaged g c =
    let p = err_from_is_err_and c.from_residual-in_err-found.result c.from_residual-in_err-found.ensures.1 in
    let v = g.H.Host.view c.args.host.now in
    let count = c.in_ok-below.below in
    rw (p.1, p.2) (tree_shown_more (λ index. index ≡ count) (BeginsLeaf c.args.tree) v c.args.buffered.now.file c.args.tree c.in_err-found.field-0.0
    (λ bytes index is same lt short. begins_leaf bytes c.args.tree c.start_of-start.result count index c.start_of-start.ensures.is same lt short (c.in_ok-below.ensures.reached bytes is))
    (tree_shown_still (λ index. index ≡ count) v _ c.args.buffered.now.file _ c.args.tree c.in_err-found.field-0.0 c.count_below.ensures.read.changes
    c.count_below.ensures.read.file c.in_err-found.ensures.damaged))

pub returns-in_err-found-clause-undamaged : goal.returns-in_err-found-clause-undamaged
returns-in_err-found-clause-undamaged g c =
    let p = err_from_is_err_and c.from_residual-in_err-found.result c.from_residual-in_err-found.ensures.1 in
    rw (p.1, p.2) (no_false_tree_before _ _ c.args.buffered.now.file _ c.args.tree c.in_err-found.field-0.0 c.count_below.ensures.read.changes
    c.count_below.ensures.read.file c.in_err-found.ensures.undamaged)

pub returns-clause-ok : goal.returns-clause-ok
returns-clause-ok g c bytes pairs is has =
    let short = (g.met.H.Host.sound c.args.host.now).fits c.args.buffered.now.file bytes is in
    let stands = tree_stands_at bytes c.args.tree pairs c.start_of-start.result has (omega arith) short c.start_of-start.ensures.is in
    let now = reads_still _ _ c.args.buffered.now.file _ bytes c.count_below.ensures.read.changes c.count_below.ensures.read.file is in (
      c.in_ok-below.below,
      c.in_ok-below.ensures.ok bytes pairs is stands (count_is bytes c.args.tree pairs has),
      c.in_ok-found.ensures.ok bytes pairs now has,
    )

pub returns-in_err-found-clause-causes : goal.returns-in_err-found-clause-causes
returns-in_err-found-clause-causes g c most le =
    let p = err_from_is_err_and c.from_residual-in_err-found.result c.from_residual-in_err-found.ensures.1 in
    let two = entry_pages c.count_below.new.buffered.page c.args.tree c.in_ok-below.below in
    rw (p.1, p.2) (reads_on _ _ _ (2 * height most c.args.tree.pairs) _ (2 * height most c.args.tree.pairs + 2) c.in_ok-below.below
    (Err c.in_err-found.field-0.0) (omega (arith, two)) (c.in_ok-below.ensures.causes most le) c.in_err-found.ensures.causes)

pub returns-clause-causes : goal.returns-clause-causes
returns-clause-causes g c most le =
    let two = entry_pages c.count_below.new.buffered.page c.args.tree c.in_ok-below.below in
    ok_reads _ _ _ c.in_ok-found.found _ (reads_on _ _ _ (2 * height most c.args.tree.pairs) _ (2 * height most c.args.tree.pairs + 2)
    c.in_ok-below.below (Ok c.in_ok-found.found) (omega (arith, two)) (c.in_ok-below.ensures.causes most le) c.in_ok-found.ensures.causes)

pub returns-then-tree-eq0-clause-read : goal.returns-then-tree-eq0-clause-read
returns-then-tree-eq0-clause-read g c = reads_nothing _ _ _ _ c.requires.read.agrees c.requires.read.buffered

pub returns-in_err-found-clause-read : goal.returns-in_err-found-clause-read
returns-in_err-found-clause-read g c = reads_then _ _ _ _ _ _ _ _ _ _ _ c.count_below.ensures.read c.pair_from.ensures.read

pub returns-clause-read : goal.returns-clause-read
returns-clause-read g c = reads_then _ _ _ _ _ _ _ _ _ _ _ c.count_below.ensures.read c.pair_from.ensures.read

pub returns-then-tree-eq0-clause-ends : goal.returns-then-tree-eq0-clause-ends
returns-then-tree-eq0-clause-ends g c = (omega arith, λ bytes is. inl (omega arith))

pub returns-clause-ends : goal.returns-clause-ends
returns-clause-ends g c =
    steps_behind (g.H.Host.view c.args.host.now) c.args.buffered.now.file c.args.tree c.args.token c.start_of-start.result c.count_below.new.buffered c.pair_from.new.buffered
    c.in_ok-below.below c.in_ok-found.found.passed c.in_ok-found.found.pair c.start_of-start.ensures.is c.in_ok-below.ensures.counts c.in_ok-found.ensures.ends
