use Rattle.std.proofs.Common.{◌≡◌, ℕ, ◌+◌, ◌-◌, ◌*◌, ◌<◌, Ok, Err, refl, subst, arith}
use Rattle.std.proofs.lemmas.Result.{err_from_is_err_and}
use Rattle.sasi_host.proofs.PageReadingLaws.{reads_then}
use Rattle.sasi_tokentree.specs.Format.{above, nodes, size}
use Rattle.sasi_tokentree.specs.Reads.{CountsBelow, CountsDown}
use Rattle.sasi_tokentree.specs.Reads.CountsDown.{in_root, none_above, in_node}
use Rattle.sasi_tokentree.specs.Damages.{IsNodeFrom}
use Rattle.sasi_tokentree.specs.Damages.IsNodeFrom.{of_above}
use Rattle.sasi_tokentree.proofs.AfterRead.{reads_still, shown_still}
use Rattle.sasi_tokentree.proofs.NodeReads.{shown_more, node_of_one}
use Rattle.sasi_tokentree.proofs.StoredLevels.{stands_one, none_below, below_in}
use Rattle.sasi_host.proofs.CauseLaws.{ok_reads, reads_within}
use Rattle.sasi_tokentree.proofs.Seeks.{no_false_one, no_false_up, no_false_before, up, up_length, one_level_reads, above_reads, more_level_reads, reached_in_one, reached_none}
use Rattle.sasi_tokentree.proofs.seek.+count_below.Goals as goal

pub returns-in_err-below-clause-undamaged : goal.returns-in_err-below-clause-undamaged
returns-in_err-below-clause-undamaged g t c =
    let p = err_from_is_err_and c.from_residual.result c.from_residual.ensures.1 in
    rw (p.1, p.2) (no_false_one (g.H.Host.view c.args.host.now) c.args.buffered.now.file c.args.level c.args.at c.args.count c.in_err-below.field-0.0 (omega arith) c.in_err-below.ensures.undamaged)

pub returns-in_err-below-clause-damaged : goal.returns-in_err-below-clause-damaged
returns-in_err-below-clause-damaged g t c =
    let p = err_from_is_err_and c.from_residual.result c.from_residual.ensures.1 in
    rw (p.1, p.2) (shown_more _ (λ n. IsNodeFrom n c.args.level c.args.at c.args.count) (g.H.Host.view c.args.host.now) c.args.buffered.now.file c.in_err-below.field-0.0
    (node_of_one c.args.level c.args.at c.args.count c.requires.some (omega arith)) c.in_err-below.ensures.damaged)

pub returns-in_err-above-clause-damaged : goal.returns-in_err-above-clause-damaged
returns-in_err-above-clause-damaged g t c =
    let p = err_from_is_err_and c.from_residual-in_err-above.result c.from_residual-in_err-above.ensures.1 in
    let shown = rw (c.level_size.ensures, c.node_count.ensures) at c.in_err-above.ensures.damaged in
    rw (p.1, p.2) (shown_more _ (λ n. IsNodeFrom n c.args.level c.args.at c.args.count) (g.H.Host.view c.args.host.now) c.args.buffered.now.file c.in_err-above.field-0.0
    (λ n. of_above c.args.level c.args.at c.args.count (omega arith)) shown)

pub returns-in_err-below-clause-causes : goal.returns-in_err-below-clause-causes
returns-in_err-below-clause-causes g t c most le =
    let p = err_from_is_err_and c.from_residual.result c.from_residual.ensures.1 in
    rw (p.1, p.2) (reads_within _ _ 2 _ (Err c.in_err-below.field-0.0) (one_level_reads most c.args.count c.requires.some le) c.in_err-below.ensures.causes)

pub returns-then-count-le-MAX_ENTRIES-clause-ok : goal.returns-then-count-le-MAX_ENTRIES-clause-ok
returns-then-count-le-MAX_ENTRIES-clause-ok g t c bytes entries is stands long = c.in_ok-below.ensures.ok bytes entries is (stands_one bytes c.args.level c.args.at entries stands (omega (arith, long))) long

pub returns-then-count-le-MAX_ENTRIES-clause-causes : goal.returns-then-count-le-MAX_ENTRIES-clause-causes
returns-then-count-le-MAX_ENTRIES-clause-causes g t c most le = reads_within _ _ 2 _ (Ok c.in_ok-below.below) (one_level_reads most c.args.count c.requires.some le) c.in_ok-below.ensures.causes

pub returns-in_err-above-clause-undamaged : goal.returns-in_err-above-clause-undamaged
returns-in_err-above-clause-undamaged g t c =
    let p = err_from_is_err_and c.from_residual-in_err-above.result c.from_residual-in_err-above.ensures.1 in
    rw (p.1, p.2) (no_false_up (g.H.Host.view c.args.host.now) c.args.buffered.now.file c.args.level c.args.at c.args.count c.in_err-above.field-0.0
    (omega arith) (rw (c.level_size.ensures, c.node_count.ensures) at c.in_err-above.ensures.undamaged))

pub returns-in_err-above-clause-causes : goal.returns-in_err-above-clause-causes
returns-in_err-above-clause-causes g t c most le =
    let p = err_from_is_err_and c.from_residual-in_err-above.result c.from_residual-in_err-above.ensures.1 in
    rw (p.1, p.2) (above_reads _ _ most c.args.count (Err c.in_err-above.field-0.0) (omega arith) le (rw c.node_count.ensures at c.in_err-above.ensures.causes))

pub returns-then-above-eq0-clause-ok : goal.returns-then-above-eq0-clause-ok
returns-then-above-eq0-clause-ok g t c bytes entries is stands long =
    let many : 255 < c.args.count = omega arith in
    let gives = rw (c.level_size.ensures, c.node_count.ensures) at c.in_ok-above.ensures.ok in
    let found = gives bytes (above c.args.at entries) is (up bytes c.args.level c.args.at c.args.count entries many long stands) (up_length c.args.at c.args.count entries long) in
    none_below c.args.at entries c.args.token stands.rising stands.some (subst (λ (n : ℕ). CountsBelow (above c.args.at entries) c.args.token n) c.if-above-eq0.true found)

pub returns-then-above-eq0-clause-causes : goal.returns-then-above-eq0-clause-causes
returns-then-above-eq0-clause-causes g t c most le =
    ok_reads _ _ _ c.in_ok-above.above _ (above_reads _ _ most c.args.count (Ok c.in_ok-above.above) (omega arith) le (rw c.node_count.ensures at c.in_ok-above.ensures.causes))

pub returns-in_err-below-2-clause-damaged : goal.returns-in_err-below-2-clause-damaged
returns-in_err-below-2-clause-damaged g t c =
    let p = err_from_is_err_and c.from_residual-in_err-below-2.result c.from_residual-in_err-below-2.ensures.1 in
    rw (p.1, p.2) (shown_still (λ n. IsNodeFrom n c.args.level c.args.at c.args.count) _ _ c.args.buffered.now.file _ c.in_err-below-2.field-0.0
    c.count_below.ensures.read.changes c.count_below.ensures.read.file c.in_err-below-2.ensures.damaged)

pub returns-in_err-below-2-clause-undamaged : goal.returns-in_err-below-2-clause-undamaged
returns-in_err-below-2-clause-undamaged g t c =
    let p = err_from_is_err_and c.from_residual-in_err-below-2.result c.from_residual-in_err-below-2.ensures.1 in
    rw (p.1, p.2) (no_false_before _ _ c.args.buffered.now.file _ c.args.level c.args.at c.args.count c.in_err-below-2.field-0.0
    c.count_below.ensures.read.changes c.count_below.ensures.read.file c.in_err-below-2.ensures.undamaged)

pub returns-in_err-below-2-clause-causes : goal.returns-in_err-below-2-clause-causes
returns-in_err-below-2-clause-causes g t c most le =
    let p = err_from_is_err_and c.from_residual-in_err-below-2.result c.from_residual-in_err-below-2.ensures.1 in
    rw (p.1, p.2) (more_level_reads _ _ _ most c.args.count c.in_ok-above.above (Err c.in_err-below-2.field-0.0) (omega arith) le
    (rw c.node_count.ensures at c.in_ok-above.ensures.causes) c.in_err-below-2.ensures.causes)

pub returns-clause-ok : goal.returns-clause-ok
returns-clause-ok g t c bytes entries is stands long =
    let many : 255 < c.args.count = omega arith in
    let now = reads_still _ _ c.args.buffered.now.file _ bytes c.count_below.ensures.read.changes c.count_below.ensures.read.file is in
    let gives = rw (c.level_size.ensures, c.node_count.ensures) at c.in_ok-above.ensures.ok in
    let found = gives bytes (above c.args.at entries) is (up bytes c.args.level c.args.at c.args.count entries many long stands) (up_length c.args.at c.args.count entries long) in
    let next : c.in_ok-above.above ≡ c.in_ok-above.above - 1 + 1 = omega arith in
    below_in c.args.at entries c.args.token (c.in_ok-above.above - 1) _ stands.rising (omega (arith, long, c.in_ok-above.ensures.within, c.node_count.ensures))
    (subst (λ (n : ℕ). CountsBelow (above c.args.at entries) c.args.token n) next found) (c.in_ok-below-2.ensures.ok bytes entries now stands long)

pub returns-clause-causes : goal.returns-clause-causes
returns-clause-causes g t c most le =
    ok_reads _ _ _ c.in_ok-below-2.below _ (more_level_reads _ _ _ most c.args.count c.in_ok-above.above (Ok c.in_ok-below-2.below)
    (omega arith) le (rw c.node_count.ensures at c.in_ok-above.ensures.causes) c.in_ok-below-2.ensures.causes)

pub returns-in_err-below-2-clause-read : goal.returns-in_err-below-2-clause-read
returns-in_err-below-2-clause-read g t c = reads_then _ _ _ _ _ _ _ _ _ _ _ c.count_below.ensures.read c.count_in_node.ensures.read

pub returns-clause-read : goal.returns-clause-read
returns-clause-read g t c = reads_then _ _ _ _ _ _ _ _ _ _ _ c.count_below.ensures.read c.count_in_node.ensures.read

pub returns-then-count-le-MAX_ENTRIES-clause-reached : goal.returns-then-count-le-MAX_ENTRIES-clause-reached
returns-then-count-le-MAX_ENTRIES-clause-reached g t c bytes is = reached_in_one bytes c.args.at c.args.count c.in_ok-below.below (omega arith) (c.in_ok-below.ensures.whole bytes is)

pub returns-then-above-eq0-clause-reached : goal.returns-then-above-eq0-clause-reached
returns-then-above-eq0-clause-reached g t c bytes is = reached_none bytes c.args.at c.args.count (omega arith)

pub returns-clause-reached : goal.returns-clause-reached
returns-clause-reached g t c bytes is =
    let now = reads_still _ _ c.args.buffered.now.file _ bytes c.count_below.ensures.read.changes c.count_below.ensures.read.file is in
    c.in_ok-below-2.ensures.reached bytes now (omega arith)

pub returns-then-count-le-MAX_ENTRIES-clause-counts : goal.returns-then-count-le-MAX_ENTRIES-clause-counts
returns-then-count-le-MAX_ENTRIES-clause-counts g t c bytes is = in_root c.args.level c.args.at c.args.count c.in_ok-below.below (omega arith) (c.in_ok-below.ensures.counts bytes is)

pub returns-then-above-eq0-clause-counts : goal.returns-then-above-eq0-clause-counts
returns-then-above-eq0-clause-counts g t c bytes is =
    let up = rw (c.level_size.ensures, c.node_count.ensures) at c.in_ok-above.ensures.counts in
    none_above c.args.level c.args.at c.args.count 0 (omega arith)
    (subst (λ (n : ℕ). CountsDown bytes c.args.token (c.args.level + 1) (c.args.at + size c.args.count) (nodes c.args.count) n) c.if-above-eq0.true (up bytes is)) refl

pub returns-clause-counts : goal.returns-clause-counts
returns-clause-counts g t c bytes is =
    let now = reads_still _ _ c.args.buffered.now.file _ bytes c.count_below.ensures.read.changes c.count_below.ensures.read.file is in
    let up = rw (c.level_size.ensures, c.node_count.ensures) at c.in_ok-above.ensures.counts in
    let node = c.in_ok-above.above - 1 in
    let next : c.in_ok-above.above ≡ c.in_ok-above.above - 1 + 1 = omega arith in
    in_node c.args.level c.args.at c.args.count (255 * node + c.in_ok-below-2.below) node c.in_ok-below-2.below (omega arith)
    (subst (λ (n : ℕ). CountsDown bytes c.args.token (c.args.level + 1) (c.args.at + size c.args.count) (nodes c.args.count) n) next (up bytes is)) (c.in_ok-below-2.ensures.counts bytes now) refl
