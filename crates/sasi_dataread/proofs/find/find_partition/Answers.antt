use Rattle.std.proofs.Common.{◌≡◌, ◌+◌, ◌*◌, sym, ◌∙◌, ap, subst, arith, IsSome, Option, None, Ok, Err, refl}
use Rattle.std.proofs.lemmas.Result.{err_from_is_err_and}
use Rattle.sasi_host.proofs.CauseLaws.{fault_reads}
use Rattle.sasi_host.proofs.PageReadingLaws.{read_of, read_then}
use Rattle.sasi_types.specs.declared.tree.Pair.{Pair}
use Rattle.sasi_types.specs.declared.tree.TreeRef.{TreeRef}
use Rattle.sasi_host.specs.Disk.{Same}
use Rattle.sasi_host.specs.View.{IsThere}
use Rattle.sasi_host.specs.declared.name.FileName.{FileName}
use Rattle.sasi_host.proofs.ChangeLaws.{then_same}
use Rattle.sasi_host.specs.Buffered.{Buffered, IsBuffered}
use Rattle.sasi_host.proofs.BufferedLaws.{buffered_after}
use Rattle.sasi_tokentree.specs.Damages.{BeginsLeaf}
use Rattle.sasi_tokentree.specs.Heights.{height}
use Rattle.sasi_host.proofs.DamageLaws.{shown_before}
use Rattle.sasi_tokentree.specs.Scans.{ReadsEntry, PairScan}
use Rattle.sasi_tokentree.proofs.LeafPairs.{count_is}
use Rattle.sasi_tokentree.proofs.Rising.{last_still}
use Rattle.sasi_dataread.proofs.Laws.{pairs_are}
use Rattle.sasi_dataread.proofs.ReadChains.{causes_fault, causes_ok, passes_on, there_same}
use Rattle.sasi_dataread.proofs.DataScan.{entry_before, entry_of, no_false_tree, open_same, pairs_shown, partition_shown, steps_to_next, tree_shown}
use Rattle.sasi_dataread.proofs.Finding.{all_passed, first_causes, first_passes, found_here, here_costs, no_false_before, no_false_here, none_here, one_more, searches_on, stands_here, starts}
use Rattle.sasi_dataread.proofs.Looking.{found_there, header_before, header_of, is_found, looks_first, looks_on, misses_all, misses_there, next_there}
use Rattle.sasi_dataread.proofs.find.find_partition.Goals as goal

pub first-requires : goal.first-requires
first-requires g c =
    let v = g.H.Host.view c.args.host.now in
    record {
      read = record {
        there = subst (λ (t : PairScan). IsThere v t.buffered.file) (sym c.tree-tree.ensures) c.requires.read.there;
        agrees = c.requires.read.agrees;
        buffered = subst (λ (t : PairScan). IsBuffered t.buffered v.files) (sym c.tree-tree.ensures) (λ page bytes is. absurd (cc));
      };
    }

pub next-requires : goal.next-requires
next-requires g c =
    let v = g.H.Host.view c.loop-turn.host in
    let w = g.H.Host.view c.partition_with_key.new.host in
    let here = c.loop-turn.invariant in
    let change = c.partition_with_key.ensures.read.changes in
    record {
      read = record {
        there = subst (λ (f : FileName). IsThere w f) (sym here.file) (there_same v w c.args.opened.now.file change here.there);
        agrees = c.partition_with_key.ensures.read.agrees;
        buffered = buffered_after c.loop-turn.tree.buffered v w change here.pairs_buffered;
      };
      last = last_still v w c.loop-turn.tree.buffered.file c.loop-turn.tree.buffered.file c.loop-turn.tree.tree c.loop-turn.tree.passed c.loop-turn.tree.last change refl here.at_last;
    }

pub partition_with_key-requires : goal.partition_with_key-requires
partition_with_key-requires g c =
    let here = c.loop-turn.invariant in
    record {
      read = record { there = here.there; agrees = here.read.agrees };
      buffered = here.buffered;
      named = here.named;
      tree = here.tree;
      passed = here.passed (subst (λ (o : Option Pair). IsSome o) (sym c.in-Some.ensures) refl);
    }

pub returns-in_err-next-clause-read : goal.returns-in_err-next-clause-read
returns-in_err-next-clause-read g c = read_of _ _ _ _ _ _ _ _ (ap (λ (t : PairScan). t.buffered.file) c.tree-tree.ensures) c.first.ensures.read

pub returns-in_err-next-clause-causes : goal.returns-in_err-next-clause-causes
returns-in_err-next-clause-causes g c most le =
    let p = err_from_is_err_and c.from_residual.result c.from_residual.ensures.1 in
    let v = g.H.Host.view c.args.host.now in
    let w = g.H.Host.view c.first.new.host in
    let n = 2 * height most c.args.opened.now.tree.pairs + 2 in
    rw (p.1, p.2) (
    fault_reads v w n (n + 2051 * c.args.opened.now.tree.pairs) c.in_err-next.field-0.0 (omega arith)
    (first_causes v w c.args.opened.now c.tree-tree.result (Err c.in_err-next.field-0.0) c.tree-tree.ensures c.in_err-next.ensures.causes most le)
    )

pub returns-in_err-next-clause-reads : goal.returns-in_err-next-clause-reads
returns-in_err-next-clause-reads g c most partitioner content le is have =
    let here = first_causes (g.H.Host.view c.args.host.now) (g.H.Host.view c.first.new.host) c.args.opened.now c.tree-tree.result c.first.result c.tree-tree.ensures
    c.first.ensures.causes most le in
    omega (arith, here.reads)

pub returns-in_default-clause-read : goal.returns-in_default-clause-read
returns-in_default-clause-read g c = c.loop-turn.invariant.read

pub returns-in_default-clause-causes : goal.returns-in_default-clause-causes
returns-in_default-clause-causes g c most le =
    causes_ok _ _ (2 * height most c.args.opened.now.tree.pairs + 2 + 2051 * c.loop-turn._turn) _ None (c.loop-turn.invariant.passes most le) (omega (arith, c.loop-turn-test.true))

pub returns-clause-read : goal.returns-clause-read
returns-clause-read g c = c.loop-turn.invariant.read

pub returns-clause-causes : goal.returns-clause-causes
returns-clause-causes g c most le =
    causes_ok _ _ (2 * height most c.args.opened.now.tree.pairs + 2 + 2051 * c.loop-turn._turn) _ None (c.loop-turn.invariant.passes most le) (omega (arith, c.loop-turn.auto._turn-end))

pub returns-in_err-next-clause-damaged : goal.returns-in_err-next-clause-damaged
returns-in_err-next-clause-damaged g c =
    let p = err_from_is_err_and c.from_residual.result c.from_residual.ensures.1 in
    rw (p.1, p.2) (tree_shown (BeginsLeaf c.tree-tree.result.tree) (g.H.Host.view c.args.host.now) c.args.opened.now
    c.tree-tree.result.buffered.file c.tree-tree.result.tree c.in_err-next.field-0.0 (ap (λ (w : PairScan). w.buffered.file) c.tree-tree.ensures) (ap (λ (w : PairScan). w.tree) c.tree-tree.ensures)
    c.in_err-next.ensures.damaged)

pub returns-in_err-next-clause-undamaged : goal.returns-in_err-next-clause-undamaged
returns-in_err-next-clause-undamaged g c =
    let p = err_from_is_err_and c.from_residual.result c.from_residual.ensures.1 in
    rw (p.1, p.2) (no_false_tree (g.H.Host.view c.args.host.now) c.args.opened.now c.tree-tree.result.buffered.file c.tree-tree.result.tree
    c.in_err-next.field-0.0 (ap (λ (w : PairScan). w.buffered.file) c.tree-tree.ensures) (ap (λ (w : PairScan). w.tree) c.tree-tree.ensures)
    (λ bytes is. (g.met.H.Host.sound c.args.host.now).fits c.args.opened.now.file bytes is) c.in_err-next.ensures.undamaged)

pub loop-turn-init : goal.loop-turn-init
loop-turn-init g c =
    let v = g.H.Host.view c.args.host.now in
    let w = g.H.Host.view c.first.new.host in
    let file_is = ap (λ (t : PairScan). t.buffered.file) c.tree-tree.ensures in
    record {
      there = there_same v w c.args.opened.now.file c.first.ensures.read.changes c.requires.read.there;
      read = read_of _ _ _ _ _ _ _ _ file_is c.first.ensures.read;
      passes = λ most le. first_passes v w (2 * height most c.args.opened.now.tree.pairs + 2) (2 * height most c.args.opened.now.tree.pairs + 2 + 0)
          c.in_ok-next.next c.first.ensures.read.changes (first_causes v w c.args.opened.now c.tree-tree.result (Ok c.in_ok-next.next) c.tree-tree.ensures
          c.in_ok-next.ensures.causes most le) (omega arith);
      file = c.first.ensures.read.file ∙ file_is;
      named = ap (λ (h : Buffered). h.file) c.buffered_file-buffered.ensures;
      pairs_buffered = c.first.ensures.read.buffered;
      buffered = subst (λ (h : Buffered). IsBuffered h (g.H.Host.view c.first.new.host).files) (sym c.buffered_file-buffered.ensures) (λ page bytes is. absurd (cc));
      entry_buffered = c.in_ok-next.ensures.entry_buffered;
      at_last = c.in_ok-next.ensures.at_last;
      tree = c.first.ensures.tree ∙ ap (λ (t : PairScan). t.tree) c.tree-tree.ensures;
      passed = c.in_ok-next.ensures.passed;
      entry = entry_of v c.args.opened.now c.tree-tree.result.buffered.file c.tree-tree.result.tree c.first.new.self.passed c.in_ok-next.next file_is
          (ap (λ (t : PairScan). t.tree) c.tree-tree.ensures) c.in_ok-next.ensures.stands;
      leaf_header = header_of v c.args.opened.now c.tree-tree.result.buffered.file c.tree-tree.result.tree c.first.new.self.passed c.in_ok-next.next file_is
          (ap (λ (t : PairScan). t.tree) c.tree-tree.ensures) c.in_ok-next.ensures.header;
      looks = looks_first v c.args.opened.now c.tree-tree.result.buffered.file c.tree-tree.result.tree c.args.token c.args.key.now c.first.new.self.passed
          c.in_ok-next.next file_is (ap (λ (t : PairScan). t.tree) c.tree-tree.ensures) c.in_ok-next.ensures.ok;
      searches = starts v w c.args.opened.now c.tree-tree.result c.args.token c.args.key.now c.first.new.self.passed c.in_ok-next.next c.first.result
          c.tree-tree.ensures (λ bytes is. (g.met.H.Host.sound c.args.host.now).fits c.args.opened.now.file bytes is) c.in_ok-next.ensures.ok
          c.first.ensures.causes;
    }

pub returns-in_default-clause-ok : goal.returns-in_default-clause-ok
returns-in_default-clause-ok g c partitioner content is have same =
    none_here (g.H.Host.view c.args.host.now) c.args.opened.now partitioner content c.args.token c.args.key.now c.loop-turn._turn
    c.loop-turn.tree.passed c.loop-turn.next _ _ is (c.loop-turn.invariant.searches c.args.opened.now.tree.pairs partitioner content (omega arith)
    is have) c.in_default.ensures same

pub returns-in_default-clause-reads : goal.returns-in_default-clause-reads
returns-in_default-clause-reads g c most partitioner content le is have = let s = c.loop-turn.invariant.searches most partitioner content le is have in omega (arith, s.costs)

pub returns-in_default-clause-misses : goal.returns-in_default-clause-misses
returns-in_default-clause-misses g c bytes pairs is has none =
    misses_there (g.H.Host.view c.args.host.now) c.args.opened.now c.args.token c.args.key.now pairs c.loop-turn._turn c.loop-turn.tree.passed c.loop-turn.next has.rising
    (c.loop-turn.invariant.looks bytes pairs is has) c.in_default.ensures

pub returns-in_err-found-clause-damaged : goal.returns-in_err-found-clause-damaged
returns-in_err-found-clause-damaged g c =
    let p = err_from_is_err_and c.from_residual-in_err-found.result c.from_residual-in_err-found.ensures.1 in
    let v = g.H.Host.view c.args.host.now in
    let pair : Pair = record { token = c.args.token; place = c.in-Some.place } in
    rw (p.1, p.2) (partition_shown v c.args.opened.now c.loop-turn.tree.passed pair c.in_err-found.field-0.0
    (subst (λ (o : Option Pair). ReadsEntry v c.args.opened.now.file c.args.opened.now.tree c.loop-turn.tree.passed o) c.in-Some.ensures c.loop-turn.invariant.entry)
    (shown_before _ v _ c.args.opened.now.file c.in_err-found.field-0.0 c.loop-turn.invariant.read.changes c.in_err-found.ensures.damaged))

pub returns-in_err-found-clause-undamaged : goal.returns-in_err-found-clause-undamaged
returns-in_err-found-clause-undamaged g c =
    let p = err_from_is_err_and c.from_residual-in_err-found.result c.from_residual-in_err-found.ensures.1 in
    rw (p.1, p.2) (
    no_false_here (g.H.Host.view c.args.host.now) _ c.args.opened.now c.in-Some.place c.in_err-found.field-0.0
    (λ partitioner content is have.
    stands_here partitioner content c.args.token c.args.key.now c.loop-turn._turn c.loop-turn.tree.passed c.in-Some.place _ _ c.loop-turn.next
    (c.loop-turn.invariant.searches c.args.opened.now.tree.pairs partitioner content (omega arith) is have) c.in-Some.ensures)
    c.loop-turn.invariant.read.changes c.in_err-found.ensures.undamaged
    )

pub returns-in_err-found-clause-causes : goal.returns-in_err-found-clause-causes
returns-in_err-found-clause-causes g c most le =
    let p = err_from_is_err_and c.from_residual-in_err-found.result c.from_residual-in_err-found.ensures.1 in
    let spent = 2 * height most c.args.opened.now.tree.pairs + 2 + 2051 * c.loop-turn._turn in
    rw (p.1, p.2) (
    causes_fault _ _ _ spent 2050 _ c.in_err-found.field-0.0 (c.loop-turn.invariant.passes most le) c.in_err-found.ensures.causes (omega arith)
    )

pub returns-in_err-found-clause-reads : goal.returns-in_err-found-clause-reads
returns-in_err-found-clause-reads g c most partitioner content le is have =
    let here = here_costs (g.H.Host.view c.args.host.now) _ c.args.opened.now partitioner content c.args.token c.args.key.now c.loop-turn._turn
    c.loop-turn.tree.passed c.in-Some.place _ _ (g.H.Host.view c.partition_with_key.new.host).reads c.loop-turn.next is c.loop-turn.invariant.read.changes
    (c.loop-turn.invariant.searches most partitioner content le is have) c.in-Some.ensures
    (λ k p there at. let less = c.partition_with_key.ensures.reads partitioner content k p there at in omega (arith, less))
    in
    omega (arith, here)

pub returns-then-is_some-clause-ok : goal.returns-then-is_some-clause-ok
returns-then-is_some-clause-ok g c partitioner content is have same =
    found_here (g.H.Host.view c.args.host.now) _ c.args.opened.now partitioner content c.args.token c.args.key.now c.loop-turn._turn
    c.loop-turn.tree.passed c.in-Some.place _ _ c.loop-turn.next c.in_ok-found.found is c.loop-turn.invariant.read.changes
    (c.loop-turn.invariant.searches c.args.opened.now.tree.pairs partitioner content (omega arith) is have) c.in-Some.ensures c.in_ok-found.ensures.ok (sym c.if-is_some.ensures) same

pub returns-then-is_some-clause-stands : goal.returns-then-is_some-clause-stands
returns-then-is_some-clause-stands g c =
    found_there (g.H.Host.view c.args.host.now) _ c.args.opened.now c.args.token c.in-Some.place c.args.key.now c.loop-turn.tree.passed c.loop-turn.next c.in_ok-found.found
    c.loop-turn.invariant.read.changes c.in-Some.ensures c.loop-turn.invariant.entry c.loop-turn.invariant.leaf_header c.in_ok-found.ensures.begins c.in_ok-found.ensures.stands

pub returns-then-is_some-clause-misses : goal.returns-then-is_some-clause-misses
returns-then-is_some-clause-misses g c bytes pairs is has none = absurd (is_found c.in_ok-found.found (sym c.if-is_some.ensures) none)

pub returns-then-is_some-clause-causes : goal.returns-then-is_some-clause-causes
returns-then-is_some-clause-causes g c most le =
    let spent = 2 * height most c.args.opened.now.tree.pairs + 2 + 2051 * c.loop-turn._turn in
    causes_ok _ _ (spent + 2050) _ c.in_ok-found.found
    (passes_on _ _ _ spent 2050 (spent + 2050) c.in_ok-found.found (c.loop-turn.invariant.passes most le) c.in_ok-found.ensures.causes
    c.partition_with_key.ensures.read.changes (omega arith)) (omega arith)

pub returns-then-is_some-clause-reads : goal.returns-then-is_some-clause-reads
returns-then-is_some-clause-reads g c most partitioner content le is have =
    let here = here_costs (g.H.Host.view c.args.host.now) _ c.args.opened.now partitioner content c.args.token c.args.key.now c.loop-turn._turn
    c.loop-turn.tree.passed c.in-Some.place _ _ (g.H.Host.view c.partition_with_key.new.host).reads c.loop-turn.next is c.loop-turn.invariant.read.changes
    (c.loop-turn.invariant.searches most partitioner content le is have) c.in-Some.ensures
    (λ k p there at. let less = c.partition_with_key.ensures.reads partitioner content k p there at in omega (arith, less))
    in
    omega (arith, here)

pub returns-in_err-next-2-clause-damaged : goal.returns-in_err-next-2-clause-damaged
returns-in_err-next-2-clause-damaged g c =
    let p = err_from_is_err_and c.from_residual-in_err-next-2.result c.from_residual-in_err-next-2.ensures.1 in
    let v = g.H.Host.view c.args.host.now in
    rw (p.1, p.2) (pairs_shown (λ index. index ≡ c.loop-turn.tree.passed) v c.args.opened.now c.loop-turn.tree.buffered.file c.loop-turn.tree.tree
    c.in_err-next-2.field-0.0 c.loop-turn.invariant.file c.loop-turn.invariant.tree
    (shown_before _ v _ c.loop-turn.tree.buffered.file c.in_err-next-2.field-0.0
    (then_same _ _ _ Same c.loop-turn.invariant.read.changes c.partition_with_key.ensures.read.changes) c.in_err-next-2.ensures.damaged))

pub returns-in_err-next-2-clause-undamaged : goal.returns-in_err-next-2-clause-undamaged
returns-in_err-next-2-clause-undamaged g c =
    let p = err_from_is_err_and c.from_residual-in_err-next-2.result c.from_residual-in_err-next-2.ensures.1 in
    rw (p.1, p.2) (
    no_false_before (g.H.Host.view c.args.host.now) (g.H.Host.view c.partition_with_key.new.host) c.args.opened.now c.in_err-next-2.field-0.0
    (then_same _ _ _ Same c.loop-turn.invariant.read.changes c.partition_with_key.ensures.read.changes)
    (no_false_tree (g.H.Host.view c.partition_with_key.new.host) c.args.opened.now c.loop-turn.tree.buffered.file c.loop-turn.tree.tree c.in_err-next-2.field-0.0
    c.loop-turn.invariant.file c.loop-turn.invariant.tree (λ bytes is. (g.met.H.Host.sound c.partition_with_key.new.host).fits c.args.opened.now.file bytes
    is) c.in_err-next-2.ensures.undamaged)
    )

pub returns-in_err-next-2-clause-causes : goal.returns-in_err-next-2-clause-causes
returns-in_err-next-2-clause-causes g c most le =
    let p = err_from_is_err_and c.from_residual-in_err-next-2.result c.from_residual-in_err-next-2.ensures.1 in
    let spent = 2 * height most c.args.opened.now.tree.pairs + 2 + 2051 * c.loop-turn._turn in
    rw (p.1, p.2) (
    causes_fault _ _ _ (spent + 2050) 1 _ c.in_err-next-2.field-0.0
    (passes_on _ _ _ spent 2050 (spent + 2050) c.in_ok-found.found (c.loop-turn.invariant.passes most le) c.in_ok-found.ensures.causes
    c.partition_with_key.ensures.read.changes (omega arith)) (one_more (g.H.Host.view c.args.host.now) _ _ c.args.opened.now.file c.args.opened.now.tree
    c.loop-turn.tree c.args.token c.in-Some.place c.loop-turn.next (Err c.in_err-next-2.field-0.0) c.in-Some.ensures c.loop-turn.invariant.entry
    c.loop-turn.invariant.entry_buffered c.in_err-next-2.ensures.causes) (omega arith)
    )

pub returns-in_err-next-2-clause-reads : goal.returns-in_err-next-2-clause-reads
returns-in_err-next-2-clause-reads g c most partitioner content le is have =
    let here = here_costs (g.H.Host.view c.args.host.now) _ c.args.opened.now partitioner content c.args.token c.args.key.now c.loop-turn._turn
    c.loop-turn.tree.passed c.in-Some.place _ _ (g.H.Host.view c.partition_with_key.new.host).reads c.loop-turn.next is c.loop-turn.invariant.read.changes
    (c.loop-turn.invariant.searches most partitioner content le is have) c.in-Some.ensures
    (λ k p there at. let less = c.partition_with_key.ensures.reads partitioner content k p there at in omega (arith, less))
    in
    omega (
      arith,
      here,
      (one_more (g.H.Host.view c.args.host.now) _ _ c.args.opened.now.file c.args.opened.now.tree c.loop-turn.tree c.args.token
          c.in-Some.place c.loop-turn.next c.next.result c.in-Some.ensures c.loop-turn.invariant.entry c.loop-turn.invariant.entry_buffered
          c.next.ensures.causes).reads,
    )

pub loop-turn-preserved : goal.loop-turn-preserved
loop-turn-preserved g c =
    let v = g.H.Host.view c.args.host.now in
    let w = g.H.Host.view c.partition_with_key.new.host in
    let here = c.loop-turn.invariant in
    let file = c.args.opened.now.file in
    let change = then_same _ _ _ Same here.read.changes c.partition_with_key.ensures.read.changes in
    let cheap = one_more v w (g.H.Host.view c.next.new.host) file c.args.opened.now.tree c.loop-turn.tree c.args.token c.in-Some.place
    c.loop-turn.next (Ok c.in_ok-next-2.next) c.in-Some.ensures here.entry here.entry_buffered c.in_ok-next-2.ensures.causes in
    record {
      there = there_same _ _ file c.next.ensures.read.changes (there_same _ _ file c.partition_with_key.ensures.read.changes here.there);
      read = read_then _ _ _ _ _ _ _ _ _ (read_then _ _ _ _ _ _ _ _ _ here.read c.partition_with_key.ensures.read) (read_of _ _ _ _ _ _ _ _ here.file c.next.ensures.read);
      passes = λ most le.
          let spent = 2 * height most c.args.opened.now.tree.pairs + 2 + 2051 * c.loop-turn._turn in
          passes_on _ _ _ (spent + 2050) 1 _ c.in_ok-next-2.next (passes_on _ _ _ spent 2050 (spent + 2050) c.in_ok-found.found (here.passes most le)
          c.in_ok-found.ensures.causes c.partition_with_key.ensures.read.changes (omega arith)) cheap c.next.ensures.read.changes (omega arith);
      file = c.next.ensures.read.file ∙ here.file;
      named = c.partition_with_key.ensures.named;
      pairs_buffered = c.next.ensures.read.buffered;
      buffered = buffered_after c.partition_with_key.new.buffered w (g.H.Host.view c.next.new.host) c.next.ensures.read.changes c.partition_with_key.ensures.buffered;
      entry_buffered = c.in_ok-next-2.ensures.entry_buffered;
      at_last = c.next.ensures.at_last;
      tree = c.next.ensures.tree ∙ here.tree;
      passed = c.in_ok-next-2.ensures.passed;
      entry = entry_of v c.args.opened.now c.loop-turn.tree.buffered.file c.loop-turn.tree.tree c.next.new.self.passed c.in_ok-next-2.next here.file
          here.tree (entry_before v w c.loop-turn.tree.buffered.file c.loop-turn.tree.tree c.next.new.self.passed c.in_ok-next-2.next change
          c.in_ok-next-2.ensures.stands);
      leaf_header = header_of v c.args.opened.now c.loop-turn.tree.buffered.file c.loop-turn.tree.tree c.next.new.self.passed c.in_ok-next-2.next here.file
          here.tree (header_before v w c.loop-turn.tree.buffered.file c.loop-turn.tree.tree c.next.new.self.passed c.in_ok-next-2.next change
          c.in_ok-next-2.ensures.header);
      looks = λ bytes pairs is has.
          looks_on v _ c.args.opened.now c.args.token c.args.key.now pairs c.loop-turn._turn c.loop-turn.tree.passed c.in-Some.place c.next.new.self.passed
          c.loop-turn.next c.in_ok-next-2.next c.in_ok-found.found here.read.changes (here.looks bytes pairs is has) c.in-Some.ensures c.in_ok-found.ensures.stands
          (sym c.if-is_some.ensures)
          (next_there v w c.args.opened.now c.loop-turn.tree.buffered.file c.loop-turn.tree.tree c.loop-turn.tree.passed c.next.new.self.passed
          c.in_ok-next-2.next here.file here.tree change c.in_ok-next-2.ensures.ok bytes pairs is has);
      searches = λ most partitioner content le is have.
          searches_on v _ c.args.opened.now partitioner content c.args.token c.args.key.now c.loop-turn._turn c.loop-turn.tree.passed c.in-Some.place
          _ _ c.next.new.self.passed (g.H.Host.view c.next.new.host).reads c.loop-turn.next c.in_ok-next-2.next c.in_ok-found.found is
          here.read.changes (here.searches most partitioner content le is have) c.in-Some.ensures c.in_ok-found.ensures.ok
          (sym c.if-is_some.ensures)
          (λ k p there at. let partition_pages = c.partition_with_key.ensures.reads partitioner content k p there at in omega (arith, partition_pages, cheap.reads))
          (steps_to_next w c.args.opened.now c.loop-turn.tree.buffered.file c.loop-turn.tree.tree c.loop-turn.tree.passed c.next.new.self.passed
          c.in_ok-next-2.next here.file here.tree (λ bytes reads. (g.met.H.Host.sound c.partition_with_key.new.host).fits file bytes reads)
          c.in_ok-next-2.ensures.ok partitioner content (open_same v w c.args.opened.now partitioner content change is) have);
    }

pub returns-clause-ok : goal.returns-clause-ok
returns-clause-ok g c partitioner content is have same =
    all_passed partitioner content c.args.token c.args.key.now c.loop-turn._turn c.loop-turn.tree.passed c.loop-turn.next _ _
    (c.loop-turn.invariant.searches c.args.opened.now.tree.pairs partitioner content (omega arith) is have)
    (omega (arith, ap (λ (t : TreeRef). t.pairs) is.of.tree, pairs_are partitioner content)) same

pub returns-clause-misses : goal.returns-clause-misses
returns-clause-misses g c bytes pairs is has none =
    misses_all (g.H.Host.view c.args.host.now) c.args.opened.now c.args.token c.args.key.now pairs c.loop-turn._turn c.loop-turn.tree.passed c.loop-turn.next
    (c.loop-turn.invariant.looks bytes pairs is has) (omega (arith, count_is bytes c.args.opened.now.tree pairs has))

pub returns-clause-reads : goal.returns-clause-reads
returns-clause-reads g c most partitioner content le is have = let s = c.loop-turn.invariant.searches most partitioner content le is have in omega (arith, s.costs)

pub returns-in_err-found-clause-read : goal.returns-in_err-found-clause-read
returns-in_err-found-clause-read g c = read_then _ _ _ _ _ _ _ _ _ c.loop-turn.invariant.read c.partition_with_key.ensures.read

pub returns-then-is_some-clause-read : goal.returns-then-is_some-clause-read
returns-then-is_some-clause-read g c = read_then _ _ _ _ _ _ _ _ _ c.loop-turn.invariant.read c.partition_with_key.ensures.read

pub returns-in_err-next-2-clause-read : goal.returns-in_err-next-2-clause-read
returns-in_err-next-2-clause-read g c =
    read_then _ _ _ _ _ _ _ _ _ (read_then _ _ _ _ _ _ _ _ _ c.loop-turn.invariant.read c.partition_with_key.ensures.read) (read_of _ _ _ _ _ _ _ _ c.loop-turn.invariant.file c.next.ensures.read)
