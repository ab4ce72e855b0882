use Rattle.std.proofs.Common.{◌≡◌, ◌∙◌, Option, None, Some, Ok, Err, ap, inl, inr, refl, subst, arith}
use Rattle.std.proofs.lemmas.Result.{err_from_is_err_and}
use Rattle.sasi_host.proofs.PageReadingLaws.{read_of, read_then}
use Rattle.sasi_types.specs.declared.tree.Pair.{Pair}
use Rattle.sasi_types.specs.declared.tree.TreeRef.{TreeRef}
use Rattle.sasi_host.proofs.BufferedLaws.{buffered_after}
use Rattle.sasi_host.proofs.DamageLaws.{shown_before}
use Rattle.sasi_tokentree.specs.Scans.{PairScan, PassesOne, ReadsEntry, ReadsHeader, ReadsNextPair, IsEntryBuffered}
use Rattle.sasi_tokentree.proofs.EntryPages.{entry_pages}
use Rattle.sasi_tokentree.proofs.Rising.{last_still}
use Rattle.sasi_dataread.proofs.Pairs.{none_left}
use Rattle.sasi_dataread.proofs.Pages.{reads_none}
use Rattle.sasi_host.proofs.CauseLaws.{ok_reads, fault_reads, reads_on, reads_within}
use Rattle.sasi_dataread.proofs.DataScan.{IsShort, all_pairs, scan_reads_once, scan_stops, scan_stops_behind, entry_of, pairs_shown, partition_shown, steps_to_next, no_false_tree, no_false_offset}
use Rattle.sasi_dataread.proofs.KeyOrder.{keys_shown, last_key_given, last_key_still, no_false_keys, no_false_of, reads_next, told_reads}
use Rattle.sasi_dataread.proofs.Looking.{header_of, leads_there}
use Rattle.sasi_dataread.proofs.walk.next_partition.Goals as goal

pub returns-in_err-next-clause-damaged : goal.returns-in_err-next-clause-damaged
returns-in_err-next-clause-damaged g c =
    let p = err_from_is_err_and c.from_residual.result c.from_residual.ensures.1 in
    rw (p.1, p.2) (pairs_shown (λ index. index ≡ c.args.tree.now.passed) (g.H.Host.view c.args.host.now) c.args.opened.now
    c.args.tree.now.buffered.file c.args.tree.now.tree c.in_err-next.field-0.0 c.requires.file c.requires.tree c.in_err-next.ensures.damaged)

pub returns-in_err-next-clause-undamaged : goal.returns-in_err-next-clause-undamaged
returns-in_err-next-clause-undamaged g c =
    let p = err_from_is_err_and c.from_residual.result c.from_residual.ensures.1 in
    rw (p.1, p.2) (no_false_of (g.H.Host.view c.args.host.now) c.args.opened.now c.args.tokens c.in_err-next.field-0.0
    (no_false_tree (g.H.Host.view c.args.host.now) c.args.opened.now c.args.tree.now.buffered.file c.args.tree.now.tree
    c.in_err-next.field-0.0 c.requires.file c.requires.tree (λ bytes is. (g.met.H.Host.sound c.args.host.now).fits c.args.opened.now.file bytes
    is) c.in_err-next.ensures.undamaged))

pub returns-in-None-clause-ok : goal.returns-in-None-clause-ok
returns-in-None-clause-ok g c partitioner content agrees is have =
    let view = g.H.Host.view c.args.host.now in
    let gives = subst (λ (o : Option Pair). ReadsNextPair view c.args.tree.now.buffered.file c.args.tree.now.tree c.args.tree.now.passed c.next.new.self.passed o) c.in-None.is c.in_ok-next.ensures.ok in
    let took = steps_to_next view c.args.opened.now c.args.tree.now.buffered.file c.args.tree.now.tree c.args.tree.now.passed c.next.new.self.passed None
    c.requires.file c.requires.tree (λ bytes reads. (g.met.H.Host.sound c.args.host.now).fits c.args.opened.now.file bytes reads) gives
    partitioner content is have in
    (none_left partitioner content c.args.tree.now.passed took.0, took.1)

pub returns-in_err-next-clause-err : goal.returns-in_err-next-clause-err
returns-in_err-next-clause-err g c =
    let p = err_from_is_err_and c.from_residual.result c.from_residual.ensures.1 in
    rw p.1 (inl c.in_err-next.ensures.err)

pub returns-in-None-clause-passes : goal.returns-in-None-clause-passes
returns-in-None-clause-passes g c =
    let one = subst (λ (o : Option Pair). PassesOne c.args.tree.now c.next.new.self o) c.in-None.is c.in_ok-next.ensures.ends in
    (omega (arith, one.0, ap (λ (t : TreeRef). t.pairs) c.requires.tree), ap (λ (w : PairScan). w.passed) one.1)

pub returns-in_err-key-clause-err : goal.returns-in_err-key-clause-err
returns-in_err-key-clause-err g c =
    let p = err_from_is_err_and c.from_residual-in_err-key.result c.from_residual-in_err-key.ensures.1 in
    let one = subst (λ (o : Option Pair). PassesOne c.args.tree.now c.next.new.self o) c.in-Some.is c.in_ok-next.ensures.ends in
    rw p.1 (inr one.1)

pub returns-clause-passes : goal.returns-clause-passes
returns-clause-passes g c =
    let v = g.H.Host.view c.args.host.now in
    let opened = c.args.opened.now in
    let tree = c.args.tree.now in
    let pair = c.in-Some.pair in
    let after = c.next.new.self.passed in
    let one = subst (λ (o : Option Pair). PassesOne tree c.next.new.self o) c.in-Some.is c.in_ok-next.ensures.ends in
    let entry = subst (λ (o : Option Pair). ReadsEntry v tree.buffered.file tree.tree after o) c.in-Some.is c.in_ok-next.ensures.stands in
    let header = subst (λ (o : Option Pair). ReadsHeader v tree.buffered.file tree.tree after o) c.in-Some.is c.in_ok-next.ensures.header in (
      omega (arith, one.0, ap (λ (t : TreeRef). t.pairs) c.requires.tree),
      one.1,
      pair.token,
      c.token_by-token.ensures,
      leads_there v (g.H.Host.view c.next.new.host) opened tree.passed after pair c.in_ok-key.key c.in_ok-key.part one.1
          (entry_of v opened tree.buffered.file tree.tree after (Some pair) c.requires.file c.requires.tree entry)
          (header_of v opened tree.buffered.file tree.tree after (Some pair) c.requires.file c.requires.tree header) c.next.ensures.read.changes c.in_ok-key.ensures.begins c.in_ok-key.ensures.stands,
    )

pub returns-in_err-key-clause-damaged : goal.returns-in_err-key-clause-damaged
returns-in_err-key-clause-damaged g c =
    let p = err_from_is_err_and c.from_residual-in_err-key.result c.from_residual-in_err-key.ensures.1 in
    let view = g.H.Host.view in
    let gives = subst (λ (o : Option Pair). ReadsEntry (view c.args.host.now) c.args.tree.now.buffered.file c.args.tree.now.tree c.next.new.self.passed o) c.in-Some.is c.in_ok-next.ensures.stands in
    rw (p.1, p.2) (partition_shown (view c.args.host.now) c.args.opened.now c.next.new.self.passed c.in-Some.pair c.in_err-key.field-0.0
    (entry_of (view c.args.host.now) c.args.opened.now c.args.tree.now.buffered.file c.args.tree.now.tree c.next.new.self.passed (Some c.in-Some.pair) c.requires.file c.requires.tree gives)
    (shown_before _ (view c.args.host.now) _ c.args.opened.now.file c.in_err-key.field-0.0 c.next.ensures.read.changes c.in_err-key.ensures.damaged))

pub returns-in_err-key-clause-undamaged : goal.returns-in_err-key-clause-undamaged
returns-in_err-key-clause-undamaged g c =
    let p = err_from_is_err_and c.from_residual-in_err-key.result c.from_residual-in_err-key.ensures.1 in
    let view = g.H.Host.view c.args.host.now in
    let gives = subst (λ (o : Option Pair). ReadsNextPair view c.args.tree.now.buffered.file c.args.tree.now.tree c.args.tree.now.passed c.next.new.self.passed o) c.in-Some.is c.in_ok-next.ensures.ok in
    rw (p.1, p.2) (no_false_of view c.args.opened.now c.args.tokens c.in_err-key.field-0.0
    (no_false_offset view _ c.args.opened.now c.args.tree.now.passed c.next.new.self.passed c.in-Some.pair c.in_err-key.field-0.0
    (λ partitioner content is have.
    steps_to_next view c.args.opened.now c.args.tree.now.buffered.file c.args.tree.now.tree c.args.tree.now.passed c.next.new.self.passed
    (Some c.in-Some.pair) c.requires.file c.requires.tree (λ bytes reads. (g.met.H.Host.sound c.args.host.now).fits c.args.opened.now.file bytes
    reads) gives partitioner content is have)
    c.next.ensures.read.changes c.in_err-key.ensures.undamaged))

pub returns-in_err-next-clause-buffered : goal.returns-in_err-next-clause-buffered
returns-in_err-next-clause-buffered g c = buffered_after c.args.buffered.now _ _ c.next.ensures.read.changes c.requires.buffered

pub returns-in_err-next-clause-causes : goal.returns-in_err-next-clause-causes
returns-in_err-next-clause-causes g c =
    let p = err_from_is_err_and c.from_residual.result c.from_residual.ensures.1 in
    rw (p.1, p.2) (fault_reads _ _ _ 2052 c.in_err-next.field-0.0 (omega
    (arith, entry_pages c.args.tree.now.buffered.page c.args.tree.now.tree c.args.tree.now.passed)) c.in_err-next.ensures.causes)

pub returns-in-None-clause-buffered : goal.returns-in-None-clause-buffered
returns-in-None-clause-buffered g c = buffered_after c.args.buffered.now _ _ c.next.ensures.read.changes c.requires.buffered

pub returns-in-None-clause-causes : goal.returns-in-None-clause-causes
returns-in-None-clause-causes g c = reads_within _ _ _ 2052 (Ok None)
    (omega (arith, entry_pages c.args.tree.now.buffered.page c.args.tree.now.tree c.args.tree.now.passed))
    (ok_reads _ _ _ _ None c.in_ok-next.ensures.causes)

pub returns-in-None-clause-reads : goal.returns-in-None-clause-reads
returns-in-None-clause-reads g c partitioner content is have sequential =
    let view = g.H.Host.view c.args.host.now in
    let gives = subst (λ (o : Option Pair). ReadsNextPair view c.args.tree.now.buffered.file c.args.tree.now.tree c.args.tree.now.passed c.next.new.self.passed o) c.in-None.is c.in_ok-next.ensures.ok in
    let took = steps_to_next view c.args.opened.now c.args.tree.now.buffered.file c.args.tree.now.tree c.args.tree.now.passed c.next.new.self.passed None
    c.requires.file c.requires.tree (λ bytes reads. (g.met.H.Host.sound c.args.host.now).fits c.args.opened.now.file bytes reads) gives
    partitioner content is have in
    let same = (subst (λ (o : Option Pair). PassesOne c.args.tree.now c.next.new.self o) c.in-None.is c.in_ok-next.ensures.ends).1 in
    let ended = c.next.ensures.ended (all_pairs c.args.opened.now partitioner content c.args.tree.now.tree c.args.tree.now.passed is.of c.requires.tree took.0) in
    reads_none is.bytes content c.args.opened.now c.args.tree.now c.next.new.self c.args.buffered.now _ _ same (omega (arith, ended)) sequential

pub returns-in_err-next-clause-reads : goal.returns-in_err-next-clause-reads
returns-in_err-next-clause-reads g c partitioner content is have sequential =
    let p = err_from_is_err_and c.from_residual.result c.from_residual.ensures.1 in
    let v = g.H.Host.view c.args.host.now in
    rw p.1 (scan_stops v (g.H.Host.view c.next.new.host) c.args.opened.now c.args.tree.now c.args.buffered.now partitioner content _ _ is have
    (λ bytes reads. (g.met.H.Host.sound c.args.host.now).fits c.args.opened.now.file bytes reads) c.requires.tree sequential c.next.ensures.causes.reads c.next.ensures.ended)

pub returns-in_err-key-clause-reads : goal.returns-in_err-key-clause-reads
returns-in_err-key-clause-reads g c partitioner content is have sequential =
    let p = err_from_is_err_and c.from_residual-in_err-key.result c.from_residual-in_err-key.ensures.1 in
    let v = g.H.Host.view c.args.host.now in
    let opened = c.args.opened.now in
    let tree = c.args.tree.now in
    let short : IsShort v opened.file = λ bytes reads. (g.met.H.Host.sound c.args.host.now).fits opened.file bytes reads in
    let gives = subst (λ (o : Option Pair). ReadsNextPair v tree.buffered.file tree.tree tree.passed c.next.new.self.passed o) c.in-Some.is c.in_ok-next.ensures.ok in
    let took = steps_to_next v opened tree.buffered.file tree.tree tree.passed c.next.new.self.passed (Some c.in-Some.pair) c.requires.file c.requires.tree short gives partitioner content is have in
    rw p.1 (scan_stops_behind v (g.H.Host.view c.next.new.host) opened tree c.args.buffered.now partitioner content _ _ is have short c.requires.tree sequential c.next.ensures.causes.reads
    c.next.new.self.passed c.in-Some.pair _ c.next.ensures.read.changes took c.partition_of_pair.ensures.reads)

pub returns-in_err-key-clause-pairs_buffered : goal.returns-in_err-key-clause-pairs_buffered
returns-in_err-key-clause-pairs_buffered g c = buffered_after c.next.new.self.buffered _ _ c.partition_of_pair.ensures.read.changes c.next.ensures.read.buffered

pub returns-in_err-key-clause-causes : goal.returns-in_err-key-clause-causes
returns-in_err-key-clause-causes g c =
    let p = err_from_is_err_and c.from_residual-in_err-key.result c.from_residual-in_err-key.ensures.1 in
    rw (p.1, p.2) (fault_reads _ _ 2052 2052 c.in_err-key.field-0.0 (omega arith)
    (reads_on _ _ _ _ 2050 2052 _ (Err c.in_err-key.field-0.0)
    (omega (arith, entry_pages c.args.tree.now.buffered.page c.args.tree.now.tree c.args.tree.now.passed)) c.in_ok-next.ensures.causes
    c.in_err-key.ensures.causes))

pub returns-clause-pairs_buffered : goal.returns-clause-pairs_buffered
returns-clause-pairs_buffered g c = buffered_after c.next.new.self.buffered _ _ c.partition_of_pair.ensures.read.changes c.next.ensures.read.buffered

pub returns-clause-causes : goal.returns-clause-causes
returns-clause-causes g c =
    ok_reads _ _ 2052 _ _ (reads_on _ _ _ _ 2050 2052 _ _
    (omega (arith, entry_pages c.args.tree.now.buffered.page c.args.tree.now.tree c.args.tree.now.passed)) c.in_ok-next.ensures.causes
    c.in_ok-key.ensures.causes)

pub returns-clause-reads : goal.returns-clause-reads
returns-clause-reads g c partitioner content is have sequential =
    let v = g.H.Host.view c.args.host.now in
    let opened = c.args.opened.now in
    let tree = c.args.tree.now in
    let pair = c.in-Some.pair in
    let gives = subst (λ (o : Option Pair). ReadsNextPair v tree.buffered.file tree.tree tree.passed c.next.new.self.passed o) c.in-Some.is c.in_ok-next.ensures.ok in
    let took = steps_to_next v opened tree.buffered.file tree.tree tree.passed c.next.new.self.passed (Some pair) c.requires.file c.requires.tree
    (λ bytes reads. (g.met.H.Host.sound c.args.host.now).fits opened.file bytes reads) gives partitioner content is have in
    let entry_buffered = subst (λ (o : Option Pair). IsEntryBuffered c.next.new.self o) c.in-Some.is c.in_ok-next.ensures.entry_buffered in
    scan_reads_once v (g.H.Host.view c.next.new.host) opened tree c.next.new.self c.args.buffered.now c.partition_of_pair.new.buffered pair c.in_ok-key.key c.in_ok-key.part
    partitioner content _ _ _ is have (λ bytes reads. (g.met.H.Host.sound c.args.host.now).fits opened.file bytes reads) c.next.ensures.read.changes took c.in_ok-key.ensures.ok c.requires.tree c.next.ensures.tree sequential
    c.next.ensures.causes.reads c.partition_of_pair.ensures.reads (subst (λ (o : Option Pair). PassesOne tree c.next.new.self o) c.in-Some.is
    c.in_ok-next.ensures.ends).1 entry_buffered c.in_ok-key.ensures.page

pub returns-clause-ok : goal.returns-clause-ok
returns-clause-ok g c =
    let v = g.H.Host.view c.args.host.now in
    let opened = c.args.opened.now in
    let tree = c.args.tree.now in
    let gives = subst (λ (o : Option Pair). ReadsNextPair v tree.buffered.file tree.tree tree.passed c.next.new.self.passed o) c.in-Some.is c.in_ok-next.ensures.ok in
    reads_next v (g.H.Host.view c.next.new.host) opened c.args.tokens tree.passed c.next.new.self.passed c.in-Some.pair c.token_by-token.result c.in_ok-key.key c.in_ok-key.part c.token_by-token.ensures c.next.ensures.read.changes
    (steps_to_next v opened tree.buffered.file tree.tree tree.passed c.next.new.self.passed (Some c.in-Some.pair) c.requires.file c.requires.tree
    (λ bytes reads. (g.met.H.Host.sound c.args.host.now).fits opened.file bytes reads) gives)
    c.in_ok-key.ensures.ok

pub returns-in_err-key-clause-read : goal.returns-in_err-key-clause-read
returns-in_err-key-clause-read g c = read_then _ _ _ _ _ _ _ _ _ (read_of _ _ _ _ _ _ _ _ c.requires.file c.next.ensures.read) c.partition_of_pair.ensures.read

pub returns-clause-read : goal.returns-clause-read
returns-clause-read g c = read_then _ _ _ _ _ _ _ _ _ (read_of _ _ _ _ _ _ _ _ c.requires.file c.next.ensures.read) c.partition_of_pair.ensures.read

pub returns-in_err-key-clause-at_last : goal.returns-in_err-key-clause-at_last
returns-in_err-key-clause-at_last g c =
    let tree = c.next.new.self in
    last_still _ _ tree.buffered.file tree.buffered.file tree.tree tree.passed tree.last c.partition_of_pair.ensures.read.changes refl c.next.ensures.at_last

pub returns-clause-at_last : goal.returns-clause-at_last
returns-clause-at_last g c =
    let tree = c.next.new.self in
    last_still _ _ tree.buffered.file tree.buffered.file tree.tree tree.passed tree.last c.partition_of_pair.ensures.read.changes refl c.next.ensures.at_last

pub returns-in_err-check_behind-clause-err : goal.returns-in_err-check_behind-clause-err
returns-in_err-check_behind-clause-err g c =
    let p = err_from_is_err_and c.from_residual-in_err-check_behind.result c.from_residual-in_err-check_behind.ensures.1 in
    let one = subst (λ (o : Option Pair). PassesOne c.args.tree.now c.next.new.self o) c.in-Some.is c.in_ok-next.ensures.ends in
    rw p.1 (inr one.1)

pub returns-in_err-check_behind-clause-reads : goal.returns-in_err-check_behind-clause-reads
returns-in_err-check_behind-clause-reads g c partitioner content is have sequential =
    let p = err_from_is_err_and c.from_residual-in_err-check_behind.result c.from_residual-in_err-check_behind.ensures.1 in
    let v = g.H.Host.view c.args.host.now in
    let opened = c.args.opened.now in
    let tree = c.args.tree.now in
    let short : IsShort v opened.file = λ bytes reads. (g.met.H.Host.sound c.args.host.now).fits opened.file bytes reads in
    let gives = subst (λ (o : Option Pair). ReadsNextPair v tree.buffered.file tree.tree tree.passed c.next.new.self.passed o) c.in-Some.is c.in_ok-next.ensures.ok in
    let took = steps_to_next v opened tree.buffered.file tree.tree tree.passed c.next.new.self.passed (Some c.in-Some.pair) c.requires.file c.requires.tree short gives partitioner content is have in
    rw p.1 (scan_stops_behind v (g.H.Host.view c.next.new.host) opened tree c.args.buffered.now partitioner content _ _ is have short c.requires.tree sequential c.next.ensures.causes.reads
    c.next.new.self.passed c.in-Some.pair _ c.next.ensures.read.changes took c.partition_of_pair.ensures.reads)

pub returns-in_err-check_behind-clause-pairs_buffered : goal.returns-in_err-check_behind-clause-pairs_buffered
returns-in_err-check_behind-clause-pairs_buffered g c = buffered_after c.next.new.self.buffered _ _ c.partition_of_pair.ensures.read.changes c.next.ensures.read.buffered

pub returns-in_err-check_behind-clause-read : goal.returns-in_err-check_behind-clause-read
returns-in_err-check_behind-clause-read g c = read_then _ _ _ _ _ _ _ _ _ (read_of _ _ _ _ _ _ _ _ c.requires.file c.next.ensures.read) c.partition_of_pair.ensures.read

pub returns-in_err-check_behind-clause-at_last : goal.returns-in_err-check_behind-clause-at_last
returns-in_err-check_behind-clause-at_last g c =
    let tree = c.next.new.self in
    last_still _ _ tree.buffered.file tree.buffered.file tree.tree tree.passed tree.last c.partition_of_pair.ensures.read.changes refl c.next.ensures.at_last

pub check_behind-requires : goal.check_behind-requires
check_behind-requires g c = c.in_ok-key.ensures.in_table.has

pub returns-in_err-check_behind-clause-damaged : goal.returns-in_err-check_behind-clause-damaged
returns-in_err-check_behind-clause-damaged g c =
    let p = err_from_is_err_and c.from_residual-in_err-check_behind.result c.from_residual-in_err-check_behind.ensures.1 in
    let v = g.H.Host.view c.args.host.now in
    let opened = c.args.opened.now in
    let tree = c.args.tree.now in
    let pair = c.in-Some.pair in
    let after = c.next.new.self.passed in
    let one = subst (λ (o : Option Pair). PassesOne tree c.next.new.self o) c.in-Some.is c.in_ok-next.ensures.ends in
    let entry = subst (λ (o : Option Pair). ReadsEntry v tree.buffered.file tree.tree after o) c.in-Some.is c.in_ok-next.ensures.stands in
    rw (p.1, p.2) (keys_shown v (g.H.Host.view c.next.new.host) opened c.args.tokens tree.passed after pair c.token_by-token.result c.in_ok-key.key c.in_ok-key.part c.token_by-token.ensures one.1 c.next.ensures.read.changes
    (entry_of v opened tree.buffered.file tree.tree after (Some pair) c.requires.file c.requires.tree entry) c.in_ok-key.ensures.stands
    c.file.result c.args.last.now c.in_err-check_behind.field-0.0 (c.file.ensures ∙ c.partition_of_pair.ensures.named) c.requires.last c.in_err-check_behind.ensures.damaged)

pub returns-in_err-check_behind-clause-undamaged : goal.returns-in_err-check_behind-clause-undamaged
returns-in_err-check_behind-clause-undamaged g c =
    let p = err_from_is_err_and c.from_residual-in_err-check_behind.result c.from_residual-in_err-check_behind.ensures.1 in
    let v = g.H.Host.view c.args.host.now in
    let opened = c.args.opened.now in
    let tree = c.args.tree.now in
    let pair = c.in-Some.pair in
    let after = c.next.new.self.passed in
    let gives = subst (λ (o : Option Pair). ReadsNextPair v tree.buffered.file tree.tree tree.passed after o) c.in-Some.is c.in_ok-next.ensures.ok in
    rw (p.1, p.2) (no_false_keys v opened c.args.tokens c.file.result tree.passed after pair.place c.args.last.now (c.token_by-token.result, c.in_ok-key.key, c.in_ok-key.part) c.in_err-check_behind.field-0.0 c.requires.last
    (reads_next v (g.H.Host.view c.next.new.host) opened c.args.tokens tree.passed after pair c.token_by-token.result c.in_ok-key.key c.in_ok-key.part c.token_by-token.ensures c.next.ensures.read.changes
    (steps_to_next v opened tree.buffered.file tree.tree tree.passed after (Some pair) c.requires.file c.requires.tree (λ bytes reads. (g.met.H.Host.sound c.args.host.now).fits opened.file bytes reads) gives)
    c.in_ok-key.ensures.ok)
    c.in_err-check_behind.ensures.damaged)

pub returns-in_err-check_behind-clause-causes : goal.returns-in_err-check_behind-clause-causes
returns-in_err-check_behind-clause-causes g c =
    let p = err_from_is_err_and c.from_residual-in_err-check_behind.result c.from_residual-in_err-check_behind.ensures.1 in
    rw (p.1, p.2) (told_reads _ _ 2052 _ c.in_err-check_behind.field-0.0 c.in_err-check_behind.ensures.read
    (reads_on _ _ _ _ 2050 2052 _ _
    (omega (arith, entry_pages c.args.tree.now.buffered.page c.args.tree.now.tree c.args.tree.now.passed)) c.in_ok-next.ensures.causes
    c.in_ok-key.ensures.causes))

pub returns-in-None-clause-last : goal.returns-in-None-clause-last
returns-in-None-clause-last g c =
    let one = subst (λ (o : Option Pair). PassesOne c.args.tree.now c.next.new.self o) c.in-None.is c.in_ok-next.ensures.ends in
    last_key_still _ _ c.args.opened.now c.args.tokens c.args.tree.now.passed c.next.new.self.passed c.args.last.now c.next.ensures.read.changes (ap (λ (w : PairScan). w.passed) one.1) c.requires.last

pub returns-clause-rises : goal.returns-clause-rises
returns-clause-rises g c = c.in_ok-check_behind.ensures.rises

pub returns-clause-last : goal.returns-clause-last
returns-clause-last g c =
    let v = g.H.Host.view c.args.host.now in
    let w = g.H.Host.view c.next.new.host in
    let opened = c.args.opened.now in
    let tree = c.args.tree.now in
    let pair = c.in-Some.pair in
    let after = c.next.new.self.passed in
    let token = c.token_by-token.result in
    let one = subst (λ (o : Option Pair). PassesOne tree c.next.new.self o) c.in-Some.is c.in_ok-next.ensures.ends in
    let entry = subst (λ (o : Option Pair). ReadsEntry v tree.buffered.file tree.tree after o) c.in-Some.is c.in_ok-next.ensures.stands in
    let gives = subst (λ (o : Option Pair). ReadsNextPair v tree.buffered.file tree.tree tree.passed after o) c.in-Some.is c.in_ok-next.ensures.ok in
    last_key_still w _ opened c.args.tokens after after (Some (record { token = token; key = c.in_ok-key.key })) c.partition_of_pair.ensures.read.changes refl
    (last_key_given v w opened c.args.tokens tree.passed after pair token c.in_ok-key.key c.in_ok-key.part c.token_by-token.ensures one.1 c.next.ensures.read.changes
    (entry_of v opened tree.buffered.file tree.tree after (Some pair) c.requires.file c.requires.tree entry) c.in_ok-key.ensures.stands
    (reads_next v w opened c.args.tokens tree.passed after pair token c.in_ok-key.key c.in_ok-key.part c.token_by-token.ensures c.next.ensures.read.changes
    (steps_to_next v opened tree.buffered.file tree.tree tree.passed after (Some pair) c.requires.file c.requires.tree (λ bytes reads. (g.met.H.Host.sound c.args.host.now).fits opened.file bytes reads) gives)
    c.in_ok-key.ensures.ok))
