use Rattle.std.proofs.Common.{◌∙◌, subst, sym, arith, Option, Some, Result}
use Rattle.std.proofs.lemmas.Result.{err_from_is_err_and}
use Rattle.sasi_tokentree.specs.Scans.{PairScan}
use Rattle.sasi_host.specs.declared.fault.ReadFault.{ReadFault}
use Rattle.sasi_ranges.specs.declared.entry.Entry.{Entry}
use Rattle.sasi_ranges.specs.StreamCalls.{Gives}
use Rattle.sasi_ranges.proofs.Calling.{can_still, faults_handed, faults_ok, faults_then, spent_err, streamed_then}
use Rattle.sasi_hits.specs.Calls.{SpendsOn}
use Rattle.sasi_hits.specs.KeyTrees.{KeyEntries, KeysLeave, KeysPay, KeysReady, ScanLeaves, ScanPays, TreeLeaves}
use Rattle.sasi_hits.proofs.CallLaws.{can_read_on, streamed_on}
use Rattle.sasi_hits.proofs.KeyLaws.{keys_give}
use Rattle.sasi_hits.proofs.StreamLaws.{entries_give, key_faults, scans_on, spends_then}
use Rattle.sasi_hits.proofs.file_keys.FileKeysTokenStream.next.Goals as goal

pub open_keys-requires-clause-ready : goal.open_keys-requires-clause-ready
open_keys-requires-clause-ready g c = subst (λ (t : Option PairScan). KeysReady c.args.self.now.file t (g.H.Host.view c.args.host.now).files) (sym c.take-tree.ensures.value) c.requires.ready

pub next_key-requires : goal.next_key-requires
next_key-requires g c =
    let w = g.H.Host.view c.open_keys.new.host in
    let ready = c.in_ok-tree.ensures.ready in
    record { read = can_read_on _ w c.args.self.now.file c.in_ok-tree.tree.buffered ready.named ready.buffered (can_still _ _ _ _ _ _ (g.H.Host.view c.args.host.now) w c.requires.read c.open_keys.ensures.read); last = ready.at_last }

pub returns-clause-gives : goal.returns-clause-gives
returns-clause-gives g c es is =
    let s = c.args.self.now in
    let v = g.H.Host.view c.args.host.now in
    let u = g.H.Host.view c.next_key.new.host in
    let after = c.next_key.new.tree in
    let opened = c.in_ok-tree.ensures.leaves is.1.pairs (subst (λ (t : Option PairScan). TreeLeaves s.file s.types t v.files is.1.pairs) (sym c.take-tree.ensures.value) is.1.of_tree) in
    let named = c.next_key.ensures.read.file ∙ opened.0 in
    let given = keys_give s.file s.types s.floor after u is.0 is.1.pairs _ named is.1.rise is.1.from (c.in_ok-found.ensures.gives is.1.pairs opened.1) in
    subst (λ (o : Option Entry). Gives (KeyEntries s.file s.types s.leaf s.part s.floor (Some after) u.files) es o) (sym c.hit_of.ensures)
    (entries_give s.leaf s.part (KeysLeave s.file s.types s.floor (Some after) u.files) is.0 es _ is.2 given)

pub returns-clause-read : goal.returns-clause-read
returns-clause-read g c =
    streamed_then _ _ _ _ _ _ _ _ (g.H.Host.view c.args.host.now) (g.H.Host.view c.open_keys.new.host) (g.H.Host.view c.next_key.new.host) c.open_keys.ensures.read
    (streamed_on _ _ _ _ _ c.args.self.now.file _ _ c.in_ok-tree.ensures.ready.named c.next_key.ensures.read)

pub returns-in_err-tree-clause-reads : goal.returns-in_err-tree-clause-reads
returns-in_err-tree-clause-reads g c most is =
    let p = err_from_is_err_and c.from_residual.result c.from_residual.ensures.1 in
    let s = c.args.self.now in
    let v = g.H.Host.view c.args.host.now in
    let w = g.H.Host.view c.open_keys.new.host in
    rw p.1 (subst (λ (r : Result PairScan ReadFault). SpendsOn (λ opened rest. KeysPay s.file s.types (Some opened) w.files rest) most v.reads w.reads r) c.in_err-tree.was
    (c.open_keys.ensures.reads most (subst (λ (t : Option PairScan). KeysPay s.file s.types t v.files most) (sym c.take-tree.ensures.value) is)))

pub returns-in_err-tree-clause-read : goal.returns-in_err-tree-clause-read
returns-in_err-tree-clause-read g c = c.open_keys.ensures.read

pub returns-in_err-tree-clause-faults : goal.returns-in_err-tree-clause-faults
returns-in_err-tree-clause-faults g c =
    let p = err_from_is_err_and c.from_residual.result c.from_residual.ensures.1 in
    let s = c.args.self.now in
    let v = g.H.Host.view c.args.host.now in
    let w = g.H.Host.view c.open_keys.new.host in
    rw (p.1, p.2) (faults_handed _ _ _ _ v w c.open_keys.result c.in_err-tree.field-0.0 c.in_err-tree.was (λ es is. (is.1.pairs, subst (λ (t : Option PairScan). TreeLeaves s.file s.types t v.files is.1.pairs) (sym c.take-tree.ensures.value) is.1.of_tree)) c.open_keys.ensures.faults)

pub returns-in_err-found-clause-reads : goal.returns-in_err-found-clause-reads
returns-in_err-found-clause-reads g c most is =
    let p = err_from_is_err_and c.from_residual-in_err-found.result c.from_residual-in_err-found.ensures.1 in
    let s = c.args.self.now in
    let v = g.H.Host.view c.args.host.now in
    let u = g.H.Host.view c.open_keys.new.host in
    let w = g.H.Host.view c.next_key.new.host in
    let first = c.in_ok-tree.ensures.reads most (subst (λ (t : Option PairScan). KeysPay s.file s.types t v.files most) (sym c.take-tree.ensures.value) is) in
    let one = spent_err (ScanPays c.next_key.new.tree w.files) first.0 u.reads w.reads c.next_key.result c.in_err-found.field-0.0 c.in_err-found.was (c.next_key.ensures.reads first.0 first.1.1) in
    rw p.1 (omega (arith, first.2, one))

pub returns-in_err-found-clause-read : goal.returns-in_err-found-clause-read
returns-in_err-found-clause-read g c =
    streamed_then _ _ _ _ _ _ _ _ (g.H.Host.view c.args.host.now) (g.H.Host.view c.open_keys.new.host) (g.H.Host.view c.next_key.new.host) c.open_keys.ensures.read
    (streamed_on _ _ _ _ _ c.args.self.now.file _ _ c.in_ok-tree.ensures.ready.named c.next_key.ensures.read)

pub returns-in_err-found-clause-faults : goal.returns-in_err-found-clause-faults
returns-in_err-found-clause-faults g c =
    let p = err_from_is_err_and c.from_residual-in_err-found.result c.from_residual-in_err-found.ensures.1 in
    let s = c.args.self.now in
    let v = g.H.Host.view c.args.host.now in
    let u = g.H.Host.view c.open_keys.new.host in
    let w = g.H.Host.view c.next_key.new.host in
    let opened = c.in_ok-tree.tree in
    rw (p.1, p.2) (faults_then _ _ _ _ _ v u w opened _
    (λ es is. (is.1.pairs, (c.in_ok-tree.ensures.leaves is.1.pairs (subst (λ (t : Option PairScan). TreeLeaves s.file s.types t v.files is.1.pairs) (sym c.take-tree.ensures.value) is.1.of_tree)).1))
    (faults_ok _ _ _ (KeyEntries s.file s.types s.leaf s.part s.floor s.tree v.files) v u opened opened c.in_ok-tree.ensures.faults)
    (faults_handed _ _ (ScanLeaves opened u.files) (ScanLeaves opened u.files) u w c.next_key.result c.in_err-found.field-0.0 c.in_err-found.was (λ left is. (left, is))
    (key_faults s.file opened c.next_key.new.tree (ScanLeaves opened u.files) u w c.next_key.result c.next_key.ensures.read.changes c.in_ok-tree.ensures.ready c.next_key.ensures.faults)))

pub returns-clause-reads : goal.returns-clause-reads
returns-clause-reads g c most is =
    let s = c.args.self.now in
    let v = g.H.Host.view c.args.host.now in
    let u = g.H.Host.view c.open_keys.new.host in
    let w = g.H.Host.view c.next_key.new.host in
    let after = c.next_key.new.tree in
    spends_then (λ opened rest. KeysPay s.file s.types (Some opened) u.files rest) (λ rest. KeysPay s.file s.types (Some after) w.files rest) most v.reads u.reads w.reads c.in_ok-tree.tree c.in_ok-found.found
    (c.in_ok-tree.ensures.reads most (subst (λ (t : Option PairScan). KeysPay s.file s.types t v.files most) (sym c.take-tree.ensures.value) is))
    (λ rest pays. (let one = c.in_ok-found.ensures.reads rest pays.1 in (one.0, (c.next_key.ensures.read.file ∙ pays.0, one.1), one.2)))

pub returns-clause-ready : goal.returns-clause-ready
returns-clause-ready g c = scans_on c.args.self.now.file c.in_ok-tree.tree c.next_key.new.tree _ _ _ (g.H.Host.view c.open_keys.new.host) (g.H.Host.view c.next_key.new.host) c.next_key.ensures.tree c.next_key.ensures.read c.next_key.ensures.at_last c.in_ok-tree.ensures.ready

pub returns-clause-faults : goal.returns-clause-faults
returns-clause-faults g c =
    let s = c.args.self.now in
    let v = g.H.Host.view c.args.host.now in
    let u = g.H.Host.view c.open_keys.new.host in
    let w = g.H.Host.view c.next_key.new.host in
    let opened = c.in_ok-tree.tree in
    faults_ok _ _ _ _ v w c.in_ok-found.found _ (faults_then _ _ _ _ _ v u w opened _
    (λ left is. (left, (c.in_ok-tree.ensures.leaves left is).1)) c.in_ok-tree.ensures.faults
    (key_faults s.file opened c.next_key.new.tree (ScanLeaves opened u.files) u w _ c.next_key.ensures.read.changes c.in_ok-tree.ensures.ready c.in_ok-found.ensures.faults))
