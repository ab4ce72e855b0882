use Rattle.std.proofs.Common.{Err, Ok, arith, refl}
use Rattle.std.proofs.lemmas.Result.{err_from_is_err_and}
use Rattle.sasi_host.specs.Disk.{Same}
use Rattle.sasi_host.proofs.ChangeLaws.{then_same}
use Rattle.sasi_host.proofs.PageReadingLaws.{read_then}
use Rattle.sasi_ranges.proofs.Calling.{faults_handed, faults_ok}
use Rattle.sasi_lookup.proofs.FileLaws.{can_read_as, can_read_still, data_then, keys_ready, read_as, turned_cost, turned_faults, turned_keys}
use Rattle.sasi_lookup.proofs.opening.read_keys.Goals as goal

pub keys_with-requires : goal.keys_with-requires
keys_with-requires g c =
    let v = g.H.Host.view c.args.host.now in
    let w = g.H.Host.view c.open_file.new.host in
    record { read = can_read_as _ w c.args.name c.in_ok-now.now.file c.in_ok-now.ensures.ready.named (can_read_still _ _ _ _ v w c.args.name c.requires.read c.open_file.ensures.read) }

pub returns-in_err-now-clause-reads : goal.returns-in_err-now-clause-reads
returns-in_err-now-clause-reads g c p content is = omega (arith, c.open_file.ensures.reads p content is)

pub returns-in_err-now-clause-read : goal.returns-in_err-now-clause-read
returns-in_err-now-clause-read g c = c.open_file.ensures.read

pub returns-in_err-now-clause-faults : goal.returns-in_err-now-clause-faults
returns-in_err-now-clause-faults g c =
    let p = err_from_is_err_and c.from_residual.result c.from_residual.ensures.1 in
    let v = g.H.Host.view c.args.host.now in
    let w = g.H.Host.view c.open_file.new.host in
    rw (p.1, p.2) (faults_handed _ _ _ _ v w c.open_file.result c.in_err-now.field-0.0 c.in_err-now.was (λ has is. (has, is)) c.open_file.ensures.faults)

pub returns-in_err-keys-clause-reads : goal.returns-in_err-keys-clause-reads
returns-in_err-keys-clause-reads g c =
    let v = g.H.Host.view c.args.host.now in
    let w = g.H.Host.view c.open_file.new.host in
    let u = g.H.Host.view c.keys_with.new.host in
    turned_cost v w u c.args.name c.args.types.now c.args.opened c.in_ok-now.now c.args.token c.open_file.ensures.read.changes c.keys_with.ensures.read.changes c.in_ok-now.ensures.ready c.in_ok-now.ensures.opens c.open_file.ensures.reads c.keys_with.ensures.reads

pub returns-in_err-keys-clause-read : goal.returns-in_err-keys-clause-read
returns-in_err-keys-clause-read g c =
    let v = g.H.Host.view c.args.host.now in
    let w = g.H.Host.view c.open_file.new.host in
    let u = g.H.Host.view c.keys_with.new.host in
    read_then _ _ _ _ _ v w u c.args.name c.open_file.ensures.read (read_as _ _ _ w u c.args.name c.in_ok-now.now.file c.in_ok-now.ensures.ready.named c.keys_with.ensures.read)

pub returns-in_err-keys-clause-faults : goal.returns-in_err-keys-clause-faults
returns-in_err-keys-clause-faults g c =
    let p = err_from_is_err_and c.from_residual-in_err-keys.result c.from_residual-in_err-keys.ensures.1 in
    let v = g.H.Host.view c.args.host.now in
    let w = g.H.Host.view c.open_file.new.host in
    let u = g.H.Host.view c.keys_with.new.host in
    rw (p.1, p.2) (faults_handed _ _ _ _ v u (Err c.in_err-keys.field-0.0) c.in_err-keys.field-0.0 refl (λ has is. (has, is))
    (turned_faults v w u c.args.name c.args.types.now c.args.opened c.in_ok-now.now c.args.token c.open_file.ensures.read.changes c.keys_with.ensures.read.changes c.in_ok-now.ensures.ready c.in_ok-now.ensures.opens _ c.in_ok-now.now (Err c.in_err-keys.field-0.0)
    c.in_ok-now.ensures.faults (c.in_err-keys.ensures.causes c.in_ok-now.now.tree.pairs (omega arith)) c.in_err-keys.ensures.damaged c.in_err-keys.ensures.undamaged))

pub returns-clause-ready : goal.returns-clause-ready
returns-clause-ready g c =
    let w = g.H.Host.view c.open_file.new.host in
    let u = g.H.Host.view c.keys_with.new.host in
    keys_ready w u c.args.name c.args.types.now c.in_ok-now.now c.keys_with.ensures.read.changes c.in_ok-now.ensures.ready c.args.token c.in_ok-keys.keys.items c.in_ok-keys.ensures.stands

pub returns-clause-data : goal.returns-clause-data
returns-clause-data g c =
    let v = g.H.Host.view c.args.host.now in
    let w = g.H.Host.view c.open_file.new.host in
    let u = g.H.Host.view c.keys_with.new.host in
    data_then v w u c.args.name c.args.types.now c.args.opened c.in_ok-now.now c.args.token c.open_file.ensures.read.changes c.keys_with.ensures.read.changes c.in_ok-now.ensures.ready c.in_ok-now.ensures.opens u
    (then_same v w u Same c.open_file.ensures.read.changes c.keys_with.ensures.read.changes)

pub returns-clause-keys : goal.returns-clause-keys
returns-clause-keys g c =
    let v = g.H.Host.view c.args.host.now in
    let w = g.H.Host.view c.open_file.new.host in
    let u = g.H.Host.view c.keys_with.new.host in
    turned_keys v w u c.args.name c.args.types.now c.args.opened c.in_ok-now.now c.args.token c.open_file.ensures.read.changes c.keys_with.ensures.read.changes c.in_ok-now.ensures.ready c.in_ok-now.ensures.opens c.in_ok-keys.keys.items c.in_ok-keys.ensures.ok

pub returns-clause-reads : goal.returns-clause-reads
returns-clause-reads g c =
    let v = g.H.Host.view c.args.host.now in
    let w = g.H.Host.view c.open_file.new.host in
    let u = g.H.Host.view c.keys_with.new.host in
    turned_cost v w u c.args.name c.args.types.now c.args.opened c.in_ok-now.now c.args.token c.open_file.ensures.read.changes c.keys_with.ensures.read.changes c.in_ok-now.ensures.ready c.in_ok-now.ensures.opens c.open_file.ensures.reads c.keys_with.ensures.reads

pub returns-clause-read : goal.returns-clause-read
returns-clause-read g c =
    let v = g.H.Host.view c.args.host.now in
    let w = g.H.Host.view c.open_file.new.host in
    let u = g.H.Host.view c.keys_with.new.host in
    read_then _ _ _ _ _ v w u c.args.name c.open_file.ensures.read (read_as _ _ _ w u c.args.name c.in_ok-now.now.file c.in_ok-now.ensures.ready.named c.keys_with.ensures.read)

pub returns-clause-faults : goal.returns-clause-faults
returns-clause-faults g c =
    let v = g.H.Host.view c.args.host.now in
    let w = g.H.Host.view c.open_file.new.host in
    let u = g.H.Host.view c.keys_with.new.host in
    faults_ok _ _ _ _ v u c.in_ok-keys.keys _
    (turned_faults v w u c.args.name c.args.types.now c.args.opened c.in_ok-now.now c.args.token c.open_file.ensures.read.changes c.keys_with.ensures.read.changes c.in_ok-now.ensures.ready c.in_ok-now.ensures.opens _ c.in_ok-now.now (Ok c.in_ok-keys.keys)
    c.in_ok-now.ensures.faults (c.in_ok-keys.ensures.causes c.in_ok-now.now.tree.pairs (omega arith)) c.in_ok-keys.ensures.damaged c.in_ok-keys.ensures.undamaged)
