use Rattle.std.proofs.Common.{◌≡◌, ◌∙◌, ap, refl}
use Rattle.std.proofs.lemmas.Result.{err_from_is_err_and}
use Rattle.sasi_ranges.proofs.Calling.{faults_handed, faults_ok}
use Rattle.sasi_lookup.specs.Files.{LookedFile}
use Rattle.sasi_lookup.proofs.FileLaws.{can_read_as, closed_data, closed_ready, data_as, faults_in_file, open_before, read_as, reads_as}
use Rattle.sasi_lookup.proofs.lookup_file.LookupFile.turn_to.Goals as goal

pub read_keys-requires : goal.read_keys-requires
read_keys-requires g c =
    let v = g.H.Host.view c.args.host.now in
    let old = c.args.self.now in
    let named : c.self.inside.name ≡ old.name = ap (λ (f : LookedFile). f.name) c.self.view_is in
    let was : c.take-was.result ≡ old.opened = c.take-was.ensures.value ∙ ap (λ (f : LookedFile). f.opened) c.self.view_is in
    record {
      read = can_read_as _ v old.name c.self.inside.name named c.requires.read;
      ready = open_before v v c.args.types.now 0 old c.self.inside.name c.take-was.result named was c.requires.ready;
    }

pub returns-in_err-now-clause-named : goal.returns-in_err-now-clause-named
returns-in_err-now-clause-named g c = ap (λ (f : LookedFile). f.name) c.self.view_is

pub returns-in_err-now-clause-ready : goal.returns-in_err-now-clause-ready
returns-in_err-now-clause-ready g c = closed_ready (g.H.Host.view c.read_keys.new.host).files c.args.types.now c.self.inside.name c.self.inside.keys.items _ c.take-was.ensures.after

pub returns-in_err-now-clause-data : goal.returns-in_err-now-clause-data
returns-in_err-now-clause-data g c =
    let named : c.self.inside.name ≡ c.args.self.now.name = ap (λ (f : LookedFile). f.name) c.self.view_is in
    closed_data (g.H.Host.view c.args.host.now) (g.H.Host.view c.read_keys.new.host) c.args.types.now c.args.self.now c.self.inside.name _ named c.take-was.ensures.after c.read_keys.ensures.read.changes

pub returns-in_err-now-clause-reads : goal.returns-in_err-now-clause-reads
returns-in_err-now-clause-reads g c =
    let old = c.args.self.now in
    let named : c.self.inside.name ≡ old.name = ap (λ (f : LookedFile). f.name) c.self.view_is in
    let was : c.take-was.result ≡ old.opened = c.take-was.ensures.value ∙ ap (λ (f : LookedFile). f.opened) c.self.view_is in
    reads_as (g.H.Host.view c.args.host.now) (g.H.Host.view c.read_keys.new.host) c.args.types.now c.args.token old c.self.inside.name c.take-was.result named was c.read_keys.ensures.reads

pub returns-in_err-now-clause-read : goal.returns-in_err-now-clause-read
returns-in_err-now-clause-read g c =
    let named : c.self.inside.name ≡ c.args.self.now.name = ap (λ (f : LookedFile). f.name) c.self.view_is in
    read_as _ _ _ (g.H.Host.view c.args.host.now) (g.H.Host.view c.read_keys.new.host) c.args.self.now.name c.self.inside.name named c.read_keys.ensures.read

pub returns-in_err-now-clause-faults : goal.returns-in_err-now-clause-faults
returns-in_err-now-clause-faults g c =
    let p = err_from_is_err_and c.from_residual.result c.from_residual.ensures.1 in
    let v = g.H.Host.view c.args.host.now in
    let w = g.H.Host.view c.read_keys.new.host in
    let old = c.args.self.now in
    let named : c.self.inside.name ≡ old.name = ap (λ (f : LookedFile). f.name) c.self.view_is in
    let was : c.take-was.result ≡ old.opened = c.take-was.ensures.value ∙ ap (λ (f : LookedFile). f.opened) c.self.view_is in
    rw (p.1, p.2) (faults_handed _ _ _ _ v w c.read_keys.result c.in_err-now.field-0.0 c.in_err-now.was (λ has is. (has, is))
    (faults_in_file v w c.args.types.now c.args.token old c.self.inside.name c.take-was.result named was c.read_keys.result c.read_keys.ensures.faults))

pub returns-clause-named : goal.returns-clause-named
returns-clause-named g c = ap (λ (f : LookedFile). f.name) c.self.view_is

pub returns-clause-ready : goal.returns-clause-ready
returns-clause-ready g c = c.in_ok-now.ensures.ready

pub returns-clause-data : goal.returns-clause-data
returns-clause-data g c p content is =
    let old = c.args.self.now in
    let named : c.self.inside.name ≡ old.name = ap (λ (f : LookedFile). f.name) c.self.view_is in
    let was : c.take-was.result ≡ old.opened = c.take-was.ensures.value ∙ ap (λ (f : LookedFile). f.opened) c.self.view_is in
    c.in_ok-now.ensures.data p content (data_as (g.H.Host.view c.args.host.now) (g.H.Host.view c.read_keys.new.host) c.args.types.now c.args.token old c.self.inside.name c.take-was.result named was p content is)

pub returns-clause-keys : goal.returns-clause-keys
returns-clause-keys g c p content is =
    let old = c.args.self.now in
    let named : c.self.inside.name ≡ old.name = ap (λ (f : LookedFile). f.name) c.self.view_is in
    let was : c.take-was.result ≡ old.opened = c.take-was.ensures.value ∙ ap (λ (f : LookedFile). f.opened) c.self.view_is in
    record {
      is_open = refl;
      keys_are = c.in_ok-now.ensures.keys p content (data_as (g.H.Host.view c.args.host.now) (g.H.Host.view c.read_keys.new.host) c.args.types.now c.args.token old c.self.inside.name c.take-was.result named was p content is);
    }

pub returns-clause-reads : goal.returns-clause-reads
returns-clause-reads g c =
    let old = c.args.self.now in
    let named : c.self.inside.name ≡ old.name = ap (λ (f : LookedFile). f.name) c.self.view_is in
    let was : c.take-was.result ≡ old.opened = c.take-was.ensures.value ∙ ap (λ (f : LookedFile). f.opened) c.self.view_is in
    reads_as (g.H.Host.view c.args.host.now) (g.H.Host.view c.read_keys.new.host) c.args.types.now c.args.token old c.self.inside.name c.take-was.result named was c.read_keys.ensures.reads

pub returns-clause-read : goal.returns-clause-read
returns-clause-read g c =
    let named : c.self.inside.name ≡ c.args.self.now.name = ap (λ (f : LookedFile). f.name) c.self.view_is in
    read_as _ _ _ (g.H.Host.view c.args.host.now) (g.H.Host.view c.read_keys.new.host) c.args.self.now.name c.self.inside.name named c.read_keys.ensures.read

pub returns-clause-faults : goal.returns-clause-faults
returns-clause-faults g c =
    let v = g.H.Host.view c.args.host.now in
    let w = g.H.Host.view c.read_keys.new.host in
    let old = c.args.self.now in
    let named : c.self.inside.name ≡ old.name = ap (λ (f : LookedFile). f.name) c.self.view_is in
    let was : c.take-was.result ≡ old.opened = c.take-was.ensures.value ∙ ap (λ (f : LookedFile). f.opened) c.self.view_is in
    faults_ok _ _ _ _ v w _ _ (faults_in_file v w c.args.types.now c.args.token old c.self.inside.name c.take-was.result named was _ c.in_ok-now.ensures.faults)
