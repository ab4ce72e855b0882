use Rattle.std.proofs.Common.{◌≡◌, Ok, Err, arith, refl}
use Rattle.std.proofs.lemmas.Result.{err_from_is_err_and}
use Rattle.sasi_host.proofs.ChangeLaws.{stays}
use Rattle.sasi_host.specs.Damages.{OnDamage}
use Rattle.sasi_host.specs.Faults.{read_fault_of}
use Rattle.sasi_host.specs.View.{ListCauses, View}
use Rattle.sasi_host.specs.declared.damage.Damage.{Damage}
use Rattle.sasi_host.specs.declared.fault.HostFault.{HostFault}
use Rattle.sasi_host.specs.declared.fault.HostFault.TheVariants as host_fault
use Rattle.sasi_host.specs.declared.fault.ReadFault.TheVariants as read_fault
use Rattle.sasi_gated.specs.Causes.{ReadingCauses}
use Rattle.sasi_recover.specs.NewFolder.{NoFalseFreshDamage, ReportsForeign}
use Rattle.sasi_host.specs.Disk.{Changes, Same}
use Rattle.sasi_recover.proofs.Foreign.{foreign_no_false_damage, not_foreign}
use Rattle.sasi_recover.proofs.FirstStore.{no_moments, stays_any_change}
use Rattle.sasi_recover.proofs.new_folder.create_store.Goals as goal

-- a call on the host tells no damage
no_host_damage : (P : Damage → Type 0) (f : HostFault) → OnDamage P (read_fault_of f)
no_host_damage P host_fault.Failed = tt
no_host_damage P host_fault.OutOfMemory = tt

host_causes : {S T : Type 0} (a b : View) (f : HostFault) → ListCauses {T = S} a b (Err f) → ReadingCauses {T = T} a b (Err (read_fault_of f))
host_causes a b host_fault.Failed causes = record { disk = causes.disk; out = causes.out; ok = tt; failed = λ is. causes.failed refl; memory = λ is. (let never : read_fault.Failed ≡ read_fault.OutOfMemory = is in cc); damaged = λ damage is. (let never : read_fault.Failed ≡ read_fault.Damaged damage = is in cc) }
host_causes a b host_fault.OutOfMemory causes = record { disk = causes.disk; out = causes.out; ok = tt; failed = λ is. (let never : read_fault.OutOfMemory ≡ read_fault.Failed = is in cc); memory = λ is. causes.memory refl; damaged = λ damage is. (let never : read_fault.OutOfMemory ≡ read_fault.Damaged damage = is in cc) }

made_causes : {S T : Type 0} (a b : View) (x : S) (y : T) → ListCauses {T = S} a b (Ok x) → ReadingCauses {T = T} a b (Ok y)
made_causes a b x y causes = record { disk = causes.disk; out = causes.out; ok = causes.ok; failed = tt; memory = tt; damaged = tt }

foreign_causes : {T : Type 0} (a : View) (damage : Damage) → ReadingCauses {T = T} a a (Err (read_fault.Damaged damage))
foreign_causes a damage = record { disk = omega arith; out = refl; ok = tt; failed = λ is. (let never : read_fault.Damaged damage ≡ read_fault.Failed = is in cc); memory = λ is. refl; damaged = λ other is. refl }

pub returns-in_err-check_new-clause-any_moment : goal.returns-in_err-check_new-clause-any_moment
returns-in_err-check_new-clause-any_moment g c fresh = no_moments (g.H.Host.view c.args.host.now) c.args.partitioner
    (g.met.H.Host.sound c.args.host.now) fresh

pub returns-in_err-check_new-clause-changes : goal.returns-in_err-check_new-clause-changes
returns-in_err-check_new-clause-changes g c = stays_any_change (g.H.Host.view c.args.host.now)

pub returns-in_err-check_new-clause-undamaged : goal.returns-in_err-check_new-clause-undamaged
returns-in_err-check_new-clause-undamaged g c =
    let p = err_from_is_err_and c.from_residual.result c.from_residual.ensures.1 in
    rw (p.1, p.2)
    (foreign_no_false_damage (g.H.Host.view c.args.host.now) c.args.names.now c.in_err-check_new.field-0.0 c.requires.lists
    c.in_err-check_new.ensures.foreign)

pub returns-in_err-check_new-clause-untouched : goal.returns-in_err-check_new-clause-untouched
returns-in_err-check_new-clause-untouched g c =
    let p = err_from_is_err_and c.from_residual.result c.from_residual.ensures.1 in
    rw (p.1, p.2) (stays (g.H.Host.view c.args.host.now))

pub returns-in_err-check_new-clause-foreign : goal.returns-in_err-check_new-clause-foreign
returns-in_err-check_new-clause-foreign g c name has other = stays (g.H.Host.view c.args.host.now)

pub returns-in_err-opened-clause-foreign : goal.returns-in_err-opened-clause-foreign
returns-in_err-opened-clause-foreign g c name has other = absurd (not_foreign c.args.names.now name c.in_ok-check_new.ensures.firsts has other)

pub returns-clause-foreign : goal.returns-clause-foreign
returns-clause-foreign g c name has other = absurd (not_foreign c.args.names.now name c.in_ok-check_new.ensures.firsts has other)

pub clear_and_create-requires : goal.clear_and_create-requires
clear_and_create-requires g c = c.requires

pub returns-in_err-check_new-clause-damaged : goal.returns-in_err-check_new-clause-damaged
returns-in_err-check_new-clause-damaged g c =
    let p = err_from_is_err_and c.from_residual.result c.from_residual.ensures.1 in
    rw (p.1, p.2) c.in_err-check_new.ensures.foreign

pub returns-in_err-check_new-clause-causes : goal.returns-in_err-check_new-clause-causes
returns-in_err-check_new-clause-causes g c =
    let p = err_from_is_err_and c.from_residual.result c.from_residual.ensures.1 in
    rw (p.1, p.2) (foreign_causes (g.H.Host.view c.args.host.now) c.in_err-check_new.field-0.0)

pub returns-in_err-opened-clause-any_moment : goal.returns-in_err-opened-clause-any_moment
returns-in_err-opened-clause-any_moment g c = c.clear_and_create.ensures.any_moment

pub returns-in_err-opened-clause-damaged : goal.returns-in_err-opened-clause-damaged
returns-in_err-opened-clause-damaged g c =
    let p = err_from_is_err_and c.from_residual-in_err-opened.result c.from_residual-in_err-opened.ensures.1 in
    rw (p.1, p.2) (no_host_damage (ReportsForeign c.args.names.now) c.in_err-opened.field-0.0)

pub returns-in_err-opened-clause-undamaged : goal.returns-in_err-opened-clause-undamaged
returns-in_err-opened-clause-undamaged g c =
    let p = err_from_is_err_and c.from_residual-in_err-opened.result c.from_residual-in_err-opened.ensures.1 in
    rw (p.1, p.2) (no_host_damage (λ damage. NoFalseFreshDamage (g.H.Host.view c.args.host.now)) c.in_err-opened.field-0.0)

pub returns-in_err-opened-clause-untouched : goal.returns-in_err-opened-clause-untouched
returns-in_err-opened-clause-untouched g c =
    let view = g.H.Host.view in
    let p = err_from_is_err_and c.from_residual-in_err-opened.result c.from_residual-in_err-opened.ensures.1 in
    rw (p.1, p.2) (no_host_damage (λ damage. Changes Same (view c.args.host.now) (view c.clear_and_create.new.host)) c.in_err-opened.field-0.0)

pub returns-in_err-opened-clause-changes : goal.returns-in_err-opened-clause-changes
returns-in_err-opened-clause-changes g c = c.clear_and_create.ensures.changes

pub returns-in_err-opened-clause-reads : goal.returns-in_err-opened-clause-reads
returns-in_err-opened-clause-reads g c = c.clear_and_create.ensures.causes.reads

pub returns-in_err-opened-clause-causes : goal.returns-in_err-opened-clause-causes
returns-in_err-opened-clause-causes g c =
    let p = err_from_is_err_and c.from_residual-in_err-opened.result c.from_residual-in_err-opened.ensures.1 in
    rw (p.1, p.2) (host_causes _ _ c.in_err-opened.field-0.0 c.in_err-opened.ensures.causes)

pub returns-clause-tables : goal.returns-clause-tables
returns-clause-tables g c = c.in_ok-opened.ensures.tables

pub returns-clause-timed : goal.returns-clause-timed
returns-clause-timed g c = c.in_ok-opened.ensures.timed

pub returns-clause-ready : goal.returns-clause-ready
returns-clause-ready g c = c.in_ok-opened.ensures.ready

pub returns-clause-exactly : goal.returns-clause-exactly
returns-clause-exactly g c = c.in_ok-opened.ensures.exactly

pub returns-clause-serves : goal.returns-clause-serves
returns-clause-serves g c = c.in_ok-opened.ensures.serves

pub returns-clause-any_moment : goal.returns-clause-any_moment
returns-clause-any_moment g c = c.clear_and_create.ensures.any_moment

pub returns-clause-firsts : goal.returns-clause-firsts
returns-clause-firsts g c = c.in_ok-check_new.ensures.firsts

pub returns-clause-changes : goal.returns-clause-changes
returns-clause-changes g c = c.clear_and_create.ensures.changes

pub returns-clause-reads : goal.returns-clause-reads
returns-clause-reads g c = c.clear_and_create.ensures.causes.reads

pub returns-clause-causes : goal.returns-clause-causes
returns-clause-causes g c = made_causes _ _ _ _ c.in_ok-opened.ensures.causes
