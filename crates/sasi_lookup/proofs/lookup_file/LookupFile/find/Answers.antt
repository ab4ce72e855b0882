use Rattle.std.proofs.Common.{◌≡◌, ◌∙◌, IfSome, None, Option, Some, ap, arith, subst, sym}
use Rattle.sasi_dataread.specs.Opened.{OpenDataFile}
use Rattle.sasi_ranges.proofs.Calling.{fails_nothing}
use Rattle.sasi_lookup.specs.Files.{LookedFile}
use Rattle.sasi_lookup.proofs.FileLaws.{can_read_as, read_as, reads_none}
use Rattle.sasi_lookup.proofs.PartitionLaws.{file_cost, file_faults, file_found, file_stored, not_open}
use Rattle.sasi_lookup.proofs.lookup_file.LookupFile.find.Goals as goal

pub partition_of-requires : goal.partition_of-requires
partition_of-requires g c =
    let file = c.args.self.now in
    let opened : file.opened ≡ Some c.in-Some.opened = ap (λ (f : LookedFile). f.opened) (sym c.self.view_is) ∙ c.in-Some.is in
    record { read = can_read_as _ (g.H.Host.view c.args.host.now) file.name c.in-Some.opened.file (subst (λ (x : Option OpenDataFile). IfSome x (λ o. o.file ≡ file.name)) opened c.requires.named) c.requires.read }

pub returns-in-Some-clause-found : goal.returns-in-Some-clause-found
returns-in-Some-clause-found g c =
    let file = c.args.self.now in
    let opened : file.opened ≡ Some c.in-Some.opened = ap (λ (f : LookedFile). f.opened) (sym c.self.view_is) ∙ c.in-Some.is in
    let keys : c.deref.result.now ≡ file.keys = c.deref.ensures.value ∙ ap (λ (f : LookedFile). f.keys) c.self.view_is in
    file_found (g.H.Host.view c.args.host.now) file c.in-Some.opened c.deref.result.now opened keys c.args.key.now c.partition_of.result c.partition_of.ensures.found

pub returns-in-Some-clause-stored : goal.returns-in-Some-clause-stored
returns-in-Some-clause-stored g c =
    let file = c.args.self.now in
    let opened : file.opened ≡ Some c.in-Some.opened = ap (λ (f : LookedFile). f.opened) (sym c.self.view_is) ∙ c.in-Some.is in
    let keys : c.deref.result.now ≡ file.keys = c.deref.ensures.value ∙ ap (λ (f : LookedFile). f.keys) c.self.view_is in
    file_stored (g.H.Host.view c.args.host.now) file c.in-Some.opened c.deref.result.now opened keys c.args.key.now c.partition_of.result c.partition_of.ensures.stored

pub returns-in-Some-clause-reads : goal.returns-in-Some-clause-reads
returns-in-Some-clause-reads g c =
    let file = c.args.self.now in
    let opened : file.opened ≡ Some c.in-Some.opened = ap (λ (f : LookedFile). f.opened) (sym c.self.view_is) ∙ c.in-Some.is in
    let keys : c.deref.result.now ≡ file.keys = c.deref.ensures.value ∙ ap (λ (f : LookedFile). f.keys) c.self.view_is in
    file_cost (g.H.Host.view c.args.host.now) file c.in-Some.opened c.deref.result.now opened keys (g.H.Host.view c.partition_of.new.host) c.args.key.now c.partition_of.ensures.reads

pub returns-in-Some-clause-read : goal.returns-in-Some-clause-read
returns-in-Some-clause-read g c =
    let file = c.args.self.now in
    let opened : file.opened ≡ Some c.in-Some.opened = ap (λ (f : LookedFile). f.opened) (sym c.self.view_is) ∙ c.in-Some.is in
    read_as _ _ _ (g.H.Host.view c.args.host.now) (g.H.Host.view c.partition_of.new.host) file.name c.in-Some.opened.file (subst (λ (x : Option OpenDataFile). IfSome x (λ o. o.file ≡ file.name)) opened c.requires.named) c.partition_of.ensures.read

pub returns-in-Some-clause-faults : goal.returns-in-Some-clause-faults
returns-in-Some-clause-faults g c =
    let file = c.args.self.now in
    let opened : file.opened ≡ Some c.in-Some.opened = ap (λ (f : LookedFile). f.opened) (sym c.self.view_is) ∙ c.in-Some.is in
    let keys : c.deref.result.now ≡ file.keys = c.deref.ensures.value ∙ ap (λ (f : LookedFile). f.keys) c.self.view_is in
    file_faults (g.H.Host.view c.args.host.now) file c.in-Some.opened c.deref.result.now opened keys (g.H.Host.view c.partition_of.new.host) 2050 c.partition_of.result c.partition_of.ensures.read.changes c.partition_of.ensures.causes
    c.partition_of.ensures.damaged c.partition_of.ensures.undamaged

pub returns-in-None-clause-found : goal.returns-in-None-clause-found
returns-in-None-clause-found g c p token types content ready turned same =
    let none : c.args.self.now.opened ≡ None = ap (λ (f : LookedFile). f.opened) (sym c.self.view_is) ∙ c.in-None.is in
    absurd (not_open c.args.self.now none turned.1.is_open)

pub returns-in-None-clause-reads : goal.returns-in-None-clause-reads
returns-in-None-clause-reads g c p token types content ready turned = omega arith

pub returns-in-None-clause-read : goal.returns-in-None-clause-read
returns-in-None-clause-read g c = reads_none _ _ (g.H.Host.view c.args.host.now) c.args.self.now.name c.requires.read.agrees

pub returns-in-None-clause-faults : goal.returns-in-None-clause-faults
returns-in-None-clause-faults g c types ready = fails_nothing _ _ (g.H.Host.view c.args.host.now) _
