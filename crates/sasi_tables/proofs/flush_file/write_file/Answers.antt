use Rattle.std.proofs.Common.{◌≡◌, List, map, refl, subst, sym, ap}
use Rattle.sasi_host.specs.declared.name.FileName.{FileName}
use Rattle.sasi_host.specs.Names.{data_name}
use Rattle.sasi_layout.specs.Flushed.{contents_of}
use Rattle.sasi_pairs.specs.Gathered.{defs_of}
use Rattle.sasi_types.specs.declared.index_def.IndexDef.{IndexDef}
use Rattle.sasi_tables.specs.Flushing.{CanIndex}
use Rattle.sasi_tables.specs.Held.{merged_in}
use Rattle.sasi_memtable.specs.MemtableView.{AreDecorated}
use Rattle.sasi_types.specs.declared.partitioner.Partitioner.{Partitioner}
use Rattle.sasi_tables.proofs.SealedMaps.{absent_on, data_within, files_within, parts_absent, written_as}
use Rattle.sasi_tables.proofs.flush_file.write_file.Goals as goal

pub returns-in_err-files-clause-changes : goal.returns-in_err-files-clause-changes
returns-in_err-files-clause-changes g c = data_within (data_name c.args.number) c.args.number c.args.parts.now refl (g.H.Host.view c.args.host.now) (g.H.Host.view c.begin.new.host) c.begin.ensures.changes

pub write_all-requires-clause-named : goal.write_all-requires-clause-named
write_all-requires-clause-named g c = subst (λ (f : FileName). f ≡ data_name f.number) (sym c.in_ok-files.ensures.file) refl

pub write_all-requires-clause-decorated : goal.write_all-requires-clause-decorated
write_all-requires-clause-decorated g c = subst (λ (p : Partitioner). AreDecorated p (merged_in c.args.maps.now c.args.unflushed.now)) (sym c.in_ok-files.ensures.partitioner) c.requires.decorated

pub write_all-requires-clause-indexes : goal.write_all-requires-clause-indexes
write_all-requires-clause-indexes g c =
    subst (λ (ds : List IndexDef). CanIndex (map (λ b. (goal.Analyzer-dyn g (b.vtable, b.value)).kind b.value) c.args.kit.now.objects.items) (merged_in c.args.maps.now c.args.unflushed.now) ds c.args.parts.now) (sym c.in_ok-files.ensures.defs) c.requires.indexes

pub write_all-requires-clause-absent : goal.write_all-requires-clause-absent
write_all-requires-clause-absent g c =
    absent_on (g.H.Host.view c.args.host.now) (g.H.Host.view c.begin.new.host) (data_name c.args.number) c.in_ok-files.files.writer.file c.args.number c.args.parts.now refl c.in_ok-files.ensures.file c.begin.ensures.changes
    (parts_absent (g.H.Host.view c.args.host.now) c.args.number c.args.parts.now c.requires.files)

pub returns-in-Ok-clause-written : goal.returns-in-Ok-clause-written
returns-in-Ok-clause-written g c =
    let begun = c.in_ok-files.ensures in
    written_as (g.H.Host.view c.write_all.new.host) c.in_ok-files.files.writer.file.number c.args.number c.in_ok-files.files.writer.partitioner c.args.partitioner (defs_of c.in_ok-files.files.indexes) c.args.defs.now c.args.parts.now
    (contents_of (merged_in c.args.maps.now c.args.unflushed.now)) (ap (λ (f : FileName). f.number) begun.file) begun.partitioner begun.defs c.in-Ok.ensures.written

pub returns-in-Ok-clause-changes : goal.returns-in-Ok-clause-changes
returns-in-Ok-clause-changes g c =
    files_within (data_name c.args.number) c.args.number c.args.parts.now refl (g.H.Host.view c.args.host.now) (g.H.Host.view c.begin.new.host) (g.H.Host.view c.write_all.new.host)
    c.in_ok-files.files.writer.file c.in_ok-files.ensures.file c.begin.ensures.changes c.write_all.ensures.changes

pub returns-in-Err-clause-changes : goal.returns-in-Err-clause-changes
returns-in-Err-clause-changes g c =
    files_within (data_name c.args.number) c.args.number c.args.parts.now refl (g.H.Host.view c.args.host.now) (g.H.Host.view c.begin.new.host) (g.H.Host.view c.write_all.new.host)
    c.in_ok-files.files.writer.file c.in_ok-files.ensures.file c.begin.ensures.changes c.write_all.ensures.changes
