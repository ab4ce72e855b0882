use Rattle.std.proofs.Common.{arith, ap, subst, sym, ◌∙◌}
use Rattle.std.specs.List.{AllByRecursion}
use Rattle.sasi_memindex.specs.Book.{AreValuesOf}
use Rattle.sasi_memtable.specs.MemtableView.{MemtableView}
use Rattle.sasi_model.specs.Abbreviations.{Partitions}
use Rattle.sasi_pairs.specs.Gathered.{defs_of}
use Rattle.sasi_types.specs.declared.index_def.IndexDef.{IndexDef}
use Rattle.sasi_tables.proofs.OneMap.{only_map}
use Rattle.sasi_tables.proofs.flush_file.write_partitions.Goals as goal

pub write_map-requires-clause-typed : goal.write_map-requires-clause-typed
write_map-requires-clause-typed g c =
    let one = only_map c.args.maps.now c.args.unflushed.now c.requires.maps (omega (arith, c.in-len1.len_at_least)) (omega (arith, c.in-len1.len_below)) in
    let partitions_are = ap (λ (m : MemtableView). m.partitions) c.map_with.ensures ∙ one in
    subst (λ (m : Partitions). AllByRecursion (λ (def : IndexDef). AreValuesOf def.column def.kind m) (defs_of c.args.files.now.indexes)) (sym partitions_are) c.requires.typed
