use Rattle.std.proofs.Common.{◌≡◌, false, drop, map}
use Rattle.std.specs.Prelude.{nat_eq}
use Rattle.std.specs.List.{zip}
use Rattle.std.specs.Map.{lookup}
use Rattle.std.specs.Option.{option_map_or}
use Rattle.sasi_model.specs.Indexes.{index_of}
use Rattle.sasi_types.specs.declared.index_def.IndexDef.{IndexDef}
use Rattle.sasi_machine_layout.proofs.hits.is_on.Given as goal

abbrev pub invariant-loop-index : goal.invariant-loop-index
invariant-loop-index l =
    option_map_or (λ index. nat_eq l.column index.column) (lookup (nat_eq l.number) (zip (map (λ (def : IndexDef). def.number) l.indexes) (map index_of l.indexes))) false
    ≡ option_map_or (λ index. nat_eq l.column index.column) (lookup (nat_eq l.number) (zip (map (λ (def : IndexDef). def.number) (drop l.index-index l.indexes)) (map index_of (drop l.index-index l.indexes)))) false
