use Rattle.std.proofs.Common.{◌≡◌, ◌+◌, ◌≤◌, length, map}
use Rattle.std.specs.FinMap as map_
use Rattle.std.specs.List.{filter}
use Rattle.sasi_candidates.specs.Candidates.{is_candidate}
use Rattle.sasi_candidates.specs.Checks.{looked}
use Rattle.sasi_cells.specs.Maps.{merged}
use Rattle.sasi_machine.proofs.Stored.{AllTexts}
use Rattle.sasi_model.specs.Cells.{Partition}
use Rattle.sasi_model.specs.Filters.{answers, where_of}
use Rattle.sasi_types.specs.declared.decorated_key.DecoratedKey.{DecoratedKey}
use Rattle.sasi_machine_layout.specs.Contents.{maps_in}
use Rattle.sasi_machine_layout.specs.Hits.{parts_in}
use Rattle.sasi_machine_layout.proofs.count.checked.Given as goal

abbrev pub invariant-loop-key : goal.invariant-loop-key
invariant-loop-key g l =
    let f = where_of l.query.filter in
    let left = filter (λ (e : DecoratedKey × Partition). is_candidate (parts_in l.table l.parts) f e.0) l.key-iterator in
    let all = filter (λ (e : DecoratedKey × Partition). is_candidate (parts_in l.table l.parts) f e.0) (map_.entries (merged (maps_in l.parts))) in
    record {
      counted : l.count.checked + looked l.count.allowed (answers f) left ≡ looked l.query.limit (answers f) all;
      room : l.count.checked + length l.key-iterator ≤ length (map_.entries (merged (maps_in l.parts)));
      texts : AllTexts l.key-iterator;
      kinds : map (λ b. (goal.Analyzer-dyn g (b.vtable, b.value)).kind b.value) l.kit.objects.items ≡ map (λ b. (goal.Analyzer-dyn g (b.vtable, b.value)).kind b.value) l.fn.kit.objects.items;
    }
