use Rattle.std.proofs.Common.{◌≡◌, map, drop}
use Rattle.sasi_candidates.specs.Candidates.{is_candidate}
use Rattle.sasi_machine.specs.Where.{model_condition}
use Rattle.sasi_model.specs.Filters.{where_of}
use Rattle.sasi_machine_layout.specs.Hits.{parts_in}
use Rattle.sasi_machine_layout.proofs.hits.is_candidate.Given as goal

abbrev pub invariant-loop-condition : goal.invariant-loop-condition
invariant-loop-condition g l = record {
  left : is_candidate (parts_in l.table l.parts) (where_of (map model_condition l.conditions)) l.key ≡ is_candidate (parts_in l.table l.parts) (where_of (map model_condition (drop l.condition-index l.conditions))) l.key;
  kinds : map (λ b. (goal.Analyzer-dyn g (b.vtable, b.value)).kind b.value) l.kit.objects.items ≡ map (λ b. (goal.Analyzer-dyn g (b.vtable, b.value)).kind b.value) l.fn.kit.objects.items;
}
