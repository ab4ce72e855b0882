use Rattle.std.proofs.Common.{◌≡◌, map, drop, not}
use Rattle.std.specs.List.{list_any}
use Rattle.sasi_candidates.specs.Parts.{is_stored}
use Rattle.sasi_model.specs.Indexes.{index_of}
use Rattle.sasi_machine_layout.proofs.stored.any_unstored.Given as goal

abbrev pub invariant-loop-term : goal.invariant-loop-term
invariant-loop-term g l = record {
  left : list_any (λ term. not (is_stored (index_of l.index) l.holds.partitions term)) l.terms ≡ list_any (λ term. not (is_stored (index_of l.index) l.holds.partitions term)) (drop l.term-index l.terms);
  kinds : map (λ b. (goal.Analyzer-dyn g (b.vtable, b.value)).kind b.value) l.kit.objects.items ≡ map (λ b. (goal.Analyzer-dyn g (b.vtable, b.value)).kind b.value) l.fn.kit.objects.items;
}
