use Rattle.std.proofs.Common.{◌≡◌, ◌+◌, ◌≤◌, length, map}
use Rattle.std.specs.FinMap as map_
use Rattle.std.specs.List.{filter, list_any}
use Rattle.sasi_candidates.specs.Parts.{keys_with}
use Rattle.sasi_machine.proofs.Stored.{AllTexts}
use Rattle.sasi_model.specs.Cells.{Partition}
use Rattle.sasi_model.specs.IndexTerms.{terms_of_cell}
use Rattle.sasi_model.specs.Indexes.{index_of}
use Rattle.sasi_model.specs.Tokens.{same}
use Rattle.sasi_types.specs.declared.decorated_key.DecoratedKey.{DecoratedKey}
use Rattle.sasi_machine_layout.proofs.stored.keys_with.Given as goal

abbrev pub invariant-loop-key : goal.invariant-loop-key
invariant-loop-key g l =
    let left = filter (λ (e : DecoratedKey × Partition). list_any (same l.term) (terms_of_cell l.index.rule (map_.get e.1.cells l.index.column))) l._key-iterator in
    record {
      counted : l.keys + length left ≡ keys_with (index_of l.index) l.holds.partitions l.term;
      room : l.keys + length l._key-iterator ≤ length (map_.entries l.holds.partitions);
      texts : AllTexts l._key-iterator;
      kinds : map (λ b. (goal.Analyzer-dyn g (b.vtable, b.value)).kind b.value) l.kit.objects.items ≡ map (λ b. (goal.Analyzer-dyn g (b.vtable, b.value)).kind b.value) l.fn.kit.objects.items;
    }
