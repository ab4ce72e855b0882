use Rattle.std.proofs.Common.{◌≡◌, drop, nat_eq}
use Rattle.std.specs.Map.{lookup}
use Rattle.sasi_memindex.proofs.mem_indexes.MemIndexes.get.Given as goal

abbrev pub invariant-loop-other : goal.invariant-loop-other
invariant-loop-other l = lookup (λ n. nat_eq n l.number) (drop l.other-index l.other-items) ≡ lookup (λ n. nat_eq n l.number) l.other-items
