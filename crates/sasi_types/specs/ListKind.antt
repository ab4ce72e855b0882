-- The order of the two kinds of lists.
use Rattle.std.specs.Prelude.{ℕ, Bool, nat_eq}
use Rattle.std.specs.Ordering.{nat_cmp, on}
use Rattle.std.specs.declared.cmp.Ordering.{Ordering}
use Rattle.std.specs.Cmp.{IsTotalOrder, nat_cmp_total}
use Rattle.std.proofs.lemmas.Cmp.{on_total}
use Rattle.sasi_types.specs.declared.list_kind.ListKind.{ListKind}
use Rattle.sasi_types.specs.declared.list_kind.ListKind.TheVariants.{Stored, Spill}

-- stored postings come before the spill
abbrev pub rank : ListKind → ℕ
rank Stored = 0
rank Spill = 1

abbrev pub list_cmp : ListKind → ListKind → Ordering
list_cmp = on rank nat_cmp

abbrev pub list_eq : ListKind → ListKind → Bool
list_eq = on rank nat_eq

-- this order is total
pub list_total : IsTotalOrder list_cmp
list_total = on_total rank nat_cmp_total
