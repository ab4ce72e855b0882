-- An empty index has no key.
use Rattle.std.proofs.Common.{◌≡◌, ℕ, Option, ap, ◌∙◌}
use Rattle.std.specs.FinSet as set
use Rattle.sasi_types.specs.declared.column.ColumnType.{ColumnType}
use Rattle.sasi_types.specs.declared.rule.Rule.{Rule}
use Rattle.sasi_memindex.specs.MemIndexView.{MemIndexView, empty_index, has}
use Rattle.sasi_memindex.specs.Postings.{posting, posting_cmp}
use Rattle.sasi_narrow_tests.specs.NewKeys.{HasNothingFrom}

pub nothing_at_first : (index : MemIndexView) (column : ℕ) (type : ColumnType) (rule : Option Rule) (token : ℕ) → index ≡ empty_index column type rule → HasNothingFrom token index
nothing_at_first index column type rule token is key at term = ap (λ (i : MemIndexView). has i term key) is ∙ set.contains-empty posting_cmp (posting term key)
