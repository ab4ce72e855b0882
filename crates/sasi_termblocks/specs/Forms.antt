-- Where the pairs of a term stand.
use Rattle.std.specs.Prelude.{◌≡◌, List, Some, None}
use Rattle.sasi_types.specs.declared.tree.Pair.{Pair}
use Rattle.sasi_types.specs.declared.tree.TreeRef.{TreeRef}
use Rattle.sasi_termblocks.specs.declared.list_form.ListForm.{ListForm}
use Rattle.sasi_termblocks.specs.declared.list_form.ListForm.TheVariants.{Tree, Inline}
use Rattle.sasi_termblocks.specs.declared.term_entry.TermEntry.{TermEntry}

-- the entry refers to a tree, or has the pairs itself
abbrev pub HasForm : ListForm → TermEntry → Type 0
HasForm Tree entry = (list : TreeRef) × (entry.list ≡ Some list)
HasForm Inline entry = (pairs : List Pair) × (entry.list ≡ None) × (entry.inline ≡ Some pairs)
