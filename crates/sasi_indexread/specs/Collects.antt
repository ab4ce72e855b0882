-- One entry more in the scan of the terms.
use Rattle.std.specs.Prelude.{◌≡◌, Bool, true, false, not, List, Option, None, Some}
use Rattle.sasi_types.specs.declared.column.ColumnType.{ColumnType}
use Rattle.sasi_types.specs.declared.tree.Pair.{Pair}
use Rattle.sasi_types.specs.declared.tree.TreeRef.{TreeRef}
use Rattle.sasi_host.specs.declared.name.FileName.{FileName}
use Rattle.sasi_host.specs.declared.damage.Damage.{Damage}
use Rattle.sasi_host.specs.declared.fault.ReadFault.{ReadFault}
use Rattle.sasi_host.specs.Names.{Bytes}
use Rattle.sasi_host.specs.Damages.{OnDamage}
use Rattle.sasi_host.specs.View.{View, contents}
use Rattle.sasi_terms.specs.declared.op.Op.{Op}
use Rattle.sasi_tokentree.specs.Damages.{ShowsPairs}
use Rattle.sasi_tokentree.specs.Format.{HasTree}
use Rattle.sasi_termblocks.specs.declared.term_entry.TermEntry.{TermEntry}
use Rattle.sasi_indexread.specs.Asked.{is_match, is_run}
use Rattle.sasi_treemerge.specs.Merges.{Adds, AddsPairs, Parts}

-- the tree of an entry is added, or the pairs that it has itself; it has one of them
abbrev pub AddsList : View → FileName → Option TreeRef → Option (List Pair) → Parts → Parts → Type 0
AddsList v file (Some list) inline old new = Adds v file list old new
AddsList v file None (Some pairs) old new = AddsPairs pairs old new
AddsList v file None None old new = ⊥

abbrev pub AddsIf : View → FileName → Op → TermEntry → Bool → Bool → Parts → Parts → Type 0
AddsIf v file op entry false more old new = (more ≡ not (is_run op)) × (new ≡ old)
AddsIf v file op entry true more old new = (more ≡ true) × AddsList v file entry.list entry.inline old new

-- the entry's pairs are added where its term is asked for; others may follow then, and else where those that are asked for aren't in a row
abbrev pub AddsEntry : View → FileName → ColumnType → Op → Bytes → TermEntry → Bool → Parts → Parts → Type 0
AddsEntry v file kind op body entry more old new = AddsIf v file op entry (is_match kind op body entry.term) more old new

-- the damage is that of the entry's tree, or of its order
abbrev pub ShowsList : FileName → TermEntry → Bytes → Damage → Type 0
ShowsList file entry bytes damage = (list : TreeRef) × (entry.list ≡ Some list) × ShowsPairs file list bytes damage

-- the file has the tree of the entry, if the entry has one
abbrev pub HasListOf : Bytes → TermEntry → Type 0
HasListOf bytes entry = (list : TreeRef) → entry.list ≡ Some list → (pairs : List Pair) × HasTree bytes list pairs

-- damage is reported only where it doesn't
abbrev pub NoFalseListDamage : View → FileName → TermEntry → ReadFault → Type 0
NoFalseListDamage v file entry = OnDamage (λ _. (bytes : Bytes) → contents v file ≡ Some bytes → HasListOf bytes entry → ⊥)
