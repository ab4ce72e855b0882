-- A source advances to its next pair, or shows damage of its tree.
use Rattle.std.specs.Prelude.{◌≡◌, Option, Some, IsSome, refl}
use Rattle.std.proofs.Common.{◌∙◌, sym, ap, subst}
use Rattle.std.specs.Option.{option_or}
use Rattle.sasi_types.specs.declared.tree.Pair.{Pair}
use Rattle.sasi_types.specs.declared.tree.TreeRef.{TreeRef}
use Rattle.sasi_host.specs.declared.name.FileName.{FileName}
use Rattle.sasi_host.specs.declared.fault.ReadFault.{ReadFault}
use Rattle.sasi_host.specs.declared.fault.ReadFault.TheVariants as fault
use Rattle.sasi_host.specs.Damages.{DamageShown}
use Rattle.sasi_host.specs.View.{View, contents}
use Rattle.sasi_tokentree.specs.Damages.{ShowsPairs}
use Rattle.sasi_tokentree.specs.Reads.{NoFalseTreeDamage}
use Rattle.sasi_tokentree.specs.Scans.{HasPassed, IsAtLast, IsLastEntry, PairScan, ReadsEntry}
use Rattle.sasi_tokentree.proofs.Rising.{last_read}
use Rattle.sasi_treemerge.specs.declared.tree_source.TreeSource.{TreeSource}
use Rattle.sasi_treemerge.specs.Merges.{IsAtHead}
use Rattle.sasi_treemerge.specs.MergeDamages.{NoFalseSourceDamage}

-- the pair that a scan gives is the last entry that it has passed
pub at_head_of : (v : View) (file : FileName) (tree : TreeRef) (next : TreeSource) (found : Option Pair) → found ≡ Some next.head → ReadsEntry v file tree next.tree.value.passed found → next.tree.value.tree ≡ tree
    → (IsSome found → HasPassed next.tree.value.tree next.tree.value.passed) → (last : Option Pair) → next.tree.value.last ≡ option_or found last → IsAtHead v file next
at_head_of v file tree next found is stands same passed last last_is = record {
  passed = passed (subst (λ (o : Option Pair). IsSome o) (sym is) refl);
  stands = subst (λ (t : TreeRef). ReadsEntry v file t next.tree.value.passed (Some next.head)) (sym same) (subst (λ (o : Option Pair). ReadsEntry v file tree next.tree.value.passed o) is stands);
  last_is = last_is ∙ ap (λ (o : Option Pair). option_or o last) is;
}

-- so the scan can go on from it
pub at_last_of : (v : View) (file : FileName) (source : TreeSource) → source.tree.value.buffered.file ≡ file → IsAtHead v file source → IsAtLast source.tree.value v.files
at_last_of v file source named at =
    let scan = source.tree.value in
    subst (λ (o : Option Pair). IsLastEntry v.files scan.buffered.file scan.tree scan.passed o) (sym at.last_is)
    (last_read v scan.buffered.file scan.tree scan.passed (Some source.head) (subst (λ (n : FileName). ReadsEntry v n scan.tree scan.passed (Some source.head)) (sym named) at.stands))

-- ---- damage of the tree

pub pairs_shown : (v : View) (file : FileName) (scan : PairScan) (f : ReadFault) → scan.buffered.file ≡ file → DamageShown v scan.buffered.file (ShowsPairs scan.buffered.file scan.tree) f → DamageShown v file (ShowsPairs file scan.tree) f
pairs_shown v file scan f same shown = subst (λ (n : FileName). DamageShown v n (ShowsPairs n scan.tree) f) same shown

pub no_false_pairs : (v : View) (file : FileName) (source : TreeSource) (f : ReadFault) → source.tree.value.buffered.file ≡ file → NoFalseTreeDamage v source.tree.value.buffered.file source.tree.value.tree f → NoFalseSourceDamage v file source f
no_false_pairs v file source fault.Failed same right = tt
no_false_pairs v file source fault.OutOfMemory same right = tt
no_false_pairs v file source (fault.Damaged damage) same right = λ bytes pairs is of. right bytes pairs (ap (λ (n : FileName). contents v n) same ∙ is) of.tree
