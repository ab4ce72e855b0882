-- The damage that the sources of a merge meet.
use Rattle.std.specs.Prelude.{◌≡◌, List, All, Contains, Some}
use Rattle.sasi_types.specs.declared.tree.Pair.{Pair}
use Rattle.sasi_host.specs.declared.name.FileName.{FileName}
use Rattle.sasi_host.specs.declared.damage.Damage.{Damage}
use Rattle.sasi_host.specs.declared.fault.ReadFault.{ReadFault}
use Rattle.sasi_host.specs.Names.{Bytes}
use Rattle.sasi_host.specs.Damages.{OnDamage}
use Rattle.sasi_host.specs.View.{View, contents}
use Rattle.sasi_tokentree.specs.Damages.{ShowsPairs}
use Rattle.sasi_treemerge.specs.declared.tree_source.TreeSource.{TreeSource}
use Rattle.sasi_treemerge.specs.Merges.{IsSourceIn, IsSourceOf}

-- the damage is that of this file, which breaks the format of a source's tree
pub record ShowsSources (sources : List TreeSource) (file : FileName) (bytes : Bytes) (damage : Damage) : Type 0 where
  pub source : TreeSource
  pub there : Contains sources source
  pub shows : ShowsPairs file source.tree.value.tree bytes damage

-- damage is reported only where the file doesn't have the tree that the source scans
abbrev pub NoFalseSourceDamage : View → FileName → TreeSource → ReadFault → Type 0
NoFalseSourceDamage v file source = OnDamage (λ _. (bytes : Bytes) (pairs : List Pair) → contents v file ≡ Some bytes → IsSourceOf bytes pairs source → ⊥)

-- damage is reported only where the file doesn't have the trees of all sources
abbrev pub NoFalseDamageOf : View → FileName → List TreeSource → ReadFault → Type 0
NoFalseDamageOf v file sources = OnDamage (λ _. (bytes : Bytes) (lists : List (List Pair)) → contents v file ≡ Some bytes → All (IsSourceIn bytes lists) sources → ⊥)
