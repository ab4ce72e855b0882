-- What holds after a buffered read, said of the state before it.
use Rattle.std.proofs.Common.{◌≡◌, ℕ, ◌+◌, ◌<◌, length, Some, ◌∙◌, ap, subst}
use Rattle.sasi_types.specs.declared.tree.TreeRef.{TreeRef}
use Rattle.sasi_host.specs.declared.name.FileName.{FileName}
use Rattle.sasi_host.specs.declared.damage.Damage.{Damage}
use Rattle.sasi_host.specs.declared.fault.ReadFault.{ReadFault}
use Rattle.sasi_host.specs.Damages.{DamageShown}
use Rattle.sasi_host.specs.Names.{Bytes}
use Rattle.sasi_host.specs.View.{View, contents}
use Rattle.sasi_host.specs.Disk.{Changes, Same}
use Rattle.sasi_host.proofs.ContentLaws.{contents_same}
use Rattle.sasi_host.proofs.DamageLaws.{shown_as, shown_before}
use Rattle.sasi_tokentree.specs.declared.node_read.Node.{Node}
use Rattle.sasi_tokentree.specs.Damages.{ShownOf, ShowsOf, ShowsTreeBy, pair_offset}
use Rattle.sasi_tokentree.specs.Damages.ShowsTreeBy.{in_node, in_entry}

-- the file reads as before
pub reads_still : (a b : View) (was now : FileName) (bytes : Bytes) → Changes Same a b → now ≡ was → contents a was ≡ Some bytes → contents b now ≡ Some bytes
reads_still a b was now bytes change same is = contents_same a b now change ∙ ap (λ (f : FileName). contents a f) same ∙ is

-- the nodes that it shows it showed before
pub shown_still : (These : Node → Type 0) (a b : View) (was now : FileName) (f : ReadFault) → Changes Same a b → now ≡ was → ShownOf These b now f → ShownOf These a was f
shown_still These a b was now f change same shown = subst (λ (name : FileName). ShownOf These a name f) same (shown_before (ShowsOf These now) a b now f change shown)

-- and so the tree
pub tree_shown_still : (Alone : ℕ → Type 0) (a b : View) (was now : FileName) (tree : TreeRef) (f : ReadFault) → Changes Same a b → now ≡ was → DamageShown b now
    (ShowsTreeBy Alone now tree) f → DamageShown a was (ShowsTreeBy Alone was tree) f
tree_shown_still Alone a b was now tree f change same shown =
    subst (λ (name : FileName). DamageShown a name (ShowsTreeBy Alone name tree) f) same (shown_before (ShowsTreeBy Alone now tree) a b now f change shown)

-- damage where some entries may be read alone is damage where more may
pub tree_shown_more : (Alone More : ℕ → Type 0) (v : View) (file : FileName) (tree : TreeRef) (f : ReadFault) → ((bytes : Bytes) (index : ℕ) → contents v file ≡
    Some bytes → Alone index → index < tree.pairs → length bytes < pair_offset tree index + 16 → More index) → DamageShown v file
    (ShowsTreeBy Alone file tree) f → DamageShown v file (ShowsTreeBy More file tree) f
tree_shown_more Alone More v file tree f more shown = shown_as (ShowsTreeBy Alone file tree) (ShowsTreeBy More file tree) v file f (λ bytes damage is shows. case bytes damage is shows) shown
  where
    case : (bytes : Bytes) (damage : Damage) → contents v file ≡ Some bytes → ShowsTreeBy Alone file tree bytes damage → ShowsTreeBy More file tree bytes damage
    case bytes damage is (in_node shows) = in_node shows
    case bytes damage is (in_entry index alone lt ends) = in_entry index (more bytes index is alone lt ends.short) lt ends
