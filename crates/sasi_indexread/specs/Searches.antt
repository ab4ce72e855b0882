-- Searches of an index file.
use Rattle.std.specs.Prelude.{◌≡◌, ◌-◌, Result, Bool, true, false, List, [], All, None, Some}
use Rattle.sasi_host.specs.declared.fault.ReadFault.{ReadFault}
use Rattle.sasi_host.specs.Names.{Bytes}
use Rattle.sasi_host.specs.Damages.{OnDamage}
use Rattle.sasi_host.specs.View.{ReadCost, View, contents}
use Rattle.sasi_terms.specs.declared.op.Op.{Op}
use Rattle.sasi_indexwrite.specs.Content.{IndexContent}
use Rattle.std.specs.BinaryHeap.{IsHeap}
use Rattle.sasi_treemerge.specs.declared.merge.TreeMerge.{TreeMerge}
use Rattle.sasi_treemerge.specs.declared.tree_source.TreeSource.{TreeSource}
use Rattle.sasi_treemerge.specs.Held.{held_cmp}
use Rattle.sasi_treemerge.specs.Sources.{source_cmp}
use Rattle.sasi_indexread.specs.Asked.{asked_lists}
use Rattle.sasi_indexread.specs.Damages.{IsListedTree}
use Rattle.sasi_treemerge.specs.Merges.{CanMerge, Gives, held_of, parts_of, sources_of}
use Rattle.sasi_indexread.specs.Opened.{OpenIndexFile, IsOpenOn}

-- the view of a search: the file, what is asked, and the merge of the trees once they were collected
pub record Searching : Type 0 where
  pub index : OpenIndexFile
  pub op : Op
  pub body : Bytes
  pub is_collected : Bool
  pub merge : TreeMerge

abbrev pub searching : OpenIndexFile → Op → Bytes → Bool → TreeMerge → Searching
searching index op body is_collected merge = record { index = index; op = op; body = body; is_collected = is_collected; merge = merge }

-- each source's tree is one to which the file leads
abbrev pub AreListed : View → OpenIndexFile → List TreeSource → Type 0
AreListed v opened sources = (bytes : Bytes) → contents v opened.file ≡ Some bytes → All (λ source. IsListedTree opened bytes source.tree.value.tree) sources

-- the search can go on
pub record CanSearch (v : View) (search : Searching) : Type 0 where
  pub named : search.merge.file ≡ search.index.file
  pub merge : CanMerge v search.merge
  pub listed : AreListed v search.index (sources_of search.merge)
  pub fresh : search.is_collected ≡ false → (sources_of search.merge ≡ []) × (held_of search.merge ≡ [])

-- nothing was searched yet
pub record IsFresh (search : Searching) : Type 0 where
  pub named : search.merge.file ≡ search.index.file
  pub heap : IsHeap source_cmp (sources_of search.merge)
  pub empty : sources_of search.merge ≡ []
  pub held_heap : IsHeap held_cmp (held_of search.merge)
  pub none_held : held_of search.merge ≡ []
  pub begins : search.is_collected ≡ false
  pub last : search.merge.last ≡ None
  pub floor : search.merge.floor ≡ 0

-- it searches the index file of this content, and still gives each pair that is left
pub record IsSearching (v : View) (search : Searching) (content : IndexContent) : Type 0 where
  pub is_open : IsOpenOn v search.index content
  pub gives : search.is_collected ≡ true → Gives is_open.bytes (asked_lists content search.op search.body) search.merge.last search.merge.floor (parts_of search.merge)

-- damage is reported only where the file isn't the index file that is searched
abbrev pub NoFalseSearchingDamage : View → Searching → ReadFault → Type 0
NoFalseSearchingDamage v search = OnDamage (λ _. (content : IndexContent) → IsSearching v search content → ⊥)

-- a fault has its cause, however many reads were made
abbrev pub FailsAsRead : {T : Type 0} → View → View → Result T ReadFault → Type 0
FailsAsRead old new result = ReadCost (new.reads - old.reads) old new result

-- damage is reported only where the file isn't the index file that was opened
abbrev pub NoFalseSearchDamage : View → OpenIndexFile → ReadFault → Type 0
NoFalseSearchDamage v opened = OnDamage (λ _. (content : IndexContent) → IsOpenOn v opened content → ⊥)
