-- What a search of the index file beside a data file gives, by the keys of the data file.
use Rattle.std.specs.Prelude.{ℕ, Bool, ◌||◌, List, map, ⊤}
use Rattle.std.specs.List.{list_any, zip}
use Rattle.sasi_types.specs.declared.column.ColumnType.{ColumnType}
use Rattle.sasi_types.specs.declared.column.ColumnType.TheVariants.{Text}
use Rattle.sasi_types.specs.declared.decorated_key.DecoratedKey.{DecoratedKey}
use Rattle.sasi_types.specs.declared.partitioner.Partitioner.{Partitioner}
use Rattle.sasi_types.specs.declared.tree.Pair.{Pair}
use Rattle.sasi_terms.specs.declared.op.Op.{Op}
use Rattle.sasi_terms.specs.declared.op.Op.TheVariants.{Range}
use Rattle.sasi_model.specs.Abbreviations.{Partitions}
use Rattle.sasi_model.specs.State.{Index}
use Rattle.sasi_datawrite.specs.Format.{Content, decorated_key, key_pairs}
use Rattle.sasi_indexread.specs.Asked.{asked_lists}
use Rattle.sasi_indexwrite.specs.Content.{IndexContent}
pub use Rattle.sasi_indexwrite.specs.Unions.{same_pair}
use Rattle.sasi_candidates.specs.Parts.{posted, spilled}

-- the pair of each partition, with its key
abbrev pub keyed : Partitioner → Content → List (Pair × DecoratedKey)
keyed partitioner content = zip (key_pairs partitioner content) (map (decorated_key partitioner) content)

-- a range is asked of numbers alone
abbrev pub CanAsk : ColumnType → Op → Type 0
CanAsk Text (Range least greatest) = ⊥
CanAsk kind op = ⊤

-- a pair of one of the lists passes the test
abbrev pub any_pair : (Pair → Bool) → List (List Pair) → Bool
any_pair test lists = list_any (list_any test) lists

-- the pair is in one of the lists of a word
abbrev pub is_asked_pair : IndexContent → Op → Pair → List ℕ → Bool
is_asked_pair content op pair word = any_pair (same_pair pair) (asked_lists content op word)

-- the search of a word gives the key: it is in the spill, or posted under a stored term that is as the operator asks
abbrev pub word_gives : Index → Op → Partitions → List ℕ → DecoratedKey → Bool
word_gives index op m word q = spilled index m q || posted index op m q word
