-- Where the hits in the parts of a table are.
use Rattle.std.specs.Prelude.{ℕ, suc, Bool, List, [], ◌∷◌, map}
use Rattle.std.specs.List.{filter}
use Rattle.sasi_types.specs.declared.decorated_key.DecoratedKey.{DecoratedKey}
use Rattle.sasi_candidates.specs.Parts.{Disk, Memory, Origin, Part}
use Rattle.sasi_narrow.specs.declared.part_hits.PartHits.{PartHits}
use Rattle.sasi_narrow.specs.declared.part_hits.PartHits.TheVariants.{File, Map}
use Rattle.sasi_engine.specs.Asked.{Asked, indexed_in, is_hit, keys_of}

-- as `PartHits`, with lists: in a file with its position among the files, of each relation whether the file has its index; in a map, of
-- each relation the keys that are hits
pub data HitsIn : Type 0 where
  OfFile : ℕ → List Bool → HitsIn
  OfMap : List (List DecoratedKey) → HitsIn

abbrev pub hits_in : PartHits → HitsIn
hits_in (File file indexed) = OfFile file indexed.items
hits_in (Map found) = OfMap found.items

-- those of a part, before which there are so many files
abbrev pub hits_at : List Asked → ℕ → Part → Origin → HitsIn
hits_at asked files part Memory = OfMap (map (λ (a : Asked). filter (is_hit a part) (keys_of part.holds)) asked)
hits_at asked files part (Disk columns) = OfFile files (indexed_in asked part)

abbrev pub files_after : ℕ → Origin → ℕ
files_after files Memory = files
files_after files (Disk columns) = suc files

-- **Those of some parts**, before which there are so many files
abbrev pub hits_of : List Asked → ℕ → List Part → List HitsIn
hits_of asked files [] = []
hits_of asked files (part ∷ parts) = hits_at asked files part part.origin ∷ hits_of asked (files_after files part.origin) parts
