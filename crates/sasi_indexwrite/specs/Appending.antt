-- Trees that are written a page or more at a time.
use Rattle.std.specs.Prelude.{◌≡◌, ℕ, ◌+◌, ◌^◌, ◌<◌, ◌≤◌, ◌++◌, length}
use Rattle.sasi_host.specs.Names.{Bytes}
use Rattle.sasi_host.specs.View.{View, Holds}
use Rattle.sasi_indexwrite.specs.declared.tree_writer.TreeWriter.{TreeWriter}

-- the offset of the next tree: behind those that are written and those that aren't yet
abbrev pub next_tree : TreeWriter → ℕ
next_tree trees = trees.end + length trees.unwritten.items

-- what the file holds and what isn't written yet are these bytes
pub record IsAppending (v : View) (trees : TreeWriter) (bytes : Bytes) : Type 0 where
  pub written : Bytes
  pub ends : length written ≡ trees.end
  pub holds : Holds v trees.file written
  pub whole : written ++ trees.unwritten.items ≡ bytes

-- no file is longer than 2^62 bytes, and less than a page isn't written yet
pub record CanAppend (trees : TreeWriter) : Type 0 where
  pub fits : trees.end ≤ 2 ^ 62
  pub few : length trees.unwritten.items < 4096
