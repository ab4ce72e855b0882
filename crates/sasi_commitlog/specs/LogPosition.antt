-- A durable segment of the log, and how far it was read.
use Rattle.std.specs.Prelude.{ℕ, List, map}
use Rattle.std.specs.List.{AllByRecursion}
use Rattle.sasi_host.specs.declared.name.FileName.{FileName}
use Rattle.sasi_host.specs.Names.{Bytes}
use Rattle.sasi_host.specs.View.{View}
use Rattle.sasi_gated.specs.Format.{IsBeforeOrAfter}
use Rattle.sasi_gated.specs.Handles.{IsAtEnd, IsReading}
use Rattle.sasi_cells.specs.declared.mutation.Mutation.{Mutation}
use Rattle.sasi_commitlog.specs.Format.{payload_of, Tables, IsMutationOf}

-- each image has the segment with these mutations, and the closed gate is at this offset
abbrev pub IsAtLogEnd : View → FileName → ℕ → List Mutation → Type 0
IsAtLogEnd v file at mutations = IsAtEnd v file at (map payload_of mutations)

-- each image has the segment; `done` are the mutations before the gate at this offset, and `left` those from it on
pub record IsReadingLog (v : View) (file : FileName) (at : ℕ) (tables : Tables) (done left : List Mutation) : Type 0 where
  pub reading : IsReading v file at (map payload_of done) (map payload_of left)
  pub of_tables : AllByRecursion (IsMutationOf tables) left

-- the segment has the mutations from before, with one more or without it
abbrev pub IsLogBeforeOrAfter : FileName → List Mutation → Mutation → Bytes → Type 0
IsLogBeforeOrAfter file mutations mutation = IsBeforeOrAfter file (map payload_of mutations) (payload_of mutation)
