-- Writers of a data file and of the index files that go with it.
use Rattle.std.specs.Prelude.{◌≡◌, Bool, true, List}
use Rattle.std.specs.List.{AllByRecursion}
use Rattle.sasi_types.specs.declared.partitioner.Partitioner.{Partitioner}
use Rattle.sasi_host.specs.declared.name.FileName.{FileName}
use Rattle.sasi_host.specs.Names.{data_name}
use Rattle.sasi_host.specs.View.{View}
use Rattle.sasi_datawrite.specs.Format.{Content}
use Rattle.sasi_datawrite.specs.Writing.{IsWriting, Writer}
use Rattle.sasi_postings.specs.Postings.{AreGathered, gathered_postings}
use Rattle.sasi_pairs.specs.Gathered.{GatheredIndex, IsBuilt}

-- the view of a writer
pub record PairView : Type 0 where
  -- that of the data file
  pub writer : Writer
  pub indexes : List GatheredIndex

-- the index has gathered exactly the postings of this content
abbrev pub HasPostings : Partitioner → Content → GatheredIndex → Type 0
HasPostings partitioner content i = i.postings ≡ gathered_postings partitioner i.def.column i.def.rule content

-- **The writer has written this content to the data file, and each index has its postings.**
pub record IsPairing (v : View) (pair : PairView) (content : Content) : Type 0 where
  pub writing : IsWriting v pair.writer content
  pub indexes : AllByRecursion (HasPostings pair.writer.partitioner content) pair.indexes

-- what a writer keeps: this file is the data file, and while no call has failed an index file can be written of each index
pub record KeepsPostings (file : FileName) (writer : Writer) (indexes : List GatheredIndex) (usable : Bool) : Type 0 where
  pub same : writer.file ≡ file
  pub named : file ≡ data_name file.number
  pub built : AllByRecursion (λ i. IsBuilt i.def) indexes
  pub gathered : usable ≡ true → AllByRecursion (λ i. AreGathered i.postings writer.offset) indexes
