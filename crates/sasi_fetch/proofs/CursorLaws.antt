-- What is kept of a cursor.
use Rattle.std.proofs.Common.{◌≡◌, ℕ, true, List, Option, None, IsSome}
use Rattle.sasi_types.specs.declared.column.ColumnType.{ColumnType}
use Rattle.sasi_host.specs.declared.name.FileName.{FileName}
use Rattle.sasi_host.specs.Names.{Folder}
use Rattle.sasi_host.specs.View.{contents_in}
use Rattle.sasi_memindex.specs.Book.{Book}
use Rattle.std.specs.FinMap.{get}
use Rattle.sasi_model.specs.Cells.{Partition}
use Rattle.sasi_memindex.specs.Growth.{IsGrown}
use Rattle.sasi_recheck.specs.Sources.{Candidate}
use Rattle.sasi_sources.specs.Maps.{IsOneOf}
use Rattle.sasi_engine.specs.Plans.{is_file_of, map_numbers}
use Rattle.sasi_plan.specs.Answers.{ReadsLeft, ReadsUpTo, RowsLeft}
use Rattle.sasi_plan.specs.contracts.plan_candidates.PlanCandidatesCandidates.TheImpl as source
use Rattle.sasi_plan.specs.contracts.plan_candidates.PlanCandidatesCandidates.TheImpl.Laws as law
use Rattle.sasi_fetch.specs.Cursors.{IsReadable, view_of}
use Rattle.sasi_fetch.specs.declared.cursor.Cursor.{Cursor}

-- the files of its view are as they were, and of the maps of its view at most indexes were added
pub record StaysInView (c : Cursor) (old new : Option Folder) (was now : Book) : Type 0 where
  pub told : IsSome new → IsSome old
  pub files : (name : FileName) → is_file_of (view_of c) name ≡ true → contents_in new name ≡ contents_in old name
  pub maps : (number : ℕ) → IsOneOf (map_numbers (view_of c)) number → IsGrown (get was number) (get now number)

module _ (types : List ColumnType) (old new : Option Folder) (was now : Book) (c : Cursor) (is : IsReadable types old was c) (stays : StaysInView c old new was now) where
  kept : (source.ready-value.it c.reader.rows.candidates old was → source.ready-value.it c.reader.rows.candidates new now) × ((left : List Candidate) → source.leaves-value.it c.reader.rows.candidates old was left → source.leaves-value.it c.reader.rows.candidates new now left)
      × ((most : ℕ) (prices : List ℕ) → source.pays-value.it c.reader.rows.candidates old was most prices → source.pays-value.it c.reader.rows.candidates new now most prices) × ((kind : ColumnType) → source.prints-value.it c.reader.rows.candidates old was kind → source.prints-value.it c.reader.rows.candidates new now kind)
  kept = law.keeps-law c.reader.rows.candidates old new was now stays.told (λ name opens. stays.files name (is.opens name opens)) (λ number uses. stays.maps number (is.uses number uses))

  -- **It can still be read,**
  pub still_readable : IsReadable types new now c
  still_readable = record {
    ready = kept.0 is.ready;
    prints = kept.3 c.reader.picked.key is.prints;
    opens = is.opens;
    uses = is.uses;
    shows = is.shows;
  }

  -- **and has the same rows left.**
  pub still_left : (rows : List (List ℕ × Partition)) → RowsLeft source.leaves-value.it c.reader.rows old was rows → RowsLeft source.leaves-value.it c.reader.rows new now rows
  still_left rows left = (left.0, kept.1 left.0 left.1, left.2)

  -- **What it still costs stays the same too,** up to the last of the rows that are asked for,
  pub still_reads_up_to : (asked : Option ℕ) (most : ℕ) → ReadsUpTo source.leaves-value.it source.pays-value.it c.reader.rows old was asked most → ReadsUpTo source.leaves-value.it source.pays-value.it c.reader.rows new now asked most
  still_reads_up_to asked most left = (left.0, left.1, left.2, kept.1 left.0 left.3, kept.2 left.1 left.2 left.4, left.5)

  -- and in all.
  pub still_reads : (most : ℕ) → ReadsLeft source.leaves-value.it source.pays-value.it c.reader.rows old was most → ReadsLeft source.leaves-value.it source.pays-value.it c.reader.rows new now most
  still_reads most left = still_reads_up_to None most left
