-- Scans of a data file.
use Rattle.std.specs.Prelude.{◌≡◌}
use Rattle.sasi_host.specs.declared.name.FileName.{FileName}
use Rattle.sasi_host.specs.View.{View}
use Rattle.sasi_host.specs.Buffered.{IsBuffered}
use Rattle.sasi_tokentree.specs.Scans.{IsAtLast}
use Rattle.sasi_dataread.specs.KeyOrder.{IsLastKey}
use Rattle.sasi_dataread.specs.Scans.{DataScan, pairs_of}

-- a scan of this file, whose buffered pages, last pair and last key are those of the folder
pub record IsScanOf (v : View) (scan : DataScan) (file : FileName) : Type 0 where
  pub of_file : scan.opened.file ≡ file
  pub pairs_buffered : IsBuffered scan.pairs_buffered v.files
  pub buffered : IsBuffered scan.buffered v.files
  pub at_last : IsAtLast (pairs_of scan) v.files
  pub last_key : IsLastKey v.files scan.opened scan.tokens scan.passed scan.last
