-- How many pages the reading of a gated file reads: each once, however many gates lie on it.
use Rattle.std.specs.Prelude.{OnOk, None}
use Rattle.std.specs.declared.result.Result.{Result}
use Rattle.sasi_host.specs.declared.fault.ReadFault.{ReadFault}
use Rattle.sasi_host.specs.View.{View}
use Rattle.sasi_host.specs.Sequential.{BeginsBy, ReadsEachOnce, ReadsNoFurther}
use Rattle.sasi_gated.specs.Handles.{Handle}

-- a sequential reader: its buffered page, if there is one, begins before or at its gate
abbrev pub IsSequential : Handle → Type 0
IsSequential handle = BeginsBy handle.buffered.page handle.at

-- an opened file: the reader is sequential, and each page up to the buffered one was read once
abbrev pub OpensSequential : View → View → Handle → Type 0
OpensSequential old new handle = ReadsEachOnce old new handle.file None handle.buffered.page handle.at

-- A read from one gate to the next: it stays sequential, and reads each page that it comes to once. Also where it fails, it reads no page
-- twice and none beyond the end, if its gate stands within the file.
pub record ReadsPagesOnce {T : Type 0} (old new : View) (before after : Handle) (result : Result T ReadFault) : Type 0 where
  pub ok : OnOk result (ReadsEachOnce old new before.file before.buffered.page after.buffered.page after.at)
  pub no_further : ReadsNoFurther old new before.file before.buffered.page before.at
