-- A host and a source of real files: what they tell, and what becomes of them once they have failed.
use Rattle.std.specs.Prelude.{◌≡◌, Result, None, IsNone, IsErr}
use Rattle.sasi_host.specs.View.{View, SourceView}
use Rattle.sasi_filehost.specs.HostCounts.{view_of}
use Rattle.sasi_filehost.specs.declared.file_host.FileHost.{FileHost}
use Rattle.sasi_filehost.specs.declared.file_source.FileSource.{FileSource}

-- the host tells its counts, and nothing of what it holds
abbrev pub told : FileHost → View
told host = view_of host.tally

-- no call was made of it
pub record IsUncalled (host : FileHost) : Type 0 where
  pub calls : (told host).calls ≡ 0
  pub emits : (told host).emits ≡ 0
  pub reads : (told host).reads ≡ 0
  pub disk : (told host).disk_faults ≡ 0
  pub out : (told host).out_faults ≡ 0

-- its folder couldn't be opened, or a sync failed
abbrev pub HasFailed : FileHost → Type 0
HasFailed host = IsNone host.folder

-- from then on each call fails
pub record StaysFailed {T E : Type 0} (old new : FileHost) (result : Result T E) : Type 0 where
  pub fails : HasFailed old → IsErr result
  pub stays : HasFailed old → HasFailed new

-- ---- the source

-- it tells its counts
abbrev pub source_told : FileSource → SourceView
source_told source = record { left = None; reads = source.reads; faults = source.faults; failed_last = source.failed_last; failing = None }

-- the script couldn't be opened
abbrev pub IsUnopened : FileSource → Type 0
IsUnopened source = IsNone source.file
