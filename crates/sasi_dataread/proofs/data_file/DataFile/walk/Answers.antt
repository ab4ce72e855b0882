use Rattle.std.proofs.Common.{[], None, ◌∙◌, ap}
use Rattle.sasi_dataread.specs.Opened.{OpenDataFile}
use Rattle.sasi_dataread.specs.Scans.{DataScan}
use Rattle.sasi_dataread.proofs.data_file.DataFile.walk.Goals as goal

pub returns : goal.returns
returns c = c.new.ensures ∙ ap (λ (o : OpenDataFile). begun o) c.in_ok-copy.ensures
  where
    begun : OpenDataFile → DataScan
    begun o = record { opened = o; tokens = None; passed = 0; pairs_buffered = record { file = o.file; page = None; bytes = [] }; buffered = record { file = o.file; page = None; bytes = [] }; last_pair = None; last = None }
