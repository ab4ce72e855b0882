use Rattle.sasi_host.proofs.PageReadingLaws.{reads_nothing}
use Rattle.sasi_dataread.proofs.file_bytes.read_bytes.Goals as goal

pub returns-in_err-out-clause-read : goal.returns-in_err-out-clause-read
returns-in_err-out-clause-read g c = reads_nothing _ _ _ _ c.requires.read.agrees c.requires.read.buffered
