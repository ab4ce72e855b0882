use Rattle.sasi_filehost.specs.OpenFiles.{key_of}
use Rattle.sasi_filehost.proofs.Kept.{gone}
use Rattle.sasi_filehost.proofs.read_files.ReadFiles.close.Goals as goal

pub returns-clause-closed : goal.returns-clause-closed
returns-clause-closed c entry has = gone (key_of c.args.name) _ c.len.ensures.valid.0 entry (rw (c.pop.ensures.entries, c.new.ensures) at has)
