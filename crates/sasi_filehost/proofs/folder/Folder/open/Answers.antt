use Rattle.std.proofs.Common.{Contains, subst}
use Rattle.sasi_filehost.specs.declared.read_files.ReadFiles.{ReadFiles}
use Rattle.sasi_filehost.proofs.folder.Folder.open.Goals as goal

pub returns : goal.returns
returns c entry has = subst (λ (read : ReadFiles). Contains read.files.entries entry) c.set_path.ensures.read (c.with_descriptor.ensures entry has)
