use Rattle.sasi_filehost.specs.OpenFiles.{OpensNone}
use Rattle.sasi_filehost.proofs.descriptors.with_descriptor.Given as goal

abbrev pub invariant-loop : goal.invariant-loop
invariant-loop g l = OpensNone l.fn.read l.read
