-- Terms that bound those that are asked for.
use Rattle.sasi_host.specs.Names.{Bytes}
use Rattle.sasi_indexread.specs.declared.bound_term.BoundTerm.{BoundTerm}
use Rattle.sasi_indexread.specs.declared.bound_term.BoundTerm.TheVariants.{Body, Int, BigInt}

abbrev pub bytes_of : BoundTerm → Bytes
bytes_of (Body term) = term.now
bytes_of (Int term) = term
bytes_of (BigInt term) = term
