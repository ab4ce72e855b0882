use Rattle.std.proofs.Common.{◌≡◌, false, drop}
use Rattle.sasi_cql.proofs.Strings.{size_behind, closing}
use Rattle.sasi_cql.proofs.quoted.string_size.Given as goal

abbrev pub invariant-bytes : goal.invariant-bytes
invariant-bytes l = closing false l.bytes ≡ size_behind l.i (closing l.quote (drop l.i l.bytes))
