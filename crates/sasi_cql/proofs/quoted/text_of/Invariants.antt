use Rattle.std.proofs.Common.{◌≡◌, ◌++◌, drop}
use Rattle.sasi_cql.specs.ModelTokens.{undoubled, undoubled_from}
use Rattle.sasi_cql.proofs.quoted.text_of.Given as goal

abbrev pub invariant-bytes : goal.invariant-bytes
invariant-bytes l = undoubled l.bytes ≡ l.text.items ++ undoubled_from l.quote (drop l.byte-index l.bytes)
