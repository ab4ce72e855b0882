use Rattle.std.proofs.Common.{◌≡◌, ◌++◌, take}
use Rattle.std.specs.List.{flat_map}
use Rattle.sasi_model.specs.Abbreviations.{printed_byte}
use Rattle.sasi_print.proofs.values.push_doubled.Given as goal

-- the bytes so far are printed
abbrev pub invariant-loop-byte : goal.invariant-loop-byte
invariant-loop-byte l = l.reply.items ≡ l.fn.reply.items ++ flat_map printed_byte (take l.byte-index l.text)
