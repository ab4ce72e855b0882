use Rattle.std.proofs.Common.{arith}
use Rattle.sasi_formats.proofs.PartLaws.{part_got, part_rule, part_failed}
use Rattle.sasi_indexwrite.specs.Format.{footer}
use Rattle.sasi_indexread.proofs.Fields.{footer_of_size}
use Rattle.sasi_indexread.proofs.parts.numbers_in.Goals as goal

pub damage_in-requires : goal.damage_in-requires
damage_in-requires c =
    part_rule (footer c.args.mode c.args.at) 64 (footer_of_size c.args.mode c.args.at) c.args.at c.args.file c.args.bytes.now c.new-reader.result c.new-reader.ensures c.requires.size
    c.in-Err.fault (omega (arith, c.requires.offset)) c.in-Err.ensures.numbers c.in-Err.ensures.memory

pub returns-in-Ok : goal.returns-in-Ok
returns-in-Ok c =
    part_got (footer c.args.mode c.args.at) 64 (footer_of_size c.args.mode c.args.at) c.args.at c.args.file c.args.bytes.now c.new-reader.result c.new-reader.ensures c.requires.size
    c.in-Ok.numbers c.read_numbers.new.reader c.in-Ok.ensures.numbers

pub returns-in-Err : goal.returns-in-Err
returns-in-Err c =
    part_failed (footer c.args.mode c.args.at) 64 (footer_of_size c.args.mode c.args.at) c.args.at c.args.file c.args.bytes.now c.new-reader.result c.new-reader.ensures c.requires.size
    c.in-Err.fault c.damage_in.result c.in-Err.ensures.numbers c.damage_in.ensures
