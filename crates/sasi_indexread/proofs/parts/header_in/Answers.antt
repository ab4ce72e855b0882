use Rattle.std.proofs.Common.{arith}
use Rattle.sasi_formats.proofs.PartLaws.{part_got, part_rule, part_failed}
use Rattle.sasi_indexwrite.specs.Format.{header}
use Rattle.sasi_indexread.proofs.Fields.{header_of_size}
use Rattle.sasi_indexread.proofs.parts.header_in.Goals as goal

pub damage_in-requires : goal.damage_in-requires
damage_in-requires c =
    part_rule header 16 header_of_size 0 c.args.file c.args.bytes.now c.new-reader.result c.new-reader.ensures c.requires
    c.in-Err.fault (omega arith) c.in-Err.ensures.header c.in-Err.ensures.memory

pub returns-in-Ok : goal.returns-in-Ok
returns-in-Ok c =
    part_got header 16 header_of_size 0 c.args.file c.args.bytes.now c.new-reader.result c.new-reader.ensures c.requires
    c.in-Ok.fields c.read_header.new.reader c.in-Ok.ensures.header

pub returns-in-Err : goal.returns-in-Err
returns-in-Err c =
    part_failed header 16 header_of_size 0 c.args.file c.args.bytes.now c.new-reader.result c.new-reader.ensures c.requires
    c.in-Err.fault c.damage_in.result c.in-Err.ensures.header c.damage_in.ensures
