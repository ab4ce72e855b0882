use Rattle.std.proofs.Common.{◌+◌, length, arith}
use Rattle.sasi_formats.specs.Headers.{file_header}
use Rattle.sasi_formats.proofs.Headers.{header_of_size}
use Rattle.sasi_formats.proofs.PartLaws.{part_got, part_rule, part_failed}
use Rattle.sasi_formats.proofs.header.check_header.Goals as goal

pub damage_in-requires : goal.damage_in-requires
damage_in-requires c =
    part_rule (file_header c.args.magic.now c.args.number) (length c.args.magic.now + 8) (header_of_size c.args.magic.now c.args.number) 0 c.args.file c.args.bytes.now c.new-reader.result c.new-reader.ensures c.requires
    c.in-Err.fault (omega arith) c.in-Err.ensures.header c.in-Err.ensures.memory

pub returns-in-Ok : goal.returns-in-Ok
returns-in-Ok c =
    part_got (file_header c.args.magic.now c.args.number) (length c.args.magic.now + 8) (header_of_size c.args.magic.now c.args.number) 0 c.args.file c.args.bytes.now c.new-reader.result c.new-reader.ensures c.requires
    tt c.read_header.new.reader c.in-Ok.ensures.header

pub returns-in-Err : goal.returns-in-Err
returns-in-Err c =
    part_failed (file_header c.args.magic.now c.args.number) (length c.args.magic.now + 8) (header_of_size c.args.magic.now c.args.number) 0 c.args.file c.args.bytes.now c.new-reader.result c.new-reader.ensures c.requires
    c.in-Err.fault c.damage_in.result c.in-Err.ensures.header c.damage_in.ensures
