use Rattle.std.proofs.Common.{length}
use Rattle.sasi_host.specs.declared.damage.FormatRule.TheVariants.{Magic}
use Rattle.sasi_formats.specs.Fields.{fixed}
use Rattle.sasi_formats.proofs.Headers.{fixed_of_size}
use Rattle.sasi_formats.proofs.PartLaws.{part_failed, part_got, part_rule}
use Rattle.sasi_framing.proofs.mark.check_mark.Goals as goal

pub damage_in-requires : goal.damage_in-requires
damage_in-requires c =
    let mark = c.args.mark.now in
    part_rule (fixed Magic mark) (length mark) (fixed_of_size Magic mark) c.args.at c.args.file c.args.bytes.now c.new-reader.result c.new-reader.ensures c.requires.size
    c.in-Err.fault c.requires.offset c.in-Err.ensures.bytes c.in-Err.ensures.memory

pub returns-in-Ok : goal.returns-in-Ok
returns-in-Ok c =
    let mark = c.args.mark.now in
    part_got (fixed Magic mark) (length mark) (fixed_of_size Magic mark) c.args.at c.args.file c.args.bytes.now c.new-reader.result c.new-reader.ensures c.requires.size
    tt c.expect.new.reader c.in-Ok.ensures.bytes

pub returns-in-Err : goal.returns-in-Err
returns-in-Err c =
    let mark = c.args.mark.now in
    part_failed (fixed Magic mark) (length mark) (fixed_of_size Magic mark) c.args.at c.args.file c.args.bytes.now c.new-reader.result c.new-reader.ensures c.requires.size
    c.in-Err.fault c.damage_in.result c.in-Err.ensures.bytes c.damage_in.ensures
