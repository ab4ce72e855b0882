use Rattle.sasi_indexwrite.proofs.Fields.{header_put}
use Rattle.sasi_indexwrite.proofs.header.put_header.Goals as goal

pub returns : goal.returns
returns c =
    header_put c.args.out.now.items c.put_front.new.out.items c.put_u8.new.out.items c.put_u8-2.new.out.items c.put_u16.new.out.items c.magic.result.now c.code.result c.code-2.result c.args.mode c.args.kind
    c.magic.ensures c.code.ensures c.code-2.ensures c.in_ok-put_front.ensures c.in_ok-put_u8.ensures.ok c.in_ok-put_u8-2.ensures.ok c.in_ok-put_u16.ensures.ok
