use Rattle.sasi_indexwrite.proofs.Fields.{footer_put}
use Rattle.sasi_indexwrite.proofs.footer.put_footer.Goals as goal

pub returns : goal.returns
returns c =
    footer_put c.args.out.now.items c.put_blocks.new.out.items c.put_u64.new.out.items c.put_ref.new.out.items c.put_u64-2.new.out.items c.put_bytes.new.out.items c.args.footer
    c.in_ok-put_blocks.ensures c.in_ok-put_u64.ensures.ok c.in_ok-put_ref.ensures c.in_ok-put_u64-2.ensures.ok c.in_ok-put_bytes.ensures.ok
