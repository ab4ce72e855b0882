use Rattle.sasi_commitlog.proofs.Payloads.{payload_put}
use Rattle.sasi_commitlog.proofs.payload.put_mutation.Goals as goal

pub returns : goal.returns
returns c = payload_put c.put_body.result c.args.mutation.now c.args.out.now.items c.put_u32.new.out.items c.put_body.new.out.items c.in_ok-put_u32.ensures.ok c.put_body.ensures
