use Rattle.std.proofs.Common.{◌++◌, ◌∙◌, ap, append_assoc}
use Rattle.std.specs.Int.{to_be_bytes, w32}
use Rattle.sasi_host.specs.Names.{Bytes}
use Rattle.sasi_formats.proofs.header.put_front.Goals as goal

pub returns : goal.returns
returns c = c.in_ok-put_u32.ensures.ok ∙ ap (λ (l : Bytes). l ++ to_be_bytes w32 1) c.in_ok-put_bytes.ensures.ok ∙ append_assoc c.args.out.now.items c.args.magic.now (to_be_bytes w32 1)
