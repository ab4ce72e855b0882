use Rattle.std.proofs.Common.{◌++◌, ◌∙◌, ap, append_assoc}
use Rattle.std.specs.Int.{to_be_bytes, w32}
use Rattle.sasi_host.specs.Names.{Bytes}
use Rattle.sasi_formats.specs.Formats.{encoded}
use Rattle.sasi_formats.specs.Headers.{file_front}
use Rattle.sasi_formats.proofs.header.put_header.Goals as goal

pub returns : goal.returns
returns c =
    let number = to_be_bytes w32 c.args.number in
    c.in_ok-put_u32.ensures.ok ∙ ap (λ (l : Bytes). l ++ number) c.in_ok-put_front.ensures ∙ append_assoc c.args.out.now.items (encoded (file_front c.args.magic.now) tt) number
