use Rattle.std.proofs.Common.{◌≡◌, ◌-◌, ◌++◌, sym, ◌∙◌, ap, arith, length, drop, length-append}
use Rattle.std.specs.Int.{to_be_bytes, w32}
use Rattle.sasi_host.specs.Names.{Bytes}
use Rattle.sasi_body.specs.Body.{body}
use Rattle.sasi_body.proofs.BodyBytes.{body_short}
use Rattle.sasi_datawrite.specs.Format.{partition_bytes}
use Rattle.sasi_datawrite.proofs.Pushes.{length_set}
use Rattle.sasi_datawrite.proofs.partition.put_partition.Goals as goal

pub set_length-requires-clause-short : goal.set_length-requires-clause-short
set_length-requires-clause-short c =
    let put : c.put_body.new.out.items ≡ to_be_bytes w32 0 ++ body c.args.key.now c.args.part.now = c.in_ok-put_body.ensures ∙ ap
    (λ (l : Bytes). l ++ body c.args.key.now c.args.part.now) (c.in_ok-put_u32.ensures.ok ∙ ap (λ (l : Bytes). l ++ to_be_bytes w32 0)
    c.clear.ensures.items) in
    omega (
      arith,
      ap (λ (l : Bytes). length l) (c.deref_mut.ensures.value ∙ put),
      length-append (to_be_bytes w32 0)
          (body c.args.key.now c.args.part.now),
      body_short c.args.key.now c.args.part.now c.requires,
    )

pub returns : goal.returns
unfolding partition_bytes
returns c =
    let put : c.put_body.new.out.items ≡ to_be_bytes w32 0 ++ body c.args.key.now c.args.part.now = c.in_ok-put_body.ensures ∙ ap
    (λ (l : Bytes). l ++ body c.args.key.now c.args.part.now) (c.in_ok-put_u32.ensures.ok ∙ ap (λ (l : Bytes). l ++ to_be_bytes w32 0)
    c.clear.ensures.items) in
    length_set c.put_body.new.out.items c.set_length.new.bytes (to_be_bytes w32 0) (body c.args.key.now c.args.part.now) _ (omega arith) put
    (sym c.deref_mut.ensures.len ∙ ap (λ (l : Bytes). length l) c.deref_mut.ensures.value)
    (c.set_length.ensures ∙ ap (λ (l : Bytes). to_be_bytes w32 (length l - 4) ++ drop 4 l) c.deref_mut.ensures.value)
