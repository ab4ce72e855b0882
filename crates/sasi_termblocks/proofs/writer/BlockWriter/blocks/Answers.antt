use Rattle.std.proofs.Common.{◌≡◌, ◌∙◌, List, ap, length, rules, subst, sym}
use Rattle.std.proofs.lemmas.List.{length-map}
use Rattle.sasi_host.specs.Names.{Bytes}
use Rattle.sasi_termblocks.specs.Blocks.{blocks, first_term, items_of}
use Rattle.sasi_termblocks.specs.Writing.{HasPushed, Writer}
use Rattle.sasi_termblocks.proofs.writer.BlockWriter.blocks.Goals as goal

pub returns : goal.returns
returns c entries has =
    let had = subst (λ (w : Writer). HasPushed w entries) (sym c.self.view_is) has in
    let count : c.len.result ≡ length c.self.inside.packer.first_terms.items = search rules in
    count ∙ ap (λ (l : List Bytes). length l) had.packs.first_terms_are ∙ length-map (blocks (items_of entries)) first_term
