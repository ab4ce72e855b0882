use Rattle.std.proofs.Common.{take}
use Rattle.sasi_termblocks.specs.Blocks.{cut_of, pointers_to}
use Rattle.sasi_termblocks.specs.Writing.{IsSmall, Packs}
use Rattle.sasi_termblocks.proofs.pointers.pack_pointers.Given as goal

abbrev pub invariant-loop-index : goal.invariant-loop-index
invariant-loop-index l = record {
  packs : Packs l.packer (cut_of (take l.index (pointers_to l.at l.first_terms)));
  small : IsSmall l.packer;
}
