use Rattle.std.proofs.Common.{refl}
use Rattle.sasi_machine_layout.proofs.DefinedContents.{new_contents, new_layout_is}
use Rattle.sasi_machine_layout.proofs.layout.Layout.new.Goals as goal

pub invariant_of-result : goal.invariant_of-result
invariant_of-result c = new_contents _ c.new.ensures c.new-2.ensures.items refl

pub returns : goal.returns
returns c = new_layout_is c.args.partitioner c.new.result c.new-2.result.items c.new.ensures
