use Rattle.std.proofs.Common.{◌≡◌, ◌∷◌, ap, subst, sym, ◌∙◌, refl}
use Rattle.std.specs.FinMap as map_
use Rattle.std.specs.List.{AllByRecursion}
use Rattle.sasi_cells.specs.Maps.{put}
use Rattle.sasi_memtable.specs.MemtableView.{AreDecorated, MemtableView}
use Rattle.sasi_model.specs.Abbreviations.{Partitions}
use Rattle.sasi_model.specs.Cells.{Partition}
use Rattle.sasi_model.specs.State.{decorated}
use Rattle.sasi_types.specs.declared.decorated_key.DecoratedKey.{DecoratedKey}
use Rattle.sasi_types.specs.declared.partitioner.Partitioner.{Partitioner}
use Rattle.sasi_machine_layout.proofs.PuttingAll.{entries_under, puts, puts_merged}
use Rattle.sasi_machine_layout.proofs.merging.merge_into.Goals as goal

pub loop-key-init : goal.loop-key-init
loop-key-init c =
    let begun : c.into_iter-key-iterator.result ≡ map_.entries c.args.later.now.partitions = c.into_iter-key-iterator.ensures.into_iter_gives ∙ c.iter-key-items.ensures.rest in
    record {
      left = ap (puts c.args.all.now.partitions) begun;
      partitioner = refl;
      under = subst (AllByRecursion (λ (e : DecoratedKey × Partition). e.0 ≡ decorated c.args.all.now.partitioner e.0.key)) (sym begun)
          (entries_under c.args.all.now.partitioner c.args.later.now.partitions (subst (λ (p : Partitioner). AreDecorated p c.args.later.now.partitions) c.requires c.iter-key-items.ensures.decorated));
    }

pub loop-key-preserved : goal.loop-key-preserved
loop-key-preserved c =
    let entry : DecoratedKey × Partition = (c.in-Some.key.now, c.in-Some.partition.now) in
    let rest = c.next.new.self in
    let is : c.loop-key.key-iterator ≡ entry ∷ rest = c.in-Some.ensures.steps in
    let here = subst (AllByRecursion (λ (e : DecoratedKey × Partition). e.0 ≡ decorated c.args.all.now.partitioner e.0.key)) is c.loop-key.invariant.under in
    let key : decorated c.loop-key.all.partitioner entry.0.key ≡ entry.0 = ap (λ (p : Partitioner). decorated p entry.0.key) c.loop-key.invariant.partitioner ∙ sym here.0 in
    let put_is : c.put.new.self.partitions ≡ put c.loop-key.all.partitions entry.0 entry.1 =
    ap (λ (m : MemtableView). m.partitions) c.in_ok-put.ensures.ok ∙ ap (λ (k : DecoratedKey). put c.loop-key.all.partitions k entry.1) key in
    record {
      left = ap (λ (m : Partitions). puts m rest) put_is ∙ ap (puts c.loop-key.all.partitions) (sym is) ∙ c.loop-key.invariant.left;
      partitioner = ap (λ (m : MemtableView). m.partitioner) c.in_ok-put.ensures.ok ∙ c.loop-key.invariant.partitioner;
      under = here.1;
    }

pub returns-clause-partitions : goal.returns-clause-partitions
returns-clause-partitions c =
    ap (puts c.loop-key.all.partitions) (sym c.in-None.ensures.steps.0) ∙ c.loop-key.invariant.left ∙ puts_merged c.args.all.now.partitions c.args.later.now.partitions
