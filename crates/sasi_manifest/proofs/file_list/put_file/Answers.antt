use Rattle.std.proofs.Common.{List, length, ap, ◌∙◌, arith, subst, sym}
use Rattle.std.specs.Prelude.{nat_le}
use Rattle.std.specs.List.{insert, position_or_len}
use Rattle.sasi_manifest.specs.declared.files.ListedFile.{ListedFile}
use Rattle.sasi_manifest.specs.ListedFiles.{AreInOrder}
use Rattle.sasi_manifest.proofs.FileOrder.{in_order_put}
use Rattle.sasi_manifest.proofs.Positions.{inserted, with_file_is}
use Rattle.sasi_manifest.proofs.file_list.put_file.Goals as goal

pub position_of-at-requires : goal.position_of-at-requires
position_of-at-requires c = subst (λ (fs : List ListedFile). AreInOrder 0 fs) (sym c.deref.ensures.value) c.requires.order

pub insert-requires : goal.insert-requires
insert-requires c = omega (arith, c.position_of-at.ensures.within, ap length c.deref.ensures.value)

pub returns-clause-items : goal.returns-clause-items
returns-clause-items c =
    inserted c.insert.result c.args.files.now.items _ _ (c.insert.ensures.succeeds c.requires.room) c.insert.ensures.items
    ∙ ap (λ n. insert c.args.files.now.items n c.args.file) (c.position_of-at.ensures.place ∙ ap (λ (fs : List ListedFile). position_or_len (λ f. nat_le c.args.file.number f.number) fs) c.deref.ensures.value)
    ∙ with_file_is c.args.file c.args.files.now.items

pub returns-clause-order : goal.returns-clause-order
returns-clause-order c =
    subst (λ (fs : List ListedFile). AreInOrder 0 fs)
    (sym (inserted c.insert.result c.args.files.now.items _ _ (c.insert.ensures.succeeds c.requires.room) c.insert.ensures.items
    ∙ ap (λ n. insert c.args.files.now.items n c.args.file) (c.position_of-at.ensures.place ∙ ap (λ (fs : List ListedFile). position_or_len (λ f. nat_le c.args.file.number f.number) fs) c.deref.ensures.value)
    ∙ with_file_is c.args.file c.args.files.now.items))
    (in_order_put c.args.file c.args.files.now.items c.requires.order)
