-- Maps with keys of texts, and texts.
use Rattle.std.proofs.Common.{◌≡◌, ℕ, false, true, List, [], ◌∷◌, ◌++◌, Option, Some, is_some, sym, ap, subst, ◌∙◌}
use Rattle.std.specs.Cmp.{nat_cmp_total}
use Rattle.std.specs.FinMap as fin
use Rattle.std.specs.List.{AllByRecursion}
use Rattle.std.specs.Option.{option_map_or}
use Rattle.sasi_types.specs.declared.column.ColumnType.TheVariants as kinds
use Rattle.sasi_types.specs.DecoratedKey.{decorated_cmp}
use Rattle.sasi_model.specs.Cells.{Partition}
use Rattle.sasi_model.specs.State.{decorated}
use Rattle.sasi_machine.specs.TableRows.{AreStored}
use Rattle.sasi_machine.specs.Where.{HasTexts}
use Rattle.sasi_machine.proofs.Stored.{put_stored}
use Rattle.sasi_machine.proofs.Texts.{no_texts, put_texts}
use Rattle.sasi_memindex.specs.Book.{Book, bare}
use Rattle.sasi_memindex.specs.declared.map_part.MapPart.{MapPart}
use Rattle.sasi_memtable.specs.MemtableView.{MemtableView, empty_memtable, with_change}
use Rattle.sasi_types.specs.declared.partitioner.Partitioner.{Partitioner}
use Rattle.sasi_scan.specs.Numbered.{views_numbered}
use Rattle.sasi_sources_tests.specs.Sources.{HasTextMaps}

pub empty_stored : (p : Partitioner) → AreStored kinds.Text (empty_memtable p).partitions
empty_stored p = record {
  keys = λ key there. (let none : false ≡ true = sym (ap is_some (fin.get-empty {X = Partition} decorated_cmp key)) ∙ there in cc);
  texts = no_texts;
}

pub change_stored : (m : MemtableView) (key : List ℕ) (change : Partition) → AreStored kinds.Text m.partitions → HasTexts change → AreStored kinds.Text (with_change m key change).partitions
change_stored m key change stored texts = record {
  keys = put_stored kinds.Text m.partitions (decorated m.partitioner key) change tt stored.keys;
  texts = put_texts m.partitions (decorated m.partitioner key) change stored.texts texts;
}

-- ---- a book to which three maps were added

module _ (b c d e : Book) (first second third : MemtableView) (one : c ≡ fin.insert b 1 (bare first)) (two : d ≡ fin.insert c 2 (bare second)) (three : e ≡ fin.insert d 3 (bare third)) where
  pub has_first : fin.get e 1 ≡ Some (bare first)
  has_first =
      ap (λ (x : Book). fin.get x 1) three ∙ fin.get-insert nat_cmp_total d 3 (bare third) 1
      ∙ ap (λ (x : Book). fin.get x 1) two ∙ fin.get-insert nat_cmp_total c 2 (bare second) 1
      ∙ ap (λ (x : Book). fin.get x 1) one ∙ fin.get-insert nat_cmp_total b 1 (bare first) 1

  pub has_second : fin.get e 2 ≡ Some (bare second)
  has_second =
      ap (λ (x : Book). fin.get x 2) three ∙ fin.get-insert nat_cmp_total d 3 (bare third) 2
      ∙ ap (λ (x : Book). fin.get x 2) two ∙ fin.get-insert nat_cmp_total c 2 (bare second) 2

  pub has_third : fin.get e 3 ≡ Some (bare third)
  has_third = ap (λ (x : Book). fin.get x 3) three ∙ fin.get-insert nat_cmp_total d 3 (bare third) 3

  pub maps_added : AreStored kinds.Text first.partitions → AreStored kinds.Text second.partitions → AreStored kinds.Text third.partitions → HasTextMaps e
  maps_added in_first in_second in_third =
      subst (λ (o : Option MapPart). Stored (one_of o ++ views_numbered e (2 ∷ 3 ∷ []))) (sym has_first) (
        in_first,
        subst (λ (o : Option MapPart). Stored (one_of o ++ views_numbered e (3 ∷ []))) (sym has_second) (
          in_second,
          subst (λ (o : Option MapPart). Stored (one_of o ++ [])) (sym has_third) (in_third, tt),
        ),
      )
    where
      one_of : Option MapPart → List MemtableView
      one_of o = option_map_or (λ (part : MapPart). part.map ∷ []) o []

      Stored : List MemtableView → Type 0
      Stored ms = AllByRecursion (λ (n : MemtableView). AreStored kinds.Text n.partitions) ms
