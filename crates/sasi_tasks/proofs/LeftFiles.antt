-- The files of one part of a view that is given back: where the table has no more of its number, they are chosen by their count alone.
use Rattle.std.proofs.Common.{◌≡◌, ◌&&◌, ◌++◌, ◌∙◌, ℕ, Bool, true, false, not, List, [], ◌∷◌, append-nil, map, refl, sym, ap, subst}
use Rattle.std.specs.List.{AllByRecursion, list_any}
use Rattle.sasi_host.specs.declared.name.FileName.{FileName}
use Rattle.sasi_host.specs.Disk.{Changes, Within}
use Rattle.sasi_host.specs.Names.{data_name, name_eq}
use Rattle.sasi_host.specs.View.{View}
use Rattle.sasi_host.proofs.ChangeLaws.{changes_as}
use Rattle.sasi_layout.proofs.FileNameLaws.{name_there}
use Rattle.sasi_manifest.specs.ListedFiles.{has_file, index_name}
use Rattle.sasi_manifest.specs.declared.files.ListedFile.{ListedFile}
use Rattle.sasi_manifest.specs.declared.files.PartNumber.{PartNumber}
use Rattle.sasi_tasks.specs.Unheld.{AreGone, AreOnce, AreThere, AreUnchosen, is_counted, is_left, is_one_of}
use Rattle.sasi_tasks.proofs.Deleting.{HasDeleted, all_gone, deleted_on, none_deleted, one_changed, changed_on}
use Rattle.sasi_views.specs.Books.{Book}
use Rattle.sasi_views.specs.Parts.{names_of}
use Rattle.sasi_views.specs.declared.part.Part.{Part}
use Rattle.sasi_views.specs.declared.part.Part.TheVariants.{File}

-- ---- two ways to choose that choose the same of some names

abbrev ChooseSame : (FileName → Bool) → (FileName → Bool) → List FileName → Type 0
ChooseSame p q names = AllByRecursion (λ (n : FileName). q n ≡ p n) names

there_as : (p q : FileName → Bool) (v : View) (names : List FileName) → ChooseSame p q names → AreThere q v names → AreThere p v names
there_as p q v [] same there = tt
there_as p q v (n ∷ names) same there = ((λ is. there.0 (same.0 ∙ is)), there_as p q v names same.1 there.1)

gone_as : (p q : FileName → Bool) (v : View) (names : List FileName) → ChooseSame p q names → AreGone p v names → AreGone q v names
gone_as p q v [] same gone = tt
gone_as p q v (n ∷ names) same gone = ((λ is. gone.0 (sym same.0 ∙ is)), gone_as p q v names same.1 gone.1)

unchosen_as : (p q : FileName → Bool) (names : List FileName) → ChooseSame p q names → AreUnchosen q names → AreUnchosen p names
unchosen_as p q [] same none = tt
unchosen_as p q (n ∷ names) same none = (sym same.0 ∙ none.0, unchosen_as p q names same.1 none.1)

same_one : (p q : FileName → Bool) (names : List FileName) → ChooseSame p q names → (n : FileName) → is_one_of p names n ≡ is_one_of q names n
same_one p q names same n = by (list_any (name_eq n) names) refl
  where
    by : (t : Bool) → list_any (name_eq n) names ≡ t → (t && p n) ≡ (t && q n)
    by true one = sym (name_there (λ (m : FileName). q m ≡ p m) n names same one)
    by false other = refl

within_as : (p q : FileName → Bool) (names : List FileName) (a b : View) → ChooseSame p q names → Changes (Within (is_one_of p names)) a b → Changes (Within (is_one_of q names)) a b
within_as p q names a b same change = changes_as a b (Within (is_one_of p names)) (Within (is_one_of q names)) change (λ x y kept n other. kept n (same_one p q names same n ∙ other))

-- ---- the files of a part

-- the table has some of its number: none is chosen
pub none_left : (views : Book) (files : List ListedFile) (number : ℕ) (parts : List PartNumber) → has_file files number ≡ true → AreUnchosen (is_left views files) (data_name number ∷ map (index_name number) parts)
none_left views files number parts listed = (ap (λ b. not b && is_counted views 1 (data_name number)) listed, by parts)
  where
    by : (ps : List PartNumber) → AreUnchosen (is_left views files) (map (index_name number) ps)
    by [] = tt
    by (p ∷ ps) = (ap (λ b. not b && is_counted views 1 (index_name number p)) listed, by ps)

-- so all that are chosen are gone
pub none_gone : (chosen : FileName → Bool) (v : View) (names : List FileName) → AreUnchosen chosen names → AreGone chosen v names
none_gone chosen v [] none = tt
none_gone chosen v (n ∷ names) none = ((λ is. absurd (clash (sym is ∙ none.0))), none_gone chosen v names none.1)
  where
    clash : true ≡ false → ⊥
    clash e = cc

-- it has none: they are chosen by their count
by_count : (views : Book) (files : List ListedFile) (number : ℕ) (parts : List PartNumber) → has_file files number ≡ false → ChooseSame (is_counted views 1) (is_left views files) (data_name number ∷ map (index_name number) parts)
by_count views files number parts unlisted = (ap (λ b. not b && is_counted views 1 (data_name number)) unlisted, by parts)
  where
    by : (ps : List PartNumber) → ChooseSame (is_counted views 1) (is_left views files) (map (index_name number) ps)
    by [] = tt
    by (p ∷ ps) = (ap (λ b. not b && is_counted views 1 (index_name number p)) unlisted, by ps)

-- what the deletion of the files of a part needs: none of them is listed any more
pub record DeletesPart (views : Book) (files : List ListedFile) (number : ℕ) (parts : List PartNumber) (a : View) : Type 0 where
  pub unlisted : has_file files number ≡ false
  pub there : AreThere (is_left views files) a (data_name number ∷ map (index_name number) parts)
  pub once : AreOnce (data_name number ∷ map (index_name number) parts)

pub part_needs : (views : Book) (files : List ListedFile) (number : ℕ) (parts : List PartNumber) (a : View) (part : Part) → part ≡ File number parts → has_file files number ≡ false
    → AreThere (is_left views files) a (names_of part) → AreOnce (names_of part) → DeletesPart views files number parts a
part_needs views files number parts a part is unlisted there once = record {
  unlisted = unlisted;
  there = subst (λ (p : Part). AreThere (is_left views files) a (names_of p)) is there;
  once = subst (λ (p : Part). AreOnce (names_of p)) is once;
}

module _ (views : Book) (files : List ListedFile) (number : ℕ) (parts : List PartNumber) (a : View) (needs : DeletesPart views files number parts a) where
  abbrev names : List FileName
  names = data_name number ∷ map (index_name number) parts

  same : ChooseSame (is_counted views 1) (is_left views files) names
  same = by_count views files number parts needs.unlisted

  counted_there : AreThere (is_counted views 1) a names
  counted_there = there_as (is_counted views 1) (is_left views files) a names same needs.there

  begun : HasDeleted (is_counted views 1) names names a a
  begun = none_deleted (is_counted views 1) names a counted_there needs.once

  -- where none is chosen, neither is the data file nor an index file
  pub none_counted : AreUnchosen (is_left views files) names → AreUnchosen (is_counted views 1) names
  none_counted none = unchosen_as (is_counted views 1) (is_left views files) names same none

  module _ (b : View) (change : Changes (Within (is_one_of (is_counted views 1) (data_name number ∷ []))) a b) where
    -- the call for the data file fails
    pub data_changes : Changes (Within (is_one_of (is_left views files) names)) a b
    data_changes = within_as (is_counted views 1) (is_left views files) names a b same (one_changed (is_counted views 1) names a a (data_name number) (map (index_name number) parts) begun b change)

    module _ (gone : AreGone (is_counted views 1) b (data_name number ∷ [])) (disk : b.disk_faults ≡ a.disk_faults) (out : b.out_faults ≡ a.out_faults) (reads : b.reads ≡ a.reads) where
      half : HasDeleted (is_counted views 1) names (map (index_name number) parts) a b
      half = deleted_on (is_counted views 1) names (data_name number ∷ []) (map (index_name number) parts) a a begun b change gone disk out reads

      -- with nothing behind the index files
      half_end : HasDeleted (is_counted views 1) names (map (index_name number) parts ++ []) a b
      half_end = subst (λ (l : List FileName). HasDeleted (is_counted views 1) names l a b) (sym (append-nil (map (index_name number) parts))) half

      pub indexes_there : AreThere (is_counted views 1) b (map (index_name number) parts)
      indexes_there = half.left

      module _ (c : View) (more : Changes (Within (is_one_of (is_counted views 1) (map (index_name number) parts))) b c) where
        -- that for the index files is made
        pub part_changes : Changes (Within (is_one_of (is_left views files) names)) a c
        part_changes = within_as (is_counted views 1) (is_left views files) names a c same (changed_on (is_counted views 1) names (map (index_name number) parts) [] a b half_end c more)

        pub part_gone : AreGone (is_counted views 1) c (map (index_name number) parts) → c.disk_faults ≡ b.disk_faults → c.out_faults ≡ b.out_faults → c.reads ≡ b.reads → AreGone (is_left views files) c names
        part_gone behind disk_on out_on reads_on = gone_as (is_counted views 1) (is_left views files) c names same
            (all_gone (is_counted views 1) names a c (deleted_on (is_counted views 1) names (map (index_name number) parts) [] a b half_end c more behind disk_on out_on reads_on))
