-- Segments of the log that are deleted one after another.
use Rattle.std.proofs.Common.{◌≡◌, ◌+◌, ◌≤◌, ◌<◌, ◌⊎◌, ℕ, sym, ap, subst, ◌∙◌, ⊎_elim, arith}
use Rattle.std.specs.FinMap.{get}
use Rattle.sasi_host.specs.Names.{Folder, log_name}
use Rattle.sasi_host.specs.View.{IsAbsent, View}
use Rattle.sasi_host.specs.Disk.{Changes, FileChange, MaybeDeleted, Same}
use Rattle.sasi_host.proofs.ChangeLaws.{changes_as, changes_on, stays}
use Rattle.sasi_host.proofs.ContentLaws.{absent_where, contents_other, there_where}
use Rattle.sasi_folder.proofs.FolderLaws.{numbers_apart}
use Rattle.sasi_tables.specs.Flushing.{AreAbsent, AreThere, DeletesSegments}

pub none_deleted : (v : View) (first floor : ℕ) → Changes (DeletesSegments first floor) v v
none_deleted v first floor = changes_as v v Same (DeletesSegments first floor) (stays v) (λ x y same name other. ap (λ (f : Folder). get f name) same)

less_or_same : (n m : ℕ) → n < m + 1 → (n < m) ⊎ (n ≡ m)
less_or_same n m below = grind arith

module _ (b c : View) (segment : ℕ) (one : Changes (FileChange (log_name segment) MaybeDeleted) b c) where
  pub one_deleted : (a : View) (first floor : ℕ) → first ≤ segment → segment < floor → Changes (DeletesSegments first floor) a b → Changes (DeletesSegments first floor) a c
  one_deleted a first floor above below before =
      changes_on a b c (DeletesSegments first floor) (FileChange (log_name segment) MaybeDeleted) (DeletesSegments first floor) before one (λ x y s. s)
      (λ x y z s step name other. step.others name (other segment above below) ∙ s name other)

  pub gone_on : (first : ℕ) → AreAbsent b first segment → IsAbsent c (log_name segment) → AreAbsent c first (segment + 1)
  gone_on first before gone n above below = ⊎_elim
      (λ less. absent_where b c (log_name n) (contents_other b c (log_name segment) (log_name n) MaybeDeleted (numbers_apart _ _ (omega (arith, less))) one) (before n above less))
      (λ same. subst (λ m. IsAbsent c (log_name m)) (sym same) gone)
      (less_or_same n segment below)

  pub left_on : (floor : ℕ) → AreThere b segment floor → AreThere c (segment + 1) floor
  left_on floor left n above below =
      there_where b c (FileChange (log_name segment) MaybeDeleted) (log_name n) one (contents_other b c (log_name segment) (log_name n) MaybeDeleted (numbers_apart _ _ (omega (arith, above))) one) (left n (omega (arith, above)) below)
