-- The indexes of a map, as they are brought up to a change one after another.
use Rattle.std.proofs.Common.{◌≡◌, ◌<◌, ◌≤◌, ℕ, List, length, get_or, map, slice_get, slice_set, Option, Some, Result, Err, unwrap_or, refl, sym, ap, subst, ◌∙◌, arith}
use Rattle.std.proofs.Math.Seq.{map-set_same}
use Rattle.std.proofs.lemmas.Result.{err_from_is_err_and}
use Rattle.std.specs.FinMap as map_
use Rattle.std.specs.Result.{IsErrAnd}
use Rattle.sasi_types.specs.declared.class.Class.{Class}
use Rattle.sasi_types.specs.declared.decorated_key.DecoratedKey.{DecoratedKey}
use Rattle.sasi_types.specs.declared.kit_fault.KitFault.{KitFault}
use Rattle.sasi_types.specs.declared.kit_fault.KitFault.TheVariants.{Missing}
use Rattle.sasi_cells.specs.Maps.{put}
use Rattle.sasi_model.specs.Abbreviations.{Partitions}
use Rattle.sasi_model.specs.Cells.{Partition, empty_partition, merge, value_at}
use Rattle.sasi_model.specs.IndexTerms.{terms_of_value}
use Rattle.sasi_memindex.specs.Book.{AreKept, CanIndex, CanMerge, IsKept, IsMissing, IsMissingOf, subjects}
use Rattle.sasi_memindex.specs.IndexOf.{HasPut}
use Rattle.sasi_memindex.specs.MemIndexView.{MemIndexView, Numbered, subject}
use Rattle.sasi_memindex.proofs.BookLaws.{can_merge, kept_after}
use Rattle.sasi_memindex.proofs.Places.{item_or}

-- a missing class that a call reports is the one that the call within it did
pub handed_on : {A B : Type 0} (r : Result A KitFault) (s : Result B KitFault) (fault : KitFault) (class : Class) → r ≡ Err fault → IsErrAnd s (λ k. k ≡ fault) → s ≡ Err (Missing class) → r ≡ Err (Missing class)
handed_on r s fault class was back e =
    let p = err_from_is_err_and s back in
    let of : p.0 ≡ Missing class = cc (p.1, e) in
    was ∙ ap (λ (k : KitFault). Err k) (sym p.2 ∙ of)

pub same_subjects : (xs : Numbered) (at : ℕ) (y d : ℕ × MemIndexView) → y.0 ≡ (get_or xs at d).0 → subject y.1 ≡ subject (get_or xs at d).1 → subjects (slice_set xs at y) ≡ subjects xs
same_subjects xs at y d number of = map-set_same (λ (i : ℕ × MemIndexView). (i.0, subject i.1)) xs at y d (λ k. (number k, of k))

module _ (m : Partitions) (all xs : Numbered) (at : ℕ) (d : ℕ × MemIndexView) (within : at < length xs)
    (left : (position : ℕ) (i : ℕ × MemIndexView) → at ≤ position → slice_get xs position ≡ Some i → slice_get all position ≡ Some i) where
  pub listed : slice_get all at ≡ Some (get_or xs at d)
  listed = left at (get_or xs at d) (omega arith) (item_or xs at d within)

  pub missing_of : (classes now : List Class) (class : Class) → now ≡ classes → IsMissing now (get_or xs at d).1.rule class → IsMissingOf classes all class
  missing_of classes now class same is = record {
    position = at;
    index = get_or xs at d;
    listed = listed;
    missing = subst (λ (c : List Class). IsMissing c (get_or xs at d).1.rule class) same is;
  }

  module _ (key : DecoratedKey) (change : Partition) (kept : AreKept m all) (can : CanIndex all change) (old : Option Partition) (is : old ≡ map_.get m key) where
    pub can_change : CanMerge (get_or xs at d).1 key old change
    can_change = subst (λ (o : Option Partition). CanMerge (get_or xs at d).1 key o change) (sym is) (can_merge m (get_or xs at d).1 key change (kept at (get_or xs at d) listed) (can at (get_or xs at d) listed))

    pub kept_here : (new : MemIndexView) → HasPut (get_or xs at d).1 key (terms_of_value (get_or xs at d).1.rule (value_at (merge (unwrap_or old empty_partition) change) (get_or xs at d).1.column)) new
        → subject new ≡ subject (get_or xs at d).1 → IsKept (put m key change) new
    kept_here new has of =
        kept_after m (get_or xs at d).1 new key change (kept at (get_or xs at d) listed) (can at (get_or xs at d) listed)
        (subst (λ (o : Option Partition). HasPut (get_or xs at d).1 key (terms_of_value (get_or xs at d).1.rule (value_at (merge (unwrap_or o empty_partition) change) (get_or xs at d).1.column)) new) is has) of
