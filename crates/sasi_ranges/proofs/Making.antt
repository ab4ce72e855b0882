-- Streams of which nothing was read.
use Rattle.std.proofs.Common.{◌≡◌, ◌<◌, ℕ, suc, List, [], ◌∷◌, length, map, Option, None, refl, sym, ap, subst}
use Rattle.std.specs.List.{AllByRecursion}
use Rattle.sasi_host.specs.Names.{Folder}
use Rattle.sasi_ranges.specs.declared.entry.Entry.{Entry}
use Rattle.sasi_ranges.specs.declared.head.Headed.{Headed}
use Rattle.sasi_ranges.specs.EachStream.{EachLeaves}
use Rattle.sasi_ranges.specs.Entries.{Rises}
use Rattle.sasi_ranges.specs.Lists.{intersection_by, union_of}
use Rattle.sasi_ranges.specs.inside.Heads.{AllLeave, streams_of, unread}
use Rattle.sasi_ranges.specs.inside.Meets.{MetLeaves}
use Rattle.sasi_ranges.specs.inside.Unions.{UnionLeaves}
use Rattle.sasi_ranges.proofs.Uniting.{meets_by, unites_union}

streams_unread : {S : Type 0} (ss : List S) → streams_of (map unread ss) ≡ ss
streams_unread [] = refl
streams_unread (s ∷ ss) = ap (λ (k : List _). s ∷ k) (streams_unread ss)

pub streams_are : {S : Type 0} (hs : List (Headed S)) (ss : List S) → hs ≡ map unread ss → streams_of hs ≡ ss
streams_are hs ss is = subst (λ (k : List (Headed _)). streams_of k ≡ ss) (sym is) (streams_unread ss)

module _ {S : Type 0} (leaves : S → Option Folder → List Entry → Type 0) (files : Option Folder) (rises : (s : S) (es : List Entry) → leaves s files es → Rises es) where
  unread_leave : (ss : List S) (lists : List (List Entry)) → EachLeaves leaves files ss lists → AllLeave leaves files (map unread ss) lists
  unread_leave [] [] all = tt
  unread_leave [] (l ∷ ls) all = absurd all
  unread_leave (s ∷ ss) [] all = absurd all
  unread_leave (s ∷ ss) (l ∷ ls) all = (all.0, unread_leave ss ls all.1)

  all_rise : (ss : List S) (lists : List (List Entry)) → EachLeaves leaves files ss lists → AllByRecursion Rises lists
  all_rise [] [] all = tt
  all_rise [] (l ∷ ls) all = absurd all
  all_rise (s ∷ ss) [] all = absurd all
  all_rise (s ∷ ss) (l ∷ ls) all = (rises s l all.0, all_rise ss ls all.1)

  pub union_made : (hs : List (Headed S)) (ss : List S) (lists : List (List Entry)) → hs ≡ map unread ss → EachLeaves leaves files ss lists
      → UnionLeaves leaves files hs (union_of lists)
  union_made hs ss lists is all =
      let rise = all_rise ss lists all in
      (lists, subst (λ (k : List (Headed S)). AllLeave leaves files k lists) (sym is) (unread_leave ss lists all), rise, unites_union lists rise)

  pub intersection_made : (hs : List (Headed S)) (ss : List S) (relations : List (List ℕ)) (lists : List (List Entry)) → hs ≡ map unread ss
      → 0 < length relations → EachLeaves leaves files ss lists
      → MetLeaves leaves files hs relations None (intersection_by relations lists)
  intersection_made hs ss relations lists is some all =
      let rise = all_rise ss lists all in
      (lists, subst (λ (k : List (Headed S)). AllLeave leaves files k lists) (sym is) (unread_leave ss lists all), rise, tt, meets_by relations lists rise, some)

pub leave_long : {S : Type 0} (leaves : S → Option Folder → List Entry → Type 0) (files : Option Folder) (ss : List S) (lists : List (List Entry))
    → EachLeaves leaves files ss lists → length ss ≡ length lists
leave_long leaves files [] [] all = refl
leave_long leaves files [] (l ∷ ls) all = absurd all
leave_long leaves files (s ∷ ss) [] all = absurd all
leave_long leaves files (s ∷ ss) (l ∷ ls) all = ap suc (leave_long leaves files ss ls all.1)
