-- Maps by their positions among those that the book has.
use Rattle.std.proofs.Common.{◌≡◌, ◌+◌, ◌≤◌, ◌<◌, ℕ, zero, suc, List, [], ◌∷◌, ◌++◌, length, get_or, slice_get, Option, None, Some, refl, ap, sym, ◌∙◌, arith}
use Rattle.std.proofs.lemmas.Option.{slice_get_read}
use Rattle.std.specs.FinMap.{get}
use Rattle.std.specs.Option.{option_and_then, option_map, option_map_or}
use Rattle.sasi_memindex.specs.Book.{Book}
use Rattle.sasi_memindex.specs.declared.map_part.MapPart.{MapPart}
use Rattle.sasi_memtable.specs.MemtableView.{MemtableView}
use Rattle.sasi_scan.specs.Numbered.{views_numbered}

-- the map of a part, as a list of one
abbrev one : Option MapPart → List MemtableView
one found = option_map_or (λ (part : MapPart). part.map ∷ []) found []

-- ---- the map at a position

most_views : (book : Book) (ns : List ℕ) → length (views_numbered book ns) ≤ length ns
most_views book [] = omega arith
most_views book (n ∷ ns) = by (get book n) (most_views book ns)
  where
    by : (found : Option MapPart) → length (views_numbered book ns) ≤ length ns → length (one found ++ views_numbered book ns) ≤ suc (length ns)
    by None rest = omega (arith, rest)
    by (Some part) rest = omega (arith, rest)

-- where the book has all numbers, the map at a position is that of the number there
whole_at : (book : Book) (ns : List ℕ) (at : ℕ) → length (views_numbered book ns) ≡ length ns
    → slice_get (views_numbered book ns) at ≡ option_and_then (λ n. option_map (λ (part : MapPart). part.map) (get book n)) (slice_get ns at)
whole_at book [] at whole = refl
whole_at book (n ∷ ns) at whole = by (get book n) refl at whole (λ k rest. whole_at book ns k rest)
  where
    by : (found : Option MapPart) → get book n ≡ found → (k : ℕ) → length (one found ++ views_numbered book ns) ≡ suc (length ns)
        → ((k : ℕ) → length (views_numbered book ns) ≡ length ns → slice_get (views_numbered book ns) k ≡ option_and_then (λ m. option_map (λ (part : MapPart). part.map) (get book m)) (slice_get ns k))
        → slice_get (one found ++ views_numbered book ns) k ≡ option_and_then (λ m. option_map (λ (part : MapPart). part.map) (get book m)) (slice_get (n ∷ ns) k)
    by None is k whole later = absurd (omega (arith, whole, most_views book ns))
    by (Some part) is zero whole later = sym (ap (λ (o : Option MapPart). option_map (λ (part : MapPart). part.map) o) is)
    by (Some part) is (suc k) whole later = later k (omega (arith, whole))

-- the number at a position, and the map that the book has of it
pub number_at : (book : Book) (ns : List ℕ) (at n : ℕ) (found : Option MapPart) → length (views_numbered book ns) ≡ length ns → at < length ns → n ≡ get_or ns at n → found ≡ get book n
    → option_map (λ (part : MapPart). part.map) found ≡ slice_get (views_numbered book ns) at
number_at book ns at n found whole inside is part_is =
    ap (λ (o : Option MapPart). option_map (λ (part : MapPart). part.map) o) part_is
    ∙ ap (λ (o : Option ℕ). option_and_then (λ k. option_map (λ (part : MapPart). part.map) (get book k)) o) (sym (slice_get_read ns (length ns) at n refl inside is))
    ∙ sym (whole_at book ns at whole)
