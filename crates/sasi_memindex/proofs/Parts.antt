-- Maps by their numbers.
use Rattle.std.proofs.Common.{◌≡◌, ℕ, Bool, true, false, cond, List, [], ◌∷◌, Option, None, Some, refl, sym, ap, ◌∙◌}
use Rattle.std.specs.BTreeMap.{is_at}
use Rattle.std.specs.Cmp.{eq_by_cmp_equiv, nat_cmp_total}
use Rattle.std.specs.FinMap as fin
use Rattle.std.specs.Map.{lookup}
use Rattle.std.specs.Ordering.{eq_by_cmp, nat_cmp}
use Rattle.sasi_memindex.specs.declared.map_part.MapPart.{MapPart}
use Rattle.sasi_memtable.specs.MemtableView.{MemtableView}
use Rattle.sasi_memindex.specs.Book.{Book}
use Rattle.sasi_memindex.specs.MemIndexView.{Numbered}

abbrev pub part_of : MemtableView → Numbered → MapPart
part_of m indexes = record { map = m; indexes = indexes }

abbrev pub Entries : Type 0
Entries = List (ℕ × MapPart)

-- the first part of a number
abbrev pub part_at : Entries → ℕ → Option MapPart
part_at entries number = lookup (is_at (nat_cmp number)) entries

find-part_at : (entries : Entries) (number : ℕ) → fin.find nat_cmp number entries ≡ part_at entries number
find-part_at [] number = refl
find-part_at (e ∷ es) number = ap (cond (is_at (nat_cmp number) e.0) (Some e.1)) (find-part_at es number)

pub get-parts : (entries : Entries) (number : ℕ) → fin.get (fin.from_entries {R = nat_cmp} entries) number ≡ part_at entries number
get-parts entries number = fin.get-from_entries nat_cmp_total entries number ∙ find-part_at entries number

same_books : (a b : Book) → ((n : ℕ) → fin.get a n ≡ fin.get b n) → a ≡ b
same_books a b alike = fin.same_map nat_cmp_total fin.nat_cmp-IsAntisymmetric a b alike

pub added_is : (old new : Entries) (number : ℕ) (part : MapPart) → ((n : ℕ) → part_at new n ≡ cond (is_at (nat_cmp number) n) (Some part) (part_at old n))
    → fin.from_entries {R = nat_cmp} new ≡ fin.insert (fin.from_entries old) number part
added_is old new number part differs = same_books _ _ (λ n.
    get-parts new n ∙ differs n ∙ ap (λ b. cond b (Some part) (part_at old n)) ((eq_by_cmp_equiv nat_cmp_total).symm number n)
    ∙ sym (fin.get-insert nat_cmp_total (fin.from_entries old) number part n ∙ ap (cond (eq_by_cmp nat_cmp n number) (Some part)) (get-parts old n)))

pub removed_is : (old new : Entries) (number : ℕ) → ((n : ℕ) → part_at new n ≡ cond (is_at (nat_cmp number) n) None (part_at old n))
    → fin.from_entries {R = nat_cmp} new ≡ fin.remove (fin.from_entries old) number
removed_is old new number differs = same_books _ _ (λ n.
    get-parts new n ∙ differs n ∙ ap (λ b. cond b None (part_at old n)) ((eq_by_cmp_equiv nat_cmp_total).symm number n)
    ∙ sym (fin.get-remove nat_cmp_total (fin.from_entries old) number n ∙ ap (cond (eq_by_cmp nat_cmp n number) None) (get-parts old n)))

pub alike_books : (old new : Entries) → ((n : ℕ) → part_at new n ≡ part_at old n) → fin.from_entries {R = nat_cmp} new ≡ fin.from_entries old
alike_books old new alike = same_books _ _ (λ n. get-parts new n ∙ alike n ∙ sym (get-parts old n))

-- the part of a number in a book that is seen so
pub seen-parts : (entries : Entries) (book : Book) (number : ℕ) → fin.from_entries entries ≡ book → fin.get book number ≡ part_at entries number
seen-parts entries book number is = ap (λ (b : Book). fin.get b number) (sym is) ∙ get-parts entries number
