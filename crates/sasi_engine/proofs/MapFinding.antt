-- What maps have of a key, one after another.
use Rattle.std.proofs.Common.{◌≡◌, ℕ, zero, suc, ◌+◌, ◌<◌, ◌≤◌, List, [], ◌∷◌, drop, get_or, length, Option, None, refl, sym, ap, ◌∙◌, arith}
use Rattle.std.specs.FinMap as map_
use Rattle.std.specs.Option.{option_map_or}
use Rattle.sasi_types.specs.declared.decorated_key.DecoratedKey.{DecoratedKey}
use Rattle.sasi_types.specs.DecoratedKey.{decorated_cmp}
use Rattle.sasi_cells.specs.Maps.{joined}
use Rattle.sasi_model.specs.Cells.{Partition}
use Rattle.sasi_memindex.specs.Book.{Book}
use Rattle.sasi_memindex.specs.declared.map_part.MapPart.{MapPart}
use Rattle.sasi_scan.specs.Finding.{found_in}
use Rattle.sasi_scan.proofs.KeyLookups.{next_left, none_left}
use Rattle.sasi_engine.specs.TokenHits.{map_finds, maps_numbered}

-- a map that the book hasn't has no key
pub map_missing : (book : Book) (key : DecoratedKey) (number : ℕ) → None ≡ map_.get book number → None ≡ map_finds book key number
map_missing book key number is = sym (ap (λ (o : Option MapPart). map_.get (option_map_or (λ (m : MapPart). m.map.partitions) o map_.empty) key) (sym is) ∙ map_.get-empty decorated_cmp key)

same_item : (xs : List ℕ) (at d e : ℕ) → at < length xs → get_or xs at d ≡ get_or xs at e
same_item [] at d e inside = absurd (omega (arith, inside))
same_item (x ∷ xs) zero d e inside = refl
same_item (x ∷ xs) (suc at) d e inside = same_item xs at d e (omega (arith, inside))

pub numbers_next : (key : DecoratedKey) (book : Book) (numbers : List ℕ) (at d : ℕ) (found joined_part whole : Option Partition) → at < length numbers → joined_part ≡ joined found (map_finds book key (get_or numbers at d))
    → found_in key found (maps_numbered book (drop at numbers)) ≡ whole → found_in key joined_part (maps_numbered book (drop (at + 1) numbers)) ≡ whole
numbers_next key book numbers at d found joined_part whole inside joins so_far =
    ap (λ (o : Option Partition). found_in key o (maps_numbered book (drop (at + 1) numbers))) joins
    ∙ ap (λ (xs : List ℕ). found_in key found (maps_numbered book xs)) (sym (next_left numbers at (get_or numbers at d) inside (same_item numbers at d (get_or numbers at d) inside)))
    ∙ so_far

pub numbers_end : (key : DecoratedKey) (book : Book) (numbers : List ℕ) (at : ℕ) (found whole : Option Partition) → length numbers ≤ at → found_in key found (maps_numbered book (drop at numbers)) ≡ whole → found ≡ whole
numbers_end key book numbers at found whole most so_far = ap (λ (xs : List ℕ). found_in key found (maps_numbered book xs)) (sym (none_left numbers at most)) ∙ so_far
