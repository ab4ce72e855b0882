-- Entries cut into blocks.
use Rattle.std.proofs.Common.{◌≡◌, ℕ, suc, ◌+◌, ◌-◌, ◌*◌, ◌<◌, ◌≤◌, List, [], ◌∷◌, ◌++◌, length, refl, sym, ap, ◌∙◌, subst, arith, append_assoc, length-append, ⊎_elim}
use Rattle.std.proofs.lemmas.Bool.{le-leb, lt-leb}
use Rattle.std.proofs.lemmas.Bool.Decides.{leb_tells}
use Rattle.std.proofs.lemmas.List.{append-nil, length_push, length-replicate}
use Rattle.std.specs.List.{flat_map, fold}
use Rattle.std.specs.Int.{to_be_bytes, w16}
use Rattle.std.specs.Prelude.{replicate}
use Rattle.sasi_host.specs.Names.{Bytes}
use Rattle.sasi_termblocks.specs.Blocks.{Item, Cut, add, block, blocks, cut_of, entries_bytes, offsets, size, with_last, with_room}
use Rattle.sasi_termblocks.specs.Writing.{AreSmall}

-- ---- a block

pub fold_push : {A B : Type 0} (f : B → A → B) (start : B) (items : List A) (a : A) → fold f start (items ++ a ∷ []) ≡ f (fold f start items) a
fold_push f start [] a = refl
fold_push f start (b ∷ items) a = fold_push f (f start b) items a

pub flat_push : {A : Type 0} (f : A → Bytes) (items : List A) (a : A) → flat_map f (items ++ a ∷ []) ≡ flat_map f items ++ f a
flat_push f [] a = append-nil (f a)
flat_push f (b ∷ items) a = ap (λ (l : Bytes). f b ++ l) (flat_push f items a) ∙ sym (append_assoc (f b) (flat_map f items) (f a))

pub offsets_push : (at : ℕ) (items : List Item) (item : Item) → offsets at (items ++ item ∷ []) ≡ offsets at items ++ (at + length (entries_bytes items)) ∷ []
offsets_push at [] item = ap (λ (n : ℕ). n ∷ []) (omega arith)
offsets_push at (first ∷ others) item =
    ap (λ (l : List ℕ). at ∷ l)
    (offsets_push (at + length first.bytes) others item
    ∙ ap (λ (n : ℕ). offsets (at + length first.bytes) others ++ n ∷ []) (omega (arith, length-append first.bytes (entries_bytes others))))

pub offsets_length : (at : ℕ) (items : List Item) → length (offsets at items) ≡ length items
offsets_length at [] = refl
offsets_length at (first ∷ others) = ap suc (offsets_length (at + length first.bytes) others)

-- offsets that are counted from later on
pub offsets_behind : (table at : ℕ) (items : List Item) → flat_map (λ (n : ℕ). to_be_bytes w16 (table + n)) (offsets at items) ≡ flat_map (to_be_bytes w16) (offsets (table + at) items)
offsets_behind table at [] = refl
offsets_behind table at (first ∷ others) =
    ap (λ (l : Bytes). to_be_bytes w16 (table + at) ++ l)
    (offsets_behind table (at + length first.bytes) others ∙ ap (λ (n : ℕ). flat_map (to_be_bytes w16) (offsets n others)) (omega arith))

pub table_length : (numbers : List ℕ) → length (flat_map (to_be_bytes w16) numbers) ≡ 2 * length numbers
table_length [] = refl
table_length (first ∷ others) = omega (arith, length-append (to_be_bytes w16 first) (flat_map (to_be_bytes w16) others), table_length others)

pub block_length : (items : List Item) → size items ≤ 4096 → length (block items) ≡ 4096
unfolding block
block_length items le =
    let table = flat_map (to_be_bytes w16) (offsets (2 + 2 * length items) items) in
    let zeros : Bytes = replicate (4096 - size items) 0 in
    omega (
      arith,
      le,
      length-append (to_be_bytes w16 (length items)) (table ++ (entries_bytes items ++ zeros)),
      length-append table (entries_bytes items ++ zeros),
      length-append (entries_bytes items) zeros,
      length-replicate {A = ℕ} (4096 - size items) 0,
      table_length (offsets (2 + 2 * length items) items),
      offsets_length (2 + 2 * length items) items,
    )

pub size_push : (items : List Item) (item : Item) → size (items ++ item ∷ []) ≡ size items + (2 + length item.bytes)
size_push items item =
    omega (arith, length_push items item, ap (λ (l : Bytes). length l) (flat_push (λ (i : Item). i.bytes) items item), length-append (entries_bytes items) item.bytes)

-- ---- the cut

pub cut_push : (items : List Item) (item : Item) → cut_of (items ++ item ∷ []) ≡ add (cut_of items) item
unfolding cut_of
cut_push items item = fold_push add (record { full = []; last = [] }) items item

pub room_kept : (bytes : ℕ) (c : Cut) → size c.last + (2 + bytes) ≤ 4096 → with_room bytes c ≡ c
room_kept bytes c le = rw (le-leb (size c.last + (2 + bytes)) 4096 le) refl

pub room_made : (bytes : ℕ) (c : Cut) → 4096 < size c.last + (2 + bytes) → with_room bytes c ≡ record { full = c.full ++ c.last ∷ []; last = [] }
room_made bytes c lt = rw (lt-leb (size c.last + (2 + bytes)) 4096 lt) refl

added : Cut → Item → Cut
added c item = record { full = c.full; last = c.last ++ item ∷ [] }

pub add_is : (c d : Cut) (item : Item) → with_room (length item.bytes) c ≡ d → add c item ≡ record { full = d.full; last = d.last ++ item ∷ [] }
add_is c d item is = ap (λ (e : Cut). made e) is
  where
    made : Cut → Cut
    made e = record { full = e.full; last = e.last ++ item ∷ [] }

-- each of these blocks has entries, and they fit
abbrev pub AreBlocks : List (List Item) → Type 0
AreBlocks [] = Unit {0}
AreBlocks (first ∷ others) = ((0 < length first) × (size first ≤ 4096)) × AreBlocks others

pub blocks_push : (full : List (List Item)) (last : List Item) → AreBlocks full → 0 < length last → size last ≤ 4096 → AreBlocks (full ++ last ∷ [])
blocks_push [] last are some le = ((some, le), tt)
blocks_push (first ∷ others) last are some le = (are.0, blocks_push others last are.1 some le)

-- so many entries were cut so
pub record IsCut (count : ℕ) (c : Cut) : Type 0 where
  pub full_are : AreBlocks c.full
  pub last_fits : size c.last ≤ 4096
  pub last_small : length (entries_bytes c.last) ≤ 1200 * length c.last
  pub many : 2 * length c.full + length c.last ≤ count
  pub most : count ≤ 2047 * length c.full + length c.last

put_last : (count : ℕ) (c : Cut) (item : Item) → length item.bytes ≤ 1200 → size c.last + (2 + length item.bytes) ≤ 4096 → IsCut count c → IsCut (count + 1) (record { full = c.full; last = c.last ++ item ∷ [] })
put_last count c item small le is =
    let long = length_push c.last item in
    let sized = size_push c.last item in
    record {
      full_are = is.full_are;
      last_fits = omega (arith, sized, le);
      last_small = omega (arith, sized, long, small, is.last_small);
      many = omega (arith, long, is.many);
      most = omega (arith, long, is.most);
    }

closed : (count : ℕ) (c : Cut) (bytes : ℕ) → bytes ≤ 1200 → 4096 < size c.last + (2 + bytes) → IsCut count c → IsCut count (record { full = c.full ++ c.last ∷ []; last = [] })
closed count c bytes small lt is =
    let three : 3 ≤ length c.last = omega (arith, small, lt, is.last_small) in
    let long = length_push c.full c.last in
    record {
      full_are = blocks_push c.full c.last is.full_are (omega (arith, three)) is.last_fits;
      last_fits = omega arith;
      last_small = omega arith;
      many = omega (arith, long, three, is.many);
      most = omega (arith, long, is.most, is.last_fits);
    }

pub cut_add : (count : ℕ) (c : Cut) (item : Item) → length item.bytes ≤ 1200 → IsCut count c → IsCut (count + 1) (add c item)
cut_add count c item small is = ⊎_elim
    (λ fits. subst (λ (d : Cut). IsCut (count + 1) d) (sym (add_is c c item (room_kept (length item.bytes) c fits.1))) (put_last count c item small fits.1 is))
    (λ full.
    let d : Cut = record { full = c.full ++ c.last ∷ []; last = [] } in
    subst (λ (e : Cut). IsCut (count + 1) e) (sym (add_is c d item (room_made (length item.bytes) c full.1)))
    (put_last count d item small (omega (arith, small)) (closed count c (length item.bytes) small full.1 is)))
    (leb_tells (size c.last + (2 + length item.bytes)) 4096)

cut_all : (items : List Item) (count : ℕ) (c : Cut) → AreSmall items → IsCut count c → IsCut (count + length items) (fold add c items)
cut_all [] count c small is = subst (λ (n : ℕ). IsCut n c) (omega arith) is
cut_all (item ∷ others) count c small is =
    subst (λ (n : ℕ). IsCut n (fold add (add c item) others)) (omega arith) (cut_all others (count + 1) (add c item) small.1 (cut_add count c item small.0 is))

pub cut_is : (items : List Item) → AreSmall items → IsCut (length items) (cut_of items)
unfolding cut_of
cut_is items small =
    subst (λ (n : ℕ). IsCut n (fold add (record { full = []; last = [] }) items)) (omega arith)
    (cut_all items 0 (record { full = []; last = [] }) small (record { full_are = tt; last_fits = omega arith; last_small = omega arith; many = omega arith; most = omega arith }))

with_last_length : (full : List (List Item)) (last : List Item) → length (with_last full last) ≤ length full + 1
with_last_length full [] = omega arith
with_last_length full (first ∷ others) = omega (arith, length_push full (first ∷ others))

with_last_few : (full : List (List Item)) (last : List Item) (count : ℕ) → 2 ≤ count → 2 * length full + length last ≤ count → length (with_last full last) < count
with_last_few full [] count two many = omega (arith, two, many)
with_last_few full (first ∷ others) count two many = omega (arith, two, many, length_push full (first ∷ others))

-- a level of two entries or more has fewer blocks
pub fewer : (items : List Item) → AreSmall items → 2 ≤ length items → length (blocks items) < length items
fewer items small two = with_last_few (cut_of items).full (cut_of items).last (length items) two (cut_is items small).many

pub all_blocks : (items : List Item) → AreSmall items → AreBlocks (blocks items)
all_blocks items small = from (cut_of items).full (cut_of items).last (cut_is items small).full_are (cut_is items small).last_fits
  where
    from : (full : List (List Item)) (last : List Item) → AreBlocks full → size last ≤ 4096 → AreBlocks (with_last full last)
    from full [] are le = are
    from full (first ∷ others) are le = blocks_push full (first ∷ others) are (omega arith) le
