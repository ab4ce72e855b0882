-- The blocks of a level: their entries are those of the level, one block after another.
use Rattle.std.proofs.Common.{◌≡◌, ℕ, zero, suc, ◌+◌, ◌*◌, ◌<◌, ◌≤◌, List, [], ◌∷◌, ◌++◌, length, map, take, refl, sym, ap, ◌∙◌, subst, arith, append_assoc, length-append, ⊎_elim}
use Rattle.std.proofs.lemmas.Bool.Decides.{leb_tells}
use Rattle.std.proofs.lemmas.List.{append-nil, length-map, take_more, take_all, get_or_append_left, get_or-append-add}
use Rattle.std.specs.List.{flat_map, fold}
use Rattle.std.specs.Int.{to_be_bytes, w64}
use Rattle.std.specs.Prelude.{get_or}
use Rattle.sasi_host.specs.Names.{Bytes}
use Rattle.sasi_host.specs.Damages.{HasAt}
use Rattle.sasi_formats.specs.Formats.{Fits, encoded}
use Rattle.sasi_termblocks.specs.declared.term_entry.TermEntry.{TermEntry}
use Rattle.sasi_termblocks.specs.Entries.{is_below, postings, term}
use Rattle.sasi_termblocks.specs.Blocks.{Item, Cut, add, block, blocks, cut_of, items_of, first_term, first_terms, pointers_to, size, with_last}
use Rattle.sasi_termblocks.specs.Writing.{AreShort, AreSmall}
use Rattle.sasi_termblocks.specs.Scans.{HaveBytes, IsRising, start_of}
use Rattle.sasi_termblocks.proofs.CutLaws.{AreBlocks, add_is, all_blocks, block_length, room_kept, room_made}
use Rattle.sasi_termblocks.proofs.EntryLaws.{entry_small, pointer_small, short_term, term_short}
use Rattle.sasi_termblocks.proofs.Orders.{rises_to}

abbrev pub joined : List (List Item) → List Item
joined groups = flat_map (λ (g : List Item). g) groups

joined_push : (groups : List (List Item)) (last : List Item) → joined (groups ++ last ∷ []) ≡ joined groups ++ last
joined_push [] last = append-nil last
joined_push (first ∷ others) last = ap (λ (l : List Item). first ++ l) (joined_push others last) ∙ sym (append_assoc first (joined others) last)

-- ---- the entries of all blocks

abbrev all_of : Cut → List Item
all_of c = joined c.full ++ c.last

add_all : (c : Cut) (item : Item) → all_of (add c item) ≡ all_of c ++ item ∷ []
add_all c item = ⊎_elim
    (λ fits. ap all_of (add_is c c item (room_kept (length item.bytes) c fits.1)) ∙ sym (append_assoc (joined c.full) c.last (item ∷ [])))
    (λ full.
    ap all_of (add_is c (record { full = c.full ++ c.last ∷ []; last = [] }) item (room_made (length item.bytes) c full.1))
    ∙ ap (λ (l : List Item). l ++ item ∷ []) (joined_push c.full c.last))
    (leb_tells (size c.last + (2 + length item.bytes)) 4096)

fold_all : (items : List Item) (c : Cut) → all_of (fold add c items) ≡ all_of c ++ items
fold_all [] c = sym (append-nil (all_of c))
fold_all (item ∷ others) c = fold_all others (add c item) ∙ ap (λ (l : List Item). l ++ others) (add_all c item) ∙ append_assoc (all_of c) (item ∷ []) others

with_last_all : (full : List (List Item)) (last : List Item) → joined (with_last full last) ≡ joined full ++ last
with_last_all full [] = sym (append-nil (joined full))
with_last_all full (first ∷ others) = joined_push full (first ∷ others)

pub joined_blocks : (items : List Item) → joined (blocks items) ≡ items
unfolding cut_of
joined_blocks items = with_last_all (cut_of items).full (cut_of items).last ∙ fold_all items (record { full = []; last = [] })

-- ---- a block of them

pub record IsBlock (group : List Item) : Type 0 where
  pub some : 0 < length group
  pub fits : size group ≤ 4096

pub is_block : (groups : List (List Item)) (index : ℕ) → AreBlocks groups → index < length groups → IsBlock (get_or groups index [])
is_block [] index are lt = absurd (omega (arith, lt))
is_block (first ∷ others) zero are lt = record { some = are.0.0; fits = are.0.1 }
is_block (first ∷ others) (suc index) are lt = is_block others index are.1 (omega (arith, lt))

pub blocks_length : (groups : List (List Item)) → AreBlocks groups → length (flat_map block groups) ≡ 4096 * length groups
blocks_length [] are = refl
blocks_length (first ∷ others) are = omega (arith, length-append (block first) (flat_map block others), block_length first are.0.1, blocks_length others are.1)

behind_first : (front back : Bytes) (at : ℕ) (part : Bytes) (place : ℕ) → place ≡ length front + at → HasAt back at part → HasAt (front ++ back) place part
behind_first front back at part place is has = record {
  front = front ++ has.front;
  rest = has.rest;
  is = ap (λ (l : Bytes). front ++ l) has.is ∙ regroup front has.front part has.rest;
  offset_is = length-append front has.front ∙ omega (arith, is, has.offset_is);
}
  where
    regroup : (a b c d : Bytes) → a ++ ((b ++ c) ++ d) ≡ ((a ++ b) ++ c) ++ d
    regroup a b c d = simp append_assoc

pub block_stands : (groups : List (List Item)) (index : ℕ) → AreBlocks groups → index < length groups → HasAt (flat_map block groups) (4096 * index) (block (get_or groups index []))
block_stands [] index are lt = absurd (omega (arith, lt))
block_stands (first ∷ others) zero are lt = record { front = []; rest = flat_map block others; is = refl; offset_is = refl }
block_stands (first ∷ others) (suc index) are lt =
    behind_first (block first) (flat_map block others) (4096 * index) (block (get_or others index [])) (4096 * suc index)
    (omega (arith, block_length first are.0.1)) (block_stands others index are.1 (omega (arith, lt)))

-- ---- where the entries of a block stand among all

pub start_next : (groups : List (List Item)) (index : ℕ) → index < length groups → start_of groups (index + 1) ≡ start_of groups index + length (get_or groups index [])
start_next groups index lt =
    ap (λ (l : List (List Item)). length (joined l)) (take_more groups index [] lt) ∙ ap (λ (l : List Item). length l) (joined_push (take index groups) (get_or groups index []))
    ∙ length-append (joined (take index groups)) (get_or groups index [])

pub start_end : (groups : List (List Item)) → start_of groups (length groups) ≡ length (joined groups)
start_end groups = ap (λ (l : List (List Item)). length (joined l)) (take_all (length groups) groups (omega arith))

pub item_at : (groups : List (List Item)) (group index : ℕ) (d : Item) → group < length groups → index < length (get_or groups group []) → get_or (joined groups) (start_of groups group + index) d ≡ get_or (get_or groups group []) index d
item_at [] group index d lt within = absurd (omega (arith, lt))
item_at (first ∷ others) zero index d lt within = ap (λ (n : ℕ). get_or (first ++ joined others) n d) (omega arith) ∙ get_or_append_left first (joined others) d index within
item_at (first ∷ others) (suc group) index d lt within =
    ap (λ (n : ℕ). get_or (first ++ joined others) n d) (omega (arith, length-append first (joined (take group others))))
    ∙ get_or-append-add first (joined others) (start_of others group + index) d ∙ item_at others group index d (omega (arith, lt)) within

pub item_within : (groups : List (List Item)) (group index : ℕ) → group < length groups → index < length (get_or groups group []) → start_of groups group + index < length (joined groups)
item_within [] group index lt within = absurd (omega (arith, lt))
item_within (first ∷ others) zero index lt within = omega (arith, within, length-append first (joined others))
item_within (first ∷ others) (suc group) index lt within =
    omega (arith, length-append first (joined others), length-append first (joined (take group others)), item_within others group index (omega (arith, lt)) within)

-- ---- entries that begin with their terms

pub record IsItem (item : Item) : Type 0 where
  pub rest : Bytes
  pub is : item.bytes ≡ encoded term item.term ++ rest
  pub fits : Fits term item.term
  pub small : length item.bytes ≤ 1200

-- each of these entries has P
abbrev pub Every : (Item → Type 0) → List Item → Type 0
Every P [] = Unit {0}
Every P (item ∷ others) = P item × Every P others

abbrev pub AreItems : List Item → Type 0
AreItems items = Every IsItem items

pub are_small : (items : List Item) → AreItems items → AreSmall items
are_small [] are = tt
are_small (item ∷ others) are = (are.0.small, are_small others are.1)

pub items_are : (entries : List TermEntry) → HaveBytes entries → AreItems (items_of entries)
items_are [] fit = tt
items_are (entry ∷ others) fit = (record { rest = encoded postings (entry.list, entry.inline); is = refl; fits = fit.0.0.0; small = entry_small entry fit.0 }, items_are others fit.1)

pub pointers_are : (at : ℕ) (terms : List Bytes) → AreShort terms → AreItems (pointers_to at terms)
pointers_are at [] short = tt
pointers_are at (t ∷ others) short =
    (record { rest = to_be_bytes w64 at; is = refl; fits = short_term t (short 0); small = pointer_small t at (short 0) }, pointers_are (at + 4096) others (λ k. short (suc k)))

front_every : (P : Item → Type 0) (front back : List Item) → Every P (front ++ back) → Every P front
front_every P [] back are = tt
front_every P (item ∷ others) back are = (are.0, front_every P others back are.1)

back_every : (P : Item → Type 0) (front back : List Item) → Every P (front ++ back) → Every P back
back_every P [] back are = are
back_every P (item ∷ others) back are = back_every P others back are.1

pub group_every : (P : Item → Type 0) (groups : List (List Item)) (index : ℕ) → Every P (joined groups) → Every P (get_or groups index [])
group_every P [] index are = tt
group_every P (first ∷ others) zero are = front_every P first (joined others) are
group_every P (first ∷ others) (suc index) are = group_every P others index (back_every P first (joined others) are)

pub block_every : (P : Item → Type 0) (items : List Item) (index : ℕ) → Every P items → Every P (get_or (blocks items) index [])
block_every P items index are = group_every P (blocks items) index (subst (λ (l : List Item). Every P l) (sym (joined_blocks items)) are)

pub every_at : (P : Item → Type 0) (items : List Item) (index : ℕ) (d : Item) → Every P items → index < length items → P (get_or items index d)
every_at P [] index d are lt = absurd (omega (arith, lt))
every_at P (item ∷ others) zero d are lt = are.0
every_at P (item ∷ others) (suc index) d are lt = every_at P others index d are.1 (omega (arith, lt))

-- ---- least terms

pub least_at : (groups : List (List Item)) (index : ℕ) → get_or (map first_term groups) index [] ≡ first_term (get_or groups index [])
least_at [] index = refl
least_at (first ∷ others) zero = refl
least_at (first ∷ others) (suc index) = least_at others index

pub least_first : (group : List Item) (d : Item) → 0 < length group → first_term group ≡ (get_or group 0 d).term
least_first [] d some = absurd (omega (arith, some))
least_first (item ∷ others) d some = refl

least_short : (group : List Item) → AreItems group → length (first_term group) ≤ 1024
least_short [] are = omega arith
least_short (item ∷ others) are = term_short item.term are.0.fits

pub leasts_short : (items : List Item) → AreItems items → AreShort (first_terms items)
leasts_short items are k =
    subst (λ (l : Bytes). length l ≤ 1024) (sym (least_at (blocks items) k))
    (least_short (get_or (blocks items) k []) (block_every IsItem items k are))

abbrev pub terms_in : List Item → List Bytes
terms_in items = map (λ (i : Item). i.term) items

pub term_at : (items : List Item) (index : ℕ) (d : Item) → index < length items → get_or (terms_in items) index [] ≡ (get_or items index d).term
term_at [] index d lt = absurd (omega (arith, lt))
term_at (item ∷ others) zero d lt = refl
term_at (item ∷ others) (suc index) d lt = term_at others index d (omega (arith, lt))

pub pointer_terms : (at : ℕ) (terms : List Bytes) → terms_in (pointers_to at terms) ≡ terms
pointer_terms at [] = refl
pointer_terms at (t ∷ others) = ap (λ (l : List Bytes). t ∷ l) (pointer_terms (at + 4096) others)

-- the first term of a block is that of the entry where it starts
pub least_is : (groups : List (List Item)) (index : ℕ) → AreBlocks groups → index < length groups → first_term (get_or groups index []) ≡ get_or (terms_in (joined groups)) (start_of groups index) []
least_is groups index are lt =
    let d : Item = record { term = []; bytes = [] } in
    let some = (is_block groups index are lt).some in
    let within = item_within groups index 0 lt some in
    least_first (get_or groups index []) d some ∙ ap (λ (i : Item). i.term) (sym (item_at groups index 0 d lt some))
    ∙ sym (term_at (joined groups) (start_of groups index + 0) d within) ∙ ap (λ (n : ℕ). get_or (terms_in (joined groups)) n []) (omega arith)

pub leasts_rise : (items : List Item) → AreItems items → IsRising (terms_in items) → IsRising (first_terms items)
leasts_rise items are rising index lt =
    let groups = blocks items in
    let blocks_are = all_blocks items (are_small items are) in
    let count = length-map groups first_term in
    let this : index < length groups = omega (arith, lt, count) in
    let next : index + 1 < length groups = omega (arith, lt, count) in
    let same = joined_blocks items in
    let some = (is_block groups index blocks_are this).some in
    let after = (is_block groups (index + 1) blocks_are next).some in
    let here : get_or (first_terms items) index [] ≡ get_or (terms_in items) (start_of groups index) [] =
    least_at groups index ∙ least_is groups index blocks_are this ∙ ap (λ (l : List Item). get_or (terms_in l) (start_of groups index) []) same in
    let there : get_or (first_terms items) (index + 1) [] ≡ get_or (terms_in items) (start_of groups (index + 1)) [] =
    least_at groups (index + 1) ∙ least_is groups (index + 1) blocks_are next ∙ ap (λ (l : List Item). get_or (terms_in l) (start_of groups (index + 1)) []) same in
    let within : start_of groups (index + 1) < length (terms_in items) =
    omega (arith, item_within groups (index + 1) 0 next after, ap (λ (l : List Item). length l) same, length-map items (λ (i : Item). i.term)) in
    let rises = rises_to (terms_in items) rising (start_of groups index) (start_of groups (index + 1)) (omega (arith, start_next groups index this, some)) within in
    ap (λ (l : Bytes). is_below l (get_or (first_terms items) (index + 1) [])) here ∙ ap (λ (l : Bytes). is_below (get_or (terms_in items) (start_of groups index) []) l) there ∙ rises
