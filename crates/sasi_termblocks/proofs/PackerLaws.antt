-- What a packer has after each step.
use Rattle.std.proofs.Common.{◌≡◌, ℕ, ◌+◌, ◌-◌, ◌*◌, ◌<◌, ◌≤◌, List, [], ◌∷◌, ◌++◌, length, map, take, drop, refl, sym, ap, ◌∙◌, subst, arith, append_assoc, length-append, ⊎_elim}
use Rattle.std.proofs.lemmas.Bool.{le-leb, lt-leb}
use Rattle.std.proofs.lemmas.Bool.Decides.{leb_tells}
use Rattle.std.proofs.lemmas.List.{length_push, length-map, map_push, get_or_push, get_or_append_left, get_or_past, drop-replicate, take-replicate, length-replicate}
use Rattle.std.specs.List.{flat_map}
use Rattle.std.specs.Int.{to_be_bytes, w16}
use Rattle.std.specs.Prelude.{replicate, slice_index}
use Rattle.sasi_host.specs.Names.{Bytes}
use Rattle.sasi_termblocks.specs.declared.packer.Packer.{Packer}
use Rattle.sasi_termblocks.specs.Blocks.{Item, Cut, add, block, blocks, cut_of, entries_bytes, first_term, first_terms, offsets, size, with_last, with_room}
use Rattle.sasi_termblocks.specs.Writing.{AreShort, IsLevel, Packs, first_terms_with}
use Rattle.sasi_termblocks.proofs.CutLaws.{flat_push, offsets_behind, offsets_length, offsets_push, room_kept, room_made}

-- the parts of a block, one after another
pub block_put : (items : List Item) (starts : List ℕ) (entries o p q r s zeros : Bytes) → p ≡ o ++ to_be_bytes w16 (length starts)
    → q ≡ p ++ flat_map (λ (n : ℕ). to_be_bytes w16 (2 + 2 * length starts + n)) starts → r ≡ q ++ entries → s ≡ r ++ zeros
    → starts ≡ offsets 0 items → entries ≡ entries_bytes items → zeros ≡ replicate (4096 - size items) 0 → s ≡ o ++ block items
unfolding block
block_put items starts entries o p q r s zeros h1 h2 h3 h4 starts_are entries_are zeros_are =
    let long : length starts ≡ length items = ap (λ (l : List ℕ). length l) starts_are ∙ offsets_length 0 items in
    let table : flat_map (λ (n : ℕ). to_be_bytes w16 (2 + 2 * length starts + n)) starts ≡ flat_map (to_be_bytes w16) (offsets (2 + 2 * length items) items) =
    ap (λ (l : List ℕ). flat_map (λ (n : ℕ). to_be_bytes w16 (2 + 2 * length starts + n)) l) starts_are ∙ offsets_behind (2 + 2 * length starts) 0 items
    ∙ ap (λ (k : ℕ). flat_map (to_be_bytes w16) (offsets k items)) (omega (arith, long)) in
    rw (h4, h3, h2, h1, table, entries_are, zeros_are, long) (simp append_assoc)

-- the zeros at its end
pub zeros_left : (items : List Item) (starts : List ℕ) (entries : Bytes) → starts ≡ offsets 0 items → entries ≡ entries_bytes items
    → take {A = ℕ} (4096 - (2 + 2 * length starts + length entries)) (drop (2 + 2 * length starts + length entries) (replicate 4096 0)) ≡ replicate (4096 - size items) 0
zeros_left items starts entries starts_are entries_are =
    let long : length starts ≡ length items = ap (λ (l : List ℕ). length l) starts_are ∙ offsets_length 0 items in
    let m = 2 + 2 * length starts + length entries in
    ap (λ (l : Bytes). take (4096 - m) l) (drop-replicate m 4096 0) ∙ take-replicate (4096 - m) (4096 - m) 0 (omega arith)
    ∙ ap (λ (n : ℕ). replicate n 0) (omega (arith, long, ap (λ (l : Bytes). length l) entries_are))

table_of : (f : ℕ → ℕ) (numbers : List ℕ) → length (flat_map (λ (n : ℕ). to_be_bytes w16 (f n)) numbers) ≡ 2 * length numbers
table_of f [] = refl
table_of f (first ∷ others) = omega (arith, length-append (to_be_bytes w16 (f first)) (flat_map (λ (n : ℕ). to_be_bytes w16 (f n)) others), table_of f others)

-- how long they are
pub block_grown : (starts : List ℕ) (entries o p q r s zeros : Bytes) → p ≡ o ++ to_be_bytes w16 (length starts) → q ≡ p ++ flat_map (λ (n : ℕ). to_be_bytes w16 (2 + 2 * length starts + n)) starts
    → r ≡ q ++ entries → s ≡ r ++ zeros → 2 + 2 * length starts + length entries + length zeros ≡ 4096 → length s ≡ length o + 4096
block_grown starts entries o p q r s zeros h1 h2 h3 h4 whole =
    let table = flat_map (λ (n : ℕ). to_be_bytes w16 (2 + 2 * length starts + n)) starts in
    omega (
      arith,
      whole,
      ap (λ (l : Bytes). length l) h1,
      ap (λ (l : Bytes). length l) h2,
      ap (λ (l : Bytes). length l) h3,
      ap (λ (l : Bytes). length l) h4,
      length-append o (to_be_bytes w16 (length starts)),
      length-append p table,
      length-append q entries,
      length-append r zeros,
      table_of (λ (n : ℕ). 2 + 2 * length starts + n) starts,
    )

pub zeros_length : (m : ℕ) → m ≤ 4096 → length (take {A = ℕ} (4096 - m) (drop m (replicate 4096 0))) ≡ 4096 - m
zeros_length m le =
    ap (λ (l : Bytes). length (take (4096 - m) l)) (drop-replicate m 4096 0) ∙ ap (λ (l : Bytes). length l) (take-replicate {X = ℕ} (4096 - m) (4096 - m) 0 (omega arith)) ∙ length-replicate {A = ℕ} (4096 - m) 0

-- ---- one entry more

pub short_push : (terms : List Bytes) (term : Bytes) → AreShort terms → length term ≤ 1024 → AreShort (terms ++ term ∷ [])
short_push terms term short le k = ⊎_elim
    (λ past. ⊎_elim
    (λ beyond. subst (λ (l : Bytes). length l ≤ 1024) (sym (get_or_past (terms ++ term ∷ []) k [] (omega (arith, beyond.1, length_push terms term)))) (omega arith))
    (λ here. subst (λ (l : Bytes). length l ≤ 1024) (sym (get_or_push terms term [] k (omega (arith, past.1, here.1)))) le)
    (leb_tells (length terms + 1) k))
    (λ within. subst (λ (l : Bytes). length l ≤ 1024) (sym (get_or_append_left terms (term ∷ []) [] k within.1)) (short k))
    (leb_tells (length terms) k)

pub starts_push : (starts : List ℕ) (start : ℕ) → ((k : ℕ) → slice_index starts k ≤ 4096) → start ≤ 4096 → (k : ℕ) → slice_index (starts ++ start ∷ []) k ≤ 4096
starts_push starts start each le k = ⊎_elim
    (λ past. ⊎_elim
    (λ beyond. subst (λ (n : ℕ). n ≤ 4096) (sym (get_or_past (starts ++ start ∷ []) k 0 (omega (arith, beyond.1, length_push starts start)))) (omega arith))
    (λ here. subst (λ (n : ℕ). n ≤ 4096) (sym (get_or_push starts start 0 k (omega (arith, past.1, here.1)))) le)
    (leb_tells (length starts + 1) k))
    (λ within. subst (λ (n : ℕ). n ≤ 4096) (sym (get_or_append_left starts (start ∷ []) 0 k within.1)) (each k))
    (leb_tells (length starts) k)

-- the first terms of blocks, with an entry more in the last one
leasts_added : (full : List (List Item)) (last : List Item) (terms : List Bytes) (bytes : ℕ) (item : Item) → bytes ≡ 4096 * length full → terms ≡ map first_term (with_last full last)
    → first_terms_with bytes terms item.term ≡ map first_term (with_last full (last ++ item ∷ []))
leasts_added full [] terms bytes item is terms_are =
    let le : 4096 * length terms ≤ bytes = omega (arith, is, ap (λ (l : List Bytes). length l) terms_are, length-map full first_term) in
    rw (le-leb (4096 * length terms) bytes le) (ap (λ (l : List Bytes). l ++ item.term ∷ []) terms_are ∙ sym (map_push first_term full (item ∷ [])))
leasts_added full (first ∷ others) terms bytes item is terms_are =
    let lt : bytes < 4096 * length terms =
    omega (arith, is, ap (λ (l : List Bytes). length l) terms_are, length-map (full ++ (first ∷ others) ∷ []) first_term, length_push full (first ∷ others)) in
    rw (lt-leb (4096 * length terms) bytes lt) (terms_are ∙ map_push first_term full (first ∷ others) ∙ sym (map_push first_term full (first ∷ (others ++ item ∷ []))))

pub packs_added : (mid now : Packer) (cut : Cut) (item : Item) (full start : ℕ) → Packs mid (with_room (length item.bytes) cut) → now.full.items ≡ mid.full.items
    → now.first_terms.items ≡ first_terms_with full mid.first_terms.items item.term → now.starts.items ≡ mid.starts.items ++ start ∷ [] → full ≡ length mid.full.items → start ≡ length mid.entries.items
    → now.entries.items ≡ mid.entries.items ++ item.bytes → Packs now (add cut item)
packs_added mid now cut item full start packs same first_terms starts full_is start_is entries =
    let room = with_room (length item.bytes) cut in
    record {
      full_is = same ∙ packs.full_is;
      whole = ap (λ (l : Bytes). length l) same ∙ packs.whole;
      starts_are = starts ∙ ap (λ (l : List ℕ). l ++ start ∷ []) packs.starts_are
          ∙ ap (λ (n : ℕ). offsets 0 room.last ++ n ∷ []) (omega (arith, start_is, ap (λ (l : Bytes). length l) packs.entries_are))
          ∙ sym (offsets_push 0 room.last item);
      entries_are = entries ∙ ap (λ (l : Bytes). l ++ item.bytes) packs.entries_are ∙ sym (flat_push (λ (i : Item). i.bytes) room.last item);
      first_terms_are = first_terms ∙ leasts_added room.full room.last mid.first_terms.items full item (full_is ∙ packs.whole) packs.first_terms_are;
    }

-- room for it: as it was
pub packs_kept : (packer : Packer) (cut : Cut) (bytes : ℕ) → Packs packer cut → 2 + (2 * length packer.starts.items + length packer.entries.items) + (2 + bytes) ≤ 4096 → Packs packer (with_room bytes cut)
packs_kept packer cut bytes packs le =
    subst (λ (c : Cut). Packs packer c)
    (sym (room_kept bytes cut (omega (arith, le, ap (λ (l : List ℕ). length l) packs.starts_are, offsets_length 0 cut.last, ap (λ (l : Bytes). length l) packs.entries_are)))) packs

-- or a new block
pub packs_made : (was now : Packer) (cut : Cut) (bytes : ℕ) → bytes ≤ 1200 → Packs was cut → 4096 < 2 + (2 * length was.starts.items + length was.entries.items) + (2 + bytes)
    → ((cut : Cut) (first : Item) (others : List Item) → cut.last ≡ first ∷ others → Packs was cut → Packs now (record { full = cut.full ++ cut.last ∷ []; last = [] }))
    → Packs now (with_room bytes cut)
packs_made was now cut bytes small packs lt closes =
    subst (λ (c : Cut). Packs now c)
    (sym (room_made bytes cut (omega (arith, lt, ap (λ (l : List ℕ). length l) packs.starts_are, offsets_length 0 cut.last, ap (λ (l : Bytes). length l) packs.entries_are))))
    (by_last cut.last refl)
  where
    by_last : (last : List Item) → cut.last ≡ last → Packs now (record { full = cut.full ++ cut.last ∷ []; last = [] })
    by_last [] is =
        absurd
        (omega (
          arith,
          lt,
          small,
          ap (λ (l : List ℕ). length l) packs.starts_are,
          offsets_length 0 cut.last,
          ap (λ (l : Bytes). length l) packs.entries_are,
          ap (λ (l : List Item). length l) is,
          ap (λ (l : List Item). length (entries_bytes l)) is,
        ))
    by_last (first ∷ others) is = closes cut first others is packs

-- closing the last block
pub packs_closed : (was now : Packer) (cut : Cut) (first : Item) (others : List Item) → cut.last ≡ first ∷ others → Packs was cut
    → ((items : List Item) → was.starts.items ≡ offsets 0 items → was.entries.items ≡ entries_bytes items → now.full.items ≡ was.full.items ++ block items)
    → length now.full.items ≡ length was.full.items + 4096
    → now.starts.items ≡ [] → now.entries.items ≡ [] → now.first_terms.items ≡ was.first_terms.items → Packs now (record { full = cut.full ++ cut.last ∷ []; last = [] })
packs_closed was now cut first others last_is packs put long starts entries terms = record {
  full_is = put cut.last packs.starts_are packs.entries_are ∙ ap (λ (l : Bytes). l ++ block cut.last) packs.full_is ∙ sym (flat_push block cut.full cut.last);
  whole = omega (arith, long, packs.whole, length_push cut.full cut.last);
  starts_are = starts;
  entries_are = entries;
  first_terms_are = terms ∙ packs.first_terms_are ∙ ap (λ (l : List Item). map first_term (with_last cut.full l)) last_is ∙ ap (λ (l : List Item). map first_term (cut.full ++ l ∷ [])) (sym last_is);
}

-- ---- a whole level

-- the packer has these blocks, all closed
abbrev Has : Packer → List (List Item) → Type 0
Has packer groups = (packer.full.items ≡ flat_map block groups) × (packer.first_terms.items ≡ map first_term groups) × (length packer.full.items ≡ 4096 * length packer.first_terms.items)

level_of : (packer : Packer) (items : List Item) → Has packer (blocks items) → IsLevel packer.full.items packer.first_terms.items items
level_of packer items has = record { bytes_are = has.0; terms_are = has.1; whole = has.2 }

all_closed : (packer : Packer) (full : List (List Item)) → Packs packer (record { full = full; last = [] }) → Has packer full
all_closed packer full packs =
    (packs.full_is, packs.first_terms_are, packs.whole ∙ omega (arith, ap (λ (l : List Bytes). length l) packs.first_terms_are, length-map full first_term))

-- where no block is open
pub level_kept : (packer : Packer) (items : List Item) → length packer.starts.items ≡ 0 → Packs packer (cut_of items) → IsLevel packer.full.items packer.first_terms.items items
level_kept packer items none packs = level_of packer items (from (cut_of items).full (cut_of items).last packs)
  where
    from : (full : List (List Item)) (last : List Item) → Packs packer (record { full = full; last = last }) → Has packer (with_last full last)
    from full [] packs = all_closed packer full packs
    from full (first ∷ others) packs = absurd (omega (arith, none, ap (λ (l : List ℕ). length l) packs.starts_are))

-- and where one was closed
pub level_closed : (was now : Packer) (items : List Item) → 0 < length was.starts.items → Packs was (cut_of items)
    → ((cut : Cut) (first : Item) (others : List Item) → cut.last ≡ first ∷ others → Packs was cut → Packs now (record { full = cut.full ++ cut.last ∷ []; last = [] }))
    → IsLevel now.full.items now.first_terms.items items
level_closed was now items some packs closes = level_of now items (from (cut_of items).full (cut_of items).last packs)
  where
    from : (full : List (List Item)) (last : List Item) → Packs was (record { full = full; last = last }) → Has now (with_last full last)
    from full [] packs = absurd (omega (arith, some, ap (λ (l : List ℕ). length l) packs.starts_are))
    from full (first ∷ others) packs = all_closed now (full ++ (first ∷ others) ∷ []) (closes (record { full = full; last = first ∷ others }) first others refl packs)

-- a packer without blocks
pub no_blocks : (packer : Packer) → packer.full.items ≡ [] → packer.starts.items ≡ [] → packer.entries.items ≡ [] → packer.first_terms.items ≡ [] → Packs packer (cut_of [])
unfolding cut_of
no_blocks packer full starts entries terms = record { full_is = full; whole = ap (λ (l : Bytes). length l) full; starts_are = starts; entries_are = entries; first_terms_are = terms }
