-- From a block to the one below it, and what a block in a file is.
use Rattle.std.proofs.Common.{◌≡◌, ℕ, suc, ◌+◌, ◌-◌, ◌*◌, ◌/◌, ◌%◌, ◌^◌, ◌<◌, ◌≤◌, true, List, [], ◌∷◌, length, refl, sym, ap, ◌∙◌, subst, arith, rules}
use Rattle.std.proofs.lemmas.List.{length-map}
use Rattle.std.specs.Prelude.{get_or, ◌==◌, nat_le, nat_lt, ◌&&◌}
use Rattle.std.specs.Int.{w64}
use Rattle.sasi_host.specs.Names.{Bytes}
use Rattle.sasi_host.specs.Damages.{HasAt}
use Rattle.sasi_host.proofs.Offsets.{at_ends}
use Rattle.sasi_formats.specs.Reader.{start}
use Rattle.sasi_formats.specs.Formats.{Fits}
use Rattle.sasi_formats.specs.Codings.{when_is}
use Rattle.sasi_formats.proofs.Agreement.{reads_exactly}
use Rattle.sasi_formats.proofs.Fitting.{both_true, number_fits}
use Rattle.sasi_termblocks.specs.declared.block_ref.BlockRef.{BlockRef}
use Rattle.sasi_termblocks.specs.declared.term_entry.TermEntry.{TermEntry}
use Rattle.sasi_termblocks.specs.Entries.{pointer, term}
use Rattle.sasi_termblocks.specs.Blocks.{Item, above, block, blocks, first_term, first_terms, items_of, pointer_item}
use Rattle.sasi_termblocks.specs.Windows.{HasEntry, IsBound, bytes_in, count_in}
use Rattle.sasi_termblocks.specs.BlockFaults.{PointsTo}
use Rattle.sasi_termblocks.specs.Descents.{IsFor, IsPageFor, is_page_offset, level_at, level_items, pointer_to}
use Rattle.sasi_termblocks.specs.Scans.{HasBlocks, IsRising, start_of, terms_of}
use Rattle.sasi_termblocks.proofs.CutLaws.{all_blocks}
use Rattle.sasi_termblocks.proofs.LevelLaws.{pointer_at, pointers_length}
use Rattle.sasi_termblocks.proofs.BlockLaws.{count_is, one_entry}
use Rattle.sasi_termblocks.proofs.Groups.{AreItems, IsItem, are_small, block_every, every_at, is_block, item_at, item_within, items_are, joined, joined_blocks, terms_in}
use Rattle.sasi_termblocks.proofs.Levels.{block_below, items_up, level_are, level_block, level_rise}
use Rattle.sasi_termblocks.proofs.Found.{block_is, bound_splits, value_begins}

-- ---- pointers

pub pointer_kept : (low high : ℕ) (bytes : Bytes) (index : ℕ) (t : Bytes) (place : ℕ) → HasEntry (pointer_to low high) bytes index (t, place) → HasEntry pointer bytes index (t, place) × (is_page_offset low high place ≡ true)
pointer_kept low high bytes index t place has =
    let s = start (bytes_in bytes index) in
    let next = (reads_exactly (pointer_to low high) s has.0 (t, place)).0 has.1 in (
      (
        has.0,
        (reads_exactly pointer s has.0 (t, place)).1 (record {
          field = next.field;
          is = record { front = next.is.front; behind = next.is.behind; whole = next.is.whole; starts = next.is.starts; ends = next.is.ends.is };
          passes = next.passes;
        }),
      ),
      (when_is (is_page_offset low high place) place place next.is.ends.is_value).0,
    )

-- what the offset of a page is
pub record IsPageIn (low high place : ℕ) : Type 0 where
  pub aligned : place % 4096 ≡ 0
  pub above : low ≤ place / 4096
  pub below : place / 4096 < high

pub page_is_in : (low high place : ℕ) → is_page_offset low high place ≡ true → IsPageIn low high place
page_is_in low high place is =
    let first = both_true (place % 4096 == 0) (nat_le low (place / 4096) && nat_lt (place / 4096) high) is in
    let second = both_true (nat_le low (place / 4096)) (nat_lt (place / 4096) high) first.1 in
    record { aligned = search (rules, first.0); above = search (rules, second.0); below = search (rules, second.1) }

-- ---- the file's levels

pub all_items : (bytes : Bytes) (r : BlockRef) (entries : List TermEntry) → HasBlocks bytes r entries → AreItems (items_of entries)
all_items bytes r entries has = items_are entries has.fit

pub all_rise : (bytes : Bytes) (r : BlockRef) (entries : List TermEntry) → HasBlocks bytes r entries → IsRising (terms_in (items_of entries))
all_rise bytes r entries has = subst (λ (l : List Bytes). IsRising l) (terms_same entries) has.rising
  where
    terms_same : (l : List TermEntry) → terms_of l ≡ terms_in (items_of l)
    terms_same [] = refl
    terms_same (e ∷ others) = ap (λ (rest : List Bytes). e.term ∷ rest) (terms_same others)

-- the block of a group stands on its page
pub page_block : (bytes window : Bytes) (r : BlockRef) (entries : List TermEntry) (level group page : ℕ) → HasBlocks bytes r entries → level ≤ r.levels → group < length (blocks (level_items level r.first (items_of entries)))
    → 4096 * page ≡ level_at level r.first (items_of entries) + 4096 * group → HasAt bytes (4096 * page) window → length window ≡ 4096
    → window ≡ block (get_or (blocks (level_items level r.first (items_of entries))) group [])
page_block bytes window r entries level group page has le lt is stands long =
    let items = items_of entries in
    let are = all_items bytes r entries has in
    let here = level_items level r.first items in
    let fits = (is_block (blocks here) group (all_blocks here (are_small here (level_are level r.first items are))) lt).fits in
    block_is bytes window (4096 * page) (level_at level r.first items + 4096 * group) (get_or (blocks here) group []) fits
    (level_block level r.levels r.first items bytes group le are has.stands lt) is stands long

-- the pointer at an index of a pointer block
pub pointer_is : (bytes : Bytes) (r : BlockRef) (entries : List TermEntry) (level group index : ℕ) (t : Bytes) (place : ℕ) → HasBlocks bytes r entries → level ≤ r.levels
    → group < length (blocks (above (level_at level r.first (items_of entries)) (level_items level r.first (items_of entries))))
    → index < length (get_or (blocks (above (level_at level r.first (items_of entries)) (level_items level r.first (items_of entries)))) group [])
    → HasEntry pointer (block (get_or (blocks (above (level_at level r.first (items_of entries)) (level_items level r.first (items_of entries)))) group [])) index (t, place)
    → place ≡ level_at level r.first (items_of entries) + 4096 * (start_of (blocks (above (level_at level r.first (items_of entries)) (level_items level r.first (items_of entries)))) group + index)
pointer_is bytes r entries level group index t place has le lt within entry =
    let items = items_of entries in
    let are = all_items bytes r entries has in
    let here = level_items level r.first items in
    let at = level_at level r.first items in
    let here_are = level_are level r.first items are in
    let up = above at here in
    let up_are : AreItems up = subst (λ (l : List Item). AreItems l) (items_up level r.first items) (level_are (suc level) r.first items are) in
    let groups = blocks up in
    let group_here = get_or groups group [] in
    let d : Item = record { term = []; bytes = [] } in
    let fits = (is_block groups group (all_blocks up (are_small up up_are)) lt).fits in
    let n = start_of groups group + index in
    let inside = item_within groups group index lt within in
    let count : length (first_terms here) ≡ length (joined groups) = sym (pointers_length at (first_terms here)) ∙ sym (ap (λ (l : List Item). length l) (joined_blocks up)) in
    let least_n = get_or (first_terms here) n [] in
    let offset_n = at + 4096 * n in
    let item_is : get_or group_here index d ≡ pointer_item least_n offset_n =
    sym (item_at groups group index d lt within) ∙ ap (λ (l : List Item). get_or l n d) (joined_blocks up) ∙ pointer_at at (first_terms here) n d (omega (arith, inside, count)) in
    let own = every_at IsItem group_here index d (block_every IsItem up group up_are) within in
    let term_fits : Fits term least_n = subst (λ (i : Item). Fits term i.term) item_is own.fits in
    let stands = level_block level r.levels r.first items bytes n le are has.stands (omega (arith, inside, count, length-map (blocks here) first_term)) in
    let short : offset_n < 2 ^ 64 = omega (arith, at_ends bytes offset_n (block (get_or (blocks here) n [])) stands, has.short) in
    let mine = value_begins pointer group_here index d (least_n, offset_n) fits within (ap (λ (i : Item). i.bytes) item_is) (term_fits, number_fits w64 offset_n short) in
    ap (λ (p : Bytes × ℕ). p.1) (one_entry pointer (block group_here) index (t, place) (least_n, offset_n) entry mine)

-- the page of the block below
pub child_for : (bytes window : Bytes) (r : BlockRef) (entries : List TermEntry) (level page below place low high : ℕ) (sought : Bytes) → HasBlocks bytes r entries → level + 1 ≤ r.levels
    → IsPageFor r.first entries (level + 1) sought page → HasAt bytes (4096 * page) window → length window ≡ 4096 → IsBound window (count_in window) sought below → PointsTo low high window (below - 1) place
    → IsPageFor r.first entries level sought (place / 4096)
child_for bytes window r entries level page below place low high sought has le page_for stands long bound entry =
    let items = items_of entries in
    let are = all_items bytes r entries has in
    let rising = all_rise bytes r entries has in
    let here = level_items level r.first items in
    let at = level_at level r.first items in
    let here_are = level_are level r.first items are in
    let here_rise = level_rise level r.first items are rising in
    let up = above at here in
    let more : level + 1 ≡ suc level = omega arith in
    let same : level_items (level + 1) r.first items ≡ up = ap (λ (n : ℕ). level_items n r.first items) more ∙ items_up level r.first items in
    let group = page_for.group in
    let is_for : IsFor (blocks up) sought group = subst (λ (l : List Item). IsFor (blocks l) sought group) same page_for.is_for in
    let up_are : AreItems up = subst (λ (l : List Item). AreItems l) (items_up level r.first items) (level_are (suc level) r.first items are) in
    let group_here = get_or (blocks up) group [] in
    let is_one = is_block (blocks up) group (all_blocks up (are_small up up_are)) is_for.within in
    let window_is : window ≡ block group_here =
    page_block bytes window r entries (level + 1) group page has le (omega (arith, page_for.is_for.within)) page_for.page_is stands long
    ∙ ap (λ (l : List Item). block (get_or (blocks l) group [])) same in
    let bound_here : IsBound (block group_here) (count_in (block group_here)) sought below = subst (λ (w : Bytes). IsBound w (count_in w) sought below) window_is bound in
    let split = bound_splits group_here sought (count_in (block group_here)) below (block_every IsItem up group up_are) is_one.fits (count_is group_here is_one.fits) bound_here in
    let kept = pointer_kept low high window (below - 1) entry.0 place entry.1 in
    let index_in : below - 1 < length group_here = omega (arith, split.within, is_one.some) in
    let place_is = pointer_is bytes r entries level group (below - 1) entry.0 place has (omega (arith, le)) is_for.within index_in
    (subst (λ (w : Bytes). HasEntry pointer w (below - 1) (entry.0, place)) window_is kept.0) in
    record {
      group = start_of (blocks up) group + (below - 1);
      page_is = omega (arith, place_is, (page_is_in low high place kept.1).aligned);
      is_for = block_below at here sought group below here_are here_rise is_for split;
    }
