-- What a scan gives, step by step.
use Rattle.std.proofs.Common.{◌≡◌, ℕ, zero, suc, ◌+◌, ◌-◌, ◌*◌, ◌/◌, ◌<◌, ◌≤◌, List, [], ◌∷◌, length, drop, Option, None, Some, refl, sym, ap, ◌∙◌, subst, arith}
use Rattle.std.proofs.lemmas.List.{drop_all, drop_more, get_or-map, length-map, nil_from_length}
use Rattle.std.specs.Prelude.{get_or, nat_lt, if◌then◌else◌}
use Rattle.sasi_host.specs.Names.{Bytes}
use Rattle.sasi_host.specs.declared.name.FileName.{FileName}
use Rattle.sasi_host.specs.Damages.{HasAt}
use Rattle.sasi_host.specs.View.{View, contents}
use Rattle.sasi_formats.specs.Formats.{Fits}
use Rattle.sasi_termblocks.specs.declared.block_ref.BlockRef.{BlockRef}
use Rattle.sasi_termblocks.specs.declared.term_entry.TermEntry.{TermEntry}
use Rattle.sasi_termblocks.specs.Entries.{term_entry}
use Rattle.sasi_termblocks.specs.Blocks.{Item, block, blocks, items_of, term_item}
use Rattle.sasi_termblocks.specs.Windows.{HasEntry, IsBound, count_in}
use Rattle.sasi_termblocks.specs.BlockFaults.{PointsTo}
use Rattle.sasi_termblocks.specs.Damages.{Leads}
use Rattle.sasi_termblocks.specs.Damages.Leads.{down}
use Rattle.sasi_termblocks.specs.Descents.{IsPageFor}
use Rattle.sasi_termblocks.specs.Scans.{CountsBelow, GivesEntry, HasBlocks, HasPassed, HaveBytes, ReadsHere, ReadsSome, StepsTo, start_of, terms_of}
use Rattle.sasi_termblocks.specs.Scans.IsAt.{at_entry, at_end}
use Rattle.sasi_termblocks.proofs.CutLaws.{all_blocks}
use Rattle.sasi_termblocks.proofs.BlockLaws.{count_is, one_entry}
use Rattle.sasi_termblocks.proofs.Groups.{IsItem, are_small, block_every, is_block, item_at, item_within, joined_blocks, start_end, terms_in}
use Rattle.sasi_termblocks.proofs.Levels.{all_below}
use Rattle.sasi_termblocks.proofs.Found.{bound_splits, split_at, steps, value_begins}
use Rattle.sasi_termblocks.proofs.Children.{all_items, all_rise, page_block, pointer_kept}

-- the pointers lead on
pub leads_on : (bytes window : Bytes) (r : BlockRef) (level page low high index place : ℕ) → 0 < level → Leads bytes r level page → HasAt bytes (4096 * page) window → length window ≡ 4096 → index < count_in window
    → PointsTo low high window index place → Leads bytes r (level - 1) (place / 4096)
leads_on bytes window r level page low high index place some leads stands long lt has =
    let up : level ≡ level - 1 + 1 = omega (arith, some) in
    down (level - 1) (place / 4096) page index window has.0 place (subst (λ (n : ℕ). Leads bytes r n page) up leads) stands long lt (pointer_kept low high window index has.0 place has.1).0 refl

pub terms_same : (l : List TermEntry) → terms_in (items_of l) ≡ terms_of l
terms_same [] = refl
terms_same (e ∷ others) = ap (λ (rest : List Bytes). e.term ∷ rest) (terms_same others)

-- the position of the first entry at or above a term
pub position_is : (bytes window : Bytes) (r : BlockRef) (entries : List TermEntry) (page below count new_page new_index : ℕ) (sought : Bytes) → HasBlocks bytes r entries → IsPageFor r.first entries 0 sought page
    → HasAt bytes (4096 * page) window → length window ≡ 4096 → IsBound window count sought below → count ≡ count_in window → new_page ≡ (if nat_lt below count then page else page + 1)
    → new_index ≡ (if nat_lt below count then below else 0) → (passed : ℕ) × CountsBelow (terms_of entries) sought passed × HasPassed r entries new_page new_index passed
position_is bytes window r entries page below count new_page new_index sought has page_for stands long bound count_same page_is index_is =
    let items = items_of entries in
    let are = all_items bytes r entries has in
    let rising = all_rise bytes r entries has in
    let group = page_for.group in
    let is_for = page_for.is_for in
    let blocks_are = all_blocks items (are_small items are) in
    let here = get_or (blocks items) group [] in
    let one = is_block (blocks items) group blocks_are is_for.within in
    let window_is = page_block bytes window r entries 0 group page has (omega arith) is_for.within page_for.page_is stands long in
    let counted : count ≡ length here = count_same ∙ ap (λ (w : Bytes). count_in w) window_is ∙ count_is here one.fits in
    let split = bound_splits here sought count below (block_every IsItem items group are) one.fits counted (subst (λ (w : Bytes). IsBound w count sought below) window_is bound) in
    let passed = start_of (blocks items) group + below in (
      passed,
      subst (λ (l : List Bytes). CountsBelow l sought passed) (terms_same entries) (all_below items sought group below are rising is_for split),
      split_at r.first (blocks items) page group below new_page new_index blocks_are is_for.within split.within page_for.page_is
          (page_is ∙ ap (λ (n : ℕ). if nat_lt below n then page else page + 1) counted) (index_is ∙ ap (λ (n : ℕ). if nat_lt below n then below else 0) counted),
    )

-- where the entries end
pub all_length : (bytes : Bytes) (r : BlockRef) (entries : List TermEntry) → HasBlocks bytes r entries → start_of (blocks (items_of entries)) (length (blocks (items_of entries))) ≡ length entries
all_length bytes r entries has =
    start_end (blocks (items_of entries)) ∙ ap (λ (l : List Item). length l) (joined_blocks (items_of entries)) ∙ length-map entries term_item

-- behind the last block no entry is left
pub none_left : (bytes : Bytes) (r : BlockRef) (entries : List TermEntry) (page index passed : ℕ) → HasBlocks bytes r entries → r.first / 4096 + r.blocks ≤ page → HasPassed r entries page index passed
    → StepsTo r entries passed page index None
none_left bytes r entries page index passed has le (at_entry group lt within page_is passed_is) = absurd (omega (arith, le, lt, page_is, has.aligned, has.referred.blocks_are))
none_left bytes r entries page index passed has le (at_end page_is index_is passed_is) =
    (drop_all passed entries (omega (arith, passed_is, all_length bytes r entries has)), at_end page_is index_is passed_is)

entries_fit : (entries : List TermEntry) (k : ℕ) (d : TermEntry) → HaveBytes entries → k < length entries → Fits term_entry (get_or entries k d)
entries_fit [] k d fit lt = absurd (omega (arith, lt))
entries_fit (e ∷ others) zero d fit lt = fit.0
entries_fit (e ∷ others) (suc k) d fit lt = entries_fit others k d fit.1 (omega (arith, lt))

-- the entry that a block gives is the next one
pub given_next : (bytes window : Bytes) (r : BlockRef) (entries : List TermEntry) (page index passed new_page new_index : ℕ) (found : Option TermEntry) → HasBlocks bytes r entries → page < r.first / 4096 + r.blocks
    → HasAt bytes (4096 * page) window → length window ≡ 4096 → GivesEntry window page index new_page new_index found → HasPassed r entries page index passed → StepsTo r entries passed new_page new_index found
given_next bytes window r entries page index passed new_page new_index found has lt stands long gives (at_end page_is index_is passed_is) =
    absurd (omega (arith, lt, page_is, has.aligned, has.referred.blocks_are))
given_next bytes window r entries page index passed new_page new_index None has lt stands long gives (at_entry group within inside page_is passed_is) =
    let items = items_of entries in
    let blocks_are = all_blocks items (are_small items (all_items bytes r entries has)) in
    let one = is_block (blocks items) group blocks_are within in
    let window_is = page_block bytes window r entries 0 group page has (omega arith) within page_is stands long in
    absurd (omega (arith, gives.0, inside, ap (λ (w : Bytes). count_in w) window_is, count_is (get_or (blocks items) group []) one.fits))
given_next bytes window r entries page index passed new_page new_index (Some entry) has lt stands long gives (at_entry group within inside page_is passed_is) =
    let items = items_of entries in
    let blocks_are = all_blocks items (are_small items (all_items bytes r entries has)) in
    let here = get_or (blocks items) group [] in
    let one = is_block (blocks items) group blocks_are within in
    let window_is = page_block bytes window r entries 0 group page has (omega arith) within page_is stands long in
    let counted : count_in window ≡ length here = ap (λ (w : Bytes). count_in w) window_is ∙ count_is here one.fits in
    let d : TermEntry = record { term = []; list = None; inline = None } in
    let in_all : passed < length entries =
    omega (arith, passed_is, item_within (blocks items) group index within inside, ap (λ (l : List Item). length l) (joined_blocks items), length-map entries term_item) in
    let own = get_or entries passed d in
    let item_is : get_or here index (term_item d) ≡ term_item own =
    sym (item_at (blocks items) group index (term_item d) within inside) ∙ ap (λ (l : List Item). get_or l (start_of (blocks items) group + index) (term_item d)) (joined_blocks items)
    ∙ ap (λ (n : ℕ). get_or items n (term_item d)) (sym passed_is) ∙ get_or-map term_item entries passed d (term_item d) in_all in
    let mine = value_begins term_entry here index (term_item d) own one.fits inside (ap (λ (i : Item). i.bytes) item_is) (entries_fit entries passed d has.fit in_all) in
    let same : entry ≡ own = one_entry term_entry (block here) index entry own (subst (λ (w : Bytes). HasEntry term_entry w index entry) window_is gives.1) mine in (
      drop_more entries passed d in_all ∙ ap (λ (e : TermEntry). e ∷ drop (passed + 1) entries) (sym same),
      steps r.first (blocks items) page group index passed new_page new_index blocks_are within inside page_is passed_is
          (gives.3 ∙ ap (λ (n : ℕ). if nat_lt (index + 1) n then page else page + 1) counted) (gives.4 ∙ ap (λ (n : ℕ). if nat_lt (index + 1) n then (index + 1) else 0) counted),
    )

-- without blocks there are no entries
pub no_entries : (bytes : Bytes) (r : BlockRef) (entries : List TermEntry) (sought : Bytes) → HasBlocks bytes r entries → r.blocks ≡ 0 → (passed : ℕ) × CountsBelow (terms_of entries) sought passed × StepsTo r entries passed (r.first / 4096) 0 None
no_entries bytes r entries sought has none =
    let empty : length (blocks (items_of entries)) ≡ 0 = sym has.referred.blocks_are ∙ none in
    let no_items : length entries ≡ 0 = sym (all_length bytes r entries has) ∙ ap (λ (n : ℕ). start_of (blocks (items_of entries)) n) empty in
    let all = length-map entries (λ (e : TermEntry). e.term) in (
      0,
      record { within = omega arith; below = λ index lt. absurd (omega (arith, lt)); above = λ index le lt. absurd (omega (arith, lt, all, no_items)) },
      (nil_from_length entries no_items, at_end (omega (arith, has.aligned, empty)) refl (sym (ap (λ (n : ℕ). start_of (blocks (items_of entries)) n) empty))),
    )

-- an entry read there is one of a block of the file
pub here_some : (a b : View) (was now : FileName) (page index new_page new_index : ℕ) (found : Option TermEntry) → ((bytes : Bytes) → contents a was ≡ Some bytes → contents b now ≡ Some bytes)
    → ReadsHere b now page index new_page new_index found → ReadsSome a was found
here_some a b was now page index new_page new_index None still here = tt
here_some a b was now page index new_page new_index (Some entry) still here = λ bytes is. (let h = here bytes (still bytes is) in (page, index, h.0, h.1, h.2.0, h.2.1))
