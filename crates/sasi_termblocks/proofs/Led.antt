-- Where the pointers lead in a search for a term.
use Rattle.std.proofs.Common.{◌≡◌, ℕ, ◌+◌, ◌-◌, ◌*◌, ◌/◌, ◌<◌, ◌≤◌, true, false, List, [], length, refl, sym, ap, ◌∙◌, subst, arith}
use Rattle.std.proofs.lemmas.List.{length-map}
use Rattle.std.specs.Prelude.{get_or}
use Rattle.sasi_host.specs.declared.name.FileName.{FileName}
use Rattle.sasi_host.specs.declared.damage.Damage.{Damage}
use Rattle.sasi_host.specs.Names.{Bytes}
use Rattle.sasi_host.specs.Damages.{HasAt}
use Rattle.sasi_termblocks.specs.declared.block_ref.BlockRef.{BlockRef}
use Rattle.sasi_termblocks.specs.declared.term_entry.TermEntry.{TermEntry}
use Rattle.sasi_termblocks.specs.Entries.{is_below, term}
use Rattle.sasi_termblocks.specs.Blocks.{Item, block, blocks, items_of}
use Rattle.sasi_termblocks.specs.Windows.{HasEntry, IsBound, count_in}
use Rattle.sasi_termblocks.specs.BlockFaults.{IsMisplaced, PointsTo}
use Rattle.sasi_termblocks.specs.Damages.{LeadsFor, LeadsTo, ShowsBlock}
use Rattle.sasi_termblocks.specs.Damages.LeadsFor.{from_top, further_down}
use Rattle.sasi_termblocks.specs.Damages.ShowsBlock.{ends, breaks}
use Rattle.sasi_termblocks.specs.Descents.{IsPageFor, high_page, low_page}
use Rattle.sasi_termblocks.specs.Scans.{CountsBelow, HasBlocks, HasPassed, start_of, terms_of}
use Rattle.sasi_termblocks.specs.Scans.IsAt.{at_entry, at_end}
use Rattle.sasi_termblocks.proofs.CutLaws.{all_blocks}
use Rattle.sasi_termblocks.proofs.BlockLaws.{one_entry}
use Rattle.sasi_termblocks.proofs.Groups.{IsItem, are_small, block_every, is_block, item_at, item_within, joined, joined_blocks, least_first, term_at, terms_in}
use Rattle.sasi_termblocks.proofs.Found.{term_begins}
use Rattle.sasi_termblocks.proofs.Children.{all_items, child_for, page_block}
use Rattle.sasi_termblocks.proofs.Descent.{top_for}
use Rattle.sasi_termblocks.proofs.Sound.{block_ends}
use Rattle.sasi_termblocks.proofs.Steps.{position_is, terms_same}

-- on to the block below
pub led_on : (bytes window : Bytes) (r : BlockRef) (sought : Bytes) (level page below place : ℕ) → 0 < level → LeadsFor bytes r sought level page → HasAt bytes (4096 * page) window → length window ≡ 4096
    → IsBound window (count_in window) sought below → PointsTo (low_page r level) (high_page r level page) window (below - 1) place → LeadsFor bytes r sought (level - 1) (place / 4096)
led_on bytes window r sought level page below place some leads stands long bound has =
    let up : level ≡ level - 1 + 1 = omega (arith, some) in
    further_down (level - 1) (place / 4096) page below place window (subst (λ (n : ℕ). LeadsFor bytes r sought n page) up leads) stands long bound
    (subst (λ (n : ℕ). PointsTo (low_page r n) (high_page r n page) window (below - 1) place) up has) refl

led_within : (bytes : Bytes) (r : BlockRef) (sought : Bytes) (level page : ℕ) → LeadsFor bytes r sought level page → level ≤ r.levels
led_within bytes r sought level page (from_top _ _ some is page_is) = omega (arith, is)
led_within bytes r sought level page (further_down _ _ from below place window leads stands long bound has page_is) = omega (arith, led_within bytes r sought (level + 1) from leads)

-- in the format they lead to the block for the term
pub led_for : (bytes : Bytes) (r : BlockRef) (entries : List TermEntry) (sought : Bytes) (level page : ℕ) → HasBlocks bytes r entries → LeadsFor bytes r sought level page → IsPageFor r.first entries level sought page
led_for bytes r entries sought level page has (from_top _ _ some is page_is) = top_for bytes r page page_is entries level sought has is some
led_for bytes r entries sought level page has (further_down _ _ from below place window leads stands long bound entry page_is) =
    subst (λ (n : ℕ). IsPageFor r.first entries level sought n) (sym page_is)
    (child_for bytes window r entries level from below place (low_page r (level + 1)) (high_page r (level + 1) from) sought has (led_within bytes r sought (level + 1) from leads)
    (led_for bytes r entries sought (level + 1) from has leads) stands long bound entry)

-- ---- in the format they lead neither too far nor too near

module _ (file : FileName) (bytes : Bytes) (r : BlockRef) (entries : List TermEntry) (damage : Damage) (sought : Bytes) (has : HasBlocks bytes r entries) where
  pub not_too_far : (page : ℕ) → IsPageFor r.first entries 0 sought page → r.first / 4096 < page → ShowsBlock (IsMisplaced false 0 sought) file page bytes damage → ⊥
  not_too_far page page_for past (ends early) =
      omega (arith, early.short, block_ends bytes r entries has 0 page_for.group page (omega arith) page_for.is_for.within page_for.page_is)
  not_too_far page page_for past (breaks window at named stands long at_is misplaced) =
      let items = items_of entries in
      let are = all_items bytes r entries has in
      let group = page_for.group in
      let lt = page_for.is_for.within in
      let here = get_or (blocks items) group [] in
      let one = is_block (blocks items) group (all_blocks items (are_small items are)) lt in
      let d : Item = record { term = []; bytes = [] } in
      let window_is : window ≡ block here = page_block bytes window r entries 0 group page has (omega arith) lt page_for.page_is stands long in
      let same : misplaced.entry ≡ (get_or here 0 d).term =
      one_entry term (block here) 0 misplaced.entry (get_or here 0 d).term (subst (λ (w : Bytes). HasEntry term w 0 misplaced.entry) window_is misplaced.has) (term_begins here 0 d (block_every IsItem items group are) one.fits one.some) in
      let place : 4096 * page ≡ r.first + 4096 * group = page_for.page_is in
      let some : 0 < group = omega (arith, place, past, has.aligned) in
      let below : is_below misplaced.entry sought ≡ true = ap (λ (t : Bytes). is_below t sought) (same ∙ sym (least_first here d one.some)) ∙ page_for.is_for.last some in
      absurd (let no : true ≡ false = sym below ∙ misplaced.compared in cc)

  not_near : (page index passed : ℕ) → CountsBelow (terms_of entries) sought passed → HasPassed r entries page index passed → page < r.first / 4096 + r.blocks → ShowsBlock (IsMisplaced true index sought) file page bytes damage → ⊥
  not_near page index passed counts (at_end page_is index_is passed_is) within shown = omega (arith, within, page_is, has.aligned, has.referred.blocks_are)
  not_near page index passed counts (at_entry group lt inside page_is passed_is) within (ends early) =
      omega (arith, early.short, block_ends bytes r entries has 0 group page (omega arith) lt page_is)
  not_near page index passed counts (at_entry group lt inside page_is passed_is) within (breaks window at named stands long at_is misplaced) =
      let items = items_of entries in
      let are = all_items bytes r entries has in
      let here = get_or (blocks items) group [] in
      let one = is_block (blocks items) group (all_blocks items (are_small items are)) lt in
      let d : Item = record { term = []; bytes = [] } in
      let window_is : window ≡ block here = page_block bytes window r entries 0 group page has (omega arith) lt page_is stands long in
      let same : misplaced.entry ≡ (get_or here index d).term =
      one_entry term (block here) index misplaced.entry (get_or here index d).term (subst (λ (w : Bytes). HasEntry term w index misplaced.entry) window_is misplaced.has)
      (term_begins here index d (block_every IsItem items group are) one.fits inside) in
      let all : length (joined (blocks items)) ≡ length (terms_in items) = ap (λ (l : List Item). length l) (joined_blocks items) ∙ sym (length-map items (λ (i : Item). i.term)) in
      let in_all = item_within (blocks items) group index lt inside in
      let told : get_or (terms_in items) passed [] ≡ (get_or here index d).term =
      ap (λ (n : ℕ). get_or (terms_in items) n []) passed_is ∙ term_at items (start_of (blocks items) group + index) d (omega (arith, in_all, all, length-map items (λ (i : Item). i.term)))
      ∙ ap (λ (l : List Item). (get_or l (start_of (blocks items) group + index) d).term) (sym (joined_blocks items)) ∙ ap (λ (i : Item). i.term) (item_at (blocks items) group index d lt inside) in
      let names : get_or (terms_of entries) passed [] ≡ misplaced.entry = ap (λ (l : List Bytes). get_or l passed []) (sym (terms_same entries)) ∙ told ∙ sym same in
      let short : passed < length (terms_of entries) = omega (arith, passed_is, in_all, all, ap (λ (l : List Bytes). length l) (terms_same entries)) in
      let above : is_below misplaced.entry sought ≡ false = ap (λ (t : Bytes). is_below t sought) (sym names) ∙ counts.above passed (omega arith) short in
      absurd (let no : true ≡ false = sym misplaced.compared ∙ above in cc)

  pub not_too_near : (page index : ℕ) → LeadsTo bytes r sought page index → page < r.first / 4096 + r.blocks → ShowsBlock (IsMisplaced true index sought) file page bytes damage → ⊥
  not_too_near page index to within shown =
      let at = position_is bytes to.block r entries to.from to.below (count_in to.block) page index sought has (led_for bytes r entries sought 0 to.from has to.leads) to.stands to.long to.bound refl to.page_is to.index_is in
      not_near page index at.0 at.1 at.2 within shown
