-- Pointer blocks in the format break no rule, and so neither do all the blocks.
use Rattle.std.proofs.Common.{◌≡◌, ℕ, zero, suc, ◌+◌, ◌-◌, ◌*◌, ◌/◌, ◌%◌, ◌^◌, ◌<◌, ◌≤◌, Bool, true, false, ◌&&◌, List, [], length, refl, sym, ap, ◌∙◌, subst, arith, rules, inl, inr, ⊎_elim}
use Rattle.std.proofs.lemmas.Bool.Decides.{leb_tells}
use Rattle.std.proofs.lemmas.List.{length-map}
use Rattle.std.specs.Prelude.{get_or, ◌==◌, nat_le, nat_lt, if◌then◌else◌}
use Rattle.std.specs.Int.{w64}
use Rattle.std.specs.List.{AllByRecursion}
use Rattle.sasi_host.specs.declared.name.FileName.{FileName}
use Rattle.sasi_host.specs.declared.damage.Damage.{Damage}
use Rattle.sasi_host.specs.declared.damage.FormatRule.{FormatRule}
use Rattle.sasi_host.specs.declared.damage.FormatRule.TheVariants as rule
use Rattle.sasi_host.specs.declared.fault.ReadFault.{ReadFault}
use Rattle.sasi_host.specs.declared.fault.ReadFault.TheVariants as fault
use Rattle.sasi_host.specs.Names.{Bytes}
use Rattle.sasi_host.specs.View.{View}
use Rattle.sasi_host.specs.Damages.{DamageShown, seen_bytes}
use Rattle.sasi_host.proofs.Offsets.{at_ends}
use Rattle.sasi_formats.specs.Formats.{Fits}
use Rattle.sasi_formats.specs.Fields.{number}
use Rattle.sasi_formats.proofs.Fitting.{checked_fits, number_fits}
use Rattle.sasi_termblocks.specs.declared.block_ref.BlockRef.{BlockRef}
use Rattle.sasi_termblocks.specs.declared.list_form.ListForm.{ListForm}
use Rattle.sasi_termblocks.specs.declared.term_entry.TermEntry.{TermEntry}
use Rattle.sasi_termblocks.specs.Entries.{pointer, term}
use Rattle.sasi_termblocks.specs.Forms.{HasForm}
use Rattle.sasi_termblocks.specs.Blocks.{Item, EndsAfter, above, block, blocks, items_of, first_term, first_terms, level_bytes, next_at, pointer_item}
use Rattle.sasi_termblocks.specs.Windows.{BreaksForm, BreaksTree, HasEntry, count_in}
use Rattle.sasi_termblocks.specs.Damages.{BreaksPointers, BreaksTerms, Leads, ShowsBlocks}
use Rattle.sasi_termblocks.specs.Damages.ShowsBlock.{ends, breaks}
use Rattle.sasi_termblocks.specs.Damages.ShowsBlocks.{misled, of_other_form, ends_early, in_terms, in_pointers, behind_terms, led_too_far, led_too_near}
use Rattle.sasi_termblocks.specs.BlockFaults.{BreaksFirstPointer}
use Rattle.sasi_termblocks.specs.Damages.Leads.{top, down}
use Rattle.sasi_termblocks.specs.Descents.{high_page, is_page_offset, level_at, level_items, low_page, page_of_top, pointer_to}
use Rattle.sasi_termblocks.specs.Scans.{HasBlocks, NoFalseDamage, start_of}
use Rattle.sasi_termblocks.proofs.CutLaws.{all_blocks}
use Rattle.sasi_termblocks.proofs.LevelLaws.{pointer_at, pointers_length}
use Rattle.sasi_termblocks.proofs.BlockLaws.{count_is}
use Rattle.sasi_termblocks.proofs.Groups.{AreItems, IsItem, are_small, block_every, blocks_length, every_at, is_block, item_at, item_within, joined, joined_blocks}
use Rattle.sasi_termblocks.proofs.Led.{led_for, not_too_far, not_too_near}
use Rattle.sasi_termblocks.proofs.Levels.{at_up, items_up, level_are, level_block, level_stands, some_blocks}
use Rattle.sasi_termblocks.proofs.Found.{value_sound}
use Rattle.sasi_termblocks.proofs.Children.{all_items, page_block, pointer_is}
use Rattle.sasi_termblocks.proofs.Descent.{high_is, level_aligned, low_is, top_for}
use Rattle.sasi_termblocks.proofs.Sound.{block_ends, form_sound, front_sound, terms_sound, trees_sound}

-- where a block of a level is
pub record IsOn (r : BlockRef) (entries : List TermEntry) (level page : ℕ) : Type 0 where
  pub group : ℕ
  pub le : level ≤ r.levels
  pub lt : group < length (blocks (level_items level r.first (items_of entries)))
  pub is : 4096 * page ≡ level_at level r.first (items_of entries) + 4096 * group

ends_some : (n at : ℕ) (items : List Item) → 0 < n → EndsAfter n at items → 0 < length (blocks items)
unfolding EndsAfter
ends_some zero at items some is = absurd (omega (arith, some))
ends_some (suc more) at items some is = omega (arith, is.0)

level_from : (level at : ℕ) (items : List Item) → at ≤ level_at level at items
level_from zero at items = omega arith
level_from (suc level) at items = omega (arith, level_from level (next_at at items) (above at items))

-- the levels above the first stand behind its blocks
level_past : (level at : ℕ) (items : List Item) → 0 < level → at + 4096 * length (blocks items) ≤ level_at level at items
level_past zero at items some = absurd (omega (arith, some))
level_past (suc level) at items some = level_from level (next_at at items) (above at items)

-- the pointers lead to the blocks of their levels
pub on_level : (bytes : Bytes) (r : BlockRef) (entries : List TermEntry) (level page : ℕ) → HasBlocks bytes r entries → Leads bytes r level page → IsOn r entries level page
on_level bytes r entries level page has (top _ _ some is page_is) =
    let test : (r.levels == 0) ≡ false = search (rules, is, some) in
    let top_is : page ≡ page_of_top r = page_is ∙ sym (ap (λ (t : Bool). (if t then r.first else r.top) / 4096) test) in
    let any = ends_some r.levels r.first (items_of entries) (omega (arith, is, some)) has.referred.levels_are in
    let here = top_for bytes r page top_is entries level [] has is (omega (arith, any, has.referred.blocks_are)) in
    record { group = here.group; le = omega (arith, is); lt = here.is_for.within; is = here.page_is }
on_level bytes r entries level page has (down _ _ from index window t place leads stands long lt entry page_is) =
    let items = items_of entries in
    let are = all_items bytes r entries has in
    let here = level_items level r.first items in
    let at = level_at level r.first items in
    let on = on_level bytes r entries (level + 1) from has leads in
    let more : level + 1 ≡ suc level = omega arith in
    let same : level_items (level + 1) r.first items ≡ above at here = ap (λ (n : ℕ). level_items n r.first items) more ∙ items_up level r.first items in
    let up = above at here in
    let up_are : AreItems up = subst (λ (l : List Item). AreItems l) same (level_are (level + 1) r.first items are) in
    let group_lt : on.group < length (blocks up) = subst (λ (l : List Item). on.group < length (blocks l)) same on.lt in
    let group_here = get_or (blocks up) on.group [] in
    let one = is_block (blocks up) on.group (all_blocks up (are_small up up_are)) group_lt in
    let window_is : window ≡ block group_here =
    page_block bytes window r entries (level + 1) on.group from has on.le on.lt on.is stands long ∙ ap (λ (l : List Item). block (get_or (blocks l) on.group [])) same in
    let within : index < length group_here = omega (arith, lt, ap (λ (w : Bytes). count_in w) window_is, count_is group_here one.fits) in
    let le : level ≤ r.levels = omega (arith, on.le) in
    let place_is = pointer_is bytes r entries level on.group index t place has le group_lt within (subst (λ (w : Bytes). HasEntry pointer w index (t, place)) window_is entry) in
    let inside = item_within (blocks up) on.group index group_lt within in
    let count : length (joined (blocks up)) ≡ length (blocks here) = ap (λ (l : List Item). length l) (joined_blocks up) ∙ pointers_length at (first_terms here) ∙ length-map (blocks here) first_term in
    record {
      group = start_of (blocks up) on.group + index;
      le = le;
      lt = omega (arith, inside, count);
      is = omega (arith, page_is, place_is, level_aligned level r.first items (omega (arith, has.aligned)));
    }

offset_passes : (low high place : ℕ) → place % 4096 ≡ 0 → low ≤ place / 4096 → place / 4096 < high → is_page_offset low high place ≡ true
offset_passes low high place aligned above_low below_high =
    let first : (place % 4096 == 0) ≡ true = search (rules, aligned) in
    let second : nat_le low (place / 4096) ≡ true = search (rules, above_low) in
    let third : nat_lt (place / 4096) high ≡ true = search (rules, below_high) in
    ap (λ (t : Bool). t && (nat_le low (place / 4096) && nat_lt (place / 4096) high)) first ∙ ap (λ (t : Bool). t && nat_lt (place / 4096) high) second ∙ third

-- a pointer block in the format breaks no rule
pub pointers_sound : (bytes : Bytes) (r : BlockRef) (entries : List TermEntry) (level page : ℕ) (rule_ : FormatRule) (at_seen : ℕ) (seen : Bytes) → HasBlocks bytes r entries → (on : IsOn r entries (suc level) page)
    → BreaksPointers (low_page r (suc level)) (high_page r (suc level) page) (block (get_or (blocks (level_items (suc level) r.first (items_of entries))) on.group [])) rule_ at_seen seen → ⊥
pointers_sound bytes r entries level page rule_ at_seen seen has on (inl count) =
    let items = items_of entries in
    let here = level_items (suc level) r.first items in
    front_sound (get_or (blocks here) on.group []) rule_ at_seen seen (is_block (blocks here) on.group (all_blocks here (are_small here (level_are (suc level) r.first items (all_items bytes r entries has)))) on.lt) count
pointers_sound bytes r entries level page rule_ at_seen seen has on (inr entry) =
    let items = items_of entries in
    let are = all_items bytes r entries has in
    let here = level_items level r.first items in
    let at = level_at level r.first items in
    let up = level_items (suc level) r.first items in
    let up_is : up ≡ above at here = items_up level r.first items in
    let up_are = level_are (suc level) r.first items are in
    let group_here = get_or (blocks up) on.group [] in
    let one = is_block (blocks up) on.group (all_blocks up (are_small up up_are)) on.lt in
    let index = entry.0 in
    let within : index < length group_here = omega (arith, entry.1, count_is group_here one.fits) in
    let d : Item = record { term = []; bytes = [] } in
    let n = start_of (blocks up) on.group + index in
    let inside = item_within (blocks up) on.group index on.lt within in
    let count : length (joined (blocks up)) ≡ length (first_terms here) = ap (λ (l : List Item). length l) (joined_blocks up ∙ up_is) ∙ pointers_length at (first_terms here) in
    let blocks_count = length-map (blocks here) first_term in
    let least_n = get_or (first_terms here) n [] in
    let offset_n = at + 4096 * n in
    let item_is : get_or group_here index d ≡ pointer_item least_n offset_n =
    sym (item_at (blocks up) on.group index d on.lt within) ∙ ap (λ (l : List Item). get_or l n d) (joined_blocks up ∙ up_is) ∙ pointer_at at (first_terms here) n d (omega (arith, inside, count)) in
    let own = every_at IsItem group_here index d (block_every IsItem up on.group up_are) within in
    let term_fits : Fits term least_n = subst (λ (i : Item). Fits term i.term) item_is own.fits in
    let stands = level_block level r.levels r.first items bytes n (omega (arith, on.le)) are has.stands (omega (arith, inside, count, blocks_count)) in
    let short : offset_n < 2 ^ 64 = omega (arith, at_ends bytes offset_n (block (get_or (blocks here) n [])) stands, has.short) in
    let aligned = level_aligned level r.first items (omega (arith, has.aligned)) in
    let page_n : 4096 * page ≡ next_at at here + 4096 * on.group = on.is ∙ ap (λ (k : ℕ). k + 4096 * on.group) (at_up level r.first items) in
    let test : is_page_offset (low_page r (suc level)) (high_page r (suc level) page) offset_n ≡ true =
    ⊎_elim
    (λ first.
    let zero_level : level ≡ 0 = omega (arith, first.1) in
    let one_level : suc level ≡ 1 = omega (arith, zero_level) in
    let at_first : at ≡ r.first = ap (λ (k : ℕ). level_at k r.first items) zero_level in
    let here_is : here ≡ items = ap (λ (k : ℕ). level_items k r.first items) zero_level in
    let here_count : length (blocks here) ≡ r.blocks = ap (λ (l : List Item). length (blocks l)) here_is ∙ sym has.referred.blocks_are in
    offset_passes (low_page r (suc level)) (high_page r (suc level) page) offset_n (omega (arith, aligned)) (omega (arith, low_is r (suc level) one_level, at_first))
    (omega (arith, high_is r (suc level) page one_level, at_first, inside, count, blocks_count, here_count, has.aligned)))
    (λ later.
    let no : (suc level == 1) ≡ false = search (rules, later.1) in
    let low : low_page r (suc level) ≡ r.first / 4096 + r.blocks = ap (λ (t : Bool). if t then (r.first / 4096) else (r.first / 4096 + r.blocks)) no in
    let high : high_page r (suc level) page ≡ page = ap (λ (t : Bool). if t then (r.first / 4096 + r.blocks) else page) no in
    let past = level_past level r.first items later.1 in
    offset_passes (low_page r (suc level)) (high_page r (suc level) page) offset_n (omega (arith, aligned)) (omega (arith, low, past, has.referred.blocks_are, has.aligned))
    (omega (arith, high, page_n, inside, count, blocks_count)))
    (leb_tells level 0) in
    value_sound (pointer_to (low_page r (suc level)) (high_page r (suc level) page)) group_here index d (least_n, offset_n) rule_ at_seen seen one.fits within (ap (λ (i : Item). i.bytes) item_is)
    (term_fits, checked_fits rule.Place 8 (is_page_offset (low_page r (suc level)) (high_page r (suc level) page)) (number w64) offset_n (number_fits w64 offset_n short) test) entry.2

-- ---- the first pointer block

module _ (bytes : Bytes) (r : BlockRef) (entries : List TermEntry) (has : HasBlocks bytes r entries) (some : 0 < r.levels) where
  first_level : 0 < length (blocks (level_items (suc zero) r.first (items_of entries)))
  first_level =
      let items = items_of entries in
      let any = ends_some r.levels r.first items some has.referred.levels_are in
      some_blocks (above r.first items) (omega (arith, any, pointers_length r.first (first_terms items), length-map (blocks items) first_term))

  first_page : (page : ℕ) → page ≡ r.first / 4096 + r.blocks → 4096 * page ≡ level_at (suc zero) r.first (items_of entries) + 4096 * 0
  first_page page page_is =
      let at_is : level_at (suc zero) r.first (items_of entries) ≡ r.first + 4096 * length (blocks (items_of entries)) = refl in
      omega (arith, page_is, has.aligned, has.referred.blocks_are, at_is)

  -- it begins with a pointer to the first term block
  first_sound : (rule_ : FormatRule) (at_seen : ℕ) (seen : Bytes) → BreaksFirstPointer (r.first / 4096) (block (get_or (blocks (level_items (suc zero) r.first (items_of entries))) 0 [])) rule_ at_seen seen → ⊥
  first_sound rule_ at_seen seen (inl front) =
      let items = items_of entries in
      let up = level_items (suc zero) r.first items in
      front_sound (get_or (blocks up) 0 []) rule_ at_seen seen (is_block (blocks up) 0 (all_blocks up (are_small up (level_are (suc zero) r.first items (all_items bytes r entries has)))) first_level) front
  first_sound rule_ at_seen seen (inr entry) =
      let items = items_of entries in
      let are = all_items bytes r entries has in
      let up = above r.first items in
      let up_are : AreItems up = level_are (suc zero) r.first items are in
      let lt : 0 < length (blocks up) = first_level in
      let group_here = get_or (blocks up) 0 [] in
      let one = is_block (blocks up) 0 (all_blocks up (are_small up up_are)) lt in
      let d : Item = record { term = []; bytes = [] } in
      let n = start_of (blocks up) 0 + 0 in
      let inside = item_within (blocks up) 0 0 lt one.some in
      let count : length (joined (blocks up)) ≡ length (first_terms items) = ap (λ (l : List Item). length l) (joined_blocks up) ∙ pointers_length r.first (first_terms items) in
      let least_n = get_or (first_terms items) n [] in
      let offset_n = r.first + 4096 * n in
      let begins : n ≡ 0 = refl in
      let item_is : get_or group_here 0 d ≡ pointer_item least_n offset_n =
      sym (item_at (blocks up) 0 0 d lt one.some) ∙ ap (λ (l : List Item). get_or l n d) (joined_blocks up) ∙ pointer_at r.first (first_terms items) n d (omega (arith, inside, count)) in
      let own = every_at IsItem group_here 0 d (block_every IsItem up 0 up_are) one.some in
      let term_fits : Fits term least_n = subst (λ (i : Item). Fits term i.term) item_is own.fits in
      let fits : n < length (blocks items) = omega (arith, inside, count, length-map (blocks items) first_term) in
      let stands = level_block zero r.levels r.first items bytes n (omega arith) are has.stands fits in
      let short : offset_n < 2 ^ 64 = omega (arith, at_ends bytes offset_n (block (get_or (blocks items) n [])) stands, has.short) in
      let page = r.first / 4096 in
      let test : is_page_offset page (page + 1) offset_n ≡ true = offset_passes page (page + 1) offset_n (omega (arith, begins, has.aligned)) (omega (arith, begins)) (omega (arith, begins)) in
      value_sound (pointer_to page (page + 1)) group_here 0 d (least_n, offset_n) rule_ at_seen seen one.fits one.some (ap (λ (i : Item). i.bytes) item_is)
      (term_fits, checked_fits rule.Place 8 (is_page_offset page (page + 1)) (number w64) offset_n (number_fits w64 offset_n short) test) entry

-- no corruption is shown of blocks in the format whose entries have the form
pub blocks_sound : (file : FileName) (bytes : Bytes) (r : BlockRef) (form : ListForm) (entries : List TermEntry) (damage : Damage) → HasBlocks bytes r entries → AllByRecursion (HasForm form) entries → ShowsBlocks file r form bytes damage → ⊥
blocks_sound file bytes r form entries damage has formed (ends_early early) =
    let items = items_of entries in
    let are = all_items bytes r entries has in
    let stands = level_stands 0 r.levels r.first items bytes (omega arith) are has.stands in
    omega (arith, early.short, at_ends bytes r.first (level_bytes items) stands, blocks_length (blocks items) (all_blocks items (are_small items are)), has.referred.blocks_are)
blocks_sound file bytes r form entries damage has formed (in_terms page low high (ends early)) =
    let group = page - r.first / 4096 in
    omega (arith, early.short, block_ends bytes r entries has 0 group page (omega arith) (omega (arith, low, high, has.referred.blocks_are)) (omega (arith, low, has.aligned)))
blocks_sound file bytes r form entries damage has formed (in_terms page low high (breaks window at named stands long at_is broken)) =
    let group = page - r.first / 4096 in
    let lt : group < length (blocks (items_of entries)) = omega (arith, low, high, has.referred.blocks_are) in
    let window_is = page_block bytes window r entries 0 group page has (omega arith) lt (omega (arith, low, has.aligned)) stands long in
    terms_sound bytes r entries has group damage.rule at (seen_bytes damage.seen) lt (subst (λ (w : Bytes). BreaksTerms w damage.rule at (seen_bytes damage.seen)) window_is broken)
blocks_sound file bytes r form entries damage has formed (misled page index low high (ends early)) =
    let group = page - r.first / 4096 in
    omega (arith, early.short, block_ends bytes r entries has 0 group page (omega arith) (omega (arith, low, high, has.referred.blocks_are)) (omega (arith, low, has.aligned)))
blocks_sound file bytes r form entries damage has formed (misled page index low high (breaks window at named stands long at_is broken)) =
    let group = page - r.first / 4096 in
    let lt : group < length (blocks (items_of entries)) = omega (arith, low, high, has.referred.blocks_are) in
    let window_is = page_block bytes window r entries 0 group page has (omega arith) lt (omega (arith, low, has.aligned)) stands long in
    trees_sound bytes r entries has group index damage.rule at (seen_bytes damage.seen) lt (subst (λ (w : Bytes). BreaksTree r.first index w damage.rule at (seen_bytes damage.seen)) window_is broken)
blocks_sound file bytes r form entries damage has formed (of_other_form page index low high (ends early)) =
    let group = page - r.first / 4096 in
    omega (arith, early.short, block_ends bytes r entries has 0 group page (omega arith) (omega (arith, low, high, has.referred.blocks_are)) (omega (arith, low, has.aligned)))
blocks_sound file bytes r form entries damage has formed (of_other_form page index low high (breaks window at named stands long at_is broken)) =
    let group = page - r.first / 4096 in
    let lt : group < length (blocks (items_of entries)) = omega (arith, low, high, has.referred.blocks_are) in
    let window_is = page_block bytes window r entries 0 group page has (omega arith) lt (omega (arith, low, has.aligned)) stands long in
    form_sound bytes r entries has form group index damage.rule at (seen_bytes damage.seen) formed lt (subst (λ (w : Bytes). BreaksForm form index w damage.rule at (seen_bytes damage.seen)) window_is broken)
blocks_sound file bytes r form entries damage has formed (in_pointers zero page some leads shown) = absurd (omega (arith, some))
blocks_sound file bytes r form entries damage has formed (in_pointers (suc level) page some leads (ends early)) =
    let on = on_level bytes r entries (suc level) page has leads in
    omega (arith, early.short, block_ends bytes r entries has (suc level) on.group page on.le on.lt on.is)
blocks_sound file bytes r form entries damage has formed (in_pointers (suc level) page some leads (breaks window at named stands long at_is broken)) =
    let on = on_level bytes r entries (suc level) page has leads in
    let window_is = page_block bytes window r entries (suc level) on.group page has on.le on.lt on.is stands long in
    pointers_sound bytes r entries level page damage.rule at (seen_bytes damage.seen) has on
    (subst (λ (w : Bytes). BreaksPointers (low_page r (suc level)) (high_page r (suc level) page) w damage.rule at (seen_bytes damage.seen)) window_is broken)
blocks_sound file bytes r form entries damage has formed (behind_terms some (ends early)) =
    omega (arith, early.short, block_ends bytes r entries has (suc zero) 0 (r.first / 4096 + r.blocks) (omega (arith, some)) (first_level bytes r entries has some) (first_page bytes r entries has some (r.first / 4096 + r.blocks) refl))
blocks_sound file bytes r form entries damage has formed (behind_terms some (breaks window at named stands long at_is broken)) =
    let window_is = page_block bytes window r entries (suc zero) 0 (r.first / 4096 + r.blocks) has (omega (arith, some)) (first_level bytes r entries has some) (first_page bytes r entries has some (r.first / 4096 + r.blocks) refl) stands long in
    first_sound bytes r entries has some damage.rule at (seen_bytes damage.seen) (subst (λ (w : Bytes). BreaksFirstPointer (r.first / 4096) w damage.rule at (seen_bytes damage.seen)) window_is broken)
blocks_sound file bytes r form entries damage has formed (led_too_far sought page leads past shown) = not_too_far file bytes r entries damage sought has page (led_for bytes r entries sought 0 page has leads) past shown
blocks_sound file bytes r form entries damage has formed (led_too_near sought page index leads within shown) = not_too_near file bytes r entries damage sought has page index leads within shown

pub no_false : (v : View) (file : FileName) (r : BlockRef) (form : ListForm) (f : ReadFault) → DamageShown v file (ShowsBlocks file r form) f → NoFalseDamage v file r form f
no_false v file r form fault.Failed shown = tt
no_false v file r form fault.OutOfMemory shown = tt
no_false v file r form (fault.Damaged damage) shown = λ bytes entries is has formed. blocks_sound file bytes r form entries damage has formed (shown bytes is)
