-- Blocks in the format break no rule.
use Rattle.std.proofs.Common.{◌≡◌, ℕ, ◌+◌, ◌*◌, ◌<◌, ◌≤◌, true, false, List, [], ◌∷◌, length, Option, Some, refl, sym, ap, ◌∙◌, subst, arith, inl, inr, ⊎_elim}
use Rattle.sasi_types.specs.declared.tree.TreeRef.{TreeRef}
use Rattle.sasi_formats.specs.Formats.{Fits, encoded}
use Rattle.sasi_tokentree.specs.Damages.{is_tree_ref}
use Rattle.std.proofs.lemmas.List.{length-map}
use Rattle.std.specs.List.{AllByRecursion}
use Rattle.std.specs.Prelude.{get_or}
use Rattle.sasi_host.specs.declared.damage.FormatRule.{FormatRule}
use Rattle.sasi_host.specs.Names.{Bytes}
use Rattle.sasi_host.proofs.Offsets.{at_ends}
use Rattle.sasi_termblocks.specs.declared.block_ref.BlockRef.{BlockRef}
use Rattle.sasi_termblocks.specs.declared.list_form.ListForm.{ListForm}
use Rattle.sasi_termblocks.specs.declared.term_entry.TermEntry.{TermEntry}
use Rattle.sasi_termblocks.specs.Entries.{is_below, term, term_entry}
use Rattle.sasi_termblocks.specs.Forms.{HasForm}
use Rattle.sasi_termblocks.specs.Blocks.{Item, block, blocks, items_of}
use Rattle.sasi_termblocks.specs.Windows.{BreaksCount, BreaksForm, BreaksFront, BreaksOrder, BreaksTree, RefersWithin, number_at}
use Rattle.sasi_termblocks.specs.Windows.BreaksFront.{in_count, in_start}
use Rattle.sasi_termblocks.specs.Damages.{BreaksTerms}
use Rattle.sasi_termblocks.specs.Descents.{level_at, level_items}
use Rattle.sasi_termblocks.specs.Scans.{HasBlocks, HaveBytes, HaveTrees, start_of}
use Rattle.sasi_termblocks.proofs.CutLaws.{all_blocks, block_length}
use Rattle.sasi_termblocks.proofs.BlockLaws.{count_is, offset_is, one_entry}
use Rattle.sasi_termblocks.proofs.Groups.{Every, IsBlock, IsItem, are_small, block_every, every_at, is_block, item_at, item_within, joined, joined_blocks, term_at, terms_in}
use Rattle.sasi_termblocks.proofs.Levels.{level_are, level_block}
use Rattle.sasi_termblocks.proofs.Found.{IsValue, next_sound, term_begins, value_begins, value_sound}
use Rattle.sasi_termblocks.proofs.Children.{all_items, all_rise}

-- a block in the format has a right count
count_sound : (group : List Item) (r : FormatRule) (at : ℕ) (seen : Bytes) → IsBlock group → BreaksCount (block group) r at seen → ⊥
count_sound group r at seen one broken = ⊎_elim
    (λ none. omega (arith, none, count_is group one.fits, one.some))
    (λ many. omega (arith, many, count_is group one.fits, one.fits))
    broken.wrong

-- and its first entry stands behind the offsets
pub front_sound : (group : List Item) (r : FormatRule) (at : ℕ) (seen : Bytes) → IsBlock group → BreaksFront (block group) r at seen → ⊥
front_sound group r at seen one (in_count broken) = count_sound group r at seen one broken
front_sound group r at seen one (in_start broken) =
    let first : number_at (block group) 2 ≡ 2 + 2 * length group + 0 = offset_is group 0 (record { term = []; bytes = [] }) one.fits one.some in
    broken.wrong (omega (arith, first, count_is group one.fits))

values : (entries : List TermEntry) → HaveBytes entries → Every (λ (i : Item). IsValue term_entry i) (items_of entries)
values [] fit = tt
values (e ∷ others) fit = (record { value = e; is = refl; fits = fit.0 }, values others fit.1)

-- an entry whose tree can stand in front of the first term block
record IsEntry (first : ℕ) (item : Item) : Type 0 where
  pub value : TermEntry
  pub is : item.bytes ≡ encoded term_entry value
  pub fits : Fits term_entry value
  pub tree : RefersWithin first value.list

are_entries : (first : ℕ) (entries : List TermEntry) → HaveBytes entries → HaveTrees first entries → Every (λ (i : Item). IsEntry first i) (items_of entries)
are_entries first [] fit trees = tt
are_entries first (e ∷ others) fit trees = (record { value = e; is = refl; fits = fit.0; tree = trees.0 }, are_entries first others fit.1 trees.1)

-- an entry that has its pairs where this form has them
record IsFormed (form : ListForm) (item : Item) : Type 0 where
  pub value : TermEntry
  pub is : item.bytes ≡ encoded term_entry value
  pub fits : Fits term_entry value
  pub formed : HasForm form value

are_formed : (form : ListForm) (entries : List TermEntry) → HaveBytes entries → AllByRecursion (HasForm form) entries → Every (λ (i : Item). IsFormed form i) (items_of entries)
are_formed form [] fit formed = tt
are_formed form (e ∷ others) fit formed = (record { value = e; is = refl; fits = fit.0; formed = formed.0 }, are_formed form others fit.1 formed.1)

refers : (first : ℕ) (tree : TreeRef) (list : Option TreeRef) → list ≡ Some tree → RefersWithin first list → is_tree_ref 16 first tree ≡ false → ⊥
refers first tree list is within wrong = absurd (let no = sym (subst (λ (o : Option TreeRef). RefersWithin first o) is within) ∙ wrong in differ no)
  where
    differ : true ≡ false → ⊥
    differ e = cc

module _ (bytes : Bytes) (r : BlockRef) (entries : List TermEntry) (has : HasBlocks bytes r entries) where
  -- the block of a level reaches to its end
  pub block_ends : (level group page : ℕ) → level ≤ r.levels → group < length (blocks (level_items level r.first (items_of entries))) → 4096 * page ≡ level_at level r.first (items_of entries) + 4096 * group → 4096 * page + 4096 ≤ length bytes
  block_ends level group page le lt is =
      let items = items_of entries in
      let are = all_items bytes r entries has in
      let here = level_items level r.first items in
      let fits = (is_block (blocks here) group (all_blocks here (are_small here (level_are level r.first items are))) lt).fits in
      omega (
        arith,
        is,
        block_length (get_or (blocks here) group []) fits,
        at_ends bytes (level_at level r.first items + 4096 * group) (block (get_or (blocks here) group [])) (level_block level r.levels r.first items bytes group le are has.stands lt),
      )

  -- two entries of a term block rise
  order_sound : (group index : ℕ) (rule_ : FormatRule) (at : ℕ) (seen : Bytes) → group < length (blocks (items_of entries)) → index + 1 < length (get_or (blocks (items_of entries)) group [])
      → BreaksOrder (block (get_or (blocks (items_of entries)) group [])) index rule_ at seen → ⊥
  order_sound group index rule_ at seen lt within broken =
      let items = items_of entries in
      let are = all_items bytes r entries has in
      let here = get_or (blocks items) group [] in
      let one = is_block (blocks items) group (all_blocks items (are_small items are)) lt in
      let here_are = block_every IsItem items group are in
      let d : Item = record { term = []; bytes = [] } in
      let n = start_of (blocks items) group + index in
      let all : length (joined (blocks items)) ≡ length (terms_in items) = ap (λ (l : List Item). length l) (joined_blocks items) ∙ sym (length-map items (λ (i : Item). i.term)) in
      let next_in = item_within (blocks items) group (index + 1) lt within in
      let told : (k : ℕ) → k < length here → get_or (terms_in items) (start_of (blocks items) group + k) [] ≡ (get_or here k d).term =
      λ k k_in.
      let in_all = item_within (blocks items) group k lt k_in in
      term_at items (start_of (blocks items) group + k) d (omega (arith, in_all, all, length-map items (λ (i : Item). i.term)))
      ∙ ap (λ (l : List Item). (get_or l (start_of (blocks items) group + k) d).term) (sym (joined_blocks items)) ∙ ap (λ (i : Item). i.term) (item_at (blocks items) group k d lt k_in) in
      let before = one_entry term (block here) index broken.before (get_or here index d).term broken.has_before (term_begins here index d here_are one.fits (omega (arith, within))) in
      let after = one_entry term (block here) (index + 1) broken.after (get_or here (index + 1) d).term broken.has_after (term_begins here (index + 1) d here_are one.fits within) in
      let rises = all_rise bytes r entries has n (omega (arith, next_in, all)) in
      let first : get_or (terms_in items) n [] ≡ broken.before = told index (omega (arith, within)) ∙ sym before in
      let second : get_or (terms_in items) (n + 1) [] ≡ broken.after = ap (λ (k : ℕ). get_or (terms_in items) k []) (omega arith) ∙ told (index + 1) within ∙ sym after in
      let up : true ≡ false =
      sym rises ∙ ap (λ (t : Bytes). is_below t (get_or (terms_in items) (n + 1) [])) first ∙ ap (λ (t : Bytes). is_below broken.before t) second ∙ broken.disorder in
      absurd (let no = up in cc)

  pub terms_sound : (group : ℕ) (rule_ : FormatRule) (at : ℕ) (seen : Bytes) → group < length (blocks (items_of entries)) → BreaksTerms (block (get_or (blocks (items_of entries)) group [])) rule_ at seen → ⊥
  terms_sound group rule_ at seen lt (inl count) =
      front_sound (get_or (blocks (items_of entries)) group []) rule_ at seen (is_block (blocks (items_of entries)) group (all_blocks (items_of entries) (are_small (items_of entries) (all_items bytes r entries has))) lt) count
  terms_sound group rule_ at seen lt (inr (inl entry)) =
      let items = items_of entries in
      let here = get_or (blocks items) group [] in
      let one = is_block (blocks items) group (all_blocks items (are_small items (all_items bytes r entries has))) lt in
      let within : entry.0 < length here = omega (arith, entry.1, count_is here one.fits) in
      let value = every_at (λ (i : Item). IsValue term_entry i) here entry.0 (record { term = []; bytes = [] }) (block_every (λ (i : Item). IsValue term_entry i) items group (values entries has.fit)) within in
      value_sound term_entry here entry.0 (record { term = []; bytes = [] }) value.value rule_ at seen one.fits within value.is value.fits entry.2
  terms_sound group rule_ at seen lt (inr (inr (inl order))) =
      let items = items_of entries in
      let here = get_or (blocks items) group [] in
      let one = is_block (blocks items) group (all_blocks items (are_small items (all_items bytes r entries has))) lt in
      order_sound group order.0 rule_ at seen lt (omega (arith, order.1, count_is here one.fits)) order.2
  terms_sound group rule_ at seen lt (inr (inr (inr next))) =
      let items = items_of entries in
      let here = get_or (blocks items) group [] in
      let d : Item = record { term = []; bytes = [] } in
      let one = is_block (blocks items) group (all_blocks items (are_small items (all_items bytes r entries has))) lt in
      let within : next.0 + 1 < length here = omega (arith, next.1, count_is here one.fits) in
      let value = every_at (λ (i : Item). IsValue term_entry i) here next.0 d (block_every (λ (i : Item). IsValue term_entry i) items group (values entries has.fit)) (omega (arith, within)) in
      next_sound here next.0 d value.value rule_ at seen one.fits within value.is value.fits next.2

  -- the trees of its entries can stand there
  pub trees_sound : (group index : ℕ) (rule_ : FormatRule) (at : ℕ) (seen : Bytes) → group < length (blocks (items_of entries)) → BreaksTree r.first index (block (get_or (blocks (items_of entries)) group [])) rule_ at seen → ⊥
  trees_sound group index rule_ at seen lt broken =
      let items = items_of entries in
      let here = get_or (blocks items) group [] in
      let d : Item = record { term = []; bytes = [] } in
      let one = is_block (blocks items) group (all_blocks items (are_small items (all_items bytes r entries has))) lt in
      let within : index < length here = omega (arith, broken.within, count_is here one.fits) in
      let value = every_at (λ (i : Item). IsEntry r.first i) here index d (block_every (λ (i : Item). IsEntry r.first i) items group (are_entries r.first entries has.fit has.trees)) within in
      let same : value.value ≡ broken.entry = one_entry term_entry (block here) index value.value broken.entry (value_begins term_entry here index d value.value one.fits within value.is value.fits) broken.has in
      refers r.first broken.tree value.value.list (ap (λ (e : TermEntry). e.list) same ∙ broken.list) value.tree broken.wrong

  -- and so have all entries the form that they have
  pub form_sound : (form : ListForm) (group index : ℕ) (rule_ : FormatRule) (at : ℕ) (seen : Bytes) → AllByRecursion (HasForm form) entries → group < length (blocks (items_of entries))
      → BreaksForm form index (block (get_or (blocks (items_of entries)) group [])) rule_ at seen → ⊥
  form_sound form group index rule_ at seen formed lt broken =
      let items = items_of entries in
      let here = get_or (blocks items) group [] in
      let d : Item = record { term = []; bytes = [] } in
      let one = is_block (blocks items) group (all_blocks items (are_small items (all_items bytes r entries has))) lt in
      let within : index < length here = omega (arith, broken.within, count_is here one.fits) in
      let value = every_at (λ (i : Item). IsFormed form i) here index d (block_every (λ (i : Item). IsFormed form i) items group (are_formed form entries has.fit formed)) within in
      let same : value.value ≡ broken.entry = one_entry term_entry (block here) index value.value broken.entry (value_begins term_entry here index d value.value one.fits within value.is value.fits) broken.has in
      broken.wrong (subst (λ (e : TermEntry). HasForm form e) same value.formed)
