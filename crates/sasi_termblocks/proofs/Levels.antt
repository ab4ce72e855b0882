-- The levels of a file's blocks, and the way down them.
use Rattle.std.proofs.Common.{◌≡◌, ℕ, zero, suc, ◌+◌, ◌-◌, ◌*◌, ◌<◌, ◌≤◌, true, false, List, [], ◌∷◌, length, refl, sym, ap, ◌∙◌, subst, arith, ⊎_elim}
use Rattle.std.proofs.lemmas.Bool.Decides.{leb_tells}
use Rattle.std.proofs.lemmas.List.{length-map}
use Rattle.std.specs.Prelude.{get_or}
use Rattle.sasi_host.specs.Names.{Bytes}
use Rattle.sasi_host.specs.Damages.{HasAt}
use Rattle.sasi_host.proofs.Offsets.{first_at, second_at, inner_at}
use Rattle.sasi_termblocks.specs.Entries.{is_below}
use Rattle.sasi_termblocks.specs.Blocks.{Item, EndsAfter, above, block, blocks, first_term, first_terms, level_bytes, levels_bytes, next_at, top_of}
use Rattle.sasi_termblocks.specs.Scans.{CountsBelow, IsRising, start_of}
use Rattle.sasi_termblocks.specs.Descents.{IsFor, level_at, level_items}
use Rattle.sasi_termblocks.proofs.CutLaws.{AreBlocks, all_blocks}
use Rattle.sasi_termblocks.proofs.LevelLaws.{pointers_length}
use Rattle.sasi_termblocks.proofs.Orders.{above_on, counts_by}
use Rattle.sasi_termblocks.proofs.Groups.{AreItems, are_small, block_stands, blocks_length, is_block, item_at, item_within, joined, joined_blocks, least_at, least_is, leasts_rise, leasts_short, pointer_terms, pointers_are, start_end, start_next, term_at, terms_in}

-- ---- one level above another

pub items_up : (level at : ℕ) (items : List Item) → level_items (suc level) at items ≡ above (level_at level at items) (level_items level at items)
items_up zero at items = refl
items_up (suc level) at items = items_up level (next_at at items) (above at items)

pub at_up : (level at : ℕ) (items : List Item) → level_at (suc level) at items ≡ next_at (level_at level at items) (level_items level at items)
at_up zero at items = refl
at_up (suc level) at items = at_up level (next_at at items) (above at items)

above_are : (at : ℕ) (items : List Item) → AreItems items → AreItems (above at items)
above_are at items are = pointers_are at (first_terms items) (leasts_short items are)

above_rise : (at : ℕ) (items : List Item) → AreItems items → IsRising (terms_in items) → IsRising (terms_in (above at items))
above_rise at items are rising = subst (λ (l : List Bytes). IsRising l) (sym (pointer_terms at (first_terms items))) (leasts_rise items are rising)

pub level_are : (level at : ℕ) (items : List Item) → AreItems items → AreItems (level_items level at items)
level_are zero at items are = are
level_are (suc level) at items are = level_are level (next_at at items) (above at items) (above_are at items are)

pub level_rise : (level at : ℕ) (items : List Item) → AreItems items → IsRising (terms_in items) → IsRising (terms_in (level_items level at items))
level_rise zero at items are rising = rising
level_rise (suc level) at items are rising = level_rise level (next_at at items) (above at items) (above_are at items are) (above_rise at items are rising)

-- entries have blocks
pub some_blocks : (items : List Item) → 0 < length items → 0 < length (blocks items)
some_blocks items some = from (blocks items) (joined_blocks items)
  where
    from : (groups : List (List Item)) → joined groups ≡ items → 0 < length groups
    from [] is = absurd (omega (arith, some, ap (λ (l : List Item). length l) is))
    from (first ∷ others) is = omega arith

above_some : (at : ℕ) (items : List Item) → 0 < length items → 0 < length (above at items)
above_some at items some = omega (arith, some_blocks items some, pointers_length at (first_terms items), length-map (blocks items) first_term)

pub level_some : (level at : ℕ) (items : List Item) → 0 < length items → 0 < length (level_items level at items)
level_some zero at items some = some
level_some (suc level) at items some = level_some level (next_at at items) (above at items) (above_some at items some)

-- ---- where the levels stand

pub level_stands : (level more at : ℕ) (items : List Item) (bytes : Bytes) → level ≤ more → AreItems items → HasAt bytes at (levels_bytes more at items)
    → HasAt bytes (level_at level at items) (level_bytes (level_items level at items))
unfolding levels_bytes
level_stands zero zero at items bytes le are has = has
level_stands zero (suc more) at items bytes le are has = first_at bytes at (level_bytes items) (levels_bytes more (next_at at items) (above at items)) has
level_stands (suc level) zero at items bytes le are has = absurd (omega (arith, le))
level_stands (suc level) (suc more) at items bytes le are has =
    let next : at + length (level_bytes items) ≡ next_at at items = omega (arith, blocks_length (blocks items) (all_blocks items (are_small items are))) in
    level_stands level more (next_at at items) (above at items) bytes (omega (arith, le)) (above_are at items are)
    (subst (λ (n : ℕ). HasAt bytes n (levels_bytes more (next_at at items) (above at items))) next
    (second_at bytes at (level_bytes items) (levels_bytes more (next_at at items) (above at items)) has))

-- a block of a level
pub level_block : (level more at : ℕ) (items : List Item) (bytes : Bytes) (group : ℕ) → level ≤ more → AreItems items → HasAt bytes at (levels_bytes more at items)
    → group < length (blocks (level_items level at items)) → HasAt bytes (level_at level at items + 4096 * group) (block (get_or (blocks (level_items level at items)) group []))
level_block level more at items bytes group le are has lt =
    let here = level_items level at items in
    inner_at bytes (level_at level at items) (level_bytes here) (4096 * group) (block (get_or (blocks here) group [])) (level_stands level more at items bytes le are has)
    (block_stands (blocks here) group (all_blocks here (are_small here (level_are level at items are))) lt)

-- the last level
pub last_level : (more at : ℕ) (items : List Item) → EndsAfter more at items → length (blocks (level_items more at items)) ≤ 1
unfolding EndsAfter
last_level zero at items ends = ends
last_level (suc more) at items ends = last_level more (next_at at items) (above at items) ends.1

pub top_at : (more at : ℕ) (items : List Item) → top_of more at items ≡ level_at more at items
unfolding top_of
top_at zero at items = refl
top_at (suc more) at items = top_at more (next_at at items) (above at items)

-- ---- one block down

-- so many of the entries of a block are below the term, as far as their neighbours tell
pub record IsSplit (group : List Item) (sought : Bytes) (below : ℕ) : Type 0 where
  pub within : below ≤ length group
  pub last : (index : ℕ) (d : Item) → below ≡ index + 1 → is_below (get_or group index d).term sought ≡ true
  pub next : (d : Item) → below < length group → is_below (get_or group below d).term sought ≡ false

no_item : Item
no_item = record { term = []; bytes = [] }

-- what is known of the term at an index of all entries
module _ (items : List Item) (sought : Bytes) (group below : ℕ) (are : AreItems items) (rising : IsRising (terms_in items)) (is_for : IsFor (blocks items) sought group)
    (split : IsSplit (get_or (blocks items) group []) sought below) where
  abbrev groups : List (List Item)
  groups = blocks items

  abbrev here : List Item
  here = get_or (blocks items) group []

  abbrev start : ℕ
  start = start_of (blocks items) group

  pub blocks_are : AreBlocks (blocks items)
  blocks_are = all_blocks items (are_small items are)

  pub some_here : 0 < length (get_or (blocks items) group [])
  some_here = (is_block (blocks items) group blocks_are is_for.within).some

  pub all_length : length (joined (blocks items)) ≡ length (terms_in items)
  all_length = ap (λ (l : List Item). length l) (joined_blocks items) ∙ sym (length-map items (λ (i : Item). i.term))

  pub within_all : (index : ℕ) → index < length (get_or (blocks items) group []) → start_of (blocks items) group + index < length (terms_in items)
  within_all index lt = omega (arith, item_within (blocks items) group index is_for.within lt, all_length)

  pub term_here : (index : ℕ) → index < length (get_or (blocks items) group []) → get_or (terms_in items) (start_of (blocks items) group + index) [] ≡ (get_or (get_or (blocks items) group []) index (record { term = []; bytes = [] })).term
  term_here index lt =
      let d : Item = record { term = []; bytes = [] } in
      term_at items (start_of (blocks items) group + index) d (omega (arith, within_all index lt, length-map items (λ (i : Item). i.term)))
      ∙ ap (λ (l : List Item). (get_or l (start_of (blocks items) group + index) d).term) (sym (joined_blocks items))
      ∙ ap (λ (i : Item). i.term) (item_at (blocks items) group index d is_for.within lt)

  least_of : (index : ℕ) → index < length (blocks items) → get_or (terms_in items) (start_of (blocks items) index) [] ≡ first_term (get_or (blocks items) index [])
  least_of index lt = ap (λ (l : List Item). get_or (terms_in l) (start_of (blocks items) index) []) (sym (joined_blocks items)) ∙ sym (least_is (blocks items) index blocks_are lt)

  start_zero : group ≡ 0 → start_of (blocks items) group ≡ 0
  start_zero is = ap (λ (n : ℕ). start_of (blocks items) n) is

  -- the first entry of the block is below the term, where it isn't the first block
  first_below : 0 < group → is_below (get_or (terms_in items) (start_of (blocks items) group) []) sought ≡ true
  first_below some = ap (λ (l : Bytes). is_below l sought) (least_of group is_for.within) ∙ is_for.last some

  -- and so is that before the split
  last_below : (index : ℕ) → below ≡ index + 1 → is_below (get_or (terms_in items) (start_of (blocks items) group + index) []) sought ≡ true
  last_below index is =
      ap (λ (l : Bytes). is_below l sought) (term_here index (omega (arith, is, split.within))) ∙ split.last index (record { term = []; bytes = [] }) is

  -- the one behind it isn't
  next_here : below < length (get_or (blocks items) group []) → is_below (get_or (terms_in items) (start_of (blocks items) group + below) []) sought ≡ false
  next_here lt = ap (λ (l : Bytes). is_below l sought) (term_here below lt) ∙ split.next (record { term = []; bytes = [] }) lt

  next_block : below ≡ length (get_or (blocks items) group []) → start_of (blocks items) group + below < length (terms_in items) → group + 1 < length (blocks items)
  next_block all lt = ⊎_elim
      (λ over.
      let one : group + 1 ≡ length (blocks items) = omega (arith, over.1, is_for.within) in
      absurd
      (omega (arith, lt, all, start_next (blocks items) group is_for.within, ap (λ (n : ℕ). start_of (blocks items) n) one, start_end (blocks items), all_length)))
      (λ within. within.1)
      (leb_tells (length (blocks items)) (group + 1))

  pub next_above : start_of (blocks items) group + below < length (terms_in items) → is_below (get_or (terms_in items) (start_of (blocks items) group + below) []) sought ≡ false
  next_above lt = ⊎_elim
      (λ all.
      let whole : below ≡ length (get_or (blocks items) group []) = omega (arith, all.1, split.within) in
      let more = next_block whole lt in
      let same : start_of (blocks items) (group + 1) ≡ start_of (blocks items) group + below = omega (arith, whole, start_next (blocks items) group is_for.within) in
      ap (λ (l : Bytes). is_below l sought) (ap (λ (n : ℕ). get_or (terms_in items) n []) (sym same) ∙ least_of (group + 1) more) ∙ is_for.next more)
      (λ within. next_here within.1)
      (leb_tells (length (get_or (blocks items) group [])) below)

  -- so many of all the terms are below
  pub all_below : CountsBelow (terms_in items) sought (start_of (blocks items) group + below)
  all_below =
      counts_by (terms_in items) sought (start_of (blocks items) group + below) rising within last next_above
    where
      within : start_of (blocks items) group + below ≤ length (terms_in items)
      within = ⊎_elim
          (λ none. omega (arith, none.1, within_all 0 some_here))
          (λ some. omega (arith, within_all (below - 1) (omega (arith, some.1, split.within)), some.1))
          (leb_tells below 0)

      last : (index : ℕ) → start_of (blocks items) group + below ≡ index + 1 → is_below (get_or (terms_in items) index []) sought ≡ true
      last index is = ⊎_elim
          (λ none.
          let zero_below : below ≡ 0 = omega (arith, none.1) in
          ⊎_elim
          (λ first. absurd (omega (arith, is, zero_below, start_zero (omega (arith, first.1)))))
          (λ later.
          let up = first_below later.1 in
          let down : is_below (get_or (terms_in items) (start_of (blocks items) group) []) sought ≡ false =
          ap (λ (n : ℕ). is_below (get_or (terms_in items) n []) sought) (omega (arith, zero_below)) ∙ next_here (omega (arith, zero_below, some_here)) in
          absurd (let both : true ≡ false = sym up ∙ down in cc))
          (leb_tells group 0))
          (λ some.
          ap (λ (n : ℕ). is_below (get_or (terms_in items) n []) sought) (omega (arith, is, some.1)) ∙ last_below (below - 1) (omega (arith, some.1)))
          (leb_tells below 0)

  -- the entry in front of the split, or the first one of the block, points to the block below
  pub split_index : below - 1 < length (get_or (blocks items) group [])
  split_index = omega (arith, split.within, some_here)

  pub child_last : 0 < start_of (blocks items) group + (below - 1) → is_below (get_or (terms_in items) (start_of (blocks items) group + (below - 1)) []) sought ≡ true
  child_last some = ⊎_elim
      (λ none.
      let same : start_of (blocks items) group ≡ start_of (blocks items) group + (below - 1) = omega (arith, none.1) in
      ⊎_elim
      (λ first. absurd (omega (arith, some, none.1, start_zero (omega (arith, first.1)))))
      (λ later. ap (λ (n : ℕ). is_below (get_or (terms_in items) n []) sought) (sym same) ∙ first_below later.1)
      (leb_tells group 0))
      (λ more. last_below (below - 1) (omega (arith, more.1)))
      (leb_tells below 0)

  pub child_next : start_of (blocks items) group + (below - 1) + 1 < length (terms_in items) → is_below (get_or (terms_in items) (start_of (blocks items) group + (below - 1) + 1) []) sought ≡ false
  child_next lt = ⊎_elim
      (λ none.
      let zero_below : below ≡ 0 = omega (arith, none.1) in
      let same : start_of (blocks items) group + (below - 1) ≡ start_of (blocks items) group + below = omega (arith, zero_below) in
      let this = ap (λ (n : ℕ). is_below (get_or (terms_in items) n []) sought) same ∙ next_here (omega (arith, zero_below, some_here)) in
      above_on (get_or (terms_in items) (start_of (blocks items) group + (below - 1)) []) (get_or (terms_in items) (start_of (blocks items) group + (below - 1) + 1) []) sought this
      (rising (start_of (blocks items) group + (below - 1)) lt))
      (λ some.
      let same : start_of (blocks items) group + (below - 1) + 1 ≡ start_of (blocks items) group + below = omega (arith, some.1) in
      ap (λ (n : ℕ). is_below (get_or (terms_in items) n []) sought) same ∙ next_above (omega (arith, same, lt)))
      (leb_tells below 0)

-- the block below
pub block_below : (at : ℕ) (items : List Item) (sought : Bytes) (group below : ℕ) → AreItems items → IsRising (terms_in items) → IsFor (blocks (above at items)) sought group
    → IsSplit (get_or (blocks (above at items)) group []) sought below → IsFor (blocks items) sought (start_of (blocks (above at items)) group + (below - 1))
block_below at items sought group below are rising is_for split =
    let up = above at items in
    let up_are = above_are at items are in
    let up_rise = above_rise at items are rising in
    let terms = pointer_terms at (first_terms items) in
    let count : length (terms_in up) ≡ length (blocks items) = ap (λ (l : List Bytes). length l) terms ∙ length-map (blocks items) first_term in
    let child = start_of (blocks up) group + (below - 1) in
    let told : (n : ℕ) → get_or (terms_in up) n [] ≡ first_term (get_or (blocks items) n []) = λ n. ap (λ (l : List Bytes). get_or l n []) terms ∙ least_at (blocks items) n in
    record {
      within = omega (arith, count, within_all up sought group below up_are up_rise is_for split (below - 1) (split_index up sought group below up_are up_rise is_for split));
      last = λ some. ap (λ (l : Bytes). is_below l sought) (sym (told child)) ∙ child_last up sought group below up_are up_rise is_for split some;
      next = λ more. ap (λ (l : Bytes). is_below l sought) (sym (told (child + 1))) ∙ child_next up sought group below up_are up_rise is_for split (omega (arith, more, count));
    }
