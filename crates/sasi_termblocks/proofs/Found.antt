-- What a search in a block, and a read of its entry, tell of all entries.
use Rattle.std.proofs.Common.{◌≡◌, ℕ, ◌+◌, ◌*◌, ◌<◌, ◌≤◌, Bool, true, false, List, [], ◌∷◌, ◌++◌, length, refl, sym, ap, ◌∙◌, subst, arith, ⊎_elim, inl, inr, rules}
use Rattle.std.proofs.lemmas.Bool.Decides.{leb_tells}
use Rattle.std.specs.Prelude.{get_or, nat_lt, if◌then◌else◌}
use Rattle.sasi_host.specs.Names.{Bytes}
use Rattle.sasi_host.specs.Damages.{HasAt}
use Rattle.sasi_host.specs.declared.damage.FormatRule.{FormatRule}
use Rattle.sasi_host.proofs.Offsets.{same_at}
use Rattle.sasi_formats.specs.Formats.{Format, Fits, encoded}
use Rattle.sasi_fields.specs.Reading.{Reading}
use Rattle.sasi_formats.specs.Reader.{Corruption, Got, Short, Long, Broken, start}
use Rattle.sasi_formats.specs.Failures.{Fails}
use Rattle.sasi_formats.proofs.Agreement.{is_encoded, reads_exactly}
use Rattle.sasi_termblocks.specs.declared.term_entry.TermEntry.{TermEntry}
use Rattle.sasi_termblocks.specs.Entries.{is_below, term, term_entry}
use Rattle.sasi_termblocks.specs.Blocks.{Item, block, size}
use Rattle.sasi_termblocks.specs.Windows.{BreaksEntry, BreaksNext, HasEntry, IsBound, bytes_in}
use Rattle.sasi_termblocks.specs.Windows.BreaksEntry.{offset, field}
use Rattle.sasi_termblocks.specs.Scans.{IsAt, start_of}
use Rattle.sasi_termblocks.specs.Scans.IsAt.{at_entry, at_end}
use Rattle.sasi_termblocks.proofs.CutLaws.{AreBlocks, block_length}
use Rattle.sasi_termblocks.proofs.BlockLaws.{StandsIn, entry_done, entry_read, entry_sound, entry_stands, next_offset, one_entry}
use Rattle.sasi_termblocks.proofs.Groups.{AreItems, IsItem, every_at, is_block, start_next}
use Rattle.sasi_termblocks.proofs.Levels.{IsSplit}

-- ---- the entries of a block

-- bytes of a block's length that stand where it stands are the block
pub block_is : (bytes window : Bytes) (at place : ℕ) (group : List Item) → size group ≤ 4096 → HasAt bytes place (block group) → at ≡ place → HasAt bytes at window → length window ≡ 4096 → window ≡ block group
block_is bytes window at place group le has is stands long =
    same_at bytes place window (block group) (subst (λ (n : ℕ). HasAt bytes n window) is stands) has (long ∙ sym (block_length group le))

-- each entry begins with its term
pub term_begins : (group : List Item) (index : ℕ) (d : Item) → AreItems group → size group ≤ 4096 → index < length group → HasEntry term (block group) index (get_or group index d).term
term_begins group index d are le lt =
    let item = every_at IsItem group index d are lt in
    let t = (get_or group index d).term in
    entry_read term (block group) index t (encoded term t) item.rest (is_encoded term t (encoded term t) item.fits refl)
    (subst (λ (l : Bytes). StandsIn (block group) index l) item.is (entry_stands group index d le lt))

-- a search in it splits its entries
pub bound_splits : (group : List Item) (sought : Bytes) (count below : ℕ) → AreItems group → size group ≤ 4096 → count ≡ length group → IsBound (block group) count sought below → IsSplit group sought below
bound_splits group sought count below are le count_same bound = record {
  within = omega (arith, bound.within, count_same);
  last = λ index d is.
      let found = bound.last index is in
      let same = one_entry term (block group) index found.0 (get_or group index d).term found.1 (term_begins group index d are le (omega (arith, is, bound.within, count_same))) in
      ap (λ (l : Bytes). is_below l sought) (sym same) ∙ found.2;
  next = λ d lt.
      let found = bound.next (omega (arith, lt, count_same)) in
      let same = one_entry term (block group) below found.0 (get_or group below d).term found.1 (term_begins group below d are le lt) in
      ap (λ (l : Bytes). is_below l sought) (sym same) ∙ found.2;
}

-- a value of a format in each of its entries
pub record IsValue {A : Type 0} (format : Format A) (item : Item) : Type 0 where
  pub value : A
  pub is : item.bytes ≡ encoded format value
  pub fits : Fits format value

pub value_stands : {A : Type 0} (format : Format A) (group : List Item) (index : ℕ) (d : Item) (v : A) → size group ≤ 4096 → index < length group → (get_or group index d).bytes ≡ encoded format v → StandsIn (block group) index (encoded format v ++ [])
value_stands format group index d v le lt is =
    subst (λ (l : Bytes). StandsIn (block group) index l) (is ∙ sym (nothing (encoded format v))) (entry_stands group index d le lt)
  where
    nothing : (l : Bytes) → l ++ [] ≡ l
    nothing [] = refl
    nothing (b ∷ l) = ap (λ (r : Bytes). b ∷ r) (nothing l)

pub value_begins : {A : Type 0} (format : Format A) (group : List Item) (index : ℕ) (d : Item) (v : A) → size group ≤ 4096 → index < length group → (get_or group index d).bytes ≡ encoded format v → Fits format v → HasEntry format (block group) index v
value_begins format group index d v le lt is fits =
    entry_read format (block group) index v (encoded format v) [] (is_encoded format v (encoded format v) fits refl) (value_stands format group index d v le lt is)

-- an entry that was read begins with its term
pub entry_begins : (block : Bytes) (index : ℕ) (e : TermEntry) → HasEntry term_entry block index e → HasEntry term block index e.term
entry_begins block index e has =
    let next = (reads_exactly term_entry (start (bytes_in block index)) has.0 e).0 has.1 in
    let parts = next.is.is in
    entry_read term block index e.term parts.front parts.behind parts.starts (record { behind = has.0.left; is = next.passes.next ∙ ap (λ (l : Bytes). l ++ has.0.left) parts.whole })

-- no such entry is broken
pub value_sound : {A : Type 0} (format : Format A) (group : List Item) (index : ℕ) (d : Item) (v : A) (broken : FormatRule) (at : ℕ) (seen : Bytes) → size group ≤ 4096 → index < length group → (get_or group index d).bytes ≡ encoded format v → Fits format v
    → BreaksEntry format (block group) index broken at seen → ⊥
value_sound {A = A} format group index d v broken at seen le lt is fits breaks = by broken at seen breaks
  where
    sound : (f : Corruption) → Fails format (start (bytes_in (block group) index)) f → ⊥
    sound f fails = entry_sound format (block group) index v (encoded format v) [] f (is_encoded format v (encoded format v) fits refl) (value_stands format group index d v le lt is) fails

    by : (broken : FormatRule) (at : ℕ) (seen : Bytes) → BreaksEntry format (block group) index broken at seen → ⊥
    by broken at seen (offset rule_is at_is seen_is (inl fails)) = sound Short fails
    by broken at seen (offset rule_is at_is seen_is (inr fails)) = sound Long fails
    by broken at seen (field inner at_is fails) = sound (Broken broken inner seen) fails

got_same : {A : Type 0} (a b : A) (s t : Reading) → Got a s ≡ Got b t → s ≡ t
got_same a b s t is = cc

-- and the next one stands where it ends
pub next_sound : (group : List Item) (index : ℕ) (d : Item) (v : TermEntry) (broken : FormatRule) (at : ℕ) (seen : Bytes) → size group ≤ 4096 → index + 1 < length group → (get_or group index d).bytes ≡ encoded term_entry v → Fits term_entry v
    → BreaksNext (block group) index broken at seen → ⊥
next_sound group index d v broken at seen le lt is fits breaks =
    let stands = value_stands term_entry group index d v le (omega (arith, lt)) is in
    let mine = entry_done term_entry (block group) index v (encoded term_entry v) [] (is_encoded term_entry v (encoded term_entry v) fits refl) stands in
    let has = breaks.has in
    let same = got_same v has.0 (record { done = encoded term_entry v; left = mine.0 }) has.1 (sym mine.1 ∙ has.2) in
    breaks.wrong (omega (arith, next_offset group index d le lt, ap (λ (l : Bytes). length l) is, ap (λ (r : Reading). length r.done) same, has.3))

-- ---- the entry at a position

-- behind an entry of a block stands the next one, in it or in the next block
pub steps : (first : ℕ) (groups : List (List Item)) (page group index passed new_page new_index : ℕ) → AreBlocks groups → group < length groups → index < length (get_or groups group []) → 4096 * page ≡ first + 4096 * group
    → passed ≡ start_of groups group + index → new_page ≡ (if nat_lt (index + 1) (length (get_or groups group [])) then page else page + 1) → new_index ≡ (if nat_lt (index + 1) (length (get_or groups group [])) then (index + 1) else 0)
    → IsAt first groups new_page new_index (passed + 1)
steps first groups page group index passed new_page new_index are lt within page_is passed_is new_page_is new_index_is = ⊎_elim
    (λ last.
    let here = start_next groups group lt in
    let test : nat_lt (index + 1) (length (get_or groups group [])) ≡ false = search (rules, last.1) in
    let to_page : new_page ≡ page + 1 = new_page_is ∙ ap (λ (t : Bool). if t then page else page + 1) test in
    let to_index : new_index ≡ 0 = new_index_is ∙ ap (λ (t : Bool). if t then (index + 1) else 0) test in
    ⊎_elim
    (λ over.
    let one : group + 1 ≡ length groups = omega (arith, over.1, lt) in
    at_end (omega (arith, to_page, page_is, one)) to_index (omega (arith, passed_is, here, last.1, within) ∙ ap (λ (n : ℕ). start_of groups n) one))
    (λ more. at_entry (group + 1) more.1 (omega (arith, to_index, (is_block groups (group + 1) are more.1).some)) (omega (arith, to_page, page_is)) (omega (arith, passed_is, here, last.1, within, to_index)))
    (leb_tells (length groups) (group + 1)))
    (λ inner.
    let test : nat_lt (index + 1) (length (get_or groups group [])) ≡ true = search (rules, inner.1) in
    let to_page : new_page ≡ page = new_page_is ∙ ap (λ (t : Bool). if t then page else page + 1) test in
    let to_index : new_index ≡ index + 1 = new_index_is ∙ ap (λ (t : Bool). if t then (index + 1) else 0) test in
    at_entry group lt (omega (arith, to_index, inner.1)) (omega (arith, to_page, page_is)) (omega (arith, passed_is, to_index)))
    (leb_tells (length (get_or groups group [])) (index + 1))

-- the split of a block is a position
pub split_at : (first : ℕ) (groups : List (List Item)) (page group below new_page new_index : ℕ) → AreBlocks groups → group < length groups → below ≤ length (get_or groups group []) → 4096 * page ≡ first + 4096 * group
    → new_page ≡ (if nat_lt below (length (get_or groups group [])) then page else page + 1) → new_index ≡ (if nat_lt below (length (get_or groups group [])) then below else 0)
    → IsAt first groups new_page new_index (start_of groups group + below)
split_at first groups page group below new_page new_index are lt within page_is new_page_is new_index_is = ⊎_elim
    (λ last.
    let here = start_next groups group lt in
    let test : nat_lt below (length (get_or groups group [])) ≡ false = search (rules, last.1) in
    let to_page : new_page ≡ page + 1 = new_page_is ∙ ap (λ (t : Bool). if t then page else page + 1) test in
    let to_index : new_index ≡ 0 = new_index_is ∙ ap (λ (t : Bool). if t then below else 0) test in
    ⊎_elim
    (λ over.
    let one : group + 1 ≡ length groups = omega (arith, over.1, lt) in
    at_end (omega (arith, to_page, page_is, one)) to_index (omega (arith, here, last.1, within) ∙ ap (λ (n : ℕ). start_of groups n) one))
    (λ more. at_entry (group + 1) more.1 (omega (arith, to_index, (is_block groups (group + 1) are more.1).some)) (omega (arith, to_page, page_is)) (omega (arith, here, last.1, within, to_index)))
    (leb_tells (length groups) (group + 1)))
    (λ inner.
    let test : nat_lt below (length (get_or groups group [])) ≡ true = search (rules, inner.1) in
    let to_page : new_page ≡ page = new_page_is ∙ ap (λ (t : Bool). if t then page else page + 1) test in
    let to_index : new_index ≡ below = new_index_is ∙ ap (λ (t : Bool). if t then below else 0) test in
    at_entry group lt (omega (arith, to_index, inner.1)) (omega (arith, to_page, page_is)) (omega (arith, to_index)))
    (leb_tells (length (get_or groups group [])) below)
