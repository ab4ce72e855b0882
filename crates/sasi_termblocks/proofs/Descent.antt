-- The way down the levels, from the top block to a term block.
use Rattle.std.proofs.Common.{◌≡◌, ℕ, zero, suc, ◌+◌, ◌*◌, ◌/◌, ◌%◌, ◌<◌, Bool, true, false, List, length, Option, Ok, None, Some, refl, sym, ap, ◌∙◌, subst, arith, rules}
use Rattle.std.specs.Prelude.{◌==◌, if◌then◌else◌}
use Rattle.sasi_host.specs.declared.name.FileName.{FileName}
use Rattle.sasi_host.specs.Names.{Bytes, Folder}
use Rattle.sasi_host.specs.View.{View, IsThere, ReadCost, contents}
use Rattle.sasi_host.specs.Buffered.{Buffered}
use Rattle.sasi_host.proofs.CauseLaws.{ok_reads, reads_on}
use Rattle.sasi_host.proofs.ContentLaws.{contents_same, there_where}
use Rattle.sasi_host.specs.Disk.{Changes, Same}
use Rattle.sasi_host.specs.PageReading.{CanReadOn, HasReadOn}
use Rattle.sasi_termblocks.specs.declared.block_ref.BlockRef.{BlockRef}
use Rattle.sasi_termblocks.specs.declared.term_entry.TermEntry.{TermEntry}
use Rattle.sasi_termblocks.specs.Blocks.{Item, above, blocks, items_of, next_at, top_pointer}
use Rattle.sasi_termblocks.specs.Damages.{Leads}
use Rattle.sasi_termblocks.specs.Damages.Leads.{top}
use Rattle.sasi_termblocks.specs.Descents.{IsPageFor, high_page, level_at, level_items, low_page, page_of_top}
use Rattle.sasi_termblocks.specs.Scans.{HasBlocks}
use Rattle.sasi_termblocks.proofs.CutLaws.{all_blocks}
use Rattle.sasi_termblocks.proofs.Groups.{are_small, is_block, item_within, joined_blocks}
use Rattle.sasi_termblocks.proofs.Levels.{last_level, level_some, some_blocks, top_at}
use Rattle.sasi_termblocks.proofs.Children.{all_items}

pub level_aligned : (level at : ℕ) (items : List Item) → at % 4096 ≡ 0 → level_at level at items % 4096 ≡ 0
level_aligned zero at items is = is
level_aligned (suc level) at items is = level_aligned level (next_at at items) (above at items) (omega (arith, is))

-- the page of the top block
module _ (bytes : Bytes) (r : BlockRef) (page : ℕ) (page_is : page ≡ page_of_top r) where
  pub top_low : r.levels ≡ 0 → page ≡ r.first / 4096
  top_low none =
      let test : (r.levels == 0) ≡ true = search (rules, none) in
      page_is ∙ ap (λ (t : Bool). (if t then r.first else r.top) / 4096) test

  pub top_high : 0 < r.levels → page ≡ r.top / 4096
  top_high some =
      let test : (r.levels == 0) ≡ false = search (rules, some) in
      page_is ∙ ap (λ (t : Bool). (if t then r.first else r.top) / 4096) test

  pub top_leads : (level : ℕ) → level ≡ r.levels → 0 < level → Leads bytes r level page
  top_leads level is some = top level page some is (top_high (omega (arith, is, some)))

  pub top_for : (entries : List TermEntry) (level : ℕ) (sought : Bytes) → HasBlocks bytes r entries → level ≡ r.levels → 0 < r.blocks → IsPageFor r.first entries level sought page
  top_for entries level sought has level_is some =
      let items = items_of entries in
      let blocks_are = all_blocks items (are_small items (all_items bytes r entries has)) in
      let first_is : 0 < length (blocks items) = omega (arith, some, has.referred.blocks_are) in
      let items_some : 0 < length items = omega (arith, item_within (blocks items) 0 0 first_is (is_block (blocks items) 0 blocks_are first_is).some, ap (λ (l : List Item). length l) (joined_blocks items)) in
      let one = last_level r.levels r.first items has.referred.levels_are in
      subst (λ (n : ℕ). IsPageFor r.first entries n sought page) (sym level_is) (record {
        group = 0;
        page_is = omega (arith, at_top r.levels refl);
        is_for = record {
          within = some_blocks (level_items r.levels r.first items) (level_some r.levels r.first items items_some);
          last = λ none. absurd (omega (arith, none));
          next = λ more. absurd (omega (arith, more, one));
        };
      })
    where
      at_top : (n : ℕ) → r.levels ≡ n → 4096 * page ≡ level_at r.levels r.first (items_of entries)
      at_top zero is = omega (arith, top_low is, has.aligned, ap (λ (n : ℕ). level_at n r.first (items_of entries)) is)
      at_top (suc more) is =
          let place : r.top ≡ level_at r.levels r.first (items_of entries) =
          has.referred.top_is ∙ ap (λ (n : ℕ). top_pointer n r.first (items_of entries)) is ∙ top_at (suc more) r.first (items_of entries) ∙ ap (λ (n : ℕ). level_at n r.first (items_of entries)) (sym is) in
          omega (arith, top_high (omega (arith, is)), place, level_aligned r.levels r.first (items_of entries) (omega (arith, has.aligned)))

-- ---- a level further down

pub low_is : (r : BlockRef) (level : ℕ) → level ≡ 1 → low_page r level ≡ r.first / 4096
low_is r level is = let test : (level == 1) ≡ true = search (rules, is) in ap (λ (t : Bool). if t then (r.first / 4096) else (r.first / 4096 + r.blocks)) test

pub high_is : (r : BlockRef) (level page : ℕ) → level ≡ 1 → high_page r level page ≡ r.first / 4096 + r.blocks
high_is r level page is = let test : (level == 1) ≡ true = search (rules, is) in ap (λ (t : Bool). if t then (r.first / 4096 + r.blocks) else page) test

-- a reader may go on
pub can_read_on : (K L : Option Folder → Type 0) (A B : FileName → Type 0) (u v : View) (h i : Buffered) → CanReadOn K u h → HasReadOn L A B u v h i → CanReadOn L v i
can_read_on K L A B u v h i can read = record {
  there = subst (λ (n : FileName). IsThere v n) (sym read.file) (there_where u v Same h.file read.changes (contents_same u v h.file read.changes) can.there);
  agrees = read.agrees;
  buffered = read.buffered;
}

pub still_reads : (u v : View) (was now : FileName) (bytes : Bytes) → Changes Same u v → now ≡ was → contents u was ≡ Some bytes → contents v now ≡ Some bytes
still_reads u v was now bytes change same is = contents_same u v now change ∙ ap (λ (f : FileName). contents u f) same ∙ is

pub costs_more : {T : Type 0} (a b c : View) (n m : ℕ) (x : T) → m ≡ n + 1 → ReadCost {T = Unit {0}} n a b (Ok tt) → ReadCost 1 b c (Ok x) → ReadCost {T = Unit {0}} m a c (Ok tt)
costs_more a b c n m x is one two = ok_reads a c m x tt (reads_on a b c n 1 m tt (Ok x) (omega (arith, is)) one two)

pub files_same : (a b : View) → Changes Same a b → b.files ≡ a.files
files_same a b change = by a.files refl
  where
    by : (o : Option Folder) → a.files ≡ o → b.files ≡ a.files
    by None is = change.untold is ∙ sym is
    by (Some f) is = let now = change.seen f is in now.1 ∙ ap (λ (x : Folder). Some x) now.2 ∙ sym is
