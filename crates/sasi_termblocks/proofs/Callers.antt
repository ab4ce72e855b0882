-- For callers: a scan begins before the first entry, and what was written has the blocks.
use Rattle.std.proofs.Common.{◌≡◌, ℕ, ◌+◌, ◌*◌, ◌/◌, ◌^◌, ◌≤◌, List, length, take, drop, refl, sym, ap, ◌∙◌, subst, arith, ⊎_elim}
use Rattle.std.proofs.lemmas.Bool.Decides.{leb_tells}
use Rattle.std.proofs.lemmas.List.{length-take-le}
use Rattle.sasi_host.specs.Names.{Bytes}
use Rattle.sasi_host.specs.Damages.{HasAt}
use Rattle.sasi_host.specs.Disk.{overlay}
use Rattle.sasi_termblocks.specs.declared.block_ref.BlockRef.{BlockRef}
use Rattle.sasi_termblocks.specs.declared.term_entry.TermEntry.{TermEntry}
use Rattle.sasi_termblocks.specs.Blocks.{IsRefOf, blocks, items_of, levels_bytes}
use Rattle.sasi_termblocks.specs.Scans.{HasBlocks, HasPassed, HaveBytes, HaveTrees, IsRising, start_of, terms_of}
use Rattle.sasi_termblocks.specs.Scans.IsAt.{at_entry, at_end}
use Rattle.sasi_termblocks.proofs.CutLaws.{all_blocks}
use Rattle.sasi_termblocks.proofs.Groups.{are_small, is_block}
use Rattle.sasi_termblocks.proofs.Children.{all_items}

-- a new scan has passed no entry
pub begins : (bytes : Bytes) (r : BlockRef) (entries : List TermEntry) → HasBlocks bytes r entries → HasPassed r entries (r.first / 4096) 0 0
begins bytes r entries has =
    let groups = blocks (items_of entries) in
    let are = all_blocks (items_of entries) (are_small (items_of entries) (all_items bytes r entries has)) in
    ⊎_elim
    (λ none.
    let empty : length groups ≡ 0 = omega (arith, none.1) in
    at_end (omega (arith, has.aligned, empty)) refl (sym (ap (λ (n : ℕ). start_of groups n) empty)))
    (λ some. at_entry 0 some.1 (is_block groups 0 are some.1).some (omega (arith, has.aligned)) refl)
    (leb_tells (length groups) 0)

-- bytes over which the blocks of rising entries were written have them
pub written : (was : Bytes) (at page : ℕ) (r : BlockRef) (entries : List TermEntry) → at ≤ length was → at ≡ 4096 * page → IsRefOf at entries r → IsRising (terms_of entries) → HaveBytes entries → HaveTrees at entries
    → length (overlay was at (levels_bytes r.levels at (items_of entries))) ≤ 2 ^ 62 → HasBlocks (overlay was at (levels_bytes r.levels at (items_of entries))) r entries
written was at page r entries le aligned refers rising fit trees short =
    let put = levels_bytes r.levels at (items_of entries) in
    let stands : HasAt (overlay was at put) at put = record { front = take at was; rest = drop (at + length put) was; is = refl; offset_is = length-take-le at was le } in
    record {
      page = page;
      aligned = refers.first ∙ aligned;
      stands = subst (λ (n : ℕ). HasAt (overlay was at put) n (levels_bytes r.levels n (items_of entries))) (sym refers.first) stands;
      referred = subst (λ (n : ℕ). IsRefOf n entries r) (sym refers.first) refers;
      rising = rising;
      fit = fit;
      trees = subst (λ (n : ℕ). HaveTrees n entries) (sym refers.first) trees;
      short = short;
    }
