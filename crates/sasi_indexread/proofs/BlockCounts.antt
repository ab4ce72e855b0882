-- How many blocks entries take: each block but the last one has three at least.
use Rattle.std.specs.Prelude.{ℕ, ◌+◌, ◌*◌, ◌<◌, ◌≤◌, List, [], ◌∷◌, ◌++◌, length}
use Rattle.std.proofs.Common.{sym, subst, arith, ⊎_elim}
use Rattle.std.proofs.lemmas.Bool.Decides.{leb_tells}
use Rattle.std.proofs.lemmas.List.{length_push}
use Rattle.std.specs.List.{fold}
use Rattle.sasi_termblocks.specs.Blocks.{Cut, Item, add, blocks, cut_of, size, with_last}
use Rattle.sasi_termblocks.specs.Writing.{AreSmall}
use Rattle.sasi_termblocks.proofs.CutLaws.{IsCut, add_is, cut_add, room_kept, room_made}

-- so many entries were cut so, with three at least in each full block
record IsWide (count : ℕ) (c : Cut) : Type 0 where
  pub cut : IsCut count c
  pub three : 3 * length c.full + length c.last ≤ count

wide_add : (count : ℕ) (c : Cut) (item : Item) → length item.bytes ≤ 1200 → IsWide count c → IsWide (count + 1) (add c item)
wide_add count c item small is = record {
  cut = cut_add count c item small is.cut;
  three = ⊎_elim
      (λ fits.
      subst (λ (d : Cut). 3 * length d.full + length d.last ≤ count + 1) (sym (add_is c c item (room_kept (length item.bytes) c fits.1)))
      (omega (arith, length_push c.last item, is.three)))
      (λ full.
      let d : Cut = record { full = c.full ++ c.last ∷ []; last = [] } in
      let many : 3 ≤ length c.last = omega (arith, small, full.1, is.cut.last_small) in
      subst (λ (e : Cut). 3 * length e.full + length e.last ≤ count + 1) (sym (add_is c d item (room_made (length item.bytes) c full.1)))
      (omega (arith, many, length_push c.full c.last, is.three)))
      (leb_tells (size c.last + (2 + length item.bytes)) 4096);
}

wide_all : (items : List Item) (count : ℕ) (c : Cut) → AreSmall items → IsWide count c → IsWide (count + length items) (fold add c items)
wide_all [] count c small is = subst (λ (n : ℕ). IsWide n c) (omega arith) is
wide_all (item ∷ others) count c small is =
    subst (λ (n : ℕ). IsWide n (fold add (add c item) others)) (omega arith) (wide_all others (count + 1) (add c item) small.1 (wide_add count c item small.0 is))

wide_cut : (items : List Item) → AreSmall items → IsWide (length items) (cut_of items)
unfolding cut_of
wide_cut items small =
    subst (λ (n : ℕ). IsWide n (fold add (record { full = []; last = [] }) items)) (omega arith)
    (wide_all items 0 (record { full = []; last = [] }) small (record {
      cut = record { full_are = tt; last_fits = omega arith; last_small = omega arith; many = omega arith; most = omega arith };
      three = omega arith;
    }))

last_wide : (full : List (List Item)) (last : List Item) (count : ℕ) → 1 ≤ length (with_last full last) → 3 * length full + length last ≤ count → 3 * length (with_last full last) < count + 3
last_wide full [] count some three = omega (arith, three)
last_wide full (first ∷ others) count some three = omega (arith, three, length_push full (first ∷ others))

-- so it has more than three times as many entries as blocks in front of the last one
pub blocks_wide : (items : List Item) → AreSmall items → 1 ≤ length (blocks items) → 3 * length (blocks items) < length items + 3
blocks_wide items small some = last_wide (cut_of items).full (cut_of items).last (length items) some (wide_cut items small).three

last_holds : (full : List (List Item)) (last : List Item) (count : ℕ) → size last ≤ 4096 → count ≤ 2047 * length full + length last → count ≤ 2047 * length (with_last full last)
last_holds full [] count fits most = omega (arith, most)
last_holds full (first ∷ others) count fits most = omega (arith, fits, most, length_push full (first ∷ others))

-- and a block has fewer entries than bytes
pub blocks_hold : (items : List Item) → AreSmall items → length items ≤ 2047 * length (blocks items)
blocks_hold items small = let cut = (wide_cut items small).cut in last_holds (cut_of items).full (cut_of items).last (length items) cut.last_fits cut.most
