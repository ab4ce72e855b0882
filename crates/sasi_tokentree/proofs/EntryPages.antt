-- How many pages an entry is read from that aren't buffered.
use Rattle.std.specs.Prelude.{◌≡◌, ◌≢◌, ◌⊎◌, ℕ, ◌+◌, ◌-◌, ◌*◌, ◌/◌, ◌%◌, ◌<◌, ◌≤◌, Bool, if◌then◌else◌, Option, Some}
use Rattle.std.proofs.Common.{◌∙◌, ap, arith, inl, inr, subst, sym, ⊎_elim}
use Rattle.std.proofs.lemmas.Bool.Decides.{eqb_tells, leb_tells, nat_tests}
use Rattle.sasi_types.specs.declared.tree.Pair.{Pair}
use Rattle.sasi_types.specs.declared.tree.TreeRef.{TreeRef}
use Rattle.sasi_host.specs.Buffered.{pages_of, buffered_at, unbuffered_pages}
use Rattle.sasi_tokentree.specs.Damages.{pair_offset}
use Rattle.sasi_tokentree.specs.Scans.{PairScan, IsEntryBuffered, entry_cost, header_read, read_from}

-- a node lies on at most two pages
pub node_pages : (page : Option ℕ) (at n : ℕ) → n ≤ 4088 → unbuffered_pages page at n ≤ 2
node_pages page at n le = over (buffered_at page at)
  where
    over : (h : ℕ) → pages_of at n - h ≤ 2
    over h = omega (arith, le)

-- the header is read with the first entry of a leaf, and with no other one
pub header_cases : (index : ℕ) → ((index % 255 ≡ 0) × (header_read index ≡ 8)) ⊎ ((index % 255 ≢ 0) × (header_read index ≡ 0))
unfolding header_read
header_cases index = ⊎_elim
    (λ first. inl (first.1, ap (λ (b : Bool). if b then 8 else 0) first.0))
    (λ other. inr (other.1, ap (λ (b : Bool). if b then 8 else 0) other.0))
    (eqb_tells (index % 255) 0)

pub header_short : (index : ℕ) → header_read index ≤ 8
header_short index = ⊎_elim (λ first. omega (arith, first.1)) (λ other. omega (arith, other.1)) (header_cases index)

-- so an entry is read from at most two pages
pub entry_pages : (page : Option ℕ) (tree : TreeRef) (index : ℕ) → entry_cost page tree index ≤ 2
entry_pages page tree index = node_pages page (read_from tree index) (16 + header_read index) (omega (arith, header_short index))

-- the next one is read from behind the one before it on
pub read_behind : (tree : TreeRef) (passed : ℕ) → 0 < passed → read_from tree passed ≡ pair_offset tree (passed - 1) + 16
read_behind tree passed some = ⊎_elim
    (λ first. omega (arith, some, first.0, first.1))
    (λ other. omega (arith, some, other.0, other.1))
    (header_cases passed)

-- where the page on which that one ends is buffered, at most one more is read
behind_pages : (before n : ℕ) → n ≤ 24 → unbuffered_pages (Some ((before + 15) / 4096)) (before + 16) n ≤ 1
behind_pages before n le = over (buffered_at (Some ((before + 15) / 4096)) (before + 16)) first
  where
    first : (before + 15) / 4096 ≡ (before + 16) / 4096 → buffered_at (Some ((before + 15) / 4096)) (before + 16) ≡ 1
    first is = grind (arith, nat_tests)

    over : (h : ℕ) → ((before + 15) / 4096 ≡ (before + 16) / 4096 → h ≡ 1) → pages_of (before + 16) n - h ≤ 1
    over h same = ⊎_elim
        (λ here. omega (arith, same (omega (arith, here.1)), here.1, le))
        (λ behind. omega (arith, behind.1, le))
        (leb_tells ((before + 16) / 4096) ((before + 15) / 4096))

-- behind a pair that was read, the next one costs at most one page more
pub next_entry_cost : (w : PairScan) (pair : Pair) → 0 < w.passed → IsEntryBuffered w (Some pair) → entry_cost w.buffered.page w.tree w.passed ≤ 1
next_entry_cost w pair some entry_buffered =
    let n = 16 + header_read w.passed in
    subst (λ (p : Option ℕ). unbuffered_pages p (read_from w.tree w.passed) n ≤ 1) (sym entry_buffered)
    (subst (λ (at : ℕ). unbuffered_pages (Some ((pair_offset w.tree (w.passed - 1) + 15) / 4096)) at n ≤ 1) (sym (read_behind w.tree w.passed some))
    (behind_pages (pair_offset w.tree (w.passed - 1)) n (omega (arith, header_short w.passed))))

-- ---- what the reads of one pair cost

same_pages : (page : Option ℕ) (at place n m : ℕ) → at ≡ place → n ≡ m → unbuffered_pages page at n ≡ unbuffered_pages page place m
same_pages page at place n m at_is n_is = ap (λ (k : ℕ). unbuffered_pages page k n) at_is ∙ ap (λ (k : ℕ). unbuffered_pages page place k) n_is

-- of one that begins a leaf
pub first_pages : (page : Option ℕ) (at index : ℕ) → index % 255 ≡ 0 → unbuffered_pages page (at + 4088 * (index / 255)) 24
    ≡ unbuffered_pages page (at + 4088 * (index / 255) + (8 + 16 * (index % 255)) - header_read index) (16 + header_read index)
first_pages page at index first = same_pages page _ _ _ _ (omega (arith, first, read)) (omega (arith, read))
  where
    read : header_read index ≡ 8
    read = ⊎_elim (λ yes. yes.1) (λ no. absurd (no.0 first)) (header_cases index)

-- of another one
pub later_pages : (page : Option ℕ) (place index : ℕ) → index % 255 ≢ 0 → unbuffered_pages page place 16
    ≡ unbuffered_pages page (place - header_read index) (16 + header_read index)
later_pages page place index later = same_pages page _ _ _ _ (omega (arith, read)) (omega (arith, read))
  where
    read : header_read index ≡ 0
    read = ⊎_elim (λ yes. absurd (later yes.0)) (λ no. no.1) (header_cases index)
