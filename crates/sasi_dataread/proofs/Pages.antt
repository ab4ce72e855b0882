-- What reading on costs, with a page buffered.
use Rattle.std.proofs.Common.{◌≡◌, ◌≢◌, ◌⊎◌, ℕ, zero, suc, add-one, [], ◌∷◌, ◌++◌, length, take, drop, sym, ◌∙◌, subst, length-append, ◌+◌, ◌-◌, ◌*◌, ◌/◌, ◌^◌, ◌<◌, ◌≤◌, Bool, Option, None, Some, inl, inr, ap, arith, ⊎_elim}
use Rattle.std.specs.Prelude.{if◌then◌else◌}
use Rattle.std.proofs.lemmas.Bool.Decides.{eqb_tells}
use Rattle.sasi_host.specs.Buffered.{Buffered, buffered_at, reached, unbuffered_pages}
use Rattle.sasi_host.proofs.Pages.{fresh_reaches}
use Rattle.sasi_types.specs.declared.tree.TreeRef.{TreeRef}
use Rattle.sasi_model.specs.Cells.{Partition}
use Rattle.sasi_host.specs.Names.{Bytes}
use Rattle.sasi_body.specs.Body.{body}
use Rattle.sasi_tokentree.specs.Damages.{pair_offset}
use Rattle.sasi_tokentree.specs.Scans.{PairScan, entry_cost, header_read, read_from}
use Rattle.sasi_tokentree.proofs.EntryPages.{header_short, read_behind}
use Rattle.sasi_datawrite.specs.Format.{Content, front, header, partition_bytes, partitions}
use Rattle.sasi_datawrite.proofs.Laws.{partition_length}
use Rattle.sasi_dataread.specs.Opened.{OpenDataFile}
use Rattle.sasi_dataread.specs.Bodies.{partition_reads}
use Rattle.sasi_dataread.specs.ReadCosts.{scan_of, IsSequential, ReadsEachPageOnce, file_pages, progress}

-- a page is that of an offset, or another
buffered_or_not : (page at : ℕ) → ((page ≡ at / 4096) × (buffered_at (Some page) at ≡ 1)) ⊎ ((page ≢ at / 4096) × (buffered_at (Some page) at ≡ 0))
buffered_or_not page at = ⊎_elim (λ yes. inl (yes.1, ap (λ (b : Bool). if b then 1 else 0) yes.0)) (λ no. inr (no.1, ap (λ (b : Bool). if b then 1 else 0) no.0)) (eqb_tells page (at / 4096))

at_most_one : (buffered : Option ℕ) (at : ℕ) → buffered_at buffered at ≤ 1
at_most_one None at = omega arith
at_most_one (Some page) at = ⊎_elim (λ yes. omega (arith, yes.1)) (λ no. omega (arith, no.1)) (buffered_or_not page at)

-- some bytes, and then those behind them, cost no more than all at once
pub fresh_on : (buffered : Option ℕ) (at n m : ℕ) → 0 < n → unbuffered_pages buffered at n + unbuffered_pages (Some ((at + n - 1) / 4096)) (at + n) m ≤ unbuffered_pages buffered at (n + m)
fresh_on buffered at n m some = ⊎_elim
    (λ yes. omega (arith, yes.0, yes.1, at_most_one buffered at))
    (λ no. omega (arith, no.0, no.1, at_most_one buffered at))
    (buffered_or_not ((at + n - 1) / 4096) (at + n))

pub few_pages : (buffered : Option ℕ) (at n : ℕ) → n ≤ 2 ^ 23 + 4 → unbuffered_pages buffered at n ≤ 2050
few_pages buffered at n le = omega (arith, le)

-- ---- a scan

-- the next pair is read from behind the one before it on
pair_behind : (tree : TreeRef) (index : ℕ) → pair_offset tree index + 16 ≡ read_from tree (index + 1)
pair_behind tree index =
    let same : pair_offset tree (index + 1 - 1) ≡ pair_offset tree index = ap (λ (n : ℕ). pair_offset tree n) (omega arith) in
    ap (λ (n : ℕ). n + 16) (sym same) ∙ sym (read_behind tree (index + 1) (omega arith))

-- what is read for it ends where it does
pair_ends : (tree : TreeRef) (index : ℕ) → read_from tree index + (16 + header_read index) ≡ pair_offset tree index + 16
pair_ends tree index = omega (arith, header_short index)

-- behind one more partition the next one begins
pub front_more : (content rest : Content) (passed : ℕ) (key : Bytes) (part : Partition) → drop passed content ≡ (key, part) ∷ rest → length
    (front (take (passed + 1) content)) ≡ length (front (take passed content)) + (4 + length (body key part))
front_more content rest passed key part left = rw add-one (from content passed left)
  where
    from : (content : Content) (passed : ℕ) → drop passed content ≡ (key, part) ∷ rest → length (front (take (suc passed) content)) ≡ length
        (front (take passed content)) + (4 + length (body key part))
    from [] zero left = absurd (cc)
    from [] (suc passed) left = absurd (cc)
    from (one ∷ others) zero left =
        let this : one ≡ (key, part) = cc in
        omega (
          arith,
          length-append header (partition_bytes one.0 one.1 ++ []),
          length-append (partition_bytes one.0 one.1) [],
          length-append header
              [],
          ap (λ (o : Bytes × Partition). length (partition_bytes o.0 o.1)) this,
          partition_length key part,
        )
    from (one ∷ others) (suc passed) left =
        let on = from others passed left in
        omega (
          arith,
          on,
          length-append header (partitions (take (suc passed) others)),
          length-append header (partitions (take passed others)),
          length-append header (partition_bytes one.0 one.1 ++ partitions (take (suc passed) others)),
          length-append header (partition_bytes one.0 one.1 ++ partitions (take passed others)),
          length-append (partition_bytes one.0 one.1) (partitions (take (suc passed) others)),
          length-append (partition_bytes one.0 one.1) (partitions (take passed others)),
        )

-- a partition further
pub reads_next_once : (bytes : Bytes) (content rest : Content) (opened : OpenDataFile) (tree after : PairScan) (buffered now : Buffered) (place : ℕ) (key : Bytes)
    (part : Partition) (r0 r1 r2 : ℕ) → tree.tree ≡ opened.tree → after.passed ≡ tree.passed + 1 → drop tree.passed content ≡ (key, part) ∷ rest
    → place ≡ length (front (take tree.passed content)) → pair_offset tree.tree tree.passed + 16 ≤ length bytes → place + (4 + length (body key part))
    ≤ length bytes → IsSequential bytes content (scan_of opened tree buffered)
    → r1 ≤ r0 + entry_cost tree.buffered.page tree.tree tree.passed → r2 ≤ r1 + partition_reads buffered.page place (length (body key part))
    → after.buffered.page ≡ Some ((pair_offset tree.tree tree.passed + 15) / 4096) → now.page ≡ Some ((place + 3 + length (body key part)) / 4096)
    → ReadsEachPageOnce bytes content r0 r2 (scan_of opened tree buffered) (scan_of opened after now)
reads_next_once bytes content rest opened tree after buffered now place key part r0 r1 r2 tree_is passed left place_is pair_within part_within sequential first second pairs_page page =
    let pp = pair_offset opened.tree tree.passed in
    let size = length (body key part) in
    let same : pair_offset tree.tree tree.passed ≡ pp = ap (λ (t : TreeRef). pair_offset t tree.passed) tree_is in
    let from = read_from opened.tree tree.passed in
    let long = 16 + header_read tree.passed in
    let one = fresh_reaches tree.buffered.page from long (omega arith) (λ p is. omega (arith, sequential.pairs p is)) in
    let ends = pair_ends opened.tree tree.passed in
    let two = fresh_reaches buffered.page place (4 + size) (omega arith) (λ p is. omega (arith, place_is, sequential.partitions p is)) in
    let fresh_same : entry_cost tree.buffered.page tree.tree tree.passed ≡ unbuffered_pages tree.buffered.page from long = ap (λ (t : TreeRef). entry_cost tree.buffered.page t tree.passed) tree_is in
    let reached_one : reached after.buffered.page ≡ suc ((pp + 15) / 4096) = ap reached pairs_page ∙ ap (λ (n : ℕ). suc ((n + 15) / 4096)) same in
    let reached_two : reached now.page ≡ suc ((place + 3 + size) / 4096) = ap reached page in
    record {
      sequential = record {
        pairs = λ p is.
            let this : p ≡ (pair_offset tree.tree tree.passed + 15) / 4096 = some_same p ((pair_offset tree.tree tree.passed + 15) / 4096) (sym is ∙ pairs_page) in
            let next : read_from opened.tree after.passed ≡ read_from opened.tree (tree.passed + 1) = ap (λ (n : ℕ). read_from opened.tree n) passed in
            omega (arith, this, same, next, pair_behind opened.tree tree.passed);
        partitions = λ p is.
            let this : p ≡ (place + 3 + size) / 4096 = some_same p ((place + 3 + size) / 4096) (sym is ∙ page) in
            let next : length (front (take after.passed content)) ≡ length (front (take (tree.passed + 1) content)) = ap (λ (n : ℕ). length (front (take n content))) passed in
            omega (arith, this, next, place_is, front_more content rest tree.passed key part left);
        pairs_within = omega (arith, reached_one, same, pair_within);
        within = omega (arith, reached_two, part_within);
      };
      pages = omega (arith, first, second, one, ends, two, fresh_same, reached_one, reached_two);
    }
  where
    some_same : (a b : ℕ) → Some a ≡ Some b → a ≡ b
    some_same a b is = cc

-- nothing further
pub reads_none : (bytes : Bytes) (content : Content) (opened : OpenDataFile) (tree after : PairScan) (buffered : Buffered) (r0 r1 : ℕ) → after ≡ tree → r1 ≤ r0 →
    IsSequential bytes content (scan_of opened tree buffered) → ReadsEachPageOnce bytes content r0 r1 (scan_of opened tree buffered) (scan_of opened after buffered)
reads_none bytes content opened tree after buffered r0 r1 same few sequential = subst
    (λ (w : PairScan). ReadsEachPageOnce bytes content r0 r1 (scan_of opened tree buffered) (scan_of opened w buffered)) (sym same)
    (record { sequential = sequential; pages = omega (arith, few) })

-- ---- a scan that stops

module _ (bytes : Bytes) (content : Content) (opened : OpenDataFile) (tree : PairScan) (buffered : Buffered) (r0 r1 : ℕ) (sequential : IsSequential bytes content (scan_of opened tree buffered)) (first : r1 ≤ r0 + entry_cost tree.buffered.page tree.tree tree.passed) (tree_is : tree.tree ≡ opened.tree) (pair_within : pair_offset tree.tree tree.passed + 16 ≤ length bytes) where
  pair_reaches : r1 + reached tree.buffered.page ≤ r0 + file_pages bytes
  pair_reaches =
      let same : pair_offset tree.tree tree.passed ≡ pair_offset opened.tree tree.passed = ap (λ (t : TreeRef). pair_offset t tree.passed) tree_is in
      let from = read_from opened.tree tree.passed in
      let long = 16 + header_read tree.passed in
      let one = fresh_reaches tree.buffered.page from long (omega arith) (λ p is. omega (arith, sequential.pairs p is)) in
      let fresh_same : entry_cost tree.buffered.page tree.tree tree.passed ≡ unbuffered_pages tree.buffered.page from long = ap (λ (t : TreeRef). entry_cost tree.buffered.page t tree.passed) tree_is in
      omega (arith, first, one, pair_ends opened.tree tree.passed, fresh_same, same, pair_within)

  -- at the next pair
  pub stops_at_pair : r1 + progress (scan_of opened tree buffered) ≤ r0 + 2 * file_pages bytes
  stops_at_pair = omega (arith, pair_reaches, sequential.within)

  -- or behind it, at its partition
  pub stops_behind_pair : (place size r2 : ℕ) → place ≡ length (front (take tree.passed content)) → place + (4 + size) ≤ length bytes → r2 ≤ r1 + partition_reads buffered.page place size → r2 + progress (scan_of opened tree buffered) ≤ r0 + 2 * file_pages bytes
  stops_behind_pair place size r2 place_is part_within second =
      let two = fresh_reaches buffered.page place (4 + size) (omega arith) (λ p is. omega (arith, place_is, sequential.partitions p is)) in
      omega (arith, pair_reaches, second, two, part_within)
