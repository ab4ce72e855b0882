-- How many entries a search counts as below a token, in any file.
use Rattle.std.proofs.Common.{◌≡◌, ℕ, ◌+◌, ◌-◌, ◌*◌, ◌^◌, ◌<◌, ◌≤◌, Option, Some, None, inr, sym, ap, subst, arith}
use borrow.Author.Count.{below_more}
use Rattle.sasi_types.specs.declared.tree.Pair.{Pair}
use Rattle.sasi_types.specs.declared.tree.TreeRef.{TreeRef}
use Rattle.sasi_host.specs.declared.name.FileName.{FileName}
use Rattle.sasi_host.specs.Names.{Bytes}
use Rattle.sasi_host.specs.View.{View, contents}
use Rattle.sasi_host.specs.Buffered.{Buffered}
use Rattle.sasi_host.specs.Damages.{HasAt}
use Rattle.sasi_host.proofs.Offsets.{inner_at}
use Rattle.sasi_tokentree.specs.Format.{entry, node_header, IsBefore}
use Rattle.sasi_tokentree.specs.Damages.{start}
use Rattle.sasi_tokentree.specs.Reads.{HasNodeEntry, CountsInNode, CountsDown}
use Rattle.sasi_tokentree.specs.Scans.{PairScan, PassesOne, StepsBehindCounted}
use Rattle.sasi_tokentree.proofs.NodeParts.{pair_fits}

-- ---- the entries of a node, one after another

-- the entry with this index is below
abbrev pub IsSmaller : Bytes → ℕ → ℕ → ℕ → Type 0
IsSmaller bytes count token index = (pair : Pair) × HasNodeEntry bytes 0 count index pair × (pair.token < token)

-- the one with this index comes after the one before it, if there is one
abbrev pub IsAfterLast : Bytes → ℕ → ℕ → Type 0
IsAfterLast bytes count index = 0 < index → (last : Pair) × (pair : Pair) × HasNodeEntry bytes 0 count (index - 1) last × HasNodeEntry bytes 0 count index pair × IsBefore last pair

pub entry_read : (bytes : Bytes) (count index : ℕ) (pair : Pair) → index < count → HasAt bytes (8 + 16 * index) (entry pair) → pair.token < 2 ^ 64 → pair.place < 2 ^ 64 → HasNodeEntry bytes 0 count index pair
entry_read bytes count index pair lt stands token_fits offset_fits =
    let same : 8 + 16 * index ≡ 0 + (8 + 16 * index) = omega arith in
    record { within = lt; stands = subst (λ (n : ℕ). HasAt bytes n (entry pair)) same stands; fit = pair_fits pair token_fits offset_fits }

pub one_smaller : (bytes : Bytes) (count token index : ℕ) (pair : Pair) → HasNodeEntry bytes 0 count index pair → pair.token < token → ((k : ℕ) → k < index → IsSmaller bytes count token k)
    → (k : ℕ) → k < index + 1 → IsSmaller bytes count token k
one_smaller bytes count token index pair here less before = below_more (IsSmaller bytes count token) index before (pair, here, less)

pub one_after : (bytes : Bytes) (count index : ℕ) (last pair : Pair) → (0 < index → HasNodeEntry bytes 0 count (index - 1) last) → HasNodeEntry bytes 0 count index pair → (0 < index → IsBefore last pair)
    → ((k : ℕ) → k < index → IsAfterLast bytes count k) → (k : ℕ) → k < index + 1 → IsAfterLast bytes count k
one_after bytes count index last pair there here before rises = below_more (IsAfterLast bytes count) index rises (λ some. (last, pair, there some, here, before some))

next_after : (bytes : Bytes) (count index : ℕ) → IsAfterLast bytes count (index + 1) → (last : Pair) × (pair : Pair) × HasNodeEntry bytes 0 count index last × HasNodeEntry bytes 0 count (index + 1) pair × IsBefore last pair
next_after bytes count index after =
    let two = after (omega arith) in
    let same : index + 1 - 1 ≡ index = omega arith in
    (two.0, two.1, subst (λ (n : ℕ). HasNodeEntry bytes 0 count n two.0) same two.2, two.3, two.4)

-- up to one that isn't below
pub counts_to : (bytes : Bytes) (level count token index : ℕ) (pair : Pair) → HasAt bytes 0 (node_header level count) → HasNodeEntry bytes 0 count index pair → token ≤ pair.token
    → ((k : ℕ) → k < index → IsSmaller bytes count token k) → ((k : ℕ) → k < index + 1 → IsAfterLast bytes count k) → CountsInNode bytes level 0 count token index
counts_to bytes level count token index pair header here reached smaller rises = record {
  header = header;
  within = omega (arith, here.within);
  smaller = smaller;
  next = λ lt. (pair, here, reached);
  rising = λ k lt more. next_after bytes count k (rises (k + 1) (omega (arith, lt)));
}

-- or of all
pub counts_all : (bytes : Bytes) (level count token index : ℕ) → index ≡ count → HasAt bytes 0 (node_header level count)
    → ((k : ℕ) → k < index → IsSmaller bytes count token k) → ((k : ℕ) → k < index → IsAfterLast bytes count k) → CountsInNode bytes level 0 count token count
counts_all bytes level count token index all header smaller rises = record {
  header = header;
  within = omega arith;
  smaller = λ k lt. smaller k (omega (arith, lt, all));
  next = λ lt. absurd (omega (arith, lt));
  rising = λ k lt more. next_after bytes count k (rises (k + 1) (omega (arith, more, all)));
}

-- ---- in its file

entry_there : (bytes : Bytes) (at : ℕ) (window : Bytes) (count index : ℕ) (pair : Pair) → HasAt bytes at window → HasNodeEntry window 0 count index pair → HasNodeEntry bytes at count index pair
entry_there bytes at window count index pair has one =
    let same : at + (0 + (8 + 16 * index)) ≡ at + (8 + 16 * index) = omega arith in
    record { within = one.within; stands = subst (λ (n : ℕ). HasAt bytes n (entry pair)) same (inner_at bytes at window (0 + (8 + 16 * index)) (entry pair) has one.stands); fit = one.fit }

pub counts_there : (bytes : Bytes) (at : ℕ) (window : Bytes) (level count token below : ℕ) → HasAt bytes at window → CountsInNode window level 0 count token below → CountsInNode bytes level at count token below
counts_there bytes at window level count token below has counts =
    let same : at + 0 ≡ at = omega arith in
    record {
      header = subst (λ (n : ℕ). HasAt bytes n (node_header level count)) same (inner_at bytes at window 0 (node_header level count) has counts.header);
      within = counts.within;
      smaller = λ k lt. let one = counts.smaller k lt in (one.0, entry_there bytes at window count k one.0 has one.1, one.2);
      next = λ lt. let one = counts.next lt in (one.0, entry_there bytes at window count below one.0 has one.1, one.2);
      rising = λ k lt more.
          let two = counts.rising k lt more in
          (two.0, two.1, entry_there bytes at window count k two.0 has two.2, entry_there bytes at window count (k + 1) two.1 has two.3, two.4);
    }

-- ---- the pair behind them

pub steps_behind : (v : View) (file : FileName) (tree : TreeRef) (token begin : ℕ) (before after : Buffered) (count passed : ℕ) (found : Option Pair) → begin ≡ start tree
    → ((bytes : Bytes) → contents v file ≡ Some bytes → CountsDown bytes token 0 begin tree.pairs count)
    → PassesOne (record { buffered = before; tree = tree; passed = count; last = None }) (record { buffered = after; tree = tree; passed = passed; last = None }) found → StepsBehindCounted v file tree token passed found
steps_behind v file tree token begin before after count passed None is counts ends =
    let same : passed ≡ count = ap (λ (s : PairScan). s.passed) ends.1 in
    (omega (arith, ends.0, same), λ bytes reads. inr (subst (λ (n : ℕ). CountsDown bytes token 0 (start tree) tree.pairs n) (sym same) (subst (λ (n : ℕ). CountsDown bytes token 0 n tree.pairs count) is (counts bytes reads))))
steps_behind v file tree token begin before after count passed (Some pair) is counts ends =
    (count, ends.1, λ bytes reads. subst (λ (n : ℕ). CountsDown bytes token 0 n tree.pairs count) is (counts bytes reads))
