-- The pairs of a key tree, and their partitions.
use Rattle.std.specs.Prelude.{◌≡◌, ◌⊎◌, ℕ, zero, suc, ◌+◌, ◌-◌, ◌^◌, ◌<◌, ◌≤◌, List, [], ◌∷◌, ◌++◌, length, take, drop, map, refl}
use Rattle.std.proofs.Common.{sym, ◌∙◌, ap, subst, arith, append_assoc, length-append, length-drop, inl, inr, ⊎_elim, lit<}
use Rattle.std.proofs.lemmas.List.{drop_all}
use Rattle.std.proofs.lemmas.Bool.Decides.{leb_tells}
use Rattle.std.specs.List.Sorted.{IsStrictlySortedBy}
use Rattle.std.specs.Cmp.{nat_cmp_is}
use Rattle.std.specs.Ordering.{ordering_then}
use Rattle.std.specs.declared.cmp.Ordering.{Ordering}
use Rattle.std.specs.declared.cmp.Ordering.TheVariants.{Less, Greater}
use Rattle.sasi_types.specs.declared.partitioner.Partitioner.{Partitioner}
use Rattle.sasi_types.specs.declared.decorated_key.DecoratedKey.{DecoratedKey}
use Rattle.sasi_types.specs.declared.tree.Pair.{Pair}
use Rattle.sasi_types.specs.Key.{key_cmp}
use Rattle.sasi_types.specs.DecoratedKey.{decorated_cmp}
use Rattle.sasi_types.specs.Token.{token_of}
use Rattle.sasi_types.proofs.Tokens.{token_fits}
use Rattle.sasi_model.specs.Cells.{Partition}
use Rattle.sasi_host.specs.Names.{Bytes}
use Rattle.sasi_host.specs.View.{View}
use Rattle.sasi_tokentree.specs.Format.{pair_at, IsBefore, HasTree, tree_bytes}
use Rattle.sasi_datawrite.specs.Format.{Content, header, footer_bytes, front, decorated_key, key_pairs, pairs_from, partition_bytes, partitions}
use Rattle.sasi_datawrite.proofs.Laws.{partition_length, pairs_length}
use Rattle.sasi_dataread.specs.Opened.{OpenDataFile, StandsAt}
use Rattle.sasi_dataread.specs.Reads.{IsOpenOn}
use Rattle.sasi_dataread.proofs.Laws.{file_is, end_within, footer_of}
use Rattle.sasi_dataread.specs.Scans.{KeysAreBytes}

-- ---- they rise

pub less_token : (a b : DecoratedKey) → decorated_cmp a b ≡ Less → a.token ≤ b.token
less_token a b less = ⊎_elim
    (λ le. le.1)
    (λ gt. let is : Greater ≡ decorated_cmp a b = ap (λ (o : Ordering). ordering_then o (key_cmp a.key b.key)) (nat_cmp_is a.token b.token Greater gt.1) in absurd (cc))
    (leb_tells a.token b.token)

less_or_equal : (m n : ℕ) → m ≤ n → (m < n) ⊎ (m ≡ n)
less_or_equal m n le = grind arith

before : (a b : Pair) → a.token ≤ b.token → a.place < b.place → IsBefore a b
before a b le lt = ⊎_elim (λ less. inl less) (λ same. inr (same, lt)) (less_or_equal a.token b.token le)

-- they rise from one to the next, whatever the offset of the first partition
pub rising_from : (partitioner : Partitioner) (at : ℕ) (content : Content) → IsStrictlySortedBy decorated_cmp (map (decorated_key partitioner) content) →
    (index next : ℕ) → next ≡ suc index → next < length (pairs_from partitioner at content)
    → IsBefore (pair_at (pairs_from partitioner at content) index) (pair_at (pairs_from partitioner at content) next)
unfolding IsStrictlySortedBy
rising_from partitioner at [] sorted index next is lt = absurd (omega (arith, lt))
rising_from partitioner at (one ∷ []) sorted index next is lt = absurd (omega (arith, lt, is))
rising_from partitioner at (one ∷ two ∷ others) sorted zero next is lt =
    let P = pairs_from partitioner at (one ∷ two ∷ others) in
    subst (λ (n : ℕ). IsBefore (pair_at P 0) (pair_at P n)) (sym is)
    (before (record { token = token_of partitioner one.0; place = at })
    (record { token = token_of partitioner two.0; place = at + length (partition_bytes one.0 one.1) })
    (less_token (decorated_key partitioner one) (decorated_key partitioner two) sorted.0.0)
    (omega (arith, partition_length one.0 one.1)))
rising_from partitioner at (one ∷ two ∷ others) sorted (suc index) next is lt =
    let P = pairs_from partitioner at (one ∷ two ∷ others) in
    subst (λ (n : ℕ). IsBefore (pair_at P (suc index)) (pair_at P n)) (sym is)
    (rising_from partitioner (at + length (partition_bytes one.0 one.1)) (two ∷ others) sorted.1 index (suc index) refl (omega (arith, lt, is)))

-- ---- their numbers fit

fits_from : (partitioner : Partitioner) (at : ℕ) (content : Content) → KeysAreBytes content → at + length (partitions content) < 2 ^ 64 → (index : ℕ)
    → ((pair_at (pairs_from partitioner at content) index).token < 2 ^ 64) × ((pair_at (pairs_from partitioner at content) index).place < 2 ^ 64)
fits_from partitioner at [] have lt zero = (lit< tt, lit< tt)
fits_from partitioner at [] have lt (suc index) = (lit< tt, lit< tt)
fits_from partitioner at (one ∷ others) have lt zero = (token_fits partitioner one.0 have.0, omega (arith, lt))
fits_from partitioner at (one ∷ others) have lt (suc index) =
    fits_from partitioner (at + length (partition_bytes one.0 one.1)) others have.1 (omega (arith, lt, length-append (partition_bytes one.0 one.1) (partitions others))) index

-- the file has the key tree
pub has_tree : (v : View) (opened : OpenDataFile) (partitioner : Partitioner) (content : Content) (is : IsOpenOn v opened partitioner content) → KeysAreBytes content → length is.bytes ≤ 2 ^ 62 → HasTree is.bytes opened.tree (key_pairs partitioner content)
has_tree v opened partitioner content is have short = record {
  front = front content;
  rest = footer_bytes (footer_of partitioner content);
  is = is.data_file.is ∙ file_is partitioner content ∙ regroup (front content) (tree_bytes (length (front content)) (key_pairs partitioner content)) (footer_bytes (footer_of partitioner content));
  referred = is.of.tree;
  rising = λ index lt. rising_from partitioner (length header) content is.data_file.content_is.rising index (index + 1) (omega arith) lt;
  fit = fits_from partitioner (length header) content have (omega (arith, short, end_within partitioner opened.types is.bytes content is.data_file, length-append header (partitions content)));
}
  where
    regroup : (a b c : Bytes) → a ++ (b ++ c) ≡ (a ++ b) ++ c
    regroup a b c = simp append_assoc

-- ---- their partitions

-- this pair is that of the partition with this index, where the first one is at an offset
pub record IsNth (partitioner : Partitioner) (at : ℕ) (content : Content) (index : ℕ) (pair : Pair) : Type 0 where
  pub one : Bytes × Partition
  pub left : drop index content ≡ one ∷ drop (suc index) content
  pub parts : content ≡ take index content ++ one ∷ drop (suc index) content
  pub pair_is : pair ≡ record { token = token_of partitioner one.0; place = at + length (partitions (take index content)) }

pub nth : (partitioner : Partitioner) (at : ℕ) (content : Content) (index : ℕ) (pair : Pair) (rest : List Pair) → drop index
    (pairs_from partitioner at content) ≡ pair ∷ rest → IsNth partitioner at content index pair
nth partitioner at [] zero pair rest is = absurd (cc)
nth partitioner at [] (suc index) pair rest is = absurd (cc)
nth partitioner at (one ∷ others) zero pair rest is =
    let first : pair ≡ record { token = token_of partitioner one.0; place = at } = cc in
    record { one = one; left = refl; parts = refl; pair_is = first ∙ ap (λ (n : ℕ). pair_of n) (omega arith) }
  where
    pair_of : ℕ → Pair
    pair_of n = record { token = token_of partitioner one.0; place = n }
nth partitioner at (one ∷ others) (suc index) pair rest is =
    let n = nth partitioner (at + length (partition_bytes one.0 one.1)) others index pair rest is in
    record {
      one = n.one;
      left = n.left;
      parts = ap (λ (l : Content). one ∷ l) n.parts;
      pair_is = n.pair_is ∙ ap (λ (k : ℕ). pair_of n.one k) (omega (arith, length-append (partition_bytes one.0 one.1) (partitions (take index others))));
    }
  where
    pair_of : Bytes × Partition → ℕ → Pair
    pair_of o k = record { token = token_of partitioner o.0; place = k }

-- the partition is at the offset of its pair
pub nth_stands : (partitioner : Partitioner) (content : Content) (index : ℕ) (pair : Pair) (n : IsNth partitioner (length header) content index pair) → StandsAt content pair.place n.one.0 n.one.1
nth_stands partitioner content index pair n = record {
  before = take index content;
  behind = drop (suc index) content;
  is = n.parts;
  begins = ap (λ (p : Pair). p.place) n.pair_is ∙ sym (length-append header (partitions (take index content)));
}

pub nth_token : (partitioner : Partitioner) (at : ℕ) (content : Content) (index : ℕ) (pair : Pair) (n : IsNth partitioner at content index pair) → pair.token ≡ token_of partitioner n.one.0
nth_token partitioner at content index pair n = ap (λ (p : Pair). p.token) n.pair_is

-- ---- what is left of them

pub drops_same : (content : Content) (n m : ℕ) → length content - n ≡ length content - m → drop n content ≡ drop m content
drops_same [] n m is = drop_all n [] (omega arith) ∙ sym (drop_all m [] (omega arith))
drops_same (one ∷ others) zero zero is = refl
drops_same (one ∷ others) zero (suc m) is = absurd (omega (arith, is))
drops_same (one ∷ others) (suc n) zero is = absurd (omega (arith, is))
drops_same (one ∷ others) (suc n) (suc m) is = drops_same others n m (omega (arith, is))

-- as many partitions are left behind an index as pairs
pub as_many_left : (partitioner : Partitioner) (content : Content) (index after : ℕ) (pair : Pair) → drop index (key_pairs partitioner content) ≡ pair
    ∷ drop after (key_pairs partitioner content) → (index < length content) × (length content - suc index ≡ length content - after)
as_many_left partitioner content index after pair is =
    let pairs = key_pairs partitioner content in
    let taken : length (drop index pairs) ≡ length (pair ∷ drop after pairs) = ap (λ (l : List Pair). length l) is in
    let here = length-drop index pairs in
    let there = length-drop after pairs in
    let all = pairs_length partitioner (length header) content in
    (omega (arith, taken, here, there, all), omega (arith, taken, here, there, all))

-- what is left behind a pair is left behind its partition
pub left_behind : (partitioner : Partitioner) (content : Content) (index after : ℕ) (pair : Pair) → drop index (key_pairs partitioner content) ≡ pair
    ∷ drop after (key_pairs partitioner content) → drop (suc index) content ≡ drop after content
left_behind partitioner content index after pair is = drops_same content (suc index) after (as_many_left partitioner content index after pair is).1

pub none_left : (partitioner : Partitioner) (content : Content) (index : ℕ) → drop index (key_pairs partitioner content) ≡ [] → drop index content ≡ []
none_left partitioner content index is =
    drop_all index content (omega (arith, ap (λ (l : List Pair). length l) is, length-drop index (key_pairs partitioner content), pairs_length partitioner (length header) content))
