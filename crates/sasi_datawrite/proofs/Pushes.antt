-- One more partition in a writer.
use Rattle.std.proofs.Common.{◌≡◌, ℕ, ◌+◌, ◌-◌, ◌^◌, ◌<◌, ◌≤◌, List, [], ◌∷◌, ◌++◌, length, take, drop, inl, inr, ◌⊎◌, ⊎_elim, sym, ◌∙◌, ap, subst, arith, length-append}
use Rattle.std.specs.Prelude.{max}
use Rattle.std.specs.Int.{to_be_bytes, w32}
use Rattle.std.proofs.lemmas.List.{get_or_append_left, get_or_at, length_push, drop_at, drop_all, take_all, append-nil}
use Rattle.sasi_types.specs.declared.tree.Pair.{Pair}
use Rattle.sasi_types.specs.Token.{token_of}
use Rattle.sasi_model.specs.Cells.{Partition, max_timestamp_of}
use Rattle.sasi_host.specs.Names.{Bytes}
use Rattle.sasi_host.specs.View.{View, Holds}
use Rattle.sasi_tokentree.specs.Format.{pair_at, IsBefore, IsRising}
use Rattle.sasi_datawrite.specs.Format.{Content, partition_bytes, front, header, partitions, key_pairs, content_max_timestamp, trailer, data_bytes}
use Rattle.sasi_datawrite.specs.Writing.{Writer, IsWriting, RiseBelow, last_pair}
use Rattle.sasi_datawrite.proofs.Laws.{front_push, pairs_push, content_max_timestamp_push}

-- ---- its bytes

-- the length is put in front of what stands behind the first four bytes
pub length_put : (room bytes : Bytes) → length room ≡ 4 → to_be_bytes w32 (length (room ++ bytes) - 4) ++ drop 4 (room ++ bytes) ≡ to_be_bytes w32 (length bytes) ++ bytes
length_put room bytes is =
    ap (λ (l : Bytes). to_be_bytes w32 (length (room ++ bytes) - 4) ++ l) (drop_at room bytes 4 is)
    ∙ ap (λ (n : ℕ). to_be_bytes w32 n ++ bytes) (omega (arith, is, length-append room bytes))

-- the same once the bytes are written back to their list
pub length_set : (out set room bytes : Bytes) (len : ℕ) → length room ≡ 4 → out ≡ room ++ bytes → len ≡ length out → set ≡ to_be_bytes w32
    (length out - 4) ++ drop 4 out → take len (set ++ drop (length set) out) ≡ to_be_bytes w32 (length bytes) ++ bytes
length_set out set room bytes len four put same is =
    let set_is : set ≡ to_be_bytes w32 (length bytes) ++ bytes = is ∙ ap (λ (l : Bytes). to_be_bytes w32 (length l - 4) ++ drop 4 l) put ∙ length_put room bytes four in
    let long : length set ≡ length out = omega (
      arith,
      four,
      ap (λ (l : Bytes). length l) set_is,
      ap (λ (l : Bytes). length l) put,
      length-append room
          bytes,
      length-append (to_be_bytes w32 (length bytes)) bytes,
    ) in
    ap (λ (l : Bytes). take len (set ++ l)) (drop_all (length set) out (omega (arith, long))) ∙ ap (λ (l : Bytes). take len l) (append-nil set) ∙ take_all len set (omega (arith, long, same)) ∙ set_is

-- ---- its pair

less_or_equal : (m n : ℕ) → m ≤ n → (m < n) ⊎ (m ≡ n)
less_or_equal m n le = grind arith

-- a pair is before one with a token not below its own, and an offset above its own
before : (a b : Pair) → a.token ≤ b.token → a.place < b.place → IsBefore a b
before a b le lt = ⊎_elim (λ less. inl less) (λ same. inr (same, lt)) (less_or_equal a.token b.token le)

-- a pair behind others is the last one
pub last_push : (pairs : List Pair) (pair : Pair) → last_pair (pairs ++ pair ∷ []) ≡ pair
last_push pairs pair = get_or_at pairs pair [] (record { token = 0; place = 0 }) (length (pairs ++ pair ∷ []) - 1) (omega (arith, length_push pairs pair))

-- and comes behind the one before it
last_before : (pairs : List Pair) (pair : Pair) → IsBefore (last_pair pairs) pair → (index : ℕ) → index + 1 ≡ length pairs → IsBefore
    (pair_at (pairs ++ pair ∷ []) index) (pair_at (pairs ++ pair ∷ []) (index + 1))
last_before pairs pair is_before index is =
    let left : pair_at (pairs ++ pair ∷ []) index ≡ last_pair pairs = get_or_append_left pairs (pair ∷ []) (record { token = 0; place = 0 }) index
    (omega (arith, is)) ∙ ap (λ (n : ℕ). pair_at pairs n) (omega (arith, is)) in
    let right : pair_at (pairs ++ pair ∷ []) (index + 1) ≡ pair = get_or_at pairs pair [] (record { token = 0; place = 0 }) (index + 1) (sym is) in
    subst (λ (p : Pair). IsBefore p (pair_at (pairs ++ pair ∷ []) (index + 1))) (sym left) (subst (λ (p : Pair). IsBefore (last_pair pairs) p) (sym right) is_before)

-- the others stay as they are
others_before : (pairs : List Pair) (pair : Pair) → IsRising pairs → (index : ℕ) → index + 1 < length pairs → IsBefore (pair_at (pairs ++ pair ∷ []) index) (pair_at (pairs ++ pair ∷ []) (index + 1))
others_before pairs pair rising index lt =
    let left : pair_at (pairs ++ pair ∷ []) index ≡ pair_at pairs index = get_or_append_left pairs (pair ∷ []) (record { token = 0; place = 0 }) index (omega (arith, lt)) in
    let right : pair_at (pairs ++ pair ∷ []) (index + 1) ≡ pair_at pairs (index + 1) = get_or_append_left pairs (pair ∷ []) (record { token = 0; place = 0 }) (index + 1) lt in
    subst (λ (p : Pair). IsBefore p (pair_at (pairs ++ pair ∷ []) (index + 1))) (sym left) (subst (λ (p : Pair). IsBefore (pair_at pairs index) p) (sym right) (rising index lt))

-- pairs rise with one more behind them
pub up_to_push : (pairs : List Pair) (pair : Pair) (place next : ℕ) → RiseBelow pairs place → (last_pair pairs).token ≤ pair.token → pair.place ≡ place →
    place < next → next ≤ 2 ^ 62 → RiseBelow (pairs ++ pair ∷ []) next
up_to_push pairs pair place next up le at lt fits = record {
  rising = λ index within.
      ⊎_elim (λ less. others_before pairs pair up.rising index less) (λ same. last_before pairs pair (before (last_pair pairs) pair le (omega (arith, at, up.below))) index same)
      (less_or_equal (index + 1) (length pairs) (omega (arith, within, length_push pairs pair)));
  below = subst (λ (p : Pair). p.place < next) (sym (last_push pairs pair)) (omega (arith, at, lt));
  fits = fits;
}

-- where there is no pair, none is at the offset of the first partition or behind it
pub up_to_none : (pairs : List Pair) → pairs ≡ [] → RiseBelow pairs 16
up_to_none pairs none = subst (λ (l : List Pair). RiseBelow l 16) (sym none) (record {
  rising = λ index within. absurd (omega (arith, within));
  below = omega arith;
  fits = omega arith;
})

-- ---- what it has written

-- the content has one more partition, where the file has its bytes behind the others
pub writing_push : (v w : View) (old new : Writer) (key : Bytes) (part : Partition) → new.file ≡ old.file → new.partitioner ≡ old.partitioner →
    new.pairs ≡ old.pairs ++ record { token = token_of old.partitioner key; place = old.offset } ∷ []
    → new.offset ≡ old.offset + length (partition_bytes key part) → new.max_timestamp ≡ max old.max_timestamp (max_timestamp_of part) →
    ((bytes : Bytes) → length bytes ≡ old.offset → Holds v old.file bytes → Holds w old.file (bytes ++ partition_bytes key part))
    → (content : Content) → IsWriting v old content → IsWriting w new (content ++ (key, part) ∷ [])
writing_push v w old new key part same_file same_partitioner pushed moved later written content is = record {
  pairs = pushed ∙ ap (λ (n : ℕ). old.pairs ++ pair_of n ∷ []) (is.offset_is ∙ length-append header (partitions content)) ∙ ap
      (λ (l : List Pair). l ++ pair_of (length header + length (partitions content)) ∷ []) is.pairs
      ∙ sym (pairs_push old.partitioner (length header) content key part) ∙ ap (λ p. key_pairs p (content ++ (key, part) ∷ [])) (sym same_partitioner);
  offset_is = moved ∙ ap (λ (n : ℕ). n + length (partition_bytes key part)) is.offset_is ∙ sym (length-append (front content) (partition_bytes key part)) ∙ ap
      (λ (l : Bytes). length l) (sym (front_push content key part));
  max_timestamp = later ∙ ap (λ (n : ℕ). max n (max_timestamp_of part)) is.max_timestamp ∙ sym (content_max_timestamp_push content key part);
  holds = subst (λ file. Holds w file (front (content ++ (key, part) ∷ []))) (sym same_file)
      (subst (λ (l : Bytes). Holds w old.file l) (sym (front_push content key part)) (written (front content) (sym is.offset_is) is.holds));
}
  where
    pair_of : ℕ → Pair
    pair_of n = record { token = token_of old.partitioner key; place = n }

-- a file in which nothing stands but the header
pub writing_none : (w : View) (writer : Writer) (bytes : Bytes) → writer.pairs ≡ [] → writer.offset ≡ 16 → writer.max_timestamp ≡ 0 → bytes ≡ header → Holds w writer.file bytes → IsWriting w writer []
unfolding header
writing_none w writer bytes none at first is holds = record {
  pairs = none;
  offset_is = at;
  max_timestamp = first;
  holds = subst (λ (l : Bytes). Holds w writer.file l) is holds;
}

-- and the key tree and the footer make it a data file
pub writing_ends : (v w : View) (writer : Writer) → ((bytes : Bytes) → length bytes ≡ writer.offset → Holds v writer.file bytes → Holds w writer.file
    (bytes ++ trailer writer.pairs writer.max_timestamp writer.offset))
    → (content : Content) → IsWriting v writer content → Holds w writer.file (data_bytes writer.partitioner content)
unfolding data_bytes
writing_ends v w writer written content is =
    subst (λ (l : Bytes). Holds w writer.file (front content ++ l)) (ap (λ (l : List Pair). trailer l writer.max_timestamp writer.offset) is.pairs ∙ ap
    (λ (n : ℕ). trailer (key_pairs writer.partitioner content) n writer.offset) is.max_timestamp ∙ ap
    (λ (n : ℕ). trailer (key_pairs writer.partitioner content) (content_max_timestamp content) n) is.offset_is)
    (written (front content) (sym is.offset_is) is.holds)
