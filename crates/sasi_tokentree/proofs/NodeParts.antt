-- The fields of a node, by its bytes.
use Rattle.std.proofs.Common.{◌≡◌, ℕ, zero, suc, add-zero, ◌+◌, ◌-◌, ◌*◌, ◌^◌, ◌<◌, ◌≤◌, List, [], ◌∷◌, ◌++◌, length, take, drop, refl, sym, ◌∙◌, ap, subst, arith, append_assoc, lit<, ⊎_elim}
use Rattle.std.proofs.lemmas.List.{take_at, drop_at, take-take, drop-take, drop-drop, drop_more, drop_all}
use Rattle.std.proofs.lemmas.Nat.{from_be_bytes-to_be_bytes_8}
use Rattle.std.proofs.Math.Seq.{take-add}
use Rattle.std.specs.List.{flat_map}
use Rattle.std.specs.Int.{to_be_bytes, from_be_bytes, w16, w64}
use Rattle.sasi_types.specs.declared.tree.Pair.{Pair}
use Rattle.sasi_host.specs.declared.name.FileName.{FileName}
use Rattle.sasi_host.specs.declared.damage.Damage.{Damage}
use Rattle.sasi_host.specs.declared.damage.FormatRule.{FormatRule}
use Rattle.sasi_host.specs.declared.damage.FormatRule.TheVariants.{Short, Number, Order}
use Rattle.sasi_host.specs.Names.{Bytes}
use Rattle.sasi_host.proofs.Offsets.{window_at, at_window, first_at, both_at}
use Rattle.sasi_tokentree.specs.Format.{pair_at, entry, node_header, node, IsBefore, IsRising, AreFit}
use Rattle.sasi_tokentree.proofs.Sizes.{entry_length, head_length, node_length}
use Rattle.sasi_tokentree.specs.Damages.{IsHeaderPart, NodeBreaks}
use Rattle.sasi_tokentree.specs.Reads.{CountsBelow, IsInNode}
use Rattle.sasi_host.specs.Damages.{seen_bytes, HasAt, IsOther}

-- ---- what is seen

-- in the header of a node
pub head_in : (file : FileName) (at : ℕ) (bytes : Bytes) (level count offset : ℕ) (wanted : Bytes) (damage : Damage) → IsHeaderPart level count offset
    wanted → IsOther file at bytes offset wanted Number damage → IsInNode file at bytes level count damage
head_in file at bytes level count offset wanted damage part other = record {
  offset = offset;
  named = other.named;
  offset_is = other.offset_is;
  long = λ short. let clash : Number ≡ Short = sym other.rule_is ∙ short in absurd (cc);
  breaks = subst (λ (r : FormatRule). NodeBreaks bytes (record { level = level; at = 0; count = count }) r offset (seen_bytes damage.seen)) (sym other.rule_is)
      (record { offset = offset; wanted = wanted; part = part; offset_is = omega arith; differs = other.differs });
}

-- an entry that doesn't come after the one before it
pub disorder_in : (file : FileName) (at : ℕ) (bytes : Bytes) (level count index n : ℕ) (last pair : Pair) (damage : Damage) → HasAt bytes 0
    (node_header level count) → length bytes ≡ 8 + 16 * count → 0 < index → index < count → AreFit (last ∷ pair ∷ [])
    → HasAt bytes (8 + 16 * (index - 1)) (entry last) → HasAt bytes (8 + 16 * index) (entry pair) → ¬ IsBefore last pair → damage.file ≡ file → damage.at ≡ at + (8 + 16 * index) → damage.rule ≡ Order
    → n ≡ 8 → seen_bytes damage.seen ≡ take n (drop (8 + 16 * index) bytes) → IsInNode file at bytes level count damage
unfolding entry
disorder_in file at bytes level count index n last pair damage header long some lt fit last_stands pair_stands disorder named place rule eight seen =
    let next : 8 + 16 * index ≡ 8 + 16 * (index - 1) + length (entry last) = omega (arith, some, entry_length last) in
    let told : take 8 (drop (8 + 16 * index) bytes) ≡ to_be_bytes w64 pair.token = at_window bytes (8 + 16 * index) (to_be_bytes w64 pair.token)
    (first_at bytes (8 + 16 * index) (to_be_bytes w64 pair.token) (to_be_bytes w64 pair.place) pair_stands) in
    record {
      offset = 8 + 16 * index;
      named = named;
      offset_is = place;
      long = λ short. let clash : Order ≡ Short = sym rule ∙ short in absurd (cc);
      breaks = subst (λ (r : FormatRule). NodeBreaks bytes (record { level = level; at = 0; count = count }) r (8 + 16 * index) (seen_bytes damage.seen)) (sym rule) (record {
        header = header;
        index = index - 1;
        last = last;
        pair = pair;
        within = omega (arith, some, lt);
        stands = subst (λ (k : ℕ). HasAt bytes k (entry last ++ entry pair)) (omega arith)
            (both_at bytes (8 + 16 * (index - 1)) (8 + 16 * index) (entry last) (entry pair) last_stands next pair_stands);
        fit = fit;
        disorder = disorder;
        offset_is = omega (arith, some);
        told = seen ∙ ap (λ (k : ℕ). take k (drop (8 + 16 * index) bytes)) eight ∙ told;
      });
    }

-- ---- the header

within_head : (bytes : Bytes) (offset n : ℕ) → offset + n ≤ 8 → take n (drop offset bytes) ≡ drop offset (take (offset + n) (take 8 bytes))
within_head bytes offset n le = sym (drop-take offset n bytes) ∙ ap (λ (l : Bytes). drop offset l) (sym (take-take (offset + n) 8 bytes le))

pub head_part : (bytes : Bytes) (level count offset n : ℕ) → offset + n ≤ 8 → take 8 bytes ≡ node_header level count → take n (drop offset bytes) ≡ drop offset (take (offset + n) (node_header level count))
head_part bytes level count offset n le is = within_head bytes offset n le ∙ ap (λ (l : Bytes). drop offset (take (offset + n) l)) is

pub head_level : (level count : ℕ) → drop 0 (take 1 (node_header level count)) ≡ level ∷ []
unfolding node_header
head_level level count = refl

pub head_zero : (level count : ℕ) → drop 1 (take 2 (node_header level count)) ≡ 0 ∷ []
unfolding node_header
head_zero level count = refl

pub head_count : (level count : ℕ) → drop 2 (take 4 (node_header level count)) ≡ to_be_bytes w16 count
unfolding node_header
head_count level count = refl

pub head_zeros : (level count : ℕ) → drop 4 (take 8 (node_header level count)) ≡ 0 ∷ 0 ∷ 0 ∷ 0 ∷ []
unfolding node_header
head_zeros level count = refl

pub head_is : (bytes : Bytes) (level count : ℕ) → take 1 (drop 0 bytes) ≡ level ∷ [] → take 1 (drop 1 bytes) ≡ 0 ∷ [] → take 2 (drop 2 bytes) ≡
    to_be_bytes w16 count → take 4 (drop 4 bytes) ≡ 0 ∷ 0 ∷ 0 ∷ 0 ∷ [] → take 8 bytes ≡ node_header level count
unfolding node_header
head_is bytes level count one two three four =
    take-add 1 7 bytes ∙ ap (λ (l : Bytes). l ++ take 7 (drop 1 bytes)) one
    ∙ ap (λ (l : Bytes). level ∷ l) (take-add 1 6 (drop 1 bytes) ∙ ap (λ (l : Bytes). l ++ take 6 (drop 1 (drop 1 bytes))) two ∙ ap (λ (l : Bytes). 0 ∷ take 6 l) (drop-drop 1 1 bytes)
    ∙ ap (λ (l : Bytes). 0 ∷ l) (take-add 2 4 (drop 2 bytes) ∙ ap (λ (l : Bytes). l ++ take 4 (drop 2 (drop 2 bytes))) three ∙ ap
    (λ (l : Bytes). to_be_bytes w16 count ++ take 4 l) (drop-drop 2 2 bytes) ∙ ap (λ (l : Bytes). to_be_bytes w16 count ++ l) four))

-- ---- entries

drop_entries : (entries : List Pair) (index : ℕ) → drop (16 * index) (flat_map entry entries) ≡ flat_map entry (drop index entries)
drop_entries entries zero = refl
drop_entries [] (suc index) = drop_all (16 * suc index) [] (omega arith)
drop_entries (first ∷ others) (suc index) =
    ap (λ (n : ℕ). drop n (entry first ++ flat_map entry others)) (omega (arith, entry_length first)) ∙ sym (drop-drop (16 * index) (length (entry first)) (entry first ++ flat_map entry others))
    ∙ ap (λ (l : Bytes). drop (16 * index) l) (drop_at (entry first) (flat_map entry others) (length (entry first)) refl) ∙ drop_entries others index

-- from an entry on a node has it and the ones behind it
pub from_entry : (level : ℕ) (entries : List Pair) (index : ℕ) → index < length entries → drop (8 + 16 * index) (node level entries) ≡ entry
    (pair_at entries index) ++ flat_map entry (drop (index + 1) entries)
unfolding node
from_entry level entries index lt =
    sym (drop-drop (16 * index) 8 (node level entries))
    ∙ ap (λ (l : Bytes). drop (16 * index) l) (drop_at (node_header level (length entries)) (flat_map entry entries) 8 (head_length level (length entries)))
    ∙ drop_entries entries index
    ∙ ap (λ (l : List Pair). flat_map entry l) (drop_more entries index (record { token = 0; place = 0 }) lt)

pub same_number : (a b : ℕ) → a < 2 ^ 64 → b < 2 ^ 64 → to_be_bytes w64 a ≡ to_be_bytes w64 b → a ≡ b
same_number a b a_fits b_fits same = sym (from_be_bytes-to_be_bytes_8 a a_fits) ∙ ap (from_be_bytes w64) same ∙ from_be_bytes-to_be_bytes_8 b b_fits

-- entries of the same bytes are the same
pub same_entry : (a b : Pair) → a.token < 2 ^ 64 → a.place < 2 ^ 64 → b.token < 2 ^ 64 → b.place < 2 ^ 64 → entry a ≡ entry b → a ≡ b
unfolding entry
same_entry a b a_token a_offset b_token b_offset same =
    let tokens : a.token ≡ b.token = same_number a.token b.token a_token b_token (sym (take_at (to_be_bytes w64 a.token) (to_be_bytes w64 a.place) 8 refl) ∙ ap (λ (l : Bytes). take 8 l) same
    ∙ take_at (to_be_bytes w64 b.token) (to_be_bytes w64 b.place) 8 refl) in
    let places : a.place ≡ b.place = same_number a.place b.place a_offset b_offset (sym (drop_at (to_be_bytes w64 a.token) (to_be_bytes w64 a.place) 8 refl) ∙ ap (λ (l : Bytes). drop 8 l) same
    ∙ drop_at (to_be_bytes w64 b.token) (to_be_bytes w64 b.place) 8 refl) in
    ap (λ (n : ℕ). record { token = n; place = a.place }) tokens ∙ ap (λ (n : ℕ). record { token = b.token; place = n }) places

pub entry_reads : (bytes : Bytes) (level : ℕ) (entries : List Pair) (index token place : ℕ) → AreFit entries → bytes ≡ node level entries → 24 + 16 *
    index ≤ length bytes → token < 2 ^ 64 → place < 2 ^ 64
    → to_be_bytes w64 token ≡ take 8 (drop (8 + 16 * index) bytes) → to_be_bytes w64 place ≡ take 8 (drop (8 + 16 * index + 8) bytes) → record { token = token; place = place } ≡ pair_at entries index
unfolding entry
entry_reads bytes level entries index token place fit is le token_fits offset_fits token_is place_is =
    let p = pair_at entries index in
    let rest = flat_map entry (drop (index + 1) entries) in
    let lt : index < length entries = omega (arith, le, ap length is, node_length level entries) in
    let here : drop (8 + 16 * index) bytes ≡ to_be_bytes w64 p.token ++ (to_be_bytes w64 p.place ++ rest) =
    ap (λ (l : Bytes). drop (8 + 16 * index) l) is ∙ from_entry level entries index lt ∙ append_assoc (to_be_bytes w64 p.token) (to_be_bytes w64 p.place) rest
    in
    let behind : drop (8 + 16 * index + 8) bytes ≡ to_be_bytes w64 p.place ++ rest =
    sym (drop-drop 8 (8 + 16 * index) bytes) ∙ ap (λ (l : Bytes). drop 8 l) here ∙ drop_at (to_be_bytes w64 p.token) (to_be_bytes w64 p.place ++ rest) 8 refl
    in
    let tokens : token ≡ p.token = same_number token p.token token_fits (fit index).0
    (token_is ∙ ap (λ (l : Bytes). take 8 l) here ∙ take_at (to_be_bytes w64 p.token) (to_be_bytes w64 p.place ++ rest) 8 refl) in
    let places : place ≡ p.place = same_number place p.place offset_fits (fit index).1 (place_is ∙ ap (λ (l : Bytes). take 8 l) behind ∙ take_at (to_be_bytes w64 p.place) rest 8 refl) in
    ap (λ (n : ℕ). record { token = n; place = place }) tokens ∙ ap (λ (n : ℕ). record { token = p.token; place = n }) places

-- two numbers that stand there are an entry
pub entry_at : (bytes : Bytes) (at token place n m : ℕ) → n ≡ 8 → m ≡ 8 → at + 16 ≤ length bytes → to_be_bytes w64 token ≡ take n (drop at bytes) →
    to_be_bytes w64 place ≡ take m (drop (at + 8) bytes) → HasAt bytes at (entry (record { token = token; place = place }))
unfolding entry
entry_at bytes at token place n m n_is m_is le token_is place_is =
    both_at bytes at (at + 8) (to_be_bytes w64 token) (to_be_bytes w64 place)
    (window_at bytes (to_be_bytes w64 token) at n token_is (omega (arith, n_is, le))) refl
    (window_at bytes (to_be_bytes w64 place) (at + 8) m place_is (omega (arith, m_is, le)))

-- pairs whose numbers fit
pub pair_fits : (a : Pair) → a.token < 2 ^ 64 → a.place < 2 ^ 64 → AreFit (a ∷ [])
pair_fits a at ap zero = (at, ap)
pair_fits a at ap (suc index) = (lit< tt, lit< tt)

pub pairs_fit : (a b : Pair) → a.token < 2 ^ 64 → a.place < 2 ^ 64 → b.token < 2 ^ 64 → b.place < 2 ^ 64 → AreFit (a ∷ b ∷ [])
pairs_fit a b at ap bt bp zero = (at, ap)
pairs_fit a b at ap bt bp (suc zero) = (bt, bp)
pairs_fit a b at ap bt bp (suc (suc index)) = (lit< tt, lit< tt)

-- ---- order

before_le : (a b : Pair) → IsBefore a b → a.token ≤ b.token
before_le a b before = ⊎_elim (λ less. omega (arith, less)) (λ same. omega (arith, same.0)) before

-- the tokens of rising pairs don't fall
pub do_not_fall : (entries : List Pair) → IsRising entries → (first more : ℕ) → first + more < length entries → (pair_at entries first).token ≤ (pair_at entries (first + more)).token
do_not_fall entries rising first zero lt = ap-le first
  where
    ap-le : (n : ℕ) → (pair_at entries n).token ≤ (pair_at entries (n + 0)).token
    ap-le n = omega (arith, ap (λ (k : ℕ). (pair_at entries k).token) (add-zero n))
do_not_fall entries rising first (suc more) lt =
    let before = do_not_fall entries rising first more (omega arith) in
    let step = before_le (pair_at entries (first + more)) (pair_at entries (first + more + 1)) (rising (first + more) (omega arith)) in
    let same : first + more + 1 ≡ first + suc more = omega arith in
    omega (arith, before, step, ap (λ (k : ℕ). (pair_at entries k).token) same)

pub found_at : (level count token index : ℕ) (bytes : Bytes) (entries : List Pair) (pair : Pair) → length bytes ≡ 8 + 16 * count → bytes ≡ node
    level entries → IsRising entries → index < count → pair ≡ pair_at entries index → token ≤ pair.token
    → ((k : ℕ) → k < index → (pair_at entries k).token < token) → CountsBelow entries token index
found_at level count token index bytes entries pair long is rising lt pair_is reached below = record {
  within = omega (arith, long, ap length is, node_length level entries);
  below = below;
  above = λ k le k_lt.
      let more = do_not_fall entries rising index (k - index) (omega arith) in
      let same : index + (k - index) ≡ k = omega arith in
      omega (arith, more, reached, ap (λ (p : Pair). p.token) pair_is, ap (λ (n : ℕ). (pair_at entries n).token) same);
}

pub found_all : (level count token : ℕ) (bytes : Bytes) (entries : List Pair) → length bytes ≡ 8 + 16 * count → bytes ≡ node level entries
    → ((k : ℕ) → k < count → (pair_at entries k).token < token) → CountsBelow entries token count
found_all level count token bytes entries long is below = record {
  within = omega (arith, long, ap length is, node_length level entries);
  below = below;
  above = λ k le k_lt. absurd (omega (arith, long, ap length is, node_length level entries));
}

-- entries that rise aren't out of order
pub no_disorder : (level count index : ℕ) (bytes : Bytes) (entries : List Pair) (last pair : Pair) → length bytes ≡ 8 + 16 * count → bytes ≡ node
    level entries → IsRising entries → index < count → 0 < index → last ≡ pair_at entries (index - 1) → pair ≡ pair_at entries index
    → (IsBefore last pair → ⊥) → ⊥
no_disorder level count index bytes entries last pair long is rising lt some last_is pair_is out =
    let same : index - 1 + 1 ≡ index = omega arith in
    let step : IsBefore (pair_at entries (index - 1)) (pair_at entries (index - 1 + 1)) = rising (index - 1) (omega (arith, long, ap length is, node_length level entries)) in
    out (subst (λ (p : Pair). IsBefore p pair) (sym last_is) (subst (λ (p : Pair). IsBefore (pair_at entries (index - 1)) p) (ap (λ (k : ℕ). pair_at entries k) same ∙ sym pair_is) step))
