-- The nodes of a level in a file, and the level above it.
use Rattle.std.proofs.Common.{◌≡◌, ℕ, zero, suc, add-one, add-zero, ◌+◌, ◌-◌, ◌*◌, ◌^◌, ◌<◌, ◌≤◌, List, [], ◌∷◌, ◌++◌, length, drop, refl, sym, ◌∙◌, ap, subst, inl, inr, arith, append_assoc, length-append, ⊎_elim, min}
use Rattle.std.proofs.lemmas.Bool.{cases_eq}
use Rattle.std.proofs.lemmas.Bool.Decides.{leb_tells}
use Rattle.std.proofs.lemmas.List.{append-nil, get_or-take, get_or-drop, get_or_past, get_or_append_left, get_or_push, take_all}
use Rattle.sasi_types.specs.declared.tree.Pair.{Pair}
use Rattle.sasi_host.specs.Names.{Bytes}
use Rattle.sasi_tokentree.specs.Format.{pair_at, node, nodes, size, entries_of_node, first_nodes, level_bytes, entry_for, first_above, above, levels, IsBefore, IsRising, AreFit}
use Rattle.sasi_tokentree.proofs.Sizes.{first_nodes_length, level_length, part_length, first_above_length, one_level, more_levels}
use Rattle.sasi_tokentree.specs.Reads.{CountsBelow, HasNode, HasLevels}
use Rattle.sasi_tokentree.proofs.NodeParts.{do_not_fall}

-- ---- a node of a level

-- the nodes of a level before and behind one of them
node_in : (level : ℕ) (entries : List Pair) (index count : ℕ) → index < count → (rest : Bytes) ×
    (first_nodes level entries count ≡ first_nodes level entries index ++ node level (entries_of_node entries index) ++ rest)
unfolding first_nodes
node_in level entries index zero lt = absurd (omega arith)
node_in level entries index (suc count) lt = ⊎_elim
    (λ last. ([], ap (λ (n : ℕ). first_nodes level entries n ++ node level (entries_of_node entries n)) (sym last) ∙ sym (append-nil (first_nodes level entries index ++ node level (entries_of_node entries index)))))
    (λ other.
    let before = node_in level entries index count (omega (arith, other)) in (
      before.0 ++ node level (entries_of_node entries count),
      ap (λ (l : Bytes). l ++ node level (entries_of_node entries count)) before.1 ∙ append_assoc (first_nodes level entries index ++ node level (entries_of_node entries index)) before.0 (node level (entries_of_node entries count)),
    ))
    (cases_eq index count)

-- a level stands before the levels above it
level_first : (most level at : ℕ) (entries : List Pair) → 0 < length entries → length entries ≤ most → (up : Bytes) × (levels most level at entries ≡ level_bytes level entries ++ up)
level_first zero level at entries some enough = absurd (omega arith)
level_first (suc most) level at entries some enough = ⊎_elim
    (λ one. ([], one_level most level at entries one.1 ∙ sym (append-nil (level_bytes level entries))))
    (λ more. (_, more_levels most level at entries more.1))
    (leb_tells (length entries) 255)

-- ---- the entries of a node

pub part_at : (entries : List Pair) (index k : ℕ) → k < 255 → pair_at (entries_of_node entries index) k ≡ pair_at entries (255 * index + k)
part_at entries index k lt = get_or-take 255 (drop (255 * index) entries) k (record { token = 0; place = 0 }) lt ∙ get_or-drop (255 * index) entries k (record { token = 0; place = 0 })

part_rising : (entries : List Pair) (index : ℕ) → IsRising entries → IsRising (entries_of_node entries index)
part_rising entries index rising k lt =
    let size = part_length entries index in
    let step : IsBefore (pair_at entries (255 * index + k)) (pair_at entries (255 * index + k + 1)) = rising (255 * index + k) (omega (arith, size, lt)) in
    let same : 255 * index + k + 1 ≡ 255 * index + (k + 1) = omega arith in
    subst (λ (p : Pair). IsBefore p (pair_at (entries_of_node entries index) (k + 1))) (sym (part_at entries index k (omega (arith, size, lt))))
    (subst (λ (p : Pair). IsBefore (pair_at entries (255 * index + k)) p) (ap (λ (n : ℕ). pair_at entries n) same ∙ sym (part_at entries index (k + 1) (omega (arith, size, lt)))) step)

zero_fits : (p : Pair) → p ≡ record { token = 0; place = 0 } → (p.token < 2 ^ 64) × (p.place < 2 ^ 64)
zero_fits p is = (omega (arith, ap (λ (q : Pair). q.token) is), omega (arith, ap (λ (q : Pair). q.place) is))

part_fit : (entries : List Pair) (index : ℕ) → AreFit entries → AreFit (entries_of_node entries index)
part_fit entries index fit k = ⊎_elim
    (λ past. zero_fits (pair_at (entries_of_node entries index) k) (get_or_past (entries_of_node entries index) k (record { token = 0; place = 0 }) (omega (arith, past.1, part_length entries index))))
    (λ within. subst (λ (p : Pair). (p.token < 2 ^ 64) × (p.place < 2 ^ 64)) (sym (part_at entries index k within.1)) (fit (255 * index + k)))
    (leb_tells 255 k)

-- each node of a level that stands in the file stands there
pub stands_node : (bytes : Bytes) (level at : ℕ) (entries : List Pair) (index : ℕ) → HasLevels bytes level at entries → 255 * index < length entries
    → HasNode bytes level (at + 4088 * index) (entries_of_node entries index)
stands_node bytes level at entries index stands lt =
    let up = level_first stands.most level at entries stands.some stands.enough in
    let rest = node_in level entries index (nodes (length entries)) (omega (arith, lt)) in
    record {
      stands = record {
        front = stands.front ++ first_nodes level entries index;
        rest = rest.0 ++ up.0 ++ stands.rest;
        is =
            stands.is ∙ ap (λ (l : Bytes). stands.front ++ l ++ stands.rest) (up.1 ∙ ap (λ (l : Bytes). l ++ up.0) rest.1)
            ∙ regroup stands.front (first_nodes level entries index) (node level (entries_of_node entries index)) rest.0 up.0 stands.rest;
        offset_is = length-append stands.front (first_nodes level entries index) ∙ omega (arith, stands.offset_is, first_nodes_length level entries index (omega (arith, lt)));
      };
      rising = part_rising entries index stands.rising;
      fit = part_fit entries index stands.fit;
    }
  where
    regroup : (a b c d e f : Bytes) → (a ++ (((b ++ c) ++ d) ++ e)) ++ f ≡ ((a ++ b) ++ c) ++ ((d ++ e) ++ f)
    regroup a b c d e f = simp append_assoc

-- ---- the level above

pub above_at : (at : ℕ) (entries : List Pair) (index count : ℕ) → index < count → pair_at (first_above at entries count) index ≡ entry_for at entries index
unfolding first_above
above_at at entries index zero lt = absurd (omega arith)
above_at at entries index (suc count) lt = ⊎_elim
    (λ last. get_or_push (first_above at entries count) (entry_for at entries count) (record { token = 0; place = 0 }) index
    (first_above_length at entries count ∙ sym last) ∙ ap (λ (n : ℕ). entry_for at entries n) (sym last))
    (λ other.
    get_or_append_left (first_above at entries count) (entry_for at entries count ∷ []) (record { token = 0; place = 0 }) index (omega (arith, other, first_above_length at entries count))
    ∙ above_at at entries index count (omega (arith, other)))
    (cases_eq index count)

not_after : (a b : ℕ) (p q : ℕ) → a ≤ b → p < q → IsBefore (record { token = a; place = p }) (record { token = b; place = q })
not_after a b p q le lt = ⊎_elim (λ same. inr (same, lt)) (λ other. inl (omega (arith, le, other))) (cases_eq a b)

above_rising : (at : ℕ) (entries : List Pair) → IsRising entries → IsRising (above at entries)
above_rising at entries rising index lt =
    let count = nodes (length entries) in
    let size = first_above_length at entries count in
    let falls = do_not_fall entries rising (255 * index) 255 (omega (arith, lt, size)) in
    let same : 255 * index + 255 ≡ 255 * (index + 1) = omega arith in
    subst (λ (p : Pair). IsBefore p (pair_at (above at entries) (index + 1))) (sym (above_at at entries index count (omega (arith, lt, size))))
    (subst (λ (p : Pair). IsBefore (entry_for at entries index) p) (sym (above_at at entries (index + 1) count (omega (arith, lt, size))))
    (not_after _ _ _ _ (omega (arith, falls, ap (λ (n : ℕ). (pair_at entries n).token) same)) (omega arith)))

above_fit : (at : ℕ) (entries : List Pair) → AreFit entries → at + size (length entries) ≤ 2 ^ 62 → AreFit (above at entries)
above_fit at entries fit short index =
    let count = nodes (length entries) in
    ⊎_elim
    (λ past. zero_fits (pair_at (above at entries) index) (get_or_past (above at entries) index (record { token = 0; place = 0 }) (omega (arith, past.1, first_above_length at entries count))))
    (λ within. subst (λ (p : Pair). (p.token < 2 ^ 64) × (p.place < 2 ^ 64)) (sym (above_at at entries index count within.1)) ((fit (255 * index)).0, omega (arith, within.1, short)))
    (leb_tells count index)

-- above a level of more than one node the next one stands behind it
pub stands_above : (bytes : Bytes) (level at : ℕ) (entries : List Pair) → HasLevels bytes level at entries → 255 < length entries → HasLevels bytes
    (level + 1) (at + size (length entries)) (above at entries)
stands_above bytes level at entries stands many = from stands.most refl
  where
    from : (most : ℕ) → stands.most ≡ most → HasLevels bytes (level + 1) (at + size (length entries)) (above at entries)
    from zero is = absurd (omega (arith, is, stands.enough, many))
    from (suc most) is =
        let long = level_length level entries in
        let whole = stands.is ∙ ap (λ (n : ℕ). stands.front ++ levels n level at entries ++ stands.rest) is ∙ ap
        (λ (l : Bytes). stands.front ++ l ++ stands.rest) (more_levels most level at entries many) in
        record {
          most = most;
          front = stands.front ++ level_bytes level entries;
          rest = stands.rest;
          enough = omega (arith, first_above_length at entries (nodes (length entries)), is, stands.enough, many);
          some = omega (arith, first_above_length at entries (nodes (length entries)), many);
          is =
              whole ∙ ap (λ (l : Bytes). l ++ stands.rest) (sym (append_assoc stands.front (level_bytes level entries) (levels most (suc level) (at + size (length entries)) (above at entries))))
              ∙ ap (λ (n : ℕ). stands.front ++ level_bytes level entries ++ levels most n (at + size (length entries)) (above at entries) ++ stands.rest) (sym (add-one level));
          offset_is = length-append stands.front (level_bytes level entries) ∙ omega (arith, stands.offset_is, long);
          rising = above_rising at entries stands.rising;
          fit = above_fit at entries stands.fit (omega (
            arith,
            ap length whole,
            stands.short,
            stands.offset_is,
            long,
            length-append stands.front
                (level_bytes level entries ++ levels most (suc level) (at + size (length entries)) (above at entries)),
            length-append
                (stands.front ++ (level_bytes level entries ++ levels most (suc level) (at + size (length entries)) (above at entries))) stands.rest,
            length-append (level_bytes level entries) (levels most (suc level) (at + size (length entries)) (above at entries)),
          ));
          short = stands.short;
        }

-- ---- counts over levels

-- where no entry of the level above is below, none is
pub none_below : (at : ℕ) (entries : List Pair) (token : ℕ) → IsRising entries → 0 < length entries → CountsBelow (above at entries) token 0 → CountsBelow entries token 0
none_below at entries token rising some none = record {
  within = omega arith;
  below = λ index lt. absurd (omega (arith, lt));
  above = λ index le lt.
      let count = nodes (length entries) in
      let first = none.above 0 (omega arith) (omega (arith, first_above_length at entries count, some)) in
      let more = do_not_fall entries rising 0 index (omega (arith, lt)) in
      omega (arith, first, more, ap (λ (p : Pair). p.token) (above_at at entries 0 count (omega (arith, some))), ap (λ (n : ℕ). (pair_at entries n).token) (zero_plus index));
}
  where
    zero_plus : (n : ℕ) → 0 + n ≡ n
    zero_plus n = omega arith

-- else those below are the ones before a node, and those below within it
pub below_in : (at : ℕ) (entries : List Pair) (token node count : ℕ) → IsRising entries → 255 * node < length entries → CountsBelow
    (above at entries) token (node + 1) → CountsBelow (entries_of_node entries node) token count
    → CountsBelow entries token (255 * node + count)
below_in at entries token node count rising within up found = record {
  within = omega (arith, size, found.within);
  below = λ index lt. ⊎_elim
      (λ early.
      let more = do_not_fall entries rising index (255 * node - index) (omega (arith, early.1, within)) in
      let same : index + (255 * node - index) ≡ 255 * node = omega (arith, early.1) in
      omega (arith, more, begun, ap (λ (n : ℕ). (pair_at entries n).token) same))
      (λ late.
      let here = found.below (index - 255 * node) (omega (arith, late.1, lt)) in
      let same : 255 * node + (index - 255 * node) ≡ index = omega (arith, late.1) in
      omega (
        arith,
        here,
        ap (λ (p : Pair). p.token) (part_at entries node (index - 255 * node)
            (omega (arith, late.1, lt, found.within, size))),
        ap (λ (n : ℕ). (pair_at entries n).token) same,
      ))
      (leb_tells index (255 * node));
  above = λ index le lt. ⊎_elim
      (λ later.
      let next = up.above (node + 1) (omega arith) (omega (arith, later.1, lt, first_above_length at entries all)) in
      let more = do_not_fall entries rising (255 * (node + 1)) (index - 255 * (node + 1)) (omega (arith, later.1, lt)) in
      let same : 255 * (node + 1) + (index - 255 * (node + 1)) ≡ index = omega (arith, later.1) in
      omega (arith, next, more, ap (λ (p : Pair). p.token) (above_at at entries (node + 1) all (omega (arith, later.1, lt))), ap (λ (n : ℕ). (pair_at entries n).token) same))
      (λ here.
      let k = index - 255 * node in
      let same : 255 * node + k ≡ index = omega (arith, le) in
      let reached = found.above k (omega (arith, le)) (omega (arith, here.1, lt, size, le)) in
      omega (arith, reached, ap (λ (p : Pair). p.token) (part_at entries node k (omega (arith, here.1, le))), ap (λ (n : ℕ). (pair_at entries n).token) same))
      (leb_tells (255 * (node + 1)) index);
}
  where
    all : ℕ
    all = nodes (length entries)

    size : length (entries_of_node entries node) ≡ min 255 (length entries - 255 * node)
    size = part_length entries node

    begun : (pair_at entries (255 * node)).token < token
    begun = omega (arith, up.below node (omega arith), ap (λ (p : Pair). p.token) (above_at at entries node all (omega (arith, within))))

-- a level of one node is that node
pub stands_one : (bytes : Bytes) (level at : ℕ) (entries : List Pair) → HasLevels bytes level at entries → length entries ≤ 255 → HasNode bytes level at entries
stands_one bytes level at entries stands le =
    subst (λ (l : List Pair). HasNode bytes level at l) (take_all 255 entries le)
    (subst (λ (n : ℕ). HasNode bytes level n (entries_of_node entries 0)) (add-zero at)
    (stands_node bytes level at entries 0 stands (omega (arith, stands.some))))
