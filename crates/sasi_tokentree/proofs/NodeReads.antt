-- A read gives the node that the file has there, and a fault shows that the file has none.
use Rattle.std.proofs.Common.{◌≡◌, ℕ, ◌+◌, ◌*◌, ◌<◌, ◌≤◌, List, [], ◌++◌, length, take, drop, refl, sym, ◌∙◌, ap, subst, min, ◌-◌, ◌≢◌, arith, inl, inr, length-append, length-drop, take-append-drop, ⊎_elim, Some}
use Rattle.std.proofs.lemmas.Bool.Decides.{leb_tells}
use Rattle.std.proofs.lemmas.List.{append-nil, drop_all, length-take-le, take_at}
use borrow.Rule.Slice.PartMut.{put_mid}
use Rattle.std.specs.List.{flat_map}
use Rattle.sasi_types.specs.declared.tree.Pair.{Pair}
use Rattle.sasi_host.specs.declared.name.FileName.{FileName}
use Rattle.sasi_host.specs.declared.damage.Damage.{Damage}
use Rattle.sasi_host.specs.declared.damage.FormatRule.{FormatRule}
use Rattle.sasi_host.specs.declared.damage.FormatRule.TheVariants.{Short, Missing, NoSeal, Magic, Version, Number, Order, Place, Text}
use Rattle.sasi_host.specs.declared.fault.ReadFault.{ReadFault}
use Rattle.sasi_host.specs.declared.fault.ReadFault.TheVariants as fault
use Rattle.sasi_host.specs.Names.{Bytes}
use Rattle.sasi_host.specs.View.{View, contents}
use Rattle.sasi_host.proofs.Offsets.{at_ends, both_at, differs_in, first_at, inner_at, same_at, window_at}
use Rattle.sasi_host.proofs.DamageLaws.{shown_as}
use Rattle.sasi_tokentree.specs.Format.{entry, node_header, node}
use Rattle.sasi_tokentree.specs.declared.node_read.Node.{Node}
use Rattle.sasi_tokentree.specs.Damages.{IsNodeFrom, EndsWithin, NodeBreaks, ShowsOf, ShownOf, ShowsEndOr}
use Rattle.sasi_tokentree.specs.Damages.EndsWithin.{in_header, in_entries}
use Rattle.sasi_tokentree.specs.Damages.IsNodeFrom.{of_level}
use Rattle.sasi_tokentree.proofs.Sizes.{head_length, node_length}
use Rattle.sasi_tokentree.specs.Reads.{HasNode, IsInNode, NoFalseNodeDamage}
use Rattle.sasi_host.specs.Damages.{seen_bytes, HasAt, ShowsEnd, DamageShown}

-- bytes of its length that stand there are the node
pub node_is : (bytes out : Bytes) (level at : ℕ) (entries : List Pair) → HasNode bytes level at entries → HasAt bytes at out → length out ≡ 8 + 16 * length entries → out ≡ node level entries
node_is bytes out level at entries has stands size = same_at bytes at out (node level entries) stands has.stands (size ∙ sym (node_length level entries))

-- the file reaches to its end
pub node_ends : (bytes : Bytes) (level at : ℕ) (entries : List Pair) → HasNode bytes level at entries → at + (8 + 16 * length entries) ≤ length bytes
node_ends bytes level at entries has =
    omega (
      arith,
      ap length has.stands.is,
      has.stands.offset_is,
      length-append (has.stands.front ++ node level entries) has.stands.rest,
      length-append
          has.stands.front (node level entries),
      node_length level entries,
    )

-- so no node stands where the file ends before
pub no_false_early : (v : View) (file : FileName) (level at count end : ℕ) (f : ReadFault) → end ≤ at + (8 + 16 * count) → DamageShown v file (ShowsEnd end file) f → NoFalseNodeDamage v file level at count f
no_false_early v file level at count end fault.Failed le early = tt
no_false_early v file level at count end fault.OutOfMemory le early = tt
no_false_early v file level at count end (fault.Damaged damage) le early = λ bytes entries is has long. let less = (early bytes is).short in omega (arith, le, less, long, node_ends bytes level at entries has)

-- what was read begins with its first eight bytes
front_at : (bytes window : Bytes) (at : ℕ) → HasAt bytes at window → HasAt bytes at (take 8 window)
front_at bytes window at stands = first_at bytes at (take 8 window) (drop 8 window) (subst (λ (l : Bytes). HasAt bytes at l) (sym (take-append-drop 8 window)) stands)

-- they are the header of the node that stands there
pub node_head : (bytes out : Bytes) (level at count : ℕ) (entries : List Pair) → HasNode bytes level at entries → length entries ≡ count → HasAt bytes at out → 8 ≤ length out → take 8 out ≡ node_header level count
unfolding node
node_head bytes out level at count entries has long stands size =
    let header : HasAt bytes at (node_header level (length entries)) = first_at bytes at (node_header level (length entries)) (flat_map entry entries) has.stands in
    same_at bytes at (take 8 out) (node_header level (length entries)) (front_at bytes out at stands) header (length-take-le 8 out size ∙ sym (head_length level (length entries)))
    ∙ ap (λ (k : ℕ). node_header level k) long

-- and a header that they are stands there
pub header_at : (bytes out : Bytes) (level at count : ℕ) → HasAt bytes at out → take 8 out ≡ node_header level count → HasAt bytes at (node_header level count)
header_at bytes out level at count stands is = subst (λ (l : Bytes). HasAt bytes at l) is (front_at bytes out at stands)

-- a buffer's first eight bytes and the bytes behind them, filled one after the other
pub filled_behind : (header old entries : Bytes) (k : ℕ) → length header ≡ 8 → k ≡ length (header ++ drop 8 old) - 8 → put_mid 8 k (header ++ drop 8 old) entries ≡ header ++ entries
filled_behind header old entries k eight is =
    let whole = header ++ drop 8 old in
    let none : drop k (drop 8 whole) ≡ [] = drop_all k (drop 8 whole) (omega (arith, is, length-drop 8 whole)) in
    ap (λ (l : Bytes). take 8 whole ++ (entries ++ l)) none ∙ ap (λ (l : Bytes). take 8 whole ++ l) (append-nil entries)
    ∙ ap (λ (l : Bytes). l ++ entries) (take_at header (drop 8 old) 8 eight)

-- a header and the bytes behind it stand where they were read
pub both_read : (bytes header entries : Bytes) (at n : ℕ) → HasAt bytes at header → length header ≡ 8 → entries ≡ take n (drop (at + 8) bytes)
    → (0 < n → at + 8 + n ≤ length bytes) → HasAt bytes at (header ++ entries)
both_read bytes header entries at n stands eight is within =
    both_at bytes at (at + 8) header entries stands (omega (arith, eight)) (window_at bytes entries (at + 8) n is (⊎_elim
    (λ none. omega (arith, none.1, at_ends bytes at header stands, eight))
    (λ some. within some.1)
    (leb_tells n 0)))

-- ---- damage of a node

node_in : (bytes : Bytes) (at : ℕ) (window : Bytes) (level count : ℕ) (rule : FormatRule) (offset : ℕ) (seen : Bytes) → HasAt bytes at window → rule ≢
    Short → NodeBreaks window (record { level = level; at = 0; count = count }) rule offset seen
    → NodeBreaks bytes (record { level = level; at = at; count = count }) rule (at + offset) seen
node_in bytes at window level count Short offset seen has long breaks = absurd (long refl)
node_in bytes at window level count Number offset seen has long breaks = record {
  offset = breaks.offset;
  wanted = breaks.wanted;
  part = breaks.part;
  offset_is = omega (arith, breaks.offset_is);
  differs = differs_in bytes at window offset seen breaks.wanted has breaks.differs;
}
node_in bytes at window level count Order offset seen has long breaks = record {
  header = subst (λ (n : ℕ). HasAt bytes n (node_header level count)) (omega arith) (inner_at bytes at window 0 (node_header level count) has breaks.header);
  index = breaks.index;
  last = breaks.last;
  pair = breaks.pair;
  within = breaks.within;
  stands = subst (λ (n : ℕ). HasAt bytes n (entry breaks.last ++ entry breaks.pair)) (omega arith)
      (inner_at bytes at window (0 + (8 + 16 * breaks.index)) (entry breaks.last ++ entry breaks.pair) has breaks.stands);
  fit = breaks.fit;
  disorder = breaks.disorder;
  offset_is = omega (arith, breaks.offset_is);
  told = breaks.told;
}
node_in bytes at window level count Missing offset seen has long breaks = breaks
node_in bytes at window level count NoSeal offset seen has long breaks = breaks
node_in bytes at window level count Magic offset seen has long breaks = breaks
node_in bytes at window level count Version offset seen has long breaks = breaks
node_in bytes at window level count Place offset seen has long breaks = breaks
node_in bytes at window level count Text offset seen has long breaks = breaks

-- what breaks the bytes of a node breaks it in the file
pub node_shown : (file : FileName) (bytes : Bytes) (at : ℕ) (window : Bytes) (level count : ℕ) (damage : Damage) → HasAt bytes at window → IsInNode
    file at window level count damage → ShowsOf (λ n. n ≡ record { level = level; at = at; count = count }) file bytes damage
node_shown file bytes at window level count damage has seen = record {
  named = seen.named;
  node = record { level = level; at = at; count = count };
  is_of = refl;
  breaks = subst (λ (n : ℕ). NodeBreaks bytes (record { level = level; at = at; count = count }) damage.rule n (seen_bytes damage.seen))
      (sym seen.offset_is) (node_in bytes at window level count damage.rule seen.offset (seen_bytes damage.seen) has seen.long seen.breaks);
}

-- a file that ends within one of these nodes breaks it
ends_shown : (These : Node → Type 0) (v : View) (file : FileName) (end : ℕ) (node : Node) (f : ReadFault) → These node → ((bytes : Bytes) → contents v file ≡
    Some bytes → length bytes < end → EndsWithin bytes node) → DamageShown v file (ShowsEnd end file) f → ShownOf These v file f
ends_shown These v file end node f is_of within early =
    shown_as (ShowsEnd end file) (ShowsOf These file) v file f (λ bytes damage is ends. record {
      named = ends.tells.named;
      node = node;
      is_of = is_of;
      breaks = subst (λ (r : FormatRule). NodeBreaks bytes node r damage.at (seen_bytes damage.seen)) (sym ends.tells.rule) (within bytes is ends.short, ends.tells.offset_is, ends.tells.seen);
    }) early

-- within its header
pub header_ends : (These : Node → Type 0) (v : View) (file : FileName) (end : ℕ) (node : Node) (f : ReadFault) → These node → end ≤ node.at + 8 → DamageShown v
    file (ShowsEnd end file) f → ShownOf These v file f
header_ends These v file end node f is_of le early = ends_shown These v file end node f is_of (λ bytes is short. in_header (omega (arith, short, le))) early

-- or within the entries behind a right one
pub entries_end : (These : Node → Type 0) (v : View) (file : FileName) (end : ℕ) (node : Node) (f : ReadFault) → These node → end ≤ node.at +
    (8 + 16 * node.count) → ((bytes : Bytes) → contents v file ≡ Some bytes → HasAt bytes node.at (node_header node.level node.count)) → DamageShown v file
    (ShowsEnd end file) f → ShownOf These v file f
entries_end These v file end node f is_of le header early =
    ends_shown These v file end node f is_of (λ bytes is short. in_entries (header bytes is) (omega (arith, short, le))) early

-- damage of some nodes is that of more
pub shown_more : (These Those : Node → Type 0) (v : View) (file : FileName) (f : ReadFault) → ((node : Node) → These node → Those node) → ShownOf These v file f → ShownOf Those v file f
shown_more These Those v file f more shown =
    shown_as (ShowsOf These file) (ShowsOf Those file) v file f (λ bytes damage is s. record { named = s.named; node = s.node; is_of = more s.node s.is_of; breaks = s.breaks }) shown

-- and so where the file may end as well
pub end_or_more : (These Those : Node → Type 0) (v : View) (file : FileName) (end far : ℕ) (f : ReadFault) → end ≡ far → ((node : Node) → These node → Those node)
    → DamageShown v file (ShowsEndOr end These file) f → DamageShown v file (ShowsEndOr far Those file) f
end_or_more These Those v file end far f same more shown =
    shown_as (ShowsEndOr end These file) (ShowsEndOr far Those file) v file f (λ bytes damage is shows. ⊎_elim
    (λ ends. inl (subst (λ (n : ℕ). ShowsEnd n file bytes damage) same ends))
    (λ s. inr (record { named = s.named; node = s.node; is_of = more s.node s.is_of; breaks = s.breaks }))
    shows) shown

-- a file that ends
pub end_or_ends : (These : Node → Type 0) (v : View) (file : FileName) (end far : ℕ) (f : ReadFault) → end ≡ far → DamageShown v file (ShowsEnd end file) f → DamageShown v file (ShowsEndOr far These file) f
end_or_ends These v file end far f same shown = shown_as (ShowsEnd end file) (ShowsEndOr far These file) v file f (λ bytes damage is ends. inl (subst (λ (n : ℕ). ShowsEnd n file bytes damage) same ends)) shown

-- or a node that breaks a rule
pub end_or_breaks : (These : Node → Type 0) (v : View) (file : FileName) (end : ℕ) (f : ReadFault) → ShownOf These v file f → DamageShown v file (ShowsEndOr end These file) f
end_or_breaks These v file end f shown = shown_as (ShowsOf These file) (ShowsEndOr end These file) v file f (λ bytes damage is shows. inr shows) shown

-- a node of the level
pub node_of_level : (level at count node here : ℕ) → 255 * node < count → here ≡ min (count - 255 * node) 255 → (n : Node) → n ≡ record
    { level = level; at = at + 4088 * node; count = here } → IsNodeFrom n level at count
node_of_level level at count node here lt is n n_is = of_level level at count node lt (n_is ∙ ap (λ (k : ℕ). made k) is)
  where
    made : ℕ → Node
    made k = record { level = level; at = at + 4088 * node; count = k }

-- a level of one node
pub node_of_one : (level at count : ℕ) → 0 < count → count ≤ 255 → (n : Node) → n ≡ record { level = level; at = at; count = count } → IsNodeFrom n level at count
node_of_one level at count some le n n_is = of_level level at count 0 (omega (arith, some)) (n_is ∙ made_is at count (at + 4088 * 0) (min (count - 255 * 0) 255) (omega arith) (omega (arith, le)))
  where
    made : ℕ → ℕ → Node
    made a c = record { level = level; at = a; count = c }

    made_is : (a c b d : ℕ) → a ≡ b → c ≡ d → made a c ≡ made b d
    made_is a c b d same also = ap (λ (k : ℕ). made k c) same ∙ ap (λ (k : ℕ). made b k) also
