-- Which footers have bytes, and how many.
use Rattle.std.proofs.Common.{◌≡◌, ℕ, ◌+◌, ◌^◌, ◌<◌, ◌≤◌, true, List, length, [], ◌∷◌, ◌++◌, refl, sym, ap, ◌∙◌, inl, inr, arith, rules, length-append}
use Rattle.std.specs.Prelude.{Bool, nat_le, ◌==◌, ◌&&◌, if◌then◌else◌, ◌-◌}
use Rattle.std.specs.Int.{w64}
use Rattle.sasi_host.specs.Names.{Bytes}
use Rattle.sasi_host.specs.declared.damage.FormatRule.TheVariants as rule
use Rattle.sasi_formats.specs.Formats.{Format, Encodes, Fits, Then, encoded}
use Rattle.sasi_fields.specs.Reading.{Reading}
use Rattle.sasi_formats.specs.Reader.{Corruption}
use Rattle.sasi_formats.specs.Failures.{Fails}
use Rattle.sasi_formats.specs.Codings.{passing, number_of}
use Rattle.sasi_formats.specs.Fields.{◌&◌, number, in_range}
use Rattle.sasi_formats.specs.Headers.{file_header}
use Rattle.sasi_formats.proofs.Encoding.{encodes}
use Rattle.sasi_formats.proofs.Fitting.{checked_fits, number_fits, range_fits}
use Rattle.sasi_formats.proofs.Headers.{fixed_of_size, header_encodes as encodes_header}
use Rattle.sasi_formats.proofs.OfSize.{IsOfSize, IsRule, field_of_size, decoded_of_size, both_of_size}
use Rattle.sasi_formats.proofs.Prefixes.{fixed_fits}
use Rattle.sasi_types.specs.declared.tree.Pair.{Pair}
use Rattle.sasi_tokentree.specs.Format.{tree_bytes, tree_ref}
use Rattle.sasi_tokentree.specs.Heights.{bytes_below_root, levels_size}
use Rattle.sasi_tokentree.specs.Damages.{is_node_offset}
use Rattle.sasi_tokentree.proofs.HeightLaws.{levels_least, top_is, tree_length}
use Rattle.sasi_datawrite.specs.declared.footer.Footer.{Footer}
use Rattle.sasi_datawrite.specs.Format.{magic, header, end_before, fills_room, is_count, counted_fields, footer_fields, footer, end_mark, footer_bytes}

-- the header is that of its format
pub header_encodes : Encodes (file_header magic 0) tt header
unfolding header
header_encodes = encodes_header magic 0

-- and so is the mark
abbrev mark : Bytes
mark = 83 ∷ 65 ∷ 83 ∷ 73 ∷ 68 ∷ 69 ∷ 78 ∷ 68 ∷ []

pub mark_encodes : Encodes end_mark tt (encoded end_mark tt)
mark_encodes = encodes end_mark tt (fixed_fits rule.Magic mark)

pub mark_of_size : IsOfSize end_mark 8
mark_of_size = fixed_of_size rule.Magic mark

-- a footer is its numbers and the mark, at each offset
pub footer_is : (at : ℕ) (numbers : Footer) → footer_bytes numbers ≡ encoded (footer at) numbers ++ encoded end_mark tt
unfolding footer_bytes
footer_is at numbers = refl

-- the partitions can end there
pub end_fits : (at end : ℕ) → end < 2 ^ 64 → 33 ≤ end → end + 24 ≤ at → Fits (end_before at) end
end_fits at end fits behind within =
    let first : nat_le 33 end ≡ true = search (rules, behind) in
    let second : nat_le (end + 24) at ≡ true = search (rules, within) in
    checked_fits rule.Place 8 (is_node_offset 33 at) (number w64) end (number_fits w64 end fits) (ap (λ (b : Bool). b && nat_le (end + 24) at) first ∙ second)

-- the key tree of a file fills the room that it has
pub room_filled : (at end : ℕ) (pairs : List Pair) → 0 < length pairs → at ≤ 2 ^ 62 → end + length (tree_bytes end pairs) ≡ at → fills_room at (tree_ref end pairs).root end (length pairs) ≡ true
room_filled at end pairs some short is =
    let root = (tree_ref end pairs).root in
    let below = bytes_below_root (length pairs) (length pairs) in
    let size = levels_size (length pairs) (length pairs) in
    let few : length pairs ≤ 2 ^ 58 = omega (arith, is, short, tree_length end pairs, levels_least (length pairs) (length pairs) (omega arith)) in
    let stands : end + below ≡ root = sym (top_is (length pairs) end (length pairs) some (omega arith)) in
    let fills : end + size ≡ at = omega (arith, is, tree_length end pairs) in
    let first : nat_le (length pairs) (2 ^ 58) ≡ true = search (rules, few) in
    let second : (end + below == root) ≡ true = search (rules, stands) in
    let third : (end + size == at) ≡ true = search (rules, fills) in
    ap (λ (b : Bool). b && (end + below == root && end + size == at)) first ∙ ap (λ (b : Bool). b && end + size == at) second ∙ third

-- numbers in their ranges have bytes
pub footer_fits : (at : ℕ) (f : Footer) → f.tree.root < 2 ^ 64 → 1 ≤ f.tree.pairs → f.tree.pairs < 2 ^ 64 → f.max_timestamp < 2 ^ 64 → f.end < 2 ^ 64 → 33 ≤ f.end → f.end + 24 ≤ at
    → fills_room at f.tree.root f.end f.tree.pairs ≡ true → is_node_offset f.end at f.tree.root ≡ true → Fits (footer at) f
footer_fits at f root some pairs time end behind within room place =
    let most : f.tree.pairs ≤ 2 ^ 64 - 1 = omega (arith, pairs) in
    let behind_root : Fits (in_range w64 1 (2 ^ 64 - 1) & number w64 & end_before at) (f.tree.pairs, (f.max_timestamp, f.end)) =
    (range_fits w64 1 (2 ^ 64 - 1) f.tree.pairs pairs some most, (number_fits w64 f.max_timestamp time, end_fits at f.end end behind within)) in
    let may : is_count at f.tree.root f.end f.tree.pairs ≡ true = ap (λ (b : Bool). if b then fills_room at f.tree.root f.end f.tree.pairs else true) place ∙ room in
    let counted : Fits (counted_fields at f.tree.root) (f.tree.pairs, (f.max_timestamp, f.end)) =
    checked_fits rule.Number 8 (λ (n : ℕ × (ℕ × ℕ)). is_count at f.tree.root n.1.1 n.0) (in_range w64 1 (2 ^ 64 - 1) & number w64 & end_before at) (f.tree.pairs, (f.max_timestamp, f.end)) behind_root may in
    let numbers : Fits (Then (number w64) (counted_fields at)) (f.tree.root, (f.tree.pairs, (f.max_timestamp, f.end))) = (number_fits w64 f.tree.root root, counted) in
    let fields : Fits (footer_fields at) f = (numbers, refl) in
    checked_fits rule.Place 8 (λ (g : Footer). is_node_offset g.end at g.tree.root) (footer_fields at) f fields place

-- ---- sizes

-- a format after one on whose value it depends
then_breaks : {A B : Type 0} (first : Format A) (next : A → Format B) (m n : ℕ) → IsOfSize first m → ((a : A) → IsOfSize (next a) n)
    → (s : Reading) (f : Corruption) → m + n ≤ length s.left → Fails (Then first next) s f → IsRule f
then_breaks first next m n one two s f long (inl h) = one.breaks s f (omega (arith, long)) h
then_breaks first next m n one two s f long (inr h) =
    let passes = h.is_next.passes.next in
    let size = one.sized h.value h.is_next.field h.is_next.is in
    (two h.value).breaks h.behind f (omega (arith, long, size, ap length passes, length-append h.is_next.field h.behind.left)) h.fails

then_of_size : {A B : Type 0} (first : Format A) (next : A → Format B) (m n : ℕ) → IsOfSize first m → ((a : A) → IsOfSize (next a) n) → IsOfSize (Then first next) (m + n)
then_of_size first next m n one two = record {
  sized = λ value bytes h.
      ap length h.whole ∙ length-append h.front h.behind ∙ ap (λ (k : ℕ). k + length h.behind) (one.sized value.0 h.front h.starts) ∙ ap (λ (k : ℕ). m + k) ((two value.0).sized value.1 h.behind h.ends);
  breaks = λ s f long h. then_breaks first next m n one two s f long h;
}

number_of_size : IsOfSize (number w64) 8
number_of_size = field_of_size 8 rule.Number (number_of w64)

-- they have 32 bytes
pub footer_of_size : (at : ℕ) → IsOfSize (footer at) 32
footer_of_size at =
    let last = decoded_of_size rule.Place 8 (passing (is_node_offset 33 at)) (number w64) 8 number_of_size in
    let count = decoded_of_size rule.Number 8 (passing (λ (n : ℕ). nat_le 1 n && nat_le n (2 ^ 64 - 1))) (number w64) 8 number_of_size in
    let two = both_of_size (number w64) (end_before at) 8 8 number_of_size last in
    let three = both_of_size (in_range w64 1 (2 ^ 64 - 1)) (number w64 & end_before at) 8 16 count two in
    let counted = λ (root : ℕ). decoded_of_size rule.Number 8 (passing (λ (n : ℕ × (ℕ × ℕ)). is_count at root n.1.1 n.0)) (in_range w64 1 (2 ^ 64 - 1) & number w64 & end_before at) 24 three in
    let four = then_of_size (number w64) (counted_fields at) 8 24 number_of_size counted in
    decoded_of_size rule.Place 8 (passing (λ (f : Footer). is_node_offset f.end at f.tree.root)) (footer_fields at) 32 (decoded_of_size rule.Number 0 _ (Then (number w64) (counted_fields at)) 32 four)
