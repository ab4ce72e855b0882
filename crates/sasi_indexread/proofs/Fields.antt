-- Which headers and footers of index files have bytes, and how many.
use Rattle.std.proofs.Common.{◌≡◌, ◌≢◌, ℕ, ◌+◌, ◌^◌, ◌<◌, ◌≤◌, ◌==◌, inl, inr, Bool, true, [], ◌∷◌, ◌++◌, length, refl, ap, ◌∙◌, arith, rules, lit<, length-append}
use Rattle.std.specs.Int.{w8, w32, w64, to_be_bytes}
use Rattle.sasi_types.specs.Codes.{mode_code, type_code}
use Rattle.sasi_types.specs.declared.column.ColumnType.{ColumnType}
use Rattle.sasi_types.specs.declared.column.ColumnType.TheVariants.{Text, Int, BigInt, Uuid}
use Rattle.sasi_types.specs.declared.mode.Mode.{Mode}
use Rattle.sasi_types.specs.declared.mode.Mode.TheVariants.{Prefix, Contains, Sparse}
use Rattle.sasi_host.specs.Names.{Bytes}
use Rattle.sasi_host.specs.declared.damage.FormatRule.{FormatRule}
use Rattle.sasi_host.specs.declared.damage.FormatRule.TheVariants as rule
use Rattle.sasi_fields.specs.Reading.{Reading}
use Rattle.sasi_formats.specs.Formats.{Format, Then, Encodes, Fits, encoded}
use Rattle.sasi_formats.specs.Reader.{Corruption, Got, read}
use Rattle.sasi_formats.specs.Gives.{Gives}
use Rattle.sasi_formats.specs.declared.fault.FormatFault.{FormatFault}
use Rattle.std.specs.declared.result.Result.{Result}
use Rattle.std.specs.declared.result.Result.TheVariants.{Ok, Err}
use Rattle.sasi_formats.specs.Failures.{Fails}
use Rattle.sasi_formats.specs.Codings.{passing, number_of, one_of}
use Rattle.sasi_formats.specs.Fields.{◌&◌, checked, number, fixed, prefixed}
use Rattle.sasi_formats.specs.Headers.{file_front}
use Rattle.sasi_formats.proofs.Encoding.{encodes, fits}
use Rattle.sasi_formats.proofs.Fitting.{checked_fits, fits_checked, number_fits}
use Rattle.sasi_formats.proofs.Headers.{fixed_of_size, prefixed_of_size}
use Rattle.sasi_formats.proofs.OfSize.{IsOfSize, IsRule, field_of_size, decoded_of_size, both_of_size}
use Rattle.sasi_formats.proofs.Prefixes.{fixed_fits, prefixed_fails_behind, prefixed_fits, prefixed_got}
use Rattle.sasi_termblocks.specs.Entries.{tree}
use Rattle.sasi_indexwrite.specs.declared.footer.Footer.{Footer}
use Rattle.sasi_indexwrite.specs.Format.{magic, mode_field, type_field, header_fields, header, header_bytes, first_field, blocks_field, levels_field, top_field, table_field, spill_field, footer_fields, footer, end_mark, footer_bytes, blocks_end, table_at, has_levels, has_room, is_first, is_spill, is_top, is_term_count, terms_field}

-- ---- a format after one on whose value it depends

then_breaks : {A B : Type 0} (first : Format A) (next : A → Format B) (m n : ℕ) → IsOfSize first m → ((a : A) → IsOfSize (next a) n)
    → (s : Reading) (f : Corruption) → m + n ≤ length s.left → Fails (Then first next) s f → IsRule f
then_breaks first next m n one two s f long (inl h) = one.breaks s f (omega (arith, long)) h
then_breaks first next m n one two s f long (inr h) =
    let passes = h.is_next.passes.next in
    let size = one.sized h.value h.is_next.field h.is_next.is in
    (two h.value).breaks h.behind f (omega (arith, long, size, ap length passes, length-append h.is_next.field h.behind.left)) h.fails

pub then_of_size : {A B : Type 0} (first : Format A) (next : A → Format B) (m n : ℕ) → IsOfSize first m → ((a : A) → IsOfSize (next a) n) → IsOfSize (Then first next) (m + n)
then_of_size first next m n one two = record {
  sized = λ value bytes h.
      ap length h.whole ∙ length-append h.front h.behind ∙ ap (λ (k : ℕ). k + length h.behind) (one.sized value.0 h.front h.starts) ∙ ap (λ (k : ℕ). m + k) ((two value.0).sized value.1 h.behind h.ends);
  breaks = λ s f long h. then_breaks first next m n one two s f long h;
}

-- ---- the header

number_of_size : IsOfSize (number w64) 8
number_of_size = field_of_size 8 rule.Number (number_of w64)

byte_of_size : IsOfSize (number w8) 1
byte_of_size = field_of_size 1 rule.Number (number_of w8)

pub header_of_size : IsOfSize header 16
header_of_size =
    let mode = decoded_of_size rule.Number 1 (one_of mode_code (Prefix ∷ Contains ∷ Sparse ∷ [])) (number w8) 1 byte_of_size in
    let kind = decoded_of_size rule.Number 1 (one_of type_code (Text ∷ Int ∷ BigInt ∷ [])) (number w8) 1 byte_of_size in
    let zeros = fixed_of_size rule.Number (0 ∷ 0 ∷ []) in
    let fields = both_of_size mode_field (type_field & fixed rule.Number (0 ∷ 0 ∷ [])) 1 3 mode (both_of_size type_field (fixed rule.Number (0 ∷ 0 ∷ [])) 1 2 kind zeros) in
    let front = prefixed_of_size (fixed rule.Magic magic) (fixed rule.Version (to_be_bytes w32 1)) 8 4 (fixed_of_size rule.Magic magic) (fixed_of_size rule.Version (to_be_bytes w32 1)) in
    prefixed_of_size (file_front magic) header_fields 12 4 front (decoded_of_size rule.Number 0 _ (mode_field & type_field & fixed rule.Number (0 ∷ 0 ∷ [])) 4 fields)

mode_fits : (mode : Mode) → Fits mode_field mode
mode_fits Prefix = (number_fits w8 0 (lit< tt), refl)
mode_fits Contains = (number_fits w8 1 (lit< tt), refl)
mode_fits Sparse = (number_fits w8 2 (lit< tt), refl)

kind_fits : (kind : ColumnType) → kind ≢ Uuid → Fits type_field kind
kind_fits Text has = (number_fits w8 0 (lit< tt), refl)
kind_fits Int has = (number_fits w8 1 (lit< tt), refl)
kind_fits BigInt has = (number_fits w8 2 (lit< tt), refl)
kind_fits Uuid has = absurd (has refl)

-- a header of a type that has terms has bytes
pub header_fits : (mode : Mode) (kind : ColumnType) → kind ≢ Uuid → Fits header (mode, kind)
header_fits mode kind has =
    let version = fixed rule.Version (to_be_bytes w32 1) in
    let front = prefixed_fits (fixed rule.Magic magic) version tt (fixed_fits rule.Magic magic) (fixed_fits rule.Version (to_be_bytes w32 1)) in
    prefixed_fits (file_front magic) header_fields (mode, kind) front ((mode_fits mode, (kind_fits kind has, fixed_fits rule.Number (0 ∷ 0 ∷ []))), refl)

pub header_is : (mode : Mode) (kind : ColumnType) → header_bytes mode kind ≡ encoded header (mode, kind)
unfolding header_bytes
header_is mode kind = refl

-- a format behind one without a value
pub behind_gives : {A : Type 0} (first : Format (Unit {0})) (second : Format A) (s t u : Reading) (result : Result A FormatFault) → read first s ≡ Got tt t → Gives (read second t) result u → Gives (read (prefixed first second) s) result u
behind_gives first second s t u (Ok value) one two = prefixed_got first second s t u value one two
behind_gives first second s t u (Err fault) one two = prefixed_fails_behind first second s t fault one two

-- ---- the footer

abbrev mark : Bytes
mark = 83 ∷ 65 ∷ 83 ∷ 73 ∷ 73 ∷ 69 ∷ 78 ∷ 68 ∷ []

pub mark_encodes : Encodes end_mark tt (encoded end_mark tt)
mark_encodes = encodes end_mark tt (fixed_fits rule.Magic mark)

pub mark_of_size : IsOfSize end_mark 8
mark_of_size = fixed_of_size rule.Magic mark

-- a footer is its numbers and the mark, in each mode and at each offset
pub footer_is : (mode : Mode) (at : ℕ) (numbers : Footer) → footer_bytes numbers ≡ encoded (footer mode at) numbers ++ encoded end_mark tt
unfolding footer_bytes
footer_is mode at numbers = refl

checked_of_size : (rule : FormatRule) (test : ℕ → Bool) → IsOfSize (checked rule 8 test (number w64)) 8
checked_of_size rule test = decoded_of_size rule 8 (passing test) (number w64) 8 number_of_size

-- the numbers have 64 bytes
pub footer_of_size : (mode : Mode) (at : ℕ) → IsOfSize (footer mode at) 64
footer_of_size mode at =
    let two = both_of_size (number w64) (number w64) 8 8 number_of_size number_of_size in
    let tree_size = decoded_of_size rule.Number 0 _ (number w64 & number w64) 16 two in
    let end = λ (blocks : ℕ). blocks_end mode at blocks in
    let spill = λ (first blocks : ℕ). both_of_size (spill_field first) (terms_field blocks) 16 8 (decoded_of_size rule.Place 8 (passing (is_spill first)) tree 16 tree_size) (checked_of_size rule.Number (is_term_count blocks)) in
    let table = λ (first blocks : ℕ). both_of_size (table_field mode at blocks) (spill_field first & terms_field blocks) 8 24 (checked_of_size rule.Place (λ t. t == table_at mode at blocks)) (spill first blocks) in
    let top = λ (first blocks levels : ℕ). both_of_size (top_field (end blocks) levels) (table_field mode at blocks & spill_field first & terms_field blocks) 8 32 (checked_of_size rule.Place (is_top (end blocks) levels)) (table first blocks) in
    let levels = λ (first blocks : ℕ). then_of_size (levels_field (end blocks) first blocks) (λ l. top_field (end blocks) l & table_field mode at blocks & spill_field first & terms_field blocks) 8 40
    (checked_of_size rule.Number (has_levels (end blocks) first blocks)) (λ l. top first blocks l) in
    let blocks = λ (first : ℕ). then_of_size (blocks_field mode at first) (λ b. Then (levels_field (end b) first b) (λ l. top_field (end b) l & table_field mode at b & spill_field first & terms_field b)) 8 48
    (checked_of_size rule.Number (λ b. has_room (end b) first b)) (λ b. levels first b) in
    decoded_of_size rule.Number 0 _ (footer_fields mode at) 64
    (then_of_size (first_field at) (λ f. Then (blocks_field mode at f) (λ b. Then (levels_field (end b) f b) (λ l. top_field (end b) l & table_field mode at b & spill_field f & terms_field b))) 8 56
    (checked_of_size rule.Place (is_first at)) (λ f. blocks f))

-- numbers in their ranges have bytes
pub record AreInRange (mode : Mode) (at : ℕ) (f : Footer) : Type 0 where
  pub few_terms : f.blocks.terms < 2 ^ 64
  pub few_pairs : f.spill.pairs < 2 ^ 64
  pub root : f.spill.root < 2 ^ 64
  pub small : f.blocks.first < 2 ^ 64
  pub few : f.blocks.blocks < 2 ^ 64
  pub low : f.blocks.levels < 2 ^ 64
  pub near : f.blocks.top < 2 ^ 64
  pub within : f.table < 2 ^ 64
  pub first : is_first at f.blocks.first ≡ true
  pub blocks : has_room (blocks_end mode at f.blocks.blocks) f.blocks.first f.blocks.blocks ≡ true
  pub levels : has_levels (blocks_end mode at f.blocks.blocks) f.blocks.first f.blocks.blocks f.blocks.levels ≡ true
  pub top : is_top (blocks_end mode at f.blocks.blocks) f.blocks.levels f.blocks.top ≡ true
  pub table : f.table ≡ table_at mode at f.blocks.blocks
  pub spill : is_spill f.blocks.first f.spill ≡ true
  pub terms : is_term_count f.blocks.blocks f.blocks.terms ≡ true

same_number : (a b : ℕ) → a ≡ b → (a == b) ≡ true
same_number a b is = search (rules, is)

pub footer_fits : (mode : Mode) (at : ℕ) (f : Footer) → AreInRange mode at f → Fits (footer mode at) f
footer_fits mode at f are =
    let first = f.blocks.first in
    let blocks = f.blocks.blocks in
    let levels = f.blocks.levels in
    let end = blocks_end mode at blocks in
    let spill_tree : Fits tree f.spill = ((number_fits w64 f.spill.root are.root, number_fits w64 f.spill.pairs are.few_pairs), refl) in (
      (
        checked_fits rule.Place 8 (is_first at) (number w64) first (number_fits w64 first are.small) are.first,
        (
          checked_fits rule.Number 8 (λ b. has_room (blocks_end mode at b) first b) (number w64) blocks (number_fits w64 blocks are.few) are.blocks,
          (
            checked_fits rule.Number 8 (has_levels end first blocks) (number w64) levels (number_fits w64 levels are.low) are.levels,
            (
              checked_fits rule.Place 8 (is_top end levels) (number w64) f.blocks.top (number_fits w64 f.blocks.top are.near) are.top,
              (
                checked_fits rule.Place 8 (λ t. t == table_at mode at blocks) (number w64) f.table (number_fits w64 f.table are.within) (same_number f.table (table_at mode at blocks) are.table),
                (
                  checked_fits rule.Place 8 (is_spill first) tree f.spill spill_tree are.spill,
                  checked_fits rule.Number 8 (is_term_count blocks) (number w64) f.blocks.terms (number_fits w64 f.blocks.terms are.few_terms) are.terms,
                ),
              ),
            ),
          ),
        ),
      ),
      refl,
    )

-- the spill tree that a footer names can stand there
pub footer_spill : (mode : Mode) (at : ℕ) (f : Footer) (bytes : Bytes) → Encodes (footer mode at) f bytes → is_spill f.blocks.first f.spill ≡ true
footer_spill mode at f bytes is = (fits_checked rule.Place 8 (is_spill f.blocks.first) tree f.spill (fits (footer mode at) f bytes is).0.1.1.1.1.1.0).1
