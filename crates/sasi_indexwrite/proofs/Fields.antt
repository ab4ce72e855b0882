-- The bytes of the header and of the footer, field by field.
use Rattle.std.proofs.Common.{◌≡◌, ℕ, [], ◌∷◌, ◌++◌, ap, append_assoc, ◌∙◌, refl}
use Rattle.std.specs.Int.{to_be_bytes, w8, w16, w64}
use Rattle.sasi_types.specs.Codes.{mode_code, type_code}
use Rattle.sasi_types.specs.declared.column.ColumnType.{ColumnType}
use Rattle.sasi_types.specs.declared.column.ColumnType.TheVariants.{Text, Int, BigInt, Uuid}
use Rattle.sasi_types.specs.declared.mode.Mode.{Mode}
use Rattle.sasi_types.specs.declared.mode.Mode.TheVariants.{Prefix, Contains, Sparse}
use Rattle.sasi_host.specs.Names.{Bytes}
use Rattle.sasi_formats.specs.Formats.{encoded}
use Rattle.sasi_formats.specs.Headers.{file_front}
use Rattle.sasi_termblocks.specs.Entries.{tree}
use Rattle.sasi_indexwrite.specs.declared.footer.Footer.{Footer}
use Rattle.sasi_indexwrite.specs.Format.{footer_bytes, header_bytes, magic}

mode_byte : (mode : Mode) → mode_code mode ∷ [] ≡ to_be_bytes w8 (mode_code mode)
mode_byte Prefix = refl
mode_byte Contains = refl
mode_byte Sparse = refl

type_byte : (kind : ColumnType) → type_code kind ∷ [] ≡ to_be_bytes w8 (type_code kind)
type_byte Text = refl
type_byte Int = refl
type_byte BigInt = refl
type_byte Uuid = refl

pub header_put : (o a b c d first : Bytes) (m k : ℕ) (mode : Mode) (kind : ColumnType) → first ≡ magic → m ≡ mode_code mode → k ≡ type_code kind → a ≡ o ++ encoded (file_front first) tt → b ≡ a ++ m ∷ []
    → c ≡ b ++ k ∷ [] → d ≡ c ++ to_be_bytes w16 0 → d ≡ o ++ header_bytes mode kind
unfolding header_bytes
header_put o a b c d first m k mode kind is mode_is kind_is front mode_put kind_put zeros =
    let one : a ≡ o ++ encoded (file_front magic) tt = front ∙ ap (λ (l : Bytes). o ++ encoded (file_front l) tt) is in
    let two : b ≡ a ++ to_be_bytes w8 (mode_code mode) = mode_put ∙ ap (λ (l : Bytes). a ++ l) (ap (λ (n : ℕ). n ∷ []) mode_is ∙ mode_byte mode) in
    let three : c ≡ b ++ to_be_bytes w8 (type_code kind) = kind_put ∙ ap (λ (l : Bytes). b ++ l) (ap (λ (n : ℕ). n ∷ []) kind_is ∙ type_byte kind) in
    zeros ∙ ap (λ (l : Bytes). l ++ to_be_bytes w16 0) (three ∙ ap (λ (l : Bytes). l ++ to_be_bytes w8 (type_code kind)) (two ∙ ap (λ (l : Bytes). l ++ to_be_bytes w8 (mode_code mode)) one))
    ∙ regroup o (encoded (file_front magic) tt) (to_be_bytes w8 (mode_code mode)) (to_be_bytes w8 (type_code kind)) (to_be_bytes w16 0)
  where
    regroup : (a b c d e : Bytes) → (((a ++ b) ++ c) ++ d) ++ e ≡ a ++ (b ++ (c ++ (d ++ e)))
    regroup a b c d e = simp append_assoc

pub footer_put : (o a b c d e : Bytes) (numbers : Footer)
    → a ≡ o ++ (to_be_bytes w64 numbers.blocks.first ++ (to_be_bytes w64 numbers.blocks.blocks ++ (to_be_bytes w64 numbers.blocks.levels ++ to_be_bytes w64 numbers.blocks.top)))
    → b ≡ a ++ to_be_bytes w64 numbers.table → c ≡ b ++ encoded tree numbers.spill → d ≡ c ++ to_be_bytes w64 numbers.blocks.terms
    → e ≡ d ++ (83 ∷ 65 ∷ 83 ∷ 73 ∷ 73 ∷ 69 ∷ 78 ∷ 68 ∷ []) → e ≡ o ++ footer_bytes numbers
unfolding footer_bytes
footer_put o a b c d e numbers blocks table spill terms mark = rw (mark, terms, spill, table, blocks) (simp append_assoc)
