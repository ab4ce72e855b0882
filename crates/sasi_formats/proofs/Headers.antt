-- The header of a file: its size, and its bytes.
use Rattle.std.proofs.Common.{◌≡◌, ℕ, ◌+◌, length, arith, subst}
use Rattle.std.specs.Int.{to_be_bytes, w32}
use Rattle.sasi_host.specs.Names.{Bytes}
use Rattle.sasi_host.specs.declared.damage.FormatRule.{FormatRule}
use Rattle.sasi_host.specs.declared.damage.FormatRule.TheVariants as rule
use Rattle.sasi_formats.specs.Formats.{Format, Encodes, encoded}
use Rattle.sasi_formats.specs.Codings.{only}
use Rattle.sasi_formats.specs.Fields.{◌&◌, fixed, prefixed}
use Rattle.sasi_formats.specs.Headers.{file_front, file_header}
use Rattle.sasi_formats.proofs.Encoding.{encodes}
use Rattle.sasi_formats.proofs.OfSize.{IsOfSize, field_of_size, decoded_of_size, both_of_size}
use Rattle.sasi_formats.proofs.Prefixes.{fixed_fits, prefixed_fits}

pub fixed_of_size : (broken : FormatRule) (wanted : Bytes) → IsOfSize (fixed broken wanted) (length wanted)
fixed_of_size broken wanted = field_of_size (length wanted) broken (only wanted)

pub prefixed_of_size : {A : Type 0} (first : Format (Unit {0})) (second : Format A) (m n : ℕ) → IsOfSize first m → IsOfSize second n → IsOfSize (prefixed first second) (m + n)
prefixed_of_size first second m n one two = decoded_of_size rule.Number 0 _ (first & second) (m + n) (both_of_size first second m n one two)

module _ (magic : Bytes) (number : ℕ) where
  abbrev version : Format (Unit {0})
  version = fixed rule.Version (to_be_bytes w32 1)

  abbrev numbered : Format (Unit {0})
  numbered = fixed rule.Number (to_be_bytes w32 number)

  -- a header has eight bytes more than its magic
  pub header_of_size : IsOfSize (file_header magic number) (length magic + 8)
  header_of_size =
      let front = prefixed_of_size (fixed rule.Magic magic) version (length magic) 4 (fixed_of_size rule.Magic magic) (fixed_of_size rule.Version (to_be_bytes w32 1)) in
      subst (λ (n : ℕ). IsOfSize (file_header magic number) n) (omega arith)
      (prefixed_of_size (file_front magic) numbered (length magic + 4) 4 front (fixed_of_size rule.Number (to_be_bytes w32 number)))

  -- its bytes are those of the format
  pub header_encodes : Encodes (file_header magic number) tt (encoded (file_header magic number) tt)
  header_encodes = encodes (file_header magic number) tt
      (prefixed_fits (file_front magic) numbered tt (prefixed_fits (fixed rule.Magic magic) version tt (fixed_fits rule.Magic magic) (fixed_fits rule.Version (to_be_bytes w32 1))) (fixed_fits rule.Number (to_be_bytes w32 number)))

  pub header_length : length (encoded (file_header magic number) tt) ≡ length magic + 8
  header_length = header_of_size.sized tt (encoded (file_header magic number) tt) header_encodes
