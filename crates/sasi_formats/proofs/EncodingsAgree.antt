-- The bytes that a writer puts for a value that fits are those that the format relates to it, and no others.
use Rattle.std.proofs.Common.{sym, subst}
use Rattle.sasi_host.specs.Names.{Bytes}
use Rattle.sasi_formats.specs.Formats.{Format, Encodes}
use Rattle.sasi_formats.specs.Encodings.{IsEncoded}
use Rattle.sasi_formats.proofs.Encoding.{encoded_only, encodes, fits}

pub is_encoded_of : {A : Type 0} (format : Format A) (value : A) (bytes : Bytes) → Encodes format value bytes → IsEncoded format value bytes
is_encoded_of format value bytes h = (fits format value bytes h, encoded_only format value bytes h)

pub encodes_of : {A : Type 0} (format : Format A) (value : A) (bytes : Bytes) → IsEncoded format value bytes → Encodes format value bytes
encodes_of format value bytes h = subst (λ (l : Bytes). Encodes format value l) (sym h.1) (encodes format value h.0)
