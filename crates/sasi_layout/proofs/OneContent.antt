-- Bytes are the data file of one content.
use Rattle.std.specs.Prelude.{◌≡◌, ◌+◌, ◌-◌, ◌^◌, ◌≤◌, ℕ, List, [], ◌∷◌, ◌++◌, length, refl}
use Rattle.std.proofs.Common.{sym, ap, ◌∙◌, arith, append_assoc, length-append}
use Rattle.std.specs.Int.{to_be_bytes, w32}
use Rattle.std.specs.List.{AllByRecursion}
use Rattle.sasi_types.specs.declared.column.ColumnType.{ColumnType}
use Rattle.sasi_types.specs.declared.partitioner.Partitioner.{Partitioner}
use Rattle.sasi_model.specs.Cells.{Partition}
use Rattle.sasi_host.specs.Damages.{HasAt}
use Rattle.sasi_host.specs.Names.{Bytes}
use Rattle.sasi_host.proofs.Offsets.{same_at, second_at}
use Rattle.sasi_formats.specs.Formats.{encoded}
use Rattle.sasi_formats.proofs.Agreement.{same_front}
use Rattle.sasi_formats.proofs.Encoding.{encodes}
use Rattle.sasi_formats.proofs.NumberLaws.{same_number}
use Rattle.sasi_body.specs.Body.{body, IsBodyOf}
use Rattle.sasi_body.proofs.Bodies.{bodies_same}
use Rattle.sasi_body.proofs.BodyBytes.{body_short}
use Rattle.sasi_datawrite.specs.declared.footer.Footer.{Footer}
use Rattle.sasi_datawrite.specs.Files.{IsDataFile}
use Rattle.sasi_datawrite.specs.Format.{Content, content_max_timestamp, end_mark, footer, footer_bytes, front, header, key_pairs, partition_bytes, partitions, trailer}
use Rattle.sasi_datawrite.proofs.Footers.{footer_is}
use Rattle.sasi_dataread.proofs.Laws.{file_is, footer_length, footer_of, footer_stands, in_range}

-- ---- partitions

apart : (key : Bytes) (part : Partition) (rest : Bytes) → partition_bytes key part ++ rest ≡ to_be_bytes w32 (length (body key part)) ++ (body key part ++ rest)
unfolding partition_bytes
apart key part rest = append_assoc (to_be_bytes w32 (length (body key part))) (body key part) rest

some_bytes : (key : Bytes) (part : Partition) (rest : Bytes) → 4 ≤ length (partition_bytes key part ++ rest)
some_bytes key part rest = omega (arith, ap (λ (l : Bytes). length l) (apart key part rest), length-append (to_be_bytes w32 (length (body key part))) (body key part ++ rest))

contents_same : (types : List ColumnType) (a b : Content) → AllByRecursion (λ one. IsBodyOf types one.0 one.1) a → AllByRecursion (λ one. IsBodyOf types one.0 one.1) b → partitions a ≡ partitions b → a ≡ b
contents_same types [] [] first second same = refl
contents_same types [] ((k, q) ∷ b) first second same = absurd (omega (arith, some_bytes k q (partitions b), ap (λ (l : Bytes). length l) same))
contents_same types ((k, p) ∷ a) [] first second same = absurd (omega (arith, some_bytes k p (partitions a), ap (λ (l : Bytes). length l) same))
contents_same types ((k, p) ∷ a) ((j, q) ∷ b) first second same =
    let sized = sym (apart k p (partitions a)) ∙ same ∙ apart j q (partitions b) in
    let behind = same_number w32 (length (body k p)) (length (body j q)) (body k p ++ partitions a) (body j q ++ partitions b) (omega (arith, body_short k p first.0.has)) (omega (arith, body_short j q second.0.has)) sized in
    let one = bodies_same types k j p q (partitions a) (partitions b) first.0 second.0 behind.1 in
    let rest : a ≡ b = contents_same types a b first.1 second.1 one.2 in
    let keys : k ≡ j = one.0 in
    let parts : p ≡ q = one.1 in
    λ i. (keys i, parts i) ∷ rest i

-- ---- files

-- the header and the partitions
front_stands : (p : Partitioner) (types : List ColumnType) (bytes : Bytes) (content : Content) → IsDataFile p types bytes content → HasAt bytes 0 (front content)
front_stands p types bytes content is = record { front = []; rest = trailer (key_pairs p content) (content_max_timestamp content) (length (front content)); is = is.is ∙ file_is p content; offset_is = refl }

-- Bytes that a file may have are the data file of one content.
pub one_content : (p : Partitioner) (types : List ColumnType) (bytes : Bytes) (a b : Content) → length bytes ≤ 2 ^ 62 → IsDataFile p types bytes a → IsDataFile p types bytes b → a ≡ b
one_content p types bytes a b fits first second =
    let at = length bytes - 40 in
    let own = footer_of p a in
    let other = footer_of p b in
    let mark = encoded end_mark tt in
    let same : footer_bytes own ≡ footer_bytes other = same_at bytes at (footer_bytes own) (footer_bytes other) (footer_stands p types bytes a first) (footer_stands p types bytes b second) (footer_length own ∙ sym (footer_length other)) in
    let footers : own ≡ other = (same_front (footer at) own other (encoded (footer at) own) (encoded (footer at) other) mark mark (encodes (footer at) own (in_range p types bytes a first fits)) (encodes (footer at) other (in_range p types bytes b second fits)) (sym (footer_is at own) ∙ same ∙ footer_is at other)).0 in
    let ends : length (front a) ≡ length (front b) = ap (λ (f : Footer). f.end) footers in
    let sizes : length (partitions a) ≡ length (partitions b) = omega (arith, ends, length-append header (partitions a), length-append header (partitions b)) in
    let place : ℕ = 0 + length header in
    let bodies : partitions a ≡ partitions b = same_at bytes place (partitions a) (partitions b)
    (second_at bytes 0 header (partitions a) (front_stands p types bytes a first)) (second_at bytes 0 header (partitions b) (front_stands p types bytes b second)) sizes in
    contents_same types a b first.typed second.typed bodies
