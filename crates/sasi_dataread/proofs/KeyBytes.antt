-- The keys of a data file are bytes, where all that the file has are.
use Rattle.std.proofs.Common.{zero, suc, List, [], ◌∷◌, ◌++◌, length, ◌∙◌, subst, lit<}
use Rattle.std.specs.Int.{to_be_bytes, w16, w32, w64}
use Rattle.sasi_host.specs.Names.{Bytes}
use Rattle.sasi_types.specs.declared.column.ColumnType.{ColumnType}
use Rattle.sasi_types.specs.declared.partitioner.Partitioner.{Partitioner}
use Rattle.sasi_types.specs.Token.{AreBytes}
use Rattle.sasi_model.specs.Cells.{Partition}
use Rattle.sasi_formats.specs.Formats.{encoded, encoded_items}
use Rattle.sasi_body.specs.Body.{body, cell, cells_of}
use Rattle.sasi_body.proofs.BodyBytes.{body_parts}
use Rattle.sasi_datawrite.specs.Format.{Content, content_max_timestamp, front, header, key_pairs, partition_bytes, partitions, trailer}
use Rattle.sasi_datawrite.specs.Files.{IsDataFile}
use Rattle.sasi_dataread.proofs.Laws.{file_is}
use Rattle.sasi_dataread.specs.Scans.{KeysAreBytes}

first_are : (front rest : Bytes) → AreBytes (front ++ rest) → AreBytes front
first_are [] rest are zero = lit< tt
first_are [] rest are (suc index) = lit< tt
first_are (byte ∷ front) rest are zero = are 0
first_are (byte ∷ front) rest are (suc index) = first_are front rest (λ i. are (suc i)) index

rest_are : (front rest : Bytes) → AreBytes (front ++ rest) → AreBytes rest
rest_are [] rest are = are
rest_are (byte ∷ front) rest are = rest_are front rest (λ i. are (suc i))

key_is : (key : Bytes) (part : Partition) → AreBytes (partition_bytes key part) → AreBytes key
unfolding partition_bytes
key_is key part are =
    let size = to_be_bytes w16 (length key) in
    let more = to_be_bytes w64 part.deleted ++ (to_be_bytes w16 (length (cells_of part)) ++ encoded_items (λ _. encoded (cell [] 0 [])) [] (cells_of part)) in
    let whole : AreBytes (body key part) = rest_are (to_be_bytes w32 (length (body key part))) (body key part) are in
    rest_are size key (first_are (size ++ key) more (subst (λ (l : Bytes). AreBytes l) (body_parts key part) whole))

keys_in : (content : Content) → AreBytes (partitions content) → KeysAreBytes content
keys_in [] are = tt
keys_in (one ∷ others) are = (
  key_is one.0 one.1 (first_are (partition_bytes one.0 one.1) (partitions others) are),
  keys_in others (rest_are (partition_bytes one.0 one.1) (partitions others) are),
)

pub keys_are_bytes : (partitioner : Partitioner) (types : List ColumnType) (bytes : Bytes) (content : Content) → IsDataFile partitioner types bytes content → AreBytes bytes → KeysAreBytes content
keys_are_bytes partitioner types bytes content is are =
    let behind = trailer (key_pairs partitioner content) (content_max_timestamp content) (length (front content)) in
    let whole : AreBytes (front content ++ behind) = subst (λ (l : Bytes). AreBytes l) (is.is ∙ file_is partitioner content) are in
    keys_in content (rest_are header (partitions content) (first_are (front content) behind whole))
