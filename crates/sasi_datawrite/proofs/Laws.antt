-- What one more partition adds to a file.
use Rattle.std.specs.Prelude.{◌≡◌, ℕ, ◌+◌, max, List, [], ◌∷◌, ◌++◌, length, refl}
use Rattle.std.proofs.Common.{sym, ◌∙◌, ap, arith, append_assoc, length-append}
use Rattle.std.proofs.lemmas.List.{append-nil}
use Rattle.std.specs.Int.{to_be_bytes, w32, w64}
use Rattle.sasi_types.specs.declared.partitioner.Partitioner.{Partitioner}
use Rattle.sasi_types.specs.declared.tree.Pair.{Pair}
use Rattle.sasi_types.specs.Token.{token_of}
use Rattle.sasi_model.specs.Cells.{Partition, max_timestamp_of}
use Rattle.sasi_host.specs.Names.{Bytes}
use Rattle.sasi_body.specs.Body.{body}
use Rattle.sasi_formats.specs.Formats.{encoded}
use Rattle.sasi_formats.specs.Headers.{file_header}
use Rattle.sasi_datawrite.specs.declared.footer.Footer.{Footer}
use Rattle.sasi_datawrite.specs.Format.{Content, partition_bytes, partitions, front, magic, header, footer_bytes, pairs_from, content_max_timestamp}
use Rattle.sasi_datawrite.specs.Calls.{Call, partition_calls, calls_from}

-- the header has 16 bytes
pub header_length : length header ≡ 16
unfolding header
header_length = refl

-- it is put by its magic
pub header_put : (first : Bytes) → first ≡ magic → encoded (file_header first 0) tt ≡ header
unfolding header
header_put first is = ap (λ (l : Bytes). encoded (file_header l 0) tt) is

-- the bytes of a footer, field by field
pub footer_put : (a b c d e f : Bytes) (numbers : Footer) → b ≡ a ++ to_be_bytes w64 numbers.tree.root → c ≡ b ++ to_be_bytes w64 numbers.tree.pairs → d ≡ c ++ to_be_bytes w64 numbers.max_timestamp
    → e ≡ d ++ to_be_bytes w64 numbers.end → f ≡ e ++ (83 ∷ 65 ∷ 83 ∷ 73 ∷ 68 ∷ 69 ∷ 78 ∷ 68 ∷ []) → a ≡ [] → f ≡ footer_bytes numbers
unfolding footer_bytes
footer_put a b c d e f numbers root pairs time end mark none = rw (mark, end, time, pairs, root, none) (simp append_assoc)

-- a partition has the bytes of its length, and those of its body
pub partition_length : (key : Bytes) (part : Partition) → length (partition_bytes key part) ≡ 4 + length (body key part)
unfolding partition_bytes
partition_length key part = length-append (to_be_bytes w32 (length (body key part))) (body key part)

-- its bytes stand behind the others
pub partitions_push : (content : Content) (key : Bytes) (part : Partition) → partitions (content ++ (key, part) ∷ []) ≡ partitions content ++ partition_bytes key part
partitions_push [] key part = append-nil (partition_bytes key part)
partitions_push (one ∷ others) key part = ap (λ (l : Bytes). partition_bytes one.0 one.1 ++ l) (partitions_push others key part) ∙ sym
    (append_assoc (partition_bytes one.0 one.1) (partitions others) (partition_bytes key part))

pub front_push : (content : Content) (key : Bytes) (part : Partition) → front (content ++ (key, part) ∷ []) ≡ front content ++ partition_bytes key part
front_push content key part = ap (λ (l : Bytes). header ++ l) (partitions_push content key part) ∙ sym (append_assoc header (partitions content) (partition_bytes key part))

-- and so does its pair
pub pairs_push : (partitioner : Partitioner) (at : ℕ) (content : Content) (key : Bytes) (part : Partition)
    → pairs_from partitioner at (content ++ (key, part) ∷ []) ≡ pairs_from partitioner at content ++ record { token = token_of partitioner key; place = at + length (partitions content) } ∷ []
pairs_push partitioner at [] key part = ap (λ (n : ℕ). pair_at n ∷ []) (omega arith)
  where
    pair_at : ℕ → Pair
    pair_at n = record { token = token_of partitioner key; place = n }
pairs_push partitioner at (one ∷ others) key part =
    ap (λ (l : List Pair). first ∷ l) (pairs_push partitioner next others key part ∙ ap
    (λ (n : ℕ). pairs_from partitioner next others ++ pair_at n ∷ [])
    (omega (arith, length-append (partition_bytes one.0 one.1) (partitions others))))
  where
    pair_at : ℕ → Pair
    pair_at n = record { token = token_of partitioner key; place = n }

    next : ℕ
    next = at + length (partition_bytes one.0 one.1)

    first : Pair
    first = record { token = token_of partitioner one.0; place = at }

-- and so do its calls
pub calls_push : (partitioner : Partitioner) (at : ℕ) (content : Content) (key : Bytes) (part : Partition)
    → calls_from partitioner at (content ++ (key, part) ∷ []) ≡ calls_from partitioner at content ++ partition_calls (token_of partitioner key) (at + length (partitions content)) part
calls_push partitioner at [] key part = append-nil (partition_calls (token_of partitioner key) at part) ∙ ap (λ (n : ℕ). partition_calls (token_of partitioner key) n part) (omega arith)
calls_push partitioner at (one ∷ others) key part =
    ap (λ (l : List Call). mine ++ l)
    (calls_push partitioner next others key part ∙ ap (λ (n : ℕ). calls_from partitioner next others ++ partition_calls (token_of partitioner key) n
    part) (omega (arith, length-append (partition_bytes one.0 one.1) (partitions others))))
    ∙ sym (append_assoc mine (calls_from partitioner next others) (partition_calls (token_of partitioner key) (at + length (partitions (one ∷ others))) part))
  where
    next : ℕ
    next = at + length (partition_bytes one.0 one.1)

    mine : List Call
    mine = partition_calls (token_of partitioner one.0) at one.1

-- the largest timestamp is the old one or its own
pub content_max_timestamp_push : (content : Content) (key : Bytes) (part : Partition) → content_max_timestamp (content ++ (key, part) ∷ []) ≡ max (content_max_timestamp content) (max_timestamp_of part)
content_max_timestamp_push [] key part = omega arith
content_max_timestamp_push (one ∷ others) key part = omega (arith, content_max_timestamp_push others key part)

-- there is a pair for each partition
pub pairs_length : (partitioner : Partitioner) (at : ℕ) (content : Content) → length (pairs_from partitioner at content) ≡ length content
pairs_length partitioner at [] = refl
pairs_length partitioner at (one ∷ others) = omega (arith, pairs_length partitioner (at + length (partition_bytes one.0 one.1)) others)
