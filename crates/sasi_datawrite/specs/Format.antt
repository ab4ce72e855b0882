-- The bytes of a data file: a header, the partitions, the key tree and a footer.
use Rattle.std.specs.Prelude.{ℕ, ◌+◌, ◌-◌, ◌^◌, ◌≤◌, ◌==◌, nat_le, Bool, true, ◌&&◌, if◌then◌else◌, max, List, [], ◌∷◌, ◌++◌, length, map, refl}
use Rattle.std.specs.Int.{to_be_bytes, w32, w64}
use Rattle.std.specs.List.{flat_map, AllByRecursion}
use Rattle.std.specs.List.Sorted.{IsStrictlySortedBy}
use Rattle.sasi_types.specs.declared.partitioner.Partitioner.{Partitioner}
use Rattle.sasi_types.specs.declared.decorated_key.DecoratedKey.{DecoratedKey}
use Rattle.sasi_types.specs.declared.tree.Pair.{Pair}
use Rattle.sasi_types.specs.DecoratedKey.{decorated_cmp}
use Rattle.sasi_types.specs.Token.{token_of}
use Rattle.sasi_model.specs.Cells.{Partition, max_timestamp_of}
use Rattle.sasi_host.specs.Names.{Bytes}
use Rattle.sasi_host.specs.declared.damage.FormatRule.TheVariants as rule
use Rattle.sasi_formats.specs.Formats.{Format, Then, encoded}
use Rattle.sasi_formats.specs.Fields.{◌&◌, checked, mapped, number, in_range, fixed}
use Rattle.sasi_formats.specs.Headers.{file_header}
use Rattle.sasi_body.specs.Body.{body, HasBody}
use Rattle.sasi_tokentree.specs.Format.{tree_bytes, tree_ref}
use Rattle.sasi_tokentree.specs.Damages.{is_node_offset}
use Rattle.sasi_tokentree.specs.Heights.{bytes_below_root, levels_size}
use Rattle.sasi_datawrite.specs.declared.footer.Footer.{Footer}

-- ---- what a file holds

-- keys and their partitions
abbrev pub Content : Type 0
Content = List (Bytes × Partition)

-- the decorated key of a partition: its token and key
abbrev pub decorated_key : Partitioner → Bytes × Partition → DecoratedKey
decorated_key partitioner one = record { token = token_of partitioner one.0; key = one.0 }

-- one partition at least, each with a body, rising by token and then by key
pub record IsContent (partitioner : Partitioner) (content : Content) : Type 0 where
  pub some : 1 ≤ length content
  pub rising : IsStrictlySortedBy decorated_cmp (map (decorated_key partitioner) content)
  pub bodies : AllByRecursion (λ one. HasBody one.0 one.1) content

-- the largest timestamp of a deletion or a cell
abbrev pub content_max_timestamp : Content → ℕ
content_max_timestamp [] = 0
content_max_timestamp (one ∷ others) = max (max_timestamp_of one.1) (content_max_timestamp others)

-- ---- the parts of a file

-- "SASIDAT1"
abbrev pub magic : Bytes
magic = 83 ∷ 65 ∷ 83 ∷ 73 ∷ 68 ∷ 65 ∷ 84 ∷ 49 ∷ []

-- the header: the magic, the version 1 and 0
unfoldable pub header : Bytes
header = encoded (file_header magic 0) tt

-- a partition: the length of its body, and the body
unfoldable pub partition_bytes : Bytes → Partition → Bytes
partition_bytes key part = to_be_bytes w32 (length (body key part)) ++ body key part

-- the partitions, one behind another
abbrev pub partitions : Content → Bytes
partitions = flat_map (λ one. partition_bytes one.0 one.1)

-- the bytes before the key tree
abbrev pub front : Content → Bytes
front content = header ++ partitions content

-- the token of each key with the offset of its partition, where the first one begins at this offset
abbrev pub pairs_from : Partitioner → ℕ → Content → List Pair
pairs_from partitioner at [] = []
pairs_from partitioner at (one ∷ others) = record { token = token_of partitioner one.0; place = at } ∷ pairs_from partitioner (at + length (partition_bytes one.0 one.1)) others

-- the pairs of the key tree
abbrev pub key_pairs : Partitioner → Content → List Pair
key_pairs partitioner content = pairs_from partitioner (length header) content

-- where the partitions end, before a footer at this offset: behind the smallest one, and where a node of the key tree can stand
abbrev pub end_before : ℕ → Format ℕ
end_before at = checked rule.Place 8 (is_node_offset 33 at) (number w64)

-- whether the key tree with this root and so many pairs fills the room from the partitions' end to a footer at this offset; no file has room for more than 2^58
abbrev pub fills_room : ℕ → ℕ → ℕ → ℕ → Bool
fills_room at root end pairs = nat_le pairs (2 ^ 58) && (end + bytes_below_root pairs pairs == root && end + levels_size pairs pairs == at)

-- whether there can be so many pairs; of a root that can't stand in that room nothing is asked, since the root is wrong then
abbrev pub is_count : ℕ → ℕ → ℕ → ℕ → Bool
is_count at root end pairs = if is_node_offset end at root then fills_room at root end pairs else true

-- the number of partitions, each of which has a pair in the key tree, the largest timestamp, and where the partitions end, behind this root
abbrev pub counted_fields : ℕ → ℕ → Format (ℕ × (ℕ × ℕ))
counted_fields at root = checked rule.Number 8 (λ n. is_count at root n.1.1 n.0) (in_range w64 1 (2 ^ 64 - 1) & number w64 & end_before at)

-- the root of the key tree, and these
abbrev pub footer_fields : ℕ → Format Footer
footer_fields at =
    mapped (λ n. record { tree = record { root = n.0; pairs = n.1.0 }; max_timestamp = n.1.1.0; end = n.1.1.1 }) (λ f. (f.tree.root, (f.tree.pairs, (f.max_timestamp, f.end)))) (λ _. refl)
    (Then (number w64) (counted_fields at))

-- the numbers of a footer at this offset; the root stands between where the partitions end and the footer
abbrev pub footer : ℕ → Format Footer
footer at = checked rule.Place 8 (λ f. is_node_offset f.end at f.tree.root) (footer_fields at)

-- "SASIDEND", which follows them
abbrev pub end_mark : Format (Unit {0})
end_mark = fixed rule.Magic (83 ∷ 65 ∷ 83 ∷ 73 ∷ 68 ∷ 69 ∷ 78 ∷ 68 ∷ [])

-- the bytes of both, which are the same whatever the offset
unfoldable pub footer_bytes : Footer → Bytes
footer_bytes numbers = encoded (footer 0) numbers ++ encoded end_mark tt

-- the key tree of these pairs behind so many bytes, and the footer
abbrev pub trailer : List Pair → ℕ → ℕ → Bytes
trailer pairs max_timestamp end = tree_bytes end pairs ++ footer_bytes (record { tree = tree_ref end pairs; max_timestamp = max_timestamp; end = end })

-- ---- the file

-- the one encoding of this content
unfoldable pub data_bytes : Partitioner → Content → Bytes
data_bytes partitioner content = front content ++ trailer (key_pairs partitioner content) (content_max_timestamp content) (length (front content))
