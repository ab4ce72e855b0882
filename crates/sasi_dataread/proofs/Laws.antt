-- The offsets of the parts of a data file.
use Rattle.std.specs.Prelude.{◌≡◌, ℕ, ◌+◌, ◌-◌, ◌*◌, ◌^◌, ◌≤◌, List, [], ◌∷◌, ◌++◌, length, map, refl}
use Rattle.std.proofs.Common.{sym, ◌∙◌, ap, subst, arith, append_assoc, length-append}
use Rattle.std.proofs.lemmas.List.{append-nil}
use Rattle.std.specs.List.{AllByRecursion}
use Rattle.sasi_types.specs.declared.column.ColumnType.{ColumnType}
use Rattle.sasi_types.specs.declared.partitioner.Partitioner.{Partitioner}
use Rattle.sasi_types.specs.declared.tree.TreeRef.{TreeRef}
use Rattle.sasi_model.specs.Cells.{Partition, max_timestamp_of}
use Rattle.sasi_model.specs.Abbreviations.{max_timestamp_in}
use Rattle.sasi_host.specs.Names.{Bytes}
use Rattle.sasi_model.specs.Stored.{cells_of, IsCell}
use Rattle.sasi_body.specs.Body.{body, HasBody, IsBodyOf}
use Rattle.sasi_body.proofs.BodyBytes.{body_least}
use Rattle.sasi_cells.specs.Entries.{Entry}
use Rattle.sasi_tokentree.specs.Format.{tree_bytes, tree_ref}
use Rattle.sasi_tokentree.proofs.Laws.{RootStands, root_offset, is_root_offset}
use Rattle.sasi_host.specs.Damages.{HasAt}
use Rattle.sasi_formats.specs.Formats.{Fits}
use Rattle.sasi_datawrite.specs.declared.footer.Footer.{Footer}
use Rattle.sasi_datawrite.specs.Format.{Content, IsContent, header, footer, footer_bytes, front, trailer, content_max_timestamp, key_pairs, partition_bytes, partitions, data_bytes}
use Rattle.sasi_datawrite.specs.Files.{IsDataFile}
use Rattle.sasi_datawrite.proofs.Laws.{header_length, partition_length, pairs_length}
use Rattle.sasi_datawrite.proofs.Footers.{footer_fits, room_filled}
use Rattle.sasi_dataread.specs.Opened.{StandsAt}
use Rattle.sasi_dataread.specs.Bodies.{length_prefixed}

-- ---- partitions

pub partitions_on : (before others : Content) → partitions (before ++ others) ≡ partitions before ++ partitions others
partitions_on [] others = refl
partitions_on (one ∷ before) others = ap (λ (l : Bytes). partition_bytes one.0 one.1 ++ l) (partitions_on before others) ∙ sym
    (append_assoc (partition_bytes one.0 one.1) (partitions before) (partitions others))

-- what is in front of a partition, the partition, and what is behind it
pub front_parts : (before behind : Content) (key : Bytes) (part : Partition) → front (before ++ (key, part) ∷ behind) ≡ front before ++ (partition_bytes key part ++ partitions behind)
front_parts before behind key part = ap (λ (l : Bytes). header ++ l) (partitions_on before ((key, part) ∷ behind)) ∙ sym
    (append_assoc header (partitions before) (partition_bytes key part ++ partitions behind))

partition_is : (key : Bytes) (part : Partition) → partition_bytes key part ≡ length_prefixed (body key part)
unfolding partition_bytes
partition_is key part = refl

pub file_is : (partitioner : Partitioner) (content : Content) → data_bytes partitioner content ≡ front content ++ trailer (key_pairs partitioner content) (content_max_timestamp content) (length (front content))
unfolding data_bytes
file_is partitioner content = refl

-- the file has a partition at its offset
pub partition_stands : (partitioner : Partitioner) (types : List ColumnType) (bytes : Bytes) (content : Content) (place : ℕ) (key : Bytes)
    (part : Partition) → IsDataFile partitioner types bytes content → StandsAt content place key part → HasAt bytes place (length_prefixed (body key part))
partition_stands partitioner types bytes content place key part is at =
    let end = trailer (key_pairs partitioner content) (content_max_timestamp content) (length (front content)) in
    record {
      front = front at.before;
      rest = partitions at.behind ++ end;
      is = is.is ∙ file_is partitioner content ∙ ap (λ (l : Bytes). l ++ end) (ap (λ (l : Content). front l) at.is ∙ front_parts at.before at.behind key part)
          ∙ regroup (front at.before) (partition_bytes key part) (partitions at.behind) end ∙ ap (λ (l : Bytes). front at.before ++ l ++ (partitions at.behind ++ end)) (partition_is key part);
      offset_is = sym at.begins;
    }
  where
    regroup : (a b c d : Bytes) → (a ++ (b ++ c)) ++ d ≡ a ++ b ++ (c ++ d)
    regroup a b c d = simp append_assoc

-- in front of where the partitions end
pub partition_within : (content : Content) (place : ℕ) (key : Bytes) (part : Partition) → StandsAt content place key part → place + 4 + length (body key part) ≤ length (front content)
partition_within content place key part at =
    omega (
      arith,
      at.begins,
      ap (λ (l : Content). length (front l)) at.is,
      ap (λ (l : Bytes). length l) (front_parts at.before at.behind key part),
      length-append (front at.before) (partition_bytes key part ++ partitions at.behind),
      length-append (partition_bytes key part) (partitions at.behind),
      partition_length key part,
    )

all_at : (P : Bytes × Partition → Type 0) (before behind : Content) (one : Bytes × Partition) → AllByRecursion P (before ++ one ∷ behind) → P one
all_at P [] behind one all = all.0
all_at P (first ∷ before) behind one all = all_at P before behind one all.1

-- it is one of the table
pub partition_typed : (partitioner : Partitioner) (types : List ColumnType) (bytes : Bytes) (content : Content) (place : ℕ) (key : Bytes)
    (part : Partition) → IsDataFile partitioner types bytes content → StandsAt content place key part → IsBodyOf types key part
partition_typed partitioner types bytes content place key part is at =
    all_at (λ one. IsBodyOf types one.0 one.1) at.before at.behind (key, part) (subst (λ (l : Content). AllByRecursion (λ one. IsBodyOf types one.0 one.1) l) at.is is.typed)

-- ---- the header and the footer

pub header_stands : (partitioner : Partitioner) (types : List ColumnType) (bytes : Bytes) (content : Content) → IsDataFile partitioner types bytes content → HasAt bytes 0 header
header_stands partitioner types bytes content is =
    let end = trailer (key_pairs partitioner content) (content_max_timestamp content) (length (front content)) in
    record { front = []; rest = partitions content ++ end; is = is.is ∙ file_is partitioner content ∙ append_assoc header (partitions content) end; offset_is = refl }

-- what the footer tells
abbrev pub tree_of : Partitioner → Content → TreeRef
tree_of partitioner content = tree_ref (length (front content)) (key_pairs partitioner content)

abbrev pub footer_of : Partitioner → Content → Footer
footer_of partitioner content = record { tree = tree_of partitioner content; max_timestamp = content_max_timestamp content; end = length (front content) }

pub footer_length : (numbers : Footer) → length (footer_bytes numbers) ≡ 40
unfolding footer_bytes
footer_length numbers = refl

abbrev tree_part : Partitioner → Content → Bytes
tree_part partitioner content = tree_bytes (length (front content)) (key_pairs partitioner content)

whole_length : (partitioner : Partitioner) (types : List ColumnType) (bytes : Bytes) (content : Content) → IsDataFile partitioner types bytes content
    → length bytes ≡ length (front content) + length (tree_part partitioner content) + 40
whole_length partitioner types bytes content is =
    omega (
      arith,
      ap (λ (l : Bytes). length l) (is.is ∙ file_is partitioner content),
      length-append (front content) (tree_part partitioner content ++ footer_bytes (footer_of partitioner content)),
      length-append (tree_part partitioner content) (footer_bytes (footer_of partitioner content)),
      footer_length (footer_of partitioner content),
    )

pub footer_stands : (partitioner : Partitioner) (types : List ColumnType) (bytes : Bytes) (content : Content) → IsDataFile partitioner types bytes
    content → HasAt bytes (length bytes - 40) (footer_bytes (footer_of partitioner content))
footer_stands partitioner types bytes content is = record {
  front = front content ++ tree_part partitioner content;
  rest = [];
  is = is.is ∙ file_is partitioner content ∙ regroup (front content) (tree_part partitioner content) (footer_bytes (footer_of partitioner content)) ∙ sym
      (append-nil ((front content ++ tree_part partitioner content) ++ footer_bytes (footer_of partitioner content)));
  offset_is = omega (arith, whole_length partitioner types bytes content is, length-append (front content) (tree_part partitioner content));
}
  where
    regroup : (a b c : Bytes) → a ++ (b ++ c) ≡ (a ++ b) ++ c
    regroup a b c = simp append_assoc

-- ---- sizes

partitions_least : (content : Content) → AllByRecursion (λ one. HasBody one.0 one.1) content → 17 * length content ≤ length (partitions content)
partitions_least [] all = omega arith
partitions_least (one ∷ others) all =
    omega (arith, body_least one.0 one.1 all.0, partition_length one.0 one.1, length-append (partition_bytes one.0 one.1) (partitions others), partitions_least others all.1)

pub front_least : (partitioner : Partitioner) (content : Content) → IsContent partitioner content → 16 + 17 * length content ≤ length (front content)
front_least partitioner content is = omega (arith, header_length, length-append header (partitions content), partitions_least content is.bodies)

count_is : (partitioner : Partitioner) (content : Content) → length (key_pairs partitioner content) ≡ length content
count_is partitioner content = pairs_length partitioner (length header) content

-- the root of the key tree stands within the tree
tree_offset : (partitioner : Partitioner) (content : Content) → IsContent partitioner content → RootStands (length (front content)) (key_pairs partitioner content)
tree_offset partitioner content is = root_offset (length (front content)) (key_pairs partitioner content) (omega (arith, is.some, count_is partitioner content))

tree_least : (partitioner : Partitioner) (content : Content) → IsContent partitioner content → 24 ≤ length (tree_part partitioner content)
tree_least partitioner content is = let place = tree_offset partitioner content is in omega (arith, place.behind, place.within)

-- a data file has 97 bytes or more
pub least_size : (partitioner : Partitioner) (types : List ColumnType) (bytes : Bytes) (content : Content) → IsDataFile partitioner types bytes content → 97 ≤ length bytes
least_size partitioner types bytes content is =
    omega (arith, whole_length partitioner types bytes content is, tree_least partitioner content is.content_is, front_least partitioner content is.content_is, is.content_is.some)

-- and the partitions end in front of the footer
pub end_within : (partitioner : Partitioner) (types : List ColumnType) (bytes : Bytes) (content : Content) → IsDataFile partitioner types bytes content → length (front content) ≤ length bytes - 40
end_within partitioner types bytes content is = omega (arith, whole_length partitioner types bytes content is)

-- ---- the numbers in the footer

pub pairs_are : (partitioner : Partitioner) (content : Content) → (tree_of partitioner content).pairs ≡ length content
pairs_are partitioner content = count_is partitioner content

times_fit : (deleted : ℕ) (entries : List Entry) → AllByRecursion (IsCell deleted) entries → max_timestamp_in (map (λ e. e.1) entries) ≤ 2 ^ 62
times_fit deleted [] all = omega arith
times_fit deleted (entry ∷ entries) all = omega (arith, all.0.time, times_fit deleted entries all.1)

part_fits : (key : Bytes) (part : Partition) → HasBody key part → max_timestamp_of part ≤ 2 ^ 62
part_fits key part has = omega (arith, has.deleted, times_fit part.deleted (cells_of part) has.cells)

greatest_fits : (content : Content) → AllByRecursion (λ one. HasBody one.0 one.1) content → content_max_timestamp content ≤ 2 ^ 62
greatest_fits [] all = omega arith
greatest_fits (one ∷ others) all = omega (arith, part_fits one.0 one.1 all.0, greatest_fits others all.1)

pub in_range : (partitioner : Partitioner) (types : List ColumnType) (bytes : Bytes) (content : Content) → IsDataFile partitioner types bytes content
    → length bytes ≤ 2 ^ 62 → Fits (footer (length bytes - 40)) (footer_of partitioner content)
in_range partitioner types bytes content is short =
    let count = count_is partitioner content in
    let some = is.content_is.some in
    let first = front_least partitioner content is.content_is in
    let end = end_within partitioner types bytes content is in
    let place = tree_offset partitioner content is.content_is in
    let whole = whole_length partitioner types bytes content is in
    footer_fits (length bytes - 40) (footer_of partitioner content) (omega (arith, place.within, whole, short)) (omega (arith, count, some)) (omega (arith, count, first, end, short))
    (omega (arith, greatest_fits content is.content_is.bodies)) (omega (arith, end, short)) (omega (arith, first, some)) (omega (arith, whole, tree_least partitioner content is.content_is))
    (room_filled (length bytes - 40) (length (front content)) (key_pairs partitioner content) (omega (arith, count, some)) (omega (arith, short)) (omega (arith, whole)))
    (is_root_offset (length (front content)) (length bytes - 40) (key_pairs partitioner content) (omega (arith, count, some)) (omega (arith, whole)))
