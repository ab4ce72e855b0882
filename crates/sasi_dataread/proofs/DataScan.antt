-- Partitions that the key tree leads to.
use Rattle.std.proofs.Common.{◌≡◌, ℕ, suc, ◌+◌, ◌-◌, ◌/◌, ◌^◌, ◌*◌, ◌<◌, ◌≤◌, List, [], ◌∷◌, length, length-append, length-drop, take, drop, arith, sym, ◌∙◌, ap, subst, ⊎_elim, Option, None, Some}
use Rattle.std.proofs.lemmas.Bool.Decides.{leb_tells}
use Rattle.sasi_host.specs.declared.name.FileName.{FileName}
use Rattle.sasi_host.specs.declared.fault.ReadFault.{ReadFault}
use Rattle.sasi_host.specs.declared.fault.ReadFault.TheVariants as fault
use Rattle.sasi_host.specs.Names.{Bytes}
use Rattle.sasi_host.specs.View.{View, contents}
use Rattle.sasi_host.specs.Disk.{Changes, Same}
use Rattle.sasi_host.specs.Buffered.{Buffered}
use Rattle.sasi_host.proofs.ContentLaws.{contents_same}
use Rattle.sasi_types.specs.declared.partitioner.Partitioner.{Partitioner}
use Rattle.sasi_types.specs.declared.tree.Pair.{Pair}
use Rattle.sasi_types.specs.declared.tree.TreeRef.{TreeRef}
use Rattle.sasi_types.specs.Token.{token_of}
use Rattle.sasi_model.specs.Cells.{Partition}
use Rattle.sasi_tokentree.specs.Format.{HasTree}
use Rattle.sasi_host.proofs.Offsets.{at_ends}
use Rattle.std.specs.Int.{to_be_bytes, w32}
use Rattle.sasi_host.specs.Damages.{DamageShown}
use Rattle.sasi_tokentree.specs.Damages.{ShowsPairs, ShowsPairsBy, ShowsTree, ShowsTreeBy, pair_offset, start}
use Rattle.sasi_tokentree.specs.Damages.ShowsPairsBy.{of_tree}
use Rattle.sasi_tokentree.proofs.Rising.{pairs_shown_more}
use Rattle.sasi_tokentree.proofs.AfterRead.{tree_shown_more}
use Rattle.sasi_tokentree.proofs.LeafPairs.{count_is, ends_within, tree_stands}
use Rattle.sasi_host.proofs.DamageLaws.{shown_as}
use Rattle.sasi_tokentree.specs.Reads.{NoFalseTreeDamage}
use Rattle.sasi_tokentree.specs.Scans.{ReadsEntry, ReadsNextPair, IsEntryBuffered, StepsToPair, PairScan, entry_cost}
use Rattle.sasi_body.specs.Body.{body}
use Rattle.sasi_datawrite.specs.Format.{Content, front, header, key_pairs, partitions}
use Rattle.sasi_dataread.specs.Opened.{OpenDataFile, IsOpenedAs, StandsAt}
use Rattle.sasi_dataread.specs.Bodies.{length_prefixed, partition_reads}
use Rattle.sasi_dataread.proofs.Laws.{partition_stands}
use Rattle.sasi_dataread.specs.ReadCosts.{ReadsEachPageOnce, IsSequential, file_pages, progress, scan_of}
use Rattle.sasi_dataread.proofs.Pages.{reads_next_once, stops_at_pair, stops_behind_pair}
use Rattle.sasi_dataread.specs.Damages.{ShowsData, ShowsPair}
use Rattle.sasi_dataread.specs.Damages.ShowsData.{in_tree, at_pair}
use Rattle.sasi_dataread.specs.Reads.{ReadsPartition, IsOpenOn, NoFalsePartitionDamage}
use Rattle.sasi_dataread.specs.Scans.{KeysAreBytes, NoFalseOpenedDamage}
use Rattle.sasi_dataread.proofs.Pairs.{IsNth, has_tree, nth, nth_stands, nth_token, left_behind}

-- no file is longer
abbrev pub IsShort : View → FileName → Type 0
IsShort v file = (bytes : Bytes) → contents v file ≡ Some bytes → length bytes ≤ 2 ^ 62

pub open_same : (a b : View) (opened : OpenDataFile) (partitioner : Partitioner) (content : Content) → Changes Same a b → IsOpenOn a opened partitioner content → IsOpenOn b opened partitioner content
open_same a b opened partitioner content same is = record { bytes = is.bytes; reads = contents_same a b opened.file same ∙ is.reads; data_file = is.data_file; of = is.of }

-- the tree that is read is the key tree
pub tree_there : (v : View) (opened : OpenDataFile) (tree : TreeRef) → tree ≡ opened.tree → IsShort v opened.file → (partitioner : Partitioner)
    (content : Content) (is : IsOpenOn v opened partitioner content) → KeysAreBytes content → HasTree is.bytes tree
    (key_pairs partitioner content)
tree_there v opened tree tree_is short partitioner content is have =
    subst (λ (t : TreeRef). HasTree is.bytes t (key_pairs partitioner content)) (sym tree_is) (has_tree v opened partitioner content is have (short is.bytes is.reads))

pub steps_to_next : (v : View) (opened : OpenDataFile) (file : FileName) (tree : TreeRef) (before after : ℕ) (found : Option Pair) → file ≡ opened.file → tree
    ≡ opened.tree → IsShort v opened.file → ReadsNextPair v file tree before after found
    → (partitioner : Partitioner) (content : Content) → IsOpenOn v opened partitioner content → KeysAreBytes content → StepsToPair (key_pairs partitioner content) before after found
steps_to_next v opened file tree before after found file_is tree_is short gives partitioner content is have =
    gives is.bytes (key_pairs partitioner content) (ap (λ (f : FileName). contents v f) file_is ∙ is.reads) (tree_there v opened tree tree_is short partitioner content is have)

pub no_false_tree : (v : View) (opened : OpenDataFile) (file : FileName) (tree : TreeRef) (f : ReadFault) → file ≡ opened.file → tree ≡ opened.tree → IsShort
    v opened.file → NoFalseTreeDamage v file tree f → NoFalseOpenedDamage v opened f
no_false_tree v opened file tree fault.Failed file_is tree_is short no_false_damage = tt
no_false_tree v opened file tree fault.OutOfMemory file_is tree_is short no_false_damage = tt
no_false_tree v opened file tree (fault.Damaged damage) file_is tree_is short no_false_damage = λ partitioner content is have.
    no_false_damage is.bytes (key_pairs partitioner content) (ap (λ (f : FileName). contents v f) file_is ∙ is.reads) (tree_there v opened tree tree_is short partitioner content is have)

-- what stands at the offset of a pair is the next partition
pub steps_to_partition : (v w : View) (opened : OpenDataFile) (before after : ℕ) (pair : Pair) (key : Bytes) (part : Partition) (partitioner : Partitioner)
    (content : Content) → IsOpenOn v opened partitioner content → Changes Same v w
    → StepsToPair (key_pairs partitioner content) before after (Some pair) → ReadsPartition w opened pair.place key part →
    (drop before content ≡ (key, part) ∷ drop after content) × (pair.token ≡ token_of partitioner key)
steps_to_partition v w opened before after pair key part partitioner content is change took gives =
    let n = nth partitioner (length header) content before pair (drop after (key_pairs partitioner content)) took in
    let same = gives partitioner content n.one.0 n.one.1 (open_same v w opened partitioner content change is) (nth_stands partitioner content before pair n) in
    let one : n.one ≡ (key, part) = ap (λ (k : Bytes). (k, n.one.1)) (sym same.0) ∙ ap (λ (p : Partition). (key, p)) (sym same.1) in (
      n.left ∙ ap (λ (l : Content). n.one ∷ l) (left_behind partitioner content before after pair took) ∙ ap (λ (o : Bytes × Partition). o ∷ drop after content) one,
      nth_token partitioner (length header) content before pair n ∙ ap (λ (k : Bytes). token_of partitioner k) (sym same.0),
    )

pub no_false_offset : (v w : View) (opened : OpenDataFile) (before after : ℕ) (pair : Pair) (f : ReadFault) →
    ((partitioner : Partitioner) (content : Content) → IsOpenOn v opened partitioner content → KeysAreBytes content → StepsToPair
    (key_pairs partitioner content) before after (Some pair))
    → Changes Same v w → NoFalsePartitionDamage w opened pair.place f → NoFalseOpenedDamage v opened f
no_false_offset v w opened before after pair fault.Failed takes change no_false_damage = tt
no_false_offset v w opened before after pair fault.OutOfMemory takes change no_false_damage = tt
no_false_offset v w opened before after pair (fault.Damaged damage) takes change no_false_damage = λ partitioner content is have.
    let n = nth partitioner (length header) content before pair (drop after (key_pairs partitioner content)) (takes partitioner content is have) in
    no_false_damage partitioner content n.one.0 n.one.1 (open_same v w opened partitioner content change is) (nth_stands partitioner content before pair n)

-- ---- damage of the tree, and of a partition to which it leads

pub tree_shown : (Alone : ℕ → Type 0) (v : View) (opened : OpenDataFile) (file : FileName) (tree : TreeRef) (f : ReadFault) → file ≡ opened.file → tree ≡ opened.tree →
    DamageShown v file (ShowsTreeBy Alone file tree) f → DamageShown v opened.file (ShowsData opened) f
tree_shown Alone v opened file tree f file_is tree_is shown =
    shown_as (ShowsTree opened.file opened.tree) (ShowsData opened) v opened.file f (λ bytes damage is shows. in_tree (of_tree shows))
    (tree_shown_more Alone (λ index. Unit {0}) v opened.file opened.tree f (λ bytes index is alone lt short. tt)
    (subst (λ (n : FileName). DamageShown v n (ShowsTreeBy Alone n opened.tree) f) file_is (subst (λ (t : TreeRef). DamageShown v file (ShowsTreeBy Alone file t) f) tree_is shown)))

-- and of the order of its pairs
pub pairs_shown : (These : ℕ → Type 0) (v : View) (opened : OpenDataFile) (file : FileName) (tree : TreeRef) (f : ReadFault) → file ≡ opened.file → tree ≡ opened.tree →
    DamageShown v file (ShowsPairsBy These file tree) f → DamageShown v opened.file (ShowsData opened) f
pairs_shown These v opened file tree f file_is tree_is shown =
    shown_as (ShowsPairs opened.file opened.tree) (ShowsData opened) v opened.file f (λ bytes damage is shows. in_tree shows)
    (pairs_shown_more These v opened.file opened.tree f
    (subst (λ (n : FileName). DamageShown v n (ShowsPairsBy These n opened.tree) f) file_is (subst (λ (t : TreeRef). DamageShown v file (ShowsPairsBy These file t) f) tree_is shown)))

pub entry_of : (v : View) (opened : OpenDataFile) (file : FileName) (tree : TreeRef) (passed : ℕ) (found : Option Pair) → file ≡ opened.file → tree ≡
    opened.tree → ReadsEntry v file tree passed found → ReadsEntry v opened.file opened.tree passed found
entry_of v opened file tree passed found file_is tree_is gives = subst (λ (n : FileName). ReadsEntry v n opened.tree passed found) file_is
    (subst (λ (t : TreeRef). ReadsEntry v file t passed found) tree_is gives)

pub entry_before : (v w : View) (file : FileName) (tree : TreeRef) (passed : ℕ) (found : Option Pair) → Changes Same v w → ReadsEntry w file tree passed found → ReadsEntry v file tree passed found
entry_before v w file tree passed None change gives = tt
entry_before v w file tree passed (Some pair) change gives = (gives.0, gives.1, λ bytes is. gives.2 bytes (contents_same v w file change ∙ is))

pub partition_shown : (v : View) (opened : OpenDataFile) (passed : ℕ) (pair : Pair) (f : ReadFault) → ReadsEntry v opened.file opened.tree passed
    (Some pair) → DamageShown v opened.file (ShowsPair opened (passed - 1) pair.place) f → DamageShown v opened.file (ShowsData opened) f
partition_shown v opened passed pair f gives shown =
    let index : passed - 1 ≡ gives.0 = omega (arith, gives.1) in
    shown_as (ShowsPair opened (passed - 1) pair.place) (ShowsData opened) v opened.file f
    (λ bytes damage is shows. at_pair gives.0 pair (gives.2 bytes is) (subst (λ (n : ℕ). ShowsPair opened n pair.place bytes damage) index shows)) shown

-- ---- the pages of a scan

-- where no pair is left all were passed
pub all_pairs : (opened : OpenDataFile) (partitioner : Partitioner) (content : Content) (tree : TreeRef) (passed : ℕ) → IsOpenedAs opened partitioner content →
    tree ≡ opened.tree → drop passed (key_pairs partitioner content) ≡ [] → tree.pairs ≤ passed
all_pairs opened partitioner content tree passed of same none =
    omega (arith, ap (λ (t : TreeRef). t.pairs) (same ∙ of.tree), ap (λ (l : List Pair). length l) none, length-drop passed (key_pairs partitioner content))

-- where one comes next, one is left
pairs_left : (opened : OpenDataFile) (partitioner : Partitioner) (content : Content) (tree : TreeRef) (passed after : ℕ) (pair : Pair) → IsOpenedAs opened partitioner content →
    tree ≡ opened.tree → drop passed (key_pairs partitioner content) ≡ pair ∷ drop after (key_pairs partitioner content) → passed < tree.pairs
pairs_left opened partitioner content tree passed after pair of same took =
    omega (arith, ap (λ (t : TreeRef). t.pairs) (same ∙ of.tree), ap (λ (l : List Pair). length l) took, length-drop passed (key_pairs partitioner content))

-- where a pair is left, its entry lies within the file
pair_lies : (v : View) (opened : OpenDataFile) (tree : TreeRef) (passed : ℕ) (partitioner : Partitioner) (content : Content) (is : IsOpenOn v opened partitioner content) → KeysAreBytes content → tree ≡ opened.tree → IsShort v opened.file
    → passed < tree.pairs → pair_offset tree passed + 16 ≤ length is.bytes
pair_lies v opened tree passed partitioner content is have tree_is short left =
    let has = tree_there v opened tree tree_is short partitioner content is have in
    ends_within is.bytes (start tree) passed (key_pairs partitioner content) (tree_stands is.bytes tree (key_pairs partitioner content) has (omega (arith, left)) (short is.bytes is.reads))
    (omega (arith, left, count_is is.bytes tree (key_pairs partitioner content) has))

-- and its partition does, behind those that were passed
part_lies : (v : View) (opened : OpenDataFile) (passed : ℕ) (pair : Pair) (partitioner : Partitioner) (content : Content) (is : IsOpenOn v opened partitioner content) (n : IsNth partitioner (length header) content passed pair)
    → (pair.place ≡ length (front (take passed content))) × (pair.place + (4 + length (body n.one.0 n.one.1)) ≤ length is.bytes)
part_lies v opened passed pair partitioner content is n = (
  ap (λ (p : Pair). p.place) n.pair_is ∙ sym (length-append header (partitions (take passed content))),
  omega (
    arith,
    at_ends is.bytes pair.place (length_prefixed (body n.one.0 n.one.1)) (partition_stands partitioner opened.types is.bytes content pair.place n.one.0 n.one.1 is.data_file (nth_stands partitioner content passed pair n)),
    length-append
        (to_be_bytes w32 (length (body n.one.0 n.one.1))) (body n.one.0 n.one.1),
  ),
)

module _ (v w : View) (opened : OpenDataFile) (tree : PairScan) (buffered : Buffered) (partitioner : Partitioner) (content : Content) (r0 r1 : ℕ) (is : IsOpenOn v opened partitioner content) (have : KeysAreBytes content) (short : IsShort v opened.file) (tree_is : tree.tree ≡ opened.tree) (sequential : IsSequential is.bytes content (scan_of opened tree buffered)) (first : r1 ≤ r0 + entry_cost tree.buffered.page tree.tree tree.passed) where
  -- the scan stops at the next pair, if there is one
  pub scan_stops : (tree.tree.pairs ≤ tree.passed → r1 ≡ r0) → r1 + progress (scan_of opened tree buffered) ≤ r0 + 2 * file_pages is.bytes
  scan_stops ended = ⊎_elim
      (λ none. omega (arith, ended none.1, sequential.pairs_within, sequential.within))
      (λ left. stops_at_pair is.bytes content opened tree buffered r0 r1 sequential first tree_is (pair_lies v opened tree.tree tree.passed partitioner content is have tree_is short left.1))
      (leb_tells tree.tree.pairs tree.passed)

  -- or at its partition
  pub scan_stops_behind : (after : ℕ) (pair : Pair) (r2 : ℕ) → Changes Same v w → StepsToPair (key_pairs partitioner content) tree.passed after (Some pair)
      → ((partitioner : Partitioner) (content : Content) (key : Bytes) (part : Partition) → IsOpenOn w opened partitioner content → StandsAt content
      pair.place key part → r2 ≤ r1 + partition_reads buffered.page pair.place (length (body key part)))
      → r2 + progress (scan_of opened tree buffered) ≤ r0 + 2 * file_pages is.bytes
  scan_stops_behind after pair r2 change took second =
      let n = nth partitioner (length header) content tree.passed pair (drop after (key_pairs partitioner content)) took in
      let lies = part_lies v opened tree.passed pair partitioner content is n in
      stops_behind_pair is.bytes content opened tree buffered r0 r1 sequential first tree_is
      (pair_lies v opened tree.tree tree.passed partitioner content is have tree_is short (pairs_left opened partitioner content tree.tree tree.passed after pair is.of tree_is took))
      pair.place (length (body n.one.0 n.one.1)) r2 lies.0 lies.1
      (second partitioner content n.one.0 n.one.1 (open_same v w opened partitioner content change is) (nth_stands partitioner content tree.passed pair n))

-- the scan passed one partition more
pub scan_reads_once : (v w : View) (opened : OpenDataFile) (tree after : PairScan) (buffered now : Buffered) (pair : Pair) (key : Bytes) (part : Partition)
    (partitioner : Partitioner) (content : Content) (r0 r1 r2 : ℕ) (is : IsOpenOn v opened partitioner content) → KeysAreBytes content → IsShort v opened.file → Changes Same v w
    → StepsToPair (key_pairs partitioner content) tree.passed after.passed (Some pair) → ReadsPartition w opened pair.place key part → tree.tree ≡ opened.tree →
    after.tree ≡ tree.tree → IsSequential is.bytes content (scan_of opened tree buffered)
    → r1 ≤ r0 + entry_cost tree.buffered.page tree.tree tree.passed
    → ((partitioner : Partitioner) (content : Content) (key : Bytes) (part : Partition) → IsOpenOn w opened partitioner content → StandsAt content
    pair.place key part → r2 ≤ r1 + partition_reads buffered.page pair.place (length (body key part)))
    → after.passed ≡ tree.passed + 1 → IsEntryBuffered after (Some pair) → now.page ≡ Some ((pair.place + 3 + length (body key part)) / 4096) → ReadsEachPageOnce is.bytes
    content r0 r2 (scan_of opened tree buffered) (scan_of opened after now)
scan_reads_once v w opened tree after buffered now pair key part partitioner content r0 r1 r2 is have short change took gives tree_is after_is sequential first second passed entry_buffered page =
    let n = nth partitioner (length header) content tree.passed pair (drop after.passed (key_pairs partitioner content)) took in
    let stands = nth_stands partitioner content tree.passed pair n in
    let w_open = open_same v w opened partitioner content change is in
    let same = gives partitioner content n.one.0 n.one.1 w_open stands in
    let one : n.one ≡ (key, part) = ap (λ (k : Bytes). (k, n.one.1)) (sym same.0) ∙ ap (λ (p : Partition). (key, p)) (sym same.1) in
    let read : r2 ≤ r1 + partition_reads buffered.page pair.place (length (body key part)) =
    subst (λ (o : Bytes × Partition). r2 ≤ r1 + partition_reads buffered.page pair.place (length (body o.0 o.1))) one (second partitioner content n.one.0 n.one.1 w_open stands)
    in
    let lies = part_lies v opened tree.passed pair partitioner content is n in
    let near_is : after.buffered.page ≡ Some ((pair_offset tree.tree tree.passed + 15) / 4096) =
    entry_buffered ∙ ap (λ (t : TreeRef). Some ((pair_offset t (after.passed - 1) + 15) / 4096)) after_is ∙ ap (λ (k : ℕ). Some ((pair_offset tree.tree k + 15) / 4096)) (omega (arith, passed))
    in
    let pair_within = pair_lies v opened tree.tree tree.passed partitioner content is have tree_is short (pairs_left opened partitioner content tree.tree tree.passed after.passed pair is.of tree_is took) in
    let part_within : pair.place + (4 + length (body key part)) ≤ length is.bytes = omega (arith, lies.1, ap (λ (o : Bytes × Partition). length (body o.0 o.1)) one) in
    reads_next_once is.bytes content (drop (suc tree.passed) content) opened tree after buffered now pair.place key part r0 r1 r2 tree_is passed
    (n.left ∙ ap (λ (o : Bytes × Partition). o ∷ drop (suc tree.passed) content) one) lies.0 pair_within part_within sequential first read near_is page
