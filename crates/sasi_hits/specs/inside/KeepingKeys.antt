-- What is known of the keys of a data file stays while the file does, and their hits rise.
use Rattle.std.specs.Prelude.{◌≡◌, ℕ, List, Option, None, Some}
use Rattle.std.proofs.Common.{◌∙◌, ap, refl, subst, sym}
use Rattle.sasi_types.specs.declared.column.ColumnType.{ColumnType}
use Rattle.sasi_types.specs.declared.partitioner.Partitioner.{Partitioner}
use Rattle.sasi_types.specs.declared.tree.Pair.{Pair}
use Rattle.sasi_host.specs.declared.name.FileName.{FileName}
use Rattle.sasi_host.specs.Names.{Bytes, Folder}
use Rattle.sasi_host.specs.Buffered.{Buffered, IsBuffered}
use Rattle.sasi_host.specs.View.{contents_in}
use Rattle.sasi_tokentree.specs.Scans.{IsAtLast, PairScan}
use Rattle.sasi_datawrite.specs.Format.{Content}
use Rattle.sasi_ranges.specs.declared.entry.Entry.{Entry}
use Rattle.sasi_ranges.specs.Entries.{Rises}
use Rattle.sasi_hits.specs.Calls.{IsFile}
use Rattle.sasi_hits.specs.KeyTrees.{KeyEntries, KeysPay, KeysReady, ReadsAsData, ScanLeaves, ScanPays, ScansKeys, TreeLeaves}
use Rattle.sasi_hits.specs.Pairs.{entries_of, is_from}
use Rattle.sasi_hits.specs.inside.Rising.{entries_rise, filter_rises}

-- the hits at what is left rise
pub key_entries_rise : (file : FileName) (types : List ColumnType) (leaf part floor : ℕ) (tree : Option PairScan) (files : Option Folder) (es : List Entry)
    → KeyEntries file types leaf part floor tree files es → Rises es
key_entries_rise file types leaf part floor tree files es is =
    subst Rises (sym (is.2 ∙ ap (entries_of leaf part) is.1.from)) (entries_rise leaf part _ (filter_rises (is_from floor) is.1.pairs is.1.rise))

module _ (old new : Option Folder) where
  abbrev pub IsSame : FileName → Type 0
  IsSame name = contents_in new name ≡ contents_in old name

  -- the file of a scan, which goes by the name of its buffer
  pub named_same : (scan : PairScan) (file : FileName) → scan.buffered.file ≡ file → IsSame file → IsSame scan.buffered.file
  named_same scan file named same = subst IsSame (sym named) same

  data_stays : (file : FileName) (types : List ColumnType) (bytes : Bytes) (partitioner : Partitioner) (content : Content) → IsSame file → ReadsAsData old file types bytes partitioner content
      → ReadsAsData new file types bytes partitioner content
  data_stays file types bytes partitioner content same is = record { reads = same ∙ is.reads; data_file = is.data_file; keys = is.keys }

  pub scan_leaves_stays : (scan : PairScan) (left : List Pair) → IsSame scan.buffered.file → ScanLeaves scan old left → ScanLeaves scan new left
  scan_leaves_stays scan left same is = record { bytes = is.bytes; pairs = is.pairs; reads = same ∙ is.reads; tree = is.tree; left_is = is.left_is }

  pub scan_pays_stays : (scan : PairScan) (most : ℕ) → IsSame scan.buffered.file → ScanPays scan old most → ScanPays scan new most
  scan_pays_stays scan most same is = record { bytes = is.bytes; pairs = is.pairs; reads = same ∙ is.reads; tree = is.tree; begins = is.begins; within = is.within; left = is.left }

  buffered_stays : (b : Buffered) → IsSame b.file → IsBuffered b old → IsBuffered b new
  buffered_stays b same is = λ page bytes this reads. is page bytes this (sym same ∙ reads)

  at_last_stays : (scan : PairScan) → IsSame scan.buffered.file → IsAtLast scan old → IsAtLast scan new
  at_last_stays scan same is = λ bytes reads. is bytes (sym same ∙ reads)

  pub scans_stays : (file : FileName) (scan : PairScan) → IsSame file → ScansKeys file scan old → ScansKeys file scan new
  scans_stays file scan same is = record {
    named = is.named;
    buffered = buffered_stays scan.buffered (named_same scan file is.named same) is.buffered;
    at_last = at_last_stays scan (named_same scan file is.named same) is.at_last;
    footer = λ bytes reads. is.footer bytes (sym same ∙ reads);
  }

  pub ready_stays : (file : FileName) (tree : Option PairScan) → IsSame file → KeysReady file tree old → KeysReady file tree new
  ready_stays file None same is = tt
  ready_stays file (Some scan) same is = scans_stays file scan same is

  leaves_stays : (file : FileName) (types : List ColumnType) (tree : Option PairScan) (left : List Pair) → IsSame file → TreeLeaves file types tree old left → TreeLeaves file types tree new left
  leaves_stays file types None left same is = (is.0, is.1, is.2, data_stays file types is.0 is.1 is.2 same is.3, is.4)
  leaves_stays file types (Some scan) left same is = (is.0, scan_leaves_stays scan left (named_same scan file is.0 same) is.1)

  pays_stays : (file : FileName) (types : List ColumnType) (tree : Option PairScan) (most : ℕ) → IsSame file → KeysPay file types tree old most → KeysPay file types tree new most
  pays_stays file types None most same is = (is.0, is.1, is.2, data_stays file types is.0 is.1 is.2 same is.3, is.4)
  pays_stays file types (Some scan) most same is = (is.0, scan_pays_stays scan most (named_same scan file is.0 same) is.1)

  entries_stay : (file : FileName) (types : List ColumnType) (leaf part floor : ℕ) (tree : Option PairScan) (es : List Entry) → IsSame file
      → KeyEntries file types leaf part floor tree old es → KeyEntries file types leaf part floor tree new es
  entries_stay file types leaf part floor tree es same is = (
    is.0,
    record { pairs = is.1.pairs; of_tree = leaves_stays file types tree is.1.pairs same is.1.of_tree; rise = is.1.rise; from = is.1.from },
    is.2,
  )

  -- what is known stays
  pub keys_keep : (file : FileName) (types : List ColumnType) (leaf part floor : ℕ) (tree : Option PairScan) → ((name : FileName) → IsFile file name → IsSame name)
      → (KeysReady file tree old → KeysReady file tree new)
      × ((es : List Entry) → KeyEntries file types leaf part floor tree old es → KeyEntries file types leaf part floor tree new es)
      × ((most : ℕ) → KeysPay file types tree old most → KeysPay file types tree new most)
  keys_keep file types leaf part floor tree same =
      let this = same file refl in
      (ready_stays file tree this, λ es is. entries_stay file types leaf part floor tree es this is, λ most is. pays_stays file types tree most this is)
