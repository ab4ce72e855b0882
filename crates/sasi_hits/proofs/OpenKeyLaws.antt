-- A data file is opened for its keys.
use Rattle.std.proofs.Common.{◌≡◌, ℕ, ◌+◌, ◌^◌, ◌≤◌, List, [], length, Option, None, Some, IfErr, refl, sym, ap, subst, ◌∙◌, arith, Result}
use Rattle.sasi_types.specs.declared.column.ColumnType.{ColumnType}
use Rattle.sasi_types.specs.declared.tree.Pair.{Pair}
use Rattle.sasi_host.specs.declared.name.FileName.{FileName}
use Rattle.sasi_host.specs.declared.fault.ReadFault.{ReadFault}
use Rattle.sasi_host.specs.Names.{Bytes}
use Rattle.sasi_host.specs.Buffered.{pages_of}
use Rattle.sasi_host.specs.Damages.{DamageShown}
use Rattle.sasi_host.specs.Disk.{Changes, Same}
use Rattle.sasi_host.specs.View.{ReadCost, View, contents}
use Rattle.sasi_host.proofs.BufferedLaws.{nothing_buffered}
use Rattle.sasi_host.proofs.ContentLaws.{contents_same}
use Rattle.sasi_framing.specs.Framing.{OpensWithinPages}
use Rattle.sasi_tokentree.specs.Format.{HasTree}
use Rattle.sasi_tokentree.specs.Scans.{PairScan}
use Rattle.sasi_datawrite.specs.Files.{IsDataFile}
use Rattle.sasi_datawrite.specs.Format.{Content, key_pairs}
use Rattle.sasi_types.specs.declared.partitioner.Partitioner.{Partitioner}
use Rattle.sasi_dataread.specs.Damages.{ShowsHeaderOrFooter}
use Rattle.sasi_dataread.specs.HeaderAndFooter.{HasHeaderAndFooter}
use Rattle.sasi_dataread.specs.Opened.{IsOpenedAs, OpenDataFile}
use Rattle.sasi_dataread.specs.ReadCosts.{file_pages}
use Rattle.sasi_dataread.specs.Reads.{NoFalseDataDamage}
use Rattle.sasi_dataread.proofs.Pairs.{has_tree}
use Rattle.sasi_ranges.specs.StreamCalls.{StreamFaults}
use Rattle.sasi_ranges.proofs.Calling.{on_err}
use Rattle.sasi_hits.specs.Calls.{ShowsIn}
use Rattle.sasi_hits.specs.KeyTrees.{KeysPay, KeysShow, ReadsAsData, ScansKeys, ShowsKeyTree, TreeLeaves}
use Rattle.sasi_hits.specs.KeyTrees.ShowsKeyTree.{outside}
use Rattle.sasi_hits.proofs.CallLaws.{faults_of}

-- a scan of the key tree before its first pair
abbrev pub begun : OpenDataFile → PairScan
begun opened = record { buffered = record { file = opened.file; page = None; bytes = [] }; tree = opened.tree; passed = 0; last = None }

module _ (v w : View) (file : FileName) (types : List ColumnType) (opened : OpenDataFile) (change : Changes Same v w) (named : opened.file ≡ file) (typed : opened.types ≡ types) where
  now_reads : (bytes : Bytes) → contents v file ≡ Some bytes → contents w opened.file ≡ Some bytes
  now_reads bytes reads = contents_same v w opened.file change ∙ ap (λ (n : FileName). contents v n) named ∙ reads

  has_keys : (bytes : Bytes) (p : Partitioner) (content : Content) → length bytes ≤ 2 ^ 62 → IsOpenedAs opened p content → ReadsAsData v.files file types bytes p content → HasTree bytes opened.tree (key_pairs p content)
  has_keys bytes p content short opens is =
      has_tree w opened p content
      (record { bytes = bytes; reads = now_reads bytes is.reads; data_file = subst (λ (ts : List ColumnType). IsDataFile p ts bytes content) (sym typed) is.data_file; of = opens }) is.keys short

  pub opened_leaves : ((bytes : Bytes) → contents v file ≡ Some bytes → length bytes ≤ 2 ^ 62)
      → ((bytes : Bytes) (p : Partitioner) (content : Content) → contents v file ≡ Some bytes → IsDataFile p types bytes content → IsOpenedAs opened p content)
      → (left : List Pair) → TreeLeaves file types None v.files left → TreeLeaves file types (Some (begun opened)) w.files left
  opened_leaves short opens left is = (
    named,
    record {
      bytes = is.0;
      pairs = key_pairs is.1 is.2;
      reads = now_reads is.0 is.3.reads;
      tree = has_keys is.0 is.1 is.2 (short is.0 is.3.reads) (opens is.0 is.1 is.2 is.3.reads is.3.data_file) is.3;
      left_is = is.4;
    },
  )

  pages_same : (bytes : Bytes) → pages_of 0 (length bytes) ≡ file_pages bytes
  pages_same bytes = omega arith

  pub opened_pays : ((bytes : Bytes) → contents v file ≡ Some bytes → length bytes ≤ 2 ^ 62)
      → ((bytes : Bytes) (p : Partitioner) (content : Content) → contents v file ≡ Some bytes → IsDataFile p types bytes content → IsOpenedAs opened p content)
      → OpensWithinPages v w file → (most : ℕ) → KeysPay file types None v.files most → (rest : ℕ) × KeysPay file types (Some (begun opened)) w.files rest × (w.reads + rest ≤ v.reads + most)
  opened_pays short opens within most is = (
    file_pages is.0,
    (
      named,
      record {
        bytes = is.0;
        pairs = key_pairs is.1 is.2;
        reads = now_reads is.0 is.3.reads;
        tree = has_keys is.0 is.1 is.2 (short is.0 is.3.reads) (opens is.0 is.1 is.2 is.3.reads is.3.data_file) is.3;
        begins = λ page this. absurd (let no : ◌≡◌ {A = Option ℕ} None (Some page) = this in cc);
        within = omega arith;
        left = omega arith;
      },
    ),
    omega (arith, within is.0 is.3.reads, pages_same is.0, is.4),
  )

  pub opened_ready : ((bytes : Bytes) → contents v file ≡ Some bytes → HasHeaderAndFooter bytes (record { tree = opened.tree; max_timestamp = opened.max_timestamp; end = opened.end })) → ScansKeys file (begun opened) w.files
  opened_ready has = record {
    named = named;
    buffered = nothing_buffered (begun opened).buffered w.files refl;
    at_last = λ bytes reads. tt;
    footer = λ bytes reads. (record { tree = opened.tree; max_timestamp = opened.max_timestamp; end = opened.end }, has bytes (sym (contents_same v w file change) ∙ reads), refl);
  }

pub unopened_pays : (v w : View) (file : FileName) (types : List ColumnType) → OpensWithinPages v w file → (most : ℕ) → KeysPay file types None v.files most → w.reads ≤ v.reads + most
unopened_pays v w file types within most is = omega (arith, within is.0 is.3.reads, is.4)

-- damage of the header or the footer
pub opening_faults : {T : Type 0} (v w : View) (file : FileName) (types : List ColumnType) (n : ℕ) (r : Result T ReadFault) → Changes Same v w → ReadCost n v w r → IfErr r (DamageShown v file (ShowsHeaderOrFooter file))
    → IfErr r (NoFalseDataDamage v file) → StreamFaults (KeysShow file v.files) (KeysShow file w.files) (TreeLeaves file types None v.files) v w r
opening_faults v w file types n r change causes damaged undamaged =
    faults_of file (ShowsKeyTree file) (TreeLeaves file types None v.files) v w n r change causes
    (on_err (ShowsIn file (ShowsHeaderOrFooter file) v.files) (KeysShow file v.files) r (λ damage shows bytes reads. outside (shows bytes reads)) damaged)
    (on_err (λ _. (bytes : Bytes) (p : Partitioner) (ts : List ColumnType) (content : Content) → contents v file ≡ Some bytes → IsDataFile p ts bytes content → ⊥) (λ _. (left : List Pair) → TreeLeaves file types None v.files left → ⊥) r
    (λ damage no left is. no is.0 is.1 types is.2 is.3.reads is.3.data_file) undamaged)
