-- A look-up of a key in one data file, by what the reader of data files promises.
use Rattle.std.proofs.Common.{◌≡◌, ◌<◌, ◌+◌, ◌*◌, ◌≤◌, ℕ, List, length, [], Option, None, Some, IfSome, IsSome, Result, Ok, refl, sym, ap, subst, ◌∙◌, arith}
use Rattle.std.specs.FinMap as map_
use Rattle.sasi_types.specs.declared.column.ColumnType.{ColumnType}
use Rattle.sasi_types.specs.declared.decorated_key.DecoratedKey.{DecoratedKey}
use Rattle.sasi_types.specs.declared.partitioner.Partitioner.{Partitioner}
use Rattle.sasi_types.specs.declared.tree.TreeRef.{TreeRef}
use Rattle.sasi_types.specs.DecoratedKey.{decorated_cmp}
use Rattle.sasi_types.specs.Token.{token_of}
use Rattle.sasi_model.specs.Cells.{Partition}
use Rattle.sasi_model.specs.State.{decorated}
use Rattle.sasi_body.specs.Body.{IsBodyOf}
use Rattle.sasi_host.specs.declared.fault.ReadFault.{ReadFault}
use Rattle.sasi_host.specs.declared.fault.ReadFault.TheVariants as fault
use Rattle.sasi_host.specs.declared.name.FileName.{FileName}
use Rattle.sasi_host.specs.Damages.{DamageShown, OnDamage}
use Rattle.sasi_host.specs.Disk.{Changes, Same}
use Rattle.sasi_host.specs.Names.{Bytes, Folder, data_name}
use Rattle.sasi_host.specs.View.{IsThere, ReadCost, View, contents, contents_in}
use Rattle.sasi_tokentree.specs.Heights.{height}
use Rattle.sasi_datawrite.specs.Files.{IsDataFile}
use Rattle.sasi_datawrite.specs.Format.{Content, header}
use Rattle.sasi_datawrite.proofs.Laws.{pairs_length}
use Rattle.sasi_dataread.specs.Damages.{ShowsData, ShowsDataFile}
use Rattle.sasi_dataread.specs.Finds.{FindsKey, FindsStored, token_reads}
use Rattle.sasi_dataread.specs.HeaderAndFooter.{HasHeaderAndFooter}
use Rattle.sasi_dataread.specs.Opened.{IsOpenedAs, OpenDataFile}
use Rattle.sasi_dataread.specs.Reads.{IsOpenOn}
use Rattle.sasi_dataread.specs.Scans.{DataScan, KeysAreBytes, NoFalseOpenedDamage}
use Rattle.sasi_manifest.specs.declared.files.ListedFile.{ListedFile}
use Rattle.sasi_scan.specs.Finding.{find_reads}
use Rattle.sasi_scan.specs.Parts.{HasContent, entries_of}
use Rattle.sasi_scan.specs.Opening.{IsOpenedFile}
use Rattle.sasi_scan.specs.Scanning.{ScanCauses}
use Rattle.sasi_scan.specs.Sources.{numbers_of}
use Rattle.sasi_scan.proofs.Costs.{causes_behind, of_reads, reads_same}
use Rattle.sasi_scan.proofs.KeyLookups.{looked_up}
use Rattle.sasi_scan.proofs.Steps.{first_shown, opened_file}

-- a scan of the open file, before its first partition
abbrev scan_of : OpenDataFile → DataScan
scan_of opened = record { opened = opened; tokens = None; passed = 0; pairs_buffered = record { file = opened.file; page = None; bytes = [] }; buffered = record { file = opened.file; page = None; bytes = [] }; last_pair = None; last = None }

-- the listed file was opened, and the folder is the same
pub record IsFindable (v w : View) (types : List ColumnType) (file : ListedFile) (opened : OpenDataFile) : Type 1 where
  pub change : Changes Same v w
  pub types_are : opened.types ≡ types
  pub is : IsOpenedFile v.files types None file (scan_of opened)

pub findable : (v w : View) (types : List ColumnType) (file : ListedFile) (opened : OpenDataFile) (name : FileName) → 0 < opened.tree.pairs → name ≡ data_name file.number → Changes Same v w → IsThere v (data_name file.number) → opened.file ≡ name → opened.types ≡ types
    → ((bytes : Bytes) (p : Partitioner) (content : Content) → contents v name ≡ Some bytes → IsDataFile p types bytes content → IsOpenedAs opened p content)
    → ((bytes : Bytes) → contents v name ≡ Some bytes → HasHeaderAndFooter bytes (numbers_of opened))
    → IsFindable v w types file opened
findable v w types file opened name some is_name change there named types_are opens footer =
    let same : contents v name ≡ contents v (data_name file.number) = ap (contents v) is_name in
    record {
      change = change;
      types_are = types_are;
      is = opened_file v types None file opened (scan_of opened) some there (named ∙ is_name) types_are (λ bytes p content reads data_file. opens bytes p content (same ∙ reads) data_file) (λ bytes reads. footer bytes (same ∙ reads)) refl;
    }

module _ (v w : View) (types : List ColumnType) (file : ListedFile) (opened : OpenDataFile) (can : IsFindable v w types file opened) where
  open_now : (p : Partitioner) (content : Content) → HasContent v.files p types file content → IsOpenOn w opened p content
  open_now p content has =
      let open_in = can.is.opened p content has in
      record {
        bytes = open_in.bytes;
        reads = subst (λ (o : Option Folder). contents_in o opened.file ≡ Some open_in.bytes) (sym (reads_same v w can.change)) open_in.reads;
        data_file = open_in.data_file;
        of = open_in.of;
      }

  pub find_there : IsThere w opened.file
  find_there = subst (λ (o : Option Folder). IsSome o → IsSome (contents_in o opened.file)) (sym (reads_same v w can.change)) can.is.can.there

  -- what is found is what the content's map has
  pub find_is : (key : DecoratedKey) (found : Option Partition) → FindsKey w opened key.token key.key found → (p : Partitioner) (content : Content) → HasContent v.files p types file content → key ≡ decorated p key.key → found ≡ map_.get (map_.from_entries {R = decorated_cmp} (entries_of p content)) key
  find_is key found finds p content has is_key = finds p content (open_now p content has) has.keys (ap (λ (k : DecoratedKey). k.token) is_key) ∙ looked_up p key content is_key

  -- and has a body in the table, whatever the file is
  pub find_stored : (key : DecoratedKey) (found : Option Partition) → FindsStored w opened key.token key.key found → IfSome found (IsBodyOf types key.key)
  find_stored key None stored = tt
  find_stored key (Some part) stored = subst (λ (ts : List ColumnType). IsBodyOf ts key.key part) can.types_are stored.1.stored.in_table

  pub find_cost : (key : DecoratedKey) (now : ℕ) → w.reads ≤ v.reads + 3
      → ((most : ℕ) (p : Partitioner) (content : Content) → opened.tree.pairs ≤ most → IsOpenOn w opened p content → KeysAreBytes content → now ≤ w.reads + (2 * height most opened.tree.pairs + 2 + token_reads p key.token (length header) content))
      → (p : Partitioner) (content : Content) → HasContent v.files p types file content → key ≡ decorated p key.key → now ≤ v.reads + find_reads p key.key content
  find_cost key now three costs p content has is_key =
      let is = open_now p content has in
      let count : opened.tree.pairs ≡ length content = ap (λ (t : TreeRef). t.pairs) is.of.tree ∙ pairs_length p (length header) content in
      let cost = costs (length content) p content (omega (arith, count)) is has.keys in
      let levels : height (length content) opened.tree.pairs ≡ height (length content) (length content) = ap (height (length content)) count in
      let tokens : token_reads p key.token (length header) content ≡ token_reads p (token_of p key.key) (length header) content = ap (λ (k : DecoratedKey). token_reads p k.token (length header) content) is_key in
      omega (arith, three, cost, levels, tokens)

  -- damage is that of the file, and of no file with a content
  pub find_shown : (f : ReadFault) → DamageShown w opened.file (ShowsData opened) f → OnDamage (λ damage. (bytes : Bytes) → contents_in v.files (data_name file.number) ≡ Some bytes → ShowsDataFile types (data_name file.number) bytes damage) f
  find_shown f shown =
      first_shown v types None file (scan_of opened) f can.is
      (subst (λ (o : Option Folder). OnDamage (λ damage. (bytes : Bytes) → contents_in o opened.file ≡ Some bytes → ShowsData opened bytes damage) f) (reads_same v w can.change) shown)

  pub no_false_find : (f : ReadFault) → NoFalseOpenedDamage w opened f → OnDamage (λ _. (p : Partitioner) (content : Content) → HasContent v.files p types file content → ⊥) f
  no_false_find fault.Failed no_false = tt
  no_false_find fault.OutOfMemory no_false = tt
  no_false_find (fault.Damaged damage) no_false = λ p content has. no_false p content (open_now p content has) has.keys

-- the causes of an opening and a look-up
pub find_causes : {S T : Type 0} (v w u : View) (most : ℕ) (first : S) (second : Result T ReadFault) → ReadCost {T = S} 3 v w (Ok first) → ReadCost most w u second → ScanCauses v u second
find_causes v w u most first second one two = causes_behind v w u second one.ok one.out (of_reads most w u second two)
