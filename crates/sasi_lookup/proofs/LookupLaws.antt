-- A look-up is the look-up in its files.
use Rattle.std.proofs.Common.{◌≡◌, ◌∙◌, ℕ, ◌+◌, ◌≤◌, List, Option, None, IfOk, IfSome, OnOk, Result, ap, sym, subst}
use Rattle.sasi_types.specs.declared.column.ColumnType.{ColumnType}
use Rattle.sasi_types.specs.declared.partitioner.Partitioner.{Partitioner}
use Rattle.sasi_types.specs.Token.{token_of}
use Rattle.sasi_model.specs.Cells.{Partition}
use Rattle.sasi_model.specs.State.{decorated}
use Rattle.sasi_host.specs.declared.fault.ReadFault.{ReadFault}
use Rattle.sasi_host.specs.Names.{Bytes, Folder}
use Rattle.sasi_host.specs.declared.name.FileName.{FileName}
use Rattle.sasi_host.specs.View.{View}
use Rattle.sasi_datawrite.specs.Format.{Content}
use Rattle.sasi_memtable.specs.MemtableView.{MemtableView}
use Rattle.sasi_ranges.specs.StreamCalls.{HasStreamed, StreamFaults}
use Rattle.sasi_scan.specs.Finding.{file_maps, found_in}
use Rattle.sasi_scan.specs.Parts.{IsMergeOfParts}
use Rattle.sasi_lookup.specs.Files.{LookedFile}
use Rattle.sasi_lookup.specs.Lookups.{AreDataOf, AreRight, AreTurned, EachHasKeys, FilesOpen, FilesReady, FilesShow, HasKeysOf, IsLookingIn, IsOfSameFiles, IsReady, IsRight, IsTurned, LookupView, Opens, Shows}
use Rattle.sasi_lookup.specs.Reads.{found_pages, turn_reads}
use Rattle.sasi_lookup.proofs.FileLaws.{if_ok}
use Rattle.sasi_lookup.proofs.TurnLaws.{names_of}

module _ (v w : View) (lookup : LookupView) (files : List LookedFile) (same : files ≡ lookup.files) (ready : IsReady lookup v.files) where
  files_ready : FilesReady lookup.types v.files files
  files_ready = subst (λ (fs : List LookedFile). FilesReady lookup.types v.files fs) (sym same) ready

  files_turned : (has : Partitioner × (ℕ × List Content)) → IsTurned v.files lookup has → AreTurned v.files lookup.types files has
  files_turned has is = subst (λ (fs : List LookedFile). AreTurned v.files lookup.types fs has) (sym same) is

  pub lookup_found : (key : Bytes) (r : Result (Option Partition) ReadFault)
      → IfOk r (λ found. (p : Partitioner) (token : ℕ) (types : List ColumnType) (contents : List Content) → FilesReady types v.files files → AreTurned v.files types files (p, (token, contents)) → token_of p key ≡ token → found ≡ found_in (decorated p key) None (file_maps p contents))
      → IfOk r (λ found. (p : Partitioner) (token : ℕ) (contents : List Content) → IsLookingIn v.files p contents lookup → HasKeysOf p token contents lookup → token_of p key ≡ token → found ≡ found_in (decorated p key) None (file_maps p contents))
  lookup_found key r clause =
      if_ok (λ found. (p : Partitioner) (token : ℕ) (types : List ColumnType) (contents : List Content) → FilesReady types v.files files → AreTurned v.files types files (p, (token, contents)) → token_of p key ≡ token → found ≡ found_in (decorated p key) None (file_maps p contents))
      (λ found. (p : Partitioner) (token : ℕ) (contents : List Content) → IsLookingIn v.files p contents lookup → HasKeysOf p token contents lookup → token_of p key ≡ token → found ≡ found_in (decorated p key) None (file_maps p contents)) r
      (λ found gives p token contents looks has is. gives p token lookup.types contents files_ready (files_turned (p, (token, contents)) (looks, has)) is) clause

  pub lookup_reads : (key : Bytes)
      → ((p : Partitioner) (token : ℕ) (types : List ColumnType) (contents : List Content) → FilesReady types v.files files → AreTurned v.files types files (p, (token, contents)) → w.reads ≤ v.reads + found_pages key contents)
      → (p : Partitioner) (token : ℕ) (contents : List Content) → IsLookingIn v.files p contents lookup → HasKeysOf p token contents lookup → w.reads ≤ v.reads + found_pages key contents
  lookup_reads key clause p token contents looks has = clause p token lookup.types contents files_ready (files_turned (p, (token, contents)) (looks, has))

  pub lookup_of_parts : (key : Bytes) (r : Result (Option Partition) ReadFault)
      → ((types : List ColumnType) (maps : List MemtableView) → FilesReady types v.files files → IfOk r (λ found. IfSome found (IsMergeOfParts types maps key)))
      → (maps : List MemtableView) → IfOk r (λ found. IfSome found (IsMergeOfParts lookup.types maps key))
  lookup_of_parts key r clause maps = clause lookup.types maps files_ready

  pub lookup_faults : (r : Result (Option Partition) ReadFault)
      → ((types : List ColumnType) → FilesReady types v.files files → StreamFaults (FilesShow types v.files files) (FilesShow types w.files files) (AreTurned v.files types files) v w r)
      → StreamFaults (Shows lookup v.files) (Shows lookup w.files) (IsTurned v.files lookup) v w r
  lookup_faults r clause =
      subst (λ (fs : List LookedFile). StreamFaults (FilesShow lookup.types v.files fs) (FilesShow lookup.types w.files fs) (AreTurned v.files lookup.types fs) v w r) same (clause lookup.types files_ready)

-- ---- it is turned

module _ (v w : View) (token : ℕ) (lookup : LookupView) (types : List ColumnType) (files news after : List LookedFile) (typed : types ≡ lookup.types) (same : files ≡ lookup.files) (back : after ≡ news) where
  looked : (p : Partitioner) (contents : List Content) → IsLookingIn v.files p contents lookup → AreDataOf v.files p types files contents
  looked p contents are =
      subst (λ (ts : List ColumnType). AreDataOf v.files p ts files contents) (sym typed) (subst (λ (fs : List LookedFile). AreDataOf v.files p lookup.types fs contents) (sym same) are)

  pub turn_ready : IsReady lookup v.files → FilesReady types v.files files
  turn_ready ready = subst (λ (ts : List ColumnType). FilesReady ts v.files files) (sym typed) (subst (λ (fs : List LookedFile). FilesReady lookup.types v.files fs) (sym same) ready)

  pub turned_keys : {T : Type 0} (r : Result T ReadFault) → ((p : Partitioner) (contents : List Content) → AreDataOf v.files p types files contents → OnOk r (EachHasKeys p token news contents))
      → (p : Partitioner) (contents : List Content) → IsLookingIn v.files p contents lookup → OnOk r (EachHasKeys p token after contents)
  turned_keys r clause p contents are = subst (λ (fs : List LookedFile). OnOk r (EachHasKeys p token fs contents)) (sym back) (clause p contents (looked p contents are))

  pub turned_look : ((p : Partitioner) (contents : List Content) → AreDataOf v.files p types files contents → AreDataOf w.files p types news contents)
      → (p : Partitioner) (contents : List Content) → IsLookingIn v.files p contents lookup → AreDataOf w.files p types after contents
  turned_look clause p contents are = subst (λ (fs : List LookedFile). AreDataOf w.files p types fs contents) (sym back) (clause p contents (looked p contents are))

  pub turned_ready : FilesReady types w.files news → FilesReady types w.files after
  turned_ready ready = subst (λ (fs : List LookedFile). FilesReady types w.files fs) (sym back) ready

  pub turned_same : names_of news ≡ names_of files → IsOfSameFiles lookup (record { types = types; files = after })
  turned_same names = record { types_are = typed; names_are = ap names_of back ∙ names ∙ ap names_of same }

  pub turned_reads : ((p : Partitioner) (contents : List Content) → AreDataOf v.files p types files contents → w.reads ≤ v.reads + turn_reads p token files contents)
      → (p : Partitioner) (contents : List Content) → IsLookingIn v.files p contents lookup → w.reads ≤ v.reads + turn_reads p token lookup.files contents
  turned_reads clause p contents are = subst (λ (fs : List LookedFile). w.reads ≤ v.reads + turn_reads p token fs contents) same (clause p contents (looked p contents are))

  pub turned_read : (K : Option Folder → Type 0) (A B : FileName → Type 0) → HasStreamed K A B (FilesOpen files) (FilesOpen news) v w → HasStreamed K A B (Opens lookup) (FilesOpen after) v w
  turned_read K A B read =
      subst (λ (fs : List LookedFile). HasStreamed K A B (Opens lookup) (FilesOpen fs) v w) (sym back) (subst (λ (fs : List LookedFile). HasStreamed K A B (FilesOpen fs) (FilesOpen news) v w) same read)

  pub turned_faults : {T : Type 0} (r : Result T ReadFault) → StreamFaults (FilesShow types v.files files) (FilesShow types w.files news) (AreRight v.files types files) v w r
      → StreamFaults (Shows lookup v.files) (FilesShow types w.files after) (IsRight v.files lookup) v w r
  turned_faults r one =
      subst (λ (fs : List LookedFile). StreamFaults (Shows lookup v.files) (FilesShow types w.files fs) (IsRight v.files lookup) v w r) (sym back)
      (subst (λ (ts : List ColumnType). StreamFaults (FilesShow ts v.files lookup.files) (FilesShow types w.files news) (AreRight v.files ts lookup.files) v w r) typed
      (subst (λ (fs : List LookedFile). StreamFaults (FilesShow types v.files fs) (FilesShow types w.files news) (AreRight v.files types fs) v w r) same one))
