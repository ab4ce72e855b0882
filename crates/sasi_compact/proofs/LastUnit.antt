-- What the last unit asks of the writer of the output, and the record that it appends.
use Rattle.std.proofs.Common.{◌≡◌, ◌≤◌, ◌∙◌, ℕ, List, [], ◌∷◌, length, Option, None, Some, refl, sym, ap, subst, arith}
use Rattle.std.specs.Prelude.{IsTrue, Err, Ok}
use Rattle.sasi_types.specs.declared.index_def.IndexDef.{IndexDef}
use Rattle.sasi_host.specs.declared.fault.HostFault.{HostFault}
use Rattle.sasi_host.specs.declared.fault.HostFault.TheVariants as host
use Rattle.sasi_host.specs.declared.name.FileName.{FileName}
use Rattle.sasi_host.specs.Names.{data_name}
use Rattle.sasi_host.specs.View.{ListCauses, Reaches, View}
use Rattle.sasi_host.specs.Disk.{Changes, Within}
use Rattle.sasi_host.proofs.FailingLaws.{failed_behind}
use Rattle.sasi_datawrite.specs.Causes.{PushCauses, of_host}
use Rattle.sasi_datawrite.specs.Format.{Content}
use Rattle.sasi_datawrite.specs.declared.fault.PairFault.{PairFault}
use Rattle.sasi_datawrite.specs.declared.fault.PairFault.TheVariants as pair
use Rattle.sasi_layout.specs.Moves.{new_listed_file}
use Rattle.sasi_manifest.specs.declared.edit.Edit.{Edit}
use Rattle.sasi_manifest.specs.declared.edit.Edit.TheVariants.{Replace}
use Rattle.sasi_manifest.specs.declared.files.ListedFile.{ListedFile}
use Rattle.sasi_manifest.specs.declared.files.PartNumber.{PartNumber}
use Rattle.sasi_manifest.specs.declared.listing.Listing.{Listing}
use Rattle.sasi_manifest.specs.ListedFiles.{is_name_of}
use Rattle.sasi_merge.specs.Streams.{Entries}
use Rattle.sasi_pairs.specs.Gathered.{defs_of}
use Rattle.sasi_pairs.specs.PairViews.{IsPairing, PairView}
use Rattle.sasi_pairs.specs.SealedFiles.{AddOnly, AreAbsent, AreDefined}
use Rattle.sasi_compact.specs.Listing.{edits_of, output_file, since_of}
use Rattle.sasi_compact.specs.Tasks.{CanGoOnTo, IsCompactingTo, IsReadyTo, IsWriterOf, content_of}
use Rattle.sasi_compact.specs.declared.compaction.Compaction.{Compaction}
use Rattle.sasi_compact.specs.declared.output.Output.{Output}

-- ---- the writer

-- the writer is that of the output, and can be sealed
pub record CanSeal (v : View) (c : Compaction) (pairs : PairView) : Type 0 where
  pub file : pairs.writer.file ≡ data_name c.number
  pub partitioner : pairs.writer.partitioner ≡ c.partitioner
  pub indexes : defs_of pairs.indexes ≡ c.indexes
  pub usable : IsTrue pairs.writer.usable
  pub room : Reaches v pairs.writer.file pairs.writer.offset
  pub some : 1 ≤ length pairs.writer.pairs

pub can_seal : (v : View) (c : Compaction) (output : Option Output) (pairs : PairView) → CanGoOnTo v c output → IsReadyTo output → IsWriterOf output pairs → CanSeal v c pairs
can_seal v c None pairs can ready is = absurd ready
can_seal v c (Some o) pairs can ready is = subst (CanSeal v c) (sym is) (record { file = can.file; partitioner = can.partitioner; indexes = can.indexes; usable = can.usable; room = can.room; some = ready.some })

-- it has written what was passed
pub has_written : (v : View) (c : Compaction) (output : Option Output) (pairs : PairView) → IsWriterOf output pairs → (passed : Entries) → IsCompactingTo v c output passed [] → IsPairing v pairs (content_of passed)
has_written v c None pairs is passed on = absurd is
has_written v c (Some o) pairs is passed on = subst (λ (p : PairView). IsPairing v p (content_of passed)) (sym is) on.written

-- in any folder it has written some content
pub some_written : (v : View) (c : Compaction) (output : Option Output) (pairs : PairView) → CanGoOnTo v c output → IsWriterOf output pairs → (content : Content) × IsPairing v pairs content
some_written v c None pairs can is = absurd is
some_written v c (Some o) pairs can is = (can.written.0, subst (λ (p : PairView). IsPairing v p can.written.0) (sym is) can.written.1)

module _ (v : View) (c : Compaction) (pairs : PairView) (can : CanSeal v c pairs) (parts : List PartNumber) where
  pub parts_defined : AreDefined c.indexes parts → AreDefined (defs_of pairs.indexes) parts
  parts_defined defined = subst (λ (defs : List IndexDef). AreDefined defs parts) (sym can.indexes) defined

  number_is : c.number ≡ pairs.writer.file.number
  number_is = sym (ap (λ (f : FileName). f.number) can.file)

  pub parts_absent : AreAbsent v c.number parts → AreAbsent v pairs.writer.file.number parts
  parts_absent absent = subst (λ (n : ℕ). AreAbsent v n parts) number_is absent

  pub sealed_within : (w : View) → Changes (Within (is_name_of (record { number = pairs.writer.file.number; parts = parts }))) v w → Changes (Within (is_name_of (output_file c parts))) v w
  sealed_within w made = subst (λ (n : ℕ). Changes (Within (is_name_of (new_listed_file n parts))) v w) (sym number_is) made

  pub sealed_is : (sealed : ListedFile) → sealed ≡ record { number = pairs.writer.file.number; parts = parts } → sealed ≡ output_file c parts
  sealed_is sealed is = is ∙ ap (λ (n : ℕ). new_listed_file n parts) (sym number_is)

-- ---- the record

-- a data file with copies of the parts is the output
pub file_is : (c : Compaction) (parts found : List PartNumber) (file : ListedFile) → found ≡ parts → file ≡ record { number = c.number; parts = found } → file ≡ output_file c parts
file_is c parts found file same is = is ∙ ap (λ (ps : List PartNumber). new_listed_file c.number ps) same

pub edits_are : (listing found : Listing) (table : ℕ) (c : Compaction) (parts : List PartNumber) (listed : ListedFile) (edits : List Edit) → found ≡ listing → listed ≡ output_file c parts
    → edits ≡ Replace table c.sources (listed ∷ []) (since_of found.tables table) found.floor found.last ∷ [] → edits ≡ edits_of listing table c parts
edits_are listing found table c parts listed edits same is made =
    made
    ∙ ap (λ (f : ListedFile). Replace table c.sources (f ∷ []) (since_of found.tables table) found.floor found.last ∷ []) is
    ∙ ap (λ (l : Listing). Replace table c.sources (output_file c parts ∷ []) (since_of l.tables table) l.floor l.last ∷ []) same

-- it adds the output, and no other file
pub adds_output : (listing : Listing) (table : ℕ) (c : Compaction) (parts : List PartNumber) (sealed : ListedFile) (edits : List Edit) → sealed ≡ output_file c parts → edits ≡ edits_of listing table c parts → AddOnly sealed edits
adds_output listing table c parts sealed edits file is =
    subst (λ (es : List Edit). AddOnly sealed es) (sym is) (subst (λ (f : ListedFile). AddOnly f (edits_of listing table c parts)) (sym file) refl)

-- ---- causes

-- memory that runs out before any call
pub no_memory : {T : Type 0} (a : View) → PushCauses {T = T} (λ _. ⊥) a a (Err pair.OutOfMemory)
no_memory a = record { disk = omega arith; out = refl; reads = refl; ok = tt; failed = λ is. cc; memory = λ is. refl; undamaged = λ damage is. cc; missing = λ class is. cc; lacking = λ class is. refl }

-- a fault that is handed on
pub push_handed : {S T : Type 0} (a b : View) (f : PairFault) → PushCauses {T = S} (λ _. ⊥) a b (Err f) → PushCauses {T = T} (λ _. ⊥) a b (Err f)
push_handed a b f one = record { disk = one.disk; out = one.out; reads = one.reads; ok = tt; failed = one.failed; memory = one.memory; undamaged = one.undamaged; missing = one.missing; lacking = one.lacking }

-- a record that isn't appended, behind files that were sealed
pub list_fails : {S T : Type 0} (a b d : View) (f : HostFault) → b.disk_faults ≡ a.disk_faults → b.out_faults ≡ a.out_faults → b.reads ≡ a.reads → ListCauses {T = S} b d (Err f) → PushCauses {T = T} (λ _. ⊥) a d (Err (of_host f))
list_fails a b d host.Failed disk out reads one = record {
  disk = omega (arith, disk, one.disk);
  out = one.out ∙ out;
  reads = one.reads ∙ reads;
  ok = tt;
  failed = λ is. failed_behind a.disk_faults b.disk_faults d.disk_faults d.failed_last disk (one.failed refl);
  memory = λ is. cc;
  undamaged = λ damage is. cc;
  missing = λ class is. cc;
  lacking = λ class is. cc;
}
list_fails a b d host.OutOfMemory disk out reads one = record {
  disk = omega (arith, disk, one.disk);
  out = one.out ∙ out;
  reads = one.reads ∙ reads;
  ok = tt;
  failed = λ is. cc;
  memory = λ is. one.memory refl ∙ disk;
  undamaged = λ damage is. cc;
  missing = λ class is. cc;
  lacking = λ class is. cc;
}

pub all_listed : {T : Type 0} (a b d : View) (x : T) → b.disk_faults ≡ a.disk_faults → b.out_faults ≡ a.out_faults → b.reads ≡ a.reads → d.disk_faults ≡ b.disk_faults → d.out_faults ≡ b.out_faults → d.reads ≡ b.reads → PushCauses {T = T} (λ _. ⊥) a d (Ok x)
all_listed a b d x disk out reads disk_on out_on reads_on = record { disk = omega (arith, disk, disk_on); out = out_on ∙ out; reads = reads_on ∙ reads; ok = disk_on ∙ disk; failed = tt; memory = tt; undamaged = tt; missing = tt; lacking = tt }
