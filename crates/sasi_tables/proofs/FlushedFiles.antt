-- The new files of a flush, over its calls.
use Rattle.std.specs.Prelude.{◌≡◌, ◌≢◌, ◌||◌, ◌^◌, ◌<◌, ◌≤◌, ℕ, Bool, true, false, List, [], ◌∷◌, length, map, Some, is_some, refl}
use Rattle.std.proofs.Common.{sym, ap, subst, ◌∙◌, arith, append-nil}
use Rattle.std.specs.FinMap.{get}
use Rattle.std.specs.List.{AllByRecursion, list_any}
use Rattle.sasi_types.specs.declared.index_def.IndexDef.{IndexDef}
use Rattle.sasi_types.specs.declared.partitioner.Partitioner.{Partitioner}
use Rattle.sasi_host.specs.declared.name.FileName.{FileName}
use Rattle.sasi_host.specs.Names.{Bytes, Folder, data_name, log_name, manifest_name, name_eq, rank}
use Rattle.sasi_host.specs.View.{IsAbsent, IsSound, IsThere, Reaches, View, contents}
use Rattle.sasi_host.specs.Disk.{AnyChange, Changes, FileChange, IsFileDurable, Relation, Within}
use Rattle.sasi_host.proofs.ChangeLaws.{changes_as, changes_on}
use Rattle.sasi_host.proofs.ContentLaws.{absent_where, contents_kept, contents_other, reaches_where, there_where, told_before}
use Rattle.sasi_host.proofs.Durability.{file_durable_holds, file_durable_other}
use Rattle.sasi_datawrite.specs.Format.{Content, data_bytes}
use Rattle.sasi_manifest.specs.declared.edit.Edit.{Edit}
use Rattle.sasi_manifest.specs.declared.files.ListedFile.{ListedFile}
use Rattle.sasi_manifest.specs.declared.files.PartNumber.{PartNumber}
use Rattle.sasi_manifest.specs.declared.listing.Listing.{Listing}
use Rattle.sasi_manifest.specs.Edits.{Applies, encoded}
use Rattle.sasi_manifest.specs.ListedFiles.{index_name, is_name_of, names_of}
use Rattle.sasi_manifest.proofs.Applying.{applies_replace, writable}
use Rattle.sasi_manifest.proofs.EditBytes.{edit_bytes, encoded_length, replace_length}
use Rattle.sasi_folder.proofs.FolderLaws.{kinds_apart}
use Rattle.sasi_layout.proofs.FileNameLaws.{all_names, kind_unnamed, name_itself}
use Rattle.sasi_pairs.specs.SealedFiles.{AddOnly, HasDurableIndex}
use Rattle.sasi_tables.specs.declared.flush.FlushNumbers.{FlushNumbers}
use Rattle.sasi_tables.specs.Flushing.{AreAbsent, AreThere, AreWritten, DeletesSegments, HasFlushedFiles, MakesFiles, edit_of, file_of}
use Rattle.sasi_tables.proofs.FlushFrames.{file_undeleted, log_undeleted, manifest_undeleted, manifest_unmade, segment_unmade}

-- ---- both files

-- the test of a name that isn't made
neither : (a b : Bool) → (a || b) ≡ false → (a ≡ false) × (b ≡ false)
neither true b is = cc
neither false b is = (refl, is)

never : true ≡ false → ⊥
never e = cc

other_name : (name other : FileName) → name_eq name other ≡ false → name ≢ other
other_name name other is same = never (sym (ap (λ (k : FileName). name_eq k other) same ∙ name_itself other) ∙ is)

-- a change of the data file is one of the file's names
pub named_data : (f : ListedFile) (a b : View) → Changes (FileChange (data_name f.number) AnyChange) a b → Changes (Within (is_name_of f)) a b
named_data f a b change = changes_as a b (FileChange (data_name f.number) AnyChange) (Within (is_name_of f)) change
    (λ x y step name unmade. step.others name (other_name name (data_name f.number) (neither (name_eq name (data_name f.number)) (list_any (name_eq name) (map (index_name f.number) f.parts)) unmade).0))

module _ (n : FlushNumbers) (parts : List PartNumber) where
  -- the names of the new file alone
  pub data_made : (a b : View) → Changes (Within (is_name_of (file_of n parts))) a b → Changes (MakesFiles n parts) a b
  data_made a b change = changes_as a b (Within (is_name_of (file_of n parts))) (MakesFiles n parts) change (λ x y step name unmade. step name (neither (name_eq name (log_name n.last)) (is_name_of (file_of n parts) name) unmade).1)

  -- and then the segment
  pub segment_made : (a b c : View) → Changes (Within (is_name_of (file_of n parts))) a b → Changes (FileChange (log_name n.last) AnyChange) b c → Changes (MakesFiles n parts) a c
  segment_made a b c first second =
      changes_on a b c (Within (is_name_of (file_of n parts))) (FileChange (log_name n.last) AnyChange) (MakesFiles n parts) first second
      (λ x y step name unmade. step name (neither (name_eq name (log_name n.last)) (is_name_of (file_of n parts) name) unmade).1)
      (λ x y z one two name unmade.
      let apart = neither (name_eq name (log_name n.last)) (is_name_of (file_of n parts) name) unmade in
      two.others name (other_name name (log_name n.last) apart.0) ∙ one name apart.1)

  -- the segment's name is still free
  pub segment_absent : (a b : View) → Changes (Within (is_name_of (file_of n parts))) a b → IsAbsent a (log_name n.last) → IsAbsent b (log_name n.last)
  segment_absent a b change absent =
      absent_where a b (log_name n.last) (contents_kept a b (Within (is_name_of (file_of n parts))) (log_name n.last) (λ x y step. step (log_name n.last) (kind_unnamed (log_name n.last) (file_of n parts) (omega arith))) change) absent

-- the files are still durable
module _ (n : FlushNumbers) (p : Partitioner) (defs : List IndexDef) (content : Content) (b c : View) (change : Changes (FileChange (log_name n.last) AnyChange) b c) where
  indexes_durable : (parts : List PartNumber) → AllByRecursion (HasDurableIndex b n.file p defs content) parts → AllByRecursion (HasDurableIndex c n.file p defs content) parts
  indexes_durable [] has = tt
  indexes_durable (part ∷ parts) has = (
    record {
      def = has.0.def;
      listed = has.0.listed;
      numbered = has.0.numbered;
      bytes = has.0.bytes;
      stands = has.0.stands;
      kept = file_durable_other b c (log_name n.last) (index_name n.file part) AnyChange has.0.bytes (kinds_apart _ _ (omega arith)) change has.0.kept;
    },
    indexes_durable parts has.1,
  )

  pub still_written : (parts : List PartNumber) → AreWritten b n.file p defs parts content → AreWritten c n.file p defs parts content
  still_written parts written = record {
    «data» = file_durable_other b c (log_name n.last) (data_name n.file) AnyChange (data_bytes p content) (kinds_apart _ _ (omega arith)) change written.«data»;
    indexes = indexes_durable parts written.indexes;
  }

-- a file that is there stays there, where a change keeps its bytes
pub still_there : (b c : View) (S : Relation) (name : FileName) → ((x y : Folder) → S x y → get y name ≡ get x name) → Changes S b c → IsThere b name → IsThere c name
still_there b c S name keeps change there = there_where b c S name change (contents_kept b c S name keeps change) there

all_there : (b c : View) (S : Relation) (names : List FileName) → Changes S b c → AllByRecursion (λ (name : FileName). (x y : Folder) → S x y → get y name ≡ get x name) names → AllByRecursion (λ (name : FileName). IsThere b name) names → AllByRecursion (λ (name : FileName). IsThere c name) names
all_there b c S [] change keeps there = tt
all_there b c S (name ∷ names) change keeps there = (still_there b c S name keeps.0 change there.0, all_there b c S names change keeps.1 there.1)

-- and so the new files, where the change keeps files of their kinds
pub files_still_there : (f : ListedFile) (b c : View) (S : Relation) → ((name : FileName) → 3 ≤ rank name.kind → (x y : Folder) → S x y → get y name ≡ get x name) → Changes S b c
    → AllByRecursion (λ (name : FileName). IsThere b name) (names_of f) → AllByRecursion (λ (name : FileName). IsThere c name) (names_of f)
files_still_there f b c S keeps change there = all_there b c S (names_of f) change (all_names (λ name. (x y : Folder) → S x y → get y name ≡ get x name) f (λ name kind own. keeps name kind)) there

-- the new segment leaves them there
pub log_keeps : (n : FlushNumbers) (parts : List PartNumber) (b c : View) → Changes (FileChange (log_name n.last) AnyChange) b c → AllByRecursion (λ (name : FileName). IsThere b name) (names_of (file_of n parts))
    → AllByRecursion (λ (name : FileName). IsThere c name) (names_of (file_of n parts))
log_keeps n parts b c change there =
    files_still_there (file_of n parts) b c (FileChange (log_name n.last) AnyChange) (λ name kind x y step. step.others name (kinds_apart _ _ (omega (arith, kind)))) change there

durable_there : (b : View) (name : FileName) (bytes : Bytes) → IsSound b → IsFileDurable b name bytes → IsThere b name
durable_there b name bytes sound durable told = ap is_some (file_durable_holds b name bytes sound durable told)

indexes_there : (number : ℕ) (p : Partitioner) (defs : List IndexDef) (content : Content) (b : View) → IsSound b → (parts : List PartNumber) → AllByRecursion (HasDurableIndex b number p defs content) parts
    → AllByRecursion (λ (name : FileName). IsThere b name) (map (index_name number) parts)
indexes_there number p defs content b sound [] has = tt
indexes_there number p defs content b sound (part ∷ parts) has = (durable_there b (index_name number part) has.0.bytes sound has.0.kept, indexes_there number p defs content b sound parts has.1)

-- and what is durable is there
pub written_there : (n : FlushNumbers) (parts : List PartNumber) (p : Partitioner) (defs : List IndexDef) (content : Content) (b : View) → IsSound b → AreWritten b n.file p defs parts content
    → AllByRecursion (λ (name : FileName). IsThere b name) (names_of (file_of n parts))
written_there n parts p defs content b sound written = (durable_there b (data_name n.file) (data_bytes p content) sound written.«data», indexes_there n.file p defs content b sound parts written.indexes)

-- ---- the record

-- it adds the file, and no other one
pub adds_file : (n : FlushNumbers) (parts : List PartNumber) (sealed : ListedFile) (edits : List Edit) → sealed ≡ file_of n parts → edits ≡ edit_of n parts ∷ [] → AddOnly sealed edits
adds_file n parts sealed edits sealed_is is = subst (λ (es : List Edit). AddOnly sealed es) (sym is) (subst (λ (f : ListedFile). AddOnly f (edit_of n parts ∷ [])) (sym sealed_is) refl)

-- and is short
pub record_short : (n : FlushNumbers) (parts : List PartNumber) → length parts < 2 ^ 16 → length (encoded (edit_of n parts ∷ [])) ≤ 2 ^ 30
record_short n parts few = omega (
  arith,
  few,
  encoded_length (edit_of n parts ∷ []),
  ap length (append-nil (edit_bytes (edit_of n parts))),
  replace_length n.table [] (file_of n parts ∷ []) n.last n.floor n.last,
)

-- the parts of a record that applies are few
pub parts_few : (listing : Listing) (n : FlushNumbers) (parts : List PartNumber) → Applies (Some listing) (edit_of n parts) → length parts < 2 ^ 16
parts_few listing n parts applies = (writable (Some listing) (edit_of n parts) applies).2.0

-- the manifest reaches as far as before
pub room_unmade : (n : FlushNumbers) (parts : List PartNumber) (a b : View) (number at : ℕ) → Changes (MakesFiles n parts) a b → Reaches a (manifest_name number) at → Reaches b (manifest_name number) at
room_unmade n parts a b number at change room =
    reaches_where a b (MakesFiles n parts) (manifest_name number) at change (contents_kept a b (MakesFiles n parts) (manifest_name number) (λ x y step. manifest_unmade n parts x y step number) change) room

-- ---- afterwards

-- the floor is no later than the new segment
pub floor_within : (listing : Listing) (n : FlushNumbers) (parts : List PartNumber) → Applies (Some listing) (edit_of n parts) → n.floor ≤ n.last
floor_within listing n parts applies = (applies_replace listing n.table [] (file_of n parts ∷ []) n.last n.floor n.last applies).floor_within

-- the segments that are to be deleted are still there
pub former_there : (n : FlushNumbers) (parts : List PartNumber) (manifest first floor : ℕ) (a b c : View) → floor ≡ first → n.floor ≤ n.last → Changes (MakesFiles n parts) a b → Changes (FileChange (manifest_name manifest) AnyChange) b c → AreThere a first n.floor → AreThere c floor n.floor
former_there n parts manifest first floor a b c is within made listed there segment above below =
    there_where b c (FileChange (manifest_name manifest) AnyChange) (log_name segment) listed
    (contents_other b c (manifest_name manifest) (log_name segment) AnyChange (kinds_apart _ _ (omega arith)) listed)
    (there_where a b (MakesFiles n parts) (log_name segment) made
    (contents_kept a b (MakesFiles n parts) (log_name segment) (λ x y step. segment_unmade n parts x y step segment (λ same. omega (arith, below, within, same))) made)
    (there segment (omega (arith, is, above)) below))

module _ (n : FlushNumbers) (parts : List PartNumber) (manifest first : ℕ) (b c d : View) (listed : Changes (FileChange (manifest_name manifest) AnyChange) b c) (deleted : Changes (DeletesSegments first n.floor) c d) where
  -- a segment's file from the floor on reads as before
  log_reads : (number : ℕ) → n.floor ≤ number → contents d (log_name number) ≡ contents b (log_name number)
  log_reads number le =
      contents_kept c d (DeletesSegments first n.floor) (log_name number) (λ x y step. log_undeleted first n.floor number le x y step) deleted
      ∙ contents_other b c (manifest_name manifest) (log_name number) AnyChange (kinds_apart _ _ (omega arith)) listed

  pub log_room : (at : ℕ) → n.floor ≤ n.last → Reaches b (log_name n.last) at → Reaches d (log_name n.last) at
  log_room at le room told =
      let told_b = told_before (FileChange (manifest_name manifest) AnyChange) b c listed (told_before (DeletesSegments first n.floor) c d deleted told) in
      let was = room told_b in
      (was.0, log_reads n.last le ∙ was.1, was.2)

  pub manifest_room : (at : ℕ) → Reaches c (manifest_name manifest) at → Reaches d (manifest_name manifest) at
  manifest_room at room =
      reaches_where c d (DeletesSegments first n.floor) (manifest_name manifest) at deleted
      (contents_kept c d (DeletesSegments first n.floor) (manifest_name manifest) (λ x y step. manifest_undeleted first n.floor manifest x y step) deleted) room

  pub files_there : (at : ℕ) → n.floor ≤ n.last → AllByRecursion (λ (name : FileName). IsThere b name) (names_of (file_of n parts)) → Reaches b (log_name n.last) at → AreAbsent d first n.floor → (floor : ℕ) → first ≡ floor → HasFlushedFiles d floor n parts
  files_there at le there room gone floor is = record {
    files = files_still_there (file_of n parts) c d (DeletesSegments first n.floor) (λ name kind. file_undeleted first n.floor name kind) deleted
        (files_still_there (file_of n parts) b c (FileChange (manifest_name manifest) AnyChange) (λ name kind x y step. step.others name (kinds_apart _ _ (omega (arith, kind)))) listed there);
    segment = λ told. let there = log_room at le room told in ap is_some there.1;
    gone = subst (λ f. AreAbsent d f n.floor) is gone;
  }
