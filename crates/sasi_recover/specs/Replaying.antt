-- The segments of the log that a host keeps, and what a replay of them tells.
use Rattle.std.specs.Prelude.{◌≡◌, ℕ, suc, ◌+◌, ◌-◌, ◌^◌, ◌≤◌, ◌<◌, Bool, true, false, IsTrue, List, [], ◌∷◌, ◌++◌, length, Option, None, Some, is_some, ⊤}
use Rattle.sasi_host.specs.declared.fault.ReadFault.{ReadFault}
use Rattle.sasi_host.specs.Damages.{OnDamage}
use Rattle.sasi_host.specs.Names.{Bytes, Folder, log_name}
use Rattle.sasi_host.specs.View.{View, IsThere, IsTold, Reaches, contents}
use Rattle.sasi_host.specs.Disk.{Changes, IsFileDurable, Same}
use Rattle.sasi_cells.specs.declared.mutation.Mutation.{Mutation}
use Rattle.sasi_commitlog.specs.Damages.{ShowsLog}
use Rattle.sasi_commitlog.specs.Format.{IsLog, Tables}
use Rattle.sasi_gated.specs.Handles.{Handle}
use Rattle.sasi_commitlog.specs.LogPosition.{IsAtLogEnd}
use Rattle.sasi_commitlog.specs.Reads.{ReadsLogGate, ReadsMutations}
use Rattle.sasi_manifest.specs.declared.listing.Listing.{Listing}
use Rattle.sasi_folder.specs.FolderContents.{HasSegments, types_listed}
use Rattle.sasi_recover.specs.OpeningReads.{live_reads, segment_reads}
use Rattle.sasi_recover.specs.ReplayState.{IsReplayOf, ReplayState, after_mutation, after_segment, after_segments, empty_state, replayed_state}

-- ---- what a host keeps

-- each image has the segment with this number, and it has these mutations
abbrev pub KeepsSegment : View → Tables → ℕ → List Mutation → Type 0
KeepsSegment v tables number mutations = (bytes : Bytes) × IsFileDurable v (log_name number) bytes × IsLog number tables bytes mutations

-- and those with rising numbers from this one on
abbrev pub KeepsSegments : View → Tables → ℕ → List (List Mutation) → Type 0
KeepsSegments v tables number [] = ⊤
KeepsSegments v tables number (mutations ∷ logs) = KeepsSegment v tables number mutations × KeepsSegments v tables (suc number) logs

-- the live segments that are listed are there
abbrev pub LiveSegmentsExist : View → Listing → Type 0
LiveSegmentsExist v listing = (number : ℕ) → listing.floor ≤ number → number ≤ listing.last → IsThere v (log_name number)

-- ---- what is read

-- the segment as it reads has some mutations of the listed tables, and they were merged
abbrev pub ReadsSegment : View → Listing → ℕ → ReplayState → ReplayState → Type 0
ReadsSegment v listing number before later = (bytes : Bytes) → contents v (log_name number) ≡ Some bytes
    → (mutations : List Mutation) × IsLog number (types_listed listing) bytes mutations × (later ≡ after_segment listing.tables number before mutations)

-- the live segments of the folder before this number have some, and they were merged in order
pub record HasMerged (folder : Folder) (listing : Listing) (number : ℕ) (now : ReplayState) : Type 0 where
  pub logs : List (List Mutation)
  pub count : listing.floor + length logs ≡ number
  pub segments : HasSegments folder (types_listed listing) listing.floor logs
  pub state : now ≡ after_segments listing.tables listing.floor (empty_state listing) logs

-- and so were all of the folder as it reads
abbrev pub ReadsAll : View → Listing → ReplayState → Type 0
ReadsAll v listing state = (folder : Folder) → v.files ≡ Some folder → HasMerged folder listing (suc listing.last) state

-- ---- damage

-- damage is what the segment of this number shows as it reads
abbrev pub SegmentShowsDamage : View → Listing → ℕ → ReadFault → Type 0
SegmentShowsDamage v listing number = OnDamage (λ damage. (bytes : Bytes) → contents v (log_name number) ≡ Some bytes → ShowsLog (types_listed listing) (log_name number) bytes damage)

-- and no segment of mutations of the listed tables is damaged
abbrev pub NoFalseSegmentDamage : View → Listing → ℕ → ReadFault → Type 0
NoFalseSegmentDamage v listing number = OnDamage (λ _. (mutations : List Mutation) → IsTold v → KeepsSegment v (types_listed listing) number mutations → ⊥)

-- damage is what a live segment shows as it reads
abbrev pub ReplayShowsDamage : View → Listing → ReadFault → Type 0
ReplayShowsDamage v listing = OnDamage (λ damage. (number : ℕ) × (listing.floor ≤ number) × (number ≤ listing.last)
    × ((bytes : Bytes) → contents v (log_name number) ≡ Some bytes → ShowsLog (types_listed listing) (log_name number) bytes damage))

-- and none is told where all of them have mutations of the listed tables
abbrev pub NoFalseReplayDamage : View → Listing → ReadFault → Type 0
NoFalseReplayDamage v listing = OnDamage (λ _. (logs : List (List Mutation)) → IsTold v → listing.floor + length logs ≡ suc listing.last → KeepsSegments v (types_listed listing) listing.floor logs → ⊥)

-- ---- what was replayed

-- the segment's mutations were merged, and the segment stands at its closed gate
abbrev pub ReplaysSegment : View → View → Listing → ℕ → ℕ → ReplayState → ReplayState → Type 0
ReplaysSegment old new listing number at before later = (mutations : List Mutation) → IsTold old → KeepsSegment old (types_listed listing) number mutations
    → (later ≡ after_segment listing.tables number before mutations) × IsAtLogEnd new (log_name number) at mutations

-- the last segment stands at its closed gate, behind the mutations of the last of these
abbrev pub LastLogEndsWith : View → Listing → ℕ → List (List Mutation) → Type 0
LastLogEndsWith v listing at logs = (older : List (List Mutation)) × (current : List Mutation) × (logs ≡ older ++ current ∷ []) × IsAtLogEnd v (log_name listing.last) at current

-- all live segments were merged in order
abbrev pub Replays : View → View → Listing → ℕ → ReplayState → Type 0
Replays old new listing at state = (logs : List (List Mutation)) → IsTold old → listing.floor + length logs ≡ suc listing.last → KeepsSegments old (types_listed listing) listing.floor logs
    → (state ≡ replayed_state listing logs) × LastLogEndsWith new listing at logs

-- ---- on the way

-- the state with what was read of the segment merged into it
abbrev pub after_read : Listing → ℕ → ReplayState → Option Mutation → ReplayState
after_read listing number s None = s
after_read listing number s (Some mutation) = after_mutation listing.tables number s mutation

-- the next mutation of the segment was read, and merged where there is one more
pub record MergesNext (old new : View) (listing : Listing) (number : ℕ) (log log_after : Handle) (before later : ReplayState) (is_more : Bool) : Type 0 where
  pub read : Option Mutation
  pub more : is_more ≡ is_some read
  pub state : later ≡ after_read listing number before read
  pub gate : ReadsLogGate old log.file (types_listed listing) log.at log_after.at read
  pub mutations : ReadsMutations old new log.file (types_listed listing) log.at log_after.at read
  pub file : log_after.file ≡ log.file
  pub usable : IsTrue log_after.usable
  pub advances : is_more ≡ true → log.at < log_after.at
  pub fits : log_after.at ≤ 2 ^ 62
  pub room : is_more ≡ false → Reaches new log_after.file (log_after.at + 1)

-- so many segments were merged, and these are left from this number on
pub record MergedBefore (v : View) (listing : Listing) (number : ℕ) (now : ReplayState) (logs : List (List Mutation)) : Type 0 where
  pub done : List (List Mutation)
  pub left : List (List Mutation)
  pub parts : logs ≡ done ++ left
  pub count : listing.floor + length done ≡ number
  pub kept : KeepsSegments v (types_listed listing) number left
  pub state : now ≡ after_segments listing.tables listing.floor (empty_state listing) done

-- the live segments before this number were merged in order
pub record HasReplayed (a b : View) (listing : Listing) (number : ℕ) (now : ReplayState) : Type 0 where
  pub from_floor : listing.floor ≤ number
  pub same : Changes Same a b
  pub disk : b.disk_faults ≡ a.disk_faults
  pub out : b.out_faults ≡ a.out_faults
  pub reads_left : (folder : Folder) → a.files ≡ Some folder → LiveSegmentsExist a listing → b.reads + segment_reads folder number (suc listing.last - number) ≤ a.reads + live_reads folder listing
  pub maps : IsReplayOf listing now
  pub read : (folder : Folder) → a.files ≡ Some folder → LiveSegmentsExist a listing → HasMerged folder listing number now
  pub merged : (logs : List (List Mutation)) → IsTold a → listing.floor + length logs ≡ suc listing.last → KeepsSegments a (types_listed listing) listing.floor logs → MergedBefore a listing number now logs
