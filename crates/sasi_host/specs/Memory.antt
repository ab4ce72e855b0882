-- A source and a host in memory, as contracts see them.
use Rattle.std.specs.Prelude.{◌⊎◌, ◌<◌, ◌-◌, ◌^◌, ℕ, Bool, true, false, List, [], ◌∷◌, ◌++◌, min, length, Contains, Some}
use Rattle.sasi_host.specs.declared.call.Call.{Call}
use Rattle.sasi_host.specs.declared.mem_host.MemHost.{MemHost}
use Rattle.sasi_host.specs.Names.{Folder}
use Rattle.sasi_host.specs.Counts.{Counts}
use Rattle.sasi_host.specs.View.{Failing, SourceView, View, counted, counted_by}
use Rattle.sasi_host.specs.Calls.{view_after}

-- what contracts see of a source in memory
pub record MemorySource : Type 0 where
  -- the bytes that are left
  pub left : List ℕ
  -- the most bytes that a read gives
  pub piece : ℕ
  -- the reads that fail, counted from 1
  pub failing : List ℕ
  -- how many reads were made, how many of them failed, and whether the last one did
  pub reads : ℕ
  pub faults : ℕ
  pub failed_last : Bool

-- what it tells
abbrev pub source_view : MemorySource → SourceView
source_view s = record {
  left = Some s.left;
  reads = s.reads;
  faults = s.faults;
  failed_last = s.failed_last;
  failing = Some s.failing;
}

-- how many bytes a read gives into so much room
abbrev pub count_given : MemorySource → ℕ → ℕ
count_given s room = min (min (length s.left) s.piece) room

-- a read that failed leaves all but its counts
abbrev pub failed_read : MemorySource → MemorySource
failed_read s = record s { reads = counted s.reads; faults = counted s.faults; failed_last = true }

-- ---- the host

-- what contracts see of a host in memory
pub record MemoryHost : Type 0 where
  -- the folder that it began with, and the calls that were done since
  pub start : Folder
  pub calls : List Call
  -- the file calls and the emits that fail, each counted from 1, and the call from which on each later one fails
  pub failing_disk : List ℕ
  pub failing_emits : List ℕ
  pub stop : ℕ
  -- how many file calls and emits were made, and whether the last of them failed
  pub disk_calls : ℕ
  pub emits : ℕ
  pub failed_last : Bool
  -- how many of them failed, and how many read a file
  pub disk_faults : ℕ
  pub out_faults : ℕ
  pub reads : ℕ
  -- how often its memory couldn't grow
  pub refused : ℕ

-- what is seen of a host
abbrev pub memory_host : MemHost → MemoryHost
memory_host h = record {
  start = h.disk.start;
  calls = h.disk.calls.items;
  failing_disk = h.failing_disk.items;
  failing_emits = h.failing_emits.items;
  stop = h.stop;
  disk_calls = h.disk_calls;
  emits = h.emits;
  failed_last = h.failed_last;
  disk_faults = h.disk_faults;
  out_faults = h.out_faults;
  reads = h.reads;
  refused = h.refused;
}

-- its calls that are to fail
abbrev pub failing_of : MemoryHost → Failing
failing_of h = record { calls = h.failing_disk; emits = h.failing_emits; stop = h.stop }

-- its counts
abbrev pub counts_of : MemoryHost → Counts
counts_of h = record {
  disk_faults = h.disk_faults;
  out_faults = h.out_faults;
  reads = h.reads;
  calls = h.disk_calls;
  emits = h.emits;
  failed_last = h.failed_last;
  refused = h.refused;
  failing = Some (failing_of h);
}

-- what it tells
abbrev pub host_view : MemoryHost → View
host_view h = view_after h.start h.calls (counts_of h)

-- a host with this folder and nothing pending, which doesn't fail
abbrev pub host_with : Folder → MemoryHost
host_with start = record {
  start = start;
  calls = [];
  failing_disk = [];
  failing_emits = [];
  stop = 2 ^ 64 - 1;
  disk_calls = 0;
  emits = 0;
  failed_last = false;
  disk_faults = 0;
  out_faults = 0;
  reads = 0;
  refused = 0;
}

-- one more call was done
abbrev pub done : Call → MemoryHost → MemoryHost
done call h = record h { calls = h.calls ++ call ∷ [] }

-- ---- file calls

-- a file call was made
abbrev pub begun_disk : MemoryHost → MemoryHost
begun_disk h = record h { disk_calls = counted h.disk_calls; failed_last = false }

-- a read was made
abbrev pub begun_read : MemoryHost → MemoryHost
begun_read h = record (begun_disk h) { reads = counted h.reads }

-- the next file call is listed, or comes after the stop
abbrev pub IsDiskToFail : MemoryHost → Type 0
IsDiskToFail h = Contains h.failing_disk (counted h.disk_calls) ⊎ (h.stop < counted_by (counted h.disk_calls) h.emits)

-- a file call that was made fails, and leaves all but the counts
abbrev pub disk_failed : MemoryHost → MemoryHost
disk_failed h = record h { disk_faults = counted h.disk_faults; failed_last = true }

-- the same where a growth was refused
abbrev pub disk_refused : MemoryHost → MemoryHost
disk_refused h = record (disk_failed h) { refused = counted h.refused }

-- ---- emits

-- an emit was made
abbrev pub begun_emit : MemoryHost → MemoryHost
begun_emit h = record h { emits = counted h.emits; failed_last = false }

-- the next emit is listed, or comes after the stop
abbrev pub IsEmitToFail : MemoryHost → Type 0
IsEmitToFail h = Contains h.failing_emits (counted h.emits) ⊎ (h.stop < counted_by h.disk_calls (counted h.emits))

-- an emit that was made fails, and leaves all but the counts
abbrev pub emit_failed : MemoryHost → MemoryHost
emit_failed h = record h { out_faults = counted h.out_faults; failed_last = true }

-- the same where a growth was refused
abbrev pub emit_refused : MemoryHost → MemoryHost
emit_refused h = record (emit_failed h) { refused = counted h.refused }
