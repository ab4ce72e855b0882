-- What a host of real files counts, and tells of that.
use Rattle.std.specs.Prelude.{ℕ, Bool, true, false, None}
use Rattle.sasi_host.specs.Counts.{Counts}
use Rattle.sasi_host.specs.Opaque.{opaque_view}
use Rattle.sasi_host.specs.View.{View, counted}
use Rattle.sasi_filehost.specs.declared.tally.Tally.{Tally}

-- before the first call
abbrev pub no_calls : Tally
no_calls = record { disk_faults = 0; out_faults = 0; reads = 0; calls = 0; emits = 0; failed_last = false }

-- one more, where a call failed
abbrev pub counted_if : Bool → ℕ → ℕ
counted_if true n = counted n
counted_if false n = n

-- a file call was made
abbrev pub after_call : Bool → Tally → Tally
after_call failed t = record t { calls = counted t.calls; failed_last = failed; disk_faults = counted_if failed t.disk_faults }

-- an emit was made
abbrev pub after_emit : Bool → Tally → Tally
after_emit failed t = record t { emits = counted t.emits; failed_last = failed; out_faults = counted_if failed t.out_faults }

-- what it tells: each of its calls may fail, and none for lack of memory
abbrev pub counts_of : Tally → Counts
counts_of t = record {
  disk_faults = t.disk_faults;
  out_faults = t.out_faults;
  reads = t.reads;
  calls = t.calls;
  emits = t.emits;
  failed_last = t.failed_last;
  refused = 0;
  failing = None;
}

-- and nothing of what it holds
abbrev pub view_of : Tally → View
view_of t = opaque_view None (counts_of t)
