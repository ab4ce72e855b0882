-- A host whose files contracts don't see, as that of real files.
use Rattle.std.specs.Prelude.{ℕ, List, Option, None}
use Rattle.sasi_host.specs.Counts.{Counts}
use Rattle.sasi_host.specs.View.{View, IsSound}

-- it tells what was emitted, where it can, and the counts: no image, and nothing that a crash may have left
abbrev pub opaque_view : Option (List ℕ) → Counts → View
opaque_view emitted counts = record {
  files = None;
  emitted = emitted;
  image = λ folder. ⊥;
  moment = 0;
  left = λ t folder out. ⊥;
  disk_faults = counts.disk_faults;
  out_faults = counts.out_faults;
  reads = counts.reads;
  calls = counts.calls;
  emits = counts.emits;
  failed_last = counts.failed_last;
  refused = counts.refused;
  failing = None;
}

-- which meets the laws
pub opaque_sound : (emitted : Option (List ℕ)) (counts : Counts) → IsSound (opaque_view emitted counts)
opaque_sound emitted counts = record {
  told = λ folder none. absurd none;
  reads = λ folder is. cc;
  counts_now = λ t folder out le now. now.0;
  only_now = λ folder out none. absurd none;
  fits = λ name bytes is. cc;
}
