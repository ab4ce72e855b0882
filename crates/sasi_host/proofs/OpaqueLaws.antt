-- What calls change of a host whose files contracts don't see.
use Rattle.std.specs.Prelude.{◌≡◌, ◌≤◌, ◌-◌, ◌^◌, ◌++◌, ℕ, List, [], Option, None, refl}
use Rattle.std.specs.Io.KnownBytes.{Appends}
use Rattle.std.proofs.Common.{arith, inl, inr}
use Rattle.sasi_host.specs.Counts.{Counts}
use Rattle.sasi_host.specs.Disk.{Changes, Relation}
use Rattle.sasi_host.specs.View.{Emits, FailsOnlyAsTold, counted}
use Rattle.sasi_host.specs.Opaque.{opaque_view}

-- Each call of it may fail. A file call changes nothing that it tells but the counts.
pub opaque_changes : (S : Relation) (emitted : Option (List ℕ)) (m n : Counts) → m.calls ≤ 2 ^ 64 - 1 → n.calls ≡ counted m.calls → n.emits ≡ m.emits
    → n.refused ≡ m.refused → n.out_faults ≡ m.out_faults → Changes S (opaque_view emitted m) (opaque_view emitted n)
opaque_changes S emitted m n few calls emits refused out = record {
  seen = λ f is. absurd (cc);
  untold = λ is. refl;
  image = λ folder none. absurd none;
  during = record { later = omega arith; left = λ t folder e le none. absurd none };
  emitted = refl;
  emits = emits;
  told = record {
    failing = refl;
    calls = omega (arith, calls, few);
    emits = omega (arith, emits);
    refused = omega (arith, refused);
    disk = inr (inr (record { calls = n.calls; emits = n.emits; after = (omega (arith, calls), omega (arith, emits)); by = (omega arith, omega arith); to_fail = tt }));
    out = inl out;
  };
}

-- an emit makes no file call
pub opaque_emit : (old new : Option (List ℕ)) (m n : Counts) → m.emits ≤ 2 ^ 64 - 1 → n.calls ≡ m.calls → n.emits ≡ counted m.emits → n.refused ≡ m.refused
    → n.disk_faults ≡ m.disk_faults → FailsOnlyAsTold (opaque_view old m) (opaque_view new n)
opaque_emit old new m n few calls emits refused disk = record {
  failing = refl;
  calls = omega (arith, calls);
  emits = omega (arith, emits, few);
  refused = omega (arith, refused);
  disk = inl disk;
  out = inr (inr (record { calls = n.calls; emits = n.emits; after = (omega (arith, calls), omega (arith, emits)); by = (omega arith, omega arith); to_fail = tt }));
}

-- a first part of the bytes was appended to what it tells
pub opaque_emits : (old new : Option (List ℕ)) (m n : Counts) (bytes front back : List ℕ) → bytes ≡ front ++ back
    → Appends old new front → FailsOnlyAsTold (opaque_view old m) (opaque_view new n) → Emits bytes (opaque_view old m) (opaque_view new n)
opaque_emits old new m n bytes front back parts appended told = record {
  front = front;
  back = back;
  parts = parts;
  out = appended;
  files = refl;
  image = λ folder none. absurd none;
  during = record { later = omega arith; left = λ t folder e le none. absurd none };
  told = told;
}

-- so that any part counts where nothing is told
pub opaque_emits_untold : (m n : Counts) (bytes : List ℕ) → m.emits ≤ 2 ^ 64 - 1 → n.calls ≡ m.calls → n.emits ≡ counted m.emits → n.refused ≡ m.refused
    → n.disk_faults ≡ m.disk_faults → Emits bytes (opaque_view None m) (opaque_view None n)
opaque_emits_untold m n bytes few calls emits refused disk =
    opaque_emits None None m n bytes [] bytes refl tt (opaque_emit None None m n few calls emits refused disk)
