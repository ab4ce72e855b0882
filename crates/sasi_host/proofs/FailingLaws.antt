-- Laws of which calls fail, over calls one after another.
use Rattle.std.specs.Prelude.{◌≡◌, ℕ, Bool, List, Option, refl}
use Rattle.std.proofs.Common.{inl, inr, ⊎_elim, ◌∙◌, subst, arith}
use Rattle.sasi_host.specs.View.{FailedAtLast, Failing, FailsOnlyAsTold, ReadsOnlyFailAsTold, CallFailed, EmitFailed, ReadFailed, CallIsToFail, EmitIsToFail, ReadIsToFail, Rose, SourceView, View}

-- ---- a host

-- no call was made
pub told_none : (v : View) → FailsOnlyAsTold v v
told_none v = record {
  failing = refl;
  calls = omega arith;
  emits = omega arith;
  refused = omega arith;
  disk = inl refl;
  out = inl refl;
}

module _ (a b c : View) (first : FailsOnlyAsTold a b) (second : FailsOnlyAsTold b c) where
  call_before : CallFailed a b → CallFailed a c
  call_before f = record {
    calls = f.calls;
    emits = f.emits;
    after = f.after;
    by = (omega (arith, f.by.0, second.calls), omega (arith, f.by.1, second.emits));
    to_fail = f.to_fail;
  }

  call_behind : CallFailed b c → CallFailed a c
  call_behind f = record {
    calls = f.calls;
    emits = f.emits;
    after = (omega (arith, first.calls, f.after.0), omega (arith, first.emits, f.after.1));
    by = f.by;
    to_fail = subst (λ (o : Option Failing). CallIsToFail o f.calls f.emits) first.failing f.to_fail;
  }

  emit_before : EmitFailed a b → EmitFailed a c
  emit_before f = record {
    calls = f.calls;
    emits = f.emits;
    after = f.after;
    by = (omega (arith, f.by.0, second.calls), omega (arith, f.by.1, second.emits));
    to_fail = f.to_fail;
  }

  emit_behind : EmitFailed b c → EmitFailed a c
  emit_behind f = record {
    calls = f.calls;
    emits = f.emits;
    after = (omega (arith, first.calls, f.after.0), omega (arith, first.emits, f.after.1));
    by = f.by;
    to_fail = subst (λ (o : Option Failing). EmitIsToFail o f.calls f.emits) first.failing f.to_fail;
  }

  rose_before : Rose a.refused b.refused → Rose a.refused c.refused
  rose_before rose = omega (arith, rose, second.refused)

  rose_behind : Rose b.refused c.refused → Rose a.refused c.refused
  rose_behind rose = omega (arith, rose, first.refused)

  -- some calls, and then others
  pub told_on : FailsOnlyAsTold a c
  told_on = record {
    failing = second.failing ∙ first.failing;
    calls = omega (arith, first.calls, second.calls);
    emits = omega (arith, first.emits, second.emits);
    refused = omega (arith, first.refused, second.refused);
    disk = ⊎_elim
        (λ same. ⊎_elim (λ again. inl (again ∙ same)) (λ why. inr (⊎_elim (λ rose. inl (rose_behind rose)) (λ call. inr (call_behind call)) why)) second.disk)
        (λ why. inr (⊎_elim (λ rose. inl (rose_before rose)) (λ call. inr (call_before call)) why))
        first.disk;
    out = ⊎_elim
        (λ same. ⊎_elim (λ again. inl (again ∙ same)) (λ why. inr (⊎_elim (λ rose. inl (rose_behind rose)) (λ emit. inr (emit_behind emit)) why)) second.out)
        (λ why. inr (⊎_elim (λ rose. inl (rose_before rose)) (λ emit. inr (emit_before emit)) why))
        first.out;
  }

-- ---- a source

-- nothing was read
pub read_told_none : (v : SourceView) → ReadsOnlyFailAsTold v v
read_told_none v = record { failing = refl; reads = omega arith; faults = inl refl }

-- some reads, and then others
pub read_told_on : (a b c : SourceView) → ReadsOnlyFailAsTold a b → ReadsOnlyFailAsTold b c → ReadsOnlyFailAsTold a c
read_told_on a b c first second = record {
  failing = second.failing ∙ first.failing;
  reads = omega (arith, first.reads, second.reads);
  faults = ⊎_elim (λ same. ⊎_elim (λ again. inl (again ∙ same)) (λ f. inr (behind f)) second.faults) (λ f. inr (before f)) first.faults;
}
  where
    before : ReadFailed a b → ReadFailed a c
    before f = record { read = f.read; after = f.after; by = omega (arith, f.by, second.reads); to_fail = f.to_fail }

    behind : ReadFailed b c → ReadFailed a c
    behind f = record {
      read = f.read;
      after = omega (arith, first.reads, f.after);
      by = f.by;
      to_fail = subst (λ (o : Option (List ℕ)). ReadIsToFail o f.read) first.failing f.to_fail;
    }

-- ---- causes

-- a call that failed behind others that didn't
pub failed_behind : (a b c : ℕ) (last : Bool) → b ≡ a → FailedAtLast b c last → FailedAtLast a c last
failed_behind a b c last same failed = subst (λ (n : ℕ). FailedAtLast n c last) same failed
