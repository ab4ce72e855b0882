-- The keys that a scan under a partitioner gives rise.
use Rattle.std.proofs.Common.{◌≤◌, ℕ, Option, None, Some, IfSome, subst}
use Rattle.sasi_types.specs.declared.partitioner.Partitioner.{Partitioner}
use Rattle.sasi_types.specs.Token.{token_of}
use Rattle.sasi_host.specs.Names.{Bytes}
use Rattle.sasi_dataread.proofs.Pairs.{less_token}
use Rattle.sasi_merge.specs.Merging.{with_token}
use Rattle.sasi_model.specs.Cells.{Partition}
use Rattle.sasi_scan.specs.KeyOrder.{AreAbove, GivesAbove, IsUnder}
use Rattle.sasi_scan.specs.Scanning.{ScanView}
use Rattle.sasi_compact.specs.Tasks.{IsAheadOf}

module _ (p : Partitioner) (old new : ScanView) (under : IsUnder p old) where
  -- what is left comes behind the key that is given
  pub ahead_of : (found : Option (Bytes × Partition)) → IfSome found (GivesAbove old new) → IfSome found (λ one. IsAheadOf p new one.0)
  ahead_of None gives = tt
  ahead_of (Some one) gives = subst (λ (t : ℕ). AreAbove (with_token t one.0) new.heads) (gives.token_is p under) gives.behind

  -- whose token isn't below that of a key behind which all came
  pub not_below : (last : Bytes) (found : Option (Bytes × Partition)) → IsAheadOf p old last → IfSome found (GivesAbove old new) → IfSome found (λ one. token_of p last ≤ token_of p one.0)
  not_below last None ahead gives = tt
  not_below last (Some one) ahead gives =
      subst (λ (t : ℕ). token_of p last ≤ t) (gives.token_is p under)
      (less_token (with_token (token_of p last) last) (with_token gives.token one.0) (gives.above (with_token (token_of p last) last) ahead))
