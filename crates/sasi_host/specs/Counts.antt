-- What a host counts, apart from what its folder reads.
use Rattle.std.specs.Prelude.{ℕ, Bool, Option}
use Rattle.sasi_host.specs.View.{Failing}

-- the counts of the same names that it tells, and which calls are to fail
pub record Counts : Type 0 where
  pub disk_faults : ℕ
  pub out_faults : ℕ
  pub reads : ℕ
  pub calls : ℕ
  pub emits : ℕ
  pub failed_last : Bool
  pub refused : ℕ
  pub failing : Option Failing
