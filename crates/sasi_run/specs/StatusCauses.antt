-- What failed in a part of a run that may end it with a status.
use Rattle.std.specs.Prelude.{◌≡◌, IfErr, OnOk}
use Rattle.std.specs.declared.result.Result.{Result}
use Rattle.sasi_host.specs.View.{FailsOnlyAsTold, ReadsOnlyFailAsTold, SourceView, View}
use Rattle.sasi_run.specs.Headline.{status_of_stop}
use Rattle.sasi_run.specs.Session.{NoneFailed, StopFaults}
use Rattle.sasi_run.specs.declared.session.Stop.{Stop}
use Rattle.sasi_run.specs.declared.status.Status.{Status}

-- the session stopped, and the run with this status
pub record FailedWith (status : Status) (old new : View) : Type 0 where
  pub stop : Stop
  pub gives : status ≡ status_of_stop stop
  pub faults : StopFaults stop old new

-- no call of the host failed where the run goes on, and where it ends none but the one that its status tells
pub record HostCauses {T : Type 0} (old new : View) (result : Result T Status) : Type 0 where
  pub ok : OnOk result (NoneFailed old new)
  pub ended : IfErr result (λ status. FailedWith status old new)

-- no call failed, of the source and of the host
pub record NothingFailed (script_old script_new : SourceView) (host_old host_new : View) : Type 0 where
  pub reads : script_new.faults ≡ script_old.faults
  pub none : NoneFailed host_old host_new
  pub script_told : ReadsOnlyFailAsTold script_old script_new
  pub host_told : FailsOnlyAsTold host_old host_new
