use Rattle.sasi_run.proofs.reading.feed_bytes.Goals as goal

pub returns-in-Err-clause-err : goal.returns-in-Err-clause-err
returns-in-Err-clause-err g c = record { stop = c.in-Err.stop; gives = c.stop_status.ensures; stops = c.in-Err.ensures.err }

pub returns-in-Err-clause-causes : goal.returns-in-Err-clause-causes
returns-in-Err-clause-causes g c = record {
  ok = tt;
  ended = record { stop = c.in-Err.stop; gives = c.stop_status.ensures; faults = c.in-Err.ensures.causes.stopped };
}

pub returns-in-Ok-clause-causes : goal.returns-in-Ok-clause-causes
returns-in-Ok-clause-causes g c = record { ok = c.in-Ok.ensures.causes.ok; ended = tt }

-- Nothing is owed here. With an answer, an edit that ends the run at this exit is refused without a search.
pub returns-in-Ok-clause-err : goal.returns-in-Ok-clause-err
returns-in-Ok-clause-err g c = tt
