use Rattle.sasi_host.specs.Names.{data_name}
use Rattle.sasi_host.specs.View.{IsThere}
use Rattle.sasi_fetch_tests.proofs.fetches.check_fetches.Given as goal
use Rattle.sasi_fetch_tests.specs.Fetching.{IsOwnCursor}

abbrev pub invariant-loop-fetch : goal.invariant-loop-fetch
invariant-loop-fetch g l = record {
  cursor : IsOwnCursor (g.H.Host.view l.host).files l.maps l.cursor;
  there : IsThere (g.H.Host.view l.host) (data_name 7);
}
