use Rattle.std.proofs.Common.{ap, ◌∙◌}
use Rattle.sasi_host.specs.Memory.{host_view, memory_host}
use Rattle.sasi_indexread.specs.Opened.{OpenIndexFile}
use Rattle.sasi_indexread.proofs.Callers.{fresh_can}
use Rattle.sasi_searches.proofs.found.search.Goals as goal

pub returns : goal.returns
returns c = record {
  named = ap (λ (o : OpenIndexFile). o.file) c.in_ok-search.ensures.asked.0 ∙ c.in_ok-index.ensures.file;
  can = fresh_can (host_view (memory_host c.open.new.host)) c.in_ok-search.search c.in_ok-search.ensures.fresh;
}
