use Rattle.std.proofs.Common.{◌≡◌, ◌∙◌, ap, rules}
use Rattle.std.specs.FinMap.{empty, get-empty}
use Rattle.sasi_host.specs.Names.{name_cmp}
use Rattle.sasi_host.specs.View.{contents}
use Rattle.sasi_host.specs.Memory.{MemoryHost, memory_host, host_with, host_view}
use Rattle.sasi_host.proofs.mem_host.MemHost.new.Goals as goal

pub returns-clause-no_file : goal.returns-clause-no_file
returns-clause-no_file c name =
    let is : memory_host c.on.result ≡ host_with empty = search rules in
    ap (λ (h : MemoryHost). contents (host_view h) name) is ∙ get-empty name_cmp name
