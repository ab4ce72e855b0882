use Rattle.std.proofs.Common.{drop, ap, ◌∙◌}
use Rattle.sasi_host.specs.Buffered.{Buffered}
use Rattle.sasi_host.proofs.Pages.{rest_of_page}
use Rattle.sasi_host.proofs.buffered.BufferedFile.bytes_from.Goals as goal

pub returns : goal.returns
returns c =
    rest_of_page c.self.inside.bytes c.args.offset c.self.inside.filled c.min-from.result c.min-from.ensures
    ∙ ap (λ (h : Buffered). drop c.args.offset h.bytes) c.self.view_is
