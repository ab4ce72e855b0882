use Rattle.std.proofs.Common.{◌∙◌, ap}
use Rattle.sasi_cql.specs.SplitterState.{SplitterState, leads}
use Rattle.sasi_cql.proofs.Scan.{lead_law}
use Rattle.sasi_cql.proofs.splitter.Splitter.take_lead.Goals as goal

pub returns : goal.returns
returns c = λ left.
    let s = c.self.inside in
    rw (← c.self.view_is, c.next_front_size-size.ensures, c.next_mode-mode.ensures)
    (lead_law s.text.items c.set_tentative.new.text.items s.size s.stage s.mode c.args.byte left c.self.invariant
    (ap (λ (x : SplitterState). x.stage) c.self.view_is ∙ c.requires.stage)
    (ap (λ (x : SplitterState). leads x.mode c.args.byte) c.self.view_is ∙ c.requires.leads))
