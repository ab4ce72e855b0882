use Rattle.std.proofs.Common.{◌∙◌, ap}
use Rattle.sasi_cql.specs.SplitterState.{SplitterState}
use Rattle.sasi_cql.proofs.Scan.{push_law}
use Rattle.sasi_cql.proofs.splitter.Splitter.take_body.Goals as goal

pub returns : goal.returns
returns c = λ left.
    let s = c.self.inside in
    rw (← c.self.view_is, c.end_of.ensures, c.in_ok-keep.ensures.ok, c.next_size-self-inside.ensures, c.next_stage-self-inside.ensures, c.next_mode-self-inside.ensures)
    (push_law s.text.items s.size s.stage s.mode c.args.byte left (ap (λ (x : SplitterState). x.stage) c.self.view_is ∙ c.requires.stage))
