use Rattle.std.proofs.Common.{◌≡◌, sym, ◌∙◌, ap, false, rules}
use Rattle.sasi_cql.specs.SplitterState.{SplitterState, leads}
use Rattle.sasi_cql.specs.declared.stage.PieceStage.TheVariants.{Front}
use Rattle.sasi_cql.proofs.Scan.{begin_law}
use Rattle.sasi_cql.proofs.splitter.Splitter.begin.Goals as goal

pub returns-then-eq-clause-same : goal.returns-then-eq-clause-same
returns-then-eq-clause-same c = λ left.
    let s = c.self.inside in
    let is : s.stage ≡ Front = search rules in
    let begins : leads s.mode c.args.byte ≡ false = ap (λ (x : SplitterState). leads x.mode c.args.byte) c.self.view_is ∙ c.requires.begins (sym (ap (λ (x : SplitterState). x.stage) c.self.view_is) ∙ is) in
    rw (← c.self.view_is) (begin_law s.text.items s.size s.stage s.mode c.args.byte left c.self.invariant is begins)
