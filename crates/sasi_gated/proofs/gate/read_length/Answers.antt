use Rattle.std.proofs.Common.{◌+◌, ◌++◌, ◌∙◌, ⊎_elim, inr, sym, ap, drop, arith}
use Rattle.sasi_host.specs.Names.{Bytes}
use Rattle.sasi_gated.proofs.Costs.{into_once}
use Rattle.sasi_gated.proofs.Windows.{read_at}
use Rattle.sasi_gated.proofs.gate.read_length.Goals as goal

pub returns-clause-ok : goal.returns-clause-ok
returns-clause-ok g c bytes is =
    read_at bytes c.read_into.new.out c.args.at 4 (c.in_ok-read_into.ensures.ok bytes is)
    ∙ ap (λ (l : Bytes). l ++ drop (c.args.at + 4) bytes) (sym c.number-length.ensures)

pub returns-then-length-eq0-clause-damaged : goal.returns-then-length-eq0-clause-damaged
returns-then-length-eq0-clause-damaged g c bytes is = inr (record {
  count = c.number-length.result;
  count_fits = omega arith;
  no_length = λ fits. ⊎_elim (λ none. omega (arith, none, fits.some)) (λ long. omega (arith, long.1, fits.short)) c.then-length-eq0.either;
  stands =
      read_at bytes c.read_into.new.out c.args.at 4 (c.in_ok-read_into.ensures.ok bytes is)
      ∙ ap (λ (l : Bytes). l ++ drop (c.args.at + 4) bytes) (sym c.number-length.ensures);
  named = c.found-damage.ensures.file ∙ c.file.ensures ∙ c.read_into.ensures.file;
  offset_is = c.found-damage.ensures.at;
  rule_is = c.found-damage.ensures.rule;
  seen = c.found-damage.ensures.seen ∙ sym c.number-length.ensures;
})

pub returns-clause-once : goal.returns-clause-once
returns-clause-once g c begins =
    into_once (g.H.Host.view c.args.host.now) (g.H.Host.view c.read_into.new.host) c.args.buffered.now.file c.args.buffered.now.page
    c.read_into.new.self.page c.args.at 4 (omega arith) (c.in_ok-read_into.ensures.page (omega arith))
    (λ bytes is. c.in_ok-read_into.ensures.within bytes is (omega arith)) begins c.read_into.ensures.causes.reads
