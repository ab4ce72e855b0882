use Rattle.std.proofs.Common.{◌≡◌, ◌∙◌, List, ap, drop, subst, sym}
use Rattle.sasi_ranges.specs.declared.entry.Entry.{Entry}
use Rattle.sasi_ranges.specs.Entries.{Rises, from_token}
use Rattle.sasi_ranges.proofs.Agreeing.{rises_from}
use Rattle.sasi_ranges.proofs.Calling.{streams_nothing}
use Rattle.sasi_ranges.proofs.list_stream.ListStreamTokenStream.skip_to.Goals as goal

pub returns-clause-skips : goal.returns-clause-skips
returns-clause-skips g c es is =
    let inside = c.self.inside in
    let token = c.args.token in
    let same = c.deref.ensures.value in
    let left : drop c.behind-self-inside.result inside.entries.items ≡ from_token token c.args.self.now =
    ap (λ (k : List Entry). drop c.behind-self-inside.result k) (sym same) ∙ c.behind-self-inside.ensures
    ∙ ap (λ (k : List Entry). from_token token (drop inside.next k)) same ∙ ap (from_token token) c.self.view_is in
    (ap (from_token token) is.0 ∙ sym left, subst Rises (sym left) (rises_from token c.args.self.now is.1))

pub returns-clause-read : goal.returns-clause-read
returns-clause-read g c = streams_nothing _ _ _ (g.H.Host.view c.args.host.now) c.requires.read.agrees
