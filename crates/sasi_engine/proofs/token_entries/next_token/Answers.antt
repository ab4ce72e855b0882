use Rattle.std.proofs.Common.{◌∙◌, List, [], ◌∷◌, ◌++◌, Option, ap, subst}
use Rattle.sasi_ranges.specs.declared.entry.Entry.{Entry}
use Rattle.sasi_ranges.proofs.Calling.{streamed_then}
use Rattle.sasi_engine.specs.TokenTurns.{GivesAfter, TakesNext}
use Rattle.sasi_engine.proofs.TokenTaking.{next_some}
use Rattle.sasi_engine.proofs.token_entries.next_token.Goals as goal

pub returns-in_err-ahead-clause-read : goal.returns-in_err-ahead-clause-read
returns-in_err-ahead-clause-read g c =
    streamed_then _ _ _ _ _ _ _ _ (g.H.Host.view c.args.host.now) (g.H.Host.view c.first_left.new.host) (g.H.Host.view c.take_token.new.host) c.first_left.ensures.read c.take_token.ensures.read

pub returns-clause-takes : goal.returns-clause-takes
returns-clause-takes g c es is =
    let S = g.S.TokenStream in
    let v = g.H.Host.view c.first_left.new.host in
    let w = g.H.Host.view c.take_token.new.host in
    let given = subst (λ (o : Option Entry). GivesAfter (S.leaves c.first_left.new.hits v.files) c.take-before.result es o) c.in-Some.is (c.in_ok-first.ensures.gives es is) in
    subst (λ (before : Option Entry). TakesNext (S.leaves c.take_token.new.hits w.files) before c.in_ok-ahead.field-0 es c.take_token.new.entries.items) c.take-before.ensures.value
    (next_some (S.leaves c.first_left.new.hits v.files) (S.leaves c.take_token.new.hits w.files) c.take-before.result c.in_ok-ahead.field-0 es c.add_entry.new.entries.items c.take_token.new.entries.items c.in-Some.first given
    (c.in_ok-add_entry.ensures ∙ ap (λ (l : List Entry). l ++ c.in-Some.first ∷ []) c.new-entries.ensures.items) (c.in_ok-ahead.ensures.takes given.0 given.2))

pub returns-clause-read : goal.returns-clause-read
returns-clause-read g c =
    streamed_then _ _ _ _ _ _ _ _ (g.H.Host.view c.args.host.now) (g.H.Host.view c.first_left.new.host) (g.H.Host.view c.take_token.new.host) c.first_left.ensures.read c.take_token.ensures.read
