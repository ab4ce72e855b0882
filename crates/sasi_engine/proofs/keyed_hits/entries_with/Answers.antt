use Rattle.std.proofs.Common.{◌≡◌, ◌∙◌, true, false, sym, ap}
use Rattle.sasi_ranges.specs.Entries.{from_token}
use Rattle.sasi_ranges.proofs.Calling.{streamed_then}
use Rattle.sasi_engine.specs.inside.KeyedSteps.{begin_with}
use Rattle.sasi_engine.proofs.KeyedEntries.{no_run, run_read}
use Rattle.sasi_engine.proofs.keyed_hits.entries_with.Goals as goal

pub returns-in_err-entries-clause-read : goal.returns-in_err-entries-clause-read
returns-in_err-entries-clause-read g c =
    streamed_then _ _ _ _ _ _ _ _ (g.H.Host.view c.args.host.now) (g.H.Host.view c.skip_to.new.host) (g.H.Host.view c.next_token.new.host) c.skip_to.ensures.read c.next_token.ensures.read

pub returns-then-begin_with-clause-takes : goal.returns-then-begin_with-clause-takes
returns-then-begin_with-clause-takes g c es given =
    let S = g.S.TokenStream in
    let u = g.H.Host.view c.args.host.now in
    let w = g.H.Host.view c.next_token.new.host in
    let begins : begin_with c.args.token c.in_ok-entries.entries.items ≡ true = sym (c.begin_with.ensures ∙ ap (begin_with c.args.token) c.deref.ensures.value) ∙ c.if-begin_with.true in
    run_read (S.leaves c.next_token.new.hits w.files) c.next_token.new.ahead c.args.token es (g.met.S.TokenStream.rises c.args.hits.now u.files es given) c.in_ok-entries.entries.items
    (c.in_ok-entries.ensures.takes (from_token c.args.token es) (c.in_ok-skip_to.ensures.skips es given)) begins

pub returns-then-begin_with-clause-read : goal.returns-then-begin_with-clause-read
returns-then-begin_with-clause-read g c =
    streamed_then _ _ _ _ _ _ _ _ (g.H.Host.view c.args.host.now) (g.H.Host.view c.skip_to.new.host) (g.H.Host.view c.next_token.new.host) c.skip_to.ensures.read c.next_token.ensures.read

pub returns-clause-takes : goal.returns-clause-takes
returns-clause-takes g c es given =
    let S = g.S.TokenStream in
    let u = g.H.Host.view c.args.host.now in
    let w = g.H.Host.view c.next_token.new.host in
    let begins : begin_with c.args.token c.in_ok-entries.entries.items ≡ false = sym (c.begin_with.ensures ∙ ap (begin_with c.args.token) c.deref.ensures.value) ∙ c.if-begin_with.false in
    c.new.ensures.items
    ∙ no_run (S.leaves c.next_token.new.hits w.files) c.next_token.new.ahead c.args.token es (g.met.S.TokenStream.rises c.args.hits.now u.files es given) c.in_ok-entries.entries.items
    (c.in_ok-entries.ensures.takes (from_token c.args.token es) (c.in_ok-skip_to.ensures.skips es given)) begins

pub returns-clause-read : goal.returns-clause-read
returns-clause-read g c =
    streamed_then _ _ _ _ _ _ _ _ (g.H.Host.view c.args.host.now) (g.H.Host.view c.skip_to.new.host) (g.H.Host.view c.next_token.new.host) c.skip_to.ensures.read c.next_token.ensures.read
