use Rattle.std.proofs.Common.{◌≡◌, ◌⊎◌, ℕ, true, false, nat_lt, ◌<◌, List, map, Option, None, sym, subst, ◌∙◌, arith, ⊎_elim, Some}
use Rattle.std.proofs.lemmas.Bool.Decides.{nat_tests}
use Rattle.std.proofs.lemmas.Result.{err_from_is_err_and}
use Rattle.sasi_ranges.specs.declared.entry.Entry.{Entry}
use Rattle.sasi_ranges.specs.Entries.{from_token}
use Rattle.sasi_ranges.specs.inside.Heads.{greatest_low}
use Rattle.sasi_ranges.specs.inside.Meets.{Meets, had, met_by}
use Rattle.sasi_ranges.proofs.Calling.{can_still, fails_nothing, faults_handed, faults_ok, faults_then, streamed_then, streams_nothing}
use Rattle.sasi_ranges.proofs.Meeting.{meets_agreed, meets_none, meets_skip}
use Rattle.sasi_ranges.proofs.Agreeing.{all_from_first, all_rise_from, at_greatest, below_greatest, first_from_zero, first_weaker, met_monotone, none_greatest}
use Rattle.sasi_ranges.proofs.intersection.next_agreed.Goals as goal

none_is : {A : Type 0} (o : Option A) → o ≡ None → o ≡ None
none_is o is = is

below_none : (token t : ℕ) → t ≡ 0 → nat_lt token t ≡ true → ⊥
below_none token t zero below = let less : token < t = grind (arith, nat_tests) in omega (arith, less, zero)

low_zero : (relations : List (List ℕ)) (ls : List (List Entry)) (t : ℕ) → (t ≡ 0) ⊎ ((token : ℕ) → nat_lt token t ≡ true → met_by relations (had ls token) ≡ false) → (token : ℕ) → nat_lt token t ≡ true → met_by relations (had ls token) ≡ false
low_zero relations ls t cases = ⊎_elim (λ zero token below. absurd (below_none token t zero below)) (λ low. low) cases

pub tokens-init : goal.tokens-init
tokens-init g c = record {
  can = c.requires.read;
  still_ready = c.requires.ready;
  meets = λ es is. (is.0, is.1, is.2, is.4, first_from_zero is.0, is.5);
  pays = λ most all. (most, all, omega arith);
  read = streams_nothing _ _ _ (g.H.Host.view c.args.host.now) c.requires.read.agrees;
  faults = fails_nothing _ _ (g.H.Host.view c.args.host.now) 0;
  shows_less = λ files damage is. is;
}

pub returns-in_err-fill_all-clause-read : goal.returns-in_err-fill_all-clause-read
returns-in_err-fill_all-clause-read g c = streamed_then _ _ _ _ _ _ _ _ (g.H.Host.view c.args.host.now) (g.H.Host.view c.tokens.host) (g.H.Host.view c.fill_all.new.host) c.tokens.invariant.read c.fill_all.ensures.read

pub returns-in_err-fill_all-clause-faults : goal.returns-in_err-fill_all-clause-faults
returns-in_err-fill_all-clause-faults g c =
    let p = err_from_is_err_and c.from_residual.result c.from_residual.ensures.1 in
    rw (p.1, p.2) (faults_then _ _ _ _ _ (g.H.Host.view c.args.host.now) (g.H.Host.view c.tokens.host) (g.H.Host.view c.fill_all.new.host) 0 _ (λ es is. (let here = c.tokens.invariant.meets es is in (here.0, here.1))) c.tokens.invariant.faults
    (faults_handed _ _ _ _ (g.H.Host.view c.tokens.host) (g.H.Host.view c.fill_all.new.host) c.fill_all.result c.in_err-fill_all.field-0.0 c.in_err-fill_all.was (λ lists all. (lists, all)) c.fill_all.ensures.faults))

pub returns-in_default-clause-found : goal.returns-in_default-clause-found
returns-in_default-clause-found g c es is =
    let files = (g.H.Host.view c.fill_all.new.host).files in
    let relations = c.args.relations.now in
    let here = c.tokens.invariant.meets es is in
    let now = c.in_ok-fill_all.ensures.leaves here.0 here.1 in
    let end = sym (subst (λ (k : List (List ℕ)). c.greatest_low.result ≡ greatest_low c.fill_all.new.streams (Some 0) k) c.as_slice.ensures c.greatest_low.ensures) ∙ none_is c.greatest_low.result c.in_default.is in
    let none = meets_none (met_by relations) here.0 es (none_greatest g.S.TokenStream.leaves files c.fill_all.new.streams here.0 c.in_ok-fill_all.ensures.filled now 0 relations end) here.3 in
    (none, (here.0, now, here.2, tt, subst (λ (k : List Entry). Meets (met_by relations) None here.0 k) none here.3, here.5))

pub returns-in_default-clause-read : goal.returns-in_default-clause-read
returns-in_default-clause-read g c = streamed_then _ _ _ _ _ _ _ _ (g.H.Host.view c.args.host.now) (g.H.Host.view c.tokens.host) (g.H.Host.view c.fill_all.new.host) c.tokens.invariant.read c.fill_all.ensures.read

pub returns-in_default-clause-faults : goal.returns-in_default-clause-faults
returns-in_default-clause-faults g c = faults_ok _ _ _ _ (g.H.Host.view c.args.host.now) (g.H.Host.view c.fill_all.new.host) _ _ (faults_then _ _ _ _ _ (g.H.Host.view c.args.host.now) (g.H.Host.view c.tokens.host) (g.H.Host.view c.fill_all.new.host) 0 _ (λ es is. (let here = c.tokens.invariant.meets es is in (here.0, here.1))) c.tokens.invariant.faults c.in_ok-fill_all.ensures.faults)

pub returns-then-token-from-clause-found : goal.returns-then-token-from-clause-found
returns-then-token-from-clause-found g c es is =
    let files = (g.H.Host.view c.fill_all.new.host).files in
    let relations = c.args.relations.now in
    let token = c.in-Some.token in
    let here = c.tokens.invariant.meets es is in
    let now = c.in_ok-fill_all.ensures.leaves here.0 here.1 in
    let found = sym (subst (λ (k : List (List ℕ)). Some token ≡ greatest_low c.fill_all.new.streams (Some 0) k) c.as_slice.ensures c.in-Some.ensures) in
    let at = at_greatest g.S.TokenStream.leaves files c.fill_all.new.streams here.0 c.in_ok-fill_all.ensures.filled now c.tokens.from 0 token relations here.2 here.4 found c.if-token-from.true in
    (here.0, now, here.2, first_weaker c.tokens.from token here.0 c.if-token-from.true here.4, at.2 here.5, meets_agreed (met_by relations) token here.0 es at.1 here.3, c.in_ok-fill_all.ensures.filled, here.5)

pub returns-then-token-from-clause-read : goal.returns-then-token-from-clause-read
returns-then-token-from-clause-read g c = streamed_then _ _ _ _ _ _ _ _ (g.H.Host.view c.args.host.now) (g.H.Host.view c.tokens.host) (g.H.Host.view c.fill_all.new.host) c.tokens.invariant.read c.fill_all.ensures.read

pub returns-then-token-from-clause-faults : goal.returns-then-token-from-clause-faults
returns-then-token-from-clause-faults g c = faults_ok _ _ _ _ (g.H.Host.view c.args.host.now) (g.H.Host.view c.fill_all.new.host) _ _ (faults_then _ _ _ _ _ (g.H.Host.view c.args.host.now) (g.H.Host.view c.tokens.host) (g.H.Host.view c.fill_all.new.host) 0 _ (λ es is. (let here = c.tokens.invariant.meets es is in (here.0, here.1))) c.tokens.invariant.faults c.in_ok-fill_all.ensures.faults)

pub returns-in_err-skip_all-clause-read : goal.returns-in_err-skip_all-clause-read
returns-in_err-skip_all-clause-read g c = streamed_then _ _ _ _ _ _ _ _ (g.H.Host.view c.args.host.now) (g.H.Host.view c.fill_all.new.host) (g.H.Host.view c.skip_all.new.host) (streamed_then _ _ _ _ _ _ _ _ (g.H.Host.view c.args.host.now) (g.H.Host.view c.tokens.host) (g.H.Host.view c.fill_all.new.host) c.tokens.invariant.read c.fill_all.ensures.read) c.skip_all.ensures.read

pub returns-in_err-skip_all-clause-faults : goal.returns-in_err-skip_all-clause-faults
returns-in_err-skip_all-clause-faults g c =
    let p = err_from_is_err_and c.from_residual-in_err-skip_all.result c.from_residual-in_err-skip_all.ensures.1 in
    rw (p.1, p.2) (faults_then _ _ _ _ _ (g.H.Host.view c.args.host.now) (g.H.Host.view c.fill_all.new.host) (g.H.Host.view c.skip_all.new.host) _ _ (λ es is. (let here = c.tokens.invariant.meets es is in (here.0, c.in_ok-fill_all.ensures.leaves here.0 here.1))) (faults_then _ _ _ _ _ (g.H.Host.view c.args.host.now) (g.H.Host.view c.tokens.host) (g.H.Host.view c.fill_all.new.host) 0 _ (λ es is. (let here = c.tokens.invariant.meets es is in (here.0, here.1))) c.tokens.invariant.faults c.in_ok-fill_all.ensures.faults)
    (faults_handed _ _ _ _ (g.H.Host.view c.fill_all.new.host) (g.H.Host.view c.skip_all.new.host) c.skip_all.result c.in_err-skip_all.field-0.0 c.in_err-skip_all.was (λ lists all. (lists, all)) c.skip_all.ensures.faults))

pub tokens-preserved : goal.tokens-preserved
tokens-preserved g c =
    let leaves = g.S.TokenStream.leaves in
    let v = (g.H.Host.view c.fill_all.new.host) in
    let inv = c.tokens.invariant in
    let token = c.in-Some.token in
    record {
      can = can_still _ _ _ _ _ _ v (g.H.Host.view c.skip_all.new.host) (can_still _ _ _ _ _ _ (g.H.Host.view c.tokens.host) v inv.can c.fill_all.ensures.read) c.skip_all.ensures.read;
      still_ready = c.in_ok-skip_all.ensures.ready;
      meets = λ es is.
          let here = inv.meets es is in
          let now = c.in_ok-fill_all.ensures.leaves here.0 here.1 in
          let relations = c.args.relations.now in
          let found = sym (subst (λ (k : List (List ℕ)). Some token ≡ greatest_low c.fill_all.new.streams (Some 0) k) c.as_slice.ensures c.in-Some.ensures) in
          let below = low_zero relations here.0 token (below_greatest leaves v.files c.fill_all.new.streams here.0 c.in_ok-fill_all.ensures.filled now 0 token relations here.2 found) in (
            map (from_token token) here.0,
            c.in_ok-skip_all.ensures.skips here.0 now,
            all_rise_from token here.0 here.2,
            meets_skip (met_by relations) (met_monotone relations) token here.0 es below here.3,
            all_from_first token here.0,
            here.5,
          );
      pays = λ most all.
          let first = inv.pays most all in
          let second = c.in_ok-fill_all.ensures.reads first.0 first.1 in
          let third = c.in_ok-skip_all.ensures.reads second.0 second.1 in
          (third.0, third.1, omega (arith, first.2, second.2, third.2));
      read = streamed_then _ _ _ _ _ _ _ _ (g.H.Host.view c.args.host.now) v (g.H.Host.view c.skip_all.new.host) (streamed_then _ _ _ _ _ _ _ _ (g.H.Host.view c.args.host.now) (g.H.Host.view c.tokens.host) (g.H.Host.view c.fill_all.new.host) c.tokens.invariant.read c.fill_all.ensures.read) c.skip_all.ensures.read;
      faults = faults_ok _ _ _ _ (g.H.Host.view c.args.host.now) (g.H.Host.view c.skip_all.new.host) _ 0 (faults_then _ _ _ _ _ (g.H.Host.view c.args.host.now) v (g.H.Host.view c.skip_all.new.host) _ _ (λ es is. (let here = c.tokens.invariant.meets es is in (here.0, c.in_ok-fill_all.ensures.leaves here.0 here.1))) (faults_then _ _ _ _ _ (g.H.Host.view c.args.host.now) (g.H.Host.view c.tokens.host) (g.H.Host.view c.fill_all.new.host) 0 _ (λ es is. (let here = c.tokens.invariant.meets es is in (here.0, here.1))) c.tokens.invariant.faults c.in_ok-fill_all.ensures.faults) c.in_ok-skip_all.ensures.faults);
      shows_less = λ files damage is. inv.shows_less files damage (c.fill_all.ensures.shows_less files damage (c.skip_all.ensures.shows_less files damage is));
    }
