use Rattle.std.proofs.Common.{◌≡◌, ◌∙◌, ap, subst, sym, Option, Some}
use Rattle.std.specs.Prelude.{IfSome, true}
use Rattle.std.proofs.lemmas.Result.{err_from_is_err_and}
use Rattle.sasi_types.specs.declared.tree.Pair.{Pair}
use Rattle.sasi_treemerge.specs.Merges.{IsLeast, is_left, last_after}
use Rattle.sasi_indexread.specs.Asked.{asked_lists}
use Rattle.sasi_indexread.specs.Damages.{ShowsIndex}
use Rattle.sasi_indexread.specs.Searches.{IsSearching}
use Rattle.sasi_ranges.proofs.Calling.{faults_handed, faults_ok}
use Rattle.sasi_hits.specs.WordSearches.{Behind}
use Rattle.sasi_hits.proofs.CallLaws.{can_read, faults_of, streamed}
use Rattle.sasi_hits.proofs.WordLaws.{advances_none, advances_some, left_is}
use Rattle.sasi_hits.proofs.word_search.advance.Goals as goal

pub next-requires-clause-read : goal.next-requires-clause-read
next-requires-clause-read g c = can_read _ (g.H.Host.view c.args.host.now) _ c.requires.read

pub returns-in_err-pair-clause-read : goal.returns-in_err-pair-clause-read
returns-in_err-pair-clause-read g c = streamed _ _ _ _ _ _ c.next.ensures.read

pub returns-in_err-pair-clause-faults : goal.returns-in_err-pair-clause-faults
returns-in_err-pair-clause-faults g c =
    let p = err_from_is_err_and c.from_residual.result c.from_residual.ensures.1 in
    let v = g.H.Host.view c.args.host.now in
    let w = g.H.Host.view c.next.new.host in
    let search = c.args.word.now.search in
    rw (p.1, p.2) (faults_handed _ _ _ _ v w c.next.result c.in_err-pair.field-0.0 c.in_err-pair.was (λ content is. (content, is))
    (faults_of search.index.file (ShowsIndex search.index) (IsSearching v search) v w _ c.next.result c.next.ensures.read.changes c.next.ensures.causes c.next.ensures.damaged c.next.ensures.undamaged))

pub returns-in_default-clause-gives : goal.returns-in_default-clause-gives
returns-in_default-clause-gives g c content is =
    let search = c.args.word.now.search in
    let can = c.requires.can in
    let both = c.in_ok-pair.ensures.ok content is in (
      advances_none content search c.args.word.now.head can.last_is can.floor_is
          (subst (λ (o : Option Pair). IsLeast (asked_lists content search.op search.body) search.merge.last search.merge.floor o) c.in_default.is both.0),
      both.1,
    )

pub returns-in_default-clause-can : goal.returns-in_default-clause-can
returns-in_default-clause-can g c =
    let can = c.requires.can in
    record {
      can = c.in_ok-pair.ensures.search;
      index_is = c.next.ensures.asked.0;
      last_is = c.in_ok-pair.ensures.last ∙ ap (last_after c.args.word.now.search.merge.last) c.in_default.is ∙ can.last_is;
      floor_is = c.in_ok-pair.ensures.floor ∙ can.floor_is;
    }

pub returns-in_default-clause-read : goal.returns-in_default-clause-read
returns-in_default-clause-read g c = streamed _ _ _ _ _ _ c.next.ensures.read

pub returns-in_default-clause-faults : goal.returns-in_default-clause-faults
returns-in_default-clause-faults g c =
    let v = g.H.Host.view c.args.host.now in
    let w = g.H.Host.view c.next.new.host in
    let search = c.args.word.now.search in
    faults_ok _ _ _ _ v w c.in_ok-pair.field-0 _ (faults_of search.index.file (ShowsIndex search.index) (IsSearching v search) v w _ _ c.next.ensures.read.changes c.in_ok-pair.ensures.causes c.in_ok-pair.ensures.damaged c.in_ok-pair.ensures.undamaged)

pub returns-clause-gives : goal.returns-clause-gives
returns-clause-gives g c content is =
    let search = c.args.word.now.search in
    let can = c.requires.can in
    let both = c.in_ok-pair.ensures.ok content is in (
      advances_some content search c.args.word.now.head c.head_at-word.result c.in-Some.pair can.last_is can.floor_is c.head_at-word.ensures.is
          (subst (λ (o : Option Pair). IsLeast (asked_lists content search.op search.body) search.merge.last search.merge.floor o) c.in-Some.is both.0),
      both.1,
    )

pub returns-clause-rises : goal.returns-clause-rises
returns-clause-rises g c more =
    let search = c.args.word.now.search in
    let can = c.requires.can in
    let pair = c.in-Some.pair in
    let behind : is_left search.merge.last search.merge.floor pair ≡ true = subst (λ (o : Option Pair). IfSome o (λ p. is_left search.merge.last search.merge.floor p ≡ true)) c.in-Some.is c.in_ok-pair.ensures.behind in
    (pair, c.head_at-word.ensures.is, subst (λ (o : Option Pair). Behind o pair) can.last_is (sym (left_is search.merge.last search.merge.floor pair can.floor_is) ∙ behind), c.head_at-word.ensures.fits.0, c.head_at-word.ensures.fits.1)

pub returns-clause-can : goal.returns-clause-can
returns-clause-can g c =
    let can = c.requires.can in
    record {
      can = c.in_ok-pair.ensures.search;
      index_is = c.next.ensures.asked.0;
      last_is = c.in_ok-pair.ensures.last ∙ ap (last_after c.args.word.now.search.merge.last) c.in-Some.is ∙ sym c.head_at-word.ensures.is;
      floor_is = c.in_ok-pair.ensures.floor ∙ can.floor_is;
    }

pub returns-clause-read : goal.returns-clause-read
returns-clause-read g c = streamed _ _ _ _ _ _ c.next.ensures.read

pub returns-clause-faults : goal.returns-clause-faults
returns-clause-faults g c =
    let v = g.H.Host.view c.args.host.now in
    let w = g.H.Host.view c.next.new.host in
    let search = c.args.word.now.search in
    faults_ok _ _ _ _ v w c.in_ok-pair.field-0 _ (faults_of search.index.file (ShowsIndex search.index) (IsSearching v search) v w _ _ c.next.ensures.read.changes c.in_ok-pair.ensures.causes c.in_ok-pair.ensures.damaged c.in_ok-pair.ensures.undamaged)
