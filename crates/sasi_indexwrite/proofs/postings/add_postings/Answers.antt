use Rattle.std.proofs.Common.{◌≡◌, ◌++◌, ◌∷◌, List, sym, ap, ◌∙◌, subst}
use Rattle.std.specs.Option.{option_to_list}
use Rattle.sasi_host.specs.View.{Reaches}
use Rattle.sasi_host.proofs.ChangeLaws.{touches_on}
use Rattle.sasi_segments.specs.Gathering.{Gathering}
use Rattle.sasi_segments.specs.declared.posting.Posting.{Posting}
use Rattle.sasi_indexwrite.proofs.Appends.{of_file}
use Rattle.sasi_indexwrite.proofs.Taking.{HasTaken, follows_taken, none_taken, one_more}
use Rattle.sasi_indexwrite.proofs.postings.add_postings.Goals as goal

pub loop-posting-init : goal.loop-posting-init
loop-posting-init g c = none_taken (g.H.Host.view c.args.host.now) c.args.gather.now.postings c.args.writer.now c.args.spill.now c.requires.none c.requires.ready c.requires.room

pub add_posting-requires-clause-follows : goal.add_posting-requires-clause-follows
add_posting-requires-clause-follows g c =
    let left : c.loop-posting.gather.postings ≡ c.in-Some.posting ∷ c.next.new.self.postings =
    ap (λ (h : Gathering). h.postings) c.in_ok-posting.ensures.gives ∙ ap (λ o. option_to_list o ++ c.next.new.self.postings) c.in-Some.is
    in
    let taken =
    subst (λ (l : List Posting). HasTaken (g.H.Host.view c.args.host.now) (g.H.Host.view c.loop-posting.host) c.args.gather.now.postings l c.args.writer.now c.loop-posting.writer c.loop-posting.spill) left c.loop-posting.invariant
    in
    follows_taken _ _ c.args.gather.now.postings c.next.new.self.postings c.in-Some.posting c.args.writer.now c.loop-posting.writer c.loop-posting.spill c.requires.gathered taken

pub loop-posting-preserved : goal.loop-posting-preserved
loop-posting-preserved g c =
    let left : c.loop-posting.gather.postings ≡ c.in-Some.posting ∷ c.next.new.self.postings =
    ap (λ (h : Gathering). h.postings) c.in_ok-posting.ensures.gives ∙ ap (λ o. option_to_list o ++ c.next.new.self.postings) c.in-Some.is
    in
    let taken =
    subst (λ (l : List Posting). HasTaken (g.H.Host.view c.args.host.now) (g.H.Host.view c.loop-posting.host) c.args.gather.now.postings l c.args.writer.now c.loop-posting.writer c.loop-posting.spill) left c.loop-posting.invariant
    in
    let here =
    subst (λ h. HasTaken (g.H.Host.view c.args.host.now) (g.H.Host.view h) c.args.gather.now.postings (c.in-Some.posting ∷ c.next.new.self.postings) c.args.writer.now c.loop-posting.writer c.loop-posting.spill) (sym c.next.ensures.host) taken
    in
    let causes = c.in_ok-add_posting.ensures.causes in
    one_more _ _ _ c.args.gather.now.postings c.next.new.self.postings c.in-Some.posting c.args.writer.now c.loop-posting.writer c.add_posting.new.writer c.loop-posting.spill c.add_posting.new.spill here
    c.in_ok-add_posting.ensures.keeps c.in_ok-add_posting.ensures.ok c.in_ok-add_posting.ensures.ready c.in_ok-add_posting.ensures.room c.in_ok-add_posting.ensures.file c.in_ok-add_posting.ensures.mode c.in_ok-add_posting.ensures.changes
    (record { disk = causes.ok; out = causes.out; reads = causes.reads })

pub returns-in_err-add_posting-clause-changes : goal.returns-in_err-add_posting-clause-changes
returns-in_err-add_posting-clause-changes g c =
    let here = subst (λ h. HasTaken (g.H.Host.view c.args.host.now) (g.H.Host.view h) c.args.gather.now.postings c.loop-posting.gather.postings c.args.writer.now c.loop-posting.writer c.loop-posting.spill) (sym c.next.ensures.host) c.loop-posting.invariant in
    touches_on _ _ _ c.args.writer.now.trees.file here.changes (of_file _ _ c.args.writer.now.trees.file c.loop-posting.writer.trees.file here.file c.add_posting.ensures.changes)

pub returns-clause-room : goal.returns-clause-room
returns-clause-room g c = subst (λ h. Reaches (g.H.Host.view h) c.loop-posting.writer.trees.file c.loop-posting.writer.trees.end) (sym c.next.ensures.host) c.loop-posting.invariant.room
