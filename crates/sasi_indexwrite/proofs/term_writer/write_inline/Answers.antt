use Rattle.std.proofs.Common.{◌≡◌, ◌≤◌, ◌++◌, [], ◌∷◌, List, Some, None, length, refl, sym, ◌∙◌, ap, subst}
use Rattle.sasi_types.specs.declared.tree.Pair.{Pair}
use Rattle.sasi_host.proofs.ChangeLaws.{untouched}
use Rattle.sasi_formats.specs.Formats.{Fits}
use Rattle.sasi_tokentree.specs.Format.{AreFit}
use Rattle.sasi_termblocks.specs.Entries.{term_entry}
use Rattle.sasi_termblocks.proofs.InlineLaws.{inline_fits}
use Rattle.sasi_indexwrite.specs.Content.{TermPairs}
use Rattle.sasi_indexwrite.specs.declared.term_writer.TermWriter.{TermWriter}
use Rattle.sasi_indexwrite.specs.Grouped.{HasGroups}
use Rattle.sasi_indexwrite.specs.Superblocks.{inline_blocks}
use Rattle.sasi_host.specs.Names.{Bytes}
use Rattle.sasi_indexwrite.proofs.SparseSteps.{inline_written}
use Rattle.sasi_indexwrite.proofs.term_writer.write_inline.Goals as goal

pub push-requires : goal.push-requires
push-requires g c =
    let pairs = c.args.writer.now.pairs in
    let same : c.push_all.new.list ≡ pairs = c.in_ok-push_all.ensures.ok ∙ ap (λ (l : List Pair). l ++ c.as_slice.result.now) c.new-pairs.ensures ∙ c.as_slice.ensures in
    record {
      fits =
          subst (λ (l : List Pair). Fits term_entry (record { term = c.args.term; list = None; inline = Some l })) (sym same)
          (inline_fits c.args.term pairs c.requires.short (subst (λ (l : List Pair). AreFit l) c.as_slice.ensures c.in_ok-push_all.ensures.fit) c.requires.ready.rising c.requires.some c.requires.few);
    }

pub take_pairs-requires-clause-some : goal.take_pairs-requires-clause-some
take_pairs-requires-clause-some g c = subst (λ (l : List Pair). 1 ≤ length l) (sym c.as_slice-2.ensures) c.requires.some

pub returns-in_err-push_all-clause-changes : goal.returns-in_err-push_all-clause-changes
returns-in_err-push_all-clause-changes g c = untouched (g.H.Host.view c.args.host.now) c.args.writer.now.trees.file

pub returns-in_err-push-clause-changes : goal.returns-in_err-push-clause-changes
returns-in_err-push-clause-changes g c = untouched (g.H.Host.view c.args.host.now) c.args.writer.now.trees.file

pub returns-clause-ok : goal.returns-clause-ok
returns-clause-ok g c header closed was =
    let old = c.args.writer.now in
    let new : TermWriter = record { mode = old.mode; trees = c.take_pairs.new.trees; blocks = c.push.new.self; term = old.term; pairs = old.pairs; groups = c.take_pairs.new.groups; common = old.common } in
    let same : c.push_all.new.list ≡ old.pairs = c.in_ok-push_all.ensures.ok ∙ ap (λ (l : List Pair). l ++ c.as_slice.result.now) c.new-pairs.ensures ∙ c.as_slice.ensures in
    let a = g.H.Host.view c.args.host.now in
    let b = g.H.Host.view c.take_pairs.new.host in
    inline_written a b old new c.args.term old.pairs c.push_all.new.list header closed
    (record { short = c.requires.short; some = c.requires.some; pairs = record { rising = c.requires.ready.rising; fit = subst (λ (l : List Pair). AreFit l) c.as_slice.ensures c.in_ok-push_all.ensures.fit } }) c.requires.few same
    c.in_ok-push.ensures c.blocks-blocks.result c.blocks-blocks.ensures
    (subst
    (λ (l : List Pair). (header : Bytes) (kept : List TermPairs) (term : Bytes) → c.blocks-blocks.result ≡ length (inline_blocks (kept ++ (term, l) ∷ [])) → HasGroups a old.trees old.groups header kept
    → HasGroups b c.take_pairs.new.trees c.take_pairs.new.groups header (kept ++ (term, l) ∷ [])) c.as_slice-2.ensures c.in_ok-take_pairs.ensures.ok) refl was
