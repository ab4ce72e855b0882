use Rattle.std.proofs.Common.{◌≤◌, ◌++◌, List, ℕ, ◌∙◌, ap, length, subst, sym}
use Rattle.sasi_formats.specs.Formats.{encoded}
use Rattle.sasi_termblocks.specs.Entries.{term_entry}
use Rattle.sasi_termblocks.proofs.EntryLaws.{entry_small}
use Rattle.sasi_termblocks.proofs.writer.push_entry.Goals as goal

pub push-requires-clause-short : goal.push-requires-clause-short
push-requires-clause-short c =
    let is = c.deref.ensures.value ∙ c.in_ok-put_entry.ensures ∙ ap (λ (l : List ℕ). l ++ encoded term_entry c.args.entry.now) c.clear.ensures.items in
    subst (λ (l : List ℕ). length l ≤ 1200) (sym is) (entry_small c.args.entry.now c.requires.fits)

pub returns-clause-short : goal.returns-clause-short
returns-clause-short c = entry_small c.args.entry.now c.requires.fits
