use Rattle.std.proofs.Common.{◌∙◌}
use Rattle.sasi_ranges.specs.declared.entry.Entry.{Entry}
use Rattle.sasi_narrow.proofs.EntryOrder.{any_ties, entries_strictly, nested_total}
use Rattle.sasi_narrow.proofs.Searching.{search_tells}
use Rattle.sasi_narrow.proofs.file_hits.is_among.Goals as goal

pub returns : goal.returns
returns c = λ rises.
    c.is_ok.ensures.value
    ∙ search_tells nested_total (λ (e : Entry). e) c.args.entry c.args.entries.now c.binary_search.result (entries_strictly c.args.entries.now rises) c.binary_search.ensures.bound c.binary_search.ensures.position
    ∙ any_ties c.args.entry c.args.entries.now
