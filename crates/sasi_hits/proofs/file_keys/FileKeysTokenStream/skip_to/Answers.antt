use Rattle.std.proofs.Common.{◌∙◌, ap, sym}
use Rattle.std.specs.List.{filter}
use Rattle.sasi_ranges.specs.Entries.{from_token}
use Rattle.sasi_ranges.proofs.Calling.{streams_nothing}
use Rattle.sasi_hits.specs.Pairs.{entries_of, is_from}
use Rattle.sasi_hits.specs.inside.Rising.{filter_rises}
use Rattle.sasi_hits.proofs.PairLaws.{floor_rises, skip_entries}
use Rattle.sasi_hits.proofs.file_keys.FileKeysTokenStream.skip_to.Goals as goal

pub returns-clause-skips : goal.returns-clause-skips
returns-clause-skips g c es is =
    let s = c.args.self.now in
    let token = c.args.token in
    let was = is.1 in
    let kept = filter (is_from s.floor) was.pairs in (
      filter (is_from token) kept,
      record { pairs = was.pairs; of_tree = was.of_tree; rise = was.rise; from = floor_rises s.floor token was.pairs ∙ ap (λ n. filter (is_from n) was.pairs) (sym c.max-self.ensures) },
      ap (from_token token) (is.2 ∙ ap (entries_of s.leaf s.part) was.from) ∙ skip_entries s.leaf s.part token kept (filter_rises (is_from s.floor) was.pairs was.rise),
    )

pub returns-clause-read : goal.returns-clause-read
returns-clause-read g c = streams_nothing _ _ _ (g.H.Host.view c.args.host.now) c.requires.read.agrees
