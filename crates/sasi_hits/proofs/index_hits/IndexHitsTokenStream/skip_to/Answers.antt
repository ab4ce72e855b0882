use Rattle.std.proofs.Common.{◌∙◌, ℕ, max, ap, subst, sym, List, Option, None, Some}
use Rattle.std.specs.List.{filter}
use Rattle.sasi_types.specs.declared.tree.Pair.{Pair}
use Rattle.sasi_host.specs.declared.name.FileName.{FileName}
use Rattle.sasi_host.specs.Names.{Bytes, Folder}
use Rattle.sasi_terms.specs.declared.op.Op.{Op}
use Rattle.sasi_ranges.specs.Entries.{from_token}
use Rattle.sasi_ranges.proofs.Calling.{streams_nothing}
use Rattle.sasi_hits.specs.declared.open_searches.WordSearches.{WordSearches}
use Rattle.sasi_hits.specs.IndexHits.{HitsLeave}
use Rattle.sasi_hits.specs.Pairs.{PairsRise, is_from}
use Rattle.sasi_hits.proofs.HitLaws.{hits_skip}
use Rattle.sasi_hits.proofs.PairLaws.{skip_entries}
use Rattle.sasi_hits.proofs.index_hits.IndexHitsTokenStream.skip_to.Goals as goal

skipped : (file : FileName) (op : Op) (words : List Bytes) (floor token : ℕ) (searches : Option WordSearches) (files : Option Folder) (left : List Pair) → HitsLeave file op words floor searches files left
    → HitsLeave file op words (max floor token) searches files (filter (is_from token) left) × PairsRise left
skipped file op words floor token None files left is = ((is.0, is.1, is.2, hits_skip is.1 op words None floor token left is.3), is.3.rise)
skipped file op words floor token (Some searches) files left is = ((is.0, (is.1.0, is.1.1, hits_skip is.1.0 op words searches.first.merge.last floor token left is.1.2)), is.1.2.rise)

pub returns-clause-skips : goal.returns-clause-skips
returns-clause-skips g c es is =
    let s = c.args.self.now in
    let token = c.args.token in
    let now = skipped s.file s.op s.words s.floor token s.searches (g.H.Host.view c.args.host.now).files is.0 is.1 in
    (filter (is_from token) is.0, subst (λ (n : ℕ). HitsLeave s.file s.op s.words n s.searches (g.H.Host.view c.args.host.now).files (filter (is_from token) is.0)) (sym c.max-self.ensures) now.0, ap (from_token token) is.2 ∙ skip_entries s.leaf s.part token is.0 now.1)

pub returns-clause-read : goal.returns-clause-read
returns-clause-read g c = streams_nothing _ _ _ (g.H.Host.view c.args.host.now) c.requires.read.agrees
