use Rattle.std.proofs.Common.{ℕ, ◌+◌, ◌-◌, ◌^◌, ◌≤◌, Ok}
use Rattle.sasi_indexwrite.specs.Content.{IndexContent}
use Rattle.sasi_indexread.specs.Costs.{cost_left}
use Rattle.sasi_indexread.specs.Damages.{ShowsIndex}
use Rattle.sasi_indexread.specs.Searches.{IsSearching}
use Rattle.sasi_ranges.specs.StreamCalls.{CanStream, HasStreamed, StreamFaults}
use Rattle.sasi_hits.specs.Calls.{IsFile, ShowsIn}
use Rattle.sasi_hits.specs.WordSearches.{AsksAgain, CanFollow, From, IsFollowing}
use Rattle.sasi_hits.proofs.PairLaws.{rank}
use Rattle.sasi_hits.proofs.word_search.word_meets.Given as goal

abbrev pub invariant-pairs : goal.invariant-pairs
invariant-pairs g l =
    let view = g.H.Host.view in
    record {
      can : CanStream (g.P.PageReader.agrees l.pages) (IsFile l.fn.word.search.index.file) (view l.host);
      follow : CanFollow (view l.host) l.fn.word.search.index l.word;
      searching : (content : IndexContent) → IsSearching (view l.fn.host) l.fn.word.search content → IsSearching (view l.host) l.word.search content;
      follows : (content : IndexContent) → IsFollowing (view l.fn.host) content (From l.pair) l.fn.word → IsFollowing (view l.host) content (From l.pair) l.word;
      pays : (content : IndexContent) → IsSearching (view l.fn.host) l.fn.word.search content → (view l.host).reads + cost_left l.word.search content ≤ (view l.fn.host).reads + cost_left l.fn.word.search content;
      read : HasStreamed (g.P.PageReader.agrees l.pages) (g.P.PageReader.covers l.fn.pages) (g.P.PageReader.covers l.pages) (IsFile l.fn.word.search.index.file) (IsFile l.fn.word.search.index.file) (view l.fn.host) (view l.host);
      faults : StreamFaults {T = ℕ} (ShowsIn l.fn.word.search.index.file (ShowsIndex l.fn.word.search.index) (view l.fn.host).files) (ShowsIn l.fn.word.search.index.file (ShowsIndex l.fn.word.search.index) (view l.host).files) (IsSearching (view l.fn.host) l.fn.word.search) (view l.fn.host) (view l.host) (Ok 0);
      asked : AsksAgain l.fn.word.search l.word.search;
    }

abbrev pub decreases-pairs : goal.decreases-pairs
decreases-pairs g l = 2 ^ 130 - rank l.word.head
