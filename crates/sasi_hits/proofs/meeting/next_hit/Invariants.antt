use Rattle.std.proofs.Common.{◌≡◌, ℕ, ◌+◌, ◌-◌, ◌^◌, ◌≤◌, List, Ok}
use Rattle.sasi_types.specs.declared.tree.Pair.{Pair}
use Rattle.sasi_host.specs.Names.{Bytes}
use Rattle.sasi_terms.specs.declared.op.Op.{Op}
use Rattle.sasi_indexwrite.specs.Content.{IndexContent}
use Rattle.sasi_indexread.specs.Damages.{ShowsIndex}
use Rattle.sasi_ranges.specs.StreamCalls.{CanStream, HasStreamed, StreamFaults}
use Rattle.sasi_hits.specs.Calls.{IsFile, ShowsIn}
use Rattle.sasi_hits.specs.HitPairs.{AreHits}
use Rattle.sasi_hits.specs.WordSearches.{AreSearching, AskedOf, CanMeet, words_cost}
use Rattle.sasi_hits.proofs.PairLaws.{rank}
use Rattle.sasi_hits.proofs.meeting.next_hit.Given as goal

abbrev pub invariant-pairs : goal.invariant-pairs
invariant-pairs g l =
    let view = g.H.Host.view in
    record {
      can : CanStream (g.P.PageReader.agrees l.pages) (IsFile l.fn.first.index.file) (view l.host);
      meet : CanMeet (view l.host) l.first l.others;
      searching : (op : Op) (words : List Bytes) (content : IndexContent) → AreSearching (view l.fn.host) op words l.fn.first l.fn.others content → AreSearching (view l.host) op words l.first l.others content;
      hits : (op : Op) (words : List Bytes) (content : IndexContent) (left : List Pair) → AreSearching (view l.fn.host) op words l.fn.first l.fn.others content
          → AreHits content op words l.fn.first.merge.last l.floor left → AreHits content op words l.first.merge.last l.floor left;
      pays : (op : Op) (words : List Bytes) (content : IndexContent) → AreSearching (view l.fn.host) op words l.fn.first l.fn.others content
          → (view l.host).reads + words_cost content l.first l.others ≤ (view l.fn.host).reads + words_cost content l.fn.first l.fn.others;
      read : HasStreamed (g.P.PageReader.agrees l.pages) (g.P.PageReader.covers l.fn.pages) (g.P.PageReader.covers l.pages) (IsFile l.fn.first.index.file) (IsFile l.fn.first.index.file) (view l.fn.host) (view l.host);
      faults : StreamFaults {T = ℕ} (ShowsIn l.fn.first.index.file (ShowsIndex l.fn.first.index) (view l.fn.host).files) (ShowsIn l.fn.first.index.file (ShowsIndex l.fn.first.index) (view l.host).files) (AskedOf (view l.fn.host) l.fn.first l.fn.others) (view l.fn.host) (view l.host) (Ok 0);
      index_is : l.first.index ≡ l.fn.first.index;
    }

abbrev pub decreases-pairs : goal.decreases-pairs
decreases-pairs g l = 2 ^ 130 - rank l.first.merge.last
