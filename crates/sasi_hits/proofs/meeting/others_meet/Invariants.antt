use Rattle.std.proofs.Common.{◌≡◌, ℕ, ◌+◌, ◌≤◌, true, map, take, Ok}
use Rattle.std.specs.List.{AllByRecursion}
use Rattle.sasi_indexwrite.specs.Content.{IndexContent}
use Rattle.sasi_ranges.specs.StreamCalls.{CanStream, HasStreamed, StreamFaults}
use Rattle.sasi_candidates.specs.Searches.{is_asked_pair}
use Rattle.sasi_hits.specs.WordSearches.{AreFollowing, AskAgain, Asking, EachCanFollow, From, OthersOpen, OthersShow, asking, others_cost}
use Rattle.sasi_hits.proofs.meeting.others_meet.Given as goal

abbrev pub invariant-loop-word : goal.invariant-loop-word
invariant-loop-word g l =
    let view = g.H.Host.view in
    record {
      can : CanStream (g.P.PageReader.agrees l.pages) (OthersOpen l.others) (view l.host);
      follow : EachCanFollow (view l.host) l.others;
      follows : (content : IndexContent) → AreFollowing (view l.fn.host) content (From l.pair) l.fn.others → AreFollowing (view l.host) content (From l.pair) l.others;
      met : (content : IndexContent) → AreFollowing (view l.fn.host) content (From l.pair) l.fn.others
          → AllByRecursion (λ (a : Asking). is_asked_pair content a.1 l.pair a.2 ≡ true) (take l.word-index (map asking l.fn.others));
      pays : (content : IndexContent) → AreFollowing (view l.fn.host) content (From l.pair) l.fn.others → (view l.host).reads + others_cost content l.others ≤ (view l.fn.host).reads + others_cost content l.fn.others;
      read : HasStreamed (g.P.PageReader.agrees l.pages) (g.P.PageReader.covers l.fn.pages) (g.P.PageReader.covers l.pages) (OthersOpen l.fn.others) (OthersOpen l.others) (view l.fn.host) (view l.host);
      faults : StreamFaults {T = ℕ} (OthersShow (view l.fn.host).files l.fn.others) (OthersShow (view l.host).files l.others) (λ content. AreFollowing (view l.fn.host) content (From l.pair) l.fn.others) (view l.fn.host) (view l.host) (Ok 0);
      asked : AskAgain l.fn.others l.others;
    }
