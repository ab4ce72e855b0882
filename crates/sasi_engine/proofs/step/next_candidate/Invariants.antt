use Rattle.std.proofs.Common.{◌+◌, ◌≤◌, ℕ, List, Option, Ok}
use Rattle.sasi_host.specs.declared.damage.Damage.{Damage}
use Rattle.sasi_host.specs.Names.{Folder}
use Rattle.sasi_ranges.specs.StreamCalls.{CanStream, HasStreamed, StreamFaults}
use Rattle.sasi_recheck.specs.Sources.{Candidate}
use Rattle.sasi_engine.specs.inside.Steps.{IsHandReady, IsSameHand, SourceLeaves, SourceOpens, SourceOwes, SourceShows}
use Rattle.sasi_engine.proofs.step.next_candidate.Given as goal

-- what was left is still left, and what was read is owed
abbrev pub invariant-loop-turn : goal.invariant-loop-turn
invariant-loop-turn g l =
    let view = g.H.Host.view in
    let S = g.S.TokenStream in
    let u = view l.fn.host in
    let v = view l.host in
    record {
      can : CanStream (g.P.PageReader.agrees l.pages) (SourceOpens (S.opens l.hits) l.hand) v;
      hits_ready : S.ready l.hits v.files;
      ready : IsHandReady l.hand v.files;
      same : IsSameHand l.fn.hand l.hand;
      left : (left : List Candidate) → SourceLeaves (S.leaves l.fn.hits u.files) l.fn.ahead l.fn.hand u.files l.maps left → SourceLeaves (S.leaves l.hits v.files) l.ahead l.hand v.files l.maps left;
      paid : (most : ℕ) (prices : List ℕ) → SourceOwes (S.leaves l.fn.hits u.files) (S.pays l.fn.hits u.files) l.fn.ahead l.fn.hand u.files l.maps most 0 prices
          → (rest owed : ℕ) × SourceOwes (S.leaves l.hits v.files) (S.pays l.hits v.files) l.ahead l.hand v.files l.maps rest owed prices × (v.reads + rest ≤ u.reads + (most + owed));
      read : HasStreamed (g.P.PageReader.agrees l.pages) (g.P.PageReader.covers l.fn.pages) (g.P.PageReader.covers l.pages) (SourceOpens (S.opens l.fn.hits) l.fn.hand) (SourceOpens (S.opens l.hits) l.hand) u v;
      faults : (n : ℕ) → StreamFaults (SourceShows (S.shows l.fn.hits u.files) l.fn.hand u.files) (SourceShows (S.shows l.hits v.files) l.hand v.files) (SourceLeaves (S.leaves l.fn.hits u.files) l.fn.ahead l.fn.hand u.files l.maps) u v (Ok n);
      shows_less : (files : Option Folder) (damage : Damage) → S.shows l.hits files damage → S.shows l.fn.hits files damage;
    }
