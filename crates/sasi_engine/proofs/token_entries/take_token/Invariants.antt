use Rattle.std.proofs.Common.{◌≡◌, ◌+◌, ◌≤◌, ℕ, List, Option, Ok}
use Rattle.sasi_host.specs.declared.damage.Damage.{Damage}
use Rattle.sasi_host.specs.Names.{Folder}
use Rattle.sasi_ranges.specs.declared.entry.Entry.{Entry}
use Rattle.sasi_ranges.specs.StreamCalls.{CanStream, HasStreamed, StreamFaults}
use Rattle.sasi_engine.specs.TokenTurns.{HasTaken}
use Rattle.sasi_engine.proofs.token_entries.take_token.Given as goal

-- what was read has the token, and was added
abbrev pub invariant-loop-turn : goal.invariant-loop-turn
invariant-loop-turn g l =
    let view = g.H.Host.view in
    let S = g.S.TokenStream in
    let u = view l.fn.host in
    let v = view l.host in
    record {
      can : CanStream (g.P.PageReader.agrees l.pages) (S.opens l.hits) v;
      ready : S.ready l.hits v.files;
      taken : (es : List Entry) → S.leaves l.fn.hits u.files es → HasTaken (S.leaves l.hits v.files) l.token l.fn.entries.items l.entries.items es;
      paid : (most : ℕ) → S.pays l.fn.hits u.files most → (rest : ℕ) × S.pays l.hits v.files rest × (v.reads + rest ≤ u.reads + most);
      read : HasStreamed (g.P.PageReader.agrees l.pages) (g.P.PageReader.covers l.fn.pages) (g.P.PageReader.covers l.pages) (S.opens l.fn.hits) (S.opens l.hits) u v;
      faults : (n : ℕ) → StreamFaults (S.shows l.fn.hits u.files) (S.shows l.hits v.files) (S.leaves l.fn.hits u.files) u v (Ok n);
      shows_less : (files : Option Folder) (damage : Damage) → S.shows l.hits files damage → S.shows l.fn.hits files damage;
    }
