use Rattle.std.proofs.Common.{ℕ, List, Option, None, Ok, ◌+◌, ◌-◌, ◌^◌, ◌<◌, ◌≤◌, length}
use Rattle.std.specs.List.{AllByRecursion}
use Rattle.sasi_host.specs.declared.damage.Damage.{Damage}
use Rattle.sasi_host.specs.Names.{Folder}
use Rattle.sasi_ranges.specs.declared.entry.Entry.{Entry}
use Rattle.sasi_ranges.specs.Entries.{Rises}
use Rattle.sasi_ranges.specs.StreamCalls.{CanStream, HasStreamed, StreamFaults}
use Rattle.sasi_ranges.specs.inside.Heads.{AllLeave, HeadsOpen, HeadsPay, HeadsReady, HeadsShow}
use Rattle.sasi_ranges.specs.inside.Meets.{FirstFrom, Meets, MetLeaves, met_by}
use Rattle.sasi_ranges.proofs.intersection.next_agreed.Given as goal

abbrev pub invariant-tokens : goal.invariant-tokens
invariant-tokens g l = record {
  can : CanStream (g.P.PageReader.agrees l.pages) (HeadsOpen g.S.TokenStream.opens l.streams) (g.H.Host.view l.host);
  still_ready : HeadsReady g.S.TokenStream.ready (g.H.Host.view l.host).files l.streams;
  meets : (es : List Entry) → MetLeaves g.S.TokenStream.leaves (g.H.Host.view l.fn.host).files l.fn.streams l.fn.relations None es
      → (lists : List (List Entry)) × AllLeave g.S.TokenStream.leaves (g.H.Host.view l.host).files l.streams lists × AllByRecursion Rises lists × Meets (met_by l.fn.relations) None lists es × AllByRecursion (FirstFrom l.from) lists × (0 < length l.fn.relations);
  pays : (most : ℕ) → HeadsPay g.S.TokenStream.pays (g.H.Host.view l.fn.host).files l.fn.streams most → (rest : ℕ) × HeadsPay g.S.TokenStream.pays (g.H.Host.view l.host).files l.streams rest × ((g.H.Host.view l.host).reads + rest ≤ (g.H.Host.view l.fn.host).reads + most);
  read : HasStreamed (g.P.PageReader.agrees l.pages) (g.P.PageReader.covers l.fn.pages) (g.P.PageReader.covers l.pages) (HeadsOpen g.S.TokenStream.opens l.fn.streams) (HeadsOpen g.S.TokenStream.opens l.streams) (g.H.Host.view l.fn.host) (g.H.Host.view l.host);
  faults : StreamFaults {T = ℕ} (HeadsShow g.S.TokenStream.shows (g.H.Host.view l.fn.host).files l.fn.streams) (HeadsShow g.S.TokenStream.shows (g.H.Host.view l.host).files l.streams) (MetLeaves g.S.TokenStream.leaves (g.H.Host.view l.fn.host).files l.fn.streams l.fn.relations None) (g.H.Host.view l.fn.host) (g.H.Host.view l.host) (Ok 0);
  shows_less : (files : Option Folder) (damage : Damage) → HeadsShow g.S.TokenStream.shows files l.streams damage → HeadsShow g.S.TokenStream.shows files l.fn.streams damage;
}

abbrev pub decreases-tokens : goal.decreases-tokens
decreases-tokens g l = 2 ^ 64 - l.from
