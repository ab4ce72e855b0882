use Rattle.std.proofs.Common.{◌≡◌, ◌+◌, ◌*◌}
use Rattle.sasi_host.specs.View.{IsThere}
use Rattle.sasi_host.specs.Buffered.{IsBuffered}
use Rattle.sasi_host.specs.PageReading.{HasRead}
use Rattle.sasi_termblocks.specs.Scans.{GivesTree, ReadsSome}
use Rattle.sasi_treemerge.specs.Merges.{CanMerge, parts_of, sources_of, unread_of}
use Rattle.std.specs.Prelude.{IfSome}
use Rattle.sasi_termblocks.specs.Forms.{HasForm}
use Rattle.sasi_indexwrite.specs.Format.{form_of}
use Rattle.sasi_indexwrite.specs.Content.{IndexContent}
use Rattle.sasi_indexread.specs.Opened.{IsOpenOn}
use Rattle.sasi_indexread.specs.Searches.{AreListed}
use Rattle.sasi_indexread.proofs.Collecting.{Collects}
use Rattle.sasi_indexread.proofs.Counting.{Costs}
use Rattle.sasi_indexread.proofs.ReadChains.{Spends}
use Rattle.sasi_indexread.proofs.collect.add_terms.Given as goal

abbrev pub invariant-loop-turn : goal.invariant-loop-turn
invariant-loop-turn g l =
    let view = g.H.Host.view in
    record {
      there : IsThere (view l.host) l.index.file;
      read : HasRead (g.P.PageReader.agrees l.pages) (g.P.PageReader.covers l.fn.pages) (g.P.PageReader.covers l.pages) (view l.fn.host) (view l.host) l.index.file;
      spends : Spends (l.index.blocks.levels + 2 + 511 * l._turn) (view l.fn.host) (view l.host);
      blocks_file : l.blocks.buffered.file ≡ l.index.file;
      blocks_ref : l.blocks.blocks ≡ l.index.blocks;
      blocks_form : l.blocks.form ≡ form_of l.index.mode;
      buffered : IsBuffered l.blocks.buffered (view l.host).files;
      named : l.merge.file ≡ l.index.file;
      last : l.merge.last ≡ l.fn.merge.last;
      floor : l.merge.floor ≡ l.fn.merge.floor;
      can : CanMerge (view l.host) l.merge;
      listed : AreListed (view l.fn.host) l.index (sources_of l.merge);
      stands : ReadsSome (view l.fn.host) l.index.file l.entry;
      tree : GivesTree l.index.blocks.first l.entry;
      form : IfSome l.entry (HasForm (form_of l.index.mode));
      collects : (content : IndexContent) (on : IsOpenOn (view l.fn.host) l.index content)
          → Collects on.bytes content l.index.blocks l.op l.body l.fn.merge.last l.fn.merge.floor l._turn l.blocks.page l.blocks.index l.entry (parts_of l.merge);
      costs : (content : IndexContent) → IsOpenOn (view l.fn.host) l.index content → Costs content l.index.blocks l.op l.body l._turn l.blocks.page l.blocks.index l.entry
          ((view l.fn.host).reads + 2 * unread_of (sources_of l.fn.merge) + l.index.blocks.levels + 2) ((view l.host).reads + 2 * unread_of (sources_of l.merge));
    }
