use Rattle.std.proofs.Common.{◌≡◌, ◌+◌, ◌*◌, ◌≤◌, ℕ, length, IsSome}
use Rattle.sasi_types.specs.declared.partitioner.Partitioner.{Partitioner}
use Rattle.sasi_host.specs.View.{IsThere}
use Rattle.sasi_host.specs.PageReading.{HasRead}
use Rattle.sasi_host.specs.Buffered.{IsBuffered}
use Rattle.sasi_tokentree.specs.Heights.{height}
use Rattle.sasi_tokentree.specs.Scans.{HasPassed, ReadsEntry, ReadsHeader, IsAtLast, IsEntryBuffered}
use Rattle.sasi_datawrite.specs.Format.{Content, header}
use Rattle.sasi_dataread.specs.Reads.{IsOpenOn, ReadsWithin}
use Rattle.sasi_dataread.specs.Scans.{KeysAreBytes}
use Rattle.sasi_dataread.specs.Finds.{token_reads}
use Rattle.sasi_dataread.proofs.Gathering.{Gathers, GathersStored}
use Rattle.sasi_dataread.proofs.token_keys.keys_of_token.Given as goal

abbrev pub invariant-loop-turn : goal.invariant-loop-turn
invariant-loop-turn g l =
    let view = g.H.Host.view in
    let pairs = l.opened.tree.pairs in
    record {
      there : IsThere (view l.host) l.opened.file;
      read : HasRead (g.P.PageReader.agrees l.pages) (g.P.PageReader.covers l.fn.pages) (g.P.PageReader.covers l.pages) (view l.fn.host) (view l.host) l.opened.file;
      passes : (most : ℕ) → pairs ≤ most → ReadsWithin (2 * height most pairs + 2 + 2051 * l._turn) (view l.fn.host) (view l.host);
      file : l.tree.buffered.file ≡ l.opened.file;
      named : l.buffered.file ≡ l.opened.file;
      pairs_buffered : IsBuffered l.tree.buffered (view l.host).files;
      buffered : IsBuffered l.buffered (view l.host).files;
      entry_buffered : IsEntryBuffered l.tree l.next;
      at_last : IsAtLast l.tree (view l.host).files;
      tree : l.tree.tree ≡ l.opened.tree;
      passed : IsSome l.next → HasPassed l.tree.tree l.tree.passed;
      entry : ReadsEntry (view l.fn.host) l.opened.file l.opened.tree l.tree.passed l.next;
      leaf_header : ReadsHeader (view l.fn.host) l.opened.file l.opened.tree l.tree.passed l.next;
      stored : GathersStored (view l.fn.host) l.opened l.token l._turn l.tree.passed l.next l.keys.items;
      gathers : (most : ℕ) (partitioner : Partitioner) (content : Content) → pairs ≤ most → IsOpenOn (view l.fn.host) l.opened partitioner content → KeysAreBytes content
          → Gathers partitioner content l.token l._turn l.tree.passed l.next l.keys.items (view l.host).reads ((view l.fn.host).reads + (2 * height most pairs + 2 + token_reads partitioner l.token (length header) content));
    }
