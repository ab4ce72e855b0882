use Rattle.std.proofs.Common.{◌≡◌, ◌+◌, ◌-◌, ◌/◌, ◌<◌, ◌≤◌, ℕ, List, Ok, Some}
use Rattle.sasi_host.specs.View.{ReadCost, contents}
use Rattle.sasi_host.specs.PageReading.{HasReadOn}
use Rattle.sasi_termblocks.specs.declared.term_entry.TermEntry.{TermEntry}
use Rattle.sasi_termblocks.specs.Damages.{Leads, LeadsFor}
use Rattle.sasi_termblocks.specs.Descents.{IsPageFor}
use Rattle.sasi_termblocks.specs.Scans.{HasBlocks}
use Rattle.sasi_termblocks.proofs.seek.leaf_page.Given as goal

abbrev pub invariant-loop-passed : goal.invariant-loop-passed
invariant-loop-passed g l =
    let view = g.H.Host.view in
    let level = l.blocks.levels - l.passed in
    record {
      read : HasReadOn (g.P.PageReader.agrees l.pages) (g.P.PageReader.covers l.fn.pages) (g.P.PageReader.covers l.pages) (view l.fn.host) (view l.host) l.fn.buffered l.buffered;
      costs : ReadCost {T = Unit {0}} l.passed (view l.fn.host) (view l.host) (Ok tt);
      page_for : (bytes : List ℕ) (entries : List TermEntry) → contents (view l.fn.host) l.fn.buffered.file ≡ Some bytes → HasBlocks bytes l.blocks entries → IsPageFor l.blocks.first entries level l.sought l.page;
      leads : (bytes : List ℕ) → contents (view l.fn.host) l.fn.buffered.file ≡ Some bytes → 0 < level → Leads bytes l.blocks level l.page;
      led : (bytes : List ℕ) → contents (view l.fn.host) l.fn.buffered.file ≡ Some bytes → LeadsFor bytes l.blocks l.sought level l.page;
      low : level ≡ 0 → l.blocks.first / 4096 ≤ l.page;
      high : level ≡ 0 → l.page < l.blocks.first / 4096 + l.blocks.blocks;
    }
