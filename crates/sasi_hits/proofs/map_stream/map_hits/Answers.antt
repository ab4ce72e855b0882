use Rattle.std.proofs.Common.{◌∙◌, sym, subst, arith, List}
use Rattle.sasi_ranges.specs.declared.entry.Entry.{Entry}
use Rattle.sasi_ranges.specs.Entries.{Rises}
use Rattle.sasi_hits.proofs.MapLaws.{all_placed, key_hits_rise, one_placed}
use Rattle.sasi_hits.proofs.map_stream.map_hits.Goals as goal

pub loop-key-preserved : goal.loop-key-preserved
loop-key-preserved c =
    one_placed c.args.leaf c.args.part c.args.keys.now c.loop-key.key-index _ c.loop-key.entries.items c.push.new.self.items c.key-item.result
    c.loop-key-test.true c.key-item.is (omega (arith, c.len.ensures, c.loop-key.entries.ok.0)) c.in_ok-push.ensures.items c.loop-key.invariant

pub returns-clause-entries : goal.returns-clause-entries
returns-clause-entries c =
    c.new.ensures ∙ all_placed c.args.leaf c.args.part c.args.keys.now c.loop-key.key-index c.loop-key.entries.items (omega (arith, c.loop-key-test.false)) c.loop-key.invariant

pub returns-clause-leaves : goal.returns-clause-leaves
returns-clause-leaves c files sorted =
    let is = c.new.ensures ∙ all_placed c.args.leaf c.args.part c.args.keys.now c.loop-key.key-index c.loop-key.entries.items (omega (arith, c.loop-key-test.false)) c.loop-key.invariant in
    (sym is, subst (λ (l : List Entry). Rises l) (sym is) (key_hits_rise c.args.leaf c.args.part c.args.keys.now sorted))
