use Rattle.std.proofs.Common.{◌∙◌, List, ℕ, ap, arith}
use Rattle.std.specs.List.Sorted.{IsStrictlySortedBy}
use Rattle.sasi_types.specs.DecoratedKey.{decorated_cmp}
use Rattle.sasi_memindex.specs.Hits.{keys_in}
use Rattle.sasi_engine.proofs.WordLaws.{all_searched, one_searched, pushed_all}
use Rattle.sasi_engine.proofs.find_keys.search_each.Goals as goal

pub loop-word-preserved : goal.loop-word-preserved
loop-word-preserved c = record {
  sorted = pushed_all (IsStrictlySortedBy decorated_cmp) c.loop-word.lists.items c.push.new.self.items c.in_ok-search.field-0 c.in_ok-push.ensures.items c.loop-word.invariant.sorted c.in_ok-search.ensures.hits.rise;
  found = λ m is. one_searched c.args.op.now c.args.index.now m c.args.words.now c.loop-word.word-index c.loop-word.lists.items c.push.new.self.items c.word-item.result c.in_ok-search.field-0
      c.loop-word-test.true c.word-item.is (c.in_ok-search.ensures.of_map m is ∙ ap (λ (b : List ℕ). keys_in c.args.op.now b c.args.index.now m) c.bytes.ensures) c.in_ok-push.ensures.items (c.loop-word.invariant.found m is);
}

pub returns-clause-lists : goal.returns-clause-lists
returns-clause-lists c m is = all_searched c.args.op.now c.args.index.now m c.args.words.now c.loop-word.word-index c.loop-word.lists.items (omega (arith, c.loop-word-test.false)) (c.loop-word.invariant.found m is)
