use Rattle.std.proofs.Common.{[], None, Option, ◌∙◌, ap}
use Rattle.sasi_types.specs.declared.decorated_key.DecoratedKey.{DecoratedKey}
use Rattle.sasi_host.specs.Buffered.{Buffered}
use Rattle.sasi_tokentree.specs.Scans.{PairScan}
use Rattle.sasi_dataread.specs.Scans.{DataScan}
use Rattle.sasi_dataread.proofs.walk.Walk.new.Goals as goal

pub returns : goal.returns
returns c =
    ap (λ (tree : PairScan). made tree c.buffered_file-buffered.result c.none.result) c.tree-tree.ensures
    ∙ ap (λ (buffered : Buffered). made first buffered c.none.result) c.buffered_file-buffered.ensures
    ∙ ap (made first (record { file = c.args.opened.file; page = None; bytes = [] })) c.none.ensures
  where
    first : PairScan
    first = record { buffered = record { file = c.args.opened.file; page = None; bytes = [] }; tree = c.args.opened.tree; passed = 0; last = None }

    made : PairScan → Buffered → Option DecoratedKey → DataScan
    made tree buffered last = record { opened = c.args.opened; tokens = None; passed = tree.passed; pairs_buffered = tree.buffered; buffered = buffered; last_pair = tree.last; last = last }
