use Rattle.std.proofs.Common.{◌≡◌, ℕ, ◌+◌, ◌++◌, ◌∙◌, length, refl, sym, ap, subst, arith}
use Rattle.sasi_host.specs.Disk.{InPlace}
use Rattle.sasi_host.proofs.ChangeLaws.{touches, touches_on}
use Rattle.sasi_tokentree.specs.Writes.{KeepsBefore}
use Rattle.sasi_tokentree.specs.Format.{tree_bytes}
use Rattle.sasi_indexwrite.specs.Appending.{IsAppending, next_tree}
use Rattle.sasi_indexwrite.proofs.Appends.{kept_written, of_file}
use Rattle.sasi_indexwrite.proofs.TermSteps.{few_pairs}
use Rattle.sasi_indexwrite.proofs.tree_writer.append_large.Goals as goal

pub returns-in_err-tree-clause-changes : goal.returns-in_err-tree-clause-changes
returns-in_err-tree-clause-changes g c =
    touches_on _ _ _ c.args.trees.now.file c.write_out.ensures.changes
    (of_file _ _ c.args.trees.now.file c.write_out.new.trees.file c.write_out.ensures.file (touches _ _ c.write_out.new.trees.file (InPlace (KeepsBefore c.write_out.new.trees.end)) c.write.ensures.changes))

pub tree_size-requires : goal.tree_size-requires
tree_size-requires g c = few_pairs c.write_out.new.trees.end c.args.pairs.now c.as_slice.result.now c.as_slice.ensures (c.in_ok-tree.ensures.fits c.in_ok-write_out.ensures.fits)

pub returns-clause-ok : goal.returns-clause-ok
returns-clause-ok g c bytes was =
    let out = c.write_out.new.trees in
    let pairs = c.args.pairs.now in
    let at : next_tree c.args.trees.now ≡ out.end = sym c.in_ok-write_out.ensures.next ∙ omega (arith, ap length c.in_ok-write_out.ensures.none) in
    subst (λ (n : ℕ). IsAppending (g.H.Host.view c.write.new.host) (record { file = out.file; end = out.end + c.tree_size.result; unwritten = out.unwritten }) (bytes ++ tree_bytes n pairs)) (sym at)
    (kept_written (g.H.Host.view c.write_out.new.host) (g.H.Host.view c.write.new.host) out (record { file = out.file; end = out.end + c.tree_size.result; unwritten = out.unwritten }) bytes (tree_bytes out.end pairs) refl
    (ap (λ (n : ℕ). out.end + n) (c.tree_size.ensures out.end pairs (sym (ap length c.as_slice.ensures)))) c.in_ok-write_out.ensures.none c.in_ok-write_out.ensures.none c.in_ok-tree.ensures.ok
    (c.in_ok-write_out.ensures.ok bytes was))

pub returns-clause-changes : goal.returns-clause-changes
returns-clause-changes g c =
    touches_on _ _ _ c.args.trees.now.file c.write_out.ensures.changes
    (of_file _ _ c.args.trees.now.file c.write_out.new.trees.file c.write_out.ensures.file (touches _ _ c.write_out.new.trees.file (InPlace (KeepsBefore c.write_out.new.trees.end)) c.write.ensures.changes))
