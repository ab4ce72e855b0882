use Rattle.std.proofs.Common.{◌+◌, ◌<◌, ◌≤◌, ℕ, length, refl, subst, arith}
use Rattle.std.proofs.lemmas.Bool.Decides.{nat_tests}
use Rattle.sasi_host.proofs.ChangeLaws.{untouched}
use Rattle.sasi_sparse.specs.Sparse.{superblocks}
use Rattle.sasi_indexwrite.proofs.Groups.{other_superblock, same_superblock}
use Rattle.sasi_indexwrite.proofs.superblocks.take_pairs.Goals as goal

pub returns-in_err-push_all-clause-changes : goal.returns-in_err-push_all-clause-changes
returns-in_err-push_all-clause-changes g c = untouched (g.H.Host.view c.args.host.now) c.args.trees.now.file

pub returns-then-superblocks-len-clause-changes : goal.returns-then-superblocks-len-clause-changes
returns-then-superblocks-len-clause-changes g c = untouched (g.H.Host.view c.args.host.now) c.args.trees.now.file

pub returns-then-superblocks-len-clause-ok : goal.returns-then-superblocks-len-clause-ok
returns-then-superblocks-len-clause-ok g c header kept term blocks was =
    let old = c.args.groups.now in
    let few : c.superblocks.result ≤ length old.trees.items + 1 = grind (arith, nat_tests) in
    let all = subst (λ (n : ℕ). superblocks n ≤ length old.trees.items + 1) blocks (subst (λ (n : ℕ). n ≤ length old.trees.items + 1) c.superblocks.ensures few) in
    same_superblock kept (term, c.args.pairs.now) c.requires.some (g.H.Host.view c.args.host.now) c.args.trees.now old (record { pairs = c.push_all.new.list; trees = old.trees }) header all refl c.in_ok-push_all.ensures.ok was

pub returns-clause-ok : goal.returns-clause-ok
returns-clause-ok g c header kept term blocks was =
    let old = c.args.groups.now in
    let ended = c.in_ok-end_superblock.ensures in
    let many : length old.trees.items + 1 < c.superblocks.result = grind (arith, nat_tests) in
    let all = subst (λ (n : ℕ). length old.trees.items + 1 < superblocks n) blocks (subst (λ (n : ℕ). length old.trees.items + 1 < n) c.superblocks.ensures many) in
    other_superblock kept (term, c.args.pairs.now) c.requires.some (g.H.Host.view c.args.host.now) (g.H.Host.view c.end_superblock.new.host) c.args.trees.now c.end_superblock.new.trees old
    (record { pairs = c.push_all-2.new.list; trees = c.end_superblock.new.groups.trees }) header c.end_superblock.new.groups.pairs all ended.ok ended.next ended.table ended.pairs c.in_ok-push_all-2.ensures.ok was
