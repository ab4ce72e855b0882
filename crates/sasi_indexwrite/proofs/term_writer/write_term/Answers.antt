use Rattle.std.proofs.Common.{◌≤◌, ◌++◌, List, length, ap, arith, subst, sym}
use Rattle.std.proofs.lemmas.Bool.Decides.{nat_tests}
use Rattle.sasi_host.proofs.ChangeLaws.{untouched}
use Rattle.sasi_indexwrite.specs.Content.{TermPairs}
use Rattle.sasi_indexwrite.specs.Writing.{IsWritten}
use Rattle.sasi_indexwrite.proofs.TermSteps.{with_some}
use Rattle.sasi_indexwrite.proofs.term_writer.write_term.Goals as goal

pub returns-then-is_empty-clause-changes : goal.returns-then-is_empty-clause-changes
returns-then-is_empty-clause-changes g c = untouched (g.H.Host.view c.args.host.now) c.args.writer.now.trees.file

pub store_term-requires-clause-some : goal.store_term-requires-clause-some
store_term-requires-clause-some g c =
    let some : 1 ≤ length c.as_slice.result.now = grind (arith, nat_tests) in
    omega (arith, some, ap length c.as_slice.ensures)

pub returns-clause-ok : goal.returns-clause-ok
returns-clause-ok g c header closed was =
    let writer = c.args.writer.now in
    let now = c.store_term.new.writer in
    let some : 1 ≤ length c.as_slice.result.now = grind (arith, nat_tests) in
    let one : 1 ≤ length writer.pairs = omega (arith, some, ap length c.as_slice.ensures) in
    subst (λ (l : List TermPairs). IsWritten now.mode (g.H.Host.view c.store_term.new.host) now.trees now.blocks now.groups now.common header (closed ++ l)) (sym (with_some c.args.term writer.pairs one))
    (c.in_ok-store_term.ensures.ok header closed was)
