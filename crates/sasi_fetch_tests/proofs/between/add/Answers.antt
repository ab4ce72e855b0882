use Rattle.std.proofs.Common.{IsSome, refl, sym, subst}
use Rattle.sasi_host.specs.Memory.{host_view, memory_host}
use Rattle.sasi_fetch_tests.proofs.OwnCursors.{own_left, put_apart, still_own}
use Rattle.sasi_fetch_tests.proofs.between.add.Goals as goal

pub returns-clause-cursor : goal.returns-clause-cursor
returns-clause-cursor g c =
    let old = memory_host c.args.host.now in
    let new = memory_host c.put.new.self in
    still_own (host_view old).files (host_view new).files c.args.book.now c.add.new.self c.args.cursor.now c.one_row.result (λ told. refl) (put_apart old new _ (rw c.expect.ensures at c.put.ensures.ok)) (rw c.expect-2.ensures at c.add.ensures.ok) c.requires.cursor

pub returns-clause-there : goal.returns-clause-there
returns-clause-there g c told = subst IsSome (sym (put_apart (memory_host c.args.host.now) (memory_host c.put.new.self) _ (rw c.expect.ensures at c.put.ensures.ok))) (c.requires.there refl)

pub returns-clause-left : goal.returns-clause-left
returns-clause-left g c =
    let old = memory_host c.args.host.now in
    let new = memory_host c.put.new.self in
    own_left (host_view old).files (host_view new).files c.args.book.now c.add.new.self c.args.cursor.now c.one_row.result (λ told. refl) (put_apart old new _ (rw c.expect.ensures at c.put.ensures.ok)) (rw c.expect-2.ensures at c.add.ensures.ok) c.requires.cursor
