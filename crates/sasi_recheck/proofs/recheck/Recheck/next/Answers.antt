use Rattle.std.proofs.Common.{◌≡◌, ◌+◌, ◌≤◌, ℕ, Some, map, drop, sum, take, zero, refl, sym, subst, arith, rules}
use Rattle.sasi_ranges.proofs.Calling.{streams_nothing}
use Rattle.sasi_model.specs.Filters.{answers, where_of}
use Rattle.sasi_recheck.specs.Rows.{KnowsWhere, RecheckView, asked_in}
use Rattle.sasi_recheck.proofs.TurnLaws.{some_left}
use Rattle.sasi_recheck.proofs.recheck.Recheck.next.Goals as goal

pub returns-then-eq-clause-checked : goal.returns-then-eq-clause-checked
returns-then-eq-clause-checked g c left is = (let none : c.args.self.now.rows_left ≡ Some zero = search rules in rw none refl)

pub returns-then-eq-clause-reads : goal.returns-then-eq-clause-reads
returns-then-eq-clause-reads g c left most prices is pays = (let none : c.args.self.now.rows_left ≡ Some zero = search rules in rw none (most, pays, omega arith))

pub returns-then-eq-clause-read : goal.returns-then-eq-clause-read
returns-then-eq-clause-read g c = streams_nothing _ _ (g.C.Candidates.opens c.args.self.now.candidates) (g.H.Host.view c.args.host.now) c.requires.read.agrees

pub next_row-requires-clause-known : goal.next_row-requires-clause-known
next_row-requires-clause-known g c =
    subst (λ (s : RecheckView g.row.C.Denot). KnowsWhere (map (λ b. (goal.Analyzer-dyn g (b.vtable, b.value)).kind b.value) c.args.kit.now.objects.items) s.filter) (sym c.self.view_is) c.requires.known

pub returns-clause-reads : goal.returns-clause-reads
returns-clause-reads g c left most prices is pays =
    let C = g.C.Candidates in
    let u = g.H.Host.view c.args.host.now in
    let v = g.H.Host.view c.next_row.new.host in
    subst
    (λ (s : RecheckView g.row.C.Denot). C.leaves s.candidates u.files c.args.maps.now left → C.pays s.candidates u.files c.args.maps.now most prices
    → (rest : ℕ) × C.pays c.next_row.new.candidates v.files c.args.maps.now rest (drop (asked_in s.rows_left (answers (where_of s.filter)) left) prices)
    × (v.reads + rest ≤ u.reads + (most + sum (take (asked_in s.rows_left (answers (where_of s.filter)) left) prices))))
    c.self.view_is
    (λ leaves pays. some_left
    (λ asked. (rest : ℕ) × C.pays c.next_row.new.candidates v.files c.args.maps.now rest (drop asked prices) × (v.reads + rest ≤ u.reads + (most + sum (take asked prices))))
    c.self.inside.rows_left (answers (where_of c.self.inside.filter)) left (λ none. search rules) (c.in_ok-found.ensures.reads left most prices leaves pays))
    is pays
