use Rattle.std.proofs.Common.{◌≡◌, ◌∙◌, ◌+◌, ℕ, suc, List, ◌++◌, true, false, Option, sum, take, drop, refl, sym, ap, subst, arith}
use Rattle.std.proofs.lemmas.Result.{err_from_is_err_and}
use Rattle.sasi_host.specs.View.{counted}
use Rattle.sasi_types.specs.declared.class.Class.{Class}
use Rattle.sasi_model.specs.Cells.{Partition}
use Rattle.sasi_model.specs.Filters.{answers, where_of}
use Rattle.sasi_ranges.proofs.Calling.{can_still, fails_nothing, faults_handed, faults_memory, faults_ok, faults_then, spent_err, streamed_then, streams_nothing}
use Rattle.sasi_recheck.specs.Rows.{KnowsWhere, asked_to, counted_on}
use Rattle.sasi_recheck.specs.Sources.{GivesFirst, first_price}
use Rattle.sasi_recheck.proofs.TurnLaws.{HasPassed, all_passed, asked_end, asked_more, asked_row, drop_next, entry_is, given_printable, looked_end, looked_row, passed_none, passed_one, sum_more, sum_next}
use Rattle.sasi_recheck.proofs.next_row.next_row.Goals as goal

pub loop-turn-init : goal.loop-turn-init
loop-turn-init g c =
    let v = g.H.Host.view c.args.host.now in
    let C = g.C.Candidates in
    record {
      can = c.requires.read;
      ready = c.requires.ready;
      passed = λ left is. passed_none (answers (where_of c.args.filter.now)) (C.leaves c.args.candidates.now v.files c.args.maps.now) left is;
      count = refl;
      paid = λ most prices pays. (most, pays, omega arith);
      uses = λ number uses. uses;
      kept = refl;
      prints = λ kind prints. prints;
      kinds = refl;
      read = streams_nothing _ _ (C.opens c.args.candidates.now) v c.requires.read.agrees;
      faults = λ n. fails_nothing (C.shows c.args.candidates.now v.files) (C.leaves c.args.candidates.now v.files c.args.maps.now) v n;
      shows_less = λ files damage is. is;
    }

-- ---- a source that fails

pub returns-in_err-next-clause-reads : goal.returns-in_err-next-clause-reads
returns-in_err-next-clause-reads g c left most prices is pays =
    let q = err_from_is_err_and c.from_residual.result c.from_residual.ensures.1 in
    let on = c.loop-turn.invariant in
    let C = g.C.Candidates in
    let u = g.H.Host.view c.args.host.now in
    let v = g.H.Host.view c.loop-turn.host in
    let w = g.H.Host.view c.next.new.host in
    let test = answers (where_of c.args.filter.now) in
    let paid = on.paid most prices pays in
    let one = spent_err (λ rest. C.pays c.next.new.self w.files c.args.maps.now rest (drop 1 (drop c.loop-turn._turn prices))) (paid.0 + first_price (drop c.loop-turn._turn prices)) v.reads w.reads c.next.result c.in_err-next.field-0.0 c.in_err-next.was (c.next.ensures.reads paid.0 (drop c.loop-turn._turn prices) paid.1) in
    let more = sum_more (suc c.loop-turn._turn) (asked_to test left) prices (asked_more test (C.leaves c.loop-turn.candidates v.files c.args.maps.now) left c.loop-turn._turn (on.passed left is)) in
    rw q.1 (omega (arith, one, paid.2, more, sum_next c.loop-turn._turn prices))

pub returns-in_err-next-clause-read : goal.returns-in_err-next-clause-read
returns-in_err-next-clause-read g c =
    streamed_then _ _ _ _ _ _ _ _ (g.H.Host.view c.args.host.now) (g.H.Host.view c.loop-turn.host) (g.H.Host.view c.next.new.host) c.loop-turn.invariant.read c.next.ensures.read

pub returns-in_err-next-clause-faults : goal.returns-in_err-next-clause-faults
returns-in_err-next-clause-faults g c =
    let q = err_from_is_err_and c.from_residual.result c.from_residual.ensures.1 in
    let on = c.loop-turn.invariant in
    let u = g.H.Host.view c.args.host.now in
    let v = g.H.Host.view c.loop-turn.host in
    let w = g.H.Host.view c.next.new.host in
    rw (q.1, q.2) (faults_then _ _ _ _ _ u v w 0 _ (λ left is. (let passed = on.passed left is in (passed.rest, passed.others))) (on.faults 0)
    (faults_handed _ _ _ _ v w c.next.result c.in_err-next.field-0.0 c.in_err-next.was (λ left is. (left, is)) c.next.ensures.faults))

-- ---- the end

pub returns-in-None-clause-row : goal.returns-in-None-clause-row
returns-in-None-clause-row g c left is =
    let on = c.loop-turn.invariant in
    let C = g.C.Candidates in
    let passed = on.passed left is in
    let w = g.H.Host.view c.next.new.host in
    let end = subst (λ (o : Option (List ℕ × Partition)). GivesFirst (C.leaves c.next.new.self w.files c.args.maps.now) passed.rest o) c.in-None.is (c.in_ok-next.ensures.gives passed.rest passed.others) in
    (all_passed (answers (where_of c.args.filter.now)) _ left c.loop-turn._turn passed end.0, end.1)

pub returns-in-None-clause-checked : goal.returns-in-None-clause-checked
returns-in-None-clause-checked g c left is =
    let on = c.loop-turn.invariant in
    let C = g.C.Candidates in
    let passed = on.passed left is in
    let w = g.H.Host.view c.next.new.host in
    let end = subst (λ (o : Option (List ℕ × Partition)). GivesFirst (C.leaves c.next.new.self w.files c.args.maps.now) passed.rest o) c.in-None.is (c.in_ok-next.ensures.gives passed.rest passed.others) in
    on.count ∙ ap (counted_on c.args.checked.now) (sym (looked_end (answers (where_of c.args.filter.now)) _ left c.loop-turn._turn passed end.0))

pub returns-in-None-clause-reads : goal.returns-in-None-clause-reads
returns-in-None-clause-reads g c left most prices is pays =
    let on = c.loop-turn.invariant in
    let C = g.C.Candidates in
    let test = answers (where_of c.args.filter.now) in
    let passed = on.passed left is in
    let w = g.H.Host.view c.next.new.host in
    let end = subst (λ (o : Option (List ℕ × Partition)). GivesFirst (C.leaves c.next.new.self w.files c.args.maps.now) passed.rest o) c.in-None.is (c.in_ok-next.ensures.gives passed.rest passed.others) in
    let asked = asked_end test _ left c.loop-turn._turn passed end.0 in
    let paid = on.paid most prices pays in
    let one = c.in_ok-next.ensures.reads paid.0 (drop c.loop-turn._turn prices) paid.1 in (
      one.0,
      subst (λ (l : List ℕ). C.pays c.next.new.self w.files c.args.maps.now one.0 l) (sym (ap (λ k. drop k prices) asked ∙ drop_next c.loop-turn._turn prices)) one.1,
      omega (arith, one.2, paid.2, sum_next c.loop-turn._turn prices, ap (λ k. sum (take k prices)) asked),
    )

pub returns-in-None-clause-read : goal.returns-in-None-clause-read
returns-in-None-clause-read g c =
    streamed_then _ _ _ _ _ _ _ _ (g.H.Host.view c.args.host.now) (g.H.Host.view c.loop-turn.host) (g.H.Host.view c.next.new.host) c.loop-turn.invariant.read c.next.ensures.read

pub returns-in-None-clause-faults : goal.returns-in-None-clause-faults
returns-in-None-clause-faults g c =
    let on = c.loop-turn.invariant in
    let u = g.H.Host.view c.args.host.now in
    let v = g.H.Host.view c.loop-turn.host in
    let w = g.H.Host.view c.next.new.host in
    faults_ok _ _ _ _ u w c.in_ok-next.field-0 _ (faults_then _ _ _ _ _ u v w 0 _ (λ left is. (let passed = on.passed left is in (passed.rest, passed.others))) (on.faults 0) c.in_ok-next.ensures.faults)

-- ---- a candidate

pub answers-requires-clause-texts : goal.answers-requires-clause-texts
answers-requires-clause-texts g c =
    let kind = c.requires.prints.0 in
    (given_printable kind c.in_ok-next.field-0 c.in-Some.key c.in-Some.part c.in-Some.is (c.in_ok-next.ensures.prints kind (c.loop-turn.invariant.prints kind c.requires.prints.1))).texts

pub answers-requires-clause-known : goal.answers-requires-clause-known
answers-requires-clause-known g c = subst (λ (kinds : List Class). KnowsWhere kinds c.args.filter.now) (sym c.loop-turn.invariant.kinds) c.requires.known

pub returns-in_err-answers-in-Some-clause-reads : goal.returns-in_err-answers-in-Some-clause-reads
returns-in_err-answers-in-Some-clause-reads g c left most prices is pays =
    let q = err_from_is_err_and c.from_residual-in_err-answers-in-Some.result c.from_residual-in_err-answers-in-Some.ensures.1 in
    let on = c.loop-turn.invariant in
    let C = g.C.Candidates in
    let v = g.H.Host.view c.loop-turn.host in
    let test = answers (where_of c.args.filter.now) in
    let paid = on.paid most prices pays in
    let one = c.in_ok-next.ensures.reads paid.0 (drop c.loop-turn._turn prices) paid.1 in
    let more = sum_more (suc c.loop-turn._turn) (asked_to test left) prices (asked_more test (C.leaves c.loop-turn.candidates v.files c.args.maps.now) left c.loop-turn._turn (on.passed left is)) in
    rw q.1 (omega (arith, one.2, paid.2, more, sum_next c.loop-turn._turn prices))

pub returns-in_err-answers-in-Some-clause-read : goal.returns-in_err-answers-in-Some-clause-read
returns-in_err-answers-in-Some-clause-read g c =
    streamed_then _ _ _ _ _ _ _ _ (g.H.Host.view c.args.host.now) (g.H.Host.view c.loop-turn.host) (g.H.Host.view c.next.new.host) c.loop-turn.invariant.read c.next.ensures.read

pub returns-in_err-answers-in-Some-clause-faults : goal.returns-in_err-answers-in-Some-clause-faults
returns-in_err-answers-in-Some-clause-faults g c =
    let q = err_from_is_err_and c.from_residual-in_err-answers-in-Some.result c.from_residual-in_err-answers-in-Some.ensures.1 in
    let on = c.loop-turn.invariant in
    let u = g.H.Host.view c.args.host.now in
    let v = g.H.Host.view c.loop-turn.host in
    let w = g.H.Host.view c.next.new.host in
    rw (q.1, q.2) (faults_memory _ _ _ _ u w c.in_ok-next.field-0 (faults_then _ _ _ _ _ u v w 0 _ (λ left is. (let passed = on.passed left is in (passed.rest, passed.others))) (on.faults 0) c.in_ok-next.ensures.faults))

pub returns-then-branch-clause-row : goal.returns-then-branch-clause-row
returns-then-branch-clause-row g c left is =
    let on = c.loop-turn.invariant in
    let C = g.C.Candidates in
    let test = answers (where_of c.args.filter.now) in
    let passed = on.passed left is in
    let w = g.H.Host.view c.next.new.host in
    let given = subst (λ (o : Option (List ℕ × Partition)). GivesFirst (C.leaves c.next.new.self w.files c.args.maps.now) passed.rest o) c.in-Some.is (c.in_ok-next.ensures.gives passed.rest passed.others) in
    record {
      failed = passed.failed;
      fail = passed.fail;
      entry = given.0;
      passes = ap test (sym (entry_is given.0 c.in-Some.key c.in-Some.part given.3 given.4)) ∙ sym (c.in_ok-answers-in-Some.ensures.answers given.0.0.token) ∙ c.if-branch.true;
      rest = given.1;
      parts = passed.parts ∙ ap (λ l. passed.failed ++ l) given.2;
      key_is = given.3;
      part_is = given.4;
      others = given.5;
    }

pub returns-then-branch-clause-checked : goal.returns-then-branch-clause-checked
returns-then-branch-clause-checked g c left is =
    let on = c.loop-turn.invariant in
    let C = g.C.Candidates in
    let test = answers (where_of c.args.filter.now) in
    let passed = on.passed left is in
    let w = g.H.Host.view c.next.new.host in
    let given = subst (λ (o : Option (List ℕ × Partition)). GivesFirst (C.leaves c.next.new.self w.files c.args.maps.now) passed.rest o) c.in-Some.is (c.in_ok-next.ensures.gives passed.rest passed.others) in
    let passes : test given.0 ≡ true = ap test (sym (entry_is given.0 c.in-Some.key c.in-Some.part given.3 given.4)) ∙ sym (c.in_ok-answers-in-Some.ensures.answers given.0.0.token) ∙ c.if-branch.true in
    c.saturating_add.ensures ∙ ap counted on.count ∙ ap (counted_on c.args.checked.now) (sym (looked_row test _ left c.loop-turn._turn passed given.0 given.1 given.2 passes))

pub returns-then-branch-clause-reads : goal.returns-then-branch-clause-reads
returns-then-branch-clause-reads g c left most prices is pays =
    let on = c.loop-turn.invariant in
    let C = g.C.Candidates in
    let test = answers (where_of c.args.filter.now) in
    let passed = on.passed left is in
    let w = g.H.Host.view c.next.new.host in
    let given = subst (λ (o : Option (List ℕ × Partition)). GivesFirst (C.leaves c.next.new.self w.files c.args.maps.now) passed.rest o) c.in-Some.is (c.in_ok-next.ensures.gives passed.rest passed.others) in
    let passes : test given.0 ≡ true = ap test (sym (entry_is given.0 c.in-Some.key c.in-Some.part given.3 given.4)) ∙ sym (c.in_ok-answers-in-Some.ensures.answers given.0.0.token) ∙ c.if-branch.true in
    let asked = asked_row test _ left c.loop-turn._turn passed given.0 given.1 given.2 passes in
    let paid = on.paid most prices pays in
    let one = c.in_ok-next.ensures.reads paid.0 (drop c.loop-turn._turn prices) paid.1 in (
      one.0,
      subst (λ (l : List ℕ). C.pays c.next.new.self w.files c.args.maps.now one.0 l) (sym (ap (λ k. drop k prices) asked ∙ drop_next c.loop-turn._turn prices)) one.1,
      omega (arith, one.2, paid.2, sum_next c.loop-turn._turn prices, ap (λ k. sum (take k prices)) asked),
    )

pub returns-then-branch-clause-read : goal.returns-then-branch-clause-read
returns-then-branch-clause-read g c =
    streamed_then _ _ _ _ _ _ _ _ (g.H.Host.view c.args.host.now) (g.H.Host.view c.loop-turn.host) (g.H.Host.view c.next.new.host) c.loop-turn.invariant.read c.next.ensures.read

pub returns-then-branch-clause-faults : goal.returns-then-branch-clause-faults
returns-then-branch-clause-faults g c =
    let on = c.loop-turn.invariant in
    let u = g.H.Host.view c.args.host.now in
    let v = g.H.Host.view c.loop-turn.host in
    let w = g.H.Host.view c.next.new.host in
    faults_ok _ _ _ _ u w c.in_ok-next.field-0 _ (faults_then _ _ _ _ _ u v w 0 _ (λ left is. (let passed = on.passed left is in (passed.rest, passed.others))) (on.faults 0) c.in_ok-next.ensures.faults)

pub loop-turn-preserved : goal.loop-turn-preserved
loop-turn-preserved g c =
    let on = c.loop-turn.invariant in
    let C = g.C.Candidates in
    let test = answers (where_of c.args.filter.now) in
    let u = g.H.Host.view c.args.host.now in
    let v = g.H.Host.view c.loop-turn.host in
    let w = g.H.Host.view c.next.new.host in
    let more : suc c.loop-turn._turn ≡ c.loop-turn._turn + 1 = omega arith in
    record {
      can = can_still _ _ _ _ _ _ v w on.can c.next.ensures.read;
      ready = c.in_ok-next.ensures.ready;
      passed = λ left is.
          let passed = on.passed left is in
          let given = subst (λ (o : Option (List ℕ × Partition)). GivesFirst (C.leaves c.next.new.self w.files c.args.maps.now) passed.rest o) c.in-Some.is (c.in_ok-next.ensures.gives passed.rest passed.others) in
          let fails : test given.0 ≡ false = ap test (sym (entry_is given.0 c.in-Some.key c.in-Some.part given.3 given.4)) ∙ sym (c.in_ok-answers-in-Some.ensures.answers given.0.0.token) ∙ c.if-branch.false in
          subst (λ n. HasPassed test (C.leaves c.next.new.self w.files c.args.maps.now) left n) more
          (passed_one test (C.leaves c.loop-turn.candidates v.files c.args.maps.now) (C.leaves c.next.new.self w.files c.args.maps.now) left c.loop-turn._turn given.0 given.1 passed given.2 fails given.5);
      count = c.saturating_add.ensures ∙ ap counted on.count ∙ ap (counted_on c.args.checked.now) more;
      paid = λ most prices pays.
          let paid = on.paid most prices pays in
          let one = c.in_ok-next.ensures.reads paid.0 (drop c.loop-turn._turn prices) paid.1 in (
            one.0,
            subst (λ (l : List ℕ). C.pays c.next.new.self w.files c.args.maps.now one.0 l) (sym (drop_next c.loop-turn._turn prices) ∙ ap (λ n. drop n prices) more) one.1,
            omega (arith, one.2, paid.2, sum_next c.loop-turn._turn prices, ap (λ n. sum (take n prices)) more),
          );
      uses = λ number uses. on.uses number (c.next.ensures.uses number uses);
      kept = c.next.ensures.kept ∙ on.kept;
      prints = λ kind prints. c.in_ok-next.ensures.still_prints kind (on.prints kind prints);
      kinds = c.answers.ensures.kinds ∙ on.kinds;
      read = streamed_then _ _ _ _ _ _ _ _ u v w on.read c.next.ensures.read;
      faults = λ n. faults_ok _ _ _ _ u w c.in_ok-next.field-0 n (faults_then _ _ _ _ _ u v w 0 _ (λ left is. (let passed = on.passed left is in (passed.rest, passed.others))) (on.faults 0) c.in_ok-next.ensures.faults);
      shows_less = λ files damage is. on.shows_less files damage (c.next.ensures.shows_less files damage is);
    }

-- ---- more turns than there are

pub returns-clause-reads : goal.returns-clause-reads
returns-clause-reads g c left most prices is pays =
    let on = c.loop-turn.invariant in
    let C = g.C.Candidates in
    let v = g.H.Host.view c.loop-turn.host in
    let test = answers (where_of c.args.filter.now) in
    let paid = on.paid most prices pays in
    let asked = asked_more test (C.leaves c.loop-turn.candidates v.files c.args.maps.now) left c.loop-turn._turn (on.passed left is) in
    omega (arith, paid.2, sum_more c.loop-turn._turn (asked_to test left) prices (omega (arith, asked)))

pub returns-clause-faults : goal.returns-clause-faults
returns-clause-faults g c =
    faults_memory _ _ _ _ (g.H.Host.view c.args.host.now) (g.H.Host.view c.loop-turn.host) 0 (c.loop-turn.invariant.faults 0)
