use Rattle.std.proofs.Common.{◌≡◌, ◌∙◌, ap, refl, subst, sym, ℕ, Option, Some, true, false}
use Rattle.std.proofs.lemmas.Result.{err_from_is_err_and}
use Rattle.sasi_types.specs.declared.tree.Pair.{Pair}
use Rattle.sasi_host.specs.declared.name.FileName.{FileName}
use Rattle.sasi_host.proofs.ChangeLaws.{stays, then_same}
use Rattle.sasi_host.specs.Disk.{Same}
use Rattle.sasi_host.specs.View.{IsThere}
use Rattle.std.proofs.Common.{inl}
use Rattle.sasi_tokentree.proofs.AfterRead.{reads_still}
use Rattle.sasi_treemerge.specs.Merges.{Gives, ReadsEach, Takes, held_of, is_left, parts_of, sources_of}
use Rattle.sasi_treemerge.proofs.Merging.{each_none, left_same, named_all, no_false_of, shown_of, trees_on, trees_same, within_all}
use Rattle.sasi_treemerge.proofs.Taking.{each_after, each_entry_after, fewer_parts, gives_after, gives_none, gives_still, head_least, head_listed, keeps_given, keeps_none, keeps_passed, trees_after}
use Rattle.sasi_treemerge.proofs.PairOrder.{last_gone, left_behind}
use Rattle.sasi_treemerge.proofs.Stepping.{pays_none, pays_on, read_next, there_same}
use Rattle.sasi_treemerge.proofs.merge.TreeMerge.next.Goals as goal

pub loop-pair-init : goal.loop-pair-init
loop-pair-init g c =
    let v = g.H.Host.view c.args.host.now in
    record {
      there = c.requires.read.there;
      read = record { agrees = c.requires.read.agrees; covers = λ name at. inl at; changes = stays v };
      can = c.requires.merge;
      file = refl;
      last = refl;
      floor = refl;
      trees = trees_same (sources_of c.args.self.now);
      keeps = λ pair is. inl is;
      reads_each = each_none v c.args.self.now.file (sources_of c.args.self.now);
      pays = pays_none v _;
      each = λ bytes lists is each. each;
      gives = λ bytes lists is gives. gives;
    }

pub returns-in_err-pair-clause-damaged : goal.returns-in_err-pair-clause-damaged
returns-in_err-pair-clause-damaged g c =
    let p = err_from_is_err_and c.from_residual.result c.from_residual.ensures.1 in
    let here = c.loop-pair.invariant in
    rw (p.1, p.2) (shown_of (g.H.Host.view c.args.host.now) _ c.args.self.now.file c.loop-pair.self.file (sources_of c.args.self.now) (sources_of c.loop-pair.self) c.in_err-pair.field-0.0 here.trees here.read.changes here.file c.in_err-pair.ensures.damaged)

pub returns-in_err-pair-clause-undamaged : goal.returns-in_err-pair-clause-undamaged
returns-in_err-pair-clause-undamaged g c =
    let p = err_from_is_err_and c.from_residual.result c.from_residual.ensures.1 in
    let here = c.loop-pair.invariant in
    rw (p.1, p.2) (no_false_of (g.H.Host.view c.args.host.now) _ c.args.self.now.file c.loop-pair.self.file (sources_of c.args.self.now) (sources_of c.loop-pair.self) c.in_err-pair.field-0.0 here.each here.read.changes here.file c.in_err-pair.ensures.undamaged)

pub returns-in_err-pair-clause-read : goal.returns-in_err-pair-clause-read
returns-in_err-pair-clause-read g c = let here = c.loop-pair.invariant in read_next _ _ _ _ _ _ _ _ c.args.self.now.file c.loop-pair.self.file here.file here.read c.take_least.ensures.read

pub returns-in_default-clause-read : goal.returns-in_default-clause-read
returns-in_default-clause-read g c = let here = c.loop-pair.invariant in read_next _ _ _ _ _ _ _ _ c.args.self.now.file c.loop-pair.self.file here.file here.read c.take_least.ensures.read

pub returns-then-is_left-clause-read : goal.returns-then-is_left-clause-read
returns-then-is_left-clause-read g c = let here = c.loop-pair.invariant in read_next _ _ _ _ _ _ _ _ c.args.self.now.file c.loop-pair.self.file here.file here.read c.take_least.ensures.read

pub returns-in_default-clause-ok : goal.returns-in_default-clause-ok
returns-in_default-clause-ok g c bytes lists is gives =
    let w = g.H.Host.view c.loop-pair.host in
    let here = c.loop-pair.invariant in
    let same = c.take_least.ensures.same in
    let steps = subst (λ (o : Option Pair). Takes w (parts_of c.loop-pair.self) (parts_of c.take_least.new.self) o) c.in_default.is c.in_ok-pair.ensures.ok in
    let gv = here.gives bytes lists is gives in
    let last = c.args.self.now.last in
    let floor = c.args.self.now.floor in (
      gives_none bytes lists last floor (parts_of c.loop-pair.self) steps.0 steps.1 gv,
      subst (λ (l : Option Pair). Gives bytes lists l c.take_least.new.self.floor (parts_of c.take_least.new.self)) (sym (same.1 ∙ here.last))
          (subst (λ (n : ℕ). Gives bytes lists last n (parts_of c.take_least.new.self)) (sym (same.2 ∙ here.floor))
          (gives_still w bytes lists last floor (parts_of c.loop-pair.self) (parts_of c.take_least.new.self) steps gv)),
    )

pub returns-then-is_left-clause-ok : goal.returns-then-is_left-clause-ok
returns-then-is_left-clause-ok g c bytes lists is gives =
    let v = g.H.Host.view c.args.host.now in
    let w = g.H.Host.view c.loop-pair.host in
    let here = c.loop-pair.invariant in
    let same = c.take_least.ensures.same in
    let pair = c.in-Some.pair in
    let last = c.args.self.now.last in
    let floor = c.args.self.now.floor in
    let steps = subst (λ (o : Option Pair). Takes w (parts_of c.loop-pair.self) (parts_of c.take_least.new.self) o) c.in-Some.is c.in_ok-pair.ensures.ok in
    let gv = here.gives bytes lists is gives in
    let named = named_all w c.loop-pair.self here.can in
    let reads = reads_still v w c.args.self.now.file c.loop-pair.self.file bytes here.read.changes here.file is in
    let now = left_same last c.take_least.new.self.last floor c.take_least.new.self.floor pair (same.1 ∙ here.last) (same.2 ∙ here.floor) in
    let left : is_left last floor pair ≡ true = sym now ∙ sym c.is_left.ensures ∙ c.if-is_left.true in (
      (
        head_listed w c.loop-pair.self.file bytes lists _ _ pair named reads gv.each last floor steps gv,
        left,
        head_least w c.loop-pair.self.file bytes lists _ _ pair named reads gv.each last floor steps gv,
      ),
      gives_after w c.loop-pair.self.file bytes lists _ _ pair named reads gv.each last floor (Some pair) c.take_least.new.self.floor steps gv
          (λ p l. left_behind last floor pair p left (ap (λ (n : ℕ). is_left (Some pair) n p) (sym (same.2 ∙ here.floor)) ∙ l)) (last_gone pair c.take_least.new.self.floor),
    )

pub returns-then-is_left-clause-trees : goal.returns-then-is_left-clause-trees
returns-then-is_left-clause-trees g c =
    let w = g.H.Host.view c.loop-pair.host in
    let steps = subst (λ (o : Option Pair). Takes w (parts_of c.loop-pair.self) (parts_of c.take_least.new.self) o) c.in-Some.is c.in_ok-pair.ensures.ok in
    trees_on (sources_of c.args.self.now) (sources_of c.loop-pair.self) (sources_of c.take_least.new.self) c.loop-pair.invariant.trees (trees_after w c.in-Some.pair _ _ steps)

pub loop-pair-smaller : goal.loop-pair-smaller
loop-pair-smaller g c =
    let w = g.H.Host.view c.loop-pair.host in
    let steps = subst (λ (o : Option Pair). Takes w (parts_of c.loop-pair.self) (parts_of c.take_least.new.self) o) c.in-Some.is c.in_ok-pair.ensures.ok in
    fewer_parts w c.in-Some.pair (parts_of c.loop-pair.self) (parts_of c.take_least.new.self) steps (within_all w c.loop-pair.self c.loop-pair.invariant.can)

pub loop-pair-preserved : goal.loop-pair-preserved
loop-pair-preserved g c =
    let v = g.H.Host.view c.args.host.now in
    let w = g.H.Host.view c.loop-pair.host in
    let u = g.H.Host.view c.take_least.new.host in
    let here = c.loop-pair.invariant in
    let same = c.take_least.ensures.same in
    let pair = c.in-Some.pair in
    let last = c.args.self.now.last in
    let floor = c.args.self.now.floor in
    let steps = subst (λ (o : Option Pair). Takes w (parts_of c.loop-pair.self) (parts_of c.take_least.new.self) o) c.in-Some.is c.in_ok-pair.ensures.ok in
    let named = named_all w c.loop-pair.self here.can in
    let now = left_same last c.take_least.new.self.last floor c.take_least.new.self.floor pair (same.1 ∙ here.last) (same.2 ∙ here.floor) in
    let gone : is_left last floor pair ≡ false = sym now ∙ sym c.is_left.ensures ∙ c.if-is_left.false in
    record {
      there = subst (λ (n : FileName). IsThere u n) (sym same.0) (there_same w u c.loop-pair.self.file c.take_least.ensures.read.changes here.there);
      read = read_next _ _ _ _ _ _ _ _ c.args.self.now.file c.loop-pair.self.file here.file here.read c.take_least.ensures.read;
      can = c.in_ok-pair.ensures.merge;
      file = same.0 ∙ here.file;
      last = same.1 ∙ here.last;
      floor = same.2 ∙ here.floor;
      trees = trees_on (sources_of c.args.self.now) (sources_of c.loop-pair.self) (sources_of c.take_least.new.self) here.trees (trees_after w pair _ _ steps);
      reads_each = each_entry_after v u w c.args.self.now.file pair (parts_of c.loop-pair.self) (parts_of c.take_least.new.self) c.take_least.new.self steps c.in_ok-pair.ensures.merge refl (same.0 ∙ here.file)
          (then_same _ _ _ Same here.read.changes c.take_least.ensures.read.changes) (sources_of c.args.self.now) here.reads_each;
      keeps = keeps_passed w last floor pair (held_of c.args.self.now) (parts_of c.loop-pair.self) (parts_of c.take_least.new.self) steps gone here.keeps;
      pays = pays_on v w u _ _ _ _ c.in_ok-pair.field-0 here.pays c.in_ok-pair.ensures.causes c.in_ok-pair.ensures.reads;
      each = λ bytes lists is each.
          each_after w c.loop-pair.self.file bytes lists _ _ pair named (reads_still v w c.args.self.now.file c.loop-pair.self.file bytes here.read.changes here.file is) (here.each bytes lists is each) steps;
      gives = λ bytes lists is gives.
          (let gv = here.gives bytes lists is gives in
          gives_after w c.loop-pair.self.file bytes lists _ _ pair named (reads_still v w c.args.self.now.file c.loop-pair.self.file bytes here.read.changes here.file is) gv.each last floor last floor steps gv (λ p l. l) gone);
    }

pub returns-in_default-clause-ends : goal.returns-in_default-clause-ends
returns-in_default-clause-ends g c none =
    let steps = subst (λ (o : Option Pair). Takes (g.H.Host.view c.loop-pair.host) (parts_of c.loop-pair.self) (parts_of c.take_least.new.self) o) c.in_default.is c.in_ok-pair.ensures.ok in
    (steps.2, steps.3)

pub returns-in_default-clause-held : goal.returns-in_default-clause-held
returns-in_default-clause-held g c =
    let w = g.H.Host.view c.loop-pair.host in
    let steps = subst (λ (o : Option Pair). Takes w (parts_of c.loop-pair.self) (parts_of c.take_least.new.self) o) c.in_default.is c.in_ok-pair.ensures.ok in
    keeps_none w c.args.self.now.last c.args.self.now.floor (held_of c.args.self.now) (parts_of c.loop-pair.self) (parts_of c.take_least.new.self) steps c.loop-pair.invariant.keeps

pub returns-then-is_left-clause-held : goal.returns-then-is_left-clause-held
returns-then-is_left-clause-held g c =
    let w = g.H.Host.view c.loop-pair.host in
    let steps = subst (λ (o : Option Pair). Takes w (parts_of c.loop-pair.self) (parts_of c.take_least.new.self) o) c.in-Some.is c.in_ok-pair.ensures.ok in
    keeps_given w c.args.self.now.last c.args.self.now.floor c.in-Some.pair (held_of c.args.self.now) (parts_of c.loop-pair.self) (parts_of c.take_least.new.self) steps c.loop-pair.invariant.keeps

pub returns-in_default-clause-each : goal.returns-in_default-clause-each
returns-in_default-clause-each g c =
    let steps = subst (λ (o : Option Pair). Takes (g.H.Host.view c.loop-pair.host) (parts_of c.loop-pair.self) (parts_of c.take_least.new.self) o) c.in_default.is c.in_ok-pair.ensures.ok in
    subst (λ (l : _). ReadsEach (g.H.Host.view c.args.host.now) c.args.self.now.file (sources_of c.args.self.now) l) (steps.0 ∙ sym steps.2) c.loop-pair.invariant.reads_each

pub returns-then-is_left-clause-each : goal.returns-then-is_left-clause-each
returns-then-is_left-clause-each g c =
    let w = g.H.Host.view c.loop-pair.host in
    let here = c.loop-pair.invariant in
    let steps = subst (λ (o : Option Pair). Takes w (parts_of c.loop-pair.self) (parts_of c.take_least.new.self) o) c.in-Some.is c.in_ok-pair.ensures.ok in
    each_entry_after (g.H.Host.view c.args.host.now) (g.H.Host.view c.take_least.new.host) w c.args.self.now.file c.in-Some.pair (parts_of c.loop-pair.self) (parts_of c.take_least.new.self) c.take_least.new.self steps c.in_ok-pair.ensures.merge refl
    (c.take_least.ensures.same.0 ∙ here.file) (then_same _ _ _ Same here.read.changes c.take_least.ensures.read.changes) (sources_of c.args.self.now) here.reads_each

pub returns-then-is_left-clause-ends : goal.returns-then-is_left-clause-ends
returns-then-is_left-clause-ends g c none = absurd cc

pub returns-then-is_left-clause-behind : goal.returns-then-is_left-clause-behind
returns-then-is_left-clause-behind g c =
    let here = c.loop-pair.invariant in
    let same = c.take_least.ensures.same in
    sym (left_same c.args.self.now.last c.take_least.new.self.last c.args.self.now.floor c.take_least.new.self.floor c.in-Some.pair (same.1 ∙ here.last) (same.2 ∙ here.floor)) ∙ sym c.is_left.ensures ∙ c.if-is_left.true
