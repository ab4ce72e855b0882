use Rattle.std.proofs.Common.{◌≡◌, ◌∙◌, ◌+◌, ◌*◌, ap, arith, refl, rules, subst, Bool, true, false, Option}
use Rattle.std.proofs.lemmas.Result.{err_from_is_err_and}
use Rattle.sasi_host.specs.Disk.{Same}
use Rattle.sasi_host.proofs.ChangeLaws.{stays, then_same}
use Rattle.sasi_host.proofs.PageReadingLaws.{read_of, read_then}
use Rattle.sasi_host.specs.declared.name.FileName.{FileName}
use Rattle.sasi_types.specs.declared.column.ColumnType.{ColumnType}
use Rattle.sasi_tokentree.proofs.AfterRead.{reads_still}
use Rattle.sasi_treemerge.specs.Merges.{parts_of, sources_of, unread_of}
use Rattle.sasi_treemerge.proofs.Merging.{merge_still}
use Rattle.sasi_treemerge.proofs.Stepping.{read_next}
use Rattle.sasi_termblocks.specs.declared.block_ref.BlockRef.{BlockRef}
use Rattle.std.specs.Prelude.{IfSome}
use Rattle.sasi_types.specs.declared.mode.Mode.{Mode}
use Rattle.sasi_indexwrite.specs.Format.{form_of}
use Rattle.sasi_termblocks.specs.declared.list_form.ListForm.{ListForm}
use Rattle.sasi_termblocks.specs.Forms.{HasForm}
use Rattle.sasi_termblocks.specs.declared.term_entry.TermEntry.{TermEntry}
use Rattle.sasi_termblocks.specs.Scans.{GivesTree, ReadsSome, Scan}
use Rattle.sasi_termblocks.proofs.Steps.{here_some}
use Rattle.sasi_indexread.specs.Asked.{asked_lists, lower}
use Rattle.sasi_indexread.specs.Collects.{AddsEntry}
use Rattle.sasi_indexread.proofs.Collecting.{Collects}
use Rattle.sasi_indexread.proofs.Counting.{Costs, costs_begin, costs_end, costs_on, entry_within, next_within, none_added}
use Rattle.sasi_indexread.proofs.ReadChains.{spends_none, spends_on, there_same}
use Rattle.sasi_indexread.proofs.Scanning.{blocks_shown, collects_further, comes_to_end, entry_listed, entry_there, gives_at, list_shown, no_false_blocks, no_false_list, passes_all, starts, stops_here}
use Rattle.sasi_indexread.proofs.collect.add_terms.Goals as goal

pub returns-in_err-entry-clause-damaged : goal.returns-in_err-entry-clause-damaged
returns-in_err-entry-clause-damaged g c =
    let p = err_from_is_err_and c.from_residual.result c.from_residual.ensures.1 in
    let v = g.H.Host.view c.args.host.now in
    rw (p.1, p.2) (blocks_shown v v c.args.index.now c.new-blocks.result.buffered.file c.new-blocks.result.blocks c.new-blocks.result.form c.in_err-entry.field-0.0 (stays v)
    (ap (λ (s : Scan). s.buffered.file) c.new-blocks.ensures ∙ c.file.ensures) (ap (λ (s : Scan). s.blocks) c.new-blocks.ensures ∙ c.blocks-2.ensures) (ap (λ (s : Scan). s.form) c.new-blocks.ensures ∙ c.form_of.ensures ∙ ap (λ (m : Mode). form_of m) c.mode.ensures) c.in_err-entry.ensures.damaged)

pub returns-in_err-entry-clause-undamaged : goal.returns-in_err-entry-clause-undamaged
returns-in_err-entry-clause-undamaged g c =
    let p = err_from_is_err_and c.from_residual.result c.from_residual.ensures.1 in
    let v = g.H.Host.view c.args.host.now in
    rw (p.1, p.2) (no_false_blocks v v c.args.index.now c.new-blocks.result.buffered.file c.new-blocks.result.blocks c.new-blocks.result.form c.in_err-entry.field-0.0 (λ bytes is. (g.met.H.Host.sound c.args.host.now).fits c.args.index.now.file bytes is) (stays v)
    (ap (λ (s : Scan). s.buffered.file) c.new-blocks.ensures ∙ c.file.ensures) (ap (λ (s : Scan). s.blocks) c.new-blocks.ensures ∙ c.blocks-2.ensures) (ap (λ (s : Scan). s.form) c.new-blocks.ensures ∙ c.form_of.ensures ∙ ap (λ (m : Mode). form_of m) c.mode.ensures) c.in_err-entry.ensures.undamaged)

pub loop-turn-init : goal.loop-turn-init
loop-turn-init g c =
    let v = g.H.Host.view c.args.host.now in
    let y = g.H.Host.view c.seek.new.host in
    let index = c.args.index.now in
    let named : c.new-blocks.result.buffered.file ≡ index.file = ap (λ (s : Scan). s.buffered.file) c.new-blocks.ensures ∙ c.file.ensures in
    let ref : c.new-blocks.result.blocks ≡ index.blocks = ap (λ (s : Scan). s.blocks) c.new-blocks.ensures ∙ c.blocks-2.ensures in
    let form : c.new-blocks.result.form ≡ form_of index.mode = ap (λ (s : Scan). s.form) c.new-blocks.ensures ∙ c.form_of.ensures ∙ ap (λ (m : Mode). form_of m) c.mode.ensures in
    let sought : c.bytes.result.now ≡ lower index.kind c.args.op.now c.args.body.now = c.bytes.ensures ∙ c.lower.ensures ∙ ap (λ (k : ColumnType). lower k c.args.op.now c.args.body.now) c.kind.ensures in
    record {
      there = there_same v y index.file c.seek.ensures.read.changes c.requires.read.there;
      read = read_of _ _ _ _ _ _ _ _ named c.seek.ensures.read;
      spends = spends_on v v y 0 (c.new-blocks.result.blocks.levels + 2) (index.blocks.levels + 2 + 511 * 0) c.in_ok-entry.entry (spends_none v) c.in_ok-entry.ensures.causes (omega (arith, ap (λ (r : BlockRef). r.levels) ref));
      blocks_file = c.seek.ensures.read.file ∙ named;
      blocks_ref = c.seek.ensures.blocks ∙ ref;
      blocks_form = c.seek.ensures.same_form ∙ form;
      buffered = c.seek.ensures.read.buffered;
      named = c.requires.named;
      last = refl;
      floor = refl;
      can = merge_still v y c.args.merge.now c.seek.ensures.read.changes c.requires.merge;
      listed = c.requires.listed;
      stands = subst (λ (n : FileName). ReadsSome v n c.in_ok-entry.entry) named c.in_ok-entry.ensures.stands;
      tree = subst (λ (r : BlockRef). GivesTree r.first c.in_ok-entry.entry) ref c.in_ok-entry.ensures.tree;
      form = subst (λ (o : ListForm). IfSome c.in_ok-entry.entry (HasForm o)) form c.in_ok-entry.ensures.form;
      collects = λ content on.
          starts v index c.args.op.now c.args.body.now (λ bytes is. (g.met.H.Host.sound c.args.host.now).fits index.file bytes is) c.requires.some content on c.args.merge.now.last c.args.merge.now.floor c.seek.new.self.page c.seek.new.self.index
          c.in_ok-entry.entry (parts_of c.args.merge.now) c.new-blocks.result.buffered.file c.new-blocks.result.blocks c.bytes.result.now named ref sought c.in_ok-entry.ensures.ok (c.requires.spill content on);
      costs = λ content on.
          costs_begin v index c.args.op.now c.args.body.now (λ bytes is. (g.met.H.Host.sound c.args.host.now).fits index.file bytes is) c.requires.some content on c.seek.new.self.page c.seek.new.self.index
          (v.reads + 2 * unread_of (sources_of c.args.merge.now) + index.blocks.levels + 2) (y.reads + 2 * unread_of (sources_of c.args.merge.now)) c.in_ok-entry.entry c.new-blocks.result.buffered.file c.new-blocks.result.blocks c.bytes.result.now named ref
          c.in_ok-entry.ensures.ok (omega (arith, c.in_ok-entry.ensures.causes.reads, ap (λ (r : BlockRef). r.levels) ref));
    }

pub returns-in_default-clause-ok : goal.returns-in_default-clause-ok
returns-in_default-clause-ok g c content on =
    let here = c.loop-turn.invariant in
    let index = c.args.index.now in
    let m = c.args.merge.now in
    gives_at on.bytes (asked_lists content c.args.op.now c.args.body.now) m.last c.loop-turn.merge.last m.floor c.loop-turn.merge.floor (parts_of c.loop-turn.merge) here.last here.floor
    (comes_to_end (g.H.Host.view c.args.host.now) index c.args.op.now c.args.body.now (λ bytes is. (g.met.H.Host.sound c.args.host.now).fits index.file bytes is) c.requires.some content on m.last m.floor c.loop-turn._turn c.loop-turn.blocks.page
    c.loop-turn.blocks.index c.loop-turn.entry (parts_of c.loop-turn.merge) c.in_default.is (here.collects content on))

pub returns-in_err-add_entry-clause-damaged : goal.returns-in_err-add_entry-clause-damaged
returns-in_err-add_entry-clause-damaged g c =
    let p = err_from_is_err_and c.from_residual-in_err-add_entry.result c.from_residual-in_err-add_entry.ensures.1 in
    let v = g.H.Host.view c.args.host.now in
    let here = c.loop-turn.invariant in
    let index = c.args.index.now in
    rw (p.1, p.2) (list_shown v (g.H.Host.view c.loop-turn.host) index c.loop-turn.merge.file c.in-Some.found c.in_err-add_entry.field-0.0 here.read.changes here.named
    (subst (λ (o : Option TermEntry). ReadsSome v index.file o) c.in-Some.is here.stands) (subst (λ (o : Option TermEntry). GivesTree index.blocks.first o) c.in-Some.is here.tree) c.in_err-add_entry.ensures.damaged)

pub returns-in_err-add_entry-clause-undamaged : goal.returns-in_err-add_entry-clause-undamaged
returns-in_err-add_entry-clause-undamaged g c =
    let p = err_from_is_err_and c.from_residual-in_err-add_entry.result c.from_residual-in_err-add_entry.ensures.1 in
    let v = g.H.Host.view c.args.host.now in
    let here = c.loop-turn.invariant in
    let index = c.args.index.now in
    let m = c.args.merge.now in
    rw (p.1, p.2) (no_false_list v (g.H.Host.view c.loop-turn.host) index c.loop-turn.merge.file c.in-Some.found c.in_err-add_entry.field-0.0 (λ bytes is. (g.met.H.Host.sound c.args.host.now).fits index.file bytes is) here.read.changes here.named
    (λ content on. entry_there v index c.args.op.now c.args.body.now (λ bytes is. (g.met.H.Host.sound c.args.host.now).fits index.file bytes is) c.requires.some content on m.last m.floor c.loop-turn._turn c.loop-turn.blocks.page c.loop-turn.blocks.index c.in-Some.found
    (parts_of c.loop-turn.merge)
    (subst (λ (o : Option TermEntry). Collects on.bytes content index.blocks c.args.op.now c.args.body.now m.last m.floor c.loop-turn._turn c.loop-turn.blocks.page c.loop-turn.blocks.index o (parts_of c.loop-turn.merge)) c.in-Some.is (here.collects content on)))
    c.in_err-add_entry.ensures.undamaged)

pub returns-in_err-add_entry-clause-read : goal.returns-in_err-add_entry-clause-read
returns-in_err-add_entry-clause-read g c = read_next _ _ _ _ _ _ _ _ c.args.index.now.file c.loop-turn.merge.file c.loop-turn.invariant.named c.loop-turn.invariant.read c.add_entry.ensures.read

pub returns-then-not-branch-clause-read : goal.returns-then-not-branch-clause-read
returns-then-not-branch-clause-read g c = read_next _ _ _ _ _ _ _ _ c.args.index.now.file c.loop-turn.merge.file c.loop-turn.invariant.named c.loop-turn.invariant.read c.add_entry.ensures.read

pub returns-then-not-branch-clause-ok : goal.returns-then-not-branch-clause-ok
returns-then-not-branch-clause-ok g c content on =
    let w = g.H.Host.view c.loop-turn.host in
    let here = c.loop-turn.invariant in
    let index = c.args.index.now in
    let m = c.args.merge.now in
    let out : c.in_ok-add_entry.field-0 ≡ false = search (rules, c.if-not-branch.true) in
    let old = parts_of c.loop-turn.merge in
    let new = parts_of c.add_entry.new.merge in
    gives_at on.bytes (asked_lists content c.args.op.now c.args.body.now) m.last c.add_entry.new.merge.last m.floor c.add_entry.new.merge.floor new (c.add_entry.ensures.same.1 ∙ here.last) (c.add_entry.ensures.same.2 ∙ here.floor)
    (stops_here (g.H.Host.view c.args.host.now) index c.args.op.now c.args.body.now (λ bytes is. (g.met.H.Host.sound c.args.host.now).fits index.file bytes is) c.requires.some content on m.last m.floor c.loop-turn._turn c.loop-turn.blocks.page
    c.loop-turn.blocks.index c.in-Some.found old new c.loop-turn.merge.file here.named w here.read.changes
    (subst (λ (o : Option TermEntry). Collects on.bytes content index.blocks c.args.op.now c.args.body.now m.last m.floor c.loop-turn._turn c.loop-turn.blocks.page c.loop-turn.blocks.index o old) c.in-Some.is (here.collects content on))
    (subst (λ (b : Bool). AddsEntry w c.loop-turn.merge.file c.args.index.now.kind c.args.op.now c.args.body.now c.in-Some.found b old new) out c.in_ok-add_entry.ensures.ok))

pub returns-then-not-branch-clause-listed : goal.returns-then-not-branch-clause-listed
returns-then-not-branch-clause-listed g c =
    let v = g.H.Host.view c.args.host.now in
    let here = c.loop-turn.invariant in
    let index = c.args.index.now in
    entry_listed v (g.H.Host.view c.loop-turn.host) index c.loop-turn.merge.file c.args.op.now c.args.body.now c.in-Some.found c.in_ok-add_entry.field-0 (parts_of c.loop-turn.merge) (parts_of c.add_entry.new.merge) c.in_ok-add_entry.ensures.ok
    (subst (λ (o : Option TermEntry). ReadsSome v index.file o) c.in-Some.is here.stands) (subst (λ (o : Option TermEntry). GivesTree index.blocks.first o) c.in-Some.is here.tree) here.listed

pub returns-in_err-entry-2-clause-damaged : goal.returns-in_err-entry-2-clause-damaged
returns-in_err-entry-2-clause-damaged g c =
    let p = err_from_is_err_and c.from_residual-in_err-entry-2.result c.from_residual-in_err-entry-2.ensures.1 in
    let here = c.loop-turn.invariant in
    rw (p.1, p.2) (blocks_shown (g.H.Host.view c.args.host.now) (g.H.Host.view c.add_entry.new.host) c.args.index.now c.loop-turn.blocks.buffered.file c.loop-turn.blocks.blocks c.loop-turn.blocks.form c.in_err-entry-2.field-0.0
    (then_same _ _ _ Same here.read.changes c.add_entry.ensures.read.changes) here.blocks_file here.blocks_ref here.blocks_form c.in_err-entry-2.ensures.damaged)

pub returns-in_err-entry-2-clause-undamaged : goal.returns-in_err-entry-2-clause-undamaged
returns-in_err-entry-2-clause-undamaged g c =
    let p = err_from_is_err_and c.from_residual-in_err-entry-2.result c.from_residual-in_err-entry-2.ensures.1 in
    let here = c.loop-turn.invariant in
    rw (p.1, p.2) (no_false_blocks (g.H.Host.view c.args.host.now) (g.H.Host.view c.add_entry.new.host) c.args.index.now c.loop-turn.blocks.buffered.file c.loop-turn.blocks.blocks c.loop-turn.blocks.form c.in_err-entry-2.field-0.0
    (λ bytes is. (g.met.H.Host.sound c.args.host.now).fits c.args.index.now.file bytes is)
    (then_same _ _ _ Same here.read.changes c.add_entry.ensures.read.changes) here.blocks_file here.blocks_ref here.blocks_form c.in_err-entry-2.ensures.undamaged)

pub returns-in_err-entry-2-clause-read : goal.returns-in_err-entry-2-clause-read
returns-in_err-entry-2-clause-read g c =
    read_then _ _ _ _ _ _ _ _ _ (read_next _ _ _ _ _ _ _ _ c.args.index.now.file c.loop-turn.merge.file c.loop-turn.invariant.named c.loop-turn.invariant.read c.add_entry.ensures.read)
    (read_of _ _ _ _ _ _ _ _ c.loop-turn.invariant.blocks_file c.next.ensures.read)

pub loop-turn-preserved : goal.loop-turn-preserved
loop-turn-preserved g c =
    let v = g.H.Host.view c.args.host.now in
    let w = g.H.Host.view c.loop-turn.host in
    let u = g.H.Host.view c.add_entry.new.host in
    let x = g.H.Host.view c.next.new.host in
    let here = c.loop-turn.invariant in
    let index = c.args.index.now in
    let m = c.args.merge.now in
    let more : c.in_ok-add_entry.field-0 ≡ true = search (rules, c.if-not-branch.false) in
    let change = then_same _ _ _ Same here.read.changes c.add_entry.ensures.read.changes in
    let old = parts_of c.loop-turn.merge in
    let new = parts_of c.add_entry.new.merge in
    let spent = index.blocks.levels + 2 + 511 * c.loop-turn._turn in
    record {
      there = there_same u x index.file c.next.ensures.read.changes (there_same w u index.file c.add_entry.ensures.read.changes here.there);
      read = read_then _ _ _ _ _ _ _ _ _ (read_next _ _ _ _ _ _ _ _ index.file c.loop-turn.merge.file here.named here.read c.add_entry.ensures.read) (read_of _ _ _ _ _ _ _ _ here.blocks_file c.next.ensures.read);
      spends = spends_on v u x (spent + 510) 1 _ c.in_ok-entry-2.entry (spends_on v w u spent 510 (spent + 510) c.in_ok-add_entry.field-0 here.spends c.in_ok-add_entry.ensures.causes (omega arith)) c.in_ok-entry-2.ensures.causes (omega arith);
      blocks_file = c.next.ensures.read.file ∙ here.blocks_file;
      blocks_ref = c.next.ensures.blocks ∙ here.blocks_ref;
      blocks_form = c.next.ensures.same_form ∙ here.blocks_form;
      buffered = c.next.ensures.read.buffered;
      named = c.add_entry.ensures.same.0 ∙ here.named;
      last = c.add_entry.ensures.same.1 ∙ here.last;
      floor = c.add_entry.ensures.same.2 ∙ here.floor;
      can = merge_still u x c.add_entry.new.merge c.next.ensures.read.changes c.in_ok-add_entry.ensures.merge;
      listed = entry_listed v w index c.loop-turn.merge.file c.args.op.now c.args.body.now c.in-Some.found c.in_ok-add_entry.field-0 old new c.in_ok-add_entry.ensures.ok
          (subst (λ (o : Option TermEntry). ReadsSome v index.file o) c.in-Some.is here.stands) (subst (λ (o : Option TermEntry). GivesTree index.blocks.first o) c.in-Some.is here.tree) here.listed;
      stands = here_some v u index.file c.loop-turn.blocks.buffered.file c.loop-turn.blocks.page c.loop-turn.blocks.index c.next.new.self.page c.next.new.self.index c.in_ok-entry-2.entry
          (λ bytes is. reads_still v u index.file c.loop-turn.blocks.buffered.file bytes change here.blocks_file is) c.in_ok-entry-2.ensures.stands;
      tree = subst (λ (r : BlockRef). GivesTree r.first c.in_ok-entry-2.entry) here.blocks_ref c.in_ok-entry-2.ensures.tree;
      form = subst (λ (o : ListForm). IfSome c.in_ok-entry-2.entry (HasForm o)) here.blocks_form c.in_ok-entry-2.ensures.form;
      collects = λ content on.
          collects_further v index c.args.op.now c.args.body.now (λ bytes is. (g.met.H.Host.sound c.args.host.now).fits index.file bytes is) c.requires.some content on u m.last m.floor c.loop-turn._turn c.loop-turn.blocks.page c.loop-turn.blocks.index
          c.next.new.self.page c.next.new.self.index c.in-Some.found c.in_ok-entry-2.entry old new c.loop-turn.merge.file c.loop-turn.blocks.buffered.file c.loop-turn.blocks.blocks here.blocks_file here.blocks_ref here.named w here.read.changes change
          (subst (λ (o : Option TermEntry). Collects on.bytes content index.blocks c.args.op.now c.args.body.now m.last m.floor c.loop-turn._turn c.loop-turn.blocks.page c.loop-turn.blocks.index o old) c.in-Some.is (here.collects content on))
          (subst (λ (b : Bool). AddsEntry w c.loop-turn.merge.file c.args.index.now.kind c.args.op.now c.args.body.now c.in-Some.found b old new) more c.in_ok-add_entry.ensures.ok) c.in_ok-entry-2.ensures.ok;
      costs = λ content on.
          (let low = v.reads + 2 * unread_of (sources_of m) + index.blocks.levels + 2 in
          let high = w.reads + 2 * unread_of old.sources in
          costs_on v index c.args.op.now c.args.body.now (λ bytes is. (g.met.H.Host.sound c.args.host.now).fits index.file bytes is) c.requires.some content on u w c.loop-turn._turn c.loop-turn.blocks.page c.loop-turn.blocks.index
          c.next.new.self.page c.next.new.self.index low high (x.reads + 2 * unread_of new.sources) c.in-Some.found c.in_ok-entry-2.entry old new c.loop-turn.merge.file c.loop-turn.blocks.buffered.file c.loop-turn.blocks.blocks here.blocks_file here.blocks_ref change
          (subst (λ (o : Option TermEntry). Costs content index.blocks c.args.op.now c.args.body.now c.loop-turn._turn c.loop-turn.blocks.page c.loop-turn.blocks.index o low high) c.in-Some.is (here.costs content on))
          (subst (λ (b : Bool). AddsEntry w c.loop-turn.merge.file c.args.index.now.kind c.args.op.now c.args.body.now c.in-Some.found b old new) more c.in_ok-add_entry.ensures.ok) c.in_ok-entry-2.ensures.ok
          (omega (arith, c.in_ok-add_entry.ensures.reads, c.in_ok-entry-2.ensures.causes.reads)));
    }

pub returns-clause-ok : goal.returns-clause-ok
returns-clause-ok g c content on =
    let here = c.loop-turn.invariant in
    let index = c.args.index.now in
    let m = c.args.merge.now in
    gives_at on.bytes (asked_lists content c.args.op.now c.args.body.now) m.last c.loop-turn.merge.last m.floor c.loop-turn.merge.floor (parts_of c.loop-turn.merge) here.last here.floor
    (passes_all (g.H.Host.view c.args.host.now) index c.args.op.now c.args.body.now (λ bytes is. (g.met.H.Host.sound c.args.host.now).fits index.file bytes is) c.requires.some content on m.last m.floor c.loop-turn._turn c.loop-turn.blocks.page
    c.loop-turn.blocks.index c.loop-turn.entry (parts_of c.loop-turn.merge) (omega arith) (here.collects content on))

pub returns-in_default-clause-reads : goal.returns-in_default-clause-reads
returns-in_default-clause-reads g c content on =
    let v = g.H.Host.view c.args.host.now in
    let w = g.H.Host.view c.loop-turn.host in
    let here = c.loop-turn.invariant in
    let index = c.args.index.now in
    omega (
      arith,
      costs_end content index.blocks c.args.op.now c.args.body.now c.loop-turn._turn c.loop-turn.blocks.page c.loop-turn.blocks.index (v.reads + 2 * unread_of (sources_of c.args.merge.now) + index.blocks.levels + 2)
          (w.reads + 2 * unread_of (sources_of c.loop-turn.merge)) c.loop-turn.entry (here.costs content on),
    )

pub returns-clause-reads : goal.returns-clause-reads
returns-clause-reads g c content on =
    let v = g.H.Host.view c.args.host.now in
    let w = g.H.Host.view c.loop-turn.host in
    let here = c.loop-turn.invariant in
    let index = c.args.index.now in
    omega (
      arith,
      costs_end content index.blocks c.args.op.now c.args.body.now c.loop-turn._turn c.loop-turn.blocks.page c.loop-turn.blocks.index (v.reads + 2 * unread_of (sources_of c.args.merge.now) + index.blocks.levels + 2)
          (w.reads + 2 * unread_of (sources_of c.loop-turn.merge)) c.loop-turn.entry (here.costs content on),
    )

pub returns-then-not-branch-clause-reads : goal.returns-then-not-branch-clause-reads
returns-then-not-branch-clause-reads g c content on =
    let v = g.H.Host.view c.args.host.now in
    let w = g.H.Host.view c.loop-turn.host in
    let here = c.loop-turn.invariant in
    let index = c.args.index.now in
    let out : c.in_ok-add_entry.field-0 ≡ false = search (rules, c.if-not-branch.true) in
    let old = parts_of c.loop-turn.merge in
    let new = parts_of c.add_entry.new.merge in
    omega (
      arith,
      c.in_ok-add_entry.ensures.reads,
      costs_end content index.blocks c.args.op.now c.args.body.now c.loop-turn._turn c.loop-turn.blocks.page c.loop-turn.blocks.index (v.reads + 2 * unread_of (sources_of c.args.merge.now) + index.blocks.levels + 2) (w.reads + 2 * unread_of old.sources) c.loop-turn.entry
          (here.costs content on),
      none_added w c.loop-turn.merge.file c.args.index.now.kind c.args.op.now c.args.body.now c.in-Some.found old new
          (subst (λ (b : Bool). AddsEntry w c.loop-turn.merge.file c.args.index.now.kind c.args.op.now c.args.body.now c.in-Some.found b old new) out c.in_ok-add_entry.ensures.ok),
    )

pub returns-in_err-entry-clause-reads : goal.returns-in_err-entry-clause-reads
returns-in_err-entry-clause-reads g c content on =
    let p = err_from_is_err_and c.from_residual.result c.from_residual.ensures.1 in
    rw p.1 (omega (arith, c.in_err-entry.ensures.causes.reads, ap (λ (r : BlockRef). r.levels) (ap (λ (s : Scan). s.blocks) c.new-blocks.ensures ∙ c.blocks-2.ensures)))

pub returns-in_err-add_entry-clause-reads : goal.returns-in_err-add_entry-clause-reads
returns-in_err-add_entry-clause-reads g c content on =
    let p = err_from_is_err_and c.from_residual-in_err-add_entry.result c.from_residual-in_err-add_entry.ensures.1 in
    let v = g.H.Host.view c.args.host.now in
    let w = g.H.Host.view c.loop-turn.host in
    let here = c.loop-turn.invariant in
    let index = c.args.index.now in
    let low = v.reads + 2 * unread_of (sources_of c.args.merge.now) + index.blocks.levels + 2 in
    let high = w.reads + 2 * unread_of (sources_of c.loop-turn.merge) in
    rw p.1 (omega (
      arith,
      c.in_err-add_entry.ensures.reads,
      entry_within v index c.args.op.now c.args.body.now (λ bytes is. (g.met.H.Host.sound c.args.host.now).fits index.file bytes is) c.requires.some content on c.loop-turn._turn c.loop-turn.blocks.page c.loop-turn.blocks.index low high c.in-Some.found
          (subst (λ (o : Option TermEntry). Costs content index.blocks c.args.op.now c.args.body.now c.loop-turn._turn c.loop-turn.blocks.page c.loop-turn.blocks.index o low high) c.in-Some.is (here.costs content on)),
    ))

pub returns-in_err-entry-2-clause-reads : goal.returns-in_err-entry-2-clause-reads
returns-in_err-entry-2-clause-reads g c content on =
    let p = err_from_is_err_and c.from_residual-in_err-entry-2.result c.from_residual-in_err-entry-2.ensures.1 in
    let v = g.H.Host.view c.args.host.now in
    let w = g.H.Host.view c.loop-turn.host in
    let here = c.loop-turn.invariant in
    let index = c.args.index.now in
    let more : c.in_ok-add_entry.field-0 ≡ true = search (rules, c.if-not-branch.false) in
    let old = parts_of c.loop-turn.merge in
    let new = parts_of c.add_entry.new.merge in
    let low = v.reads + 2 * unread_of (sources_of c.args.merge.now) + index.blocks.levels + 2 in
    let high = w.reads + 2 * unread_of old.sources in
    rw p.1 (omega (
      arith,
      c.in_ok-add_entry.ensures.reads,
      c.in_err-entry-2.ensures.causes.reads,
      next_within v index c.args.op.now c.args.body.now (λ bytes is. (g.met.H.Host.sound c.args.host.now).fits index.file bytes is) c.requires.some content on w c.loop-turn._turn c.loop-turn.blocks.page c.loop-turn.blocks.index low high c.in-Some.found old new
          c.loop-turn.merge.file
          (subst (λ (o : Option TermEntry). Costs content index.blocks c.args.op.now c.args.body.now c.loop-turn._turn c.loop-turn.blocks.page c.loop-turn.blocks.index o low high) c.in-Some.is (here.costs content on))
          (subst (λ (b : Bool). AddsEntry w c.loop-turn.merge.file c.args.index.now.kind c.args.op.now c.args.body.now c.in-Some.found b old new) more c.in_ok-add_entry.ensures.ok),
    ))

pub add_entry-requires-clause-form : goal.add_entry-requires-clause-form
add_entry-requires-clause-form g c = subst (λ (o : Option TermEntry). IfSome o (HasForm (form_of c.args.index.now.mode))) c.in-Some.is c.loop-turn.invariant.form
