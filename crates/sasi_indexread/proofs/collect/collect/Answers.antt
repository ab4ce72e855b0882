use Rattle.std.proofs.Common.{◌≡◌, ◌∙◌, ap, arith, sym, true, refl}
use Rattle.std.proofs.lemmas.Result.{err_from_is_err_and}
use Rattle.sasi_types.specs.declared.column.ColumnType.{ColumnType}
use Rattle.sasi_host.proofs.DamageLaws.{shown_before}
use Rattle.sasi_treemerge.specs.Merges.{parts_of, sources_of}
use Rattle.sasi_indexread.specs.Asked.{asks_none}
use Rattle.sasi_indexread.specs.Damages.{ShowsIndex}
use Rattle.sasi_indexread.proofs.Callers.{listed_still, open_still}
use Rattle.sasi_indexread.proofs.Counting.{none_unread, spill_pairs}
use Rattle.sasi_indexread.proofs.ReadChains.{read_both}
use Rattle.sasi_indexread.proofs.Scanning.{no_false_spill, spill_shown}
use Rattle.sasi_indexread.proofs.Searching.{gives_before, listed_now, no_false_before, spill_alone, spill_gives, spill_gives_now, spill_listed}
use Rattle.sasi_indexread.proofs.collect.collect.Goals as goal

pub returns-in_err-add-clause-damaged : goal.returns-in_err-add-clause-damaged
returns-in_err-add-clause-damaged g c =
    let p = err_from_is_err_and c.from_residual.result c.from_residual.ensures.1 in
    rw (p.1, p.2) (spill_shown (g.H.Host.view c.args.host.now) c.args.index.now c.args.merge.now.file c.spill.result c.in_err-add.field-0.0 c.requires.named c.spill.ensures.is c.spill.ensures.possible c.in_err-add.ensures.damaged)

pub returns-in_err-add-clause-undamaged : goal.returns-in_err-add-clause-undamaged
returns-in_err-add-clause-undamaged g c =
    let p = err_from_is_err_and c.from_residual.result c.from_residual.ensures.1 in
    rw (p.1, p.2) (no_false_spill (g.H.Host.view c.args.host.now) c.args.index.now c.args.merge.now.file c.spill.result c.in_err-add.field-0.0 (λ bytes is. (g.met.H.Host.sound c.args.host.now).fits c.args.index.now.file bytes is) c.requires.named c.spill.ensures.is
    c.in_err-add.ensures.undamaged)

pub returns-then-asks_none-clause-ok : goal.returns-then-asks_none-clause-ok
returns-then-asks_none-clause-ok g c content on =
    let index = c.args.index.now in
    let asks : asks_none index.kind c.args.op.now ≡ true = ap (λ (k : ColumnType). asks_none k c.args.op.now) (sym c.kind.ensures) ∙ sym c.asks_none.ensures ∙ c.if-asks_none.true in
    spill_alone content index c.args.op.now c.args.body.now on.bytes c.add.new.self.last c.add.new.self.floor (parts_of c.add.new.self) on.kind asks
    (spill_gives (g.H.Host.view c.args.host.now) index c.args.merge.now.file c.spill.result c.add.new.self.last c.add.new.self.floor (parts_of c.args.merge.now) (parts_of c.add.new.self)
    (λ bytes is. (g.met.H.Host.sound c.args.host.now).fits index.file bytes is) c.requires.named c.spill.ensures.is c.requires.empty c.requires.none_held c.in_ok-add.ensures.ok content on)

pub returns-then-asks_none-clause-listed : goal.returns-then-asks_none-clause-listed
returns-then-asks_none-clause-listed g c =
    spill_listed (g.H.Host.view c.args.host.now) c.args.index.now c.args.merge.now.file c.spill.result (parts_of c.args.merge.now) (parts_of c.add.new.self) c.spill.ensures.is c.spill.ensures.possible c.requires.empty c.in_ok-add.ensures.ok

pub add_terms-requires-clause-listed : goal.add_terms-requires-clause-listed
add_terms-requires-clause-listed g c =
    listed_now (g.H.Host.view c.args.host.now) (g.H.Host.view c.add.new.host) c.args.index.now (sources_of c.add.new.self) c.add.ensures.read.changes
    (spill_listed (g.H.Host.view c.args.host.now) c.args.index.now c.args.merge.now.file c.spill.result (parts_of c.args.merge.now) (parts_of c.add.new.self) c.spill.ensures.is c.spill.ensures.possible c.requires.empty c.in_ok-add.ensures.ok)

pub add_terms-requires-clause-spill : goal.add_terms-requires-clause-spill
add_terms-requires-clause-spill g c content on =
    spill_gives_now (g.H.Host.view c.args.host.now) (g.H.Host.view c.add.new.host) c.args.index.now c.args.merge.now.file c.spill.result c.add.new.self.last c.add.new.self.floor (parts_of c.args.merge.now) (parts_of c.add.new.self) c.add.ensures.read.changes
    (λ bytes is. (g.met.H.Host.sound c.args.host.now).fits c.args.index.now.file bytes is) c.requires.named c.spill.ensures.is c.requires.empty c.requires.none_held c.in_ok-add.ensures.ok content on

pub returns-in_err-add_terms-clause-damaged : goal.returns-in_err-add_terms-clause-damaged
returns-in_err-add_terms-clause-damaged g c =
    let p = err_from_is_err_and c.from_residual-in_err-add_terms.result c.from_residual-in_err-add_terms.ensures.1 in
    rw (p.1, p.2) (shown_before (ShowsIndex c.args.index.now) (g.H.Host.view c.args.host.now) (g.H.Host.view c.add.new.host) c.args.index.now.file c.in_err-add_terms.field-0.0 c.add.ensures.read.changes c.in_err-add_terms.ensures.damaged)

pub returns-in_err-add_terms-clause-undamaged : goal.returns-in_err-add_terms-clause-undamaged
returns-in_err-add_terms-clause-undamaged g c =
    let p = err_from_is_err_and c.from_residual-in_err-add_terms.result c.from_residual-in_err-add_terms.ensures.1 in
    rw (p.1, p.2) (no_false_before (g.H.Host.view c.args.host.now) (g.H.Host.view c.add.new.host) c.args.index.now c.in_err-add_terms.field-0.0 c.add.ensures.read.changes c.in_err-add_terms.ensures.undamaged)

pub returns-in_err-add_terms-clause-read : goal.returns-in_err-add_terms-clause-read
returns-in_err-add_terms-clause-read g c = read_both _ _ _ _ _ _ _ _ c.args.index.now.file c.args.merge.now.file c.args.index.now.file c.requires.named refl c.add.ensures.read c.add_terms.ensures.read

pub returns-clause-ok : goal.returns-clause-ok
returns-clause-ok g c content on =
    gives_before (g.H.Host.view c.args.host.now) (g.H.Host.view c.add.new.host) c.args.index.now c.args.op.now c.args.body.now c.add_terms.new.merge.last c.add_terms.new.merge.floor (parts_of c.add_terms.new.merge) c.add.ensures.read.changes
    c.in_ok-add_terms.ensures.ok content on

pub returns-clause-listed : goal.returns-clause-listed
returns-clause-listed g c =
    listed_still (g.H.Host.view c.args.host.now) (g.H.Host.view c.add.new.host) c.args.index.now (sources_of c.add_terms.new.merge) c.add.ensures.read.changes c.in_ok-add_terms.ensures.listed

pub returns-clause-read : goal.returns-clause-read
returns-clause-read g c = read_both _ _ _ _ _ _ _ _ c.args.index.now.file c.args.merge.now.file c.args.index.now.file c.requires.named refl c.add.ensures.read c.add_terms.ensures.read

pub returns-then-asks_none-clause-reads : goal.returns-then-asks_none-clause-reads
returns-then-asks_none-clause-reads g c content on =
    omega (
      arith,
      c.in_ok-add.ensures.reads,
      none_unread (sources_of c.args.merge.now) c.requires.empty,
      spill_pairs (g.H.Host.view c.args.host.now) c.args.index.now c.spill.result (λ bytes is. (g.met.H.Host.sound c.args.host.now).fits c.args.index.now.file bytes is) c.spill.ensures.is content on,
    )

pub returns-clause-reads : goal.returns-clause-reads
returns-clause-reads g c content on =
    omega (
      arith,
      c.in_ok-add.ensures.reads,
      none_unread (sources_of c.args.merge.now) c.requires.empty,
      spill_pairs (g.H.Host.view c.args.host.now) c.args.index.now c.spill.result (λ bytes is. (g.met.H.Host.sound c.args.host.now).fits c.args.index.now.file bytes is) c.spill.ensures.is content on,
      c.in_ok-add_terms.ensures.reads content (open_still (g.H.Host.view c.args.host.now) (g.H.Host.view c.add.new.host) c.args.index.now content c.add.ensures.read.changes on),
    )

pub returns-in_err-add-clause-reads : goal.returns-in_err-add-clause-reads
returns-in_err-add-clause-reads g c content on =
    let p = err_from_is_err_and c.from_residual.result c.from_residual.ensures.1 in
    rw p.1 (omega (
      arith,
      c.in_err-add.ensures.reads,
      none_unread (sources_of c.args.merge.now) c.requires.empty,
      spill_pairs (g.H.Host.view c.args.host.now) c.args.index.now c.spill.result (λ bytes is. (g.met.H.Host.sound c.args.host.now).fits c.args.index.now.file bytes is) c.spill.ensures.is content on,
    ))

pub returns-in_err-add_terms-clause-reads : goal.returns-in_err-add_terms-clause-reads
returns-in_err-add_terms-clause-reads g c content on =
    let p = err_from_is_err_and c.from_residual-in_err-add_terms.result c.from_residual-in_err-add_terms.ensures.1 in
    rw p.1 (omega (
      arith,
      c.in_ok-add.ensures.reads,
      none_unread (sources_of c.args.merge.now) c.requires.empty,
      spill_pairs (g.H.Host.view c.args.host.now) c.args.index.now c.spill.result (λ bytes is. (g.met.H.Host.sound c.args.host.now).fits c.args.index.now.file bytes is) c.spill.ensures.is content on,
      c.in_err-add_terms.ensures.reads content (open_still (g.H.Host.view c.args.host.now) (g.H.Host.view c.add.new.host) c.args.index.now content c.add.ensures.read.changes on),
    ))
