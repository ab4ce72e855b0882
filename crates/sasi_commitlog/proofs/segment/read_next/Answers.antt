use Rattle.std.proofs.Common.{None, Some, ◌≡◌, ◌^◌, map, length, sym, ap, ◌∙◌, subst, inl, arith}
use Rattle.std.proofs.lemmas.Result.{err_from_is_err_and}
use Rattle.sasi_host.specs.Names.{Bytes}
use Rattle.sasi_gated.proofs.ReadCostLaws.{once_fails, once_gives, once_handed}
use Rattle.sasi_formats.specs.Whole.{IsShownBy}
use Rattle.sasi_commitlog.specs.Format.{payload_of, mutation_of, Tables, IsMutationOf}
use Rattle.sasi_commitlog.proofs.ReadMutations.{on_damage, no_false_read, closed_gate, none_left, opened_gate, first_read, first_left, record_shown}
use Rattle.sasi_commitlog.proofs.Payloads.{only_memory, payload_within}
use Rattle.sasi_commitlog.proofs.segment.read_next.Goals as goal

pub returns-in_err-next-clause-damaged : goal.returns-in_err-next-clause-damaged
returns-in_err-next-clause-damaged g c =
    let p = err_from_is_err_and c.from_residual.result c.from_residual.ensures.1 in
    rw (p.1, p.2) (on_damage _ _ c.in_err-next.field-0.0 (λ damage shows bytes done rest is gate. inl (shows bytes done rest is gate)) c.in_err-next.ensures.damaged)

pub returns-in_err-next-clause-undamaged : goal.returns-in_err-next-clause-undamaged
returns-in_err-next-clause-undamaged g c =
    let p = err_from_is_err_and c.from_residual.result c.from_residual.ensures.1 in
    rw (p.1, p.2) (on_damage _ _ c.in_err-next.field-0.0
    (λ damage no_false done left told reading. no_false (map payload_of done) (map payload_of left) told reading.reading) c.in_err-next.ensures.undamaged)

pub returns-then-not-branch-clause-gate : goal.returns-then-not-branch-clause-gate
returns-then-not-branch-clause-gate g c bytes done rest is gate =
    closed_gate c.in_ok-next.field-0 c.args.gated.now.file bytes c.next.new.self.at done rest c.next.new.out.items c.if-not-branch.true (c.in_ok-next.ensures.gate bytes done rest is gate)

pub returns-then-not-branch-clause-mutations : goal.returns-then-not-branch-clause-mutations
returns-then-not-branch-clause-mutations g c done left told reading =
    none_left (g.H.Host.view c.next.new.host) c.args.gated.now.file c.next.new.self.at c.args.tables.now done left c.in_ok-next.field-0 c.next.new.out.items c.if-not-branch.true
    (c.in_ok-next.ensures.records (map payload_of done) (map payload_of left) told reading.reading)

pub returns-in-Ok-clause-gate : goal.returns-in-Ok-clause-gate
returns-in-Ok-clause-gate g c bytes done rest is gate = (
  subst (λ (t : Tables). IsMutationOf t c.in-Ok.mutation) c.as_slice.ensures c.in-Ok.ensures.of_table,
  opened_gate c.in_ok-next.field-0 c.args.gated.now.file bytes c.next.new.self.at done rest c.next.new.out.items
      (payload_of c.in-Ok.mutation) c.if-not-branch.false (sym c.deref.ensures.value ∙ c.in-Ok.ensures.bytes)
      (c.in_ok-next.ensures.gate bytes done rest is gate),
)

pub returns-in-Ok-clause-mutations : goal.returns-in-Ok-clause-mutations
returns-in-Ok-clause-mutations g c done left told reading =
    first_read (g.H.Host.view c.next.new.host)
    (g.H.Host.view c.args.host.now) c.args.gated.now.file c.args.gated.now.at c.next.new.self.at c.args.tables.now done left
    c.in_ok-next.field-0 c.next.new.out.items c.in-Ok.mutation c.if-not-branch.false
    (sym c.deref.ensures.value ∙ c.in-Ok.ensures.bytes) (subst (λ (t : Tables). IsMutationOf t c.in-Ok.mutation) c.as_slice.ensures c.in-Ok.ensures.of_table) reading
    (c.in_ok-next.ensures.records (map payload_of done) (map payload_of left) told reading.reading)

pub returns-in-Ok-clause-of_tables : goal.returns-in-Ok-clause-of_tables
returns-in-Ok-clause-of_tables g c = subst (λ (t : Tables). IsMutationOf t c.in-Ok.mutation) c.as_slice.ensures c.in-Ok.ensures.of_table

pub fault_in_file-requires-clause-within : goal.fault_in_file-requires-clause-within
fault_in_file-requires-clause-within g c =
    let short = ap length c.deref.ensures.value in
    payload_within c.as_slice.result.now c.deref.result.now (2 ^ 62) c.in-Err.fault c.in-Err.ensures.shown (omega (arith, short, c.in_ok-next.ensures.short))

pub returns-in-Err-clause-damaged : goal.returns-in-Err-clause-damaged
returns-in-Err-clause-damaged g c =
    let same : c.deref.result.now ≡ c.deref-in-Err.result.now = c.deref.ensures.value ∙ sym c.deref-in-Err.ensures.value in
    let shown = subst (λ (b : Bytes). IsShownBy (mutation_of c.args.tables.now) b c.in-Err.fault) same
    (subst (λ (t : Tables). IsShownBy (mutation_of t) c.deref.result.now c.in-Err.fault) c.as_slice.ensures c.in-Err.ensures.shown) in
    on_damage _ _ c.fault_in_file.result (λ damage record_damage bytes done rest is gate.
    record_shown c.args.tables.now c.args.gated.now.file c.file-file.result c.args.gated.now.at c.offset-gate.result c.next.new.self.at bytes
    done rest c.next.new.out.items c.deref-in-Err.result.now c.in_ok-next.field-0 damage c.file-file.ensures c.offset-gate.ensures.offset
    c.deref-in-Err.ensures.value c.if-not-branch.false record_damage (c.in_ok-next.ensures.gate bytes done rest is gate) gate) (c.fault_in_file.ensures.shown c.args.tables.now shown)

pub returns-in-Err-clause-undamaged : goal.returns-in-Err-clause-undamaged
returns-in-Err-clause-undamaged g c =
    let out = c.next.new.out.items in
    let shown = subst (λ (b : Bytes). IsShownBy (mutation_of c.args.tables.now) b c.in-Err.fault) c.deref.ensures.value
    (subst (λ (t : Tables). IsShownBy (mutation_of t) c.deref.result.now c.in-Err.fault) c.as_slice.ensures c.in-Err.ensures.shown) in
    no_false_read c.fault_in_file.result (λ done left told reading.
    let first = first_left (g.H.Host.view c.next.new.host)
    (g.H.Host.view c.args.host.now) c.args.gated.now.file c.args.gated.now.at c.next.new.self.at c.args.tables.now done left
    c.in_ok-next.field-0 out c.if-not-branch.false reading
    (c.in_ok-next.ensures.records (map payload_of done) (map payload_of left) told reading.reading) in
    c.fault_in_file.ensures.memory (only_memory c.args.tables.now first.0 out c.in-Err.fault first.1 first.2 shown))

-- ---- how often it reads

pub returns-in_err-next-clause-once : goal.returns-in_err-next-clause-once
returns-in_err-next-clause-once g c =
    let p = err_from_is_err_and c.from_residual.result c.from_residual.ensures.1 in
    rw (p.1, p.2) (λ sequential. once_handed (g.H.Host.view c.args.host.now) (g.H.Host.view c.next.new.host) c.args.gated.now c.next.new.self
    c.next.new.self c.in_err-next.field-0.0 c.in_err-next.field-0.0 (c.in_err-next.ensures.once sequential))

pub returns-then-not-branch-clause-once : goal.returns-then-not-branch-clause-once
returns-then-not-branch-clause-once g c sequential =
    once_gives (g.H.Host.view c.args.host.now) (g.H.Host.view c.next.new.host) c.args.gated.now c.next.new.self c.in_ok-next.field-0 None
    (c.in_ok-next.ensures.once sequential)

pub returns-in-Ok-clause-once : goal.returns-in-Ok-clause-once
returns-in-Ok-clause-once g c sequential =
    once_gives (g.H.Host.view c.args.host.now) (g.H.Host.view c.next.new.host) c.args.gated.now c.next.new.self c.in_ok-next.field-0
    (Some c.in-Ok.mutation) (c.in_ok-next.ensures.once sequential)

pub returns-in-Err-clause-once : goal.returns-in-Err-clause-once
returns-in-Err-clause-once g c sequential =
    once_fails (g.H.Host.view c.args.host.now) (g.H.Host.view c.next.new.host) c.args.gated.now c.next.new.self c.next.new.self c.in_ok-next.field-0
    c.fault_in_file.result (c.in_ok-next.ensures.once sequential)
