use Rattle.std.proofs.Common.{◌≡◌, ◌++◌, false, map, refl, Some, subst, sym}
use Rattle.std.proofs.lemmas.Result.{err_from_is_err_and}
use Rattle.sasi_cursors.specs.Cursors.{is_open}
use Rattle.sasi_machine.specs.Outcome.{outcome_of}
use Rattle.sasi_machine.specs.Refusal.{refusal_of}
use Rattle.sasi_machine.specs.declared.prepared.OpenAsked.{OpenAsked}
use Rattle.sasi_model.specs.Lines.{refusal_line}
use Rattle.sasi_model.specs.Refusals.{Refusal}
use Rattle.sasi_tables.specs.TablesView.{memory_of}
use Rattle.sasi_store.specs.CursorCalls.{IsOpened, open_refusal}
use Rattle.sasi_store.specs.Selects.{IsSelectable}
use Rattle.sasi_store.proofs.OpenRules.{can_select, has_few, has_free_name, none_refused, one_refusal}
use Rattle.sasi_store.proofs.cursors.open.Goals as goal

pub open_cursor-requires-clause-there : goal.open_cursor-requires-clause-there
open_cursor-requires-clause-there g c =
    subst (λ (given : OpenAsked). IsSelectable (memory_of c.args.parts.now) given.rows) (sym c.in-Ok.ensures.free.0)
    (can_select c.args.asked c.args.session.now.cursors c.in-Ok.ensures.free.1 (memory_of c.args.parts.now) c.requires.there)

pub open_cursor-requires-clause-name : goal.open_cursor-requires-clause-name
open_cursor-requires-clause-name g c =
    subst (λ (given : OpenAsked). is_open given.cursor c.args.session.now.cursors ≡ false) (sym c.in-Ok.ensures.free.0) (has_free_name c.args.asked c.args.session.now.cursors c.in-Ok.ensures.free.1)

pub open_cursor-requires-clause-few : goal.open_cursor-requires-clause-few
open_cursor-requires-clause-few g c = has_few c.args.asked c.args.session.now.cursors c.in-Ok.ensures.free.1

pub returns-in_err-open_cursor-in-Ok-clause-memory : goal.returns-in_err-open_cursor-in-Ok-clause-memory
returns-in_err-open_cursor-in-Ok-clause-memory g c =
    let p = err_from_is_err_and c.from_residual-in_err-open_cursor-in-Ok.result c.from_residual-in_err-open_cursor-in-Ok.ensures.1 in
    rw (p.1, p.2) c.in_err-open_cursor-in-Ok.ensures.memory

pub returns-in_ok-ok-in-Ok-clause-refused : goal.returns-in_ok-ok-in-Ok-clause-refused
returns-in_ok-ok-in-Ok-clause-refused g c r is = none_refused (open_refusal c.args.session.now.cursors c.args.asked) r c.in-Ok.ensures.free.1 is

pub returns-in_ok-ok-in-Ok-clause-taken : goal.returns-in_ok-ok-in-Ok-clause-taken
returns-in_ok-ok-in-Ok-clause-taken g c none = (
  refl,
  c.in_ok-ok-in-Ok.ensures.ok,
  subst (λ (given : OpenAsked). IsOpened (map (λ b. (goal.Analyzer-dyn g (b.vtable, b.value)).kind b.value) c.args.kit.now.objects.items) (g.H.Host.view c.args.host.now) given c.args.parts.now c.open_cursor.new.parts c.args.session.now c.open_cursor.new.session)
      c.in-Ok.ensures.free.0 c.in_ok-open_cursor-in-Ok.ensures.opened,
)

pub returns-in_ok-reply_refusal-in-Err-clause-refused : goal.returns-in_ok-reply_refusal-in-Err-clause-refused
returns-in_ok-reply_refusal-in-Err-clause-refused g c r is =
    let same = one_refusal (open_refusal c.args.session.now.cursors c.args.asked) r (refusal_of c.in-Err.refusal) is c.in-Err.ensures.refused in
    subst (λ (s : Refusal). (c.in_ok-reply_refusal-in-Err.field-0 ≡ outcome_of (Some s)) × (c.reply_refusal.new.reply ≡ c.args.reply.now ++ refusal_line s) × (c.args.parts.now ≡ c.args.parts.now) × (c.args.session.now ≡ c.args.session.now)) same
    (c.in_ok-reply_refusal-in-Err.ensures.outcome, c.in_ok-reply_refusal-in-Err.ensures.reply, refl, refl)

pub returns-in_ok-reply_refusal-in-Err-clause-taken : goal.returns-in_ok-reply_refusal-in-Err-clause-taken
returns-in_ok-reply_refusal-in-Err-clause-taken g c none = none_refused (open_refusal c.args.session.now.cursors c.args.asked) (refusal_of c.in-Err.refusal) none c.in-Err.ensures.refused
