use Rattle.std.proofs.Common.{◌*◌, ◌∙◌, arith, inl, refl, subst, sym}
use Rattle.sasi_host.specs.declared.name.FileName.{FileName}
use Rattle.sasi_host.specs.Names.{Bytes}
use Rattle.sasi_host.specs.Damages.{DamageShown, HasAt, TellsSize}
use Rattle.std.proofs.lemmas.Result.{err_from_is_err_and}
use Rattle.sasi_termblocks.specs.Damages.{BreaksGiven}
use Rattle.sasi_termblocks.proofs.Shown.{end_of_block, ends_within, given_all, given_shown, here_given, lifted_shown, too_long_shown}
use Rattle.sasi_termblocks.proofs.Steps.{given_next, none_left}
use Rattle.sasi_termblocks.proofs.scan.entry_from.Goals as goal

pub returns-then-is_too_long-clause-damaged : goal.returns-then-is_too_long-clause-damaged
returns-then-is_too_long-clause-damaged g c =
    let v = g.H.Host.view c.args.host.now in
    given_all v c.args.buffered.now.file c.args.blocks c.args.form c.args.position.page c.args.position.index c.args.least.now c.unexpected_end.result
    (too_long_shown v c.args.buffered.now.file c.args.blocks c.args.form c.unexpected_end.result (λ bytes is. (g.met.H.Host.sound c.args.host.now).fits c.args.buffered.now.file bytes is)
    (c.is_too_long.ensures.long c.if-is_too_long.true) (subst (λ (n : FileName). DamageShown v n (TellsSize n) c.unexpected_end.result) c.file.ensures c.unexpected_end.ensures.damaged))

pub returns-in_err-check_end-clause-damaged : goal.returns-in_err-check_end-clause-damaged
returns-in_err-check_end-clause-damaged g c =
    let p = err_from_is_err_and c.from_residual.result c.from_residual.ensures.1 in
    rw (p.1, p.2) (given_all (g.H.Host.view c.args.host.now) c.args.buffered.now.file c.args.blocks c.args.form c.args.position.page c.args.position.index c.args.least.now c.in_err-check_end.field-0.0 (c.in_err-check_end.ensures.damaged c.args.form))

pub returns-then-position-blocks-clause-ends : goal.returns-then-position-blocks-clause-ends
returns-then-position-blocks-clause-ends g c = (refl, refl, λ bytes is. inl (omega arith, c.in_ok-check_end.ensures.ok bytes is))

pub returns-then-position-blocks-clause-ok : goal.returns-then-position-blocks-clause-ok
returns-then-position-blocks-clause-ok g c bytes entries passed is has at = none_left bytes c.args.blocks entries c.args.position.page c.args.position.index passed has (omega arith) at

pub returns-in-Ok-clause-ok : goal.returns-in-Ok-clause-ok
returns-in-Ok-clause-ok g c bytes entries passed is has at =
    let stands = subst (λ (w : Bytes). HasAt bytes (4096 * c.args.position.page) w) (sym c.loaded_block.ensures.is) (c.in_ok-load_block.ensures.is bytes is) in
    given_next bytes c.loaded_block.result.now c.args.blocks entries c.args.position.page c.args.position.index passed c.in-Ok.found.position.page c.in-Ok.found.position.index c.in-Ok.found.entry has (omega arith)
    stands c.loaded_block.ensures.whole c.in-Ok.ensures.ok at

pub returns-in-Ok-clause-stands : goal.returns-in-Ok-clause-stands
returns-in-Ok-clause-stands g c =
    here_given (g.H.Host.view c.args.host.now) c.args.buffered.now.file c.args.position.page c.args.position.index c.in-Ok.found.position.page c.in-Ok.found.position.index c.loaded_block.result.now c.in-Ok.found.entry
    (λ bytes is. subst (λ (w : Bytes). HasAt bytes (4096 * c.args.position.page) w) (sym c.loaded_block.ensures.is) (c.in_ok-load_block.ensures.is bytes is)) c.in-Ok.ensures.ok

pub returns-in_err-load_block-clause-damaged : goal.returns-in_err-load_block-clause-damaged
returns-in_err-load_block-clause-damaged g c =
    let p = err_from_is_err_and c.from_residual-in_err-load_block.result c.from_residual-in_err-load_block.ensures.1 in
    let v = g.H.Host.view c.args.host.now in
    let file = c.args.buffered.now.file in
    rw (p.1, p.2) (given_shown v file c.args.blocks c.args.form c.args.position.page c.args.position.index c.args.least.now c.in_err-load_block.field-0.0 c.requires.low (omega arith)
    (end_of_block (BreaksGiven c.args.blocks.first c.args.form c.args.position.index c.args.least.now) v file c.args.position.page c.in_err-load_block.field-0.0 c.in_err-load_block.ensures.damaged))

pub returns-in-Ok-clause-ends : goal.returns-in-Ok-clause-ends
returns-in-Ok-clause-ends g c =
    ends_within (g.H.Host.view c.args.host.now) c.args.buffered.now.file c.args.blocks c.args.position.page c.args.position.index c.in-Ok.found.position.page c.in-Ok.found.position.index c.loaded_block.result.now c.in-Ok.found.entry
    (omega arith) c.loaded_block.ensures.whole
    (λ bytes is. subst (λ (w : Bytes). HasAt bytes (4096 * c.args.position.page) w) (sym c.loaded_block.ensures.is) (c.in_ok-load_block.ensures.is bytes is)) c.in-Ok.ensures.ok

pub returns-in-Err-clause-damaged : goal.returns-in-Err-clause-damaged
returns-in-Err-clause-damaged g c =
    let v = g.H.Host.view c.args.host.now in
    given_shown v c.args.buffered.now.file c.args.blocks c.args.form c.args.position.page c.args.position.index c.args.least.now c.fault_of.result c.requires.low (omega arith)
    (lifted_shown (BreaksGiven c.args.blocks.first c.args.form c.args.position.index c.args.least.now) v c.args.buffered.now.file c.file-in-Err.result c.args.position.page c.loaded_block.result.now c.in-Err.fault c.fault_of.result
    (c.file-in-Err.ensures ∙ c.load_block.ensures.read.file) c.in-Err.ensures.seen c.fault_of.ensures c.loaded_block.ensures.whole
    (λ bytes is. subst (λ (w : Bytes). HasAt bytes (4096 * c.args.position.page) w) (sym c.loaded_block.ensures.is) (c.in_ok-load_block.ensures.is bytes is)))
