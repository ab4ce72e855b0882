use Rattle.std.proofs.Common.{subst}
use Rattle.sasi_machine.specs.Classes.{OnMissing, WhereLacks}
use Rattle.sasi_recheck.proofs.next_row.accepts.Goals as goal

pub unreachable-requires : goal.unreachable-requires
unreachable-requires g c =
    let fault = c.in-Err-Missing in
    c.requires.known fault.field-0-0 (subst (OnMissing (WhereLacks _ c.args.filter.now)) fault.field-0-is fault.ensures.missing)
