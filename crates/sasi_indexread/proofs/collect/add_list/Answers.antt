use Rattle.std.proofs.Common.{inl}
use Rattle.std.proofs.lemmas.Result.{err_from_is_err_and}
use Rattle.sasi_host.proofs.ChangeLaws.{stays}
use Rattle.sasi_host.proofs.DamageLaws.{shown_as}
use Rattle.sasi_tokentree.specs.Damages.{ShowsPairs}
use Rattle.sasi_indexread.specs.Collects.{ShowsList}
use Rattle.sasi_indexread.proofs.Scanning.{no_false_tree}
use Rattle.sasi_indexread.proofs.collect.add_list.Goals as goal

pub returns-in_err-add-clause-damaged : goal.returns-in_err-add-clause-damaged
returns-in_err-add-clause-damaged g c =
    let p = err_from_is_err_and c.from_residual.result c.from_residual.ensures.1 in
    let file = c.args.merge.now.file in
    rw (p.1, p.2) (shown_as (ShowsPairs file c.in-Some.list) (ShowsList file c.args.entry.now) (g.H.Host.view c.args.host.now) file c.in_err-add.field-0.0
    (λ bytes damage is shows. (c.in-Some.list, c.in-Some.is, shows)) c.in_err-add.ensures.damaged)

pub returns-in_err-add-clause-undamaged : goal.returns-in_err-add-clause-undamaged
returns-in_err-add-clause-undamaged g c =
    let p = err_from_is_err_and c.from_residual.result c.from_residual.ensures.1 in
    rw (p.1, p.2) (no_false_tree (g.H.Host.view c.args.host.now) c.args.merge.now.file c.args.entry.now c.in-Some.list c.in_err-add.field-0.0 c.in-Some.is c.in_err-add.ensures.undamaged)

pub returns-in_err-add_pairs-clause-read : goal.returns-in_err-add_pairs-clause-read
returns-in_err-add_pairs-clause-read g c = record { agrees = c.requires.read.agrees; covers = λ name at. inl at; changes = stays (g.H.Host.view c.args.host.now) }

pub returns-in_ok-add_pairs-clause-read : goal.returns-in_ok-add_pairs-clause-read
returns-in_ok-add_pairs-clause-read g c = record { agrees = c.requires.read.agrees; covers = λ name at. inl at; changes = stays (g.H.Host.view c.args.host.now) }
