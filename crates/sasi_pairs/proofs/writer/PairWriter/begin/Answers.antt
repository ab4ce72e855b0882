use Rattle.sasi_host.specs.Names.{data_name}
use Rattle.sasi_host.proofs.ChangeLaws.{untouched}
use Rattle.sasi_pairs.proofs.PushLaws.{begun_defs, begun_keeps, begun_pairing}
use Rattle.std.proofs.Common.{ap, ◌∙◌, map}
use Rattle.sasi_pairs.specs.Gathered.{fresh}
use Rattle.sasi_pairs.proofs.writer.PairWriter.begin.Goals as goal

pub returns-in_err-builders-clause-changes : goal.returns-in_err-builders-clause-changes
returns-in_err-builders-clause-changes g c = untouched (g.H.Host.view c.args.host.now) (data_name c.args.number)

pub invariant_of-result : goal.invariant_of-result
invariant_of-result g c =
    begun_keeps c.data.result c.in_ok-writer.writer c.args.defs.now c.in_ok-builders.builders.items c.args.number (c.in_ok-builders.ensures ∙ ap (map fresh) c.as_slice.ensures) c.in_ok-writer.ensures.file c.data.ensures c.requires.built

pub returns-clause-ok : goal.returns-clause-ok
returns-clause-ok g c =
    begun_pairing (g.H.Host.view c.begin.new.host) c.in_ok-writer.writer c.args.defs.now c.in_ok-builders.builders.items (c.in_ok-builders.ensures ∙ ap (map fresh) c.as_slice.ensures) c.in_ok-writer.ensures.ok

pub returns-clause-defs : goal.returns-clause-defs
returns-clause-defs g c = begun_defs c.args.defs.now c.in_ok-builders.builders.items (c.in_ok-builders.ensures ∙ ap (map fresh) c.as_slice.ensures)
