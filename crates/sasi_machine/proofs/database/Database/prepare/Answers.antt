use Rattle.std.proofs.Common.{◌≡◌, false, map}
use Rattle.sasi_analyzers.specs.Kits.{has_class}
use Rattle.sasi_machine.specs.Classes.{TablesLack}
use Rattle.sasi_machine.proofs.Lacking.{missing_result}
use Rattle.sasi_machine.proofs.PreparedPieces.{at_state}
use Rattle.sasi_machine.proofs.database.Database.prepare.Goals as goal

pub returns-clause-prepares : goal.returns-clause-prepares
returns-clause-prepares g c =
    let s = c.self.inside in
    at_state s.partitioner s.schema.definitions s.memtables.items s.max_timestamp c.args.self.now _ c.prepare.new.reply c.prepare.result c.self.view_is c.self.invariant c.prepare.ensures.prepares

pub returns-clause-missing : goal.returns-clause-missing
returns-clause-missing g c =
    let kinds = (map (λ b. (goal.Analyzer-dyn g (b.vtable, b.value)).kind b.value) c.args.kit.now.objects.items) in
    missing_result (TablesLack kinds c.self.inside.schema.definitions) (λ class. has_class class kinds ≡ false) c.prepare.result (λ class lacks. lacks.lacks.lacks.lacks) c.prepare.ensures.missing
