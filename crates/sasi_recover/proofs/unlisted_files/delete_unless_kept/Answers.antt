use Rattle.std.proofs.Common.{sym, ◌∙◌}
use Rattle.sasi_recover.specs.Deletion.{keeps}
use Rattle.sasi_recover.proofs.DeletedFiles.{deleted_one, kept_one}
use Rattle.sasi_recover.proofs.unlisted_files.delete_unless_kept.Goals as goal

pub returns-then-is_kept-clause-changes : goal.returns-then-is_kept-clause-changes
returns-then-is_kept-clause-changes g c = kept_one (g.H.Host.view c.args.host.now) c.args.name (keeps c.args.keep c.args.files.now c.args.name)
    (sym c.is_kept.ensures ∙ c.if-is_kept.true)

pub returns-clause-changes : goal.returns-clause-changes
returns-clause-changes g c = deleted_one (g.H.Host.view c.args.host.now) (g.H.Host.view c.delete.new.self) c.args.name
    (keeps c.args.keep c.args.files.now c.args.name) (sym c.is_kept.ensures ∙ c.if-is_kept.false) c.delete.ensures.changes
