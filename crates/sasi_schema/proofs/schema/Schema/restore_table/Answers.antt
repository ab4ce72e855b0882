use Rattle.std.proofs.Common.{length, ◌+◌, ap, sym, ◌∙◌}
use Rattle.std.proofs.lemmas.List.{length-map}
use Rattle.sasi_schema.proofs.Rises.{rises_made}
use Rattle.sasi_schema.specs.SchemaViews.{SchemaView}
use Rattle.sasi_schema.proofs.schema.Schema.restore_table.Goals as goal

pub invariant_of-self-2 : goal.invariant_of-self-2
invariant_of-self-2 c =
    rises_made c.self.inside.tables.items c.push.new.self.items _ c.self.invariant
    (c.requires.number ∙ ap (λ (s : SchemaView). length s.definitions + 1) (sym c.self.view_is) ∙ ap (λ n. n + 1)
    (length-map c.self.inside.tables.items _)) c.in_ok-push.ensures.items
