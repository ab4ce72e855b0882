use Rattle.std.proofs.Common.{List, subst}
use Rattle.std.specs.List.{AllByRecursion}
use Rattle.sasi_layout.specs.Serving.{IsTyped}
use Rattle.sasi_manifest.specs.ListedDefinition.{ListedDefinition}
use Rattle.sasi_recover.proofs.ReplayLaws.{empty_is_replay, started}
use Rattle.sasi_recover.proofs.replay.empty_replay.Goals as goal

pub returns-clause-tables : goal.returns-clause-tables
returns-clause-tables c =
    let l = c.args.listing.now in
    empty_is_replay l _
    (subst (λ (ts : List ListedDefinition). AllByRecursion (λ (t : ListedDefinition). IsTyped t.definition) ts) c.as_slice.ensures.tables c.in_ok-tables.ensures.typed)
    (started l c.in_ok-tables.tables.items _ c.as_slice.ensures.tables c.in_ok-tables.ensures.empty)
