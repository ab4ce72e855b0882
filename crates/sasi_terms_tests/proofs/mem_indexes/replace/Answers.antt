use Rattle.std.proofs.Common.{ℕ, Option, ap, subst, sym}
use Rattle.std.specs.Option.{option_copied}
use Rattle.sasi_types.specs.declared.column.ColumnType.{ColumnType}
use Rattle.sasi_types.specs.declared.rule.Rule.{Rule}
use Rattle.sasi_model.specs.IndexTerms.{terms_of_cell}
use Rattle.sasi_memindex.specs.IndexOf.{HasTermsAt}
use Rattle.sasi_terms_tests.proofs.IndexedMapLaws.{put_there}
use Rattle.sasi_terms_tests.proofs.mem_indexes.replace.Goals as goal

pub returns-clause-current : goal.returns-clause-current
returns-clause-current g c =
    let old = c.args.index.now in
    let new = c.put.new.self in
    subst (λ (r : Option Rule). HasTermsAt new c.args.key.now (terms_of_cell r (option_copied c.args.new))) (ap (λ (s : ℕ × (ColumnType × Option Rule)). s.1.1) (sym c.put.ensures.subject))
    (put_there old new c.args.key.now (terms_of_cell old.rule (option_copied c.args.new)) (rw c.expect.ensures at c.put.ensures.ok))
