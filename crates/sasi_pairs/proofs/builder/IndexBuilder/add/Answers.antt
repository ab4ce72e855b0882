use Rattle.std.proofs.Common.{map, subst}
use Rattle.sasi_memindex.specs.Book.{IsMissing}
use Rattle.sasi_pairs.specs.Gathered.{GatheredIndex}
use Rattle.sasi_pairs.proofs.builder.IndexBuilder.add.Goals as goal

pub returns-clause-missing : goal.returns-clause-missing
returns-clause-missing g c class e =
    subst (λ (i : GatheredIndex). IsMissing (map (λ b. (goal.Analyzer-dyn g (b.vtable, b.value)).kind b.value) c.args.kit.now.objects.items) i.def.rule class) c.self.view_is (c.add_postings.ensures.missing class e)
