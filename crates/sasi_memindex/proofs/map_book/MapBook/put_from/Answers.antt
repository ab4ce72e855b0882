use Rattle.std.proofs.Common.{OnOk, Option, map, subst, sym, ◌∙◌}
use Rattle.std.specs.FinMap as fin
use Rattle.std.specs.Ordering.{nat_cmp}
use Rattle.sasi_memindex.specs.declared.map_part.MapPart.{MapPart}
use Rattle.sasi_memindex.specs.Book.{CanChange, IsChanged, IsMissingIn}
use Rattle.sasi_memindex.proofs.Parts.{get-parts, part_at, seen-parts}
use Rattle.sasi_memindex.proofs.map_book.MapBook.put_from.Goals as goal

pub put_at-requires : goal.put_at-requires
put_at-requires g c =
    subst (λ (o : Option MapPart). CanChange o c.args.change) (seen-parts c.self.inside.parts.entries c.args.self.now c.args.number c.self.view_is) c.requires

pub returns-clause-ok : goal.returns-clause-ok
returns-clause-ok g c =
    let old = c.self.inside.parts.entries in
    let new = c.put_at.new.parts.entries in
    let n = c.args.number in
    subst (λ (o : Option MapPart). OnOk c.put_at.result (IsChanged c.args.key c.args.change o (fin.get (fin.from_entries {R = nat_cmp} new) n))) (sym (seen-parts old c.args.self.now n c.self.view_is))
    (subst (λ (o : Option MapPart). OnOk c.put_at.result (IsChanged c.args.key c.args.change (part_at old n) o)) (sym (get-parts new n)) c.put_at.ensures.ok)

pub returns-clause-others : goal.returns-clause-others
returns-clause-others g c = λ other e.
    get-parts c.put_at.new.parts.entries other ∙ c.put_at.ensures.others other e ∙ sym (seen-parts c.self.inside.parts.entries c.args.self.now other c.self.view_is)

pub returns-clause-missing : goal.returns-clause-missing
returns-clause-missing g c = λ class e.
    subst (λ (o : Option MapPart). IsMissingIn (map (λ b. (goal.Analyzer-dyn g (b.vtable, b.value)).kind b.value) c.args.kit.now.objects.items) o class)
    (sym (seen-parts c.self.inside.parts.entries c.args.self.now c.args.number c.self.view_is)) (c.put_at.ensures.missing class e)
