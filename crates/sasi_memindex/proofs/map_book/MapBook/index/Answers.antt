use Rattle.std.proofs.Common.{OnOk, Option, subst, sym, ◌∙◌}
use Rattle.std.proofs.lemmas.Result.{on_err_weaker}
use Rattle.std.specs.FinMap as fin
use Rattle.std.specs.Ordering.{nat_cmp}
use Rattle.sasi_memindex.specs.declared.map_part.MapPart.{MapPart}
use Rattle.sasi_memindex.specs.Book.{CanAdd, IsAdded}
use Rattle.sasi_memindex.proofs.Parts.{alike_books, get-parts, part_at, seen-parts}
use Rattle.sasi_memindex.proofs.map_book.MapBook.index.Goals as goal

pub index_at-requires : goal.index_at-requires
index_at-requires g c =
    subst (λ (o : Option MapPart). CanAdd c.args.def.now.column c.args.def.now.kind o) (seen-parts c.self.inside.parts.entries c.args.self.now c.args.number c.self.view_is) c.requires

pub returns-clause-ok : goal.returns-clause-ok
returns-clause-ok g c =
    let def = c.args.def.now in
    let old = c.self.inside.parts.entries in
    let new = c.index_at.new.parts.entries in
    let n = c.args.number in
    subst (λ (o : Option MapPart). OnOk c.index_at.result (IsAdded def.number def.column def.kind def.rule o (fin.get (fin.from_entries {R = nat_cmp} new) n))) (sym (seen-parts old c.args.self.now n c.self.view_is))
    (subst (λ (o : Option MapPart). OnOk c.index_at.result (IsAdded def.number def.column def.kind def.rule (part_at old n) o)) (sym (get-parts new n)) c.index_at.ensures.ok)

pub returns-clause-err : goal.returns-clause-err
returns-clause-err g c = on_err_weaker c.index_at.result (λ alike. alike_books c.self.inside.parts.entries c.index_at.new.parts.entries alike ∙ c.self.view_is) c.index_at.ensures.err

pub returns-clause-others : goal.returns-clause-others
returns-clause-others g c = λ other e.
    get-parts c.index_at.new.parts.entries other ∙ c.index_at.ensures.others other e ∙ sym (seen-parts c.self.inside.parts.entries c.args.self.now other c.self.view_is)
