use Rattle.std.proofs.Common.{OnOk, IfSome, map, subst, sym}
use Rattle.std.proofs.lemmas.Result.{on_ok_weaker}
use Rattle.std.specs.Option.{option_copied}
use Rattle.sasi_model.specs.IndexTerms.{terms_of_value}
use Rattle.sasi_memindex.specs.IndexedValues.{IsValueOf, MissingExactly}
use Rattle.sasi_memindex.specs.IndexOf.{HasPut, HasTermsAt}
use Rattle.sasi_memindex.specs.Kept.{set_of}
use Rattle.sasi_memindex.specs.MemIndexView.{MemIndexView}
use Rattle.sasi_memindex.proofs.PutLaws.{put_has, value_terms}
use Rattle.sasi_memindex.proofs.mem_index.MemIndex.put_value.Goals as goal

pub invariant_of-self : goal.invariant_of-self
invariant_of-self g c =
    let s = c.self.inside in
    let new = option_copied c.args.new in
    let is = subst (λ (i : MemIndexView). IfSome new (IsValueOf i.kind)) (sym c.self.view_is) c.requires.new_value in
    c.replace_value.ensures.of s.kind (value_terms s.kind s.rule new is) c.self.invariant

pub returns-clause-ok : goal.returns-clause-ok
returns-clause-ok g c =
    let s = c.self.inside in
    let old = option_copied c.args.old in
    let new = option_copied c.args.new in
    let current = subst (λ (i : MemIndexView). HasTermsAt i c.args.key.now (terms_of_value i.rule old)) (sym c.self.view_is) c.requires.current in
    let after : MemIndexView = record { column = s.column; kind = s.kind; rule = s.rule; postings = set_of c.replace_value.new.postings } in
    subst (λ (i : MemIndexView). OnOk c.replace_value.result (HasPut i c.args.key.now (terms_of_value i.rule new) after)) c.self.view_is
    (on_ok_weaker c.replace_value.result
    (λ has. put_has (set_of s.postings) (set_of c.replace_value.new.postings) c.args.key.now (terms_of_value s.rule old) (terms_of_value s.rule new) current has)
    c.replace_value.ensures.ok)

pub returns-clause-missing : goal.returns-clause-missing
returns-clause-missing g c =
    let s = c.self.inside in
    let old = option_copied c.args.old in
    let new = option_copied c.args.new in
    let classes = map (λ b. (goal.Analyzer-dyn g (b.vtable, b.value)).kind b.value) c.args.kit.now.objects.items in
    subst (λ (i : MemIndexView). MissingExactly classes i.rule old new c.replace_value.result) c.self.view_is
    (c.replace_value.ensures.missing c.args.self.now.kind c.requires.old_value c.requires.new_value)
