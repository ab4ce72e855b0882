use Rattle.std.proofs.Common.{◌≡◌, ◌∙◌, List, Option, ap, length, subst}
use Rattle.std.proofs.lemmas.Result.{IfOk-weaker}
use Rattle.sasi_host.specs.Names.{Folder}
use Rattle.sasi_ranges.specs.declared.entry.Entry.{Entry}
use Rattle.sasi_ranges.specs.declared.intersection.Intersection.{Intersection}
use Rattle.sasi_ranges.specs.EachStream.{EachLeaves}
use Rattle.sasi_ranges.specs.Entries.{Rises}
use Rattle.sasi_ranges.specs.Lists.{intersection_by, intersection_of}
use Rattle.sasi_ranges.specs.inside.Meets.{MetLeaves}
use Rattle.sasi_ranges.proofs.Making.{leave_long}
use Rattle.sasi_ranges.proofs.Uniting.{intersection_alone}
use Rattle.sasi_ranges.proofs.intersection.Intersection.new.Goals as goal

pub returns-clause-leaves : goal.returns-clause-leaves
returns-clause-leaves g c =
    let leaves = g.S.TokenStream.leaves in
    let relations = c.in_ok-relations.relations in
    let count : c.len.result ≡ length c.args.streams = c.len.ensures in
    IfOk-weaker c.serving.result
    (λ (made : Intersection _). (files : Option Folder) (lists : List (List Entry)) → EachLeaves leaves files c.args.streams lists → MetLeaves leaves files made.streams.items made.relations made.current (intersection_by relations lists) × Rises (intersection_by relations lists))
    (λ (made : Intersection _). (files : Option Folder) (lists : List (List Entry)) → EachLeaves leaves files c.args.streams lists → MetLeaves leaves files made.streams.items made.relations made.current (intersection_of lists) × Rises (intersection_of lists))
    (λ made left files lists all. (
    let alone : intersection_by relations lists ≡ intersection_of lists = ap (λ (k : List (List _)). intersection_by k lists) c.in_ok-relations.ensures ∙ intersection_alone c.len.result lists (count ∙ leave_long leaves files c.args.streams lists all) in
    subst (λ (k : List Entry). MetLeaves leaves files made.streams.items made.relations made.current k × Rises k) alone (left files lists all)
    ))
    c.serving.ensures.leaves
