use Rattle.std.proofs.Common.{◌≡◌, ◌∷◌, ◌∙◌, [], List, ap, false, map, subst, sym}
use Rattle.sasi_host.specs.Disk.{Changes, Within}
use Rattle.sasi_host.specs.Names.{data_name}
use Rattle.sasi_host.specs.declared.name.FileName.{FileName}
use Rattle.sasi_manifest.specs.ListedFiles.{index_name}
use Rattle.sasi_manifest.specs.declared.files.PartNumber.{PartNumber}
use Rattle.sasi_tasks.specs.Unheld.{AreGone, AreUnchosen, is_counted, is_left, is_one_of}
use Rattle.sasi_tasks.proofs.Deleting.{within_none}
use Rattle.sasi_tasks.proofs.LeftFiles.{data_changes, indexes_there, none_counted, none_gone, none_left, part_changes, part_gone, part_needs}
use Rattle.sasi_views.specs.Parts.{names_of}
use Rattle.sasi_views.specs.declared.part.Part.{Part}
use Rattle.sasi_views.specs.declared.part.Part.TheVariants.{File}
use Rattle.sasi_tasks.proofs.unheld.delete_left_of.Goals as goal

pub returns-in_default-clause-changes : goal.returns-in_default-clause-changes
returns-in_default-clause-changes g c = within_none (is_one_of (is_left c.args.views.now c.args.files.now) (names_of c.args.part.now)) (g.H.Host.view c.args.host.now)

pub returns-then-is_listed-clause-gone : goal.returns-then-is_listed-clause-gone
returns-then-is_listed-clause-gone g c =
    let chosen = is_left c.args.views.now c.args.files.now in
    let none : AreUnchosen chosen (names_of c.args.part.now) = subst (λ (p : Part). AreUnchosen chosen (names_of p)) (sym c.in-File.is)
    (none_left c.args.views.now c.args.files.now c.in-File.number c.in-File.indexes (sym c.is_listed.ensures ∙ c.if-is_listed.true)) in
    none_gone chosen (g.H.Host.view c.args.host.now) (names_of c.args.part.now) none

pub returns-then-is_listed-clause-changes : goal.returns-then-is_listed-clause-changes
returns-then-is_listed-clause-changes g c = within_none (is_one_of (is_left c.args.views.now c.args.files.now) (names_of c.args.part.now)) (g.H.Host.view c.args.host.now)

pub returns-in_err-data-clause-changes : goal.returns-in_err-data-clause-changes
returns-in_err-data-clause-changes g c =
    let a = g.H.Host.view c.args.host.now in
    let b = g.H.Host.view c.delete_counted.new.host in
    let needs = part_needs c.args.views.now c.args.files.now c.in-File.number c.in-File.indexes (g.H.Host.view c.args.host.now) c.args.part.now c.in-File.is (sym c.is_listed.ensures ∙ c.if-is_listed.false) c.requires.there c.requires.once in
    let change = subst (λ (f : FileName). Changes (Within (is_one_of (is_counted c.args.views.now 1) (f ∷ []))) a b) c.data.ensures c.delete_counted.ensures.changes in
    subst (λ (p : Part). Changes (Within (is_one_of (is_left c.args.views.now c.args.files.now) (names_of p))) a b) (sym c.in-File.is) (data_changes c.args.views.now c.args.files.now c.in-File.number c.in-File.indexes a needs b change)

pub delete_indexes-requires-clause-there : goal.delete_indexes-requires-clause-there
delete_indexes-requires-clause-there g c =
    let a = g.H.Host.view c.args.host.now in
    let b = g.H.Host.view c.delete_counted.new.host in
    let is : c.args.part.now ≡ File c.in-File.number c.as_slice.result.now = c.in-File.is ∙ ap (λ (ps : List PartNumber). File c.in-File.number ps) (sym c.as_slice.ensures) in
    let needs = part_needs c.args.views.now c.args.files.now c.in-File.number c.as_slice.result.now (g.H.Host.view c.args.host.now) c.args.part.now is (sym c.is_listed.ensures ∙ c.if-is_listed.false) c.requires.there c.requires.once in
    let change = subst (λ (f : FileName). Changes (Within (is_one_of (is_counted c.args.views.now 1) (f ∷ []))) a b) c.data.ensures c.delete_counted.ensures.changes in
    let gone = subst (λ (f : FileName). AreGone (is_counted c.args.views.now 1) b (f ∷ [])) c.data.ensures c.in_ok-data.ensures.gone in
    indexes_there c.args.views.now c.args.files.now c.in-File.number c.as_slice.result.now a needs b change gone c.in_ok-data.ensures.causes.ok c.delete_counted.ensures.causes.out c.delete_counted.ensures.causes.reads

pub returns-in_err-more-clause-idle : goal.returns-in_err-more-clause-idle
returns-in_err-more-clause-idle g c none =
    let a = g.H.Host.view c.args.host.now in
    let is : c.args.part.now ≡ File c.in-File.number c.as_slice.result.now = c.in-File.is ∙ ap (λ (ps : List PartNumber). File c.in-File.number ps) (sym c.as_slice.ensures) in
    let needs = part_needs c.args.views.now c.args.files.now c.in-File.number c.as_slice.result.now (g.H.Host.view c.args.host.now) c.args.part.now is (sym c.is_listed.ensures ∙ c.if-is_listed.false) c.requires.there c.requires.once in
    let un : AreUnchosen (is_counted c.args.views.now 1) (data_name c.in-File.number ∷ map (index_name c.in-File.number) c.as_slice.result.now) = none_counted c.args.views.now c.args.files.now c.in-File.number c.as_slice.result.now a needs (subst (λ (p : Part). AreUnchosen (is_left c.args.views.now c.args.files.now) (names_of p)) is none) in
    c.delete_indexes.ensures.idle un.1 ∙ c.delete_counted.ensures.idle (subst (λ (f : FileName). is_counted c.args.views.now 1 f ≡ false) (sym c.data.ensures) un.0)

pub returns-in_err-more-clause-changes : goal.returns-in_err-more-clause-changes
returns-in_err-more-clause-changes g c =
    let a = g.H.Host.view c.args.host.now in
    let b = g.H.Host.view c.delete_counted.new.host in
    let is : c.args.part.now ≡ File c.in-File.number c.as_slice.result.now = c.in-File.is ∙ ap (λ (ps : List PartNumber). File c.in-File.number ps) (sym c.as_slice.ensures) in
    let needs = part_needs c.args.views.now c.args.files.now c.in-File.number c.as_slice.result.now (g.H.Host.view c.args.host.now) c.args.part.now is (sym c.is_listed.ensures ∙ c.if-is_listed.false) c.requires.there c.requires.once in
    let change = subst (λ (f : FileName). Changes (Within (is_one_of (is_counted c.args.views.now 1) (f ∷ []))) a b) c.data.ensures c.delete_counted.ensures.changes in
    let gone = subst (λ (f : FileName). AreGone (is_counted c.args.views.now 1) b (f ∷ [])) c.data.ensures c.in_ok-data.ensures.gone in
    let end = g.H.Host.view c.delete_indexes.new.host in
    subst (λ (p : Part). Changes (Within (is_one_of (is_left c.args.views.now c.args.files.now) (names_of p))) a end) (sym is) (part_changes c.args.views.now c.args.files.now c.in-File.number c.as_slice.result.now a needs b change gone c.in_ok-data.ensures.causes.ok c.delete_counted.ensures.causes.out c.delete_counted.ensures.causes.reads end c.delete_indexes.ensures.changes)

pub returns-then-data-clause-changes : goal.returns-then-data-clause-changes
returns-then-data-clause-changes g c =
    let a = g.H.Host.view c.args.host.now in
    let b = g.H.Host.view c.delete_counted.new.host in
    let is : c.args.part.now ≡ File c.in-File.number c.as_slice.result.now = c.in-File.is ∙ ap (λ (ps : List PartNumber). File c.in-File.number ps) (sym c.as_slice.ensures) in
    let needs = part_needs c.args.views.now c.args.files.now c.in-File.number c.as_slice.result.now (g.H.Host.view c.args.host.now) c.args.part.now is (sym c.is_listed.ensures ∙ c.if-is_listed.false) c.requires.there c.requires.once in
    let change = subst (λ (f : FileName). Changes (Within (is_one_of (is_counted c.args.views.now 1) (f ∷ []))) a b) c.data.ensures c.delete_counted.ensures.changes in
    let gone = subst (λ (f : FileName). AreGone (is_counted c.args.views.now 1) b (f ∷ [])) c.data.ensures c.in_ok-data.ensures.gone in
    let end = g.H.Host.view c.delete_indexes.new.host in
    subst (λ (p : Part). Changes (Within (is_one_of (is_left c.args.views.now c.args.files.now) (names_of p))) a end) (sym is) (part_changes c.args.views.now c.args.files.now c.in-File.number c.as_slice.result.now a needs b change gone c.in_ok-data.ensures.causes.ok c.delete_counted.ensures.causes.out c.delete_counted.ensures.causes.reads end c.delete_indexes.ensures.changes)

pub returns-else-data-clause-changes : goal.returns-else-data-clause-changes
returns-else-data-clause-changes g c =
    let a = g.H.Host.view c.args.host.now in
    let b = g.H.Host.view c.delete_counted.new.host in
    let is : c.args.part.now ≡ File c.in-File.number c.as_slice.result.now = c.in-File.is ∙ ap (λ (ps : List PartNumber). File c.in-File.number ps) (sym c.as_slice.ensures) in
    let needs = part_needs c.args.views.now c.args.files.now c.in-File.number c.as_slice.result.now (g.H.Host.view c.args.host.now) c.args.part.now is (sym c.is_listed.ensures ∙ c.if-is_listed.false) c.requires.there c.requires.once in
    let change = subst (λ (f : FileName). Changes (Within (is_one_of (is_counted c.args.views.now 1) (f ∷ []))) a b) c.data.ensures c.delete_counted.ensures.changes in
    let gone = subst (λ (f : FileName). AreGone (is_counted c.args.views.now 1) b (f ∷ [])) c.data.ensures c.in_ok-data.ensures.gone in
    let end = g.H.Host.view c.delete_indexes.new.host in
    subst (λ (p : Part). Changes (Within (is_one_of (is_left c.args.views.now c.args.files.now) (names_of p))) a end) (sym is) (part_changes c.args.views.now c.args.files.now c.in-File.number c.as_slice.result.now a needs b change gone c.in_ok-data.ensures.causes.ok c.delete_counted.ensures.causes.out c.delete_counted.ensures.causes.reads end c.delete_indexes.ensures.changes)

pub returns-then-data-clause-gone : goal.returns-then-data-clause-gone
returns-then-data-clause-gone g c =
    let a = g.H.Host.view c.args.host.now in
    let b = g.H.Host.view c.delete_counted.new.host in
    let is : c.args.part.now ≡ File c.in-File.number c.as_slice.result.now = c.in-File.is ∙ ap (λ (ps : List PartNumber). File c.in-File.number ps) (sym c.as_slice.ensures) in
    let needs = part_needs c.args.views.now c.args.files.now c.in-File.number c.as_slice.result.now (g.H.Host.view c.args.host.now) c.args.part.now is (sym c.is_listed.ensures ∙ c.if-is_listed.false) c.requires.there c.requires.once in
    let change = subst (λ (f : FileName). Changes (Within (is_one_of (is_counted c.args.views.now 1) (f ∷ []))) a b) c.data.ensures c.delete_counted.ensures.changes in
    let gone = subst (λ (f : FileName). AreGone (is_counted c.args.views.now 1) b (f ∷ [])) c.data.ensures c.in_ok-data.ensures.gone in
    let end = g.H.Host.view c.delete_indexes.new.host in
    subst (λ (p : Part). AreGone (is_left c.args.views.now c.args.files.now) end (names_of p)) (sym is) (part_gone c.args.views.now c.args.files.now c.in-File.number c.as_slice.result.now a needs b change gone c.in_ok-data.ensures.causes.ok c.delete_counted.ensures.causes.out c.delete_counted.ensures.causes.reads end c.delete_indexes.ensures.changes
    c.in_ok-more.ensures.gone c.in_ok-more.ensures.causes.ok c.delete_indexes.ensures.causes.out c.delete_indexes.ensures.causes.reads)

pub returns-else-data-clause-gone : goal.returns-else-data-clause-gone
returns-else-data-clause-gone g c =
    let a = g.H.Host.view c.args.host.now in
    let b = g.H.Host.view c.delete_counted.new.host in
    let is : c.args.part.now ≡ File c.in-File.number c.as_slice.result.now = c.in-File.is ∙ ap (λ (ps : List PartNumber). File c.in-File.number ps) (sym c.as_slice.ensures) in
    let needs = part_needs c.args.views.now c.args.files.now c.in-File.number c.as_slice.result.now (g.H.Host.view c.args.host.now) c.args.part.now is (sym c.is_listed.ensures ∙ c.if-is_listed.false) c.requires.there c.requires.once in
    let change = subst (λ (f : FileName). Changes (Within (is_one_of (is_counted c.args.views.now 1) (f ∷ []))) a b) c.data.ensures c.delete_counted.ensures.changes in
    let gone = subst (λ (f : FileName). AreGone (is_counted c.args.views.now 1) b (f ∷ [])) c.data.ensures c.in_ok-data.ensures.gone in
    let end = g.H.Host.view c.delete_indexes.new.host in
    subst (λ (p : Part). AreGone (is_left c.args.views.now c.args.files.now) end (names_of p)) (sym is) (part_gone c.args.views.now c.args.files.now c.in-File.number c.as_slice.result.now a needs b change gone c.in_ok-data.ensures.causes.ok c.delete_counted.ensures.causes.out c.delete_counted.ensures.causes.reads end c.delete_indexes.ensures.changes
    c.in_ok-more.ensures.gone c.in_ok-more.ensures.causes.ok c.delete_indexes.ensures.causes.out c.delete_indexes.ensures.causes.reads)

pub returns-else-data-clause-idle : goal.returns-else-data-clause-idle
returns-else-data-clause-idle g c none =
    let a = g.H.Host.view c.args.host.now in
    let is : c.args.part.now ≡ File c.in-File.number c.as_slice.result.now = c.in-File.is ∙ ap (λ (ps : List PartNumber). File c.in-File.number ps) (sym c.as_slice.ensures) in
    let needs = part_needs c.args.views.now c.args.files.now c.in-File.number c.as_slice.result.now (g.H.Host.view c.args.host.now) c.args.part.now is (sym c.is_listed.ensures ∙ c.if-is_listed.false) c.requires.there c.requires.once in
    let un : AreUnchosen (is_counted c.args.views.now 1) (data_name c.in-File.number ∷ map (index_name c.in-File.number) c.as_slice.result.now) = none_counted c.args.views.now c.args.files.now c.in-File.number c.as_slice.result.now a needs (subst (λ (p : Part). AreUnchosen (is_left c.args.views.now c.args.files.now) (names_of p)) is none) in
    c.delete_indexes.ensures.idle un.1 ∙ c.delete_counted.ensures.idle (subst (λ (f : FileName). is_counted c.args.views.now 1 f ≡ false) (sym c.data.ensures) un.0)

pub returns-else-data-clause-told : goal.returns-else-data-clause-told
returns-else-data-clause-told g c none =
    let a = g.H.Host.view c.args.host.now in
    let is : c.args.part.now ≡ File c.in-File.number c.as_slice.result.now = c.in-File.is ∙ ap (λ (ps : List PartNumber). File c.in-File.number ps) (sym c.as_slice.ensures) in
    let needs = part_needs c.args.views.now c.args.files.now c.in-File.number c.as_slice.result.now (g.H.Host.view c.args.host.now) c.args.part.now is (sym c.is_listed.ensures ∙ c.if-is_listed.false) c.requires.there c.requires.once in
    let un : AreUnchosen (is_counted c.args.views.now 1) (data_name c.in-File.number ∷ map (index_name c.in-File.number) c.as_slice.result.now) = none_counted c.args.views.now c.args.files.now c.in-File.number c.as_slice.result.now a needs (subst (λ (p : Part). AreUnchosen (is_left c.args.views.now c.args.files.now) (names_of p)) is none) in
    c.in_ok-more.ensures.told un.1
