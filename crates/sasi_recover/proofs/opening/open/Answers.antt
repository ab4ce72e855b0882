use Rattle.std.proofs.Common.{◌≡◌, ◌∙◌, All, Contains, IfErr, List, None, OnOk, Option, Some, ap, inl, inr, is_some, map, subst, sym, true}
use Rattle.std.specs.List.{AllByRecursion}
use Rattle.std.proofs.lemmas.Result.{IfErr-weaker, IfOk-weaker, err_from_is_err_and}
use Rattle.sasi_host.specs.declared.name.FileName.{FileName}
use Rattle.sasi_host.proofs.ChangeLaws.{then_same}
use Rattle.sasi_host.specs.Disk.{Same}
use Rattle.sasi_host.specs.Faults.{read_fault_of}
use Rattle.sasi_host.specs.Names.{Folder, seal_name}
use Rattle.sasi_layout.specs.Classes.{KnowsIndexes}
use Rattle.sasi_manifest.specs.ListedDefinition.{ListedDefinition}
use Rattle.sasi_manifest.specs.Listings.{listed_definitions}
use Rattle.sasi_recover.specs.Faults.{OnOpenDamage}
use Rattle.sasi_recover.specs.NewFolder.{ReportsForeign, is_initial}
use Rattle.sasi_recover.specs.declared.opened.Opened.{Opened}
use Rattle.sasi_recover.specs.Opening.{IsHighestSeal}
use Rattle.sasi_recover.proofs.Damaged.{sealed_highest}
use Rattle.sasi_recover.proofs.Differences.{causes_behind, host_causes, host_differs_only, host_reports, read_missing, unopened_behind, untouched_behind}
use Rattle.sasi_recover.proofs.FolderOpening.{files_same, never_differs, never_missing, new_damage, new_moments, new_opens, new_serves, new_undamaged, same_moments_of, same_then_any, sealed_damage, sealed_differs, sealed_keeps, sealed_lacks, sealed_missing, sealed_moments, sealed_opens, sealed_shape, unsealed_fresh, unsealed_keeps, unsealed_lacks}
use Rattle.sasi_recover.proofs.ReadsOfOpening.{store_behind}
use Rattle.sasi_recover.proofs.SealedStore.{held_is_listed, listed_is_there}
use Rattle.sasi_recover.proofs.Checking.{same_any}
use Rattle.sasi_recover.proofs.SyncedFolder.{durable_fresh}
use Rattle.sasi_recover.proofs.ListedFiles.{foreign_unsealed, listed_same, listed_sealed, unsealed}
use Rattle.sasi_recover.proofs.opening.open.Goals as goal

pub returns-in_err-names-clause-safe : goal.returns-in_err-names-clause-safe
returns-in_err-names-clause-safe g c =
    let a = g.H.Host.view c.args.host.now in
    let b = g.H.Host.view c.sync_all.new.host in
    record {
      any_moment = λ folder l files shape. same_moments_of a b c.args.asked l c.sync_all.ensures.changes;
      kept = λ folder number files sealed. listed_same a b folder number c.sync_all.ensures.changes;
      foreign = λ folder files foreign. c.sync_all.ensures.changes;
      once = λ folder files. inl c.sync_all.ensures.causes.reads;
      changes = same_any a b c.sync_all.ensures.changes;
    }

pub returns-in_err-names-clause-reports : goal.returns-in_err-names-clause-reports
returns-in_err-names-clause-reports g c =
    let p = err_from_is_err_and c.from_residual.result c.from_residual.ensures.1 in
    rw (p.1, p.2) (host_reports Opened c.args.asked (map (λ b. (goal.Analyzer-dyn g (b.vtable, b.value)).kind b.value) c.args.kit.now.objects.items) (g.H.Host.view c.args.host.now) c.in_err-names.field-0.0)

pub returns-in_err-names-clause-causes : goal.returns-in_err-names-clause-causes
returns-in_err-names-clause-causes g c =
    let p = err_from_is_err_and c.from_residual.result c.from_residual.ensures.1 in
    rw (p.1, p.2) (host_causes _ _ c.in_err-names.field-0.0 c.in_err-names.ensures.causes)

pub returns-in-None-clause-serves : goal.returns-in-None-clause-serves
returns-in-None-clause-serves g c folder l files shape =
    let b = g.H.Host.view c.sync_all.new.host in
    let files_b = files_same (g.H.Host.view c.args.host.now) b folder c.sync_all.ensures.changes files in
    let none = subst (λ (l : List FileName). IsHighestSeal l None) c.deref.ensures.value c.in-None.ensures in
    let new = unsealed_fresh b c.in_ok-names.names.items c.args.asked folder l c.in_ok-names.ensures.names files_b none shape in
    new_serves b (g.H.Host.view c.open_new.new.host) l _ c.open_new.result new.1 c.open_new.ensures.serves (ap (λ (o : Option Folder). is_some o) files_b)
    (durable_fresh b folder (g.met.H.Host.sound c.sync_all.new.host) c.in_ok-names.ensures.folder_durable files_b new.0)

pub returns-in-None-clause-opens : goal.returns-in-None-clause-opens
returns-in-None-clause-opens g c folder files =
    let b = g.H.Host.view c.sync_all.new.host in
    let files_b = files_same (g.H.Host.view c.args.host.now) b folder c.sync_all.ensures.changes files in
    let firsts = subst (λ (l : List FileName). OnOk c.open_new.result (All (λ name. is_initial name ≡ true) l)) c.deref-in-None.ensures.value c.open_new.ensures.firsts in
    new_opens b c.in_ok-names.names.items folder c.open_new.result c.in_ok-names.ensures.names files_b firsts

pub returns-in-None-clause-safe : goal.returns-in-None-clause-safe
returns-in-None-clause-safe g c =
    let a = g.H.Host.view c.args.host.now in
    let b = g.H.Host.view c.sync_all.new.host in
    let none = subst (λ (l : List FileName). IsHighestSeal l None) c.deref.ensures.value c.in-None.ensures in
    record {
      any_moment = λ folder l files shape. (
          let files_b = files_same a b folder c.sync_all.ensures.changes files in
          let new = unsealed_fresh b c.in_ok-names.names.items c.args.asked folder l c.in_ok-names.ensures.names files_b none shape in
          let fresh = durable_fresh b folder (g.met.H.Host.sound c.sync_all.new.host) c.in_ok-names.ensures.folder_durable files_b new.0 in
          new_moments a b (g.H.Host.view c.open_new.new.host) c.args.asked l new.1 c.sync_all.ensures.changes (c.open_new.ensures.any_moment fresh));
      kept = λ folder number files sealed. absurd (unsealed b c.in_ok-names.names.items folder number c.in_ok-names.ensures.names (files_same a b folder c.sync_all.ensures.changes files) none sealed);
      foreign = λ folder files foreign. (
          let files_b = files_same a b folder c.sync_all.ensures.changes files in
          let has = held_is_listed b c.in_ok-names.names.items folder foreign.file c.in_ok-names.ensures.names files_b foreign.there in
          then_same a b (g.H.Host.view c.open_new.new.host) Same c.sync_all.ensures.changes
          (c.open_new.ensures.foreign foreign.file (subst (λ (l : List FileName). Contains l foreign.file) (sym c.deref-in-None.ensures.value) has) foreign.other));
      once = λ folder files. inl (c.open_new.ensures.reads ∙ c.sync_all.ensures.causes.reads);
      changes = same_then_any a b (g.H.Host.view c.open_new.new.host) c.sync_all.ensures.changes c.open_new.ensures.changes;
    }

pub returns-in-None-clause-reports : goal.returns-in-None-clause-reports
returns-in-None-clause-reports g c =
    let a = g.H.Host.view c.args.host.now in
    let b = g.H.Host.view c.sync_all.new.host in
    let none = subst (λ (l : List FileName). IsHighestSeal l None) c.deref.ensures.value c.in-None.ensures in
    let foreign = subst (λ (l : List FileName). IfErr c.open_new.result (OnOpenDamage (ReportsForeign l))) c.deref-in-None.ensures.value c.open_new.ensures.damaged in
    record {
      damaged = λ folder files. IfErr-weaker c.open_new.result _ _ (λ fault. new_damage b folder c.in_ok-names.names.items (files_same a b folder c.sync_all.ensures.changes files) c.in_ok-names.ensures.names fault none) foreign;
      undamaged = λ folder l files shape. (
          let files_b = files_same a b folder c.sync_all.ensures.changes files in
          let new = unsealed_fresh b c.in_ok-names.names.items c.args.asked folder l c.in_ok-names.ensures.names files_b none shape in
          IfErr-weaker c.open_new.result _ _ (λ fault no_false. new_undamaged b folder fault no_false files_b new.0) c.open_new.ensures.undamaged);
      differs = λ folder wanted kept files asks keeps apart. absurd (unsealed_keeps b c.in_ok-names.names.items folder kept c.in_ok-names.ensures.names (files_same a b folder c.sync_all.ensures.changes files) none keeps);
      differs_only = λ folder files. IfErr-weaker c.open_new.result _ _ (λ fault never. never_differs _ fault never) c.open_new.ensures.same;
      lacks = λ folder class files lacks. absurd (unsealed_lacks b c.in_ok-names.names.items folder (map (λ b. (goal.Analyzer-dyn g (b.vtable, b.value)).kind b.value) c.args.kit.now.objects.items) class c.in_ok-names.ensures.names (files_same a b folder c.sync_all.ensures.changes files) none lacks);
      lacks_only = λ folder files. IfErr-weaker c.open_new.result _ _ (λ fault never. never_missing _ fault never) c.open_new.ensures.none_missing;
    }

pub returns-in-None-clause-causes : goal.returns-in-None-clause-causes
returns-in-None-clause-causes g c = causes_behind (g.H.Host.view c.args.host.now) (g.H.Host.view c.sync_all.new.host) (g.H.Host.view c.open_new.new.host) c.open_new.result c.in_ok-names.ensures.causes.ok c.sync_all.ensures.causes.out c.open_new.ensures.causes

pub open_sealed-requires-clause-sealed : goal.open_sealed-requires-clause-sealed
open_sealed-requires-clause-sealed g c =
    let highest = subst (λ (l : List FileName). IsHighestSeal l (Some c.in-Some.number)) c.deref.ensures.value c.in-Some.ensures in
    listed_is_there (g.H.Host.view c.sync_all.new.host) c.in_ok-names.names.items (seal_name c.in-Some.number) c.in_ok-names.ensures.names highest.0

pub returns-clause-serves : goal.returns-clause-serves
returns-clause-serves g c folder l files shape =
    let b = g.H.Host.view c.sync_all.new.host in
    let files_b = files_same (g.H.Host.view c.args.host.now) b folder c.sync_all.ensures.changes files in
    let highest = subst (λ (l : List FileName). IsHighestSeal l (Some c.in-Some.number)) c.deref.ensures.value c.in-Some.ensures in
    let has = sealed_shape b c.in_ok-names.names.items c.args.asked folder l c.in_ok-names.ensures.names files_b c.in-Some.number highest shape in
    c.open_sealed.ensures.serves folder l has.1.0 files_b has.0 has.1.1

pub returns-clause-opens : goal.returns-clause-opens
returns-clause-opens g c folder files =
    let b = g.H.Host.view c.sync_all.new.host in
    let files_b = files_same (g.H.Host.view c.args.host.now) b folder c.sync_all.ensures.changes files in
    let highest = subst (λ (l : List FileName). IsHighestSeal l (Some c.in-Some.number)) c.deref.ensures.value c.in-Some.ensures in
    let sealed = sealed_highest b folder files_b c.in_ok-names.names.items c.in_ok-names.ensures.names c.in-Some.number highest in
    sealed_opens folder c.open_sealed.result (c.open_sealed.ensures.opens folder files_b sealed)

pub returns-clause-safe : goal.returns-clause-safe
returns-clause-safe g c =
    let a = g.H.Host.view c.args.host.now in
    let b = g.H.Host.view c.sync_all.new.host in
    let last = g.H.Host.view c.open_sealed.new.host in
    let number = c.in-Some.number in
    let highest = subst (λ (l : List FileName). IsHighestSeal l (Some c.in-Some.number)) c.deref.ensures.value c.in-Some.ensures in
    record {
      any_moment = λ folder l files shape. (
          let files_b = files_same a b folder c.sync_all.ensures.changes files in
          let has = sealed_shape b c.in_ok-names.names.items c.args.asked folder l c.in_ok-names.ensures.names files_b number highest shape in
          sealed_moments a b last c.args.asked l has.1.0 c.sync_all.ensures.changes (c.open_sealed.ensures.any_moment folder l has.1.0 files_b has.0 has.1.1));
      kept = λ folder other files sealed. (
          let files_b = files_same a b folder c.sync_all.ensures.changes files in
          let same = sealed_highest b folder files_b c.in_ok-names.names.items c.in_ok-names.ensures.names number highest in
          listed_sealed a b last folder other number sealed same c.sync_all.ensures.changes (c.open_sealed.ensures.kept folder files_b));
      foreign = λ folder files foreign. absurd (foreign_unsealed b c.in_ok-names.names.items folder number c.in_ok-names.ensures.names (files_same a b folder c.sync_all.ensures.changes files) foreign highest);
      once = λ folder files. (
          let files_b = files_same a b folder c.sync_all.ensures.changes files in
          let sealed = sealed_highest b folder files_b c.in_ok-names.names.items c.in_ok-names.ensures.names number highest in
          inr (number, sealed, store_behind a b last folder number c.sync_all.ensures.causes.reads (c.open_sealed.ensures.once folder files_b)));
      changes = same_then_any a b last c.sync_all.ensures.changes c.open_sealed.ensures.changes;
    }

pub returns-clause-reports : goal.returns-clause-reports
returns-clause-reports g c =
    let a = g.H.Host.view c.args.host.now in
    let b = g.H.Host.view c.sync_all.new.host in
    let number = c.in-Some.number in
    let highest = subst (λ (l : List FileName). IsHighestSeal l (Some c.in-Some.number)) c.deref.ensures.value c.in-Some.ensures in
    record {
      damaged = λ folder files. (
          let files_b = files_same a b folder c.sync_all.ensures.changes files in
          IfErr-weaker c.open_sealed.result _ _ (λ fault. sealed_damage folder number fault (sealed_highest b folder files_b c.in_ok-names.names.items c.in_ok-names.ensures.names number highest)) (c.open_sealed.ensures.damaged folder files_b));
      undamaged = λ folder l files shape. (
          let files_b = files_same a b folder c.sync_all.ensures.changes files in
          let has = sealed_shape b c.in_ok-names.names.items c.args.asked folder l c.in_ok-names.ensures.names files_b number highest shape in
          c.open_sealed.ensures.undamaged folder l has.1.0 files_b has.0 has.1.1);
      differs = λ folder wanted kept files asks keeps apart. (
          let files_b = files_same a b folder c.sync_all.ensures.changes files in
          c.open_sealed.ensures.differs folder wanted kept files_b asks (sealed_keeps b c.in_ok-names.names.items folder number kept (sealed_highest b folder files_b c.in_ok-names.names.items c.in_ok-names.ensures.names number highest) keeps) apart);
      differs_only = λ folder files. (
          let files_b = files_same a b folder c.sync_all.ensures.changes files in
          IfErr-weaker c.open_sealed.result _ _ (λ fault. sealed_differs folder number c.args.asked fault (sealed_highest b folder files_b c.in_ok-names.names.items c.in_ok-names.ensures.names number highest)) (c.open_sealed.ensures.differs_only folder files_b));
      lacks = λ folder class files lacks. (
          let files_b = files_same a b folder c.sync_all.ensures.changes files in
          c.open_sealed.ensures.lacks folder class files_b (sealed_lacks folder number (map (λ b. (goal.Analyzer-dyn g (b.vtable, b.value)).kind b.value) c.args.kit.now.objects.items) class (sealed_highest b folder files_b c.in_ok-names.names.items c.in_ok-names.ensures.names number highest) lacks));
      lacks_only = λ folder files. (
          let files_b = files_same a b folder c.sync_all.ensures.changes files in
          IfErr-weaker c.open_sealed.result _ _ (λ fault. sealed_missing folder number (map (λ b. (goal.Analyzer-dyn g (b.vtable, b.value)).kind b.value) c.args.kit.now.objects.items) fault (sealed_highest b folder files_b c.in_ok-names.names.items c.in_ok-names.ensures.names number highest)) (c.open_sealed.ensures.lacks_only folder files_b));
    }

pub returns-clause-causes : goal.returns-clause-causes
returns-clause-causes g c = causes_behind (g.H.Host.view c.args.host.now) (g.H.Host.view c.sync_all.new.host) (g.H.Host.view c.open_sealed.new.host) c.open_sealed.result c.in_ok-names.ensures.causes.ok c.sync_all.ensures.causes.out c.open_sealed.ensures.causes

pub returns-in_err-names-clause-untouched : goal.returns-in_err-names-clause-untouched
returns-in_err-names-clause-untouched g c =
    let p = err_from_is_err_and c.from_residual.result c.from_residual.ensures.1 in
    rw (p.1, p.2) (host_differs_only _ c.in_err-names.field-0.0)

pub returns-in-None-clause-untouched : goal.returns-in-None-clause-untouched
returns-in-None-clause-untouched g c = IfErr-weaker c.open_new.result _ _ (λ fault never. never_differs _ fault never) c.open_new.ensures.same

pub returns-clause-untouched : goal.returns-clause-untouched
returns-clause-untouched g c =
    IfErr-weaker c.open_sealed.result _ _
    (λ fault. untouched_behind (g.H.Host.view c.args.host.now) (g.H.Host.view c.sync_all.new.host) (g.H.Host.view c.open_sealed.new.host) fault c.sync_all.ensures.changes) c.open_sealed.ensures.untouched

pub returns-in_err-names-clause-unopened : goal.returns-in_err-names-clause-unopened
returns-in_err-names-clause-unopened g c =
    let p = err_from_is_err_and c.from_residual.result c.from_residual.ensures.1 in
    rw (p.1, p.2) (read_missing _ (read_fault_of c.in_err-names.field-0.0))

pub returns-in-None-clause-unopened : goal.returns-in-None-clause-unopened
returns-in-None-clause-unopened g c = IfErr-weaker c.open_new.result _ _ (λ fault never. never_missing _ fault never) c.open_new.ensures.none_missing

pub returns-clause-unopened : goal.returns-clause-unopened
returns-clause-unopened g c =
    IfErr-weaker c.open_sealed.result _ _
    (λ fault. unopened_behind (g.H.Host.view c.args.host.now) (g.H.Host.view c.sync_all.new.host) (g.H.Host.view c.open_sealed.new.host) fault c.sync_all.ensures.changes) c.open_sealed.ensures.unopened

pub returns-in-None-clause-classes : goal.returns-in-None-clause-classes
returns-in-None-clause-classes g c =
    IfOk-weaker c.open_new.result _ _ (λ opened empty. subst (λ (ts : List ListedDefinition). AllByRecursion (KnowsIndexes (map (λ b. (goal.Analyzer-dyn g (b.vtable, b.value)).kind b.value) c.args.kit.now.objects.items)) (listed_definitions ts)) (sym empty) tt) c.open_new.ensures.empty

pub returns-in_err-names-clause-absent : goal.returns-in_err-names-clause-absent
returns-in_err-names-clause-absent g c =
    let p = err_from_is_err_and c.from_residual.result c.from_residual.ensures.1 in
    rw (p.1, p.2) (read_missing _ (read_fault_of c.in_err-names.field-0.0))

pub returns-in-None-clause-absent : goal.returns-in-None-clause-absent
returns-in-None-clause-absent g c = IfErr-weaker c.open_new.result _ _ (λ fault never. never_missing _ fault never) c.open_new.ensures.none_missing
