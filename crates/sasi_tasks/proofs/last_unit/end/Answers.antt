use Rattle.std.proofs.Common.{◌≡◌, ◌∙◌, ◌+◌, ◌<◌, ◌≤◌, ◌^◌, List, length, take, Ok, ℕ, ap, subst, sym, arith}
use Rattle.std.proofs.lemmas.Result.{err_from_is_err_and}
use Rattle.std.specs.List.{flat_map}
use Rattle.sasi_host.specs.Disk.{Changes, Within}
use Rattle.sasi_host.specs.declared.name.FileName.{FileName}
use Rattle.sasi_compact.specs.Listing.{edits_of}
use Rattle.sasi_compact.specs.Tasks.{IsReady}
use Rattle.sasi_manifest.specs.Edits.{encoded}
use Rattle.sasi_manifest.specs.ListedFiles.{names_of}
use Rattle.sasi_tables.proofs.TablesInMemory.{index_got, there_inside}
use Rattle.sasi_tasks.proofs.LastCall.{as_task, can_end, names_own, same_task, sources_within, stops_own}
use Rattle.sasi_tasks.proofs.LastFolder.{sources_once, sources_there}
use Rattle.sasi_tasks.proofs.LastMakes.{delete_stopped, list_stopped, record_stopped, unit_done}
use Rattle.sasi_tasks.proofs.LastRecord.{can_list, can_parts, parts_are, task}
use Rattle.sasi_tasks.proofs.LastSpent.{draw_stopped, names_stopped}
use Rattle.sasi_tasks.proofs.LastTasks.{parts_after}
use Rattle.sasi_tasks.specs.MakesTaskMoves.{MakesTaskMoves}
use Rattle.sasi_tasks.specs.Tasks.{end_moves, without}
use Rattle.sasi_tasks.specs.Unheld.{AreGone, AreOnce, AreThere, is_counted, is_one_of}
use Rattle.sasi_tasks.specs.declared.running.RunningTask.{RunningTask}
use Rattle.sasi_tasks.proofs.last_unit.end.Goals as goal

-- ---- the parts are drawn

pub returns-in_err-drawn-clause-makes : goal.returns-in_err-drawn-clause-makes
returns-in_err-drawn-clause-makes g c r there =
    let q = err_from_is_err_and c.from_residual.result c.from_residual.ensures.1 in
    let a = g.H.Host.view c.args.host.now in
    let sound = g.met.H.Host.sound c.args.host.now in
    let views = c.args.views.now in
    let p = c.args.parts.now in
    let tasks = c.args.tasks.now.items in
    let at = c.args.at in
    let given = c.requires.passed in
    let within : at < length tasks = there_inside tasks at given.0 given.1 in
    let seen1 = index_got tasks at c.index.result.now within c.index.ensures in
    rw (q.1, q.2) (draw_stopped a views p tasks at r c.requires.ready there sound c.in_err-drawn.field-0.0 (stops_own a views p tasks at r c.requires.ready there c.in_err-drawn.field-0.0 c.index.result.now seen1 c.in_err-drawn.ensures.stops))

pub index-requires-2 : goal.index-requires-2
index-requires-2 g c = omega (arith, there_inside c.args.tasks.now.items c.args.at c.requires.passed.0 c.requires.passed.1, c.args.tasks.now.ok.0)

pub returns-then-record_length-gt-MAX_RECORD-clause-makes : goal.returns-then-record_length-gt-MAX_RECORD-clause-makes
returns-then-record_length-gt-MAX_RECORD-clause-makes g c r there =
    let a = g.H.Host.view c.args.host.now in
    let sound = g.met.H.Host.sound c.args.host.now in
    let views = c.args.views.now in
    let p = c.args.parts.now in
    let tasks = c.args.tasks.now.items in
    let at = c.args.at in
    let given = c.requires.passed in
    let within : at < length tasks = there_inside tasks at given.0 given.1 in
    let seen1 = index_got tasks at c.index.result.now within c.index.ensures in
    let seen2 = index_got tasks at c.index-2.result.now within c.index-2.ensures in
    let d = c.in_ok-drawn.drawn in
    let last : IsReady r.task = subst (λ (o : RunningTask). IsReady o.task) (same_task tasks at given.0 r given.1 there) given.2 in
    let e = can_end a views p tasks at r c.requires.ready there d last c.index.result.now seen1 c.in_ok-drawn.ensures.drawn in
    record_stopped a sound views p tasks at r d e
    (subst (λ (o : RunningTask). 2 ^ 30 < length (encoded (edits_of p.manifest.listing o.table o.task.compaction d))) (same_task tasks at c.index-2.result.now r seen2 there)
    (omega (arith, c.record_length.ensures p.manifest.listing c.index-2.result.now.table, c.if-record_length-gt-MAX_RECORD.true)))

pub index-requires-3 : goal.index-requires-3
index-requires-3 g c = omega (arith, there_inside c.args.tasks.now.items c.args.at c.requires.passed.0 c.requires.passed.1, c.args.tasks.now.ok.0)

pub source_names-requires : goal.source_names-requires
source_names-requires g c =
    let a = g.H.Host.view c.args.host.now in
    let sound = g.met.H.Host.sound c.args.host.now in
    let views = c.args.views.now in
    let p = c.args.parts.now in
    let tasks = c.args.tasks.now.items in
    let at = c.args.at in
    let given = c.requires.passed in
    let within : at < length tasks = there_inside tasks at given.0 given.1 in
    let seen3 = index_got tasks at c.index-3.result.now within c.index-3.ensures in
    sources_within a views p tasks at c.index-3.result.now c.requires.ready seen3

pub returns-in_err-names-clause-makes : goal.returns-in_err-names-clause-makes
returns-in_err-names-clause-makes g c r there =
    let q = err_from_is_err_and c.from_residual-in_err-names.result c.from_residual-in_err-names.ensures.1 in
    rw (q.1, q.2) (names_stopped (g.H.Host.view c.args.host.now) c.args.views.now c.args.parts.now c.args.tasks.now.items c.args.at r c.requires.ready there (g.met.H.Host.sound c.args.host.now))

pub remove-running-requires : goal.remove-running-requires
remove-running-requires g c = omega (arith, there_inside c.args.tasks.now.items c.args.at c.requires.passed.0 c.requires.passed.1, c.args.tasks.now.ok.0)

-- ---- the output is listed

pub finish-requires-clause-ready : goal.finish-requires-clause-ready
finish-requires-clause-ready g c =
    let a = g.H.Host.view c.args.host.now in
    let sound = g.met.H.Host.sound c.args.host.now in
    let views = c.args.views.now in
    let p = c.args.parts.now in
    let tasks = c.args.tasks.now.items in
    let at = c.args.at in
    let given = c.requires.passed in
    let within : at < length tasks = there_inside tasks at given.0 given.1 in
    let run = c.remove-running.result in
    let seen = index_got tasks at run within c.remove-running.ensures.value in
    subst (λ (o : RunningTask). IsReady o.task) (same_task tasks at given.0 run given.1 seen) given.2

pub finish-requires-clause-parts : goal.finish-requires-clause-parts
finish-requires-clause-parts g c =
    let a = g.H.Host.view c.args.host.now in
    let sound = g.met.H.Host.sound c.args.host.now in
    let views = c.args.views.now in
    let p = c.args.parts.now in
    let tasks = c.args.tasks.now.items in
    let at = c.args.at in
    let given = c.requires.passed in
    let within : at < length tasks = there_inside tasks at given.0 given.1 in
    let seen1 = index_got tasks at c.index.result.now within c.index.ensures in
    let run = c.remove-running.result in
    let seen = index_got tasks at run within c.remove-running.ensures.value in
    let last : IsReady run.task = subst (λ (o : RunningTask). IsReady o.task) (same_task tasks at given.0 run given.1 seen) given.2 in
    let d = c.in_ok-drawn.drawn in
    let e = can_end a views p tasks at run c.requires.ready seen d last c.index.result.now seen1 c.in_ok-drawn.ensures.drawn in
    can_parts a views p tasks at run d e

pub finish-requires-clause-lists : goal.finish-requires-clause-lists
finish-requires-clause-lists g c =
    let a = g.H.Host.view c.args.host.now in
    let sound = g.met.H.Host.sound c.args.host.now in
    let views = c.args.views.now in
    let p = c.args.parts.now in
    let tasks = c.args.tasks.now.items in
    let at = c.args.at in
    let given = c.requires.passed in
    let within : at < length tasks = there_inside tasks at given.0 given.1 in
    let seen1 = index_got tasks at c.index.result.now within c.index.ensures in
    let seen2 = index_got tasks at c.index-2.result.now within c.index-2.ensures in
    let run = c.remove-running.result in
    let seen = index_got tasks at run within c.remove-running.ensures.value in
    let last : IsReady run.task = subst (λ (o : RunningTask). IsReady o.task) (same_task tasks at given.0 run given.1 seen) given.2 in
    let d = c.in_ok-drawn.drawn in
    let e = can_end a views p tasks at run c.requires.ready seen d last c.index.result.now seen1 c.in_ok-drawn.ensures.drawn in
    let short : length (encoded (edits_of p.manifest.listing run.table run.task.compaction d)) ≤ 2 ^ 30 =
    subst (λ (o : RunningTask). length (encoded (edits_of p.manifest.listing o.table o.task.compaction d)) ≤ 2 ^ 30) (same_task tasks at c.index-2.result.now run seen2 seen) (omega (arith, c.record_length.ensures p.manifest.listing c.index-2.result.now.table, c.if-record_length-gt-MAX_RECORD.false)) in
    can_list a views p tasks at run d e (omega (arith, c.remove-running.type_inv)) short

pub returns-in_err-finish-clause-makes : goal.returns-in_err-finish-clause-makes
returns-in_err-finish-clause-makes g c r there =
    let q = err_from_is_err_and c.from_residual-in_err-finish.result c.from_residual-in_err-finish.ensures.1 in
    let a = g.H.Host.view c.args.host.now in
    let sound = g.met.H.Host.sound c.args.host.now in
    let views = c.args.views.now in
    let p = c.args.parts.now in
    let tasks = c.args.tasks.now.items in
    let at = c.args.at in
    let given = c.requires.passed in
    let within : at < length tasks = there_inside tasks at given.0 given.1 in
    let seen1 = index_got tasks at c.index.result.now within c.index.ensures in
    let run = c.remove-running.result in
    let seen = index_got tasks at run within c.remove-running.ensures.value in
    let last : IsReady run.task = subst (λ (o : RunningTask). IsReady o.task) (same_task tasks at given.0 run given.1 seen) given.2 in
    let d = c.in_ok-drawn.drawn in
    let e = can_end a views p tasks at run c.requires.ready seen d last c.index.result.now seen1 c.in_ok-drawn.ensures.drawn in
    rw (q.1, q.2)
    (as_task views a (g.H.Host.view c.finish.new.host) p _ tasks _ _ run r (same_task tasks at run r seen there)
    (list_stopped a sound views p tasks at run d e (g.H.Host.view c.finish.new.host) c.finish.ensures.changes c.finish.ensures.whole _ _ c.in_err-finish.field-0.0 c.in_err-finish.ensures.causes))

-- ---- its number

pub overflow_cast-parts : goal.overflow_cast-parts
overflow_cast-parts g c =
    let a = g.H.Host.view c.args.host.now in
    let sound = g.met.H.Host.sound c.args.host.now in
    let views = c.args.views.now in
    let p = c.args.parts.now in
    let tasks = c.args.tasks.now.items in
    let at = c.args.at in
    let given = c.requires.passed in
    let within : at < length tasks = there_inside tasks at given.0 given.1 in
    let seen1 = index_got tasks at c.index.result.now within c.index.ensures in
    let run = c.remove-running.result in
    let seen = index_got tasks at run within c.remove-running.ensures.value in
    let last : IsReady run.task = subst (λ (o : RunningTask). IsReady o.task) (same_task tasks at given.0 run given.1 seen) given.2 in
    let d = c.in_ok-drawn.drawn in
    let e = can_end a views p tasks at run c.requires.ready seen d last c.index.result.now seen1 c.in_ok-drawn.ensures.drawn in
    omega (arith, ap length c.as_slice.ensures, (parts_are a views p tasks at run d e).room)

pub overflow_add-parts : goal.overflow_add-parts
overflow_add-parts g c =
    let a = g.H.Host.view c.args.host.now in
    let sound = g.met.H.Host.sound c.args.host.now in
    let views = c.args.views.now in
    let p = c.args.parts.now in
    let tasks = c.args.tasks.now.items in
    let at = c.args.at in
    let given = c.requires.passed in
    let within : at < length tasks = there_inside tasks at given.0 given.1 in
    let seen1 = index_got tasks at c.index.result.now within c.index.ensures in
    let run = c.remove-running.result in
    let seen = index_got tasks at run within c.remove-running.ensures.value in
    let last : IsReady run.task = subst (λ (o : RunningTask). IsReady o.task) (same_task tasks at given.0 run given.1 seen) given.2 in
    let d = c.in_ok-drawn.drawn in
    let e = can_end a views p tasks at run c.requires.ready seen d last c.index.result.now seen1 c.in_ok-drawn.ensures.drawn in
    omega (arith, ap length c.as_slice.ensures, (parts_are a views p tasks at run d e).room)

-- ---- the sources are deleted

pub delete_unheld-requires-clause-there : goal.delete_unheld-requires-clause-there
delete_unheld-requires-clause-there g c =
    let a = g.H.Host.view c.args.host.now in
    let sound = g.met.H.Host.sound c.args.host.now in
    let views = c.args.views.now in
    let p = c.args.parts.now in
    let tasks = c.args.tasks.now.items in
    let at = c.args.at in
    let given = c.requires.passed in
    let within : at < length tasks = there_inside tasks at given.0 given.1 in
    let seen1 = index_got tasks at c.index.result.now within c.index.ensures in
    let seen3 = index_got tasks at c.index-3.result.now within c.index-3.ensures in
    let run = c.remove-running.result in
    let seen = index_got tasks at run within c.remove-running.ensures.value in
    let last : IsReady run.task = subst (λ (o : RunningTask). IsReady o.task) (same_task tasks at given.0 run given.1 seen) given.2 in
    let d = c.in_ok-drawn.drawn in
    let e = can_end a views p tasks at run c.requires.ready seen d last c.index.result.now seen1 c.in_ok-drawn.ensures.drawn in
    let b = g.H.Host.view c.finish.new.host in
    let m = c.finish.new.manifest in
    let sources = take (length run.task.compaction.sources) (task a views p tasks at run d e).row.files in
    let names : c.deref.result.now ≡ flat_map names_of sources = c.deref.ensures.value ∙ names_own a views p tasks at run c.requires.ready seen d e c.index-3.result.now seen3 c.in_ok-names.names.items c.in_ok-names.ensures in
    subst (AreThere (is_counted views 0) b) (sym names) (sources_there a views p tasks at run d e m.listing c.in_ok-finish.ensures.listing b c.finish.ensures.changes)

pub delete_unheld-requires-clause-once : goal.delete_unheld-requires-clause-once
delete_unheld-requires-clause-once g c =
    let a = g.H.Host.view c.args.host.now in
    let sound = g.met.H.Host.sound c.args.host.now in
    let views = c.args.views.now in
    let p = c.args.parts.now in
    let tasks = c.args.tasks.now.items in
    let at = c.args.at in
    let given = c.requires.passed in
    let within : at < length tasks = there_inside tasks at given.0 given.1 in
    let seen1 = index_got tasks at c.index.result.now within c.index.ensures in
    let seen3 = index_got tasks at c.index-3.result.now within c.index-3.ensures in
    let run = c.remove-running.result in
    let seen = index_got tasks at run within c.remove-running.ensures.value in
    let last : IsReady run.task = subst (λ (o : RunningTask). IsReady o.task) (same_task tasks at given.0 run given.1 seen) given.2 in
    let d = c.in_ok-drawn.drawn in
    let e = can_end a views p tasks at run c.requires.ready seen d last c.index.result.now seen1 c.in_ok-drawn.ensures.drawn in
    let b = g.H.Host.view c.finish.new.host in
    let m = c.finish.new.manifest in
    let sources = take (length run.task.compaction.sources) (task a views p tasks at run d e).row.files in
    let names : c.deref.result.now ≡ flat_map names_of sources = c.deref.ensures.value ∙ names_own a views p tasks at run c.requires.ready seen d e c.index-3.result.now seen3 c.in_ok-names.names.items c.in_ok-names.ensures in
    subst AreOnce (sym names) (sources_once a views p tasks at run d e)

pub returns-in_err-delete_unheld-clause-makes : goal.returns-in_err-delete_unheld-clause-makes
returns-in_err-delete_unheld-clause-makes g c r there =
    let q = err_from_is_err_and c.from_residual-in_err-delete_unheld.result c.from_residual-in_err-delete_unheld.ensures.1 in
    let a = g.H.Host.view c.args.host.now in
    let sound = g.met.H.Host.sound c.args.host.now in
    let views = c.args.views.now in
    let p = c.args.parts.now in
    let tasks = c.args.tasks.now.items in
    let at = c.args.at in
    let given = c.requires.passed in
    let within : at < length tasks = there_inside tasks at given.0 given.1 in
    let seen1 = index_got tasks at c.index.result.now within c.index.ensures in
    let seen3 = index_got tasks at c.index-3.result.now within c.index-3.ensures in
    let run = c.remove-running.result in
    let seen = index_got tasks at run within c.remove-running.ensures.value in
    let last : IsReady run.task = subst (λ (o : RunningTask). IsReady o.task) (same_task tasks at given.0 run given.1 seen) given.2 in
    let d = c.in_ok-drawn.drawn in
    let e = can_end a views p tasks at run c.requires.ready seen d last c.index.result.now seen1 c.in_ok-drawn.ensures.drawn in
    let b = g.H.Host.view c.finish.new.host in
    let m = c.finish.new.manifest in
    let sources = take (length run.task.compaction.sources) (task a views p tasks at run d e).row.files in
    let names : c.deref.result.now ≡ flat_map names_of sources = c.deref.ensures.value ∙ names_own a views p tasks at run c.requires.ready seen d e c.index-3.result.now seen3 c.in_ok-names.names.items c.in_ok-names.ensures in
    let w = g.H.Host.view c.delete_unheld.new.host in
    let deleted = subst (λ (ns : List FileName). Changes (Within (is_one_of (is_counted views 0) ns)) b w) names c.delete_unheld.ensures.changes in
    let ok = c.in_ok-finish.ensures in
    rw (q.1, q.2)
    (as_task views a w p _ tasks _ _ run r (same_task tasks at run r seen there)
    (delete_stopped a sound views p tasks at run d e b c.finish.ensures.changes c.finish.ensures.whole (g.met.H.Host.sound c.finish.new.host) m ok.listing c.finish.ensures.number ok.stands ok.kept _ ok.causes w deleted _ _ c.in_err-delete_unheld.field-0.0 c.in_err-delete_unheld.ensures.causes))

pub returns-clause-makes : goal.returns-clause-makes
returns-clause-makes g c r there =
    let a = g.H.Host.view c.args.host.now in
    let sound = g.met.H.Host.sound c.args.host.now in
    let views = c.args.views.now in
    let p = c.args.parts.now in
    let tasks = c.args.tasks.now.items in
    let at = c.args.at in
    let given = c.requires.passed in
    let within : at < length tasks = there_inside tasks at given.0 given.1 in
    let seen1 = index_got tasks at c.index.result.now within c.index.ensures in
    let seen2 = index_got tasks at c.index-2.result.now within c.index-2.ensures in
    let seen3 = index_got tasks at c.index-3.result.now within c.index-3.ensures in
    let run = c.remove-running.result in
    let seen = index_got tasks at run within c.remove-running.ensures.value in
    let last : IsReady run.task = subst (λ (o : RunningTask). IsReady o.task) (same_task tasks at given.0 run given.1 seen) given.2 in
    let d = c.in_ok-drawn.drawn in
    let e = can_end a views p tasks at run c.requires.ready seen d last c.index.result.now seen1 c.in_ok-drawn.ensures.drawn in
    let short : length (encoded (edits_of p.manifest.listing run.table run.task.compaction d)) ≤ 2 ^ 30 =
    subst (λ (o : RunningTask). length (encoded (edits_of p.manifest.listing o.table o.task.compaction d)) ≤ 2 ^ 30) (same_task tasks at c.index-2.result.now run seen2 seen) (omega (arith, c.record_length.ensures p.manifest.listing c.index-2.result.now.table, c.if-record_length-gt-MAX_RECORD.false)) in
    let b = g.H.Host.view c.finish.new.host in
    let m = c.finish.new.manifest in
    let sources = take (length run.task.compaction.sources) (task a views p tasks at run d e).row.files in
    let names : c.deref.result.now ≡ flat_map names_of sources = c.deref.ensures.value ∙ names_own a views p tasks at run c.requires.ready seen d e c.index-3.result.now seen3 c.in_ok-names.names.items c.in_ok-names.ensures in
    let w = g.H.Host.view c.delete_unheld.new.host in
    let deleted = subst (λ (ns : List FileName). Changes (Within (is_one_of (is_counted views 0) ns)) b w) names c.delete_unheld.ensures.changes in
    let ok = c.in_ok-finish.ensures in
    let gone = subst (AreGone (is_counted views 0) w) names c.in_ok-delete_unheld.ensures.gone in
    let many : length d ≡ length c.as_slice.result.now = sym (ap length c.as_slice.ensures) in
    as_task views a w p _ tasks _ _ run r (same_task tasks at run r seen there)
    (subst (λ (k : ℕ). MakesTaskMoves (λ l ks. end_moves run.table ks) (λ l ks. without run.table ks) views a w p (parts_after p m (p.numbers.part + k)) tasks c.remove-running.new.self.items (Ok tt)) many
    (subst (λ (ts : List RunningTask). MakesTaskMoves (λ l ks. end_moves run.table ks) (λ l ks. without run.table ks) views a w p (parts_after p m (p.numbers.part + length d)) tasks ts (Ok tt)) (sym c.remove-running.ensures.items)
    (unit_done a sound views p tasks at run d e b c.finish.ensures.changes c.finish.ensures.whole (g.met.H.Host.sound c.finish.new.host) m ok.listing c.finish.ensures.number ok.stands ok.kept _ ok.causes w deleted _ (omega (arith, c.remove-running.type_inv)) short ok.room ok.usable ok.there gone c.in_ok-delete_unheld.ensures.causes)))
