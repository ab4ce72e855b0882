use Rattle.std.proofs.Common.{◌≡◌, ◌∙◌, List, OnOk, ap, subst}
use Rattle.sasi_host.specs.Disk.{Changes, Within}
use Rattle.sasi_manifest.specs.Edits.{files_of}
use Rattle.sasi_manifest.specs.declared.files.ListedFile.{ListedFile}
use Rattle.sasi_manifest.specs.declared.listing.Listing.{Listing}
use Rattle.sasi_tasks.specs.Unheld.{AreGone, AreUnchosen, is_left, is_one_of}
use Rattle.sasi_views.specs.Parts.{view_names}
use Rattle.sasi_views.specs.declared.part.Part.{Part}
use Rattle.sasi_store.proofs.cursors.give_back.Goals as goal

pub returns-clause-gone : goal.returns-clause-gone
returns-clause-gone g c =
    let w = g.H.Host.view c.delete_left-deleted.new.host in
    let files = c.files_of-files.ensures ∙ ap (λ (k : Listing). files_of k.tables c.args.table) c.listing.ensures.listing in
    subst (λ (fs : List ListedFile). OnOk c.delete_left-deleted.result (AreGone (is_left c.args.views.now fs) w (view_names c.args.view))) files
    (subst (λ (ps : List Part). OnOk c.delete_left-deleted.result (AreGone (is_left c.args.views.now c.files_of-files.result.now) w (view_names ps))) (c.as_slice.ensures ∙ c.parts.ensures) c.delete_left-deleted.ensures.gone)

pub returns-clause-idle : goal.returns-clause-idle
returns-clause-idle g c =
    let files = c.files_of-files.ensures ∙ ap (λ (k : Listing). files_of k.tables c.args.table) c.listing.ensures.listing in
    subst (λ (fs : List ListedFile). AreUnchosen (is_left c.args.views.now fs) (view_names c.args.view) → c.delete_left-deleted.new.host ≡ c.args.host.now) files
    (subst (λ (ps : List Part). AreUnchosen (is_left c.args.views.now c.files_of-files.result.now) (view_names ps) → c.delete_left-deleted.new.host ≡ c.args.host.now) (c.as_slice.ensures ∙ c.parts.ensures) c.delete_left-deleted.ensures.idle)

pub returns-clause-changes : goal.returns-clause-changes
returns-clause-changes g c =
    let v = g.H.Host.view c.args.host.now in
    let w = g.H.Host.view c.delete_left-deleted.new.host in
    let files = c.files_of-files.ensures ∙ ap (λ (k : Listing). files_of k.tables c.args.table) c.listing.ensures.listing in
    subst (λ (fs : List ListedFile). Changes (Within (is_one_of (is_left c.args.views.now fs) (view_names c.args.view))) v w) files
    (subst (λ (ps : List Part). Changes (Within (is_one_of (is_left c.args.views.now c.files_of-files.result.now) (view_names ps))) v w) (c.as_slice.ensures ∙ c.parts.ensures) c.delete_left-deleted.ensures.changes)
