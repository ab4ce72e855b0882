use Rattle.std.proofs.Common.{◌≡◌, ◌+◌, ◌∷◌, [], List, Some, None, ap, subst, sym, ◌∙◌}
use Rattle.std.specs.List.{AllByRecursion}
use Rattle.sasi_host.specs.declared.name.FileName.{FileName}
use Rattle.sasi_host.specs.View.{Reaches}
use Rattle.sasi_host.specs.Disk.{AnyChange, Changes, FileChange}
use Rattle.sasi_gated.specs.Handles.{IsAtEnd}
use Rattle.sasi_manifest.specs.declared.edit.Edit.{Edit}
use Rattle.sasi_manifest.specs.declared.listing.Listing.{Listing}
use Rattle.sasi_manifest.specs.Edits.{encoded}
use Rattle.sasi_manifest.specs.Format.{IsRewritten}
use Rattle.sasi_manifest.specs.OpenManifest.{Creates, IsUnsealed}
use Rattle.sasi_manifest.specs.Listings.{FitsWidths, after_all, rewrite_edits, with_record_counted}
use Rattle.sasi_manifest.proofs.CrashMoments.{unmade, unmade_touches, made_file, made_file_touches, made_both, made_both_touches, stands_made, room_made, new_builds, new_is_open}
use Rattle.sasi_manifest.proofs.Records.{all_writable}
use Rattle.sasi_manifest.proofs.create.create_sealed.Given.{Over}
use Rattle.sasi_manifest.proofs.create.create_sealed.Goals.{After-make_seal}
use Rattle.sasi_manifest.proofs.create.create_sealed.Goals as goal

-- the manifest at each moment, once the making of its seal was tried
moments : (g : Over) (c : After-make_seal g) (made : Listing) → IsRewritten c.args.listing.now made → IsUnsealed (g.H.Host.view c.args.host.now) c.args.number
    → Changes (Creates c.args.number made) (g.H.Host.view c.args.host.now) (g.H.Host.view c.make_seal.new.host)
moments g c made is unsealed =
    let first = subst (λ (f : FileName). Changes (FileChange f AnyChange) (g.H.Host.view c.args.host.now) (g.H.Host.view c.create.new.host)) c.manifest.ensures c.create.ensures.changes in
    let payload = c.in_ok-record.record in
    let end = subst (λ (f : FileName). IsAtEnd (g.H.Host.view c.create.new.host) f c.in_ok-gated.gated.at (payload ∷ [])) c.manifest.ensures c.in_ok-gated.ensures.ok in
    let items = c.deref.ensures.value ∙ c.in_ok-edits.ensures in
    let is_payload = c.in_ok-record.ensures ∙ ap encoded items in
    made_both (g.H.Host.view c.args.host.now) (g.H.Host.view c.create.new.host)
    (g.H.Host.view c.make_seal.new.host) c.args.number c.in_ok-gated.gated.at made (payload ∷ []) (g.met.H.Host.sound c.args.host.now)
    (g.met.H.Host.sound c.create.new.host) unsealed first end
    (new_builds c.args.listing.now made payload c.requires.apply c.requires.short is_payload is) c.make_seal.ensures.changes

pub encode-requires-clause-writable : goal.encode-requires-clause-writable
encode-requires-clause-writable g c =
    subst (AllByRecursion FitsWidths) (sym (c.deref.ensures.value ∙ c.in_ok-edits.ensures)) (all_writable None (rewrite_edits c.args.listing.now) c.requires.apply)

pub returns-in_err-edits-clause-any_moment : goal.returns-in_err-edits-clause-any_moment
returns-in_err-edits-clause-any_moment g c made is unsealed = unmade (g.H.Host.view c.args.host.now) c.args.number made (g.met.H.Host.sound c.args.host.now) unsealed

pub returns-in_err-edits-clause-changes : goal.returns-in_err-edits-clause-changes
returns-in_err-edits-clause-changes g c = unmade_touches (g.H.Host.view c.args.host.now) c.args.number

pub returns-in_err-record-clause-any_moment : goal.returns-in_err-record-clause-any_moment
returns-in_err-record-clause-any_moment g c made is unsealed = unmade (g.H.Host.view c.args.host.now) c.args.number made (g.met.H.Host.sound c.args.host.now) unsealed

pub returns-in_err-record-clause-changes : goal.returns-in_err-record-clause-changes
returns-in_err-record-clause-changes g c = unmade_touches (g.H.Host.view c.args.host.now) c.args.number

pub returns-in_err-listing-clause-any_moment : goal.returns-in_err-listing-clause-any_moment
returns-in_err-listing-clause-any_moment g c made is unsealed = unmade (g.H.Host.view c.args.host.now) c.args.number made (g.met.H.Host.sound c.args.host.now) unsealed

pub returns-in_err-listing-clause-changes : goal.returns-in_err-listing-clause-changes
returns-in_err-listing-clause-changes g c = unmade_touches (g.H.Host.view c.args.host.now) c.args.number

pub returns-in_err-gated-clause-any_moment : goal.returns-in_err-gated-clause-any_moment
returns-in_err-gated-clause-any_moment g c made is unsealed =
    made_file _ (g.H.Host.view c.create.new.host) c.args.number made (g.met.H.Host.sound c.args.host.now) unsealed
    (subst (λ (f : FileName). Changes (FileChange f AnyChange) (g.H.Host.view c.args.host.now) (g.H.Host.view c.create.new.host)) c.manifest.ensures c.create.ensures.changes)

pub returns-in_err-gated-clause-changes : goal.returns-in_err-gated-clause-changes
returns-in_err-gated-clause-changes g c =
    made_file_touches _ (g.H.Host.view c.create.new.host) c.args.number
    (subst (λ (f : FileName). Changes (FileChange f AnyChange) (g.H.Host.view c.args.host.now) (g.H.Host.view c.create.new.host)) c.manifest.ensures c.create.ensures.changes)

pub returns-in_err-make_seal-clause-any_moment : goal.returns-in_err-make_seal-clause-any_moment
returns-in_err-make_seal-clause-any_moment g c = moments g (goal.at.returns-in_err-make_seal-clause-any_moment g c).After-make_seal

pub returns-in_err-make_seal-clause-changes : goal.returns-in_err-make_seal-clause-changes
returns-in_err-make_seal-clause-changes g c =
    made_both_touches (g.H.Host.view c.args.host.now) (g.H.Host.view c.create.new.host) (g.H.Host.view c.make_seal.new.host) c.args.number
    (subst (λ (f : FileName). Changes (FileChange f AnyChange) (g.H.Host.view c.args.host.now) (g.H.Host.view c.create.new.host)) c.manifest.ensures c.create.ensures.changes) c.make_seal.ensures.changes

pub returns-clause-any_moment : goal.returns-clause-any_moment
returns-clause-any_moment g c = moments g (goal.at.returns-clause-any_moment g c).After-make_seal

pub returns-clause-changes : goal.returns-clause-changes
returns-clause-changes g c =
    made_both_touches (g.H.Host.view c.args.host.now) (g.H.Host.view c.create.new.host) (g.H.Host.view c.make_seal.new.host) c.args.number
    (subst (λ (f : FileName). Changes (FileChange f AnyChange) (g.H.Host.view c.args.host.now) (g.H.Host.view c.create.new.host)) c.manifest.ensures c.create.ensures.changes) c.make_seal.ensures.changes

pub returns-clause-ok : goal.returns-clause-ok
returns-clause-ok g c =
    let payload = c.in_ok-record.record in
    let end = subst (λ (f : FileName). IsAtEnd (g.H.Host.view c.create.new.host) f c.in_ok-gated.gated.at (payload ∷ [])) c.manifest.ensures c.in_ok-gated.ensures.ok in
    let items = c.deref.ensures.value ∙ c.in_ok-edits.ensures in
    let is_payload = c.in_ok-record.ensures ∙ ap encoded items in
    let rewritten = subst (λ (l : List Edit). Some c.in_ok-listing.listing ≡ with_record_counted (encoded l) (after_all None l)) (c.deref-2.ensures.value ∙ c.in_ok-edits.ensures) c.in_ok-listing.ensures in
    stands_made (g.H.Host.view c.create.new.host)
    (g.H.Host.view c.make_seal.new.host) c.args.number c.in_ok-gated.gated.at c.in_ok-listing.listing (payload ∷ []) end
    (new_builds c.args.listing.now c.in_ok-listing.listing payload c.requires.apply c.requires.short is_payload rewritten)
    c.make_seal.ensures.changes

pub returns-clause-room : goal.returns-clause-room
returns-clause-room g c =
    room_made (g.H.Host.view c.create.new.host) (g.H.Host.view c.make_seal.new.host) c.args.number (c.in_ok-gated.gated.at + 1) c.make_seal.ensures.changes
    (subst (λ (f : FileName). Reaches (g.H.Host.view c.create.new.host) f (c.in_ok-gated.gated.at + 1)) (c.in_ok-gated.ensures.file ∙ c.manifest.ensures) c.in_ok-gated.ensures.room)

pub returns-clause-is_open : goal.returns-clause-is_open
returns-clause-is_open g c =
    let items = c.deref.ensures.value ∙ c.in_ok-edits.ensures in
    let rewritten = subst (λ (l : List Edit). Some c.in_ok-listing.listing ≡ with_record_counted (encoded l) (after_all None l)) (c.deref-2.ensures.value ∙ c.in_ok-edits.ensures) c.in_ok-listing.ensures in
    let gated = c.in_ok-gated.ensures in
    new_is_open c.args.number c.in_ok-gated.gated c.args.listing.now c.in_ok-listing.listing c.manifest.result
    c.in_ok-record.record c.requires.apply (c.in_ok-record.ensures ∙ ap encoded items) rewritten c.manifest.ensures gated.file
    gated.offset gated.fits gated.usable
