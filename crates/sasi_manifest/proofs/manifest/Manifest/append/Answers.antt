use Rattle.std.proofs.Common.{IsTrue, List, Some, subst, sym}
use Rattle.sasi_gated.specs.Reads.{AppendsRecord}
use Rattle.sasi_manifest.specs.declared.edit.Edit.{Edit}
use Rattle.sasi_manifest.specs.Consistent.{IsConsistent}
use Rattle.sasi_manifest.specs.Edits.{AllApply, encoded}
use Rattle.sasi_manifest.specs.Format.{IsNext}
use Rattle.sasi_manifest.specs.OpenManifest.{ManifestState, ManifestStands}
use Rattle.sasi_manifest.proofs.CrashMoments.{ListsEither, appended, lists_either, next_is_open, fault_is_open}
use Rattle.sasi_manifest.proofs.manifest.Manifest.append.Goals as goal

pub invariant_of-self : goal.invariant_of-self
invariant_of-self g c =
    fault_is_open c.self.inside.number c.self.inside.gated c.append_edits.new.gated c.append_edits.new.listing c.self.invariant.file
    c.append_edits.ensures.file (subst IsConsistent (sym c.in_err-append_edits.ensures.err) c.self.invariant.consistent)

pub returns-in_err-append_edits-clause-any_moment : goal.returns-in_err-append_edits-clause-any_moment
returns-in_err-append_edits-clause-any_moment g c =
    subst (λ (h : ManifestState). ListsEither (g.H.Host.view c.args.host.now) (g.H.Host.view c.append_edits.new.host) h c.args.edits.now) c.self.view_is
    (lists_either _ _ c.self.inside.gated.file
    (record { number = c.self.inside.number; at = c.self.inside.gated.at; usable = c.self.inside.usable; listing = c.self.inside.listing }) c.args.edits.now c.as_slice.result.now c.self.invariant.file
    (subst (λ (h : ManifestState). AllApply (Some h.listing) c.args.edits.now) (sym c.self.view_is) c.requires.apply)
    c.requires.some c.requires.short c.as_slice.ensures c.append_edits.ensures.any_moment)

pub invariant_of-self-2 : goal.invariant_of-self-2
invariant_of-self-2 g c =
    let ready = c.self.invariant.ready (subst (λ (h : ManifestState). IsTrue h.usable) (sym c.self.view_is) c.requires.usable) in
    let ok = c.in_ok-append_edits.ensures in
    next_is_open c.self.inside.number c.self.inside.gated c.append_edits.new.gated c.self.inside.listing c.append_edits.new.listing
    c.as_slice.result.now c.self.invariant.file ready c.self.invariant.consistent
    (subst (λ (l : List Edit). AllApply (Some c.self.inside.listing) l) (sym c.as_slice.ensures)
    (subst (λ (h : ManifestState). AllApply (Some h.listing) c.args.edits.now) (sym c.self.view_is) c.requires.apply)) ok.listing ok.offset ok.fits
    ok.file ok.usable

pub returns-clause-ok : goal.returns-clause-ok
returns-clause-ok g c =
    subst (λ (h : ManifestState). ManifestStands (g.H.Host.view c.args.host.now) h.number h.at h.listing → ManifestStands
    (g.H.Host.view c.append_edits.new.host) h.number c.append_edits.new.gated.at c.append_edits.new.listing) c.self.view_is
    (appended (g.H.Host.view c.args.host.now) (g.H.Host.view c.append_edits.new.host) c.self.inside.number c.self.inside.gated.at
    c.append_edits.new.gated.at c.self.inside.gated.file c.self.inside.listing c.append_edits.new.listing c.args.edits.now
    c.self.invariant.file (subst (λ (h : ManifestState). AllApply (Some h.listing) c.args.edits.now) (sym c.self.view_is) c.requires.apply)
    c.requires.some c.requires.short (subst (λ (l : List Edit). IsNext c.self.inside.listing l c.append_edits.new.listing)
    c.as_slice.ensures c.in_ok-append_edits.ensures.listing)
    (subst (λ (l : List Edit). AppendsRecord (g.H.Host.view c.args.host.now)
    (g.H.Host.view c.append_edits.new.host) c.self.inside.gated.file c.self.inside.gated.at c.append_edits.new.gated.at (encoded l))
    c.as_slice.ensures c.in_ok-append_edits.ensures.ok))

pub returns-clause-any_moment : goal.returns-clause-any_moment
returns-clause-any_moment g c =
    subst (λ (h : ManifestState). ListsEither (g.H.Host.view c.args.host.now) (g.H.Host.view c.append_edits.new.host) h c.args.edits.now) c.self.view_is
    (lists_either _ _ c.self.inside.gated.file
    (record { number = c.self.inside.number; at = c.self.inside.gated.at; usable = c.self.inside.usable; listing = c.self.inside.listing }) c.args.edits.now c.as_slice.result.now c.self.invariant.file
    (subst (λ (h : ManifestState). AllApply (Some h.listing) c.args.edits.now) (sym c.self.view_is) c.requires.apply)
    c.requires.some c.requires.short c.as_slice.ensures c.append_edits.ensures.any_moment)
