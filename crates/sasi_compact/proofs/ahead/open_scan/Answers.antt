use Rattle.std.proofs.Common.{◌≡◌, ◌≤◌, ◌∙◌, ℕ, [], ◌∷◌, List, length, Some, refl, sym, ap, subst, arith}
use Rattle.std.proofs.lemmas.Result.{err_from_is_err_and}
use Rattle.std.specs.FinMap as map_
use Rattle.sasi_host.proofs.ChangeLaws.{stays}
use Rattle.sasi_types.specs.declared.partitioner.Partitioner.{Partitioner}
use Rattle.sasi_host.specs.declared.damage.Damage.{Damage}
use Rattle.sasi_dataread.specs.Tokens.{AgreesWith}
use Rattle.sasi_datawrite.specs.Format.{Content}
use Rattle.sasi_manifest.specs.declared.files.ListedFile.{ListedFile}
use Rattle.sasi_memtable.specs.MemtableView.{MemtableView}
use Rattle.sasi_scan.specs.Parts.{AreContents, merged_parts}
use Rattle.sasi_scan.specs.Scanning.{CanScan, IsScanOf, IsScanning}
use Rattle.sasi_compact.specs.Tasks.{files_numbered}
use Rattle.sasi_compact.proofs.Faults.{damage_as, damage_read}
use Rattle.sasi_compact.proofs.ahead.open_scan.Goals as goal

pub returns-in_err-files-clause-changes : goal.returns-in_err-files-clause-changes
returns-in_err-files-clause-changes g c = stays _

pub returns-in_err-scan-clause-undamaged : goal.returns-in_err-scan-clause-undamaged
returns-in_err-scan-clause-undamaged g c =
    let made : c.as_slice-2.result.now ≡ files_numbered c.as_slice.result.now = c.as_slice-2.ensures ∙ c.in_ok-files.ensures in
    let files : c.as_slice-2.result.now ≡ files_numbered c.args.sources.now = made ∙ ap (λ (ns : List ℕ). files_numbered ns) c.as_slice.ensures in
    let seen = (g.H.Host.view c.args.host.now).files in
    let none_right : (damage : Damage) → ((p : Partitioner) (contents : List Content) → AgreesWith (Some c.args.partitioner) p → AreContents seen p c.args.types.now c.as_slice-2.result.now contents → ⊥) → (contents : List Content)
    → AreContents seen c.args.partitioner c.args.types.now (files_numbered c.args.sources.now) contents → ⊥ =
    λ damage none contents are. none c.args.partitioner contents refl (subst (λ (fs : List ListedFile). AreContents seen c.args.partitioner c.args.types.now fs contents) (sym files) are) in
    let q = err_from_is_err_and c.from_residual-in_err-scan.result c.from_residual-in_err-scan.ensures.1 in
    rw (q.1, q.2) (damage_as _ _ _ none_right (damage_read _ c.in_err-scan.field-0.0 c.in_err-scan.ensures.undamaged))

pub returns-clause-opened : goal.returns-clause-opened
returns-clause-opened g c contents are =
    let none : c.new-maps.result ≡ [] = c.new-maps.ensures in
    let made : c.as_slice-2.result.now ≡ files_numbered c.as_slice.result.now = c.as_slice-2.ensures ∙ c.in_ok-files.ensures in
    let files : c.as_slice-2.result.now ≡ files_numbered c.args.sources.now = made ∙ ap (λ (ns : List ℕ). files_numbered ns) c.as_slice.ensures in
    let p = c.args.partitioner in
    subst (λ (ms : List MemtableView). IsScanning (g.H.Host.view c.args.host.now).files p ms c.in_ok-scan.scan (map_.entries (merged_parts p contents ms))) none
    (c.in_ok-scan.ensures.opened p contents refl (subst (λ (fs : List ListedFile). AreContents (g.H.Host.view c.args.host.now).files p c.args.types.now fs contents) (sym files) are))

pub returns-clause-can : goal.returns-clause-can
returns-clause-can g c =
    let none : c.new-maps.result ≡ [] = c.new-maps.ensures in
    subst (λ (ms : List MemtableView). CanScan (g.H.Host.view c.open.new.host).files ms c.in_ok-scan.scan) none c.in_ok-scan.ensures.can

pub returns-clause-is_of : goal.returns-clause-is_of
returns-clause-is_of g c =
    let none : c.new-maps.result ≡ [] = c.new-maps.ensures in
    let made : c.as_slice-2.result.now ≡ files_numbered c.as_slice.result.now = c.as_slice-2.ensures ∙ c.in_ok-files.ensures in
    let files : c.as_slice-2.result.now ≡ files_numbered c.args.sources.now = made ∙ ap (λ (ns : List ℕ). files_numbered ns) c.as_slice.ensures in
    subst (λ (ms : List MemtableView). IsScanOf (g.H.Host.view c.args.host.now).files (files_numbered c.args.sources.now) c.args.types.now ms c.in_ok-scan.scan) none
    (subst (λ (fs : List ListedFile). IsScanOf (g.H.Host.view c.args.host.now).files fs c.args.types.now c.new-maps.result c.in_ok-scan.scan) files c.in_ok-scan.ensures.is_of)

pub returns-clause-under : goal.returns-clause-under
returns-clause-under g c = c.in_ok-scan.ensures.under c.args.partitioner refl c.new-maps.ensures

pub returns-clause-some : goal.returns-clause-some
returns-clause-some g c =
    let made : c.as_slice-2.result.now ≡ files_numbered c.as_slice.result.now = c.as_slice-2.ensures ∙ c.in_ok-files.ensures in
    let files : c.as_slice-2.result.now ≡ files_numbered c.args.sources.now = made ∙ ap (λ (ns : List ℕ). files_numbered ns) c.as_slice.ensures in
    c.in_ok-scan.ensures.some (λ none. not_empty c.args.sources.now c.requires.some (sym files ∙ none))
  where
    not_empty : (numbers : List ℕ) → 1 ≤ length numbers → files_numbered numbers ≡ [] → ⊥
    not_empty [] some is = absurd (omega (arith, some))
    not_empty (n ∷ numbers) some is = absurd cc
