-- What is known of a plan that is pending is known of the source that it makes.
use Rattle.std.proofs.Common.{◌≡◌, ℕ, true, List, Option, None, Some, refl, sym, subst}
use Rattle.std.specs.FinMap.{get}
use Rattle.sasi_types.specs.declared.column.ColumnType.{ColumnType}
use Rattle.sasi_host.specs.declared.name.FileName.{FileName}
use Rattle.sasi_host.specs.Names.{Folder}
use Rattle.sasi_memindex.specs.Book.{Book}
use Rattle.sasi_views.specs.declared.part.Part as view
use Rattle.sasi_memindex.proofs.GrowthLaws.{grown_not}
use Rattle.sasi_recheck.specs.Optional.{SourceOr}
use Rattle.sasi_engine.specs.HitCandidates.{PlanWorld}
use Rattle.sasi_engine.specs.Plans.{is_file_of}
use Rattle.sasi_plan.specs.declared.plan.PlanSource.{PlanSource}
use Rattle.sasi_plan.specs.declared.plan_candidates.Pending.{Pending}
use Rattle.sasi_plan.specs.Begun.{AreUnchanged}
use Rattle.sasi_plan.specs.Reading.{IsPending, IsViewOf}
use Rattle.sasi_plan.proofs.ViewLaws.{view_stays}

-- the current book has the maps of the view
pub seen_view : (source : PlanSource) (types : List ColumnType) (listed : List view.Part) (files : Option Folder) (book : Book) (w : PlanWorld) (origin : Book) → IsPending w origin source types listed files book → IsViewOf w book
seen_view source types listed files book w origin is = view_stays origin book w is.seen.maps_are is.view_is

module _ (source : PlanSource) (types : List ColumnType) (listed : List view.Part) (files : Option Folder) (book : Book) (Opens : FileName → Type 0) (Uses : ℕ → Type 0) (opens : (name : FileName) → Opens name → is_file_of listed name ≡ true) where
  -- since then the files of the view are as they are in the world's own folder
  pub since_begun : (w : PlanWorld) (origin : Book) → IsPending w origin source types listed files book → AreUnchanged Opens Uses (Some w.folder) files book book
  since_begun w origin is = record {
    there = λ some. refl;
    files_are = λ name opened. is.seen.files_are name (subst (λ (vs : List view.Part). is_file_of vs name ≡ true) (sym is.listed_are) (opens name opened));
    maps_are = λ number used. grown_not (get book number);
  }

-- ---- begun or not

pub as_begun : (P : Pending → Type 0) (Q : Type 0) (pending : Option Pending) → pending ≡ None → Q → SourceOr pending P Q
as_begun P Q None begun is = is
as_begun P Q (Some p) begun is = cc

pub if_begun : (P : Pending → Type 0) (Q : Type 0) (pending : Option Pending) → pending ≡ None → SourceOr pending P Q → Q
if_begun P Q None begun is = is
if_begun P Q (Some p) begun is = cc

pub if_pending : (P : Pending → Type 0) (Q : Type 0) (pending : Option Pending) → SourceOr pending P Q → SourceOr pending P (Unit {0})
if_pending P Q None is = tt
if_pending P Q (Some p) is = is

-- ---- the plan that is pending

pub at_pending : (Q : Type 0) (P : Pending → Type 0) (pending : Option Pending) (p : Pending) → pending ≡ Some p → SourceOr pending P Q → P p
at_pending Q P None p is has = cc
at_pending Q P (Some q) p is has = let same : q ≡ p = cc in subst P same has

pub if_plan : (Q : Type 0) (P : Pending → Type 0) (pending : Option Pending) (p : Pending) → pending ≡ Some p → P p → SourceOr pending P Q
if_plan Q P None p is has = cc
if_plan Q P (Some q) p is has = let same : p ≡ q = cc in subst P same has

-- the parts are the same
pub over_parts : (Q : Type 0) (P : List view.Part → Pending → Type 0) (pending : Option Pending) (before after : List view.Part) → before ≡ after → SourceOr pending (P before) Q → SourceOr pending (P after) Q
over_parts Q P None before after same has = has
over_parts Q P (Some p) before after same has = subst (λ (vs : List view.Part). P vs p) same has
