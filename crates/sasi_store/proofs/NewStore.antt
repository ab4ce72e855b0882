-- A store that was just opened: no view is out and no task runs.
use Rattle.std.proofs.Common.{◌≡◌, ◌&&◌, ◌||◌, Bool, true, false, not, nat_eq, ℕ, List, [], refl, sym, ap, subst, ◌∙◌}
use Rattle.std.specs.FinMap as map_
use Rattle.sasi_host.specs.View.{View}
use Rattle.sasi_host.specs.declared.name.FileName.{FileName}
use Rattle.sasi_layout.specs.Kept.{is_kept, nothing}
use Rattle.sasi_layout.specs.Serving.{CanChange, HasExactlyBeside, kept_by}
use Rattle.sasi_manifest.specs.FileNames.{has_name}
use Rattle.sasi_tables.specs.TablesView.{IsOfParts, memory_of}
use Rattle.sasi_tables.specs.declared.parts.Parts.{Parts}
use Rattle.sasi_tasks.specs.MakesTaskMoves.{CanGoOn}
use Rattle.sasi_tasks.specs.Running.{is_aside, is_held}
use Rattle.sasi_tasks.specs.declared.running.RunningTask.{RunningTask}
use Rattle.sasi_views.proofs.BookLaws.{new_counted}
use Rattle.sasi_views.specs.Books.{Book}
use Rattle.sasi_views.specs.declared.component.Component.TheVariants as component

module _ (views : Book) (fresh : views ≡ record { known = map_.empty; out = 0 }) where
  -- no file is held
  none_held : (name : FileName) → is_held views name ≡ false
  none_held name = ap (λ (n : ℕ). not (nat_eq n 0)) ((new_counted views fresh).counts (component.File name))

  held_never : (name : FileName) → is_held views name ≡ true → ⊥
  held_never name is = let no : true ≡ false = sym is ∙ none_held name in cc

  none_aside : (p : Parts) (name : FileName) → is_aside views [] p.manifest.listing name ≡ false
  none_aside p name = by (has_name p.manifest.listing.tables name)
    where
      by : (h : Bool) → (not h && (is_held views name || false)) ≡ false
      by true = refl
      by false = ap (λ x. x || false) (none_held name)

  -- **It can go on.**
  pub new_goes_on : (v : View) (p : Parts) (tasks : List RunningTask) → tasks ≡ [] → CanChange v (memory_of p) → IsOfParts p → HasExactlyBeside v nothing (memory_of p) → CanGoOn v views p tasks
  new_goes_on v p tasks none can of exactly = subst (CanGoOn v views p) (sym none) (record {
    can = can;
    parts = of;
    ready = record { each = tt; apart = tt };
    held_are = record { kind = λ name is. absurd (held_never name is); number = λ name is. absurd (held_never name is) };
    unheld = tt;
    exactly = λ folder now name. exactly folder now name ∙ ap (λ b. b || is_kept (kept_by (memory_of p)) name) (sym (none_aside p name));
  })
