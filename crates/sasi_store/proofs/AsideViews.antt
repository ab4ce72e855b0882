-- A view without its last map: where that map is empty, it is read as the whole view is.
use Rattle.std.proofs.Common.{◌≡◌, ◌++◌, ℕ, Bool, true, false, cond, not, List, [], ◌∷◌, refl, sym, ap, ap₂, subst, ◌∙◌, append_assoc}
use Rattle.std.specs.FinMap as map_
use Rattle.std.specs.List.{AllByRecursion}
use Rattle.std.proofs.lemmas.List.{append_cancel_right, map-append}
use Rattle.sasi_types.specs.declared.partitioner.Partitioner.{Partitioner}
use Rattle.sasi_host.specs.Names.{Folder}
use Rattle.sasi_cells.specs.Maps.{merged}
use Rattle.sasi_layout.proofs.Freezes.{with_empty}
use Rattle.sasi_layout.specs.Layout.{TableParts}
use Rattle.sasi_memindex.specs.Book.{Book}
use Rattle.sasi_memtable.specs.MemtableView.{AreDecorated}
use Rattle.sasi_model.specs.Abbreviations.{Partitions}
use Rattle.sasi_views.specs.declared.part.Part as view
use Rattle.sasi_views.specs.declared.part.Part.TheVariants as view_part
use Rattle.sasi_candidates.specs.Costs.{files_of, is_on_disk}
use Rattle.sasi_candidates.specs.LayoutParts.{part_of_map}
use Rattle.sasi_candidates.specs.Parts.{Part, maps_of}
use Rattle.sasi_engine.specs.HitCandidates.{PlanWorld, in_memory}
use Rattle.sasi_engine.specs.Views.{ArePartsOf}
use Rattle.sasi_plan.specs.Plans.{PlanView}
use Rattle.sasi_plan.specs.Reading.{IsMadeFor, IsReadIn}
use Rattle.sasi_plan.specs.declared.plan.PlanSource.{PlanSource}
use Rattle.sasi_plan.specs.declared.plan.PlanSource.TheVariants.{Nothing, OfKey, OfTable}

-- ---- parts in front

-- the parts of a view without its last one are those in front
fronts : (folder : Folder) (p : Partitioner) (t : TableParts) (book : Book) (vs : List view.Part) (v : view.Part) (ps : List Part) (part : Part) → ArePartsOf folder p t book (vs ++ v ∷ []) (ps ++ part ∷ [])
    → ArePartsOf folder p t book vs ps
fronts folder p t book [] v [] part are = tt
fronts folder p t book [] v (q ∷ []) part are = absurd are.1
fronts folder p t book [] v (q ∷ r ∷ ps) part are = absurd are.1
fronts folder p t book (w ∷ []) v [] part are = absurd are.1
fronts folder p t book (w ∷ x ∷ vs) v [] part are = absurd are.1
fronts folder p t book (w ∷ vs) v (q ∷ ps) part are = (are.0, fronts folder p t book vs v ps part are.1)

-- what holds of all holds of those in front
pub all_front : {A : Type 0} (P : A → Type 0) (xs : List A) (x : A) → AllByRecursion P (xs ++ x ∷ []) → AllByRecursion P xs
all_front P [] x all = tt
all_front P (y ∷ xs) x all = (all.0, all_front P xs x all.1)

module _ (m : Partitions) where
  files_front : (ps : List Part) → files_of (ps ++ part_of_map m ∷ []) ≡ files_of ps
  files_front [] = refl
  files_front (p ∷ ps) = by (is_on_disk p.origin) (files_front ps)
    where
      by : (b : Bool) → files_of (ps ++ part_of_map m ∷ []) ≡ files_of ps → cond b (p ∷ files_of (ps ++ part_of_map m ∷ [])) (files_of (ps ++ part_of_map m ∷ [])) ≡ cond b (p ∷ files_of ps) (files_of ps)
      by true rest = ap (λ (l : List Part). p ∷ l) rest
      by false rest = rest

  maps_front : (ps : List Part) → in_memory (ps ++ part_of_map m ∷ []) ≡ in_memory ps ++ part_of_map m ∷ []
  maps_front [] = refl
  maps_front (p ∷ ps) = by (is_on_disk p.origin) (maps_front ps)
    where
      by : (b : Bool) → in_memory (ps ++ part_of_map m ∷ []) ≡ in_memory ps ++ part_of_map m ∷ []
          → cond (not b) (p ∷ in_memory (ps ++ part_of_map m ∷ [])) (in_memory (ps ++ part_of_map m ∷ [])) ≡ cond (not b) (p ∷ in_memory ps) (in_memory ps) ++ part_of_map m ∷ []
      by true rest = rest
      by false rest = ap (λ (l : List Part). p ∷ l) rest

-- lists are the same where they are with the same one behind
same_front : {A : Type 0} (xs ys : List A) (x : A) → xs ++ x ∷ [] ≡ ys ++ x ∷ [] → xs ≡ ys
same_front xs ys x same = append_cancel_right xs ys (x ∷ []) same

-- ---- the view

module _ (w : PlanWorld) (plan : PlanView) (vs : List view.Part) (number : ℕ) (book : Book) (ps : List Part) (m : Partitions) (is : IsReadIn w plan (vs ++ view_part.Map number ∷ []) book)
    (parts_are : w.parts ≡ ps ++ part_of_map m ∷ []) (none : m ≡ map_.empty) where
  -- the world of the view without the map
  abbrev pub aside : PlanWorld
  aside = record w { listed = vs; parts = ps }

  -- **The merge of its parts is the same.**
  pub aside_merged : merged (maps_of ps) ≡ merged (maps_of w.parts)
  aside_merged =
      sym (with_empty map_.empty (maps_of ps))
      ∙ ap (λ (k : Partitions). merged (maps_of ps ++ k ∷ [])) (sym none)
      ∙ ap merged (sym (map-append (λ (part : Part). part.holds) ps (part_of_map m ∷ [])))
      ∙ ap (λ (l : List Part). merged (maps_of l)) (sym parts_are)

  ordered : ps ≡ files_of ps ++ in_memory ps
  ordered =
      same_front ps (files_of ps ++ in_memory ps) (part_of_map m)
      (sym parts_are ∙ is.view_is.ordered ∙ ap (λ (l : List Part). files_of l ++ in_memory l) parts_are ∙ ap₂ (λ (x y : List Part). x ++ y) (files_front m ps) (maps_front m ps) ∙ sym (append_assoc (files_of ps) (in_memory ps) (part_of_map m ∷ [])))

  made : (source : PlanSource) → IsMadeFor w source plan.types (vs ++ view_part.Map number ∷ []) → IsMadeFor aside source plan.types vs
  made Nothing for = for
  made (OfKey key relations) for = (record { types_are = for.0.types_are; relations_are = for.0.relations_are; listed_are = refl }, for.1, for.2, for.3)
  made (OfTable relations) for = (record { types_are = for.0.types_are; relations_are = for.0.relations_are; listed_are = refl }, for.1)

  -- **The plan is read in it as in the whole view.**
  pub aside_read : IsReadIn aside plan vs book
  aside_read = record {
    view_is = record {
      planned = record {
        own = is.view_is.planned.own;
        types_are = is.view_is.planned.types_are;
        relations_are = is.view_is.planned.relations_are;
        parts_are =
            fronts w.folder w.partitioner w.table book vs (view_part.Map number) ps (part_of_map m)
            (subst (λ (l : List view.Part). ArePartsOf w.folder w.partitioner w.table book l (ps ++ part_of_map m ∷ [])) is.listed_are (subst (ArePartsOf w.folder w.partitioner w.table book w.listed) parts_are is.view_is.planned.parts_are));
      };
      ordered = ordered;
      own_tokens = subst (AreDecorated w.partitioner) (sym aside_merged) is.view_is.own_tokens;
    };
    listed_are = refl;
    types_are = is.types_are;
    conditions_are = is.conditions_are;
    made = made plan.source is.made;
  }
