-- The files that views list which are out, by the counts of a book.
use Rattle.std.proofs.Common.{◌≡◌, ◌<◌, ◌||◌, ℕ, Bool, true, false, not, if◌then◌else◌, List, [], ◌∷◌, map, nat_eq, refl, ap, subst, arith}
use Rattle.std.proofs.lemmas.Bool.Decides.{nat_tests}
use Rattle.std.specs.Cmp.{eq_by_cmp_equiv}
use Rattle.std.specs.List.{list_any}
use Rattle.sasi_host.specs.declared.name.FileName.{FileName}
use Rattle.sasi_host.specs.Names.{data_name, name_eq}
use Rattle.sasi_layout.proofs.FileNameLaws.{name_same}
use Rattle.sasi_manifest.specs.declared.files.PartNumber.{PartNumber}
use Rattle.sasi_manifest.specs.ListedFiles.{index_name}
use Rattle.sasi_engine.specs.Plans.{is_file_of, names_of}
use Rattle.sasi_views.specs.Books.{Book, count_of}
use Rattle.sasi_views.specs.ComponentLaws.{components_total}
use Rattle.sasi_views.specs.Components.{lists, same}
use Rattle.sasi_views.specs.Parts.{components_of, part_components}
use Rattle.sasi_views.specs.declared.component.Component.{Component}
use Rattle.sasi_views.specs.declared.component.Component.TheVariants as component
use Rattle.sasi_views.specs.declared.part.Part.{Part}
use Rattle.sasi_views.specs.declared.part.Part.TheVariants.{File, Map}
use Rattle.sasi_tasks.specs.Running.{is_held}
use Rattle.sasi_store.proofs.ViewFiles.{lists_both}

-- **A file is held where it is counted.**
pub held_some : (views : Book) (name : FileName) → 0 < count_of views (component.File name) → is_held views name ≡ true
held_some views name some = by (nat_eq (count_of views (component.File name)) 0) refl
  where
    by : (b : Bool) → nat_eq (count_of views (component.File name)) 0 ≡ b → not b ≡ true
    by false is = refl
    by true is = (let none : count_of views (component.File name) ≡ 0 = grind (arith, nat_tests, is) in absurd (omega (arith, none, some)))

abbrev one_if : Bool → ℕ
one_if b = if b then 1 else 0

module _ (name : FileName) where
  own_lists : (other : FileName) → name_eq name other ≡ true → same (component.File other) (component.File name) ≡ true
  own_lists other is = subst (λ (n : FileName). same (component.File n) (component.File name) ≡ true) (name_same name other is) ((eq_by_cmp_equiv components_total).refl (component.File name))

  index_lists : (number : ℕ) (ps : List PartNumber) → list_any (name_eq name) (map (index_name number) ps) ≡ true → 0 < lists (component.File name) (map (λ (p : PartNumber). component.File (index_name number p)) ps)
  index_lists number [] is = cc
  index_lists number (p ∷ ps) is = by (name_eq name (index_name number p)) refl is (index_lists number ps)
    where
      rest : List Component
      rest = map (λ (q : PartNumber). component.File (index_name number q)) ps

      by : (b : Bool) → name_eq name (index_name number p) ≡ b → (b || list_any (name_eq name) (map (index_name number) ps)) ≡ true → (list_any (name_eq name) (map (index_name number) ps) ≡ true → 0 < lists (component.File name) rest)
          → 0 < lists (component.File name) (component.File (index_name number p) ∷ rest)
      by true own any later = omega (arith, ap one_if (own_lists (index_name number p) own))
      by false other any later = omega (arith, later any)

  part_lists : (part : Part) → list_any (name_eq name) (names_of part) ≡ true → 0 < lists (component.File name) (part_components part)
  part_lists (Map n) is = cc
  part_lists (File number indexes) is = by (name_eq name (data_name number)) refl is
    where
      by : (b : Bool) → name_eq name (data_name number) ≡ b → (b || list_any (name_eq name) (map (index_name number) indexes)) ≡ true → 0 < lists (component.File name) (part_components (File number indexes))
      by true own any = omega (arith, ap one_if (own_lists (data_name number) own))
      by false other any = omega (arith, index_lists number indexes any)

  -- **A file of a view is listed by it.**
  pub file_lists : (parts : List Part) → is_file_of parts name ≡ true → 0 < lists (component.File name) (components_of parts)
  file_lists [] is = cc
  file_lists (part ∷ parts) is = by (list_any (name_eq name) (names_of part)) refl is (file_lists parts)
    where
      by : (b : Bool) → list_any (name_eq name) (names_of part) ≡ b → (b || is_file_of parts name) ≡ true → (is_file_of parts name ≡ true → 0 < lists (component.File name) (components_of parts)) → 0 < lists (component.File name) (components_of (part ∷ parts))
      by true own any later = omega (arith, lists_both (component.File name) (part_components part) (components_of parts), part_lists part own)
      by false other any later = omega (arith, lists_both (component.File name) (part_components part) (components_of parts), later any)
