-- The parts of a view, as they are listed one after another.
use Rattle.std.proofs.Common.{◌≡◌, ◌-◌, ◌++◌, ◌∷◌, [], ℕ, List, Option, Some, map, slice_get, sym, ap, ◌∙◌, append_assoc}
use Rattle.std.proofs.lemmas.List.{map-append}
use Rattle.std.specs.Option.{option_map_or}
use Rattle.sasi_manifest.specs.Edits.{files_of}
use Rattle.sasi_views.specs.declared.part.Part as view
use Rattle.sasi_views.specs.declared.part.Part.TheVariants as view_part
use Rattle.sasi_tables.specs.Held.{numbers_of}
use Rattle.sasi_tables.specs.ViewParts.{aside_parts, current_parts, file_part, listed_parts}
use Rattle.sasi_tables.specs.declared.parts.Parts.{Parts}
use Rattle.sasi_tables.specs.declared.table_maps.TableMaps.{TableMaps}

-- **What a table has without its memtable, and then its memtable, are its current parts.**
pub parts_listed : (p : Parts) (number : ℕ) (x : TableMaps) → slice_get p.tables.items (number - 1) ≡ Some x → (older all : List view.Part) → older ≡ aside_parts p number → all ≡ older ++ view_part.Map x.memtable ∷ [] → all ≡ current_parts p number
parts_listed p number x there older all older_are all_are =
    let files = files_of p.manifest.listing.tables number in
    let listed : List view.Part = map file_part files in
    all_are
    ∙ ap (λ (l : List view.Part). l ++ view_part.Map x.memtable ∷ []) (older_are ∙ ap (λ (o : Option TableMaps). listed_parts files (option_map_or (λ (t : TableMaps). t.frozen) o [])) there)
    ∙ append_assoc listed (map (λ n. view_part.Map n) x.frozen) (view_part.Map x.memtable ∷ [])
    ∙ ap (λ (l : List view.Part). listed ++ l) (sym (map-append (λ n. view_part.Map n) x.frozen (x.memtable ∷ [])))
    ∙ ap (λ (o : Option TableMaps). listed_parts files (option_map_or numbers_of o [])) (sym there)
