-- Options by their names.
use Rattle.std.proofs.Common.{◌≡◌, ℕ, true, false, ◌||◌, List, [], ◌∷◌, map, Option, is_some, None, Some, if◌then◌else◌, Bor, refl, sym, ap, ◌∙◌}
use Rattle.std.specs.List.{list_any}
use Rattle.std.specs.Option.{option_copied}
use Rattle.sasi_model.specs.Indexes.{IndexOption, option_value}
use Rattle.sasi_model.specs.Tokens.{same}

-- an option has a value where its name stands
pub has_value : (name : List ℕ) (options : List IndexOption) → is_some (option_value name options) ≡ list_any (same name) (map (λ option. option.0) options)
has_value name [] = refl
has_value name (option ∷ options) =
    elim (same name option.0) as (λ b. is_some (if b then Some option.1 else option_value name options) ≡ (b || list_any (same name) (map (λ option. option.0) options))) [
      | true ↦ refl
      | false ↦ has_value name options
    ]

-- the same by what a search found
pub found_value : (found : Option (Bor (List ℕ))) (name : List ℕ) (options : List IndexOption) → option_copied found ≡ option_value name options
    → is_some found ≡ list_any (same name) (map (λ option. option.0) options)
found_value found name options is = sym (copied found) ∙ ap is_some is ∙ has_value name options
  where
    copied : (o : Option (Bor (List ℕ))) → is_some (option_copied o) ≡ is_some o
    copied None = refl
    copied (Some x) = refl
