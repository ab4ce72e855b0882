-- For callers: the keys that a look-up has in hand are those of the token in the files.
use Rattle.std.proofs.Common.{◌≡◌, ℕ, List, [], ◌∷◌, length, map, refl, ap, ap₂, ◌∙◌}
use Rattle.sasi_types.specs.declared.partitioner.Partitioner.{Partitioner}
use Rattle.sasi_layout.specs.Flushed.{contents_of}
use Rattle.sasi_datawrite.specs.Format.{Content, header}
use Rattle.sasi_dataread.specs.declared.token_keys.PlacedKey.{PlacedKey}
use Rattle.sasi_dataread.specs.PlacedKeys.{keys_at}
use Rattle.sasi_candidates.specs.Costs.{files_of}
use Rattle.sasi_candidates.specs.Parts.{Part}
use Rattle.sasi_lookup.specs.Files.{LookedFile}
use Rattle.sasi_lookup.specs.Lookups.{EachHasKeys}
use Rattle.sasi_engine.specs.TokenHits.{contents_in_files, keys_in_files}

each_keys : (p : Partitioner) (token : ℕ) (files : List LookedFile) (contents : List Content) → EachHasKeys p token files contents
    → map (λ (file : LookedFile). file.keys) files ≡ map (λ (content : Content). keys_at p token (length header) content) contents
each_keys p token [] [] has = refl
each_keys p token [] (content ∷ contents) has = absurd has
each_keys p token (file ∷ files) [] has = absurd has
each_keys p token (file ∷ files) (content ∷ contents) has = ap₂ (λ (ks : List PlacedKey) (l : List (List PlacedKey)). ks ∷ l) has.0.keys_are (each_keys p token files contents has.1)

both_mapped : (p : Partitioner) (token : ℕ) (seen : List Part) → map (λ (content : Content). keys_at p token (length header) content) (map (λ (part : Part). contents_of part.holds) seen) ≡ map (λ (part : Part). keys_at p token (length header) (contents_of part.holds)) seen
both_mapped p token [] = refl
both_mapped p token (part ∷ seen) = ap (λ (l : List (List PlacedKey)). keys_at p token (length header) (contents_of part.holds) ∷ l) (both_mapped p token seen)

-- **The files of a look-up that looks in the contents of the parts' files have in hand the keys of the token in these parts.**
pub keys_in_hand : (p : Partitioner) (token : ℕ) (seen : List Part) (files : List LookedFile) → EachHasKeys p token files (contents_in_files seen) → map (λ (file : LookedFile). file.keys) files ≡ keys_in_files p token seen
keys_in_hand p token seen files has = each_keys p token files (contents_in_files seen) has ∙ both_mapped p token (files_of seen)
