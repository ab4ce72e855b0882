-- For callers: what is read of all files for a token, and for its candidates, is within what one look at the token may cost.
use Rattle.std.proofs.Common.{◌≡◌, ℕ, ◌+◌, ◌*◌, ◌^◌, ◌≤◌, List, [], ◌∷◌, length, map, Option, None, Some, arith}
use Rattle.std.proofs.lemmas.List.Sums.{sum_by-cons}
use Rattle.std.specs.List.{AllByRecursion, sum_by}
use Rattle.sasi_types.specs.declared.partitioner.Partitioner.{Partitioner}
use Rattle.sasi_types.specs.Token.{token_of}
use Rattle.sasi_host.specs.Names.{Bytes}
use Rattle.sasi_layout.specs.Flushed.{contents_of}
use Rattle.sasi_datawrite.specs.Format.{Content, header}
use Rattle.sasi_dataread.specs.Opened.{OpenDataFile}
use Rattle.sasi_candidates.specs.Costs.{files_of, token_cost, token_pages}
use Rattle.sasi_candidates.specs.Parts.{Part}
use Rattle.sasi_lookup.specs.Files.{LookedFile}
use Rattle.sasi_lookup.specs.Reads.{found_pages, opening_reads, turn_reads}
use Rattle.sasi_lookup.proofs.CostLaws.{first_look_within, key_within}
use Rattle.sasi_engine.specs.TokenHits.{AreSmall, contents_in_files}

opened_within : (opened : Option OpenDataFile) → opening_reads opened ≤ 3
opened_within None = omega arith
opened_within (Some o) = omega arith

module _ (p : Partitioner) (token : ℕ) (key : Bytes) (is : token_of p key ≡ token) where
  abbrev content_of : Part → Content
  content_of part = contents_of part.holds

  abbrev look : Part → ℕ
  look part = 16 + 2 * token_pages p token (length header) (contents_of part.holds)

  each_later : (ps : List Part) → found_pages key (map content_of ps) ≤ sum_by look ps
  each_later [] = omega arith
  each_later (part ∷ ps) = omega (arith, each_later ps, key_within p token (length header) key (content_of part) is, sum_by-cons look part ps)

  each_first : (files : List LookedFile) (ps : List Part) → AllByRecursion (λ (part : Part). 16 * length (contents_of part.holds) ≤ 2 ^ 40) ps → turn_reads p token files (map content_of ps) + found_pages key (map content_of ps) ≤ sum_by look ps
  each_first [] [] small = omega arith
  each_first (file ∷ files) [] small = omega arith
  each_first [] (part ∷ ps) small = omega (arith, each_later (part ∷ ps))
  each_first (file ∷ files) (part ∷ ps) small =
      omega (arith, each_first files ps small.1, first_look_within p token (length header) key (content_of part) (length (content_of part)) (length (content_of part)) is small.0, opened_within file.opened, sum_by-cons look part ps)

  -- **To take the keys of a token, and then the first of its candidates,**
  pub first_within : (files : List LookedFile) (seen : List Part) → AreSmall seen → turn_reads p token files (contents_in_files seen) + found_pages key (contents_in_files seen) ≤ token_cost p seen token
  first_within files seen small = each_first files (files_of seen) small

  -- **and each further one**
  pub later_within : (seen : List Part) → found_pages key (contents_in_files seen) ≤ token_cost p seen token
  later_within seen = each_later (files_of seen)
