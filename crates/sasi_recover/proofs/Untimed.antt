-- A folder without tables has no timestamps.
use Rattle.std.proofs.Common.{◌≡◌, ℕ, List, [], ◌∷◌, map, ⊎_elim, true, false, refl, sym, ap, ◌∙◌, arith}
use Rattle.std.specs.Prelude.{max}
use Rattle.sasi_host.specs.declared.name.FileName.{FileName}
use Rattle.sasi_host.specs.View.{View}
use Rattle.sasi_manifest.specs.FileNames.{has_name}
use Rattle.sasi_manifest.specs.declared.listing.Listing.{Listing}
use Rattle.sasi_manifest.specs.ListedDefinition.{ListedDefinition}
use Rattle.sasi_recover.specs.FileEnds.{IsLargestOf}
use Rattle.sasi_recover.specs.OpenedFolder.{IsTimed, opened_store}
use Rattle.sasi_recover.specs.ReplayState.{AreMapsFrom, IsReplayOf, ReplayState, tables_time}
use Rattle.sasi_recover.specs.SealedFolder.{AreListedFiles}
use Rattle.sasi_recover.specs.declared.opened.Opened.{Opened}
use Rattle.sasi_recover.specs.declared.opened.TableMap.{TableMap}
use Rattle.sasi_recover.proofs.NameLists.{any_of}
use Rattle.sasi_types.specs.declared.partitioner.Partitioner.{Partitioner}

no_maps : (p : Partitioner) (floor last number : ℕ) (xs : List TableMap) → AreMapsFrom p floor last number [] xs → tables_time xs ≡ 0
no_maps p floor last number [] are = refl
no_maps p floor last number (x ∷ xs) are = absurd are

never : true ≡ false → ⊥
never e = cc

module _ (v : View) (listing : Listing) (files : List FileName) (time : ℕ) (s : ReplayState) (listed : AreListedFiles listing files) (tells : IsLargestOf v files time) (replayed : IsReplayOf listing s) where
  none_listed : listing.tables ≡ [] → time ≡ 0
  none_listed none = ⊎_elim (λ zero_is. zero_is)
      (λ some. absurd (never (sym (any_of files some.0 some.1) ∙ listed.listed some.0 ∙ ap (λ (ts : List ListedDefinition). has_name ts some.0) none))) tells.attained

  none_replayed : (tables : List ListedDefinition) → AreMapsFrom listing.partitioner listing.floor listing.last 1 tables s.tables → tables ≡ [] → s.max_timestamp ≡ 0
  none_replayed [] are none = replayed.time ∙ no_maps listing.partitioner listing.floor listing.last 1 s.tables are
  none_replayed (t ∷ ts) are none = cc

  no_tables : (tables : List ListedDefinition) → map (λ (t : ListedDefinition). t.definition) tables ≡ [] → tables ≡ []
  no_tables [] none = refl
  no_tables (t ∷ ts) none = cc

  -- **Where no table is listed, neither a data file nor the log has a timestamp.**
  pub opened_timed : (opened : Opened) → opened.manifest.listing ≡ listing → opened.greatest ≡ max time s.max_timestamp → IsTimed (opened_store opened)
  opened_timed opened same greatest none =
      let no = ap (λ (l : Listing). l.tables) (sym same) ∙ no_tables opened.manifest.listing.tables none in
      omega (arith, greatest, none_listed no, none_replayed listing.tables replayed.maps no)
