-- Cursors over the parts of the fixture.
use Rattle.std.proofs.Common.{◌≡◌, ℕ, List, [], ◌∷◌, Option, IsSome, inl, inr, refl, sym, ap, subst, ◌∙◌, arith}
use Rattle.std.specs.Cmp.{nat_cmp_total}
use Rattle.std.specs.FinMap as fin
use Rattle.std.specs.List.{AllByRecursion}
use Rattle.sasi_types.specs.declared.column.ColumnType.{ColumnType}
use Rattle.sasi_types.specs.declared.column.ColumnType.TheVariants as kinds
use Rattle.sasi_host.proofs.HostChanges.{done_folder, folder_now}
use Rattle.sasi_host.specs.declared.call.Call.TheVariants.{Put}
use Rattle.sasi_host.specs.declared.name.FileName.{FileName}
use Rattle.sasi_host.specs.Disk.{Changes, Same}
use Rattle.sasi_host.specs.Memory.{MemoryHost, done, host_view}
use Rattle.sasi_host.specs.NameLaws.{insert_apart}
use Rattle.sasi_host.specs.Names.{Bytes, Folder, data_name}
use Rattle.sasi_host.specs.View.{IsThere, View, contents_in}
use Rattle.sasi_ranges.proofs.Calling.{files_same}
use Rattle.sasi_machine.specs.TableRows.{AreStored}
use Rattle.sasi_memindex.specs.Book.{Book, bare}
use Rattle.sasi_memindex.specs.declared.map_part.MapPart.{MapPart}
use Rattle.sasi_memtable.specs.MemtableView.{MemtableView}
use Rattle.sasi_memindex.proofs.GrowthLaws.{grown_not}
use Rattle.sasi_memindex.specs.Growth.{IsGrown}
use Rattle.sasi_scan.specs.Numbered.{views_numbered}
use Rattle.sasi_sources.specs.KeyCandidates.{HasKeyType}
use Rattle.sasi_sources.specs.Maps.{IsOneOf}
use Rattle.sasi_views.specs.declared.part.Part.{Part}
use Rattle.sasi_views.specs.declared.part.Part.TheVariants.{File, Map}
use Rattle.sasi_engine.specs.Plans.{map_numbers}
use Rattle.sasi_plan.specs.Plans.{PlanView}
use Rattle.sasi_plan_tests.specs.Fixture.{HasMaps, IsOwnPart, own_maps}
use Rattle.sasi_plan_tests.proofs.MapLaws.{maps_stored, own_file}
use Rattle.sasi_fetch.specs.declared.cursor.Cursor.{Cursor}
use Rattle.sasi_fetch.specs.Cursors.{view_of}
use Rattle.sasi_fetch.proofs.CursorLaws.{StaysInView, still_left, still_readable, still_reads, still_reads_up_to}
use Rattle.sasi_fetch_tests.specs.Fetching.{IsOwnCursor, IsOwnPlan, StillLeaves}

-- what is there stays
pub there_after : (a b : View) (name : FileName) → Changes Same a b → IsThere a name → IsThere b name
there_after a b name same there = subst (λ (o : Option Folder). IsSome o → IsSome (contents_in o name)) (sym (files_same a b same)) there

-- the keys of the maps are printed as texts
pub keys_typed : (plan : PlanView) (view : List Part) (book : Book) → IsOwnPlan plan → AllByRecursion IsOwnPart view → HasMaps [] book → HasKeyType plan.types (views_numbered book (map_numbers view)) plan.picked.key
keys_typed plan view book is own maps = record {
  first = is.planned.key;
  stored = subst (λ (k : ColumnType). AllByRecursion (λ (m : MemtableView). AreStored k m.partitions) (views_numbered book (map_numbers view))) (sym is.text) (maps_stored [] book maps view own);
}

-- a map of the view is one of the fixture
own_map : (listed : List Part) → AllByRecursion IsOwnPart listed → (number : ℕ) → IsOneOf (map_numbers listed) number → IsOneOf own_maps number
own_map [] own number is = absurd is
own_map (File file indexes ∷ parts) own number is = own_map parts own.1 number is
own_map (Map map ∷ parts) own number (inl same) = subst (IsOneOf own_maps) (sym same) own.0
own_map (Map map ∷ parts) own number (inr later) = own_map parts own.1 number later

-- a fourth map leaves them
others_stay : (old new : Book) (m : MemtableView) → new ≡ fin.insert old 4 (bare m) → (number : ℕ) → IsOneOf own_maps number → fin.get new number ≡ fin.get old number
others_stay old new m is number (inl same) = subst Stays (sym same) (ap (λ (b : Book). fin.get b 1) is ∙ fin.get-insert nat_cmp_total old 4 (bare m) 1)
  where
    Stays : ℕ → Type 0
    Stays n = fin.get new n ≡ fin.get old n
others_stay old new m is number (inr (inl same)) = subst Stays (sym same) (ap (λ (b : Book). fin.get b 2) is ∙ fin.get-insert nat_cmp_total old 4 (bare m) 2)
  where
    Stays : ℕ → Type 0
    Stays n = fin.get new n ≡ fin.get old n
others_stay old new m is number (inr (inr (inl same))) = subst Stays (sym same) (ap (λ (b : Book). fin.get b 3) is ∙ fin.get-insert nat_cmp_total old 4 (bare m) 3)
  where
    Stays : ℕ → Type 0
    Stays n = fin.get new n ≡ fin.get old n
others_stay old new m is number (inr (inr (inr never))) = absurd never

-- another file leaves the data file as it is
pub put_apart : (a b : MemoryHost) (bytes : Bytes) → b ≡ done (Put (data_name 8) bytes) a → contents_in (host_view b).files (data_name 7) ≡ contents_in (host_view a).files (data_name 7)
put_apart a b bytes is = subst (λ (h : MemoryHost). contents_in (host_view h).files (data_name 7) ≡ contents_in (host_view a).files (data_name 7)) (sym is) stays
  where
    after : folder_now (done (Put (data_name 8) bytes) a) ≡ fin.insert (folder_now a) (data_name 8) bytes
    after = done_folder a (done (Put (data_name 8) bytes) a) (Put (data_name 8) bytes) (record { start = refl; calls = refl })

    stays : contents_in (host_view (done (Put (data_name 8) bytes) a)).files (data_name 7) ≡ contents_in (host_view a).files (data_name 7)
    stays = ap (λ (f : Folder). fin.get f (data_name 7)) after ∙ insert_apart (folder_now a) (data_name 8) (data_name 7) bytes (λ same. (let seven : 7 ≡ 8 = ap (λ (n : FileName). n.number) same in absurd (omega (arith, seven))))

-- **Where the data file stays and a fourth map is added,**
module _ (old new : Option Folder) (was now : Book) (c : Cursor) (m : MemtableView) (told : IsSome new → IsSome old) (same : contents_in new (data_name 7) ≡ contents_in old (data_name 7)) (added : now ≡ fin.insert was 4 (bare m)) (is : IsOwnCursor old was c) where
  stays : StaysInView c old new was now
  stays = record {
    told = told;
    files = λ name at. subst (λ (n : FileName). contents_in new n ≡ contents_in old n) (sym (own_file (view_of c) is.own name at)) same;
    maps = λ number at. subst (λ (o : Option MapPart). IsGrown (fin.get was number) o) (sym (others_stay was now m added number (own_map (view_of c) is.own number at))) (grown_not (fin.get was number));
  }

  -- **the cursor can be read on,**
  pub still_own : IsOwnCursor new now c
  still_own = record { types = is.types; readable = still_readable is.types old new was now c is.readable stays; own = is.own; known = is.known }

  -- **with the same rows left, at the same cost.**
  pub own_left : StillLeaves old new was now c
  own_left = record {
    rows = still_left is.types old new was now c is.readable stays;
    reads = still_reads is.types old new was now c is.readable stays;
    reads_up_to = still_reads_up_to is.types old new was now c is.readable stays;
  }
