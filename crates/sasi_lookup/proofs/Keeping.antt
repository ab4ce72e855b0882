-- For callers: what is known of a look-up stays while its files read as before.
use Rattle.std.proofs.Common.{◌≡◌, List, [], ◌∷◌, map, Option, None, Some, refl, subst, inl, inr, ⊎_elim}
use Rattle.sasi_types.specs.declared.column.ColumnType.{ColumnType}
use Rattle.sasi_types.specs.declared.partitioner.Partitioner.{Partitioner}
use Rattle.sasi_host.specs.declared.name.FileName.{FileName}
use Rattle.sasi_host.specs.declared.damage.Damage.{Damage}
use Rattle.sasi_host.specs.Names.{Folder}
use Rattle.sasi_host.specs.View.{contents_in}
use Rattle.sasi_datawrite.specs.Format.{Content}
use Rattle.sasi_dataread.specs.Opened.{OpenDataFile}
use Rattle.sasi_lookup.specs.Files.{FileShows, IsFileReady, LookedFile}
use Rattle.sasi_lookup.specs.Lookups.{AreDataOf, FilesOpen, FilesReady, FilesShow, IsLookingIn, IsOfSameFiles, IsReady, LookupView, Opens, Shows}
use Rattle.sasi_lookup.proofs.FileLaws.{data_stays, open_with_stays}

module _ (old new : Option Folder) where
  abbrev pub IsSame : FileName → Type 0
  IsSame name = contents_in new name ≡ contents_in old name

  pub file_ready_stays : (types : List ColumnType) (file : LookedFile) → IsSame file.name → IsFileReady types file old → IsFileReady types file new
  file_ready_stays types file same = by file.opened
    where
      by : (opened : Option OpenDataFile) → IsFileReady types (record { name = file.name; opened = opened; keys = file.keys }) old → IsFileReady types (record { name = file.name; opened = opened; keys = file.keys }) new
      by None ready = tt
      by (Some o) ready = open_with_stays old new file.name same types file.keys o ready

  pub ready_stays : (types : List ColumnType) (files : List LookedFile) → ((name : FileName) → FilesOpen files name → IsSame name) → FilesReady types old files → FilesReady types new files
  ready_stays types [] same ready = tt
  ready_stays types (file ∷ files) same ready = (file_ready_stays types file (same file.name (inl refl)) ready.0, ready_stays types files (λ name opens. same name (inr opens)) ready.1)

  pub looking_stays : (p : Partitioner) (types : List ColumnType) (files : List LookedFile) (contents : List Content) → ((name : FileName) → FilesOpen files name → IsSame name) → AreDataOf old p types files contents → AreDataOf new p types files contents
  looking_stays p types [] [] same are = are
  looking_stays p types [] (content ∷ contents) same are = absurd are
  looking_stays p types (file ∷ files) [] same are = absurd are
  looking_stays p types (file ∷ files) (content ∷ contents) same are = (
    data_stays old new file.name (same file.name (inl refl)) p types file.opened content are.0,
    looking_stays p types files contents (λ name opens. same name (inr opens)) are.1,
  )

  -- **It is ready, and looks in the same contents.** Which keys are in hand doesn't depend on the folder.
  pub lookup_keeps : (lookup : LookupView) → ((name : FileName) → Opens lookup name → IsSame name)
      → (IsReady lookup old → IsReady lookup new) × ((p : Partitioner) (contents : List Content) → IsLookingIn old p contents lookup → IsLookingIn new p contents lookup)
  lookup_keeps lookup same = (ready_stays lookup.types lookup.files same, λ p contents. looking_stays p lookup.types lookup.files contents same)

names_show : (types : List ColumnType) (seen : Option Folder) (old new : List LookedFile) (damage : Damage) → map (λ (file : LookedFile). file.name) new ≡ map (λ (file : LookedFile). file.name) old → FilesShow types seen new damage
    → FilesShow types seen old damage
names_show types seen [] [] damage same shows = shows
names_show types seen [] (n ∷ new) damage same shows = cc
names_show types seen (o ∷ old) [] damage same shows = absurd shows
names_show types seen (o ∷ old) (n ∷ new) damage same shows =
    let name : n.name ≡ o.name = cc in
    let rest : map (λ (file : LookedFile). file.name) new ≡ map (λ (file : LookedFile). file.name) old = cc in
    ⊎_elim (λ here. inl (subst (λ (k : FileName). FileShows types k seen damage) name here)) (λ later. inr (names_show types seen old new damage rest later)) shows

-- **Whatever the folder is, a look-up in the same files is shown the same corruption.**
pub same_shows : (old new : LookupView) → IsOfSameFiles old new → (seen : Option Folder) (damage : Damage) → Shows new seen damage → Shows old seen damage
same_shows old new same seen damage shows =
    names_show old.types seen old.files new.files damage same.names_are (subst (λ (types : List ColumnType). FilesShow types seen new.files damage) same.types_are shows)
