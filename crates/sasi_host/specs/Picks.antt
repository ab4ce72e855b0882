-- One of the images that a crash may leave, picked by a rule for what is pending.
use Rattle.std.specs.Prelude.{Bool, true, false, if◌then◌else◌, ◌||◌, ℕ, List, [], ◌∷◌, length, replicate, is_some}
use Rattle.std.specs.FinMap.{get, insert, remove}
use Rattle.sasi_host.specs.declared.name.FileName.{FileName}
use Rattle.sasi_host.specs.declared.call.Call.{Call}
use Rattle.sasi_host.specs.declared.call.Call.TheVariants.{Created, Wrote, Synced, Deleted, FolderSynced, Emitted, Put}
use Rattle.sasi_host.specs.declared.pick.Pick.{Pick}
use Rattle.sasi_host.specs.declared.pick.NamePick.{NamePick}
use Rattle.sasi_host.specs.declared.pick.NamePick.TheVariants as names
use Rattle.sasi_host.specs.declared.pick.BytePick.{BytePick}
use Rattle.sasi_host.specs.declared.pick.BytePick.TheVariants as bytes
use Rattle.std.specs.Ordering.{eq_by_cmp}
use Rattle.sasi_host.specs.Names.{Bytes, Folder, name_cmp}
use Rattle.sasi_host.specs.Files.{written}

-- names that are pending are as they read
abbrev pub is_now : NamePick → Bool
is_now names.AsNow = true
is_now names.AsSynced = false

-- the file is synced later on
abbrev pub synced_later : FileName → List Call → Bool
synced_later file [] = false
synced_later file (Created f ∷ rest) = synced_later file rest
synced_later file (Wrote f at b ∷ rest) = synced_later file rest
synced_later file (Synced f ∷ rest) = eq_by_cmp name_cmp file f || synced_later file rest
synced_later file (Deleted f ∷ rest) = synced_later file rest
synced_later file (FolderSynced ∷ rest) = synced_later file rest
synced_later file (Emitted b ∷ rest) = synced_later file rest
synced_later file (Put f b ∷ rest) = synced_later file rest

-- the folder is synced later on
abbrev pub folder_later : List Call → Bool
folder_later [] = false
folder_later (Created f ∷ rest) = folder_later rest
folder_later (Wrote f at b ∷ rest) = folder_later rest
folder_later (Synced f ∷ rest) = folder_later rest
folder_later (Deleted f ∷ rest) = folder_later rest
folder_later (FolderSynced ∷ rest) = true
folder_later (Emitted b ∷ rest) = folder_later rest
folder_later (Put f b ∷ rest) = folder_later rest

-- a write that may have happened: as asked, not at all, or with other bytes
abbrev pub pending : BytePick → FileName → ℕ → Bytes → Folder → Folder
pending bytes.AsNow file at b left = written (get left file) file at b left
pending bytes.AsSynced file at b left = left
pending bytes.Zeros file at b left = written (get left file) file at (replicate (length b) 0) left
pending bytes.Ones file at b left = written (get left file) file at (replicate (length b) 255) left

-- what one call makes of the picked folder, where these calls come after it: what a later sync tells has to be as it reads
abbrev pub pick_step : Pick → Call → List Call → Folder → Folder
pick_step pick (Created file) rest left = if folder_later rest || is_now pick.names || is_some (get left file) then insert left file [] else left
pick_step pick (Wrote file at b) rest left =
    if synced_later file rest then written (get left file) file at b left else pending pick.bytes file at b left
pick_step pick (Synced file) rest left = left
pick_step pick (Deleted file) rest left = if folder_later rest || is_now pick.names then remove left file else left
pick_step pick FolderSynced rest left = left
pick_step pick (Emitted b) rest left = left
pick_step pick (Put file b) rest left = insert left file b

-- what the calls leave of this folder
abbrev pub picked : Pick → List Call → Folder → Folder
picked pick [] left = left
picked pick (call ∷ rest) left = picked pick rest (pick_step pick call rest left)
