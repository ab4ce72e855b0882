-- The files that SHOW FILES tells, and where each stands.
use Rattle.std.specs.Prelude.{ℕ, List, [], ◌∷◌, ◌++◌, map, Option, None, Some}
use Rattle.std.specs.List.{dedup, flat_map}
use Rattle.std.specs.Ordering.{nat_cmp, ordering_then}
use Rattle.std.specs.declared.cmp.Ordering.{Ordering}
use Rattle.sasi_host.specs.declared.name.FileName.{FileName}
use Rattle.sasi_host.specs.Names.{data_name, name_eq}
use Rattle.sasi_compact.specs.declared.output.Output.{Output}
use Rattle.sasi_layout.specs.FileNames.{told_cmp}
use Rattle.sasi_print.specs.Files.{file_text}
use Rattle.sasi_print.specs.declared.file_lines.FileState.{FileState}
use Rattle.sasi_print.specs.declared.file_lines.FileState.TheVariants.{Building, Current, Obsolete}
use Rattle.sasi_segments.specs.Sorting.{sort}
use Rattle.sasi_tasks.specs.declared.running.RunningTask.{RunningTask}
use Rattle.sasi_views.specs.Books.{Book, count_of}
use Rattle.sasi_views.specs.declared.component.Component.TheVariants as component
use Rattle.sasi_store.specs.declared.show_files.ToldFile.{ToldFile}

-- these files, which all stand there
abbrev pub in_state : FileState → List FileName → List ToldFile
in_state state names = map (λ (name : FileName). record { name = name; state = state }) names

-- current files come before obsolete ones, and those before files that are built
abbrev pub state_rank : FileState → ℕ
state_rank Current = 0
state_rank Obsolete = 1
state_rank Building = 2

-- by name, and those of one name by where they stand
abbrev pub file_cmp : ToldFile → ToldFile → Ordering
file_cmp a b = ordering_then (told_cmp a.name b.name) (nat_cmp (state_rank a.state) (state_rank b.state))

-- the first of those of one name that stand one behind the other
abbrev pub once : List ToldFile → List ToldFile
once files = dedup (λ (a b : ToldFile). name_eq a.name b.name) files

-- the current files, those that cursors hold, and those that tasks write
abbrev pub told_unsorted : List FileName → List FileName → List FileName → List ToldFile
told_unsorted current held built = in_state Current current ++ in_state Obsolete held ++ in_state Building built

-- **The files that are told, each once**, in the order of their names
abbrev pub sorted_told : List FileName → List FileName → List FileName → List ToldFile
sorted_told current held built = once (sort file_cmp (told_unsorted current held built))

-- the texts of files, of which so many views list each
abbrev pub counted_texts : Book → List ToldFile → List (List ℕ)
counted_texts views files = map (λ (f : ToldFile). file_text f.name f.state (count_of views (component.File f.name))) files

-- the file of a task that has done a unit
abbrev pub built_by : ℕ → Option Output → List FileName
built_by number None = []
built_by number (Some output) = data_name number ∷ []

abbrev pub built_of : List RunningTask → List FileName
built_of tasks = flat_map (λ (r : RunningTask). built_by r.task.compaction.number r.task.output) tasks
