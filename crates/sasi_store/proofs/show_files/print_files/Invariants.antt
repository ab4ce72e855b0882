use Rattle.std.proofs.Common.{◌≡◌, ◌++◌, drop}
use Rattle.std.specs.List.{flat_map}
use Rattle.sasi_model.specs.Lines.{line}
use Rattle.sasi_store.specs.ToldFiles.{counted_texts}
use Rattle.sasi_store.proofs.show_files.print_files.Given as goal

-- with the lines of those that are left
abbrev pub invariant-loop-file : goal.invariant-loop-file
invariant-loop-file l = l.fn.reply ++ flat_map line (counted_texts l.fn.views l.fn.files) ≡ l.reply ++ flat_map line (counted_texts l.fn.views (drop l.file-index l.fn.files))
