use Rattle.std.proofs.Common.{◌≡◌, ◌++◌, drop, map}
use Rattle.std.specs.List.{flat_map}
use Rattle.sasi_model.specs.Lines.{line}
use Rattle.sasi_print.specs.Files.{file_text}
use Rattle.sasi_print.specs.declared.file_lines.FileState.TheVariants.{Current}
use Rattle.sasi_machine_layout.proofs.files.push_lines.Given as goal

-- with those that are left
abbrev pub invariant-loop-name : goal.invariant-loop-name
invariant-loop-name l =
    l.reply ++ flat_map line (map (λ name. file_text name Current 0) (drop l.name-index l.names)) ≡ l.fn.reply ++ flat_map line (map (λ name. file_text name Current 0) l.names)
