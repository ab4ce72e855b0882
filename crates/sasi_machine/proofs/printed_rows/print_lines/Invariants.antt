use Rattle.std.proofs.Common.{◌≡◌, ◌++◌, take}
use Rattle.std.specs.List.{flat_map}
use Rattle.sasi_machine.proofs.printed_rows.print_lines.Given as goal

-- the lines so far are printed
abbrev pub invariant-loop-line : goal.invariant-loop-line
invariant-loop-line l = l.reply ≡ l.fn.reply ++ flat_map (λ line. line) (take l.line-index l.lines)
