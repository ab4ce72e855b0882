use Rattle.sasi_memindex.specs.Book.{Book}
use Rattle.sasi_tables.proofs.FloorLaws.{IsLowering}
use Rattle.sasi_tables.proofs.flush_table.floor_without.Given as goal

abbrev pub invariant-loop-held : goal.invariant-loop-held
invariant-loop-held l = (book : Book) → IsLowering book l.floor l.table l.last l.tables l.held-index
