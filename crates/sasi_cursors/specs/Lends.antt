-- What the list becomes of which a cursor was lent.
use Rattle.std.specs.Prelude.{ℕ, List, Option}
use Rattle.std.specs.Borrow.{Fml, LendsIf, MutBor, RattleType}
use Rattle.sasi_cursors.specs.Cursors.{with_cursor}
use Rattle.sasi_cursors.specs.contracts.cursors.Cursors.{the_row}

module _ (C : RattleType) where
  -- once the loan ends, the cursor of the name is what was written last; where no cursor was lent, the list is as it was
  abbrev pub lends_cursor : MutBor (List (List ℕ × C.Denot)) → List ℕ → Option (MutBor C.Denot) → Fml
  lends_cursor entries name lent = LendsIf (the_row C) C entries lent (with_cursor name entries.now) entries.now
