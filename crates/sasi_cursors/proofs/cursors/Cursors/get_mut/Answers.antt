use borrow.Follows.Closed.{read_of}
use Rattle.std.proofs.Common.{◌∙◌, ap, map, subst, sym}
use Rattle.std.specs.Option.{ghost_name_of}
use Rattle.sasi_cursors.specs.Cursors.{entry_of, IsOnce}
use Rattle.sasi_cursors.proofs.Seen.{lookup_seen, once_seen, set_seen}
use Rattle.sasi_cursors.proofs.cursors.Cursors.get_mut.Goals as goal

pub invariant_of-self-lent : goal.invariant_of-self-lent
invariant_of-self-lent g c = λ _. (λ w. once_seen _ (c.get_mut.follows.holds w).4, subst (λ m. IsOnce (map entry_of m.entries)) (sym c.get_mut.follows.holds-at-none) c.self.invariant)

pub returns : goal.returns
returns g c =
    let entries = c.self.inside.by_name.entries in
    let name = c.bytes.result.now in
    let written = λ (w : g.row.C.Denot). ap (map entry_of) (c.get_mut.follows.holds w).0 ∙ set_seen name entries w in
    let kept = ap (λ m. map entry_of m.entries) c.get_mut.follows.holds-at-none in
    rw (← c.self.view_is, ← c.bytes.ensures) (
      λ i. read_of (ghost_name_of c.get_mut.result) (λ (w : g.row.C.Denot). written w i) (kept i),
      record {
        writes_back = tt;
        value = c.get_mut.ensures.value ∙ sym (lookup_seen name entries);
        once = once_seen entries c.get_mut.ensures.unique;
      },
    )
