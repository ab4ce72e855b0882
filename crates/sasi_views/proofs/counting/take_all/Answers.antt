use Rattle.sasi_views.proofs.BookChanges.{at_entry}
use Rattle.sasi_views.proofs.StepLaws.{room_for}
use Rattle.sasi_views.proofs.counting.take_all.Goals as goal

pub raise_all-requires : goal.raise_all-requires
raise_all-requires c =
    λ k listed.
    room_for c.args.components.now k (at_entry c.args.known.now.entries k) (at_entry c.learn_all.new.known.entries k) (c.in_ok-learn_all.ensures.ok k)
    (c.have_room.ensures c.if-not-have_room.false k listed) (c.requires.once k)
