use Rattle.sasi_views.proofs.Listing.{listed_next}
use Rattle.sasi_views.proofs.obsolete.obsolete_files.Goals as goal

pub loop-component-preserved : goal.loop-component-preserved
loop-component-preserved c = listed_next _ c.loop-component.component-iterator c.next.new.self c.args.known.now.entries c.loop-component.files c.push_obsolete.new.files c.in-Some.ensures.steps c.in_ok-push_obsolete.ensures c.loop-component.invariant
