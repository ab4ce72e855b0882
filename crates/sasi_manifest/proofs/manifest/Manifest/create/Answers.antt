use Rattle.sasi_manifest.proofs.Rewriting.{rewritten_same}
use Rattle.sasi_manifest.proofs.manifest.Manifest.create.Goals as goal

pub returns-clause-same : goal.returns-clause-same
returns-clause-same g c known none = rewritten_same c.args.listing.now c.in_ok-made.made.listing known none c.in_ok-made.ensures.listing
