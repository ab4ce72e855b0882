use Rattle.sasi_pairs.proofs.DurableFiles.{comes_whole}
use Rattle.sasi_pairs.proofs.sealed.commit.Goals as goal

pub returns-clause-whole : goal.returns-clause-whole
returns-clause-whole g c next files named is stands durable =
    comes_whole (g.H.Host.view c.args.host.now) (g.H.Host.view c.append.new.host) c.args.manifest.now.number c.args.sealed c.args.manifest.now.listing next files named
    (g.met.H.Host.sound c.args.host.now) durable (c.append.ensures.any_moment next is stands)
