use Rattle.sasi_sources_tests.proofs.choices.scan_of.Goals as goal

pub returns : goal.returns
returns g c = record { opens = c.source_of.ensures.opens; ready = c.source_of.ensures.ready; prints = c.source_of.ensures.prints }
