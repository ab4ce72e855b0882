use Rattle.sasi_sources_tests.proofs.choices.nothing.Goals as goal

pub returns : goal.returns
returns g = record { opens = λ name is. absurd is; ready = λ seen book. tt; prints = λ seen book has. tt }
