use Rattle.sasi_engine.proofs.streams.map_stream.Goals as goal

pub returns : goal.returns
returns c = record {
  leaves = λ files sorted. c.in_ok-map_hits.ensures.leaves files sorted;
  pays = λ files. tt;
  opens = λ name is. is;
  ready = λ files. tt;
  shows = λ files damage is. is;
}
