use Rattle.std.proofs.Common.{List, subst}
use Rattle.sasi_types.specs.declared.column.ColumnType.{ColumnType}
use Rattle.sasi_hits.specs.declared.hits.Hits.TheVariants.{Keys}
use Rattle.sasi_engine.specs.inside.Sources.{IsKeysStream}
use Rattle.sasi_engine.proofs.streams.keys_stream.Goals as goal

pub returns : goal.returns
returns c =
    subst (λ (types : List ColumnType). IsKeysStream c.args.file types c.args.leaf c.args.part (Keys c.new.result)) c.in_ok-types.ensures
    (record { leaves = c.new.ensures.leaves; pays = c.new.ensures.pays; opens = c.new.ensures.opens; ready = c.new.ensures.ready; shows = c.new.ensures.shows })
