use Rattle.std.proofs.Common.{◌∙◌, List, ℕ, ap, length, arith}
use Rattle.sasi_engine.specs.HitLists.{columns_of}
use Rattle.sasi_engine.proofs.Leaving.{streams_leave}
use Rattle.sasi_engine.specs.Plans.{file_numbers}
use Rattle.sasi_engine.proofs.NewLaws.{parts_told}
use Rattle.sasi_engine.proofs.Opening.{streams_open, streams_ready, streams_show}
use Rattle.sasi_engine.proofs.Paying.{streams_pay}
use Rattle.sasi_engine.proofs.Places.{view_placed, view_served}
use Rattle.sasi_engine.proofs.Served.{columns_long}
use Rattle.sasi_engine.specs.inside.Sources.{all_sources}
use Rattle.sasi_engine.proofs.plan.plan_streams.Goals as goal

pub returns-clause-leaves : goal.returns-clause-leaves
returns-clause-leaves c folder p t asked seen is =
    record {
      leaves = streams_leave folder p t c.args.maps.now c.args.types.now c.args.relations.now c.args.parts.now asked seen _ is c.in_ok-made.ensures.streams;
      serving_is = c.in_ok-relations.ensures ∙ ap (λ (rows : List (List ℕ)). columns_of rows (length c.args.relations.now)) (c.deref.ensures.value ∙ c.in_ok-made.ensures.rows) ∙ view_served folder p t c.args.maps.now c.args.types.now c.args.relations.now c.args.parts.now asked seen is;
      hits_are = c.in_ok-made.ensures.parts ∙ view_placed folder p t c.args.maps.now c.args.types.now c.args.relations.now c.args.parts.now asked seen is;
    }

pub returns-clause-pays : goal.returns-clause-pays
returns-clause-pays c folder p t conditions seen is short = streams_pay folder p t c.args.maps.now c.args.types.now c.args.relations.now c.args.parts.now conditions seen _ is short c.in_ok-made.ensures.streams

pub returns-clause-ready : goal.returns-clause-ready
returns-clause-ready c files = streams_ready files (all_sources c.args.maps.now c.args.types.now c.args.relations.now 0 c.args.parts.now) _ c.in_ok-made.ensures.streams

pub returns-clause-opens : goal.returns-clause-opens
returns-clause-opens c name opens = streams_open c.args.maps.now c.args.types.now c.args.relations.now c.args.parts.now _ name c.in_ok-made.ensures.streams opens

pub returns-clause-shows : goal.returns-clause-shows
returns-clause-shows c files damage shows = streams_show c.args.maps.now c.args.types.now c.args.relations.now c.args.parts.now _ files damage c.in_ok-made.ensures.streams shows

pub returns-clause-count : goal.returns-clause-count
returns-clause-count c = ap (λ (l : List (List ℕ)). length l) c.in_ok-relations.ensures ∙ columns_long c.deref.result.now (length c.args.relations.now)

pub returns-clause-told : goal.returns-clause-told
returns-clause-told c = parts_told c.args.maps.now c.args.relations.now 0 (length (file_numbers c.args.parts.now)) c.args.parts.now c.in_ok-made.made.parts.items c.requires.maps c.in_ok-made.ensures.parts (omega arith)
