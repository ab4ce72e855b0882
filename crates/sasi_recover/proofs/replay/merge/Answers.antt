use Rattle.std.proofs.Common.{◌≡◌, List, OnOk, rules, subst, sym, ℕ}
use Rattle.sasi_types.specs.Token.{AreBytes}
use Rattle.sasi_recover.specs.ReplayState.{IsReplayOf, after_mutation, seen}
use Rattle.sasi_recover.proofs.ReplayLaws.{on_ok, replay_kept, table_there}
use Rattle.sasi_recover.proofs.replay.merge.Goals as goal

pub put-requires : goal.put-requires
put-requires c = table_there c.args.listing.now c.args.mutation c.args.replay.now.tables.items c.requires.known c.requires.tables.maps

pub returns-clause-tables : goal.returns-clause-tables
returns-clause-tables c =
    let is : OnOk c.put.result (seen c.put.new.replay ≡ after_mutation c.args.listing.now.tables c.args.number (seen c.args.replay.now) c.args.mutation) = search rules in
    let bytes = subst (λ (l : List ℕ). AreBytes l) c.bytes.ensures c.note_bytes.ensures in
    on_ok c.put.result (λ same. subst (IsReplayOf c.args.listing.now) (sym same)
    (replay_kept c.args.listing.now c.args.number (seen c.args.replay.now) c.args.mutation c.requires.live bytes c.requires.known c.requires.tables)) is
