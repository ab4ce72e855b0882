use Rattle.std.proofs.Common.{◌⊎◌, ◌+◌, ◌-◌, ◌<◌, ℕ, ◌∙◌, ap, subst}
use Rattle.sasi_host.proofs.PageReadingLaws.{read_of, reads_nothing}
use Rattle.sasi_types.specs.declared.tree.TreeRef.{TreeRef}
use Rattle.sasi_tokentree.specs.Damages.{pair_offset}
use Rattle.sasi_dataread.specs.Bodies.{IsPartitionOffset}
use Rattle.sasi_dataread.proofs.Opening.{no_false_nowhere, nowhere_shown, there_shown, where_ok}
use Rattle.sasi_dataread.proofs.pair.partition_of_pair.Goals as goal

pub returns-then-is_wrong_offset-clause-damaged : goal.returns-then-is_wrong_offset-clause-damaged
returns-then-is_wrong_offset-clause-damaged g c bytes is =
    nowhere_shown c.args.opened.now (c.args.tree.now.passed - 1) c.args.place bytes c.found-damage.result
    (c.found-damage.ensures.file ∙ c.file.ensures ∙ c.requires.named) c.found-damage.ensures.rule (c.found-damage.ensures.at ∙ ap (λ (n : ℕ). n + 8)
    c.last_offset-at.ensures.is ∙ ap (λ (t : TreeRef). pair_offset t (c.args.tree.now.passed - 1) + 8) c.requires.tree) (c.found-damage.ensures.seen ∙ c.to_be_bytes.ensures)
    (subst (λ (e : ℕ). (c.args.place < 16) ⊎ (e < c.args.place + 17)) c.end.ensures (c.is_wrong_offset.ensures.wrong c.if-is_wrong_offset.true))

pub returns-then-is_wrong_offset-clause-undamaged : goal.returns-then-is_wrong_offset-clause-undamaged
returns-then-is_wrong_offset-clause-undamaged g c =
    no_false_nowhere (g.H.Host.view c.args.host.now) c.args.opened.now c.args.place c.found-damage.result
    (subst (λ (e : ℕ). (c.args.place < 16) ⊎ (e < c.args.place + 17)) c.end.ensures (c.is_wrong_offset.ensures.wrong c.if-is_wrong_offset.true))

pub returns-clause-damaged : goal.returns-clause-damaged
returns-clause-damaged g c =
    there_shown (g.H.Host.view c.args.host.now) c.args.opened.now (c.args.tree.now.passed - 1) c.args.place c.at_buffered.result
    (subst (λ (e : ℕ). IsPartitionOffset e c.args.place) c.end.ensures (c.is_wrong_offset.ensures.place c.if-is_wrong_offset.false)) c.at_buffered.ensures.damaged

pub returns-then-is_wrong_offset-clause-read : goal.returns-then-is_wrong_offset-clause-read
returns-then-is_wrong_offset-clause-read g c = read_of _ _ _ _ _ _ _ _ c.requires.named (reads_nothing _ _ _ _ c.requires.read.agrees c.requires.buffered)

pub returns-clause-begins : goal.returns-clause-begins
returns-clause-begins g c =
    where_ok (IsPartitionOffset c.args.opened.now.end c.args.place) c.at_buffered.result
    (subst (λ (e : ℕ). IsPartitionOffset e c.args.place) c.end.ensures (c.is_wrong_offset.ensures.place c.if-is_wrong_offset.false))
