use Rattle.std.proofs.Common.{◌∙◌, sym}
use Rattle.sasi_postings.proofs.Terms.{long_added, short_added}
use Rattle.sasi_postings.proofs.gathered.add_term.Goals as goal

pub returns-then-is_short : goal.returns-then-is_short
returns-then-is_short c =
    short_added c.args.pair c.args.term.now c.bytes.result.now c.args.gather.now c.add.new.self c.add.result (sym c.is_short.ensures ∙ c.if-is_short.true) c.bytes.ensures c.add.ensures.ok

pub returns-else-is_short : goal.returns-else-is_short
returns-else-is_short c =
    long_added c.args.pair c.args.term.now c.args.gather.now c.add-else-is_short.new.self c.add-else-is_short.result (sym c.is_short.ensures ∙ c.if-is_short.false) c.add-else-is_short.ensures.ok
