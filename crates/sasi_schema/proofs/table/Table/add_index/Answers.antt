use Rattle.sasi_schema.specs.IndexFacts.{IsIndexOf}
use Rattle.sasi_schema.proofs.IndexFacts.{all_added}
use Rattle.sasi_schema.proofs.table.Table.add_index.Goals as goal

pub invariant_of-self-clause-index_facts : goal.invariant_of-self-clause-index_facts
invariant_of-self-clause-index_facts c =
    let t = c.args.self.now in
    all_added (IsIndexOf t.number t.columns t.key) c.push.result t.indexes c.push.new.self c.args.def c.push.ensures.ok c.push.ensures.err t.index_facts c.requires
