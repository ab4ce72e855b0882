use Rattle.std.proofs.Common.{◌∙◌, arith}
use Rattle.sasi_dataread.specs.Damages.ShowsPartition.{other_length}
use Rattle.sasi_dataread.proofs.partition.other_length.Goals as goal

pub returns-clause-shown : goal.returns-clause-shown
returns-clause-shown c types end whole other has = other_length (record {
  named = c.found.ensures.file;
  rule = c.found.ensures.rule;
  at = c.found.ensures.at;
  body = c.args.bytes.now;
  stands = has;
  fits = omega arith;
  told = c.found.ensures.seen ∙ c.to_be_bytes-field.ensures;
  other = other;
})
