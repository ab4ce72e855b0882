use Rattle.std.proofs.Common.{refl, sym, arith}
use Rattle.sasi_datawrite.specs.Format.{key_pairs}
use Rattle.sasi_hits.proofs.KeyLaws.{pairs_rise}
use Rattle.sasi_hits.proofs.StreamLaws.{from_zero}
use Rattle.sasi_hits.proofs.file_keys.FileKeys.new.Goals as goal

pub returns-clause-leaves : goal.returns-clause-leaves
returns-clause-leaves c files bytes partitioner content is = (
  key_pairs partitioner content,
  record {
    pairs = key_pairs partitioner content;
    of_tree = (bytes, partitioner, content, is, refl);
    rise = pairs_rise partitioner _ content is.data_file.content_is.rising;
    from = sym (from_zero (key_pairs partitioner content));
  },
  refl,
)

pub returns-clause-pays : goal.returns-clause-pays
returns-clause-pays c files bytes partitioner content is = (bytes, partitioner, content, is, omega arith)
