use Rattle.std.proofs.Common.{take, ◌∙◌, ap}
use Rattle.sasi_host.specs.Names.{Bytes}
use Rattle.sasi_host.specs.Damages.{seen_bytes}
use Rattle.sasi_commitlog.specs.Damages.RecordBreaks.{wrong_length}
use Rattle.sasi_commitlog.proofs.fault.other_length.Goals as goal

pub returns-clause-shown : goal.returns-clause-shown
returns-clause-shown c tables other = record {
  named = c.damage_at.ensures.file;
  breaks = wrong_length (c.damage_at.ensures.rule ∙ c.broken_at.ensures.rule) c.damage_at.ensures.at (ap seen_bytes c.damage_at.ensures.seen ∙ c.broken_at.ensures.seen ∙ ap (λ (l : Bytes). take 8 l) c.to_be_bytes-bytes.ensures) other;
}
