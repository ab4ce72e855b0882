use Rattle.std.proofs.Common.{sym, subst, arith, inl, inr}
use Rattle.sasi_host.specs.declared.damage.FormatRule.{FormatRule}
use Rattle.sasi_host.specs.declared.damage.Seen.{Seen}
use Rattle.sasi_host.specs.Damages.{seen_bytes}
use Rattle.sasi_formats.specs.Failures.{FailsWhole}
use Rattle.sasi_formats.specs.Reader as reader
use Rattle.sasi_formats.specs.Whole.{IsShownBy}
use Rattle.sasi_commitlog.specs.Format.{mutation_of}
use Rattle.sasi_commitlog.specs.Damages.RecordBreaks.{wrong_content}
use Rattle.sasi_commitlog.proofs.fault.fault_in_file.Goals as goal

pub returns-in-Short-clause-shown : goal.returns-in-Short-clause-shown
returns-in-Short-clause-shown c tables shown = c.other_length.ensures.shown tables (inl (subst (IsShownBy (mutation_of tables) c.args.payload.now) c.in-Short.is shown))

pub returns-in-Long-clause-shown : goal.returns-in-Long-clause-shown
returns-in-Long-clause-shown c tables shown = c.other_length-in-Long.ensures.shown tables (inr (subst (IsShownBy (mutation_of tables) c.args.payload.now) c.in-Long.is shown))

pub returns-in-Broken-clause-shown : goal.returns-in-Broken-clause-shown
returns-in-Broken-clause-shown c tables shown =
    let broken = subst (IsShownBy (mutation_of tables) c.args.payload.now) c.in-Broken.is shown in
    record {
      named = c.damage_at.ensures.file;
      breaks = wrong_content c.in-Broken.broken.at (omega (arith, c.damage_at.ensures.at))
          (subst (λ (r : FormatRule). FailsWhole (mutation_of tables) c.args.payload.now (reader.Broken r c.in-Broken.broken.at (seen_bytes c.damage_at.result.seen)))
          (sym c.damage_at.ensures.rule)
          (subst (λ (s : Seen). FailsWhole (mutation_of tables) c.args.payload.now (reader.Broken c.in-Broken.broken.rule c.in-Broken.broken.at (seen_bytes s)))
          (sym c.damage_at.ensures.seen) broken));
    }
