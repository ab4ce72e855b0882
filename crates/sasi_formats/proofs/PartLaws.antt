-- Parts of a file that have a format of one size.
use Rattle.std.proofs.Common.{◌≡◌, ◌≢◌, ◌^◌, ◌<◌, ◌≤◌, ℕ, ◌+◌, length, Ok, Err, inl, refl, sym, ap, ◌∙◌, arith, subst}
use Rattle.sasi_host.specs.Names.{Bytes}
use Rattle.sasi_host.specs.declared.name.FileName.{FileName}
use Rattle.sasi_host.specs.declared.damage.Damage.{Damage}
use Rattle.sasi_host.specs.Damages.{HasAt, seen_bytes}
use Rattle.sasi_host.proofs.Offsets.{same_at}
use Rattle.sasi_fields.specs.Reading.{Reading}
use Rattle.sasi_formats.specs.Formats.{Format, Encodes}
use Rattle.sasi_formats.specs.Reader.{Corruption, Got, Failed, read, start}
use Rattle.sasi_formats.specs.Reader as reader
use Rattle.sasi_formats.specs.Failures.{FailsWhole}
use Rattle.sasi_formats.specs.Gives.{FailsWith}
use Rattle.sasi_formats.specs.Parts.{ShowsBrokenPart, ReadsPart, HasRule, damage_by}
use Rattle.sasi_formats.specs.declared.fault.FormatFault.{FormatFault}
use Rattle.sasi_formats.specs.declared.fault.FormatFault.TheVariants.{OutOfMemory, Short, Long, Broken}
use Rattle.sasi_formats.proofs.Agreement.{fails_exactly, never_both}
use Rattle.sasi_formats.proofs.Offsets.{whole_within}
use Rattle.sasi_formats.proofs.OfSize.{IsOfSize, whole_breaks, whole_is}

-- a part that encodes a value breaks nothing
pub part_apart : {A : Type 0} (format : Format A) (offset size : ℕ) (file : FileName) (bytes part : Bytes) (value : A) (damage : Damage) → Encodes format value part → HasAt bytes offset part → length part ≡ size
    → ShowsBrokenPart format offset size file bytes damage → ⊥
part_apart format offset size file bytes part value damage encodes has sized shows =
    let same : part ≡ shows.part = same_at bytes offset part shows.part has shows.stands (sized ∙ sym shows.sized) in
    never_both format shows.part value (reader.Broken damage.rule shows.within (seen_bytes damage.seen)) (subst (λ (l : Bytes). Encodes format value l) same encodes) shows.breaks

-- a function that reads all of a part, whose size is that of the format
module _ {A : Type 0} (format : Format A) (size : ℕ) (of_size : IsOfSize format size) (offset : ℕ) (file : FileName) (part : Bytes) (s : Reading) (starts : s ≡ start part) (sized : length part ≡ size) where
  fails_all : (f : Corruption) → read format s ≡ Failed f → FailsWhole format part f
  fails_all f failed = inl ((fails_exactly format (start part) f).0 (ap (λ (u : Reading). read format u) (sym starts) ∙ failed))

  -- it gives the value of the part
  pub part_got : (value : A) (t : Reading) → read format s ≡ Got value t → ReadsPart format offset file part (Ok value)
  part_got value t got = record { is = whole_is format size of_size part value t sized (ap (λ (u : Reading). read format u) (sym starts) ∙ got); shown = tt }

  -- its fault is a broken rule, at an offset of the file that fits
  pub part_rule : (fault : FormatFault) → offset + size < 2 ^ 64 → FailsWith (read format s) fault → fault ≢ OutOfMemory → HasRule (λ broken. offset + broken.at < 2 ^ 64) fault
  part_rule OutOfMemory fits fails some = some refl
  part_rule Short fits fails some = whole_breaks format size of_size part _ sized (fails_all _ fails)
  part_rule Long fits fails some = whole_breaks format size of_size part _ sized (fails_all _ fails)
  part_rule (Broken broken) fits fails some =
      let within : broken.at ≤ length part = whole_within format part _ (fails_all _ fails) in
      omega (arith, fits, sized, within)

  -- and as damage it is shown by each file that has the part
  pub part_failed : (fault : FormatFault) (damage : Damage) → FailsWith (read format s) fault → HasRule (λ broken. damage ≡ damage_by file offset broken) fault → ReadsPart format offset file part (Err damage)
  part_failed OutOfMemory damage fails is = absurd is
  part_failed Short damage fails is = absurd is
  part_failed Long damage fails is = absurd is
  part_failed (Broken broken) damage fails is = record {
    is = tt;
    shown = λ bytes has. subst (λ (d : Damage). ShowsBrokenPart format offset (length part) file bytes d) (sym is) (record {
      named = refl;
      part = part;
      stands = has;
      sized = refl;
      within = broken.at;
      at = refl;
      breaks = fails_all _ fails;
    });
  }
