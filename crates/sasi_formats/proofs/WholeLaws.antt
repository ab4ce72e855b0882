-- A function that gives what the reader of whole bytes gives meets the clauses of one that decodes them.
use Rattle.std.proofs.Common.{Result, Ok, Err, refl}
use Rattle.sasi_host.specs.Names.{Bytes}
use Rattle.sasi_formats.specs.Formats.{Format}
use Rattle.sasi_formats.specs.Reader.{read_whole}
use Rattle.sasi_formats.specs.declared.fault.FormatFault.{FormatFault}
use Rattle.sasi_formats.specs.declared.fault.FormatFault.TheVariants.{OutOfMemory, Short, Long, Broken}
use Rattle.sasi_formats.specs.Whole.{GivesWhole, ReadsWhole}
use Rattle.sasi_formats.proofs.Agreement.{reads_whole, fails_whole, whole_apart}

pub reads_all : {A : Type 0} (format : Format A) (bytes : Bytes) (result : Result A FormatFault) → GivesWhole (read_whole format bytes) result → ReadsWhole format bytes result
reads_all format bytes (Ok value) h = record { is = reads_whole format bytes value h.0 h.1; shown = tt; again = λ _ _. tt }
reads_all format bytes (Err OutOfMemory) h = record { is = tt; shown = tt; again = λ _ _. refl }
reads_all format bytes (Err Short) h = record { is = tt; shown = fails_whole format bytes _ h; again = λ v is. absurd (whole_apart format bytes v _ is h) }
reads_all format bytes (Err Long) h = record { is = tt; shown = fails_whole format bytes _ h; again = λ v is. absurd (whole_apart format bytes v _ is h) }
reads_all format bytes (Err (Broken b)) h = record { is = tt; shown = fails_whole format bytes _ h; again = λ v is. absurd (whole_apart format bytes v _ is h) }
