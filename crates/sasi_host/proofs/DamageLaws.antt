-- What a fault shows, and what that shows.
use Rattle.std.specs.Prelude.{◌≡◌, ℕ, ◌<◌, ◌≤◌, length, Some}
use Rattle.std.proofs.Common.{◌∙◌, arith}
use Rattle.sasi_host.specs.declared.name.FileName.{FileName}
use Rattle.sasi_host.specs.declared.damage.Damage.{Damage}
use Rattle.sasi_host.specs.declared.fault.ReadFault.{ReadFault}
use Rattle.sasi_host.specs.declared.fault.ReadFault.TheVariants as fault
use Rattle.sasi_host.specs.Names.{Bytes}
use Rattle.sasi_host.specs.View.{View, contents}
use Rattle.sasi_host.specs.Disk.{Changes, Same}
use Rattle.sasi_host.proofs.ContentLaws.{contents_same}
use Rattle.sasi_host.specs.Damages.{DamageShown, ShowsEnd, TellsSize}

-- what a file shows, it showed before, if nothing was done
pub shown_before : (Shows : Bytes → Damage → Type 0) (a b : View) (file : FileName) (f : ReadFault) → Changes Same a b → DamageShown b file Shows f
    → DamageShown a file Shows f
shown_before Shows a b file fault.Failed same shown = tt
shown_before Shows a b file fault.OutOfMemory same shown = tt
shown_before Shows a b file (fault.Damaged damage) same shown = λ bytes is. shown bytes (contents_same a b file same ∙ is)

-- a file shows what follows from what it shows
pub shown_as : (Shows Tells : Bytes → Damage → Type 0) (v : View) (file : FileName) (f : ReadFault)
    → ((bytes : Bytes) (damage : Damage) → contents v file ≡ Some bytes → Shows bytes damage → Tells bytes damage) → DamageShown v file Shows f
    → DamageShown v file Tells f
shown_as Shows Tells v file fault.Failed follows shown = tt
shown_as Shows Tells v file fault.OutOfMemory follows shown = tt
shown_as Shows Tells v file (fault.Damaged damage) follows shown = λ bytes is. follows bytes damage is (shown bytes is)

-- a file that tells its size ends before each offset that it doesn't reach
pub end_shown : (v : View) (file : FileName) (end : ℕ) (f : ReadFault) → ((bytes : Bytes) → contents v file ≡ Some bytes → length bytes < end)
    → DamageShown v file (TellsSize file) f → DamageShown v file (ShowsEnd end file) f
end_shown v file end f short told =
    shown_as (TellsSize file) (ShowsEnd end file) v file f (λ bytes damage is tells. record { tells = tells; short = short bytes is }) told

-- and each later one
pub end_later : (v : View) (file : FileName) (near far : ℕ) (f : ReadFault) → near ≤ far → DamageShown v file (ShowsEnd near file) f
    → DamageShown v file (ShowsEnd far file) f
end_later v file near far f le shown =
    shown_as (ShowsEnd near file) (ShowsEnd far file) v file f
    (λ bytes damage is ends. record { tells = ends.tells; short = omega (arith, ends.short, le) }) shown
