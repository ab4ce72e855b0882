-- Laws of how many pages the reading of a gated file reads.
use Rattle.std.specs.Prelude.{◌≡◌, Ok, Err, None, refl}
use Rattle.std.proofs.Common.{subst, sym, arith}
use Rattle.sasi_host.specs.declared.name.FileName.{FileName}
use Rattle.sasi_host.specs.declared.fault.ReadFault.{ReadFault}
use Rattle.sasi_host.specs.View.{View, contents}
use Rattle.sasi_host.specs.Sequential.{ReadsEachOnce, ReadsNoFurther, ReadsWithinPages}
use Rattle.sasi_host.proofs.SequentialLaws.{once_on, no_further_on, no_further}
use Rattle.sasi_gated.specs.Handles.{Handle}
use Rattle.sasi_gated.specs.ReadCosts.{OpensSequential, ReadsPagesOnce}

-- an opened file, read on
pub opens_on : (a b c : View) (h i : Handle) → contents b h.file ≡ contents a h.file → i.file ≡ h.file → OpensSequential a b h
    → ReadsEachOnce b c h.file h.buffered.page i.buffered.page i.at → OpensSequential a c i
opens_on a b c h i same file one two =
    subst (λ (f : FileName). ReadsEachOnce a c f None i.buffered.page i.at) (sym file) (once_on a b c h.file h.file None h.buffered.page i.buffered.page h.at i.at refl same one two)

-- so a whole reading reads at most all pages, up to its end and up to an error
pub opens_within : (a b : View) (h : Handle) → OpensSequential a b h → ReadsWithinPages a b h.file
opens_within a b h one bytes is = omega (arith, no_further a b h.file None h.buffered.page 0 h.at one bytes is (omega arith))

pub fails_within : (a b c : View) (h : Handle) → contents b h.file ≡ contents a h.file → OpensSequential a b h
    → ReadsNoFurther b c h.file h.buffered.page h.at → ReadsWithinPages a c h.file
fails_within a b c h same one two bytes is =
    omega (arith, no_further_on a b c h.file h.file None h.buffered.page 0 h.at refl same one two bytes is (omega arith))

-- an error behind a read that went well
pub once_fails : {S T : Type 0} (a b : View) (h i j : Handle) (x : S) (f : ReadFault) → ReadsPagesOnce a b h i (Ok x) → ReadsPagesOnce {T = T} a b h j (Err f)
once_fails a b h i j x f once = record { ok = tt; no_further = once.no_further }

-- an error that is handed on, and another answer
pub once_handed : {S T : Type 0} (a b : View) (h i j : Handle) (f g : ReadFault) → ReadsPagesOnce {T = S} a b h i (Err f) → ReadsPagesOnce {T = T} a b h j (Err g)
once_handed a b h i j f g once = record { ok = tt; no_further = once.no_further }

pub once_gives : {S T : Type 0} (a b : View) (h i : Handle) (x : S) (y : T) → ReadsPagesOnce a b h i (Ok x) → ReadsPagesOnce a b h i (Ok y)
once_gives a b h i x y once = record { ok = once.ok; no_further = once.no_further }
