-- Laws of sequential reads, one part after another.
use Rattle.std.specs.Prelude.{◌≡◌, ℕ, ◌*◌, ◌≤◌, length, Option, Some, None, refl}
use Rattle.std.proofs.Common.{sym, ◌∙◌, ap, arith}
use Rattle.sasi_host.specs.declared.name.FileName.{FileName}
use Rattle.sasi_host.specs.Names.{Bytes}
use Rattle.sasi_host.specs.View.{View, contents}
use Rattle.sasi_host.specs.Buffered.{reached}
use Rattle.sasi_host.specs.Sequential.{BeginsBy, ReachesTo, pages_to_end, ReadsEachOnce, ReadsNoFurther}

-- a page that begins by an offset within the file is one of its pages
pub page_within : (after : Option ℕ) (end : ℕ) (bytes : Bytes) → BeginsBy after end → end ≤ length bytes → reached after ≤ pages_to_end bytes
page_within None end bytes begins within = omega arith
page_within (Some page) end bytes begins within = let le = begins page refl in omega (arith, le)

-- it begins by each later offset
pub begins_later : (after : Option ℕ) (near far : ℕ) → near ≤ far → BeginsBy after near → BeginsBy after far
begins_later after near far le begins = λ page is. omega (arith, le, begins page is)

-- a page that is known
pub begins_known : (after : Option ℕ) (page at : ℕ) → after ≡ Some page → 4096 * page ≤ at → BeginsBy after at
begins_known after page at known le = λ other is. (let same : Some page ≡ Some other = sym known ∙ is in let one : page ≡ other = cc in omega (arith, one, le))

-- what is told reaches as far as it is long
pub reaches_told : (v : View) (file : FileName) (at : ℕ) (bytes : Bytes) → contents v file ≡ Some bytes → at ≤ length bytes → ReachesTo v file at
reaches_told v file at bytes is le = λ other told. (let same : Some bytes ≡ Some other = sym is ∙ told in let one : bytes ≡ other = cc in omega (arith, le, ap length one))

-- and so where the file stays
pub reaches_still : (a b : View) (file named : FileName) (at : ℕ) → named ≡ file → contents b file ≡ contents a file → ReachesTo a file at → ReachesTo b named at
reaches_still a b file named at name same reaches = λ bytes is. reaches bytes (sym (ap (λ (f : FileName). contents b f) name ∙ same) ∙ is)

-- nothing was read
pub reads_none : (v : View) (file : FileName) (page : Option ℕ) (at : ℕ) → BeginsBy page at → ReachesTo v file at → ReadsEachOnce v v file page page at
reads_none v file page at begins within = record {
  sequential = begins;
  pages = omega arith;
  within = within;
  page = λ bytes is. page_within page at bytes begins (within bytes is);
}

-- one part after another, where the file stays
pub once_on : (a b c : View) (file named : FileName) (first second third : Option ℕ) (mid end : ℕ) → named ≡ file → contents b file ≡ contents a file
    → ReadsEachOnce a b file first second mid → ReadsEachOnce b c named second third end → ReadsEachOnce a c file first third end
once_on a b c file named first second third mid end name same one two = record {
  sequential = two.sequential;
  pages = omega (arith, one.pages, two.pages);
  within = λ bytes is. two.within bytes (ap (λ (f : FileName). contents b f) name ∙ same ∙ is);
  page = λ bytes is. two.page bytes (ap (λ (f : FileName). contents b f) name ∙ same ∙ is);
}

pub no_further_on : (a b c : View) (file named : FileName) (first second : Option ℕ) (at mid : ℕ) → named ≡ file → contents b file ≡ contents a file
    → ReadsEachOnce a b file first second mid → ReadsNoFurther b c named second mid → ReadsNoFurther a c file first at
no_further_on a b c file named first second at mid name same one two bytes is le =
    omega (arith, one.pages, two bytes (ap (λ (f : FileName). contents b f) name ∙ same ∙ is) (one.within bytes is))

-- a read that went well read none beyond the end either
pub no_further : (a b : View) (file : FileName) (first second : Option ℕ) (at end : ℕ) → ReadsEachOnce a b file first second end
    → ReadsNoFurther a b file first at
no_further a b file first second at end one bytes is le = omega (arith, one.pages, one.page bytes is)
