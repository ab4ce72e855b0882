-- The framing of a file: a header at its start, and a footer at its end.
use Rattle.std.specs.Prelude.{◌≡◌, ℕ, ◌+◌, ◌-◌, ◌≤◌, ◌++◌, length, min, Some}
use Rattle.sasi_host.specs.declared.name.FileName.{FileName}
use Rattle.sasi_host.specs.Names.{Bytes}
use Rattle.sasi_host.specs.View.{View, contents}
use Rattle.sasi_host.specs.Buffered.{pages_of}
use Rattle.sasi_host.specs.Damages.{HasAt}
use Rattle.sasi_formats.specs.Formats.{Format, Fits, encoded}

-- The framing of a kind of file: a header of 16 bytes, and a footer, which is numbers and then a mark of 8 bytes.
pub record Framing (A B : Type 0) : Type 1 where
  -- no file of that kind is shorter
  pub least : ℕ
  pub header : Format A
  -- the format of the numbers at an offset, behind a header of this value, and how many bytes they have
  pub numbers : A → ℕ → Format B
  pub size : ℕ
  pub mark : Format (Unit {0})

-- the file begins with a header and ends with a footer of these values
pub record HasFraming {A B : Type 0} (framing : Framing A B) (bytes : Bytes) (head : A) (values : B) : Type 0 where
  pub begins : HasAt bytes 0 (encoded framing.header head)
  pub header_fits : Fits framing.header head
  pub at : ℕ
  pub at_end : at + (framing.size + 8) ≡ length bytes
  pub ends : HasAt bytes at (encoded (framing.numbers head at) values ++ encoded framing.mark tt)
  pub numbers_fit : Fits (framing.numbers head at) values

-- ---- the first of its parts, in the order in which they are judged

-- the file ends with the mark
pub record HasMark {A B : Type 0} (framing : Framing A B) (bytes : Bytes) : Type 0 where
  pub at : ℕ
  pub at_end : at + 8 ≡ length bytes
  pub ends : HasAt bytes at (encoded framing.mark tt)

-- and begins with a header
pub record HasMarkAndHeader {A B : Type 0} (framing : Framing A B) (bytes : Bytes) : Type 0 where
  pub mark : HasMark framing bytes
  pub head : A
  pub begins : HasAt bytes 0 (encoded framing.header head)
  pub header_fits : Fits framing.header head

-- ---- bytes that were read

-- the file has this size, and these bytes are its last
pub record EndsWith (size : ℕ) (footer bytes : Bytes) : Type 0 where
  pub size_is : size ≡ length bytes
  pub ends : HasAt bytes (size - length footer) footer

-- and those are its first
pub record BeginsAndEndsWith (size : ℕ) (header footer bytes : Bytes) : Type 0 where
  pub begins : HasAt bytes 0 header
  pub end : EndsWith size footer bytes

-- ---- reads

-- the header and the footer are read by at most three reads, and by no more than the file has pages
abbrev pub OpensWithinPages : View → View → FileName → Type 0
OpensWithinPages old new file = (bytes : Bytes) → contents old file ≡ Some bytes → new.reads ≤ old.reads + min 3 (pages_of 0 (length bytes))
