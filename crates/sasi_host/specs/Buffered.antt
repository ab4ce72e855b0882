-- A buffered file.
use Rattle.std.specs.Prelude.{◌≡◌, ℕ, suc, ◌+◌, ◌-◌, ◌*◌, ◌/◌, ◌%◌, nat_eq, if◌then◌else◌, take, drop, Option, Some, None}
use Rattle.sasi_host.specs.declared.name.FileName.{FileName}
use Rattle.sasi_host.specs.Names.{Bytes, Folder}
use Rattle.sasi_host.specs.View.{contents_in}

-- a buffered file
pub record Buffered : Type 0 where
  -- the file
  pub file : FileName
  -- the buffered page, if there is one
  pub page : Option ℕ
  -- its bytes
  pub bytes : Bytes

-- the buffer has the bytes of its page
abbrev pub IsBuffered : Buffered → Option Folder → Type 0
IsBuffered buffered files =
    (page : ℕ) (bytes : Bytes) → buffered.page ≡ Some page → contents_in files buffered.file ≡ Some bytes → buffered.bytes ≡ take 4096 (drop (4096 * page) bytes)

-- the number of pages on which so many bytes from an offset on lie
abbrev pub pages_of : ℕ → ℕ → ℕ
pages_of at count = (at % 4096 + count + 4095) / 4096

-- 1 where the page of this offset is buffered, else 0
abbrev pub buffered_at : Option ℕ → ℕ → ℕ
buffered_at None at = 0
buffered_at (Some page) at = if nat_eq page (at / 4096) then 1 else 0

-- the number of pages of so many bytes from an offset on that aren't buffered
abbrev pub unbuffered_pages : Option ℕ → ℕ → ℕ → ℕ
unbuffered_pages buffered at count = pages_of at count - buffered_at buffered at

-- the pages up to the buffered one
abbrev pub reached : Option ℕ → ℕ
reached None = 0
reached (Some page) = suc page
