-- The names of files as texts.
use Rattle.std.specs.Prelude.{◌≡◌, ℕ, ◌<◌, ◌^◌, List, ◌++◌, codes}
use Rattle.std.specs.Fmt.{decimal}
use Rattle.sasi_host.specs.declared.name.Kind.{Kind}
use Rattle.sasi_host.specs.declared.name.Kind.TheVariants.{Manifest, Seal, Log, Data, Index, Segment}
use Rattle.sasi_host.specs.declared.name.FileName.{FileName}

-- the word of a kind
abbrev pub word_of : Kind → List ℕ
word_of Manifest = codes "manifest"
word_of Seal = codes "seal"
word_of Log = codes "log"
word_of Data = codes "data"
word_of Index = codes "index"
word_of Segment = codes "segment"

-- a number behind a dash
abbrev pub dashed : ℕ → List ℕ
dashed number = codes "-" ++ decimal number

-- the numbers of a name: an index and a segment have three, and the others one
abbrev pub numbers_of : Kind → FileName → List ℕ
numbers_of Index name = dashed name.number ++ dashed name.index ++ dashed name.part
numbers_of Segment name = dashed name.number ++ dashed name.index ++ dashed name.part
numbers_of _ name = dashed name.number

-- its numbers are from 1 on, and those that its kind hasn't are 0
abbrev pub HasNumbers : Kind → FileName → Type 0
HasNumbers Index name = (0 < name.number) × (0 < name.index) × (0 < name.part)
HasNumbers Segment name = (0 < name.number) × (0 < name.index) × (0 < name.part)
HasNumbers _ name = (0 < name.number) × (name.index ≡ 0) × (name.part ≡ 0)

-- its numbers fit in 32 bits
abbrev pub Fits : FileName → Type 0
Fits name = (name.number < 2 ^ 32) × (name.index < 2 ^ 32) × (name.part < 2 ^ 32)

-- the word and the numbers
abbrev pub name_text : FileName → List ℕ
name_text name = word_of name.kind ++ numbers_of name.kind name
