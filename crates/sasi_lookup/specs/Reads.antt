-- How much is read for a token, and for one of its keys, where the files are data files.
use Rattle.std.specs.Prelude.{ℕ, ◌+◌, ◌*◌, List, [], ◌∷◌, length, if◌then◌else◌, Option, None, Some}
use Rattle.sasi_types.specs.declared.partitioner.Partitioner.{Partitioner}
use Rattle.sasi_types.specs.Key.{key_eq}
use Rattle.sasi_host.specs.Names.{Bytes}
use Rattle.sasi_body.specs.Body.{body}
use Rattle.sasi_tokentree.specs.Heights.{height}
use Rattle.sasi_datawrite.specs.Format.{Content, header, partition_bytes}
use Rattle.sasi_dataread.specs.Bodies.{partition_pages}
use Rattle.sasi_dataread.specs.Finds.{token_reads}
use Rattle.sasi_dataread.specs.Opened.{OpenDataFile}
use Rattle.sasi_lookup.specs.Files.{LookedFile}

-- a file that isn't open yet is opened
abbrev pub opening_reads : Option OpenDataFile → ℕ
opening_reads None = 3
opening_reads (Some opened) = 0

-- Then two pages are read for each level of the key tree and two more, and of each partition with the token its pages and one for the pair behind it.
abbrev pub keys_reads : Partitioner → ℕ → Content → ℕ
keys_reads partitioner token content = 2 * height (length content) (length content) + 2 + token_reads partitioner token (length header) content

-- **What is read for a token**, over the data files of these contents
abbrev pub turn_reads : Partitioner → ℕ → List LookedFile → List Content → ℕ
turn_reads partitioner token [] contents = 0
turn_reads partitioner token (file ∷ files) [] = 0
turn_reads partitioner token (file ∷ files) (content ∷ contents) = opening_reads file.opened + keys_reads partitioner token content + turn_reads partitioner token files contents

-- the pages of the partition of a key, and 0 where there is none, where the first partition is at this offset
abbrev pub key_pages : Bytes → ℕ → Content → ℕ
key_pages key at [] = 0
key_pages key at (one ∷ others) = if key_eq key one.0 then partition_pages at (length (body one.0 one.1)) else key_pages key (at + length (partition_bytes one.0 one.1)) others

-- **What is read for a key**, over the data files of these contents
abbrev pub found_pages : Bytes → List Content → ℕ
found_pages key [] = 0
found_pages key (content ∷ contents) = key_pages key (length header) content + found_pages key contents
