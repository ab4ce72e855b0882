-- Laws of calls that read a file by pages, one after another.
use Rattle.std.specs.Prelude.{◌≡◌, Option, refl}
use Rattle.std.proofs.Common.{◌∙◌, inl, inr, ⊎_elim}
use Rattle.sasi_host.specs.declared.name.FileName.{FileName}
use Rattle.sasi_host.specs.Names.{Folder}
use Rattle.sasi_host.specs.View.{View}
use Rattle.sasi_host.specs.Disk.{Changes, Same}
use Rattle.sasi_host.specs.Buffered.{Buffered, IsBuffered}
use Rattle.sasi_host.proofs.ChangeLaws.{stays, then_same}
use Rattle.sasi_host.specs.PageReading.{HasRead, HasReadOn}

-- a call that reads nothing
pub reads_nothing : (K : Option Folder → Type 0) (A : FileName → Type 0) (v : View) (h : Buffered) → K v.files → IsBuffered h v.files → HasReadOn K A A v v h h
reads_nothing K A v h agrees buffered = record { agrees = agrees; covers = λ name at. inl at; changes = stays v; buffered = buffered; file = refl }

-- one call after another
pub read_then : (K L : Option Folder → Type 0) (A B C : FileName → Type 0) (u v w : View) (file : FileName) → HasRead K A B u v file → HasRead L B C v w file → HasRead L A C u w file
read_then K L A B C u v w file first second = record {
  agrees = second.agrees;
  covers = λ name at. ⊎_elim (λ before. first.covers name before) (λ this. inr this) (second.covers name at);
  changes = then_same u v w Same first.changes second.changes;
}

pub reads_then : (K L : Option Folder → Type 0) (A B C : FileName → Type 0) (u v w : View) (h i j : Buffered) → HasReadOn K A B u v h i → HasReadOn L B C v w i j → HasReadOn L A C u w h j
reads_then K L A B C u v w h i j first second = record {
  agrees = second.agrees;
  covers = λ name at. ⊎_elim (λ before. first.covers name before) (λ this. inr (this ∙ first.file)) (second.covers name at);
  changes = then_same u v w Same first.changes second.changes;
  buffered = second.buffered;
  file = second.file ∙ first.file;
}

-- the file of a buffered one, and one whose name is known
pub read_of : (K : Option Folder → Type 0) (A B : FileName → Type 0) (u v : View) (h i : Buffered) (file : FileName) → h.file ≡ file → HasReadOn K A B u v h i → HasRead K A B u v file
read_of K A B u v h i file is read = record {
  agrees = read.agrees;
  covers = λ name at. ⊎_elim (λ before. inl before) (λ this. inr (this ∙ is)) (read.covers name at);
  changes = read.changes;
}

-- behind a call that reads nothing by pages
pub read_behind : (K : Option Folder → Type 0) (A B : FileName → Type 0) (t u v : View) (file : FileName) → Changes Same t u → HasRead K A B u v file → HasRead K A B t v file
read_behind K A B t u v file before read = record { agrees = read.agrees; covers = read.covers; changes = then_same t u v Same before read.changes }
