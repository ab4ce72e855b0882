-- What is picked is an image.
use Rattle.std.proofs.Common.{◌≡◌, ◌≢◌, inl, inr, ℕ, Bool, true, false, if◌then◌else◌, ◌||◌, List, [], ◌∷◌, length, replicate, sym, ◌∙◌, ap, subst, Option, Some, None, is_some, refl}
use Rattle.std.specs.FinMap.{get, insert, remove}
use Rattle.std.proofs.lemmas.List.{length-replicate}
use Rattle.std.specs.Ordering.{eq_by_cmp}
use Rattle.sasi_host.specs.declared.name.FileName.{FileName}
use Rattle.sasi_host.specs.declared.call.Call.{Call}
use Rattle.sasi_host.specs.declared.call.Call.TheVariants.{Created, Wrote, Synced, Deleted, FolderSynced, Emitted, Put}
use Rattle.sasi_host.specs.declared.pick.Pick.{Pick}
use Rattle.sasi_host.specs.declared.pick.BytePick.{BytePick}
use Rattle.sasi_host.specs.declared.pick.BytePick.TheVariants as bytes
use Rattle.sasi_host.specs.Names.{Bytes, Folder, name_cmp}
use Rattle.sasi_host.specs.NameLaws.{insert_here, insert_apart, remove_here, remove_apart, test_here}
use Rattle.sasi_host.proofs.NameCases.{name_cases}
use Rattle.sasi_host.specs.Disk.{IsCrashOf, FileChange, InPlace, Torn, MaybeCreated, MaybeDeleted}
use Rattle.sasi_host.specs.Counts.{Counts}
use Rattle.sasi_host.specs.Calls.{opened, view_after, Medium, apply, Effect, step, replay}
use Rattle.sasi_host.specs.Files.{overwritten, written}
use Rattle.sasi_host.specs.CallLaws.{writes_well, stays_on, some_same}
use Rattle.sasi_host.specs.Picks.{is_now, synced_later, folder_later, pending, pick_step, picked}

-- what is picked agrees with what reads give wherever a later sync will ask it
pub record Agrees (now left : Folder) (rest : List Call) : Type 0 where
  pub contents : (file : FileName) (a b : Bytes) → synced_later file rest ≡ true → get now file ≡ Some b → get left file ≡ Some a → a ≡ b
  pub listed : (file : FileName) → folder_later rest ≡ true → is_some (get left file) ≡ is_some (get now file)

step_none : (file : FileName) (R : Option Bytes → Option Bytes → Type 0) (f : Folder) → R (get f file) (get f file) → FileChange file R f f
step_none file R f same = record { others = λ name apart. refl; this = same }

torn_length : (file : FileName) (at m n : ℕ) (f g : Folder) → m ≡ n → FileChange file (InPlace (Torn at m)) f g → FileChange file (InPlace (Torn at n)) f g
torn_length file at m n f g is s = subst (λ (k : ℕ). FileChange file (InPlace (Torn at k)) f g) is s

-- each pick of a pending write is what a crash may make of it
pending_well : (pick : BytePick) (file : FileName) (at : ℕ) (b : Bytes) (left : Folder)
    → FileChange file (InPlace (Torn at (length b))) left (pending pick file at b left)
pending_well bytes.AsNow file at b left = writes_well file at b left (get left file) refl
pending_well bytes.AsSynced file at b left = step_none file (InPlace (Torn at (length b))) left (stays_on at (length b) (get left file))
pending_well bytes.Zeros file at b left =
    torn_length file at _ _ left _ (length-replicate (length b) 0) (writes_well file at (replicate (length b) 0) left (get left file) refl)
pending_well bytes.Ones file at b left =
    torn_length file at _ _ left _ (length-replicate (length b) 255) (writes_well file at (replicate (length b) 255) left (get left file) refl)

chosen : (t : Bool) (S : Folder → Folder → Type 0) (d x y : Folder) → S d x → S d y → S d (if t then x else y)
chosen true S d x y sx sy = sx
chosen false S d x y sx sy = sy

itself_first : (file : FileName) (rest : List Call) → synced_later file (Synced file ∷ rest) ≡ true
itself_first file rest = ap (λ (t : Bool). t || synced_later file rest) (test_here file)

effect : (pick : Pick) (call : Call) (rest : List Call) (now left : Folder) → Agrees now left (call ∷ rest)
    → Effect call now left (pick_step pick call rest left)
effect pick (Created file) rest now left agrees =
    chosen (folder_later rest || is_now pick.names || is_some (get left file)) (FileChange file MaybeCreated) left (insert left file []) left
    (record { others = λ name apart. insert_apart left file name [] apart; this = inr (insert_here left file []) })
    (step_none file MaybeCreated left (inl refl))
effect pick (Wrote file at b) rest now left agrees =
    chosen (synced_later file rest) (FileChange file (InPlace (Torn at (length b)))) left (written (get left file) file at b left)
    (pending pick.bytes file at b left)
    (writes_well file at b left (get left file) refl)
    (pending_well pick.bytes file at b left)
effect pick (Synced file) rest now left agrees = (refl, λ a b is has. agrees.contents file a b (itself_first file rest) is has)
effect pick (Deleted file) rest now left agrees =
    chosen (folder_later rest || is_now pick.names) (FileChange file MaybeDeleted) left (remove left file) left
    (record { others = λ name apart. remove_apart left file name apart; this = inr (remove_here left file) })
    (step_none file MaybeDeleted left (inl refl))
effect pick FolderSynced rest now left agrees = (refl, λ name. agrees.listed name refl)
effect pick (Emitted b) rest now left agrees = refl
effect pick (Put file b) rest now left agrees = refl

apart_bools : false ≡ true → ⊥
apart_bools e = cc

none_some : (b : Bytes) → None ≡ Some b → ⊥
none_some b e = cc

or_later : (t u : Bool) → u ≡ true → t || u ≡ true
or_later true u e = refl
or_later false u e = e

written_apart : (o : Option Bytes) (file name : FileName) (at : ℕ) (b : Bytes) (f : Folder) → name ≢ file
    → get (written o file at b f) name ≡ get f name
written_apart None file name at b f apart = refl
written_apart (Some old) file name at b f apart = insert_apart f file name (overwritten old at b) apart

written_listed : (o : Option Bytes) (file name : FileName) (at : ℕ) (b : Bytes) (f : Folder) → get f file ≡ o
    → is_some (get (written o file at b f) name) ≡ is_some (get f name)
written_listed None file name at b f is = refl
written_listed (Some old) file name at b f is = elim (name_cases name file) [
  | inl same ↦ ap (λ (n : FileName). is_some (get (insert f file (overwritten old at b)) n)) same
      ∙ ap is_some (insert_here f file (overwritten old at b)) ∙ sym (ap (λ (n : FileName). is_some (get f n)) same ∙ ap is_some is)
  | inr apart ↦ ap is_some (insert_apart f file name (overwritten old at b) apart)
]

pending_apart : (pick : BytePick) (file name : FileName) (at : ℕ) (b : Bytes) (f : Folder) → name ≢ file
    → get (pending pick file at b f) name ≡ get f name
pending_apart bytes.AsNow file name at b f apart = written_apart (get f file) file name at b f apart
pending_apart bytes.AsSynced file name at b f apart = refl
pending_apart bytes.Zeros file name at b f apart = written_apart (get f file) file name at (replicate (length b) 0) f apart
pending_apart bytes.Ones file name at b f apart = written_apart (get f file) file name at (replicate (length b) 255) f apart

pending_listed : (pick : BytePick) (file name : FileName) (at : ℕ) (b : Bytes) (f : Folder)
    → is_some (get (pending pick file at b f) name) ≡ is_some (get f name)
pending_listed bytes.AsNow file name at b f = written_listed (get f file) file name at b f refl
pending_listed bytes.AsSynced file name at b f = refl
pending_listed bytes.Zeros file name at b f = written_listed (get f file) file name at (replicate (length b) 0) f refl
pending_listed bytes.Ones file name at b f = written_listed (get f file) file name at (replicate (length b) 255) f refl

-- what two folders have of a file alike is written alike
written_alike : (o p : Option Bytes) (file : FileName) (at : ℕ) (bs : Bytes) (now left : Folder) → get now file ≡ o → get left file ≡ p
    → ((a b : Bytes) → o ≡ Some b → p ≡ Some a → a ≡ b)
    → (a b : Bytes) → get (written o file at bs now) file ≡ Some b → get (written p file at bs left) file ≡ Some a → a ≡ b
written_alike None p file at bs now left io ip same a b is has = absurd (none_some _ (sym io ∙ is))
written_alike (Some x) None file at bs now left io ip same a b is has = absurd (none_some _ (sym ip ∙ has))
written_alike (Some x) (Some y) file at bs now left io ip same a b is has =
    let e : overwritten y at bs ≡ overwritten x at bs = ap (λ (w : Bytes). overwritten w at bs) (same y x refl refl) in
    some_same _ _ (sym has ∙ insert_here left file (overwritten y at bs) ∙ ap (λ (w : Bytes). Some w) e ∙ sym (insert_here now file (overwritten x at bs)) ∙ is)

agrees_created : (file : FileName) (rest : List Call) (now left : Folder)
    → ((q : FileName) (a b : Bytes) → synced_later q rest ≡ true → get now q ≡ Some b → get left q ≡ Some a → a ≡ b)
    → ((q : FileName) → folder_later rest ≡ true → is_some (get left q) ≡ is_some (get now q))
    → (bs : Bytes) → Agrees (insert now file bs) (insert left file bs) rest
agrees_created file rest now left contents listed bs = record {
  contents = λ q a b later is has. elim (name_cases q file) [
    | inl same ↦ some_same _ _ (sym has ∙ ap (λ (n : FileName). get (insert left file bs) n) same ∙ insert_here left file bs
        ∙ sym (ap (λ (n : FileName). get (insert now file bs) n) same ∙ insert_here now file bs) ∙ is)
    | inr apart ↦ contents q a b later (sym (insert_apart now file q bs apart) ∙ is) (sym (insert_apart left file q bs apart) ∙ has)
  ];
  listed = λ q later. elim (name_cases q file) [
    | inl same ↦ ap (λ (n : FileName). is_some (get (insert left file bs) n)) same ∙ ap is_some (insert_here left file bs)
        ∙ sym (ap (λ (n : FileName). is_some (get (insert now file bs) n)) same ∙ ap is_some (insert_here now file bs))
    | inr apart ↦ ap is_some (insert_apart left file q bs apart) ∙ listed q later ∙ sym (ap is_some (insert_apart now file q bs apart))
  ];
}

agrees_on : (pick : Pick) (call : Call) (rest : List Call) (now left : Folder) → Agrees now left (call ∷ rest)
    → Agrees (apply call now) (pick_step pick call rest left) rest
agrees_on pick (Created file) rest now left agrees = from (folder_later rest) refl (is_now pick.names) (is_some (get left file)) refl
  where
    from : (t : Bool) → folder_later rest ≡ t → (u v : Bool) → is_some (get left file) ≡ v
        → Agrees (insert now file []) (if t || u || v then insert left file [] else left) rest
    from true e u v w = agrees_created file rest now left agrees.contents agrees.listed []
    from false e true v w = agrees_created file rest now left agrees.contents agrees.listed []
    from false e false true w = agrees_created file rest now left agrees.contents agrees.listed []
    from false e false false w = record {
      contents = λ q a b later is has. elim (name_cases q file) [
        | inl same ↦ absurd (apart_bools (sym w ∙ ap (λ (n : FileName). is_some (get left n)) (sym same) ∙ ap is_some has))
        | inr apart ↦ agrees.contents q a b later (sym (insert_apart now file q [] apart) ∙ is) has
      ];
      listed = λ q later. absurd (apart_bools (sym e ∙ later));
    }
agrees_on pick (Wrote file at bs) rest now left agrees = from (synced_later file rest) refl
  where
    from : (t : Bool) → synced_later file rest ≡ t
        → Agrees (written (get now file) file at bs now) (if t then written (get left file) file at bs left else pending pick.bytes file at bs left) rest
    from true e = record {
      contents = λ q a b later is has. elim (name_cases q file) [
        | inl same ↦ written_alike (get now file) (get left file) file at bs now left refl refl (λ a b x y. agrees.contents file a b e x y) a b
            (ap (λ (n : FileName). get (written (get now file) file at bs now) n) (sym same) ∙ is)
            (ap (λ (n : FileName). get (written (get left file) file at bs left) n) (sym same) ∙ has)
        | inr apart ↦ agrees.contents q a b later (sym (written_apart (get now file) file q at bs now apart) ∙ is) (sym (written_apart (get left file) file q at bs left apart) ∙ has)
      ];
      listed = λ q later. written_listed (get left file) file q at bs left refl ∙ agrees.listed q later ∙ sym (written_listed (get now file) file q at bs now refl);
    }
    from false e = record {
      contents = λ q a b later is has. elim (name_cases q file) [
        | inl same ↦ absurd (apart_bools (sym e ∙ ap (λ (n : FileName). synced_later n rest) (sym same) ∙ later))
        | inr apart ↦ agrees.contents q a b later (sym (written_apart (get now file) file q at bs now apart) ∙ is) (sym (pending_apart pick.bytes file q at bs left apart) ∙ has)
      ];
      listed = λ q later. pending_listed pick.bytes file q at bs left ∙ agrees.listed q later ∙ sym (written_listed (get now file) file q at bs now refl);
    }
agrees_on pick (Synced file) rest now left agrees = record {
  contents = λ q a b later is has. agrees.contents q a b (or_later (eq_by_cmp name_cmp q file) (synced_later q rest) later) is has;
  listed = agrees.listed;
}
agrees_on pick (Deleted file) rest now left agrees = from (folder_later rest) refl (is_now pick.names)
  where
    gone : Agrees (remove now file) (remove left file) rest
    gone = record {
      contents = λ q a b later is has. elim (name_cases q file) [
        | inl same ↦ absurd (none_some _ (sym (remove_here now file) ∙ ap (λ (n : FileName). get (remove now file) n) (sym same) ∙ is))
        | inr apart ↦ agrees.contents q a b later (sym (remove_apart now file q apart) ∙ is) (sym (remove_apart left file q apart) ∙ has)
      ];
      listed = λ q later. elim (name_cases q file) [
        | inl same ↦ ap (λ (n : FileName). is_some (get (remove left file) n)) same ∙ ap is_some (remove_here left file)
            ∙ sym (ap (λ (n : FileName). is_some (get (remove now file) n)) same ∙ ap is_some (remove_here now file))
        | inr apart ↦ ap is_some (remove_apart left file q apart) ∙ agrees.listed q later ∙ sym (ap is_some (remove_apart now file q apart))
      ];
    }

    from : (t : Bool) → folder_later rest ≡ t → (u : Bool) → Agrees (remove now file) (if t || u then remove left file else left) rest
    from true e u = gone
    from false e true = gone
    from false e false = record {
      contents = λ q a b later is has. elim (name_cases q file) [
        | inl same ↦ absurd (none_some _ (sym (remove_here now file) ∙ ap (λ (n : FileName). get (remove now file) n) (sym same) ∙ is))
        | inr apart ↦ agrees.contents q a b later (sym (remove_apart now file q apart) ∙ is) has
      ];
      listed = λ q later. absurd (apart_bools (sym e ∙ later));
    }
agrees_on pick FolderSynced rest now left agrees = record { contents = agrees.contents; listed = λ q later. agrees.listed q refl }
agrees_on pick (Emitted b) rest now left agrees = record { contents = agrees.contents; listed = agrees.listed }
agrees_on pick (Put file b) rest now left agrees = agrees_created file rest now left agrees.contents agrees.listed b

-- The folder that is picked is one that a crash may leave.
pub picked_image : (pick : Pick) (m : Medium) (calls : List Call) (left : Folder) → m.image left → Agrees m.folder left calls
    → (replay m calls).image (picked pick calls left)
picked_image pick m [] left here agrees = here
picked_image pick m (call ∷ rest) left here agrees =
    picked_image pick (step m call) rest (pick_step pick call rest left) (left, here, effect pick call rest m.folder left agrees) (agrees_on pick call rest m.folder left agrees)

pub agrees_itself : (f : Folder) (calls : List Call) → Agrees f f calls
agrees_itself f calls = record { contents = λ q a b later is has. some_same _ _ (sym has ∙ is); listed = λ q later. refl }

-- a host that begins with what a pick leaves
pub crash_of : (pick : Pick) (start kept : Folder) (calls none : List Call) (m n : Counts) → kept ≡ picked pick calls start → none ≡ []
    → IsCrashOf (view_after start calls m) (view_after kept none n)
crash_of pick start kept calls none m n is empty = subst (λ (cs : List Call). IsCrashOf (view_after start calls m) (view_after kept cs n)) (sym empty) (record {
  folder = kept;
  reads = refl;
  was = subst (replay (opened start) calls).image (sym is) (picked_image pick (opened start) calls start refl (agrees_itself start calls));
  only = λ c now. now;
  none_out = refl;
})
