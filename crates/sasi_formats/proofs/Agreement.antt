-- The reader gives a value exactly where its bytes are next, and fails exactly where they break the format.
use Rattle.std.proofs.Common.{◌≡◌, ◌≢◌, [], ◌∷◌, ◌++◌, refl, sym, ap, ◌∙◌, append-nil, subst, ◌↔◌, inl, inr}
use Rattle.sasi_host.specs.Names.{Bytes}
use Rattle.sasi_fields.specs.Reading.{Reading, ReadsField}
use Rattle.sasi_formats.specs.Formats.{Format, Encodes, encoded, Fits}
use Rattle.sasi_formats.specs.Reader.{Corruption, Long, Outcome, Got, Failed, read, start, closed, ended, read_whole}
use Rattle.sasi_formats.specs.Failures.{IsNext, Fails, IsLong, FailsWhole}
use Rattle.sasi_formats.proofs.Explained.{Explains, explained}
use Rattle.sasi_formats.proofs.Completed.{complete, failed}
use Rattle.sasi_formats.proofs.Encoding.{encoded_only, encodes}

module _ {A : Type 0} (format : Format A) where
  next_if_got : (s t : Reading) (v : A) (r : Outcome A) → r ≡ Got v t → Explains (Encodes format) (Fails format) s r → IsNext (Encodes format v) s t
  next_if_got s t v (Got w u) is e =
      let value : w ≡ v = cc in
      let behind : u ≡ t = cc in
      subst (λ (u : Reading). IsNext (Encodes format v) s u) behind (subst (λ (w : A). IsNext (Encodes format w) s u) value e)
  next_if_got s t v (Failed f) is e = absurd cc

  fails_if_failed : (s : Reading) (f : Corruption) (r : Outcome A) → r ≡ Failed f → Explains (Encodes format) (Fails format) s r → Fails format s f
  fails_if_failed s f (Got w u) is e = absurd cc
  fails_if_failed s f (Failed g) is e = let same : g ≡ f = cc in subst (λ (x : Corruption). Fails format s x) same e

  -- a value is read exactly where its bytes are next
  pub reads_exactly : (s t : Reading) (v : A) → (read format s ≡ Got v t) ↔ IsNext (Encodes format v) s t
  reads_exactly s t v = (λ is. next_if_got s t v (read format s) is (explained format s), λ l. complete format v l.field s t l.is l.passes)

  -- the reader fails with a corruption exactly where the bytes break the format so
  pub fails_exactly : (s : Reading) (f : Corruption) → (read format s ≡ Failed f) ↔ Fails format s f
  fails_exactly s f = (λ is. fails_if_failed s f (read format s) is (explained format s), failed format s f)

  -- never both
  pub apart : (s t : Reading) (v : A) (f : Corruption) → IsNext (Encodes format v) s t → Fails format s f → ⊥
  apart s t v f l h =
      let got = complete format v l.field s t l.is l.passes in
      let none = failed format s f h in
      absurd cc

  alone : (bytes : Bytes) → ReadsField bytes (record { done = []; left = bytes }) (record { done = bytes; left = [] })
  alone bytes = record { next = sym (append-nil bytes); done = refl }

  -- bytes encode at most one value, and a value has one encoding
  pub one_content : (v w : A) (bytes : Bytes) → Encodes format v bytes → Encodes format w bytes → v ≡ w
  one_content v w bytes h k =
      let first = complete format v bytes (record { done = []; left = bytes }) (record { done = bytes; left = [] }) h (alone bytes) in
      let second = complete format w bytes (record { done = []; left = bytes }) (record { done = bytes; left = [] }) k (alone bytes) in
      cc

  pub one_encoding : (v : A) (b c : Bytes) → Encodes format v b → Encodes format v c → b ≡ c
  one_encoding v b c h k = encoded_only format v b h ∙ sym (encoded_only format v c k)

  pub is_encoded : (v : A) (bytes : Bytes) → Fits format v → bytes ≡ encoded format v → Encodes format v bytes
  is_encoded v bytes h is = subst (λ (l : Bytes). Encodes format v l) (sym is) (encodes format v h)

  -- ---- whole bytes

  whole_of : (bytes : Bytes) (v : A) (t : Reading) → t.left ≡ [] → IsNext (Encodes format v) (record { done = []; left = bytes }) t → Encodes format v bytes
  whole_of bytes v t none l = subst (λ (b : Bytes). Encodes format v b) (sym (l.passes.next ∙ ap (λ (b : Bytes). l.field ++ b) none ∙ append-nil l.field)) l.is

  closed_got : (bytes : Bytes) (v w : A) (t u : Reading) (left : Bytes) → u.left ≡ left → IsNext (Encodes format w) (record { done = []; left = bytes }) u → closed w u left ≡ Got v t → Encodes format v bytes
  closed_got bytes v w t u [] none l h = let value : w ≡ v = cc in subst (λ (w : A). Encodes format w bytes) value (whole_of bytes w u none l)
  closed_got bytes v w t u (b ∷ bs) none l h = absurd cc

  closed_failed : (bytes : Bytes) (w : A) (u : Reading) (f : Corruption) (left : Bytes) → u.left ≡ left → IsNext (Encodes format w) (record { done = []; left = bytes }) u → closed w u left ≡ Failed f → IsLong format (record { done = []; left = bytes }) f
  closed_failed bytes w u f [] some l h = absurd cc
  closed_failed bytes w u f (b ∷ bs) some l h = record { value = w; behind = u; is_next = l; more = λ none. absurd cc; is = cc }

  pub reads_whole : (bytes : Bytes) (v : A) (t : Reading) → read_whole format bytes ≡ Got v t → Encodes format v bytes
  reads_whole bytes v t is = by_outcome (read format (record { done = []; left = bytes })) (explained format (record { done = []; left = bytes })) is where
    by_outcome : (r : Outcome A) → Explains (Encodes format) (Fails format) (record { done = []; left = bytes }) r → ended r ≡ Got v t → Encodes format v bytes
    by_outcome (Got w u) e h = closed_got bytes v w t u u.left refl e h
    by_outcome (Failed f) e h = absurd cc

  pub whole_read : (bytes : Bytes) (v : A) → Encodes format v bytes → read_whole format bytes ≡ Got v (record { done = bytes; left = [] })
  whole_read bytes v h = ap (λ (r : Outcome A). ended r) (complete format v bytes (record { done = []; left = bytes }) (record { done = bytes; left = [] }) h (alone bytes))

  pub fails_whole : (bytes : Bytes) (f : Corruption) → read_whole format bytes ≡ Failed f → FailsWhole format bytes f
  fails_whole bytes f is = by_outcome (read format (record { done = []; left = bytes })) (explained format (record { done = []; left = bytes })) is where
    by_outcome : (r : Outcome A) → Explains (Encodes format) (Fails format) (record { done = []; left = bytes }) r → ended r ≡ Failed f → FailsWhole format bytes f
    by_outcome (Got w u) e h = inr (closed_failed bytes w u f u.left refl e h)
    by_outcome (Failed g) e h = let same : g ≡ f = cc in inl (subst (λ (x : Corruption). Fails format (record { done = []; left = bytes }) x) same e)

  -- bytes of a value break nothing
  pub whole_apart : (bytes : Bytes) (v : A) (f : Corruption) → Encodes format v bytes → read_whole format bytes ≡ Failed f → ⊥
  whole_apart bytes v f h is = let got = whole_read bytes v h in absurd cc

  closed_long : (v : A) (t : Reading) (left : Bytes) → left ≢ [] → closed v t left ≡ Failed Long
  closed_long v t [] more = absurd (more refl)
  closed_long v t (b ∷ bs) more = refl

  pub whole_failed : (bytes : Bytes) (f : Corruption) → FailsWhole format bytes f → read_whole format bytes ≡ Failed f
  whole_failed bytes f (inl h) = ap (λ (r : Outcome A). ended r) (failed format (start bytes) f h)
  whole_failed bytes f (inr h) =
      ap (λ (r : Outcome A). ended r) (complete format h.value h.is_next.field (start bytes) h.behind h.is_next.is h.is_next.passes)
      ∙ closed_long h.value h.behind h.behind.left h.more ∙ ap (λ (x : Corruption). Failed x) (sym h.is)

  pub never_both : (bytes : Bytes) (v : A) (f : Corruption) → Encodes format v bytes → FailsWhole format bytes f → ⊥
  never_both bytes v f h k = whole_apart bytes v f h (whole_failed bytes f k)

  -- ---- bytes that others follow

  -- two values whose bytes begin the same bytes are one
  pub same_front : (v w : A) (p q a b : Bytes) → Encodes format v p → Encodes format w q → p ++ a ≡ q ++ b → (v ≡ w) × (a ≡ b)
  same_front v w p q a b h k same =
      let t : Reading = record { done = p; left = a } in
      let u : Reading = record { done = q; left = b } in
      let first = complete format v p (start (p ++ a)) t h (record { next = refl; done = refl }) in
      let second = complete format w q (start (p ++ a)) u k (record { next = same; done = refl }) in
      let both : Got v t ≡ Got w u = sym first ∙ second in
      let values : v ≡ w = cc in
      let readings : t ≡ u = cc in
      (values, ap (λ (r : Reading). r.left) readings)
