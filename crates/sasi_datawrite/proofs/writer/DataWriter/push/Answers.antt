use Rattle.std.proofs.Common.{◌≡◌, ℕ, ◌<◌, ◌≤◌, List, [], ◌∷◌, ◌++◌, true, refl, sym, ◌∙◌, ap, subst, arith}
use Rattle.std.specs.Prelude.{max}
use Rattle.sasi_types.specs.Token.{token_of}
use Rattle.sasi_types.specs.declared.tree.Pair.{Pair}
use Rattle.sasi_host.specs.Names.{Bytes}
use Rattle.sasi_datawrite.proofs.Laws.{partition_length}
use Rattle.sasi_datawrite.specs.Writing.{Writer, IsWriting, RiseBelow, last_pair}
use Rattle.sasi_datawrite.proofs.Pushes.{up_to_push, writing_push}
use Rattle.sasi_datawrite.proofs.writer.DataWriter.push.Goals as goal

pub invariant_of-self-2 : goal.invariant_of-self-2
invariant_of-self-2 g c =
    let token_is : c.token.result ≡ token_of c.self.inside.partitioner c.args.key.now = c.token.ensures ∙ ap (λ (l : Bytes). token_of c.self.inside.partitioner l) c.bytes.ensures in
    let rising = subst (λ (w : Writer). (last_pair w.pairs).token ≤ token_of w.partitioner c.args.key.now) (sym c.self.view_is) c.requires.rising in
    subst (λ (l : List Pair). RiseBelow l c.in_ok-next.next) (sym c.in_ok-push.ensures.ok)
    (up_to_push c.self.inside.pairs (record { token = c.token.result; place = c.self.inside.offset }) c.self.inside.offset c.in_ok-next.next c.self.invariant (omega (arith, rising, token_is)) refl
    (omega (arith, c.in_ok-next.ensures.next, partition_length c.args.key.now c.args.part.now)) c.in_ok-next.ensures.fits)

pub returns-clause-ok : goal.returns-clause-ok
returns-clause-ok g c content =
    let token_is : c.token.result ≡ token_of c.self.inside.partitioner c.args.key.now = c.token.ensures ∙ ap (λ (l : Bytes). token_of c.self.inside.partitioner l) c.bytes.ensures in
    let old : Writer = record {
      file = c.self.inside.file;
      partitioner = c.self.inside.partitioner;
      pairs = c.self.inside.pairs;
      offset = c.self.inside.offset;
      max_timestamp = c.self.inside.max_timestamp;
      usable = c.self.inside.usable;
    } in
    let new : Writer = record {
      file = c.self.inside.file;
      partitioner = c.self.inside.partitioner;
      pairs = c.push.new.self;
      offset = c.in_ok-next.next;
      max_timestamp = c.max-self-inside.result;
      usable = true;
    } in
    let pair_of : ℕ → Pair = λ token. record { token = token; place = c.self.inside.offset } in
    subst (λ (w : Writer). IsWriting (g.H.Host.view c.args.host.now) w content → IsWriting (g.H.Host.view c.push_partition.new.host) new
    (content ++ (c.args.key.now, c.args.part.now) ∷ [])) c.self.view_is
    (writing_push (g.H.Host.view c.args.host.now) (g.H.Host.view c.push_partition.new.host) old new c.args.key.now c.args.part.now refl refl
    (c.in_ok-push.ensures.ok ∙ ap (λ (t : ℕ). c.self.inside.pairs ++ pair_of t ∷ []) token_is) c.in_ok-next.ensures.next
    (c.max-self-inside.ensures ∙ ap (λ (t : ℕ). max c.self.inside.max_timestamp t) c.max_timestamp.ensures) c.in_ok-next.ensures.ok content)

pub returns-clause-later : goal.returns-clause-later
returns-clause-later g c =
    subst (λ (w : Writer). w.offset < c.in_ok-next.next) c.self.view_is (omega (arith, c.in_ok-next.ensures.next, partition_length c.args.key.now c.args.part.now))
