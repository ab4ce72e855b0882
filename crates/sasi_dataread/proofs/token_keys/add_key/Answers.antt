use Rattle.sasi_dataread.proofs.token_keys.add_key.Goals as goal

pub returns-clause-ok : goal.returns-clause-ok
returns-clause-ok g c = record {
  key = c.in_ok-key.key;
  added = c.in_ok-push.ensures;
  right = λ partitioner content k p is at. (c.in_ok-key.ensures.ok partitioner content k p is at).0;
  part = c.in_ok-key._part;
  stored = c.in_ok-key.ensures.stands;
}
