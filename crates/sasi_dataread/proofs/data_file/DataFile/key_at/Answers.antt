use Rattle.sasi_dataread.proofs.data_file.DataFile.key_at.Goals as goal

pub returns-clause-ok : goal.returns-clause-ok
returns-clause-ok g c partitioner content k p is at = (c.in_ok-key.ensures.ok partitioner content k p is at).0

pub returns-clause-in_table : goal.returns-clause-in_table
returns-clause-in_table g c = (c.in_ok-key._part, c.in_ok-key.ensures.stands)
