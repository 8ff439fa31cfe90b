use Rattle.std.proofs.Common.{sym, arith, rules}
use Rattle.std.proofs.lemmas.List.{length-take}
use Rattle.stream.proofs.Lemmas.{stored-into, stored-kept, stored-bytes}
use Rattle.stream.proofs.read_once.Goals as goal

pub returns-clause-into : goal.returns-clause-into
returns-clause-into g c = rw (sym c.store.ensures.told) at (stored-into _ _ _ _ c.store.ensures.stored)

pub returns-clause-kept : goal.returns-clause-kept
returns-clause-kept g c = rw (sym c.store.ensures.told) at (stored-kept _ _ _ _ c.store.ensures.stored)

pub returns-clause-bytes : goal.returns-clause-bytes
returns-clause-bytes g c =
    rw (sym c.store.ensures.told) at (stored-bytes _ _ _ _ _ _ _ c.read-answer.ensures.bound (search (rules, arith, length-take)) c.store.ensures.stored c.read-answer.ensures.bytes)
