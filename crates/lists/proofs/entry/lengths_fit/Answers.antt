use Rattle.std.proofs.Common.{◌≡◌, ◌+◌, eqb, refl, rules}
use Rattle.std.proofs.Math.Bool.{and_assoc}
use Rattle.lists.specs.PointLists.{lengths_fit}
use Rattle.lists.proofs.Entries.{half-test}
use Rattle.lists.proofs.entry.lengths_fit.Goals as goal

pub returns : goal.returns
unfolding lengths_fit
returns c =
    let next : c.eq.result ≡ eqb c.args.offsets (c.args.m + 1) = search rules in
    rw (and_assoc, half-test c.args.b c.args.ends, next) refl
