use Rattle.std.proofs.Math.Bool.{not-not, and_assoc}
use Rattle.std.proofs.Common.{ap, not, ◌≡◌, ◌∙◌, rules}
use Rattle.std.specs.Option.{is_none}
use Rattle.network.specs.Lists.{none, offsets_rise}
use Rattle.network.proofs.lists.offsets_rise.Goals as goal

pub returns : goal.returns
unfolding offsets_rise none
returns c =
    let e : is_none c.find_fall.result ≡ c.is_none-rise.result = ap not c.is_none-rise.ensures ∙ not-not c.is_none-rise.result in
    record { value = rw (and_assoc, ← c.find_fall.ensures, e) cc; lengths = search rules }
