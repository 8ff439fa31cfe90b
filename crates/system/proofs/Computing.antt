-- For examples that are proved by computing: to unfold this is to unfold what a system is formed with.
use Rattle.double.specs.Double.{greater, magnitude}
use Rattle.double.specs.Sums.{total}
use Rattle.field.proofs.Computing.{vectors}
use Rattle.field.specs.Count.{sum_below, count_below}
use Rattle.network.specs.Lists.{none}
use Rattle.system.specs.System.{effective_in, pull_in, weight_sum, pull_sum, mean_of, sums_from, sees, departs, arrives}
use Rattle.system.specs.System.{add_bearing, add_direction, assemble_row, assemble_rows, greatest, anchor_of}
use Rattle.system.specs.Counts.{bearing_enters, entries, row_count, few}

unfoldable pub assembly : Unit {0}
unfolding vectors greater magnitude total none effective_in pull_in weight_sum pull_sum mean_of sums_from sees departs arrives add_bearing add_direction assemble_row assemble_rows greatest anchor_of
assembly = tt

-- how many rows hold a camera
unfoldable pub counts : Unit {0}
unfolding sum_below count_below bearing_enters entries row_count few
counts = tt
