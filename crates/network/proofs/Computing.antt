-- For examples that are proved by computing: to unfold this is to unfold what refusals 1 to 8 are computed with.
use Rattle.field.specs.Count.{count_below, sum_below}
use Rattle.field.proofs.Computing.{vectors}
use Rattle.network.specs.Lists.{none, falls, offsets_rise, misplaced, has_misplaced, named, miscounted, lists_hold}
use Rattle.network.specs.Refusals.{test, test_at, verdict, running, bad_cameras, bad_counts, count_tests}
use Rattle.network.specs.Refusals.{ends_fit, rays_fit, vectors_fit, lists_fit, content_fits, network_fits, length_tests, strays, loops, end_tests, list_tests}
use Rattle.network.specs.Refusals.{bad_weight, bad_scale, bad_vector, bad_row, weight_tests, domain_tests, bad_route, route_tests, dense_rows}
use Rattle.network.specs.Refusals.{early_tests, graph_row_tests, link_tests, network_row_tests}

unfoldable pub refusals : Unit {0}
unfolding vectors verdict test test_at running count_tests bad_cameras bad_counts
    length_tests network_fits content_fits ends_fit rays_fit vectors_fit lists_fit end_tests strays loops
    list_tests lists_hold none falls offsets_rise misplaced has_misplaced named count_below sum_below miscounted weight_tests domain_tests bad_weight bad_scale bad_vector bad_row
    route_tests bad_route dense_rows early_tests graph_row_tests link_tests network_row_tests
refusals = tt
