use mathlib.Core.Path.{refl}
use borrow.Author.Tests.{eqb-true}
use Rattle.network.proofs.Sound.{counted, measured, network-fits}
use Rattle.limits.proofs.stages.check_step.Goals as goal

pub network_fits-requires : goal.network_fits-requires
network_fits-requires c = let k = rw c.shape-s.ensures at c.check_counts.ensures in counted k c.in_ok-check_counts.was

pub check_network_rows-requires : goal.check_network_rows-requires
check_network_rows-requires c =
    let k = rw c.shape-s.ensures at c.check_counts.ensures in
    let q = rw c.shape-s.ensures at c.check_lengths-2.ensures in
    record {
      shape_sound = counted k c.in_ok-check_counts.was;
      network_lengths = network-fits _ (measured c.check_lengths.ensures c.in_ok-check_lengths.was c.network_fits.ensures);
      marks_len = eqb-true _ _ (measured q c.in_ok-check_lengths-2.was refl);
    }
