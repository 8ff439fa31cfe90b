use Rattle.layout.proofs.Stores.{number-stored}
use Rattle.layout.proofs.put.put_number.Goals as goal

pub returns : goal.returns
returns c =
    let e = c.copy_from_slice.ensures.after in
    number-stored _ _ _ _ _ _ (c.requires.value_in_bounds) c.requires.out_in_bounds c.to_le_bytes.ensures e
