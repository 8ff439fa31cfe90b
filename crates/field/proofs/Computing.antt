-- For examples that are proved by computing: to unfold this is to unfold what vectors and fields are computed with.
use lib.Ieee.{of_bits, add, sub, mul, div, neg, lt, le, is_nan}
use Rattle.field.specs.Vec.{is_finite, plus, minus, scale, over, dot}
use Rattle.field.specs.Count.{upto, field, lowest}
use Rattle.field.specs.Buffer.{get, load, vectors_in}

unfoldable pub vectors : Unit {0}
unfolding of_bits add sub mul div neg lt le is_nan is_finite plus minus scale over dot upto field lowest get load vectors_in
vectors = tt
