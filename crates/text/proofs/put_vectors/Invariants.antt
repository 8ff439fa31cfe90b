use Prim.Native.Nat.{◌*◌}
use Rattle.field.specs.Buffer.{load, vector}
use Rattle.text.specs.Text.{vector_lines}
use Rattle.text.specs.inner.Steps.{Wrote}
use Rattle.text.proofs.put_vectors.Given as goal

abbrev pub invariant-loop-i : goal.invariant-loop-i
invariant-loop-i l = Wrote l.initial.w l.w (vector_lines l.tag (load vector l.s 0 l.i)) (74 * l.i)
