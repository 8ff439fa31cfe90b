use Rattle.std.proofs.lemmas.List.{length-take, length-drop}
use Rattle.std.proofs.Common.{◌≡◌, ◌+◌, arith}
use Rattle.stream.specs.Stream.{ReadInto}
use Rattle.stream.proofs.Lemmas.{failed, size_more, kept_more}
use Rattle.stream.proofs.read_all.Goals as goal

pub returns-in_err-count : goal.returns-in_err-count
unfolding ReadInto
returns-in_err-count g c = search (failed, size_more)

pub overflow_add-done : goal.overflow_add-done
unfolding ReadInto
overflow_add-done g c = search (arith, length-take, length-drop, c.in_ok-count.ensures.into)

pub loop-done-preserved : goal.loop-done-preserved
unfolding ReadInto
loop-done-preserved g c = kept_more _ _ _ _ c.loop-done.invariant _ c.in_ok-count.ensures.into

pub returns-after-loop-done : goal.returns-after-loop-done
unfolding ReadInto
returns-after-loop-done g c = c.loop-done.invariant

pub returns-in-0 : goal.returns-in-0
unfolding ReadInto
returns-in-0 g c =
    let q : c.loop-done.done + c.in_ok-count.count ≡ c.loop-done.done = omega arith in
    rw q at (kept_more _ _ _ _ c.loop-done.invariant _ c.in_ok-count.ensures.into)
