use mathlib.Core.Path.{sym}
use native.Mathlib.Omega.{arith}
use lib.Seq.{length-take-le}
use borrow.Author.Rules.{rules}
use Rattle.command.proofs.listing.place_read.Goals as goal

pub slice_bounds-list-end : goal.slice_bounds-list-end
slice_bounds-list-end c = rw c.shape-s.ensures (sym (length-take-le _ _ (omega (arith, c.requires.content_sound.small))))

pub slice_bounds-list-end-2 : goal.slice_bounds-list-end-2
slice_bounds-list-end-2 c = rw c.shape-s.ensures (sym (length-take-le _ _ (omega (arith, c.requires.content_sound.small))))

pub list-requires : goal.list-requires
list-requires c = record {
  content_sound = search rules;
  offsets_len = rw c.shape-s.ensures (length-take-le _ _ (omega (arith, c.requires.content_sound.small)), length-take-le _ _ (omega (arith, c.requires.content_sound.small)));
}
