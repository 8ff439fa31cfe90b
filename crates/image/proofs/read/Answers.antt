use Rattle.network.proofs.Verdicts.{given}
use Rattle.image.proofs.Passing.{image-long, rows-there, image-refused, read-is, read-refused, read-ready, read-readable, read-lengths, read-passed, are-bytes}
use mathlib.Core.Path.{refl}
use Rattle.image.proofs.read.Goals as goal

pub returns-in_err-check_image : goal.returns-in_err-check_image
returns-in_err-check_image c =
    let v = image-refused _ c.args.ends.now c.args.rays.now c.args.weights.now c.args.scales.now c.args.points.now c.check_image.ensures c.in_err-check_image.was in
    rw (given c.from_residual.ensures.1) (read-refused _ _ _ _ _ _ v refl (are-bytes _ c.type_inv.bytes))

pub shape_at-s-requires : goal.shape_at-s-requires
shape_at-s-requires c = search (image-long, c.in_ok-check_image.was)

pub check_content-requires : goal.check_content-requires
check_content-requires c = search (rows-there, c.in_ok-check_image.was)

pub returns-in_err-check_content : goal.returns-in_err-check_content
returns-in_err-check_content c =
    let v = read-is _ c.args.ends.now c.args.rays.now c.args.weights.now c.args.scales.now c.args.points.now c.check_image.ensures c.in_ok-check_image.was c.shape_at-s.ensures.value c.check_content.ensures in
    rw (given c.from_residual-in_err-check_content.ensures.1) (read-refused _ _ _ _ _ _ v c.in_err-check_content.was (are-bytes _ c.type_inv.bytes))

pub fill-requires : goal.fill-requires
fill-requires c =
    let v = read-is _ c.args.ends.now c.args.rays.now c.args.weights.now c.args.scales.now c.args.points.now c.check_image.ensures c.in_ok-check_image.was c.shape_at-s.ensures.value c.check_content.ensures in
    let R = read-ready _ _ _ _ _ _ v c.in_ok-check_content.was in
    record { content_readable = search read-readable; content_lengths = search read-lengths }

pub returns : goal.returns
returns c =
    let v = read-is _ c.args.ends.now c.args.rays.now c.args.weights.now c.args.scales.now c.args.points.now c.check_image.ensures c.in_ok-check_image.was c.shape_at-s.ensures.value c.check_content.ensures in
    search (read-passed, are-bytes, c.in_ok-check_content.was)
