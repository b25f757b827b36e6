-- auxiliary.rs, `Aux::init`: a channel's buffers at the start. Document 01: plane and prior are the upsampled start, saved is
-- level × quantiser over its first w × h places, of a pair of levels its half sum, other values are 0.
use Rattle.std.specs.Prelude.{List, ℕ, ◌*◌, replicate, Float}
use Rattle.float.specs.Names.{f0}
use Rattle.utils.specs.Auxiliary.{upsample_pixels}
use Rattle.start.specs.Buffers.{Buffers}
use Rattle.start.specs.Coef.{Coef, image_of, init_dct_target}
use Rattle.start.specs.declared.coef.Own.{Own}
use Rattle.start.specs.declared.coef.Reorder.{Reorder}

-- init_pixels_into of an image, onto zeros: full sides W and H
unfoldable pub init_pixels : List Float → Own → ℕ → ℕ → List Float
init_pixels image o W H =
    upsample_pixels image o.width o.height o.horizontal o.vertical W H (replicate (W * H) f0)

unfoldable pub aux_init : Reorder → Coef → ℕ → ℕ → Buffers
aux_init R C W H =
    let start = init_pixels (image_of R C) C.own W H in
    let zeros = replicate (W * H) f0 in
    record { plane = start; prior = start; gradient = zeros; across = zeros; down = zeros; saved = init_dct_target C zeros }
