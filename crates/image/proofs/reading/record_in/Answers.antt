-- The record is looked up by its number; every byte of the array is below 256, so good bytes are the image of their store.
-- Assumes nothing.
use mathlib.Core.Path.{refl, ap, ◌∙◌}
use Rattle.image.specs.Images.{cluster_in}
use Rattle.image.proofs.CutLaws.{part_at}
use Rattle.image.proofs.TripLaws.{image_held}
use Rattle.image.proofs.ReadLaws.{record_found_lem}
use Rattle.image.proofs.reading.record_in.Goals as goal

pub returns : goal.returns
returns c = record {
  cluster = record_found_lem c.args.image.now _ _ _ c.record_at-at.ensures
      (c.cluster_in.ensures ∙ ap cluster_in (part_at c.args.image.now c.told-image _ c.as_chunks.ensures.front_len c.as_chunks.ensures.front _ c.record_at-at.ensures.1));
  whole = λ t. image_held c.args.image.now c.told-image (λ i. record { fits = c.fits-image i }) _ refl _ refl t;
}
