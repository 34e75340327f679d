-- Document 02, §7, of images, for the copies and the long list of `isolation/specs/WriterLists`, at the product's conversion.
--     calls               the list
--     ran_on c             its run on the image of the copy's store, with its memory
--     end_on c             the store that the image left holds, with the memory left
--     parts_on c, parts    the parts that its looks tell, and what they are: from one address to another
--     WritersImages       on the images of both copies, with their memories, the list gives the answers that are written out, and
--                         its looks tell the same parts; the images left hold stores with equal records 3 and 10, with one table
--                         and one write password of the cluster, and a byte of a segment of each of the others is equal
-- Assumes nothing.
use Rattle.std.specs.Prelude.{◌≡◌, List, [], ◌∷◌, ℕ, get_or}
use Rattle.handle.specs.Conversion.{product}
use Rattle.store.specs.Records.{cluster_at, table_at}
use Rattle.calls.specs.declared.Part.{Part}
use Rattle.calls.specs.Calls.{Copy, Call}
use Rattle.isolation.specs.WriterLists.{ours, theirs, whole_list, answers}
use Rattle.image.specs.Images.{image_of}
use Rattle.gelmuszta.specs.Runs.{RanOn, run_on, places_on, left_on}

abbrev part : ℕ → ℕ → Part
part from to = record { from = from; to = to }

abbrev pub calls : List Call
calls = whole_list product

abbrev pub ran_on : Copy → RanOn
ran_on c = run_on calls (image_of c.store) c.memory

abbrev pub end_on : Copy → Copy
end_on c = left_on calls (image_of c.store) c.memory

abbrev pub parts_on : Copy → List Part
parts_on c = places_on calls (image_of c.store) c.memory

abbrev pub parts : List Part
parts = part 0 0 ∷ part 0 6 ∷ part 4096 4098 ∷ []

pub record WritersImages : Type 0 where
  pub replies_ours : (ran_on ours).replies ≡ answers product
  pub replies_theirs : (ran_on theirs).replies ≡ answers product
  pub parts_ours : parts_on ours ≡ parts
  pub parts_theirs : parts_on theirs ≡ parts
  pub record_3 : cluster_at (end_on ours).store 3 ≡ cluster_at (end_on theirs).store 3
  pub record_10 : cluster_at (end_on ours).store 10 ≡ cluster_at (end_on theirs).store 10
  pub byte_4 : get_or (end_on ours).memory 4 0 ≡ get_or (end_on theirs).memory 4 0
  pub byte_4098 : get_or (end_on ours).memory 4098 0 ≡ get_or (end_on theirs).memory 4098 0
  pub table : table_at (end_on ours).store 2 ≡ table_at (end_on theirs).store 2
  pub write : (cluster_at (end_on ours).store 2).write ≡ (cluster_at (end_on theirs).store 2).write
